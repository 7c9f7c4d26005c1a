-- Each text fits into its column.
use Rattle.std.specs.Prelude.{max}
use Rattle.std.proofs.Common.{ℕ, ◌≤◌, List, [], ◌∷◌, fold, All, arith}
use Rattle.std.proofs.lemmas.List.Elements.{All-cons, All-nil}
use Rattle.pc_desk_table.specs.declared.columns.Column.{Column}
use Rattle.pc_desk_table.specs.declared.entry.Entry.{Entry}
use Rattle.pc_desk_table.specs.Lines.{cell, text_width, title, wider, widest}

-- a width does not fall
grows : (column : Column) (width : ℕ) (entries : List Entry) → width ≤ fold (wider column) width entries
grows column width [] = omega arith
grows column width (entry ∷ rest) =
    let more = grows column (max width (text_width (cell column entry))) rest in
    omega arith

fit : (column : Column) (width : ℕ) (entries : List Entry) → All (λ entry. text_width (cell column entry) ≤ fold (wider column) width entries) entries
fit column width [] = All-nil (λ entry. text_width (cell column entry) ≤ width)
fit column width (entry ∷ rest) =
    let more = grows column (max width (text_width (cell column entry))) rest in
    All-cons (λ shown. text_width (cell column shown) ≤ fold (wider column) (max width (text_width (cell column entry))) rest) entry rest (omega arith) (fit column (max width (text_width (cell column entry))) rest)

pub texts_fit : (column : Column) (entries : List Entry) → (text_width (title column) ≤ widest column entries) × All (λ entry. text_width (cell column entry) ≤ widest column entries) entries
texts_fit column entries = (grows column (text_width (title column)) entries, fit column (text_width (title column)) entries)
