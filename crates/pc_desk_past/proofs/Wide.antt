-- Rows of the domain have a number for each column.
use Rattle.std.proofs.Common.{◌≡◌, ℤ, true, true≢false, List, [], ◌∷◌, get_or, length, None, refl, sym, arith}
use Rattle.std.proofs.lemmas.Bool.{and_parts}
use Rattle.std.specs.Cmp.Lexicographic.{pointwise}
use Rattle.std.specs.List.{AllPass}
use Rattle.pc_model.specs.declared.query.Query.{Query}
use Rattle.pc_model.specs.declared.row.Row.{Row}
use Rattle.pc_model.specs.declared.schema.Column.{Column}
use Rattle.pc_model.specs.declared.schema.Schema.{Schema}
use Rattle.pc_model.specs.Aggregate.{kept}
use Rattle.pc_model.specs.Membership.{allows, in_domain}
use Rattle.pc_desk_history.specs.Draft.{AreWide}

as_many : (columns : List Column) (cells : List ℤ) → pointwise (λ (column : Column). allows column.kind) columns cells ≡ true → length cells ≡ length columns
as_many [] [] allowed = refl
as_many [] (n ∷ cells) allowed = absurd (true≢false (sym allowed))
as_many (column ∷ columns) [] allowed = absurd (true≢false (sym allowed))
as_many (column ∷ columns) (n ∷ cells) allowed =
    let rest = as_many columns cells (and_parts (allows column.kind n) (pointwise (λ (c : Column). allows c.kind) columns cells) allowed).1 in omega arith

row_is_wide : (schema : Schema) (row : Row) → in_domain schema row ≡ true → length row.cells ≡ length schema.columns
unfolding in_domain
row_is_wide schema row inside = as_many schema.columns row.cells inside

pub rows_are_wide : (schema : Schema) (rows : List Row) → AllPass (in_domain schema) rows → AreWide schema rows
rows_are_wide schema rows inside = λ i d below. row_is_wide schema (get_or rows i d) (inside i d below)

-- of no rows none is kept
pub none_kept : (query : Query) (rows : List Row) → length rows ≡ 0 → length (kept query None rows) ≡ 0
none_kept query [] none = refl
none_kept query (row ∷ rows) none = let no : ⊥ = omega (arith, none) in absurd no
