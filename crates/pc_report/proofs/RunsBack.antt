-- Runs are read back from their lines.
use Rattle.std.proofs.Common.{◌≡◌, ℕ, ◌==◌, Bool, true, false, ℤ, pos, negsuc, List, [], ◌∷◌, ◌++◌, length, codes, decimal, All, arith, refl, sym, ap, ap₂, ◌∙◌, append_assoc}
use Rattle.std.specs.Char.{is_ascii_digit}
use Rattle.std.specs.List.{AllZip}
use Rattle.std.proofs.lemmas.Bool.{false≢true, ltb-true}
use Rattle.std.proofs.lemmas.List.{append_cancel_left}
use Rattle.std.proofs.lemmas.List.Elements.{All-head, All-tail}
use Rattle.pc_model.specs.declared.schema.Kind.{Kind}
use Rattle.pc_model.specs.declared.schema.Kind.TheVariants.{Int, Dec, Cat}
use Rattle.pc_model.specs.declared.schema.Column.{Column}
use Rattle.pc_model.specs.declared.schema.Schema.{Schema}
use Rattle.pc_model.specs.declared.row.Run.{Run}
use Rattle.pc_model.specs.Places.{is_below}
use Rattle.pc_model.specs.WellFormed.{AreValues, IsColumn, IsKind, IsWellFormed}
use Rattle.pc_lang_tokens.specs.Lexing.{goes_on_name}
use Rattle.pc_report.specs.RunLines.{field_text, fields_text, name_at, next_fields_text, run_line, run_lines}
use Rattle.pc_report.specs.Shown.{AreShownRuns, IsCell, IsCellOf, IsShownRun}
use Rattle.pc_report.proofs.NamesBack.{name_back, same_place}
use Rattle.pc_report.proofs.NumbersBack.{decimal_back, scaled_back}
use Rattle.pc_report.proofs.Stops.{same_tail, starts, unlike_starts}

-- ---- fields

record EndsField (r : List ℕ) : Type 0 where
  digit : starts is_ascii_digit r ≡ false
  name : goes_on_name r ≡ false

pub place_back : (names : List (List ℕ)) (x y : ℤ) → AreValues names → is_below (length names) x ≡ true → is_below (length names) y ≡ true → name_at names x ≡ name_at names y → x ≡ y
place_back names (pos i) (pos j) are inside within e =
    ap pos (same_place names [] i j are.own.different (ltb-true i (length names) inside) (ltb-true j (length names) within) e)
place_back names (negsuc i) y are inside within e = absurd (false≢true inside)
place_back names (pos i) (negsuc j) are inside within e = absurd (false≢true within)

field_back : (kind : Kind) (x y : ℤ) (r s : List ℕ) → IsKind kind → IsCell kind x → IsCell kind y → EndsField r → EndsField s → field_text kind x ++ r ≡ field_text kind y ++ s → (x ≡ y) × (r ≡ s)
unfolding field_text
field_back (Int low high) x y r s is small less stop end e = scaled_back 0 x y r s (omega (arith, small)) (omega (arith, less)) stop.digit end.digit e
field_back (Dec scale low high) x y r s is small less stop end e = scaled_back scale x y r s (omega (arith, small)) (omega (arith, less)) stop.digit end.digit e
field_back (Cat names) x y r s is inside within stop end e =
    let both = name_back (name_at names x) (name_at names y) r s stop.name end.name e in
    (place_back names x y is inside within both.0, both.1)

next_ends : (columns : List Column) (cells : List ℤ) (r : List ℕ) → EndsField (next_fields_text columns cells ++ 10 ∷ r)
unfolding next_fields_text
next_ends [] cells r = record { digit = refl; name = refl }
next_ends (column ∷ columns) [] r = record { digit = refl; name = refl }
next_ends (column ∷ columns) (cell ∷ cells) r = record { digit = refl; name = refl }

next_opens : (column : Column) (columns : List Column) (cell : ℤ) (cells : List ℤ) (r : List ℕ) → next_fields_text (column ∷ columns) (cell ∷ cells) ++ r ≡ codes ", " ++ (field_text column.kind cell ++ (next_fields_text columns cells ++ r))
unfolding next_fields_text
next_opens column columns cell cells r =
    append_assoc (codes ", " ++ field_text column.kind cell) (next_fields_text columns cells) r
    ∙ append_assoc (codes ", ") (field_text column.kind cell) (next_fields_text columns cells ++ r)

next_back : (columns : List Column) (xs ys : List ℤ) (r s : List ℕ) → All IsColumn columns → AllZip IsCellOf columns xs → AllZip IsCellOf columns ys → next_fields_text columns xs ++ 10 ∷ r ≡ next_fields_text columns ys ++ 10 ∷ s → (xs ≡ ys) × (r ≡ s)
unfolding next_fields_text
next_back [] [] [] r s are cells others e = (refl, same_tail 10 10 r s e)
next_back [] (x ∷ xs) ys r s are cells others e = absurd cells
next_back [] [] (y ∷ ys) r s are cells others e = absurd others
next_back (column ∷ columns) [] ys r s are cells others e = absurd cells
next_back (column ∷ columns) (x ∷ xs) [] r s are cells others e = absurd others
next_back (column ∷ columns) (x ∷ xs) (y ∷ ys) r s are cells others e =
    let opened = append_cancel_left (codes ", ") _ _ (sym (next_opens column columns x xs (10 ∷ r)) ∙ e ∙ next_opens column columns y ys (10 ∷ s)) in
    let first = field_back column.kind x y _ _ (All-head IsColumn column columns are).kind cells.0 others.0 (next_ends columns xs r) (next_ends columns ys s) opened in
    let rest = next_back columns xs ys r s (All-tail IsColumn column columns are) cells.1 others.1 first.1 in
    (ap₂ (λ (cell : ℤ) (more : List ℤ). cell ∷ more) first.0 rest.0, rest.1)

fields_back : (columns : List Column) (xs ys : List ℤ) (r s : List ℕ) → All IsColumn columns → AllZip IsCellOf columns xs → AllZip IsCellOf columns ys → fields_text columns xs ++ 10 ∷ r ≡ fields_text columns ys ++ 10 ∷ s → (xs ≡ ys) × (r ≡ s)
fields_back [] [] [] r s are cells others e = (refl, same_tail 10 10 r s e)
fields_back [] (x ∷ xs) ys r s are cells others e = absurd cells
fields_back [] [] (y ∷ ys) r s are cells others e = absurd others
fields_back (column ∷ columns) [] ys r s are cells others e = absurd cells
fields_back (column ∷ columns) (x ∷ xs) [] r s are cells others e = absurd others
fields_back (column ∷ columns) (x ∷ xs) (y ∷ ys) r s are cells others e =
    let opened : field_text column.kind x ++ (next_fields_text columns xs ++ 10 ∷ r) ≡ field_text column.kind y ++ (next_fields_text columns ys ++ 10 ∷ s)
    = sym (append_assoc (field_text column.kind x) (next_fields_text columns xs) (10 ∷ r)) ∙ e ∙ append_assoc (field_text column.kind y) (next_fields_text columns ys) (10 ∷ s) in
    let first = field_back column.kind x y _ _ (All-head IsColumn column columns are).kind cells.0 others.0 (next_ends columns xs r) (next_ends columns ys s) opened in
    let rest = next_back columns xs ys r s (All-tail IsColumn column columns are) cells.1 others.1 first.1 in
    (ap₂ (λ (cell : ℤ) (more : List ℤ). cell ∷ more) first.0 rest.0, rest.1)

-- ---- runs

five_parts : (a b c d e r : List ℕ) → ((((a ++ b) ++ c) ++ d) ++ e) ++ r ≡ a ++ (b ++ (c ++ (d ++ (e ++ r))))
five_parts a b c d e r = rw (append_assoc (((a ++ b) ++ c) ++ d) e r, append_assoc ((a ++ b) ++ c) d (e ++ r), append_assoc (a ++ b) c (d ++ (e ++ r))) (append_assoc a b (c ++ (d ++ (e ++ r))))

run_opens : (schema : Schema) (run : Run) (r : List ℕ) → run_line schema run ++ r ≡ codes "run " ++ (decimal run.times ++ (codes ": " ++ (fields_text schema.columns run.row.cells ++ 10 ∷ r)))
unfolding run_line
run_opens schema run r = five_parts (codes "run ") (decimal run.times) (codes ": ") (fields_text schema.columns run.row.cells) (10 ∷ []) r

same_run : (x y : Run) → x.times ≡ y.times → x.row.cells ≡ y.row.cells → x ≡ y
same_run x y times cells = ap₂ (λ (number : ℕ) (list : List ℤ). record { times = number; row = record { cells = list } }) times cells

run_back : (schema : Schema) (x y : Run) (r s : List ℕ) → IsWellFormed schema → IsShownRun schema x → IsShownRun schema y → run_line schema x ++ r ≡ run_line schema y ++ s → (x ≡ y) × (r ≡ s)
run_back schema x y r s formed is other e =
    let few = is.few in
    let less = other.few in
    let opened = append_cancel_left (codes "run ") _ _ (sym (run_opens schema x r) ∙ e ∙ run_opens schema y s) in
    let times = decimal_back x.times y.times _ _ (omega (arith, few)) (omega (arith, less)) refl refl opened in
    let cells = fields_back schema.columns x.row.cells y.row.cells r s formed.columns.all is.cells other.cells (append_cancel_left (codes ": ") _ _ times.1) in
    (same_run x y times.0 cells.0, cells.1)

-- the byte that a line of a run begins with
abbrev pub is_r : ℕ → Bool
is_r byte = byte == 114

lines_open : (schema : Schema) (run : Run) (runs : List Run) (r : List ℕ) → run_lines schema (run ∷ runs) ++ r ≡ run_line schema run ++ (run_lines schema runs ++ r)
unfolding run_lines
lines_open schema run runs r = append_assoc (run_line schema run) (run_lines schema runs) r

lines_start : (schema : Schema) (run : Run) (runs : List Run) (r : List ℕ) → starts is_r (run_lines schema (run ∷ runs) ++ r) ≡ true
unfolding run_lines run_line
lines_start schema run runs r = refl

no_lines : (schema : Schema) (r : List ℕ) → run_lines schema [] ++ r ≡ r
unfolding run_lines
no_lines schema r = refl

pub runs_back : (schema : Schema) (xs ys : List Run) (r s : List ℕ) → IsWellFormed schema → AreShownRuns schema xs → AreShownRuns schema ys → starts is_r r ≡ false → starts is_r s ≡ false → run_lines schema xs ++ r ≡ run_lines schema ys ++ s → (xs ≡ ys) × (r ≡ s)
runs_back schema [] [] r s formed are others stop end e = (refl, sym (no_lines schema r) ∙ e ∙ no_lines schema s)
runs_back schema [] (y ∷ ys) r s formed are others stop end e = absurd (unlike_starts is_r _ _ (sym (no_lines schema r) ∙ e) stop (lines_start schema y ys s))
runs_back schema (x ∷ xs) [] r s formed are others stop end e = absurd (unlike_starts is_r _ _ (sym (no_lines schema s) ∙ sym e) end (lines_start schema x xs r))
runs_back schema (x ∷ xs) (y ∷ ys) r s formed are others stop end e =
    let first = run_back schema x y _ _ formed (All-head (IsShownRun schema) x xs are) (All-head (IsShownRun schema) y ys others) (sym (lines_open schema x xs r) ∙ e ∙ lines_open schema y ys s) in
    let rest = runs_back schema xs ys r s formed (All-tail (IsShownRun schema) x xs are) (All-tail (IsShownRun schema) y ys others) stop end first.1 in
    (ap₂ (λ (run : Run) (runs : List Run). run ∷ runs) first.0 rest.0, rest.1)
