-- The rows of runs that were made of one row of each cell, counted by cell.
use Rattle.std.proofs.Common.{◌≡◌, ℕ, zero, suc, ◌+◌, Bool, true, false, cond, List, [], ◌∷◌, ◌++◌, length, map, replicate, All, AllPairs, refl, sym, ap, ap₂, ◌∙◌, true≢false, arith}
use Rattle.std.specs.List.{AllZip}
use Rattle.std.proofs.lemmas.Bool.{cond-false, cond-true, false_from_ne_true}
use Rattle.std.proofs.lemmas.List.Elements.{All-head, All-tail}
use Rattle.pc_model.specs.declared.row.Row.{Row}
use Rattle.pc_model.specs.declared.area.Area.{Area}
use Rattle.pc_model.specs.declared.constraint.Constraint.{Constraint}
use Rattle.pc_model.specs.Runs.{rows_of, runs_from}
use Rattle.pc_model.specs.Cells.{Class, class_of, is_class, IsRowOf}
use Rattle.pc_model.proofs.Lists.{AllPairs-head, AllPairs-tail}
use Rattle.pc_model.proofs.Tallies.{count_by-cons}
use Rattle.pc_cells_laws.proofs.Cells.{classes_of-differ}
use Rattle.pc_cells_laws.proofs.Classes.{is_class-from_same, is_class-turned}
use Rattle.pc_program_bound.specs.CellPrograms.{count_in}
use Rattle.pc_witness.proofs.Zipped.{AllZip-weaker}
use Rattle.pc_proof.specs.Setting.{Setting, area_of, leaves, cells}
use Rattle.pc_branch_licences.specs.Shown.{counts_of_runs}

-- ---- sums of counts

none_more : (test : Bool) (m : ℕ) → m ≡ cond test 0 0 + m
none_more true m = omega arith
none_more false m = omega arith

one_more : (test : Bool) (n m : ℕ) → cond test 1 0 + (cond test n 0 + m) ≡ cond test (suc n) 0 + m
one_more true n m = omega arith
one_more false n m = omega arith

map-same : {X : Type 0} (f g : X → ℕ) (xs : List X) → All (λ x. f x ≡ g x) xs → map f xs ≡ map g xs
map-same f g [] same = refl
map-same f g (x ∷ xs) same = ap₂ (λ y ys. y ∷ ys) (All-head (λ z. f z ≡ g z) x xs same) (map-same f g xs (All-tail (λ z. f z ≡ g z) x xs same))

-- ---- the rows of a cell

abbrev Differ : Class → Class → Type 0
Differ a b = is_class a b ≡ false

differ-turned : (a b : Class) → Differ a b → Differ b a
differ-turned a b differ = false_from_ne_true (is_class b a) (λ same. true≢false (sym (is_class-turned b a same) ∙ differ))

module _ (constraints : List Constraint) (chosen : Area) where
  -- each row has the class at its place
  abbrev IsPicked : Class → Row → Type 0
  IsPicked class row = class_of constraints chosen row ≡ class

  abbrev count_of : List Row → List ℕ → Class → ℕ
  count_of picks counts class = count_in constraints chosen (rows_of (runs_from picks counts)) class

  -- a row that stands n times
  count-replicate : (n : ℕ) (row : Row) (rows : List Row) (class : Class) →
      count_in constraints chosen (replicate n row ++ rows) class ≡ cond (is_class (class_of constraints chosen row) class) n 0 + count_in constraints chosen rows class
  count-replicate zero row rows class = none_more (is_class (class_of constraints chosen row) class) (count_in constraints chosen rows class)
  count-replicate (suc n) row rows class =
      count_by-cons (λ (r : Row). is_class (class_of constraints chosen r) class) row (replicate n row ++ rows)
      ∙ ap (λ later. cond (is_class (class_of constraints chosen row) class) 1 0 + later) (count-replicate n row rows class)
      ∙ one_more (is_class (class_of constraints chosen row) class) n (count_in constraints chosen rows class)

  -- the rows of the first cell, and those of the others
  count-cons : (row : Row) (picks : List Row) (n : ℕ) (counts : List ℕ) (class : Class) →
      count_of (row ∷ picks) (n ∷ counts) class ≡ cond (is_class (class_of constraints chosen row) class) n 0 + count_of picks counts class
  unfolding rows_of
  count-cons row picks zero counts class = none_more (is_class (class_of constraints chosen row) class) (count_of picks counts class)
  count-cons row picks (suc n) counts class = count-replicate (suc n) row (rows_of (runs_from picks counts)) class

  -- a class that differs from the first one has no rows there
  count-skips : (first : Class) (row : Row) (picks : List Row) (n : ℕ) (counts : List ℕ) (class : Class) → IsPicked first row → Differ first class →
      count_of (row ∷ picks) (n ∷ counts) class ≡ count_of picks counts class
  count-skips first row picks n counts class picked differ =
      let other = cond-false {A = ℕ} (is_class (class_of constraints chosen row) class) n 0 (ap (λ c. is_class c class) picked ∙ differ) in
      omega (arith, count-cons row picks n counts class, other)

  count-first : (first : Class) (row : Row) (picks : List Row) (n : ℕ) (counts : List ℕ) → IsPicked first row → count_of picks counts first ≡ 0 →
      count_of (row ∷ picks) (n ∷ counts) first ≡ n
  count-first first row picks n counts picked none =
      let here = cond-true {A = ℕ} (is_class (class_of constraints chosen row) first) n 0 (is_class-from_same (class_of constraints chosen row) first picked) in
      omega (arith, count-cons row picks n counts first, here, none)

  -- a class that differs from all has no rows
  count-none : (class : Class) (classes : List Class) (picks : List Row) (counts : List ℕ) → AllZip IsPicked classes picks → All (Differ class) classes → count_of picks counts class ≡ 0
  unfolding rows_of
  count-none class [] [] counts paired differ = refl
  count-none class [] (row ∷ picks) counts paired differ = absurd paired
  count-none class (c ∷ classes) [] counts paired differ = absurd paired
  count-none class (c ∷ classes) (row ∷ picks) [] paired differ = refl
  count-none class (c ∷ classes) (row ∷ picks) (n ∷ counts) paired differ =
      count-skips c row picks n counts class paired.0 (differ-turned class c (All-head (Differ class) c classes differ))
      ∙ count-none class classes picks counts paired.1 (All-tail (Differ class) c classes differ)

  counts-from : (classes : List Class) (picks : List Row) (counts : List ℕ) → AllZip IsPicked classes picks → AllPairs Differ classes → length counts ≡ length classes →
      map (count_of picks counts) classes ≡ counts
  counts-from [] picks [] paired differ sized = refl
  counts-from [] picks (n ∷ counts) paired differ sized = absurd (omega arith)
  counts-from (c ∷ classes) [] counts paired differ sized = absurd paired
  counts-from (c ∷ classes) (row ∷ picks) [] paired differ sized = absurd (omega arith)
  counts-from (c ∷ classes) (row ∷ picks) (n ∷ counts) paired differ sized =
      let others = AllPairs-head Differ c classes differ in
      ap₂ (λ m later. m ∷ later) (count-first c row picks n counts paired.0 (count-none c classes picks counts paired.1 others))
      (map-same (count_of (row ∷ picks) (n ∷ counts)) (count_of picks counts) classes (λ place d inside. count-skips c row picks n counts _ paired.0 (others place d inside))
      ∙ counts-from classes picks counts paired.1 (AllPairs-tail Differ c classes differ) (omega arith))

pub runs-counted : (s : Setting) (picks : List Row) (counts : List ℕ) → AllZip (IsRowOf s.question.schema s.question.constraints (area_of s.question)) (cells s) picks →
    length counts ≡ length (cells s) → counts_of_runs s (runs_from picks counts) ≡ counts
runs-counted s picks counts each sized =
    counts-from s.question.constraints (area_of s.question) (cells s) picks counts
    (AllZip-weaker (IsRowOf s.question.schema s.question.constraints (area_of s.question)) (λ class row. class_of s.question.constraints (area_of s.question) row ≡ class)
    (λ class row is. is.of_class) (cells s) picks each)
    (classes_of-differ (leaves s)) sized
