-- Each class takes as much room as it serves needs, just where each row that can be lost does.
use Rattle.std.proofs.Common.{◌≡◌, ◌∙◌, ℕ, suc, ◌+◌, ◌<◌, ℤ, pos, ◌+ℤ◌, ◌≤ℤ◌, int_le, Bool, true, false, cond, List, [], ◌∷◌, All, count_by, get_or, length, map, refl, sym, ap, ap₂, arith, eqb-true, nat_lt, IfSome, Option, Some, None}
use Rattle.std.specs.List.{enumerate_from, list_all}
use Rattle.std.proofs.lemmas.Bool.{and_from, and_parts}
use Rattle.std.proofs.lemmas.Int.{ints}
use Rattle.std.proofs.lemmas.List.Elements.{All-head, All-tail}
use Rattle.pc_model.specs.declared.constraint.Constraint.{Constraint}
use Rattle.pc_model.specs.declared.row.Row.{Row}
use Rattle.pc_model.specs.declared.schema.Schema.{Schema}
use Rattle.pc_model.specs.Aggregate.{int_sum}
use Rattle.pc_model.specs.Cells.{mask_of}
use Rattle.pc_model.proofs.Tallies.{count_by-skips}
use Rattle.pc_box.proofs.Rows.{row_of_box}
use Rattle.pc_cells_laws.proofs.Masks.{mask_of-bit}
use Rattle.pc_program_bound.specs.Parts.{taken}
use Rattle.pc_program_bound.specs.Sums.{int_at, sum_below}
use Rattle.pc_program_bound.proofs.SumBelow.{sum_below-front, sum_below-same, sum_below-zero}
use Rattle.pc_desk_try.specs.declared.opening.Opening.{Opening}
use Rattle.pc_desk_try.specs.Openings.{AreOpenings, CanBeLost, IsOpening, opens_to}
use Rattle.pc_desk_short.specs.declared.shortage.Shortage.{Shortage}
use Rattle.pc_desk_short.specs.Shortage.{IsShort, class_weight, is_served, needed, room, short_by, shortage_of, weight_at, weight_of}

-- ---- a sum over constraints with their places, and over places

entries_sum : (f : ℕ × Constraint → ℤ) (g : ℕ → ℤ) (cs : List Constraint) (n : ℕ) → ((k : ℕ) (d : Constraint) → k < length cs → f (n + k, get_or cs k d) ≡ g (n + k))
    → int_sum (map f (enumerate_from n cs)) ≡ sum_below (length cs) (λ k. g (n + k))
entries_sum f g [] n same = sym (sum_below-zero (λ k. g (n + k)))
entries_sum f g (c ∷ cs) n same =
    let here : n ≡ n + 0 = omega arith in
    let first = ap (λ (k : ℕ). f (k, c)) here ∙ same 0 c (omega arith) in
    let later = entries_sum f g cs (n + 1) (λ k d inside.
    let e : n + 1 + k ≡ n + suc k = omega arith in
    ap (λ (j : ℕ). f (j, get_or cs k d)) e ∙ same (suc k) d (omega (arith, inside)) ∙ ap g (sym e)) in
    let moved = sum_below-same (length cs) (λ k. g (n + 1 + k)) (λ k. g (n + suc k)) (λ k inside. let e : n + 1 + k ≡ n + suc k = omega arith in ap g e) in
    ap₂ (λ (x y : ℤ). x +ℤ y) first (later ∙ moved) ∙ sym (sum_below-front (length cs) (λ k. g (n + k)))

module _ (constraints : List Constraint) (weights : List ℤ) (long : length weights ≡ length constraints) where
  pub weight_is : (row : Row) → weight_of constraints weights row ≡ class_weight (mask_of constraints row) weights
  weight_is row =
      let mask = mask_of constraints row in
      let same = λ (k : ℕ) (d : Constraint) (inside : k < length constraints).
      let e : 0 + k ≡ k = omega arith in
      ap (λ (j : ℕ). weight_at constraints weights row (j, get_or constraints k d)) e
      ∙ ap (λ (test : Bool). cond test (int_at weights k) (pos 0)) (sym (mask_of-bit constraints row k d inside))
      ∙ ap (taken mask weights) (sym e) in
      entries_sum (weight_at constraints weights row) (taken mask weights) constraints 0 same
      ∙ sum_below-same (length constraints) (λ k. taken mask weights (0 + k)) (taken mask weights) (λ k inside. let e : 0 + k ≡ k = omega arith in ap (taken mask weights) e)
      ∙ ap (λ (n : ℕ). sum_below n (taken mask weights)) (sym long)

-- ---- the class of a row

-- of openings that all pass, one is of the row
one_passes : (opens passes : Opening → Bool) (openings : List Opening) → count_by opens openings ≡ 1 → list_all passes openings ≡ true
    → (R : Type 0) → ((opening : Opening) → opens opening ≡ true → passes opening ≡ true → R) → R
one_passes opens passes [] one all R found = absurd (none one)
  where
    none : 0 ≡ suc 0 → ⊥
    none e = omega (arith, e)
one_passes opens passes (opening ∷ openings) one all R found =
    by (opens opening) refl (λ other. one_passes opens passes openings (sym (count_by-skips opens opening openings other) ∙ one) (and_parts (passes opening) (list_all passes openings) all).1 R found)
  where
    by : (test : Bool) → opens opening ≡ test → (opens opening ≡ false → R) → R
    by true here later = found opening here (and_parts (passes opening) (list_all passes openings) all).0
    by false other later = later other

not_below : (x : ℤ) → int_le (pos 0) x ≡ true → pos 0 ≤ℤ x
not_below x is = grind (arith, ints, is)

is_not_below : (x : ℤ) → pos 0 ≤ℤ x → int_le (pos 0) x ≡ true
is_not_below x is = grind (arith, ints, is)

module _ (schema : Schema) (constraints : List Constraint) (weights : List ℤ) (long : length weights ≡ length constraints) where
  abbrev IsServed : Row → Type 0
  IsServed row = pos 0 ≤ℤ weight_of constraints weights row

  pub rows_served : (openings : List Opening) → AreOpenings schema constraints openings → list_all (is_served weights) openings ≡ true
      → (row : Row) → CanBeLost schema constraints row → IsServed row
  rows_served openings are all row lost =
      one_passes (opens_to constraints row) (is_served weights) openings (are.one row lost) all (IsServed row) (λ opening opens passes.
      rw (weight_is constraints weights long row, ← eqb-true opening.mask (mask_of constraints row) opens) (not_below (class_weight opening.mask weights) passes))

  opening_served : ((row : Row) → CanBeLost schema constraints row → IsServed row) → (opening : Opening) → IsOpening schema constraints opening → is_served weights opening ≡ true
  opening_served served opening is =
      let found = row_of_box opening.region is.filled in
      let inside = is.rows found.0 found.1 in
      let mask = eqb-true opening.mask (mask_of constraints found.0) inside.1 in
      is_not_below (class_weight opening.mask weights) (rw (mask, ← weight_is constraints weights long found.0) (served found.0 inside.0))

  pub all_served : (openings : List Opening) → All (IsOpening schema constraints) openings → ((row : Row) → CanBeLost schema constraints row → IsServed row)
      → list_all (is_served weights) openings ≡ true
  all_served [] are served = refl
  all_served (opening ∷ openings) are served =
      and_from _ _ (opening_served served opening (All-head (IsOpening schema constraints) opening openings are))
      (all_served openings (All-tail (IsOpening schema constraints) opening openings are) served)

-- ---- what is found

pub short_found : (schema : Schema) (constraints : List Constraint) (weights : List ℤ) → ((row : Row) → CanBeLost schema constraints row → pos 0 ≤ℤ weight_of constraints weights row)
    → (found : Option Shortage) → found ≡ short_by constraints weights → IfSome found (λ _. IsShort schema constraints weights)
short_found schema constraints weights served found e = rw e (by (nat_lt (room constraints weights) (needed constraints weights)) refl)
  where
    by : (test : Bool) → nat_lt (room constraints weights) (needed constraints weights) ≡ test → IfSome (cond test (Some (shortage_of constraints weights)) None) (λ _. IsShort schema constraints weights)
    by true less = record { served = served; short = grind (arith, less) }
    by false less = tt
