-- No more rows of a possible list are in a cell than its cap.
use Rattle.std.proofs.Common.{◌≡◌, ◌≢◌, ℕ, zero, suc, ◌/◌, ◌<◌, ◌≤◌, min, Bool, true, false, cond, List, [], ◌∷◌, length, map, get_or, All, count_by, fold, ◌⊎◌, inl, inr, refl, sym, ap, subst, ◌∙◌, arith}
use Rattle.std.specs.Prelude.{unwrap_or}
use Rattle.std.specs.List.{AllPass, reduce}
use Rattle.std.proofs.lemmas.List.Elements.{All-head, All-tail, All-nil, All-cons, All-map}
use Rattle.std.proofs.lemmas.List.Folds.{Any-from_list_any}
use Rattle.pc_model.specs.declared.row.Row.{Row}
use Rattle.pc_model.specs.declared.area.Area.{Area}
use Rattle.pc_model.specs.declared.constraint.Constraint.{Constraint}
use Rattle.pc_model.specs.Membership.{is_under}
use Rattle.pc_model.specs.Places.{has_bit}
use Rattle.pc_model.specs.Possible.{is_covered, Meets}
use Rattle.pc_model.specs.Cells.{Class, class_of, mask_of, is_class}
use Rattle.pc_cells_laws.proofs.Masks.{later_bit, mask_of-bit}
use Rattle.pc_cells_laws.proofs.Classes.{is_class-same}
use Rattle.pc_program_bound.specs.CellPrograms.{members, cap_of, count_in}
use Rattle.pc_model.proofs.Tallies.{count_by-skips}
use Rattle.pc_proof.proofs.RowSums.{count_by-weaker}

-- ---- the least of numbers

fold_at_least : (n first : ℕ) (numbers : List ℕ) → n ≤ first → All (λ m. n ≤ m) numbers → n ≤ fold min first numbers
fold_at_least n first [] small all = small
fold_at_least n first (m ∷ numbers) small all =
    let next = All-head (λ k. n ≤ k) m numbers all in
    fold_at_least n (min first m) numbers (omega arith) (All-tail (λ k. n ≤ k) m numbers all)

least_at_least : (n : ℕ) (numbers : List ℕ) → numbers ≢ [] → All (λ m. n ≤ m) numbers → n ≤ unwrap_or (reduce min numbers) 0
least_at_least n [] some all = absurd (some refl)
least_at_least n (first ∷ numbers) some all = fold_at_least n first numbers (All-head (λ k. n ≤ k) first numbers all) (All-tail (λ k. n ≤ k) first numbers all)

map_some : (cs : List Constraint) → cs ≢ [] → map (λ (c : Constraint). c.most) cs ≢ []
map_some [] some = λ same. some refl
map_some (c ∷ cs) some = λ same. absurd (omega (arith, ap length same))

-- ---- the constraints of a mask

members_all : (P : Constraint → Type 0) (mask : ℕ) (cs : List Constraint) → ((place : ℕ) (d : Constraint) → place < length cs → has_bit mask place ≡ true → P (get_or cs place d)) →
    All P (members mask cs)
members_all P mask [] each = All-nil P
members_all P mask (c ∷ cs) each =
    by_bit (has_bit mask 0) (λ set. each 0 c (omega arith) set) (members_all P (mask / 2) cs (λ place d inside set. each (suc place) d (omega arith) (later_bit mask place ∙ set)))
  where
    by_bit : (bit : Bool) → (bit ≡ true → P c) → All P (members (mask / 2) cs) → All P (cond bit (c ∷ members (mask / 2) cs) (members (mask / 2) cs))
    by_bit true first later = All-cons P c (members (mask / 2) cs) (first refl) later
    by_bit false first later = later

-- a mask with a bit has a constraint
members_some : (mask : ℕ) (cs : List Constraint) (place : ℕ) → place < length cs → has_bit mask place ≡ true → members mask cs ≢ []
members_some mask [] place inside set = absurd (omega arith)
members_some mask (c ∷ cs) zero inside set = λ none. cons_is_some (sym (ap (λ bit. cond bit (c ∷ members (mask / 2) cs) (members (mask / 2) cs)) set) ∙ none)
  where
    cons_is_some : c ∷ members (mask / 2) cs ≢ []
    cons_is_some same = absurd (omega (arith, ap length same))
members_some mask (c ∷ cs) (suc place) inside set = by_bit (has_bit mask 0) (members_some (mask / 2) cs place (omega arith) (sym (later_bit mask place) ∙ set))
  where
    by_bit : (bit : Bool) → members (mask / 2) cs ≢ [] → cond bit (c ∷ members (mask / 2) cs) (members (mask / 2) cs) ≢ []
    by_bit true later = λ same. absurd (omega (arith, ap length same))
    by_bit false later = later

members_of_covered : (constraints : List Constraint) (row : Row) → is_covered constraints row ≡ true → members (mask_of constraints row) constraints ≢ []
members_of_covered constraints row covered =
    let found = Any-from_list_any (λ (c : Constraint). is_under constraints c row) constraints covered in
    members_some (mask_of constraints row) constraints found.0 found.2
    (mask_of-bit constraints row found.0 found.1 found.2 ∙ ap (λ (c : Constraint). is_under constraints c row) found.3 ∙ found.4)

-- ---- the rows of a cell

-- a row of the class is under each of its constraints
under_member : (constraints : List Constraint) (chosen : Area) (class : Class) (row : Row) (place : ℕ) (d : Constraint) → place < length constraints →
    has_bit class.mask place ≡ true → is_class (class_of constraints chosen row) class ≡ true → is_under constraints (get_or constraints place d) row ≡ true
under_member constraints chosen class row place d inside set same =
    sym (mask_of-bit constraints row place d inside) ∙ ap (λ (c : Class). has_bit c.mask place) (is_class-same (class_of constraints chosen row) class same) ∙ set

module _ (constraints : List Constraint) (chosen : Area) (class : Class) where
  abbrev of_class : Row → Bool
  of_class row = is_class (class_of constraints chosen row) class

  -- the constraints of the class, and the `most` of each
  abbrev own : List Constraint
  own = members class.mask constraints

  abbrev mosts : List ℕ
  mosts = map (λ (c : Constraint). c.most) own

  few_in_cell : (rows : List Row) → All (λ (c : Constraint). Meets constraints c rows) constraints → All (λ (most : ℕ). count_by of_class rows ≤ most) mosts
  few_in_cell rows meets =
      All-map (λ (most : ℕ). count_by of_class rows ≤ most) (λ (c : Constraint). c.most) own
      (members_all (λ (c : Constraint). count_by of_class rows ≤ c.most) class.mask constraints at_member)
    where
      at_member : (place : ℕ) (d : Constraint) → place < length constraints → has_bit class.mask place ≡ true → count_by of_class rows ≤ (get_or constraints place d).most
      at_member place d inside set =
          let under = λ (row : Row) (same : of_class row ≡ true). under_member constraints chosen class row place d inside set same in
          let few = count_by-weaker of_class (is_under constraints (get_or constraints place d)) rows under in
          omega (arith, few, (meets place d inside).not_more)

  -- a cell with a row has a constraint
  cell_of_row : (rows : List Row) → AllPass (is_covered constraints) rows → (count_by of_class rows ≡ 0) ⊎ (own ≢ [])
  cell_of_row [] covered = inl refl
  cell_of_row (row ∷ rows) covered = by_first (of_class row) refl (cell_of_row rows (All-tail (λ (r : Row). is_covered constraints r ≡ true) row rows covered))
    where
      by_first : (same : Bool) → of_class row ≡ same → (count_by of_class rows ≡ 0) ⊎ (own ≢ []) → (count_by of_class (row ∷ rows) ≡ 0) ⊎ (own ≢ [])
      by_first true e later =
          inr (subst (λ (c : Class). members c.mask constraints ≢ []) (is_class-same (class_of constraints chosen row) class e)
          (members_of_covered constraints row (All-head (λ (r : Row). is_covered constraints r ≡ true) row rows covered)))
      by_first false e (inl none) = inl (count_by-skips of_class row rows e ∙ none)
      by_first false e (inr some) = inr some

  pub count_within_cap : (rows : List Row) → AllPass (is_covered constraints) rows → All (λ (c : Constraint). Meets constraints c rows) constraints →
      count_in constraints chosen rows class ≤ cap_of constraints class
  count_within_cap rows covered meets = by_some (cell_of_row rows covered)
    where
      by_some : (count_by of_class rows ≡ 0) ⊎ (own ≢ []) → count_by of_class rows ≤ unwrap_or (reduce min mosts) 0
      by_some (inl none) = omega (arith, none)
      by_some (inr some) = least_at_least (count_by of_class rows) mosts (map_some own some) (few_in_cell rows meets)
