-- Cells of nested constraints: their programs are nested, and they are few.
use Rattle.std.proofs.Common.{◌≡◌, ℕ, ◌*◌, ◌<◌, ◌≤◌, Bool, false, true≢false, List, length, get_or, All, AllPairs, inl, inr, sym, ap, ap₂, ◌∙◌, arith}
use Rattle.std.specs.Prelude.{ℤ}
use Rattle.std.proofs.lemmas.Bool.{cases_eq, cases_lt}
use Rattle.std.proofs.lemmas.List.{length-map, get_or_default}
use Rattle.std.proofs.lemmas.List.Folds.{Any-from_list_any}
use Rattle.pc_model.specs.declared.schema.Schema.{Schema}
use Rattle.pc_model.specs.declared.row.Row.{Row}
use Rattle.pc_model.specs.declared.area.Area.{Area}
use Rattle.pc_model.specs.declared.constraint.Constraint.{Constraint}
use Rattle.pc_model.specs.Membership.{is_under, AreDisjoint, AreNested, AreTwoNested}
use Rattle.pc_model.specs.Places.{has_bit}
use Rattle.pc_model.specs.Cells.{Class, mask_of, is_class, HasRowOf}
use Rattle.pc_cells_laws.proofs.Classes.{is_class-from_same}
use Rattle.pc_cells_laws.proofs.Masks.{mask_of-bit, mask_of-small, mask_of-is}
use Rattle.pc_cells.proofs.Apart.{two_pass}
use Rattle.pc_program_bound.specs.declared.program.Program.{Program}
use Rattle.pc_program_bound.specs.Allocation.{cells_of, constraints_of}
use Rattle.pc_program_bound.specs.CellPrograms.{program_with}
use Rattle.pc_program_bound.proofs.CellPlaces.{no_class, no_constraint, cell_inside, mask_is}
use Rattle.pc_program.specs.Settled.{is_in}
use Rattle.pc_nested.specs.Nested.{AreNestedPair, AreNestedPairs}
use Rattle.pc_nested.specs.Few.{AreCovered, DifferOnSides}
use Rattle.pc_nested.proofs.Few.{few_cells}

abbrev pub Differ : Class → Class → Type 0
Differ a b = is_class a b ≡ false

-- ---- disjoint constraints are nested

pub nested-from_disjoint : (schema : Schema) (constraints : List Constraint) → AreDisjoint schema constraints → AreNested schema constraints
nested-from_disjoint schema constraints disjoint i j d before inside =
    inl (λ row allowed first second.
    let twice = two_pass (λ (c : Constraint). is_under constraints c row) constraints i j d before inside first second in
    let once = disjoint row allowed in
    omega (arith, twice, once))

-- ---- the program of cells of nested constraints

module _ (schema : Schema) (constraints : List Constraint) (chosen : Area) (classes : List Class) (gains : List ℤ) (nested : AreNested schema constraints)
    (rows : All (HasRowOf schema constraints chosen) classes) (differ : AllPairs Differ classes) where
  abbrev program : Program
  program = program_with constraints classes gains

  abbrev class_at : ℕ → Class
  class_at place = get_or classes place no_class

  abbrev under_at : ℕ → Row → Bool
  under_at k row = is_under constraints (get_or constraints k no_constraint) row

  limits : constraints_of program ≡ length constraints
  limits = length-map constraints (λ (c : Constraint). c.least)

  abbrev row_at : (i : ℕ) → i < length classes → Row
  row_at i h = (rows i no_class h).0

  row_mask : (i : ℕ) (h : i < length classes) → mask_of constraints (row_at i h) ≡ (class_at i).mask
  row_mask i h = ap (λ (class : Class). class.mask) (rows i no_class h).1.of_class

  -- a cell is in a constraint exactly where its row is under it
  in_row : (i k : ℕ) (h : i < length classes) → k < length constraints → is_in program i k ≡ under_at k (row_at i h)
  in_row i k h there =
      ap (λ mask. has_bit mask k) (mask_is constraints classes gains i h ∙ sym (row_mask i h)) ∙ mask_of-bit constraints (row_at i h) k no_constraint there

  module _ (j k : ℕ) (first : j < length constraints) (second : k < length constraints) where
    pair : AreTwoNested schema constraints (get_or constraints j no_constraint) (get_or constraints k no_constraint) → AreNestedPair program j k
    pair two = elim two [
      | inl apart ↦ inl (λ i here one other.
          let there = cell_inside constraints classes gains i here in
          apart (row_at i there) (rows i no_class there).1.allowed (sym (in_row i j there first) ∙ one) (sym (in_row i k there second) ∙ other))
      | inr inside ↦ elim inside [
        | inl within ↦ inr (inl (λ i here member.
            let there = cell_inside constraints classes gains i here in
            in_row i k there second ∙ within (row_at i there) (rows i no_class there).1.allowed (sym (in_row i j there first) ∙ member)))
        | inr within ↦ inr (inr (λ i here member.
            let there = cell_inside constraints classes gains i here in
            in_row i j there first ∙ within (row_at i there) (rows i no_class there).1.allowed (sym (in_row i k there second) ∙ member)))
      ]
    ]

  turned : (j k : ℕ) → AreNestedPair program j k → AreNestedPair program k j
  turned j k two = elim two [
    | inl apart ↦ inl (λ i here one other. apart i here other one)
    | inr inside ↦ elim inside [
      | inl within ↦ inr (inr within)
      | inr within ↦ inr (inl within)
    ]
  ]

  pub nested_pairs : AreNestedPairs program
  nested_pairs j k first second =
      let here : j < length constraints = omega (arith, first, limits) in
      let there : k < length constraints = omega (arith, second, limits) in
      elim (cases_eq j k) [
        | inl same ↦ inr (inl (λ i h member. rw (sym same) member))
        | inr apart ↦ elim (cases_lt j k) [
          | inl before ↦ pair j k here there (nested j k no_constraint before there)
          | inr after ↦ turned k j (pair k j there here (nested k j no_constraint (omega (arith, apart, after)) here))
        ]
      ]

  -- ---- how many there are

  covered : AreCovered program
  covered i h =
      let there = cell_inside constraints classes gains i h in
      let found = Any-from_list_any (λ (c : Constraint). is_under constraints c (row_at i there)) constraints (rows i no_class there).1.lawful.covered in (
        found.0,
        omega (arith, found.2, limits),
        in_row i found.0 there found.2
            ∙ ap (λ (c : Constraint). is_under constraints c (row_at i there)) (get_or_default constraints found.0 no_constraint found.1 found.2 ∙ found.3) ∙ found.4,
      )

  same_mask : (h i : ℕ) (here : h < length classes) (there : i < length classes) → ((k : ℕ) → k < constraints_of program → is_in program h k ≡ is_in program i k) → (class_at h).mask ≡ (class_at i).mask
  same_mask h i here there alike =
      sym (row_mask h here)
      ∙ mask_of-is constraints (row_at h here) (mask_of constraints (row_at i there)) (mask_of-small constraints (row_at i there))
      (λ place d within.
      let bits : under_at place (row_at h here) ≡ under_at place (row_at i there) = sym (in_row h place here within) ∙ alike place (omega (arith, within, limits)) ∙ in_row i place there within in
      mask_of-bit constraints (row_at i there) place no_constraint within ∙ sym bits ∙ sym (mask_of-bit constraints (row_at h here) place no_constraint within) ∙ mask_of-bit constraints (row_at h here) place d within)
      ∙ row_mask i there

  differ_on_sides : DifferOnSides program (λ i. (class_at i).chosen)
  differ_on_sides h i before inside sides alike =
      let there = cell_inside constraints classes gains i inside in
      let masks = same_mask h i (omega (arith, before, there)) there alike in
      true≢false (sym (is_class-from_same (class_at h) (class_at i) (ap₂ (λ mask chosen. record { mask = mask; chosen = chosen }) masks sides)) ∙ differ h i no_class before there)

  pub few : cells_of program ≤ 2 * length constraints
  few = let all = few_cells program (λ i. (class_at i).chosen) nested_pairs covered differ_on_sides in omega (arith, all, limits)
