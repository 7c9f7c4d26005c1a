-- What is known of a box: read and added to by bits, and kept for its parts.
use Rattle.std.proofs.Common.{◌≡◌, ℕ, zero, suc, ◌+◌, ◌-◌, ◌*◌, ◌/◌, ◌%◌, ◌<◌, ◌^◌, ◌==◌, if◌then◌else◌, Bool, true, false, Option, Some, None, List, [], ◌∷◌, ◌++◌, length, get_or, ◌⊎◌, inl, inr, refl, sym, ap, subst, arith}
use Rattle.std.specs.Int.{w32}
use Rattle.std.specs.Int.Bits.{bit_and, bit_or}
use Rattle.std.proofs.lemmas.Bool.{cases_eq, cases_lt}
use Rattle.std.proofs.lemmas.List.{length-append, get_or_append_left, get_or-append_right}
use Rattle.std.proofs.lemmas.Nat.Bits.{shr_and_one, bit_at_set_same, bit_at_set_other, bit_at-zero}
use Rattle.pc_model.specs.declared.region.Region.{Region}
use Rattle.pc_model.specs.declared.constraint.Constraint.{Constraint}
use Rattle.pc_model.specs.Places.{has_bit}
use Rattle.pc_model.specs.declared.tree.Cut.{Cut}
use Rattle.pc_model.specs.CutTrees.{IsInside, first_part, second_part}
use Rattle.pc_box.specs.Cuts.{Divides}
use Rattle.pc_cells_tree.specs.declared.known.Known.{Known}
use Rattle.pc_cells_tree.specs.Decisions.{HasBitAt}
use Rattle.pc_cells_tree.specs.Knowing.{told, nothing, IsKnown, known_at, AreKnown}
use Rattle.pc_cells_tree.specs.Linked.{box_at}
use Rattle.pc_cells_tree.specs.Refining.{boxes_cut}
use Rattle.pc_cells_tree.specs.Stances.{no_box}
use Rattle.pc_cells_tree.proofs.Parts.{at_place}
use Rattle.pc_cells_tree.proofs.TreeLaws.{first_inside, second_inside}

-- ---- bits

pub bit_read : (bits place : ℕ) → (bit_and (bits / 2 ^ place) 1 == 1) ≡ has_bit bits place
bit_read bits place = rw (shr_and_one bits place) refl

pub ruleset bits = (bit_read)

set_here : (bits place : ℕ) → place < 32 → has_bit (bit_or bits (1 * 2 ^ place % 2 ^ 32)) place ≡ true
set_here bits place inside = ap (λ bit. bit == 1) (bit_at_set_same w32 bits place inside)

set_elsewhere : (bits place k : ℕ) → place < 32 → (k ≡ place → ⊥) → has_bit (bit_or bits (1 * 2 ^ place % 2 ^ 32)) k ≡ has_bit bits k
set_elsewhere bits place k inside other = ap (λ bit. bit == 1) (bit_at_set_other w32 bits place inside k other)

abbrev told_by : Bool → Bool → Option Bool
told_by all none = if all then Some true else (if none then Some false else None)

module _ (known : Known) (place k : ℕ) (inside : place < 32) where
  pub with-all : (told (record { all = bit_or known.all (1 * 2 ^ place % 2 ^ 32); none = known.none }) k ≡ told known k)
      ⊎ ((k ≡ place) × (told (record { all = bit_or known.all (1 * 2 ^ place % 2 ^ 32); none = known.none }) k ≡ Some true))
  with-all = elim (cases_eq k place) [
    | inl same ↦ inr (same, rw same (ap (λ bit. told_by bit (has_bit known.none place)) (set_here known.all place inside)))
    | inr other ↦ inl (ap (λ bit. told_by bit (has_bit known.none k)) (set_elsewhere known.all place k inside other))
  ]

  pub with-none : (told (record { all = known.all; none = bit_or known.none (1 * 2 ^ place % 2 ^ 32) }) k ≡ told known k)
      ⊎ ((k ≡ place) × (told (record { all = known.all; none = bit_or known.none (1 * 2 ^ place % 2 ^ 32) }) k ≡ Some false))
  with-none = elim (cases_eq k place) [
    | inl same ↦ by_bit (has_bit known.all k) refl (has_bit (bit_or known.none (1 * 2 ^ place % 2 ^ 32)) k) (subst (λ i. has_bit (bit_or known.none (1 * 2 ^ place % 2 ^ 32)) i ≡ true) (sym same) (set_here known.none place inside)) same
    | inr other ↦ inl (ap (λ bit. told_by (has_bit known.all k) bit) (set_elsewhere known.none place k inside other))
  ]
    where
      by_bit : (all : Bool) → has_bit known.all k ≡ all → (none : Bool) → none ≡ true → k ≡ place → (told_by all none ≡ told_by all (has_bit known.none k)) ⊎ ((k ≡ place) × (told_by all none ≡ Some false))
      by_bit true e none f same = inl refl
      by_bit false e none f same = inr (same, ap (λ bit. told_by false bit) f)

pub ruleset steps = (with-all, with-none)

-- ---- what is known

pub nothing_known : (constraints : List Constraint) (part : Region) → IsKnown constraints part nothing
nothing_known constraints part place inside = subst (HasBitAt constraints part place) (sym none) tt
  where
    none : told nothing place ≡ None
    none = rw (ap (λ bit. bit == 1) (bit_at-zero place)) refl

module _ (constraints : List Constraint) (part : Region) where
  pub known_with : (known after : Known) (place : ℕ) (bit : Bool) → ((k : ℕ) → (told after k ≡ told known k) ⊎ ((k ≡ place) × (told after k ≡ Some bit))) →
      HasBitAt constraints part place (Some bit) → IsKnown constraints part known → IsKnown constraints part after
  known_with known after place bit gives says held k inside = elim (gives k) [
    | inl same ↦ subst (HasBitAt constraints part k) (sym same) (held k inside)
    | inr new ↦ subst (HasBitAt constraints part k) (sym new.1) (subst (λ i. HasBitAt constraints part i (Some bit)) (sym new.0) says)
  ]

  pub known_within : (piece : Region) (known : Known) → IsInside piece part → IsKnown constraints part known → IsKnown constraints piece known
  known_within piece known inner held k inside = by_told (told known k) (held k inside)
    where
      by_told : (found : Option Bool) → HasBitAt constraints part k found → HasBitAt constraints piece k found
      by_told None says = tt
      by_told (Some bit) says = λ c. at_place part piece inner constraints bit (get_or constraints k c) (says c)

-- ---- the boxes of a list

abbrev AreNothing : List Known → Type 0
AreNothing known = (k : ℕ) → known_at known k ≡ nothing

pub nothing-none : AreNothing []
nothing-none k = refl

pub nothing-more : (known : List Known) (one : Known) → one ≡ nothing → AreNothing known → AreNothing (known ++ one ∷ [])
nothing-more [] one is each zero = is
nothing-more [] one is each (suc k) = refl
nothing-more (x ∷ known) one is each zero = each 0
nothing-more (x ∷ known) one is each (suc k) = nothing-more known one is (λ i. each (suc i)) k

pub ruleset nothings = (nothing-none, nothing-more)

pub nothing_of_each : (constraints : List Constraint) (boxes : List Region) (known : List Known) → length known ≡ length boxes → AreNothing known → AreKnown constraints boxes known
nothing_of_each constraints boxes known long each = record {
  long = long;
  each = λ k inside. subst (IsKnown constraints (box_at boxes k)) (sym (each k)) (nothing_known constraints (box_at boxes k));
}

module _ (constraints : List Constraint) (box : Region) (of_parts : Known) (cut : Cut) (divides : Divides box cut) (says : IsKnown constraints box of_parts) where
  pub known_first : IsKnown constraints (first_part box cut) of_parts
  known_first = known_within constraints box (first_part box cut) of_parts (first_inside box (first_part box cut) cut divides refl) says

  pub known_second : IsKnown constraints (second_part box cut) of_parts
  known_second = known_within constraints box (second_part box cut) of_parts (second_inside box (second_part box cut) cut divides refl) says

module _ (constraints : List Constraint) (boxes : List Region) (known : List Known) (place : ℕ) (cut : Cut) (of_parts : Known) (inside : place < length boxes) (divides : Divides (box_at boxes place) cut)
    (held : AreKnown constraints boxes known) (says : IsKnown constraints (box_at boxes place) of_parts) where
  abbrev box : Region
  box = box_at boxes place

  abbrev first : Region
  first = first_part box cut

  abbrev second : Region
  second = second_part box cut

  abbrev later : List Known
  later = known ++ of_parts ∷ of_parts ∷ []

  each_of : (k : ℕ) → k < length (boxes_cut boxes place cut) → IsKnown constraints (box_at (boxes_cut boxes place cut) k) (known_at later k)
  each_of k below = elim (cases_lt k (length boxes)) [
    | inl old ↦
        rw (get_or_append_left boxes (first ∷ second ∷ []) no_box k old, get_or_append_left known (of_parts ∷ of_parts ∷ []) nothing k (omega (arith, old, held.long))) (held.each k old)
    | inr new ↦
        (let ends : k < length boxes + 2 = omega (arith, below, length-append boxes (first ∷ second ∷ [])) in
        rw (get_or-append_right boxes (first ∷ second ∷ []) (length boxes) k no_box refl new, get_or-append_right known (of_parts ∷ of_parts ∷ []) (length boxes) k nothing held.long new) (at_end (k - length boxes) (omega (arith, ends, new))))
  ]
    where
      at_end : (i : ℕ) → i < 2 → IsKnown constraints (get_or (first ∷ second ∷ []) i no_box) (get_or (of_parts ∷ of_parts ∷ []) i nothing)
      at_end zero few = known_first constraints box of_parts cut divides says
      at_end (suc zero) few = known_second constraints box of_parts cut divides says
      at_end (suc (suc i)) few = absurd (omega (arith, few))

  pub known-cut : AreKnown constraints (boxes_cut boxes place cut) later
  known-cut = record {
    long = omega (arith, length-append boxes (first ∷ second ∷ []), length-append known (of_parts ∷ of_parts ∷ []), held.long);
    each = each_of;
  }
