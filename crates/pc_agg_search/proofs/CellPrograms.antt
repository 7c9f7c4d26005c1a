-- No cap of a cell is above the greatest `most`.
use Rattle.std.proofs.Common.{ℕ, ◌/◌, ◌≤◌, min, Bool, true, false, List, [], ◌∷◌, map, All, fold, arith}
use Rattle.std.proofs.lemmas.List.Elements.{All-head, All-tail}
use Rattle.std.specs.Prelude.{unwrap_or, if◌then◌else◌}
use Rattle.std.specs.List.{reduce}
use Rattle.pc_model.specs.declared.constraint.Constraint.{Constraint}
use Rattle.pc_model.specs.Cells.{Class}
use Rattle.pc_model.specs.Places.{has_bit}
use Rattle.pc_program_bound.specs.CellPrograms.{members, cap_of}
use Rattle.pc_proof.proofs.Caps.{most_of}

fold_at_most : (n first : ℕ) (numbers : List ℕ) → first ≤ n → fold min first numbers ≤ n
fold_at_most n first [] small = small
fold_at_most n first (m ∷ numbers) small = fold_at_most n (min first m) numbers (omega arith)

pub cap_small : (n : ℕ) (class : Class) (cs : List Constraint) → All (λ (c : Constraint). c.most ≤ n) cs → cap_of cs class ≤ n
cap_small n class cs small = by_mask class.mask cs small
  where
    by_mask : (mask : ℕ) (list : List Constraint) → All (λ (c : Constraint). c.most ≤ n) list → unwrap_or (reduce min (map most_of (members mask list))) 0 ≤ n
    by_mask mask [] each = omega arith
    by_mask mask (c ∷ list) each = by_bit (has_bit mask 0) (All-head (λ (d : Constraint). d.most ≤ n) c list each) (by_mask (mask / 2) list (All-tail (λ (d : Constraint). d.most ≤ n) c list each))
      where
        by_bit : (bit : Bool) → c.most ≤ n → unwrap_or (reduce min (map most_of (members (mask / 2) list))) 0 ≤ n
            → unwrap_or (reduce min (map most_of (if bit then c ∷ members (mask / 2) list else members (mask / 2) list))) 0 ≤ n
        by_bit true first later = fold_at_most n c.most (map most_of (members (mask / 2) list)) first
        by_bit false first later = later
