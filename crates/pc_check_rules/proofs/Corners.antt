-- The boxes of a walk lie inside that of the program.
use Rattle.std.proofs.Common.{◌≡◌, ℕ, zero, suc, ◌+◌, ◌<◌, ◌≤◌, List, [], ◌∷◌, refl, ap, ◌∙◌, arith}
use Rattle.std.specs.Prelude.{slice_set}
use Rattle.std.proofs.lemmas.List.{length-set}
use Rattle.pc_program_bound.specs.declared.program.Program.{Program}
use Rattle.pc_program_bound.specs.Sums.{nat_at}
use Rattle.pc_program_bound.specs.Allocation.{IsProgram}
use Rattle.pc_check_rules.specs.declared.tree_line.Corner.{Corner}
use Rattle.pc_check_rules.specs.Lines.{IsOpen, Divides}
use Rattle.pc_check_rules.specs.Walk.{less_part, more_part}

-- a number of a list of which one was replaced is the new one, or the one before
at_set : (P : ℕ → Type 0) (xs : List ℕ) (cell at i : ℕ) → (i ≡ cell → P at) → P (nat_at xs i) → P (nat_at (slice_set xs cell at) i)
at_set P [] cell at i new before = before
at_set P (x ∷ xs) zero at zero new before = new refl
at_set P (x ∷ xs) zero at (suc i) new before = before
at_set P (x ∷ xs) (suc cell) at zero new before = before
at_set P (x ∷ xs) (suc cell) at (suc i) new before = at_set P xs cell at i (λ e. new (ap suc e)) before

pub root-open : (p : Program) → IsProgram p → IsOpen p (record { floors = p.floor; caps = p.cap })
root-open p program = record {
  sized_floors = program.floors;
  sized_caps = program.caps;
  inside = λ i h. (omega arith, program.boxed i h, omega arith);
}

module _ (p : Program) (corner : Corner) (cell at : ℕ) (open_box : IsOpen p corner) (divides : Divides p corner cell at) where
  pub less-open : IsOpen p (less_part corner cell at)
  less-open = record {
    sized_floors = open_box.sized_floors;
    sized_caps = length-set corner.caps cell at ∙ open_box.sized_caps;
    inside = λ i h. let here = open_box.inside i h in
        let ends = at_set (λ cap. (nat_at corner.floors i ≤ cap) × (cap ≤ nat_at p.cap i)) corner.caps cell at i
        (λ e. let more : at < nat_at corner.caps i = rw e divides.2 in (rw e divides.1, omega (arith, more, here))) (here.1, here.2) in
        (here.0, ends.0, ends.1);
  }

  pub more-open : IsOpen p (more_part corner cell at)
  more-open = record {
    sized_floors = length-set corner.floors cell (at + 1) ∙ open_box.sized_floors;
    sized_caps = open_box.sized_caps;
    inside = λ i h. let here = open_box.inside i h in
        let ends = at_set (λ floor. (nat_at p.floor i ≤ floor) × (floor ≤ nat_at corner.caps i)) corner.floors cell (at + 1) i
        (λ e. let less : nat_at corner.floors i ≤ at = rw e divides.1 in let more : at < nat_at corner.caps i = rw e divides.2 in (omega (arith, less, here), omega (arith, more)))
        (here.0, here.1) in
        (ends.0, ends.1, here.2);
  }
