-- The program of cells has lists of the right lengths, and ends in order.
use Rattle.std.proofs.Common.{◌≡◌, ℤ, List, length, get_or, sym, ◌∙◌, arith}
use Rattle.std.proofs.lemmas.List.{length-map}
use Rattle.pc_model.specs.declared.schema.Schema.{Schema}
use Rattle.pc_model.specs.declared.constraint.Constraint.{Constraint}
use Rattle.pc_model.specs.Accepted.{AreConstraints, frequency_limit}
use Rattle.pc_model.specs.Cells.{Class}
use Rattle.pc_program_bound.specs.declared.program.Program.{Program}
use Rattle.pc_program_bound.specs.Allocation.{IsProgram}
use Rattle.pc_program_bound.specs.CellPrograms.{cap_of, program_with}
use Rattle.pc_program_bound.proofs.CellPlaces.{no_class, no_constraint, cell_inside, constraint_inside, cap_is, floor_is, least_is, most_is}
use Rattle.pc_agg_search.proofs.CellPrograms.{cap_small}

module _ (constraints : List Constraint) (classes : List Class) (gains : List ℤ) where
  abbrev program : Program
  program = program_with constraints classes gains

  pub is_program : (schema : Schema) → AreConstraints schema constraints → length gains ≡ length classes → IsProgram program
  is_program schema are sized = record {
    mosts = length-map constraints (λ (c : Constraint). c.most) ∙ sym (length-map constraints (λ (c : Constraint). c.least));
    floors = length-map classes (λ (class : Class). 0) ∙ sym (length-map classes (λ (class : Class). class.mask));
    caps = length-map classes (cap_of constraints) ∙ sym (length-map classes (λ (class : Class). class.mask));
    gains = sized ∙ sym (length-map classes (λ (class : Class). class.mask));
    few = omega (arith, are.few, length-map constraints (λ (c : Constraint). c.least));
    ordered = λ j h.
        let there = constraint_inside constraints classes gains j h in
        let servable = are.servable j no_constraint there in
        omega (arith, servable.ordered, least_is constraints classes gains j there, most_is constraints classes gains j there);
    boxed = λ i h. omega (arith, floor_is constraints classes gains i (cell_inside constraints classes gains i h));
    small_most = λ j h.
        let there = constraint_inside constraints classes gains j h in
        let small = are.small j no_constraint there in
        omega (arith, small, most_is constraints classes gains j there);
    small_cap = λ i h.
        let there = cell_inside constraints classes gains i h in
        let small = cap_small frequency_limit (get_or classes i no_class) constraints are.small in
        omega (arith, small, cap_is constraints classes gains i there);
  }
