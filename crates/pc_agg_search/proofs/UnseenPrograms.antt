-- The programs of the cells alone, with any small gains, and with cells that are closed.
use Rattle.std.proofs.Common.{◌≡◌, ℕ, ◌<◌, ◌≤◌, Bool, true, false, cond, List, length, map, get_or, All, refl, sym, ◌∙◌, arith}
use Rattle.std.specs.Prelude.{ℤ, pos, nat_abs, ◌&&◌}
use Rattle.std.proofs.lemmas.Int.{ints}
use Rattle.std.proofs.lemmas.List.{length-map, get_or-map}
use Rattle.std.proofs.lemmas.List.Elements.{All-map}
use Rattle.pc_model.specs.declared.schema.Schema.{Schema}
use Rattle.pc_model.specs.declared.constraint.Constraint.{Constraint}
use Rattle.pc_model.specs.declared.query.Query.{Query}
use Rattle.pc_model.specs.declared.tree.CutNode.{CutNode}
use Rattle.pc_model.specs.Accepted.{AreConstraints}
use Rattle.pc_agg_search.specs.Easy.{IsEasy}
use Rattle.pc_model.specs.WellFormed.{IsWellFormed}
use Rattle.pc_model.specs.Cells.{Class, IsSettledTree, leaves_in}
use Rattle.pc_program_bound.specs.declared.program.Program.{Program}
use Rattle.pc_program_bound.specs.Sums.{nat_at}
use Rattle.pc_program_bound.specs.Allocation.{IsProgram}
use Rattle.pc_program_bound.specs.Allocation as allocations
use Rattle.pc_program_bound.specs.CellPrograms.{cap_of, program_with}
use Rattle.pc_program_bound.proofs.CellPlaces.{no_class, cell_inside, cap_is, floor_is}
use Rattle.pc_branch.specs.Ends.{HasSmallGains}
use Rattle.pc_branch.specs.Outcome.{IsEasyProgram}
use Rattle.pc_cells.specs.Found.{class_of_cell, cell_of, cells_of}
use Rattle.pc_proof.specs.Setting.{Setting, cells, on_chosen, open_cap, program_for, program_without}
use Rattle.pc_agg_search.specs.Settings.{unseen}
use Rattle.pc_agg_search.specs.Limits.{greatest_gain}
use Rattle.pc_agg_search.proofs.LoweredCaps.{lowered_program, lowered_small, lowered_easy}
use Rattle.pc_agg_search.proofs.SettledPrograms.{cells_program, cells_small, cells_easy, program_is}

-- a gain where a test passes, and else 0
pub tested_small : (n : ℕ) (test : Bool) (x : ℤ) → nat_abs x ≤ n → nat_abs (cond test x (pos 0)) ≤ n
tested_small n true x small = small
tested_small n false x small = omega (arith, ints)

none_or_all : (test : Bool) (n : ℕ) → cond test 0 n ≤ n
none_or_all true n = omega arith
none_or_all false n = omega arith

module _ (schema : Schema) (constraints : List Constraint) (query : Query) (nodes : List CutNode) (formed : IsWellFormed schema)
    (are : AreConstraints schema constraints) (tree : IsSettledTree schema constraints query.chosen nodes) where
  abbrev u : Setting
  u = unseen schema constraints query nodes

  -- ---- any gains

  module _ (gain : Class → ℤ) where
    abbrev gains : List ℤ
    gains = map gain (cells u)

    sized : length gains ≡ length (cells_of (leaves_in schema nodes))
    sized = length-map (cells u) gain ∙ sym (length-map (cells u) (cell_of (leaves_in schema nodes)))

    same : program_for u gain ≡ program_with constraints (map class_of_cell (cells_of (leaves_in schema nodes))) gains
    same = sym (program_is schema constraints query.chosen nodes (cells_of (leaves_in schema nodes)) gains formed tree refl _ refl)

    pub for_program : IsProgram (program_for u gain)
    for_program = cells_program schema constraints query.chosen nodes (cells_of (leaves_in schema nodes)) gains formed tree refl (program_for u gain) same are sized

    module _ (small : (class : Class) → nat_abs (gain class) ≤ greatest_gain) where
      all_small : All (λ g. nat_abs g ≤ greatest_gain) gains
      all_small = All-map (λ g. nat_abs g ≤ greatest_gain) gain (cells u) (λ i d h. small (get_or (cells u) i d))

      pub for_small : HasSmallGains (program_for u gain)
      for_small = cells_small schema constraints query.chosen nodes (cells_of (leaves_in schema nodes)) gains formed tree refl (program_for u gain) same are sized all_small

      pub for_easy : IsEasy schema constraints → IsEasyProgram (program_for u gain)
      for_easy nested = cells_easy schema constraints query.chosen nodes (cells_of (leaves_in schema nodes)) gains formed tree refl (program_for u gain) same are nested sized all_small

  -- ---- chosen cells that are closed

  module _ (closed : Class → Bool) where
    abbrev p : Program
    p = program_for u (on_chosen (λ class. pos 1))

    abbrev caps : List ℕ
    caps = map (open_cap u closed) (cells u)

    inside : (i : ℕ) → i < allocations.cells_of p → i < length (cells u)
    inside i h = cell_inside constraints (cells u) p.gain i h

    lower : (i : ℕ) → i < allocations.cells_of p → nat_at caps i ≤ nat_at p.cap i
    lower i h =
        let class = get_or (cells u) i no_class in
        let less = none_or_all (class.chosen && closed class) (cap_of constraints class) in
        rw (get_or-map (open_cap u closed) (cells u) i no_class 0 (inside i h), cap_is constraints (cells u) p.gain i (inside i h)) less

    one_small : (class : Class) → nat_abs (on_chosen (λ class. pos 1) class) ≤ greatest_gain
    one_small class = tested_small (greatest_gain) class.chosen (pos 1) (omega arith)

    pub without_program : IsProgram (program_without u closed)
    without_program =
        lowered_program p caps lower (for_program (on_chosen (λ class. pos 1))) (length-map (cells u) (open_cap u closed) ∙ sym (length-map (cells u) (λ (class : Class). class.mask)))
        (λ i h. omega (arith, floor_is constraints (cells u) p.gain i (inside i h)))

    pub without_small : HasSmallGains (program_without u closed)
    without_small = lowered_small p caps lower (for_small (on_chosen (λ class. pos 1)) one_small)

    pub without_easy : IsEasy schema constraints → IsEasyProgram (program_without u closed)
    without_easy nested = lowered_easy p caps lower (for_easy (on_chosen (λ class. pos 1)) one_small nested)
