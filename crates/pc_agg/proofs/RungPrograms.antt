-- The programs that the code makes of cells and keys are those of the cells' classes.
use Rattle.std.proofs.Common.{◌≡◌, ℕ, ◌<◌, ◌≤◌, Bool, true, false, cond, List, length, map, get_or, refl, sym, ap, ap₂, subst, ◌∙◌, arith}
use Rattle.std.specs.Prelude.{ℤ, pos, nat_abs, int_le, int_lt, ◌&&◌}
use Rattle.std.proofs.lemmas.List.{length-map, get_or-map}
use Rattle.pc_model.specs.Cells.{Class}
use Rattle.pc_program_bound.specs.declared.program.Program.{Program}
use Rattle.pc_program_bound.specs.Sums.{nat_at, int_at}
use Rattle.pc_program_bound.specs.Allocation.{IsProgram}
use Rattle.pc_program_bound.specs.CellPrograms.{cap_of, program_with}
use Rattle.pc_simplex_tableau.specs.Numbers.{table}
use Rattle.pc_branch.specs.Ends.{HasSmallGains}
use Rattle.pc_branch.specs.Outcome.{IsEasyProgram}
use Rattle.pc_cells.specs.declared.cells.Cell.{Cell}
use Rattle.pc_cells.specs.Found.{class_of_cell}
use Rattle.pc_proof.specs.Setting.{Setting, cells, on_chosen, counting, open_cap}
use Rattle.pc_agg_search.specs.declared.extreme.Extreme.{Extreme}
use Rattle.pc_agg.specs.declared.ladder.Ladder.{Ladder}
use Rattle.pc_agg.specs.declared.ladder.Test.{Test}
use Rattle.pc_agg.specs.declared.ladder.Test.TheVariants.{Reach, Avoid}
use Rattle.pc_agg.specs.Keyed.{reach_gain, avoid_cap, with_closed, tested_program}
use Rattle.pc_agg_search.specs.Targets.{chosen_gain}
use Rattle.pc_agg_search.specs.Keys.{key_of}
use Rattle.pc_agg.specs.Rungs.{reaches, avoids, rung_program, program_at, IsLadder}
use Rattle.pc_agg_search.specs.declared.problem.Problem.{Problem}
use Rattle.pc_agg_search.specs.Problem.{IsEasyFor, IsPosed, setting_of}
use Rattle.pc_agg_search.specs.Limits.{greatest_gain}
use Rattle.pc_proof.proofs.Masks.{map_twice}
use Rattle.pc_agg_search.proofs.ListedPrograms.{no_cell, table_mapped, gains_are, program_is, chosen_is}
use Rattle.pc_agg_search.proofs.PosedPrograms.{own_classes, for_program, for_small, for_easy, without_program, without_small, without_easy}
use Rattle.pc_agg_search.proofs.UnseenPrograms.{tested_small}

gain_same : (chosen : Bool) (rung key : ℤ) → cond (chosen && int_le rung (cond chosen key (pos 0))) (pos 1) (pos 0) ≡ cond (chosen && int_le rung key) (pos 1) (pos 0)
gain_same true rung key = refl
gain_same false rung key = refl

cap_same : (chosen : Bool) (rung key : ℤ) (cap : ℕ) → cond (chosen && int_lt (cond chosen key (pos 0)) rung) 0 cap ≡ cond (chosen && int_lt key rung) 0 cap
cap_same true rung key cap = refl
cap_same false rung key cap = refl

module _ (s : Setting) (list : List Cell) (classes : map class_of_cell list ≡ cells s) where
  abbrev class_at : ℕ → Class
  class_at i = class_of_cell (get_or list i no_cell)

  module _ (extreme : Extreme) (keys : List ℤ) (keyed : keys ≡ map (on_chosen (key_of s extreme)) (cells s)) (rung : ℤ) where
    pub keys_long : length keys ≡ length list
    keys_long = ap length keyed ∙ length-map (cells s) (on_chosen (key_of s extreme)) ∙ sym (ap length classes) ∙ length-map list class_of_cell

    key_at : (i : ℕ) → i < length list → int_at keys i ≡ on_chosen (key_of s extreme) (class_at i)
    key_at i h =
        let keys_are = keyed ∙ ap (map (on_chosen (key_of s extreme))) (sym classes) ∙ sym (map_twice (on_chosen (key_of s extreme)) class_of_cell list) in
        ap (λ l. int_at l i) keys_are ∙ get_or-map (λ cell. on_chosen (key_of s extreme) (class_of_cell cell)) list i no_cell (pos 0) h

    abbrev reached : Class → ℤ
    reached = counting (λ class. int_le rung (key_of s extreme class))

    gain_is : (i : ℕ) → i < length list → reach_gain list keys rung i ≡ reached (class_at i)
    gain_is i h =
        ap (λ key. cond ((class_at i).chosen && int_le rung key) (pos 1) (pos 0)) (key_at i h)
        ∙ gain_same (class_at i).chosen rung (key_of s extreme (class_at i))

    pub reaching_is : program_with s.question.constraints (map class_of_cell list) (table (length list) (reach_gain list keys rung)) ≡ reaches s extreme rung
    reaching_is =
        program_is s list classes (table (length list) (reach_gain list keys rung)) reached (gains_are s list classes (reach_gain list keys rung) reached gain_is)

    abbrev closed : Class → Bool
    closed class = int_lt (key_of s extreme class) rung

    abbrev caps : List ℕ
    caps = map (cap_of s.question.constraints) (map class_of_cell list)

    cap_at : (i : ℕ) → i < length list → nat_at caps i ≡ cap_of s.question.constraints (class_at i)
    cap_at i h =
        ap (λ l. nat_at l i) (sym (map_twice (cap_of s.question.constraints) class_of_cell list))
        ∙ get_or-map (λ cell. cap_of s.question.constraints (class_of_cell cell)) list i no_cell 0 h

    cap_is : (i : ℕ) → i < length list → avoid_cap list keys caps rung i ≡ open_cap s closed (class_at i)
    cap_is i h =
        ap₂ (λ key cap. cond ((class_at i).chosen && int_lt key rung) 0 cap) (key_at i h) (cap_at i h)
        ∙ cap_same (class_at i).chosen rung (key_of s extreme (class_at i)) (cap_of s.question.constraints (class_at i))

    caps_are : table (length list) (avoid_cap list keys caps rung) ≡ map (open_cap s closed) (cells s)
    caps_are =
        table_mapped (avoid_cap list keys caps rung) (λ cell. open_cap s closed (class_of_cell cell)) list no_cell 0 cap_is
        ∙ map_twice (open_cap s closed) class_of_cell list ∙ ap (map (open_cap s closed)) classes

    pub avoiding_is : with_closed (program_with s.question.constraints (map class_of_cell list) (table (length list) (chosen_gain list (pos 1)))) list keys rung ≡ avoids s extreme rung
    avoiding_is = ap₂ (λ (p : Program) caps. record p { cap = caps }) (chosen_is s list classes (pos 1)) caps_are

    tested_is : (test : Test) → tested_program s.question.constraints list keys rung test ≡ rung_program s extreme test rung
    tested_is Reach = reaching_is
    tested_is Avoid = avoiding_is

-- ---- what the code makes of the cells of a problem

module _ (problem : Problem) (posed : IsPosed problem) where
  abbrev u : Setting
  u = setting_of problem

  classes : map class_of_cell problem.cells.now.cells ≡ cells u
  classes = own_classes problem posed

  module _ (extreme : Extreme) (key : ℤ) where
    abbrev passing : Class → ℤ
    passing = counting (λ class. int_le key (key_of u extreme class))

    passing_small : (class : Class) → nat_abs (passing class) ≤ greatest_gain
    passing_small class = tested_small (greatest_gain) (class.chosen && int_le key (key_of u extreme class)) (pos 1) (omega arith)

    abbrev short_of : Class → Bool
    short_of class = int_lt (key_of u extreme class) key

    pub rung_formed : (test : Test) → IsProgram (rung_program u extreme test key)
    rung_formed Reach = for_program problem posed passing
    rung_formed Avoid = without_program problem posed short_of

    pub rung_small : (test : Test) → HasSmallGains (rung_program u extreme test key)
    rung_small Reach = for_small problem posed passing passing_small
    rung_small Avoid = without_small problem posed short_of

    pub rung_easy : (test : Test) → IsEasyFor problem → IsEasyProgram (rung_program u extreme test key)
    rung_easy Reach easy = for_easy problem posed passing passing_small easy
    rung_easy Avoid easy = without_easy problem posed short_of easy

  -- ---- the program of a rung

  module _ (ladder : Ladder) (keyed : IsLadder u ladder) where
    pub ladder_long : length ladder.keys ≡ length problem.cells.now.cells
    ladder_long = keys_long u problem.cells.now.cells classes ladder.extreme ladder.keys keyed (pos 0)

    module _ (place : ℕ) (p : Program) (is : p ≡ tested_program problem.constraints.now problem.cells.now.cells ladder.keys (int_at ladder.rungs place) ladder.test) where
      pub at_is : p ≡ program_at u ladder place
      at_is = is ∙ tested_is u problem.cells.now.cells classes ladder.extreme ladder.keys keyed (int_at ladder.rungs place) ladder.test

      pub at_formed : IsProgram p
      at_formed = subst IsProgram (sym at_is) (rung_formed ladder.extreme (int_at ladder.rungs place) ladder.test)

      pub at_small : HasSmallGains p
      at_small = subst HasSmallGains (sym at_is) (rung_small ladder.extreme (int_at ladder.rungs place) ladder.test)

      pub at_easy : IsEasyFor problem → IsEasyProgram p
      at_easy easy = subst IsEasyProgram (sym at_is) (rung_easy ladder.extreme (int_at ladder.rungs place) ladder.test easy)
