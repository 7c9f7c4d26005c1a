-- The programs that the code makes of cells are those of the cells' classes.
use Rattle.std.proofs.Common.{◌≡◌, ℕ, ◌<◌, ◌≤◌, false, List, [], ◌∷◌, length, map, replicate, get_or, refl, sym, ap, ap₂, subst, ◌∙◌, arith}
use Rattle.std.specs.Prelude.{ℤ, pos, nat_abs}
use Rattle.std.proofs.lemmas.List.{length-map, get_or-map, ext_get_or}
use Rattle.pc_model.specs.Cells.{Class}
use Rattle.pc_program_bound.specs.declared.program.Program.{Program}
use Rattle.pc_program_bound.specs.Allocation.{IsProgram}
use Rattle.pc_program_bound.specs.CellPrograms.{program_with}
use Rattle.pc_simplex_tableau.specs.Numbers.{table}
use Rattle.pc_simplex_tableau.proofs.Listed.{length-table, at-table}
use Rattle.pc_branch.specs.Ends.{HasSmallGains}
use Rattle.pc_branch.specs.Outcome.{IsEasyProgram}
use Rattle.pc_cells.specs.declared.cells.Cell.{Cell}
use Rattle.pc_cells.specs.Found.{class_of_cell}
use Rattle.pc_proof.specs.Setting.{Setting, cells, on_chosen, program_for}
use Rattle.pc_agg_search.specs.declared.problem.Problem.{Problem}
use Rattle.pc_agg_search.specs.Limits.{greatest_gain}
use Rattle.pc_agg_search.specs.Problem.{IsEasyFor, IsPosed, setting_of}
use Rattle.pc_agg_search.specs.Targets.{chosen_gain}
use Rattle.pc_proof.proofs.Masks.{map_twice}
use Rattle.pc_agg_search.proofs.PosedPrograms.{own_classes, for_program, for_small, for_easy}
use Rattle.pc_agg_search.proofs.UnseenPrograms.{tested_small}

abbrev pub no_cell : Cell
no_cell = record { mask = 0; chosen = false; leaves = [] }

-- a table of what a list gives at each place
pub table_mapped : {X Y : Type 0} (f : ℕ → Y) (g : X → Y) (xs : List X) (d : X) (e : Y) → ((i : ℕ) → i < length xs → f i ≡ g (get_or xs i d)) → table (length xs) f ≡ map g xs
table_mapped f g xs d e each =
    ext_get_or e (table (length xs) f) (map g xs) (length-table (length xs) f ∙ sym (length-map xs g))
    (λ i h.
    let there : i < length xs = omega (arith, h, length-table (length xs) f) in
    at-table (length xs) f i e there ∙ each i there ∙ sym (get_or-map g xs i d e there))

pub map_alike : {X : Type 0} (g : ℤ) (xs : List X) → replicate (length xs) g ≡ map (λ (x : X). g) xs
map_alike g [] = refl
map_alike g (x ∷ xs) = ap (λ later. g ∷ later) (map_alike g xs)

module _ (s : Setting) (list : List Cell) (classes : map class_of_cell list ≡ cells s) where
  abbrev class_at : ℕ → Class
  class_at i = class_of_cell (get_or list i no_cell)

  -- gains that are those of the classes
  pub gains_are : (own : ℕ → ℤ) (gain : Class → ℤ) → ((i : ℕ) → i < length list → own i ≡ gain (class_at i)) → table (length list) own ≡ map gain (cells s)
  gains_are own gain each =
      table_mapped own (λ cell. gain (class_of_cell cell)) list no_cell (pos 0) each ∙ map_twice gain class_of_cell list ∙ ap (map gain) classes

  pub program_is : (gains : List ℤ) (gain : Class → ℤ) → gains ≡ map gain (cells s) → program_with s.question.constraints (map class_of_cell list) gains ≡ program_for s gain
  program_is gains gain is = ap₂ (program_with s.question.constraints) classes is

  pub chosen_is : (gain : ℤ) → program_with s.question.constraints (map class_of_cell list) (table (length list) (chosen_gain list gain)) ≡ program_for s (on_chosen (λ class. gain))
  chosen_is gain = program_is (table (length list) (chosen_gain list gain)) (on_chosen (λ class. gain)) (gains_are (chosen_gain list gain) (on_chosen (λ class. gain)) (λ i h. refl))

  pub even_is : (gain : ℤ) → program_with s.question.constraints (map class_of_cell list) (replicate (length list) gain) ≡ program_for s (λ class. gain)
  even_is gain =
      program_is (replicate (length list) gain) (λ class. gain)
      (ap (λ n. replicate n gain) (sym (length-map list class_of_cell) ∙ ap length classes) ∙ map_alike gain (cells s))

-- ---- what the code makes of the cells of a problem

module _ (problem : Problem) (posed : IsPosed problem) where
  abbrev u : Setting
  u = setting_of problem

  -- ---- the same gain in the chosen cells

  module _ (gain : ℤ) (p : Program) (is : p ≡ program_with problem.constraints.now (map class_of_cell problem.cells.now.cells) (table (length problem.cells.now.cells) (chosen_gain problem.cells.now.cells gain))) where
    pub chosen_for : p ≡ program_for u (on_chosen (λ class. gain))
    chosen_for = is ∙ chosen_is u problem.cells.now.cells (own_classes problem posed) gain

    pub chosen_formed : IsProgram p
    chosen_formed = subst IsProgram (sym chosen_for) (for_program problem posed (on_chosen (λ class. gain)))

    module _ (small : nat_abs gain ≤ greatest_gain) where
      each_small : (class : Class) → nat_abs (on_chosen (λ class. gain) class) ≤ greatest_gain
      each_small class = tested_small (greatest_gain) class.chosen gain small

      pub chosen_small : HasSmallGains p
      chosen_small = subst HasSmallGains (sym chosen_for) (for_small problem posed (on_chosen (λ class. gain)) each_small)

      pub chosen_easy : IsEasyFor problem → IsEasyProgram p
      chosen_easy easy = subst IsEasyProgram (sym chosen_for) (for_easy problem posed (on_chosen (λ class. gain)) each_small easy)

  -- ---- and in all cells

  module _ (gain : ℤ) (p : Program) (is : p ≡ program_with problem.constraints.now (map class_of_cell problem.cells.now.cells) (replicate (length problem.cells.now.cells) gain)) where
    pub even_for : p ≡ program_for u (λ class. gain)
    even_for = is ∙ even_is u problem.cells.now.cells (own_classes problem posed) gain

    pub even_formed : IsProgram p
    even_formed = subst IsProgram (sym even_for) (for_program problem posed (λ class. gain))

    module _ (small : nat_abs gain ≤ greatest_gain) where
      pub even_small : HasSmallGains p
      even_small = subst HasSmallGains (sym even_for) (for_small problem posed (λ class. gain) (λ class. small))

      pub even_easy : IsEasyFor problem → IsEasyProgram p
      even_easy easy = subst IsEasyProgram (sym even_for) (for_easy problem posed (λ class. gain) (λ class. small) easy)
