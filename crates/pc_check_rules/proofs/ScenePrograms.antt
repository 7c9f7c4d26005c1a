-- Programs made of cells are those of the setting.
use Rattle.std.proofs.Common.{◌≡◌, ℕ, ℤ, List, [], ◌∷◌, length, map, refl, sym, ap, ◌∙◌}
use Rattle.std.specs.Prelude.{replicate}
use Rattle.std.specs.List.{zip}
use Rattle.pc_model.specs.declared.constraint.Constraint.{Constraint}
use Rattle.pc_model.specs.declared.query.Agg.{Agg}
use Rattle.pc_model.specs.declared.query.Agg.TheVariants.{Count, Sum, Min, Max, Avg}
use Rattle.pc_model.specs.declared.tree.Leaf.{Leaf}
use Rattle.pc_model.specs.Aggregate.{Ratio}
use Rattle.pc_model.specs.Cells.{Class, classes_of}
use Rattle.pc_program_bound.specs.CellPrograms.{cap_of, program_with}
use Rattle.pc_proof.specs.Setting.{Setting, column_of, leaves, on_chosen, program_for}
use Rattle.pc_proof.proofs.Masks.{map_twice}
use Rattle.pc_check_rules.specs.declared.cells.GatheredCell.{GatheredCell}
use Rattle.pc_check_rules.specs.declared.scene.Scene.{Scene}
use Rattle.pc_check_rules.specs.declared.extreme.Extreme.{Extreme}
use Rattle.pc_check_rules.specs.declared.extreme.Extreme.TheVariants.{Low, High}
use Rattle.pc_check_rules.specs.Cells.{class_of_cell, cell_of, cells_from}
use Rattle.pc_check_rules.specs.Scene.{IsSceneOf}
use Rattle.pc_check_rules.specs.Programs.{chosen_gain, gain_towards, open_cap, open_caps, program_on, with_closed, program_towards, table_program}
use Rattle.pc_check_rules.proofs.Gathered.{classes-from_cells}

-- the masks of cells are those of their classes
pub cell_masks : (cells : List GatheredCell) → map (λ (class : Class). class.mask) (map class_of_cell cells) ≡ map (λ (cell : GatheredCell). cell.mask) cells
cell_masks cells = sym (map_twice (λ (class : Class). class.mask) class_of_cell cells)

map_pairs : {X Y Z W : Type 0} (h : Y → Z → W) (f : X → Y) (g : X → Z) (xs : List X) → map (λ (pair : Y × Z). h pair.0 pair.1) (zip (map f xs) (map g xs)) ≡ map (λ x. h (f x) (g x)) xs
map_pairs h f g [] = refl
map_pairs h f g (x ∷ xs) = ap (λ later. h (f x) (g x) ∷ later) (map_pairs h f g xs)

module _ (constraints : List Constraint) (column : ℕ) (ls : List Leaf) where
  abbrev cells : List GatheredCell
  cells = cells_from column ls

  abbrev classes : List Class
  classes = classes_of ls

  gained : (gain : GatheredCell → ℤ) → program_on constraints cells (map gain cells) ≡ program_with constraints classes (map (λ class. gain (cell_of column ls class)) classes)
  gained gain =
      ap (λ of_cells. program_with constraints of_cells (map gain cells)) (classes-from_cells column ls cells refl)
      ∙ ap (program_with constraints classes) (sym (map_twice gain (cell_of column ls) classes))

  closed_caps : (extreme : Extreme) (v : Ratio)
      → open_caps extreme v cells (map (cap_of constraints) classes) ≡ map (λ class. open_cap extreme v (cell_of column ls class) (cap_of constraints class)) classes
  closed_caps extreme v = map_pairs (open_cap extreme v) (cell_of column ls) (cap_of constraints) classes

  closed : (extreme : Extreme) (v : Ratio) (gain : GatheredCell → ℤ) → with_closed extreme v cells (program_on constraints cells (map gain cells))
      ≡ record (program_with constraints classes (map (λ class. gain (cell_of column ls class)) classes)) {
        cap = map (λ class. open_cap extreme v (cell_of column ls class) (cap_of constraints class)) classes;
      }
  closed extreme v gain =
      let p = program_with constraints classes (map (λ class. gain (cell_of column ls class)) classes) in
      ap (with_closed extreme v cells) (gained gain) ∙ ap (λ caps. record p { cap = caps }) (closed_caps extreme v)

at_setting : (extreme : Extreme) (s : Setting) (agg : Agg) (v : Ratio)
    → program_towards extreme s.question.constraints (cells_from (column_of s.question) (leaves s)) agg v ≡ table_program extreme s agg v
at_setting High s Count v = gained s.question.constraints (column_of s.question) (leaves s) (gain_towards High Count v)
at_setting High s Sum v = gained s.question.constraints (column_of s.question) (leaves s) (gain_towards High Sum v)
at_setting High s Min v = closed s.question.constraints (column_of s.question) (leaves s) High v (gain_towards High Min v)
at_setting High s Max v = gained s.question.constraints (column_of s.question) (leaves s) (gain_towards High Max v)
at_setting High s Avg v = gained s.question.constraints (column_of s.question) (leaves s) (gain_towards High Avg v)
at_setting Low s Count v = gained s.question.constraints (column_of s.question) (leaves s) (gain_towards Low Count v)
at_setting Low s Sum v = gained s.question.constraints (column_of s.question) (leaves s) (gain_towards Low Sum v)
at_setting Low s Min v = gained s.question.constraints (column_of s.question) (leaves s) (gain_towards Low Min v)
at_setting Low s Max v = closed s.question.constraints (column_of s.question) (leaves s) Low v (gain_towards Low Max v)
at_setting Low s Avg v = gained s.question.constraints (column_of s.question) (leaves s) (gain_towards Low Avg v)

-- the program that is made is that of the rules
pub towards_table : (scene : Scene) (extreme : Extreme) (agg : Agg) (v : Ratio) (s : Setting) → IsSceneOf scene s
    → program_towards extreme scene.constraints.now scene.cells.now agg v ≡ table_program extreme s agg v
towards_table scene extreme agg v s is =
    ap (λ cells. program_towards extreme scene.constraints.now cells agg v) is.cells_are
    ∙ sym (ap (λ constraints. program_towards extreme constraints (cells_from (column_of s.question) (leaves s)) agg v) is.constraints_are)
    ∙ at_setting extreme s agg v

-- the program with any gains of cells
gained_table : (scene : Scene) (gain : GatheredCell → ℤ) (s : Setting) → IsSceneOf scene s → program_on scene.constraints.now scene.cells.now (map gain scene.cells.now)
    ≡ program_with s.question.constraints (classes_of (leaves s)) (map (λ class. gain (cell_of (column_of s.question) (leaves s) class)) (classes_of (leaves s)))
gained_table scene gain s is =
    ap (λ cells. program_on scene.constraints.now cells (map gain cells)) is.cells_are
    ∙ sym (ap (λ constraints. program_on constraints (cells_from (column_of s.question) (leaves s)) (map gain (cells_from (column_of s.question) (leaves s)))) is.constraints_are)
    ∙ gained s.question.constraints (column_of s.question) (leaves s) gain

pub chosen_table : (scene : Scene) (gain : ℤ) (gains : List ℤ) (s : Setting) → gains ≡ map (chosen_gain gain) scene.cells.now → IsSceneOf scene s
    → program_on scene.constraints.now scene.cells.now gains ≡ program_for s (on_chosen (λ class. gain))
chosen_table scene gain gains s are is = ap (program_on scene.constraints.now scene.cells.now) are ∙ gained_table scene (chosen_gain gain) s is

even_gains : (gain : ℤ) (cells : List GatheredCell) → replicate (length cells) gain ≡ map (λ cell. gain) cells
even_gains gain [] = refl
even_gains gain (cell ∷ cells) = ap (λ later. gain ∷ later) (even_gains gain cells)

pub even_table : (scene : Scene) (gain : ℤ) (gains : List ℤ) (s : Setting) → gains ≡ replicate (length scene.cells.now) gain → IsSceneOf scene s
    → program_on scene.constraints.now scene.cells.now gains ≡ program_for s (λ class. gain)
even_table scene gain gains s are is =
    ap (program_on scene.constraints.now scene.cells.now) (are ∙ even_gains gain scene.cells.now) ∙ gained_table scene (λ (cell : GatheredCell). gain) s is
