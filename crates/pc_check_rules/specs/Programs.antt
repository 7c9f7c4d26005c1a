-- The programs of search trees, made of cells.
use Rattle.std.specs.Prelude.{◌≡◌, ℕ, ℤ, pos, neg_ℤ, ◌-ℤ◌, ◌*ℤ◌, Bool, cond, ◌&&◌, List, map}
use Rattle.std.specs.List.{zip}
use Rattle.pc_model.specs.declared.constraint.Constraint.{Constraint}
use Rattle.pc_model.specs.declared.query.Agg.{Agg}
use Rattle.pc_model.specs.declared.query.Agg.TheVariants.{Count, Sum, Min, Max, Avg}
use Rattle.pc_model.specs.Aggregate.{Ratio}
use Rattle.pc_program_bound.specs.declared.program.Program.{Program}
use Rattle.pc_program_bound.specs.CellPrograms.{program_with}
use Rattle.pc_num.specs.declared.Frac.{Frac}
use Rattle.pc_proof.specs.Setting.{Setting, on_chosen, program_for}
use Rattle.pc_proof.specs.Table.{ratio_of, is_under, is_over, is_within, is_from, high_program, low_program}
use Rattle.pc_check_rules.specs.declared.cells.GatheredCell.{GatheredCell}
use Rattle.pc_check_rules.specs.declared.extreme.Extreme.{Extreme}
use Rattle.pc_check_rules.specs.declared.extreme.Extreme.TheVariants.{Low, High}
use Rattle.pc_check_rules.specs.declared.scene.Scene.{Scene}
use Rattle.pc_check_rules.specs.Cells.{class_of_cell}
use Rattle.pc_check_rules.specs.Scene.{IsSceneOf}

-- ---- gains

-- a gain of the chosen cells, and 0 of the others
abbrev pub chosen_gain : ℤ → GatheredCell → ℤ
chosen_gain gain cell = cond cell.chosen gain (pos 0)

-- 1 for a row of a chosen cell that passes
abbrev pub counted_gain : Bool → GatheredCell → ℤ
counted_gain passes cell = cond (cell.chosen && passes) (pos 1) (pos 0)

abbrev pub high_gain : Agg → Ratio → GatheredCell → ℤ
high_gain Count v cell = chosen_gain (pos 1) cell
high_gain Sum v cell = chosen_gain cell.high cell
high_gain Min v cell = chosen_gain (pos 1) cell
high_gain Max v cell = counted_gain (is_over cell.high v) cell
high_gain Avg v cell = chosen_gain (v.den *ℤ cell.high -ℤ v.num) cell

abbrev pub low_gain : Agg → Ratio → GatheredCell → ℤ
low_gain Count v cell = chosen_gain (neg_ℤ (pos 1)) cell
low_gain Sum v cell = chosen_gain (neg_ℤ cell.low) cell
low_gain Min v cell = counted_gain (is_under cell.low v) cell
low_gain Max v cell = chosen_gain (pos 1) cell
low_gain Avg v cell = chosen_gain (v.num -ℤ v.den *ℤ cell.low) cell

abbrev pub gain_towards : Extreme → Agg → Ratio → GatheredCell → ℤ
gain_towards High agg v cell = high_gain agg v cell
gain_towards Low agg v cell = low_gain agg v cell

-- ---- closed cells

-- of the least number at a high end, and of the greatest one at a low end, those whose rows are all within the value
abbrev pub is_closed : Extreme → Ratio → GatheredCell → Bool
is_closed High v cell = is_within cell.high v
is_closed Low v cell = is_from cell.low v

abbrev pub open_cap : Extreme → Ratio → GatheredCell → ℕ → ℕ
open_cap extreme v cell cap = cond (cell.chosen && is_closed extreme v cell) 0 cap

abbrev pub open_caps : Extreme → Ratio → List GatheredCell → List ℕ → List ℕ
open_caps extreme v cells caps = map (λ (pair : GatheredCell × ℕ). open_cap extreme v pair.0 pair.1) (zip cells caps)

-- ---- programs

abbrev pub program_on : List Constraint → List GatheredCell → List ℤ → Program
program_on constraints cells gains = program_with constraints (map class_of_cell cells) gains

-- with no rows in the chosen cells that are closed
abbrev pub with_closed : Extreme → Ratio → List GatheredCell → Program → Program
with_closed extreme v cells p = record p { cap = open_caps extreme v cells p.cap }

abbrev pub open_on : Extreme → List Constraint → List GatheredCell → Agg → Ratio → Program
open_on extreme constraints cells agg v = program_on constraints cells (map (gain_towards extreme agg v) cells)

abbrev pub program_towards : Extreme → List Constraint → List GatheredCell → Agg → Ratio → Program
program_towards High constraints cells Min v = with_closed High v cells (open_on High constraints cells Min v)
program_towards Low constraints cells Max v = with_closed Low v cells (open_on Low constraints cells Max v)
program_towards extreme constraints cells agg v = open_on extreme constraints cells agg v

-- the program of the rules for a search tree that shows a value to be this end
abbrev pub table_program : Extreme → Setting → Agg → Ratio → Program
table_program High s agg v = high_program s agg v
table_program Low s agg v = low_program s agg v

-- ---- programs that settings have

-- for a search tree that shows a value to be this end
abbrev pub end_program : Extreme → Agg → Frac → Setting → Program
end_program extreme agg value s = table_program extreme s agg (ratio_of value)

-- with the same gain for each cell, or for each chosen one
abbrev pub even_program : ℤ → Setting → Program
even_program gain s = program_for s (λ class. gain)

abbrev pub chosen_program : ℤ → Setting → Program
chosen_program gain s = program_for s (on_chosen (λ class. gain))

-- each setting of the scene has this one
abbrev pub IsProgramIn : Scene → (Setting → Program) → Program → Type 0
IsProgramIn scene program p = (s : Setting) → IsSceneOf scene s → p ≡ program s
