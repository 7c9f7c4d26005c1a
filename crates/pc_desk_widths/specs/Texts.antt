-- The texts of changes and of widths.
use Rattle.std.specs.Prelude.{ℕ, ◌-◌, ◌^◌, ℤ, pos, int_div, List, [], ◌∷◌, ◌++◌, codes, decimal, slice_get}
use Rattle.std.specs.List.{concat}
use Rattle.pc_num.specs.Put.{scaled_text}
use Rattle.pc_model.specs.declared.constraint.Constraint.{Constraint}
use Rattle.pc_desk_short.specs.ShortTexts.{name_in}
use Rattle.pc_desk_table.specs.Texts.{shown}
use Rattle.pc_desk_weigh.specs.declared.change.Change.{Change}
use Rattle.pc_desk_weigh.specs.declared.change.Limit.{Limit}
use Rattle.pc_desk_weigh.specs.declared.change.Limit.TheVariants.{Least, Most, Values}

-- a limit as it stands after the name of a constraint
abbrev pub limit_text : Limit → List ℕ
limit_text (Least least) = concat (codes " least " ∷ decimal least ∷ [])
limit_text (Most most) = concat (codes " most " ∷ decimal most ∷ [])
limit_text Values = codes " values true"

-- a change as the language writes the constraint's name and its new limit: `orders most 6`
abbrev pub change_text : List Constraint → Change → List ℕ
change_text constraints change = shown (name_in (slice_get constraints change.place) ++ limit_text change.limit)

-- millionths as a decimal of so many places, without what lies beyond these
abbrev pub wider_text : ℕ → ℤ → List ℕ
wider_text places millionths = shown (scaled_text (int_div millionths (pos (10 ^ (6 - places)))) places)
