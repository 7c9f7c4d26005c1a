-- The sides of the whole domain, column by column.
use Rattle.std.proofs.Common.{◌≡◌, ℕ, ◌+◌, ◌<◌, ◌≤◌, List, [], ◌∷◌, ◌++◌, length, get_or, take, take_all, map, refl}
use Rattle.std.proofs.lemmas.List.{map_push, take_more}
use Rattle.pc_model.specs.declared.schema.Column.{Column}
use Rattle.pc_model.specs.declared.region.Side.{Side}
use Rattle.pc_model.specs.Regions.{whole_side}

abbrev pub side_of_column : Column → Side
side_of_column column = whole_side column.kind

pub sides_step : (columns : List Column) (place : ℕ) (d : Column) → place < length columns → map side_of_column (take (place + 1) columns) ≡ map side_of_column (take place columns) ++ side_of_column (get_or columns place d) ∷ []
sides_step columns place d inside = rw (take_more columns place d inside) (map_push side_of_column (take place columns) (get_or columns place d))

pub sides_end : (columns : List Column) (place : ℕ) → length columns ≤ place → map side_of_column (take place columns) ≡ map side_of_column columns
sides_end columns place past = rw (take_all place columns past) refl

pub ruleset steps = (sides_step, sides_end)
