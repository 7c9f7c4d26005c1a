-- What is said of a problem most often.
use Rattle.std.specs.Prelude.{ℤ, List, map, IsSomeAnd}
use Rattle.std.specs.List.{AllZip}
use Rattle.pc_model.specs.declared.row.Row.{Row}
use Rattle.pc_model.specs.Accepted.{IsNumeric, IsColumnWhere}
use Rattle.pc_proof.specs.Setting.{cells, on_chosen}
use Rattle.pc_agg_search.specs.declared.extreme.Extreme.{Extreme}
use Rattle.pc_agg_search.specs.declared.problem.Problem.{Problem}
use Rattle.pc_agg_search.specs.Ends.{gain_towards, IsPick}
use Rattle.pc_agg_search.specs.Keys.{key_of, IsAtEnd}
use Rattle.pc_agg_search.specs.Problem.{setting_of}

-- the query is about a column of numbers
abbrev pub AsksNumbers : Problem → Type 0
AsksNumbers p = IsSomeAnd p.query.now.column (IsColumnWhere IsNumeric p.schema.now)

-- what each cell gains towards an end, and a row of each that gains it
abbrev pub gains_of : Problem → Extreme → List ℤ
gains_of p extreme = map (gain_towards (setting_of p) p.query.now.agg extreme) (cells (setting_of p))

abbrev pub ArePicks : Problem → Extreme → List Row → Type 0
ArePicks p extreme picks = AllZip (IsPick (setting_of p) p.query.now.agg extreme) (cells (setting_of p)) picks

-- the key of each cell at an end, and a row of each that has its number there
abbrev pub keys_of : Problem → Extreme → List ℤ
keys_of p extreme = map (on_chosen (key_of (setting_of p) extreme)) (cells (setting_of p))

abbrev pub AreAtEnd : Problem → Extreme → List Row → Type 0
AreAtEnd p extreme picks = AllZip (IsAtEnd (setting_of p) extreme) (cells (setting_of p)) picks
