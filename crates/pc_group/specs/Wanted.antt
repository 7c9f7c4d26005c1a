-- Which blocks queries want.
use Rattle.std.specs.Prelude.{ℕ, zero, suc, Bool, List, [], ◌∷◌, ◌++◌, length, map, filter, flat_map, Option, Some, None, slice_get}
use Rattle.pc_model.specs.declared.schema.Kind.{Kind}
use Rattle.pc_model.specs.declared.schema.Kind.TheVariants.{Int, Dec, Cat}
use Rattle.pc_model.specs.declared.schema.Column.{Column}
use Rattle.pc_model.specs.declared.schema.Schema.{Schema}
use Rattle.pc_model.specs.declared.area.Area.{Area}
use Rattle.pc_model.specs.declared.query.Query.{Query}
use Rattle.pc_proof.specs.Setting.{narrowed, some_allows}

-- a query, and the place of a name of its group column where it is grouped
pub record Wanted : Type 0 where
  pub query : Query
  pub name : Option ℕ

abbrev pub names_in : Kind → ℕ
names_in (Int low high) = 0
names_in (Dec scale low high) = 0
names_in (Cat names) = length names

abbrev pub names_at : Option Column → ℕ
names_at None = 0
names_at (Some column) = names_in column.kind

-- the places below a number, in their order
unfoldable pub places_below : ℕ → List ℕ
places_below zero = []
places_below (suc n) = places_below n ++ n ∷ []

-- the area allows the name at a place of a column
abbrev pub is_allowed : Area → ℕ → ℕ → Bool
is_allowed area column place = some_allows column place area

-- the names of the group column that the query's area allows, in the order of the schema
unfoldable pub allowed_names : Schema → Query → ℕ → List ℕ
allowed_names schema query column = filter (is_allowed query.chosen column) (places_below (names_at (slice_get schema.columns column)))

abbrev pub wanted_as : Query → Option ℕ → Wanted
wanted_as query name = record { query = query; name = name }

abbrev pub wanted_of : Query → ℕ → Wanted
wanted_of query place = wanted_as query (Some place)

-- one block, or one for each such name
abbrev pub wanted_in : Schema → Query → Option ℕ → List Wanted
wanted_in schema query None = wanted_as query None ∷ []
wanted_in schema query (Some column) = map (wanted_of query) (allowed_names schema query column)

abbrev pub wanted_by : Schema → Query → List Wanted
wanted_by schema query = wanted_in schema query query.group

-- the blocks of the queries, one query after the other
unfoldable pub wanted : Schema → List Query → List Wanted
wanted schema queries = flat_map (wanted_by schema) queries

-- the area of a block: the query's, of which a name of the group column keeps its part
abbrev pub area_of : Wanted → Area
area_of w = narrowed w.query.chosen w.query.group w.name
