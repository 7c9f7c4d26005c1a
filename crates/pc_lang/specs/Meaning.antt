-- Which constraint a line stands for, and which query a question: the checks of meaning, in their order.
use Rattle.std.specs.Prelude.{◌≡◌, ℕ, ◌+◌, ◌++◌, Bool, true, false, ⊤, unsigned_abs, List, [], ◌∷◌, length, bytes_eq, nat_le, nat_lt, Option, Some, None, Result, Ok, Err, if◌then◌else◌, not}
use Rattle.std.specs.Char.{is_ascii_digit}
use Rattle.std.specs.List.{list_all, list_any}
use Rattle.pc_model.specs.declared.fault.Reason.{Reason}
use Rattle.pc_model.specs.declared.fault.Reason.TheVariants as reasons
use Rattle.pc_model.specs.declared.schema.Kind.{Kind}
use Rattle.pc_model.specs.declared.schema.Kind.TheVariants.{Int, Dec, Cat}
use Rattle.pc_model.specs.declared.schema.Column.{Column}
use Rattle.pc_model.specs.declared.schema.Schema.{Schema}
use Rattle.pc_model.specs.declared.region.Region.{Region}
use Rattle.pc_model.specs.declared.area.Area.{Area}
use Rattle.pc_model.specs.declared.constraint.When.{When}
use Rattle.pc_model.specs.declared.constraint.When.TheVariants.{Boxes, Outside}
use Rattle.pc_model.specs.declared.constraint.Constraint.{Constraint}
use Rattle.pc_model.specs.declared.query.Agg.{Agg}
use Rattle.pc_model.specs.declared.query.Agg.TheVariants as aggs
use Rattle.pc_model.specs.declared.query.Query.{Query}
use Rattle.pc_model.specs.Accepted.{AreConstraints, constraint_limit, frequency_limit}
use Rattle.pc_model.specs.Numbers.{number_of}
use Rattle.pc_model.specs.Refusals.{◌>>=◌}
use Rattle.pc_model.specs.Regions.{whole_area}
use Rattle.pc_model.specs.Texts.{is_name}
use Rattle.pc_lang_grammar.specs.declared.syntax.Ways.{Ways}
use Rattle.pc_lang_grammar.specs.declared.syntax.Head.{Head}
use Rattle.pc_lang_grammar.specs.declared.syntax.Head.TheVariants as heads
use Rattle.pc_lang_grammar.specs.declared.syntax.Line.{Line}
use Rattle.pc_lang_grammar.specs.declared.syntax.Measure.{Measure}
use Rattle.pc_lang_grammar.specs.declared.syntax.Measure.TheVariants as measures
use Rattle.pc_lang_grammar.specs.declared.syntax.Question.{Question}
use Rattle.pc_lang.specs.Areas.{area_of}
use Rattle.pc_lang.specs.Parts.{region_of}

abbrev pub at_most_limit : ℕ → Result ℕ Reason
at_most_limit n = if nat_lt frequency_limit n then Err reasons.PastLimit else Ok n

-- a number of rows: digits alone, and not past its limit
unfoldable pub count_of : List ℕ → Result ℕ Reason
count_of text = if list_all is_ascii_digit text then (number_of 0 text >>= λ n. at_most_limit (unsigned_abs n)) else Err reasons.BadNumber

abbrev pub has_name : List Constraint → List ℕ → Bool
has_name constraints name = list_any (λ (c : Constraint). bytes_eq c.name name) constraints

-- the rows outside have no name
abbrev pub name_of : Head → List ℕ
name_of (heads.Named name ways) = name
name_of heads.Outside = []

abbrev pub boxes : Area → Result When Reason
boxes area = Ok (Boxes area)

unfoldable pub when_of : Schema → Head → Result When Reason
when_of schema (heads.Named name ways) = area_of schema ways >>= boxes
when_of schema heads.Outside = Ok Outside

abbrev pub in_order : List ℕ → When → Region → ℕ → ℕ → Result Constraint Reason
in_order name when values least most =
    if nat_lt most least then Err reasons.LeastOverMost else Ok (record { name = name; when = when; values = values; least = least; most = most })

-- the constraint of a line whose name is new
unfoldable pub new_constraint : Schema → Line → Result Constraint Reason
new_constraint schema line = do
  when ← when_of schema line.head
  values ← region_of schema line.values
  least ← count_of line.least
  most ← count_of line.most
  in_order (name_of line.head) when values least most

-- the constraint of a line after those before it: a second one of the rows outside has the name of the first
unfoldable pub constraint_of : Schema → List Constraint → Line → Result Constraint Reason
constraint_of schema before line =
    if nat_le constraint_limit (length before) then Err reasons.TooMany
    else if has_name before (name_of line.head) then Err reasons.RepeatedName
    else new_constraint schema line

-- the name of a line is a name
abbrev pub IsNamed : Head → Type 0
IsNamed (heads.Named name ways) = is_name name ≡ true
IsNamed heads.Outside = ⊤

-- constraints with it are accepted as those before it are
abbrev pub IsAcceptedAfter : Schema → List Constraint → Line → Constraint → Type 0
IsAcceptedAfter schema before line c = AreConstraints schema before → IsNamed line.head → AreConstraints schema (before ++ c ∷ [])

-- a kind with names, or one of numbers, as is asked
abbrev pub has_names_as : Bool → Kind → Bool
has_names_as asked (Int low high) = not asked
has_names_as asked (Dec scale low high) = not asked
has_names_as asked (Cat names) = asked

abbrev pub is_numeric : Kind → Bool
is_numeric = has_names_as false

abbrev pub has_names : Kind → Bool
has_names = has_names_as true

-- the place of the column of this name, which is of a kind that fits, counted from a place
unfoldable pub place_from : (Kind → Bool) → ℕ → List Column → List ℕ → Result ℕ Reason
place_from fits place [] name = Err reasons.UnknownColumn
place_from fits place (column ∷ rest) name =
    if bytes_eq column.name name then (if fits column.kind then Ok place else Err reasons.WrongKind)
    else place_from fits (place + 1) rest name

abbrev pub numeric_place : Schema → List ℕ → Result ℕ Reason
numeric_place schema name = place_from is_numeric 0 schema.columns name

abbrev pub names_place : Schema → List ℕ → Result ℕ Reason
names_place schema name = place_from has_names 0 schema.columns name

abbrev pub of_column : Agg → ℕ → Result (Agg × Option ℕ) Reason
of_column agg place = Ok (agg, Some place)

-- the aggregate, and the place of its column
unfoldable pub measured : Schema → Measure → Result (Agg × Option ℕ) Reason
measured schema measures.Count = Ok (aggs.Count, None)
measured schema measures.CountOfAll = Ok (aggs.Count, None)
measured schema (measures.Sum name) = numeric_place schema name >>= of_column aggs.Sum
measured schema (measures.Min name) = numeric_place schema name >>= of_column aggs.Min
measured schema (measures.Max name) = numeric_place schema name >>= of_column aggs.Max
measured schema (measures.Avg name) = numeric_place schema name >>= of_column aggs.Avg

-- the rows that are asked about: all where no part says which
abbrev pub chosen_of : Schema → Option Ways → Result Area Reason
chosen_of schema None = Ok (whole_area schema)
chosen_of schema (Some ways) = area_of schema ways

abbrev pub some_place : ℕ → Result (Option ℕ) Reason
some_place place = Ok (Some place)

abbrev pub grouping_of : Schema → Option (List ℕ) → Result (Option ℕ) Reason
grouping_of schema None = Ok None
grouping_of schema (Some name) = names_place schema name >>= some_place

abbrev pub query : Agg × Option ℕ → Area → Option ℕ → Result Query Reason
query measure chosen group = Ok (record { agg = measure.0; column = measure.1; chosen = chosen; group = group })

-- the query of a question
unfoldable pub query_of : Schema → Question → Result Query Reason
query_of schema question = do
  measure ← measured schema question.measure
  chosen ← chosen_of schema question.chosen
  group ← grouping_of schema question.group
  query measure chosen group
