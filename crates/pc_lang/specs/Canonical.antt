-- The canonical text of constraints and queries.
use Rattle.std.specs.Prelude.{ℕ, ◌+◌, ◌-◌, ◌==◌, ◌&&◌, Bool, false, ℤ, pos, List, [], ◌∷◌, ◌++◌, flat_map, map, Option, Some, None, if◌then◌else◌}
use Rattle.std.specs.Cmp.Lexicographic.{pointwise}
use Rattle.std.specs.Ordering.{int_eq}
use Rattle.pc_num.specs.Put.{scaled_text}
use Rattle.pc_model.specs.declared.schema.Kind.{Kind}
use Rattle.pc_model.specs.declared.schema.Kind.TheVariants.{Int, Dec, Cat}
use Rattle.pc_model.specs.declared.schema.Column.{Column}
use Rattle.pc_model.specs.declared.schema.Schema.{Schema}
use Rattle.pc_model.specs.declared.region.Side.{Side}
use Rattle.pc_model.specs.declared.region.Side.TheVariants.{Span, Names}
use Rattle.pc_model.specs.declared.region.Region.{Region}
use Rattle.pc_model.specs.declared.area.Area.{Area}
use Rattle.pc_model.specs.declared.constraint.When.{When}
use Rattle.pc_model.specs.declared.constraint.When.TheVariants.{Boxes, Outside}
use Rattle.pc_model.specs.declared.constraint.Constraint.{Constraint}
use Rattle.pc_model.specs.declared.query.Agg.{Agg}
use Rattle.pc_model.specs.declared.query.Agg.TheVariants as aggs
use Rattle.pc_model.specs.declared.query.Query.{Query}
use Rattle.pc_model.specs.Places.{is_place_of}
use Rattle.pc_model.specs.Regions.{whole_side}
use Rattle.pc_lang_tokens.specs.Texts.{tokens_text}
use Rattle.pc_lang_grammar.specs.declared.syntax.Claim.{Claim}
use Rattle.pc_lang_grammar.specs.declared.syntax.Claim.TheVariants as claims
use Rattle.pc_lang_grammar.specs.declared.syntax.Atom.{Atom}
use Rattle.pc_lang_grammar.specs.declared.syntax.Part.{Part}
use Rattle.pc_lang_grammar.specs.declared.syntax.Ways.{Ways}
use Rattle.pc_lang_grammar.specs.declared.syntax.Head.{Head}
use Rattle.pc_lang_grammar.specs.declared.syntax.Head.TheVariants as heads
use Rattle.pc_lang_grammar.specs.declared.syntax.Line.{Line}
use Rattle.pc_lang_grammar.specs.declared.syntax.Measure.{Measure}
use Rattle.pc_lang_grammar.specs.declared.syntax.Measure.TheVariants as measures
use Rattle.pc_lang_grammar.specs.declared.syntax.Question.{Question}
use Rattle.pc_lang_grammar.specs.Grammar.{line_tokens, question_tokens}

-- one number, or all from one to another
unfoldable pub span_claim : ℕ → ℤ → ℤ → Claim
span_claim scale low high = if int_eq low high then claims.Number (scaled_text low scale) else claims.Within (scaled_text low scale) (scaled_text high scale)

-- the names of the places of a set, from a place on
unfoldable pub names_from : ℕ → ℕ → List (List ℕ) → List (List ℕ)
names_from bits place [] = []
names_from bits place (name ∷ rest) = if is_place_of bits (pos place) then name ∷ names_from bits (place + 1) rest else names_from bits (place + 1) rest

-- the name of a place, if it is one of the bits
abbrev pub name_if : ℕ → ℕ → List ℕ → List (List ℕ)
name_if bits place name = if is_place_of bits (pos place) then name ∷ [] else []

-- one name, or more; no set of a column is empty
abbrev pub names_claim : List (List ℕ) → Claim
names_claim [] = claims.Name []
names_claim (name ∷ []) = claims.Name name
names_claim (first ∷ second ∷ others) = claims.Among first (second ∷ others)

-- what a side says of its column; no column has a side of the other kind
unfoldable pub side_claim : Kind → Side → Claim
side_claim (Int low high) (Span from upto) = span_claim 0 from upto
side_claim (Dec scale low high) (Span from upto) = span_claim scale from upto
side_claim (Cat names) (Names bits) = names_claim (names_from bits 0 names)
side_claim kind side = claims.Name []

abbrev pub same_side : Side → Side → Bool
same_side (Span low high) (Span other_low other_high) = int_eq low other_low && int_eq high other_high
same_side (Span low high) (Names bits) = false
same_side (Names bits) (Span low high) = false
same_side (Names bits) (Names other_bits) = bits == other_bits

-- every side is that of the whole domain
unfoldable pub is_whole : Schema → Region → Bool
is_whole schema region = pointwise (λ (column : Column) side. same_side side (whole_side column.kind)) schema.columns region.sides

-- an atom for a side, unless it is whole
unfoldable pub side_atoms : Column → Side → List Atom
side_atoms column side = if same_side side (whole_side column.kind) then [] else record { column = column.name; claim = side_claim column.kind side } ∷ []

-- the atoms of the columns whose side is not whole, in order
unfoldable pub atoms_for : List Column → List Side → List Atom
atoms_for [] sides = []
atoms_for (column ∷ columns) [] = []
atoms_for (column ∷ columns) (side ∷ sides) = side_atoms column side ++ atoms_for columns sides

abbrev pub part_for : Schema → Region → Part
part_for schema region = record { atoms = atoms_for schema.columns region.sides }

-- the part of each box; no area is without one
unfoldable pub ways_for : Schema → List Region → Ways
ways_for schema [] = record { first = record { atoms = [] }; others = [] }
ways_for schema (first ∷ others) = record { first = part_for schema first; others = map (part_for schema) others }

unfoldable pub head_for : Schema → List ℕ → When → Head
head_for schema name (Boxes area) = heads.Named name (ways_for schema area.boxes)
head_for schema name Outside = heads.Outside

abbrev pub count_text : ℕ → List ℕ
count_text n = scaled_text (pos n) 0

unfoldable pub line_for : Schema → Constraint → Line
line_for schema c = record { head = head_for schema c.name c.when; values = part_for schema c.values; least = count_text c.least; most = count_text c.most }

-- a constraint is one line
unfoldable pub constraint_text : Schema → Constraint → List ℕ
constraint_text schema c = tokens_text (line_tokens (line_for schema c)) ++ (10 ∷ [])

unfoldable pub constraints_text : Schema → List Constraint → List ℕ
constraints_text schema constraints = flat_map (constraint_text schema) constraints

-- the name of the column at a place
unfoldable pub name_at : List Column → ℕ → List ℕ
name_at [] place = []
name_at (column ∷ rest) place = if place == 0 then column.name else name_at rest (place - 1)

abbrev pub measured_name : Schema → Option ℕ → List ℕ
measured_name schema None = []
measured_name schema (Some place) = name_at schema.columns place

unfoldable pub measure_for : Schema → Agg → Option ℕ → Measure
measure_for schema aggs.Count column = measures.Count
measure_for schema aggs.Sum column = measures.Sum (measured_name schema column)
measure_for schema aggs.Min column = measures.Min (measured_name schema column)
measure_for schema aggs.Max column = measures.Max (measured_name schema column)
measure_for schema aggs.Avg column = measures.Avg (measured_name schema column)

-- one box, which is the whole domain
abbrev pub are_whole : Schema → List Region → Bool
are_whole schema [] = false
are_whole schema (first ∷ []) = is_whole schema first
are_whole schema (first ∷ second ∷ others) = false

-- the parts of an area that is not written as the whole domain
abbrev pub chosen_for : Schema → Area → Option Ways
chosen_for schema area = if are_whole schema area.boxes then None else Some (ways_for schema area.boxes)

abbrev pub group_for : Schema → Option ℕ → Option (List ℕ)
group_for schema None = None
group_for schema (Some place) = Some (name_at schema.columns place)

unfoldable pub question_for : Schema → Query → Question
question_for schema query = record { measure = measure_for schema query.agg query.column; chosen = chosen_for schema query.chosen; group = group_for schema query.group }

unfoldable pub query_text : Schema → Query → List ℕ
query_text schema query = tokens_text (question_tokens (question_for schema query))
