-- Which region a part stands for: what each atom leaves of the domain, atom by atom.
use Rattle.std.specs.Prelude.{List, [], ◌∷◌, bytes_eq, Option, Some, None, Result, Ok, Err, if◌then◌else◌}
use Rattle.pc_model.specs.declared.fault.Reason.{Reason}
use Rattle.pc_model.specs.declared.fault.Reason.TheVariants as reasons
use Rattle.pc_model.specs.declared.schema.Kind.{Kind}
use Rattle.pc_model.specs.declared.schema.Column.{Column}
use Rattle.pc_model.specs.declared.schema.Schema.{Schema}
use Rattle.pc_model.specs.declared.region.Side.{Side}
use Rattle.pc_model.specs.declared.region.Region.{Region}
use Rattle.pc_model.specs.Refusals.{◌>>=◌}
use Rattle.pc_model.specs.Regions.{meet_sides, whole_region}
use Rattle.pc_lang_grammar.specs.declared.syntax.Claim.{Claim}
use Rattle.pc_lang_grammar.specs.declared.syntax.Atom.{Atom}
use Rattle.pc_lang_grammar.specs.declared.syntax.Part.{Part}
use Rattle.pc_lang.specs.Claims.{stated}

abbrev pub unless_empty : Option Side → Result Side Reason
unless_empty None = Err reasons.EmptySpan
unless_empty (Some side) = Ok side

-- what a claim leaves of a side
unfoldable pub narrowed_side : Kind → Claim → Side → Result Side Reason
narrowed_side kind claim side = stated kind claim >>= λ other. unless_empty (meet_sides side other)

-- the sides of these columns, of which an atom narrows that of the column it names
unfoldable pub narrowed : List Column → Atom → List Side → Result (List Side) Reason
narrowed [] atom sides = Err reasons.UnknownColumn
narrowed (column ∷ columns) atom [] = Err reasons.UnknownColumn
narrowed (column ∷ columns) atom (side ∷ sides) =
    if bytes_eq column.name atom.column then (narrowed_side column.kind atom.claim side >>= λ less. Ok (less ∷ sides))
    else (narrowed columns atom sides >>= λ others. Ok (side ∷ others))

-- what all of the atoms leave of the sides
unfoldable pub narrowed_by : List Column → List Atom → List Side → Result (List Side) Reason
narrowed_by columns [] sides = Ok sides
narrowed_by columns (atom ∷ rest) sides = narrowed columns atom sides >>= λ less. narrowed_by columns rest less

abbrev pub region : List Side → Result Region Reason
region sides = Ok (record { sides = sides })

-- what a part leaves of the domain
unfoldable pub region_of : Schema → Part → Result Region Reason
region_of schema part = narrowed_by schema.columns part.atoms (whole_region schema).sides >>= region
