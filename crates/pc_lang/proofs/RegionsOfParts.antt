-- A part stands for a region of the schema.
use Rattle.std.proofs.Common.{◌≡◌, true, List, [], ◌∷◌, Result, Ok, Err, IfOk, subst}
use Rattle.std.specs.Cmp.Lexicographic.{pointwise}
use Rattle.std.proofs.lemmas.Bool.{and_parts, and_from}
use Rattle.pc_model.specs.declared.schema.Column.{Column}
use Rattle.pc_model.specs.declared.schema.Schema.{Schema}
use Rattle.pc_model.specs.declared.region.Side.{Side}
use Rattle.pc_model.specs.declared.region.Region.{Region}
use Rattle.pc_model.specs.declared.fault.ReadStop.{ReadStop}
use Rattle.pc_model.specs.Refusals.{Answers}
use Rattle.pc_model.specs.Regions.{is_side_of, is_region_of, whole_region}
use Rattle.pc_model.specs.WellFormed.{IsWellFormed}
use Rattle.pc_model.proofs.WholeDomain.{whole_are_sides}
use Rattle.pc_lang_grammar.specs.declared.syntax.Atom.{Atom}
use Rattle.pc_lang_grammar.specs.declared.syntax.Part.{Part}
use Rattle.pc_lang.specs.Parts.{narrowed, narrowed_by, region, region_of}
use Rattle.pc_lang.proofs.Bound.{bound}
use Rattle.pc_lang.proofs.Meeting.{left_is_side}
use Rattle.pc_lang.proofs.Narrowing.{narrowed_induction}

-- a side for each column
abbrev pub AreSides : List Column → List Side → Type 0
AreSides columns sides = pointwise (λ (column : Column). is_side_of column.kind) columns sides ≡ true

pub narrowed_are_sides : (atom : Atom) (columns : List Column) (sides less : List Side) → narrowed columns atom sides ≡ Ok less → AreSides columns sides → AreSides columns less
narrowed_are_sides atom columns sides less e =
    narrowed_induction (λ columns sides less. AreSides columns sides → AreSides columns less) atom
    (λ column columns side sides less same left all.
    let p = and_parts (is_side_of column.kind side) (pointwise (λ (column : Column). is_side_of column.kind) columns sides) all in
    and_from (is_side_of column.kind less) (pointwise (λ (column : Column). is_side_of column.kind) columns sides) (left_is_side column.kind atom.claim side less left p.0) p.1)
    (λ column columns side sides others other found keeps all.
    let p = and_parts (is_side_of column.kind side) (pointwise (λ (column : Column). is_side_of column.kind) columns sides) all in
    and_from (is_side_of column.kind side) (pointwise (λ (column : Column). is_side_of column.kind) columns others) p.0 (keeps p.1))
    columns sides less e

all_are_sides : (columns : List Column) (atoms : List Atom) (sides less : List Side) → narrowed_by columns atoms sides ≡ Ok less → AreSides columns sides → AreSides columns less
unfolding narrowed_by
all_are_sides columns [] sides less e all = let same : sides ≡ less = cc in subst (AreSides columns) same all
all_are_sides columns (atom ∷ rest) sides less e all =
    let b = bound (narrowed_by columns rest) (narrowed columns atom sides) less e in
    all_are_sides columns rest b.value less b.gives (narrowed_are_sides atom columns sides b.value b.is all)

pub is_region : (schema : Schema) (part : Part) (region : Region) → IsWellFormed schema → region_of schema part ≡ Ok region → is_region_of schema region ≡ true
unfolding region_of is_region_of
is_region schema part found formed e =
    let b = bound region (narrowed_by schema.columns part.atoms (whole_region schema).sides) found e in
    let same : record { sides = b.value } ≡ found = cc in
    subst (λ (r : Region). AreSides schema.columns r.sides) same
    (all_are_sides schema.columns part.atoms (whole_region schema).sides b.value b.is (whole_are_sides schema.columns formed.columns.all))

pub part_is_region : (schema : Schema) (part : Part) (result : Result Region ReadStop) → IsWellFormed schema → Answers result (region_of schema part) → IfOk result (λ region. is_region_of schema region ≡ true)
part_is_region schema part (Ok region) formed e = is_region schema part region formed e
part_is_region schema part (Err stop) formed e = tt
