-- A part means that all of its atoms hold, and parts joined by `or` that one of them does.
use Rattle.std.proofs.Common.{◌≡◌, ◌&&◌, ◌||◌, Bool, true, false, ℤ, List, [], ◌∷◌, ◌++◌, bytes_eq, nat_le, length, Ok, refl, sym, ◌∙◌}
use Rattle.std.specs.List.{list_all, list_any}
use Rattle.std.specs.Cmp.Lexicographic.{pointwise}
use Rattle.std.proofs.lemmas.Bool.{and_parts}
use Rattle.std.proofs.lemmas.List.Folds.{list_any-append}
use Rattle.pc_model.specs.declared.fault.Reason.TheVariants as reasons
use Rattle.pc_model.specs.declared.schema.Column.{Column}
use Rattle.pc_model.specs.declared.schema.Schema.{Schema}
use Rattle.pc_model.specs.declared.row.Row.{Row}
use Rattle.pc_model.specs.declared.region.Side.{Side}
use Rattle.pc_model.specs.declared.region.Region.{Region}
use Rattle.pc_model.specs.Boxes.{box_limit}
use Rattle.pc_model.specs.Refusals.{◌>>=◌}
use Rattle.pc_model.specs.WellFormed.{IsWellFormed}
use Rattle.pc_model.specs.Membership.{has, holds, in_domain}
use Rattle.pc_model.specs.Regions.{is_side_of, whole_region}
use Rattle.pc_lang_grammar.specs.declared.syntax.Atom.{Atom}
use Rattle.pc_lang_grammar.specs.declared.syntax.Part.{Part}
use Rattle.pc_model.proofs.Bools.{and_last}
use Rattle.pc_model.proofs.WholeDomain.{domain_holds, whole_are_sides}
use Rattle.pc_lang.specs.Areas.{all_parts, area, area_of, regions_from}
use Rattle.pc_lang.specs.Holding.{PartsHold, WaysHold, cells_hold, part_holds, states}
use Rattle.pc_lang.specs.Parts.{narrowed, narrowed_by, narrowed_side, region, region_of}
use Rattle.pc_lang.proofs.Bound.{bound, passed}
use Rattle.pc_lang.proofs.Narrowing.{narrowed_induction}
use Rattle.pc_lang.proofs.RegionsOfParts.{AreSides, narrowed_are_sides}
use Rattle.pc_lang.proofs.StatedCells.{left_holds}

and_one : (c : Bool) → c ≡ (c && true)
and_one true = refl
and_one false = refl

and_shift : (a b c : Bool) → (a && (b && c)) ≡ ((a && b) && c)
and_shift true b c = refl
and_shift false b c = refl

-- cells that what is left of the sides holds
abbrev Narrows : Atom → List Column → List Side → List Side → Type 0
Narrows atom columns sides less = AreSides columns sides → (cells : List ℤ) → pointwise holds less cells ≡ (pointwise holds sides cells && cells_hold columns atom cells)

here : (atom : Atom) (column : Column) (columns : List Column) (side : Side) (sides : List Side) (less : Side) → bytes_eq column.name atom.column ≡ true → narrowed_side column.kind atom.claim side ≡ Ok less → Narrows atom (column ∷ columns) (side ∷ sides) (less ∷ sides)
unfolding cells_hold
here atom column columns side sides less same left all [] = refl
here atom column columns side sides less same left all (cell ∷ cells) =
    let p = and_parts (is_side_of column.kind side) (pointwise (λ (column : Column). is_side_of column.kind) columns sides) all in
    rw (same, left_holds column.kind atom.claim side less cell p.0 left) (and_last (holds side cell) (states column.kind atom.claim cell) (pointwise holds sides cells))

later : (atom : Atom) (column : Column) (columns : List Column) (side : Side) (sides others : List Side) → bytes_eq column.name atom.column ≡ false → narrowed columns atom sides ≡ Ok others → Narrows atom columns sides others → Narrows atom (column ∷ columns) (side ∷ sides) (side ∷ others)
unfolding cells_hold
later atom column columns side sides others other found rest all [] = refl
later atom column columns side sides others other found rest all (cell ∷ cells) =
    let p = and_parts (is_side_of column.kind side) (pointwise (λ (column : Column). is_side_of column.kind) columns sides) all in
    rw (other, rest p.1 cells) (and_shift (holds side cell) (pointwise holds sides cells) (cells_hold columns atom cells))

atoms_hold : (columns : List Column) (atoms : List Atom) (sides less : List Side) → narrowed_by columns atoms sides ≡ Ok less → AreSides columns sides → (cells : List ℤ) → pointwise holds less cells ≡ (pointwise holds sides cells && list_all (λ atom. cells_hold columns atom cells) atoms)
unfolding narrowed_by
atoms_hold columns [] sides less e all cells = let same : sides ≡ less = cc in rw (← same) (and_one (pointwise holds sides cells))
atoms_hold columns (atom ∷ rest) sides less e all cells =
    let b = bound (narrowed_by columns rest) (narrowed columns atom sides) less e in
    atoms_hold columns rest b.value less b.gives (narrowed_are_sides atom columns sides b.value b.is all) cells
    ∙ rw (narrowed_induction (Narrows atom) atom (here atom) (later atom) columns sides b.value b.is all cells)
    (sym (and_shift (pointwise holds sides cells) (cells_hold columns atom cells) (list_all (λ atom. cells_hold columns atom cells) rest)))

pub parts_hold : PartsHold
unfolding region_of has in_domain
parts_hold schema part found formed e row =
    let b = bound region (narrowed_by schema.columns part.atoms (whole_region schema).sides) found e in
    let same : record { sides = b.value } ≡ found = (let gives = b.gives in cc) in
    rw (← same) (atoms_hold schema.columns part.atoms (whole_region schema).sides b.value b.is (whole_are_sides schema.columns formed.columns.all) row.cells
    ∙ rw (domain_holds schema.columns row.cells) refl)

or_none : (x d : Bool) → x ≡ (x || (d && false))
or_none true d = refl
or_none false true = refl
or_none false false = refl

or_one : (x d p q : Bool) → ((x || ((d && p) || false)) || (d && q)) ≡ (x || (d && (p || q)))
or_one true d p q = refl
or_one false true true q = refl
or_one false true false q = refl
or_one false false p q = refl

abbrev some_has : List Region → Row → Bool
some_has boxes row = list_any (λ (box : Region). has box row) boxes

-- rows of the regions before, or rows of the domain of which some part holds
regions_hold : (schema : Schema) (before : List Region) (parts : List Part) (found : List Region) → IsWellFormed schema → regions_from schema before parts ≡ Ok found → (row : Row) → some_has found row ≡ (some_has before row || (in_domain schema row && list_any (λ part. part_holds schema part row) parts))
unfolding regions_from
regions_hold schema before [] found formed e row = let same : before ≡ found = cc in rw (← same) (or_none (some_has before row) (in_domain schema row))
regions_hold schema before (part ∷ rest) found formed e row =
    let b = bound (λ (box : Region). regions_from schema (before ++ box ∷ []) rest) (region_of schema part) found e in
    regions_hold schema (before ++ b.value ∷ []) rest found formed b.gives row
    ∙ rw (list_any-append (λ (box : Region). has box row) before (b.value ∷ []), parts_hold schema part b.value formed b.is row)
    (or_one (some_has before row) (in_domain schema row) (part_holds schema part row) (list_any (λ part. part_holds schema part row) rest))

pub ways_hold : WaysHold
unfolding area_of
ways_hold schema ways found formed e row =
    let few = passed (nat_le box_limit (length ways.others)) reasons.TooMany (regions_from schema [] (all_parts ways) >>= area) found e in
    let b = bound area (regions_from schema [] (all_parts ways)) found few.1 in
    let same : record { boxes = b.value } ≡ found = (let gives = b.gives in cc) in
    rw (← same) (regions_hold schema [] (all_parts ways) b.value formed b.is row)
