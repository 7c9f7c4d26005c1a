-- Parts stand for an area of the schema.
use Rattle.std.proofs.Common.{◌≡◌, ◌+◌, ◌<◌, true, List, [], ◌∷◌, ◌++◌, length, All, Result, Ok, Err, IfOk, subst, arith, nat_le, length-append}
use Rattle.std.proofs.lemmas.Bool.Decides.{nat_tests}
use Rattle.std.proofs.lemmas.List.Elements.{All-nil, All-push}
use Rattle.pc_model.specs.declared.fault.Reason.TheVariants as reasons
use Rattle.pc_model.specs.declared.fault.ReadStop.{ReadStop}
use Rattle.pc_model.specs.declared.schema.Schema.{Schema}
use Rattle.pc_model.specs.declared.region.Region.{Region}
use Rattle.pc_model.specs.declared.area.Area.{Area}
use Rattle.pc_model.specs.Boxes.{IsAreaOf, box_limit}
use Rattle.pc_model.specs.Refusals.{◌>>=◌, Answers}
use Rattle.pc_model.specs.Regions.{is_region_of}
use Rattle.pc_model.specs.WellFormed.{IsWellFormed}
use Rattle.pc_lang_grammar.specs.declared.syntax.Part.{Part}
use Rattle.pc_lang_grammar.specs.declared.syntax.Ways.{Ways}
use Rattle.pc_lang.specs.Areas.{all_parts, area, area_of, regions_from}
use Rattle.pc_lang.specs.Parts.{region_of}
use Rattle.pc_lang.proofs.Bound.{bound, passed}
use Rattle.pc_lang.proofs.RegionsOfParts.{is_region}

abbrev pub AreRegions : Schema → List Region → Type 0
AreRegions schema boxes = All (λ (box : Region). is_region_of schema box ≡ true) boxes

-- so many regions of the schema
record AreFound (schema : Schema) (before : List Region) (parts : List Part) (boxes : List Region) : Type 0 where
  many : length boxes ≡ length before + length parts
  each : AreRegions schema boxes

regions_are : (schema : Schema) (before : List Region) (parts : List Part) (boxes : List Region) → IsWellFormed schema → AreRegions schema before → regions_from schema before parts ≡ Ok boxes → AreFound schema before parts boxes
unfolding regions_from
regions_are schema before [] boxes formed are e =
    let same : before ≡ boxes = cc in
    subst (λ (found : List Region). AreFound schema before [] found) same (record { many = omega arith; each = are })
regions_are schema before (part ∷ rest) boxes formed are e =
    let b = bound (λ (found : Region). regions_from schema (before ++ found ∷ []) rest) (region_of schema part) boxes e in
    let pushed = All-push (λ (box : Region). is_region_of schema box ≡ true) before b.value are (is_region schema part b.value formed b.is) in
    let later = regions_are schema (before ++ b.value ∷ []) rest boxes formed pushed b.gives in
    let size = length-append before (b.value ∷ []) in
    let many = later.many in
    record { many = omega (arith, size, many); each = later.each }

pub is_area : (schema : Schema) (ways : Ways) (found : Area) → IsWellFormed schema → area_of schema ways ≡ Ok found → IsAreaOf schema found
unfolding area_of
is_area schema ways found formed e =
    let few = passed (nat_le box_limit (length ways.others)) reasons.TooMany (regions_from schema [] (all_parts ways) >>= area) found e in
    let b = bound area (regions_from schema [] (all_parts ways)) found few.1 in
    let are = regions_are schema [] (all_parts ways) b.value formed (All-nil (λ (box : Region). is_region_of schema box ≡ true)) b.is in
    let same : record { boxes = b.value } ≡ found = (let gives = b.gives in cc) in
    let fewer : length ways.others < box_limit = (let h = few.0 in grind (arith, nat_tests)) in
    let many = are.many in
    subst (λ (a : Area). IsAreaOf schema a) same (record { some = omega (arith, many); few = omega (arith, many, fewer); each = are.each })

pub ways_are_area : (schema : Schema) (ways : Ways) (result : Result Area ReadStop) → IsWellFormed schema → Answers result (area_of schema ways) → IfOk result (IsAreaOf schema)
ways_are_area schema ways (Ok found) formed e = is_area schema ways found formed e
ways_are_area schema ways (Err stop) formed e = tt
