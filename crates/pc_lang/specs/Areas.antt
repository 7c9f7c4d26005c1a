-- Which area parts joined by `or` stand for: the region of each.
use Rattle.std.specs.Prelude.{List, [], ◌∷◌, ◌++◌, length, nat_le, Result, Ok, Err, if◌then◌else◌}
use Rattle.pc_model.specs.declared.fault.Reason.{Reason}
use Rattle.pc_model.specs.declared.fault.Reason.TheVariants as reasons
use Rattle.pc_model.specs.declared.schema.Schema.{Schema}
use Rattle.pc_model.specs.declared.region.Region.{Region}
use Rattle.pc_model.specs.declared.area.Area.{Area}
use Rattle.pc_model.specs.Boxes.{box_limit}
use Rattle.pc_model.specs.Refusals.{◌>>=◌}
use Rattle.pc_lang_grammar.specs.declared.syntax.Part.{Part}
use Rattle.pc_lang_grammar.specs.declared.syntax.Ways.{Ways}
use Rattle.pc_lang.specs.Parts.{region_of}

-- the regions of parts, after those before
unfoldable pub regions_from : Schema → List Region → List Part → Result (List Region) Reason
regions_from schema before [] = Ok before
regions_from schema before (part ∷ rest) = region_of schema part >>= λ region. regions_from schema (before ++ region ∷ []) rest

abbrev pub all_parts : Ways → List Part
all_parts ways = ways.first ∷ ways.others

abbrev pub area : List Region → Result Area Reason
area boxes = Ok (record { boxes = boxes })

-- the area of the regions of the parts; with as many beside the first as an area may have, there are too many
unfoldable pub area_of : Schema → Ways → Result Area Reason
area_of schema ways =
    if nat_le box_limit (length ways.others) then Err reasons.TooMany else (regions_from schema [] (all_parts ways) >>= area)
