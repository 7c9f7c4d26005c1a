use Rattle.std.proofs.Common.{◌≡◌, true, sym, subst}
use Rattle.std.proofs.lemmas.List.Elements.{All-head, All-tail}
use Rattle.pc_model.specs.declared.region.Region.{Region}
use Rattle.pc_model.specs.Regions.{is_region_of}
use Rattle.pc_box.proofs.Schemas.{AreAlike-from_schema}
use Rattle.pc_desk_limit.proofs.closing.without.Goals as goal

pub with_rest-requires : goal.with_rest-requires
with_rest-requires c =
    let schema = c.requires.one_schema.0 in
    let other = c.args.other.now in
    let boxes = c.args.boxes.now in
    let regions = c.requires.one_schema.1 in
    let here = All-tail (λ (box : Region). is_region_of schema box ≡ true) other boxes regions
    c.loop-region.region-index c.region-item.result c.loop-region-test.true in
    record {
      alike = AreAlike-from_schema schema c.region-item.result other
          (subst (λ (box : Region). is_region_of schema box ≡ true) (sym c.region-item.is) here)
          (All-head (λ (box : Region). is_region_of schema box ≡ true) other boxes regions);
    }
