use Rattle.std.proofs.Common.{◌≡◌, ◌∙◌, true, List, sym, subst, take}
use Rattle.std.proofs.lemmas.List.Elements.{All-cons, All-take}
use Rattle.pc_model.specs.declared.region.Region.{Region}
use Rattle.pc_model.specs.Regions.{is_region_of}
use Rattle.pc_desk_limit.specs.Closing.{AreRegions}
use Rattle.pc_desk_limit.proofs.Quantified.{all_first, all_second}
use Rattle.pc_desk_limit.proofs.Left.{left_regions}
use Rattle.pc_desk_limit.proofs.closing.left_of.Goals as goal

pub without-requires : goal.without-requires
without-requires c =
    let schema = c.requires.one_schema.0 in
    let boxes = c.args.boxes in
    let others = c.args.others.now in
    let at = c.loop-other in
    let is_region = λ (box : Region). is_region_of schema box ≡ true in
    let others_are = all_second is_region boxes others c.requires.one_schema.1 in
    let here = others_are at.other-index c.other-item.result c.loop-other-test.true in
    let left = left_regions schema boxes (take at.other-index others) (all_first is_region boxes others c.requires.one_schema.1)
    (All-take is_region at.other-index others others_are) in
    record {
      one_schema = (
        schema,
        All-cons is_region c.other-item.result c.as_slice.result.now
            (subst is_region (sym c.other-item.is) here)
            (subst (λ (all : List Region). AreRegions schema all) (sym (c.as_slice.ensures ∙ at.invariant)) left),
      );
    }
