use Rattle.std.proofs.Common.{◌≡◌, [], ◌∷◌, sym, subst, take, true}
use Rattle.std.proofs.lemmas.List.Elements.{All-append, All-cons, All-nil, All-take}
use Rattle.pc_model.specs.declared.region.Region.{Region}
use Rattle.pc_model.specs.Regions.{is_region_of}
use Rattle.pc_desk_limit.specs.Closing.{AreRegions}
use Rattle.pc_desk_limit.proofs.Quantified.{all_first, all_second}
use Rattle.pc_desk_limit.proofs.Left.{closed_regions}
use Rattle.pc_desk_limit.proofs.closing.closed.Goals as goal

pub with_box-requires : goal.with_box-requires
with_box-requires c =
    let schema = c.requires.one_schema.0 in
    let named = c.args.named.now in
    let opened = c.args.opened.now in
    let at = c.loop-region in
    let region = c.region-item.result in
    let is_region = λ (box : Region). is_region_of schema box ≡ true in
    let named_are = all_first is_region named opened c.requires.one_schema.1 in
    let opened_are = all_second is_region named opened c.requires.one_schema.1 in
    let is = subst is_region (sym c.region-item.is) (opened_are at.region-index region c.loop-region-test.true) in
    let closed = closed_regions schema named named_are [] (take at.region-index opened) (All-nil is_region) (All-take is_region at.region-index opened opened_are) in
    record {
      one_schema = (
        schema,
        All-append is_region (region ∷ named) at.closed (All-cons is_region region named is named_are)
            (subst (AreRegions schema) (sym at.invariant) closed),
      );
    }
