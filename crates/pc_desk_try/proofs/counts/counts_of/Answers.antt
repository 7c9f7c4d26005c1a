use Rattle.std.proofs.Common.{◌∙◌, ◌<◌, ◌≤◌, length, ap, arith, sym}
use Rattle.std.proofs.lemmas.List.{take_all}
use Rattle.pc_rows.specs.Stored.{row_at}
use Rattle.pc_model.specs.Membership.{is_under}
use Rattle.pc_desk_try.specs.Trials.{breaks, counts_of}
use Rattle.pc_desk_try.proofs.Counting.{counts_more, few_counted}
use Rattle.pc_desk_try.proofs.counts.counts_of.Goals as goal

pub counts_with-counts-requires : goal.counts_with-counts-requires
counts_with-counts-requires c =
    let constraints = c.args.constraints.now in
    let constraint = c.args.constraint.now in
    let here : c.loop-place.place < length c.args.rows.now = omega (arith, c.loop-place-test.true, c.count-place-end.ensures.counted) in
    let few = c.count-place-end.ensures.few in
    let counted = c.count-place-end.ensures.counted in
    let rows = few_counted (is_under constraints constraint) c.args.rows.now c.loop-place.place here in
    let broken = few_counted (breaks constraints constraint) c.args.rows.now c.loop-place.place here in
    rw c.loop-place.invariant (omega (arith, here, few, counted, rows), omega (arith, here, few, counted, broken))

pub loop-place-preserved : goal.loop-place-preserved
loop-place-preserved c =
    let constraints = c.args.constraints.now in
    let constraint = c.args.constraint.now in
    let rows = c.args.rows.now in
    let at = c.loop-place in
    let here : at.place < length rows = omega (arith, c.loop-place-test.true, c.count-place-end.ensures.counted) in
    let row = row_at rows at.place in
    c.counts_with-counts.ensures
    ∙ rw (c.is_broken-broken.ensures, c.speaks_of-under.ensures, at.invariant) (sym (counts_more constraints rows at.place here constraint))

pub returns : goal.returns
returns c =
    let past : length c.args.rows.now ≤ c.loop-place.place = omega (arith, c.loop-place-test.false, c.count-place-end.ensures.counted) in
    c.loop-place.invariant ∙ ap (counts_of c.args.constraints.now c.args.constraint.now) (take_all c.loop-place.place c.args.rows.now past)
