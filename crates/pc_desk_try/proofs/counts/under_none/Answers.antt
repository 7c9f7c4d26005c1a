use Rattle.std.proofs.Common.{◌∙◌, ◌<◌, ◌≤◌, length, ap, arith, sym}
use Rattle.std.proofs.lemmas.List.{take_all}
use Rattle.pc_desk_try.specs.Trials.{is_under_none, under_none}
use Rattle.pc_desk_try.proofs.Counting.{few_counted, none_more}
use Rattle.pc_desk_try.proofs.counts.under_none.Goals as goal

pub with_one-count-requires : goal.with_one-count-requires
with_one-count-requires c =
    let here : c.loop-place.place < length c.args.rows.now = omega (arith, c.loop-place-test.true, c.count-place-end.ensures.counted) in
    let few = few_counted (is_under_none c.args.constraints.now) c.args.rows.now c.loop-place.place here in
    rw c.loop-place.invariant (omega (arith, here, c.count-place-end.ensures.few, c.count-place-end.ensures.counted, few))

pub loop-place-preserved : goal.loop-place-preserved
loop-place-preserved c =
    let at = c.loop-place in
    let here : at.place < length c.args.rows.now = omega (arith, c.loop-place-test.true, c.count-place-end.ensures.counted) in
    c.with_one-count.ensures ∙ rw (c.is_covered-none.ensures, at.invariant) (sym (none_more c.args.constraints.now c.args.rows.now at.place here))

pub returns : goal.returns
returns c =
    let past : length c.args.rows.now ≤ c.loop-place.place = omega (arith, c.loop-place-test.false, c.count-place-end.ensures.counted) in
    c.loop-place.invariant ∙ ap (under_none c.args.constraints.now) (take_all c.loop-place.place c.args.rows.now past)
