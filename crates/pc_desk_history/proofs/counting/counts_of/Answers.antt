use Rattle.std.proofs.Common.{◌∙◌, ◌<◌, ◌≤◌, length, All, subst, sym, arith, ℕ, take}
use Rattle.std.proofs.lemmas.List.{take_all}
use Rattle.std.proofs.lemmas.Simd.{splat_is_map}
use Rattle.pc_rows.specs.Stored.{row_limit}
use Rattle.pc_desk_history.proofs.Tallies.{counts_more, few_in, fewer_in}
use Rattle.pc_desk_history.proofs.counting.counts_of.Goals as goal

pub loop-place-init : goal.loop-place-init
loop-place-init c = c.in_ok-counts.ensures.items_if_clones_equal (λ y same. same) ∙ splat_is_map c.args.periods.now.keys c.len.result 0 (sym c.len.ensures.len)

pub with_row-counts-requires-clause-small : goal.with_row-counts-requires-clause-small
with_row-counts-requires-clause-small c =
    let rows = c.args.rows.now in
    let place = c.loop-place.place in
    let here : place < length rows = omega (arith, c.loop-place-test.true, c.count-place-end.ensures.counted) in
    let few = c.count-place-end.ensures.few in
    let counted = c.count-place-end.ensures.counted in
    let below : place < row_limit = omega (arith, here, few, counted) in
    subst (All (λ (count : ℕ). count < row_limit)) (sym c.loop-place.invariant) (fewer_in c.args.per c.args.periods.now.keys c.args.area.now rows place row_limit here below)

pub loop-place-preserved : goal.loop-place-preserved
loop-place-preserved c =
    let here : c.loop-place.place < length c.args.rows.now = omega (arith, c.loop-place-test.true, c.count-place-end.ensures.counted) in
    c.with_row-counts.ensures
    ∙ rw c.loop-place.invariant (counts_more c.args.per c.args.periods.now.keys c.args.area.now c.args.rows.now c.loop-place.place c.len.ensures.unique here)

pub returns-clause-few : goal.returns-clause-few
returns-clause-few c =
    let rows = c.args.rows.now in
    let past : length rows ≤ c.loop-place.place = omega (arith, c.loop-place-test.false, c.count-place-end.ensures.counted) in
    let few : length (take c.loop-place.place rows) ≤ row_limit = rw (take_all c.loop-place.place rows past) (omega (arith, c.count-place-end.ensures.counted, c.count-place-end.ensures.few)) in
    subst (All (λ (count : ℕ). count ≤ row_limit)) (sym c.loop-place.invariant) (few_in c.args.per c.args.periods.now.keys c.args.area.now (take c.loop-place.place rows) row_limit few)
