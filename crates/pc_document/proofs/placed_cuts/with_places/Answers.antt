use Rattle.std.proofs.Common.{rules, ◌<◌, length}
use Rattle.pc_document.proofs.CutPlacing.{cut_more}
use Rattle.pc_document.proofs.placed_cuts.with_places.Goals as goal

pub loop-place-preserved : goal.loop-place-preserved
loop-place-preserved c =
    let l = c.loop-place in
    let inside : l.place < length l.list.items = search rules in
    cut_more l.list.items c.args.nodes l.place c.args.past.now c.index_mut.result.now c.put_places.new.node c.requires inside l.invariant
    c.index_mut.ensures.value c.in_ok-put_places.ensures.placed
