use Rattle.std.proofs.Common.{◌≡◌, ◌+◌, ◌<◌, length, Some, None, ◌∙◌, arith}
use Rattle.pc_cells_tree.proofs.Choices.{cut_found, passed, best_same, none_left}
use Rattle.pc_cells_tree.proofs.Chosen.{fewest_none, fewest_more, fewest_end, along_fewest}
use Rattle.pc_cells_tree.specs.Choices.{cut_at, passed_by}
use Rattle.pc_cells_tree.specs.Stances.{IsAlong}
use Rattle.pc_cells_tree.proofs.choice.cut_along.Goals as goal
use Rattle.pc_cells_tree.proofs.choice.cut_along.Goals.{in-Some, in_default}

pub loop-place-preserved : goal.loop-place-preserved
loop-place-preserved c =
    let part = c.args.part.now in
    let region = c.args.region.now in
    let count = passed_by part c.args.constraints.now c.args.known in
    let l = c.loop-place in
    let less = c.loop-place-test.true in
    let sides = c.as_slice-sides.ensures in
    let below : l.place < length part.sides = rw sides at less in
    elim c.match-side_cut.branch [
      | in-Some w ↦
          let own = cut_found part region c.as_slice-sides.result.now c.as_slice-others.result.now sides c.as_slice-others.ensures c.requires.alike
          l.place _ _ c.side_cut.result (Some w.in-Some.cut) less c.side_cut.ensures w.in-Some.is in
          let more = fewest_more (cut_at part region) count l.place l.best w.fewer.result w.in-Some.cut own w.fewer.ensures.fewer l.invariant.fewest in
          rw w.best-is
          (record {
            candidate = along_fewest part region count (l.place + 1) w.fewer.result.cut (omega (arith, below)) more;
            fewest = more;
            counted = w.fewer.ensures.counted;
          })
      | in_default w ↦
          let none = none_left c.side_cut.result w.in_default.not-Some in
          rw w.best-is
          (record {
            candidate = best_same (λ cut. IsAlong part region cut) l.best _ _ l.invariant.candidate
                (λ e. e ∙ passed part region c.as_slice-sides.result.now c.as_slice-others.result.now sides c.as_slice-others.ensures c.requires.alike
                l.place _ _ c.side_cut.result less c.side_cut.ensures none);
            fewest = fewest_none (cut_at part region) count l.place l.best
                (cut_found part region c.as_slice-sides.result.now c.as_slice-others.result.now sides c.as_slice-others.ensures c.requires.alike l.place _ _ c.side_cut.result None less c.side_cut.ensures none) l.invariant.fewest;
            counted = l.invariant.counted;
          })
    ]

pub returns-clause-chosen : goal.returns-clause-chosen
returns-clause-chosen c =
    let l = c.loop-place in
    let past = c.loop-place-test.false in
    let end = l.auto.place-end in
    let sides = c.as_slice-sides.ensures in
    let run : l.place ≡ length c.as_slice-sides.result.now = omega (arith, past, end) in
    let whole : l.place ≡ length c.args.part.now.sides = rw sides at run in
    fewest_end (cut_at c.args.part.now c.args.region.now) (passed_by c.args.part.now c.args.constraints.now c.args.known) l.place (length c.args.part.now.sides) l.best
    whole l.invariant.fewest
