use Rattle.std.proofs.Common.{◌≡◌, ◌++◌, ◌∷◌, [], arith, rules, sym, ◌∙◌}
use Rattle.pc_desk_why.specs.Bars.{part_row, total_after}
use Rattle.pc_desk_why.proofs.BarRows.{made_row, rows_past, rows_step}
use Rattle.pc_desk_why.proofs.bars.part_rows.Goals as goal

pub loop-place-preserved : goal.loop-place-preserved
loop-place-preserved c =
    let at = c.loop-place in
    let constraints = c.args.constraints.now in
    let places = c.args.told.now.places in
    let part = c.index-parts-place.result in
    let row = made_row constraints places at.place part at.total (total_after at.total part.adds) in
    let made : c.in_ok-row.row ≡ part_row constraints places at.place part at.total (total_after at.total part.adds) =
    c.in_ok-row.ensures ∙ rw (c.in_ok-segments.ensures, c.tone_of.ensures, c.total_after-next.ensures.total) row in
    let pushed : c.push.new.self.items ≡ at.rows.items ++ c.in_ok-row.row ∷ [] = search rules in
    let next : c.total_after-next.result ≡ total_after at.total part.adds = c.total_after-next.ensures.total in (
      rw (pushed, made, next, c.index-parts-place.is) (rows_step constraints places at.rows.items c.args.parts.now at.place at.total part c.loop-place-test.true ∙ at.invariant.0),
      c.total_after-next.ensures.small,
    )

pub returns : goal.returns
returns c =
    let at = c.loop-place in
    sym (rows_past c.args.constraints.now c.args.told.now.places at.rows.items c.args.parts.now at.place at.total (omega (arith, c.loop-place-test.false)))
    ∙ at.invariant.0
