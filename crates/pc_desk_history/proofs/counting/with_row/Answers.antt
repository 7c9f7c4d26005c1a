use Rattle.std.proofs.Common.{◌≡◌, ◌∙◌, w64, to_z, of_z, arith}
use Rattle.std.proofs.lemmas.Int.{ints}
use Rattle.pc_rows.specs.Stored.{row_at}
use Rattle.pc_desk_history.proofs.Tallies.{counted_in}
use Rattle.pc_desk_history.proofs.counting.with_row.Goals as goal

pub returns : goal.returns
returns c =
    let same : to_z w64 (of_z w64 c.period_at.result) ≡ c.period_at.result = omega (arith, ints, c.period_at.type_inv) in
    c.with_one_at.ensures
    ∙ counted_in c.args.per c.args.periods.now.keys c.args.area.now (row_at c.args.rows.now c.args.place) c.args.counts.items
    c.has_row.result c.place_of-at.result c.period_at.result c.has_row.ensures c.if-not-has_row.false c.period_at.ensures (rw same at c.place_of-at.ensures.place)
