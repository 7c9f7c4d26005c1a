use Rattle.std.proofs.Common.{◌∙◌, None, refl}
use Rattle.pc_desk_history.specs.Periods.{count_in, periods_of, rows_in}
use Rattle.pc_desk_history.proofs.Tallies.{numbers_over_lists}
use Rattle.pc_desk_history.proofs.numbers.numbers_of.Goals as goal

pub numbers_from-numbers-requires-clause-counts : goal.numbers_from-numbers-requires-clause-counts
numbers_from-numbers-requires-clause-counts c = rw c.as_slice.ensures.value c.in_ok-counts.ensures.few

pub returns : goal.returns
returns c =
    let per = c.args.wish.now.per in
    let chosen = rows_in c.args.chosen.now c.args.rows.now in
    let inside = rows_in c.args.cell.now c.args.rows.now in
    let past = c.requires.past in
    let over = numbers_over_lists c.args.wish.now.lost (count_in per inside) (count_in per chosen) (periods_of per chosen) None in
    let counts = c.as_slice.ensures.value ∙ c.in_ok-counts.ensures.value in
    let totals = c.as_slice-2.ensures.value ∙ past.totals in
    c.widened_numbers.ensures
    ∙ rw (c.from_none-numbers.ensures.value, past.gapped, c.or_none.ensures.value, c.numbers_from-numbers.ensures.value, counts, past.periods, totals, over) refl
