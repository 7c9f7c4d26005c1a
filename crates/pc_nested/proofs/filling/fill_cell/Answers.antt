use Rattle.std.proofs.Common.{◌≡◌, ◌∙◌, ◌+◌, ◌<◌, ◌≤◌, length, get_or, set, ap, ap₂, to_z, of_z, arith}
use mir.Syntax.{w128}
use Rattle.std.proofs.lemmas.Int.{ints}
use Rattle.std.proofs.lemmas.List.{get_or_read}
use Rattle.pc_program_bound.specs.Sums.{nat_at}
use Rattle.pc_nested.proofs.Giving.{filled_cell}
use Rattle.pc_nested.proofs.filling.fill_cell.Goals as goal

pub returns-clause-filling : goal.returns-clause-filling
returns-clause-filling c lows target filling =
    let same : to_z w128 (of_z w128 c.gain_of.result) ≡ c.gain_of.result = omega (arith, ints) in
    let before = c.args.filling.counts in
    let cell = c.args.cell in
    let share = c.share_of-share.result in
    let items = c.into_vec-counts.ensures in
    let there : cell < length before = let t = c.requires.dearest.there in let long = c.requires.sized in omega (arith, t, long) in
    let count = get_or_read before cell c.index_mut.result.now there (c.index_mut.ensures.value ∙ ap (λ counts. get_or counts cell c.index_mut.result.now) items) 0 in
    let read = get_or_read before cell c.index.result.now there (c.index.ensures ∙ ap (λ counts. get_or counts cell c.index.result.now) items) 0 in
    let counts : c.from_vec.result ≡ set before cell (nat_at before cell + share) =
    c.from_vec.ensures ∙ ap₂ (λ counts n. set counts cell (n + share)) items count in
    let room : nat_at before cell + share ≤ nat_at c.args.highs.now cell = omega (arith, read, c.share_of-share.ensures.room) in
    rw (same, counts) (filled_cell c.args.p.now c.args.place c.args.highs.now before c.args.filling.price c.args.filling.left cell share c.gain_of.result
    c.requires.gains c.requires.sized c.requires.dearest c.share_of-share.ensures.left room c.gain_of.ensures lows target filling)
