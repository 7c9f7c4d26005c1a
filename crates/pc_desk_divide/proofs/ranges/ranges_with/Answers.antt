use Rattle.std.proofs.Common.{◌≡◌, [], ◌∷◌, ◌++◌, arith, rules, sym, of_z, to_z, w64}
use Rattle.std.proofs.lemmas.Int.{ints}
use Rattle.std.proofs.lemmas.List.FromFn.{map-range_with_len_more}
use Rattle.pc_desk_divide.specs.Pieces.{range_at}
use Rattle.pc_desk_divide.proofs.ranges.ranges_with.Goals as goal

pub loop-place-preserved : goal.loop-place-preserved
loop-place-preserved c =
    let at = c.loop-place in
    let pushed : c.push.new.self ≡ at.ranges ++ c.range_at.result ∷ [] = search rules in
    let low : to_z w64 (of_z w64 c.args.low) ≡ c.args.low = omega (arith, ints) in
    rw (pushed, at.invariant, c.range_at.ensures, low) (sym (map-range_with_len_more (range_at c.args.low c.args.width c.args.count) 0 at.place at.place (omega arith)))
