use Rattle.std.proofs.Common.{◌≡◌, to_z, of_z, arith}
use Rattle.std.specs.Int.{w128}
use Rattle.std.proofs.lemmas.Int.{ints}
use Rattle.pc_avg_ratio.proofs.Raising.{top_passed, bottom_passed, top_small, bottom_some, bottom_small}
use Rattle.pc_avg_ratio.proofs.raised.raised.Goals as goal

pub lesser-requires-clause-top : goal.lesser-requires-clause-top
lesser-requires-clause-top c =
    rw (c.fewest_rows-fewest.ensures, top_passed c.args.f.now c.requires.few c.args.ratio.num c.args.left c.requires.small_num c.requires.small_left)
    (top_small c.args.f.now c.requires.few c.args.ratio.num c.args.left c.requires.small_num c.requires.small_left)

pub lesser-requires-clause-positive : goal.lesser-requires-clause-positive
lesser-requires-clause-positive c =
    rw (c.fewest_rows-fewest.ensures, bottom_passed c.args.f.now c.requires.few c.args.ratio.den c.requires.positive c.requires.small_den)
    (bottom_some c.args.f.now c.requires.few c.args.ratio.den c.requires.positive c.requires.small_den)

pub lesser-requires-clause-small_bottom : goal.lesser-requires-clause-small_bottom
lesser-requires-clause-small_bottom c =
    rw (c.fewest_rows-fewest.ensures, bottom_passed c.args.f.now c.requires.few c.args.ratio.den c.requires.positive c.requires.small_den)
    (bottom_small c.args.f.now c.requires.few c.args.ratio.den c.requires.positive c.requires.small_den)

pub returns-clause-value : goal.returns-clause-value
returns-clause-value c =
    let outermost : to_z w128 (of_z w128 c.args.outermost) ≡ c.args.outermost = omega (arith, ints) in
    rw (
      c.fewest_rows-fewest.ensures,
      top_passed c.args.f.now c.requires.few c.args.ratio.num c.args.left c.requires.small_num c.requires.small_left,
      bottom_passed c.args.f.now c.requires.few c.args.ratio.den c.requires.positive c.requires.small_den,
      outermost,
    ) at c.lesser.ensures.value
