use Rattle.std.proofs.Common.{arith, ◌≤◌, ◌+◌, ◌^◌, refl, sym, subst, nat_abs}
use Rattle.std.specs.Prelude.{◌+ℤ◌}
use Rattle.pc_program_bound.specs.Short.{IsSmallTable}
use Rattle.pc_program_bound.proofs.SetSums.{kept, added, small_sums}
use Rattle.pc_program_bound.proofs.tables.sums.Goals as goal

pub returns-clause-sums : goal.returns-clause-sums
returns-clause-sums c =
    let one = c.args.one in
    let two = c.args.two in
    let four = c.args.four in
    let eight = c.args.eight in
    let a : nat_abs one ≤ 2 ^ 57 = c.requires.one in
    let b : nat_abs two ≤ 2 ^ 57 = c.requires.two in
    let d : nat_abs four ≤ 2 ^ 57 = c.requires.four in
    let e : nat_abs eight ≤ 2 ^ 57 = c.requires.eight in
    let ab = added one two (2 ^ 57) (2 ^ 57) a b in
    let de = added four eight (2 ^ 57) (2 ^ 57) d e in
    let ad = added one four (2 ^ 57) (2 ^ 57) a d in
    let bd = added two four (2 ^ 57) (2 ^ 57) b d in
    let abd = added (one +ℤ two) four (2 ^ 57 + 2 ^ 57) (2 ^ 57) ab d in
    let ae = added one eight (2 ^ 57) (2 ^ 57) a e in
    let be = added two eight (2 ^ 57) (2 ^ 57) b e in
    let abe = added (one +ℤ two) eight (2 ^ 57 + 2 ^ 57) (2 ^ 57) ab e in
    let ade = added one (four +ℤ eight) (2 ^ 57) (2 ^ 57 + 2 ^ 57) a de in
    let bde = added two (four +ℤ eight) (2 ^ 57) (2 ^ 57 + 2 ^ 57) b de in
    let all = added (one +ℤ two) (four +ℤ eight) (2 ^ 57 + 2 ^ 57) (2 ^ 57 + 2 ^ 57) ab de in
    rw (
      kept one (omega (arith, a)),
      kept two (omega (arith, b)),
      kept four (omega (arith, d)),
      kept eight (omega (arith, e)),
      kept (one +ℤ two) (omega (arith, ab)),
      kept (four +ℤ eight) (omega (arith, de)),
      kept (one +ℤ four) (omega (arith, ad)),
      kept (two +ℤ four) (omega (arith, bd)),
      kept (one +ℤ two +ℤ four) (omega (arith, abd)),
      kept (one +ℤ eight) (omega (arith, ae)),
      kept (two +ℤ eight) (omega (arith, be)),
      kept (one +ℤ two +ℤ eight) (omega (arith, abe)),
      kept (one +ℤ (four +ℤ eight)) (omega (arith, ade)),
      kept (two +ℤ (four +ℤ eight)) (omega (arith, bde)),
      kept (one +ℤ two +ℤ (four +ℤ eight)) (omega (arith, all)),
    ) refl

pub returns-clause-small : goal.returns-clause-small
returns-clause-small c =
    subst IsSmallTable (sym (returns-clause-sums c))
    (small_sums c.args.one c.args.two c.args.four c.args.eight c.requires.one c.requires.two c.requires.four c.requires.eight)
