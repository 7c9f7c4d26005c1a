use Rattle.std.proofs.Common.{sym, subst}
use Rattle.pc_num.specs.Fractions.{IsFrac}
use Rattle.pc_num.proofs.Sums.{AnswersDifference, difference, flipped_is_frac, is_flipped}
use Rattle.pc_num.proofs.fraction.Frac.sub.Goals as goal
use Rattle.pc_num.proofs.fraction.Frac.sub.Goals.{After-add}

pub add-requires-clause-others : goal.add-requires-clause-others
add-requires-clause-others c =
    let h = c.args.other.now in
    subst IsFrac (sym (is_flipped h c.requires.others)) (flipped_is_frac h c.requires.others)

answers : (c : After-add) → AnswersDifference c.args.self.now c.args.other.now c.add.result
answers c = difference c.args.self.now c.args.other.now c.add.result c.requires.own c.requires.others (record { some = c.add.ensures.some; exact = c.add.ensures.exact })

pub returns-clause-some : goal.returns-clause-some
returns-clause-some c = (answers c).some

pub returns-clause-exact : goal.returns-clause-exact
returns-clause-exact c = (answers c).exact
