use Rattle.std.proofs.Common.{sym, ◌∙◌, subst}
use Rattle.pc_cells_tree.specs.Decisions.{HasBitAt}
use Rattle.pc_cells_tree.proofs.Decisions.{found-told}
use Rattle.pc_cells_tree.proofs.decision.learned_at.Goals as goal

pub returns-in-Some-clause-finding : goal.returns-in-Some-clause-finding
returns-in-Some-clause-finding c =
    rw c.with_bit.ensures
    (found-told c.args.part.now c.args.constraints.now c.args.place c.in-Some.bit c.args.later.finding c.requires.there c.requires.alike
    (subst (HasBitAt c.args.constraints.now c.args.part.now c.args.place) (sym c.told.ensures ∙ c.in-Some.is) (c.requires.known c.args.place c.requires.there)) c.requires.later)
