use Rattle.pc_box.proofs.CutRows.{IsProper-from_divides}
use Rattle.pc_box.proofs.Proper.{Divides-from_proper}
use Rattle.pc_check_rules.proofs.cuts.is_proper.Goals as goal

pub returns-clause-proper : goal.returns-clause-proper
returns-clause-proper c = (
  λ test. IsProper-from_divides c.args.part.now c.args.at.now (c.divides.ensures.0 test) c.requires,
  λ proper. c.divides.ensures.1 (Divides-from_proper c.args.part.now c.args.at.now proper),
)
