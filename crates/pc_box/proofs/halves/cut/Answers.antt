use Rattle.std.proofs.lemmas.Result.{IfOk-weaker}
use Rattle.pc_box.proofs.CutRows.{first_rows, second_rows, first_alike, second_alike}
use Rattle.pc_box.proofs.halves.cut.Goals as goal

pub returns-clause-first : goal.returns-clause-first
returns-clause-first c = IfOk-weaker c.parts.result _ _ (λ halves e. first_rows c.args.a.now c.args.at.now c.requires.divided halves.first e) c.parts.ensures.first

pub returns-clause-second : goal.returns-clause-second
returns-clause-second c = IfOk-weaker c.parts.result _ _ (λ halves e. second_rows c.args.a.now c.args.at.now c.requires.divided halves.second e) c.parts.ensures.second

pub returns-clause-first_alike : goal.returns-clause-first_alike
returns-clause-first_alike c =
    IfOk-weaker c.parts.result _ _ (λ halves e. first_alike c.args.a.now c.args.at.now c.requires.divided halves.first c.requires.filled e) c.parts.ensures.first

pub returns-clause-second_alike : goal.returns-clause-second_alike
returns-clause-second_alike c =
    IfOk-weaker c.parts.result _ _ (λ halves e. second_alike c.args.a.now c.args.at.now c.requires.divided halves.second c.requires.filled e) c.parts.ensures.second
