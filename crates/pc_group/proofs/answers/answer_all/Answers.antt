use Rattle.std.proofs.lemmas.Result.{IfOk-weaker}
use Rattle.pc_group.specs.Trees.{told}
use Rattle.pc_group.proofs.Telling.{same_cuts}
use Rattle.pc_group.proofs.answers.answer_all.Goals as goal

pub returns-clause-same_cuts : goal.returns-clause-same_cuts
returns-clause-same_cuts c =
    IfOk-weaker c.answer_with.result _ _ (λ document each. same_cuts c.answer_with.new.shared.nodes (told document.blocks) each) c.answer_with.ensures.shared

pub returns-clause-formed : goal.returns-clause-formed
returns-clause-formed c = c.answer_with.ensures.formed c.in_ok-shared.ensures.own
