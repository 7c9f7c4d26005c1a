use Rattle.std.proofs.Common.{List, sym, ap₂, subst, ◌∙◌}
use Rattle.pc_model.specs.declared.row.Run.{Run}
use Rattle.pc_proof.specs.declared.answer.Lack.{Lack}
use Rattle.pc_proof.specs.declared.answer.Lack.TheVariants.{Sometimes}
use Rattle.pc_proof.specs.Demands.{lack_demands}
use Rattle.pc_check.specs.Verdicts.{Keeps}
use Rattle.pc_check.proofs.lacks.judge_lack.Goals as goal

pub returns-in-Sometimes : goal.returns-in-Sometimes
returns-in-Sometimes c = λ s of_matter.
    subst (λ (lack : Lack). Keeps s (lack_demands s c.args.line lack) c.judge_sometimes.result)
    (ap₂ (λ (without with' : List Run). Sometimes without with') c.as_slice.ensures c.as_slice-in-Sometimes.ensures ∙ sym c.in-Sometimes.is)
    (c.judge_sometimes.ensures s of_matter)
