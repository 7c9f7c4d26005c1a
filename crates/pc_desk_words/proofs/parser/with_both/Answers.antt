use Rattle.std.proofs.Common.{◌∙◌, ap}
use Rattle.std.proofs.lemmas.Result.{IfOk-weaker}
use Rattle.clap.specs.Words.{rule_of, with_rule}
use Rattle.pc_desk_words.proofs.parser.with_both.Goals as goal

pub returns-clause-app : goal.returns-clause-app
returns-clause-app c =
    let first = c.in_ok-arg.ensures.shape c.requires.1 in
    IfOk-weaker c.arg-2.result _ _ (λ r added. added.shape c.requires.2 ∙ ap (λ app. with_rule app (rule_of c.args.second)) first) c.arg-2.ensures
