use Rattle.pc_agg_search.proofs.FormedAnswers.{formed_relation, formed_lack, formed_answer}
use Rattle.pc_agg_search.proofs.laws.fitting_answers_are_formed.Goals as goal

pub returns-clause-relation : goal.returns-clause-relation
returns-clause-relation c = λ s relation formed are tree holds fit. formed_relation s formed are tree relation holds fit

pub returns-clause-lack : goal.returns-clause-lack
returns-clause-lack c = λ s lack formed are tree holds fit. formed_lack s formed are tree lack holds fit

pub returns-clause-answer : goal.returns-clause-answer
returns-clause-answer c = λ s answer formed are tree form unbroken fit. formed_answer s formed are tree answer form unbroken fit
