use Rattle.pc_run_words.proofs.Readings.{none_known, one_known, valueless}
use Rattle.pc_run_words.proofs.laws.other_options_are_refused.Goals as goal

pub returns-clause-none_known : goal.returns-clause-none_known
returns-clause-none_known c = none_known

pub returns-clause-nodes_known : goal.returns-clause-nodes_known
returns-clause-nodes_known c = one_known

pub returns-clause-no_value : goal.returns-clause-no_value
returns-clause-no_value c = valueless
