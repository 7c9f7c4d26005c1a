use Rattle.std.proofs.Common.{◌*◌}
use Rattle.pc_gen.proofs.Accepted.{constraints_accepted, eight_constraints}
use Rattle.pc_gen.proofs.DrawnRows.{length_rows, rows_allowed}
use Rattle.pc_gen.proofs.Tables.{queries_asked, schema_formed}
use Rattle.pc_gen.proofs.laws.generated_cases_are_accepted.Goals as goal

pub returns-clause-schema : goal.returns-clause-schema
returns-clause-schema c = schema_formed

pub returns-clause-rows : goal.returns-clause-rows
returns-clause-rows c = λ seed size. rows_allowed (100 * size) seed

pub returns-clause-row_count : goal.returns-clause-row_count
returns-clause-row_count c = λ seed size. length_rows (100 * size) seed

pub returns-clause-constraints : goal.returns-clause-constraints
returns-clause-constraints c = constraints_accepted

pub returns-clause-eight : goal.returns-clause-eight
returns-clause-eight c = eight_constraints

pub returns-clause-queries : goal.returns-clause-queries
returns-clause-queries c = queries_asked
