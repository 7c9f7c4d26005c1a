use Rattle.std.proofs.Common.{rules}
use Rattle.pc_rows.specs.RowFile.{rows_of}
use Rattle.pc_rows.proofs.InDomain.{read_in_domain}
use Rattle.pc_rows.proofs.read.read_rows.Goals as goal

pub returns-in-Ok-clause-seen : goal.returns-in-Ok-clause-seen
unfolding rows_of
returns-in-Ok-clause-seen c = read_in_domain c.args.schema.now c.args.bytes.now c.read_table.result (search rules)
