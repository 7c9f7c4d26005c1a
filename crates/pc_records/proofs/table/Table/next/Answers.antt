use Rattle.std.proofs.Common.{sym, ◌∙◌}
use Rattle.csv.specs.Records.{fields_of}
use Rattle.pc_records.proofs.Records.{found_first, found_none}
use Rattle.pc_records.proofs.table.Table.next.Goals as goal
use Rattle.pc_records.proofs.table.Table.next.Goals.{in-Ok, in-Err+in-Io}

pub returns-clause-found : goal.returns-clause-found
returns-clause-found c =
    elim c.match-read_byte_record.branch [
      | in-Ok w ↦
          let reads = w.in-Ok.ensures.reads in
          rw w.result-is (λ e. sym c.self.view_is ∙ found_first c.self.inside.reader c.read_byte_record.new.self (fields_of c.read_byte_record.new.row) w.in-Ok.found c.self.invariant (λ plain. reads plain.untrimmed plain.plain) w.in-Ok.ensures.failed e)
      | in-Err+in-Io w ↦ rw w.result-is tt
    ]

pub returns-clause-ended : goal.returns-clause-ended
returns-clause-ended c =
    elim c.match-read_byte_record.branch [
      | in-Ok w ↦
          let reads = w.in-Ok.ensures.reads in
          rw w.result-is (λ e. sym c.self.view_is ∙ found_none c.self.inside.reader c.read_byte_record.new.self (fields_of c.read_byte_record.new.row) w.in-Ok.found c.self.invariant (λ plain. reads plain.untrimmed plain.plain) e)
      | in-Err+in-Io w ↦ rw w.result-is tt
    ]
