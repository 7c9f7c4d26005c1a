use Rattle.std.proofs.Common.{rules, ◌≡◌, ◌<◌, ◌≤◌, ◌∷◌, ◌∙◌, Some, sym, arith}
use Rattle.csv.specs.Records.{fields_of}
use Rattle.pc_rows.specs.Stored.{row_limit}
use Rattle.pc_rows.specs.Told.{record_halt}
use Rattle.pc_rows.proofs.Telling.{told_here, told_past}
use Rattle.pc_rows.proofs.tell.tell_records.Goals as goal

pub returns-then-count-ge-MOST_ROWS : goal.returns-then-count-ge-MOST_ROWS
returns-then-count-ge-MOST_ROWS c =
    let table = c.loop-fields.table in
    let fields = fields_of c.next.new.row in
    let split : table ≡ fields ∷ c.next.new.self = c.in_ok-next.ensures.found c.if-branch.true in
    let past : row_limit ≤ c.loop-fields.count = omega arith in
    sym (c.loop-fields.invariant.same ∙ told_past c.args.columns.now c.args.places.now c.args.width c.loop-fields.count table c.next.new.self fields split past)

pub returns-in-Some : goal.returns-in-Some
returns-in-Some c =
    let table = c.loop-fields.table in
    let fields = fields_of c.next.new.row in
    let split : table ≡ fields ∷ c.next.new.self = c.in_ok-next.ensures.found c.if-branch.true in
    let few : c.loop-fields.count < row_limit = omega arith in
    let halted : record_halt c.args.columns.now c.args.places.now c.args.width fields ≡ Some c.in-Some.halt = sym c.in-Some.ensures in
    rw (c.in_ok-halt_field.ensures, c.in_ok-refused_in.ensures)
    (sym (c.loop-fields.invariant.same ∙ told_here c.args.columns.now c.args.places.now c.args.width c.loop-fields.count table c.next.new.self fields split c.in-Some.halt few halted))
