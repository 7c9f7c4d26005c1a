use Rattle.std.proofs.Common.{rules, ◌≡◌, ◌+◌, ◌∷◌, true, false, is_some, length, arith}
use Rattle.csv.specs.Records.{fields_of}
use Rattle.pc_rows.specs.Told.{record_halt}
use Rattle.pc_rows.proofs.Telling.{counted_more, counted_same, one_less}
use Rattle.pc_rows.proofs.tell.refused_in.Goals as goal

pub loop-fields-preserved-then-is_some : goal.loop-fields-preserved-then-is_some
loop-fields-preserved-then-is_some c =
    let columns = c.args.columns.now in
    let places = c.args.places.now in
    let table = c.loop-fields.table in
    let fields = fields_of c.next.new.row in
    let split : table ≡ fields ∷ c.next.new.self = c.in_ok-next.ensures.found c.if-branch.true in
    let halted : is_some (record_halt columns places c.args.width fields) ≡ true = search rules in
    record {
      same = omega (arith, c.loop-fields.invariant.same, counted_more columns places c.args.width 0 table c.next.new.self fields split halted);
      few = omega (arith, c.loop-fields.invariant.few, one_less columns places c.args.width 0 table c.next.new.self fields split);
    }

pub loop-fields-preserved : goal.loop-fields-preserved
loop-fields-preserved c =
    let columns = c.args.columns.now in
    let places = c.args.places.now in
    let table = c.loop-fields.table in
    let fields = fields_of c.next.new.row in
    let split : table ≡ fields ∷ c.next.new.self = c.in_ok-next.ensures.found c.if-branch.true in
    let read : is_some (record_halt columns places c.args.width fields) ≡ false = search rules in
    record {
      same = omega (arith, c.loop-fields.invariant.same, counted_same columns places c.args.width 0 table c.next.new.self fields split read);
      few = omega (arith, c.loop-fields.invariant.few, one_less columns places c.args.width 0 table c.next.new.self fields split);
    }
