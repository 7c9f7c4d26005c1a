use Rattle.std.proofs.Common.{◌≡◌}
use Rattle.pc_gen.specs.Generated.{after_rows, drawn_rows}
use Rattle.pc_gen.proofs.rows.draw_rows.Given as goal

abbrev pub invariant-loop : goal.invariant-loop
invariant-loop l = record {
  rows : l.rows ≡ drawn_rows l.counter l.fn.draws.state;
  state : l.draws.state ≡ after_rows l.counter l.fn.draws.state;
}
