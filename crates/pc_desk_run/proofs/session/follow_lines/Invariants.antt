use Rattle.std.proofs.Common.{◌≡◌, ◌++◌, length}
use Rattle.std.specs.Vec.Iter.{into_iter_items, into_iter_len}
use Rattle.pc_session.specs.Sessions.{IsSession, held_by}
use Rattle.pc_desk_run.proofs.Following.{HasShown}
use Rattle.pc_desk_run.proofs.session.follow_lines.Given as goal

abbrev pub invariant-loop-line : goal.invariant-loop-line
invariant-loop-line l = record {
  lines : l.yielded ++ into_iter_items l.line-iterator ≡ l.fn.script.lines;
  left : into_iter_len l.line-iterator ≡ length (into_iter_items l.line-iterator);
  place : l.place ≡ length l.yielded;
  session : IsSession l.session;
  schema : l.session.schema ≡ l.fn.session.schema;
  followed : HasShown l.fn.session.schema (held_by l.fn.session) l.nodes l.fn.script.numbers l.yielded (held_by l.session) l.entries.items;
}
