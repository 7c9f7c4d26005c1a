use Rattle.std.proofs.Common.{◌≡◌, List, ◌∷◌, ◌++◌, [], length, append_assoc, ap, arith, refl, rules, subst, sym, ◌∙◌}
use Rattle.std.specs.Vec.Iter.{into_iter_items}
use Rattle.pc_model.specs.declared.schema.Schema.{Schema}
use Rattle.pc_session.specs.declared.line.Line.{Line}
use Rattle.pc_session.specs.Edited.{Held, CanFollow, CanFollowAll, case_at}
use Rattle.pc_session.specs.Sessions.{held_by}
use Rattle.pc_run.specs.Replies.{SaysReports}
use Rattle.pc_run.proofs.Following.{follows_line, follows_none, next_follows}
use Rattle.pc_run.proofs.follow.report_lines.Goals as goal

pub loop-line-init : goal.loop-line-init
loop-line-init c = record {
  lines = search rules;
  left = search rules;
  session = c.requires.session;
  schema = refl;
  followed = rw c.new-text.ensures.items (follows_none c.args.session.schema (held_by c.args.session) c.args.nodes);
}

pub follow-requires-clause-can : goal.follow-requires-clause-can
follow-requires-clause-can c =
    let at = c.loop-line in
    let start = held_by c.args.session in
    let rest = into_iter_items c.next.new.self in
    let steps : into_iter_items at.line-iterator ≡ c.in-Some.line ∷ rest = c.in-Some.ensures.steps.0 in
    let whole : at.yielded ++ c.in-Some.line ∷ rest ≡ c.args.lines = rw (← steps) at.invariant.lines in
    let can = next_follows c.args.session.schema start at.yielded c.in-Some.line rest (subst (λ (lines : List Line). CanFollowAll c.args.session.schema start lines) (sym whole) c.requires.can) in
    subst (λ (schema : Schema). CanFollow schema (held_by at.session) c.in-Some.line) (sym at.invariant.schema)
    (subst (λ (held : Held). CanFollow c.args.session.schema held c.in-Some.line) (sym at.invariant.followed.held_is) can)

pub loop-line-preserved : goal.loop-line-preserved
loop-line-preserved c =
    let at = c.loop-line in
    let start = held_by c.args.session in
    let steps : into_iter_items at.line-iterator ≡ c.in-Some.line ∷ into_iter_items c.next.new.self = c.in-Some.ensures.steps.0 in
    let was = at.invariant.left in
    let gone = c.in-Some.ensures.steps.1 in
    let short = ap length steps in
    let says = subst (λ (schema : Schema). SaysReports c.args.nodes (case_at schema (held_by at.session) c.in-Some.line) c.in_ok-said.said.items) at.invariant.schema c.in_ok-said.ensures.says in
    let more : c.extend_from_slice.new.self.items ≡ at.text.items ++ c.in_ok-said.said.items = search rules in
    record {
      lines = append_assoc at.yielded (c.in-Some.line ∷ []) _ ∙ rw (← steps) at.invariant.lines;
      left = omega arith;
      session = c.in_ok-said.ensures.session;
      schema = c.in_ok-said.ensures.schema ∙ at.invariant.schema;
      followed = rw (c.in_ok-said.ensures.held, more) (follows_line c.args.session.schema start c.args.nodes at.yielded (held_by at.session) at.text.items c.in-Some.line c.in_ok-said.said.items at.invariant.followed says);
    }
