use Rattle.std.proofs.Common.{◌≡◌, List, ◌∷◌, ◌++◌, ◌+◌, [], get_or, length, append_assoc, ap, arith, refl, rules, subst, sym, ◌∙◌}
use Rattle.std.proofs.lemmas.List.{length-append}
use Rattle.std.specs.Vec.Iter.{into_iter_items}
use Rattle.pc_model.specs.declared.schema.Schema.{Schema}
use Rattle.pc_session.specs.declared.line.Line.{Line}
use Rattle.pc_session.specs.Edited.{Held, CanFollow, CanFollowAll}
use Rattle.pc_session.specs.Sessions.{held_by}
use Rattle.pc_desk_answers.specs.Blocks.{ArePosed, posed_at}
use Rattle.pc_desk_run.proofs.Following.{next_follows, shows_line, shows_none}
use Rattle.pc_desk_run.proofs.session.follow_lines.Goals as goal

pub loop-line-init : goal.loop-line-init
loop-line-init c = record {
  lines = search rules;
  left = search rules;
  place = refl;
  session = c.requires.session;
  schema = refl;
  followed = rw c.new-entries.ensures.items (shows_none c.args.session.schema (held_by c.args.session) c.args.nodes c.args.script.numbers);
}

pub follow-requires-clause-can : goal.follow-requires-clause-can
follow-requires-clause-can c =
    let at = c.loop-line in
    let start = held_by c.args.session in
    let rest = into_iter_items c.next.new.self in
    let steps : into_iter_items at.line-iterator ≡ c.in-Some.line ∷ rest = c.in-Some.ensures.steps.0 in
    let whole : at.yielded ++ c.in-Some.line ∷ rest ≡ c.args.script.lines = rw (← steps) at.invariant.lines in
    let can = next_follows c.args.session.schema start at.yielded c.in-Some.line rest (subst (λ (lines : List Line). CanFollowAll c.args.session.schema start lines) (sym whole) c.requires.can) in
    subst (λ (schema : Schema). CanFollow schema (held_by at.session) c.in-Some.line) (sym at.invariant.schema)
    (subst (λ (held : Held). CanFollow c.args.session.schema held c.in-Some.line) (sym at.invariant.followed.held_is) can)

pub loop-line-preserved : goal.loop-line-preserved
loop-line-preserved c =
    let at = c.loop-line in
    let start = held_by c.args.session in
    let steps : into_iter_items at.line-iterator ≡ c.in-Some.line ∷ into_iter_items c.next.new.self = c.in-Some.ensures.steps.0 in
    let was = at.invariant.left in
    let gone = c.in-Some.ensures.steps.1 in
    let short = ap length steps in
    let next : length (at.yielded ++ c.in-Some.line ∷ []) ≡ length at.yielded + 1 = length-append at.yielded (c.in-Some.line ∷ []) in
    let numbers = c.args.script.numbers in
    let number : c.number_at-number.result ≡ get_or numbers (length at.yielded) 0 = rw (c.number_at-number.ensures, c.as_slice.ensures, at.invariant.place) refl in
    let shown = subst (λ (schema : Schema). ArePosed (posed_at schema c.args.nodes (held_by at.session) c.number_at-number.result c.in-Some.line) c.in_ok-more.more) at.invariant.schema c.in_ok-more.ensures.shown in
    let more : c.append.new.self.items ≡ at.entries.items ++ c.in_ok-more.more = search rules in
    record {
      lines = append_assoc at.yielded (c.in-Some.line ∷ []) _ ∙ rw (← steps) at.invariant.lines;
      left = omega arith;
      place = let is = at.invariant.place in omega (arith, is, next);
      session = c.in_ok-more.ensures.session;
      schema = c.in_ok-more.ensures.schema ∙ at.invariant.schema;
      followed = rw (c.in_ok-more.ensures.held, more)
          (shows_line c.args.session.schema start c.args.nodes numbers at.yielded (held_by at.session) at.entries.items c.in-Some.line c.in_ok-more.more at.invariant.followed (rw number at shown));
    }
