use Rattle.std.proofs.Common.{◌∙◌, ◌++◌, ◌&&◌, List, [], ◌∷◌, get_or, ap, ap₂, sym}
use Rattle.pc_model.specs.declared.constraint.Constraint.{Constraint}
use Rattle.pc_model.specs.Membership.{is_under}
use Rattle.pc_desk_parts.specs.declared.part.Hold.{Hold}
use Rattle.pc_desk_parts.specs.Held.{is_full}
use Rattle.pc_desk_parts.proofs.Limits.{limit_in, limit_out}
use Rattle.pc_desk_parts.proofs.holds.limits_of.Goals as goal
use Rattle.pc_desk_parts.proofs.holds.limits_of.Goals.{then-is_limit+in_ok-push, else-is_limit}

pub loop-place-preserved : goal.loop-place-preserved
loop-place-preserved c = λ lost same.
    let at = c.loop-place in
    let here = c.loop-place-test.true in
    let constraints = c.args.constraints.now in
    let counts = c.args.counts.now in
    let row = c.args.row.now in
    let d = c.index-constraints-place.result in
    let test = ap (λ (constraint : Constraint). is_under constraints constraint row && is_full c.args.pull constraint (get_or counts at.place 0)) (sym c.index-constraints-place.is) ∙ sym c.is_limit.ensures in
    elim c.if-is_limit.branch [
      | then-is_limit+in_ok-push w ↦ rw w.held-is (
          w.in_ok-push.ensures.ok
          ∙ ap₂ (λ (held : List Hold) (hold : Hold). held ++ hold ∷ []) (at.invariant lost same) w.limit_hold.ensures
          ∙ sym (limit_in constraints counts c.args.pull row at.place d here lost same (test ∙ w.if-is_limit.true)))
      | else-is_limit w ↦ rw w.held-is (at.invariant lost same ∙ sym (limit_out constraints counts c.args.pull row at.place d here lost same (test ∙ w.if-is_limit.false)))
    ]
