use Rattle.std.proofs.Common.{◌≡◌, ◌∙◌, true, false, ap, rules, sym}
use Rattle.pc_model.specs.declared.constraint.Constraint.{Constraint}
use Rattle.pc_desk_try.specs.Openings.{lets_lose}
use Rattle.pc_desk_try.proofs.Room.{open_all, open_more, shut_at}
use Rattle.pc_desk_try.proofs.opening.is_open.Goals as goal

pub loop-place-preserved : goal.loop-place-preserved
loop-place-preserved c =
    let at = c.loop-place in
    let lets : c.lets_lose.result ≡ true = search rules in
    open_more c.args.mask c.args.constraints.now at.place _ c.loop-place-test.true at.invariant
    (ap (λ (constraint : Constraint). lets_lose c.args.mask (at.place, constraint)) (sym c.index-constraints-place.is) ∙ sym c.lets_lose.ensures ∙ lets)

pub returns-then-not-lets_lose : goal.returns-then-not-lets_lose
returns-then-not-lets_lose c =
    let at = c.loop-place in
    let lets : c.lets_lose.result ≡ false = search rules in
    sym (shut_at c.args.mask c.args.constraints.now at.place _ c.loop-place-test.true
    (ap (λ (constraint : Constraint). lets_lose c.args.mask (at.place, constraint)) (sym c.index-constraints-place.is) ∙ sym c.lets_lose.ensures ∙ lets))

pub returns : goal.returns
returns c = sym (open_all c.args.mask c.args.constraints.now c.loop-place.place c.loop-place-test.false c.loop-place.invariant)
