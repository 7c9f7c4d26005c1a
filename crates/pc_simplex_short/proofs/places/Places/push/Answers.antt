use Rattle.std.proofs.Common.{◌≡◌, ◌∙◌, length, map, ap, refl, arith}
use Rattle.std.proofs.lemmas.Result.{err_from_is_err_and}
use Rattle.pc_simplex_short.specs.Spans.{part}
use Rattle.pc_simplex_short.proofs.Spans.{parts_same, parts_pushed}
use Rattle.pc_simplex_short.proofs.places.Places.push.Goals as goal

pub returns-in_err-push-clause-err : goal.returns-in_err-push-clause-err
returns-in_err-push-clause-err c =
    let whole = c.extend_from_slice.new.self.items in
    let p = err_from_is_err_and c.from_residual-in_err-push.result c.from_residual-in_err-push.ensures.1 in
    let same = parts_same c.self.inside.all.items c.args.list.now whole c.self.inside.spans.items c.self.invariant c.in_ok-extend_from_slice.ensures.items in
    rw p.1 (ap (map (part whole)) c.in_err-push.ensures.items ∙ same ∙ c.self.view_is)

pub returns-clause-ok : goal.returns-clause-ok
returns-clause-ok c =
    let all = c.self.inside.all.items in
    let spans = c.self.inside.spans.items in
    let from_is : c.len-from.result ≡ length all = omega (arith, c.len-from.ensures, c.self.inside.all.ok) in
    let pushed = parts_pushed all c.args.list.now c.extend_from_slice.new.self.items spans c.self.invariant c.in_ok-extend_from_slice.ensures.items
    c.push.new.self.items c.len-from.result (length c.args.list.now) from_is refl c.in_ok-push.ensures.items in
    rw (← c.self.view_is) pushed
