use Rattle.std.proofs.Common.{◌≡◌, ◌++◌, List, sym, subst, true≢false, ◌∙◌}
use Rattle.std.specs.Prelude.{IfOk}
use Rattle.pc_model.specs.declared.region.Region.{Region}
use Rattle.pc_desk_limit.proofs.Left.{apart_rest, met_rest}
use Rattle.pc_desk_limit.proofs.rest.with_rest.Goals as goal

pub returns-then-apart : goal.returns-then-apart
returns-then-apart c =
    let is = apart_rest c.args.a.now c.args.b.now c.requires.alike (c.apart.ensures.0 c.if-apart.true) in
    subst (λ (rest : List Region). IfOk c.with_copy.result (λ more. more ≡ c.args.boxes ++ rest)) (sym is) c.with_copy.ensures

pub returns : goal.returns
returns c =
    let is = met_rest c.args.a.now c.args.b.now c.requires.alike (λ apart. true≢false (sym (c.apart.ensures.1 apart) ∙ c.if-apart.false)) in
    subst (λ (rest : List Region). IfOk c.with_rest_after.result (λ more. more ≡ c.args.boxes ++ rest)) (sym is)
    (rw (c.as_slice.ensures, c.as_slice-2.ensures) at c.with_rest_after.ensures)
