use Rattle.std.proofs.Common.{◌≡◌, ◌<◌, ℕ, All, subst, sym, ◌∙◌, arith}
use Rattle.pc_group.proofs.GroupNames.{all_places, few_names}
use Rattle.pc_group.proofs.wanted.allowed_names.Goals as goal

pub returns-clause-few : goal.returns-clause-few
returns-clause-few c =
    let end : c.loop-place.place ≡ c.name_count-place-end.result = omega (arith, c.loop-place-test.false, c.loop-place.auto) in
    let all = all_places c.args.schema.now c.args.query.now c.args.column c.loop-place.place (end ∙ c.name_count-place-end.ensures.exact) in
    subst (All (λ (name : ℕ). name < 128)) (sym (c.loop-place.invariant ∙ all)) (few_names c.args.schema.now c.args.query.now c.args.column c.requires)
