use Rattle.std.proofs.Common.{rules, ◌≡◌, ◌∷◌, ◌++◌, [], List, sym, subst, ◌∙◌, take, ◌+◌}
use Rattle.std.specs.List.{AllZip}
use Rattle.pc_model.specs.declared.row.Run.{Run}
use Rattle.pc_conflict.specs.Core.{IsFreeWithout}
use Rattle.pc_conflict.proofs.Steps.{without_more}
use Rattle.pc_conflict.proofs.thinning.without_each.Goals as goal

pub loop-index-preserved : goal.loop-index-preserved
loop-index-preserved c = λ schema each.
    let constraints = c.args.constraints.now in
    let members = c.args.members.now in
    let i = c.loop-index.index in
    let pushed : c.push.new.self ≡ c.loop-index.without ++ c.in_ok-runs.runs ∷ [] = search rules in
    subst (λ (all : List (List Run)). AllZip (IsFreeWithout schema constraints members) (take (i + 1) members) all) (sym pushed)
    (without_more schema constraints members c.args.found.now c.loop-index.without i c.index-found-index.result c.as_slice.result.now c.in_ok-runs.runs c.loop-index-test.true c.requires.inside (c.as_slice.ensures ∙ c.index-found-index.is) c.in_ok-runs.ensures each (c.loop-index.invariant schema each))
