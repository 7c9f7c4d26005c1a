use Rattle.std.proofs.Common.{◌≢◌, ℕ, List, AllPairs, Some, sym, subst, ◌∙◌}
use Rattle.std.specs.List.{AllZip}
use Rattle.std.proofs.lemmas.Result.{IfOk-weaker}
use Rattle.pc_model.specs.declared.query.Folded.{Folded}
use Rattle.pc_model.specs.Folds.{IsFold}
use Rattle.pc_group.proofs.Folded.{named, named_if}
use Rattle.pc_group.proofs.GroupNames.{different_names}
use Rattle.pc_group.proofs.folds.folds_by.Goals as goal

pub fold_each-requires-clause-once : goal.fold_each-requires-clause-once
fold_each-requires-clause-once c =
    subst (AllPairs (λ (a b : ℕ). a ≢ b)) (sym (c.as_slice.ensures ∙ c.in_ok-names.ensures.exact)) (different_names c.args.schema.now c.args.query.now c.args.column)

pub returns-clause-folds : goal.returns-clause-folds
returns-clause-folds c =
    let query = c.args.query.now in
    let rows = c.args.rows.now in
    IfOk-weaker c.fold_each.result _ _
    (λ folds each. named c.args.schema.now query c.args.column c.requires.grouped rows folds
    (subst (λ (names : List ℕ). AllZip (λ (name : ℕ) (folded : Folded). IsFold query (Some name) rows folded) names folds) (c.as_slice.ensures ∙ c.in_ok-names.ensures.exact) each))
    c.fold_each.ensures.folds

pub returns-clause-fit : goal.returns-clause-fit
returns-clause-fit c =
    named_if c.args.schema.now c.args.query.now c.args.column c.requires.grouped c.args.rows.now c.requires.well_formed c.requires.seen c.as_slice.result.now (c.as_slice.ensures ∙ c.in_ok-names.ensures.exact) c.fold_each.result c.fold_each.ensures.folds c.fold_each.ensures.few
