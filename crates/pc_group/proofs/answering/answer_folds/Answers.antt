use Rattle.std.proofs.Common.{ℕ, List, ◌++◌, map, All, Some, sym, ap, subst, ◌∙◌}
use Rattle.std.proofs.lemmas.Result.{IfOk-weaker}
use Rattle.pc_proof.specs.Unbroken.{AllowsName}
use Rattle.pc_group.specs.Answers.{AnswersWanted}
use Rattle.pc_group.specs.Scopes.{AreFolds, AreFoldsFor}
use Rattle.pc_group.specs.Trees.{AreDividedFor}
use Rattle.pc_group.specs.Wanted.{Wanted, wanted_of}
use Rattle.pc_group.specs.Written.{AreBlocksOf}
use Rattle.pc_group.proofs.Areas.{divided_alone, grouped, ungrouped}
use Rattle.pc_group.proofs.Folded.{alone_at}
use Rattle.pc_group.proofs.GroupNames.{names_allowed}
use Rattle.pc_group.proofs.answering.answer_folds.Goals as goal

pub answer_block-requires-clause-divided : goal.answer_block-requires-clause-divided
answer_block-requires-clause-divided c = divided_alone c.args.scope.now.schema.now c.args.scope.now.constraints.now c.args.scope.now.shared.now.nodes c.args.query.now c.in_default.is c.requires.divided

pub answer_names-requires-clause-allowed : goal.answer_names-requires-clause-allowed
answer_names-requires-clause-allowed c =
    let query = c.args.query.now in
    subst (All (λ (name : ℕ). AllowsName query.chosen query.group (Some name))) (sym (c.as_slice.ensures ∙ c.in_ok-names.ensures.exact)) (names_allowed c.args.scope.now.schema.now query c.in-Some.column c.in-Some.is)

-- the names are those of the query's blocks
pub answer_names-requires-clause-divided : goal.answer_names-requires-clause-divided
answer_names-requires-clause-divided c =
    let query = c.args.query.now in
    let whole = subst (AreDividedFor c.args.scope.now.schema.now c.args.scope.now.constraints.now c.args.scope.now.shared.now.nodes) (grouped c.args.scope.now.schema.now query c.in-Some.column c.in-Some.is) c.requires.divided in
    subst (λ (names : List ℕ). AreDividedFor c.args.scope.now.schema.now c.args.scope.now.constraints.now c.args.scope.now.shared.now.nodes (map (wanted_of query) names)) (sym (c.as_slice.ensures ∙ c.in_ok-names.ensures.exact)) whole

pub answer_names-requires-clause-folds : goal.answer_names-requires-clause-folds
answer_names-requires-clause-folds c =
    let query = c.args.query.now in
    let same = ap (map (wanted_of query)) (c.as_slice.ensures ∙ c.in_ok-names.ensures.exact) ∙ sym (grouped c.args.scope.now.schema.now query c.in-Some.column c.in-Some.is) in
    subst (λ (ws : List Wanted). AreFoldsFor ws c.args.folds.now) (sym same) c.requires.folds

pub returns-in_default : goal.returns-in_default
returns-in_default c =
    let query = c.args.query.now in
    let scope = c.args.scope.now in
    IfOk-weaker c.answer_block.result _ _
    (λ more has observed each blocks before.
    subst (λ (ws : List Wanted). AreBlocksOf (AnswersWanted scope.nodes scope.schema.now observed scope.constraints.now) scope.shared.now.nodes (blocks ++ ws) more) (sym (ungrouped scope.schema.now query c.in_default.is))
    (has observed (alone_at scope.schema.now query c.in_default.is observed c.args.folds.now _ each) blocks before))
    c.answer_block.ensures

pub returns : goal.returns
returns c =
    let query = c.args.query.now in
    let scope = c.args.scope.now in
    let same = ap (map (wanted_of query)) (c.as_slice.ensures ∙ c.in_ok-names.ensures.exact) ∙ sym (grouped scope.schema.now query c.in-Some.column c.in-Some.is) in
    IfOk-weaker c.answer_names.result _ _
    (λ more has observed each blocks before.
    subst (λ (ws : List Wanted). AreBlocksOf (AnswersWanted scope.nodes scope.schema.now observed scope.constraints.now) scope.shared.now.nodes (blocks ++ ws) more) same
    (has observed (subst (λ (ws : List Wanted). AreFolds ws observed c.args.folds.now) (sym same) each) blocks before))
    c.answer_names.ensures
