use Rattle.std.proofs.Common.{Err, Ok, refl, sym, ap, ◌∙◌}
use Rattle.std.proofs.lemmas.Result.{err_from_is_err_and}
use Rattle.pc_model.specs.declared.query.Query.{Query}
use Rattle.pc_proof.specs.Documents.{lines_of, setting_of}
use Rattle.pc_proof.proofs.NameParts.{narrowed_is_area}
use Rattle.pc_check.specs.Blocks.{IsSettingOf}
use Rattle.pc_check.specs.Premises.{case_of}
use Rattle.pc_check.proofs.AskedAgain.{answered}
use Rattle.pc_check.proofs.BlockParts.{tree_broken}
use Rattle.pc_check.proofs.block.judge_allowed.Goals as goal

pub asked_after-requires-clause-area : goal.asked_after-requires-clause-area
asked_after-requires-clause-area c =
    let query = c.args.block.now.query in
    rw c.in_ok-query.ensures (narrowed_is_area c.args.premises.now.schema.now query.chosen query.group c.args.block.now.name c.requires.allowed c.requires.formed.query.chosen)

pub returns-in_err-asked-clause-found : goal.returns-in_err-asked-clause-found
returns-in_err-asked-clause-found c =
    let p = err_from_is_err_and c.from_residual-in_err-asked.result c.from_residual-in_err-asked.ensures.1 in
    let block = c.args.block.now in
    let s = setting_of (case_of c.args.premises.now) block c.args.nodes.now in
    let given : IsSettingOf c.args.premises.now c.in_ok-query.query.chosen c.args.nodes.now s
    = record { schema_is = refl; asked = record { constraints_are = refl; area_is = sym (ap (λ (q : Query). q.chosen) c.in_ok-query.ensures) }; nodes_are = refl } in
    let found = rw c.front_lines.ensures at c.in_err-asked.ensures.found in
    rw (p.1, p.2) (tree_broken s (lines_of block.tree) c.args.line block.answer c.requires.allowed c.in_err-asked.field-0.0 (found s given))

pub returns-in_err-judge_asked-clause-found : goal.returns-in_err-judge_asked-clause-found
returns-in_err-judge_asked-clause-found c =
    let p = err_from_is_err_and c.from_residual-in_err-judge_asked.result c.from_residual-in_err-judge_asked.ensures.1 in
    let is = c.in_ok-asked.ensures.query ∙ c.in_ok-query.ensures in
    rw (p.1, p.2)
    (answered c.args.premises.now c.args.block.now c.args.nodes.now c.args.line c.in_ok-asked.asked (Err c.in_err-judge_asked.field-0.0) c.requires.allowed c.requires.nodes_are c.requires.preorder is
    c.in_ok-asked.ensures.over (rw (c.front_lines.ensures, c.tree_count.ensures) at c.in_err-judge_asked.ensures))

pub returns-clause-found : goal.returns-clause-found
returns-clause-found c =
    let is = c.in_ok-asked.ensures.query ∙ c.in_ok-query.ensures in
    answered c.args.premises.now c.args.block.now c.args.nodes.now c.args.line c.in_ok-asked.asked (Ok tt) c.requires.allowed c.requires.nodes_are c.requires.preorder is
    c.in_ok-asked.ensures.over (rw (c.front_lines.ensures, c.tree_count.ensures) at c.in_ok-judge_asked.ensures)
