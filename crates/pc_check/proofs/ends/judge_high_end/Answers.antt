use Rattle.std.proofs.Common.{ℕ, ◌+◌, List, sym, ◌∙◌, true≢false}
use Rattle.std.proofs.lemmas.Result.{err_from_is_err_and}
use Rattle.pc_proof.specs.declared.answer.End.{End}
use Rattle.pc_proof.specs.Setting.{Setting}
use Rattle.pc_proof.specs.Demands.{Placed, high_by, high_trees, mark_demands, mark_lines}
use Rattle.pc_check.specs.Verdicts.{placed}
use Rattle.pc_check.proofs.Placing.{proof_broken, stands, falls}
use Rattle.pc_check.proofs.ends.judge_high_end.Goals as goal
use Rattle.pc_check.proofs.ends.judge_high_end.Goals.{else-shown-via-then-shown+else-may_show, else-shown-via-else-shown}

abbrev lines : Setting → ℕ → End → List Placed
lines s line end = high_trees s (line + mark_lines end.mark) s.question.query.agg end.value end.proof

pub returns-in_err-shown : goal.returns-in_err-shown
returns-in_err-shown c = λ s of_matter.
    let p = err_from_is_err_and c.from_residual-in_err-shown.result c.from_residual-in_err-shown.ensures.1 in
    let line = c.args.line in
    let end = c.args.end.now in
    rw (p.1, p.2)
    (proof_broken s (mark_demands line end.value end.mark) (lines s line end) (placed line 12 (high_by end)) (c.in_ok-judge_mark.ensures s of_matter).0 c.in_err-shown.field-0.0
    (rw c.mark_lines.ensures at (c.in_err-shown.ensures s of_matter.scene)))

pub returns-then-may_show : goal.returns-then-may_show
returns-then-may_show c = λ s of_matter.
    let line = c.args.line in
    let end = c.args.end.now in
    let found = rw c.mark_lines.ensures at (c.in_ok-shown.ensures s of_matter.scene) in
    stands s (mark_demands line end.value end.mark) (lines s line end) (placed line 12 (high_by end)) (c.in_ok-judge_mark.ensures s of_matter).0 found.0
    (found.1.0 c.if-shown.true, c.may_show.ensures.0 c.if-may_show.true)

pub returns : goal.returns
returns c = λ s of_matter.
    let line = c.args.line in
    let end = c.args.end.now in
    let found = rw c.mark_lines.ensures at (c.in_ok-shown.ensures s of_matter.scene) in
    falls s (mark_demands line end.value end.mark) (lines s line end) (placed line 12 (high_by end)) (c.in_ok-judge_mark.ensures s of_matter).0 found.0
    (λ met.
    elim c.else-shown.branch [
      | else-shown-via-then-shown+else-may_show w ↦ true≢false (sym (w.may_show.ensures.1 met.1) ∙ w.if-may_show.false)
      | else-shown-via-else-shown w ↦ true≢false (sym (found.1.1 met.0) ∙ w.if-shown.false)
    ])
