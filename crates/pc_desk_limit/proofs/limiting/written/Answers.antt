use Rattle.std.proofs.Common.{◌∙◌, ◌+◌, ◌++◌, ℕ, List, ap, ap₂}
use Rattle.pc_model.specs.declared.constraint.Constraint.{Constraint}
use Rattle.pc_desk_limit.specs.Lines.{closing_lines, free_names, lines_for}
use Rattle.pc_desk_limit.proofs.Lengths.{few_enough, too_many}
use Rattle.pc_desk_limit.proofs.limiting.written.Goals as goal

pub returns-then-lines-gt-CONSTRAINT_LIMIT : goal.returns-then-lines-gt-CONSTRAINT_LIMIT
returns-then-lines-gt-CONSTRAINT_LIMIT c =
    let boxes = c.lines_for.ensures ∙ ap lines_for c.as_slice.ensures in
    too_many c.args.schema.now c.args.all c.args.boxes (c.len.result + c.lines_for.result)
    (ap₂ (λ (a b : ℕ). a + b) c.len.ensures boxes) c.if-lines-gt-CONSTRAINT_LIMIT.true

pub returns : goal.returns
returns c =
    let schema = c.args.schema.now in
    let boxes = c.lines_for.ensures ∙ ap lines_for c.as_slice.ensures in
    let names = c.as_slice-3.ensures ∙ c.in_ok-names.ensures ∙ ap free_names c.as_slice-2.ensures in
    few_enough schema c.args.all c.args.boxes (c.len.result + c.lines_for.result)
    (ap₂ (λ (a b : ℕ). a + b) c.len.ensures boxes) c.in_ok-list.list c.if-lines-gt-CONSTRAINT_LIMIT.false
    (c.in_ok-list.ensures ∙ ap (λ (lines : List Constraint). c.args.all ++ lines) (ap₂ (closing_lines schema) names c.as_slice-4.ensures))
