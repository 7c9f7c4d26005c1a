use Rattle.std.proofs.Common.{not, ap, sym, ◌∙◌}
use Rattle.std.specs.Prelude.{pos, int_lt}
use Rattle.pc_program_bound.specs.Sums.{int_at}
use Rattle.pc_simplex_tableau.specs.Tableau.{is_basic}
use Rattle.pc_simplex_short.specs.Short.{spelled}
use Rattle.pc_simplex_short.proofs.Choosing.{is_basic-spelled, enters}
use Rattle.pc_simplex_short.proofs.choice.may_enter.Goals as goal

pub returns-then-is_gaining : goal.returns-then-is_gaining
returns-then-is_gaining c =
    let f = c.args.setting.now in
    let t = c.args.tableau.now in
    ap not (c.is_basic.ensures ∙ sym (is_basic-spelled f t c.args.column))
    ∙ enters (not (is_basic (spelled f t) c.args.column)) (int_lt (pos 0) (int_at (spelled f t).aim c.args.column)) c.if-is_gaining.ensures
