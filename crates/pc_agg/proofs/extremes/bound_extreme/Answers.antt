use Rattle.std.proofs.Common.{sym, ap, subst, ◌∙◌}
use Rattle.std.specs.Prelude.{is_some}
use Rattle.std.proofs.lemmas.Result.{IfOk-weaker}
use Rattle.pc_model.specs.Accepted.{IsNumeric, IsColumnWhere}
use Rattle.pc_model.specs.Right.{always_has_value}
use Rattle.pc_agg.specs.Extremes.{seen_number}
use Rattle.pc_agg_search.specs.Problem.{setting_of}
use Rattle.pc_proof.specs.declared.answer.Why.TheVariants.{Void}
use Rattle.pc_agg_search.specs.Asked.{setting_for}
use Rattle.pc_agg.specs.Owed.{Owes}
use Rattle.pc_agg.specs.ShownRows.{HasShownRows}
use Rattle.pc_agg.proofs.Filling.{rows_of_cells}
use Rattle.pc_agg.proofs.Owing.{owes_impossible, impossible_here, why_searched, fit_of_cells}
use Rattle.pc_agg.proofs.Judging.{lacks_value, numbers_of, cells_counted, owes_none, observing, owes_judged, lawful_both_ends, can_low, can_high, sized_low}
use Rattle.pc_agg.proofs.ShownRows.{always_shown, first_picks, impossible_shown, judged_shown, relation_shown, rows_shown}
use Rattle.pc_agg.proofs.extremes.bound_extreme.Goals as goal

pub returns-in-Always : goal.returns-in-Always
returns-in-Always c =
    let asked = c.requires.asked in
    let nodes = c.args.problem.now.cells.now.tree.nodes in
    record {
      owes = IfOk-weaker c.always_by.result _ _
          (λ answer is asking.
          owes_none c.args.problem.now.schema.now c.args.problem.now.constraints.now c.args.problem.now.query.now c.args.seen.now nodes asked.posed.formed asked.posed.limited asked.posed.found.tree c.args.problem.now.nodes asking
          (is_some (seen_number c.args.seen.now c.args.far)) c.in-Always.tree c.in-Always.found is.0 answer (ap always_has_value c.requires.extreme ∙ lacks_value c.args.far)
          (observing c.args.problem.now.schema.now c.args.problem.now.constraints.now c.args.problem.now.query.now c.args.seen.now nodes asked.posed.formed asked.posed.limited asked.posed.found.tree c.args.problem.now.nodes asking (IsColumnWhere IsNumeric c.args.problem.now.schema.now)
          (numbers_of c.args.problem.now.schema.now c.args.problem.now.query.now c.args.far c.requires.extreme asked.well) c.args.far c.requires.extreme)
          (rows_of_cells c.args.problem.now.schema.now c.args.problem.now.constraints.now c.args.problem.now.query.now nodes asked.posed.formed asked.posed.found.tree c.args.problem.now.cells.now.cells is.0 asked.posed.found.listed is.1)
          (rw (c.is_some-observed.ensures, c.seen_number-number.ensures) at (rw c.in-Always.is at c.in_ok-grounded.ensures.grounded))
          (λ nested. (rw c.in-Always.is at (c.in_ok-grounded.ensures.nested nested))) (rw c.as_slice.ensures at is.2))
          c.always_by.ensures;
      rows = IfOk-weaker c.always_by.result _ _
          (λ answer is.
          let u = setting_of c.args.problem.now in
          let shown = rows_shown u asked.posed.formed asked.posed.found.tree c.args.problem.now.cells.now.cells is.0 asked.posed.found.listed is.1 in
          subst (HasShownRows u) (sym (rw c.as_slice.ensures at is.2)) (always_shown u _ _ (relation_shown u is.0 c.in-Always.found (first_picks u is.0 shown))))
          c.always_by.ensures;
    }

pub judge-requires-clause-lawful : goal.judge-requires-clause-lawful
judge-requires-clause-lawful c =
    lawful_both_ends (setting_of c.args.problem.now) c.args.problem.now.nodes c.args.far c.seen_number-number.result c.in-Open.grounds.found c.in-At.low c.in-At.high c.in-At.found
    (rw c.in-At.is at c.in_ok-pair.ensures.pair) (rw c.in-Open.is at c.in_ok-grounded.ensures.grounded).lawful

pub judge-requires-clause-sized : goal.judge-requires-clause-sized
judge-requires-clause-sized c =
    sized_low (setting_of c.args.problem.now) c.args.problem.now.nodes c.args.far c.seen_number-number.result c.in-Open.grounds.found c.in-At.low c.in-At.high c.in-At.found
    (rw c.in-At.is at c.in_ok-pair.ensures.pair) (rw c.in-Open.is at c.in_ok-grounded.ensures.grounded).lawful
    ∙ cells_counted c.args.problem.now.schema.now c.args.problem.now.cells.now.tree.nodes c.args.problem.now.cells.now.cells c.requires.asked.posed.found.listed

pub judge-requires-clause-low : goal.judge-requires-clause-low
judge-requires-clause-low c =
    can_low (setting_of c.args.problem.now) c.args.problem.now.nodes c.args.far c.seen_number-number.result c.in-Open.grounds.found c.in-At.low c.in-At.high c.in-At.found
    (rw c.in-At.is at c.in_ok-pair.ensures.pair) (rw c.in-Open.is at c.in_ok-grounded.ensures.grounded).lawful

pub judge-requires-clause-high : goal.judge-requires-clause-high
judge-requires-clause-high c =
    can_high (setting_of c.args.problem.now) c.args.problem.now.nodes c.args.far c.seen_number-number.result c.in-Open.grounds.found c.in-At.low c.in-At.high c.in-At.found
    (rw c.in-At.is at c.in_ok-pair.ensures.pair) (rw c.in-Open.is at c.in_ok-grounded.ensures.grounded).lawful

pub returns-in-At : goal.returns-in-At
returns-in-At c =
    let asked = c.requires.asked in
    let nodes = c.args.problem.now.cells.now.tree.nodes in
    record {
      owes = IfOk-weaker c.judge.result _ _
          (λ answer is asking.
          owes_judged c.args.problem.now.schema.now c.args.problem.now.constraints.now c.args.problem.now.query.now c.args.seen.now nodes asked.posed.formed asked.posed.limited asked.posed.found.tree c.args.problem.now.nodes asking (IsColumnWhere IsNumeric c.args.problem.now.schema.now)
          (numbers_of c.args.problem.now.schema.now c.args.problem.now.query.now c.args.far c.requires.extreme asked.well) c.args.far c.requires.extreme c.in-Open.grounds
          (rw (c.is_some-observed.ensures, c.seen_number-number.ensures) at (rw c.in-Open.is at c.in_ok-grounded.ensures.grounded)) c.in-At.low c.in-At.high c.in-At.found
          (rw c.seen_number-number.ensures at (rw c.in-At.is at c.in_ok-pair.ensures.pair)) answer
          (rw (c.is_some-observed.ensures, c.seen_number-number.ensures) at is)
          (λ nested.
          let own = (rw c.in-Open.is at (c.in_ok-grounded.ensures.nested nested)) in
          let ends = (rw c.in-At.is at (c.in_ok-pair.ensures.nested nested own.listed (rw c.is_some-observed.ensures at own.found_some))) in
          ((rw (c.is_some-observed.ensures, c.seen_number-number.ensures) at own), ends.0, ends.1)))
          c.judge.ensures;
      rows = IfOk-weaker c.judge.result _ _
          (λ answer is.
          judged_shown (setting_of c.args.problem.now) c.args.problem.now.nodes c.args.far c.seen_number-number.result c.is_some-observed.result c.in-Open.grounds.lacking
          c.in-Open.grounds.found c.in-At.low c.in-At.high c.in-At.found answer (rw c.in-At.is at c.in_ok-pair.ensures.pair) is)
          c.judge.ensures;
    }

pub returns-in-Impossible : goal.returns-in-Impossible
returns-in-Impossible c =
    let asked = c.requires.asked in
    let schema = c.args.problem.now.schema.now in
    let constraints = c.args.problem.now.constraints.now in
    let query = c.args.problem.now.query.now in
    let seen = c.args.seen.now in
    let nodes = c.args.problem.now.cells.now.tree.nodes in
    let shown = (rw c.in-Impossible.is at c.in_ok-grounded.ensures.grounded) in
    let why = c.in-Impossible.why in
    record {
      owes = λ asking.
          subst (Owes (setting_for schema constraints query seen nodes asking) c.args.problem.now.nodes) (sym c.impossible_by.ensures)
          (owes_impossible schema constraints query seen nodes asked.posed.formed asked.posed.limited asked.posed.found.tree c.args.problem.now.nodes asking why
          (impossible_here schema constraints query seen nodes asked.posed.formed asked.posed.limited asked.posed.found.tree c.args.problem.now.nodes asking why shown.0 shown.1)
          (why_searched schema constraints query seen nodes asked.posed.formed asked.posed.limited asked.posed.found.tree c.args.problem.now.nodes asking why shown.1)
          (λ seen_rows. fit_of_cells schema constraints query seen nodes asked.posed.formed asked.posed.limited asked.posed.found.tree c.args.problem.now.nodes asking why shown.1));
      rows = subst (HasShownRows (setting_of c.args.problem.now)) (sym c.impossible_by.ensures) (impossible_shown (setting_of c.args.problem.now) why);
    }

pub returns-in-Empty : goal.returns-in-Empty
returns-in-Empty c =
    let asked = c.requires.asked in
    let nodes = c.args.problem.now.cells.now.tree.nodes in
    let void = (rw c.in-Empty.is at c.in_ok-pair.ensures.pair) in
    record {
      owes = λ asking.
          subst (Owes (setting_for c.args.problem.now.schema.now c.args.problem.now.constraints.now c.args.problem.now.query.now c.args.seen.now nodes asking) c.args.problem.now.nodes) (sym c.impossible_by-in-Empty.ensures)
          (owes_impossible c.args.problem.now.schema.now c.args.problem.now.constraints.now c.args.problem.now.query.now c.args.seen.now nodes asked.posed.formed asked.posed.limited asked.posed.found.tree c.args.problem.now.nodes asking (Void c.in-Empty.tree) void.shows void.small.few (λ seen_rows. void.small.fits));
      rows = subst (HasShownRows (setting_of c.args.problem.now)) (sym c.impossible_by-in-Empty.ensures) (impossible_shown (setting_of c.args.problem.now) (Void c.in-Empty.tree));
    }
