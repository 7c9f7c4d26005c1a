use Rattle.std.proofs.Common.{sym, subst}
use Rattle.std.proofs.lemmas.Result.{IfOk-weaker}
use Rattle.pc_proof.specs.declared.answer.Why.TheVariants.{Void}
use Rattle.pc_agg_search.specs.declared.extreme.Extreme.TheVariants.{Low, High}
use Rattle.pc_agg_search.specs.Asked.{setting_for}
use Rattle.pc_agg_search.specs.Problem.{setting_of}
use Rattle.pc_agg.specs.Owed.{Owes}
use Rattle.pc_agg.specs.ShownRows.{HasShownRows}
use Rattle.pc_agg.proofs.Aiming.{can_end}
use Rattle.pc_agg.proofs.Owing.{owes, owes_impossible}
use Rattle.pc_agg.proofs.ShownRows.{answer_shown, impossible_shown, picks_shown}
use Rattle.pc_agg.proofs.bounds.bound.Goals as goal

pub settle_over-requires-clause-aims : goal.settle_over-requires-clause-aims
settle_over-requires-clause-aims c = rw c.in-At.is at c.in_ok-aims.ensures.aimed

pub settle_over-requires-clause-reached : goal.settle_over-requires-clause-reached
settle_over-requires-clause-reached c nested = rw c.in-At.is at (c.in_ok-aims.ensures.nested nested)

pub between-requires-clause-low : goal.between-requires-clause-low
between-requires-clause-low c =
    can_end c.args.problem.now.schema.now c.args.problem.now.constraints.now c.args.problem.now.query.now c.args.problem.now.cells.now.tree.nodes c.requires.asked.posed.limited c.args.problem.now.query.now.agg c.args.problem.now.nodes Low c.in-At.aims.low c.in_ok-settled-in-At.settled.found
    (rw c.in-At.is at c.in_ok-aims.ensures.aimed).low c.in_ok-settled-in-At.ensures.settled.lawful

pub between-requires-clause-high : goal.between-requires-clause-high
between-requires-clause-high c =
    can_end c.args.problem.now.schema.now c.args.problem.now.constraints.now c.args.problem.now.query.now c.args.problem.now.cells.now.tree.nodes c.requires.asked.posed.limited c.args.problem.now.query.now.agg c.args.problem.now.nodes High c.in-At.aims.high c.in_ok-settled-in-At.settled.found
    (rw c.in-At.is at c.in_ok-aims.ensures.aimed).high c.in_ok-settled-in-At.ensures.settled.lawful

pub returns-in_ok-settled-in-At : goal.returns-in_ok-settled-in-At
returns-in_ok-settled-in-At c =
    let asked = c.requires.asked in
    let aims = (rw c.in-At.is at c.in_ok-aims.ensures.aimed) in
    let settled = c.in_ok-settled-in-At.ensures in
    let u = setting_of c.args.problem.now in
    record {
      owes =
          IfOk-weaker c.between.result _ _
          (λ answer is asking.
          owes c.args.problem.now.schema.now c.args.problem.now.constraints.now c.args.problem.now.query.now c.args.seen.now c.args.problem.now.cells.now.tree.nodes asked.posed.formed asked.posed.limited asked.posed.found.tree c.args.problem.now.nodes asking asked.few_seen asked.small_seen c.requires.has_value
          c.in_ok-settled-in-At.settled settled.settled c.in-At.aims.low c.in-At.aims.high aims.low aims.high settled.low settled.high
          (λ nested.
          let reached = (rw c.in-At.is at (c.in_ok-aims.ensures.nested nested)) in
          (settled.nested nested, reached.low, reached.high))
          answer is)
          c.between.ensures;
      rows =
          IfOk-weaker c.between.result _ _
          (λ answer is. answer_shown u c.args.seen.now c.args.problem.now.query.now.agg c.in_ok-settled-in-At.settled.relation c.in_ok-settled-in-At.settled.found c.in-At.aims.low c.in-At.aims.high answer
          settled.settled.shown (picks_shown u c.args.problem.now.query.now.agg Low c.in-At.aims.low.picks aims.low.picked) (picks_shown u c.args.problem.now.query.now.agg High c.in-At.aims.high.picks aims.high.picked) is)
          c.between.ensures;
    }

pub returns-in-Nothing : goal.returns-in-Nothing
returns-in-Nothing c =
    let asked = c.requires.asked in
    let nodes = c.args.problem.now.cells.now.tree.nodes in
    let void = (rw c.in-Nothing.is at c.in_ok-aims.ensures.aimed) in
    let u = setting_of c.args.problem.now in
    record {
      owes = λ asking.
          subst (Owes (setting_for c.args.problem.now.schema.now c.args.problem.now.constraints.now c.args.problem.now.query.now c.args.seen.now nodes asking) c.args.problem.now.nodes) (sym c.impossible_by.ensures)
          (owes_impossible c.args.problem.now.schema.now c.args.problem.now.constraints.now c.args.problem.now.query.now c.args.seen.now nodes asked.posed.formed asked.posed.limited asked.posed.found.tree c.args.problem.now.nodes asking (Void c.in-Nothing.tree) void.shows void.small.few (λ seen_rows. void.small.fits));
      rows = subst (HasShownRows u) (sym c.impossible_by.ensures) (impossible_shown u (Void c.in-Nothing.tree));
    }
