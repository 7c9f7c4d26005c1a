use Rattle.std.proofs.Common.{ℕ, All, List, length, ap, ap₂, sym, subst, ◌∙◌, arith}
use Rattle.std.proofs.lemmas.Result.{IfOk-weaker}
use Rattle.pc_model.specs.Cells.{IsRowOf}
use Rattle.pc_witness.proofs.Zipped.{AllZip-weaker}
use Rattle.pc_proof.specs.Setting.{cells}
use Rattle.pc_branch_licences.specs.Pools.{AreLawful}
use Rattle.pc_agg_search.specs.declared.extreme.Extreme.TheVariants.{Low, High}
use Rattle.pc_agg_search.specs.Ends.{gain_towards, IsPick}
use Rattle.pc_agg_search.specs.Problem.{setting_of}
use Rattle.pc_agg.specs.declared.settling.Settled.{Settled}
use Rattle.pc_agg.specs.Marks.{IsAmong}
use Rattle.pc_agg.specs.Settling.{listed}
use Rattle.pc_agg.proofs.Aiming.{lawful_both, low_among, high_among, none_among_both, sized_first, none_of, some_of}
use Rattle.pc_agg.proofs.ShownRows.{picks_shown, low_picks}
use Rattle.pc_agg.proofs.Totals.{settled_listed}
use Rattle.pc_agg.proofs.bounds.settle_over.Goals as goal

pub listed-requires-clause-sized : goal.listed-requires-clause-sized
listed-requires-clause-sized c =
    let nodes = c.args.problem.now.cells.now.tree.nodes in
    let u = setting_of c.args.problem.now in
    let aims = c.requires.aims in
    let lawful = lawful_both c.args.problem.now.schema.now c.args.problem.now.constraints.now c.args.problem.now.query.now nodes c.requires.posed.limited c.args.problem.now.query.now.agg c.args.problem.now.nodes Low High c.args.aims.now.low c.args.aims.now.high aims.low aims.high in
    let some = some_of c.in_ok-found.found (sym c.is_empty.ensures ∙ c.if-not-is_empty.true) in
    rw c.as_slice.ensures
    (sized_first c.args.problem.now.schema.now c.args.problem.now.constraints.now c.args.problem.now.query.now nodes c.requires.posed.limited c.args.problem.now.query.now.agg c.args.problem.now.nodes Low c.args.aims.now.low c.in_ok-found.found aims.low
    (subst (All (AreLawful u)) (sym c.in_ok-found.ensures) lawful) some)

pub returns-then-not-is_empty-clause-settled : goal.returns-then-not-is_empty-clause-settled
returns-then-not-is_empty-clause-settled c =
    let nodes = c.args.problem.now.cells.now.tree.nodes in
    let u = setting_of c.args.problem.now in
    let aims = c.requires.aims in
    let lawful = lawful_both c.args.problem.now.schema.now c.args.problem.now.constraints.now c.args.problem.now.query.now nodes c.requires.posed.limited c.args.problem.now.query.now.agg c.args.problem.now.nodes Low High c.args.aims.now.low c.args.aims.now.high aims.low aims.high in
    let some = some_of c.in_ok-found.found (sym c.is_empty.ensures ∙ c.if-not-is_empty.true) in
    let rows = AllZip-weaker (IsPick u c.args.problem.now.query.now.agg Low) (IsRowOf c.args.problem.now.schema.now c.args.problem.now.constraints.now c.args.problem.now.query.now.chosen) (λ class row pick. pick.of_cell) (cells u) c.args.aims.now.low.picks aims.low.picked in
    let shown = picks_shown u c.args.problem.now.query.now.agg Low c.args.aims.now.low.picks aims.low.picked in
    IfOk-weaker c.listed.result _ _
    (λ settled is. settled_listed u c.args.problem.now.nodes c.args.aims.now.low.picks c.in_ok-found.found settled rows (low_picks u c.args.aims.now.low.picks shown _) some (subst (All (AreLawful u)) (sym c.in_ok-found.ensures) lawful) (rw c.as_slice.ensures at is))
    c.listed.ensures

pub returns-then-not-is_empty-clause-low : goal.returns-then-not-is_empty-clause-low
returns-then-not-is_empty-clause-low c =
    let aims = c.requires.aims in
    IfOk-weaker c.listed.result _ _
    (λ settled is.
    subst (λ (x : Settled). IsAmong x.found c.args.aims.now.low.limit) (sym is)
    (subst (λ found. IsAmong found c.args.aims.now.low.limit) (sym c.in_ok-found.ensures)
    (low_among c.args.problem.now.schema.now c.args.problem.now.constraints.now c.args.problem.now.query.now c.args.problem.now.cells.now.tree.nodes c.requires.posed.limited c.args.problem.now.query.now.agg c.args.problem.now.nodes Low High c.args.aims.now.low c.args.aims.now.high aims.low aims.high)))
    c.listed.ensures

pub returns-then-not-is_empty-clause-high : goal.returns-then-not-is_empty-clause-high
returns-then-not-is_empty-clause-high c =
    let aims = c.requires.aims in
    IfOk-weaker c.listed.result _ _
    (λ settled is.
    subst (λ (x : Settled). IsAmong x.found c.args.aims.now.high.limit) (sym is)
    (subst (λ found. IsAmong found c.args.aims.now.high.limit) (sym c.in_ok-found.ensures)
    (high_among c.args.problem.now.schema.now c.args.problem.now.constraints.now c.args.problem.now.query.now c.args.problem.now.cells.now.tree.nodes c.requires.posed.limited c.args.problem.now.query.now.agg c.args.problem.now.nodes Low High c.args.aims.now.low c.args.aims.now.high aims.low aims.high)))
    c.listed.ensures

pub returns-then-not-is_empty-clause-nested : goal.returns-then-not-is_empty-clause-nested
returns-then-not-is_empty-clause-nested c nested = IfOk-weaker c.listed.result _ _ (λ settled is. rw is tt) c.listed.ensures

pub settle_open-requires-clause-low : goal.settle_open-requires-clause-low
settle_open-requires-clause-low c =
    (gain_towards (setting_of c.args.problem.now) c.args.problem.now.query.now.agg Low, c.requires.aims.low.limit)

pub settle_open-requires-clause-high : goal.settle_open-requires-clause-high
settle_open-requires-clause-high c =
    (gain_towards (setting_of c.args.problem.now) c.args.problem.now.query.now.agg High, c.requires.aims.high.limit)

pub settle_open-requires-clause-closed : goal.settle_open-requires-clause-closed
settle_open-requires-clause-closed c nested none = rw none at (c.requires.reached nested).low

pub returns-clause-low : goal.returns-clause-low
returns-clause-low c =
    let aims = c.requires.aims in
    let none = none_of c.in_ok-found.found _ c.in_ok-found.ensures (sym c.is_empty.ensures ∙ c.if-not-is_empty.false) in
    IfOk-weaker c.settle_open.result _ _
    (λ settled is. (none_among_both c.args.problem.now.schema.now c.args.problem.now.constraints.now c.args.problem.now.query.now c.args.problem.now.cells.now.tree.nodes c.requires.posed.limited c.args.problem.now.query.now.agg c.args.problem.now.nodes Low High c.args.aims.now.low c.args.aims.now.high aims.low aims.high settled.found none).0)
    c.settle_open.ensures.settled

pub returns-clause-high : goal.returns-clause-high
returns-clause-high c =
    let aims = c.requires.aims in
    let none = none_of c.in_ok-found.found _ c.in_ok-found.ensures (sym c.is_empty.ensures ∙ c.if-not-is_empty.false) in
    IfOk-weaker c.settle_open.result _ _
    (λ settled is. (none_among_both c.args.problem.now.schema.now c.args.problem.now.constraints.now c.args.problem.now.query.now c.args.problem.now.cells.now.tree.nodes c.requires.posed.limited c.args.problem.now.query.now.agg c.args.problem.now.nodes Low High c.args.aims.now.low c.args.aims.now.high aims.low aims.high settled.found none).1)
    c.settle_open.ensures.settled

pub returns-then-not-is_empty-clause-listed : goal.returns-then-not-is_empty-clause-listed
returns-then-not-is_empty-clause-listed c = IfOk-weaker c.listed.result _ _ (λ settled is some. is ∙ ap₂ listed c.as_slice.ensures c.in_ok-found.ensures) c.listed.ensures

pub returns-clause-listed : goal.returns-clause-listed
returns-clause-listed c =
    let none = none_of c.in_ok-found.found _ c.in_ok-found.ensures (sym c.is_empty.ensures ∙ c.if-not-is_empty.false) in
    let short = ap (λ (list : List (List ℕ)). length list) none in
    IfOk-weaker c.settle_open.result _ _ (λ settled is some. absurd (omega (arith, some, short))) c.settle_open.ensures.settled
