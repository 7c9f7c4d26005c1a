use Rattle.std.proofs.Common.{◌≡◌, length, map, sym, subst, to_z, of_z, arith}
use Rattle.std.specs.Int.{w128}
use Rattle.std.proofs.lemmas.Int.{ints}
use Rattle.std.proofs.lemmas.List.{length-map}
use Rattle.std.proofs.lemmas.Result.{IfOk-weaker}
use Rattle.pc_cells.specs.Found.{class_of_cell}
use Rattle.pc_proof.specs.Setting.{program_for}
use Rattle.pc_agg_search.specs.Limits.{IsLimit}
use Rattle.pc_agg_search.specs.Problem.{setting_of}
use Rattle.pc_agg.proofs.Aiming.{even_is, even_program}
use Rattle.pc_agg_search.proofs.PosedPrograms.{own_classes}
use Rattle.pc_agg.proofs.Totals.{lawful_found, total_of, settled_void}
use Rattle.pc_agg.proofs.settling.find_total.Goals as goal

pub settled_within-requires-clause-lawful : goal.settled_within-requires-clause-lawful
settled_within-requires-clause-lawful c =
    let u = setting_of c.args.problem.now in
    let found = c.args.problem.now.cells.now.cells in
    let same : to_z w128 (of_z w128 c.args.gain) ≡ c.args.gain = omega (arith, ints) in
    let classes = own_classes c.args.problem.now c.requires.posed in
    let is = even_is c.args.problem.now.schema.now c.args.problem.now.constraints.now c.args.problem.now.query.now c.args.problem.now.cells.now.tree.nodes c.requires.posed.limited c.args.gain (map class_of_cell found) c.in_ok-gains.gains (length found) classes
    (sym (length-map found class_of_cell)) (rw (same, c.len.ensures) at c.in_ok-gains.ensures) in
    let limit = subst (λ p. IsLimit p c.args.problem.now.nodes c.in-Within.limit) is (rw c.in-Within.is at c.in_ok-limit.ensures.sought) in
    lawful_found u (λ _. c.args.gain) c.in-Within.limit.found limit.allowed

pub returns-in-Within-clause-total : goal.returns-in-Within-clause-total
returns-in-Within-clause-total c =
    let u = setting_of c.args.problem.now in
    let found = c.args.problem.now.cells.now.cells in
    let same : to_z w128 (of_z w128 c.args.gain) ≡ c.args.gain = omega (arith, ints) in
    let classes = own_classes c.args.problem.now c.requires.posed in
    let is = even_is c.args.problem.now.schema.now c.args.problem.now.constraints.now c.args.problem.now.query.now c.args.problem.now.cells.now.tree.nodes c.requires.posed.limited c.args.gain (map class_of_cell found) c.in_ok-gains.gains (length found) classes
    (sym (length-map found class_of_cell)) (rw (same, c.len.ensures) at c.in_ok-gains.ensures) in
    let limit = subst (λ p. IsLimit p c.args.problem.now.nodes c.in-Within.limit) is (rw c.in-Within.is at c.in_ok-limit.ensures.sought) in
    let program = even_program c.args.problem.now.schema.now c.args.problem.now.constraints.now c.args.problem.now.query.now c.args.problem.now.cells.now.tree.nodes c.requires.posed.limited c.args.gain in
    IfOk-weaker c.settled_within.result _ _
    (λ total of. total_of u (program_for u (λ _. c.args.gain)) c.args.problem.now.nodes c.in-Within.limit total program limit of)
    c.settled_within.ensures.total

pub returns-in-Nothing-clause-total : goal.returns-in-Nothing-clause-total
returns-in-Nothing-clause-total c =
    settled_void (setting_of c.args.problem.now) c.args.problem.now.nodes c.in_ok-gains.gains c.in-Nothing.tree c.impossible.result
    (rw c.in-Nothing.is at c.in_ok-limit.ensures.sought) c.impossible.ensures
