use Rattle.std.proofs.Common.{arith}
use Rattle.pc_model.specs.Runs.{rows_of}
use Rattle.pc_check.proofs.ManyRows.{possible_few, runs_few}
use Rattle.pc_check.proofs.FoldedRows.{fold_few}
use Rattle.pc_check.proofs.MatterTotals.{total_comes}
use Rattle.pc_check.proofs.totals.total_with.Goals as goal

pub fold_runs-lost-requires : goal.fold_runs-lost-requires
fold_runs-lost-requires c =
    let matter = c.args.matter.now in
    record { few = runs_few matter.schema.now matter.scene.constraints.now c.args.runs.now c.requires.judged.limited c.requires.possible }

pub joined-requires : goal.joined-requires
joined-requires c =
    let matter = c.args.matter.now in
    let rows = possible_few matter.schema.now matter.scene.constraints.now (rows_of c.args.runs.now) c.requires.judged.limited c.requires.possible in
    let lost = fold_few matter.asked.now _ (rows_of c.args.runs.now) c.fold_runs-lost.result c.fold_runs-lost.ensures in
    record { few = omega (arith, rows, lost, c.requires.judged.counted.few) }

pub returns-clause-few : goal.returns-clause-few
returns-clause-few c =
    let matter = c.args.matter.now in
    let rows = possible_few matter.schema.now matter.scene.constraints.now (rows_of c.args.runs.now) c.requires.judged.limited c.requires.possible in
    let lost = fold_few matter.asked.now _ (rows_of c.args.runs.now) c.fold_runs-lost.result c.fold_runs-lost.ensures in
    omega (arith, rows, lost, c.requires.judged.counted.few, c.joined.ensures.count)

pub returns-clause-comes : goal.returns-clause-comes
returns-clause-comes c = λ s of_matter.
    let joined = c.joined.ensures in
    total_comes c.args.matter.now s of_matter c.requires.judged (rows_of c.args.runs.now) c.requires.possible c.fold_runs-lost.result c.joined.result c.fold_runs-lost.ensures
    joined.count joined.sum joined.least joined.greatest
