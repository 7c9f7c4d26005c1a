use Rattle.std.proofs.lemmas.Result.{IfOk-weaker}
use Rattle.pc_desk_answers.specs.Blocks.{asked, ground_of}
use Rattle.pc_desk_why.proofs.Places.{have_few}
use Rattle.pc_desk_why.proofs.explaining.explain.Goals as goal

pub returns : goal.returns
returns c =
    let explained = rw c.as_slice-constraints.ensures at c.explain_all.ensures.explained in
    record {
      explained = explained;
      places = IfOk-weaker c.explain_all.result _ _ (λ all each. have_few (ground_of c.args.observed.now c.args.nodes) c.requires.usable.well_formed (asked c.args.observed.now.schema c.args.questions.now) all each) explained;
    }
