use Rattle.std.proofs.Common.{List, subst}
use Rattle.std.proofs.lemmas.Result.{IfOk-weaker}
use Rattle.pc_model.specs.declared.constraint.Constraint.{Constraint}
use Rattle.pc_model.proofs.Areas.{lone_outside}
use Rattle.pc_cells.specs.Found.{TellsDisjoint}
use Rattle.pc_run.proofs.show.report_listing.Goals as goal

pub pairwise_apart-disjoint-requires : goal.pairwise_apart-disjoint-requires
pairwise_apart-disjoint-requires c =
    let accepted = c.requires.accepted in
    record {
      of_one_schema = (c.args.listing.now.schema, rw c.as_slice.ensures accepted.servable);
      lone = rw c.as_slice.ensures (lone_outside c.args.listing.now.schema c.args.listing.now.constraints accepted);
    }

pub returns : goal.returns
returns c =
    let tells = subst (λ (constraints : List Constraint). TellsDisjoint constraints c.pairwise_apart-disjoint.result) c.as_slice.ensures c.pairwise_apart-disjoint.ensures.disjoint in
    IfOk-weaker c.text_of.result _ _
    (λ text is. record { disjoint = c.pairwise_apart-disjoint.result; means = tells c.args.listing.now.schema c.requires.accepted.servable; listed = is })
    c.text_of.ensures
