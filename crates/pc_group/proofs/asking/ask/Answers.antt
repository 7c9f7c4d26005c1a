use Rattle.pc_model.specs.Regions.{whole_area}
use Rattle.pc_cells_tree.proofs.TreeLaws.{kept_stays_divided}
use Rattle.pc_group.proofs.asking.ask.Goals as goal

pub returns-clause-session : goal.returns-clause-session
returns-clause-session c =
    let before = c.args.session.now in
    let is = c.requires.session in
    let after = c.answer_with.ensures in
    record {
      well_formed = is.well_formed;
      few_names = is.few_names;
      seen = is.seen;
      accepted = is.accepted;
      kept = record {
        tree = after.tree;
        divided = kept_stays_divided before.schema before.constraints (whole_area before.schema) before.tree.nodes c.answer_with.new.shared.nodes is.kept.tree after.kept is.kept.divided;
        own = after.own is.kept.own;
      };
    }

pub returns-clause-divided : goal.returns-clause-divided
returns-clause-divided c = rw c.as_slice.ensures at c.answer_with.ensures.divided

pub returns-clause-needed : goal.returns-clause-needed
returns-clause-needed c = rw c.as_slice.ensures at c.answer_with.ensures.needed
