use Rattle.std.proofs.Common.{◌∙◌, ap, subst}
use Rattle.pc_model.specs.Right.{Answer}
use Rattle.pc_desk_why.specs.Explained.{IsFound, is_open}
use Rattle.pc_desk_why.proofs.blocks.block_explained.Goals as goal

pub returns : goal.returns
returns c =
    let answered = c.requires.answered in
    record {
      answer = record { block = c.args.block.now; nodes = answered.nodes };
      answers = answered.answers;
      ask = c.args.ask.now;
      asks = c.requires.asks;
      explains = record {
        query = c.in_ok-query_name.ensures;
        group = c.in_ok-group_name.ensures;
        places = c.scale_for.ensures.value;
        is_left_open = c.is_open.ensures ∙ ap is_open c.of-told.ensures;
        is_found = subst (λ (a : Answer). IsFound c.args.ask.now a c.in_ok-found.found) c.of-told.ensures c.in_ok-found.ensures;
      };
      sums = c.is_summed.ensures;
    }
