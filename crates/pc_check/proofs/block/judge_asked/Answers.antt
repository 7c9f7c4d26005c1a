use Rattle.std.proofs.Common.{refl, ◌∙◌}
use Rattle.pc_proof.specs.Documents.{setting_of}
use Rattle.pc_check.specs.Premises.{case_of}
use Rattle.pc_check.proofs.Matters.{limited, counted, matter_of}
use Rattle.pc_check.proofs.block.judge_asked.Goals as goal

pub judge_answer-requires-clause-judged : goal.judge_answer-requires-clause-judged
judge_answer-requires-clause-judged c =
    let premises = c.args.premises.now in
    let given = c.requires.premises in
    record {
      limited = limited premises.schema.now premises.constraints.now given.accepted;
      counted = counted premises.schema.now c.args.block.now.query premises.rows.now c.args.block.now.name c.args.seen.now given.formed given.observed c.requires.seen.folded_is c.requires.seen.few;
    }

pub returns : goal.returns
returns c = λ nodes same.
    let case = case_of c.args.premises.now in
    c.judge_answer.ensures (setting_of case c.args.block.now nodes)
    (matter_of case c.args.block.now _ nodes c.requires.premises.formed c.requires.formed c.requires.allowed
    (record {
      schema_is = refl;
      asked_is = c.requires.query;
      constraints_are = refl;
      cells_are = c.as_slice.ensures ∙ same;
      agg_is = refl;
      folded = c.requires.seen.folded_is;
    }))
