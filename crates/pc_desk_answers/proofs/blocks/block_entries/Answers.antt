use Rattle.std.proofs.Common.{[], List, map, sym, subst}
use Rattle.std.proofs.lemmas.Result.{IfOk-weaker}
use Rattle.pc_group.specs.Wanted.{wanted_by}
use Rattle.pc_desk_table.specs.declared.entry.Entry.{Entry}
use Rattle.pc_desk_answers.specs.Blocks.{AreShown, block, ground_in}
use Rattle.pc_desk_answers.proofs.Shown.{are_printed, entries_show}
use Rattle.pc_desk_answers.proofs.blocks.block_entries.Goals as goal

pub entries_between-requires-clause-printed : goal.entries_between-requires-clause-printed
entries_between-requires-clause-printed c =
    let ground = ground_in c.args.scope.now in
    are_printed ground.nodes ground.schema ground.rows ground.constraints c.args.query.now c.args.blocks.now c.requires.answers

pub entries_between-requires-clause-left_printed : goal.entries_between-requires-clause-left_printed
entries_between-requires-clause-left_printed c =
    let ground = ground_in c.args.scope.now in
    are_printed ground.nodes ground.schema ground.rows [] c.args.query.now c.args.lefts.now c.requires.nothing_lost

pub returns : goal.returns
returns c =
    let ground = ground_in c.args.scope.now in
    IfOk-weaker c.entries_between.result _ _
    (λ entries is. subst (λ (es : List Entry). AreShown ground (map block (wanted_by ground.schema c.args.query.now)) es) (sym is)
    (entries_show ground c.args.query.now c.args.blocks.now c.args.lefts.now c.requires.answers c.requires.nothing_lost))
    c.entries_between.ensures
