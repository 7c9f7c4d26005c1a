use Rattle.pc_run_words.proofs.given.words_given.Goals as goal

pub returns : goal.returns
returns c = c.found_in.ensures c.args.name.now c.args.has_nodes c.in_ok-parser_for.ensures
