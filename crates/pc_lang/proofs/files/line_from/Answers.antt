use Rattle.std.proofs.Common.{rules, ◌≡◌, Ok}
use Rattle.pc_lang_grammar.specs.Parsing.{line_of}
use Rattle.pc_lang.proofs.ReadTexts.{line_is_named}
use Rattle.pc_lang.proofs.files.line_from.Goals as goal

pub returns-clause-named : goal.returns-clause-named
returns-clause-named c =
    let list = c.in_ok-tokens.tokens.list in
    let spells : line_of list ≡ Ok c.in_ok-read_line.field-0 = search rules in
    line_is_named c.args.text.now list c.in_ok-read_line.field-0 c.in_ok-tokens.ensures.reads.all spells
