-- The name of a line that is read is a name.
use Rattle.std.proofs.Common.{◌≡◌, ℕ, true, List, ◌++◌, Ok}
use Rattle.std.proofs.lemmas.Bool.{and_parts}
use Rattle.pc_model.specs.Texts.{is_name}
use Rattle.pc_lang_tokens.specs.declared.token.Token.{Token}
use Rattle.pc_lang_tokens.specs.Lexing.{tokens_of}
use Rattle.pc_lang_tokens.specs.Texts.{are_spelled}
use Rattle.pc_lang_tokens.proofs.Spelled.{tokens_are_spelled}
use Rattle.pc_lang_tokens.proofs.TokensBack.{all_spelled}
use Rattle.pc_lang_grammar.specs.declared.syntax.Head.{Head}
use Rattle.pc_lang_grammar.specs.declared.syntax.Head.TheVariants as heads
use Rattle.pc_lang_grammar.specs.declared.syntax.Line.{Line}
use Rattle.pc_lang_grammar.specs.Grammar.{head_tokens, line_tokens}
use Rattle.pc_lang_grammar.specs.Parsing.{line_of}
use Rattle.pc_lang_grammar.proofs.Laws.{lines_spelled}
use Rattle.pc_lang.specs.Meaning.{IsNamed}

head_named : (head : Head) (body rest : List Token) → are_spelled ((head_tokens head ++ body) ++ rest) ≡ true → IsNamed head
unfolding head_tokens
head_named (heads.Named name when) body rest spelled = (and_parts (is_name name) _ (all_spelled ((head_tokens (heads.Named name when) ++ body) ++ rest) spelled)).0
head_named heads.Outside body rest spelled = tt

first_named : (line : Line) → are_spelled (line_tokens line) ≡ true → IsNamed line.head
unfolding line_tokens
first_named line spelled = head_named line.head _ _ spelled

pub line_is_named : (text : List ℕ) (list : List Token) (line : Line) → tokens_of text ≡ Ok list → line_of list ≡ Ok line → IsNamed line.head
line_is_named text list line read spells =
    let same = lines_spelled list line spells in
    first_named line (rw same (tokens_are_spelled text list read))

pub ruleset line_steps = (line_is_named)
