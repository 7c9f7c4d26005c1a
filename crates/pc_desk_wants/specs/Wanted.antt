-- The words for what may stand at a place.
use Rattle.std.specs.Prelude.{ℕ, List, [], ◌∷◌, ◌++◌, codes, map, if◌then◌else◌}
use Rattle.std.specs.List.{concat}
use Rattle.pc_lang_tokens.specs.Texts.{symbol_text, word_text}
use Rattle.pc_lang_grammar.specs.declared.want.ClauseWant.TheVariants as within
use Rattle.pc_lang_grammar.specs.declared.want.LineWant.TheVariants as lines
use Rattle.pc_lang_grammar.specs.declared.want.Want.{Want}
use Rattle.pc_lang_grammar.specs.declared.want.Want.TheVariants as wants
use Rattle.pc_lang_grammar.specs.declared.want.Kind.{Kind}
use Rattle.pc_lang_grammar.specs.declared.want.Kind.TheVariants as kinds
use Rattle.pc_lang_grammar.specs.Wants.{may_end}
use Rattle.pc_desk_wants.specs.Joined.{joined}
use Rattle.pc_desk_wants.specs.Kinds.{told_kinds}

-- a sign or a word between backquotes
unfoldable pub in_quotes : List ℕ → List ℕ
in_quotes text = concat (codes "`" ∷ text ∷ codes "`" ∷ [])

-- what a number is for
abbrev pub number_word : Want → List ℕ
number_word (wants.Line lines.Least) = codes "the least number of rows"
number_word (wants.Line lines.Most) = codes "the greatest number of rows"
number_word want = codes "a number"

-- what a name is of
abbrev pub name_word : Want → List ℕ
name_word (wants.Line line) = codes "the name of a constraint"
name_word (wants.Clause clause within.Either) = codes "a name of the column"
name_word (wants.Clause clause within.Member) = codes "a name of the column"
name_word want = codes "a column of the schema"

-- a token of this kind where this is wanted
unfoldable pub kind_text : Want → Kind → List ℕ
kind_text want (kinds.Symbol symbol) = in_quotes (symbol_text symbol)
kind_text want (kinds.Reserved word) = in_quotes (word_text word)
kind_text want kinds.Number = number_word want
kind_text want kinds.Name = name_word want

-- `median` stands for a quantile where a query is asked
abbrev pub further : Want → List (List ℕ)
further wants.Asked = in_quotes (codes "median") ∷ []
further want = []

abbrev pub ending : Want → List (List ℕ)
ending want = if may_end want then codes "the end" ∷ [] else []

-- all that may stand where this is wanted
unfoldable pub alternatives : Want → List (List ℕ)
alternatives want = (map (kind_text want) (told_kinds want) ++ further want) ++ ending want

unfoldable pub wanted_text : Want → List ℕ
wanted_text want = joined (codes " or ") (alternatives want)
