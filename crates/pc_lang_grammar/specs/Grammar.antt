-- The grammar: of which tokens a line of a constraint and a query are made.
use Rattle.std.specs.Prelude.{ℕ, List, [], ◌∷◌, ◌++◌, Option, Some, None, flat_map}
use Rattle.pc_lang_tokens.specs.declared.token.Symbol.TheVariants as symbols
use Rattle.pc_lang_tokens.specs.declared.token.Word.{Word}
use Rattle.pc_lang_tokens.specs.declared.token.Word.TheVariants as words
use Rattle.pc_lang_tokens.specs.declared.token.Token.{Token}
use Rattle.pc_lang_tokens.specs.declared.token.Token.TheVariants as tokens
use Rattle.pc_lang_grammar.specs.declared.syntax.Claim.{Claim}
use Rattle.pc_lang_grammar.specs.declared.syntax.Claim.TheVariants as claims
use Rattle.pc_lang_grammar.specs.declared.syntax.Atom.{Atom}
use Rattle.pc_lang_grammar.specs.declared.syntax.Part.{Part}
use Rattle.pc_lang_grammar.specs.declared.syntax.Ways.{Ways}
use Rattle.pc_lang_grammar.specs.declared.syntax.Head.{Head}
use Rattle.pc_lang_grammar.specs.declared.syntax.Head.TheVariants as heads
use Rattle.pc_lang_grammar.specs.declared.syntax.Line.{Line}
use Rattle.pc_lang_grammar.specs.declared.syntax.Measure.{Measure}
use Rattle.pc_lang_grammar.specs.declared.syntax.Measure.TheVariants as measures
use Rattle.pc_lang_grammar.specs.declared.syntax.Question.{Question}
use Rattle.pc_lang_grammar.specs.declared.syntax.QuantileQuestion.{QuantileQuestion}

-- each further name after a comma
abbrev pub further_names : List (List ℕ) → List Token
further_names names = flat_map (λ name. tokens.Symbol symbols.Comma ∷ tokens.Name name ∷ []) names

-- what an atom says of its column
unfoldable pub claim_tokens : Claim → List Token
claim_tokens (claims.Number number) = tokens.Symbol symbols.Equal ∷ tokens.Number number ∷ []
claim_tokens (claims.Name name) = tokens.Symbol symbols.Equal ∷ tokens.Name name ∷ []
claim_tokens (claims.AtLeast number) = tokens.Symbol symbols.AtLeast ∷ tokens.Number number ∷ []
claim_tokens (claims.AtMost number) = tokens.Symbol symbols.AtMost ∷ tokens.Number number ∷ []
claim_tokens (claims.Above number) = tokens.Symbol symbols.Above ∷ tokens.Number number ∷ []
claim_tokens (claims.Below number) = tokens.Symbol symbols.Below ∷ tokens.Number number ∷ []
claim_tokens (claims.Within low high) = tokens.Reserved words.In ∷ tokens.Number low ∷ tokens.Symbol symbols.Dots ∷ tokens.Number high ∷ []
claim_tokens (claims.Among first others) =
    tokens.Reserved words.In ∷ tokens.Symbol symbols.OpenSet ∷ tokens.Name first ∷ further_names others ++ (tokens.Symbol symbols.CloseSet ∷ [])

unfoldable pub atom_tokens : Atom → List Token
atom_tokens atom = tokens.Name atom.column ∷ claim_tokens atom.claim

-- each further atom after an `and`
abbrev pub further_atoms : List Atom → List Token
further_atoms atoms = flat_map (λ (atom : Atom). tokens.Reserved words.And ∷ atom_tokens atom) atoms

-- atoms joined by `and`, or `true`
abbrev pub joined_atoms : List Atom → List Token
joined_atoms [] = tokens.Reserved words.True ∷ []
joined_atoms (first ∷ others) = atom_tokens first ++ further_atoms others

unfoldable pub part_tokens : Part → List Token
part_tokens part = joined_atoms part.atoms

-- each further part after an `or`
abbrev pub further_parts : List Part → List Token
further_parts parts = flat_map (λ (part : Part). tokens.Reserved words.Or ∷ part_tokens part) parts

-- parts joined by `or`
unfoldable pub ways_tokens : Ways → List Token
ways_tokens ways = part_tokens ways.first ++ further_parts ways.others

-- a name and its parts, or `outside`
unfoldable pub head_tokens : Head → List Token
head_tokens (heads.Named name when) = tokens.Name name ∷ tokens.Symbol symbols.Colon ∷ ways_tokens when
head_tokens heads.Outside = tokens.Reserved words.Outside ∷ []

-- how many rows there may be
abbrev pub frequency_tokens : List ℕ → List ℕ → List Token
frequency_tokens least most = tokens.Symbol symbols.Comma ∷ tokens.Number least ∷ tokens.Symbol symbols.Dots ∷ tokens.Number most ∷ []

-- the line of a constraint
unfoldable pub line_tokens : Line → List Token
line_tokens line = (head_tokens line.head ++ tokens.Symbol symbols.Arrow ∷ part_tokens line.values) ++ frequency_tokens line.least line.most

-- an aggregate of a column
abbrev pub aggregate_tokens : Word → List ℕ → List Token
aggregate_tokens word column = tokens.Reserved word ∷ tokens.Symbol symbols.OpenGroup ∷ tokens.Name column ∷ tokens.Symbol symbols.CloseGroup ∷ []

unfoldable pub measure_tokens : Measure → List Token
measure_tokens measures.Count = tokens.Reserved words.Count ∷ []
measure_tokens measures.CountOfAll = tokens.Reserved words.Count ∷ tokens.Symbol symbols.OpenGroup ∷ tokens.Symbol symbols.Star ∷ tokens.Symbol symbols.CloseGroup ∷ []
measure_tokens (measures.Sum column) = aggregate_tokens words.Sum column
measure_tokens (measures.Min column) = aggregate_tokens words.Min column
measure_tokens (measures.Max column) = aggregate_tokens words.Max column
measure_tokens (measures.Avg column) = aggregate_tokens words.Avg column

-- `where` and parts, or nothing
abbrev pub where_tokens : Option Ways → List Token
where_tokens None = []
where_tokens (Some ways) = tokens.Reserved words.Where ∷ ways_tokens ways

-- `group by` and a column, or nothing
abbrev pub group_tokens : Option (List ℕ) → List Token
group_tokens None = []
group_tokens (Some column) = tokens.Reserved words.Group ∷ tokens.Reserved words.By ∷ tokens.Name column ∷ []

-- a query
unfoldable pub question_tokens : Question → List Token
question_tokens question = measure_tokens question.measure ++ where_tokens question.chosen ++ group_tokens question.group

-- the query of a quantile
unfoldable pub quantile_tokens : QuantileQuestion → List Token
quantile_tokens question =
    tokens.Reserved words.Quantile ∷ tokens.Symbol symbols.OpenGroup ∷ tokens.Number question.p ∷ tokens.Symbol symbols.Comma ∷ tokens.Number question.q
    ∷ tokens.Symbol symbols.Comma ∷ tokens.Name question.column ∷ tokens.Symbol symbols.CloseGroup ∷ where_tokens question.chosen
