-- What tokens spell, as a function of them. That it agrees with the grammar is a law of the crate.
use Rattle.std.specs.Prelude.{ℕ, ◌+◌, ◌-◌, Bool, false, true, List, [], ◌∷◌, ◌++◌, length, take, drop, Option, Some, None, Result, Ok, Err, position}
use Rattle.std.specs.List.{slice_split}
use Rattle.pc_model.specs.declared.fault.Reason.{Reason}
use Rattle.pc_model.specs.declared.fault.Reason.TheVariants as reasons
use Rattle.pc_model.specs.Refusals.{◌>>=◌}
use Rattle.pc_lang_tokens.specs.declared.token.Symbol.TheVariants as symbols
use Rattle.pc_lang_tokens.specs.declared.token.Word.{Word}
use Rattle.pc_lang_tokens.specs.declared.token.Word.TheVariants as words
use Rattle.pc_lang_tokens.specs.declared.token.Token.{Token}
use Rattle.pc_lang_tokens.specs.declared.token.Token.TheVariants as tokens
use Rattle.pc_lang_grammar.specs.declared.syntax.Claim.{Claim}
use Rattle.pc_lang_grammar.specs.declared.syntax.Claim.TheVariants as claims
use Rattle.pc_lang_grammar.specs.declared.syntax.Atom.{Atom}
use Rattle.pc_lang_grammar.specs.declared.syntax.Part.{Part}
use Rattle.pc_lang_grammar.specs.declared.syntax.Ways.{Ways}
use Rattle.pc_lang_grammar.specs.declared.syntax.Head.{Head}
use Rattle.pc_lang_grammar.specs.declared.syntax.Head.TheVariants as heads
use Rattle.pc_lang_grammar.specs.declared.syntax.Line.{Line}
use Rattle.pc_lang_grammar.specs.declared.syntax.Measure.{Measure}
use Rattle.pc_lang_grammar.specs.declared.syntax.Measure.TheVariants as measures
use Rattle.pc_lang_grammar.specs.declared.syntax.Question.{Question}
use Rattle.pc_lang_grammar.specs.declared.syntax.QuantileQuestion.{QuantileQuestion}

abbrev pub Found : Type 0 → Type 0
Found A = Result A Reason

-- the names of a set after its first, up to the bracket that ends it and the tokens
unfoldable pub names_after : List (List ℕ) → List Token → Found (List (List ℕ))
names_after before (tokens.Symbol symbols.CloseSet ∷ []) = Ok before
names_after before (tokens.Symbol symbols.Comma ∷ tokens.Name name ∷ rest) = names_after (before ++ name ∷ []) rest
names_after before other = Err reasons.Unexpected

abbrev pub among : List ℕ → List (List ℕ) → Found Claim
among first others = Ok (claims.Among first others)

-- what all of the tokens say of a column
unfoldable pub claim_of : List Token → Found Claim
claim_of (tokens.Symbol symbols.Equal ∷ tokens.Number number ∷ []) = Ok (claims.Number number)
claim_of (tokens.Symbol symbols.Equal ∷ tokens.Name name ∷ []) = Ok (claims.Name name)
claim_of (tokens.Symbol symbols.AtLeast ∷ tokens.Number number ∷ []) = Ok (claims.AtLeast number)
claim_of (tokens.Symbol symbols.AtMost ∷ tokens.Number number ∷ []) = Ok (claims.AtMost number)
claim_of (tokens.Symbol symbols.Above ∷ tokens.Number number ∷ []) = Ok (claims.Above number)
claim_of (tokens.Symbol symbols.Below ∷ tokens.Number number ∷ []) = Ok (claims.Below number)
claim_of (tokens.Reserved words.In ∷ tokens.Number low ∷ tokens.Symbol symbols.Dots ∷ tokens.Number high ∷ []) = Ok (claims.Within low high)
claim_of (tokens.Reserved words.In ∷ tokens.Symbol symbols.OpenSet ∷ tokens.Name first ∷ rest) = names_after [] rest >>= among first
claim_of other = Err reasons.Unexpected

abbrev pub atom : List ℕ → Claim → Found Atom
atom column claim = Ok (record { column = column; claim = claim })

-- the atom that all of the tokens spell
unfoldable pub atom_of : List Token → Found Atom
atom_of (tokens.Name column ∷ rest) = claim_of rest >>= atom column
atom_of other = Err reasons.Unexpected

-- the atoms of pieces, after those before
unfoldable pub atoms_from : List Atom → List (List Token) → Found (List Atom)
atoms_from before [] = Ok before
atoms_from before (piece ∷ rest) = atom_of piece >>= λ found. atoms_from (before ++ found ∷ []) rest

abbrev pub is_and : Token → Bool
is_and (tokens.Reserved words.And) = true
is_and other = false

abbrev pub part : List Atom → Found Part
part atoms = Ok (record { atoms = atoms })

-- the part that all of the tokens spell: `true`, or an atom in each piece between the `and`s
unfoldable pub part_of : List Token → Found Part
part_of (tokens.Reserved words.True ∷ []) = part []
part_of other = atoms_from [] (slice_split is_and other) >>= part

abbrev pub is_or : Token → Bool
is_or (tokens.Reserved words.Or) = true
is_or other = false

-- the parts of pieces, after those before
unfoldable pub parts_from : List Part → List (List Token) → Found (List Part)
parts_from before [] = Ok before
parts_from before (piece ∷ rest) = part_of piece >>= λ found. parts_from (before ++ found ∷ []) rest

-- the parts of pieces, of which there is one
unfoldable pub ways_from : List (List Token) → Found Ways
ways_from [] = Err reasons.Unexpected
ways_from (piece ∷ rest) = do
  first ← part_of piece
  others ← parts_from [] rest
  Ok (record { first = first; others = others })

-- the parts that all of the tokens spell: one in each piece between the `or`s
unfoldable pub ways_of : List Token → Found Ways
ways_of list = ways_from (slice_split is_or list)

-- the head that all of the tokens spell
unfoldable pub head_of : List Token → Found Head
head_of (tokens.Name name ∷ tokens.Symbol symbols.Colon ∷ rest) = ways_of rest >>= λ when. Ok (heads.Named name when)
head_of (tokens.Reserved words.Outside ∷ []) = Ok heads.Outside
head_of other = Err reasons.Unexpected

abbrev pub is_arrow : Token → Bool
is_arrow (tokens.Symbol symbols.Arrow) = true
is_arrow other = false

-- what stands before the first arrow, and what stands after it
abbrev pub around_arrow : Option ℕ → List Token → Found (List Token × List Token)
around_arrow None body = Err reasons.Unexpected
around_arrow (Some place) body = Ok (take place body, drop (place + 1) body)

unfoldable pub halves_of : List Token → Found (List Token × List Token)
halves_of body = around_arrow (position is_arrow body) body

-- the texts of the least and the greatest number of rows
unfoldable pub frequency_of : List Token → Found (List ℕ × List ℕ)
frequency_of (tokens.Symbol symbols.Comma ∷ tokens.Number least ∷ tokens.Symbol symbols.Dots ∷ tokens.Number most ∷ []) = Ok (least, most)
frequency_of other = Err reasons.Unexpected

-- a line of the tokens of its head and its values with the arrow, and those of the frequency
unfoldable pub line_from : List Token → List Token → Found Line
line_from body frequency = do
  counts ← frequency_of frequency
  halves ← halves_of body
  head ← head_of halves.0
  values ← part_of halves.1
  Ok (record { head = head; values = values; least = counts.0; most = counts.1 })

-- the line that all of the tokens spell: the frequency is the last four
unfoldable pub line_of : List Token → Found Line
line_of list = line_from (take (length list - 4) list) (drop (length list - 4) list)

-- what a constraint is called by, if that is all of the tokens: its name, which `outside` has empty
unfoldable pub rule_of : List Token → Found (List ℕ)
rule_of (tokens.Name name ∷ []) = Ok name
rule_of (tokens.Reserved words.Outside ∷ []) = Ok []
rule_of other = Err reasons.Unexpected

-- the measure of a column that a word names
unfoldable pub aggregate : Word → List ℕ → Found Measure
aggregate words.Sum column = Ok (measures.Sum column)
aggregate words.Min column = Ok (measures.Min column)
aggregate words.Max column = Ok (measures.Max column)
aggregate words.Avg column = Ok (measures.Avg column)
aggregate other column = Err reasons.Unexpected

-- the same with its column between brackets, and what stands after them
unfoldable pub aggregate_at : Word → List Token → Found (Measure × List Token)
aggregate_at word (tokens.Symbol symbols.OpenGroup ∷ tokens.Name column ∷ tokens.Symbol symbols.CloseGroup ∷ rest) = aggregate word column >>= λ measure. Ok (measure, rest)
aggregate_at word other = Err reasons.Unexpected

-- the measure that the tokens begin with, and what stands after it
unfoldable pub measure_at : List Token → Found (Measure × List Token)
measure_at (tokens.Reserved words.Count ∷ tokens.Symbol symbols.OpenGroup ∷ tokens.Symbol symbols.Star ∷ tokens.Symbol symbols.CloseGroup ∷ rest) = Ok (measures.CountOfAll, rest)
measure_at (tokens.Reserved words.Count ∷ rest) = Ok (measures.Count, rest)
measure_at (tokens.Reserved word ∷ rest) = aggregate_at word rest
measure_at other = Err reasons.Unexpected

-- the column of `group by`, if that is all of the tokens
unfoldable pub group_of : List Token → Option (List ℕ)
group_of (tokens.Reserved words.Group ∷ tokens.Reserved words.By ∷ tokens.Name column ∷ []) = Some column
group_of other = None

-- the tokens without those of a `group by` at their end
abbrev pub before_group : Option (List ℕ) → List Token → List Token
before_group None rest = rest
before_group (Some column) rest = take (length rest - 3) rest

-- the parts after a `where`, if there is one
unfoldable pub where_of : List Token → Found (Option Ways)
where_of [] = Ok None
where_of (tokens.Reserved words.Where ∷ rest) = ways_of rest >>= λ ways. Ok (Some ways)
where_of other = Err reasons.Unexpected

unfoldable pub question_from : Measure → Option (List ℕ) → List Token → Found Question
question_from measure group rest = do
  chosen ← where_of (before_group group rest)
  Ok (record { measure = measure; chosen = chosen; group = group })

-- the query that all of the tokens spell: a `group by` is the last three
unfoldable pub question_of : List Token → Found Question
question_of tokens = do
  found ← measure_at tokens
  question_from found.0 (group_of (drop (length found.1 - 3) found.1)) found.1

abbrev pub quantile : List ℕ → List ℕ → List ℕ → Option Ways → Found QuantileQuestion
quantile p q column chosen = Ok (record { p = p; q = q; column = column; chosen = chosen })

-- the query of a quantile, of its first number and the tokens after the comma
unfoldable pub quantile_after : List ℕ → List Token → Found QuantileQuestion
quantile_after p (tokens.Number q ∷ tokens.Symbol symbols.Comma ∷ tokens.Name column ∷ tokens.Symbol symbols.CloseGroup ∷ rest) = where_of rest >>= quantile p q column
quantile_after p other = Err reasons.Unexpected

-- the query of a quantile that all of the tokens spell
unfoldable pub quantile_of : List Token → Found QuantileQuestion
quantile_of (tokens.Reserved words.Quantile ∷ tokens.Symbol symbols.OpenGroup ∷ tokens.Number p ∷ tokens.Symbol symbols.Comma ∷ rest) = quantile_after p rest
quantile_of other = Err reasons.Unexpected
