-- What is spelled is read again.
use Rattle.std.proofs.Common.{◌≡◌, ℕ, ◌-◌, Bool, true, false, List, [], ◌∷◌, ◌++◌, length, drop, Option, Some, None, Ok, refl, sym, ap, ◌∙◌, add-one, arith, append_assoc}
use Rattle.std.specs.List.{All, slice_split}
use Rattle.std.proofs.lemmas.Bool.{false≢true}
use Rattle.std.proofs.lemmas.List.{append-nil}
use Rattle.std.proofs.lemmas.List.Elements.{All-append, All-cons, All-drop, All-head, All-nil, All-tail, All-weaker}
use Rattle.std.proofs.lemmas.List.Splits.{slice_split_at, slice_split_none}
use Rattle.std.proofs.Math.Seq.{take-append_seam, drop-append_seam}
use Rattle.pc_model.specs.Refusals.{◌>>=◌}
use Rattle.pc_lang_tokens.specs.declared.token.Symbol.TheVariants as symbols
use Rattle.pc_lang_tokens.specs.declared.token.Word.TheVariants as words
use Rattle.pc_lang_tokens.specs.declared.token.Token.{Token}
use Rattle.pc_lang_tokens.specs.declared.token.Token.TheVariants as tokens
use Rattle.pc_lang_grammar.specs.declared.syntax.Claim.{Claim}
use Rattle.pc_lang_grammar.specs.declared.syntax.Claim.TheVariants as claims
use Rattle.pc_lang_grammar.specs.declared.syntax.Atom.{Atom}
use Rattle.pc_lang_grammar.specs.declared.syntax.Part.{Part}
use Rattle.pc_lang_grammar.specs.declared.syntax.Ways.{Ways}
use Rattle.pc_lang_grammar.specs.declared.syntax.Head.{Head}
use Rattle.pc_lang_grammar.specs.declared.syntax.Head.TheVariants as heads
use Rattle.pc_lang_grammar.specs.declared.syntax.Line.{Line}
use Rattle.pc_lang_grammar.specs.declared.syntax.Measure.{Measure}
use Rattle.pc_lang_grammar.specs.declared.syntax.Measure.TheVariants as measures
use Rattle.pc_lang_grammar.specs.declared.syntax.Question.{Question}
use Rattle.pc_lang_grammar.specs.declared.syntax.QuantileQuestion.{QuantileQuestion}
use Rattle.pc_lang_grammar.specs.Grammar.{atom_tokens, claim_tokens, frequency_tokens, further_atoms, further_names, further_parts, group_tokens, head_tokens, joined_atoms, line_tokens, measure_tokens, part_tokens, quantile_tokens, question_tokens, ways_tokens, where_tokens}
use Rattle.pc_lang_grammar.specs.Parsing.{aggregate, aggregate_at, atom_of, atoms_from, before_group, claim_of, frequency_of, group_of, halves_of, head_of, is_and, is_arrow, is_or, line_from, line_of, measure_at, names_after, part, part_of, parts_from, quantile_after, quantile_of, question_from, question_of, ways_from, ways_of, where_of}
use Rattle.pc_lang_grammar.proofs.Splits.{drop_past, front_size, place_after}

-- the tokens that an atom may have
abbrev in_atom : Token → Bool
in_atom (tokens.Symbol symbols.Arrow) = false
in_atom (tokens.Symbol other) = true
in_atom (tokens.Reserved words.In) = true
in_atom (tokens.Reserved other) = false
in_atom (tokens.Number number) = true
in_atom (tokens.Name name) = true

-- the tokens that a part may have
abbrev in_part : Token → Bool
in_part (tokens.Symbol symbols.Arrow) = false
in_part (tokens.Symbol other) = true
in_part (tokens.Reserved words.In) = true
in_part (tokens.Reserved words.And) = true
in_part (tokens.Reserved words.True) = true
in_part (tokens.Reserved other) = false
in_part (tokens.Number number) = true
in_part (tokens.Name name) = true

abbrev is_by : Token → Bool
is_by (tokens.Reserved words.By) = true
is_by other = false

no_and : (token : Token) → in_atom token ≡ true → is_and token ≡ false
no_and (tokens.Reserved words.And) e = cc
no_and other e = refl

no_or : (token : Token) → in_part token ≡ true → is_or token ≡ false
no_or (tokens.Reserved words.Or) e = cc
no_or other e = refl

atom_in_part : (token : Token) → in_atom token ≡ true → in_part token ≡ true
atom_in_part (tokens.Symbol symbols.Arrow) e = e
atom_in_part (tokens.Symbol other) e = refl
atom_in_part (tokens.Reserved words.In) e = refl
atom_in_part (tokens.Reserved words.And) e = refl
atom_in_part (tokens.Reserved words.True) e = refl
atom_in_part (tokens.Reserved other) e = e
atom_in_part (tokens.Number number) e = refl
atom_in_part (tokens.Name name) e = refl

abbrev InAtom : Token → Type 0
InAtom token = in_atom token ≡ true

abbrev InPart : Token → Type 0
InPart token = in_part token ≡ true

one : (first : Token) → InAtom first → All InAtom (first ∷ [])
one first a = All-cons InAtom first [] a (All-nil InAtom)

two : (first second : Token) → InAtom first → InAtom second → All InAtom (first ∷ second ∷ [])
two first second a b = All-cons InAtom first (second ∷ []) a (one second b)

names_within : (names : List (List ℕ)) → All InAtom (further_names names ++ (tokens.Symbol symbols.CloseSet ∷ []))
names_within [] = one (tokens.Symbol symbols.CloseSet) refl
names_within (name ∷ names) = All-append InAtom (tokens.Symbol symbols.Comma ∷ tokens.Name name ∷ []) (further_names names ++ (tokens.Symbol symbols.CloseSet ∷ [])) (two (tokens.Symbol symbols.Comma) (tokens.Name name) refl refl) (names_within names)

claim_within : (claim : Claim) → All InAtom (claim_tokens claim)
unfolding claim_tokens
claim_within (claims.Number number) = two _ _ refl refl
claim_within (claims.Name name) = two _ _ refl refl
claim_within (claims.AtLeast number) = two _ _ refl refl
claim_within (claims.AtMost number) = two _ _ refl refl
claim_within (claims.Above number) = two _ _ refl refl
claim_within (claims.Below number) = two _ _ refl refl
claim_within (claims.Within low high) = All-append InAtom (tokens.Reserved words.In ∷ tokens.Number low ∷ []) (tokens.Symbol symbols.Dots ∷ tokens.Number high ∷ []) (two _ _ refl refl) (two _ _ refl refl)
claim_within (claims.Among first others) = All-append InAtom (tokens.Reserved words.In ∷ tokens.Symbol symbols.OpenSet ∷ []) (tokens.Name first ∷ (further_names others ++ (tokens.Symbol symbols.CloseSet ∷ []))) (two _ _ refl refl) (All-cons InAtom (tokens.Name first) _ refl (names_within others))

atom_within : (atom : Atom) → All InAtom (atom_tokens atom)
unfolding atom_tokens
atom_within atom = All-cons InAtom (tokens.Name atom.column) (claim_tokens atom.claim) refl (claim_within atom.claim)

without_and : (atom : Atom) → All (λ token. is_and token ≡ false) (atom_tokens atom)
without_and atom = All-weaker InAtom (λ token. is_and token ≡ false) no_and (atom_tokens atom) (atom_within atom)

atom_in : (atom : Atom) → All InPart (atom_tokens atom)
atom_in atom = All-weaker InAtom InPart atom_in_part (atom_tokens atom) (atom_within atom)

further_in : (atoms : List Atom) → All InPart (further_atoms atoms)
further_in [] = All-nil InPart
further_in (atom ∷ atoms) = All-append InPart (tokens.Reserved words.And ∷ atom_tokens atom) (further_atoms atoms) (All-cons InPart (tokens.Reserved words.And) (atom_tokens atom) refl (atom_in atom)) (further_in atoms)

joined_in : (atoms : List Atom) → All InPart (joined_atoms atoms)
joined_in [] = All-cons InPart (tokens.Reserved words.True) [] refl (All-nil InPart)
joined_in (first ∷ others) = All-append InPart (atom_tokens first) (further_atoms others) (atom_in first) (further_in others)

part_in : (part : Part) → All InPart (part_tokens part)
unfolding part_tokens
part_in part = joined_in part.atoms

without_or : (part : Part) → All (λ token. is_or token ≡ false) (part_tokens part)
without_or part = All-weaker InPart (λ token. is_or token ≡ false) no_or (part_tokens part) (part_in part)

-- the tokens that parts joined by `or` may have
abbrev in_ways : Token → Bool
in_ways (tokens.Reserved words.Or) = true
in_ways other = in_part other

abbrev InWays : Token → Type 0
InWays token = in_ways token ≡ true

part_in_ways : (token : Token) → in_part token ≡ true → in_ways token ≡ true
part_in_ways (tokens.Reserved words.Or) e = refl
part_in_ways other e = e

ways_no_arrow : (token : Token) → in_ways token ≡ true → is_arrow token ≡ false
ways_no_arrow (tokens.Symbol symbols.Arrow) e = cc
ways_no_arrow other e = refl

ways_no_by : (token : Token) → in_ways token ≡ true → is_by token ≡ false
ways_no_by (tokens.Reserved words.By) e = cc
ways_no_by other e = refl

part_ways : (part : Part) → All InWays (part_tokens part)
part_ways part = All-weaker InPart InWays part_in_ways (part_tokens part) (part_in part)

further_ways : (parts : List Part) → All InWays (further_parts parts)
further_ways [] = All-nil InWays
further_ways (part ∷ parts) = All-append InWays (tokens.Reserved words.Or ∷ part_tokens part) (further_parts parts) (All-cons InWays (tokens.Reserved words.Or) (part_tokens part) refl (part_ways part)) (further_ways parts)

ways_in : (ways : Ways) → All InWays (ways_tokens ways)
unfolding ways_tokens
ways_in ways = All-append InWays (part_tokens ways.first) (further_parts ways.others) (part_ways ways.first) (further_ways ways.others)

abbrev NoArrow : Token → Type 0
NoArrow token = is_arrow token ≡ false

without_arrow : (head : Head) → All NoArrow (head_tokens head)
unfolding head_tokens
without_arrow (heads.Named name when) =
    All-append NoArrow (tokens.Name name ∷ tokens.Symbol symbols.Colon ∷ []) (ways_tokens when)
    (All-cons NoArrow (tokens.Name name) (tokens.Symbol symbols.Colon ∷ []) refl (All-cons NoArrow (tokens.Symbol symbols.Colon) [] refl (All-nil NoArrow)))
    (All-weaker InWays NoArrow ways_no_arrow (ways_tokens when) (ways_in when))
without_arrow heads.Outside = All-cons NoArrow (tokens.Reserved words.Outside) [] refl (All-nil NoArrow)

without_by : (ways : Ways) → All (λ token. is_by token ≡ false) (ways_tokens ways)
without_by ways = All-weaker InWays (λ token. is_by token ≡ false) ways_no_by (ways_tokens ways) (ways_in ways)

names_again : (before names : List (List ℕ)) → names_after before (further_names names ++ (tokens.Symbol symbols.CloseSet ∷ [])) ≡ Ok (before ++ names)
unfolding names_after
names_again before [] = rw (append-nil before) refl
names_again before (name ∷ names) = names_again (before ++ name ∷ []) names ∙ rw (append_assoc before (name ∷ []) names) refl

claim_again : (claim : Claim) → claim_of (claim_tokens claim) ≡ Ok claim
unfolding claim_of claim_tokens
claim_again (claims.Number number) = refl
claim_again (claims.Name name) = refl
claim_again (claims.AtLeast number) = refl
claim_again (claims.AtMost number) = refl
claim_again (claims.Above number) = refl
claim_again (claims.Below number) = refl
claim_again (claims.Within low high) = refl
claim_again (claims.Among first others) = rw (names_again [] others) refl

atom_again : (atom : Atom) → atom_of (atom_tokens atom) ≡ Ok atom
unfolding atom_of atom_tokens
atom_again atom = rw (claim_again atom.claim) refl

atoms_again : (before : List Atom) (first : Atom) (others : List Atom) → atoms_from before (slice_split is_and (atom_tokens first ++ further_atoms others)) ≡ Ok (before ++ first ∷ others)
unfolding atoms_from
atoms_again before first [] = rw (append-nil (atom_tokens first), slice_split_none is_and (atom_tokens first) (without_and first), atom_again first) refl
atoms_again before first (next ∷ others) =
    rw (slice_split_at is_and (atom_tokens first) (tokens.Reserved words.And) (atom_tokens next ++ further_atoms others) (without_and first) refl, atom_again first)
    (atoms_again (before ++ first ∷ []) next others ∙ rw (append_assoc before (first ∷ []) (next ∷ others)) refl)

atoms_part : (column : List ℕ) (rest : List Token) → part_of (tokens.Name column ∷ rest) ≡ (atoms_from [] (slice_split is_and (tokens.Name column ∷ rest)) >>= part)
unfolding part_of
atoms_part column rest = refl

some_again : (first : Atom) (others : List Atom) → part_of (atom_tokens first ++ further_atoms others) ≡ Ok (record { atoms = first ∷ others })
unfolding atom_tokens
some_again first others = atoms_part first.column (claim_tokens first.claim ++ further_atoms others) ∙ ap (λ found. found >>= part) (atoms_again [] first others)

joined_again : (atoms : List Atom) → part_of (joined_atoms atoms) ≡ Ok (record { atoms = atoms })
unfolding part_of
joined_again [] = refl
joined_again (first ∷ others) = some_again first others

part_again : (part : Part) → part_of (part_tokens part) ≡ Ok part
unfolding part_tokens
part_again part = joined_again part.atoms

parts_again : (before : List Part) (next : Part) (others : List Part) → parts_from before (slice_split is_or (part_tokens next ++ further_parts others)) ≡ Ok (before ++ next ∷ others)
unfolding parts_from
parts_again before next [] = rw (append-nil (part_tokens next), slice_split_none is_or (part_tokens next) (without_or next), part_again next) refl
parts_again before next (after ∷ others) =
    rw (slice_split_at is_or (part_tokens next) (tokens.Reserved words.Or) (part_tokens after ++ further_parts others) (without_or next) refl, part_again next)
    (parts_again (before ++ next ∷ []) after others ∙ rw (append_assoc before (next ∷ []) (after ∷ others)) refl)

pieces_again : (first : Part) (others : List Part) → ways_from (slice_split is_or (part_tokens first ++ further_parts others)) ≡ Ok (record { first = first; others = others })
unfolding ways_from parts_from
pieces_again first [] = rw (append-nil (part_tokens first), slice_split_none is_or (part_tokens first) (without_or first), part_again first) refl
pieces_again first (next ∷ others) =
    rw (slice_split_at is_or (part_tokens first) (tokens.Reserved words.Or) (part_tokens next ++ further_parts others) (without_or first) refl, part_again first, parts_again [] next others) refl

ways_again : (ways : Ways) → ways_of (ways_tokens ways) ≡ Ok ways
unfolding ways_of ways_tokens
ways_again ways = pieces_again ways.first ways.others

head_again : (head : Head) → head_of (head_tokens head) ≡ Ok head
unfolding head_of head_tokens
head_again (heads.Named name when) = rw (ways_again when) refl
head_again heads.Outside = refl

halves_again : (head : Head) (after : List Token) → halves_of (head_tokens head ++ tokens.Symbol symbols.Arrow ∷ after) ≡ Ok (head_tokens head, after)
unfolding halves_of
halves_again head after =
    let place = place_after is_arrow (head_tokens head) (tokens.Symbol symbols.Arrow) after (without_arrow head) refl in
    rw (place, take-append_seam (head_tokens head) (tokens.Symbol symbols.Arrow ∷ after), add-one, drop_past (head_tokens head) (tokens.Symbol symbols.Arrow) after) refl

frequency_again : (least most : List ℕ) → frequency_of (frequency_tokens least most) ≡ Ok (least, most)
unfolding frequency_of
frequency_again least most = refl

line_from_again : (line : Line) → line_from (head_tokens line.head ++ tokens.Symbol symbols.Arrow ∷ part_tokens line.values) (frequency_tokens line.least line.most) ≡ Ok line
unfolding line_from
line_from_again line = rw (frequency_again line.least line.most, halves_again line.head (part_tokens line.values), head_again line.head, part_again line.values) refl

cut_line : (body frequency : List Token) → length frequency ≡ 4 → line_of (body ++ frequency) ≡ line_from body frequency
unfolding line_of
cut_line body frequency four = rw (front_size body frequency 4 four, take-append_seam body frequency, drop-append_seam body frequency) refl

pub line_again : (line : Line) → line_of (line_tokens line) ≡ Ok line
unfolding line_tokens
line_again line =
    cut_line (head_tokens line.head ++ tokens.Symbol symbols.Arrow ∷ part_tokens line.values) (frequency_tokens line.least line.most) (omega arith) ∙ line_from_again line

-- no bracket stands first
abbrev opens : List Token → Bool
opens (tokens.Symbol symbols.OpenGroup ∷ rest) = true
opens other = false

count_again : (rest : List Token) → opens rest ≡ false → measure_at (tokens.Reserved words.Count ∷ rest) ≡ Ok (measures.Count, rest)
unfolding measure_at
count_again (tokens.Symbol symbols.OpenGroup ∷ rest) closed = cc
count_again other closed = refl

measure_again : (measure : Measure) (rest : List Token) → opens rest ≡ false → measure_at (measure_tokens measure ++ rest) ≡ Ok (measure, rest)
unfolding measure_at measure_tokens aggregate_at aggregate
measure_again measures.Count rest closed = count_again rest closed
measure_again measures.CountOfAll rest closed = refl
measure_again (measures.Sum column) rest closed = refl
measure_again (measures.Min column) rest closed = refl
measure_again (measures.Max column) rest closed = refl
measure_again (measures.Avg column) rest closed = refl

closed_after : (chosen : Option Ways) (group : Option (List ℕ)) → opens (where_tokens chosen ++ group_tokens group) ≡ false
closed_after None None = refl
closed_after None (Some column) = refl
closed_after (Some ways) group = refl

where_again : (chosen : Option Ways) → where_of (where_tokens chosen) ≡ Ok chosen
unfolding where_of
where_again None = refl
where_again (Some ways) = rw (ways_again ways) refl

abbrev NotBy : Token → Type 0
NotBy token = is_by token ≡ false

where_without_by : (chosen : Option Ways) → All NotBy (where_tokens chosen)
where_without_by None = All-nil NotBy
where_without_by (Some ways) = All-cons NotBy (tokens.Reserved words.Where) (ways_tokens ways) refl (without_by ways)

no_group : (list : List Token) → All NotBy list → group_of list ≡ None
unfolding group_of
no_group (tokens.Reserved words.Group ∷ tokens.Reserved words.By ∷ tokens.Name column ∷ []) none =
    absurd (false≢true (sym (All-head NotBy (tokens.Reserved words.By) (tokens.Name column ∷ []) (All-tail NotBy (tokens.Reserved words.Group) (tokens.Reserved words.By ∷ tokens.Name column ∷ []) none))))
no_group other none = refl

group_again : (chosen : Option Ways) (group : Option (List ℕ)) → group_of (drop (length (where_tokens chosen ++ group_tokens group) - 3) (where_tokens chosen ++ group_tokens group)) ≡ group
unfolding group_of
group_again chosen None =
    rw (append-nil (where_tokens chosen)) (no_group (drop (length (where_tokens chosen) - 3) (where_tokens chosen)) (All-drop NotBy (length (where_tokens chosen) - 3) (where_tokens chosen) (where_without_by chosen)))
group_again chosen (Some column) =
    rw (front_size (where_tokens chosen) (group_tokens (Some column)) 3 (omega arith), drop-append_seam (where_tokens chosen) (group_tokens (Some column))) refl

before_again : (chosen : Option Ways) (group : Option (List ℕ)) → before_group group (where_tokens chosen ++ group_tokens group) ≡ where_tokens chosen
before_again chosen None = append-nil (where_tokens chosen)
before_again chosen (Some column) =
    rw (front_size (where_tokens chosen) (group_tokens (Some column)) 3 (omega arith)) (take-append_seam (where_tokens chosen) (group_tokens (Some column)))

question_from_again : (question : Question) → question_from question.measure question.group (where_tokens question.chosen ++ group_tokens question.group) ≡ Ok question
unfolding question_from
question_from_again question = rw (before_again question.chosen question.group, where_again question.chosen) refl

pub question_again : (question : Question) → question_of (question_tokens question) ≡ Ok question
unfolding question_of question_tokens
question_again question =
    rw (
      append_assoc (measure_tokens question.measure) (where_tokens question.chosen) (group_tokens question.group),
      measure_again question.measure (where_tokens question.chosen ++ group_tokens question.group) (closed_after question.chosen question.group),
      group_again question.chosen question.group,
    ) (question_from_again question)

pub quantile_again : (question : QuantileQuestion) → quantile_of (quantile_tokens question) ≡ Ok question
unfolding quantile_of quantile_after quantile_tokens
quantile_again question = rw (where_again question.chosen) refl
