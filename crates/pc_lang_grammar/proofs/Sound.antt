-- What is read of tokens is spelled by them, and nothing is refused for another reason.
use Rattle.std.proofs.Common.{◌≡◌, ℕ, ◌-◌, List, [], ◌∷◌, ◌++◌, length, take, drop, Option, Some, None, Ok, Err, true, refl, sym, subst, append_assoc}
use Rattle.std.specs.List.{flat_map, position, slice_split}
use Rattle.std.proofs.lemmas.Grind.{flat_map-append}
use Rattle.std.proofs.lemmas.List.{append-nil, take-append-drop}
use Rattle.pc_model.specs.declared.fault.Reason.TheVariants as reasons
use Rattle.pc_model.specs.Refusals.{◌>>=◌}
use Rattle.pc_lang_tokens.specs.declared.token.Symbol.TheVariants as symbols
use Rattle.pc_lang_tokens.specs.declared.token.Word.{Word}
use Rattle.pc_lang_tokens.specs.declared.token.Word.TheVariants as words
use Rattle.pc_lang_tokens.specs.declared.token.Token.{Token}
use Rattle.pc_lang_tokens.specs.declared.token.Token.TheVariants as tokens
use Rattle.pc_lang_grammar.specs.declared.syntax.Atom.{Atom}
use Rattle.pc_lang_grammar.specs.declared.syntax.Part.{Part}
use Rattle.pc_lang_grammar.specs.declared.syntax.Head.TheVariants as heads
use Rattle.pc_lang_grammar.specs.declared.syntax.Measure.{Measure}
use Rattle.pc_lang_grammar.specs.Grammar.{aggregate_tokens, atom_tokens, claim_tokens, frequency_tokens, further_atoms, further_names, further_parts, group_tokens, head_tokens, joined_atoms, line_tokens, measure_tokens, part_tokens, quantile_tokens, question_tokens, ways_tokens, where_tokens}
use Rattle.pc_lang_grammar.specs.Parsing.{Found, aggregate, aggregate_at, among, atom, atom_of, atoms_from, before_group, claim_of, frequency_of, group_of, halves_of, head_of, is_and, is_arrow, is_or, line_from, line_of, measure_at, names_after, part, part_of, parts_from, quantile, quantile_after, quantile_of, question_from, question_of, ways_from, ways_of, where_of}
use Rattle.pc_lang_grammar.proofs.Splits.{around_first, pieces_join}

-- what is found is spelled by the list, or nothing is found since it is unexpected
abbrev pub Spells : {A : Type 0} → (A → List Token) → List Token → Found A → Type 0
Spells spelled list (Ok x) = spelled x ≡ list
Spells spelled list (Err reason) = reason ≡ reasons.Unexpected

chained : {A B : Type 0} (inner : A → List Token) (outer : B → List Token) (part whole : List Token) (f : A → Found B) (found : Found A) → Spells inner part found → ((x : A) → inner x ≡ part → Spells outer whole (f x)) → Spells outer whole (found >>= f)
chained inner outer part whole f (Ok x) spells next = next x spells
chained inner outer part whole f (Err reason) spells next = spells

moved : {A : Type 0} (spelled : A → List Token) (list other : List Token) (found : Found A) → list ≡ other → Spells spelled list found → Spells spelled other found
moved spelled list other found e spells = subst (λ (l : List Token). Spells spelled l found) e spells

abbrev set_tokens : List (List ℕ) → List Token
set_tokens names = further_names names ++ (tokens.Symbol symbols.CloseSet ∷ [])

name_more : (before : List (List ℕ)) (name : List ℕ) (rest : List Token) → further_names (before ++ name ∷ []) ++ rest ≡ further_names before ++ tokens.Symbol symbols.Comma ∷ tokens.Name name ∷ rest
name_more before name rest =
    rw (flat_map-append (λ (name : List ℕ). tokens.Symbol symbols.Comma ∷ tokens.Name name ∷ []) before (name ∷ [])) (append_assoc (further_names before) (tokens.Symbol symbols.Comma ∷ tokens.Name name ∷ []) rest)

names_spelled : (before : List (List ℕ)) (list : List Token) → Spells set_tokens (further_names before ++ list) (names_after before list)
unfolding names_after
names_spelled before (tokens.Symbol symbols.CloseSet ∷ []) = refl
names_spelled before (tokens.Symbol symbols.Comma ∷ tokens.Name name ∷ rest) =
    moved set_tokens (further_names (before ++ name ∷ []) ++ rest) (further_names before ++ tokens.Symbol symbols.Comma ∷ tokens.Name name ∷ rest) (names_after (before ++ name ∷ []) rest) (name_more before name rest) (names_spelled (before ++ name ∷ []) rest)
names_spelled before other = refl

set_spelled : (first : List ℕ) (rest : List Token) → Spells claim_tokens (tokens.Reserved words.In ∷ tokens.Symbol symbols.OpenSet ∷ tokens.Name first ∷ rest) (names_after [] rest >>= among first)
unfolding claim_tokens
set_spelled first rest =
    chained set_tokens claim_tokens rest (tokens.Reserved words.In ∷ tokens.Symbol symbols.OpenSet ∷ tokens.Name first ∷ rest) (among first) (names_after [] rest) (names_spelled [] rest) (λ others e. rw e refl)

claim_spelled : (list : List Token) → Spells claim_tokens list (claim_of list)
unfolding claim_of claim_tokens
claim_spelled (tokens.Symbol symbols.Equal ∷ tokens.Number number ∷ []) = refl
claim_spelled (tokens.Symbol symbols.Equal ∷ tokens.Name name ∷ []) = refl
claim_spelled (tokens.Symbol symbols.AtLeast ∷ tokens.Number number ∷ []) = refl
claim_spelled (tokens.Symbol symbols.AtMost ∷ tokens.Number number ∷ []) = refl
claim_spelled (tokens.Symbol symbols.Above ∷ tokens.Number number ∷ []) = refl
claim_spelled (tokens.Symbol symbols.Below ∷ tokens.Number number ∷ []) = refl
claim_spelled (tokens.Reserved words.In ∷ tokens.Number low ∷ tokens.Symbol symbols.Dots ∷ tokens.Number high ∷ []) = refl
claim_spelled (tokens.Reserved words.In ∷ tokens.Symbol symbols.OpenSet ∷ tokens.Name first ∷ rest) = set_spelled first rest
claim_spelled other = refl

atom_spelled : (list : List Token) → Spells atom_tokens list (atom_of list)
unfolding atom_of atom_tokens
atom_spelled (tokens.Name column ∷ rest) =
    chained claim_tokens atom_tokens rest (tokens.Name column ∷ rest) (atom column) (claim_of rest) (claim_spelled rest) (λ claim e. rw e refl)
atom_spelled other = refl

abbrev and_pieces : List (List Token) → List Token
and_pieces pieces = flat_map (λ piece. tokens.Reserved words.And ∷ piece) pieces

atom_more : (before : List Atom) (found : Atom) (piece rest : List Token) → atom_tokens found ≡ piece → further_atoms (before ++ found ∷ []) ++ rest ≡ further_atoms before ++ (tokens.Reserved words.And ∷ (piece ++ rest))
atom_more before found piece rest e =
    rw (flat_map-append (λ (atom : Atom). tokens.Reserved words.And ∷ atom_tokens atom) before (found ∷ []), append-nil (atom_tokens found), e) (append_assoc (further_atoms before) (tokens.Reserved words.And ∷ piece) rest)

atoms_spelled : (before : List Atom) (pieces : List (List Token)) → Spells further_atoms (further_atoms before ++ and_pieces pieces) (atoms_from before pieces)
unfolding atoms_from
atoms_spelled before [] = sym (append-nil (further_atoms before))
atoms_spelled before (piece ∷ rest) =
    chained atom_tokens further_atoms piece (further_atoms before ++ and_pieces (piece ∷ rest)) (λ found. atoms_from (before ++ found ∷ []) rest) (atom_of piece) (atom_spelled piece)
    (λ found e. moved further_atoms (further_atoms (before ++ found ∷ []) ++ and_pieces rest) (further_atoms before ++ and_pieces (piece ∷ rest)) (atoms_from (before ++ found ∷ []) rest) (atom_more before found piece (and_pieces rest) e) (atoms_spelled (before ++ found ∷ []) rest))

only_and : (token : Token) → is_and token ≡ true → token ≡ tokens.Reserved words.And
only_and (tokens.Reserved words.And) e = refl
only_and other e = cc

joined_from : (atoms : List Atom) (list : List Token) → further_atoms atoms ≡ tokens.Reserved words.And ∷ list → joined_atoms atoms ≡ list
joined_from [] list e = cc
joined_from (first ∷ others) list e = cc

pieces_spelled : (list : List Token) → Spells part_tokens list (atoms_from [] (slice_split is_and list) >>= part)
unfolding part_tokens
pieces_spelled list =
    chained further_atoms part_tokens (tokens.Reserved words.And ∷ list) list part (atoms_from [] (slice_split is_and list))
    (moved further_atoms (and_pieces (slice_split is_and list)) (tokens.Reserved words.And ∷ list) (atoms_from [] (slice_split is_and list)) (pieces_join is_and (tokens.Reserved words.And) list only_and) (atoms_spelled [] (slice_split is_and list)))
    (λ atoms e. joined_from atoms list e)

part_spelled : (list : List Token) → Spells part_tokens list (part_of list)
unfolding part_of part_tokens
part_spelled (tokens.Reserved words.True ∷ []) = refl
part_spelled other = pieces_spelled other

abbrev or_pieces : List (List Token) → List Token
or_pieces pieces = flat_map (λ piece. tokens.Reserved words.Or ∷ piece) pieces

part_more : (before : List Part) (found : Part) (piece rest : List Token) → part_tokens found ≡ piece → further_parts (before ++ found ∷ []) ++ rest ≡ further_parts before ++ (tokens.Reserved words.Or ∷ (piece ++ rest))
part_more before found piece rest e =
    rw (flat_map-append (λ (part : Part). tokens.Reserved words.Or ∷ part_tokens part) before (found ∷ []), append-nil (part_tokens found), e) (append_assoc (further_parts before) (tokens.Reserved words.Or ∷ piece) rest)

parts_spelled : (before : List Part) (pieces : List (List Token)) → Spells further_parts (further_parts before ++ or_pieces pieces) (parts_from before pieces)
unfolding parts_from
parts_spelled before [] = sym (append-nil (further_parts before))
parts_spelled before (piece ∷ rest) =
    chained part_tokens further_parts piece (further_parts before ++ or_pieces (piece ∷ rest)) (λ found. parts_from (before ++ found ∷ []) rest) (part_of piece) (part_spelled piece)
    (λ found e. moved further_parts (further_parts (before ++ found ∷ []) ++ or_pieces rest) (further_parts before ++ or_pieces (piece ∷ rest)) (parts_from (before ++ found ∷ []) rest) (part_more before found piece (or_pieces rest) e) (parts_spelled (before ++ found ∷ []) rest))

only_or : (token : Token) → is_or token ≡ true → token ≡ tokens.Reserved words.Or
only_or (tokens.Reserved words.Or) e = refl
only_or other e = cc

after_sign : (sign : Token) (one other : List Token) → sign ∷ one ≡ sign ∷ other → one ≡ other
after_sign sign one other e = cc

-- what follows an `or` in pieces that are joined so
ways_from_spelled : (pieces : List (List Token)) (list : List Token) → or_pieces pieces ≡ tokens.Reserved words.Or ∷ list → Spells ways_tokens list (ways_from pieces)
unfolding ways_from ways_tokens
ways_from_spelled [] list e = cc
ways_from_spelled (piece ∷ rest) list e =
    chained part_tokens ways_tokens piece list _ (part_of piece) (part_spelled piece)
    (λ first f. chained further_parts ways_tokens (or_pieces rest) list _ (parts_from [] rest) (parts_spelled [] rest)
    (λ others g. rw (f, g) (after_sign (tokens.Reserved words.Or) (piece ++ or_pieces rest) list e)))

ways_spelled : (list : List Token) → Spells ways_tokens list (ways_of list)
unfolding ways_of
ways_spelled list = ways_from_spelled (slice_split is_or list) list (pieces_join is_or (tokens.Reserved words.Or) list only_or)

head_spelled : (list : List Token) → Spells head_tokens list (head_of list)
unfolding head_of head_tokens
head_spelled (tokens.Name name ∷ tokens.Symbol symbols.Colon ∷ rest) =
    chained ways_tokens head_tokens rest (tokens.Name name ∷ tokens.Symbol symbols.Colon ∷ rest) (λ when. Ok (heads.Named name when)) (ways_of rest) (ways_spelled rest) (λ when e. rw e refl)
head_spelled (tokens.Reserved words.Outside ∷ []) = refl
head_spelled other = refl

abbrev halves_tokens : List Token × List Token → List Token
halves_tokens halves = halves.0 ++ tokens.Symbol symbols.Arrow ∷ halves.1

only_arrow : (token : Token) → is_arrow token ≡ true → token ≡ tokens.Symbol symbols.Arrow
only_arrow (tokens.Symbol symbols.Arrow) e = refl
only_arrow other e = cc

halves_spelled : (body : List Token) → Spells halves_tokens body (halves_of body)
unfolding halves_of
halves_spelled body = by_place (position is_arrow body) refl
  where
    by_place : (place : Option ℕ) → position is_arrow body ≡ place → Spells halves_tokens body (halves_of body)
    by_place None e = rw e refl
    by_place (Some place) e = rw e (around_first is_arrow body place (tokens.Symbol symbols.Arrow) only_arrow e)

abbrev counts_tokens : List ℕ × List ℕ → List Token
counts_tokens counts = frequency_tokens counts.0 counts.1

frequency_spelled : (list : List Token) → Spells counts_tokens list (frequency_of list)
unfolding frequency_of
frequency_spelled (tokens.Symbol symbols.Comma ∷ tokens.Number least ∷ tokens.Symbol symbols.Dots ∷ tokens.Number most ∷ []) = refl
frequency_spelled other = refl

line_from_spelled : (body frequency : List Token) → Spells line_tokens (body ++ frequency) (line_from body frequency)
unfolding line_from line_tokens
line_from_spelled body frequency =
    chained counts_tokens line_tokens frequency (body ++ frequency) _ (frequency_of frequency) (frequency_spelled frequency)
    (λ counts e. chained halves_tokens line_tokens body (body ++ frequency) _ (halves_of body) (halves_spelled body)
    (λ halves f. chained head_tokens line_tokens halves.0 (body ++ frequency) _ (head_of halves.0) (head_spelled halves.0)
    (λ head g. chained part_tokens line_tokens halves.1 (body ++ frequency) _ (part_of halves.1) (part_spelled halves.1)
    (λ values h. rw (e, g, h, f) refl))))

pub line_spelled : (list : List Token) → Spells line_tokens list (line_of list)
unfolding line_of
line_spelled list =
    moved line_tokens (take (length list - 4) list ++ drop (length list - 4) list) list (line_from (take (length list - 4) list) (drop (length list - 4) list)) (take-append-drop (length list - 4) list)
    (line_from_spelled (take (length list - 4) list) (drop (length list - 4) list))

aggregate_spelled : (word : Word) (column : List ℕ) → Spells measure_tokens (aggregate_tokens word column) (aggregate word column)
unfolding aggregate measure_tokens
aggregate_spelled words.Sum column = refl
aggregate_spelled words.Min column = refl
aggregate_spelled words.Max column = refl
aggregate_spelled words.Avg column = refl
aggregate_spelled other column = refl

abbrev begun : Measure × List Token → List Token
begun found = measure_tokens found.0 ++ found.1

aggregate_begins : (word : Word) (list : List Token) → Spells begun (tokens.Reserved word ∷ list) (aggregate_at word list)
unfolding aggregate_at
aggregate_begins word (tokens.Symbol symbols.OpenGroup ∷ tokens.Name column ∷ tokens.Symbol symbols.CloseGroup ∷ rest) =
    chained measure_tokens begun (aggregate_tokens word column) (tokens.Reserved word ∷ tokens.Symbol symbols.OpenGroup ∷ tokens.Name column ∷ tokens.Symbol symbols.CloseGroup ∷ rest) (λ measure. Ok (measure, rest)) (aggregate word column) (aggregate_spelled word column) (λ measure e. rw e refl)
aggregate_begins word other = refl

measure_begins : (list : List Token) → Spells begun list (measure_at list)
unfolding measure_at measure_tokens
measure_begins (tokens.Reserved words.Count ∷ tokens.Symbol symbols.OpenGroup ∷ tokens.Symbol symbols.Star ∷ tokens.Symbol symbols.CloseGroup ∷ rest) = refl
measure_begins (tokens.Reserved words.Count ∷ rest) = refl
measure_begins (tokens.Reserved word ∷ rest) = aggregate_begins word rest
measure_begins other = refl

where_spelled : (list : List Token) → Spells where_tokens list (where_of list)
unfolding where_of
where_spelled [] = refl
where_spelled (tokens.Reserved words.Where ∷ rest) =
    chained ways_tokens where_tokens rest (tokens.Reserved words.Where ∷ rest) (λ ways. Ok (Some ways)) (ways_of rest) (ways_spelled rest) (λ ways e. rw e refl)
where_spelled other = refl

-- the tokens of a `group by`, if they are one
abbrev SpellsGroup : List Token → Option (List ℕ) → Type 0
SpellsGroup list None = Unit {0}
SpellsGroup list (Some column) = group_tokens (Some column) ≡ list

group_spelled : (list : List Token) → SpellsGroup list (group_of list)
unfolding group_of
group_spelled (tokens.Reserved words.Group ∷ tokens.Reserved words.By ∷ tokens.Name column ∷ []) = refl
group_spelled other = tt

before_and_group : (rest : List Token) (group : Option (List ℕ)) → SpellsGroup (drop (length rest - 3) rest) group → before_group group rest ++ group_tokens group ≡ rest
before_and_group rest None spells = append-nil rest
before_and_group rest (Some column) spells = rw spells (take-append-drop (length rest - 3) rest)

question_from_spelled : (measure : Measure) (group : Option (List ℕ)) (rest : List Token) → before_group group rest ++ group_tokens group ≡ rest → Spells question_tokens (measure_tokens measure ++ rest) (question_from measure group rest)
unfolding question_from question_tokens
question_from_spelled measure group rest whole =
    chained where_tokens question_tokens (before_group group rest) (measure_tokens measure ++ rest) _ (where_of (before_group group rest)) (where_spelled (before_group group rest))
    (λ chosen e. rw (e, append_assoc (measure_tokens measure) (before_group group rest) (group_tokens group), whole) refl)

pub question_spelled : (list : List Token) → Spells question_tokens list (question_of list)
unfolding question_of
question_spelled list =
    chained begun question_tokens list list _ (measure_at list) (measure_begins list)
    (λ found e. moved question_tokens (measure_tokens found.0 ++ found.1) list (question_from found.0 (group_of (drop (length found.1 - 3) found.1)) found.1) e
    (question_from_spelled found.0 (group_of (drop (length found.1 - 3) found.1)) found.1 (before_and_group found.1 (group_of (drop (length found.1 - 3) found.1)) (group_spelled (drop (length found.1 - 3) found.1)))))

-- the tokens of the query of a quantile as far as the comma after its first number
abbrev to_second : List ℕ → List Token → List Token
to_second p rest = tokens.Reserved words.Quantile ∷ tokens.Symbol symbols.OpenGroup ∷ tokens.Number p ∷ tokens.Symbol symbols.Comma ∷ rest

quantile_after_spelled : (p : List ℕ) (list : List Token) → Spells quantile_tokens (to_second p list) (quantile_after p list)
unfolding quantile_after quantile_tokens
quantile_after_spelled p (tokens.Number q ∷ tokens.Symbol symbols.Comma ∷ tokens.Name column ∷ tokens.Symbol symbols.CloseGroup ∷ rest) =
    chained where_tokens quantile_tokens rest (to_second p (tokens.Number q ∷ tokens.Symbol symbols.Comma ∷ tokens.Name column ∷ tokens.Symbol symbols.CloseGroup ∷ rest))
    (quantile p q column) (where_of rest) (where_spelled rest) (λ chosen e. rw e refl)
quantile_after_spelled p other = refl

pub quantile_spelled : (list : List Token) → Spells quantile_tokens list (quantile_of list)
unfolding quantile_of
quantile_spelled (tokens.Reserved words.Quantile ∷ tokens.Symbol symbols.OpenGroup ∷ tokens.Number p ∷ tokens.Symbol symbols.Comma ∷ rest) = quantile_after_spelled p rest
quantile_spelled other = refl
