-- What may follow at each place, as the grammar spells it; and that what goes on there to an end is that.
use Rattle.std.proofs.Common.{◌≡◌, ◌⊎◌, ℕ, true, List, [], ◌∷◌, ◌++◌, inl, inr, refl, sym, ap, ◌∙◌, append_assoc}
use Rattle.std.specs.Prelude.{⊤, Option, Some, None, option_map}
use Rattle.std.proofs.lemmas.List.{append-nil}
use Rattle.std.proofs.lemmas.Bool.{false≢true}
use Rattle.pc_lang_tokens.specs.declared.token.Symbol.{Symbol}
use Rattle.pc_lang_tokens.specs.declared.token.Symbol.TheVariants as symbols
use Rattle.pc_lang_tokens.specs.declared.token.Word.{Word}
use Rattle.pc_lang_tokens.specs.declared.token.Word.TheVariants as words
use Rattle.pc_lang_tokens.specs.declared.token.Token.{Token}
use Rattle.pc_lang_tokens.specs.declared.token.Token.TheVariants as tokens
use Rattle.pc_lang_grammar.specs.declared.syntax.Claim.{Claim}
use Rattle.pc_lang_grammar.specs.declared.syntax.Claim.TheVariants as claims
use Rattle.pc_lang_grammar.specs.declared.syntax.Atom.{Atom}
use Rattle.pc_lang_grammar.specs.declared.syntax.Part.{Part}
use Rattle.pc_lang_grammar.specs.declared.syntax.Ways.{Ways}
use Rattle.pc_lang_grammar.specs.declared.syntax.Head.TheVariants as heads
use Rattle.pc_lang_grammar.specs.declared.syntax.Line.{Line}
use Rattle.pc_lang_grammar.specs.declared.syntax.Measure.{Measure}
use Rattle.pc_lang_grammar.specs.declared.syntax.Measure.TheVariants as measures
use Rattle.pc_lang_grammar.specs.declared.syntax.Question.{Question}
use Rattle.pc_lang_grammar.specs.declared.syntax.QuantileQuestion.{QuantileQuestion}
use Rattle.pc_lang_grammar.specs.declared.want.Clause.{Clause}
use Rattle.pc_lang_grammar.specs.declared.want.Clause.TheVariants as clauses
use Rattle.pc_lang_grammar.specs.declared.want.ClauseWant.{ClauseWant}
use Rattle.pc_lang_grammar.specs.declared.want.ClauseWant.TheVariants as within
use Rattle.pc_lang_grammar.specs.declared.want.LineWant.{LineWant}
use Rattle.pc_lang_grammar.specs.declared.want.LineWant.TheVariants as lines
use Rattle.pc_lang_grammar.specs.declared.want.QueryWant.{QueryWant}
use Rattle.pc_lang_grammar.specs.declared.want.QueryWant.TheVariants as queries
use Rattle.pc_lang_grammar.specs.declared.want.QuantileWant.{QuantileWant}
use Rattle.pc_lang_grammar.specs.declared.want.QuantileWant.TheVariants as quantiles
use Rattle.pc_lang_grammar.specs.declared.want.Want.{Want}
use Rattle.pc_lang_grammar.specs.declared.want.Want.TheVariants as wants
use Rattle.pc_lang_grammar.specs.Grammar.{atom_tokens, claim_tokens, frequency_tokens, further_atoms, further_names, further_parts, group_tokens, head_tokens, line_tokens, measure_tokens, part_tokens, quantile_tokens, question_tokens, ways_tokens, where_tokens}
use Rattle.pc_lang_grammar.specs.Halts.{AskedQuery, Rule, asked_tokens, named, outside, plain, rule_tokens, share}
use Rattle.pc_lang_grammar.specs.Wants.{after_part, compared, kind_of, may_end, measured, next, next_asked, next_in_clause, next_in_line, next_in_quantile, next_in_query}
use Rattle.pc_lang_grammar.proofs.Wanting.{may_end_at, want_from}

-- ---- clauses

-- what follows a whole clause
abbrev pub AfterClause : Clause → List Token → Type 0
AfterClause clauses.Predicate list = (values : Part) × (least : List ℕ) × (most : List ℕ) × (list ≡ tokens.Symbol symbols.Arrow ∷ (part_tokens values ++ frequency_tokens least most))
AfterClause clauses.Values list = (least : List ℕ) × (most : List ℕ) × (list ≡ frequency_tokens least most)
AfterClause clauses.Chosen list = (group : Option (List ℕ)) × (list ≡ group_tokens group)
AfterClause clauses.Measured list = list ≡ []

-- values have one part
abbrev pub MayFollow : Clause → List Part → Type 0
MayFollow clauses.Values parts = parts ≡ []
MayFollow other parts = ⊤

-- further parts, and what follows the clause
pub record AfterPart (clause : Clause) (list : List Token) : Type 0 where
  pub parts : List Part
  pub rest : List Token
  pub may : MayFollow clause parts
  pub is : list ≡ further_parts parts ++ rest
  pub after : AfterClause clause rest

-- further atoms, and what follows the part
pub record AfterAtom (clause : Clause) (list : List Token) : Type 0 where
  pub atoms : List Atom
  pub rest : List Token
  pub is : list ≡ further_atoms atoms ++ rest
  pub after : AfterPart clause rest

-- such tokens, and what follows the atom
pub record With (clause : Clause) (front : List Token) (list : List Token) : Type 0 where
  pub rest : List Token
  pub is : list ≡ front ++ rest
  pub after : AfterAtom clause rest

abbrev pub set_end : List (List ℕ) → List Token
set_end names = further_names names ++ tokens.Symbol symbols.CloseSet ∷ []

abbrev pub RestOfClause : Clause → ClauseWant → List Token → Type 0
RestOfClause clause within.Part list = (part : Part) × (rest : List Token) × (list ≡ part_tokens part ++ rest) × AfterPart clause rest
RestOfClause clause within.Column list = (atom : Atom) × With clause (atom_tokens atom) list
RestOfClause clause within.Claim list = (claim : Claim) × With clause (claim_tokens claim) list
RestOfClause clause within.Either list = ((number : List ℕ) × With clause (tokens.Number number ∷ []) list) ⊎ ((name : List ℕ) × With clause (tokens.Name name ∷ []) list)
RestOfClause clause within.Number list = (number : List ℕ) × With clause (tokens.Number number ∷ []) list
RestOfClause clause within.Inside list =
    ((low : List ℕ) × (high : List ℕ) × With clause (tokens.Number low ∷ tokens.Symbol symbols.Dots ∷ tokens.Number high ∷ []) list)
    ⊎ ((first : List ℕ) × (others : List (List ℕ)) × With clause (tokens.Symbol symbols.OpenSet ∷ tokens.Name first ∷ set_end others) list)
RestOfClause clause within.Dots list = (high : List ℕ) × With clause (tokens.Symbol symbols.Dots ∷ tokens.Number high ∷ []) list
RestOfClause clause within.Member list = (first : List ℕ) × (others : List (List ℕ)) × With clause (tokens.Name first ∷ set_end others) list
RestOfClause clause within.Next list = (others : List (List ℕ)) × With clause (set_end others) list
RestOfClause clause within.Joint list = AfterAtom clause list
RestOfClause clause within.Truth list = AfterPart clause list

-- ---- lines and queries

abbrev pub RestOfLine : LineWant → List Token → Type 0
RestOfLine lines.Head list = (line : Line) × (list ≡ line_tokens line)
RestOfLine lines.Colon list =
    (when : Ways) × (values : Part) × (least : List ℕ) × (most : List ℕ)
    × (list ≡ tokens.Symbol symbols.Colon ∷ ((ways_tokens when ++ tokens.Symbol symbols.Arrow ∷ part_tokens values) ++ frequency_tokens least most))
RestOfLine lines.Arrow list = AfterClause clauses.Predicate list
RestOfLine lines.Least list = (least : List ℕ) × (most : List ℕ) × (list ≡ tokens.Number least ∷ tokens.Symbol symbols.Dots ∷ tokens.Number most ∷ [])
RestOfLine lines.Dots list = (most : List ℕ) × (list ≡ tokens.Symbol symbols.Dots ∷ tokens.Number most ∷ [])
RestOfLine lines.Most list = (most : List ℕ) × (list ≡ tokens.Number most ∷ [])
RestOfLine lines.Rule list = (rule : Rule) × (list ≡ rule_tokens rule)

-- what follows a measure
abbrev pub AfterMeasure : List Token → Type 0
AfterMeasure list = (chosen : Option Ways) × (group : Option (List ℕ)) × (list ≡ where_tokens chosen ++ group_tokens group)

-- such tokens, and what follows the measure
abbrev pub Before : List Token → List Token → Type 0
Before front list = (rest : List Token) × (list ≡ front ++ rest) × AfterMeasure rest

abbrev pub RestOfQuery : QueryWant → List Token → Type 0
RestOfQuery queries.Measure list = (question : Question) × (list ≡ question_tokens question)
RestOfQuery queries.Counted list = Before (tokens.Symbol symbols.OpenGroup ∷ tokens.Symbol symbols.Star ∷ tokens.Symbol symbols.CloseGroup ∷ []) list ⊎ AfterMeasure list
RestOfQuery queries.Star list = Before (tokens.Symbol symbols.Star ∷ tokens.Symbol symbols.CloseGroup ∷ []) list
RestOfQuery queries.Open list = (column : List ℕ) × Before (tokens.Symbol symbols.OpenGroup ∷ tokens.Name column ∷ tokens.Symbol symbols.CloseGroup ∷ []) list
RestOfQuery queries.Column list = (column : List ℕ) × Before (tokens.Name column ∷ tokens.Symbol symbols.CloseGroup ∷ []) list
RestOfQuery queries.Close list = Before (tokens.Symbol symbols.CloseGroup ∷ []) list
RestOfQuery queries.Tail list = AfterMeasure list
RestOfQuery queries.By list = (column : List ℕ) × (list ≡ tokens.Reserved words.By ∷ tokens.Name column ∷ [])
RestOfQuery queries.Group list = (column : List ℕ) × (list ≡ tokens.Name column ∷ [])

abbrev pub column_end : List ℕ → Option Ways → List Token
column_end column chosen = tokens.Name column ∷ tokens.Symbol symbols.CloseGroup ∷ where_tokens chosen

abbrev pub RestOfQuantile : QuantileWant → List Token → Type 0
RestOfQuantile quantiles.Word list = (question : QuantileQuestion) × (list ≡ quantile_tokens question)
RestOfQuantile quantiles.Open list = (p : List ℕ) × (q : List ℕ) × (column : List ℕ) × (chosen : Option Ways)
    × (list ≡ tokens.Symbol symbols.OpenGroup ∷ tokens.Number p ∷ tokens.Symbol symbols.Comma ∷ tokens.Number q ∷ tokens.Symbol symbols.Comma ∷ column_end column chosen)
RestOfQuantile quantiles.First list = (p : List ℕ) × (q : List ℕ) × (column : List ℕ) × (chosen : Option Ways)
    × (list ≡ tokens.Number p ∷ tokens.Symbol symbols.Comma ∷ tokens.Number q ∷ tokens.Symbol symbols.Comma ∷ column_end column chosen)
RestOfQuantile quantiles.FirstEnd list = (q : List ℕ) × (column : List ℕ) × (chosen : Option Ways) × (list ≡ tokens.Symbol symbols.Comma ∷ tokens.Number q ∷ tokens.Symbol symbols.Comma ∷ column_end column chosen)
RestOfQuantile quantiles.Second list = (q : List ℕ) × (column : List ℕ) × (chosen : Option Ways) × (list ≡ tokens.Number q ∷ tokens.Symbol symbols.Comma ∷ column_end column chosen)
RestOfQuantile quantiles.SecondEnd list = (column : List ℕ) × (chosen : Option Ways) × (list ≡ tokens.Symbol symbols.Comma ∷ column_end column chosen)
RestOfQuantile quantiles.Column list = (column : List ℕ) × (chosen : Option Ways) × (list ≡ column_end column chosen)
RestOfQuantile quantiles.Close list = (chosen : Option Ways) × (list ≡ tokens.Symbol symbols.CloseGroup ∷ where_tokens chosen)
RestOfQuantile quantiles.Tail list = (chosen : Option Ways) × (list ≡ where_tokens chosen)

-- what may follow where this is wanted
abbrev pub Rest : Want → List Token → Type 0
Rest (wants.Line want) list = RestOfLine want list
Rest (wants.Clause clause want) list = RestOfClause clause want list
Rest (wants.Query want) list = RestOfQuery want list
Rest (wants.Quantile want) list = RestOfQuantile want list
Rest wants.Asked list = (asked : AskedQuery) × (list ≡ asked_tokens asked)
Rest wants.End list = list ≡ []

-- .. where something is, and nothing else
abbrev RestAt : Option Want → List Token → Type 0
RestAt (Some want) list = Rest want list
RestAt None list = ⊥

-- ---- one token more

module _ (clause : Clause) where
  more_front : (token : Token) (front rest : List Token) → With clause front rest → With clause (token ∷ front) (token ∷ rest)
  more_front token front rest w = record { rest = w.rest; is = ap (λ list. token ∷ list) w.is; after = w.after }

  alone : (token : Token) (rest : List Token) → AfterAtom clause rest → With clause (token ∷ []) (token ∷ rest)
  alone token rest after = record { rest = rest; is = refl; after = after }

  -- tokens of an atom, and further atoms
  regroup : (front list rest more further : List Token) → list ≡ front ++ rest → rest ≡ further ++ more → list ≡ (front ++ further) ++ more
  regroup front list rest more further e is = e ∙ (ap (λ tail. front ++ tail) is ∙ sym (append_assoc front further more))

  first_atom : (column : List ℕ) (claim : Claim) (rest : List Token) → With clause (claim_tokens claim) rest → RestOfClause clause within.Part (tokens.Name column ∷ rest)
  unfolding part_tokens atom_tokens
  first_atom column claim rest w =
      let atom : Atom = record { column = column; claim = claim } in (
        record { atoms = atom ∷ w.after.atoms },
        w.after.rest,
        ap (λ list. tokens.Name column ∷ list) (regroup (claim_tokens claim) rest w.rest w.after.rest (further_atoms w.after.atoms) w.is w.after.is),
        w.after.after,
      )

  true_part : (rest : List Token) → AfterPart clause rest → RestOfClause clause within.Part (tokens.Reserved words.True ∷ rest)
  unfolding part_tokens
  true_part rest after = (record { atoms = [] }, rest, refl, after)

  one_atom : (column : List ℕ) (claim : Claim) (rest : List Token) → With clause (claim_tokens claim) rest → RestOfClause clause within.Column (tokens.Name column ∷ rest)
  unfolding atom_tokens
  one_atom column claim rest w = (record { column = column; claim = claim }, more_front (tokens.Name column) (claim_tokens claim) rest w)

  compares : (symbol : Symbol) (rest : List Token) → RestAt (option_map (wants.Clause clause) (compared symbol)) rest → RestOfClause clause within.Claim (tokens.Symbol symbol ∷ rest)
  unfolding claim_tokens
  compares symbols.Equal rest (inl r) = (claims.Number r.0, more_front _ _ rest r.1)
  compares symbols.Equal rest (inr r) = (claims.Name r.0, more_front _ _ rest r.1)
  compares symbols.AtLeast rest r = (claims.AtLeast r.0, more_front _ _ rest r.1)
  compares symbols.AtMost rest r = (claims.AtMost r.0, more_front _ _ rest r.1)
  compares symbols.Above rest r = (claims.Above r.0, more_front _ _ rest r.1)
  compares symbols.Below rest r = (claims.Below r.0, more_front _ _ rest r.1)
  compares other rest r = absurd r

  contains : (rest : List Token) → RestOfClause clause within.Inside rest → RestOfClause clause within.Claim (tokens.Reserved words.In ∷ rest)
  unfolding claim_tokens
  contains rest (inl r) = (claims.Within r.0 r.1, more_front _ _ rest r.2)
  contains rest (inr r) = (claims.Among r.0 r.1, more_front _ _ rest r.2)

  more_atoms : (atom : Atom) (rest : List Token) → With clause (atom_tokens atom) rest → AfterAtom clause (tokens.Reserved words.And ∷ rest)
  more_atoms atom rest w = record {
    atoms = atom ∷ w.after.atoms;
    rest = w.after.rest;
    is = ap (λ list. tokens.Reserved words.And ∷ list) (regroup (atom_tokens atom) rest w.rest w.after.rest (further_atoms w.after.atoms) w.is w.after.is);
    after = w.after.after;
  }

  more_parts : (part : Part) (rest tail : List Token) → rest ≡ part_tokens part ++ tail → (after : AfterPart clause tail) → MayFollow clause (part ∷ after.parts) → AfterPart clause (tokens.Reserved words.Or ∷ rest)
  more_parts part rest tail e after may = record {
    parts = part ∷ after.parts;
    rest = after.rest;
    may = may;
    is = ap (λ list. tokens.Reserved words.Or ∷ list) (regroup (part_tokens part) rest tail after.rest (further_parts after.parts) e after.is);
    after = after.after;
  }

  no_part : (list : List Token) → MayFollow clause [] → AfterClause clause list → AfterPart clause list
  no_part list may after = record { parts = []; rest = list; may = may; is = refl; after = after }

-- all parts, and what follows the clause
whole : (clause : Clause) (part : Part) (list rest : List Token) (after : AfterPart clause rest) → list ≡ part_tokens part ++ rest → list ≡ ways_tokens (record { first = part; others = after.parts }) ++ after.rest
unfolding ways_tokens
whole clause part list rest after e = regroup clause (part_tokens part) list rest after.rest (further_parts after.parts) e after.is

-- values have no further part
only_values : (rest : List Token) (after : AfterPart clauses.Values rest) → rest ≡ after.rest
only_values rest after = after.is ∙ ap (λ (parts : List Part). further_parts parts ++ after.rest) after.may

arrow_then : (rest : List Token) → RestOfClause clauses.Values within.Part rest → AfterClause clauses.Predicate (tokens.Symbol symbols.Arrow ∷ rest)
arrow_then rest r =
    let after = r.3 in
    (r.0, after.after.0, after.after.1, ap (λ list. tokens.Symbol symbols.Arrow ∷ list) (r.2 ∙ ap (λ tail. part_tokens r.0 ++ tail) (only_values r.1 after ∙ after.after.2)))

step_after : (clause : Clause) (token : Token) (rest : List Token) → RestAt (after_part clause (kind_of token)) rest → AfterPart clause (token ∷ rest)
unfolding next_in_clause
step_after clauses.Predicate (tokens.Reserved words.Or) rest r = more_parts clauses.Predicate r.0 rest r.1 r.2 r.3 tt
step_after clauses.Predicate (tokens.Symbol symbols.Arrow) rest r = no_part clauses.Predicate _ tt (arrow_then rest r)
step_after clauses.Values (tokens.Symbol symbols.Comma) rest r = no_part clauses.Values _ refl (r.0, r.1, ap (λ list. tokens.Symbol symbols.Comma ∷ list) r.2)
step_after clauses.Chosen (tokens.Reserved words.Or) rest r = more_parts clauses.Chosen r.0 rest r.1 r.2 r.3 tt
step_after clauses.Chosen (tokens.Reserved words.Group) rest r = no_part clauses.Chosen _ tt (Some r.0, ap (λ list. tokens.Reserved words.Group ∷ list) r.1)
step_after clauses.Measured (tokens.Reserved words.Or) rest r = more_parts clauses.Measured r.0 rest r.1 r.2 r.3 tt
step_after clause token rest r = absurd r

step_joint : (clause : Clause) (token : Token) (rest : List Token) → AfterPart clause (token ∷ rest) → AfterAtom clause (token ∷ rest)
step_joint clause token rest after = record { atoms = []; rest = token ∷ rest; is = refl; after = after }

step_clause : (clause : Clause) (want : ClauseWant) (token : Token) (rest : List Token) → RestAt (next_in_clause clause want (kind_of token)) rest → RestOfClause clause want (token ∷ rest)
unfolding next_in_clause
step_clause clause within.Part (tokens.Name column) rest r = first_atom clause column r.0 rest r.1
step_clause clause within.Part (tokens.Reserved words.True) rest r = true_part clause rest r
step_clause clause within.Column (tokens.Name column) rest r = one_atom clause column r.0 rest r.1
step_clause clause within.Claim (tokens.Symbol symbol) rest r = compares clause symbol rest r
step_clause clause within.Claim (tokens.Reserved words.In) rest r = contains clause rest r
step_clause clause within.Either (tokens.Number text) rest r = inl (text, alone clause _ rest r)
step_clause clause within.Either (tokens.Name name) rest r = inr (name, alone clause _ rest r)
step_clause clause within.Number (tokens.Number text) rest r = (text, alone clause _ rest r)
step_clause clause within.Inside (tokens.Number low) rest r = inl (low, r.0, more_front clause _ _ rest r.1)
step_clause clause within.Inside (tokens.Symbol symbols.OpenSet) rest r = inr (r.0, r.1, more_front clause _ _ rest r.2)
step_clause clause within.Dots (tokens.Symbol symbols.Dots) rest r = (r.0, more_front clause _ _ rest r.1)
step_clause clause within.Member (tokens.Name first) rest r = (first, r.0, more_front clause _ _ rest r.1)
step_clause clause within.Next (tokens.Symbol symbols.Comma) rest r = (r.0 ∷ r.1, more_front clause _ _ rest r.2)
step_clause clause within.Next (tokens.Symbol symbols.CloseSet) rest r = ([], alone clause _ rest r)
step_clause clause within.Joint (tokens.Reserved words.And) rest r = more_atoms clause r.0 rest r.1
step_clause clause within.Joint token rest r = step_joint clause token rest (step_after clause token rest r)
step_clause clause within.Truth token rest r = step_after clause token rest r
step_clause clause want token rest r = absurd r

-- ---- lines

named_line : (name : List ℕ) (rest : List Token) → RestOfLine lines.Colon rest → RestOfLine lines.Head (tokens.Name name ∷ rest)
unfolding line_tokens head_tokens
named_line name rest r =
    (record { head = heads.Named name r.0; values = r.1; least = r.2; most = r.3 }, ap (λ list. tokens.Name name ∷ list) r.4)

outside_line : (rest : List Token) → RestOfLine lines.Arrow rest → RestOfLine lines.Head (tokens.Reserved words.Outside ∷ rest)
unfolding line_tokens head_tokens
outside_line rest r = (record { head = heads.Outside; values = r.0; least = r.1; most = r.2 }, ap (λ list. tokens.Reserved words.Outside ∷ list) r.3)

colon_then : (rest : List Token) → RestOfClause clauses.Predicate within.Part rest → RestOfLine lines.Colon (tokens.Symbol symbols.Colon ∷ rest)
colon_then rest r =
    let after = r.3 in
    let when : Ways = record { first = r.0; others = after.parts } in
    let values = after.after.0 in
    let least = after.after.1 in
    let most = after.after.2 in
    let body : rest ≡ ways_tokens when ++ (tokens.Symbol symbols.Arrow ∷ (part_tokens values ++ frequency_tokens least most)) =
    whole clauses.Predicate r.0 rest r.1 after r.2 ∙ ap (λ tail. ways_tokens when ++ tail) after.after.3
    in (
      when,
      values,
      least,
      most,
      ap (λ list. tokens.Symbol symbols.Colon ∷ list) (body ∙ sym (append_assoc (ways_tokens when) (tokens.Symbol symbols.Arrow ∷ part_tokens values) (frequency_tokens least most))),
    )

step_line : (want : LineWant) (token : Token) (rest : List Token) → RestAt (next_in_line want (kind_of token)) rest → RestOfLine want (token ∷ rest)
unfolding next_in_line
step_line lines.Head (tokens.Name name) rest r = named_line name rest r
step_line lines.Head (tokens.Reserved words.Outside) rest r = outside_line rest r
step_line lines.Colon (tokens.Symbol symbols.Colon) rest r = colon_then rest r
step_line lines.Arrow (tokens.Symbol symbols.Arrow) rest r = arrow_then rest r
step_line lines.Least (tokens.Number least) rest r = (least, r.0, ap (λ list. tokens.Number least ∷ list) r.1)
step_line lines.Dots (tokens.Symbol symbols.Dots) rest r = (r.0, ap (λ list. tokens.Symbol symbols.Dots ∷ list) r.1)
step_line lines.Most (tokens.Number most) rest r = (most, ap (λ list. tokens.Number most ∷ list) r)
step_line lines.Rule (tokens.Name name) rest r = (named name, ap (λ list. tokens.Name name ∷ list) r)
step_line lines.Rule (tokens.Reserved words.Outside) rest r = (outside, ap (λ list. tokens.Reserved words.Outside ∷ list) r)
step_line want token rest r = absurd r

-- ---- queries

where_then : (rest : List Token) → RestOfClause clauses.Chosen within.Part rest → AfterMeasure (tokens.Reserved words.Where ∷ rest)
where_then rest r =
    let after = r.3 in
    let ways : Ways = record { first = r.0; others = after.parts } in
    (Some ways, after.after.0, ap (λ list. tokens.Reserved words.Where ∷ list) (whole clauses.Chosen r.0 rest r.1 after r.2 ∙ ap (λ tail. ways_tokens ways ++ tail) after.after.1))

group_then : (rest : List Token) → RestOfQuery queries.By rest → AfterMeasure (tokens.Reserved words.Group ∷ rest)
group_then rest r = (None, Some r.0, ap (λ list. tokens.Reserved words.Group ∷ list) r.1)

measures_then : (token : Token) (measure : Measure) (front rest : List Token) → measure_tokens measure ≡ token ∷ front → Before front rest → RestOfQuery queries.Measure (token ∷ rest)
unfolding question_tokens
measures_then token measure front rest spelled r =
    let chosen = r.2.0 in
    let group = r.2.1 in (
      record { measure = measure; chosen = chosen; group = group },
      ap (λ list. token ∷ list) (r.1 ∙ ap (λ tail. front ++ tail) r.2.2) ∙ (ap (λ list. list ++ (where_tokens chosen ++ group_tokens group)) (sym spelled) ∙ sym (append_assoc (measure_tokens measure) (where_tokens chosen) (group_tokens group))),
    )

measure_then : (word : Word) (rest : List Token) → RestAt (option_map wants.Query (measured word)) rest → RestOfQuery queries.Measure (tokens.Reserved word ∷ rest)
unfolding measure_tokens
measure_then words.Count rest (inl r) = measures_then _ measures.CountOfAll _ rest refl r
measure_then words.Count rest (inr r) = measures_then _ measures.Count [] rest refl (rest, refl, r)
measure_then words.Sum rest r = measures_then _ (measures.Sum r.0) _ rest refl r.1
measure_then words.Min rest r = measures_then _ (measures.Min r.0) _ rest refl r.1
measure_then words.Max rest r = measures_then _ (measures.Max r.0) _ rest refl r.1
measure_then words.Avg rest r = measures_then _ (measures.Avg r.0) _ rest refl r.1
measure_then word rest r = absurd r

more_before : (token : Token) (front rest : List Token) → Before front rest → Before (token ∷ front) (token ∷ rest)
more_before token front rest r = (r.0, ap (λ list. token ∷ list) r.1, r.2)

step_query : (want : QueryWant) (token : Token) (rest : List Token) → RestAt (next_in_query want (kind_of token)) rest → RestOfQuery want (token ∷ rest)
unfolding next_in_query
step_query queries.Measure (tokens.Reserved word) rest r = measure_then word rest r
step_query queries.Counted (tokens.Symbol symbols.OpenGroup) rest r = inl (more_before _ (tokens.Symbol symbols.Star ∷ tokens.Symbol symbols.CloseGroup ∷ []) rest r)
step_query queries.Counted (tokens.Reserved words.Where) rest r = inr (where_then rest r)
step_query queries.Counted (tokens.Reserved words.Group) rest r = inr (group_then rest r)
step_query queries.Star (tokens.Symbol symbols.Star) rest r = more_before _ (tokens.Symbol symbols.CloseGroup ∷ []) rest r
step_query queries.Open (tokens.Symbol symbols.OpenGroup) rest r = (r.0, more_before _ (tokens.Name r.0 ∷ tokens.Symbol symbols.CloseGroup ∷ []) rest r.1)
step_query queries.Column (tokens.Name column) rest r = (column, more_before _ (tokens.Symbol symbols.CloseGroup ∷ []) rest r)
step_query queries.Close (tokens.Symbol symbols.CloseGroup) rest r = (rest, refl, r)
step_query queries.Tail (tokens.Reserved words.Where) rest r = where_then rest r
step_query queries.Tail (tokens.Reserved words.Group) rest r = group_then rest r
step_query queries.By (tokens.Reserved words.By) rest r = (r.0, ap (λ list. tokens.Reserved words.By ∷ list) r.1)
step_query queries.Group (tokens.Name column) rest r = (column, ap (λ list. tokens.Name column ∷ list) r)
step_query want token rest r = absurd r

-- ---- queries of quantiles

quantile_then : (rest : List Token) → RestOfQuantile quantiles.Open rest → RestOfQuantile quantiles.Word (tokens.Reserved words.Quantile ∷ rest)
unfolding quantile_tokens
quantile_then rest r = (record { p = r.0; q = r.1; column = r.2; chosen = r.3 }, ap (λ list. tokens.Reserved words.Quantile ∷ list) r.4)

measured_then : (rest : List Token) → RestOfClause clauses.Measured within.Part rest → RestOfQuantile quantiles.Tail (tokens.Reserved words.Where ∷ rest)
measured_then rest r =
    let after = r.3 in
    let ways : Ways = record { first = r.0; others = after.parts } in
    (Some ways, ap (λ list. tokens.Reserved words.Where ∷ list) (whole clauses.Measured r.0 rest r.1 after r.2 ∙ (ap (λ tail. ways_tokens ways ++ tail) after.after ∙ append-nil (ways_tokens ways))))

step_quantile : (want : QuantileWant) (token : Token) (rest : List Token) → RestAt (next_in_quantile want (kind_of token)) rest → RestOfQuantile want (token ∷ rest)
unfolding next_in_quantile
step_quantile quantiles.Word (tokens.Reserved words.Quantile) rest r = quantile_then rest r
step_quantile quantiles.Open (tokens.Symbol symbols.OpenGroup) rest r = (r.0, r.1, r.2, r.3, ap (λ list. tokens.Symbol symbols.OpenGroup ∷ list) r.4)
step_quantile quantiles.First (tokens.Number p) rest r = (p, r.0, r.1, r.2, ap (λ list. tokens.Number p ∷ list) r.3)
step_quantile quantiles.FirstEnd (tokens.Symbol symbols.Comma) rest r = (r.0, r.1, r.2, ap (λ list. tokens.Symbol symbols.Comma ∷ list) r.3)
step_quantile quantiles.Second (tokens.Number q) rest r = (q, r.0, r.1, ap (λ list. tokens.Number q ∷ list) r.2)
step_quantile quantiles.SecondEnd (tokens.Symbol symbols.Comma) rest r = (r.0, r.1, ap (λ list. tokens.Symbol symbols.Comma ∷ list) r.2)
step_quantile quantiles.Column (tokens.Name column) rest r = (column, r.0, ap (λ list. tokens.Name column ∷ list) r.1)
step_quantile quantiles.Close (tokens.Symbol symbols.CloseGroup) rest r = (r.0, ap (λ list. tokens.Symbol symbols.CloseGroup ∷ list) r.1)
step_quantile quantiles.Tail (tokens.Reserved words.Where) rest r = measured_then rest r
step_quantile want token rest r = absurd r

from_plain : (list : List Token) → RestOfQuery queries.Measure list → Rest wants.Asked list
from_plain list r = (plain r.0, r.1)

from_share : (list : List Token) → RestOfQuantile quantiles.Word list → Rest wants.Asked list
from_share list r = (share r.0, r.1)

step_asked : (token : Token) (rest : List Token) → RestAt (next_asked (kind_of token)) rest → Rest wants.Asked (token ∷ rest)
step_asked (tokens.Reserved words.Quantile) rest r = from_share _ (quantile_then rest r)
step_asked token rest r = from_plain (token ∷ rest) (step_query queries.Measure token rest r)

-- ---- all tokens

step : (want : Want) (token : Token) (rest : List Token) → RestAt (next want (kind_of token)) rest → Rest want (token ∷ rest)
unfolding next
step (wants.Line want) token rest r = step_line want token rest r
step (wants.Clause clause want) token rest r = step_clause clause want token rest r
step (wants.Query want) token rest r = step_query want token rest r
step (wants.Quantile want) token rest r = step_quantile want token rest r
step wants.Asked token rest r = step_asked token rest r
step wants.End token rest r = absurd r

nothing_more : (clause : Clause) → MayFollow clause [] → AfterClause clause [] → AfterAtom clause []
nothing_more clause may after = record { atoms = []; rest = []; is = refl; after = no_part clause [] may after }

at_end : (want : Want) → may_end want ≡ true → Rest want []
unfolding may_end
at_end wants.End e = refl
at_end (wants.Query queries.Counted) e = inr (None, None, refl)
at_end (wants.Query queries.Tail) e = (None, None, refl)
at_end (wants.Quantile quantiles.Tail) e = (None, refl)
at_end (wants.Clause clauses.Chosen within.Joint) e = nothing_more clauses.Chosen tt (None, refl)
at_end (wants.Clause clauses.Chosen within.Truth) e = no_part clauses.Chosen [] tt (None, refl)
at_end (wants.Clause clauses.Measured within.Joint) e = nothing_more clauses.Measured tt refl
at_end (wants.Clause clauses.Measured within.Truth) e = no_part clauses.Measured [] tt refl
at_end want e = absurd (false≢true e)

goes : (found : Option Want) (rest : List Token) → ((want : Want) → may_end_at (want_from (Some want) rest) ≡ true → Rest want rest) → may_end_at (want_from found rest) ≡ true → RestAt found rest
unfolding want_from
goes (Some want) rest later e = later want e
goes None rest later e = absurd (false≢true e)

-- what goes on to an end is what may follow
pub goes_on_as : (list : List Token) (want : Want) → may_end_at (want_from (Some want) list) ≡ true → Rest want list
unfolding want_from
goes_on_as [] want e = at_end want e
goes_on_as (token ∷ rest) want e = step want token rest (goes (next want (kind_of token)) rest (λ further. goes_on_as rest further) e)
