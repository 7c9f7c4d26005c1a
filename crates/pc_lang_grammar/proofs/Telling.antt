-- Where reading stops is where the tokens leave the language.
use Rattle.std.proofs.Common.{◌≡◌, ◌≢◌, ℕ, suc, ◌+◌, ◌<◌, ◌≤◌, true, false, List, [], ◌∷◌, ◌++◌, length, take, refl, sym, ap, ◌∙◌, arith}
use Rattle.std.specs.Prelude.{Option, Some, None, is_some}
use Rattle.std.proofs.lemmas.Bool.{false≢true}
use Rattle.pc_lang_tokens.specs.declared.token.Symbol.TheVariants as symbols
use Rattle.pc_lang_tokens.specs.declared.token.Word.TheVariants as words
use Rattle.pc_lang_tokens.specs.declared.token.Token.{Token}
use Rattle.pc_lang_tokens.specs.declared.token.Token.TheVariants as tokens
use Rattle.pc_lang_grammar.specs.declared.want.Clause.{Clause}
use Rattle.pc_lang_grammar.specs.declared.want.Clause.TheVariants as clauses
use Rattle.pc_lang_grammar.specs.declared.want.ClauseWant.{ClauseWant}
use Rattle.pc_lang_grammar.specs.declared.want.ClauseWant.TheVariants as within
use Rattle.pc_lang_grammar.specs.declared.want.LineWant.{LineWant}
use Rattle.pc_lang_grammar.specs.declared.want.LineWant.TheVariants as lines
use Rattle.pc_lang_grammar.specs.declared.want.QueryWant.{QueryWant}
use Rattle.pc_lang_grammar.specs.declared.want.QueryWant.TheVariants as queries
use Rattle.pc_lang_grammar.specs.declared.want.QuantileWant.{QuantileWant}
use Rattle.pc_lang_grammar.specs.declared.want.QuantileWant.TheVariants as quantiles
use Rattle.pc_lang_grammar.specs.declared.want.Want.{Want}
use Rattle.pc_lang_grammar.specs.declared.want.Want.TheVariants as wants
use Rattle.pc_lang_grammar.specs.declared.halt.Halt.{Halt}
use Rattle.pc_lang_grammar.specs.Grammar.{line_tokens, quantile_tokens, question_tokens}
use Rattle.pc_lang_grammar.specs.Halts.{Begins, IsPlaceIn, asked_tokens, halt_from, halt_of, rule_tokens}
use Rattle.pc_lang_grammar.specs.Wants.{kind_of, may_end, next, next_in_clause, next_in_line, next_in_quantile, next_in_query}
use Rattle.pc_lang_grammar.proofs.GrammarWants.{asked_ends, line_ends, quantile_ends, question_ends, rule_ends}
use Rattle.pc_lang_grammar.proofs.Rests.{goes_on_as}
use Rattle.pc_lang_grammar.proofs.Wanting.{joined, may_end_at, nothing, nowhere, want_from}

-- ---- an end from each place

number : Token
number = tokens.Number (48 ∷ [])

name : Token
name = tokens.Name (97 ∷ [])

abbrev rows_end : List Token
rows_end = number ∷ tokens.Symbol symbols.Dots ∷ number ∷ []

abbrev clause_end : Clause → List Token
clause_end clauses.Predicate = tokens.Symbol symbols.Arrow ∷ tokens.Reserved words.True ∷ tokens.Symbol symbols.Comma ∷ rows_end
clause_end clauses.Values = tokens.Symbol symbols.Comma ∷ rows_end
clause_end clauses.Chosen = []
clause_end clauses.Measured = []

-- what may stand in a clause until an atom or `true` is whole
abbrev atom_end : ClauseWant → List Token
atom_end within.Part = tokens.Reserved words.True ∷ []
atom_end within.Column = name ∷ tokens.Symbol symbols.Equal ∷ number ∷ []
atom_end within.Claim = tokens.Symbol symbols.Equal ∷ number ∷ []
atom_end within.Either = number ∷ []
atom_end within.Number = number ∷ []
atom_end within.Inside = number ∷ tokens.Symbol symbols.Dots ∷ number ∷ []
atom_end within.Dots = tokens.Symbol symbols.Dots ∷ number ∷ []
atom_end within.Member = name ∷ tokens.Symbol symbols.CloseSet ∷ []
atom_end within.Next = tokens.Symbol symbols.CloseSet ∷ []
atom_end within.Joint = []
atom_end within.Truth = []

abbrev line_end : LineWant → List Token
line_end lines.Head = tokens.Reserved words.Outside ∷ clause_end clauses.Predicate
line_end lines.Colon = tokens.Symbol symbols.Colon ∷ tokens.Reserved words.True ∷ clause_end clauses.Predicate
line_end lines.Arrow = clause_end clauses.Predicate
line_end lines.Least = rows_end
line_end lines.Dots = tokens.Symbol symbols.Dots ∷ number ∷ []
line_end lines.Most = number ∷ []
line_end lines.Rule = name ∷ []

abbrev query_end : QueryWant → List Token
query_end queries.Measure = tokens.Reserved words.Count ∷ []
query_end queries.Counted = []
query_end queries.Star = tokens.Symbol symbols.Star ∷ tokens.Symbol symbols.CloseGroup ∷ []
query_end queries.Open = tokens.Symbol symbols.OpenGroup ∷ name ∷ tokens.Symbol symbols.CloseGroup ∷ []
query_end queries.Column = name ∷ tokens.Symbol symbols.CloseGroup ∷ []
query_end queries.Close = tokens.Symbol symbols.CloseGroup ∷ []
query_end queries.Tail = []
query_end queries.By = tokens.Reserved words.By ∷ name ∷ []
query_end queries.Group = name ∷ []

abbrev column_end : List Token
column_end = name ∷ tokens.Symbol symbols.CloseGroup ∷ []

abbrev share_end : List Token
share_end = number ∷ tokens.Symbol symbols.Comma ∷ column_end

abbrev quantile_end : QuantileWant → List Token
quantile_end quantiles.Word = tokens.Reserved words.Quantile ∷ tokens.Symbol symbols.OpenGroup ∷ number ∷ tokens.Symbol symbols.Comma ∷ share_end
quantile_end quantiles.Open = tokens.Symbol symbols.OpenGroup ∷ number ∷ tokens.Symbol symbols.Comma ∷ share_end
quantile_end quantiles.First = number ∷ tokens.Symbol symbols.Comma ∷ share_end
quantile_end quantiles.FirstEnd = tokens.Symbol symbols.Comma ∷ share_end
quantile_end quantiles.Second = share_end
quantile_end quantiles.SecondEnd = tokens.Symbol symbols.Comma ∷ column_end
quantile_end quantiles.Column = column_end
quantile_end quantiles.Close = tokens.Symbol symbols.CloseGroup ∷ []
quantile_end quantiles.Tail = []

abbrev an_end : Want → List Token
an_end (wants.Line want) = line_end want
an_end (wants.Clause clause want) = atom_end want ++ clause_end clause
an_end (wants.Query want) = query_end want
an_end (wants.Quantile want) = quantile_end want
an_end wants.Asked = tokens.Reserved words.Count ∷ []
an_end wants.End = []

joint_ends : (clause : Clause) → may_end_at (want_from (Some (wants.Clause clause within.Joint)) (clause_end clause)) ≡ true
unfolding want_from next next_in_clause next_in_line may_end number
joint_ends clauses.Predicate = refl
joint_ends clauses.Values = refl
joint_ends clauses.Chosen = refl
joint_ends clauses.Measured = refl

truth_ends : (clause : Clause) → may_end_at (want_from (Some (wants.Clause clause within.Truth)) (clause_end clause)) ≡ true
unfolding want_from next next_in_clause next_in_line may_end number
truth_ends clauses.Predicate = refl
truth_ends clauses.Values = refl
truth_ends clauses.Chosen = refl
truth_ends clauses.Measured = refl

clause_ends : (clause : Clause) (want : ClauseWant) → may_end_at (want_from (Some (wants.Clause clause want)) (atom_end want ++ clause_end clause)) ≡ true
unfolding want_from next next_in_clause number name
clause_ends clause within.Part = truth_ends clause
clause_ends clause within.Column = joint_ends clause
clause_ends clause within.Claim = joint_ends clause
clause_ends clause within.Either = joint_ends clause
clause_ends clause within.Number = joint_ends clause
clause_ends clause within.Inside = joint_ends clause
clause_ends clause within.Dots = joint_ends clause
clause_ends clause within.Member = joint_ends clause
clause_ends clause within.Next = joint_ends clause
clause_ends clause within.Joint = joint_ends clause
clause_ends clause within.Truth = truth_ends clause

line_ends_so : (want : LineWant) → may_end_at (want_from (Some (wants.Line want)) (line_end want)) ≡ true
unfolding want_from next next_in_line next_in_clause may_end number name
line_ends_so lines.Head = refl
line_ends_so lines.Colon = refl
line_ends_so lines.Arrow = refl
line_ends_so lines.Least = refl
line_ends_so lines.Dots = refl
line_ends_so lines.Most = refl
line_ends_so lines.Rule = refl

query_ends_so : (want : QueryWant) → may_end_at (want_from (Some (wants.Query want)) (query_end want)) ≡ true
unfolding want_from next next_in_query may_end name
query_ends_so queries.Measure = refl
query_ends_so queries.Counted = refl
query_ends_so queries.Star = refl
query_ends_so queries.Open = refl
query_ends_so queries.Column = refl
query_ends_so queries.Close = refl
query_ends_so queries.Tail = refl
query_ends_so queries.By = refl
query_ends_so queries.Group = refl

quantile_ends_so : (want : QuantileWant) → may_end_at (want_from (Some (wants.Quantile want)) (quantile_end want)) ≡ true
unfolding want_from next next_in_quantile may_end number name
quantile_ends_so quantiles.Word = refl
quantile_ends_so quantiles.Open = refl
quantile_ends_so quantiles.First = refl
quantile_ends_so quantiles.FirstEnd = refl
quantile_ends_so quantiles.Second = refl
quantile_ends_so quantiles.SecondEnd = refl
quantile_ends_so quantiles.Column = refl
quantile_ends_so quantiles.Close = refl
quantile_ends_so quantiles.Tail = refl

ends_so : (want : Want) → may_end_at (want_from (Some want) (an_end want)) ≡ true
unfolding want_from next next_in_query may_end
ends_so (wants.Line want) = line_ends_so want
ends_so (wants.Clause clause want) = clause_ends clause want
ends_so (wants.Query want) = query_ends_so want
ends_so (wants.Quantile want) = quantile_ends_so want
ends_so wants.Asked = refl
ends_so wants.End = refl

-- ---- where reading stops

-- tokens of which so many may stand where they do, and this is wanted behind them
record StopsAfter (start : Want) (list : List Token) (count : ℕ) (want : Want) : Type 0 where
  within : count ≤ length list
  stand : want_from (Some start) (take count list) ≡ Some want
  no_more : count < length list → want_from (Some start) (take (suc count) list) ≡ None

abbrev Stops : ℕ → Want → List Token → Halt → Type 0
Stops place start list halt = (count : ℕ) × (halt.place ≡ place + count) × StopsAfter start list count halt.want

one_stands : (start further : Want) (token : Token) (rest : List Token) (count : ℕ) (want : Want) → next start (kind_of token) ≡ Some further → StopsAfter further rest count want → StopsAfter start (token ∷ rest) (suc count) want
unfolding want_from
one_stands start further token rest count want is stops = record {
  within = let e = stops.within in omega (arith, e);
  stand = ap (λ found. want_from found (take count rest)) is ∙ stops.stand;
  no_more = λ inside. ap (λ found. want_from found (take (suc count) rest)) is ∙ stops.no_more (omega (arith, inside));
}

none_stands : (start : Want) (token : Token) (rest : List Token) → next start (kind_of token) ≡ None → StopsAfter start (token ∷ rest) 0 start
unfolding want_from
none_stands start token rest is = record {
  within = omega arith;
  stand = refl;
  no_more = λ inside. ap (λ found. want_from found []) is;
}

stops : (list : List Token) (place : ℕ) (start : Want) → Stops place start list (halt_from place start list)
unfolding halt_from want_from
stops [] place start = (0, omega arith, record { within = omega arith; stand = refl; no_more = λ inside. absurd (omega (arith, inside)) })
stops (token ∷ rest) place start = by_next (next start (kind_of token)) refl (λ further. stops rest (place + 1) further)
  where
    later : (further : Want) → next start (kind_of token) ≡ Some further → Stops (place + 1) further rest (halt_from (place + 1) further rest) → Stops place start (token ∷ rest) (halt_from (place + 1) further rest)
    later further is so =
        (suc so.0, let e = so.1 in omega (arith, e), one_stands start further token rest so.0 _ is so.2)

    by_next : (found : Option Want) → next start (kind_of token) ≡ found → ((further : Want) → Stops (place + 1) further rest (halt_from (place + 1) further rest)) → Stops place start (token ∷ rest) (halt_from place start (token ∷ rest))
    by_next (Some further) is so = rw is (later further is (so further))
    by_next None is so = rw is (0, omega arith, none_stands start token rest is)

-- ---- what that says of a language

module _ {A : Type 0} (spelled : A → List Token) (start : Want)
    (reads : (list : List Token) → may_end_at (want_from (Some start) list) ≡ true → (x : A) × (spelled x ≡ list))
    (ends : (x : A) → may_end_at (want_from (Some start) (spelled x)) ≡ true) where
  goes_to : (front list : List Token) (want : Want) → want_from (Some start) front ≡ Some want → may_end_at (want_from (Some want) list) ≡ true → (x : A) × (spelled x ≡ front ++ list)
  goes_to front list want at so = reads (front ++ list) (rw (joined (Some start) front list, at) so)

  begins : (front : List Token) (want : Want) → want_from (Some start) front ≡ Some want → Begins spelled front
  begins front want at = let found = goes_to front (an_end want) want at (ends_so want) in (found.0, an_end want, found.1)

  begins_none : (front : List Token) → want_from (Some start) front ≡ None → Begins spelled front → ⊥
  begins_none front none begun =
      let all : may_end_at (want_from (Some start) (front ++ begun.1)) ≡ true = rw begun.2 at (ends begun.0) in
      let nowhere_then : may_end_at None ≡ true = rw (joined (Some start) front begun.1, none, nowhere begun.1) at all in
      false≢true nowhere_then

  one_more : (front : List Token) (token : Token) (want : Want) → want_from (Some start) front ≡ Some want → want_from (Some start) (front ++ token ∷ []) ≡ next want (kind_of token)
  unfolding want_from
  one_more front token want at = joined (Some start) front (token ∷ []) ∙ (ap (λ found. want_from found (token ∷ [])) at ∙ nothing (next want (kind_of token)))

  goes_by : (front : List Token) (token : Token) (found : Option Want) → want_from (Some start) (front ++ token ∷ []) ≡ found → is_some found ≡ true → Begins spelled (front ++ token ∷ [])
  goes_by front token (Some want) at some = begins (front ++ token ∷ []) want at
  goes_by front token None at some = absurd (false≢true some)

  goes_not : (front : List Token) (token : Token) (found : Option Want) → want_from (Some start) (front ++ token ∷ []) ≡ found → is_some found ≡ false → Begins spelled (front ++ token ∷ []) → ⊥
  goes_not front token (Some want) at none begun = false≢true (sym none)
  goes_not front token None at none begun = begins_none (front ++ token ∷ []) at begun

  ends_here : (front : List Token) (want : Want) → want_from (Some start) front ≡ Some want → may_end want ≡ true → (x : A) × (spelled x ≡ front)
  ends_here front want at so = reads front (rw at so)

  ends_not : (front : List Token) (want : Want) → want_from (Some start) front ≡ Some want → may_end want ≡ false → (x : A) → spelled x ≢ front
  ends_not front want at none x is =
      let all : may_end_at (want_from (Some start) front) ≡ true = rw is at (ends x) in
      let here : may_end want ≡ true = rw at at all in
      false≢true (sym none ∙ here)

  pub places : (list : List Token) → IsPlaceIn spelled list (halt_of start list)
  unfolding halt_of
  places list = placed (halt_from 0 start list) (stops list 0 start)
    where
      placed : (halt : Halt) → Stops 0 start list halt → IsPlaceIn spelled list halt
      placed halt so =
          let count : so.0 ≡ halt.place = let e = so.1 in omega (arith, e) in
          let at : StopsAfter start list halt.place halt.want = rw count at so.2 in
          let front = take halt.place list in
          record {
            within = at.within;
            begun = begins front halt.want at.stand;
            no_further = λ inside begun. begins_none (take (halt.place + 1) list) (let one : halt.place + 1 ≡ suc halt.place = omega arith in rw one (at.no_more inside)) begun;
            goes_on = λ token may. goes_by front token (next halt.want (kind_of token)) (one_more front token halt.want at.stand) may;
            no_other = λ token may begun. goes_not front token (next halt.want (kind_of token)) (one_more front token halt.want at.stand) may begun;
            ends = λ may. ends_here front halt.want at.stand may;
            no_end = λ may. ends_not front halt.want at.stand may;
          }

-- ---- the languages

spelled_so : {A : Type 0} (spelled : A → List Token) (list : List Token) → (x : A) × (list ≡ spelled x) → (x : A) × (spelled x ≡ list)
spelled_so spelled list found = (found.0, sym found.1)

pub lines_placed : (list : List Token) → IsPlaceIn line_tokens list (halt_of (wants.Line lines.Head) list)
lines_placed list = places line_tokens (wants.Line lines.Head) (λ all so. spelled_so line_tokens all (goes_on_as all (wants.Line lines.Head) so)) line_ends list

pub rules_placed : (list : List Token) → IsPlaceIn rule_tokens list (halt_of (wants.Line lines.Rule) list)
rules_placed list = places rule_tokens (wants.Line lines.Rule) (λ all so. spelled_so rule_tokens all (goes_on_as all (wants.Line lines.Rule) so)) rule_ends list

pub questions_placed : (list : List Token) → IsPlaceIn question_tokens list (halt_of (wants.Query queries.Measure) list)
questions_placed list = places question_tokens (wants.Query queries.Measure) (λ all so. spelled_so question_tokens all (goes_on_as all (wants.Query queries.Measure) so)) question_ends list

pub quantiles_placed : (list : List Token) → IsPlaceIn quantile_tokens list (halt_of (wants.Quantile quantiles.Word) list)
quantiles_placed list = places quantile_tokens (wants.Quantile quantiles.Word) (λ all so. spelled_so quantile_tokens all (goes_on_as all (wants.Quantile quantiles.Word) so)) quantile_ends list

pub asked_placed : (list : List Token) → IsPlaceIn asked_tokens list (halt_of wants.Asked list)
asked_placed list = places asked_tokens wants.Asked (λ all so. spelled_so asked_tokens all (goes_on_as all wants.Asked so)) asked_ends list

pub ruleset laws = (lines_placed, rules_placed, questions_placed, quantiles_placed, asked_placed)
