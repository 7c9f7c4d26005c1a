-- What the grammar spells may stand where it does, and may end where it does.
use Rattle.std.proofs.Common.{◌≡◌, ◌⊎◌, ℕ, true, List, [], ◌∷◌, ◌++◌, inl, inr, refl, ap, ◌∙◌}
use Rattle.std.specs.Prelude.{Option, Some, None}
use Rattle.pc_lang_tokens.specs.declared.token.Symbol.TheVariants as symbols
use Rattle.pc_lang_tokens.specs.declared.token.Word.TheVariants as words
use Rattle.pc_lang_tokens.specs.declared.token.Token.{Token}
use Rattle.pc_lang_tokens.specs.declared.token.Token.TheVariants as tokens
use Rattle.pc_lang_grammar.specs.declared.syntax.Claim.{Claim}
use Rattle.pc_lang_grammar.specs.declared.syntax.Claim.TheVariants as claims
use Rattle.pc_lang_grammar.specs.declared.syntax.Atom.{Atom}
use Rattle.pc_lang_grammar.specs.declared.syntax.Part.{Part}
use Rattle.pc_lang_grammar.specs.declared.syntax.Ways.{Ways}
use Rattle.pc_lang_grammar.specs.declared.syntax.Head.{Head}
use Rattle.pc_lang_grammar.specs.declared.syntax.Head.TheVariants as heads
use Rattle.pc_lang_grammar.specs.declared.syntax.Line.{Line}
use Rattle.pc_lang_grammar.specs.declared.syntax.Measure.{Measure}
use Rattle.pc_lang_grammar.specs.declared.syntax.Measure.TheVariants as measures
use Rattle.pc_lang_grammar.specs.declared.syntax.Question.{Question}
use Rattle.pc_lang_grammar.specs.declared.syntax.QuantileQuestion.{QuantileQuestion}
use Rattle.pc_lang_grammar.specs.Grammar.{atom_tokens, claim_tokens, frequency_tokens, further_atoms, further_names, further_parts, group_tokens, head_tokens, joined_atoms, line_tokens, measure_tokens, part_tokens, quantile_tokens, question_tokens, ways_tokens, where_tokens}
use Rattle.pc_lang_grammar.specs.Halts.{AskedQuery, Rule, asked_tokens, named, outside, plain, rule_tokens, share}
use Rattle.pc_lang_grammar.specs.declared.want.Clause.{Clause}
use Rattle.pc_lang_grammar.specs.declared.want.Clause.TheVariants as clauses
use Rattle.pc_lang_grammar.specs.declared.want.LineWant.TheVariants as lines
use Rattle.pc_lang_grammar.specs.declared.want.ClauseWant.TheVariants as within
use Rattle.pc_lang_grammar.specs.declared.want.QueryWant.TheVariants as queries
use Rattle.pc_lang_grammar.specs.declared.want.QuantileWant.TheVariants as quantiles
use Rattle.pc_lang_grammar.specs.declared.want.Want.{Want}
use Rattle.pc_lang_grammar.specs.declared.want.Want.TheVariants as wants
use Rattle.pc_lang_tokens.specs.declared.token.Token.{Token}
use Rattle.pc_lang_grammar.specs.declared.want.Kind.TheVariants as kinds
use Rattle.pc_lang_grammar.specs.Wants.{after_part, may_end, next, next_in_clause, next_in_line, next_in_quantile, next_in_query}
use Rattle.pc_lang_grammar.proofs.Wanting.{joined, may_end_at, nothing, through, want_from}

module _ (clause : Clause) where
  abbrev at_joint : Option Want
  at_joint = Some (wants.Clause clause within.Joint)

  abbrev at_truth : Option Want
  at_truth = Some (wants.Clause clause within.Truth)

  abbrev at_part : Option Want
  at_part = Some (wants.Clause clause within.Part)

  names_lead : (names : List (List ℕ)) → want_from (Some (wants.Clause clause within.Next)) (further_names names ++ (tokens.Symbol symbols.CloseSet ∷ [])) ≡ at_joint
  unfolding want_from next next_in_clause next_in_line next_in_query next_in_quantile may_end
  names_lead [] = refl
  names_lead (name ∷ rest) = names_lead rest

  claim_leads : (claim : Claim) → want_from (Some (wants.Clause clause within.Claim)) (claim_tokens claim) ≡ at_joint
  unfolding want_from next next_in_clause next_in_line next_in_query next_in_quantile may_end claim_tokens
  claim_leads (claims.Number number) = refl
  claim_leads (claims.Name name) = refl
  claim_leads (claims.AtLeast number) = refl
  claim_leads (claims.AtMost number) = refl
  claim_leads (claims.Above number) = refl
  claim_leads (claims.Below number) = refl
  claim_leads (claims.Within low high) = refl
  claim_leads (claims.Among first others) = names_lead others

  atom_leads : (atom : Atom) → want_from (Some (wants.Clause clause within.Column)) (atom_tokens atom) ≡ at_joint
  unfolding want_from next next_in_clause next_in_line next_in_query next_in_quantile may_end atom_tokens
  atom_leads atom = claim_leads atom.claim

  first_atom_leads : (atom : Atom) → want_from at_part (atom_tokens atom) ≡ at_joint
  unfolding want_from next next_in_clause next_in_line next_in_query next_in_quantile may_end atom_tokens
  first_atom_leads atom = claim_leads atom.claim

  atoms_lead : (atoms : List Atom) → want_from at_joint (further_atoms atoms) ≡ at_joint
  unfolding want_from next next_in_clause next_in_line next_in_query next_in_quantile may_end
  atoms_lead [] = refl
  atoms_lead (atom ∷ rest) = through (Some (wants.Clause clause within.Column)) at_joint (atom_tokens atom) (further_atoms rest) (atom_leads atom) ∙ atoms_lead rest

  -- the end of a part
  abbrev IsClosed : Option Want → Type 0
  IsClosed want = (want ≡ at_joint) ⊎ (want ≡ at_truth)

  atoms_close : (atoms : List Atom) → IsClosed (want_from at_part (joined_atoms atoms))
  unfolding want_from next next_in_clause next_in_line next_in_query next_in_quantile may_end
  atoms_close [] = inr refl
  atoms_close (first ∷ others) = inl (through at_part at_joint (atom_tokens first) (further_atoms others) (first_atom_leads first) ∙ atoms_lead others)

  part_closes : (part : Part) → IsClosed (want_from at_part (part_tokens part))
  unfolding part_tokens
  part_closes part = atoms_close part.atoms

  module _ (goes_on : after_part clause (kinds.Reserved words.Or) ≡ at_part) where
    or_leads : (want : Option Want) (list : List Token) → IsClosed want → want_from want (tokens.Reserved words.Or ∷ list) ≡ want_from at_part list
    unfolding want_from next next_in_clause next_in_line next_in_query next_in_quantile may_end
    or_leads want list (inl joint) = rw joint (ap (λ found. want_from found list) goes_on)
    or_leads want list (inr truth) = rw truth (ap (λ found. want_from found list) goes_on)

    parts_close : (want : Option Want) (parts : List Part) → IsClosed want → IsClosed (want_from want (further_parts parts))
    parts_close want [] closed = rw (nothing want) closed
    parts_close want (part ∷ rest) closed =
        rw (or_leads want (part_tokens part ++ further_parts rest) closed, joined at_part (part_tokens part) (further_parts rest))
        (parts_close (want_from at_part (part_tokens part)) rest (part_closes part))

    ways_close : (ways : Ways) → IsClosed (want_from at_part (ways_tokens ways))
    unfolding ways_tokens
    ways_close ways =
        rw (joined at_part (part_tokens ways.first) (further_parts ways.others))
        (parts_close (want_from at_part (part_tokens ways.first)) ways.others (part_closes ways.first))

-- ---- a line

arrow_leads : (want : Option Want) (list : List Token) → IsClosed clauses.Predicate want → want_from want (tokens.Symbol symbols.Arrow ∷ list) ≡ want_from (at_part clauses.Values) list
unfolding want_from next next_in_clause next_in_line next_in_query next_in_quantile may_end
arrow_leads want list (inl joint) = rw joint refl
arrow_leads want list (inr truth) = rw truth refl

head_leads : (head : Head) (list : List Token) → want_from (Some (wants.Line lines.Head)) (head_tokens head ++ (tokens.Symbol symbols.Arrow ∷ list)) ≡ want_from (at_part clauses.Values) list
unfolding want_from next next_in_clause next_in_line next_in_query next_in_quantile may_end head_tokens
head_leads (heads.Named name when) list =
    joined (at_part clauses.Predicate) (ways_tokens when) (tokens.Symbol symbols.Arrow ∷ list)
    ∙ arrow_leads (want_from (at_part clauses.Predicate) (ways_tokens when)) list (ways_close clauses.Predicate refl when)
head_leads heads.Outside list = refl

frequency_ends : (want : Option Want) (least most : List ℕ) → IsClosed clauses.Values want → want_from want (frequency_tokens least most) ≡ Some wants.End
unfolding want_from next next_in_clause next_in_line next_in_query next_in_quantile may_end
frequency_ends want least most (inl joint) = rw joint refl
frequency_ends want least most (inr truth) = rw truth refl

pub line_ends : (line : Line) → may_end_at (want_from (Some (wants.Line lines.Head)) (line_tokens line)) ≡ true
unfolding line_tokens may_end
line_ends line =
    rw (
      joined (Some (wants.Line lines.Head)) (head_tokens line.head ++ (tokens.Symbol symbols.Arrow ∷ part_tokens line.values)) (frequency_tokens line.least line.most),
      head_leads line.head (part_tokens line.values),
      frequency_ends (want_from (at_part clauses.Values) (part_tokens line.values)) line.least line.most (part_closes clauses.Values line.values),
    ) refl

-- ---- a query

abbrev IsTail : Option Want → Type 0
IsTail want = (want ≡ Some (wants.Query queries.Counted)) ⊎ (want ≡ Some (wants.Query queries.Tail))

measure_leads : (measure : Measure) → IsTail (want_from (Some (wants.Query queries.Measure)) (measure_tokens measure))
unfolding want_from next next_in_clause next_in_line next_in_query next_in_quantile may_end measure_tokens
measure_leads measures.Count = inl refl
measure_leads measures.CountOfAll = inr refl
measure_leads (measures.Sum column) = inr refl
measure_leads (measures.Min column) = inr refl
measure_leads (measures.Max column) = inr refl
measure_leads (measures.Avg column) = inr refl

abbrev IsOpen : Option Want → Type 0
IsOpen want = IsTail want ⊎ IsClosed clauses.Chosen want

where_leads : (want : Option Want) (ways : Ways) → IsTail want → want_from want (tokens.Reserved words.Where ∷ ways_tokens ways) ≡ want_from (at_part clauses.Chosen) (ways_tokens ways)
unfolding want_from next next_in_clause next_in_line next_in_query next_in_quantile may_end
where_leads want ways (inl counted) = rw counted refl
where_leads want ways (inr tail) = rw tail refl

where_opens : (want : Option Want) (chosen : Option Ways) → IsTail want → IsOpen (want_from want (where_tokens chosen))
where_opens want None tail = rw (nothing want) (inl tail)
where_opens want (Some ways) tail = rw (where_leads want ways tail) (inr (ways_close clauses.Chosen refl ways))

group_ends : (want : Option Want) (group : Option (List ℕ)) → IsOpen want → may_end_at (want_from want (group_tokens group)) ≡ true
unfolding want_from next next_in_clause next_in_line next_in_query next_in_quantile may_end
group_ends want None (inl (inl counted)) = rw counted refl
group_ends want None (inl (inr tail)) = rw tail refl
group_ends want None (inr (inl joint)) = rw joint refl
group_ends want None (inr (inr truth)) = rw truth refl
group_ends want (Some column) (inl (inl counted)) = rw counted refl
group_ends want (Some column) (inl (inr tail)) = rw tail refl
group_ends want (Some column) (inr (inl joint)) = rw joint refl
group_ends want (Some column) (inr (inr truth)) = rw truth refl

pub question_ends : (question : Question) → may_end_at (want_from (Some (wants.Query queries.Measure)) (question_tokens question)) ≡ true
unfolding question_tokens
question_ends question =
    let start : Option Want = Some (wants.Query queries.Measure) in
    rw (
      joined start (measure_tokens question.measure ++ where_tokens question.chosen) (group_tokens question.group),
      joined start (measure_tokens question.measure) (where_tokens question.chosen),
    ) (group_ends _ question.group (where_opens (want_from start (measure_tokens question.measure)) question.chosen (measure_leads question.measure)))

-- ---- a query of a quantile

closed_ends : (want : Option Want) → IsClosed clauses.Measured want → may_end_at want ≡ true
unfolding may_end
closed_ends want (inl joint) = rw joint refl
closed_ends want (inr truth) = rw truth refl

tail_ends : (chosen : Option Ways) → may_end_at (want_from (Some (wants.Quantile quantiles.Tail)) (where_tokens chosen)) ≡ true
unfolding want_from next next_in_quantile may_end
tail_ends None = refl
tail_ends (Some ways) = closed_ends (want_from (at_part clauses.Measured) (ways_tokens ways)) (ways_close clauses.Measured refl ways)

pub quantile_ends : (question : QuantileQuestion) → may_end_at (want_from (Some (wants.Quantile quantiles.Word)) (quantile_tokens question)) ≡ true
unfolding want_from next next_in_clause next_in_line next_in_query next_in_quantile may_end quantile_tokens
quantile_ends question = tail_ends question.chosen

-- ---- either of them

as_measure : (measure : Measure) (chosen group : List Token) → want_from (Some wants.Asked) ((measure_tokens measure ++ chosen) ++ group) ≡ want_from (Some (wants.Query queries.Measure)) ((measure_tokens measure ++ chosen) ++ group)
unfolding want_from next next_in_query measure_tokens
as_measure measures.Count chosen group = refl
as_measure measures.CountOfAll chosen group = refl
as_measure (measures.Sum column) chosen group = refl
as_measure (measures.Min column) chosen group = refl
as_measure (measures.Max column) chosen group = refl
as_measure (measures.Avg column) chosen group = refl

as_question : (question : Question) → may_end_at (want_from (Some wants.Asked) (question_tokens question)) ≡ true
unfolding question_tokens
as_question question = ap may_end_at (as_measure question.measure (where_tokens question.chosen) (group_tokens question.group)) ∙ question_ends question

as_quantile : (question : QuantileQuestion) → may_end_at (want_from (Some wants.Asked) (quantile_tokens question)) ≡ true
unfolding want_from next next_in_quantile quantile_tokens
as_quantile question = tail_ends question.chosen

pub asked_ends : (asked : AskedQuery) → may_end_at (want_from (Some wants.Asked) (asked_tokens asked)) ≡ true
asked_ends (plain question) = as_question question
asked_ends (share question) = as_quantile question

pub rule_ends : (rule : Rule) → may_end_at (want_from (Some (wants.Line lines.Rule)) (rule_tokens rule)) ≡ true
unfolding want_from next next_in_line may_end
rule_ends (named name) = refl
rule_ends outside = refl
