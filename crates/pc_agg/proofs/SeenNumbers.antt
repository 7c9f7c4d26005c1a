-- The least and the greatest observed number, and whether rows were observed, as a question has them.
use Rattle.std.proofs.Common.{◌≡◌, ℕ, ℤ, pos, neg_ℤ, ◌<ℤ◌, true, false, List, [], ◌∷◌, length, Option, Some, None, refl, sym, ap, ◌∙◌, true≢false, arith}
use Rattle.std.specs.Prelude.{IfSome, IsSomeAnd, is_some}
use Rattle.std.specs.List.{reduce}
use Rattle.std.specs.Int.{int_min, int_max}
use Rattle.std.proofs.lemmas.Int.{ints}
use Rattle.std.proofs.lemmas.List.{length-map}
use Rattle.std.proofs.lemmas.Option.{none-some, same_Some}
use Rattle.pc_model.specs.declared.schema.Schema.{Schema}
use Rattle.pc_model.specs.declared.constraint.Constraint.{Constraint}
use Rattle.pc_model.specs.declared.query.Query.{Query}
use Rattle.pc_model.specs.declared.query.Folded.{Folded}
use Rattle.pc_model.specs.declared.tree.CutNode.{CutNode}
use Rattle.pc_model.specs.Aggregate.{asked}
use Rattle.pc_proof.specs.Setting.{Setting, seen_count, seen_numbers, seen_least, seen_greatest}
use Rattle.pc_proof.specs.Setting.{seen as seen_rows}
use Rattle.pc_agg_search.specs.declared.extreme.Extreme.{Extreme}
use Rattle.pc_agg_search.specs.declared.extreme.Extreme.TheVariants.{Low, High}
use Rattle.pc_agg_search.specs.Asked.{Asking, setting_for}
use Rattle.pc_agg_search.specs.Ends.{signed}
use Rattle.pc_agg.specs.Extremes.{seen_number, key_at}

-- ---- numbers of a list

reduced_none : (pick : ℤ → ℤ → ℤ) (xs : List ℤ) → is_some (reduce pick xs) ≡ false → xs ≡ []
reduced_none pick [] none = refl
reduced_none pick (x ∷ xs) none = absurd (true≢false none)

reduced_some : (pick : ℤ → ℤ → ℤ) (xs : List ℤ) → is_some (reduce pick xs) ≡ true → pos 0 <ℤ pos (length xs)
reduced_some pick [] some = absurd (true≢false (sym some))
reduced_some pick (x ∷ xs) some = omega (arith, ints)

-- ---- keys

pub number_of_key : (extreme : Extreme) (number : Option ℤ) (key : ℤ) → key_at extreme number ≡ Some key → number ≡ Some (signed extreme key)
number_of_key extreme None key is = absurd (none-some key is)
number_of_key Low (Some n) key is = ap Some (omega (arith, ints, same_Some (neg_ℤ n) key is))
number_of_key High (Some n) key is = is

pub key_some : (extreme : Extreme) (number : Option ℤ) → is_some (key_at extreme number) ≡ is_some number
key_some extreme None = refl
key_some extreme (Some n) = refl

-- ---- of a question that is asked

pub some_here : (column : Option ℕ) (P : ℕ → Type 0) (Q : Type 0) → IsSomeAnd column P → IfSome column (λ _. Q) → Q
some_here None P Q some known = absurd some
some_here (Some named) P Q some known = known

module _ (schema : Schema) (constraints : List Constraint) (query : Query) (seen : Folded) (nodes : List CutNode) (asking : Asking schema constraints query seen) where
  abbrev s : Setting
  s = setting_for schema constraints query seen nodes asking

  module _ (IsNumbered : ℕ → Type 0) (numbered : IsSomeAnd query.column IsNumbered) where
    pub least_is : seen_least s.question ≡ seen.least
    least_is = some_here query.column IsNumbered (seen_least s.question ≡ seen.least) numbered asking.comes_to.least

    pub greatest_is : seen_greatest s.question ≡ seen.greatest
    greatest_is = some_here query.column IsNumbered (seen_greatest s.question ≡ seen.greatest) numbered asking.comes_to.greatest

    numbered_some : (pick : ℤ → ℤ → ℤ) → is_some (reduce pick (seen_numbers s.question)) ≡ true → pos 0 <ℤ seen_count s.question
    numbered_some pick some =
        let more = reduced_some pick (seen_numbers s.question) some in
        omega (arith, ints, more, length-map (seen_rows s.question) (asked s.question.query))

    numbered_none : (pick : ℤ → ℤ → ℤ) → is_some (reduce pick (seen_numbers s.question)) ≡ false → seen_count s.question ≡ pos 0
    numbered_none pick none =
        let no = ap length (reduced_none pick (seen_numbers s.question) none) in
        omega (arith, ints, no, length-map (seen_rows s.question) (asked s.question.query))

    -- a number is known where rows were observed
    pub observed_some : (far : Extreme) → is_some (seen_number seen far) ≡ true → pos 0 <ℤ seen_count s.question
    observed_some Low some = numbered_some int_min (ap is_some least_is ∙ some)
    observed_some High some = numbered_some int_max (ap is_some greatest_is ∙ some)

    pub observed_none : (far : Extreme) → is_some (seen_number seen far) ≡ false → seen_count s.question ≡ pos 0
    observed_none Low none = numbered_none int_min (ap is_some least_is ∙ none)
    observed_none High none = numbered_none int_max (ap is_some greatest_is ∙ none)
