-- What licenses an end that stays outer where it stands.
use Rattle.std.proofs.Common.{◌≡◌, ℕ, zero, suc, ◌<◌, ℤ, neg_ℤ, ◌<ℤ◌, ◌≤ℤ◌, Bool, true, false, cond, inl, inr, ◌⊎◌, List, [], ◌∷◌, length, filter, get_or, Any, Some, refl, sym, ap, subst, ◌∙◌, arith}
use Rattle.std.specs.Prelude.{IfSome, IsSomeAnd, is_some}
use Rattle.std.proofs.lemmas.Int.{ints}
use Rattle.pc_model.specs.declared.schema.Schema.{Schema}
use Rattle.pc_model.specs.declared.constraint.Constraint.{Constraint}
use Rattle.pc_model.specs.declared.query.Query.{Query}
use Rattle.pc_model.specs.declared.query.Folded.{Folded}
use Rattle.pc_model.specs.declared.tree.CutNode.{CutNode}
use Rattle.pc_model.specs.Aggregate.{whole, IsSame}
use Rattle.pc_model.specs.Cells.{Class}
use Rattle.pc_program_bound.specs.declared.program.Program.{Program}
use Rattle.pc_proof.specs.declared.answer.Proof.{Proof}
use Rattle.pc_proof.specs.declared.answer.Answer.{Answer}
use Rattle.pc_proof.specs.Setting.{Setting, cells, low_in, high_in, seen_least, seen_greatest}
use Rattle.pc_branch_licences.specs.Licensed.{IsLowOf, IsHighOf, IsSpent, MayHave, MayAvoid, BothTotals}
use Rattle.pc_agg_search.specs.declared.extreme.Extreme.{Extreme}
use Rattle.pc_agg_search.specs.declared.extreme.Extreme.TheVariants.{Low, High}
use Rattle.pc_agg.specs.declared.ladder.Test.TheVariants.{Avoid}
use Rattle.pc_agg_search.specs.Asked.{Asking, setting_for}
use Rattle.pc_agg_search.specs.Ends.{signed}
use Rattle.pc_agg.specs.Extremes.{agg_of, seen_number, test_at, key_at}
use Rattle.pc_agg_search.specs.Wants.{want_for}
use Rattle.pc_agg_search.specs.Keys.{key_of}
use Rattle.pc_agg.specs.Rungs.{IsKey}
use Rattle.pc_agg_search.specs.Wants.{wanted_of, Reaches}
use Rattle.pc_agg.proofs.Ending.{LicensedEnd}
use Rattle.pc_agg.proofs.SeenNumbers.{number_of_key, least_is, greatest_is, observed_some, observed_none}
use Rattle.pc_agg.proofs.StandMarks.{reach_avoid, within_key, over_key, under_key, past_key}
use Rattle.pc_agg.proofs.StandPrograms.{left_program}
use Rattle.pc_agg.proofs.StandShown.{at_number}

-- ---- keys of chosen cells

module _ {X : Type 0} (passes : X → Bool) (Q : X → Type 0) where
  kept_first : (x : X) (xs : List X) → passes x ≡ true → Q x → Any Q (filter passes (x ∷ xs))
  kept_first x xs test holds = subst (λ b. Any Q (cond b (x ∷ filter passes xs) (filter passes xs))) (sym test) (0, x, omega arith, refl, holds)

  kept_later : (x : X) (xs : List X) → Any Q (filter passes xs) → Any Q (filter passes (x ∷ xs))
  kept_later x xs later = by_test (passes x)
    where
      by_test : (test : Bool) → Any Q (cond test (x ∷ filter passes xs) (filter passes xs))
      by_test true = (suc later.0, later.1, omega (arith, later.2), later.3, later.4)
      by_test false = later

  kept_at : (P : X → Type 0) → ((x : X) → P x → Q x) → (xs : List X) (place : ℕ) (x : X) → place < length xs → get_or xs place x ≡ x → passes x ≡ true → P x → Any Q (filter passes xs)
  kept_at P so [] place x inside is test holds = absurd (omega (arith, inside))
  kept_at P so (y ∷ xs) zero x inside is test holds = kept_first y xs (ap passes is ∙ test) (subst Q (sym is) (so x holds))
  kept_at P so (y ∷ xs) (suc place) x inside is test holds = kept_later y xs (kept_at P so xs place x (omega (arith, inside)) is test holds)

chosen_one : (P Q : Class → Type 0) (classes : List Class) → ((class : Class) → P class → Q class) → Any (λ (class : Class). (class.chosen ≡ true) × P class) classes → Any Q (filter (λ (class : Class). class.chosen) classes)
chosen_one P Q classes so is = kept_at (λ (class : Class). class.chosen) Q P so classes is.0 is.1 is.2 is.3 is.4.0 is.4.1

key_low : (s : Setting) (key : ℤ) → IsKey s Low key → IsLowOf s (neg_ℤ key)
key_low s key is = chosen_one (λ class. key_of s Low class ≡ key) (λ class. low_in s class ≡ neg_ℤ key) (cells s) (λ class same. omega (arith, ints, same)) is

key_high : (s : Setting) (key : ℤ) → IsKey s High key → IsHighOf s key
key_high s key is = chosen_one (λ class. key_of s High class ≡ key) (λ class. high_in s class ≡ key) (cells s) (λ class same. same) is

module _ (schema : Schema) (constraints : List Constraint) (query : Query) (seen : Folded) (nodes : List CutNode) (asking : Asking schema constraints query seen)
    (IsNumbered : ℕ → Type 0) (numbered : IsSomeAnd query.column IsNumbered) (budget : ℕ) (answer : Answer) where
  abbrev s : Setting
  s = setting_for schema constraints query seen nodes asking

  least : seen_least s.question ≡ seen.least
  least = least_is schema constraints query seen nodes asking IsNumbered numbered

  greatest : seen_greatest s.question ≡ seen.greatest
  greatest = greatest_is schema constraints query seen nodes asking IsNumbered numbered

  -- a far end beyond what was observed
  pub beyond_licensed : (far : Extreme) (key : ℤ) (proof : Proof) → IsKey s far key → IfSome (key_at far (seen_number seen far)) (λ m. m <ℤ key) → MayHave s budget answer (left_program s far far (signed far key)) →
      LicensedEnd far s budget answer (agg_of far) (whole (signed far key)) proof
  beyond_licensed Low key proof of_cell beyond may =
      inl (record {
        number = neg_ℤ key;
        same = refl;
        of_cell = key_low s key of_cell;
        below = subst (λ o. IfSome o (λ m. neg_ℤ key <ℤ m)) (sym least) (under_key seen.least key beyond);
        may = may;
      })
  beyond_licensed High key proof of_cell beyond may =
      inl (record { number = key; same = refl; of_cell = key_high s key of_cell; above = subst (λ o. IfSome o (λ m. m <ℤ key)) (sym greatest) (past_key seen.greatest key beyond); may = may })

  -- a far end that is an observed number
  pub observed_licensed : (far : Extreme) (key : ℤ) (proof : Proof) → key_at far (seen_number seen far) ≡ Some key → BothTotals s budget answer → LicensedEnd far s budget answer (agg_of far) (whole (signed far key)) proof
  observed_licensed Low key proof is both = inr (at_number (seen_least s.question) (neg_ℤ key) (λ m. IsSame (whole (neg_ℤ key)) (whole m)) (least ∙ number_of_key Low seen.least key is) refl, both)
  observed_licensed High key proof is both = inr (at_number (seen_greatest s.question) key (λ m. IsSame (whole key) (whole m)) (greatest ∙ number_of_key High seen.greatest key is) refl, both)

  -- a near end
  may_avoid : (far : Extreme) (observed : Bool) (p : Program) → is_some (seen_number seen far) ≡ observed → (e : ℤ) × IsSpent s budget answer p e (wanted_of (want_for observed)) × Reaches (want_for observed) e → MayAvoid s budget answer p
  may_avoid far true p is spent = inr (observed_some schema constraints query seen nodes asking IsNumbered numbered far is, spent.0, spent.1)
  may_avoid far false p is spent = inl (observed_none schema constraints query seen nodes asking IsNumbered numbered far is, spent)

  of_high : (key : ℤ) → IsKey s High key ⊎ (key_at High seen.least ≡ Some key) → IsHighOf s key ⊎ (seen_least s.question ≡ Some key)
  of_high key (inl is) = inl (key_high s key is)
  of_high key (inr is) = inr (least ∙ number_of_key High seen.least key is)

  of_low : (key : ℤ) → IsKey s Low key ⊎ (key_at Low seen.greatest ≡ Some key) → IsLowOf s (neg_ℤ key) ⊎ (seen_greatest s.question ≡ Some (neg_ℤ key))
  of_low key (inl is) = inl (key_low s key is)
  of_low key (inr is) = inr (greatest ∙ number_of_key Low seen.greatest key is)

  pub near_licensed : (far extreme : Extreme) (key : ℤ) (proof : Proof) → test_at far extreme ≡ Avoid → IsKey s extreme key ⊎ (key_at extreme (seen_number seen far) ≡ Some key) →
      IfSome (key_at extreme (seen_number seen far)) (λ m. key ≤ℤ m) →
      (e : ℤ) × IsSpent s budget answer (left_program s far extreme (signed extreme key)) e (wanted_of (want_for (is_some (seen_number seen far)))) × Reaches (want_for (is_some (seen_number seen far))) e →
      LicensedEnd extreme s budget answer (agg_of far) (whole (signed extreme key)) proof
  near_licensed Low High key proof near of_cell beside spent = record {
    number = key;
    same = refl;
    of_cell = of_high key of_cell;
    within = subst (λ o. IfSome o (λ m. key ≤ℤ m)) (sym least) (within_key seen.least key beside);
    may = may_avoid Low (is_some seen.least) (left_program s Low High key) refl spent;
  }
  near_licensed High Low key proof near of_cell beside spent = record {
    number = neg_ℤ key;
    same = refl;
    of_cell = of_low key of_cell;
    within = subst (λ o. IfSome o (λ m. m ≤ℤ neg_ℤ key)) (sym greatest) (over_key seen.greatest key beside);
    may = may_avoid High (is_some seen.greatest) (left_program s High Low (neg_ℤ key)) refl spent;
  }
  near_licensed Low Low key proof near of_cell beside spent = absurd (reach_avoid near)
  near_licensed High High key proof near of_cell beside spent = absurd (reach_avoid near)
