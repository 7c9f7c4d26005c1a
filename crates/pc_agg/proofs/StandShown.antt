-- What shows the end of a stand holds of the question that is asked.
use Rattle.std.proofs.Common.{◌≡◌, ℕ, ℤ, pos, neg_ℤ, ◌≤ℤ◌, Bool, true, false, List, Option, Some, None, refl, sym, subst, ◌∙◌, arith}
use Rattle.std.specs.Prelude.{IfSome, IsSomeAnd, is_some}
use Rattle.std.proofs.lemmas.Int.{ints}
use Rattle.pc_model.specs.declared.schema.Schema.{Schema}
use Rattle.pc_model.specs.declared.constraint.Constraint.{Constraint}
use Rattle.pc_model.specs.declared.query.Query.{Query}
use Rattle.pc_model.specs.declared.query.Folded.{Folded}
use Rattle.pc_model.specs.declared.tree.CutNode.{CutNode}
use Rattle.pc_model.specs.declared.tree.Tree.{Tree}
use Rattle.pc_model.specs.Aggregate.{whole, IsAtMost}
use Rattle.pc_program_bound.specs.declared.program.Program.{Program}
use Rattle.pc_proof.specs.declared.answer.Proof.{Proof}
use Rattle.pc_proof.specs.declared.answer.Proof.TheVariants as proofs
use Rattle.pc_proof.specs.Setting.{Setting, seen_count, seen_least, seen_greatest}
use Rattle.pc_proof.specs.Table.{HasRatio, ShowsForced}
use Rattle.pc_agg_search.specs.declared.extreme.Extreme.{Extreme}
use Rattle.pc_agg_search.specs.declared.extreme.Extreme.TheVariants.{Low, High}
use Rattle.pc_agg.specs.declared.ladder.Test.{Test}
use Rattle.pc_agg.specs.declared.ladder.Test.TheVariants.{Reach, Avoid}
use Rattle.pc_agg_search.specs.Asked.{Asking, setting_for}
use Rattle.pc_agg_search.specs.Ends.{signed}
use Rattle.pc_agg.specs.Extremes.{agg_of, seen_number, test_at, key_at}
use Rattle.pc_agg_search.specs.Wants.{want_for}
use Rattle.pc_agg.specs.Stands.{shown_by, want_at, IsProved, IsBeside}
use Rattle.pc_agg_search.specs.Wants.{FallsShort}
use Rattle.pc_agg.proofs.Ending.{program_at, ShowsEnd, SearchedEnd}
use Rattle.pc_agg.proofs.SeenNumbers.{number_of_key, key_some, least_is, greatest_is, observed_none}
use Rattle.pc_agg_search.proofs.Shorts.{shows_no_gain, shows_forced_any, shows_forced_gaining}
use Rattle.pc_agg.proofs.StandPrograms.{shown_is}

-- ---- a key beside what was observed

low_under : (number : Option ℤ) (key : ℤ) → IfSome (key_at Low number) (λ m. m ≤ℤ key) → IfSome number (λ m. IsAtMost (whole (neg_ℤ key)) (whole m))
low_under None key beside = tt
low_under (Some m) key beside = omega (arith, ints, beside)

high_over : (number : Option ℤ) (key : ℤ) → IfSome (key_at High number) (λ m. m ≤ℤ key) → IfSome number (λ m. IsAtMost (whole m) (whole key))
high_over None key beside = tt
high_over (Some m) key beside = omega (arith, ints, beside)

pub at_number : (number : Option ℤ) (n : ℤ) (P : ℤ → Type 0) → number ≡ Some n → P n → IsSomeAnd number P
at_number number n P is holds = subst (λ o. IsSomeAnd o P) (sym is) holds

-- ---- a program of which lists with a value have to hold counts

forced : (s : Setting) (p : Program) (budget : ℕ) (tree : Tree) (observed : Bool) → (observed ≡ false → seen_count s.question ≡ pos 0) → FallsShort p (want_for observed) budget tree → ShowsForced s p tree
forced s p budget tree true none short = shows_forced_any s p budget tree short
forced s p budget tree false none short = shows_forced_gaining s p budget tree (none refl) short

pub has_ratio : (s : Setting) (budget : ℕ) (extreme : Extreme) (test : Test) (seen : Option ℤ) (key : ℤ) (proof : Proof) → IsProved s budget extreme test seen key proof → HasRatio proof
has_ratio s budget extreme test seen key (proofs.Tree tree) proved = tt
has_ratio s budget extreme test seen key proofs.Rows proved = tt
has_ratio s budget extreme test seen key (proofs.At r t) proved = absurd proved
has_ratio s budget extreme test seen key proofs.Values proved = tt

module _ (schema : Schema) (constraints : List Constraint) (query : Query) (seen : Folded) (nodes : List CutNode) (asking : Asking schema constraints query seen)
    (IsNumbered : ℕ → Type 0) (numbered : IsSomeAnd query.column IsNumbered) (budget : ℕ) where
  abbrev s : Setting
  s = setting_for schema constraints query seen nodes asking

  least : seen_least s.question ≡ seen.least
  least = least_is schema constraints query seen nodes asking IsNumbered numbered

  greatest : seen_greatest s.question ≡ seen.greatest
  greatest = greatest_is schema constraints query seen nodes asking IsNumbered numbered

  module _ (far extreme : Extreme) (key : ℤ) where
    unobserved : is_some (key_at extreme (seen_number seen far)) ≡ false → seen_count s.question ≡ pos 0
    unobserved none = observed_none schema constraints query seen nodes asking IsNumbered numbered far (sym (key_some extreme (seen_number seen far)) ∙ none)

    at_program : (budget' : ℕ) (tree : Tree) → FallsShort (shown_by s extreme (test_at far extreme) key) (want_at (test_at far extreme) (is_some (key_at extreme (seen_number seen far)))) budget' tree →
        FallsShort (program_at extreme s (agg_of far) (whole (signed extreme key))) (want_at (test_at far extreme) (is_some (key_at extreme (seen_number seen far)))) budget' tree
    at_program budget' tree short = subst (λ p. FallsShort p (want_at (test_at far extreme) (is_some (key_at extreme (seen_number seen far)))) budget' tree) (shown_is s far extreme key) short

  -- the end that is shown holds
  pub shows_end : (far extreme : Extreme) (key : ℤ) (proof : Proof) → IsProved s budget extreme (test_at far extreme) (key_at extreme (seen_number seen far)) key proof →
      IsBeside (test_at far extreme) (key_at extreme (seen_number seen far)) key → ShowsEnd extreme s (agg_of far) (whole (signed extreme key)) proof
  shows_end Low Low key (proofs.Tree tree) proved beside = (
    shows_no_gain (program_at Low s (agg_of Low) (whole (neg_ℤ key))) budget tree (at_program Low Low key budget tree proved),
    subst (λ o. IfSome o (λ m. IsAtMost (whole (neg_ℤ key)) (whole m))) (sym least) (low_under seen.least key beside),
  )
  shows_end High High key (proofs.Tree tree) proved beside = (
    shows_no_gain (program_at High s (agg_of High) (whole key)) budget tree (at_program High High key budget tree proved),
    subst (λ o. IfSome o (λ m. IsAtMost (whole m) (whole key))) (sym greatest) (high_over seen.greatest key beside),
  )
  shows_end Low High key (proofs.Tree tree) proved beside =
      forced s (program_at High s (agg_of Low) (whole key)) budget tree (is_some (key_at High seen.least)) (unobserved Low High key) (at_program Low High key budget tree proved)
  shows_end High Low key (proofs.Tree tree) proved beside =
      forced s (program_at Low s (agg_of High) (whole (neg_ℤ key))) budget tree (is_some (key_at Low seen.greatest)) (unobserved High Low key) (at_program High Low key budget tree proved)
  shows_end Low High key proofs.Rows proved beside = at_number (seen_least s.question) key (λ m. IsAtMost (whole m) (whole key)) (least ∙ number_of_key High seen.least key proved) (omega (arith, ints))
  shows_end High Low key proofs.Rows proved beside =
      at_number (seen_greatest s.question) (neg_ℤ key) (λ g. IsAtMost (whole (neg_ℤ key)) (whole g)) (greatest ∙ number_of_key Low seen.greatest key proved) (omega (arith, ints))
  shows_end Low Low key proofs.Rows proved beside = absurd proved
  shows_end High High key proofs.Rows proved beside = absurd proved
  shows_end far extreme key (proofs.At r t) proved beside = absurd (no_ratio (test_at far extreme) proved)
    where
      no_ratio : (test : Test) → IsProved s budget extreme test (key_at extreme (seen_number seen far)) key (proofs.At r t) → ⊥
      no_ratio Reach proved = proved
      no_ratio Avoid proved = proved
  shows_end far extreme key proofs.Values proved beside = absurd (no_values (test_at far extreme) proved)
    where
      no_values : (test : Test) → IsProved s budget extreme test (key_at extreme (seen_number seen far)) key proofs.Values → ⊥
      no_values Reach proved = proved
      no_values Avoid proved = proved

  -- and its tree is one of a search
  pub searched_end : (far extreme : Extreme) (key : ℤ) (proof : Proof) → IsProved s budget extreme (test_at far extreme) (key_at extreme (seen_number seen far)) key proof →
      SearchedEnd extreme s budget (agg_of far) (whole (signed extreme key)) proof
  searched_end far Low key (proofs.Tree tree) proved = let short = at_program far Low key budget tree proved in record { preorder = short.preorder; search = short.search }
  searched_end far High key (proofs.Tree tree) proved = let short = at_program far High key budget tree proved in record { preorder = short.preorder; search = short.search }
  searched_end far Low key proofs.Rows proved = tt
  searched_end far High key proofs.Rows proved = tt
  searched_end far Low key (proofs.At r t) proved = absurd proved
  searched_end far High key (proofs.At r t) proved = absurd proved
  searched_end far Low key proofs.Values proved = tt
  searched_end far High key proofs.Values proved = tt
