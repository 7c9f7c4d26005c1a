-- What a search for wanted counts shows.
use Rattle.std.proofs.Common.{◌≡◌, ℕ, ◌⊎◌, inl, inr, Bool, true, false, true≢false, cond, List, [], ◌∷◌, ◌++◌, All, Option, Some, None, refl, sym, subst, arith}
use Rattle.std.specs.Prelude.{ℤ, ◌≤ℤ◌, Any, IfSome, MatchOption, ⊤}
use Rattle.std.proofs.lemmas.Int.{ints}
use Rattle.std.proofs.lemmas.List.Elements.{All-nil, All-cons}
use Rattle.std.proofs.lemmas.List.Quantifiers.{Any-push}
use Rattle.pc_model.specs.declared.tree.Tree.{Tree}
use Rattle.pc_program_bound.specs.declared.program.Program.{Program}
use Rattle.pc_program_bound.specs.Allocation.{IsProgram, IsAllocation, worth}
use Rattle.pc_branch.specs.declared.outcome.Outcome.TheVariants.{Best, Spent}
use Rattle.pc_branch.specs.Ends.{HasSmallGains}
use Rattle.pc_branch.specs.Outcome.{IsOutcome}
use Rattle.pc_branch_licences.specs.Wanted.{IsShort}
use Rattle.pc_branch_licences.proofs.Trees.{licence-open}
use Rattle.pc_agg_search.specs.declared.want.Want.{Want}
use Rattle.pc_agg_search.specs.declared.want.Want.TheVariants as wants
use Rattle.pc_agg_search.specs.declared.limit.Limit.{Limit}
use Rattle.pc_agg_search.specs.declared.probes.ProbeVerdict.TheVariants as verdicts
use Rattle.pc_agg_search.specs.declared.probes.Probed.{Probed}
use Rattle.pc_agg_search.specs.Limits.{found_of}
use Rattle.pc_agg_search.specs.Limits.{IsLimit, IsReached, IsCutShort}
use Rattle.pc_agg_search.specs.Probing.{is_under, within}
use Rattle.pc_agg_search.specs.Wants.{wanted_of, Reaches, IsUnder, IsFound, IsDoubt, FallsShort, IsVerdict, IsProbed, IsSure}
use Rattle.pc_agg_search.proofs.Limits.{limit_of_best, limit_of_spent}

-- ---- worths that are wanted, and those that are not

under_is : (want : Want) (n : ℤ) → is_under want n ≡ true → IsUnder want n
under_is wants.Any n e = absurd (true≢false (sym e))
under_is wants.Gaining n e = omega (arith, ints, e)
under_is wants.Without n e = omega (arith, ints, e)
under_is (wants.From least) n e = omega (arith, ints, e)

reaches_is : (want : Want) (n : ℤ) → is_under want n ≡ false → Reaches want n
reaches_is wants.Any n e = tt
reaches_is wants.Gaining n e = omega (arith, ints, e)
reaches_is wants.Without n e = omega (arith, ints, e)
reaches_is (wants.From least) n e = omega (arith, ints, e)

under_less : (want : Want) (k n : ℤ) → k ≤ℤ n → IsUnder want n → IsUnder want k
under_less wants.Any k n less under = under
under_less wants.Gaining k n less under = omega (arith, ints, less, under)
under_less wants.Without k n less under = omega (arith, ints, less, under)
under_less (wants.From least) k n less under = omega (arith, ints, less, under)

under_within : (want : Want) (most : ℤ) (bound : Option ℤ) → MatchOption bound ⊤ (λ k. k ≤ℤ most) → IsUnder want most → MatchOption bound ⊤ (IsUnder want)
under_within want most None inside under = tt
under_within want most (Some k) inside under = under_less want k most inside under

-- ---- counts that were found

module _ (p : Program) where
  none_short : (want : Want) → IsShort p (wanted_of want) None
  none_short wants.Any = refl
  none_short wants.Gaining = tt
  none_short wants.Without = tt
  none_short (wants.From least) = tt

  under_short : (want : Want) (counts : List ℕ) → IsUnder want (worth p counts) → IsShort p (wanted_of want) (Some counts)
  under_short wants.Any counts under = absurd under
  under_short wants.Gaining counts under = under
  under_short wants.Without counts under = omega (arith, ints, under)
  under_short (wants.From least) counts under = under

  all_found : (found : Option (List ℕ)) → IfSome found (IsAllocation p p.floor p.cap) → All (IsAllocation p p.floor p.cap) (found_of found)
  all_found None allowed = All-nil (IsAllocation p p.floor p.cap)
  all_found (Some counts) allowed = All-cons (IsAllocation p p.floor p.cap) counts [] allowed (All-nil (IsAllocation p p.floor p.cap))

  found_last : (want : Want) (most : ℤ) (before : List (List ℕ)) (found : Option (List ℕ)) → IfSome found (IsAllocation p p.floor p.cap) → IsReached p most found → Reaches want most →
      Any (IsFound p want) (before ++ found_of found)
  found_last want most before None allowed reached reaches = absurd reached
  found_last want most before (Some counts) allowed reached reaches = Any-push (IsFound p want) before counts (allowed, subst (Reaches want) (sym reached) reaches)

  found_or_short : (want : Want) (before : List (List ℕ)) (found : Option (List ℕ)) → IfSome found (IsAllocation p p.floor p.cap) →
      Any (IsFound p want) (before ++ found_of found) ⊎ IsShort p (wanted_of want) found
  found_or_short want before None allowed = inr (none_short want)
  found_or_short want before (Some counts) allowed = by_test (is_under want (worth p counts)) refl
    where
      by_test : (test : Bool) → is_under want (worth p counts) ≡ test → Any (IsFound p want) (before ++ counts ∷ []) ⊎ IsShort p (wanted_of want) (Some counts)
      by_test true e = inr (under_short want counts (under_is want (worth p counts) e))
      by_test false e = inl (Any-push (IsFound p want) before counts (allowed, reaches_is want (worth p counts) e))

-- ---- a limit

module _ (p : Program) (budget : ℕ) (want : Want) (before : List (List ℕ)) (limit : Limit) (is : IsLimit p budget limit) where
  abbrev all : List (List ℕ)
  all = before ++ found_of limit.found

  falls_short : IsUnder want limit.most → FallsShort p want budget limit.tree
  falls_short under = record { preorder = is.preorder; proves = is.proves; under = under_within want limit.most _ is.within under; search = is.search; fits = is.fits }

  in_doubt : IsProgram p → Reaches want limit.most → IsDoubt p want budget all
  in_doubt program reaches = by_why is.why
    where
      by_why : IsReached p limit.most limit.found ⊎ IsCutShort p budget limit.most limit.found limit.tree → IsDoubt p want budget all
      by_why (inl reached) = inl (found_last p want limit.most before limit.found is.allowed reached reaches)
      by_why (inr cut) = elim (found_or_short p want before limit.found is.allowed) [
        | inl some ↦ inl some
        | inr short ↦ inr (limit.most, licence-open p budget limit.most limit.found (wanted_of want) _ program cut.licence cut.whole short, reaches)
      ]

  verdict_is : IsProgram p → IsVerdict p want budget all (cond (is_under want limit.most) (verdicts.Short limit.tree) verdicts.Open)
  verdict_is program = by_test (is_under want limit.most) refl
    where
      by_test : (test : Bool) → is_under want limit.most ≡ test → IsVerdict p want budget all (cond test (verdicts.Short limit.tree) verdicts.Open)
      by_test true e = falls_short (under_is want limit.most e)
      by_test false e = in_doubt program (reaches_is want limit.most e)

  limit_probed : IsProgram p → IsProbed p want budget before (within want limit.most limit.tree before limit.found)
  limit_probed program = record { more = found_of limit.found; grown = refl; allowed = all_found p limit.found is.allowed; verdict = verdict_is program }

  limit_sure : IsReached p limit.most limit.found → IsSure p want (within want limit.most limit.tree before limit.found)
  limit_sure reached = by_test (is_under want limit.most) refl
    where
      by_test : (test : Bool) → is_under want limit.most ≡ test → IsSure p want (record { verdict = cond test (verdicts.Short limit.tree) verdicts.Open; found = all })
      by_test true e = tt
      by_test false e = found_last p want limit.most before limit.found is.allowed reached (reaches_is want limit.most e)

-- ---- what the code makes of an outcome

module _ (p : Program) (budget : ℕ) (want : Want) (before : List (List ℕ)) (program : IsProgram p) (small : HasSmallGains p) where
  pub probed_best : (counts : List ℕ) (value : ℤ) (tree : Tree) (probed : Probed) → IsOutcome p budget (Best counts value tree) → probed ≡ within want value tree before (Some counts) → IsProbed p want budget before probed
  probed_best counts value tree probed is e = subst (IsProbed p want budget before) (sym e) (limit_probed p budget want before _ (limit_of_best p budget program small counts value tree is) program)

  pub probed_spent : (e : ℤ) (found : Option (List ℕ)) (tree : Tree) (probed : Probed) → IsOutcome p budget (Spent e found tree) → probed ≡ within want e tree before found → IsProbed p want budget before probed
  probed_spent e found tree probed is same = subst (IsProbed p want budget before) (sym same) (limit_probed p budget want before _ (limit_of_spent p budget program small e found tree is) program)

  pub sure_best : (counts : List ℕ) (value : ℤ) (tree : Tree) (probed : Probed) → IsOutcome p budget (Best counts value tree) → probed ≡ within want value tree before (Some counts) → IsSure p want probed
  sure_best counts value tree probed is e = subst (IsSure p want) (sym e) (limit_sure p budget want before _ (limit_of_best p budget program small counts value tree is) is.1.is)
