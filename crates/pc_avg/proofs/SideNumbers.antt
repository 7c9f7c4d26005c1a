-- The outermost number of a side is the greatest or the least that a row can have, and there is one where some list may give a value.
use Rattle.std.proofs.Common.{◌≡◌, ℤ, pos, neg_ℤ, ◌*ℤ◌, ◌≤ℤ◌, true, false, List, map, All, Option, Some, None, IfSome, IsSomeAnd, ◌⊎◌, inl, inr, ⊎_elim, refl, sym, ap, subst, ◌∙◌, arith}
use Rattle.std.specs.Prelude.{is_some, option_map}
use Rattle.std.specs.List.{reduce}
use Rattle.std.specs.Int.{int_min, int_max}
use Rattle.std.proofs.lemmas.Int.{ints, clamps}
use Rattle.std.proofs.lemmas.List.{length-map}
use Rattle.std.proofs.lemmas.List.Elements.{All-contains, All-map}
use Rattle.std.proofs.lemmas.Option.{none-some, same_Some}
use Rattle.pc_model.specs.declared.schema.Schema.{Schema}
use Rattle.pc_model.specs.declared.constraint.Constraint.{Constraint}
use Rattle.pc_model.specs.declared.tree.CutNode.{CutNode}
use Rattle.pc_model.specs.declared.query.Agg.TheVariants.{Avg}
use Rattle.pc_model.specs.declared.query.Query.{Query}
use Rattle.pc_model.specs.declared.query.Folded.{Folded}
use Rattle.pc_model.specs.Accepted.{IsNumeric, IsColumnWhere}
use Rattle.pc_model.specs.Aggregate.{asked}
use Rattle.pc_model.specs.Cells.{Class}
use Rattle.pc_simplex_tableau.proofs.Products.{neg-mul}
use Rattle.pc_proof.specs.Setting.{Setting, cells, seen_count, seen_sum, seen_least, seen_greatest, seen_numbers, low_in, high_in}
use Rattle.pc_proof.specs.Setting.{seen as seen_rows}
use Rattle.pc_proof.specs.Table.{greater_of, lesser_of, chosen_cells, greatest_number, least_number}
use Rattle.pc_proof.proofs.Numbers.{least_keeps, greatest_keeps, each_under_greatest, each_over_least, All-kept, All-kept_back, all_from_least, all_from_greatest, sum_under, sum_over}
use Rattle.pc_agg_search.specs.declared.extreme.Extreme.{Extreme}
use Rattle.pc_agg_search.specs.declared.extreme.Extreme.TheVariants.{Low, High}
use Rattle.pc_agg_search.specs.Asked.{Asking, setting_for}
use Rattle.pc_agg_search.specs.Ends.{signed}
use Rattle.pc_agg_search.specs.Keys.{key_of}
use Rattle.pc_agg_search.specs.Settings.{unseen}
use Rattle.pc_agg.specs.Owed.{CanGive}
use Rattle.pc_agg.proofs.SeenNumbers.{least_is, greatest_is, observed_none}
use Rattle.pc_avg.specs.declared.sides.Side.{Side}
use Rattle.pc_avg.specs.Sides.{observed_key, IsChosenKey, IsOutermostKey, IsOutermost, IsSide}
use Rattle.pc_avg.proofs.SidePrograms.{numbered}

-- the greatest, or the least, number that a row can have
abbrev pub outermost_number : Extreme → Setting → Option ℤ
outermost_number High s = greatest_number s
outermost_number Low s = least_number s

-- ---- of two numbers

greatest_of : (a b : Option ℤ) (key : ℤ) → IfSome a (λ m. m ≤ℤ key) → IfSome b (λ m. m ≤ℤ key) → IsSomeAnd b (λ g. key ≤ℤ g) ⊎ (a ≡ Some key) → greater_of a b ≡ Some key
greatest_of None None key under_a under_b (inl from) = absurd from
greatest_of None (Some y) key under_a under_b (inl from) = ap Some (omega (arith, ints, under_b, from))
greatest_of (Some x) None key under_a under_b (inl from) = absurd from
greatest_of (Some x) (Some y) key under_a under_b (inl from) = ap Some (omega (arith, ints, clamps, under_a, under_b, from))
greatest_of None b key under_a under_b (inr is) = absurd (none-some key is)
greatest_of (Some x) None key under_a under_b (inr is) = is
greatest_of (Some x) (Some y) key under_a under_b (inr is) = let same = same_Some x key is in ap Some (omega (arith, ints, clamps, under_a, under_b, same))

least_of : (a b : Option ℤ) (key : ℤ) → IfSome a (λ m. key ≤ℤ m) → IfSome b (λ m. key ≤ℤ m) → IsSomeAnd b (λ m. m ≤ℤ key) ⊎ (a ≡ Some key) → lesser_of a b ≡ Some key
least_of None None key over_a over_b (inl from) = absurd from
least_of None (Some y) key over_a over_b (inl from) = ap Some (omega (arith, ints, over_b, from))
least_of (Some x) None key over_a over_b (inl from) = absurd from
least_of (Some x) (Some y) key over_a over_b (inl from) = ap Some (omega (arith, ints, clamps, over_a, over_b, from))
least_of None b key over_a over_b (inr is) = absurd (none-some key is)
least_of (Some x) None key over_a over_b (inr is) = is
least_of (Some x) (Some y) key over_a over_b (inr is) = let same = same_Some x key is in ap Some (omega (arith, ints, clamps, over_a, over_b, same))

-- ---- turned numbers

turned_over : (number : Option ℤ) (key : ℤ) → IfSome (option_map neg_ℤ number) (λ m. m ≤ℤ key) → IfSome number (λ m. neg_ℤ key ≤ℤ m)
turned_over None key under = tt
turned_over (Some n) key under = omega (arith, ints, under)

pub turned_is : (number : Option ℤ) (key : ℤ) → option_map neg_ℤ number ≡ Some key → number ≡ Some (neg_ℤ key)
turned_is None key is = absurd (none-some key is)
turned_is (Some n) key is = let same = same_Some (neg_ℤ n) key is in ap Some (omega (arith, ints, same))

turned_none : (number : Option ℤ) → option_map neg_ℤ number ≡ None → is_some number ≡ false
turned_none None is = refl
turned_none (Some n) is = absurd (none-some (neg_ℤ n) (sym is))

no_number : (number : Option ℤ) → number ≡ None → is_some number ≡ false
no_number number is = ap is_some is

and_lower : (o : Option ℤ) (a b : ℤ) → a ≡ b → IsSomeAnd o (λ g. a ≤ℤ g) → IsSomeAnd o (λ g. b ≤ℤ g)
and_lower o a b same from = subst (λ n. IsSomeAnd o (λ g. n ≤ℤ g)) same from

module _ (schema : Schema) (constraints : List Constraint) (query : Query) (seen : Folded) (nodes : List CutNode) (asking : Asking schema constraints query seen) (agg_is : query.agg ≡ Avg) where
  abbrev u : Setting
  u = unseen schema constraints query nodes

  abbrev s : Setting
  s = setting_for schema constraints query seen nodes asking

  abbrev lowest : Option ℤ
  lowest = reduce int_min (map (low_in s) (chosen_cells s))

  abbrev highest : Option ℤ
  highest = reduce int_max (map (high_in s) (chosen_cells s))

  pub least_seen : seen_least s.question ≡ seen.least
  least_seen = least_is schema constraints query seen nodes asking (IsColumnWhere IsNumeric schema) (numbered schema constraints query seen nodes asking agg_is)

  pub greatest_seen : seen_greatest s.question ≡ seen.greatest
  greatest_seen = greatest_is schema constraints query seen nodes asking (IsColumnWhere IsNumeric schema) (numbered schema constraints query seen nodes asking agg_is)

  -- ---- of the chosen cells

  high_under : (key : ℤ) → All (λ (class : Class). class.chosen ≡ true → key_of u High class ≤ℤ key) (cells u) → IfSome highest (λ m. m ≤ℤ key)
  high_under key each =
      greatest_keeps (λ m. m ≤ℤ key) (map (high_in s) (chosen_cells s))
      (All-map (λ m. m ≤ℤ key) (high_in s) (chosen_cells s) (All-kept (λ (class : Class). class.chosen) (λ (class : Class). high_in s class ≤ℤ key) (cells s) each))

  high_from : (key : ℤ) → IsChosenKey u High key → IsSomeAnd highest (λ g. key ≤ℤ g)
  high_from key found =
      let all = All-kept_back (λ (class : Class). class.chosen) (high_in s) (λ n. IsSomeAnd highest (λ g. n ≤ℤ g)) (cells s) (each_under_greatest (map (high_in s) (chosen_cells s))) in
      subst (λ n. IsSomeAnd highest (λ g. n ≤ℤ g)) found.4.1
      (All-contains (λ (class : Class). class.chosen ≡ true → IsSomeAnd highest (λ g. high_in s class ≤ℤ g)) (cells s) found.1 all (found.0, found.2, found.3) found.4.0)

  low_over : (key : ℤ) → All (λ (class : Class). class.chosen ≡ true → key_of u Low class ≤ℤ key) (cells u) → IfSome lowest (λ m. neg_ℤ key ≤ℤ m)
  low_over key each =
      least_keeps (λ m. neg_ℤ key ≤ℤ m) (map (low_in s) (chosen_cells s))
      (All-map (λ m. neg_ℤ key ≤ℤ m) (low_in s) (chosen_cells s)
      (All-kept (λ (class : Class). class.chosen) (λ (class : Class). neg_ℤ key ≤ℤ low_in s class) (cells s)
      (λ place d inside chosen. let under = each place d inside chosen in omega (arith, ints, under))))

  low_from : (key : ℤ) → IsChosenKey u Low key → IsSomeAnd lowest (λ m. m ≤ℤ neg_ℤ key)
  low_from key found =
      let all = All-kept_back (λ (class : Class). class.chosen) (low_in s) (λ n. IsSomeAnd lowest (λ m. m ≤ℤ n)) (cells s) (each_over_least (map (low_in s) (chosen_cells s))) in
      let same : low_in s found.1 ≡ neg_ℤ key = back (low_in s found.1) key found.4.1 in
      subst (λ n. IsSomeAnd lowest (λ m. m ≤ℤ n)) same
      (All-contains (λ (class : Class). class.chosen ≡ true → IsSomeAnd lowest (λ m. m ≤ℤ low_in s class)) (cells s) found.1 all (found.0, found.2, found.3) found.4.0)
    where
      back : (n m : ℤ) → neg_ℤ n ≡ m → n ≡ neg_ℤ m
      back n m is = omega (arith, ints, is)

  -- ---- the outermost number

  outermost_is : (extreme : Extreme) (key : ℤ) → IsOutermostKey u extreme (observed_key seen extreme) key → outermost_number extreme s ≡ Some (signed extreme key)
  outermost_is High key is =
      greatest_of (seen_greatest s.question) highest key (subst (λ (o : Option ℤ). IfSome o (λ m. m ≤ℤ key)) (sym greatest_seen) is.seen) (high_under key is.chosen)
      (⊎_elim (λ found. inl (high_from key found)) (λ o. inr (greatest_seen ∙ o)) is.of_cell)
  outermost_is Low key is =
      least_of (seen_least s.question) lowest (neg_ℤ key) (subst (λ (o : Option ℤ). IfSome o (λ m. neg_ℤ key ≤ℤ m)) (sym least_seen) (turned_over seen.least key is.seen)) (low_over key is.chosen)
      (⊎_elim (λ found. inl (low_from key found)) (λ o. inr (least_seen ∙ turned_is seen.least key o)) is.of_cell)

  -- the observed numbers are within it
  sum_within : (extreme : Extreme) (key : ℤ) → IsOutermostKey u extreme (observed_key seen extreme) key → signed extreme (seen_sum s.question) ≤ℤ (key *ℤ seen_count s.question)
  sum_within High key is =
      let known : IfSome (seen_greatest s.question) (λ m. m ≤ℤ key) = subst (λ (o : Option ℤ). IfSome o (λ m. m ≤ℤ key)) (sym greatest_seen) is.seen in
      let each = all_from_greatest (λ m. m ≤ℤ key) (seen_numbers s.question) (λ a b below under. omega (arith, ints, below, under)) known in
      subst (λ n. seen_sum s.question ≤ℤ (key *ℤ pos n)) (length-map (seen_rows s.question) (asked s.question.query)) (sum_under key (seen_numbers s.question) each)
  sum_within Low key is =
      let known : IfSome (seen_least s.question) (λ m. neg_ℤ key ≤ℤ m) = subst (λ (o : Option ℤ). IfSome o (λ m. neg_ℤ key ≤ℤ m)) (sym least_seen) (turned_over seen.least key is.seen) in
      let each = all_from_least (λ m. neg_ℤ key ≤ℤ m) (seen_numbers s.question) (λ a b below over. omega (arith, ints, below, over)) known in
      let over = subst (λ n. (neg_ℤ key *ℤ pos n) ≤ℤ seen_sum s.question) (length-map (seen_rows s.question) (asked s.question.query)) (sum_over (neg_ℤ key) (seen_numbers s.question) each) in
      omega (arith, ints, over, neg-mul key (seen_count s.question))

  none_observed : (extreme : Extreme) → observed_key seen extreme ≡ None → seen_count s.question ≡ pos 0
  none_observed High none =
      observed_none schema constraints query seen nodes asking (IsColumnWhere IsNumeric schema) (numbered schema constraints query seen nodes asking agg_is) High (no_number seen.greatest none)
  none_observed Low none =
      observed_none schema constraints query seen nodes asking (IsColumnWhere IsNumeric schema) (numbered schema constraints query seen nodes asking agg_is) Low (turned_none seen.least none)

  module _ (extreme : Extreme) (side : Side) (is : IsSide u seen extreme side) where
    key_is : (key : ℤ) → side.outermost ≡ Some key → IsOutermostKey u extreme (observed_key seen extreme) key
    key_is key same = subst (IsOutermost u extreme (observed_key seen extreme)) same is.outermost

    pub side_outermost : (key : ℤ) → side.outermost ≡ Some key → outermost_number extreme s ≡ Some (signed extreme key)
    side_outermost key same = outermost_is extreme key (key_is key same)

    pub side_sum_within : (key : ℤ) → side.outermost ≡ Some key → signed extreme (seen_sum s.question) ≤ℤ (key *ℤ seen_count s.question)
    side_sum_within key same = sum_within extreme key (key_is key same)

    -- where some list may give a value there is one
    pub side_some : side.outermost ≡ None → CanGive s → ⊥
    side_some same can =
        let none : IsOutermost u extreme (observed_key seen extreme) None = subst (IsOutermost u extreme (observed_key seen extreme)) same is.outermost in
        by_can can (none_observed extreme none.0) none.1
      where
        by_can : CanGive s → seen_count s.question ≡ pos 0 → All (λ (class : Class). class.chosen ≡ true → ⊥) (cells u) → ⊥
        by_can (inl some) zero each = omega (arith, ints, some, zero)
        by_can (inr found) zero each = All-contains (λ (class : Class). class.chosen ≡ true → ⊥) (cells u) found.1 each (found.0, found.2, found.3) found.4
