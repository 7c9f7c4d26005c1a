-- Both ends of a least or a greatest number, over what the searches of both found.
use Rattle.std.proofs.Common.{◌≡◌, ℕ, ◌<◌, ℤ, inl, inr, List, ◌++◌, length, All, Any, Option, sym, ap, subst, ◌∙◌, arith}
use Rattle.std.specs.Prelude.{is_some, Bool}
use Rattle.std.proofs.lemmas.List.{append_assoc, length-append}
use Rattle.std.proofs.lemmas.List.Elements.{All-append}
use Rattle.pc_proof.specs.Setting.{Setting}
use Rattle.pc_branch_licences.specs.Pools.{AreLawful}
use Rattle.pc_agg_search.specs.declared.extreme.Extreme.{Extreme}
use Rattle.pc_agg_search.specs.declared.extreme.Extreme.TheVariants.{Low, High}
use Rattle.pc_agg.specs.declared.extremes.Pair.{Pair}
use Rattle.pc_agg.specs.declared.ladder.Test.{Test}
use Rattle.pc_agg.specs.declared.ladder.Test.TheVariants.{Reach, Avoid}
use Rattle.pc_agg.specs.declared.stand.Stand.{Stand}
use Rattle.pc_agg.specs.declared.stand.Stood.{Stood}
use Rattle.pc_agg.specs.declared.stand.Stood.TheVariants as stoods
use Rattle.pc_agg_search.specs.declared.want.Want.TheVariants as wants
use Rattle.pc_agg.specs.Extremes.{test_at, key_at, pair_at, AreStands, IsPair, IsPairSurely}
use Rattle.pc_agg_search.specs.Wants.{want_for, most_chosen}
use Rattle.pc_agg.specs.Rungs.{reaches, avoids}
use Rattle.pc_agg.specs.Stands.{IsWanted, IsStand, IsStood, IsStoodAt, IsStoodSurely}
use Rattle.pc_agg_search.specs.Wants.{IsFound, IsDoubt}
use Rattle.pc_agg.proofs.Lacks.{any_grown, doubt_grown}

-- ---- a stand, as more is found

wanted_grown : (u : Setting) (budget : ℕ) (extreme : Extreme) (test : Test) (seen : Option ℤ) (found more : List (List ℕ)) (stand : Stand) → IsWanted u budget extreme test seen found stand → IsWanted u budget extreme test seen (found ++ more) stand
wanted_grown u budget extreme Reach seen found more stand (inl is) =
    inl (record { of_cell = is.of_cell; beyond = is.beyond; program_is = is.program_is; want_is = is.want_is; doubt = doubt_grown (reaches u extreme stand.key) wants.Gaining budget found more is.doubt })
wanted_grown u budget extreme Reach seen found more stand (inr is) = inr is
wanted_grown u budget extreme Avoid seen found more stand is =
    record { of_cell = is.of_cell; program_is = is.program_is; want_is = is.want_is; doubt = doubt_grown (avoids u extreme stand.key) (want_for (is_some seen)) budget found more is.doubt }

stand_grown : (u : Setting) (budget : ℕ) (extreme : Extreme) (test : Test) (seen : Option ℤ) (found more : List (List ℕ)) (stand : Stand) → IsStand u budget extreme test seen found stand → IsStand u budget extreme test seen (found ++ more) stand
stand_grown u budget extreme test seen found more stand is = record {
  proved = is.proved;
  beside = is.beside;
  wanted = wanted_grown u budget extreme test seen found more stand is.wanted;
  program = is.program;
  small = is.small;
  few = is.few;
  picked = is.picked;
}

-- ---- both ends

module _ (u : Setting) (budget : ℕ) (far : Extreme) (number : Option ℤ) (before : List (List ℕ)) (low : Stand) (first : List (List ℕ))
    (low_at : IsStoodAt u budget Low (test_at far Low) (key_at Low number) before low first) where
  pub lawful_first : All (AreLawful u) before → All (AreLawful u) first
  lawful_first lawful = subst (All (AreLawful u)) (sym low_at.grown) (All-append (AreLawful u) before low_at.more lawful low_at.lawful)

  pub some_first : 0 < length before → 0 < length first
  some_first some = subst (λ l. 0 < length l) (sym low_at.grown) (omega (arith, some, length-append before low_at.more))

  pub doubt_first : (observed : Bool) → IsDoubt (most_chosen u) (want_for observed) budget before → IsDoubt (most_chosen u) (want_for observed) budget first
  doubt_first observed doubt = subst (IsDoubt (most_chosen u) (want_for observed) budget) (sym low_at.grown) (doubt_grown (most_chosen u) (want_for observed) budget before low_at.more doubt)

  pub chosen_first : (observed : Bool) → Any (IsFound (most_chosen u) (want_for observed)) before → Any (IsFound (most_chosen u) (want_for observed)) first
  chosen_first observed some =
      subst (Any (IsFound (most_chosen u) (want_for observed))) (sym low_at.grown) (any_grown (IsFound (most_chosen u) (want_for observed)) before low_at.more some)

  module _ (high : Stand) (found : List (List ℕ)) (high_at : IsStoodAt u budget High (test_at far High) (key_at High number) first high found) where
    pub stands_from : AreStands u budget far number before low high found
    stands_from = record {
      more = low_at.more ++ high_at.more;
      grown = high_at.grown ∙ ap (λ l. l ++ high_at.more) low_at.grown ∙ append_assoc before low_at.more high_at.more;
      lawful = All-append (AreLawful u) low_at.more high_at.more low_at.lawful high_at.lawful;
      low_stands = subst (λ l. IsStand u budget Low (test_at far Low) (key_at Low number) l low) (sym high_at.grown) (stand_grown u budget Low (test_at far Low) (key_at Low number) first high_at.more low low_at.stand_is);
      high_stands = high_at.stand_is;
    }

    pub low_surely : Any (IsFound low.program low.want) first → Any (IsFound low.program low.want) found
    low_surely some = subst (Any (IsFound low.program low.want)) (sym high_at.grown) (any_grown (IsFound low.program low.want) first high_at.more some)

  pub pair_from : (stood : Stood) (pair : Pair) → IsStood u budget High (test_at far High) (key_at High number) first stood → pair ≡ pair_at low stood → IsPair u budget far number before pair
  pair_from (stoods.At on) pair high_at is = subst (IsPair u budget far number before) (sym is) (stands_from on.stand on.found high_at)
  pair_from (stoods.Empty tree) pair void is = subst (IsPair u budget far number before) (sym is) void

  pub pair_surely : (stood : Stood) (pair : Pair) → IsStood u budget High (test_at far High) (key_at High number) first stood → pair ≡ pair_at low stood → Any (IsFound low.program low.want) first → IsStoodSurely stood → IsPairSurely pair
  pair_surely (stoods.At on) pair high_at is some surely = subst IsPairSurely (sym is) (low_surely on.stand on.found high_at some, surely)
  pair_surely (stoods.Empty tree) pair void is some surely = subst IsPairSurely (sym is) tt
