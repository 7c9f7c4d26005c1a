-- The stand on the rung to which a ladder was halved.
use Rattle.std.proofs.Common.{◌≡◌, ℕ, zero, suc, ◌-◌, ◌<◌, ◌≤◌, ◌^◌, ◌==◌, ℤ, pos, nat_abs, ◌<ℤ◌, ◌≤ℤ◌, Bool, true, false, ◌&&◌, inl, inr, ◌⊎◌, List, [], ◌∷◌, length, map, get_or, All, Any, Option, Some, None, refl, sym, ap, subst, ◌∙◌, true≢false, arith, eqb-true}
use Rattle.std.specs.Prelude.{IfSome, is_some}
use Rattle.std.specs.List.{AllZip}
use Rattle.std.proofs.lemmas.Int.{ints}
use Rattle.std.proofs.lemmas.List.{length-map, get_or-map}
use Rattle.std.proofs.lemmas.Bool.{cond-true, eq-eqb}
use Rattle.std.proofs.lemmas.List.Elements.{All-head}
use Rattle.std.proofs.lemmas.Option.{none-some}
use Rattle.pc_model.specs.declared.schema.Schema.{Schema}
use Rattle.pc_model.specs.declared.row.Row.{Row}
use Rattle.pc_model.specs.declared.tree.Tree.{Tree}
use Rattle.pc_model.specs.Accepted.{AreConstraints}
use Rattle.pc_model.specs.declared.constraint.Constraint.{Constraint}
use Rattle.pc_model.specs.declared.query.Query.{Query}
use Rattle.pc_model.specs.declared.tree.CutNode.{CutNode}
use Rattle.pc_model.specs.WellFormed.{IsWellFormed}
use Rattle.pc_model.specs.Cells.{IsSettledTree}
use Rattle.pc_program_bound.specs.declared.program.Program.{Program}
use Rattle.pc_program_bound.specs.Sums.{int_at}
use Rattle.pc_proof.specs.Setting.{Setting, cells, on_chosen, program_for}
use Rattle.pc_proof.specs.Table.{one}
use Rattle.pc_branch_licences.specs.Pools.{AreLawful}
use Rattle.pc_agg.specs.declared.climb.Standing.{Standing}
use Rattle.pc_agg_search.specs.declared.extreme.Extreme.{Extreme}
use Rattle.pc_agg.specs.declared.ladder.Ladder.{Ladder}
use Rattle.pc_agg.specs.declared.ladder.Test.{Test}
use Rattle.pc_agg.specs.declared.ladder.Test.TheVariants.{Reach, Avoid}
use Rattle.pc_agg.specs.declared.stand.Stand.{Stand}
use Rattle.pc_agg_search.specs.declared.want.Want.{Want}
use Rattle.pc_agg_search.specs.declared.want.Want.TheVariants as wants
use Rattle.pc_agg_search.specs.Wants.{want_for, most_chosen}
use Rattle.pc_agg_search.specs.Keys.{key_of}
use Rattle.pc_agg.specs.Rungs.{reaches, avoids, rung_program, program_at, AllUpTo, AllFrom, IsKey, IsRung, IsReachRung, IsAvoidRung, IsTop, IsBottom, AreRungs, IsLadder, IsStep, IsStanding}
use Rattle.pc_agg.specs.Stands.{passing, falling_short, shown_by, want_at, proof_of, is_observed, AttainsBy, IsProved, IsBeside, IsBeyond, IsObservedKey, IsNear, IsWanted, IsStand, IsStoodAt, IsStoodOn}
use Rattle.pc_agg_search.specs.Keys.{IsAtEnd}
use Rattle.pc_agg_search.specs.Flat.{flat_tree}
use Rattle.pc_agg_search.specs.Settings.{unseen}
use Rattle.pc_agg_search.specs.Wants.{FallsShort, IsDoubt, IsFound}
use Rattle.pc_agg.proofs.Flat.{flat_reach, flat_avoid}
use Rattle.pc_agg.proofs.Lacks.{any_grown, doubt_grown}
use Rattle.pc_agg.proofs.StandMarks.{reach_avoid}
use Rattle.pc_agg.proofs.Neighbours.{reach_neighbours, avoid_neighbours, reach_all, avoid_all}

-- ---- places

by_less : (n m : ℕ) → n ≤ m → (n ≡ m) ⊎ (n < m)
by_less zero zero h = inl refl
by_less zero (suc m) h = inr (omega arith)
by_less (suc n) zero h = absurd (omega (arith, h))
by_less (suc n) (suc m) h = by_case (by_less n m (omega (arith, h)))
  where
    by_case : (n ≡ m) ⊎ (n < m) → (suc n ≡ suc m) ⊎ (suc n < suc m)
    by_case (inl same) = inl (ap suc same)
    by_case (inr less) = inr (omega (arith, less))

not_last : {n m : ℕ} → (m - n == 1) ≡ false → (suc n ≡ m) ⊎ (suc n < m) → suc n < m
not_last {n} {m} test (inl same) = absurd (true≢false (sym (eq-eqb (m - n) 1 (omega (arith, same))) ∙ test))
not_last test (inr less) = less

-- ---- keys are small

module _ (u : Setting) (extreme : Extreme) (keys : List ℤ) (are : keys ≡ map (on_chosen (key_of u extreme)) (cells u)) (small : All (λ key. nat_abs key ≤ 2 ^ 63) keys) where
  key_small : (key : ℤ) → IsKey u extreme key → nat_abs key ≤ 2 ^ 63
  key_small key is =
      let here = small is.0 (pos 0) (omega (arith, is.2, ap length are, length-map (cells u) (on_chosen (key_of u extreme)))) in
      let class_at = get_or-map (on_chosen (key_of u extreme)) (cells u) is.0 is.1 (pos 0) is.2 in
      let key_at = ap (λ list. get_or list is.0 (pos 0)) are ∙ class_at ∙ ap (on_chosen (key_of u extreme)) is.3 ∙ cond-true is.1.chosen (key_of u extreme is.1) (pos 0) is.4.0 ∙ is.4.1 in
      subst (λ k. nat_abs k ≤ 2 ^ 63) key_at here

  seen_small : (seen : Option ℤ) (key : ℤ) → IfSome seen (λ m. nat_abs m ≤ 2 ^ 63) → seen ≡ Some key → nat_abs key ≤ 2 ^ 63
  seen_small seen key all is = (rw is at all)

  pub rung_small : (test : Test) (seen : Option ℤ) (rungs : List ℤ) (place : ℕ) → IfSome seen (λ m. nat_abs m ≤ 2 ^ 63) → IsRung u extreme test seen rungs place → nat_abs (int_at rungs place) ≤ 2 ^ 63
  rung_small Reach seen rungs place all (inl is) = key_small (int_at rungs place) is.0
  rung_small Reach seen rungs place all (inr is) = seen_small seen (int_at rungs place) all is.1
  rung_small Avoid seen rungs place all is = by_kind is.0
    where
      by_kind : IsKey u extreme (int_at rungs place) ⊎ (seen ≡ Some (int_at rungs place)) → nat_abs (int_at rungs place) ≤ 2 ^ 63
      by_kind (inl own) = key_small (int_at rungs place) own
      by_kind (inr own) = seen_small seen (int_at rungs place) all own

-- ---- a rung beside what was observed

beside_key : (seen : Option ℤ) (key : ℤ) → IfSome seen (λ m. m <ℤ key) → IfSome seen (λ m. m ≤ℤ key)
beside_key None key beyond = tt
beside_key (Some m) key beyond = omega (arith, ints, beyond)

beside_seen : (seen : Option ℤ) (key : ℤ) → seen ≡ Some key → IfSome seen (λ m. m ≤ℤ key)
beside_seen seen key is = subst (λ o. IfSome o (λ m. m ≤ℤ key)) (sym is) (omega (arith, ints))

pub rung_beside : (u : Setting) (extreme : Extreme) (test : Test) (seen : Option ℤ) (rungs : List ℤ) (place : ℕ) → IsRung u extreme test seen rungs place → IsBeside test seen (int_at rungs place)
rung_beside u extreme Reach seen rungs place (inl is) = beside_key seen (int_at rungs place) is.1
rung_beside u extreme Reach seen rungs place (inr is) = beside_seen seen (int_at rungs place) is.1
rung_beside u extreme Avoid seen rungs place is = is.1

module _ (schema : Schema) (constraints : List Constraint) (query : Query) (nodes : List CutNode) (formed : IsWellFormed schema) (limited : AreConstraints schema constraints)
    (tree : IsSettledTree schema constraints query.chosen nodes) (budget : ℕ) (some_nodes : 1 ≤ budget) (seen : Option ℤ) (ladder : Ladder)
    (rungs : AreRungs (unseen schema constraints query nodes) ladder.extreme ladder.test seen ladder.rungs) where
  abbrev u : Setting
  u = unseen schema constraints query nodes

  abbrev observed : Bool
  observed = is_some seen

  abbrev key_at : ℕ → ℤ
  key_at place = int_at ladder.rungs place

  -- ---- what shows a rung

  -- the rung before is ruled out by the tree of this one
  next_program : (place : ℕ) → suc place < length ladder.rungs → program_at u ladder place ≡ shown_by u ladder.extreme ladder.test (key_at (suc place))
  next_program place inside = by_test ladder.test
    where
      by_test : (test : Test) → rung_program u ladder.extreme test (key_at place) ≡ shown_by u ladder.extreme test (key_at (suc place))
      by_test Reach = reach_neighbours u ladder.extreme (key_at (suc place)) (key_at place) (rungs.apart place inside) (rungs.falling place inside)
      by_test Avoid = avoid_neighbours u ladder.extreme (key_at (suc place)) (key_at place) (rungs.apart place inside) (rungs.falling place inside)

  first_reach : (key : ℤ) → AllUpTo u ladder.extreme key → FallsShort (passing u ladder.extreme key) wants.Gaining budget (flat_tree (length constraints))
  first_reach key top = flat_reach schema constraints query nodes formed limited tree budget some_nodes ladder.extreme key top

  first_avoid : (key : ℤ) → AllUpTo u ladder.extreme key → FallsShort (falling_short u ladder.extreme key) wants.Gaining budget (flat_tree (length constraints))
  first_avoid key top = flat_avoid schema constraints query nodes formed limited tree budget some_nodes ladder.extreme key top

  proved_first : (test : Test) (o : Option ℤ) (key : ℤ) → IsTop u ladder.extreme test o key → IsProved u budget ladder.extreme test o key (proof_of (length constraints) test (is_some o) None)
  proved_first Reach o key top = first_reach key top
  proved_first Avoid None key top = first_avoid key top
  proved_first Avoid (Some m) key top = ap Some (sym top)

  proved_at : (place : ℕ) (tree : Option Tree) → place < length ladder.rungs → IsStep u budget ladder (want_at ladder.test observed) place tree →
      IsProved u budget ladder.extreme ladder.test seen (key_at place) (proof_of (length constraints) ladder.test observed tree)
  proved_at place None inside step =
      subst (λ n. IsProved u budget ladder.extreme ladder.test seen (key_at n) (proof_of (length constraints) ladder.test observed None)) (sym step)
      (proved_first ladder.test seen (key_at 0) (rungs.top (omega (arith, inside))))
  proved_at place (Some tree) inside step =
      let next = subst (λ n. n < length ladder.rungs) step.1 inside in
      subst (λ n. FallsShort (shown_by u ladder.extreme ladder.test (key_at n)) (want_at ladder.test observed) budget tree) (sym step.1)
      (subst (λ p. FallsShort p (want_at ladder.test observed) budget tree) (next_program step.0 next) step.2)

  -- ---- counts that attain it

  module _ (before : List (List ℕ)) (doubt : IsDoubt (most_chosen u) (want_for observed) budget before) (standing : Standing) (stands : IsStanding u budget ladder (want_at ladder.test observed) before standing) where
    abbrev place : ℕ
    place = standing.place

    abbrev key : ℤ
    key = key_at place

    -- the rung is the last one, or it is in doubt
    last_or : (suc place ≡ length ladder.rungs) ⊎ (suc place < length ladder.rungs)
    last_or = by_less (suc place) (length ladder.rungs) stands.inside

    grown_doubt : IsDoubt (most_chosen u) (want_for observed) budget standing.found
    grown_doubt = subst (IsDoubt (most_chosen u) (want_for observed) budget) (sym stands.grown) (doubt_grown (most_chosen u) (want_for observed) budget before stands.more doubt)

    -- what holds of the programs of all other rungs, and of that of all chosen rows, holds of this one
    at_rung : (Q : Program → Want → Type 0) (test : Test) (o : Option ℤ) → IsBottom u ladder.extreme test o (key_at (length ladder.rungs - 1)) → (test ≡ Avoid) ⊎ (is_some o ≡ false) →
        (suc place < length ladder.rungs → Q (rung_program u ladder.extreme test key) (want_at test (is_some o))) → Q (most_chosen u) (want_for (is_some o)) → Q (rung_program u ladder.extreme test key) (want_at test (is_some o))
    at_rung Q test o bottom near inner chosen = by_case last_or
      where
        at_last : suc place ≡ length ladder.rungs → length ladder.rungs - 1 ≡ place
        at_last last = omega (arith, last)

        on_last : (test : Test) (o : Option ℤ) → IsBottom u ladder.extreme test o (key_at (length ladder.rungs - 1)) → (test ≡ Avoid) ⊎ (is_some o ≡ false) → length ladder.rungs - 1 ≡ place →
            Q (most_chosen u) (want_for (is_some o)) → Q (rung_program u ladder.extreme test key) (want_at test (is_some o))
        on_last Reach None bottom near last chosen = subst (λ p. Q p wants.Gaining) (sym (reach_all u ladder.extreme key (subst (λ n. AllFrom u ladder.extreme (key_at n)) last bottom))) chosen
        on_last Reach (Some m) bottom (inl avoid) last chosen = absurd (reach_avoid avoid)
        on_last Reach (Some m) bottom (inr none) last chosen = absurd (true≢false none)
        on_last Avoid o bottom near last chosen = subst (λ p. Q p (want_for (is_some o))) (sym (avoid_all u ladder.extreme key (subst (λ n. AllFrom u ladder.extreme (key_at n)) last bottom))) chosen

        by_case : (suc place ≡ length ladder.rungs) ⊎ (suc place < length ladder.rungs) → Q (rung_program u ladder.extreme test key) (want_at test (is_some o))
        by_case (inl last) = on_last test o bottom near (at_last last) chosen
        by_case (inr inside) = inner inside

    abbrev InDoubt : Program → Want → Type 0
    InDoubt p want = IsDoubt p want budget standing.found

    abbrev pub WasFound : Program → Want → Type 0
    WasFound p want = Any (IsFound p want) standing.found

    module _ (stand : Stand) (key_is : stand.key ≡ key) where
      -- a far end
      wanted_far : (o : Option ℤ) (last : Bool) → (length ladder.rungs - place == 1) ≡ last → IsReachRung u ladder.extreme o ladder.rungs place → IsBottom u ladder.extreme Reach o (key_at (length ladder.rungs - 1)) →
          AttainsBy u ladder.extreme Reach (is_some o) key stand.program stand.want (is_some o && last) →
          (suc place < length ladder.rungs → IsDoubt (reaches u ladder.extreme key) wants.Gaining budget standing.found) → IsDoubt (most_chosen u) (want_for (is_some o)) budget standing.found →
          IsBeyond u budget ladder.extreme o standing.found stand ⊎ IsObservedKey u o stand
      wanted_far (Some m) true last rung bottom attains inner chosen =
          let end = eqb-true (length ladder.rungs - place) 1 last in
          let same : length ladder.rungs - 1 ≡ place = omega (arith, end) in
          inr (record { observed = ap Some (sym (key_is ∙ subst (λ n. key_at n ≡ m) same bottom)); program_is = attains.0; want_is = attains.1 })
      wanted_far (Some m) false last (inl rung) bottom attains inner chosen =
          inl (record {
            of_cell = subst (IsKey u ladder.extreme) (sym key_is) rung.0;
            beyond = subst (λ k. m <ℤ k) (sym key_is) rung.1;
            program_is = attains.0 ∙ ap (reaches u ladder.extreme) (sym key_is);
            want_is = attains.1;
            doubt = subst (λ k. IsDoubt (reaches u ladder.extreme k) wants.Gaining budget standing.found) (sym key_is) (inner (not_last last last_or));
          })
      wanted_far (Some m) false last (inr rung) bottom attains inner chosen = absurd (true≢false (sym (eq-eqb (length ladder.rungs - place) 1 (omega (arith, rung.0))) ∙ last))
      wanted_far None last is (inr rung) bottom attains inner chosen = absurd (none-some key rung.1)
      wanted_far None last is (inl rung) bottom attains inner chosen =
          inl (record {
            of_cell = subst (IsKey u ladder.extreme) (sym key_is) rung.0;
            beyond = tt;
            program_is = attains.0 ∙ ap (reaches u ladder.extreme) (sym key_is);
            want_is = attains.1;
            doubt = subst (λ k. IsDoubt (reaches u ladder.extreme k) wants.Gaining budget standing.found) (sym key_is) (at_rung InDoubt Reach None bottom (inr refl) inner chosen);
          })

      -- a near end
      wanted_near : (o : Option ℤ) → IsAvoidRung u ladder.extreme o ladder.rungs place → IsBottom u ladder.extreme Avoid o (key_at (length ladder.rungs - 1)) → AttainsBy u ladder.extreme Avoid (is_some o) key stand.program stand.want false →
          (suc place < length ladder.rungs → IsDoubt (avoids u ladder.extreme key) (want_for (is_some o)) budget standing.found) → IsDoubt (most_chosen u) (want_for (is_some o)) budget standing.found →
          IsNear u budget ladder.extreme o standing.found stand
      wanted_near o rung bottom attains inner chosen = record {
        of_cell = subst (λ k. IsKey u ladder.extreme k ⊎ (o ≡ Some k)) (sym key_is) rung.0;
        program_is = attains.0 ∙ ap (avoids u ladder.extreme) (sym key_is);
        want_is = attains.1;
        doubt = subst (λ k. IsDoubt (avoids u ladder.extreme k) (want_for (is_some o)) budget standing.found) (sym key_is) (at_rung InDoubt Avoid o bottom (inl refl) inner chosen);
      }

      wanted_by : (test : Test) → IsRung u ladder.extreme test seen ladder.rungs place → IsBottom u ladder.extreme test seen (key_at (length ladder.rungs - 1)) →
          AttainsBy u ladder.extreme test observed key stand.program stand.want (is_observed test observed (length ladder.rungs - place == 1)) →
          (suc place < length ladder.rungs → IsDoubt (rung_program u ladder.extreme test key) (want_at test observed) budget standing.found) → IsWanted u budget ladder.extreme test seen standing.found stand
      wanted_by Reach rung bottom attains inner = wanted_far seen (length ladder.rungs - place == 1) refl rung bottom attains inner grown_doubt
      wanted_by Avoid rung bottom attains inner = wanted_near seen rung bottom attains inner grown_doubt

      -- ---- where no search was cut short

      surely_far : (o : Option ℤ) (last : Bool) → (length ladder.rungs - place == 1) ≡ last → IsBottom u ladder.extreme Reach o (key_at (length ladder.rungs - 1)) →
          AttainsBy u ladder.extreme Reach (is_some o) key stand.program stand.want (is_some o && last) → (suc place < length ladder.rungs → WasFound (reaches u ladder.extreme key) wants.Gaining) →
          WasFound (most_chosen u) (want_for (is_some o)) → WasFound (program_for u one) wants.Any → WasFound stand.program stand.want
      surely_far (Some m) true last bottom attains inner chosen any = subst (WasFound stand.program) (sym attains.1) (subst (λ p. WasFound p wants.Any) (sym attains.0) any)
      surely_far (Some m) false last bottom attains inner chosen any =
          subst (WasFound stand.program) (sym attains.1) (subst (λ p. WasFound p wants.Gaining) (sym attains.0) (inner (not_last last last_or)))
      surely_far None last is bottom attains inner chosen any =
          subst (WasFound stand.program) (sym attains.1) (subst (λ p. WasFound p wants.Gaining) (sym attains.0) (at_rung WasFound Reach None bottom (inr refl) inner chosen))

      surely_by : (test : Test) → IsBottom u ladder.extreme test seen (key_at (length ladder.rungs - 1)) → AttainsBy u ladder.extreme test observed key stand.program stand.want (is_observed test observed (length ladder.rungs - place == 1)) →
          (suc place < length ladder.rungs → WasFound (rung_program u ladder.extreme test key) (want_at test observed)) → WasFound (most_chosen u) (want_for observed) → WasFound (program_for u one) wants.Any → WasFound stand.program stand.want
      surely_by Reach bottom attains inner chosen any = surely_far seen (length ladder.rungs - place == 1) refl bottom attains inner chosen any
      surely_by Avoid bottom attains inner chosen any =
          subst (WasFound stand.program) (sym attains.1) (subst (λ p. WasFound p (want_for observed)) (sym attains.0) (at_rung WasFound Avoid seen bottom (inl refl) inner chosen))

    -- ---- the stand

    module _ (seen_few : IfSome seen (λ m. nat_abs m ≤ 2 ^ 63)) (keyed : ladder.keys ≡ map (on_chosen (key_of u ladder.extreme)) (cells u)) (small : All (λ k. nat_abs k ≤ 2 ^ 63) ladder.keys)
        (picks : List Row) (picked : AllZip (IsAtEnd u ladder.extreme) (cells u) picks) (stand : Stand) (found : List (List ℕ)) (on : IsStoodOn u (length constraints) ladder observed standing picks stand found) where
      rung : IsRung u ladder.extreme ladder.test seen ladder.rungs place
      rung = rungs.each place stands.inside

      stands_here : IsStand u budget ladder.extreme ladder.test seen standing.found stand
      stands_here = record {
        proved =
            subst (λ proof. IsProved u budget ladder.extreme ladder.test seen stand.key proof) (sym on.proof_is)
            (subst (λ k. IsProved u budget ladder.extreme ladder.test seen k (proof_of (length constraints) ladder.test observed standing.tree)) (sym on.key_is) (proved_at place standing.tree stands.inside stands.step));
        beside = subst (IsBeside ladder.test seen) (sym on.key_is) (rung_beside u ladder.extreme ladder.test seen ladder.rungs place rung);
        wanted = wanted_by stand on.key_is ladder.test rung (rungs.bottom (omega (arith, stands.inside))) on.attaining.by stands.doubt;
        program = on.attaining.program;
        small = on.attaining.small;
        few = subst (λ k. nat_abs k ≤ 2 ^ 63) (sym on.key_is) (rung_small u ladder.extreme ladder.keys keyed small ladder.test seen ladder.rungs place seen_few rung);
        picked = subst (AllZip (IsAtEnd u ladder.extreme) (cells u)) (sym on.picks_are) picked;
      }

      pub stood : IsStoodAt u budget ladder.extreme ladder.test seen before stand found
      stood = record {
        more = stands.more;
        grown = on.found_is ∙ stands.grown;
        lawful = stands.lawful;
        stand_is = subst (λ list. IsStand u budget ladder.extreme ladder.test seen list stand) (sym on.found_is) stands_here;
      }

      any_list : (list : List (List ℕ)) → 0 < length list → All (AreLawful u) list → Any (IsFound (program_for u one) wants.Any) list
      any_list [] some own = absurd (omega (arith, some))
      any_list (counts ∷ more) some own =
          let first = All-head (AreLawful u) counts more own in
          (0, counts, omega arith, refl, (record { sized = first.sized; within = first.within; met = first.met }, tt))

      pub stood_surely : 0 < length before → All (AreLawful u) before → WasFound (most_chosen u) (want_for observed) → (suc place < length ladder.rungs → WasFound (program_at u ladder place) (want_at ladder.test observed)) →
          Any (IsFound stand.program stand.want) found
      stood_surely some own chosen inner =
          subst (Any (IsFound stand.program stand.want)) (sym on.found_is)
          (surely_by stand on.key_is ladder.test (rungs.bottom (omega (arith, stands.inside))) on.attaining.by inner chosen
          (subst (Any (IsFound (program_for u one) wants.Any)) (sym stands.grown) (any_grown (IsFound (program_for u one) wants.Any) before stands.more (any_list before some own))))

      pub chosen_grown : Any (IsFound (most_chosen u) (want_for observed)) before → WasFound (most_chosen u) (want_for observed)
      chosen_grown some = subst (Any (IsFound (most_chosen u) (want_for observed))) (sym stands.grown) (any_grown (IsFound (most_chosen u) (want_for observed)) before stands.more some)

-- ---- the search of an end

module _ (schema : Schema) (constraints : List Constraint) (query : Query) (nodes : List CutNode) (formed : IsWellFormed schema) (limited : AreConstraints schema constraints)
    (tree : IsSettledTree schema constraints query.chosen nodes) (budget : ℕ) (some_nodes : 1 ≤ budget) (seen : Option ℤ) (ladder : Ladder) (extreme : Extreme) (test : Test)
    (extreme_is : ladder.extreme ≡ extreme) (test_is : ladder.test ≡ test) (rungs : AreRungs (unseen schema constraints query nodes) extreme test seen ladder.rungs)
    (before : List (List ℕ)) (doubt : IsDoubt (most_chosen (unseen schema constraints query nodes)) (want_for (is_some seen)) budget before) (standing : Standing)
    (stands : IsStanding (unseen schema constraints query nodes) budget ladder (want_at ladder.test (is_some seen)) before standing) (seen_few : IfSome seen (λ m. nat_abs m ≤ 2 ^ 63))
    (keyed : IsLadder (unseen schema constraints query nodes) ladder) (gains : List ℤ) (gained : gains ≡ map (on_chosen (key_of (unseen schema constraints query nodes) extreme)) (cells (unseen schema constraints query nodes)))
    (small : All (λ gain. nat_abs gain ≤ 2 ^ 63) gains) (picks : List Row) (picked : AllZip (IsAtEnd (unseen schema constraints query nodes) extreme) (cells (unseen schema constraints query nodes)) picks)
    (stand : Stand) (found : List (List ℕ)) (on : IsStoodOn (unseen schema constraints query nodes) (length constraints) ladder (is_some seen) standing picks stand found) where
  abbrev v : Setting
  v = unseen schema constraints query nodes

  own_rungs : AreRungs v ladder.extreme ladder.test seen ladder.rungs
  own_rungs = subst (λ e. AreRungs v e ladder.test seen ladder.rungs) (sym extreme_is) (subst (λ t. AreRungs v extreme t seen ladder.rungs) (sym test_is) rungs)

  own_small : All (λ k. nat_abs k ≤ 2 ^ 63) ladder.keys
  own_small =
      subst (All (λ k. nat_abs k ≤ 2 ^ 63)) (gained ∙ ap (λ e. map (on_chosen (key_of v e)) (cells v)) (sym extreme_is) ∙ sym keyed) small

  own_picked : AllZip (IsAtEnd v ladder.extreme) (cells v) picks
  own_picked = subst (λ e. AllZip (IsAtEnd v e) (cells v) picks) (sym extreme_is) picked

  pub search_stood : IsStoodAt v budget extreme test seen before stand found
  search_stood =
      subst (λ e. IsStoodAt v budget e test seen before stand found) extreme_is
      (subst (λ t. IsStoodAt v budget ladder.extreme t seen before stand found) test_is
      (stood schema constraints query nodes formed limited tree budget some_nodes seen ladder own_rungs before doubt standing stands seen_few keyed own_small picks own_picked stand found on))

  pub search_surely : 0 < length before → All (AreLawful v) before → Any (IsFound (most_chosen v) (want_for (is_some seen))) before →
      (suc standing.place < length ladder.rungs → Any (IsFound (program_at v ladder standing.place) (want_at ladder.test (is_some seen))) standing.found) → Any (IsFound stand.program stand.want) found
  search_surely some own chosen inner =
      stood_surely schema constraints query nodes formed limited tree budget some_nodes seen ladder own_rungs before doubt standing stands seen_few keyed own_small picks own_picked stand found on some own
      (chosen_grown schema constraints query nodes formed limited tree budget some_nodes seen ladder own_rungs before doubt standing stands seen_few keyed own_small picks own_picked stand found on chosen) inner
