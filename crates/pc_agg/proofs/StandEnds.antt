-- The end that a stand gives breaks no rule, and where it stays outer it is licensed.
use Rattle.std.proofs.Common.{◌≡◌, ℕ, ◌≤◌, ◌^◌, ℤ, pos, ◌≤ℤ◌, inl, inr, ◌⊎◌, List, [], ◌∷◌, get_or, All, Any, Contains, Option, refl, sym, ap, ap₂, subst, ◌∙◌, arith}
use Rattle.std.specs.Prelude.{IfSome, IsSomeAnd, is_some, nat_abs}
use Rattle.std.specs.List.{AllZip}
use Rattle.std.proofs.lemmas.Int.{ints}
use Rattle.std.proofs.lemmas.List.Elements.{All-contains, All-head, All-nil, All-cons}
use Rattle.pc_model.specs.declared.schema.Schema.{Schema}
use Rattle.pc_model.specs.declared.row.Run.{Run}
use Rattle.pc_model.specs.declared.constraint.Constraint.{Constraint}
use Rattle.pc_model.specs.declared.query.Query.{Query}
use Rattle.pc_model.specs.declared.query.Folded.{Folded}
use Rattle.pc_model.specs.declared.tree.CutNode.{CutNode}
use Rattle.pc_model.specs.Accepted.{AreConstraints}
use Rattle.pc_model.specs.Aggregate.{Ratio, whole}
use Rattle.pc_model.specs.WellFormed.{IsWellFormed}
use Rattle.pc_model.specs.Cells.{IsRowOf, IsSettledTree}
use Rattle.pc_model.specs.Right.{IsAttained}
use Rattle.pc_model.specs.Runs.{runs_from}
use Rattle.pc_program_bound.specs.declared.program.Program.{Program}
use Rattle.pc_program_bound.specs.Allocation.{worth}
use Rattle.pc_witness.proofs.Zipped.{AllZip-weaker}
use Rattle.pc_proof.specs.declared.answer.Mark.{Mark}
use Rattle.pc_proof.specs.declared.answer.Mark.TheVariants as marks
use Rattle.pc_proof.specs.declared.answer.Proof.{Proof}
use Rattle.pc_proof.specs.declared.answer.Proof.TheVariants as proofs
use Rattle.pc_proof.specs.declared.answer.End.{End}
use Rattle.pc_proof.specs.declared.answer.Answer.{Answer}
use Rattle.pc_proof.specs.Setting.{Setting, cells, program_for}
use Rattle.pc_proof.specs.Table.{one, HasRatio}
use Rattle.pc_proof.specs.Form.{IsFormedValue}
use Rattle.pc_proof.specs.Unbroken.{HoldsMark, MayShow, IsExact}
use Rattle.pc_branch_licences.specs.Licensed.{IfOuter, IsSpent, BothTotals}
use Rattle.pc_branch_licences.specs.Pools.{AreLawful, ShownFrom, HoldsNone}
use Rattle.pc_branch_licences.specs.Shown.{runs_of_mark, counts_of_runs, IsShown}
use Rattle.pc_branch_licences.specs.Wanted.{Has, LeavesOpen}
use Rattle.pc_branch_licences.proofs.Found.{shown-found}
use Rattle.pc_agg_search.specs.declared.extreme.Extreme.{Extreme}
use Rattle.pc_agg_search.specs.declared.extreme.Extreme.TheVariants.{Low, High}
use Rattle.pc_agg.specs.declared.ladder.Test.{Test}
use Rattle.pc_agg.specs.declared.ladder.Test.TheVariants.{Reach, Avoid}
use Rattle.pc_agg.specs.declared.stand.Stand.{Stand}
use Rattle.pc_agg_search.specs.declared.want.Want.{Want}
use Rattle.pc_agg_search.specs.declared.want.Want.TheVariants as wants
use Rattle.pc_agg_search.specs.Asked.{Asking, setting_for}
use Rattle.pc_agg_search.specs.Ends.{signed, HoldsEnd}
use Rattle.pc_agg_search.specs.Fitting.{IsFitProof, IsFitEnd}
use Rattle.pc_agg.specs.Extremes.{agg_of, seen_number, test_at, key_at}
use Rattle.pc_agg_search.specs.Wants.{want_for}
use Rattle.pc_agg.specs.Grounds.{IsUnlistedIfNone}
use Rattle.pc_agg.specs.Rungs.{reaches, avoids, rung_program}
use Rattle.pc_agg_search.specs.Settings.{unseen}
use Rattle.pc_agg.specs.Settling.{AreRowsOfCells}
use Rattle.pc_agg_search.specs.Keys.{IsAtEnd}
use Rattle.pc_agg.specs.Stands.{IsProved, IsBeside, IsBeyond, IsObservedKey, IsNear, IsWanted, IsStand, IsMarkedBy, IsEndAt}
use Rattle.pc_agg_search.specs.Wants.{wanted_of, Reaches, IsFound, IsDoubt}
use Rattle.pc_agg.proofs.Attained.{counted_runs}
use Rattle.pc_agg.proofs.Ending.{ShowsEnd, LicensedEnd, SearchedEnd, IsDone}
use Rattle.pc_agg.proofs.Owing.{both_totals}
use Rattle.pc_agg.proofs.SeenNumbers.{key_some}
use Rattle.pc_agg.proofs.StandLicences.{beyond_licensed, observed_licensed, near_licensed}
use Rattle.pc_agg.proofs.StandMarks.{reach_avoid, beyond_attained, observed_attained, near_attained, beyond_wanted, near_wanted}
use Rattle.pc_agg.proofs.StandPrograms.{left_program, left_is}
use Rattle.pc_agg.proofs.StandShown.{has_ratio, shows_end, searched_end}

-- ---- doubts that nothing resolves

has_reached : (want : Want) (p : Program) (counts : List ℕ) → Has p (wanted_of want) counts → Reaches want (worth p counts)
has_reached wants.Any p counts has = tt
has_reached wants.Gaining p counts has = has
has_reached wants.Without p counts has = omega (arith, ints, has)
has_reached (wants.From least) p counts has = has

pub none_held : (found : List (List ℕ)) (p : Program) (want : Want) → All (λ counts. IsFound p want counts → ⊥) found → HoldsNone found p (wanted_of want)
none_held found p want none place d inside allowed has = none place d inside (allowed, has_reached want p (get_or found place d) has)

pub left_open : (found : List (List ℕ)) (p : Program) (want : Want) (budget : ℕ) → IsDoubt p want budget found → All (λ counts. IsFound p want counts → ⊥) found → (e : ℤ) × LeavesOpen p budget e (wanted_of want) × Reaches want e
left_open found p want budget (inl some) none = absurd (All-contains (λ counts. IsFound p want counts → ⊥) found some.1 none (some.0, some.2, some.3) some.4)
left_open found p want budget (inr left) none = left

-- ---- marks

may_show_tree : (s : Setting) (budget : ℕ) (extreme : Extreme) (test : Test) (seen : Option ℤ) (key : ℤ) (mark : Mark) (proof : Proof) → IsProved s budget extreme test seen key proof → MayShow mark proof
may_show_tree s budget extreme test seen key (marks.Exact runs) (proofs.Tree tree) proved = tt
may_show_tree s budget extreme test seen key marks.Outer (proofs.Tree tree) proved = tt
may_show_tree s budget extreme test seen key (marks.Exact runs) proofs.Rows proved = tt
may_show_tree s budget extreme test seen key marks.Outer proofs.Rows proved = tt
may_show_tree s budget extreme Reach seen key mark (proofs.At r t) proved = absurd proved
may_show_tree s budget extreme Avoid seen key mark (proofs.At r t) proved = absurd proved
may_show_tree s budget extreme Reach seen key mark proofs.Values proved = absurd proved
may_show_tree s budget extreme Avoid seen key mark proofs.Values proved = absurd proved

-- ---- the value and the tree of an end fit

signed_few : (extreme : Extreme) (key : ℤ) → nat_abs key ≤ 2 ^ 63 → nat_abs (signed extreme key) ≤ 10 ^ 31
signed_few Low key few = omega (arith, ints, few)
signed_few High key few = omega (arith, few)

key_value : (far : Extreme) (number : ℤ) → nat_abs number ≤ 10 ^ 31 → IsFormedValue (agg_of far) (record { num = number; den = pos 1 })
key_value Low number small = record { one = refl; small = small }
key_value High number small = record { one = refl; small = small }

proof_fits : (u : Setting) (budget : ℕ) (extreme : Extreme) (test : Test) (seen : Option ℤ) (key : ℤ) (proof : Proof) → IsProved u budget extreme test seen key proof → IsFitProof proof
proof_fits u budget extreme test seen key proofs.Rows proved = tt
proof_fits u budget extreme test seen key proofs.Values proved = tt
proof_fits u budget extreme test seen key (proofs.Tree tree) proved = record { preorder = proved.preorder; leaves = proved.fits }
proof_fits u budget extreme test seen key (proofs.At r t) proved = absurd proved

module _ (schema : Schema) (constraints : List Constraint) (query : Query) (seen : Folded) (nodes : List CutNode) (formed : IsWellFormed schema) (limited : AreConstraints schema constraints)
    (tree : IsSettledTree schema constraints query.chosen nodes) (budget : ℕ) (asking : Asking schema constraints query seen) (IsNumbered : ℕ → Type 0) (numbered : IsSomeAnd query.column IsNumbered)
    (far : Extreme) (agg_is : query.agg ≡ agg_of far) (found : List (List ℕ)) (lawful : All (AreLawful (unseen schema constraints query nodes)) found)
    (totals : IsUnlistedIfNone (unseen schema constraints query nodes) budget found) where
  abbrev u : Setting
  u = unseen schema constraints query nodes

  abbrev s : Setting
  s = setting_for schema constraints query seen nodes asking

  abbrev number : Option ℤ
  number = seen_number seen far

  -- what holds of an end, wherever it stands
  record IsSide (extreme : Extreme) (stand : Stand) : Type 0 where
    pub attains : (counts : List ℕ) → AreLawful u counts → IsFound stand.program stand.want counts → IsAttained s.question (whole (signed extreme stand.key)) (runs_from stand.picks counts)
    pub licensed : (answer : Answer) → ShownFrom s found answer → All (λ counts. IsFound stand.program stand.want counts → ⊥) found →
        LicensedEnd extreme s budget answer (agg_of far) (whole (signed extreme stand.key)) stand.proof
    pub wanted : (runs : List Run) → Contains found (counts_of_runs s runs) → IsAttained s.question (whole (signed extreme stand.key)) runs → IsFound stand.program stand.want (counts_of_runs s runs)

  -- ---- wanted counts of a stand are those of the licence's program

  abbrev Away : Program → Want → Type 0
  Away p want = All (λ counts. IsFound p want counts → ⊥) found

  spent : (answer : Answer) (p q : Program) (want : Want) → p ≡ q → ShownFrom s found answer → IsDoubt p want budget found → Away p want → (e : ℤ) × IsSpent s budget answer q e (wanted_of want) × Reaches want e
  spent answer p q want same from doubt away =
      let left = left_open found p want budget doubt away in (
        left.0,
        subst (λ r. IsSpent s budget answer r left.0 (wanted_of want)) same (shown-found s budget answer found p left.0 (wanted_of want) left.1 from (none_held found p want away)),
        left.2,
      )

  -- where any list is wanted, none was found
  none_at_all : Away (program_for u one) wants.Any → found ≡ []
  none_at_all away = by_list found lawful away
    where
      by_list : (list : List (List ℕ)) → All (AreLawful u) list → All (λ counts. IsFound (program_for u one) wants.Any counts → ⊥) list → list ≡ []
      by_list [] own away = refl
      by_list (counts ∷ more) own away =
          let first = All-head (AreLawful u) counts more own in
          absurd (All-head (λ c. IsFound (program_for u one) wants.Any c → ⊥) counts more away (record { sized = first.sized; within = first.within; met = first.met }, tt))

  both_spent : (answer : Answer) → ShownFrom s found answer → Away (program_for u one) wants.Any → BothTotals s budget answer
  both_spent answer from away =
      let none = none_at_all away in
      let unlisted = totals none in
      (both_totals schema constraints query seen nodes formed limited tree budget asking found answer
      (record { none = none; most = unlisted.most; fewest = unlisted.fewest; by_most = unlisted.by_most; by_fewest = unlisted.by_fewest; meet = unlisted.meet }) from).0

  lawful_at : (counts : List ℕ) → Contains found counts → AreLawful u counts
  lawful_at counts there = All-contains (AreLawful u) found counts lawful there

  -- ---- a far end

  reach_left : (key : ℤ) → reaches u far key ≡ left_program u far far (signed far key)
  reach_left key = by_side far
    where
      by_side : (side : Extreme) → reaches u side key ≡ left_program u side side (signed side key)
      by_side Low = left_is u Low Low key
      by_side High = left_is u High High key

  module _ (stand : Stand) (shows : ShowsEnd far s (agg_of far) (whole (signed far stand.key)) stand.proof) (ratio : HasRatio stand.proof) (picked : AllZip (IsAtEnd u far) (cells u) stand.picks) where
    beyond_gains : (beyond : IsBeyond u budget far (key_at far number) found stand) (counts : List ℕ) → IsFound stand.program stand.want counts → IsFound (left_program u far far (signed far stand.key)) wants.Gaining counts
    beyond_gains beyond counts is =
        subst (λ p. IsFound p wants.Gaining counts) (beyond.program_is ∙ reach_left stand.key) (subst (λ w. IsFound stand.program w counts) beyond.want_is is)

    beyond_back : (beyond : IsBeyond u budget far (key_at far number) found stand) (counts : List ℕ) → IsFound (reaches u far stand.key) wants.Gaining counts → IsFound stand.program stand.want counts
    beyond_back beyond counts is =
        subst (λ w. IsFound stand.program w counts) (sym beyond.want_is) (subst (λ p. IsFound p wants.Gaining counts) (sym beyond.program_is) is)

    beyond_side : IsBeyond u budget far (key_at far number) found stand → IsSide far stand
    beyond_side beyond = record {
      attains = λ counts own is.
          beyond_attained schema constraints query seen nodes formed tree asking IsNumbered numbered far stand.key stand.proof stand.picks counts agg_is ratio shows picked own (beyond_gains beyond counts is).1;
      licensed = λ answer from away.
          beyond_licensed schema constraints query seen nodes asking IsNumbered numbered budget answer far stand.key stand.proof beyond.of_cell beyond.beyond
          (spent answer (reaches u far stand.key) (left_program u far far (signed far stand.key)) wants.Gaining (reach_left stand.key) from beyond.doubt
          (λ place d inside is. away place d inside (beyond_back beyond (get_or found place d) is)));
      wanted = λ runs there attains.
          let own = lawful_at (counts_of_runs s runs) there in
          beyond_back beyond (counts_of_runs s runs) (
            record { sized = own.sized; within = own.within; met = own.met },
            subst (λ p. pos 1 ≤ℤ worth p (counts_of_runs s runs)) (sym (reach_left stand.key))
                (beyond_wanted schema constraints query seen nodes formed tree asking IsNumbered numbered far stand.key runs agg_is beyond.beyond attains),
          );
    }

    observed_back : IsObservedKey u (key_at far number) stand → (counts : List ℕ) → AreLawful u counts → IsFound stand.program stand.want counts
    observed_back observed counts own =
        subst (λ w. IsFound stand.program w counts) (sym observed.want_is)
        (subst (λ p. IsFound p wants.Any counts) (sym observed.program_is) (record { sized = own.sized; within = own.within; met = own.met }, tt))

    observed_side : IsObservedKey u (key_at far number) stand → IsSide far stand
    observed_side observed = record {
      attains = λ counts own is.
          observed_attained schema constraints query seen nodes formed tree asking IsNumbered numbered far stand.key stand.proof stand.picks counts agg_is ratio observed.observed shows picked own;
      licensed = λ answer from away.
          observed_licensed schema constraints query seen nodes asking IsNumbered numbered budget answer far stand.key stand.proof observed.observed
          (both_spent answer from (subst (λ w. Away (program_for u one) w) observed.want_is (subst (λ p. Away p stand.want) observed.program_is away)));
      wanted = λ runs there attains. observed_back observed (counts_of_runs s runs) (lawful_at (counts_of_runs s runs) there);
    }

  -- ---- a near end

  module _ (extreme : Extreme) (near : test_at far extreme ≡ Avoid) (stand : Stand) (shows : ShowsEnd extreme s (agg_of far) (whole (signed extreme stand.key)) stand.proof) (ratio : HasRatio stand.proof)
      (picked : AllZip (IsAtEnd u extreme) (cells u) stand.picks) (is_near : IsNear u budget extreme (key_at extreme number) found stand) (beside : IfSome (key_at extreme number) (λ m. stand.key ≤ℤ m)) where
    want_is : stand.want ≡ want_for (is_some number)
    want_is = is_near.want_is ∙ ap want_for (key_some extreme number)

    avoid_left : avoids u extreme stand.key ≡ left_program u far extreme (signed extreme stand.key)
    avoid_left = subst (λ test. rung_program u extreme test stand.key ≡ left_program u far extreme (signed extreme stand.key)) near (left_is u far extreme stand.key)

    near_gains : (counts : List ℕ) → IsFound stand.program stand.want counts → IsFound (left_program u far extreme (signed extreme stand.key)) (want_for (is_some number)) counts
    near_gains counts is =
        subst (λ p. IsFound p (want_for (is_some number)) counts) (is_near.program_is ∙ avoid_left) (subst (λ w. IsFound stand.program w counts) want_is is)

    near_back : (counts : List ℕ) → IsFound (left_program u far extreme (signed extreme stand.key)) (want_for (is_some number)) counts → IsFound stand.program stand.want counts
    near_back counts is =
        subst (λ w. IsFound stand.program w counts) (sym want_is) (subst (λ p. IsFound p (want_for (is_some number)) counts) (sym (is_near.program_is ∙ avoid_left)) is)

    near_doubt : IsDoubt (left_program u far extreme (signed extreme stand.key)) (want_for (is_some number)) budget found
    near_doubt =
        subst (λ p. IsDoubt p (want_for (is_some number)) budget found) avoid_left
        (subst (λ o. IsDoubt (avoids u extreme stand.key) (want_for o) budget found) (key_some extreme number) is_near.doubt)

    near_side : IsSide extreme stand
    near_side = record {
      attains = λ counts own is.
          near_attained schema constraints query seen nodes formed tree asking IsNumbered numbered far extreme stand.key stand.proof stand.picks counts near agg_is ratio beside shows picked (near_gains counts is);
      licensed = λ answer from away.
          near_licensed schema constraints query seen nodes asking IsNumbered numbered budget answer far extreme stand.key stand.proof near is_near.of_cell beside
          (spent answer (left_program u far extreme (signed extreme stand.key)) (left_program u far extreme (signed extreme stand.key)) (want_for (is_some number)) refl from near_doubt
          (λ place d inside is. away place d inside (near_back (get_or found place d) is)));
      wanted = λ runs there attains.
          near_back (counts_of_runs s runs) (near_wanted schema constraints query seen nodes formed tree asking IsNumbered numbered far extreme stand.key runs near agg_is attains);
    }

  -- ---- either end

  abbrev pub IsHere : Extreme → Stand → Type 0
  IsHere extreme stand = IsStand u budget extreme (test_at far extreme) (key_at extreme number) found stand

  shows_here : (extreme : Extreme) (stand : Stand) → IsHere extreme stand → ShowsEnd extreme s (agg_of far) (whole (signed extreme stand.key)) stand.proof
  shows_here extreme stand is = shows_end schema constraints query seen nodes asking IsNumbered numbered budget far extreme stand.key stand.proof is.proved is.beside

  ratio_here : (extreme : Extreme) (stand : Stand) → IsHere extreme stand → HasRatio stand.proof
  ratio_here extreme stand is = has_ratio u budget extreme (test_at far extreme) (key_at extreme number) stand.key stand.proof is.proved

  side_by : (extreme : Extreme) (stand : Stand) (test : Test) → test_at far extreme ≡ test → IsHere extreme stand → IsSide extreme stand
  side_by extreme stand Avoid same is =
      near_side extreme same stand (shows_here extreme stand is) (ratio_here extreme stand is) is.picked (subst (λ t. IsWanted u budget extreme t (key_at extreme number) found stand) same is.wanted)
      (subst (λ t. IsBeside t (key_at extreme number) stand.key) same is.beside)
  side_by extreme stand Reach same is =
      let own = reach_far far extreme same in
      far_side extreme own stand is (subst (λ t. IsWanted u budget extreme t (key_at extreme number) found stand) same is.wanted)
    where
      reach_far : (far extreme : Extreme) → test_at far extreme ≡ Reach → extreme ≡ far
      reach_far Low Low same = refl
      reach_far High High same = refl
      reach_far Low High same = absurd (reach_avoid (sym same))
      reach_far High Low same = absurd (reach_avoid (sym same))

      far_side : (extreme : Extreme) → extreme ≡ far → (stand : Stand) → IsHere extreme stand → IsBeyond u budget extreme (key_at extreme number) found stand ⊎ IsObservedKey u (key_at extreme number) stand → IsSide extreme stand
      far_side extreme own stand is wanted =
          subst (λ side. IsHere side stand → IsBeyond u budget side (key_at side number) found stand ⊎ IsObservedKey u (key_at side number) stand → IsSide side stand) (sym own) at_far is wanted
        where
          at_far : IsHere far stand → IsBeyond u budget far (key_at far number) found stand ⊎ IsObservedKey u (key_at far number) stand → IsSide far stand
          at_far here (inl beyond) = beyond_side stand (shows_here far stand here) (ratio_here far stand here) here.picked beyond
          at_far here (inr observed) = observed_side stand (shows_here far stand here) (ratio_here far stand here) here.picked observed

  side_of : (extreme : Extreme) (stand : Stand) → IsHere extreme stand → IsSide extreme stand
  side_of extreme stand is = side_by extreme stand (test_at far extreme) refl is

  module _ (extreme : Extreme) (stand : Stand) (is : IsHere extreme stand) where
    abbrev v : Ratio
    v = whole (signed extreme stand.key)

    abbrev end_with : Mark → End
    end_with mark = record { value = record { num = signed extreme stand.key; den = pos 1 }; mark = mark; proof = stand.proof }

    rows_here : AreRowsOfCells u stand.picks
    rows_here = AllZip-weaker (IsAtEnd u extreme) (IsRowOf schema constraints query.chosen) (λ class row at. at.of_cell) (cells u) stand.picks is.picked

    shows_as : ShowsEnd extreme s query.agg v stand.proof
    shows_as = subst (λ agg. ShowsEnd extreme s agg v stand.proof) (sym agg_is) (shows_here extreme stand is)

    holds_mark : (mark : Mark) → IsMarkedBy stand found mark → HoldsMark s (record { num = signed extreme stand.key; den = pos 1 }) mark
    holds_mark marks.Outer marked = tt
    holds_mark (marks.Exact runs) marked =
        let own = subst (AreLawful u) marked.3 (lawful marked.0 marked.1 marked.2) in
        subst (IsAttained s.question v) (sym marked.4.1) ((side_of extreme stand is).attains marked.1 own marked.4.0)

    holds_end : (side : Extreme) (mark : Mark) → side ≡ extreme → IsMarkedBy stand found mark → HoldsEnd s side (end_with mark)
    holds_end High mark same marked = record { marked = holds_mark mark marked; shown = subst (λ e. ShowsEnd e s query.agg v stand.proof) (sym same) shows_as; kind = may_show_tree u budget extreme (test_at far extreme) (key_at extreme number) stand.key mark stand.proof is.proved }
    holds_end Low mark same marked = record { marked = holds_mark mark marked; shown = subst (λ e. ShowsEnd e s query.agg v stand.proof) (sym same) shows_as; kind = may_show_tree u budget extreme (test_at far extreme) (key_at extreme number) stand.key mark stand.proof is.proved }

    licensed_mark : (answer : Answer) (mark : Mark) → IsMarkedBy stand found mark → ShownFrom s found answer → IfOuter mark (LicensedEnd extreme s budget answer query.agg v stand.proof)
    licensed_mark answer (marks.Exact runs) marked from = tt
    licensed_mark answer marks.Outer marked from =
        subst (λ agg. LicensedEnd extreme s budget answer agg v stand.proof) (sym agg_is) ((side_of extreme stand is).licensed answer from marked)

    unshown_mark : (answer : Answer) (mark : Mark) → IsMarkedBy stand found mark → ShownFrom s found answer → IfOuter mark (IsShown s answer v → ⊥)
    unshown_mark answer (marks.Exact runs) marked from = tt
    unshown_mark answer marks.Outer marked from = λ shown.
        let there = subst (λ runs. Contains found (counts_of_runs s runs)) shown.3 (from shown.0 shown.1 shown.2) in
        All-contains (λ counts. IsFound stand.program stand.want counts → ⊥) found (counts_of_runs s shown.1) marked there ((side_of extreme stand is).wanted shown.1 there shown.4)

    mark_from : (mark : Mark) → IsMarkedBy stand found mark → All (λ runs. Contains found (counts_of_runs s runs)) (runs_of_mark mark)
    mark_from marks.Outer marked = All-nil (λ runs. Contains found (counts_of_runs s runs))
    mark_from (marks.Exact runs) marked =
        let own = subst (AreLawful u) marked.3 (lawful marked.0 marked.1 marked.2) in
        let counted = counted_runs schema constraints query seen nodes formed asking stand.picks marked.1 rows_here own in
        All-cons (λ r. Contains found (counts_of_runs s r)) runs []
        (subst (Contains found) (sym (ap (counts_of_runs s) marked.4.1 ∙ counted)) (marked.0, marked.2, marked.3))
        (All-nil (λ r. Contains found (counts_of_runs s r)))

    -- its value is the key, and its tree fits
    fits_end : (mark : Mark) → IsFitEnd query.agg (end_with mark)
    fits_end mark = subst (λ agg. IsFitEnd agg (end_with mark)) (sym agg_is) (record {
      value = key_value far (signed extreme stand.key) (signed_few extreme stand.key is.few);
      proof = proof_fits u budget extreme (test_at far extreme) (key_at extreme number) stand.key stand.proof is.proved;
    })

    done_with : (mark : Mark) → IsMarkedBy stand found mark → IsDone extreme s budget query.agg found (end_with mark)
    done_with mark marked = record {
      base = record {
        holds = holds_end extreme mark refl marked;
        formed = record { positive = omega (arith, ints); ratio = ratio_here extreme stand is };
        shows = shows_as;
        searched = subst (λ agg. SearchedEnd extreme s budget agg v stand.proof) (sym agg_is) (searched_end schema constraints query seen nodes asking IsNumbered numbered budget far extreme stand.key stand.proof is.proved);
        fits = λ seen_rows. fits_end mark;
        licensed = λ answer from. licensed_mark answer mark marked from;
        from = mark_from mark marked;
      };
      is_whole = refl;
      unshown = λ answer from. unshown_mark answer mark marked from;
    }

    pub stand_done : (end : End) → IsEndAt extreme stand found end → IsDone extreme s budget query.agg found end
    stand_done end at = subst (IsDone extreme s budget query.agg found) (sym (ap₂ (λ value proof. record { value = value; mark = end.mark; proof = proof }) at.value at.proof)) (done_with end.mark at.marked)

-- where wanted counts were found, the end is exact
pub stand_exact : (stand : Stand) (found : List (List ℕ)) (mark : Mark) → IsMarkedBy stand found mark → Any (IsFound stand.program stand.want) found → IsExact mark
stand_exact stand found (marks.Exact runs) marked some = tt
stand_exact stand found marks.Outer marked some = absurd (All-contains (λ counts. IsFound stand.program stand.want counts → ⊥) found some.1 marked (some.0, some.2, some.3) some.4)
