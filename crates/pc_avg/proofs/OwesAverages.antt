-- An average's answer over a settled relation and the ends of both sides owes what it must.
use Rattle.std.proofs.Common.{◌≡◌, ℕ, ℤ, pos, neg_ℤ, ◌<ℤ◌, Bool, true, false, not, ◌&&◌, ◌⊎◌, inl, inr, List, [], ◌∷◌, ◌++◌, get_or, All, Contains, Some, None, refl, sym, ap, subst, arith}
use Rattle.std.specs.Prelude.{◌||◌, slice_index_or}
use Rattle.std.proofs.lemmas.Int.{ints}
use Rattle.std.proofs.lemmas.List.Elements.{All-append, All-cons, All-head, All-nil, Contains-get_or, Contains-append_left, Contains-append_right}
use Rattle.pc_model.specs.declared.schema.Schema.{Schema}
use Rattle.pc_model.specs.declared.row.Run.{Run}
use Rattle.pc_model.specs.declared.constraint.Constraint.{Constraint}
use Rattle.pc_model.specs.declared.tree.CutNode.{CutNode}
use Rattle.pc_model.specs.declared.query.Agg.TheVariants.{Avg}
use Rattle.pc_model.specs.declared.query.Query.{Query}
use Rattle.pc_model.specs.declared.query.Folded.{Folded}
use Rattle.pc_model.specs.Accepted.{AreConstraints}
use Rattle.pc_model.specs.WellFormed.{IsWellFormed}
use Rattle.pc_agg_search.specs.Easy.{IsEasy}
use Rattle.pc_model.specs.Aggregate.{Ratio, whole, IsAtMost}
use Rattle.pc_model.specs.Cells.{IsSettledTree}
use Rattle.pc_model.specs.Right.{IsAttained, always_has_value}
use Rattle.pc_model.specs.Right as plain
use Rattle.pc_model.specs.Runs.{runs_from}
use Rattle.pc_proof.specs.declared.answer.Answer.{Answer}
use Rattle.pc_proof.specs.declared.answer.End.{End}
use Rattle.pc_proof.specs.declared.answer.Mark.{Mark}
use Rattle.pc_proof.specs.declared.answer.Mark.TheVariants as marks
use Rattle.pc_proof.specs.declared.answer.Relation.{Relation}
use Rattle.pc_proof.specs.declared.answer.Lack.{Lack}
use Rattle.pc_proof.specs.Setting.{Setting}
use Rattle.pc_proof.specs.Table.{ratio_of}
use Rattle.pc_proof.specs.Unbroken.{HoldsMark, IsDecided, IsExact, plain_relation, plain_lack}
use Rattle.pc_branch_licences.specs.Licensed.{IfOuter, IsSettledLack}
use Rattle.pc_branch_licences.specs.Shown.{runs_of_mark, runs_of_relation, runs_of_lack, counts_of_runs}
use Rattle.pc_agg_search.specs.declared.extreme.Extreme.{Extreme}
use Rattle.pc_agg_search.specs.declared.extreme.Extreme.TheVariants.{Low, High}
use Rattle.pc_agg_search.specs.Asked.{Asking, setting_for}
use Rattle.pc_agg_search.specs.Ends.{HoldsEnd}
use Rattle.pc_agg_search.specs.Settings.{unseen}
use Rattle.pc_agg.specs.Owed.{Owes, OwesSettled, HasEnds, IsGiving, answer_of}
use Rattle.pc_agg.proofs.Ending.{IsEndDone}
use Rattle.pc_agg.proofs.Owing.{owes_ends}
use Rattle.pc_agg.proofs.Questions as questions
use Rattle.pc_avg_ratio.specs.declared.fractional.Fractional.{Fractional}
use Rattle.pc_avg_ratio.specs.declared.highest.Highest.{Highest}
use Rattle.pc_avg_ratio.specs.declared.highest.Highest.TheVariants.{Reached, Above}
use Rattle.pc_avg_ratio.specs.Fractional.{ratio_with}
use Rattle.pc_avg_ratio.specs.Highest.{IsHighest}
use Rattle.pc_avg.specs.declared.sides.Side.{Side}
use Rattle.pc_avg.specs.Averages.{has_ends}
use Rattle.pc_avg.specs.Ends.{end_of, IsUnvalued, IsSought, IsEndOver, IsEndIfAny, IsEndSurely}
use Rattle.pc_avg.specs.Sides.{IsSide}
use Rattle.pc_avg.proofs.Grown.{ends_of, relation_found, lack_found, may_give, relation_done, lack_done}
use Rattle.pc_avg.proofs.OutermostOrder.{outermost_order}
use Rattle.pc_avg.proofs.SideEnds.{reached_attained, reached_done, above_attained, above_done, values_done}
use Rattle.pc_avg.proofs.SideNumbers.{side_some}
use Rattle.pc_avg.proofs.SidePrograms.{turned_ratio}
use Rattle.pc_avg.proofs.SideShown.{opposite, NotAt, none_low, none_high, around, rows_give, none_give, not_unvalued, not_found, not_opposite, exact_of}

-- the counts that an end shows beside what was found
abbrev pub counts_of_highest : Highest → List (List ℕ)
counts_of_highest (Reached ratio counts tree) = counts ∷ []
counts_of_highest (Above ratio counts tree value) = []

marked_of : (extreme : Extreme) (s : Setting) (end : End) → HoldsEnd s extreme end → HoldsMark s end.value end.mark
marked_of High s end holds = holds.marked
marked_of Low s end holds = holds.marked

no_ends : (relation : Relation) (lack : Lack) → has_ends relation lack ≡ false → true ≡ (plain.is_impossible (plain_relation relation) || plain.is_always (plain_lack lack))
no_ends relation lack none = by_tests (plain.is_impossible (plain_relation relation)) (plain.is_always (plain_lack lack)) none
  where
    by_tests : (a b : Bool) → (not a && not b) ≡ false → true ≡ (a || b)
    by_tests true b e = refl
    by_tests false true e = refl
    by_tests false false e = e

module _ (schema : Schema) (constraints : List Constraint) (query : Query) (seen : Folded) (nodes : List CutNode) (formed : IsWellFormed schema) (limited : AreConstraints schema constraints)
    (tree : IsSettledTree schema constraints query.chosen nodes) (budget : ℕ) (asking : Asking schema constraints query seen) (agg_is : query.agg ≡ Avg) (relation : Relation) (lack : Lack) (found : List (List ℕ))
    (settled : OwesSettled (setting_for schema constraints query seen nodes asking) budget relation lack found) where
  abbrev u : Setting
  u = unseen schema constraints query nodes

  abbrev s : Setting
  s = setting_for schema constraints query seen nodes asking

  abbrev with_ends : End → End → Answer
  with_ends low high = record { relation = relation; lack = lack; ends = Some (low, high) }

  lacks_value : always_has_value query.agg ≡ false
  lacks_value = ap always_has_value agg_is

  -- ---- without ends

  pub owes_endless : has_ends relation lack ≡ false → Owes s budget (answer_of relation lack)
  owes_endless none = record {
    form = record { named = asking.named; preorder = tree.preorder; silent = settled.silent; absent = no_ends relation lack none; low = tt; high = tt };
    unbroken = record {
      allowed = asking.allowed;
      proper = tree.proper;
      settled = (questions.tree_for schema constraints query seen nodes formed asking tree).settled;
      relation = settled.relation_holds;
      lack = settled.lack_holds;
      low = tt;
      high = tt;
    };
    licensed = settled.licensed;
    searched = settled.searched;
    formed = λ seen_rows. record { relation = settled.formed.0; lack = settled.formed.1; ends = tt; silent = settled.silent; absent = no_ends relation lack none };
    sharp = λ nested. let all = settled.sharp nested in (record { decided = all.0; ends = tt }, all.1);
    ordered = tt;
  }

  -- ---- an end is there

  pub no_outermost : has_ends relation lack ≡ true → (extreme : Extreme) → IsEndIfAny u seen budget extreme found None → ⊥
  no_outermost has extreme none =
      side_some schema constraints query seen nodes asking agg_is extreme none.0 none.1 none.2 (settled.can_give lacks_value (ends_of relation lack has))

  -- ---- an end that was sought

  abbrev IsAway : End → List Run → Type 0
  IsAway end runs = IfOuter end.mark (NotAt s.question (ratio_of end.value) runs)

  module _ (extreme : Extreme) (side : Side) (is : IsSide u seen extreme side) (key : ℤ) (key_is : side.outermost ≡ Some key) where
    abbrev f : Fractional
    f = side.fraction

    module _ (end : End) (sought : IsSought side extreme key budget found end) where
      abbrev best : List ℕ
      best = slice_index_or found sought.place []

      highest_done : (all : List (List ℕ)) (h : Highest) → IsHighest f key budget (ratio_with f best) h → All (Contains all) (counts_of_highest h) → IsEndDone extreme s budget query.agg all (end_of extreme side.picks h)
      highest_done all (Reached ratio counts t) reached there =
          reached_done schema constraints query seen nodes formed tree asking agg_is budget extreme side is key key_is all (ratio_with f best) ratio counts t reached (All-head (Contains all) counts [] there)
      highest_done all (Above ratio counts t value) above there =
          above_done schema constraints query seen nodes formed tree asking agg_is budget extreme side is key key_is all (ratio_with f best) ratio counts t value above

      highest_giving : (h : Highest) → IsHighest f key budget (ratio_with f best) h → All (IsGiving s) (counts_of_highest h)
      highest_giving (Reached ratio counts t) reached =
          All-cons (IsGiving s) counts [] (rows_give schema constraints query seen nodes formed tree asking agg_is extreme side is counts reached.ratio_is.has.some) (All-nil (IsGiving s))
      highest_giving (Above ratio counts t value) above = All-nil (IsGiving s)

      highest_attained : (h : Highest) → IsHighest f key budget (ratio_with f best) h → (v : Ratio) × (runs : List Run) × (pos 0 <ℤ v.den) × IsAttained s.question v runs
      highest_attained (Reached ratio counts t) reached = (
        turned_ratio extreme (ratio_of ratio),
        runs_from side.picks counts,
        reached.ratio_is.positive,
        reached_attained schema constraints query seen nodes formed tree asking agg_is budget extreme side is key key_is [] (ratio_with f best) ratio counts t reached,
      )
      highest_attained (Above ratio counts t value) above = (
        turned_ratio extreme (ratio_of ratio),
        runs_from side.picks counts,
        above.ratio_is.positive,
        above_attained schema constraints query seen nodes formed tree asking agg_is budget extreme side is key key_is [] (ratio_with f best) ratio counts t value above,
      )

      highest_away : (h : Highest) → IsHighest f key budget (ratio_with f best) h → (runs : List Run) → Contains found (counts_of_runs s runs) → IsAway (end_of extreme side.picks h) runs
      highest_away (Reached ratio counts t) reached runs there = tt
      highest_away (Above ratio counts t value) above runs there =
          not_found schema constraints query seen nodes formed tree asking agg_is extreme side is budget key key_is found sought.place sought.start ratio counts t value above runs there

      module _ (all : List (List ℕ)) (other : End) (done : IsEndDone (opposite extreme) s budget query.agg all other) where
        highest_apart : (h : Highest) → IsHighest f key budget (ratio_with f best) h → All (IsAway (end_of extreme side.picks h)) (runs_of_mark other.mark)
        highest_apart (Reached ratio counts t) reached = λ place d inside. tt
        highest_apart (Above ratio counts t value) above = by_mark other.mark (marked_of (opposite extreme) s other done.holds)
          where
            by_mark : (mark : Mark) → HoldsMark s other.value mark → All (IsAway (end_of extreme side.picks (Above ratio counts t value))) (runs_of_mark mark)
            by_mark marks.Outer held = All-nil (IsAway (end_of extreme side.picks (Above ratio counts t value)))
            by_mark (marks.Exact runs) held =
                All-cons (IsAway (end_of extreme side.picks (Above ratio counts t value))) runs []
                (not_opposite schema constraints query seen nodes formed tree asking agg_is extreme side is budget key key_is found sought.place sought.start ratio counts t value above all other done runs held)
                (All-nil (IsAway (end_of extreme side.picks (Above ratio counts t value))))

        sought_apart : All (IsAway end) (runs_of_mark other.mark)
        sought_apart = subst (λ (e : End). All (IsAway e) (runs_of_mark other.mark)) (sym sought.end_is) (highest_apart sought.highest sought.highest_is)

      sought_done : (all : List (List ℕ)) → All (Contains all) (counts_of_highest sought.highest) → IsEndDone extreme s budget query.agg all end
      sought_done all there = subst (IsEndDone extreme s budget query.agg all) (sym sought.end_is) (highest_done all sought.highest sought.highest_is there)

      sought_giving : All (IsGiving s) (counts_of_highest sought.highest)
      sought_giving = highest_giving sought.highest sought.highest_is

      sought_away : (runs : List Run) → Contains found (counts_of_runs s runs) → IsAway end runs
      sought_away runs there = subst (λ (e : End). IsAway e runs) (sym sought.end_is) (highest_away sought.highest sought.highest_is runs there)

      -- some counts that were found give a value
      sought_some : All (λ counts. IsGiving s counts → ⊥) found → ⊥
      sought_some away =
          away sought.place [] sought.start.inside (rows_give schema constraints query seen nodes formed tree asking agg_is extreme side is best sought.start.some)

    -- ---- an end by values

    module _ (end : End) (unvalued : IsUnvalued side extreme key found end) where
      unvalued_none : All (λ counts. IsGiving s counts → ⊥) found
      unvalued_none place d inside = none_give schema constraints query seen nodes formed tree asking agg_is extreme side is (get_or found place d) (unvalued.none place d inside)

      unvalued_done : HasEnds relation lack → IsEndDone extreme s budget query.agg (found ++ []) end
      unvalued_done has =
          subst (IsEndDone extreme s budget query.agg (found ++ [])) (sym unvalued.end_is)
          (values_done schema constraints query seen nodes formed tree asking agg_is budget extreme side is key key_is (found ++ [])
          (λ answer from. may_give s budget relation lack found settled agg_is has [] (All-nil (IsGiving s)) (λ away. refl) answer from unvalued_none))

      unvalued_away : (runs : List Run) → Contains found (counts_of_runs s runs) → IsAway end runs
      unvalued_away runs there =
          subst (λ (e : End). IsAway e runs) (sym unvalued.end_is)
          (not_unvalued schema constraints query seen nodes formed tree asking agg_is extreme side is found unvalued.none (whole key) (omega (arith, ints)) runs there)

      unvalued_unshown : (P : List Run → Type 0) → All P (runs_of_mark end.mark)
      unvalued_unshown P = subst (λ (e : End). All P (runs_of_mark e.mark)) (sym unvalued.end_is) (All-nil P)

  -- ---- both ends

  module _ (has : has_ends relation lack ≡ true) (low high : End) (low_over : IsEndOver u seen budget Low found low) (high_over : IsEndOver u seen budget High found high)
      (surely : IsEasy schema constraints → IsEndSurely u seen Low found (Some low) × IsEndSurely u seen High found (Some high)) where
    ends : HasEnds relation lack
    ends = ends_of relation lack has

    decided : IsEasy schema constraints → IsDecided relation × IsExact low.mark × IsExact high.mark × IsSettledLack lack
    decided nested =
        let settles = settled.sharp nested in
        let given = settled.surely_gives nested lacks_value ends in
        let sure = surely nested in (
          settles.0,
          exact_of schema constraints query seen nodes formed tree asking agg_is Low found low.value low.mark low.proof sure.0 given,
          exact_of schema constraints query seen nodes formed tree asking agg_is High found high.value high.mark high.proof sure.1 given,
          settles.1,
        )

    module _ (more : List (List ℕ)) (giving : All (IsGiving s) more) (none_more : All (λ counts. IsGiving s counts → ⊥) found → more ≡ [])
        (low_done : IsEndDone Low s budget query.agg (found ++ more) low) (high_done : IsEndDone High s budget query.agg (found ++ more) high)
        (low_away : (runs : List Run) → Contains found (counts_of_runs s runs) → IsAway low runs) (high_away : (runs : List Run) → Contains found (counts_of_runs s runs) → IsAway high runs)
        (low_apart : All (IsAway low) (runs_of_mark high.mark)) (high_apart : All (IsAway high) (runs_of_mark low.mark)) (ordered : IsAtMost (ratio_of low.value) (ratio_of high.value)) where
      abbrev front : List (List Run)
      front = runs_of_relation relation ++ runs_of_lack lack

      front_away : (end : End) → ((runs : List Run) → Contains found (counts_of_runs s runs) → IsAway end runs) → All (IsAway end) front
      front_away end away =
          All-append (IsAway end) (runs_of_relation relation) (runs_of_lack lack)
          (λ place d inside. away (get_or (runs_of_relation relation) place d) (relation_found s budget relation lack found settled agg_is ends more giving none_more place d inside))
          (λ place d inside. away (get_or (runs_of_lack lack) place d) (lack_found s budget relation lack found settled agg_is ends more giving none_more place d inside))

      owes_over : Owes s budget (with_ends low high)
      owes_over =
          owes_ends schema constraints query seen nodes formed limited tree budget asking (found ++ more) low high low_done high_done relation lack ends.0
          (relation_done s budget relation lack found settled agg_is ends more giving none_more) (lack_done s budget relation lack found settled agg_is ends more giving none_more) ordered
          (none_low s.question (ratio_of low.value) low.mark front (runs_of_mark high.mark) (front_away low low_away) low_apart)
          (none_high s.question (ratio_of high.value) high.mark front (runs_of_mark low.mark) (front_away high high_away) high_apart) decided

    both_sought : IsSought low_over.side Low low_over.outermost budget found low → IsSought high_over.side High high_over.outermost budget found high → Owes s budget (with_ends low high)
    both_sought first second =
        let own = counts_of_highest first.highest in
        let others = counts_of_highest second.highest in
        let more = own ++ others in
        let low_there : All (Contains (found ++ more)) own =
        λ place d inside. Contains-append_right found more (get_or own place d) (Contains-append_left own others (get_or own place d) (Contains-get_or own place d inside)) in
        let high_there : All (Contains (found ++ more)) others =
        λ place d inside. Contains-append_right found more (get_or others place d) (Contains-append_right own others (get_or others place d) (Contains-get_or others place d inside)) in
        let low_done = sought_done Low low_over.side low_over.side_is low_over.outermost low_over.outermost_is low first (found ++ more) low_there in
        let high_done = sought_done High high_over.side high_over.side_is high_over.outermost high_over.outermost_is high second (found ++ more) high_there in
        let given = highest_attained Low low_over.side low_over.side_is low_over.outermost low_over.outermost_is low first first.highest first.highest_is in
        owes_over more
        (All-append (IsGiving s) own others (sought_giving Low low_over.side low_over.side_is low_over.outermost low_over.outermost_is low first)
        (sought_giving High high_over.side high_over.side_is high_over.outermost high_over.outermost_is high second))
        (λ away. absurd (sought_some Low low_over.side low_over.side_is low_over.outermost low_over.outermost_is low first away)) low_done high_done
        (sought_away Low low_over.side low_over.side_is low_over.outermost low_over.outermost_is low first)
        (sought_away High high_over.side high_over.side_is high_over.outermost high_over.outermost_is high second)
        (sought_apart Low low_over.side low_over.side_is low_over.outermost low_over.outermost_is low first (found ++ more) high high_done)
        (sought_apart High high_over.side high_over.side_is high_over.outermost high_over.outermost_is high second (found ++ more) low low_done)
        (around schema constraints query seen nodes formed tree asking agg_is budget (found ++ more) low high low_done high_done given.0 given.1 given.2 given.3)

    values_ordered : IsUnvalued low_over.side Low low_over.outermost found low → IsUnvalued high_over.side High high_over.outermost found high → IsAtMost (ratio_of low.value) (ratio_of high.value)
    values_ordered first second =
        let order =
        outermost_order schema constraints query seen nodes formed tree asking agg_is low_over.side high_over.side low_over.side_is high_over.side_is low_over.outermost high_over.outermost low_over.outermost_is
        high_over.outermost_is in
        subst (λ (e : End). IsAtMost (ratio_of e.value) (ratio_of high.value)) (sym first.end_is)
        (subst (λ (e : End). IsAtMost (whole (neg_ℤ low_over.outermost)) (ratio_of e.value)) (sym second.end_is) (omega (arith, ints, order)))

    both_unvalued : IsUnvalued low_over.side Low low_over.outermost found low → IsUnvalued high_over.side High high_over.outermost found high → Owes s budget (with_ends low high)
    both_unvalued first second =
        owes_over [] (All-nil (IsGiving s)) (λ away. refl) (unvalued_done Low low_over.side low_over.side_is low_over.outermost low_over.outermost_is low first ends)
        (unvalued_done High high_over.side high_over.side_is high_over.outermost high_over.outermost_is high second ends)
        (unvalued_away Low low_over.side low_over.side_is low_over.outermost low_over.outermost_is low first)
        (unvalued_away High high_over.side high_over.side_is high_over.outermost high_over.outermost_is high second)
        (unvalued_unshown High high_over.side high_over.side_is high_over.outermost high_over.outermost_is high second (IsAway low))
        (unvalued_unshown Low low_over.side low_over.side_is low_over.outermost low_over.outermost_is low first (IsAway high)) (values_ordered first second)

    pub owes_average : Owes s budget (with_ends low high)
    owes_average = by_both low_over.by high_over.by
      where
        by_both : IsUnvalued low_over.side Low low_over.outermost found low ⊎ IsSought low_over.side Low low_over.outermost budget found low →
            IsUnvalued high_over.side High high_over.outermost found high ⊎ IsSought high_over.side High high_over.outermost budget found high → Owes s budget (with_ends low high)
        by_both (inl first) (inl second) = both_unvalued first second
        by_both (inr first) (inr second) = both_sought first second
        by_both (inl first) (inr second) =
            absurd (sought_some High high_over.side high_over.side_is high_over.outermost high_over.outermost_is high second
            (unvalued_none Low low_over.side low_over.side_is low_over.outermost low_over.outermost_is low first))
        by_both (inr first) (inl second) =
            absurd (sought_some Low low_over.side low_over.side_is low_over.outermost low_over.outermost_is low first
            (unvalued_none High high_over.side high_over.side_is high_over.outermost high_over.outermost_is high second))
