-- The end that a side gives breaks no rule, and where it is outer it is licensed.
use Rattle.std.proofs.Common.{◌≡◌, ℕ, ◌*◌, ◌≤◌, ◌^◌, ℤ, pos, nat_abs, ◌+ℤ◌, ◌*ℤ◌, ◌≤ℤ◌, ◌<ℤ◌, inl, inr, List, [], All, Contains, Some, sym, ap, subst, ◌∙◌, arith}
use Rattle.std.specs.Int.{int_max}
use Rattle.pc_num.specs.Scaled.{greatest_size}
use lib.IntN.{*ℤ_comm}
use Rattle.std.proofs.lemmas.Int.{ints}
use Rattle.std.proofs.lemmas.List.Elements.{All-nil, All-cons}
use Rattle.pc_num.specs.declared.fraction.Frac.{Frac}
use Rattle.pc_model.specs.declared.schema.Schema.{Schema}
use Rattle.pc_model.specs.declared.row.Run.{Run}
use Rattle.pc_model.specs.declared.constraint.Constraint.{Constraint}
use Rattle.pc_model.specs.declared.tree.CutNode.{CutNode}
use Rattle.pc_model.specs.declared.tree.Tree.{Tree}
use Rattle.pc_model.specs.declared.query.Agg.{Agg}
use Rattle.pc_model.specs.declared.query.Agg.TheVariants.{Avg}
use Rattle.pc_model.specs.declared.query.Query.{Query}
use Rattle.pc_model.specs.declared.query.Folded.{Folded}
use Rattle.pc_model.specs.WellFormed.{IsWellFormed}
use Rattle.pc_model.specs.Aggregate.{Ratio, whole}
use Rattle.pc_model.specs.Cells.{IsSettledTree}
use Rattle.pc_model.specs.Right.{IsAttained}
use Rattle.pc_model.specs.Runs.{runs_from}
use Rattle.pc_program_bound.specs.declared.program.Program.{Program}
use Rattle.pc_program_bound.specs.Allocation.{IsAllocation}
use Rattle.pc_program_bound.specs.SplitTrees.{bound_by, tree_of}
use Rattle.pc_program_bound.proofs.Ring.{mul_assoc, mul_mono}
use Rattle.pc_branch.specs.Licence.{IsLicence}
use Rattle.pc_branch.specs.Outcome.{splits_of}
use Rattle.pc_simplex_short.proofs.Sizes.{size_of_product-le}
use Rattle.pc_proof.specs.declared.answer.Answer.{Answer}
use Rattle.pc_proof.specs.declared.answer.End.{End}
use Rattle.pc_proof.specs.declared.answer.Proof.TheVariants as proofs
use Rattle.pc_proof.specs.Setting.{Setting, seen_sum}
use Rattle.pc_proof.specs.Table.{ratio_of, bound_for, left_over, fewest, IsFormed, IsSound}
use Rattle.pc_proof.specs.Unbroken.{HoldsMark, MayShow}
use Rattle.pc_branch_licences.specs.Licensed.{IfOuter, MayGive}
use Rattle.pc_branch_licences.specs.Pools.{AreLawful, ShownFrom}
use Rattle.pc_branch_licences.specs.Shown.{runs_of_mark, counts_of_runs}
use Rattle.pc_agg_search.specs.declared.extreme.Extreme.{Extreme}
use Rattle.pc_agg_search.specs.Asked.{Asking, setting_for}
use Rattle.pc_agg_search.specs.Ends.{signed}
use Rattle.pc_agg_search.specs.Fitting.{AreObserved, IsFitEnd}
use Rattle.pc_agg_search.specs.Settings.{unseen}
use Rattle.pc_agg.proofs.Ending.{ShowsEnd, LicensedEnd, SearchedEnd, IsEndDone, within_limit}
use Rattle.pc_avg_ratio.specs.declared.fractional.Fractional.{Fractional}
use Rattle.pc_avg_ratio.specs.declared.highest.Highest.TheVariants.{Reached, Above}
use Rattle.pc_avg_ratio.specs.Fractional.{IsLawful, program_at, over_before, most_rows, most_sum}
use Rattle.pc_avg_ratio.specs.Highest.{IsTreeWithin, IsShown, IsReached, IsAbove, fewest_rows}
use Rattle.pc_avg_ratio.specs.Steps.{IsRatioOf}
use Rattle.pc_avg.specs.declared.sides.Side.{Side}
use Rattle.pc_avg.specs.Ends.{turned, end_of, end_by_values}
use Rattle.pc_avg.specs.Sides.{IsSide}
use Rattle.pc_avg.proofs.AverageSizes.{turned_formed, ratio_formed, whole_formed, value_formed, key_small}
use Rattle.pc_avg.proofs.SideCounts.{made_attain, made_counts}
use Rattle.pc_avg.proofs.SideNumbers.{outermost_number, side_outermost, side_sum_within}
use Rattle.pc_avg.proofs.SidePrograms.{turned_ratio, seen_over, side_count, side_sum, side_program, over_is}
use Rattle.pc_avg.proofs.SideRatios.{left_of}
use Rattle.pc_avg.proofs.SideTable.{program_end, beyond_by, if_match, holds_as, shows_tree, tree_searched, at_searched, beyond_is, shows_at, licence_spent, licensed_at, shows_values, values_searched, licensed_values}

module _ (schema : Schema) (constraints : List Constraint) (query : Query) (seen : Folded) (nodes : List CutNode) (formed : IsWellFormed schema) (tree : IsSettledTree schema constraints query.chosen nodes)
    (asking : Asking schema constraints query seen) (agg_is : query.agg ≡ Avg) (budget : ℕ) (extreme : Extreme) (side : Side) (is : IsSide (unseen schema constraints query nodes) seen extreme side)
    (key : ℤ) (key_is : side.outermost ≡ Some key) where
  abbrev u : Setting
  u = unseen schema constraints query nodes

  abbrev s : Setting
  s = setting_for schema constraints query seen nodes asking

  abbrev f : Fractional
  f = side.fraction

  number_is : outermost_number extreme s ≡ Some (signed extreme key)
  number_is = side_outermost schema constraints query seen nodes asking agg_is extreme side is key key_is

  pub lawful_as : (counts : List ℕ) → IsLawful f counts → AreLawful u counts
  lawful_as counts own =
      let here = subst (λ (p : Program). IsAllocation p p.floor p.cap counts) is.rows_are own in
      record { sized = here.sized; within = here.within; met = here.met }

  tree_at_end : (r : Ratio) (t : Tree) (most : ℤ) → IsTreeWithin (program_at f r) budget t most → IsTreeWithin (program_end extreme s (turned_ratio extreme r)) budget t most
  tree_at_end r t most within = subst (λ (p : Program). IsTreeWithin p budget t most) (side_program schema constraints query seen nodes asking agg_is extreme side is r) within

  over_at : (r : Ratio) → over_before f r ≡ seen_over extreme s.question (turned_ratio extreme r)
  over_at r = over_is schema constraints query seen nodes asking agg_is extreme side is r

  -- ---- what is there before

  over_small : (r : Ratio) (counts : List ℕ) → IsRatioOf f r counts → nat_abs (over_before f r) ≤ 10 ^ 37
  over_small r counts of =
      let first : nat_abs (r.den *ℤ f.sum) ≤ most_rows * (1_000_000 * greatest_size) = size_of_product-le r.den f.sum most_rows (1_000_000 * greatest_size) (omega (arith, ints, of.positive, of.small_den)) is.fractional.small_sum in
      let second : nat_abs (r.num *ℤ pos f.count) ≤ most_sum * 1_000_000 = size_of_product-le r.num (pos f.count) most_sum 1_000_000 of.small_num (omega (arith, ints, is.fractional.few)) in
      omega (arith, ints, first, second)

  -- no number is above the ratio
  over_none : (r : Ratio) → pos 0 <ℤ r.den → (key *ℤ r.den) ≤ℤ r.num → over_before f r ≤ℤ pos 0
  over_none r above from =
      let sum : f.sum ≤ℤ (key *ℤ pos f.count) =
      subst (λ n. n ≤ℤ (key *ℤ pos f.count)) (sym (side_sum schema constraints query seen nodes asking agg_is extreme side is))
      (subst (λ n. signed extreme (seen_sum s.question) ≤ℤ (key *ℤ n)) (sym (side_count schema constraints query seen nodes asking agg_is extreme side is))
      (side_sum_within schema constraints query seen nodes asking agg_is extreme side is key key_is)) in
      let first = mul_mono r.den f.sum (key *ℤ pos f.count) (omega (arith, ints, above)) sum in
      let second = mul_mono (pos f.count) (key *ℤ r.den) r.num (omega (arith, ints)) from in
      let same : r.den *ℤ (key *ℤ pos f.count) ≡ pos f.count *ℤ (key *ℤ r.den) =
      sym (mul_assoc r.den key (pos f.count)) ∙ *ℤ_comm (r.den *ℤ key) (pos f.count) ∙ ap (λ n. pos f.count *ℤ n) (*ℤ_comm r.den key) in
      omega (arith, ints, first, second, same, *ℤ_comm (pos f.count) r.num)

  -- ---- an end over what was found

  module _ (all : List (List ℕ)) where
    done_from : (end : End) → HoldsMark s end.value end.mark → MayShow end.mark end.proof → IsFormed end.value end.proof → ShowsEnd extreme s Avg (ratio_of end.value) end.proof →
        SearchedEnd extreme s budget Avg (ratio_of end.value) end.proof → (AreObserved s → IsFitEnd Avg end) →
        ((answer : Answer) → ShownFrom s all answer → IfOuter end.mark (LicensedEnd extreme s budget answer Avg (ratio_of end.value) end.proof)) →
        All (λ runs. Contains all (counts_of_runs s runs)) (runs_of_mark end.mark) → IsEndDone extreme s budget query.agg all end
    done_from end marked kind well shows searched fits licensed from = record {
      holds = holds_as extreme s end agg_is marked kind shows;
      formed = well;
      shows = subst (λ (agg : Agg). ShowsEnd extreme s agg (ratio_of end.value) end.proof) (sym agg_is) shows;
      searched = subst (λ (agg : Agg). SearchedEnd extreme s budget agg (ratio_of end.value) end.proof) (sym agg_is) searched;
      fits = λ inside. subst (λ (agg : Agg). IsFitEnd agg end) (sym agg_is) (fits inside);
      licensed = λ answer found. subst (λ (agg : Agg). IfOuter end.mark (LicensedEnd extreme s budget answer agg (ratio_of end.value) end.proof)) (sym agg_is) (licensed answer found);
      from = from;
    }

    -- a ratio that counts reach
    module _ (first : Ratio) (ratio : Frac) (counts : List ℕ) (t : Tree) (reached : IsReached f key budget first ratio counts t) where
      abbrev r : Ratio
      r = ratio_of ratio

      abbrev runs : List Run
      runs = runs_from side.picks counts

      within_none : (most : ℤ) × IsTreeWithin (program_at f r) budget t most × ((over_before f r +ℤ most) ≤ℤ pos 0)
      within_none = by_kind reached.shown
        where
          by_kind : IsShown f key budget r t → (most : ℤ) × IsTreeWithin (program_at f r) budget t most × ((over_before f r +ℤ most) ≤ℤ pos 0)
          by_kind (inl shown) = shown
          by_kind (inr shown) = let none = over_none r reached.ratio_is.positive shown.0 in (pos 0, shown.1, omega (arith, ints, none))

      pub reached_attained : IsAttained s.question (turned_ratio extreme r) runs
      reached_attained =
          let has = reached.ratio_is.has in
          made_attain schema constraints query seen nodes formed tree asking agg_is extreme side is counts (lawful_as counts has.lawful) r has.some has.same

      pub reached_counts : counts_of_runs s runs ≡ counts
      reached_counts = made_counts schema constraints query seen nodes formed tree asking agg_is extreme side is counts (lawful_as counts reached.ratio_is.has.lawful)

      pub reached_done : Contains all counts → IsEndDone extreme s budget query.agg all (end_of extreme side.picks (Reached ratio counts t))
      reached_done there =
          let within = tree_at_end r t within_none.0 within_none.1 in
          done_from (end_of extreme side.picks (Reached ratio counts t)) reached_attained tt (record { positive = reached.ratio_is.positive; ratio = tt })
          (shows_tree extreme s budget t (turned_ratio extreme r) within_none.0 within (subst (λ n. (n +ℤ within_none.0) ≤ℤ pos 0) (over_at r) within_none.2)
          (subst (λ n. nat_abs n ≤ 10 ^ 37) (over_at r) (over_small r counts reached.ratio_is)))
          (tree_searched extreme s budget t (turned_ratio extreme r) within_none.0 within)
          (λ inside. record { value = turned_formed extreme ratio (ratio_formed f ratio counts reached.lowest reached.ratio_is); proof = record { preorder = within.preorder; leaves = within.fits } }) (λ answer found. tt)
          (All-cons (λ own. Contains all (counts_of_runs s own)) runs [] (subst (Contains all) (sym reached_counts) there) (All-nil (λ own. Contains all (counts_of_runs s own))))

    -- what is left over at a ratio
    module _ (first : Ratio) (ratio : Frac) (counts : List ℕ) (t : Tree) (value : Frac) (above : IsAbove f key budget first ratio counts t value) where
      abbrev rate : Ratio
      rate = ratio_of ratio

      abbrev p : Program
      p = program_end extreme s (turned_ratio extreme rate)

      abbrev left : ℤ
      left = over_before f rate +ℤ above.bound

      same_program : program_at f rate ≡ p
      same_program = side_program schema constraints query seen nodes asking agg_is extreme side is rate

      within : IsTreeWithin p budget t above.most
      within = tree_at_end rate t above.most above.tree_within

      bound_at : bound_for p t ≡ Some above.bound
      bound_at = subst (λ (q : Program). bound_by q q.floor q.cap (tree_of t.nodes) ≡ Some above.bound) same_program above.bound_is

      left_is : left_over (seen_over extreme s.question (turned_ratio extreme rate)) (bound_for p t) ≡ left
      left_is = subst (λ n. left_over n (bound_for p t) ≡ left) (over_at rate) (left_of (over_before f rate) above.bound (bound_for p t) bound_at above.small_bound above.over)

      fewest_is : fewest s.question ≡ fewest_rows f
      fewest_is = ap (λ n. int_max n (pos 1)) (sym (side_count schema constraints query seen nodes asking agg_is extreme side is))

      raised_is : beyond_by extreme s (turned_ratio extreme rate) t ≡ turned_ratio extreme (record { num = rate.num *ℤ fewest_rows f +ℤ left; den = rate.den *ℤ fewest_rows f })
      raised_is = beyond_is extreme s rate t (fewest_rows f) left fewest_is left_is

      sound : IsSound p t
      sound = record { proves = within.proves; small = within_limit (bound_for p t) above.most within.within above.small }

      pub above_attained : IsAttained s.question (turned_ratio extreme rate) (runs_from side.picks counts)
      above_attained =
          let has = above.ratio_is.has in
          made_attain schema constraints query seen nodes formed tree asking agg_is extreme side is counts (lawful_as counts has.lawful) rate has.some has.same

      above_licensed : (answer : Answer) → LicensedEnd extreme s budget answer Avg (turned_ratio extreme (ratio_of value)) (proofs.At (turned extreme ratio) t)
      above_licensed answer =
          licensed_at extreme s budget answer (turned extreme ratio) t (ratio_of value) (record { num = rate.num *ℤ fewest_rows f +ℤ left; den = rate.den *ℤ fewest_rows f }) key above.most
          (runs_from side.picks counts) number_is raised_is above.value_is
          (licence_spent s budget answer p above.most (splits_of (tree_of t.nodes)) (subst (λ (q : Program). IsLicence q budget above.most (splits_of (tree_of t.nodes))) same_program above.spent))
          above_attained (if_match (bound_for p t) (λ k. k ≤ℤ above.most) within.within) (subst (λ n. pos 0 <ℤ n) (sym left_is) above.over)

      pub above_done : IsEndDone extreme s budget query.agg all (end_of extreme side.picks (Above ratio counts t value))
      above_done =
          done_from (end_of extreme side.picks (Above ratio counts t value)) tt tt (record { positive = above.value_lowest.above; ratio = above.ratio_is.positive })
          (shows_at extreme s (turned extreme ratio) t (ratio_of value) (record { num = rate.num *ℤ fewest_rows f +ℤ left; den = rate.den *ℤ fewest_rows f }) key sound number_is raised_is above.value_is)
          (at_searched extreme s budget t (turned_ratio extreme (ratio_of value)) (turned extreme ratio) above.most within)
          (λ inside. record {
            value = turned_formed extreme value (value_formed f key budget first ratio counts t value is.fractional.few (key_small schema constraints query seen nodes formed asking agg_is extreme side is key key_is inside) above);
            proof = (turned_formed extreme ratio (ratio_formed f ratio counts above.lowest above.ratio_is), record { preorder = within.preorder; leaves = within.fits });
          }) (λ answer found. above_licensed answer) (All-nil (λ own. Contains all (counts_of_runs s own)))

    -- by the numbers that rows can have
    pub values_done : ((answer : Answer) → ShownFrom s all answer → MayGive s budget answer) → IsEndDone extreme s budget query.agg all (end_by_values extreme key)
    values_done may =
        done_from (end_by_values extreme key) tt tt (record { positive = omega (arith, ints); ratio = tt }) (shows_values extreme s key number_is) (values_searched extreme s budget (whole (signed extreme key)))
        (λ inside. record { value = turned_formed extreme (record { num = key; den = pos 1 }) (whole_formed key (let small = key_small schema constraints query seen nodes formed asking agg_is extreme side is key key_is inside in omega (arith, small))); proof = tt })
        (λ answer found. licensed_values extreme s budget answer key number_is (may answer found)) (All-nil (λ own. Contains all (counts_of_runs s own)))
