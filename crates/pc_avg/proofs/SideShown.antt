-- No runs that are shown attain an outer end of an average.
use Rattle.std.proofs.Common.{◌≡◌, ℕ, ℤ, pos, ◌+ℤ◌, ◌≤ℤ◌, ◌<ℤ◌, List, [], ◌∷◌, ◌++◌, length, All, Any, Contains, Some, IfSome, IsSomeAnd, ap, ap₂, subst, arith}
use Rattle.std.specs.Prelude.{slice_index_or}
use Rattle.std.specs.Int.{int_max}
use Rattle.std.proofs.lemmas.Int.{ints, clamps}
use Rattle.std.proofs.lemmas.List.Elements.{All-append, All-contains, All-nil}
use Rattle.pc_num.specs.declared.fraction.Frac.{Frac}
use Rattle.pc_model.specs.declared.schema.Schema.{Schema}
use Rattle.pc_model.specs.declared.row.Run.{Run}
use Rattle.pc_model.specs.declared.constraint.Constraint.{Constraint}
use Rattle.pc_model.specs.declared.tree.CutNode.{CutNode}
use Rattle.pc_model.specs.declared.tree.Tree.{Tree}
use Rattle.pc_model.specs.declared.query.Agg.{Agg}
use Rattle.pc_model.specs.declared.query.Agg.TheVariants.{Avg}
use Rattle.pc_model.specs.declared.query.Query.{Query}
use Rattle.pc_model.specs.declared.query.Folded.{Folded}
use Rattle.pc_model.specs.WellFormed.{IsWellFormed}
use Rattle.pc_model.specs.Aggregate.{Ratio, IsAtMost, IsSame, int_sum, value_of}
use Rattle.pc_model.specs.Cells.{IsSettledTree}
use Rattle.pc_model.specs.Right.{Question, IsAttained}
use Rattle.pc_model.specs.Runs.{rows_of, runs_from}
use Rattle.pc_program_bound.specs.declared.program.Program.{Program}
use Rattle.pc_program_bound.specs.Allocation.{worth}
use Rattle.pc_proof.specs.declared.answer.End.{End}
use Rattle.pc_proof.specs.declared.answer.Mark.{Mark}
use Rattle.pc_proof.specs.declared.answer.Mark.TheVariants as marks
use Rattle.pc_proof.specs.declared.answer.Proof.{Proof}
use Rattle.pc_proof.specs.Setting.{Setting, seen_count}
use Rattle.pc_proof.specs.Table.{ratio_of}
use Rattle.pc_proof.specs.Unbroken.{IsExact}
use Rattle.pc_proof.proofs.Fractions.{at_most_trans}
use Rattle.pc_proof.proofs.Seen.{all_numbers}
use Rattle.pc_proof.proofs.Shown.{high_holds, low_holds}
use Rattle.pc_branch_licences.specs.Licensed.{IfOuter}
use Rattle.pc_branch_licences.specs.Shown.{runs_of_mark, counts_of_runs}
use Rattle.pc_agg_search.specs.declared.extreme.Extreme.{Extreme}
use Rattle.pc_agg_search.specs.declared.extreme.Extreme.TheVariants.{Low, High}
use Rattle.pc_agg_search.specs.Asked.{Asking, setting_for}
use Rattle.pc_agg_search.specs.Settings.{unseen}
use Rattle.pc_agg_search.specs.Wants.{most_chosen}
use Rattle.pc_agg.specs.Owed.{IsGiving}
use Rattle.pc_agg.proofs.Ending.{IsEndDone}
use Rattle.pc_agg.proofs.Questions as questions
use Rattle.pc_avg_ratio.specs.declared.fractional.Fractional.{Fractional}
use Rattle.pc_avg_ratio.specs.Best.{HasNoRows, IsNoHigher, IsHighestOf}
use Rattle.pc_avg_ratio.specs.Fractional.{rows_with, ratio_with, over_before}
use Rattle.pc_avg_ratio.specs.Highest.{IsAbove, fewest_rows}
use Rattle.pc_avg.specs.declared.sides.Side.{Side}
use Rattle.pc_avg.specs.Ends.{IsEndSurely}
use Rattle.pc_avg.specs.Sides.{IsSide}
use Rattle.pc_avg.proofs.SideCounts.{average_same, attained_within}
use Rattle.pc_avg.proofs.SideEnds.{above_attained}
use Rattle.pc_avg.proofs.SidePrograms.{turned_ratio, side_count}
use Rattle.pc_avg.proofs.SideRatios.{IsBelow, not_below, lesser_above, most_back}

abbrev pub opposite : Extreme → Extreme
opposite High = Low
opposite Low = High

abbrev pub NotAt : Question → Ratio → List Run → Type 0
NotAt q v runs = IsAttained q v runs → ⊥

-- ---- all that is shown

none_of : (q : Question) (v : Ratio) (list : List (List Run)) → All (NotAt q v) list → Any (λ runs. IsAttained q v runs) list → ⊥
none_of q v list none found = All-contains (NotAt q v) list found.1 none (found.0, found.2, found.3) found.4

pub none_low : (q : Question) (v : Ratio) (mark : Mark) (front other : List (List Run)) → All (λ runs. IfOuter mark (NotAt q v runs)) front → All (λ runs. IfOuter mark (NotAt q v runs)) other →
    IfOuter mark (Any (λ runs. IsAttained q v runs) (front ++ (runs_of_mark mark ++ other)) → ⊥)
none_low q v (marks.Exact runs) front other first second = tt
none_low q v marks.Outer front other first second = none_of q v (front ++ other) (All-append (NotAt q v) front other first second)

pub none_high : (q : Question) (v : Ratio) (mark : Mark) (front other : List (List Run)) → All (λ runs. IfOuter mark (NotAt q v runs)) front → All (λ runs. IfOuter mark (NotAt q v runs)) other →
    IfOuter mark (Any (λ runs. IsAttained q v runs) (front ++ (other ++ runs_of_mark mark)) → ⊥)
none_high q v (marks.Exact runs) front other first second = tt
none_high q v marks.Outer front other first second =
    none_of q v (front ++ (other ++ [])) (All-append (NotAt q v) front (other ++ []) first (All-append (NotAt q v) other [] second (All-nil (NotAt q v))))

-- ---- averages that are attained

if_average : (xs : List ℤ) (P : Ratio → Type 0) → pos 0 <ℤ pos (length xs) → IfSome (value_of Avg xs) P → P (record { num = int_sum xs; den = pos (length xs) })
if_average [] P some holds = absurd (omega (arith, ints, some))
if_average (x ∷ xs) P some holds = holds

some_fewest : (n : ℤ) → pos 1 ≤ℤ int_max n (pos 1)
some_fewest n = omega (arith, ints, clamps)

module _ (schema : Schema) (constraints : List Constraint) (query : Query) (seen : Folded) (nodes : List CutNode) (formed : IsWellFormed schema) (tree : IsSettledTree schema constraints query.chosen nodes)
    (asking : Asking schema constraints query seen) (agg_is : query.agg ≡ Avg) where
  abbrev u : Setting
  u = unseen schema constraints query nodes

  abbrev s : Setting
  s = setting_for schema constraints query seen nodes asking

  abbrev average : List Run → Ratio
  average runs = record { num = int_sum (all_numbers s.question (rows_of runs)); den = pos (length (all_numbers s.question (rows_of runs))) }

  attained_is : (v : Ratio) (runs : List Run) → IsAttained s.question v runs → (pos 0 <ℤ (average runs).den) × IsSame (average runs) v
  attained_is v runs attains =
      average_same (all_numbers s.question (rows_of runs)) v (subst (λ (agg : Agg). IsSomeAnd (value_of agg (all_numbers s.question (rows_of runs))) (λ x. IsSame x v)) agg_is attains.gives)

  -- values of the same runs are the same
  one_value : (v w : Ratio) (runs : List Run) → pos 0 <ℤ v.den → pos 0 <ℤ w.den → IsAttained s.question v runs → IsAttained s.question w runs → IsAtMost v w
  one_value v w runs v_above w_above first second =
      let own = attained_is v runs first in
      let other = attained_is w runs second in
      at_most_trans v (average runs) w v_above own.0 w_above (omega (arith, ints, own.1)) (omega (arith, ints, other.1))

  -- an end is no further in than an attained value
  low_beside : (budget : ℕ) (all : List (List ℕ)) (end : End) → IsEndDone Low s budget query.agg all end → (v : Ratio) (runs : List Run) → pos 0 <ℤ v.den → IsAttained s.question v runs → IsAtMost (ratio_of end.value) v
  low_beside budget all end done v runs above attains =
      let own = attained_is v runs attains in
      let lost = rows_of runs in
      let holds = low_holds s (questions.posed schema constraints query seen nodes formed asking) (questions.tree_for schema constraints query seen nodes formed asking tree) lost attains.by.are_possible
      (record { value = end.value; proof = end.proof }) done.formed done.shows in
      let least = if_average (all_numbers s.question lost) (λ x. IsAtMost (ratio_of end.value) x) own.0
      (subst (λ (agg : Agg). IfSome (value_of agg (all_numbers s.question lost)) (λ x. IsAtMost (ratio_of end.value) x)) agg_is holds) in
      at_most_trans (ratio_of end.value) (average runs) v done.formed.positive own.0 above least (omega (arith, ints, own.1))

  high_beside : (budget : ℕ) (all : List (List ℕ)) (end : End) → IsEndDone High s budget query.agg all end → (v : Ratio) (runs : List Run) → pos 0 <ℤ v.den → IsAttained s.question v runs → IsAtMost v (ratio_of end.value)
  high_beside budget all end done v runs above attains =
      let own = attained_is v runs attains in
      let lost = rows_of runs in
      let holds = high_holds s (questions.posed schema constraints query seen nodes formed asking) (questions.tree_for schema constraints query seen nodes formed asking tree) lost attains.by.are_possible
      (record { value = end.value; proof = end.proof }) done.formed done.shows in
      let greatest = if_average (all_numbers s.question lost) (λ x. IsAtMost x (ratio_of end.value)) own.0
      (subst (λ (agg : Agg). IfSome (value_of agg (all_numbers s.question lost)) (λ x. IsAtMost x (ratio_of end.value))) agg_is holds) in
      at_most_trans v (average runs) (ratio_of end.value) above own.0 done.formed.positive (omega (arith, ints, own.1)) greatest

  -- ends of both sides of an attained value do not cross
  pub around : (budget : ℕ) (all : List (List ℕ)) (low high : End) → IsEndDone Low s budget query.agg all low → IsEndDone High s budget query.agg all high → (v : Ratio) (runs : List Run) → pos 0 <ℤ v.den →
      IsAttained s.question v runs → IsAtMost (ratio_of low.value) (ratio_of high.value)
  around budget all low high low_done high_done v runs above attains =
      at_most_trans (ratio_of low.value) v (ratio_of high.value) low_done.formed.positive above high_done.formed.positive (low_beside budget all low low_done v runs above attains)
      (high_beside budget all high high_done v runs above attains)

  -- what attains the opposite end attains no value beyond an attained ratio
  pub not_beyond : (budget : ℕ) (all : List (List ℕ)) (extreme : Extreme) (end : End) → IsEndDone (opposite extreme) s budget query.agg all end → (r v : Ratio) → pos 0 <ℤ r.den → pos 0 <ℤ v.den → IsBelow r v →
      (own : List Run) → IsAttained s.question (turned_ratio extreme r) own → (runs : List Run) → IsAttained s.question (ratio_of end.value) runs → NotAt s.question (turned_ratio extreme v) runs
  not_beyond budget all High end done r v r_above v_above below own reached runs first second =
      not_below r v below
      (at_most_trans v (ratio_of end.value) r v_above done.formed.positive r_above (one_value v (ratio_of end.value) runs v_above done.formed.positive second first)
      (low_beside budget all end done r own r_above reached))
  not_beyond budget all Low end done r v r_above v_above below own reached runs first second =
      not_below r v below
      (most_back v r
      (at_most_trans (turned_ratio Low r) (ratio_of end.value) (turned_ratio Low v) r_above done.formed.positive v_above (high_beside budget all end done (turned_ratio Low r) own r_above reached)
      (one_value (ratio_of end.value) (turned_ratio Low v) runs done.formed.positive v_above first second)))

  -- ---- beside a side

  module _ (extreme : Extreme) (side : Side) (is : IsSide u seen extreme side) where
    abbrev f : Fractional
    f = side.fraction

    pub rows_are : (counts : List ℕ) → rows_with f counts ≡ seen_count s.question +ℤ worth (most_chosen s) counts
    rows_are counts = ap₂ (λ a b. a +ℤ b) (side_count schema constraints query seen nodes asking agg_is extreme side is) (ap (λ (p : Program). worth p counts) is.rows_are)

    pub rows_give : (counts : List ℕ) → pos 0 <ℤ rows_with f counts → IsGiving s counts
    rows_give counts some = omega (arith, ints, some, rows_are counts)

    pub none_give : (counts : List ℕ) → HasNoRows f counts → IsGiving s counts → ⊥
    none_give counts none gives = none (omega (arith, ints, gives, rows_are counts))

    -- counts without a row attain nothing
    pub not_unvalued : (found : List (List ℕ)) → All (HasNoRows f) found → (v : Ratio) → pos 0 <ℤ v.den → (runs : List Run) → Contains found (counts_of_runs s runs) → NotAt s.question (turned_ratio extreme v) runs
    not_unvalued found none v above runs there attains =
        All-contains (HasNoRows f) found (counts_of_runs s runs) none there (attained_within schema constraints query seen nodes formed tree asking agg_is extreme side is v runs above attains).0

    module _ (budget : ℕ) (key : ℤ) (key_is : side.outermost ≡ Some key) (found : List (List ℕ)) (place : ℕ) (start : IsHighestOf f found place) (ratio : Frac) (counts : List ℕ) (t : Tree) (value : Frac)
        (above : IsAbove f key budget (ratio_with f (slice_index_or found place [])) ratio counts t value) where
      abbrev best : List ℕ
      best = slice_index_or found place []

      is_below : IsBelow (ratio_of ratio) (ratio_of value)
      is_below =
          lesser_above (ratio_of ratio) (ratio_of value) (fewest_rows f) (over_before f (ratio_of ratio) +ℤ above.bound) key above.value_lowest.above (some_fewest (pos f.count)) above.over above.under above.value_is

      -- counts that were found have no ratio above where the steps began
      pub not_found : (runs : List Run) → Contains found (counts_of_runs s runs) → NotAt s.question (turned_ratio extreme (ratio_of value)) runs
      not_found runs there attains =
          let within = attained_within schema constraints query seen nodes formed tree asking agg_is extreme side is (ratio_of value) runs above.value_lowest.above attains in
          let least = All-contains (IsNoHigher f best) found (counts_of_runs s runs) start.greatest there within.0 in
          not_below (ratio_of ratio) (ratio_of value) is_below
          (at_most_trans (ratio_of value) (ratio_with f (counts_of_runs s runs)) (ratio_of ratio) above.value_lowest.above within.0 above.ratio_is.positive within.1
          (at_most_trans (ratio_with f (counts_of_runs s runs)) (ratio_with f best) (ratio_of ratio) within.0 start.some above.ratio_is.positive least above.from))

      -- nor has what attains the opposite end
      pub not_opposite : (all : List (List ℕ)) (end : End) → IsEndDone (opposite extreme) s budget query.agg all end → (runs : List Run) → IsAttained s.question (ratio_of end.value) runs →
          NotAt s.question (turned_ratio extreme (ratio_of value)) runs
      not_opposite all end done runs attains =
          not_beyond budget all extreme end done (ratio_of ratio) (ratio_of value) above.ratio_is.positive above.value_lowest.above is_below (runs_from side.picks counts)
          (above_attained schema constraints query seen nodes formed tree asking agg_is budget extreme side is key key_is all (ratio_with f best) ratio counts t value above) runs attains

  -- ---- where no search was cut short

  pub exact_of : (extreme : Extreme) (found : List (List ℕ)) (value : Frac) (mark : Mark) (proof : Proof) → IsEndSurely u seen extreme found (Some (record { value = value; mark = mark; proof = proof })) → Any (IsGiving s) found → IsExact mark
  exact_of extreme found value (marks.Exact runs) proof sure given = tt
  exact_of extreme found value marks.Outer proof sure given =
      absurd (none_give extreme sure.0 sure.1 given.1 (All-contains (HasNoRows sure.0.fraction) found given.1 sure.2 (given.0, given.2, given.3)) given.4)
