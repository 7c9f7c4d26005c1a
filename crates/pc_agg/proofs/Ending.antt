-- An end that a limit and its tree show breaks no rule, and where it stays outer it is licensed.
use Rattle.std.proofs.Common.{◌≡◌, ℕ, ◌≤◌, ◌^◌, ℤ, pos, neg_ℤ, nat_abs, ◌+ℤ◌, ◌-ℤ◌, ◌*ℤ◌, ◌≤ℤ◌, true, inl, inr, ◌⊎◌, List, [], map, All, Contains, Option, Some, None, refl, sym, ap, ap₂, subst, ◌∙◌, true≢false, arith}
use Rattle.std.specs.Prelude.{IfSome, MatchOption, ⊤}
use Rattle.std.specs.Int.{int_max}
use Rattle.std.proofs.lemmas.Int.{ints, clamps}
use Rattle.std.proofs.lemmas.List.{length-map}
use Rattle.std.proofs.lemmas.List.Elements.{All-contains, All-nil, All-cons}
use Rattle.pc_model.specs.declared.schema.Schema.{Schema}
use Rattle.pc_model.specs.declared.row.Row.{Row}
use Rattle.pc_model.specs.declared.row.Run.{Run}
use Rattle.pc_model.specs.declared.constraint.Constraint.{Constraint}
use Rattle.pc_model.specs.declared.tree.CutNode.{CutNode}
use Rattle.pc_model.specs.declared.tree.Tree.{Tree}
use Rattle.pc_model.specs.declared.query.Agg.{Agg}
use Rattle.pc_model.specs.declared.query.Agg.TheVariants.{Count, Sum, Min, Max, Avg}
use Rattle.pc_model.specs.declared.query.Query.{Query}
use Rattle.pc_model.specs.declared.query.Folded.{Folded}
use Rattle.pc_model.specs.WellFormed.{IsWellFormed}
use Rattle.pc_model.specs.Accepted.{AreConstraints}
use Rattle.pc_model.specs.Aggregate.{Ratio, whole, IsAtMost}
use Rattle.pc_model.specs.Right.{IsAttained, always_has_value}
use Rattle.pc_model.specs.Cells.{IsSettledTree}
use Rattle.pc_program_bound.specs.declared.program.Program.{Program}
use Rattle.pc_program_bound.specs.Allocation.{IsProgram, worth}
use Rattle.pc_proof.specs.declared.answer.Mark.{Mark}
use Rattle.pc_proof.specs.declared.answer.Mark.TheVariants as marks
use Rattle.pc_proof.specs.declared.answer.Proof.{Proof}
use Rattle.pc_proof.specs.declared.answer.Proof.TheVariants as proofs
use Rattle.pc_proof.specs.declared.answer.End.{End}
use Rattle.pc_proof.specs.declared.answer.Answer.{Answer}
use Rattle.pc_proof.specs.Setting.{Setting, cells, area_of}
use Rattle.pc_proof.specs.Table.{limit, ratio_of, bound_for, IsFormed, Shows, ShowsHigh, ShowsLow, high_program, low_program}
use Rattle.pc_proof.specs.Unbroken.{HoldsMark, MayShow, IsExact, IsWellPosed}
use Rattle.pc_branch.specs.Outcome.{IsMost}
use Rattle.pc_branch_licences.specs.Licensed.{IsSpent, IfOuter, LicensedHigh, LicensedLow}
use Rattle.pc_branch_licences.specs.Pools.{AreLawful, ShownFrom}
use Rattle.pc_branch_licences.specs.Searched.{HighSearched, LowSearched}
use Rattle.pc_branch_licences.specs.Shown.{runs_of_mark, shown_runs, counts_of_runs, IsShown}
use Rattle.pc_branch_licences.specs.Totals.{seen_value}
use Rattle.pc_branch_licences.specs.Wanted.{nothing, LeavesOpen}
use Rattle.pc_branch_licences.proofs.Attained.{high-attained, low-attained}
use Rattle.pc_branch_licences.proofs.Trees.{licence-open}
use Rattle.pc_agg_search.specs.declared.limit.Limit.{Limit}
use Rattle.pc_agg.specs.declared.aim.Aim.{Aim}
use Rattle.pc_agg_search.specs.declared.extreme.Extreme.{Extreme}
use Rattle.pc_agg_search.specs.declared.extreme.Extreme.TheVariants.{Low, High}
use Rattle.pc_agg.specs.Answered.{IsEnd}
use Rattle.pc_agg_search.specs.Asked.{Asking, setting_for}
use Rattle.pc_agg_search.specs.Ends.{gain_towards, signed, HoldsEnd, program_towards}
use Rattle.pc_agg_search.specs.Fitting.{AreObserved, IsFitEnd}
use Rattle.pc_agg_search.specs.Limits.{IsLimit, IsReached, IsCutShort}
use Rattle.pc_agg.specs.Marks.{IsMarked, IsAim, IsAmong}
use Rattle.pc_agg.specs.Observed.{folded_value}
use Rattle.pc_agg_search.specs.Settings.{unseen}
use Rattle.pc_agg.proofs.Attained.{attained, of_cells, counted_runs}
use Rattle.pc_agg_search.proofs.ProgramEnds.{is_program}
use Rattle.pc_agg_search.proofs.Shorts.{fit_limit}
use Rattle.pc_agg.proofs.EndSizes.{end_value}
use Rattle.pc_agg.proofs.Questions.{folded_is, posed, tree_for}

-- ---- a tree whose bound is within a limit

pub within_limit : (k : Option ℤ) (most : ℤ) → MatchOption k ⊤ (λ x. x ≤ℤ most) → nat_abs most ≤ 10 ^ 37 → IfSome k (λ x. x ≤ℤ limit)
within_limit None most within small = tt
within_limit (Some x) most within small = omega (arith, ints, within, small)

passes_within : (k : Option ℤ) (most : ℤ) (P : ℤ → Type 0) → MatchOption k ⊤ (λ x. x ≤ℤ most) → nat_abs most ≤ 10 ^ 37 → ((x : ℤ) → x ≤ℤ most → P x) → IfSome k (λ x. P (int_max x (neg_ℤ limit)))
passes_within None most P within small pass = tt
passes_within (Some x) most P within small pass = pass (int_max x (neg_ℤ limit)) (omega (arith, ints, clamps, within, small))

shows_within : (p : Program) (budget : ℕ) (found : Limit) (P : ℤ → Type 0) → IsLimit p budget found → ((x : ℤ) → x ≤ℤ found.most → P x) → Shows p found.tree P
shows_within p budget found P is pass = record {
  sound = record { proves = is.proves; small = within_limit (bound_for p found.tree) found.most is.within is.small };
  passes = passes_within (bound_for p found.tree) found.most P is.within is.small pass;
}

high_passes : (seen most number x : ℤ) → number ≡ seen +ℤ most → x ≤ℤ most → IsAtMost (whole (seen +ℤ x)) (whole number)
high_passes seen most number x is less = omega (arith, ints, is, less)

low_passes : (seen most number x : ℤ) → number ≡ seen +ℤ neg_ℤ most → x ≤ℤ most → IsAtMost (whole number) (whole (seen -ℤ x))
low_passes seen most number x is less = omega (arith, ints, is, less)

may_show : (mark : Mark) (tree : Tree) → MayShow mark (proofs.Tree tree)
may_show (marks.Exact runs) tree = tt
may_show marks.Outer tree = tt

-- ---- an outer end

no_outer : (p : Program) (most : ℤ) (picks : List Row) (found : List (List ℕ)) (mark : Mark) (counts : List ℕ) → IsMarked p most picks found mark → Contains found counts → worth p counts ≡ most → IsExact mark
no_outer p most picks found (marks.Exact runs) counts marked there is = tt
no_outer p most picks found marks.Outer counts marked there is = absurd (All-contains (λ c. worth p c ≡ most → ⊥) found counts marked there is)

-- what a search reached is among what was found
reached_mark : (p : Program) (most : ℤ) (picks : List Row) (found : List (List ℕ)) (mark : Mark) (own : Option (List ℕ)) → IsMarked p most picks found mark → IfSome own (Contains found) → IsReached p most own → IsExact mark
reached_mark p most picks found mark None marked among reached = absurd reached
reached_mark p most picks found mark (Some counts) marked among reached = no_outer p most picks found mark counts marked among reached

-- a limit that was not reached leaves its program open
open_limit : (p : Program) (budget : ℕ) (found : Limit) (picks : List Row) (pool : List (List ℕ)) → IsProgram p → IsLimit p budget found → IsAmong pool found → IsMarked p found.most picks pool marks.Outer → LeavesOpen p budget found.most nothing
open_limit p budget found picks pool program is among marked = by_why is.why
  where
    by_why : IsReached p found.most found.found ⊎ IsCutShort p budget found.most found.found found.tree → LeavesOpen p budget found.most nothing
    by_why (inl reached) = absurd (reached_mark p found.most picks pool marks.Outer found.found marked among reached)
    by_why (inr cut) = licence-open p budget found.most found.found nothing _ program cut.licence cut.whole tt

open_spent : (s : Setting) (budget : ℕ) (answer : Answer) (p : Program) (e : ℤ) → LeavesOpen p budget e nothing → IsSpent s budget answer p e nothing
open_spent s budget answer p e left = record { left = left; found = λ place d inside allowed has. has }

minus_is : (n a b : ℤ) → n ≡ a +ℤ neg_ℤ b → n ≡ a -ℤ b
minus_is n a b is = omega (arith, ints, is)

-- no shown runs have counts of that worth
shown_none : (s : Setting) (answer : Answer) (found : List (List ℕ)) (p : Program) (most : ℤ) → ShownFrom s found answer → All (λ counts. worth p counts ≡ most → ⊥) found →
    All (λ runs. worth p (counts_of_runs s runs) ≡ most → ⊥) (shown_runs answer)
shown_none s answer found p most from none place d inside =
    All-contains (λ counts. worth p counts ≡ most → ⊥) found _ none (from place d inside)

-- ---- an end of a count or a sum, high or low

abbrev pub program_at : Extreme → Setting → Agg → Ratio → Program
program_at High s agg v = high_program s agg v
program_at Low s agg v = low_program s agg v

abbrev pub ShowsEnd : Extreme → Setting → Agg → Ratio → Proof → Type 0
ShowsEnd High s agg v proof = ShowsHigh s agg v proof
ShowsEnd Low s agg v proof = ShowsLow s agg v proof

abbrev pub LicensedEnd : Extreme → Setting → ℕ → Answer → Agg → Ratio → Proof → Type 0
LicensedEnd High s budget answer agg v proof = LicensedHigh s budget answer agg v proof
LicensedEnd Low s budget answer agg v proof = LicensedLow s budget answer agg v proof

abbrev pub SearchedEnd : Extreme → Setting → ℕ → Agg → Ratio → Proof → Type 0
SearchedEnd High s budget agg v proof = HighSearched s budget agg v proof
SearchedEnd Low s budget agg v proof = LowSearched s budget agg v proof

-- what an end that the code made has, whatever the answer shows beside it
pub record IsEndDone (extreme : Extreme) (s : Setting) (budget : ℕ) (agg : Agg) (found : List (List ℕ)) (end : End) : Type 0 where
  pub holds : HoldsEnd s extreme end
  pub formed : IsFormed end.value end.proof
  pub shows : ShowsEnd extreme s agg (ratio_of end.value) end.proof
  pub searched : SearchedEnd extreme s budget agg (ratio_of end.value) end.proof
  pub fits : AreObserved s → IsFitEnd agg end
  pub licensed : (answer : Answer) → ShownFrom s found answer → IfOuter end.mark (LicensedEnd extreme s budget answer agg (ratio_of end.value) end.proof)
  pub from : All (λ runs. Contains found (counts_of_runs s runs)) (runs_of_mark end.mark)

-- that of a whole number, which nothing shown attains where it is outer
pub record IsDone (extreme : Extreme) (s : Setting) (budget : ℕ) (agg : Agg) (found : List (List ℕ)) (end : End) : Type 0 where
  pub base : IsEndDone extreme s budget agg found end
  pub is_whole : end.value.den ≡ pos 1
  pub unshown : (answer : Answer) → ShownFrom s found answer → IfOuter end.mark (IsShown s answer (ratio_of end.value) → ⊥)

module _ (s : Setting) (budget : ℕ) (found : Limit) (number : ℤ) where
  abbrev v : Ratio
  v = whole number

  end_shown : (extreme : Extreme) (agg : Agg) → always_has_value agg ≡ true → IsLimit (program_at extreme s agg v) budget found → number ≡ seen_value agg s +ℤ signed extreme found.most → ShowsEnd extreme s agg v (proofs.Tree found.tree)
  end_shown High Count valued is number_is = shows_within (high_program s Count v) budget found _ is (λ x less. high_passes (seen_value Count s) found.most number x number_is less)
  end_shown High Sum valued is number_is = shows_within (high_program s Sum v) budget found _ is (λ x less. high_passes (seen_value Sum s) found.most number x number_is less)
  end_shown Low Count valued is number_is = shows_within (low_program s Count v) budget found _ is (λ x less. low_passes (seen_value Count s) found.most number x number_is less)
  end_shown Low Sum valued is number_is = shows_within (low_program s Sum v) budget found _ is (λ x less. low_passes (seen_value Sum s) found.most number x number_is less)
  end_shown extreme Min valued is number_is = absurd (true≢false (sym valued))
  end_shown extreme Max valued is number_is = absurd (true≢false (sym valued))
  end_shown extreme Avg valued is number_is = absurd (true≢false (sym valued))

  end_licensed : (answer : Answer) (extreme : Extreme) (agg : Agg) → always_has_value agg ≡ true → LeavesOpen (program_at extreme s agg v) budget found.most nothing → number ≡ seen_value agg s +ℤ signed extreme found.most →
      LicensedEnd extreme s budget answer agg v (proofs.Tree found.tree)
  end_licensed answer High Count valued left number_is = (found.most, open_spent s budget answer (high_program s Count v) found.most left, ap (λ n. n *ℤ pos 1) number_is)
  end_licensed answer High Sum valued left number_is = (found.most, open_spent s budget answer (high_program s Sum v) found.most left, ap (λ n. n *ℤ pos 1) number_is)
  end_licensed answer Low Count valued left number_is = (found.most, open_spent s budget answer (low_program s Count v) found.most left, ap (λ n. n *ℤ pos 1) (minus_is number (seen_value Count s) found.most number_is))
  end_licensed answer Low Sum valued left number_is = (found.most, open_spent s budget answer (low_program s Sum v) found.most left, ap (λ n. n *ℤ pos 1) (minus_is number (seen_value Sum s) found.most number_is))
  end_licensed answer extreme Min valued left number_is = absurd (true≢false (sym valued))
  end_licensed answer extreme Max valued left number_is = absurd (true≢false (sym valued))
  end_licensed answer extreme Avg valued left number_is = absurd (true≢false (sym valued))

  end_searched : (extreme : Extreme) (agg : Agg) → IsLimit (program_at extreme s agg v) budget found → SearchedEnd extreme s budget agg v (proofs.Tree found.tree)
  end_searched High agg is = record { preorder = is.preorder; search = is.search }
  end_searched Low agg is = record { preorder = is.preorder; search = is.search }

-- shown runs that attain an end are worth the limit
end_attained : (extreme : Extreme) (s : Setting) (most number : ℤ) (runs : List Run) → IsWellPosed s.question → IsSettledTree s.question.schema s.question.constraints (area_of s.question) s.nodes → always_has_value s.question.query.agg ≡ true →
    IsMost (program_at extreme s s.question.query.agg (whole number)) most → number ≡ seen_value s.question.query.agg s +ℤ signed extreme most → IsAttained s.question (whole number) runs →
    worth (program_at extreme s s.question.query.agg (whole number)) (counts_of_runs s runs) ≡ most
end_attained High s most number runs posed tree valued greatest is attains =
    high-attained s (whole number) most runs posed tree valued greatest (subst (λ n. IsAttained s.question (whole n) runs) is attains)
end_attained Low s most number runs posed tree valued greatest is attains =
    low-attained s (whole number) most runs posed tree valued greatest
    (subst (λ n. IsAttained s.question (whole n) runs) (minus_is number (seen_value s.question.query.agg s) most is) attains)

module _ (schema : Schema) (constraints : List Constraint) (query : Query) (seen : Folded) (nodes : List CutNode) (formed : IsWellFormed schema) (limited : AreConstraints schema constraints)
    (tree : IsSettledTree schema constraints query.chosen nodes) (always : always_has_value query.agg ≡ true) (budget : ℕ)
    (found : List (List ℕ)) (lawful : All (AreLawful (unseen schema constraints query nodes)) found) (asking : Asking schema constraints query seen)
    (few_seen : seen.count ≤ 1_000_000) (small_seen : nat_abs seen.sum ≤ 2 ^ 83)
    (extreme : Extreme) (aim : Aim) (is_aim : IsAim (unseen schema constraints query nodes) query.agg budget extreme aim) (among : IsAmong found aim.limit) where
  abbrev u : Setting
  u = unseen schema constraints query nodes

  abbrev s : Setting
  s = setting_for schema constraints query seen nodes asking

  abbrev p : Program
  p = program_towards u query.agg extreme

  abbrev number : ℤ
  number = folded_value query.agg seen +ℤ signed extreme aim.limit.most

  abbrev at_end : Program
  at_end = program_at extreme s query.agg (whole number)

  abbrev end_with : Mark → End
  end_with mark = record { value = record { num = number; den = pos 1 }; mark = mark; proof = proofs.Tree aim.limit.tree }

  -- the program of the end is that which its statement names
  towards_is : (e : Extreme) (agg : Agg) → always_has_value agg ≡ true → program_towards u agg e ≡ program_at e s agg (whole number)
  towards_is High Count valued = refl
  towards_is High Sum valued = refl
  towards_is Low Count valued = refl
  towards_is Low Sum valued = refl
  towards_is e Min valued = absurd (true≢false (sym valued))
  towards_is e Max valued = absurd (true≢false (sym valued))
  towards_is e Avg valued = absurd (true≢false (sym valued))

  at_limit : IsLimit at_end budget aim.limit
  at_limit = subst (λ q. IsLimit q budget aim.limit) (towards_is extreme query.agg always) is_aim.limit

  number_is : number ≡ seen_value query.agg s +ℤ signed extreme aim.limit.most
  number_is = ap (λ n. n +ℤ signed extreme aim.limit.most) (folded_is schema constraints query seen nodes formed asking query.agg refl)

  -- the end that the code makes
  end_is : (end : End) → IsEnd seen query.agg extreme found aim end → end ≡ end_with end.mark
  end_is end is = ap₂ (λ value proof. record { value = value; mark = end.mark; proof = proof }) is.value is.proof

  end_marked : (end : End) → IsEnd seen query.agg extreme found aim end → IsMarked p aim.limit.most aim.picks found end.mark
  end_marked end is = subst (λ q. IsMarked q aim.limit.most aim.picks found end.mark) is_aim.limit.program is.marked

  holds_mark : (mark : Mark) → IsMarked p aim.limit.most aim.picks found mark → HoldsMark s (record { num = number; den = pos 1 }) mark
  holds_mark marks.Outer marked = tt
  holds_mark (marks.Exact runs) marked =
      let own = subst (AreLawful u) marked.3 (lawful marked.0 marked.1 marked.2) in
      subst (IsAttained s.question (whole number)) (sym marked.4.1)
      (attained schema constraints query seen nodes formed query.agg extreme aim.picks is_aim.picked marked.1 asking aim.limit.most number own marked.4.0 refl always number_is)

  holds_end : (mark : Mark) → IsMarked p aim.limit.most aim.picks found mark → HoldsEnd s extreme (end_with mark)
  holds_end mark marked = by_side extreme (holds_mark mark marked) (end_shown s budget aim.limit number extreme query.agg always at_limit number_is)
    where
      by_side : (e : Extreme) → HoldsMark s (record { num = number; den = pos 1 }) mark → ShowsEnd e s query.agg (whole number) (proofs.Tree aim.limit.tree) → HoldsEnd s e (end_with mark)
      by_side High held shows = record { marked = held; shown = shows; kind = may_show mark aim.limit.tree }
      by_side Low held shows = record { marked = held; shown = shows; kind = may_show mark aim.limit.tree }

  searched_end : SearchedEnd extreme s budget query.agg (whole number) (proofs.Tree aim.limit.tree)
  searched_end = end_searched s budget aim.limit number extreme query.agg at_limit

  shown_end : ShowsEnd extreme s query.agg (whole number) (proofs.Tree aim.limit.tree)
  shown_end = end_shown s budget aim.limit number extreme query.agg always at_limit number_is

  licensed_end : (answer : Answer) (mark : Mark) → IsMarked p aim.limit.most aim.picks found mark → IfOuter mark (LicensedEnd extreme s budget answer query.agg (whole number) (proofs.Tree aim.limit.tree))
  licensed_end answer (marks.Exact runs) marked = tt
  licensed_end answer marks.Outer marked =
      let program = is_program constraints (cells u) (map (gain_towards u query.agg extreme) (cells u)) schema limited (length-map (cells u) (gain_towards u query.agg extreme)) in
      let left = open_limit p budget aim.limit aim.picks found program is_aim.limit among marked in
      end_licensed s budget aim.limit number answer extreme query.agg always (subst (λ q. LeavesOpen q budget aim.limit.most nothing) (towards_is extreme query.agg always) left) number_is

  unshown_end : (answer : Answer) (mark : Mark) → IsMarked p aim.limit.most aim.picks found mark → ShownFrom s found answer → IfOuter mark (IsShown s answer (whole number) → ⊥)
  unshown_end answer (marks.Exact runs) marked from = tt
  unshown_end answer marks.Outer marked from = λ shown.
      let none = subst (λ q. All (λ counts. worth q counts ≡ aim.limit.most → ⊥) found) (towards_is extreme query.agg always) marked in
      let reached = end_attained extreme s aim.limit.most number shown.1 (posed schema constraints query seen nodes formed asking) (tree_for schema constraints query seen nodes formed asking tree) always at_limit.most number_is shown.4 in
      let away = subst (λ runs. worth at_end (counts_of_runs s runs) ≡ aim.limit.most → ⊥) shown.3 (shown_none s answer found at_end aim.limit.most from none shown.0 shown.1 shown.2) in
      away reached

  -- the runs of the end have counts that were found
  mark_from : (mark : Mark) → IsMarked p aim.limit.most aim.picks found mark → All (λ runs. Contains found (counts_of_runs s runs)) (runs_of_mark mark)
  mark_from marks.Outer marked = All-nil (λ runs. Contains found (counts_of_runs s runs))
  mark_from (marks.Exact runs) marked =
      let own = subst (AreLawful u) marked.3 (lawful marked.0 marked.1 marked.2) in
      let rows = of_cells schema constraints query seen nodes formed query.agg extreme aim.picks is_aim.picked in
      let counted = counted_runs schema constraints query seen nodes formed asking aim.picks marked.1 rows own in
      All-cons (λ r. Contains found (counts_of_runs s r)) runs []
      (subst (Contains found) (sym (ap (counts_of_runs s) marked.4.1 ∙ counted)) (marked.0, marked.2, marked.3))
      (All-nil (λ r. Contains found (counts_of_runs s r)))

  -- where the search was not cut short, the end is exact
  exact_end : (mark : Mark) → IsMarked p aim.limit.most aim.picks found mark → IsReached p aim.limit.most aim.limit.found → IsExact mark
  exact_end mark marked reached = reached_mark p aim.limit.most aim.picks found mark aim.limit.found marked among reached

  done_with : (mark : Mark) → IsMarked p aim.limit.most aim.picks found mark → IsDone extreme s budget query.agg found (end_with mark)
  done_with mark marked = record {
    base = record {
      holds = holds_end mark marked;
      formed = record { positive = omega (arith, ints); ratio = tt };
      shows = shown_end;
      searched = searched_end;
      fits = λ seen_rows. record { value = end_value schema constraints query nodes formed limited tree budget extreme aim is_aim seen few_seen small_seen always; proof = fit_limit p budget aim.limit is_aim.limit };
      licensed = λ answer from. licensed_end answer mark marked;
      from = mark_from mark marked;
    };
    is_whole = refl;
    unshown = λ answer. unshown_end answer mark marked;
  }

  pub end_done : (end : End) → IsEnd seen query.agg extreme found aim end → IsDone extreme s budget query.agg found end
  end_done end is = subst (IsDone extreme s budget query.agg found) (sym (end_is end is)) (done_with end.mark (end_marked end is))

  pub end_exact : (end : End) → IsEnd seen query.agg extreme found aim end → IsReached p aim.limit.most aim.limit.found → IsExact end.mark
  end_exact end is reached = exact_end end.mark (end_marked end is) reached
