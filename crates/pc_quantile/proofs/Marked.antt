-- The end of a stand is right where it is exact, and licensed where it is outer.
use Rattle.std.proofs.Common.{◌≡◌, ℕ, suc, ◌≤◌, ℤ, pos, ◌≤ℤ◌, ◌<ℤ◌, Bool, true, false, ◌⊎◌, inl, inr, List, [], ◌∷◌, length, All, Any, Contains, IfSome, refl, sym, ap, subst, ◌∙◌, arith}
use Rattle.std.specs.Prelude.{nat_abs}
use Rattle.std.proofs.lemmas.Int.{ints}
use Rattle.std.proofs.lemmas.List.{length-map}
use Rattle.std.proofs.lemmas.List.Elements.{All-contains, All-cons, All-head, All-nil}
use Rattle.pc_num.specs.Scaled.{greatest_size}
use Rattle.pc_model.specs.declared.schema.Schema.{Schema}
use Rattle.pc_model.specs.declared.row.Row.{Row}
use Rattle.pc_model.specs.declared.row.Run.{Run}
use Rattle.pc_model.specs.declared.constraint.Constraint.{Constraint}
use Rattle.pc_model.specs.declared.tree.CutNode.{CutNode}
use Rattle.pc_model.specs.Accepted.{AreConstraints}
use Rattle.pc_model.specs.Aggregate.{asked as asked_of}
use Rattle.pc_model.specs.Cells.{IsSettledTree}
use Rattle.pc_model.specs.Right.{IsPossibleFor}
use Rattle.pc_model.specs.Right as plain
use Rattle.pc_model.specs.Runs.{runs_from}
use Rattle.pc_model.specs.WellFormed.{IsWellFormed}
use Rattle.pc_program_bound.specs.declared.program.Program.{Program}
use Rattle.pc_proof.specs.declared.answer.Answer.{Answer}
use Rattle.pc_proof.specs.declared.answer.Mark.{Mark}
use Rattle.pc_proof.specs.declared.answer.Mark.TheVariants as marks
use Rattle.pc_proof.specs.Setting.{Setting, seen, seen_count, seen_numbers}
use Rattle.pc_proof.specs.Unbroken.{IsExact, plain_mark}
use Rattle.pc_branch_licences.specs.Licensed.{BothTotals, IfOuter, IsSpent, MayGive}
use Rattle.pc_branch_licences.specs.Pools.{AreLawful, ShownFrom}
use Rattle.pc_branch_licences.specs.Shown.{counts_of_runs, runs_of_mark}
use Rattle.pc_branch_licences.proofs.Found.{shown-found}
use Rattle.pc_agg.specs.Grounds.{IsUnlistedIfNone}
use Rattle.pc_agg.proofs.Attained.{counted_runs}
use Rattle.pc_agg.proofs.Owing.{both_totals}
use Rattle.pc_agg.proofs.StandEnds.{left_open, none_held}
use Rattle.pc_agg_search.specs.declared.extreme.Extreme.{Extreme}
use Rattle.pc_agg_search.specs.declared.want.Want.{Want}
use Rattle.pc_agg_search.specs.declared.want.Want.TheVariants as wants
use Rattle.pc_agg_search.specs.Ends.{signed}
use Rattle.pc_agg_search.specs.Settings.{unseen}
use Rattle.pc_agg_search.specs.Wants.{IsDoubt, IsFound, Reaches, most_chosen, want_for, wanted_of}
use Rattle.pc_lang.specs.declared.quantile.Quantile.{Quantile}
use Rattle.pc_quantile.specs.declared.stand.Stand.{Stand}
use Rattle.pc_quantile.specs.Answered.{IsMarkedBy}
use Rattle.pc_quantile.specs.Climbing.{AreRungs, AreWanted, IsStand, number_on, program_after, want_after}
use Rattle.pc_quantile.specs.Licensed.{IsInnermost, LicensedEnd, MayPass}
use Rattle.pc_quantile.specs.Measure.{has_numbers}
use Rattle.pc_lang.specs.Quantiles.{IsQuantile}
use Rattle.pc_quantile.specs.Measured.{least_of, quantile_of}
use Rattle.pc_quantile.specs.Right.{HasQuantile, IsRightMark}
use Rattle.pc_quantile.proofs.Attained.{asking, at_cells, attained, folded, held_here, is_asked, rungs_here, s}
use Rattle.pc_quantile.proofs.Passed.{seen_none, seen_some}
use Rattle.pc_quantile.proofs.OnRungs.{candidate_on, innermost, next_to, not_past}

module _ (schema : Schema) (observed : List Row) (constraints : List Constraint) (asked : Quantile) (nodes : List CutNode) (formed : IsWellFormed schema) (limited : AreConstraints schema constraints)
    (well : IsQuantile schema asked) (tree : IsSettledTree schema constraints asked.chosen nodes) (budget : ℕ) (found : List (List ℕ)) where
  abbrev u : Setting
  u = unseen schema constraints (least_of asked) nodes

  abbrev here : Setting
  here = s schema observed constraints asked nodes formed limited well tree

  abbrev numbers : List ℤ
  numbers = seen_numbers here.question

  pub count_some : has_numbers numbers ≡ true → pos 0 <ℤ seen_count here.question
  count_some some = omega (arith, ints, seen_some numbers some, length-map (seen here.question) (asked_of (least_of asked)))

  pub count_none : has_numbers numbers ≡ false → seen_count here.question ≡ pos 0
  count_none none = omega (arith, ints, seen_none numbers none, length-map (seen here.question) (asked_of (least_of asked)))

  abbrev pub IsThere : List Run → Type 0
  IsThere runs = Contains found (counts_of_runs here runs)

  module _ (lawful : All (AreLawful u) found) (totals : IsUnlistedIfNone u budget found) (few_seen : length numbers ≤ 1_000_000) (extreme : Extreme) (stand : Stand) (is : IsStand u budget numbers extreme asked found stand) where
    abbrev Away : Program → Want → Type 0
    Away p want = All (λ counts. IsFound p want counts → ⊥) found

    lawful_at : (counts : List ℕ) → Contains found counts → AreLawful u counts
    lawful_at counts there = All-contains (AreLawful u) found counts lawful there

    rungs : AreRungs here numbers extreme is.rungs
    rungs = rungs_here schema observed constraints asked nodes formed limited well tree numbers extreme is.rungs is.are_rungs

    -- ---- an exact end

    pub exact_has : (runs : List Run) → Any (λ counts. IsFound stand.program stand.want counts × (runs ≡ runs_from stand.picks counts)) found → HasQuantile here.question asked (signed extreme stand.key) runs
    exact_has runs some =
        subst (HasQuantile here.question asked (signed extreme stand.key)) (sym some.4.1)
        (attained schema observed constraints asked nodes formed limited well tree extreme stand.picks is.picked some.1 (lawful_at some.1 (some.0, some.2, some.3)) budget found few_seen stand is refl some.4.0)

    pub exact_there : (runs : List Run) → Any (λ counts. IsFound stand.program stand.want counts × (runs ≡ runs_from stand.picks counts)) found → IsThere runs
    exact_there runs some =
        let own = lawful_at some.1 (some.0, some.2, some.3) in
        let counted = counted_runs schema constraints (least_of asked) (folded schema observed constraints asked nodes formed limited well tree) nodes formed (asking schema observed constraints asked nodes formed limited well tree)
        stand.picks some.1 (at_cells schema observed constraints asked nodes formed limited well tree extreme stand.picks is.picked) own in
        subst (Contains found) (sym (ap (counts_of_runs here) some.4.1 ∙ counted)) (some.0, some.2, some.3)

    pub mark_there : (mark : Mark) → IsMarkedBy stand found mark → All IsThere (runs_of_mark mark)
    mark_there (marks.Exact runs) some = All-cons IsThere runs [] (exact_there runs some) (All-nil IsThere)
    mark_there marks.Outer none = All-nil IsThere

    pub mark_right : (mark : Mark) → IsMarkedBy stand found mark → IsRightMark here.question asked (signed extreme stand.key) (plain_mark mark)
    mark_right (marks.Exact runs) some = exact_has runs some
    mark_right marks.Outer none = tt

    pub mark_exact : (mark : Mark) → IsMarkedBy stand found mark → Any (IsFound stand.program stand.want) found → IsExact mark
    mark_exact (marks.Exact runs) is_marked some = tt
    mark_exact marks.Outer none some = All-contains (λ counts. IsFound stand.program stand.want counts → ⊥) found some.1 none (some.0, some.2, some.3) some.4

    pub mark_outer : (mark : Mark) → IsMarkedBy stand found mark → found ≡ [] → plain.is_outer (plain_mark mark) ≡ true
    mark_outer (marks.Exact runs) some none = absurd (omega (arith, some.2, ap length none))
    mark_outer marks.Outer is_marked none = refl

    -- ---- an outer end

    spent : (answer : Answer) (p : Program) (want : Want) → ShownFrom here found answer → IsDoubt p want budget found → Away p want → (e : ℤ) × IsSpent here budget answer p e (wanted_of want) × Reaches want e
    spent answer p want from doubt away =
        let left = left_open found p want budget doubt away in
        (left.0, shown-found here budget answer found p left.0 (wanted_of want) left.1 from (none_held found p want away), left.2)

    -- where any list is wanted, none was found
    none_at_all : Away (most_chosen u) wants.Any → found ≡ []
    none_at_all away = by_list found lawful away
      where
        by_list : (list : List (List ℕ)) → All (AreLawful u) list → All (λ counts. IsFound (most_chosen u) wants.Any counts → ⊥) list → list ≡ []
        by_list [] own away = refl
        by_list (counts ∷ more) own away =
            let first = All-head (AreLawful u) counts more own in
            absurd (All-head (λ c. IsFound (most_chosen u) wants.Any c → ⊥) counts more away (record { sized = first.sized; within = first.within; met = first.met }, tt))

    both_spent : (answer : Answer) → ShownFrom here found answer → found ≡ [] → BothTotals here budget answer
    both_spent answer from none =
        let unlisted = totals none in
        (both_totals schema constraints (least_of asked) (folded schema observed constraints asked nodes formed limited well tree) nodes formed limited tree budget (asking schema observed constraints asked nodes formed limited well tree)
        found answer (record { none = none; most = unlisted.most; fewest = unlisted.fewest; by_most = unlisted.by_most; by_fewest = unlisted.by_fewest; meet = unlisted.meet }) from).0

    may_give : (side : Bool) → has_numbers numbers ≡ side → (answer : Answer) → ShownFrom here found answer → IsDoubt (most_chosen u) (want_for side) budget found → Away (most_chosen u) (want_for side) → MayGive here budget answer
    may_give true some answer from doubt away = inr (count_some some, both_spent answer from (none_at_all away))
    may_give false none answer from doubt away = inl (count_none none, spent answer (most_chosen u) wants.Gaining from doubt away)

    abbrev at : ℤ
    at = number_on extreme is.rungs is.place

    may_stand : (answer : Answer) → ShownFrom here found answer → Away stand.program stand.want → AreWanted u numbers extreme asked is.rungs is.place stand.program stand.want →
        MayPass here asked budget answer extreme at ⊎ (IsInnermost here extreme at × MayGive here budget answer)
    may_stand answer from away (inl after) =
        let doubt = subst (λ w. IsDoubt (program_after u extreme asked is.rungs is.place) w budget found) after.2 (subst (λ p. IsDoubt p stand.want budget found) after.1 is.doubt) in
        let gone = subst (λ w. Away (program_after u extreme asked is.rungs is.place) w) after.2 (subst (λ p. Away p stand.want) after.1 away) in
        let left = spent answer (program_after u extreme asked is.rungs is.place) (want_after numbers extreme asked is.rungs is.place) from doubt gone in
        inl (record {
          next = number_on extreme is.rungs (suc is.place);
          beside = next_to here extreme is.rungs rungs is.place is.inside after.0;
          most = left.0;
          spent = left.1;
          over = omega (arith, ints, left.2);
        })
    may_stand answer from away (inr last) =
        let doubt = subst (λ w. IsDoubt (most_chosen u) w budget found) last.2 (subst (λ p. IsDoubt p stand.want budget found) last.1 is.doubt) in
        let gone = subst (λ w. Away (most_chosen u) w) last.2 (subst (λ p. Away p stand.want) last.1 away) in
        inr (innermost here extreme is.rungs rungs is.place is.inside last.0, may_give (has_numbers numbers) refl answer from doubt gone)

    licensed : (answer : Answer) → ShownFrom here found answer → Away stand.program stand.want → LicensedEnd here asked budget answer extreme (signed extreme stand.key)
    licensed answer from away =
        subst (λ key. LicensedEnd here asked budget answer extreme (signed extreme key)) (sym is.key_is)
        (record { candidate = candidate_on here extreme is.rungs rungs is.place is.inside; may = may_stand answer from away is.wanted })

    pub mark_licensed : (answer : Answer) → ShownFrom here found answer → (mark : Mark) → IsMarkedBy stand found mark → IfOuter mark (LicensedEnd here asked budget answer extreme (signed extreme stand.key))
    mark_licensed answer from (marks.Exact runs) some = tt
    mark_licensed answer from marks.Outer none = licensed answer from none

    -- ---- every list

    pub held : (lost : List Row) → IsPossibleFor here.question lost → IfSome (quantile_of here.question asked lost) (λ w. signed extreme w ≤ℤ stand.key)
    held lost possible =
        subst (λ key. IfSome (quantile_of here.question asked lost) (λ w. signed extreme w ≤ℤ key)) (sym is.key_is)
        (not_past here extreme is.rungs rungs is.place is.inside asked (is_asked schema observed constraints asked nodes formed limited well tree)
        (held_here schema observed constraints asked nodes formed limited well tree numbers extreme is.rungs is.place is.held) lost possible)

    pub small_key : nat_abs stand.key ≤ greatest_size
    small_key = subst (λ key. nat_abs key ≤ greatest_size) (sym is.key_is) (is.are_rungs.small is.place (pos 0) is.inside)
