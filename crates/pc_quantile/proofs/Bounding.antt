-- The answers of the calls that lead to a quantile's range owe what they must.
use Rattle.std.proofs.Common.{◌≡◌, ℕ, ◌<◌, ◌≤◌, Bool, List, [], length, map, All, Any, IsSomeAnd, None, refl, sym, ap, subst, ◌∙◌, arith, get_or, ◌&&◌}
use Rattle.std.specs.Prelude.{nat_abs}
use Rattle.std.specs.List.{AllPass}
use Rattle.std.proofs.lemmas.List.{length-append}
use Rattle.std.proofs.lemmas.List.Elements.{All-append, All-map}
use Rattle.pc_num.specs.Scaled.{greatest_size}
use Rattle.pc_model.specs.declared.schema.Schema.{Schema}
use Rattle.pc_model.specs.declared.row.Row.{Row}
use Rattle.pc_model.specs.declared.constraint.Constraint.{Constraint}
use Rattle.pc_model.specs.declared.query.Query.{Query}
use Rattle.pc_model.specs.declared.tree.CutNode.{CutNode}
use Rattle.pc_model.specs.declared.tree.Tree.{Tree}
use Rattle.pc_model.specs.Accepted.{IsColumnWhere, IsNumeric}
use Rattle.pc_model.specs.Aggregate.{asked as asked_of, is_in_group, kept}
use Rattle.pc_model.specs.Membership.{in_domain, is_in}
use Rattle.pc_model.specs.WellFormed.{IsWellFormed}
use Rattle.pc_proof.proofs.Numbers.{All-kept}
use Rattle.pc_proof.proofs.RowNumbers.{asked_small}
use Rattle.pc_model.specs.Cells.{IsSettledTree}
use Rattle.pc_proof.specs.declared.answer.Lack.{Lack}
use Rattle.pc_proof.specs.declared.answer.Why.{Why}
use Rattle.pc_proof.specs.declared.answer.AlwaysBy.TheVariants as alwayses
use Rattle.pc_proof.specs.Setting.{Setting, seen_numbers}
use Rattle.pc_proof.specs.Table.{ShowsImpossible}
use Rattle.pc_proof.proofs.Shown.{always_holds, impossible_holds}
use Rattle.pc_branch_licences.specs.Licensed.{IsSettledLack}
use Rattle.pc_branch_licences.specs.Pools.{AreLawful}
use Rattle.pc_agg.specs.declared.grounds.Grounds.{Grounds}
use Rattle.pc_agg.specs.Extremes.{IsLackFrom}
use Rattle.pc_agg.specs.Grounds.{AreAlways, AreGrounds, AreGroundsSurely, IsLacking, IsLackingSurely, IsUnlistedIfNone}
use Rattle.pc_agg.specs.Settling.{AreRowsOfCells, IsOfCells}
use Rattle.pc_agg.proofs.Lacks.{IsObserving, any_grown, doubt_grown, lack_done, lack_settled, lacking_grown, surely_grown, unlisted_grown}
use Rattle.pc_agg.proofs.Owing.{IsLackDone, impossible_here}
use Rattle.pc_agg_search.specs.declared.extreme.Extreme.TheVariants.{Low}
use Rattle.pc_agg_search.specs.Easy.{IsEasy}
use Rattle.pc_agg_search.specs.Problem.{IsEasyFor}
use Rattle.pc_agg_search.specs.Settings.{unseen}
use Rattle.pc_agg_search.specs.Wants.{IsDoubt, IsFound, most_chosen, want_for}
use Rattle.pc_quantile.specs.declared.answer.QuantileAnswer.{QuantileAnswer}
use Rattle.pc_quantile.specs.declared.bounds.Pair.{Pair}
use Rattle.pc_quantile.specs.declared.bounds.Pair.TheVariants as pairs
use Rattle.pc_quantile.specs.declared.measure.Measure.{Measure}
use Rattle.pc_lang.specs.declared.quantile.Quantile.{Quantile}
use Rattle.pc_quantile.specs.declared.stand.Stand.{Stand}
use Rattle.pc_quantile.specs.Answered.{AreStands, IsAlwaysFrom, IsAnswerOf, IsBetween, IsJudged, IsPairOf, IsPairSurely, impossible}
use Rattle.pc_quantile.specs.Climbing.{AllowsNone, HaveValue}
use Rattle.pc_quantile.specs.Licensed.{IsOwed}
use Rattle.pc_quantile.specs.Measure.{IsMeasured, cells_for, has_numbers}
use Rattle.pc_lang.specs.Quantiles.{IsQuantile}
use Rattle.pc_quantile.specs.Measured.{least_of}
use Rattle.pc_quantile.proofs.Attained.{asking, at_cells, folded, is_asked, s}
use Rattle.pc_quantile.proofs.Marked.{count_none, count_some}
use Rattle.pc_quantile.proofs.Owed.{no_counts, no_quantile, owed_always, owed_impossible, owed_judged}

module _ (m : Measure) (measured : IsMeasured m) (observed : List Row) where
  abbrev schema : Schema
  schema = m.problem.schema.now

  abbrev constraints : List Constraint
  constraints = m.problem.constraints.now

  abbrev asked : Quantile
  asked = m.asked.now

  abbrev nodes : List CutNode
  nodes = m.problem.cells.now.tree.nodes

  abbrev budget : ℕ
  budget = m.problem.nodes

  abbrev u : Setting
  u = unseen schema constraints (least_of asked) nodes

  pub well : IsQuantile schema asked
  well = record {
    some = measured.some;
    most = measured.most;
    few = measured.few;
    numeric = subst (λ (query : Query). IsSomeAnd query.column (IsColumnWhere IsNumeric schema)) measured.query measured.numbers;
    chosen = measured.chosen;
  }

  pub tree : IsSettledTree schema constraints asked.chosen nodes
  tree = subst (λ (query : Query). IsSettledTree schema constraints query.chosen nodes) measured.query measured.posed.found.tree

  abbrev here : Setting
  here = s schema observed constraints asked nodes measured.posed.formed measured.posed.limited well tree

  -- the cells are those of the least number's query
  same : cells_for m ≡ u
  same = ap (λ query. unseen schema constraints query nodes) measured.query

  module _ (seen_is : seen_numbers here.question ≡ m.seen.now) where
    abbrev side : Bool
    side = has_numbers (seen_numbers here.question)

    side_is : has_numbers m.seen.now ≡ side
    side_is = ap has_numbers (sym seen_is)

    few_seen : length (seen_numbers here.question) ≤ 1_000_000
    few_seen = subst (λ numbers. length numbers ≤ 1_000_000) (sym seen_is) measured.few_seen

    observing : IsObserving here side
    observing = record {
      some = count_some schema observed constraints asked nodes measured.posed.formed measured.posed.limited well tree budget [];
      none = count_none schema observed constraints asked nodes measured.posed.formed measured.posed.limited well tree budget [];
    }

    -- ---- no list

    pub owes_impossible : (why : Why) → ShowsImpossible (cells_for m) why → IsOfCells budget why → IsOwed here asked budget impossible
    owes_impossible why shows of =
        owed_impossible schema observed constraints asked nodes measured.posed.formed measured.posed.limited well tree budget
        (λ lost possible.
        impossible_holds here (is_asked schema observed constraints asked nodes measured.posed.formed measured.posed.limited well tree).posed tree lost possible why
        (impossible_here schema constraints (least_of asked) (folded schema observed constraints asked nodes measured.posed.formed measured.posed.limited well tree) nodes measured.posed.formed measured.posed.limited tree budget
        (asking schema observed constraints asked nodes measured.posed.formed measured.posed.limited well tree) why (subst (λ v. ShowsImpossible v why) same shows) of))

    pub owes_empty : AllowsNone (cells_for m) → IsOwed here asked budget impossible
    owes_empty allows =
        owed_impossible schema observed constraints asked nodes measured.posed.formed measured.posed.limited well tree budget
        (no_counts schema observed constraints asked nodes measured.posed.formed measured.posed.limited well tree budget (subst AllowsNone same allows))

    -- ---- no list has a row

    pub owes_always : (by_tree : Tree) (found : List (List ℕ)) (answer : QuantileAnswer) → AreAlways (cells_for m) (has_numbers m.seen.now) budget by_tree found → (IsEasy schema constraints → 0 < length found) →
        IsAlwaysFrom m found answer → IsOwed here asked budget answer
    owes_always by_tree found answer are sure is =
        let always = subst (λ v. AreAlways v (has_numbers m.seen.now) budget by_tree found) same are in
        subst (IsOwed here asked budget) (sym is.answer_is)
        (owed_always schema observed constraints asked nodes measured.posed.formed measured.posed.limited well tree budget found always.lawful always.totals is.picks (subst (λ v. AreRowsOfCells v is.picks) same is.rows)
        (λ lost possible.
        no_quantile schema observed constraints asked nodes measured.posed.formed measured.posed.limited well tree budget lost
        (always_holds here (is_asked schema observed constraints asked nodes measured.posed.formed measured.posed.limited well tree).posed tree lost possible (alwayses.Tree by_tree) refl
        (observing.none (sym side_is ∙ always.unseen), always.shows))) sure)

    -- ---- both ends

    module _ (grounds : Grounds) (are : AreGrounds (cells_for m) (has_numbers m.seen.now) budget grounds) (low high : Stand) (found : List (List ℕ))
        (stands : AreStands (cells_for m) budget m.seen.now asked grounds.found low high found) where
      ours : AreGrounds u side budget grounds
      ours = subst (λ v. AreGrounds v side budget grounds) same (subst (λ b. AreGrounds (cells_for m) b budget grounds) side_is are)

      both : AreStands u budget (seen_numbers here.question) asked grounds.found low high found
      both = subst (λ v. AreStands v budget (seen_numbers here.question) asked grounds.found low high found) same (subst (λ numbers. AreStands (cells_for m) budget numbers asked grounds.found low high found) (sym seen_is) stands)

      lawful : All (AreLawful u) found
      lawful = subst (All (AreLawful u)) (sym both.grown) (All-append (AreLawful u) grounds.found both.more ours.lawful both.lawful)

      totals : IsUnlistedIfNone u budget found
      totals = subst (IsUnlistedIfNone u budget) (sym both.grown) (unlisted_grown u budget grounds.found both.more ours.totals)

      rows : AreRowsOfCells u low.picks
      rows = at_cells schema observed constraints asked nodes measured.posed.formed measured.posed.limited well tree Low low.picks both.low_stands.picked

      lacking : IsLacking u side budget found grounds.lacking
      lacking = subst (λ l. IsLacking u side budget l grounds.lacking) (sym both.grown) (lacking_grown u side budget grounds.found both.more grounds.lacking ours.lacking_is)

      module _ (lack : Lack) (lack_is : IsLackFrom u low.picks found grounds.lacking lack) where
        lack_owed : IsLackDone here budget found lack
        lack_owed =
            lack_done schema constraints (least_of asked) (folded schema observed constraints asked nodes measured.posed.formed measured.posed.limited well tree) nodes measured.posed.formed tree budget
            (asking schema observed constraints asked nodes measured.posed.formed measured.posed.limited well tree) refl side observing low.picks rows found lawful grounds.lacking lack lacking
            (subst (IsDoubt (most_chosen u) (want_for side) budget) (sym both.grown) (doubt_grown (most_chosen u) (want_for side) budget grounds.found both.more ours.doubt)) lack_is

        listed : 0 < length grounds.found → 0 < length found
        listed some = subst (λ l. 0 < length l) (sym both.grown) (omega (arith, some, length-append grounds.found both.more))

        lack_sure : AreGroundsSurely u side grounds → IsSettledLack lack
        lack_sure sure =
            lack_settled u side budget low.picks found grounds.lacking lack lacking
            (subst (λ l. IsLackingSurely u l grounds.lacking) (sym both.grown) (surely_grown u grounds.found both.more grounds.lacking sure.lacking_surely))
            (subst (Any (IsFound (most_chosen u) (want_for side))) (sym both.grown) (any_grown (IsFound (most_chosen u) (want_for side)) grounds.found both.more sure.found_some)) lack_is

      pub owes_judged : (answer : QuantileAnswer) → IsJudged (cells_for m) (has_numbers m.seen.now) (record { lacking = grounds.lacking; found = found }) low high answer →
          (IsEasy schema constraints → AreGroundsSurely (cells_for m) (has_numbers m.seen.now) grounds × Any (IsFound low.program low.want) found × Any (IsFound high.program high.want) found) → IsOwed here asked budget answer
      owes_judged answer is sure =
          let judging = subst (λ v. IsJudged v side (record { lacking = grounds.lacking; found = found }) low high answer) same
          (subst (λ b. IsJudged (cells_for m) b (record { lacking = grounds.lacking; found = found }) low high answer) side_is is) in
          subst (IsOwed here asked budget) (sym judging.answer_is)
          (owed_judged schema observed constraints asked nodes measured.posed.formed measured.posed.limited well tree budget found lawful totals low.picks rows few_seen judging.lack (lack_owed judging.lack judging.lack_is) low high
          both.low_stands both.high_stands judging.low_end judging.high_end judging.low_is judging.high_is
          (λ nested.
          let all = sure nested in
          let own = subst (λ v. AreGroundsSurely v side grounds) same (subst (λ b. AreGroundsSurely (cells_for m) b grounds) side_is all.0) in
          (listed judging.lack judging.lack_is own.listed, all.1, all.2, lack_sure judging.lack judging.lack_is own)))

    -- both ends were sought
    pub owes_between : (grounds : Grounds) (answer : QuantileAnswer) → AreGrounds (cells_for m) (has_numbers m.seen.now) budget grounds → (IsEasy schema constraints → AreGroundsSurely (cells_for m) (has_numbers m.seen.now) grounds) →
        IsBetween m grounds answer → IsOwed here asked budget answer
    owes_between grounds answer are sure is = by_pair is.pair is.pair_is is.sure is.answer_is
      where
        by_pair : (pair : Pair) → IsPairOf m grounds.found pair → (IsEasyFor m.problem → HaveValue m grounds.found → IsPairSurely pair) → IsAnswerOf m grounds answer pair → IsOwed here asked budget answer
        by_pair (pairs.At low high found) stands surely answered =
            owes_judged grounds are low high found stands answer answered (λ nested. let own = sure nested in let ends = surely nested own.found_some in (own, ends.0, ends.1))
        by_pair pairs.Empty allows surely answered = subst (IsOwed here asked budget) (sym answered) (owes_empty allows)

-- the numbers of rows of a schema are no greater than those of its domains
pub small_numbers : (schema : Schema) (query : Query) (rows : List Row) → IsWellFormed schema → AllPass (in_domain schema) rows → All (λ number. nat_abs number ≤ greatest_size) (map (asked_of query) (kept query None rows))
small_numbers schema query rows formed allowed =
    All-map (λ number. nat_abs number ≤ greatest_size) (asked_of query) (kept query None rows)
    (All-kept (λ row. is_in query.chosen row && is_in_group query.group None row) (λ row. nat_abs (asked_of query row) ≤ greatest_size) rows
    (λ place d inside kept. asked_small schema query (get_or rows place d) formed (allowed place d inside)))
