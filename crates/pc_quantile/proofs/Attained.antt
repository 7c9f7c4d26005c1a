-- The rows of counts that attain an end have its quantile.
use Rattle.std.proofs.Common.{◌≡◌, ℕ, suc, ◌+◌, ◌^◌, ◌<◌, ◌≤◌, ℤ, Bool, true, false, not, inl, inr, List, length, filter, get_or, IsSome, Some, None, refl, sym, ap, subst, ◌∙◌, arith}
use Rattle.std.specs.List.{AllZip}
use Rattle.std.proofs.lemmas.Int.{ints}
use Rattle.std.proofs.lemmas.List.{length-append, length-map}
use Rattle.std.proofs.lemmas.List.Filters.{length-filter_both}
use Rattle.pc_model.specs.declared.schema.Schema.{Schema}
use Rattle.pc_model.specs.declared.row.Row.{Row}
use Rattle.pc_model.specs.declared.constraint.Constraint.{Constraint}
use Rattle.pc_model.specs.declared.query.Folded.{Folded}
use Rattle.pc_model.specs.declared.tree.CutNode.{CutNode}
use Rattle.pc_model.specs.Accepted.{AreConstraints}
use Rattle.pc_model.specs.Aggregate.{asked as asked_of}
use Rattle.pc_model.specs.Cells.{Class, IsRowOf, IsSettledTree, class_of}
use Rattle.pc_model.specs.Right.{ArePossible, Question}
use Rattle.pc_model.specs.Runs.{rows_of, runs_from}
use Rattle.pc_model.specs.WellFormed.{IsWellFormed}
use Rattle.pc_program_bound.specs.Allocation.{worth}
use Rattle.pc_program_bound.specs.CellPrograms.{counts_of}
use Rattle.pc_witness.proofs.Checks.{All-rows_of}
use Rattle.pc_witness.proofs.RunsFrom.{All-runs_from}
use Rattle.pc_witness.proofs.Zipped.{AllZip-weaker, All-from_zip}
use Rattle.pc_proof.specs.Setting.{Setting, cells, seen, seen_greatest, seen_least, seen_numbers, seen_sum}
use Rattle.pc_proof.proofs.FewRows.{possible_few}
use Rattle.pc_proof.proofs.Seen.{keeps, lost_numbers, numbers_split}
use Rattle.pc_branch_licences.specs.Pools.{AreLawful}
use Rattle.pc_branch_licences.proofs.Attaining.{giving}
use Rattle.pc_agg.specs.Settling.{AreRowsOfCells}
use Rattle.pc_agg.proofs.Attained.{counted_runs, lawful_runs}
use Rattle.pc_agg_search.specs.declared.extreme.Extreme.{Extreme}
use Rattle.pc_agg_search.specs.declared.extreme.Extreme.TheVariants.{Low, High}
use Rattle.pc_agg_search.specs.Asked.{Asking}
use Rattle.pc_agg_search.specs.Ends.{signed}
use Rattle.pc_agg_search.specs.Keys.{IsAtEnd, key_of}
use Rattle.pc_agg_search.specs.Settings.{unseen}
use Rattle.pc_agg_search.specs.Wants.{IsFound, most_chosen, want_for}
use Rattle.pc_lang.specs.declared.quantile.Quantile.{Quantile}
use Rattle.pc_quantile.specs.declared.stand.Stand.{Stand}
use Rattle.pc_quantile.specs.Candidates.{StandAt}
use Rattle.pc_quantile.specs.Climbing.{AreRungs, AreWanted, IsHeldAt, IsStand, number_on}
use Rattle.pc_quantile.specs.Licensed.{question_of}
use Rattle.pc_quantile.specs.Measure.{has_numbers}
use Rattle.pc_lang.specs.Quantiles.{IsQuantile}
use Rattle.pc_quantile.specs.Measured.{IsAskedIn, least_of, numbers_of, quantile_of}
use Rattle.pc_quantile.specs.Past.{IsCandidateBeside, end_in, program_past}
use Rattle.pc_quantile.specs.Right.{HasQuantile}
use Rattle.pc_quantile.proofs.Passed.{at_end, seen_some}
use Rattle.pc_quantile.proofs.Shares.{there_is_one}
use Rattle.pc_quantile.proofs.OnRungs.{last_has, passing_has}
use Rattle.pc_quantile.proofs.There.{with_least}

module _ (schema : Schema) (observed : List Row) (constraints : List Constraint) (asked : Quantile) (nodes : List CutNode) (formed : IsWellFormed schema) (limited : AreConstraints schema constraints)
    (well : IsQuantile schema asked) (tree : IsSettledTree schema constraints asked.chosen nodes) where
  abbrev u : Setting
  u = unseen schema constraints (least_of asked) nodes

  abbrev q : Question
  q = question_of schema observed constraints asked

  abbrev pub s : Setting
  s = record { question = q; nodes = nodes }

  -- what the observed rows come to
  abbrev pub folded : Folded
  folded = record { count = length (seen q); sum = seen_sum q; least = seen_least q; greatest = seen_greatest q }

  abbrev pub asking : Asking schema constraints (least_of asked) folded
  asking = record {
    observed = observed;
    wide = asked.chosen;
    group = None;
    name = None;
    area = refl;
    named = refl;
    allowed = tt;
    well = record { chosen = well.chosen; measured = well.numeric; grouped = tt };
    comes_to = record { count = refl; sum = refl; least = refl; greatest = refl };
  }

  pub is_asked : IsAskedIn s asked
  is_asked = record { posed = record { formed = formed; query = asking.well }; query = refl; well = well; tree = tree }

  -- ---- rungs, beside the observed rows

  candidate_here : (seen : List ℤ) (extreme : Extreme) (n : ℤ) → IsCandidateBeside u seen extreme n → IsCandidateBeside s seen extreme n
  candidate_here seen Low n (inl of) = inl (record { class = of.class; listed = of.listed; chosen = of.chosen; is = of.is })
  candidate_here seen High n (inl of) = inl (record { class = of.class; listed = of.listed; chosen = of.chosen; is = of.is })
  candidate_here seen extreme n (inr of) = inr of

  candidate_back : (seen : List ℤ) (extreme : Extreme) (n : ℤ) → IsCandidateBeside s seen extreme n → IsCandidateBeside u seen extreme n
  candidate_back seen Low n (inl of) = inl (record { class = of.class; listed = of.listed; chosen = of.chosen; is = of.is })
  candidate_back seen High n (inl of) = inl (record { class = of.class; listed = of.listed; chosen = of.chosen; is = of.is })
  candidate_back seen extreme n (inr of) = inr of

  pub rungs_here : (seen : List ℤ) (extreme : Extreme) (rungs : List ℤ) → AreRungs u seen extreme rungs → AreRungs s seen extreme rungs
  rungs_here seen extreme rungs are = record {
    falling = are.falling;
    from = λ place d inside. candidate_here seen extreme (signed extreme (get_or rungs place d)) (are.from place d inside);
    each = λ number candidate. are.each number (candidate_back seen extreme number candidate);
    small = are.small;
  }

  pub held_here : (seen : List ℤ) (extreme : Extreme) (rungs : List ℤ) (place : ℕ) → IsHeldAt u seen extreme asked rungs place → IsHeldAt s seen extreme asked rungs place
  held_here seen Low rungs place held = held
  held_here seen High rungs place held = held

  worth_here : (extreme : Extreme) (v : ℤ) (counts : List ℕ) → worth (program_past u extreme asked v) counts ≡ worth (program_past s extreme asked v) counts
  worth_here Low v counts = refl
  worth_here High v counts = refl

  -- ---- the rows of counts

  module _ (picks : List Row) (rows : AreRowsOfCells u picks) (counts : List ℕ) (lawful : AreLawful u counts) where
    abbrev pub lost : List Row
    lost = rows_of (runs_from picks counts)

    pub possible : ArePossible q (runs_from picks counts)
    possible = lawful_runs schema constraints (least_of asked) folded nodes formed asking picks counts rows lawful

  module _ (extreme : Extreme) (picks : List Row) (picked : AllZip (IsAtEnd u extreme) (cells u) picks) where
    pub at_cells : AreRowsOfCells u picks
    at_cells = AllZip-weaker (IsAtEnd u extreme) (IsRowOf schema constraints asked.chosen) (λ class row at. at.of_cell) (cells u) picks picked

    module _ (counts : List ℕ) (lawful : AreLawful u counts) where
      abbrev made : List Row
      made = rows_of (runs_from picks counts)

      counted : counts_of constraints asked.chosen (cells u) made ≡ counts
      counted = counted_runs schema constraints (least_of asked) folded nodes formed asking picks counts at_cells lawful

      number_is : (side : Extreme) (class : Class) (n : ℤ) → signed side n ≡ key_of u side class → n ≡ end_in u side class
      number_is Low class n is = omega (arith, ints, is)
      number_is High class n is = is

      abbrev StandsAt : Row → Type 0
      StandsAt row = (class_of constraints asked.chosen row).chosen ≡ true → asked_of (least_of asked) row ≡ end_in s extreme (class_of constraints asked.chosen row)

      pub stand : StandAt s (end_in s extreme) made
      stand =
          All-rows_of StandsAt (runs_from picks counts)
          (All-runs_from StandsAt picks counts
          (All-from_zip (IsAtEnd u extreme) StandsAt
          (λ class row at chosen. number_is extreme class (asked_of (least_of asked) row) at.number ∙ ap (end_in u extreme) (sym at.of_cell.of_class)) (cells u) picks picked))

      -- ---- how many numbers there are

      split : length (numbers_of q made) ≡ length (seen_numbers q) + length (lost_numbers q made)
      split = ap length (numbers_split q made) ∙ length-append (seen_numbers q) (lost_numbers q made)

      pub few_numbers : length (seen_numbers q) ≤ 1_000_000 → length (numbers_of q made) < 2 ^ 36
      few_numbers few_seen =
          let rows = possible_few schema constraints made 10_000_000 limited.few limited.small (possible picks at_cells counts lawful).are_possible in
          let kept = length-filter_both (keeps q) (λ row. not (keeps q row)) (λ row. refl) made in
          omega (arith, split, few_seen, rows, kept, length-map (filter (keeps q) made) (asked_of (least_of asked)))

      -- where counts with a value are wanted, there is a quantile
      valued : (side : Bool) → has_numbers (seen_numbers q) ≡ side → IsFound (most_chosen u) (want_for side) counts → IsSome (quantile_of q asked made)
      valued true some is =
          let here = seen_some (seen_numbers q) some in
          there_is_one asked.p asked.q (numbers_of q made) well.some well.most (omega (arith, split, here))
      valued false none is =
          (with_least s asked made is_asked).1 (giving s picks counts is_asked.posed tree at_cells lawful is.1).some

      module _ (budget : ℕ) (found : List (List ℕ)) (few_seen : length (seen_numbers q) ≤ 1_000_000) (end : Stand) (is : IsStand u budget (seen_numbers q) extreme asked found end) (picks_are : end.picks ≡ picks) where
        abbrev at : ℤ
        at = number_on extreme is.rungs is.place

        has : AreWanted u (seen_numbers q) extreme asked is.rungs is.place end.program end.want → IsFound end.program end.want counts → quantile_of q asked made ≡ Some at
        has (inl after) wanted =
            let given = subst (λ w. IsFound (program_past u extreme asked (number_on extreme is.rungs (suc is.place))) w counts) after.2 (subst (λ p. IsFound p end.want counts) after.1 wanted) in
            let same = at_end s asked is_asked made (possible picks at_cells counts lawful).are_possible extreme (number_on extreme is.rungs (suc is.place)) stand in
            let worth_is = ap (worth (program_past s extreme asked (number_on extreme is.rungs (suc is.place)))) counted in
            passing_has s extreme is.rungs (rungs_here (seen_numbers q) extreme is.rungs is.are_rungs) is.place is.inside asked is_asked (held_here (seen_numbers q) extreme is.rungs is.place is.held) made
            (possible picks at_cells counts lawful).are_possible stand after.0 (few_numbers few_seen)
            (omega (arith, ints, given.1, same, worth_is, worth_here extreme (number_on extreme is.rungs (suc is.place)) counts))
        has (inr last) wanted =
            let given = subst (λ w. IsFound (most_chosen u) w counts) last.2 (subst (λ p. IsFound p end.want counts) last.1 wanted) in
            last_has s extreme is.rungs (rungs_here (seen_numbers q) extreme is.rungs is.are_rungs) is.place is.inside asked is_asked (held_here (seen_numbers q) extreme is.rungs is.place is.held) made
            (possible picks at_cells counts lawful).are_possible stand last.0
            (valued (has_numbers (seen_numbers q)) refl given)

        -- wanted counts have the quantile of the end
        pub attained : IsFound end.program end.want counts → HasQuantile q asked (signed extreme end.key) (runs_from end.picks counts)
        attained wanted =
            subst (λ rows. HasQuantile q asked (signed extreme end.key) (runs_from rows counts)) (sym picks_are)
            (record { by = possible picks at_cells counts lawful; has = has is.wanted wanted ∙ ap (λ key. Some (signed extreme key)) (sym is.key_is) })
