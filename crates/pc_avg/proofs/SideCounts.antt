-- Counts with a row attain their ratio at the end of a side, and runs that attain a value have counts whose ratio is at least it there.
use Rattle.std.proofs.Common.{◌≡◌, ℕ, ℤ, pos, neg_ℤ, ◌+ℤ◌, ◌*ℤ◌, ◌≤ℤ◌, ◌<ℤ◌, Bool, true, false, cond, List, [], ◌∷◌, length, map, get_or, All, Option, Some, IsSomeAnd, refl, sym, ap, ap₂, subst, ◌∙◌, true≢false, arith}
use lib.IntN.{*ℤ_comm}
use Rattle.std.proofs.lemmas.Int.{ints}
use Rattle.pc_model.specs.declared.schema.Schema.{Schema}
use Rattle.pc_model.specs.declared.row.Row.{Row}
use Rattle.pc_model.specs.declared.row.Run.{Run}
use Rattle.pc_model.specs.declared.area.Area.{Area}
use Rattle.pc_model.specs.declared.constraint.Constraint.{Constraint}
use Rattle.pc_model.specs.declared.tree.CutNode.{CutNode}
use Rattle.pc_model.specs.declared.query.Agg.{Agg}
use Rattle.pc_model.specs.declared.query.Agg.TheVariants.{Avg}
use Rattle.pc_model.specs.declared.query.Query.{Query}
use Rattle.pc_model.specs.declared.query.Folded.{Folded}
use Rattle.pc_model.specs.Accepted.{IsNumeric, IsColumnWhere}
use Rattle.pc_model.specs.Aggregate.{Ratio, IsSame, asked, int_sum, value_of}
use Rattle.pc_model.specs.Membership.{is_in}
use Rattle.pc_model.specs.WellFormed.{IsWellFormed}
use Rattle.pc_model.specs.Cells.{Class, class_of, IsRowOf, IsSettledTree}
use Rattle.pc_model.specs.Right.{IsAttained, ArePossible, IsPossibleFor, value_for}
use Rattle.pc_model.specs.Runs.{rows_of, runs_from}
use Rattle.pc_program_bound.specs.declared.program.Program.{Program}
use Rattle.pc_program_bound.specs.Allocation.{worth}
use Rattle.pc_program_bound.proofs.Ring.{mul_mono}
use Rattle.pc_proof.proofs.PossibleRows.{rows_are_allocation, rows_are_worth}
use Rattle.pc_simplex_tableau.proofs.Products.{neg-mul}
use Rattle.pc_witness.proofs.Zipped.{AllZip-weaker}
use Rattle.pc_proof.specs.Setting.{Setting, area_of, cells, on_chosen, program_for, seen_count, seen_sum}
use Rattle.pc_proof.specs.Table.{one}
use Rattle.pc_proof.specs.Unbroken.{IsWellPosed}
use Rattle.pc_proof.proofs.Ends.{AsksNumbers, asks_numbers}
use Rattle.pc_proof.proofs.Gains.{gains_of}
use Rattle.pc_proof.proofs.Groups.{keeps_area}
use Rattle.pc_proof.proofs.Kept.{kept_count, kept_sum, cell_of, count_is, between}
use Rattle.pc_proof.proofs.Seen.{keeps, all_numbers, how_many, what_sum, int_sum_mono}
use Rattle.pc_branch_licences.specs.Picked.{AreOfCells}
use Rattle.pc_branch_licences.specs.Pools.{AreLawful}
use Rattle.pc_branch_licences.specs.Shown.{counts_of_runs}
use Rattle.pc_branch_licences.proofs.Picks.{each_made, made_worth}
use Rattle.pc_agg_search.specs.declared.extreme.Extreme.{Extreme}
use Rattle.pc_agg_search.specs.declared.extreme.Extreme.TheVariants.{Low, High}
use Rattle.pc_agg_search.specs.Asked.{Asking, asked_as, setting_for}
use Rattle.pc_agg_search.specs.Ends.{signed}
use Rattle.pc_agg_search.specs.Keys.{key_of, IsAtEnd}
use Rattle.pc_agg_search.specs.Settings.{unseen}
use Rattle.pc_agg.specs.Settling.{AreRowsOfCells}
use Rattle.pc_agg.proofs.Attained.{lawful_runs, counted_runs, signed_sum, sum_alike}
use Rattle.pc_agg.proofs.Questions as questions
use Rattle.pc_agg.proofs.StandMarks.{cells_of_picks}
use Rattle.pc_avg_ratio.specs.declared.fractional.Fractional.{Fractional}
use Rattle.pc_avg_ratio.specs.Fractional.{rows_with, sum_with}
use Rattle.pc_avg.specs.declared.sides.Side.{Side}
use Rattle.pc_avg.specs.Sides.{IsSide}
use Rattle.pc_avg.proofs.SidePrograms.{turned_ratio, numbered, side_count, side_sum}

-- ---- numbers towards an end

signed_chosen : (extreme : Extreme) (chosen : Bool) (n : ℤ) → cond chosen (signed extreme n) (pos 0) ≡ signed extreme (cond chosen n (pos 0))
signed_chosen High chosen n = refl
signed_chosen Low true n = refl
signed_chosen Low false n = refl

signed_back : (extreme : Extreme) (a b x y : ℤ) → x ≡ signed extreme a → y ≡ signed extreme b → a +ℤ b ≡ signed extreme (x +ℤ y)
signed_back High a b x y first second = omega (arith, ints, first, second)
signed_back Low a b x y first second = omega (arith, ints, first, second)

signed_within : (extreme : Extreme) (a b x y : ℤ) → x ≡ signed extreme a → signed extreme b ≤ℤ y → signed extreme (a +ℤ b) ≤ℤ (x +ℤ y)
signed_within High a b x y first second = omega (arith, ints, first, second)
signed_within Low a b x y first second = omega (arith, ints, first, second)

kept_within : (extreme : Extreme) (kept chosen : Bool) (n key : ℤ) → kept ≡ chosen → signed extreme n ≤ℤ key → signed extreme (cond kept n (pos 0)) ≤ℤ cond chosen key (pos 0)
kept_within High true true n key same under = under
kept_within Low true true n key same under = under
kept_within High false false n key same under = omega (arith, ints)
kept_within Low false false n key same under = omega (arith, ints)
kept_within extreme true false n key same under = absurd (true≢false same)
kept_within extreme false true n key same under = absurd (true≢false (sym same))

key_within : (u : Setting) (extreme : Extreme) (class : Class) (n : ℤ) → (neg_ℤ (key_of u Low class) ≤ℤ n) × (n ≤ℤ key_of u High class) → signed extreme n ≤ℤ key_of u extreme class
key_within u High class n both = both.1
key_within u Low class n both = omega (arith, ints, both.0)

-- ---- averages

average_is : (xs : List ℤ) → pos 0 <ℤ pos (length xs) → value_of Avg xs ≡ Some (record { num = int_sum xs; den = pos (length xs) })
average_is [] some = absurd (omega (arith, ints, some))
average_is (x ∷ xs) some = refl

pub average_same : (xs : List ℤ) (v : Ratio) → IsSomeAnd (value_of Avg xs) (λ x. IsSame x v) → (pos 0 <ℤ pos (length xs)) × (int_sum xs *ℤ v.den ≡ v.num *ℤ pos (length xs))
average_same [] v gives = absurd gives
average_same (x ∷ xs) v gives = (omega (arith, ints), gives)

same_turned : (extreme : Extreme) (v : Ratio) (sum count : ℤ) → v.num *ℤ count ≡ sum *ℤ v.den → signed extreme sum *ℤ v.den ≡ signed extreme v.num *ℤ count
same_turned High v sum count same = sym same
same_turned Low v sum count same = omega (arith, ints, same, neg-mul sum v.den, neg-mul v.num count)

turned_same : (extreme : Extreme) (v : Ratio) (sum count : ℤ) → sum *ℤ v.den ≡ signed extreme v.num *ℤ count → v.num *ℤ count ≡ signed extreme sum *ℤ v.den
turned_same High v sum count same = sym same
turned_same Low v sum count same = omega (arith, ints, same, neg-mul sum v.den, neg-mul v.num count)

module _ (schema : Schema) (constraints : List Constraint) (query : Query) (seen : Folded) (nodes : List CutNode) (formed : IsWellFormed schema) (tree : IsSettledTree schema constraints query.chosen nodes)
    (asking : Asking schema constraints query seen) (agg_is : query.agg ≡ Avg) (extreme : Extreme) (side : Side) (is : IsSide (unseen schema constraints query nodes) seen extreme side) where
  abbrev u : Setting
  u = unseen schema constraints query nodes

  abbrev s : Setting
  s = setting_for schema constraints query seen nodes asking

  abbrev f : Fractional
  f = side.fraction

  posed : IsWellPosed s.question
  posed = questions.posed schema constraints query seen nodes formed asking

  tree_at : IsSettledTree schema constraints (area_of s.question) nodes
  tree_at = questions.tree_for schema constraints query seen nodes formed asking tree

  asks : AsksNumbers schema (asked_as query asking.wide asking.group)
  asks = asks_numbers schema (asked_as query asking.wide asking.group) Avg asking.well agg_is tt

  rows_worth : (counts : List ℕ) → worth f.rows counts ≡ worth (program_for s (on_chosen one)) counts
  rows_worth counts = ap (λ (p : Program). worth p counts) is.rows_are

  sums_worth : (counts : List ℕ) → worth f.sums counts ≡ worth (program_for s (on_chosen (key_of u extreme))) counts
  sums_worth counts = ap (λ (p : Program). worth p counts) is.sums_are

  -- ---- how many rows

  module _ (lost : List Row) (possible : IsPossibleFor s.question lost) (counts : List ℕ) where
    count_with : worth (program_for s (on_chosen one)) counts ≡ gains_of s (on_chosen one) lost → rows_with f counts ≡ pos (length (all_numbers s.question lost))
    count_with gained =
        let all : pos (length (all_numbers s.question lost)) ≡ seen_count s.question +ℤ kept_count s lost = how_many s.question lost in
        let some : kept_count s lost ≡ gains_of s (on_chosen one) lost = count_is s posed tree_at lost possible in
        ap₂ (λ a b. a +ℤ b) (side_count schema constraints query seen nodes asking agg_is extreme side is) (rows_worth counts ∙ gained ∙ sym some) ∙ sym all

    sum_below : worth (program_for s (on_chosen (key_of u extreme))) counts ≡ gains_of s (on_chosen (key_of u extreme)) lost → signed extreme (int_sum (all_numbers s.question lost)) ≤ℤ sum_with f counts
    sum_below gained =
        let under : int_sum (map (λ (row : Row). signed extreme (cond (keeps s.question row) (asked s.question.query row) (pos 0))) lost) ≤ℤ gains_of s (on_chosen (key_of u extreme)) lost =
        int_sum_mono (λ (row : Row). signed extreme (cond (keeps s.question row) (asked s.question.query row) (pos 0))) (λ (row : Row). on_chosen (key_of u extreme) (cell_of s row)) lost
        (λ place d inside. let row = get_or lost place d in
        let ends = between s posed tree_at lost possible asks place d inside in
        kept_within extreme (keeps s.question row) (is_in (area_of s.question) row) (asked s.question.query row) (key_of u extreme (cell_of s row)) (keeps_area s.question posed row)
        (key_within u extreme (cell_of s row) (asked s.question.query row) (omega (arith, ints, ends.0), ends.1))) in
        let within : signed extreme (kept_sum s lost) ≤ℤ worth f.sums counts =
        subst (λ n. n ≤ℤ worth f.sums counts) (signed_sum extreme (λ (row : Row). cond (keeps s.question row) (asked s.question.query row) (pos 0)) lost)
        (subst (λ n. int_sum (map (λ (row : Row). signed extreme (cond (keeps s.question row) (asked s.question.query row) (pos 0))) lost) ≤ℤ n) (sym (sums_worth counts ∙ gained)) under) in
        subst (λ n. signed extreme n ≤ℤ sum_with f counts) (sym (what_sum s.question lost))
        (signed_within extreme (seen_sum s.question) (kept_sum s lost) f.sum (worth f.sums counts) (side_sum schema constraints query seen nodes asking agg_is extreme side is) within)

  -- ---- runs that are made of counts

  abbrev picks : List Row
  picks = side.picks

  pub rows_of_picks : AreRowsOfCells u picks
  rows_of_picks = AllZip-weaker (IsAtEnd u extreme) (IsRowOf schema constraints query.chosen) (λ class row at. at.of_cell) (cells u) picks is.picked

  of_cells : AreOfCells s picks
  of_cells = cells_of_picks schema constraints query seen nodes formed tree asking (IsColumnWhere IsNumeric schema) (numbered schema constraints query seen nodes asking agg_is) extreme picks is.picked

  abbrev AddsItsKey : Row → Type 0
  AddsItsKey row = on_chosen (key_of u extreme) (cell_of s row) ≡ signed extreme (cond (keeps s.question row) (asked s.question.query row) (pos 0))

  adds_key : (class : Class) (row : Row) → IsAtEnd u extreme class row → AddsItsKey row
  adds_key class row at =
      let same : cell_of s row ≡ class = ap (λ (area : Area). class_of constraints area row) asking.area ∙ at.of_cell.of_class in
      let kept : keeps s.question row ≡ class.chosen = keeps_area s.question posed row ∙ ap (λ (c : Class). c.chosen) same in
      ap (on_chosen (key_of u extreme)) same ∙ ap (λ n. cond class.chosen n (pos 0)) (sym at.number) ∙ signed_chosen extreme class.chosen (asked query row)
      ∙ ap (λ test. signed extreme (cond test (asked query row) (pos 0))) (sym kept)

  module _ (counts : List ℕ) (lawful : AreLawful u counts) where
    abbrev runs : List Run
    runs = runs_from picks counts

    pub made_possible : ArePossible s.question runs
    made_possible = lawful_runs schema constraints query seen nodes formed asking picks counts rows_of_picks lawful

    pub made_counts : counts_of_runs s runs ≡ counts
    made_counts = counted_runs schema constraints query seen nodes formed asking picks counts rows_of_picks lawful

    made_count : rows_with f counts ≡ pos (length (all_numbers s.question (rows_of runs)))
    made_count = count_with (rows_of runs) made_possible.are_possible counts (made_worth s picks counts of_cells lawful (on_chosen one))

    made_sum : int_sum (all_numbers s.question (rows_of runs)) ≡ signed extreme (sum_with f counts)
    made_sum =
        let adds : All AddsItsKey (rows_of runs) = each_made s (IsAtEnd u extreme) AddsItsKey adds_key picks counts is.picked in
        let gained : worth f.sums counts ≡ signed extreme (kept_sum s (rows_of runs)) =
        sums_worth counts ∙ made_worth s picks counts of_cells lawful (on_chosen (key_of u extreme))
        ∙ sum_alike (λ (row : Row). on_chosen (key_of u extreme) (cell_of s row)) (λ (row : Row). signed extreme (cond (keeps s.question row) (asked s.question.query row) (pos 0))) (rows_of runs) adds
        ∙ signed_sum extreme (λ (row : Row). cond (keeps s.question row) (asked s.question.query row) (pos 0)) (rows_of runs) in
        what_sum s.question (rows_of runs)
        ∙ signed_back extreme (seen_sum s.question) (kept_sum s (rows_of runs)) f.sum (worth f.sums counts) (side_sum schema constraints query seen nodes asking agg_is extreme side is) gained

    made_value : pos 0 <ℤ rows_with f counts → value_for s.question (rows_of runs) ≡ Some (record { num = signed extreme (sum_with f counts); den = rows_with f counts })
    made_value some =
        ap (λ (agg : Agg). value_of agg (all_numbers s.question (rows_of runs))) agg_is ∙ average_is (all_numbers s.question (rows_of runs)) (subst (λ n. pos 0 <ℤ n) made_count some)
        ∙ ap₂ (λ n d. Some (record { num = n; den = d })) made_sum (sym made_count)

    -- the runs attain the counts' ratio
    pub made_attain : (v : Ratio) → pos 0 <ℤ rows_with f counts → v.num *ℤ rows_with f counts ≡ sum_with f counts *ℤ v.den → IsAttained s.question (turned_ratio extreme v) runs
    made_attain v some same = record {
      by = made_possible;
      gives = subst (λ (o : Option Ratio). IsSomeAnd o (λ x. IsSame x (turned_ratio extreme v))) (sym (made_value some)) (same_turned extreme v (sum_with f counts) (rows_with f counts) same);
    }

  -- ---- runs that attain a value

  module _ (runs : List Run) (possible : ArePossible s.question runs) where
    abbrev lost : List Row
    lost = rows_of runs

    pub run_count : rows_with f (counts_of_runs s runs) ≡ pos (length (all_numbers s.question lost))
    run_count =
        count_with lost possible.are_possible (counts_of_runs s runs) (rows_are_worth schema constraints (area_of s.question) nodes (on_chosen one) lost formed tree_at possible.are_possible)

    run_sum : signed extreme (int_sum (all_numbers s.question lost)) ≤ℤ sum_with f (counts_of_runs s runs)
    run_sum =
        sum_below lost possible.are_possible (counts_of_runs s runs)
        (rows_are_worth schema constraints (area_of s.question) nodes (on_chosen (key_of u extreme)) lost formed tree_at possible.are_possible)

    pub run_lawful : AreLawful u (counts_of_runs s runs)
    run_lawful = rows_are_allocation schema constraints (area_of s.question) nodes _ lost formed tree_at possible.are_possible

  -- their counts have a row, and a ratio at least the value
  pub attained_within : (v : Ratio) (runs : List Run) → pos 0 <ℤ v.den → IsAttained s.question (turned_ratio extreme v) runs →
      (pos 0 <ℤ rows_with f (counts_of_runs s runs)) × ((v.num *ℤ rows_with f (counts_of_runs s runs)) ≤ℤ (sum_with f (counts_of_runs s runs) *ℤ v.den))
  attained_within v runs above attains =
      let numbers : List ℤ = all_numbers s.question (rows_of runs) in
      let same = average_same numbers (turned_ratio extreme v) (subst (λ (agg : Agg). IsSomeAnd (value_of agg numbers) (λ x. IsSame x (turned_ratio extreme v))) agg_is attains.gives) in
      let count = run_count runs attains.by in
      let turned : v.num *ℤ pos (length numbers) ≡ signed extreme (int_sum numbers) *ℤ v.den = turned_same extreme v (int_sum numbers) (pos (length numbers)) same.1 in
      let more = mul_mono v.den (signed extreme (int_sum numbers)) (sum_with f (counts_of_runs s runs)) (omega (arith, ints, above)) (run_sum runs attains.by) in
      let here : v.num *ℤ rows_with f (counts_of_runs s runs) ≡ v.num *ℤ pos (length numbers) = ap (λ n. v.num *ℤ n) count in (
        subst (λ n. pos 0 <ℤ n) (sym count) same.0,
        omega (arith, ints, more, turned, here, *ℤ_comm v.den (signed extreme (int_sum numbers)), *ℤ_comm v.den (sum_with f (counts_of_runs s runs))),
      )
