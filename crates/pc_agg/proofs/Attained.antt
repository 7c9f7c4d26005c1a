-- The aggregate over the observed rows and the rows of runs that add what their cells gain.
use Rattle.std.proofs.Common.{◌≡◌, ℕ, ℤ, pos, ◌+ℤ◌, ◌*ℤ◌, true, List, [], ◌∷◌, length, map, All, IsSomeAnd, refl, sym, ap, ap₂, subst, ◌∙◌, arith}
use Rattle.std.specs.List.{AllZip}
use Rattle.std.proofs.lemmas.Int.{ints}
use Rattle.std.proofs.lemmas.List.{length-map}
use Rattle.std.proofs.lemmas.List.Elements.{All-head, All-tail}
use Rattle.pc_model.specs.declared.schema.Schema.{Schema}
use Rattle.pc_model.specs.declared.row.Row.{Row}
use Rattle.pc_model.specs.declared.area.Area.{Area}
use Rattle.pc_model.specs.declared.constraint.Constraint.{Constraint}
use Rattle.pc_model.specs.declared.tree.CutNode.{CutNode}
use Rattle.pc_model.specs.declared.query.Agg.{Agg}
use Rattle.pc_model.specs.declared.query.Query.{Query}
use Rattle.pc_model.specs.declared.query.Folded.{Folded}
use Rattle.pc_model.specs.WellFormed.{IsWellFormed}
use Rattle.pc_model.specs.Aggregate.{whole, IsSame, int_sum}
use Rattle.pc_model.specs.Right.{IsAttained, ArePossible, always_has_value}
use Rattle.pc_model.specs.Runs.{rows_of, runs_from}
use Rattle.pc_model.specs.Cells.{Class, class_of, IsRowOf}
use Rattle.pc_program_bound.specs.Allocation.{cells_of, worth}
use Rattle.pc_witness.proofs.Allocations.{allocation-possible}
use Rattle.pc_witness.proofs.Checks.{All-rows_of}
use Rattle.pc_witness.proofs.RunsFrom.{All-runs_from}
use Rattle.pc_witness.proofs.Worth.{worth_of-rows}
use Rattle.pc_witness.proofs.Zipped.{AllZip-weaker, All-from_zip}
use Rattle.pc_proof.specs.Setting.{Setting, cells, program_for}
use Rattle.pc_proof.specs.Table.{none}
use Rattle.pc_proof.proofs.Seen.{int_sum-neg}
use Rattle.pc_branch_licences.specs.Pools.{AreLawful}
use Rattle.pc_branch_licences.specs.Shown.{counts_of_runs}
use Rattle.pc_branch_licences.proofs.RunCounts.{runs-counted}
use Rattle.pc_branch_licences.specs.Totals.{seen_value}
use Rattle.pc_agg_search.specs.declared.extreme.Extreme.{Extreme}
use Rattle.pc_agg_search.specs.declared.extreme.Extreme.TheVariants.{Low, High}
use Rattle.pc_agg_search.specs.Asked.{Asking, setting_for}
use Rattle.pc_agg_search.specs.Ends.{gain_towards, adds, signed, IsPick, program_towards}
use Rattle.pc_agg_search.specs.Settings.{unseen}
use Rattle.pc_agg.specs.Settling.{AreRowsOfCells}
use Rattle.pc_agg.proofs.Questions.{value_is}

-- ---- numbers towards an end

signed_twice : (extreme : Extreme) (n : ℤ) → signed extreme (signed extreme n) ≡ n
signed_twice High n = refl
signed_twice Low n = omega (arith, ints)

pub signed_sum : (extreme : Extreme) (f : Row → ℤ) (rows : List Row) → int_sum (map (λ row. signed extreme (f row)) rows) ≡ signed extreme (int_sum (map f rows))
signed_sum High f rows = refl
signed_sum Low f rows = int_sum-neg f rows

pub sum_alike : (f g : Row → ℤ) (rows : List Row) → All (λ row. f row ≡ g row) rows → int_sum (map f rows) ≡ int_sum (map g rows)
sum_alike f g [] same = refl
sum_alike f g (row ∷ rows) same = ap₂ (λ a b. a +ℤ b) (All-head (λ r. f r ≡ g r) row rows same) (sum_alike f g rows (All-tail (λ r. f r ≡ g r) row rows same))

module _ (schema : Schema) (constraints : List Constraint) (query : Query) (seen : Folded) (nodes : List CutNode) (formed : IsWellFormed schema) where
  abbrev u : Setting
  u = unseen schema constraints query nodes

  -- ---- the list of an allocation

  pub lawful_runs : (asking : Asking schema constraints query seen) (picks : List Row) (counts : List ℕ) → AreRowsOfCells u picks → AreLawful u counts →
      ArePossible (setting_for schema constraints query seen nodes asking).question (runs_from picks counts)
  lawful_runs asking picks counts rows lawful =
      let p = program_for u none in
      let possible = allocation-possible schema constraints query.chosen (cells u) picks rows none p.floor p.cap counts lawful in
      record { each_stands = possible.0; are_possible = possible.1 }

  -- and their counts
  pub counted_runs : (asking : Asking schema constraints query seen) (picks : List Row) (counts : List ℕ) → AreRowsOfCells u picks → AreLawful u counts →
      counts_of_runs (setting_for schema constraints query seen nodes asking) (runs_from picks counts) ≡ counts
  counted_runs asking picks counts rows lawful =
      let s = setting_for schema constraints query seen nodes asking in
      runs-counted s picks counts
      (subst (λ (area : Area). AllZip (IsRowOf schema constraints area) (cells u) picks) (sym asking.area) rows)
      (lawful.sized ∙ length-map (cells u) (λ (class : Class). class.mask))

  -- ---- the rows of picks

  module _ (agg : Agg) (extreme : Extreme) (picks : List Row) (picked : AllZip (IsPick u agg extreme) (cells u) picks) where
    pub of_cells : AreRowsOfCells u picks
    of_cells = AllZip-weaker (IsPick u agg extreme) (IsRowOf schema constraints query.chosen) (λ class row pick. pick.of_cell) (cells u) picks picked

    module _ (counts : List ℕ) where
      abbrev rows : List Row
      rows = rows_of (runs_from picks counts)

      abbrev AddsItsGain : Row → Type 0
      AddsItsGain row = gain_towards u agg extreme (class_of constraints query.chosen row) ≡ signed extreme (adds agg query row)

      add_gains : All AddsItsGain rows
      add_gains =
          All-rows_of AddsItsGain (runs_from picks counts)
          (All-runs_from AddsItsGain picks counts
          (All-from_zip (IsPick u agg extreme) AddsItsGain (λ class row pick. ap (gain_towards u agg extreme) pick.of_cell.of_class ∙ sym pick.adds) (cells u) picks picked))

      worth_is : length counts ≡ cells_of (program_towards u agg extreme) → worth (program_towards u agg extreme) counts ≡ signed extreme (int_sum (map (adds agg query) rows))
      worth_is sized =
          worth_of-rows schema constraints query.chosen (cells u) (gain_towards u agg extreme) picks counts of_cells sized
          ∙ sum_alike (λ row. gain_towards u agg extreme (class_of constraints query.chosen row)) (λ row. signed extreme (adds agg query row)) rows add_gains
          ∙ signed_sum extreme (adds agg query) rows

      -- the runs reach what the observed rows come to, with what the counts are worth
      pub attained : (asking : Asking schema constraints query seen) (value number : ℤ) → AreLawful u counts → worth (program_towards u agg extreme) counts ≡ value → query.agg ≡ agg → always_has_value agg ≡ true →
          number ≡ seen_value agg (setting_for schema constraints query seen nodes asking) +ℤ signed extreme value →
          IsAttained (setting_for schema constraints query seen nodes asking).question (whole number) (runs_from picks counts)
      attained asking value number lawful gained is always number_is =
          let s = setting_for schema constraints query seen nodes asking in
          let sum : ℤ = int_sum (map (adds agg query) rows) in
          let added : signed extreme value ≡ sum = ap (signed extreme) (sym gained ∙ worth_is lawful.sized) ∙ signed_twice extreme sum in
          let same : seen_value agg s +ℤ sum ≡ number = sym (number_is ∙ ap (λ n. seen_value agg s +ℤ n) added) in
          record {
            by = lawful_runs asking picks counts of_cells lawful;
            gives = subst (λ v. IsSomeAnd v (λ r. IsSame r (whole number))) (sym (value_is schema constraints query seen nodes formed asking agg rows is always)) (ap (λ n. n *ℤ pos 1) same);
          }
