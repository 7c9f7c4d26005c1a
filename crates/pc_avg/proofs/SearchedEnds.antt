-- What an end is sought over, and what it ends in.
use Rattle.std.proofs.Common.{◌≡◌, ℕ, ◌<◌, ℤ, pos, ◌≤ℤ◌, Bool, true, false, cond, List, [], length, map, get_or, All, Some, inl, inr, refl, sym, ap, subst, ◌∙◌, arith}
use Rattle.std.proofs.lemmas.Int.{ints}
use Rattle.std.proofs.lemmas.List.{length-map, get_or-map}
use Rattle.std.proofs.lemmas.Slice.Zip.{AllZip-long}
use Rattle.pc_model.specs.declared.query.Folded.{Folded}
use Rattle.pc_model.specs.Aggregate.{Ratio}
use Rattle.pc_model.specs.Cells.{Class}
use Rattle.pc_program_bound.specs.declared.program.Program.{Program}
use Rattle.pc_program_bound.specs.Sums.{int_at}
use Rattle.pc_program_bound.specs.Allocation.{IsAllocation, cells_of}
use Rattle.pc_program_bound.proofs.CellPlaces.{no_class, cell_inside}
use Rattle.pc_proof.specs.declared.answer.End.{End}
use Rattle.pc_proof.specs.Setting.{Setting, cells, on_chosen}
use Rattle.pc_proof.specs.Table.{one}
use Rattle.pc_branch_licences.specs.Pools.{AreLawful}
use Rattle.pc_agg_search.specs.declared.extreme.Extreme.{Extreme}
use Rattle.pc_agg_search.specs.Keys.{key_of, IsAtEnd}
use Rattle.pc_agg_search.specs.Wants.{most_chosen}
use Rattle.pc_avg_ratio.specs.declared.highest.Highest.{Highest}
use Rattle.pc_avg_ratio.specs.declared.highest.Highest.TheVariants.{Reached, Above}
use Rattle.pc_avg_ratio.specs.Best.{HasNoRows, IsHighestOf}
use Rattle.pc_avg_ratio.specs.Fractional.{ratio_with, IsLawful}
use Rattle.pc_avg_ratio.specs.Fractional as fractional
use Rattle.pc_avg_ratio.specs.Highest.{IsHighest, IsSurely}
use Rattle.std.specs.Prelude.{slice_index_or}
use Rattle.pc_avg.specs.declared.sides.Side.{Side}
use Rattle.pc_avg.specs.Ends.{end_of, end_by_values, CanTurn, IsEndOver, IsEndSurely}
use Rattle.pc_avg.specs.Sides.{observed_key, IsSide, IsOutermost, IsOutermostKey}

-- a cell that counts once is chosen
is_one : (chosen : Bool) → cond chosen (pos 1) (pos 0) ≡ pos 1 → chosen ≡ true
is_one true is = refl
is_one false is = absurd (omega (arith, ints, is))

module _ (u : Setting) (seen : Folded) (extreme : Extreme) (side : Side) (is : IsSide u seen extreme side) where
  pub lawful_here : (counts : List ℕ) → AreLawful u counts → IsLawful side.fraction counts
  lawful_here counts own = subst (λ (p : Program). IsAllocation p p.floor p.cap counts) (sym is.rows_are) (record { sized = own.sized; within = own.within; met = own.met })

  pub all_lawful : (found : List (List ℕ)) → All (AreLawful u) found → All (IsLawful side.fraction) found
  all_lawful found lawful place d inside = lawful_here (get_or found place d) (lawful place d inside)

  pub found_lawful : (found : List (List ℕ)) (place : ℕ) → All (AreLawful u) found → place < length found → IsLawful side.fraction (slice_index_or found place [])
  found_lawful found place lawful inside = lawful_here (slice_index_or found place []) (lawful place [] inside)

  module _ (key : ℤ) (there : side.outermost ≡ Some key) where
    own_outermost : IsOutermostKey u extreme (observed_key seen extreme) key
    own_outermost = subst (IsOutermost u extreme (observed_key seen extreme)) there is.outermost

    within : (i : ℕ) → i < cells_of side.fraction.rows → int_at side.fraction.rows.gain i ≡ pos 1 → int_at side.fraction.sums.gain i ≤ℤ key
    within i below gain =
        let own : i < cells_of (most_chosen u) = subst (λ (p : Program). i < cells_of p) is.rows_are below in
        let inside = cell_inside u.question.constraints (cells u) (map (on_chosen one) (cells u)) i own in
        let class = get_or (cells u) i no_class in
        let gain_is : int_at side.fraction.rows.gain i ≡ on_chosen one class = ap (λ (p : Program). int_at p.gain i) is.rows_are ∙ get_or-map (on_chosen one) (cells u) i no_class (pos 0) inside in
        let sum_is : int_at side.fraction.sums.gain i ≡ on_chosen (key_of u extreme) class = ap (λ (p : Program). int_at p.gain i) is.sums_are ∙ get_or-map (on_chosen (key_of u extreme)) (cells u) i no_class (pos 0) inside in
        let chosen = is_one class.chosen (sym gain_is ∙ gain) in
        subst (λ n. n ≤ℤ key) (sym (sum_is ∙ ap (λ b. cond b (key_of u extreme class) (pos 0)) chosen)) (own_outermost.chosen i no_class inside chosen)

    pub outermost_at : fractional.IsOutermost side.fraction key
    outermost_at = record { small = own_outermost.small; within = within }

  pub can_turn : (key : ℤ) (budget : ℕ) (first : Ratio) (highest : Highest) → IsHighest side.fraction key budget first highest → CanTurn (length side.picks) highest
  can_turn key budget first (Reached ratio counts tree) at =
      (at.lowest.num_fits, AllZip-long (IsAtEnd u extreme) (cells u) side.picks is.picked ∙ sym (length-map (cells u) (λ (class : Class). class.mask)) ∙ sym (ap cells_of is.rows_are) ∙ sym at.ratio_is.has.lawful.sized)
  can_turn key budget first (Above ratio counts tree value) at = (at.lowest.num_fits, at.value_lowest.num_fits)

  module _ (budget : ℕ) (found : List (List ℕ)) (key : ℤ) (there : side.outermost ≡ Some key) (end : End) where
    pub unvalued_end : All (HasNoRows side.fraction) found → end ≡ end_by_values extreme key → IsEndOver u seen budget extreme found end
    unvalued_end none end_is = record { side = side; side_is = is; outermost = key; outermost_is = there; by = inl (record { none = none; end_is = end_is }) }

    pub sought_end : (place : ℕ) (highest : Highest) → IsHighestOf side.fraction found place → IsHighest side.fraction key budget (ratio_with side.fraction (slice_index_or found place [])) highest →
        end ≡ end_of extreme side.picks highest → IsEndOver u seen budget extreme found end
    sought_end place highest start at end_is =
        record { side = side; side_is = is; outermost = key; outermost_is = there; by = inr (record { place = place; start = start; highest = highest; highest_is = at; end_is = end_is }) }

  -- no search was cut short
  pub unvalued_surely : (found : List (List ℕ)) (key : ℤ) (end : End) → All (HasNoRows side.fraction) found → end ≡ end_by_values extreme key → IsEndSurely u seen extreme found (Some end)
  unvalued_surely found key end none end_is = subst (λ e. IsEndSurely u seen extreme found (Some e)) (sym end_is) (side, is, none)

  pub sought_surely : (found : List (List ℕ)) (highest : Highest) (end : End) → IsSurely highest → end ≡ end_of extreme side.picks highest → IsEndSurely u seen extreme found (Some end)
  sought_surely found highest end sure end_is = subst (λ e. IsEndSurely u seen extreme found (Some e)) (sym end_is) (by highest sure)
    where
      by : (highest : Highest) → IsSurely highest → IsEndSurely u seen extreme found (Some (end_of extreme side.picks highest))
      by (Reached ratio counts tree) sure = tt
      by (Above ratio counts tree value) sure = absurd sure
