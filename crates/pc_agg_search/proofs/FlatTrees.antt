-- The tree of one leaf, whose multipliers are 0, shows that nothing gains where no cell does.
use Rattle.std.proofs.Common.{◌≡◌, ℕ, ◌<◌, ◌≤◌, refl, sym, ap, subst, ◌∙◌, arith}
use Rattle.std.specs.Prelude.{ℤ, pos, ◌*ℤ◌, ◌≤ℤ◌}
use Rattle.std.specs.Int.{int_max}
use Rattle.std.proofs.lemmas.Int.{ints, clamps}
use Rattle.std.proofs.lemmas.List.Elements.{All-replicate}
use Rattle.pc_num.specs.Signs.{Fits}
use Rattle.pc_model.specs.Places.{has_bit}
use Rattle.pc_program_bound.specs.declared.program.Program.{Program}
use Rattle.pc_program_bound.specs.Sums.{nat_at, int_at}
use Rattle.pc_program_bound.specs.Allocation.{IsProgram, cells_of, constraints_of}
use Rattle.pc_program_bound.specs.Bound.{part_of, rest_of, constraint_share, cell_share, raw_bound, bound_of}
use Rattle.pc_program_bound.proofs.SumBelow.{sum_below-none, none_chosen}
use Rattle.pc_branch.specs.Ends.{HasSmallGains}
use Rattle.pc_branch.specs.Licence.{no_multipliers}
use Rattle.pc_branch.proofs.Leaves.{start_multipliers}
use Rattle.pc_branch.proofs.Points.{exact-div}
use Rattle.pc_branch.proofs.Widths.{no_number, HasFitWidth-small}
use Rattle.pc_agg_search.specs.declared.want.Want.TheVariants as wants
use Rattle.pc_agg_search.specs.Flat.{flat_tree}
use Rattle.pc_agg_search.specs.Wants.{FallsShort}

pub no_product : (a b : ℤ) → a ≡ pos 0 → a *ℤ b ≡ pos 0
no_product a b none = rw none (omega (arith, ints))

greater_none : (a b : ℤ) → a ≡ pos 0 → b ≤ℤ pos 0 → int_max a b ≡ pos 0
greater_none a b first second = omega (arith, ints, clamps, first, second)

-- ---- the bound

module _ (p : Program) where
  rest_gain : (i : ℕ) → rest_of p (no_multipliers p) i ≡ int_at p.gain i
  rest_gain i =
      let none = sum_below-none (constraints_of p) (part_of p (no_multipliers p) i)
      (λ j h. none_chosen (has_bit (nat_at p.masks i) j) (int_at (no_multipliers p).by j) (no_number (constraints_of p) j)) in
      omega (arith, ints, none)

  module _ (floors : (i : ℕ) → i < cells_of p → nat_at p.floor i ≡ 0) (none : (i : ℕ) → i < cells_of p → (int_at p.gain i *ℤ pos (nat_at p.cap i)) ≤ℤ pos 0) where
    at_floor : (i : ℕ) → i < cells_of p → rest_of p (no_multipliers p) i *ℤ pos (nat_at p.floor i) ≡ pos 0
    at_floor i h =
        let zero_is : pos (nat_at p.floor i) ≡ pos 0 = ap pos (floors i h) in
        ap (λ x. rest_of p (no_multipliers p) i *ℤ x) zero_is ∙ omega (arith, ints)

    at_cap : (i : ℕ) → i < cells_of p → (rest_of p (no_multipliers p) i *ℤ pos (nat_at p.cap i)) ≤ℤ pos 0
    at_cap i h = subst (λ x. (x *ℤ pos (nat_at p.cap i)) ≤ℤ pos 0) (sym (rest_gain i)) (none i h)

    raw_none : raw_bound p p.floor p.cap (no_multipliers p) ≡ pos 0
    raw_none =
        let limits = sum_below-none (constraints_of p) (constraint_share p (no_multipliers p)) (λ j h. no_product (int_at (no_multipliers p).by j) _ (no_number (constraints_of p) j)) in
        let shares = sum_below-none (cells_of p) (cell_share p p.floor p.cap (no_multipliers p)) (λ i h. greater_none _ _ (at_floor i h) (at_cap i h)) in
        omega (arith, ints, limits, shares)

    pub bound_none : bound_of p p.floor p.cap (no_multipliers p) ≡ pos 0
    bound_none = sym (exact-div (pos 1) (pos 0) (raw_bound p p.floor p.cap (no_multipliers p)) (omega (arith, ints)) (sym raw_none))

    pub flat_short : (budget n : ℕ) → IsProgram p → HasSmallGains p → constraints_of p ≡ n → 1 ≤ budget → FallsShort p wants.Gaining budget (flat_tree n)
    flat_short budget n program small same some = subst (λ k. FallsShort p wants.Gaining budget (flat_tree k)) same (record {
      preorder = refl;
      proves = start_multipliers p (HasFitWidth-small p program small);
      under = omega (arith, ints, bound_none);
      search = record { few = some; splits = tt };
      fits = (All-replicate Fits (constraints_of p) (pos 0) (omega (arith, ints)), omega (arith, ints));
    })
