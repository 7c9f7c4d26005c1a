-- A start that is as the steps want it.
use Rattle.std.proofs.Common.{◌≡◌, pos, negsuc, [], ◌∷◌, All, arith, refl}
use Rattle.std.proofs.lemmas.List.Elements.{All-nil, All-cons}
use Rattle.pc_program_bound.specs.Bound.{IsFit}
use Rattle.pc_simplex_tableau.specs.Tableau.{Tableau, Columns}
use Rattle.pc_simplex_tableau.specs.Conditions.{IsSizedRow, IsSized, IsFitRow, AreFitNumbers}
use Rattle.pc_solver_trials.specs.Wanting.{wanting_columns, wanting_row, wanting_start}

fit_one : IsFit (pos 1)
fit_one = omega arith

fit_least : IsFit (negsuc 0)
fit_least = omega arith

fit_none : IsFit (pos 0)
fit_none = omega arith

one_fits : All IsFit (pos 1 ∷ negsuc 0 ∷ pos 1 ∷ pos 1 ∷ [])
one_fits =
    All-cons IsFit (pos 1) (negsuc 0 ∷ pos 1 ∷ pos 1 ∷ []) fit_one
    (All-cons IsFit (negsuc 0) (pos 1 ∷ pos 1 ∷ []) fit_least (All-cons IsFit (pos 1) (pos 1 ∷ []) fit_one (All-cons IsFit (pos 1) [] fit_one (All-nil IsFit))))

aim_fits : All IsFit (pos 1 ∷ negsuc 0 ∷ pos 0 ∷ [])
aim_fits =
    All-cons IsFit (pos 1) (negsuc 0 ∷ pos 0 ∷ []) fit_one (All-cons IsFit (negsuc 0) (pos 0 ∷ []) fit_least (All-cons IsFit (pos 0) [] fit_none (All-nil IsFit)))

pub wanting_sized : (f : Columns) (t : Tableau) → f ≡ wanting_columns → t ≡ wanting_start → IsSized f t
wanting_sized f t e is = rw (e, is) (record {
  ranges = omega arith;
  rows = All-cons (IsSizedRow wanting_columns) wanting_row [] (record { numbers = refl; basic = omega arith }) (All-nil (IsSizedRow wanting_columns));
  turned = refl;
  aim = refl;
})

pub wanting_fits : (t : Tableau) → t ≡ wanting_start → AreFitNumbers t
wanting_fits t is = rw is (record {
  rows = All-cons IsFitRow wanting_row [] one_fits (All-nil IsFitRow);
  aim = aim_fits;
  weight = fit_one;
})
