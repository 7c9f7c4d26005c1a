-- The sample is a setting, and its start is in short form.
use Rattle.std.proofs.Common.{◌≡◌, ◌<◌, ◌≤◌, ◌^◌, ℕ, zero, suc, pos, [], ◌∷◌, Bool, true, false, cond, Option, Some, None, refl, arith}
use Rattle.std.specs.Prelude.{nat_abs, nat_le}
use Rattle.pc_program_bound.specs.Sums.{nat_at}
use Rattle.std.proofs.lemmas.List.Elements.{All-nil, All-cons}
use Rattle.pc_simplex_tableau.specs.Tableau.{Tableau, range_of}
use Rattle.pc_simplex_short.specs.Short.{ShortSetting}
use Rattle.pc_simplex_short.specs.Kept.{IsWithin, ArePlaces, IsSlackOf, IsSetting, IsShortRow, IsShort}
use Rattle.pc_solver_trials.specs.ShortSamples.{sample_setting, sample_start}

small_range : (k : ℕ) → nat_at (5 ∷ 3 ∷ []) k < 2 ^ 64
small_range zero = omega arith
small_range (suc zero) = omega arith
small_range (suc (suc k)) = omega arith

ends : (k u : ℕ) → range_of sample_setting.columns k ≡ Some u → u < 2 ^ 64
ends k u e = by (nat_le 2 k) e
  where
    by : (test : Bool) → cond {A = Option ℕ} test None (Some (nat_at (5 ∷ 3 ∷ []) k)) ≡ Some u → u < 2 ^ 64
    by true d = absurd cc
    by false d = let same : nat_at (5 ∷ 3 ∷ []) k ≡ u = cc in rw (← same) (small_range k)

only_first : ArePlaces sample_setting (0 ∷ [])
only_first = record { few = omega arith; within = All-cons (λ j. j < 1) 0 [] (omega arith) (All-nil (λ j. j < 1)) }

slack : (j : ℕ) → j < 1 → (k : ℕ) × IsSlackOf sample_setting j k
slack zero lt = (1, record { within = omega arith; place = refl; gainless = refl })
slack (suc j) lt = absurd (omega (arith, lt))

pub sample_is_setting : (f : ShortSetting) → f ≡ sample_setting → IsSetting f
sample_is_setting f e = rw e (record {
  ranges = omega arith;
  few = omega arith;
  ends = ends;
  listed = refl;
  places = All-cons (ArePlaces sample_setting) (0 ∷ []) ((0 ∷ []) ∷ (0 ∷ []) ∷ []) only_first
      (All-cons (ArePlaces sample_setting) (0 ∷ []) ((0 ∷ []) ∷ []) only_first (All-cons (ArePlaces sample_setting) (0 ∷ []) [] only_first (All-nil (ArePlaces sample_setting))));
  gains = refl;
  top = All-cons (λ g. nat_abs g ≤ 1) (pos 1) (pos 0 ∷ pos 0 ∷ []) (omega arith) (All-cons (λ g. nat_abs g ≤ 1) (pos 0) (pos 0 ∷ []) (omega arith)
      (All-cons (λ g. nat_abs g ≤ 1) (pos 0) [] (omega arith) (All-nil (λ g. nat_abs g ≤ 1))));
  some = omega arith;
  slacks = slack;
})

pub sample_is_short : (f : ShortSetting) (t : Tableau) → f ≡ sample_setting → t ≡ sample_start → IsShort f t
sample_is_short f t e d = rw (e, d) (record {
  rows = All-cons (IsShortRow sample_setting) (record { numbers = pos 1 ∷ pos 3 ∷ []; basic = 1 }) []
      (record {
        numbers = refl;
        basic = omega arith;
        small = All-cons (IsWithin 50) (pos 1) (pos 3 ∷ []) (omega arith) (All-cons (IsWithin 50) (pos 3) [] (omega arith) (All-nil (IsWithin 50)));
      }) (All-nil (IsShortRow sample_setting));
  turned = refl;
  aim = record { numbers = refl; small = All-cons (IsWithin 64) (pos 0) [] (omega arith) (All-nil (IsWithin 64)); light = omega arith };
})
