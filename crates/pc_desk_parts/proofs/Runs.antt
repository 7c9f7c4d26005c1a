-- Rows of runs under a constraint, and the parts of runs, as far as a loop has come.
use Rattle.std.proofs.Common.{◌≡◌, ◌∙◌, ℕ, ◌+◌, ◌<◌, ◌≤◌, Bool, true, false, cond, List, [], ◌∷◌, ◌++◌, filter, get_or, length, map, take, refl, sym, ap, arith, append-nil}
use Rattle.std.specs.List.{count_by, sum_by}
use Rattle.std.proofs.lemmas.List.{map-append, take_all}
use Rattle.std.proofs.lemmas.List.Elements.{filter_more}
use Rattle.std.proofs.lemmas.List.Sums.{sum_by_more, sum_by-take-le}
use Rattle.pc_model.specs.declared.row.Row.{Row}
use Rattle.pc_model.specs.declared.row.Run.{Run}
use Rattle.pc_model.specs.Runs.{rows_of}
use Rattle.pc_witness.proofs.Repeats.{count_by-repeats}

-- how many rows of the runs pass a test
abbrev pub times_where : (Row → Bool) → List Run → ℕ
times_where test runs = sum_by (λ (run : Run). cond (test run.row) run.times 0) runs

pub rows_where : (test : Row → Bool) (runs : List Run) → count_by test (rows_of runs) ≡ times_where test runs
unfolding rows_of
rows_where test runs = count_by-repeats (λ (run : Run). run.times) (λ (run : Run). run.row) test runs

module _ (test : Row → Bool) (runs : List Run) (place : ℕ) (d : Run) (here : place < length runs) where
  pub times_more : times_where test (take (place + 1) runs) ≡ times_where test (take place runs) + cond (test (get_or runs place d).row) (get_or runs place d).times 0
  times_more = sum_by_more (λ (run : Run). cond (test run.row) run.times 0) runs place d here

  pub times_in : test (get_or runs place d).row ≡ true → times_where test (take place runs) + (get_or runs place d).times ≡ times_where test (take (place + 1) runs)
  times_in is = sym (times_more ∙ ap (λ (b : Bool). times_where test (take place runs) + cond b (get_or runs place d).times 0) is)

  pub times_within : test (get_or runs place d).row ≡ true → times_where test (take place runs) + (get_or runs place d).times ≤ count_by test (rows_of runs)
  times_within is = omega (arith, times_in is, sum_by-take-le (λ (run : Run). cond (test run.row) run.times 0) runs (place + 1), rows_where test runs)

pub times_all : (test : Row → Bool) (runs : List Run) (place : ℕ) → length runs ≤ place → times_where test (take place runs) ≡ count_by test (rows_of runs)
times_all test runs place past = ap (times_where test) (take_all place runs past) ∙ sym (rows_where test runs)

-- ---- what is made of the items that pass a test

module _ {X Y : Type 0} (made : X → Y) (test : X → Bool) where
  map_one : (b : Bool) (x : X) → map made (cond b (x ∷ []) []) ≡ cond b (made x ∷ []) []
  map_one true x = refl
  map_one false x = refl

  module _ (xs : List X) (place : ℕ) (d : X) (here : place < length xs) where
    made_more : map made (filter test (take (place + 1) xs)) ≡ map made (filter test (take place xs)) ++ cond (test (get_or xs place d)) (made (get_or xs place d) ∷ []) []
    made_more =
        ap (map made) (filter_more test xs place d here)
        ∙ map-append made (filter test (take place xs)) (cond (test (get_or xs place d)) (get_or xs place d ∷ []) [])
        ∙ ap (λ (more : List Y). map made (filter test (take place xs)) ++ more) (map_one (test (get_or xs place d)) (get_or xs place d))

    pub made_in : test (get_or xs place d) ≡ true → map made (filter test (take (place + 1) xs)) ≡ map made (filter test (take place xs)) ++ made (get_or xs place d) ∷ []
    made_in is = made_more ∙ ap (λ (b : Bool). map made (filter test (take place xs)) ++ cond b (made (get_or xs place d) ∷ []) []) is

    pub made_out : test (get_or xs place d) ≡ false → map made (filter test (take (place + 1) xs)) ≡ map made (filter test (take place xs))
    made_out is = made_more ∙ ap (λ (b : Bool). map made (filter test (take place xs)) ++ cond b (made (get_or xs place d) ∷ []) []) is ∙ append-nil (map made (filter test (take place xs)))

pub ruleset steps = (made_in, made_out)
