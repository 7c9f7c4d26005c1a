-- The runs of rows that some constraints speak of stand for the rows that they speak of.
use Rattle.std.proofs.Common.{◌≡◌, ℕ, zero, suc, ◌≤◌, Bool, true, false, cond, List, [], ◌∷◌, ◌++◌, filter, replicate, All, Contains, refl, sym, ap, subst, ◌∙◌}
use Rattle.std.proofs.lemmas.List.Elements.{All-filter, filter-append}
use Rattle.pc_model.specs.declared.schema.Schema.{Schema}
use Rattle.pc_model.specs.declared.row.Row.{Row}
use Rattle.pc_model.specs.declared.row.Run.{Run}
use Rattle.pc_model.specs.declared.constraint.Constraint.{Constraint}
use Rattle.pc_model.specs.Possible.{IsPossible}
use Rattle.pc_model.specs.Runs.{rows_of}
use Rattle.pc_conflict.specs.Besides.{is_spoken_of, spoken_runs}
use Rattle.pc_conflict.specs.Deletion.{StandFor}
use Rattle.pc_conflict.proofs.LeavingOut.{possible_still}

module _ (passes : Row → Bool) where
  filter-replicate : (n : ℕ) (row : Row) (b : Bool) → passes row ≡ b → filter passes (replicate n row) ≡ cond b (replicate n row) []
  filter-replicate zero row true is = refl
  filter-replicate zero row false is = refl
  filter-replicate (suc n) row true is = rw is (ap (λ rows. row ∷ rows) (filter-replicate n row true is))
  filter-replicate (suc n) row false is = rw is (filter-replicate n row false is)

  abbrev passing : List Run → List Run
  passing runs = filter (λ (run : Run). passes run.row) runs

  one_more : (run : Run) (runs : List Run) → rows_of (passing runs) ≡ filter passes (rows_of runs) → (b : Bool) → passes run.row ≡ b →
      rows_of (cond b (run ∷ passing runs) (passing runs)) ≡ filter passes (replicate run.times run.row ++ rows_of runs)
  unfolding rows_of
  one_more run runs rest true is =
      ap (λ rows. replicate run.times run.row ++ rows) rest ∙ sym (filter-append passes (replicate run.times run.row) (rows_of runs) ∙ ap (λ rows. rows ++ filter passes (rows_of runs)) (filter-replicate run.times run.row true is))
  one_more run runs rest false is =
      rest ∙ sym (filter-append passes (replicate run.times run.row) (rows_of runs) ∙ ap (λ rows. rows ++ filter passes (rows_of runs)) (filter-replicate run.times run.row false is))

  rows_of-passing : (runs : List Run) → rows_of (passing runs) ≡ filter passes (rows_of runs)
  unfolding rows_of
  rows_of-passing [] = refl
  rows_of-passing (run ∷ runs) = one_more run runs (rows_of-passing runs) (passes run.row) refl

pub stand_still : (schema : Schema) (whole rest : List Constraint) (runs : List Run) → All (Contains whole) rest → StandFor schema whole runs → StandFor schema rest (spoken_runs whole rest runs)
stand_still schema whole rest runs part stands = record {
  each_stands = All-filter (λ (run : Run). is_spoken_of whole rest run.row) (λ (run : Run). 1 ≤ run.times) runs stands.each_stands;
  possible =
      subst (IsPossible schema rest) (sym (rows_of-passing (is_spoken_of whole rest) runs))
      (possible_still schema whole rest (rows_of runs) part stands.possible);
}
