-- A run over short rows, a step further.
use Rattle.std.proofs.Common.{◌≡◌, ◌-◌, ◌++◌, ℕ, List, [], ◌∷◌, Some, true, ap, sym, ◌∙◌}
use Rattle.pc_simplex_tableau.specs.declared.step.Step.{Step}
use Rattle.pc_simplex_tableau.specs.Tableau.{Tableau, run, entering, deciding, after_step, does_step_fit}
use Rattle.pc_simplex_tableau.proofs.Running.{run_steps}
use Rattle.pc_simplex_short.specs.Short.{ShortSetting, spelled}
use Rattle.pc_simplex_short.specs.Kept.{IsShort}
use Rattle.pc_simplex_short.specs.Stays.{StaysShort}
use Rattle.pc_simplex_short.proofs.Given.{stays_further}

-- a run from here is the run from the start
pub record IsRunFrom (f : ShortSetting) (most : ℕ) (taken : List Step) (start : Tableau) (left : ℕ) (steps : List Step) (t : Tableau) : Type 0 where
  pub same : run f.columns left steps (spelled f t) ≡ run f.columns most taken (spelled f start)
  pub short : IsShort f t
  pub stays : StaysShort f most start → StaysShort f left t

module _ (f : ShortSetting) (steps : List Step) (t : Tableau) (c : ℕ) (enters : Some c ≡ entering f.columns (spelled f t)) where
  pub run_further : (most left leaves : ℕ) (taken : List Step) (start next : Tableau) → (left ≡ 0 → ⊥)
      → does_step_fit f.columns c (deciding f.columns c (spelled f t)) (spelled f t) ≡ true → leaves ≡ (deciding f.columns c (spelled f t)).column
      → spelled f next ≡ after_step f.columns c leaves (deciding f.columns c (spelled f t)).way (spelled f t) → IsShort f next
      → IsRunFrom f most taken start left steps t
      → IsRunFrom f most taken start (left - 1) (steps ++ record { enters = c; leaves = leaves } ∷ []) next
  run_further most left leaves taken start next some fits column is short h = record {
    same = sym (run_steps f.columns steps (spelled f t) c enters left leaves (spelled f next) some fits column is) ∙ h.same;
    short = short;
    stays = λ all. stays_further f left c t next some enters
        (is ∙ ap (λ k. after_step f.columns c k (deciding f.columns c (spelled f t)).way (spelled f t)) column) (h.stays all);
  }
