-- A run, a step further.
use Rattle.std.proofs.Common.{◌≡◌, ◌-◌, ℕ, zero, suc, Bool, true, false, List, [], ◌∷◌, ◌++◌, Option, Some, None, refl, ap, sym, ◌∙◌, arith}
use Rattle.std.proofs.lemmas.Bool.{false_from_ne_true}
use Rattle.pc_simplex_tableau.specs.declared.step.Step.{Step}
use Rattle.pc_simplex_tableau.specs.Tableau.{Tableau, Columns, WholeRun, ended, wide, stalled, run, entering, deciding, after_step, does_step_fit}
use Rattle.pc_simplex_tableau.specs.Conditions.{IsSized, AreFitNumbers}

-- a run from here is the run from the start
pub record IsRunFrom (f : Columns) (most : ℕ) (taken : List Step) (start : Tableau) (left : ℕ) (steps : List Step) (t : Tableau) : Type 0 where
  pub same : run f left steps t ≡ run f most taken start
  pub sized : IsSized f t
  pub fits : AreFitNumbers t

module _ (f : Columns) (steps : List Step) (t : Tableau) where
  abbrev at_last : Option ℕ → WholeRun
  at_last found = elim found [ None ↦ ended zero steps t | Some c ↦ stalled steps ]

  abbrev chosen : ℕ → ℕ → Bool → WholeRun
  chosen left c fits = elim fits [
    | false ↦ wide steps
    | true ↦ run f left (steps ++ record { enters = c; leaves = (deciding f c t).column } ∷ []) (after_step f c (deciding f c t).column (deciding f c t).way t)
  ]

  abbrev at_more : ℕ → Option ℕ → WholeRun
  at_more left found = elim found [ None ↦ ended (suc left) steps t | Some c ↦ chosen left c (does_step_fit f c (deciding f c t) t) ]

  run-zero : run f zero steps t ≡ at_last (entering f t)
  unfolding run
  run-zero = refl

  run-suc : (left : ℕ) → run f (suc left) steps t ≡ at_more left (entering f t)
  unfolding run
  run-suc left = refl

  pub run_ends : (left : ℕ) → None ≡ entering f t → run f left steps t ≡ ended left steps t
  run_ends zero e = run-zero ∙ ap at_last (sym e)
  run_ends (suc left) e = run-suc left ∙ ap (at_more left) (sym e)

  module _ (c : ℕ) (enters : Some c ≡ entering f t) where
    pub run_stalls : (left : ℕ) → left ≡ 0 → run f left steps t ≡ stalled steps
    run_stalls left none = ap (λ n. run f n steps t) none ∙ run-zero ∙ ap at_last (sym enters)

    run_chosen : (left : ℕ) → run f (suc left) steps t ≡ chosen left c (does_step_fit f c (deciding f c t) t)
    run_chosen left = run-suc left ∙ ap (at_more left) (sym enters)

    pub run_wide : (left : ℕ) → (left ≡ 0 → ⊥) → (does_step_fit f c (deciding f c t) t ≡ true → ⊥) → run f left steps t ≡ wide steps
    run_wide zero some unfit = absurd (some refl)
    run_wide (suc left) some unfit = run_chosen left ∙ ap (chosen left c) (false_from_ne_true (does_step_fit f c (deciding f c t) t) unfit)

    pub run_steps : (left leaves : ℕ) (next : Tableau) → (left ≡ 0 → ⊥) → does_step_fit f c (deciding f c t) t ≡ true → leaves ≡ (deciding f c t).column →
        next ≡ after_step f c leaves (deciding f c t).way t → run f left steps t ≡ run f (left - 1) (steps ++ record { enters = c; leaves = leaves } ∷ []) next
    run_steps zero leaves next some fits column is = absurd (some refl)
    run_steps (suc left) leaves next some fits column is =
        let less : suc left - 1 ≡ left = omega arith in
        run_chosen left ∙ ap (chosen left c) fits ∙ rw (less, is, column) refl

    pub run_more : (most left leaves : ℕ) (taken : List Step) (start next : Tableau) → (left ≡ 0 → ⊥) → does_step_fit f c (deciding f c t) t ≡ true → leaves ≡ (deciding f c t).column →
        next ≡ after_step f c leaves (deciding f c t).way t → IsSized f next → AreFitNumbers next → IsRunFrom f most taken start left steps t →
        IsRunFrom f most taken start (left - 1) (steps ++ record { enters = c; leaves = leaves } ∷ []) next
    run_more most left leaves taken start next some fit column is sized fits h = record {
      same = sym (run_steps left leaves next some fit column is) ∙ h.same;
      sized = sized;
      fits = fits;
    }
