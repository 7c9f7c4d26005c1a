-- The numbers of a possible list beside the candidates of an end.
use Rattle.std.proofs.Common.{◌≡◌, ℤ, ◌≤ℤ◌, true, List, get_or, All, inl, inr, refl, sym, subst, ◌∙◌, arith}
use Rattle.std.proofs.lemmas.Int.{ints}
use Rattle.std.proofs.lemmas.List.Elements.{Contains-get_or}
use Rattle.pc_model.specs.declared.row.Row.{Row}
use Rattle.pc_model.specs.Aggregate.{asked as asked_of}
use Rattle.pc_model.specs.Cells.{Class}
use Rattle.pc_model.specs.Right.{IsPossibleFor}
use Rattle.pc_proof.specs.Setting.{Setting, seen_numbers, low_in, high_in}
use Rattle.pc_proof.proofs.Groups.{keeps_area}
use Rattle.pc_proof.proofs.Kept.{cell_of, between, in_cells}
use Rattle.pc_proof.proofs.Seen.{keeps, of_all, from_lost}
use Rattle.pc_lang.specs.declared.quantile.Quantile.{Quantile}
use Rattle.pc_quantile.specs.Candidates.{AreFrom, AreUpTo, IsCandidate, StandAt}
use Rattle.pc_quantile.specs.Measured.{IsAskedIn, numbers_of}
use Rattle.pc_quantile.proofs.Within.{asks}

module _ (s : Setting) (asked : Quantile) (lost : List Row) (is : IsAskedIn s asked) (possible : IsPossibleFor s.question lost) where
  -- what holds of the candidates, and of the number of each lost row where it holds of its cell's, holds of all
  from_candidates : (P : ℤ → Type 0) (end : Class → ℤ) → ((number : ℤ) → IsCandidate s end number → P number) →
      All (λ row. (cell_of s row).chosen ≡ true → P (end (cell_of s row)) → P (asked_of s.question.query row)) lost → All P (numbers_of s.question lost)
  from_candidates P end each nearer =
      of_all s.question lost P (λ place d inside. each (get_or (seen_numbers s.question) place d) (inr (Contains-get_or (seen_numbers s.question) place d inside)))
      (from_lost s.question lost P at_row)
    where
      at_row : All (λ row. keeps s.question row ≡ true → P (asked_of s.question.query row)) lost
      at_row place d inside kept =
          let row = get_or lost place d in
          let chosen = sym (keeps_area s.question is.posed row) ∙ kept in
          let listed = in_cells s is.posed is.tree lost possible place d inside in
          nearer place d inside chosen (each (end (cell_of s row)) (inl (record { class = cell_of s row; listed = listed; chosen = chosen; is = refl })))

  pub under_highest : (most : ℤ) → AreUpTo s (high_in s) most → All (λ n. n ≤ℤ most) (numbers_of s.question lost)
  under_highest most each =
      from_candidates (λ n. n ≤ℤ most) (high_in s) each
      (λ place d inside chosen end. let ends = between s is.posed is.tree lost possible (asks s asked is lost) place d inside in omega (arith, ints, end, ends.1))

  pub over_lowest : (least : ℤ) → AreFrom s (low_in s) least → All (λ n. least ≤ℤ n) (numbers_of s.question lost)
  over_lowest least each =
      from_candidates (λ n. least ≤ℤ n) (low_in s) each
      (λ place d inside chosen end. let ends = between s is.posed is.tree lost possible (asks s asked is lost) place d inside in omega (arith, ints, end, ends.0))

  pub at_an_end : (end : Class → ℤ) → StandAt s end lost → All (IsCandidate s end) (numbers_of s.question lost)
  at_an_end end stand =
      from_candidates (IsCandidate s end) end (λ number candidate. candidate)
      (λ place d inside chosen found. subst (IsCandidate s end) (sym (stand place d inside chosen)) found)
