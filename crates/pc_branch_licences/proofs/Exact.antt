-- A least or greatest number that is exactly a whole number, and the lists of runs that attain it.
use Rattle.std.proofs.Common.{◌≡◌, ℤ, pos, ◌*ℤ◌, ◌≤ℤ◌, ◌<ℤ◌, false, List, [], ◌∷◌, length, fold, All, Option, Some, None, IfSome, IsSomeAnd, ◌⊎◌, inl, inr, sym, ap, subst, ◌∙◌, arith}
use Rattle.std.specs.Prelude.{option_map, int_lt, int_le}
use Rattle.std.specs.List.{reduce}
use Rattle.std.specs.Int.{int_min, int_max}
use Rattle.std.proofs.lemmas.Int.{ints, by_lt_z}
use Rattle.std.proofs.lemmas.List.Elements.{All-nil}
use Rattle.pc_model.specs.declared.row.Run.{Run}
use Rattle.pc_model.specs.declared.query.Agg.{Agg}
use Rattle.pc_model.specs.Aggregate.{Ratio, whole, IsAtMost, IsSame, value_of}
use Rattle.pc_model.specs.Right.{ArePossible, IsAttained, value_for}
use Rattle.pc_model.specs.Runs.{rows_of}
use Rattle.pc_proof.specs.declared.answer.Proof.{Proof}
use Rattle.pc_proof.specs.declared.answer.Bounded.{Bounded}
use Rattle.pc_proof.specs.Setting.{Setting}
use Rattle.pc_proof.specs.Table.{HasRatio, ShowsHigh, ShowsLow}
use Rattle.pc_proof.specs.Unbroken.{IsWellPosed}
use Rattle.pc_proof.proofs.Gains.{IsSettledFor}
use Rattle.pc_proof.proofs.Numbers.{all_from_least, all_from_greatest}
use Rattle.pc_proof.proofs.Seen.{all_numbers}
use Rattle.pc_proof.proofs.Shown.{high_holds, low_holds}

-- ---- tests of two numbers

module _ (a b : ℤ) where
  pub le_fails : int_le a b ≡ false → b <ℤ a
  le_fails test = grind (arith, ints, test)

  pub lt_fails : int_lt a b ≡ false → b ≤ℤ a
  lt_fails test = grind (arith, ints, test)

  pub not_le : b <ℤ a → int_le a b ≡ false
  not_le over = grind (arith, ints, over)

  pub not_lt : b ≤ℤ a → int_lt a b ≡ false
  not_lt from = grind (arith, ints, from)

-- ---- a number that there is, and one that there may be

pub apart : (o : Option ℤ) (P Q : ℤ → Type 0) → ((m : ℤ) → P m → Q m → ⊥) → IsSomeAnd o P → IfSome o Q → ⊥
apart None P Q never first second = first
apart (Some m) P Q never first second = never m first second

pub and_if : (o : Option ℤ) (P Q : ℤ → Type 0) → ((m : ℤ) → P m → Q m) → IsSomeAnd o P → IfSome o Q
and_if None P Q so first = tt
and_if (Some m) P Q so first = so m first

module _ (n : ℤ) where
  -- the least reaches the number, or all are above it
  pub least_reaches : (xs : List ℤ) → IsSomeAnd (reduce int_min xs) (λ m. m ≤ℤ n) ⊎ All (λ x. n <ℤ x) xs
  least_reaches [] = inr (All-nil (λ x. n <ℤ x))
  least_reaches (x ∷ xs) =
      by_lt_z n (fold int_min x xs)
      (λ over. inr (all_from_least (λ k. n <ℤ k) (x ∷ xs) (λ a b below over. omega (arith, ints, below, over)) over))
      (λ within. inl within)

  -- the greatest reaches the number, or all are below it
  pub greatest_reaches : (xs : List ℤ) → IsSomeAnd (reduce int_max xs) (λ g. n ≤ℤ g) ⊎ All (λ x. x <ℤ n) xs
  greatest_reaches [] = inr (All-nil (λ x. x <ℤ n))
  greatest_reaches (x ∷ xs) =
      by_lt_z (fold int_max x xs) n
      (λ under. inr (all_from_greatest (λ k. k <ℤ n) (x ∷ xs) (λ a b below under. omega (arith, ints, below, under)) under))
      (λ from. inl from)

  -- a number between two ends that are the same
  pub from_within : (o : Option ℤ) → IsSomeAnd o (λ m. m ≤ℤ n) → IfSome o (λ m. n ≤ℤ m) → IsSomeAnd o (λ m. m ≡ n)
  from_within None within from = within
  from_within (Some m) within from = omega (arith, ints, within, from)

  pub from_from : (o : Option ℤ) → IsSomeAnd o (λ m. n ≤ℤ m) → IfSome o (λ m. m ≤ℤ n) → IsSomeAnd o (λ m. m ≡ n)
  from_from None from within = from
  from_from (Some m) from within = omega (arith, ints, within, from)

  -- of the numbers of a list that has one
  pub from_some : (pick : ℤ → ℤ → ℤ) (xs : List ℤ) → pos 1 ≤ℤ pos (length xs) → IfSome (reduce pick xs) (λ m. n ≤ℤ m) → IfSome (reduce pick xs) (λ m. m ≤ℤ n) →
      IsSomeAnd (reduce pick xs) (λ m. m ≡ n)
  from_some pick [] some from within = absurd (omega (arith, ints, some))
  from_some pick (x ∷ xs) some from within = omega (arith, ints, within, from)

  -- ---- whole numbers as values

  whole_is : (o : Option ℤ) → IsSomeAnd (option_map whole o) (λ v. IsSame v (whole n)) → IsSomeAnd o (λ m. m ≡ n)
  whole_is None gives = gives
  whole_is (Some m) gives = omega (arith, ints, gives)

  whole_gives : (o : Option ℤ) → IsSomeAnd o (λ m. m ≡ n) → IsSomeAnd (option_map whole o) (λ v. IsSame v (whole n))
  whole_gives None is = is
  whole_gives (Some m) is = ap (λ k. k *ℤ pos 1) is

  whole_over : (o : Option ℤ) → IfSome (option_map whole o) (λ v. IsAtMost (whole n) v) → IfSome o (λ m. n ≤ℤ m)
  whole_over None over = tt
  whole_over (Some m) over = omega (arith, ints, over)

  whole_under : (o : Option ℤ) → IfSome (option_map whole o) (λ v. IsAtMost v (whole n)) → IfSome o (λ m. m ≤ℤ n)
  whole_under None under = tt
  whole_under (Some m) under = omega (arith, ints, under)

-- ---- the value of a list of runs is this number, if there is one

module _ (s : Setting) (runs : List Run) (o : Option ℤ) (valued : value_for s.question (rows_of runs) ≡ option_map whole o) (n : ℤ) where
  pub attained_number : IsAttained s.question (whole n) runs → IsSomeAnd o (λ m. m ≡ n)
  attained_number attained = whole_is n o (subst (λ (v : Option Ratio). IsSomeAnd v (λ x. IsSame x (whole n))) valued attained.gives)

  pub attains_number : ArePossible s.question runs → IsSomeAnd o (λ m. m ≡ n) → IsAttained s.question (whole n) runs
  attains_number possible is = record {
    by = possible;
    gives = subst (λ (v : Option Ratio). IsSomeAnd v (λ x. IsSame x (whole n))) (sym valued) (whole_gives n o is);
  }

  module _ (posed : IsWellPosed s.question) (tree : IsSettledFor s) (possible : ArePossible s.question runs) (agg : Agg) (is : s.question.query.agg ≡ agg) (proof : Proof) (ratio : HasRatio proof) where
    abbrev end : Bounded
    end = record { value = record { num = n; den = pos 1 }; proof = proof }

    pub number_over : ShowsLow s agg (whole n) proof → IfSome o (λ m. n ≤ℤ m)
    number_over shows =
        whole_over n o
        (subst (λ (v : Option Ratio). IfSome v (λ x. IsAtMost (whole n) x)) valued
        (low_holds s posed tree (rows_of runs) possible.are_possible end (record { positive = omega (arith, ints); ratio = ratio })
        (subst (λ (a : Agg). ShowsLow s a (whole n) proof) (sym is) shows)))

    pub number_under : ShowsHigh s agg (whole n) proof → IfSome o (λ m. m ≤ℤ n)
    number_under shows =
        whole_under n o
        (subst (λ (v : Option Ratio). IfSome v (λ x. IsAtMost x (whole n))) valued
        (high_holds s posed tree (rows_of runs) possible.are_possible end (record { positive = omega (arith, ints); ratio = ratio })
        (subst (λ (a : Agg). ShowsHigh s a (whole n) proof) (sym is) shows)))

-- where the aggregate picks a number
pub picked_value : (s : Setting) (runs : List Run) (agg : Agg) (o : Option ℤ) → s.question.query.agg ≡ agg → value_of agg (all_numbers s.question (rows_of runs)) ≡ option_map whole o →
    value_for s.question (rows_of runs) ≡ option_map whole o
picked_value s runs agg o is value = ap (λ (a : Agg). value_of a (all_numbers s.question (rows_of runs))) is ∙ value
