-- What observed and lost rows come to together.
use Rattle.std.proofs.Common.{◌≡◌, ℕ, ◌+◌, ℤ, pos, ◌+ℤ◌, List, [], ◌∷◌, ◌++◌, length, map, fold, Option, Some, None, IfSome, refl, sym, ap, ap₂, ◌∙◌, arith}
use Rattle.std.specs.Int.{int_min, int_max}
use Rattle.std.specs.List.{reduce}
use Rattle.std.proofs.lemmas.Int.{ints, clamps}
use Rattle.std.proofs.lemmas.List.{length-append, map-append}
use Rattle.std.proofs.lemmas.List.Elements.{filter-append}
use Rattle.std.proofs.lemmas.List.Sums.{fold-append}
use Rattle.pc_model.specs.declared.row.Row.{Row}
use Rattle.pc_model.specs.declared.query.Folded.{Folded}
use Rattle.pc_model.specs.Aggregate.{asked, int_sum}
use Rattle.pc_model.specs.Right.{Question}
use Rattle.pc_proof.specs.Observed.{ComesTo}
use Rattle.pc_proof.specs.Setting.{seen, seen_numbers, seen_sum}
use Rattle.pc_proof.specs.Table.{greater_of, lesser_of}
use Rattle.pc_proof.proofs.Seen.{keeps, int_sum-append}
use Rattle.pc_check.specs.Totals.{question_over, question_with}

-- ---- the least and the greatest of two lists

module _ (pick : ℤ → ℤ → ℤ) (together : (a b c : ℤ) → pick (pick a b) c ≡ pick a (pick b c)) where
  fold_from : (a b : ℤ) (xs : List ℤ) → fold pick (pick a b) xs ≡ pick a (fold pick b xs)
  fold_from a b [] = refl
  fold_from a b (x ∷ xs) = ap (λ first. fold pick first xs) (together a b x) ∙ fold_from a (pick b x) xs

  fold_both : (x : ℤ) (xs : List ℤ) (y : ℤ) (ys : List ℤ) → fold pick x (xs ++ y ∷ ys) ≡ pick (fold pick x xs) (fold pick y ys)
  fold_both x xs y ys = fold-append pick x xs (y ∷ ys) ∙ fold_from (fold pick x xs) y ys

least_together : (a b c : ℤ) → int_min (int_min a b) c ≡ int_min a (int_min b c)
least_together a b c = omega (arith, ints, clamps)

greatest_together : (a b c : ℤ) → int_max (int_max a b) c ≡ int_max a (int_max b c)
greatest_together a b c = omega (arith, ints, clamps)

least_both : (xs ys : List ℤ) → reduce int_min (xs ++ ys) ≡ lesser_of (reduce int_min xs) (reduce int_min ys)
least_both [] ys = refl
least_both (x ∷ xs) [] = ap Some (fold-append int_min x xs [])
least_both (x ∷ xs) (y ∷ ys) = ap Some (fold_both int_min least_together x xs y ys)

greatest_both : (xs ys : List ℤ) → reduce int_max (xs ++ ys) ≡ greater_of (reduce int_max xs) (reduce int_max ys)
greatest_both [] ys = refl
greatest_both (x ∷ xs) [] = ap Some (fold-append int_max x xs [])
greatest_both (x ∷ xs) (y ∷ ys) = ap Some (fold_both int_max greatest_together x xs y ys)

-- ---- the rows

module _ (q : Question) (lost : List Row) where
  rows_both : seen (question_with q lost) ≡ seen q ++ seen (question_over q lost)
  rows_both = filter-append (keeps q) q.observed lost

  numbers_both : seen_numbers (question_with q lost) ≡ seen_numbers q ++ seen_numbers (question_over q lost)
  numbers_both = ap (map (asked q.query)) rows_both ∙ map-append (asked q.query) (seen q) (seen (question_over q lost))

-- each of them by what it comes to
pub record AreJoined (observed more total : Folded) : Type 0 where
  pub count : total.count ≡ observed.count + more.count
  pub sum : total.sum ≡ observed.sum +ℤ more.sum
  pub least : total.least ≡ lesser_of observed.least more.least
  pub greatest : total.greatest ≡ greater_of observed.greatest more.greatest

module _ (q : Question) (lost : List Row) (observed more total : Folded) (first : ComesTo q observed) (second : ComesTo (question_over q lost) more) (joined : AreJoined observed more total) where
  count_both : pos (length (seen (question_with q lost))) ≡ pos total.count
  count_both = omega (arith, ints, ap length (rows_both q lost), length-append (seen q) (seen (question_over q lost)), first.count, second.count, joined.count)

  sum_both : int_sum (seen_numbers (question_with q lost)) ≡ int_sum (seen_numbers q) +ℤ int_sum (seen_numbers (question_over q lost))
  sum_both = ap int_sum (numbers_both q lost) ∙ int_sum-append (seen_numbers q) (seen_numbers (question_over q lost))

  sum_in : (column : Option ℕ) → IfSome column (λ _. seen_sum q ≡ observed.sum) → IfSome column (λ _. seen_sum (question_over q lost) ≡ more.sum)
      → IfSome column (λ _. seen_sum (question_with q lost) ≡ total.sum)
  sum_in None one other = tt
  sum_in (Some column) one other = sum_both ∙ ap₂ (λ a b. a +ℤ b) one other ∙ sym joined.sum

  least_in : (column : Option ℕ) → IfSome column (λ _. reduce int_min (seen_numbers q) ≡ observed.least) → IfSome column (λ _. reduce int_min (seen_numbers (question_over q lost)) ≡ more.least)
      → IfSome column (λ _. reduce int_min (seen_numbers (question_with q lost)) ≡ total.least)
  least_in None one other = tt
  least_in (Some column) one other =
      ap (reduce int_min) (numbers_both q lost) ∙ least_both (seen_numbers q) (seen_numbers (question_over q lost)) ∙ ap₂ (λ a b. lesser_of a b) one other ∙ sym joined.least

  greatest_in : (column : Option ℕ) → IfSome column (λ _. reduce int_max (seen_numbers q) ≡ observed.greatest) → IfSome column (λ _. reduce int_max (seen_numbers (question_over q lost)) ≡ more.greatest)
      → IfSome column (λ _. reduce int_max (seen_numbers (question_with q lost)) ≡ total.greatest)
  greatest_in None one other = tt
  greatest_in (Some column) one other =
      ap (reduce int_max) (numbers_both q lost) ∙ greatest_both (seen_numbers q) (seen_numbers (question_over q lost)) ∙ ap₂ (λ a b. greater_of a b) one other ∙ sym joined.greatest

  pub joined_come : ComesTo (question_with q lost) total
  joined_come = record {
    count = count_both;
    sum = sum_in q.query.column first.sum second.sum;
    least = least_in q.query.column first.least second.least;
    greatest = greatest_in q.query.column first.greatest second.greatest;
  }
