-- The least and the greatest number: what their proofs show holds of every possible list.
use Rattle.std.proofs.Common.{◌≡◌, ℤ, pos, ◌*ℤ◌, ◌≤ℤ◌, ◌<ℤ◌, true, false, List, [], get_or, All, Option, Some, None, IfSome, IsSomeAnd, ⊎_elim, sym, subst, arith}
use Rattle.std.specs.List.{reduce}
use Rattle.std.specs.Int.{int_min, int_max}
use Rattle.std.proofs.lemmas.Int.{ints}
use Rattle.pc_model.specs.declared.row.Row.{Row}
use Rattle.pc_model.specs.declared.query.Agg.TheVariants.{Min, Max}
use Rattle.pc_model.specs.declared.tree.Tree.{Tree}
use Rattle.pc_model.specs.Aggregate.{Ratio, whole, IsAtMost, asked}
use Rattle.pc_model.specs.Right.{IsPossibleFor}
use Rattle.pc_model.specs.Cells.{Class}
use Rattle.pc_proof.specs.Setting.{Setting, low_in, high_in, seen_least, seen_greatest, seen_numbers}
use Rattle.pc_proof.specs.Table.{is_under, is_over, is_within, is_from, low_program, high_program, Shows, ShowsForced}
use Rattle.pc_proof.specs.Unbroken.{IsWellPosed}
use Rattle.pc_proof.proofs.Closed.{none_open}
use Rattle.pc_proof.proofs.Ends.{AsksNumbers}
use Rattle.pc_proof.proofs.Fractions.{lesser_at_most, greater_at_least, higher, lower}
use Rattle.pc_proof.proofs.Gains.{IsSettledFor}
use Rattle.pc_proof.proofs.Kept.{cell_of, between, none_counted}
use Rattle.pc_proof.proofs.Numbers.{least_keeps, greatest_keeps, all_from_least, all_from_greatest, least_within, greatest_from}
use Rattle.pc_proof.proofs.Seen.{keeps, all_numbers, of_all, of_seen, of_lost, from_lost}

-- ---- tests of one number

module _ (n : ℤ) (v : Ratio) where
  not_under : is_under n v ≡ false → IsAtMost v (whole n)
  not_under test = grind (arith, ints, test)

  not_over : is_over n v ≡ false → IsAtMost (whole n) v
  not_over test = grind (arith, ints, test)

  over_not_within : v.num <ℤ (n *ℤ v.den) → is_within n v ≡ false
  over_not_within over = grind (arith, ints, over)

  under_not_from : (n *ℤ v.den) <ℤ v.num → is_from n v ≡ false
  under_not_from under = grind (arith, ints, under)

-- ---- an option that passes, and one whose numbers all fail

both_fail : (o : Option ℤ) (P Q : ℤ → Type 0) → ((n : ℤ) → P n → Q n → ⊥) → IsSomeAnd o P → IfSome o Q → ⊥
both_fail None P Q apart first second = first
both_fail (Some n) P Q apart first second = apart n first second

module _ (s : Setting) (posed : IsWellPosed s.question) (tree : IsSettledFor s) (lost : List Row) (possible : IsPossibleFor s.question lost)
    (asks : AsksNumbers s.question.schema s.question.query) (v : Ratio) (above : pos 0 <ℤ v.den) where
  abbrev numbers : List ℤ
  numbers = all_numbers s.question lost

  -- ---- the least is high enough, and the greatest low enough

  pub min_low : (t : Tree) → Shows (low_program s Min v) t (λ k. k ≤ℤ pos 0) → IfSome (seen_least s.question) (λ m. IsAtMost v (whole m)) →
      IfSome (reduce int_min numbers) (λ m. IsAtMost v (whole m))
  min_low t shows seen =
      least_keeps (λ m. IsAtMost v (whole m)) numbers
      (of_all s.question lost (λ m. IsAtMost v (whole m))
      (all_from_least (λ m. IsAtMost v (whole m)) (seen_numbers s.question) (λ m n below from. greater_at_least m n v above below from) seen)
      (from_lost s.question lost (λ m. IsAtMost v (whole m)) each))
    where
      each : All (λ (row : Row). keeps s.question row ≡ true → IsAtMost v (whole (asked s.question.query row))) lost
      each place d inside kept =
          greater_at_least (low_in s (cell_of s (get_or lost place d))) (asked s.question.query (get_or lost place d)) v above
          (between s posed tree lost possible asks place d inside).0
          (not_under (low_in s (cell_of s (get_or lost place d))) v
          (none_counted s posed tree lost possible (λ (class : Class). is_under (low_in s class) v) t shows place d inside kept))

  pub max_high : (t : Tree) → Shows (high_program s Max v) t (λ k. k ≤ℤ pos 0) → IfSome (seen_greatest s.question) (λ g. IsAtMost (whole g) v) →
      IfSome (reduce int_max numbers) (λ g. IsAtMost (whole g) v)
  max_high t shows seen =
      greatest_keeps (λ g. IsAtMost (whole g) v) numbers
      (of_all s.question lost (λ g. IsAtMost (whole g) v)
      (all_from_greatest (λ g. IsAtMost (whole g) v) (seen_numbers s.question) (λ m n below within. lesser_at_most m n v above below within) seen)
      (from_lost s.question lost (λ g. IsAtMost (whole g) v) each))
    where
      each : All (λ (row : Row). keeps s.question row ≡ true → IsAtMost (whole (asked s.question.query row)) v) lost
      each place d inside kept =
          lesser_at_most (asked s.question.query (get_or lost place d)) (high_in s (cell_of s (get_or lost place d))) v above
          (between s posed tree lost possible asks place d inside).1
          (not_over (high_in s (cell_of s (get_or lost place d))) v
          (none_counted s posed tree lost possible (λ (class : Class). is_over (high_in s class) v) t shows place d inside kept))

  -- ---- the least is low enough, and the greatest high enough

  pub min_high_seen : IsSomeAnd (seen_least s.question) (λ m. IsAtMost (whole m) v) → IfSome (reduce int_min numbers) (λ m. IsAtMost (whole m) v)
  min_high_seen seen =
      ⊎_elim (λ within. within)
      (λ over. absurd (both_fail (seen_least s.question) (λ m. IsAtMost (whole m) v) (λ m. v.num <ℤ (m *ℤ v.den)) (λ n first second. omega (arith, ints, first, second)) seen
      (least_keeps (λ m. v.num <ℤ (m *ℤ v.den)) (seen_numbers s.question) (of_seen s.question lost (λ m. v.num <ℤ (m *ℤ v.den)) over))))
      (least_within v above numbers)

  pub max_low_seen : IsSomeAnd (seen_greatest s.question) (λ g. IsAtMost v (whole g)) → IfSome (reduce int_max numbers) (λ g. IsAtMost v (whole g))
  max_low_seen seen =
      ⊎_elim (λ from. from)
      (λ under. absurd (both_fail (seen_greatest s.question) (λ g. IsAtMost v (whole g)) (λ g. (g *ℤ v.den) <ℤ v.num) (λ n first second. omega (arith, ints, first, second)) seen
      (greatest_keeps (λ g. (g *ℤ v.den) <ℤ v.num) (seen_numbers s.question) (of_seen s.question lost (λ g. (g *ℤ v.den) <ℤ v.num) under))))
      (greatest_from v above numbers)

  -- a list that no number of a closed cell is in has no numbers
  pub min_high : (t : Tree) → ShowsForced s (high_program s Min v) t → IfSome (reduce int_min numbers) (λ m. IsAtMost (whole m) v)
  min_high t shows = ⊎_elim (λ within. within) (λ over. no_least (none_open s posed tree lost possible (λ (class : Class). is_within (high_in s class) v) t shows (each over))) (least_within v above numbers)
    where
      no_least : numbers ≡ [] → IfSome (reduce int_min numbers) (λ m. IsAtMost (whole m) v)
      no_least none = subst (λ (xs : List ℤ). IfSome (reduce int_min xs) (λ m. IsAtMost (whole m) v)) (sym none) tt

      each : All (λ n. v.num <ℤ (n *ℤ v.den)) numbers → All (λ (row : Row). keeps s.question row ≡ true → is_within (high_in s (cell_of s row)) v ≡ false) lost
      each over place d inside kept =
          let own = of_lost s.question lost (λ n. v.num <ℤ (n *ℤ v.den)) over place d inside kept in
          over_not_within (high_in s (cell_of s (get_or lost place d))) v
          (higher (asked s.question.query (get_or lost place d)) (high_in s (cell_of s (get_or lost place d))) v above (between s posed tree lost possible asks place d inside).1 own)

  pub max_low : (t : Tree) → ShowsForced s (low_program s Max v) t → IfSome (reduce int_max numbers) (λ g. IsAtMost v (whole g))
  max_low t shows = ⊎_elim (λ from. from) (λ under. no_greatest (none_open s posed tree lost possible (λ (class : Class). is_from (low_in s class) v) t shows (each under))) (greatest_from v above numbers)
    where
      no_greatest : numbers ≡ [] → IfSome (reduce int_max numbers) (λ g. IsAtMost v (whole g))
      no_greatest none = subst (λ (xs : List ℤ). IfSome (reduce int_max xs) (λ g. IsAtMost v (whole g))) (sym none) tt

      each : All (λ n. (n *ℤ v.den) <ℤ v.num) numbers → All (λ (row : Row). keeps s.question row ≡ true → is_from (low_in s (cell_of s row)) v ≡ false) lost
      each under place d inside kept =
          let own = of_lost s.question lost (λ n. (n *ℤ v.den) <ℤ v.num) under place d inside kept in
          under_not_from (low_in s (cell_of s (get_or lost place d))) v
          (lower (low_in s (cell_of s (get_or lost place d))) (asked s.question.query (get_or lost place d)) v above (between s posed tree lost possible asks place d inside).0 own)
