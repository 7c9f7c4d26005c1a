-- Sums, least and greatest numbers of lists, with one more at the end; folds of no rows, and of rows of which the same are kept.
use Rattle.std.proofs.Common.{◌≡◌, ℕ, true, ℤ, pos, ◌+ℤ◌, List, [], ◌∷◌, ◌++◌, Option, Some, None, refl, ap, sym, arith}
use Rattle.std.specs.List.{reduce}
use Rattle.std.specs.Int.{int_min, int_max}
use Rattle.std.proofs.lemmas.Int.{ints}
use Rattle.std.proofs.lemmas.List.Sums.{fold-append}
use Rattle.pc_model.specs.declared.row.Row.{Row}
use Rattle.pc_model.specs.declared.query.Query.{Query}
use Rattle.pc_model.specs.declared.query.Folded.{Folded}
use Rattle.pc_model.specs.Aggregate.{int_sum, is_in_group, kept}
use Rattle.pc_model.specs.Folds.{IsFold, best_at, better, sum_at}

pub int_sum-push : (xs : List ℤ) (x : ℤ) → int_sum (xs ++ x ∷ []) ≡ int_sum xs +ℤ x
int_sum-push [] x = omega (arith, ints)
int_sum-push (y ∷ ys) x = omega (arith, ints, int_sum-push ys x)

pub reduce-push : (pick : ℤ → ℤ → ℤ) (xs : List ℤ) (x : ℤ) → reduce pick (xs ++ x ∷ []) ≡ Some (better pick (reduce pick xs) x)
reduce-push pick [] x = refl
reduce-push pick (y ∷ ys) x = ap Some (fold-append pick y ys (x ∷ []))

-- where no group is asked for, each row is in it
pub any_group : (group : Option ℕ) (row : Row) → is_in_group group None row ≡ true
any_group None row = refl
any_group (Some column) row = refl

no_sum : (column : Option ℕ) → sum_at column [] ≡ pos 0
no_sum None = refl
no_sum (Some column) = refl

no_best : (pick : ℤ → ℤ → ℤ) (column : Option ℕ) → best_at pick column [] ≡ None
no_best pick None = refl
no_best pick (Some column) = refl

pub fold_empty : (query : Query) (name : Option ℕ) → IsFold query name [] (record { count = 0; sum = pos 0; least = None; greatest = None })
fold_empty query name = record {
  count = refl;
  sum = sym (no_sum query.column);
  least = sym (no_best int_min query.column);
  greatest = sym (no_best int_max query.column);
}

pub fold_same : (query : Query) (name : Option ℕ) (rows others : List Row) (folded : Folded) → kept query name others ≡ kept query name rows → IsFold query name rows folded → IsFold query name others folded
fold_same query name rows others folded same before = record {
  count = rw same before.count;
  sum = rw same before.sum;
  least = rw same before.least;
  greatest = rw same before.greatest;
}
