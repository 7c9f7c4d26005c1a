-- The fold of the rows up to a place, from the fold of those before it.
use Rattle.std.proofs.Common.{◌≡◌, ◌∙◌, ℕ, ◌+◌, ◌<◌, ◌≤◌, Bool, true, false, ℤ, pos, ◌+ℤ◌, List, [], ◌∷◌, ◌++◌, length, map, take, Option, Some, None, refl, ap, sym, arith}
use Rattle.std.specs.Int.{int_min, int_max}
use Rattle.std.proofs.lemmas.Int.{ints}
use Rattle.std.proofs.lemmas.List.{length-append, map-append, append-nil, take_more, take_all}
use Rattle.std.proofs.lemmas.List.Elements.{filter-append}
use Rattle.pc_model.specs.declared.row.Row.{Row}
use Rattle.pc_model.specs.declared.query.Query.{Query}
use Rattle.pc_model.specs.declared.query.Folded.{Folded}
use Rattle.pc_model.specs.Aggregate.{kept, number_at}
use Rattle.pc_model.specs.Membership.{is_in}
use Rattle.pc_model.specs.Folds.{sum_at, best_at, better, IsFold}
use Rattle.pc_model.proofs.Folds.{any_group, fold_empty, fold_same, int_sum-push, reduce-push}
use Rattle.pc_rows.specs.Folds.{sum_with, best_with, IsWithRow, IsSmall}
use Rattle.pc_rows.specs.Groups.{keeps}
use Rattle.pc_rows.specs.Stored.{row_at}
use Rattle.pc_model.specs.Membership.{row_from as row}

-- the fold of the rows before a place
pub record IsFoldedTo (query : Query) (name : Option ℕ) (rows : List Row) (place : ℕ) (folded : Folded) : Type 0 where
  pub few : folded.count ≤ place
  pub small : IsSmall folded
  pub before : IsFold query name (take place rows) folded

sum_at-push : (column : Option ℕ) (rows : List Row) (extra : Row) → sum_at column (rows ++ extra ∷ []) ≡ sum_with column (sum_at column rows) extra
sum_at-push None rows extra = refl
sum_at-push (Some column) rows extra =
    let at = λ (found : Row). number_at found column in
    rw (map-append at rows (extra ∷ [])) (int_sum-push (map at rows) (at extra))

best_at-push : (pick : ℤ → ℤ → ℤ) (column : Option ℕ) (rows : List Row) (extra : Row) → best_at pick column (rows ++ extra ∷ []) ≡ best_with pick column (best_at pick column rows) extra
best_at-push pick None rows extra = refl
best_at-push pick (Some column) rows extra =
    let at = λ (found : Row). number_at found column in
    rw (map-append at rows (extra ∷ [])) (reduce-push pick (map at rows) (at extra))

pub kept_yes : (query : Query) (name : Option ℕ) (rows : List Row) (extra : Row) → keeps query name extra ≡ true → kept query name (rows ++ extra ∷ []) ≡ kept query name rows ++ extra ∷ []
kept_yes query name rows extra keeping = filter-append (keeps query name) rows (extra ∷ []) ∙ rw keeping refl

pub kept_no : (query : Query) (name : Option ℕ) (rows : List Row) (extra : Row) → keeps query name extra ≡ false → kept query name (rows ++ extra ∷ []) ≡ kept query name rows
kept_no query name rows extra other = filter-append (keeps query name) rows (extra ∷ []) ∙ rw other (append-nil (kept query name rows))

pub fold_none : (query : Query) (name : Option ℕ) (rows : List Row) → IsFoldedTo query name rows 0 (record { count = 0; sum = pos 0; least = None; greatest = None })
fold_none query name rows = record {
  few = omega arith;
  small = record { above = omega (arith, ints); below = omega (arith, ints) };
  before = fold_empty query name;
}

pub fold_yes : (query : Query) (name : Option ℕ) (rows : List Row) (place : ℕ) (folded more : Folded) → place < length rows → IsFoldedTo query name rows place folded → keeps query name (row_at rows place) ≡ true → IsWithRow query.column folded (row_at rows place) more → IsSmall more → IsFoldedTo query name rows (place + 1) more
fold_yes query name rows place folded more below folded_to keeping with small =
    let before = folded_to.before in
    let old : List Row = kept query name (take place rows) in
    let extra : Row = row_at rows place in
    let longer : kept query name (take (place + 1) rows) ≡ kept query name (take place rows) ++ row_at rows place ∷ [] =
    ap (kept query name) (take_more rows place (row []) below) ∙ kept_yes query name (take place rows) extra keeping in
    record {
      few = omega (arith, with.count, folded_to.few);
      small = small;
      before = record {
        count = rw longer (omega (arith, with.count, before.count, length-append old (extra ∷ [])));
        sum = with.sum ∙ rw (before.sum, longer) (sym (sum_at-push query.column old extra));
        least = with.least ∙ rw (before.least, longer) (sym (best_at-push int_min query.column old extra));
        greatest = with.greatest ∙ rw (before.greatest, longer) (sym (best_at-push int_max query.column old extra));
      };
    }

pub fold_no : (query : Query) (name : Option ℕ) (rows : List Row) (place : ℕ) (folded : Folded) → place < length rows → IsFoldedTo query name rows place folded → keeps query name (row_at rows place) ≡ false → IsFoldedTo query name rows (place + 1) folded
fold_no query name rows place folded below folded_to other =
    let same : kept query name (take (place + 1) rows) ≡ kept query name (take place rows) =
    ap (kept query name) (take_more rows place (row []) below) ∙ kept_no query name (take place rows) (row_at rows place) other in
    record {
      few = omega (arith, folded_to.few);
      small = folded_to.small;
      before = fold_same query name (take place rows) (take (place + 1) rows) folded same folded_to.before;
    }

pub fold_all : (query : Query) (name : Option ℕ) (rows : List Row) (place : ℕ) (folded : Folded) → length rows ≤ place → IsFoldedTo query name rows place folded → IsFold query name rows folded
fold_all query name rows place folded past folded_to =
    let before = folded_to.before in
    rw (take_all place rows past) at before

pub with_some : (column : Option ℕ) (at : ℕ) (folded : Folded) (extra : Row) (number sum least greatest : ℤ) → column ≡ Some at → number ≡ number_at extra at → sum ≡ folded.sum +ℤ number → least ≡ better int_min folded.least number → greatest ≡ better int_max folded.greatest number → IsWithRow column folded extra (record { count = folded.count + 1; sum = sum; least = Some least; greatest = Some greatest })
with_some column at folded extra number sum least greatest is number_is sum_is least_is greatest_is = rw is (record {
  count = refl;
  sum = rw (← number_is) sum_is;
  least = rw (← number_is) (ap Some least_is);
  greatest = rw (← number_is) (ap Some greatest_is);
})

-- where no group is asked for, the query keeps the rows of its area
pub keeps_all : (query : Query) (row : Row) (chosen : Bool) → is_in query.chosen row ≡ chosen → keeps query None row ≡ chosen
keeps_all query row true e = rw e (any_group query.group row)
keeps_all query row false e = rw e refl
