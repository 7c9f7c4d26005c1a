-- What a constraint comes to over the rows up to a place, from what it comes to over those before it.
use Rattle.std.proofs.Common.{◌≡◌, ◌∙◌, ℕ, suc, ◌+◌, ◌<◌, ◌≤◌, Bool, true, false, cond, List, [], ◌∷◌, ◌++◌, length, take, Some, None, refl, ap, arith}
use Rattle.std.specs.Prelude.{count_by}
use Rattle.std.specs.List.{position_from}
use Rattle.std.proofs.lemmas.List.{length-take-le, take_more}
use Rattle.std.proofs.lemmas.List.Sums.{count_by-le-length, fold-append}
use Rattle.pc_model.specs.declared.constraint.Constraint.{Constraint}
use Rattle.pc_model.specs.declared.row.Row.{Row}
use Rattle.pc_model.specs.Membership.{is_under, row_from as row}
use Rattle.pc_rows.specs.Stored.{row_at}
use Rattle.pc_desk_try.specs.Trials.{breaks, counts_of, counts_with, first_with, is_under_none, under_none}

module _ (test : Row → Bool) where
  count_push : (rows : List Row) (extra : Row) → count_by test (rows ++ extra ∷ []) ≡ count_by test rows + cond (test extra) 1 0
  count_push rows extra = fold-append (λ (n : ℕ) (r : Row). n + cond (test r) 1 0) 0 rows (extra ∷ [])

  first_step : (here : Bool) (number next : ℕ) (rows more : List Row) (extra : Row) → number + 1 + length rows ≡ next
      → position_from test (number + 1) more ≡ first_with (test extra) (number + 1 + length rows) (position_from test (number + 1) rows)
      → cond here (Some number) (position_from test (number + 1) more) ≡ first_with (test extra) next (cond here (Some number) (position_from test (number + 1) rows))
  first_step true number next rows more extra same later = refl
  first_step false number next rows more extra same later = later ∙ ap (λ (n : ℕ). first_with (test extra) n (position_from test (number + 1) rows)) same

  first_push : (number : ℕ) (rows : List Row) (extra : Row) → position_from test number (rows ++ extra ∷ []) ≡ first_with (test extra) (number + length rows) (position_from test number rows)
  first_push number [] extra = let same : number ≡ number + 0 = omega arith in ap (λ (n : ℕ). cond (test extra) (Some n) None) same
  first_push number (first ∷ rows) extra =
      let same : number + 1 + length rows ≡ number + suc (length rows) = omega arith in
      first_step (test first) number (number + suc (length rows)) rows (rows ++ extra ∷ []) extra same (first_push (number + 1) rows extra)

module _ (constraints : List Constraint) (rows : List Row) (place : ℕ) (here : place < length rows) where
  abbrev before : List Row
  before = take place rows

  abbrev extra : Row
  extra = row_at rows place

  longer : take (place + 1) rows ≡ before ++ extra ∷ []
  longer = take_more rows place (row []) here

  number_is : 2 + length before ≡ place + 2
  number_is = let long = length-take-le place rows (omega (arith, here)) in omega (arith, long)

  pub counts_more : (c : Constraint) → counts_of constraints c (take (place + 1) rows) ≡ counts_with (is_under constraints c extra) (breaks constraints c extra) (place + 2) (counts_of constraints c before)
  counts_more c =
      ap (counts_of constraints c) longer
      ∙ rw (count_push (is_under constraints c) before extra, count_push (breaks constraints c) before extra, first_push (breaks constraints c) 2 before extra, number_is) refl

  pub none_more : under_none constraints (take (place + 1) rows) ≡ under_none constraints before + cond (is_under_none constraints extra) 1 0
  none_more = ap (under_none constraints) longer ∙ count_push (is_under_none constraints) before extra

pub few_counted : (test : Row → Bool) (rows : List Row) (place : ℕ) → place < length rows → count_by test (take place rows) ≤ place
few_counted test rows place here =
    let long = length-take-le place rows (omega (arith, here)) in
    let few = count_by-le-length test (take place rows) in
    omega (arith, long, few)
