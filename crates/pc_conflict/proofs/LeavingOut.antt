-- A possible list without the rows that only left out constraints speak of is possible for the others.
use Rattle.std.proofs.Common.{◌≡◌, ◌+◌, ◌≤◌, Bool, true, false, not, cond, List, [], ◌∷◌, All, Contains, get_or, refl, sym, ap, subst, ◌∙◌, true≢false, arith}
use Rattle.std.proofs.lemmas.Bool.{false≢true}
use Rattle.std.specs.List.{filter, count_by}
use Rattle.std.proofs.lemmas.List.{get_or_default}
use Rattle.std.proofs.lemmas.List.Elements.{All-contains, All-filter, All-weaker, filter_passes}
use Rattle.std.proofs.lemmas.List.Folds.{Any-from_list_any, list_any_at, list_any_none}
use Rattle.pc_model.specs.declared.schema.Schema.{Schema}
use Rattle.pc_model.specs.declared.row.Row.{Row}
use Rattle.pc_model.specs.declared.constraint.When.{When}
use Rattle.pc_model.specs.declared.constraint.When.TheVariants.{Boxes, Outside}
use Rattle.pc_model.specs.declared.constraint.Constraint.{Constraint}
use Rattle.pc_model.specs.Membership.{has, in_domain, is_meant, is_named, is_named_by_some, is_under}
use Rattle.pc_model.specs.Possible.{IsPossible, Meets, count_of, is_covered}
use Rattle.pc_model.proofs.Tallies.{count_by-cons}
use Rattle.pc_conflict.specs.Besides.{is_spoken_of, spoken_rows}

-- ---- counts

-- tests that agree on what is kept count the same, where all that passes is kept
module _ {X : Type 0} (before after keeps : X → Bool) (same : (x : X) → keeps x ≡ true → after x ≡ before x) (kept : (x : X) → before x ≡ true → keeps x ≡ true) where
  fails : (x : X) → keeps x ≡ false → (b : Bool) → before x ≡ b → b ≡ false
  fails x out true is = absurd (true≢false (sym (kept x is) ∙ out))
  fails x out false is = refl

  one_more : (x : X) (us xs : List X) → count_by after us ≡ count_by before xs → (b : Bool) → keeps x ≡ b → count_by after (cond b (x ∷ us) us) ≡ count_by before (x ∷ xs)
  one_more x us xs rest true is =
      count_by-cons after x us ∙ ap (λ b. cond b 1 0 + count_by after us) (same x is) ∙ ap (λ n. cond (before x) 1 0 + n) rest ∙ sym (count_by-cons before x xs)
  one_more x us xs rest false is =
      let count = count_by-cons before x xs in rest ∙ sym (count ∙ ap (λ b. cond b 1 0 + count_by before xs) (fails x is (before x) refl) ∙ omega arith)

  pub count_by-kept : (xs : List X) → count_by after (filter keeps xs) ≡ count_by before xs
  count_by-kept [] = refl
  count_by-kept (x ∷ xs) = one_more x (filter keeps xs) xs (count_by-kept xs) (keeps x) refl

-- ---- one row

module _ (whole rest : List Constraint) (part : All (Contains whole) rest) (row : Row) where
  abbrev names : Constraint → Bool
  names c = is_named c.when row

  -- what no constraint of the whole names, none of the rest does
  named_less : is_named_by_some whole row ≡ false → is_named_by_some rest row ≡ false
  named_less none = list_any_none names rest (λ k d here. unnamed (get_or rest k d) (part k d here) (names (get_or rest k d)) refl)
    where
      unnamed : (c : Constraint) → Contains whole c → (b : Bool) → names c ≡ b → names c ≡ false
      unnamed c there true is = absurd (true≢false (sym (list_any_at names whole there.0 c there.1 (ap names there.2 ∙ is)) ∙ none))
      unnamed c there false is = is

  -- a row that some of the rest speak of, and some of the whole name, some of the rest name
  naming : is_named_by_some whole row ≡ true → (when : When) → is_meant whole when row ≡ true → is_named when row ≡ true
  naming named (Boxes area) meant = meant
  naming named Outside meant = absurd (false≢true (ap not (sym named) ∙ meant))

  named_more : is_spoken_of whole rest row ≡ true → is_named_by_some whole row ≡ true → is_named_by_some rest row ≡ true
  named_more spoken named =
      let some = Any-from_list_any (λ (c : Constraint). is_under whole c row) rest spoken in
      list_any_at names rest some.0 some.1 some.2 (naming named (get_or rest some.0 some.1).when (ap (λ (c : Constraint). is_under whole c row) some.3 ∙ some.4))

  pub named_same : is_spoken_of whole rest row ≡ true → is_named_by_some rest row ≡ is_named_by_some whole row
  named_same spoken = by (is_named_by_some whole row) refl
    where
      by : (b : Bool) → is_named_by_some whole row ≡ b → is_named_by_some rest row ≡ is_named_by_some whole row
      by true is = named_more spoken is ∙ sym is
      by false is = named_less is ∙ sym is

  -- each constraint speaks of such a row among the rest as among the whole
  meant_same : is_spoken_of whole rest row ≡ true → (when : When) → is_meant rest when row ≡ is_meant whole when row
  meant_same spoken (Boxes area) = refl
  meant_same spoken Outside = ap not (named_same spoken)

  pub under_same : is_spoken_of whole rest row ≡ true → (c : Constraint) → is_under rest c row ≡ is_under whole c row
  under_same spoken c = meant_same spoken c.when

  pub spoken_by : (c : Constraint) → Contains rest c → is_under whole c row ≡ true → is_spoken_of whole rest row ≡ true
  spoken_by c there under = list_any_at (λ (d : Constraint). is_under whole d row) rest there.0 c there.1 (ap (λ (d : Constraint). is_under whole d row) there.2 ∙ under)

  pub covered_still : is_spoken_of whole rest row ≡ true → is_covered rest row ≡ true
  covered_still spoken =
      let some = Any-from_list_any (λ (c : Constraint). is_under whole c row) rest spoken in
      list_any_at (λ (c : Constraint). is_under rest c row) rest some.0 some.1 some.2 (under_same spoken (get_or rest some.0 some.1) ∙ ap (λ (c : Constraint). is_under whole c row) some.3 ∙ some.4)

-- ---- a list of rows

module _ (schema : Schema) (whole rest : List Constraint) (rows : List Row) (part : All (Contains whole) rest) (possible : IsPossible schema whole rows) where
  abbrev kept : List Row
  kept = spoken_rows whole rest rows

  all_spoken : All (λ row. is_spoken_of whole rest row ≡ true) kept
  all_spoken = filter_passes (is_spoken_of whole rest) rows

  meets_still : (c : Constraint) → Contains rest c → Contains whole c → Meets rest c kept
  meets_still c there within =
      let meets = All-contains (λ c. Meets whole c rows) whole c possible.meets within in
      let count : count_of rest c kept ≡ count_of whole c rows =
      count_by-kept (is_under whole c) (is_under rest c) (is_spoken_of whole rest) (λ row spoken. under_same whole rest part row spoken c) (λ row under. spoken_by whole rest part row c there under) rows in
      record {
        in_values = λ k d here. λ under.
            All-filter (is_spoken_of whole rest) (λ row. is_under whole c row ≡ true → has c.values row ≡ true) rows meets.in_values k d here
            (sym (under_same whole rest part (get_or kept k d) (all_spoken k d here) c) ∙ under);
        enough = subst (λ n. c.least ≤ n) (sym count) meets.enough;
        not_more = subst (λ n. n ≤ c.most) (sym count) meets.not_more;
      }

  pub possible_still : IsPossible schema rest kept
  possible_still = record {
    allowed = All-filter (is_spoken_of whole rest) (λ row. in_domain schema row ≡ true) rows possible.allowed;
    covered = All-weaker (λ row. is_spoken_of whole rest row ≡ true) (λ row. is_covered rest row ≡ true) (λ row spoken. covered_still whole rest part row spoken) kept all_spoken;
    meets = λ k d here. meets_still (get_or rest k d) (k, here, get_or_default rest k (get_or rest k d) d here) (part k d here);
  }
