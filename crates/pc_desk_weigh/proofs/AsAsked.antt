-- What was weighed, as far as a loop has come, and that it is what is asked.
use Rattle.std.proofs.Common.{◌≡◌, ℕ, zero, suc, ◌≤◌, List, [], ◌∷◌, ◌++◌, All, Option, Some, None, map, length, slice_get, option_map, refl, sym, subst, ap, append-nil, arith, ◌∙◌}
use Rattle.std.specs.List.{AllZip}
use Rattle.std.proofs.lemmas.List.Elements.{All-cons, All-map, All-same}
use Rattle.pc_model.specs.declared.constraint.Constraint.{Constraint}
use Rattle.pc_model.specs.declared.schema.Schema.{Schema}
use Rattle.pc_model.specs.Accepted.{AreConstraints}
use Rattle.pc_desk_table.specs.declared.entry.Entry.{Entry}
use Rattle.pc_desk_answers.specs.Blocks.{AreShownUnder, Asked, Ground}
use Rattle.pc_desk_weigh.specs.declared.change.Change.{Change}
use Rattle.pc_desk_weigh.specs.declared.weighed.Weighed.{Weighed}
use Rattle.pc_desk_weigh.specs.Changes.{changes_of}
use Rattle.pc_desk_weigh.specs.Listed.{listed}
use Rattle.pc_desk_weigh.specs.Weighed.{AreWeighed, IsWeighed, all_changes, constraints_under, weighed_of, weighed_with}
use Rattle.pc_desk_weigh.proofs.Keeping.{all_kept}

abbrev more : List (Option Change) → List Entry → ℕ → List Weighed
more changes entries place = listed (option_map (λ (change : Option Change). weighed_with change entries) (slice_get changes place))

pub weighed_none : (changes : List (Option Change)) → [] ≡ weighed_of changes []
unfolding weighed_of
weighed_none [] = refl
weighed_none (change ∷ changes) = refl

weighed_next : (changes : List (Option Change)) (answers : List (List Entry)) (entries : List Entry) → weighed_of changes (answers ++ entries ∷ []) ≡ weighed_of changes answers ++ more changes entries (length (weighed_of changes answers))
unfolding weighed_of
weighed_next [] [] entries = refl
weighed_next [] (first ∷ answers) entries = refl
weighed_next (change ∷ []) [] entries = refl
weighed_next (change ∷ next ∷ changes) [] entries = refl
weighed_next (change ∷ changes) (first ∷ answers) entries = ap (λ (all : List Weighed). weighed_with change first ∷ all) (weighed_next changes answers entries)

pub weighed_more : (changes : List (Option Change)) (answers : List (List Entry)) (entries : List Entry) (held new : List Weighed) → held ≡ weighed_of changes answers →
    new ≡ held ++ listed (option_map (λ (change : Option Change). weighed_with change entries) (slice_get changes (length held))) → new ≡ weighed_of changes (answers ++ entries ∷ [])
weighed_more changes answers entries held new before one =
    one ∙ ap (λ (all : List Weighed). all ++ more changes entries (length all)) before ∙ sym (weighed_next changes answers entries)

none_past : (changes : List (Option Change)) (place : ℕ) → length changes ≤ place → slice_get changes place ≡ None
none_past [] place past = refl
none_past (change ∷ changes) zero past = absurd (omega (arith, past))
none_past (change ∷ changes) (suc place) past = none_past changes place (omega (arith, past))

pub weighed_past : (changes : List (Option Change)) (entries : List Entry) (held : List Weighed) → length changes ≤ length held →
    held ≡ held ++ listed (option_map (λ (change : Option Change). weighed_with change entries) (slice_get changes (length held)))
weighed_past changes entries held past =
    let none = none_past changes (length held) past in
    sym (ap (λ (found : Option (Option Change)). held ++ listed (option_map (λ (change : Option Change). weighed_with change entries) found)) none ∙ append-nil held)

module _ (schema : Schema) (constraints : List Constraint) (asked : Option ℕ) where
  abbrev all : List (Option Change)
  all = all_changes schema constraints asked

  abbrev under : Option Change → List Constraint
  under = constraints_under schema constraints

  -- as the code passes them on
  module _ (slice : List Constraint) (changes passed : List (Option Change)) (lists handed : List (List Constraint)) (slice_is : slice ≡ constraints) (is : changes ≡ all_changes schema slice asked) (passed_is : passed ≡ changes)
      (made : lists ≡ map (constraints_under schema slice) passed) (handed_is : handed ≡ lists) where
    pub changes_are : changes ≡ all
    changes_are = is ∙ ap (λ (cs : List Constraint). all_changes schema cs asked) slice_is

    pub lists_come : handed ≡ map under all
    lists_come =
        handed_is ∙ made ∙ ap (map (constraints_under schema slice)) (passed_is ∙ changes_are)
        ∙ ap (λ (cs : List Constraint). map (constraints_under schema cs) all) slice_is

  abbrev Kept : Option Change → Type 0
  Kept change = AreConstraints schema (under change)

  pub lists_are : (handed : List (List Constraint)) → handed ≡ map under all → AreConstraints schema constraints → All (AreConstraints schema) handed
  lists_are handed come are =
      All-same (AreConstraints schema) handed (map under all) come
      (All-map (AreConstraints schema) under all
      (All-cons Kept None (map Some (changes_of schema constraints asked)) are
      (All-map Kept Some (changes_of schema constraints asked) (all_kept schema constraints asked are))))

module _ (ground : Ground) (wanted : List Asked) where
  abbrev each_under : Option Change → List Constraint
  each_under = constraints_under ground.schema ground.constraints

  each_weighed : (changes : List (Option Change)) (answers : List (List Entry)) → AreShownUnder ground wanted (map each_under changes) answers → AllZip (IsWeighed ground wanted) changes (weighed_of changes answers)
  unfolding weighed_of
  each_weighed [] [] shown = tt
  each_weighed [] (entries ∷ answers) shown = absurd shown
  each_weighed (change ∷ changes) [] shown = absurd shown
  each_weighed (change ∷ changes) (entries ∷ answers) shown = (record { of_change = refl; shown = shown.0 }, each_weighed changes answers shown.1)

  pub are_weighed : (asked : Option ℕ) (again : List (Option Change)) (handed : List (List Constraint)) (answers : List (List Entry)) → again ≡ all_changes ground.schema ground.constraints asked →
      handed ≡ map (constraints_under ground.schema ground.constraints) (all_changes ground.schema ground.constraints asked) → AreShownUnder ground wanted handed answers →
      AreWeighed ground wanted asked (weighed_of again answers)
  are_weighed asked again handed answers is come shown =
      let changes = all_changes ground.schema ground.constraints asked in
      let each = subst (λ (lists : List (List Constraint)). AreShownUnder ground wanted lists answers) come shown in
      subst (λ (found : List (Option Change)). AllZip (IsWeighed ground wanted) changes (weighed_of found answers)) (sym is) (each_weighed changes answers each)
