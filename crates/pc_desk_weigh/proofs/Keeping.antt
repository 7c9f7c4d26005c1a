-- Constraints after a change are constraints.
use Rattle.std.proofs.Common.{◌≡◌, ℕ, zero, suc, ◌+◌, ◌<◌, ◌==◌, Bool, true, false, List, [], ◌∷◌, All, Option, flat_map, map, get_or, length, if◌then◌else◌, refl, sym, subst, ap, arith, eqb-true, ◌∙◌}
use Rattle.std.specs.List.{enumerate_from}
use Rattle.std.proofs.lemmas.List.Elements.{All-append, All-map, All-nil, All-weaker}
use Rattle.pc_model.specs.declared.constraint.Constraint.{Constraint}
use Rattle.pc_model.specs.declared.schema.Schema.{Schema}
use Rattle.pc_model.specs.Accepted.{AreConstraints, IsNameFor}
use Rattle.pc_desk_weigh.specs.declared.change.Change.{Change}
use Rattle.pc_desk_weigh.specs.declared.change.Limit.{Limit}
use Rattle.pc_desk_weigh.specs.declared.change.Limit.TheVariants.{Least, Most, Values}
use Rattle.pc_desk_weigh.specs.Changes.{change_at, changed, changed_at, changes_if, changes_of, is_asked_of, limits_of, with_limit}
use Rattle.pc_desk_weigh.proofs.Fitting.{Fits, IsGood, limits_fit}

-- ---- item by item

module _ (schema : Schema) (change : Change) where
  abbrev changed_from : ℕ → List Constraint → List Constraint
  changed_from n xs = map (changed_at schema change) (enumerate_from n xs)

  as_long : (n : ℕ) (xs : List Constraint) → length (changed_from n xs) ≡ length xs
  as_long n [] = refl
  as_long n (x ∷ xs) = ap suc (as_long (n + 1) xs)

  item : (n : ℕ) (xs : List Constraint) (k : ℕ) (d : Constraint) → k < length xs → get_or (changed_from n xs) k d ≡ changed_at schema change (n + k, get_or xs k d)
  item n [] k d inside = absurd (omega (arith, inside))
  item n (x ∷ xs) zero d inside = let e : n ≡ n + 0 = omega arith in ap (λ (m : ℕ). changed_at schema change (m, x)) e
  item n (x ∷ xs) (suc k) d inside =
      let e : n + 1 + k ≡ n + suc k = omega arith in
      item (n + 1) xs k d (omega (arith, inside)) ∙ ap (λ (m : ℕ). changed_at schema change (m, get_or xs k d)) e

abbrev pick : Schema → Limit → Constraint → Bool → Constraint
pick schema limit c test = if test then with_limit schema limit c else c

named_still : (schema : Schema) (limit : Limit) (c : Constraint) (test : Bool) → IsNameFor c.when c.name → IsNameFor (pick schema limit c test).when (pick schema limit c test).name
named_still schema (Least least) c true named = named
named_still schema (Most most) c true named = named
named_still schema Values c true named = named
named_still schema limit c false named = named

same_name : (schema : Schema) (limit : Limit) (c : Constraint) (test : Bool) → (pick schema limit c test).name ≡ c.name
same_name schema (Least least) c true = refl
same_name schema (Most most) c true = refl
same_name schema Values c true = refl
same_name schema limit c false = refl

any_default : (xs : List Constraint) (k : ℕ) (d e : Constraint) → k < length xs → get_or xs k d ≡ get_or xs k e
any_default [] k d e inside = absurd (omega (arith, inside))
any_default (x ∷ xs) zero d e inside = refl
any_default (x ∷ xs) (suc k) d e inside = any_default xs k d e (omega (arith, inside))

-- ---- after one change

module _ (schema : Schema) (constraints : List Constraint) (are : AreConstraints schema constraints) where
  good_at : (k : ℕ) (d : Constraint) → k < length constraints → IsGood schema (get_or constraints k d)
  good_at k d inside = record { servable = are.servable k d inside; small = are.small k d inside }

  module _ (place : ℕ) (limit : Limit) (first : Constraint) (fits : IsGood schema (with_limit schema limit (get_or constraints place first))) where
    abbrev change : Change
    change = change_at place limit

    still_good : (k : ℕ) (d : Constraint) → k < length constraints → (test : Bool) → (k == place) ≡ test → IsGood schema (pick schema limit (get_or constraints k d) test)
    still_good k d inside true e =
        let same : k ≡ place = eqb-true k place e in
        let there : get_or constraints place first ≡ get_or constraints k d = ap (λ (m : ℕ). get_or constraints m first) (sym same) ∙ any_default constraints k first d inside in
        subst (λ (c : Constraint). IsGood schema (with_limit schema limit c)) there fits
    still_good k d inside false e = good_at k d inside

    at : (k : ℕ) (d : Constraint) → k < length constraints → get_or (changed_from schema change 0 constraints) k d ≡ pick schema limit (get_or constraints k d) (k == place)
    at k d inside =
        let e : 0 + k ≡ k = omega arith in
        item schema change 0 constraints k d inside ∙ ap (λ (m : ℕ). changed_at schema change (m, get_or constraints k d)) e

    inner : (k : ℕ) → k < length (changed_from schema change 0 constraints) → k < length constraints
    inner k inside = rw (as_long schema change 0 constraints) at inside

    good : (k : ℕ) (d : Constraint) → k < length (changed_from schema change 0 constraints) → IsGood schema (get_or (changed_from schema change 0 constraints) k d)
    good k d inside = subst (IsGood schema) (sym (at k d (inner k inside))) (still_good k d (inner k inside) (k == place) refl)

    named : (k : ℕ) (d : Constraint) → k < length (changed_from schema change 0 constraints) → IsNameFor (get_or (changed_from schema change 0 constraints) k d).when (get_or (changed_from schema change 0 constraints) k d).name
    named k d inside =
        subst (λ (c : Constraint). IsNameFor c.when c.name) (sym (at k d (inner k inside)))
        (named_still schema limit (get_or constraints k d) (k == place) (are.named k d (inner k inside)))

    name_of : (k : ℕ) (d : Constraint) → k < length constraints → (get_or (changed_from schema change 0 constraints) k d).name ≡ (get_or constraints k d).name
    name_of k d inside = ap (λ (c : Constraint). c.name) (at k d inside) ∙ same_name schema limit (get_or constraints k d) (k == place)

    still_are : AreConstraints schema (changed schema constraints change)
    unfolding changed
    still_are = record {
      few = rw (as_long schema change 0 constraints) are.few;
      servable = λ k d inside. (good k d inside).servable;
      small = λ k d inside. (good k d inside).small;
      named = λ k d inside. named k d inside;
      own_names = λ i j d before inside.
          let here = inner j inside in
          let there : i < length constraints = omega (arith, before, here) in
          λ same. are.own_names i j d before here (sym (name_of i d there) ∙ same ∙ name_of j d here);
    }

-- ---- after each

module _ (P : Change → Type 0) (schema : Schema) (asked : Option ℕ) where
  each : (n : ℕ) (xs : List Constraint) → ((k : ℕ) (d : Constraint) → k < length xs → All P (changes_if schema asked (n + k, get_or xs k d))) → All P (flat_map (changes_if schema asked) (enumerate_from n xs))
  each n [] all = All-nil P
  each n (x ∷ xs) all =
      let here : n + 0 ≡ n = omega arith in
      All-append P (changes_if schema asked (n, x)) (flat_map (changes_if schema asked) (enumerate_from (n + 1) xs))
      (subst (λ (m : ℕ). All P (changes_if schema asked (m, x))) here (all 0 x (omega arith)))
      (each (n + 1) xs (λ k d inside.
      let there : n + suc k ≡ n + 1 + k = omega arith in
      subst (λ (m : ℕ). All P (changes_if schema asked (m, get_or xs k d))) there (all (suc k) d (omega (arith, inside)))))

module _ (schema : Schema) (constraints : List Constraint) (asked : Option ℕ) (are : AreConstraints schema constraints) where
  abbrev Kept : Change → Type 0
  Kept change = AreConstraints schema (changed schema constraints change)

  kept_at : (k : ℕ) (d : Constraint) → k < length constraints → (test : Bool) → All Kept (if test then map (change_at k) (limits_of schema (get_or constraints k d)) else [])
  kept_at k d inside true =
      let c = get_or constraints k d in
      let good = good_at schema constraints are k d inside in
      All-map Kept (change_at k) (limits_of schema c)
      (All-weaker (Fits schema c good) (λ (limit : Limit). Kept (change_at k limit)) (λ limit fits. still_are schema constraints are k limit d fits) (limits_of schema c) (limits_fit schema c good))
  kept_at k d inside false = All-nil Kept

  pub all_kept : All Kept (changes_of schema constraints asked)
  unfolding changes_of
  all_kept = each Kept schema asked 0 constraints (λ k d inside.
      let e : k ≡ 0 + k = omega arith in
      subst (λ (m : ℕ). All Kept (changes_if schema asked (m, get_or constraints k d))) e (kept_at k d inside (is_asked_of asked k)))
