-- The constraints at places of a list, each place below the next.
use Rattle.std.proofs.Common.{◌≡◌, ℕ, zero, suc, ◌+◌, ◌≤◌, ◌<◌, List, [], ◌∷◌, ◌++◌, length, get_or, map, take, All, AllPairs, Contains, Option, Some, refl, sym, ap, subst, ◌∙◌, arith}
use Rattle.std.specs.Prelude.{slice_get}
use Rattle.std.specs.Option.{option_to_list}
use Rattle.std.proofs.lemmas.List.{get_or-map, get_or_default, take_more}
use Rattle.std.proofs.lemmas.List.Concat.{flat_map-append}
use Rattle.std.proofs.lemmas.List.Elements.{All-contains, All-head, All-tail, All-weaker}
use Rattle.pc_model.specs.declared.constraint.Constraint.{Constraint}
use Rattle.pc_model.proofs.Lists.{AllPairs-head, AllPairs-tail}
use Rattle.pc_conflict.specs.Deletion.{at_places}
use Rattle.pc_conflict.specs.Deleting.{ArePlaces}

slice_get-inside : {X : Type 0} (xs : List X) (place : ℕ) (d : X) → place < length xs → slice_get xs place ≡ Some (get_or xs place d)
slice_get-inside [] place d inside = absurd (omega arith)
slice_get-inside (x ∷ xs) zero d inside = refl
slice_get-inside (x ∷ xs) (suc place) d inside = slice_get-inside xs place d (omega arith)

some_there : {X : Type 0} (xs : List X) (place : ℕ) → place < length xs → (x : X) × (slice_get xs place ≡ Some x)
some_there [] place inside = absurd (omega arith)
some_there (x ∷ xs) zero inside = (x, refl)
some_there (x ∷ xs) (suc place) inside = some_there xs place (omega arith)

-- numbers below a limit, each below the next, are no more than the limit
no_more : (limit from : ℕ) (places : List ℕ) → from ≤ limit → All (λ place. place < limit) places → All (λ place. from ≤ place) places → AllPairs (λ (a b : ℕ). a < b) places → length places + from ≤ limit
no_more limit from [] le inside above rising = omega arith
no_more limit from (place ∷ places) le inside above rising =
    let first : place < limit = All-head (λ place. place < limit) place places inside in
    let low : from ≤ place = All-head (λ place. from ≤ place) place places above in
    let rest : length places + suc place ≤ limit =
    no_more limit (suc place) places (omega arith) (All-tail (λ place. place < limit) place places inside)
    (All-weaker (λ b. place < b) (λ b. suc place ≤ b) (λ b lt. omega arith) places (AllPairs-head (λ (a b : ℕ). a < b) place places rising))
    (AllPairs-tail (λ (a b : ℕ). a < b) place places rising) in
    omega arith

module _ (constraints : List Constraint) where
  abbrev pub at_or : Constraint → ℕ → Constraint
  at_or d place = get_or constraints place d

  pub at_places_is : (d : Constraint) (places : List ℕ) → All (λ place. place < length constraints) places → at_places constraints places ≡ map (at_or d) places
  at_places_is d [] inside = refl
  at_places_is d (place ∷ places) inside =
      ap (λ (o : Option Constraint). option_to_list o ++ at_places constraints places) (slice_get-inside constraints place d (inside 0 place (omega arith)))
      ∙ ap (λ cs. at_or d place ∷ cs) (at_places_is d places (All-tail (λ place. place < length constraints) place places inside))

  at_one : (d : Constraint) (places : List ℕ) (k : ℕ) → All (λ place. place < length constraints) places → k < length places → get_or (at_places constraints places) k d ≡ at_or d (get_or places k 0)
  at_one d places k inside here = ap (λ cs. get_or cs k d) (at_places_is d places inside) ∙ get_or-map (at_or d) places k 0 d here

  -- the number of constraints is that of the places
  pub length_is : (places : List ℕ) → All (λ place. place < length constraints) places → length (at_places constraints places) ≡ length places
  length_is [] inside = refl
  length_is (place ∷ places) inside =
      let first = some_there constraints place (inside 0 place (omega arith)) in
      ap (λ (o : Option Constraint). length (option_to_list o ++ at_places constraints places)) first.1
      ∙ ap suc (length_is places (All-tail (λ place. place < length constraints) place places inside))

  pub one_copied : (places : List ℕ) (i : ℕ) (c : Constraint) → i < length places → get_or places i 0 < length constraints → c ≡ get_or constraints (get_or places i 0) c → at_places constraints (take i places) ++ c ∷ [] ≡ at_places constraints (take (i + 1) places)
  one_copied places i c here inside is =
      let place = get_or places i 0 in
      let one : at_places constraints (place ∷ []) ≡ c ∷ [] = ap (λ (o : Option Constraint). option_to_list o ++ []) (slice_get-inside constraints place c inside) ∙ ap (λ d. d ∷ []) (sym is) in
      ap (λ cs. at_places constraints (take i places) ++ cs) (sym one) ∙ sym (flat_map-append (λ p. option_to_list (slice_get constraints p)) (take i places) (place ∷ [])) ∙ ap (at_places constraints) (sym (take_more places i 0 here))

  module _ (places : List ℕ) (are : ArePlaces constraints places) where
    pub few_places : length (at_places constraints places) ≤ length constraints
    few_places =
        omega (arith, length_is places are.inside, no_more (length constraints) 0 places (omega arith) are.inside (All-weaker (λ b. b < length constraints) (λ b. 0 ≤ b) (λ b lt. omega arith) places are.inside) are.rising)

    -- what holds of each constraint, or of any two, holds of those at places
    pub All-at_places : (P : Constraint → Type 0) → All P constraints → All P (at_places constraints places)
    All-at_places P each k d here =
        let within : k < length places = omega (arith, here, length_is places are.inside) in
        subst P (sym (at_one d places k are.inside within)) (each (get_or places k 0) d (are.inside k 0 within))

    pub AllPairs-at_places : (R : Constraint → Constraint → Type 0) → AllPairs R constraints → AllPairs R (at_places constraints places)
    AllPairs-at_places R each i j d before here =
        let second : j < length places = omega (arith, here, length_is places are.inside) in
        let first : i < length places = omega (arith, before, second) in
        rw (at_one d places i are.inside first, at_one d places j are.inside second)
        (each (get_or places i 0) (get_or places j 0) d (are.rising i j 0 before second) (are.inside j 0 second))

  -- the constraints at some of the places are some of those at the places
  pub are_part : (places some : List ℕ) → All (λ place. place < length constraints) places → All (Contains places) some → All (Contains (at_places constraints places)) (at_places constraints some)
  are_part places some inside part k d here =
      let within : All (λ place. place < length constraints) some = λ i e l. All-contains (λ place. place < length constraints) places (get_or some i e) inside (part i e l) in
      let short : k < length some = omega (arith, here, length_is some within) in
      let place = get_or some k 0 in
      let there = part k 0 short in
      let c = get_or (at_places constraints some) k d in
      let long : there.0 < length (at_places constraints places) = omega (arith, there.1, length_is places inside) in
      let same : get_or places there.0 0 ≡ place = get_or_default places there.0 0 place there.1 ∙ there.2 in
      (there.0, long, get_or_default (at_places constraints places) there.0 c d long ∙ at_one d places there.0 inside there.1 ∙ ap (at_or d) same ∙ sym (at_one d some k within short))
