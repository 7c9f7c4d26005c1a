-- The names of a group column that an area allows.
use Rattle.std.proofs.Common.{◌≡◌, ◌≢◌, ℕ, zero, suc, ◌+◌, ◌<◌, ◌≤◌, Bool, cond, List, [], ◌∷◌, ◌++◌, filter, All, AllPairs, Option, Some, refl, arith}
use Rattle.std.specs.Prelude.{slice_get}
use Rattle.std.proofs.lemmas.List.Elements.{All-nil, All-push, All-weaker, All-filter, All-tail, filter-append, filter_passes}
use Rattle.std.proofs.lemmas.List.Kept.{AllPairs-filter}
use Rattle.std.proofs.lemmas.List.Quantifiers.{all_pairs_push}
use Rattle.pc_model.specs.declared.schema.Column.{Column}
use Rattle.pc_model.specs.declared.schema.Kind.{Kind}
use Rattle.pc_model.specs.declared.schema.Kind.TheVariants.{Int, Dec, Cat}
use Rattle.pc_model.specs.declared.schema.Schema.{Schema}
use Rattle.pc_model.specs.declared.query.Query.{Query}
use Rattle.pc_model.specs.WellFormed.{HasFewNames, HaveFewNames, IsWellFormed}
use Rattle.pc_model.proofs.FewNames.{have_few_names}
use Rattle.pc_proof.specs.Unbroken.{AllowsName}
use Rattle.pc_group.specs.Wanted.{allowed_names, is_allowed, names_at, names_in, places_below}

-- ---- the places below a number

pub no_places : (test : ℕ → Bool) → filter test (places_below 0) ≡ []
unfolding places_below
no_places test = refl

pub one_place_more : (test : ℕ → Bool) (n : ℕ) → filter test (places_below (n + 1)) ≡ filter test (places_below n) ++ cond (test n) (n ∷ []) []
unfolding places_below
one_place_more test n = let next : n + 1 ≡ suc n = omega arith in rw next (filter-append test (places_below n) (n ∷ []))

pub all_places : (schema : Schema) (query : Query) (column : ℕ) (n : ℕ) → n ≡ names_at (slice_get schema.columns column) → filter (is_allowed query.chosen column) (places_below n) ≡ allowed_names schema query column
unfolding allowed_names
all_places schema query column n e = rw e refl

pub ruleset places = (no_places, one_place_more, all_places)

are_below : (n : ℕ) → All (λ (place : ℕ). place < n) (places_below n)
unfolding places_below
are_below zero = All-nil (λ (place : ℕ). place < zero)
are_below (suc n) = All-push (λ (place : ℕ). place < suc n) (places_below n) n (All-weaker (λ (place : ℕ). place < n) (λ (place : ℕ). place < suc n) (λ place below. omega (arith, below)) (places_below n) (are_below n)) (omega arith)

differ : (n : ℕ) → AllPairs (λ (a b : ℕ). a ≢ b) (places_below n)
unfolding places_below
differ zero = λ i j d before inside. absurd (omega (arith, inside))
differ (suc n) = all_pairs_push (λ (a b : ℕ). a ≢ b) (places_below n) n (differ n) (λ k d inside same. omega (arith, are_below n k d inside, same))

-- ---- few names

few_in : (kind : Kind) → HasFewNames kind → names_in kind ≤ 128
few_in (Int low high) few = omega arith
few_in (Dec scale low high) few = omega arith
few_in (Cat names) few = few

few_at : (columns : List Column) (column : ℕ) → HaveFewNames columns → names_at (slice_get columns column) ≤ 128
few_at [] column few = omega arith
few_at (c ∷ columns) zero few = few_in c.kind (few 0 c (omega arith))
few_at (c ∷ columns) (suc column) few = few_at columns column (All-tail (λ (x : Column). HasFewNames x.kind) c columns few)

module _ (schema : Schema) (query : Query) (column : ℕ) where
  pub few_names : IsWellFormed schema → All (λ (name : ℕ). name < 128) (allowed_names schema query column)
  unfolding allowed_names
  few_names formed =
      let few = few_at schema.columns column (have_few_names schema.columns formed.columns) in
      let places = places_below (names_at (slice_get schema.columns column)) in
      All-filter (is_allowed query.chosen column) (λ (name : ℕ). name < 128) places
      (All-weaker (λ (place : ℕ). place < names_at (slice_get schema.columns column)) (λ (name : ℕ). name < 128) (λ place below. omega (arith, below, few)) places (are_below (names_at (slice_get schema.columns column))))

  pub different_names : AllPairs (λ (a b : ℕ). a ≢ b) (allowed_names schema query column)
  unfolding allowed_names
  different_names = AllPairs-filter (λ (a b : ℕ). a ≢ b) (is_allowed query.chosen column) (places_below (names_at (slice_get schema.columns column))) (differ (names_at (slice_get schema.columns column)))

  allow : (group : Option ℕ) → group ≡ Some column → All (λ (name : ℕ). AllowsName query.chosen group (Some name)) (allowed_names schema query column)
  unfolding allowed_names
  allow group is = rw is (filter_passes (is_allowed query.chosen column) (places_below (names_at (slice_get schema.columns column))))

  pub names_allowed : query.group ≡ Some column → All (λ (name : ℕ). AllowsName query.chosen query.group (Some name)) (allowed_names schema query column)
  names_allowed is = allow query.group is
