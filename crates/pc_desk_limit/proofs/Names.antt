-- The names that lines can be given: that they are names, that no two are the same, and that enough of them are free.
use Rattle.std.proofs.Common.{◌≡◌, ◌≢◌, ◌∙◌, ℕ, ◌+◌, ◌<◌, ◌≤◌, ◌^◌, ◌%◌, not, ◌&&◌, Bool, true, false, List, [], ◌∷◌, ◌++◌, All, AllPairs, count_by, filter, get_or, length, map, refl, sym, ap, arith, subst, true≢false, append-nil}
use Rattle.std.specs.Prelude.{bytes_eq, decimal, Decides, drop}
use Rattle.std.specs.List.{list_all, range_with_len}
use Rattle.std.proofs.lemmas.Bool.{and_from}
use Rattle.std.proofs.lemmas.Bool.Decides.{nat_tests}
use Rattle.std.proofs.lemmas.Fmt.{decimal_by_steps, decimal_injective, length-decimal-le}
use Rattle.std.proofs.lemmas.List.Elements.{All-filter, filter_passes}
use Rattle.std.proofs.lemmas.List.Folds.{list_all-append, list_any_at}
use Rattle.std.proofs.lemmas.List.Filters.{length-filter_both}
use Rattle.std.proofs.lemmas.List.FromFn.{filter_of_map_range_with_len_more, get_or-map-range_with_len, length-map-range_with_len}
use Rattle.std.proofs.lemmas.List.Kept.{AllPairs-filter}
use Rattle.std.proofs.lemmas.List.Sums.{length-filter}
use Rattle.std.proofs.lemmas.Slice.Eq.{bytes_eq-Decides}
use Rattle.pc_model.specs.declared.constraint.Constraint.{Constraint}
use Rattle.pc_model.specs.Accepted.{constraint_limit}
use Rattle.pc_model.specs.Texts.{IsName}
use Rattle.pc_model.proofs.Lists.{AllPairs-head, AllPairs-tail, bytes_eq-same, bytes_eq-other}
use Rattle.pc_model.proofs.PlainNames.{is_plain, plain_name}
use Rattle.pc_desk_limit.specs.Lines.{closed_name, closed_names, free_names, is_free, is_taken}
use Rattle.pc_desk_limit.proofs.Quantified.{either_counted, more_counted, none_counted, one_if}

-- ---- as far as a loop has come

pub names_more : (constraints : List Constraint) (place : ℕ) →
    filter (is_free constraints) (map closed_name (range_with_len 1 place)) ++ filter (is_free constraints) (closed_name (place + 1) ∷ [])
    ≡ filter (is_free constraints) (map closed_name (range_with_len 1 (place + 1)))
names_more constraints place =
    let next : 1 + place ≡ place + 1 = omega arith in
    sym (filter_of_map_range_with_len_more (is_free constraints) closed_name 1 place (place + 1) next)

pub names_all : (constraints : List Constraint) (place : ℕ) → place ≤ constraint_limit → constraint_limit ≤ place →
    filter (is_free constraints) (map closed_name (range_with_len 1 place)) ≡ free_names constraints
unfolding closed_names
names_all constraints place upto past =
    let all : place ≡ constraint_limit = omega arith in
    ap (λ (count : ℕ). filter (is_free constraints) (map closed_name (range_with_len 1 count))) all

pub ruleset name_steps = (names_more, names_all)

-- ---- each is a name

plain_digit : (digit : ℕ) → digit < 10 → is_plain (48 + digit) ≡ true
plain_digit digit small = grind (arith, nat_tests)

plain_digits : (number : ℕ) → number < 2 ^ 64 → list_all is_plain (decimal number) ≡ true
plain_digits number small =
    decimal_by_steps (λ n digits. list_all is_plain digits ≡ true)
    (λ n below. and_from (is_plain (48 + n)) true (plain_digit n below) refl)
    (λ n digits more before. list_all-append is_plain digits ((48 + n % 10) ∷ []) ∙ and_from (list_all is_plain digits) (is_plain (48 + n % 10) && true) before
    (and_from (is_plain (48 + n % 10)) true (plain_digit (n % 10) (omega arith)) refl))
    number small

closed_is_name : (number : ℕ) → number < 100 → IsName (closed_name number)
closed_is_name number small =
    let digits = ap (list_all is_plain) (append-nil (decimal number)) ∙ plain_digits number (omega arith) in
    let few : length (decimal number) ≤ 2 = length-decimal-le 2 number (omega arith) small (omega arith) in
    let long : length (decimal number ++ []) ≤ 2 = subst (λ (digits : List ℕ). length digits ≤ 2) (sym (append-nil (decimal number))) few in
    plain_name (closed_name number) digits (omega arith) (omega (arith, long))

closed_apart : (a b : ℕ) → a < b → b < 100 → closed_name a ≢ closed_name b
closed_apart a b less small same =
    let ends = sym (append-nil (decimal a)) ∙ ap (drop 7) same ∙ append-nil (decimal b) in
    let equal : a ≡ b = decimal_injective a b (omega arith) (omega arith) ends in
    omega (arith, equal)

pub are_names : All IsName closed_names
unfolding closed_names
are_names = λ place d here.
    let long = length-map-range_with_len closed_name 1 constraint_limit in
    let below : place < constraint_limit = omega (arith, long, here) in
    subst IsName (sym (get_or-map-range_with_len closed_name 1 constraint_limit place (1 + place) d below refl)) (closed_is_name (1 + place) (omega arith))

pub are_different : AllPairs (λ a b. a ≢ b) closed_names
unfolding closed_names
are_different = λ i j d before here same.
    let long = length-map-range_with_len closed_name 1 constraint_limit in
    let below : j < constraint_limit = omega (arith, long, here) in
    closed_apart (1 + i) (1 + j) (omega arith) (omega arith)
    (sym (get_or-map-range_with_len closed_name 1 constraint_limit i (1 + i) d (omega arith) refl) ∙ same
    ∙ get_or-map-range_with_len closed_name 1 constraint_limit j (1 + j) d below refl)

-- ---- enough are free

abbrev AreDifferent : List (List ℕ) → Type 0
AreDifferent names = AllPairs (λ a b. a ≢ b) names

-- one name is at most one of them
one_same : (name : List ℕ) (names : List (List ℕ)) → AreDifferent names → count_by (bytes_eq name) names ≤ 1
one_same name [] different = omega arith
one_same name (first ∷ names) different =
    by_test (bytes_eq name first) refl (bytes_eq-Decides name first) (one_same name names (AllPairs-tail (λ a b. a ≢ b) first names different))
  where
    by_test : (test : Bool) → bytes_eq name first ≡ test → Decides test (name ≡ first) → count_by (bytes_eq name) names ≤ 1 →
        count_by (bytes_eq name) (first ∷ names) ≤ 1
    by_test true e decides later =
        let same : name ≡ first = decides.0 refl in
        let none = none_counted (bytes_eq name) names (λ place d here. bytes_eq-other name (get_or names place d)
        (λ equal. AllPairs-head (λ a b. a ≢ b) first names different place d here (sym same ∙ equal))) in
        omega (arith, none, more_counted (bytes_eq name) first names, ap one_if e)
    by_test false e decides later = omega (arith, later, more_counted (bytes_eq name) first names, ap one_if e)

-- as many are taken as there are constraints, at most
taken_few : (constraints : List Constraint) (names : List (List ℕ)) → AreDifferent names → count_by (is_taken constraints) names ≤ length constraints
taken_few [] names different = let none = none_counted (is_taken []) names (λ place d here. refl) in omega (arith, none)
taken_few (c ∷ constraints) names different =
    omega (arith, either_counted (bytes_eq c.name) (is_taken constraints) names, one_same c.name names different, taken_few constraints names different)

all_closed : length closed_names ≡ constraint_limit
unfolding closed_names
all_closed = length-map-range_with_len closed_name 1 constraint_limit

pub enough_free : (constraints : List Constraint) → constraint_limit ≤ length (free_names constraints) + length constraints
enough_free constraints =
    let both = length-filter_both (is_taken constraints) (is_free constraints) (λ name. refl) closed_names in
    let taken = length-filter (is_taken constraints) closed_names in
    omega (arith, both, taken, all_closed, taken_few constraints closed_names are_different)

-- ---- those that are free

pub free_are_names : (constraints : List Constraint) → All IsName (free_names constraints)
free_are_names constraints = All-filter (is_free constraints) IsName closed_names are_names

pub free_are_different : (constraints : List Constraint) → AreDifferent (free_names constraints)
free_are_different constraints = AllPairs-filter (λ a b. a ≢ b) (is_free constraints) closed_names are_different

-- no constraint has such a name
abbrev pub IsFresh : List Constraint → List ℕ → Type 0
IsFresh constraints name = All (λ (c : Constraint). c.name ≢ name) constraints

fresh : (constraints : List Constraint) (name : List ℕ) → is_free constraints name ≡ true → IsFresh constraints name
fresh constraints name free = λ place d here same.
    let taken = list_any_at (λ (c : Constraint). bytes_eq c.name name) constraints place d here
    (subst (λ other. bytes_eq other name ≡ true) (sym same) (bytes_eq-same name)) in
    true≢false (sym free ∙ ap not taken)

pub free_are_fresh : (constraints : List Constraint) → All (IsFresh constraints) (free_names constraints)
free_are_fresh constraints = λ place d here.
    fresh constraints (get_or (free_names constraints) place d) (filter_passes (is_free constraints) closed_names place d here)
