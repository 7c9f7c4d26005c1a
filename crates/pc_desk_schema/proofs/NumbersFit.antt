-- Each field of a column of numbers is read in the kind that they fit.
use Rattle.std.proofs.Common.{◌≡◌, ℕ, ◌==◌, ◌&&◌, ℤ, ◌≤ℤ◌, Bool, true, false, cond, List, [], ◌∷◌, Option, Some, None, Result, Ok, Err, is_ok, refl, subst, arith, eqb-true}
use Rattle.std.specs.List.{find, list_all}
use Rattle.std.proofs.lemmas.Bool.{and_from, and_parts, false≢true}
use Rattle.std.proofs.lemmas.Int.{clamps, ints}
use Rattle.pc_num.specs.declared.scaled.NumFault.{NumFault}
use Rattle.pc_model.specs.declared.schema.Kind.{Kind}
use Rattle.pc_model.specs.declared.schema.Kind.TheVariants.{Int, Dec}
use Rattle.pc_model.specs.Membership.{is_between}
use Rattle.pc_model.specs.Numbers.{number_from}
use Rattle.pc_model.specs.Refusals.{◌>>=◌}
use Rattle.pc_model.proofs.Between.{between_from}
use Rattle.pc_rows.specs.RowFile.{cell_of, in_span, number_within}
use Rattle.pc_desk_schema.specs.declared.numbers.Ends.{Ends}
use Rattle.pc_desk_schema.specs.Numbers.{ends_at, ends_from, fits_at, found_number, kind_at, kind_between, kind_over, lone, number_at, number_kind, scale_of, scales_for, value_at, wider}

-- each field is read in this kind
abbrev pub all_read : Kind → List (List ℕ) → Bool
all_read kind texts = list_all (λ text. is_ok (cell_of kind text)) texts

pub list_all_follows : {X : Type 0} (p q : X → Bool) (xs : List X) → ((x : X) → p x ≡ true → q x ≡ true) → list_all p xs ≡ true → list_all q xs ≡ true
list_all_follows p q [] follows all = refl
list_all_follows p q (x ∷ xs) follows all =
    let parts = and_parts (p x) (list_all p xs) all in
    and_from (q x) (list_all q xs) (follows x parts.0) (list_all_follows p q xs follows parts.1)

pub list_all_both : {X : Type 0} (p q : X → Bool) (xs : List X) → list_all p xs ≡ true → list_all q xs ≡ true → list_all (λ x. p x && q x) xs ≡ true
list_all_both p q [] a b = refl
list_all_both p q (x ∷ xs) a b =
    let first = and_parts (p x) (list_all p xs) a in
    let second = and_parts (q x) (list_all q xs) b in
    and_from (p x && q x) (list_all (λ x. p x && q x) xs) (and_from (p x) (q x) first.0 second.0) (list_all_both p q xs first.1 second.1)

-- ---- the ends hold each number

record Covers (ends start : Ends) : Type 0 where
  low : ends.low ≤ℤ start.low
  high : start.high ≤ℤ ends.high

covers_start : (scale : ℕ) (start : Ends) (texts : List (List ℕ)) → Covers (ends_from scale start texts) start
covers_start scale start [] = record { low = omega (arith, ints); high = omega (arith, ints) }
covers_start scale start (text ∷ texts) =
    let rest : Covers (ends_from scale (wider start (value_at scale text)) texts) (wider start (value_at scale text)) = covers_start scale (wider start (value_at scale text)) texts in
    record { low = omega (arith, ints, clamps, rest.low); high = omega (arith, ints, clamps, rest.high) }

abbrev is_held : ℕ → Ends → List ℕ → Bool
is_held scale ends text = is_between ends.low ends.high (value_at scale text)

held : (scale : ℕ) (start : Ends) (texts : List (List ℕ)) → list_all (is_held scale (ends_from scale start texts)) texts ≡ true
held scale start [] = refl
held scale start (text ∷ texts) =
    let next = wider start (value_at scale text) in
    let ends = ends_from scale next texts in
    let rest : Covers ends next = covers_start scale next texts in
    and_from (is_held scale ends text) (list_all (is_held scale ends) texts)
    (between_from ends.low ends.high (value_at scale text) (omega (arith, ints, clamps, rest.low)) (omega (arith, ints, clamps, rest.high)))
    (held scale next texts)

first_held : (scale : ℕ) (first : List ℕ) (rest : List (List ℕ)) → is_held scale (ends_from scale (lone (value_at scale first)) rest) first ≡ true
first_held scale first rest =
    let start = lone (value_at scale first) in
    let ends = ends_from scale start rest in
    let covers : Covers ends start = covers_start scale start rest in
    between_from ends.low ends.high (value_at scale first) covers.low covers.high

ends_hold : (scale : ℕ) (texts : List (List ℕ)) (ends : Ends) → ends_at scale texts ≡ Some ends → list_all (is_held scale ends) texts ≡ true
ends_hold scale [] ends is = cc
ends_hold scale (first ∷ rest) ends is =
    let same : ends_from scale (lone (value_at scale first)) rest ≡ ends = cc in
    subst (λ (ends : Ends). list_all (is_held scale ends) (first ∷ rest) ≡ true) same
    (and_from (is_held scale (ends_from scale (lone (value_at scale first)) rest) first) (list_all (is_held scale (ends_from scale (lone (value_at scale first)) rest)) rest)
    (first_held scale first rest) (held scale (lone (value_at scale first)) rest))

-- ---- so it is read

within : (low high : ℤ) (number : Result ℤ NumFault) → is_ok number ≡ true → is_between low high (found_number number) ≡ true → is_ok (number_from number >>= in_span low high) ≡ true
within low high (Ok number) is inside = rw inside refl
within low high (Err fault) is inside = absurd (false≢true is)

abbrev is_fit : ℕ → Ends → List ℕ → Bool
is_fit scale ends text = fits_at scale text && is_held scale ends text

read_within : (scale : ℕ) (ends : Ends) (text : List ℕ) → is_fit scale ends text ≡ true → is_ok (number_within scale ends.low ends.high text) ≡ true
read_within scale ends text is =
    let parts = and_parts (fits_at scale text) (is_held scale ends text) is in
    within ends.low ends.high (number_at scale text) parts.0 parts.1

read_at : (scale : ℕ) (ends : Ends) (texts : List (List ℕ)) → list_all (λ text. is_fit scale ends text) texts ≡ true → (whole : Bool) → (scale == 0) ≡ whole → all_read (cond whole (Int ends.low ends.high) (Dec scale ends.low ends.high)) texts ≡ true
unfolding cell_of
read_at scale ends texts all true e =
    let none : scale ≡ 0 = eqb-true scale 0 e in
    list_all_follows (is_fit scale ends) (λ text. is_ok (number_within 0 ends.low ends.high text)) texts (subst (λ (own : ℕ). (text : List ℕ) → is_fit scale ends text ≡ true → is_ok (number_within own ends.low ends.high text) ≡ true) none (read_within scale ends)) all
read_at scale ends texts all false e = list_all_follows (is_fit scale ends) (λ text. is_ok (number_within scale ends.low ends.high text)) texts (read_within scale ends) all

find_passes : (test : ℕ → Bool) (xs : List ℕ) (x : ℕ) → find test xs ≡ Some x → test x ≡ true
find_passes test [] x found = cc
find_passes test (y ∷ ys) x found = by_test (test y) refl found (find_passes test ys x)
  where
    by_test : (passes : Bool) → test y ≡ passes → cond passes (Some y) (find test ys) ≡ Some x → (find test ys ≡ Some x → test x ≡ true) → test x ≡ true
    by_test true e is later = let same : y ≡ x = cc in rw (← same) e
    by_test false e is later = later is

kind_reads : (scale : ℕ) (texts : List (List ℕ)) (kind : Kind) (ends : Option Ends) → list_all (fits_at scale) texts ≡ true → ends_at scale texts ≡ ends → kind_between scale ends ≡ Some kind → all_read kind texts ≡ true
kind_reads scale texts kind None fit e is = cc
kind_reads scale texts kind (Some ends) fit e is =
    let same : kind_at scale ends ≡ kind = cc in
    rw (← same) (read_at scale ends texts (list_all_both (fits_at scale) (is_held scale ends) texts fit (ends_hold scale texts ends e)) (scale == 0) refl)

over_scale : (texts : List (List ℕ)) (kind : Kind) (scale : Option ℕ) → scale_of texts ≡ scale → kind_over texts scale ≡ Some kind → all_read kind texts ≡ true
over_scale texts kind None e is = cc
over_scale texts kind (Some scale) e is = kind_reads scale texts kind (ends_at scale texts) (find_passes (λ scale. list_all (fits_at scale) texts) (scales_for texts) scale e) refl is

pub numbers_read : (texts : List (List ℕ)) (kind : Kind) → number_kind texts ≡ Some kind → all_read kind texts ≡ true
unfolding number_kind
numbers_read texts kind is = over_scale texts kind (scale_of texts) refl is
