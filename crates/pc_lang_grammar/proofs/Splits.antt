-- Cuts of a list at the first element that passes a test, and at all of them.
use Rattle.std.proofs.Common.{◌≡◌, ℕ, suc, ◌+◌, ◌-◌, ◌<◌, ◌≤◌, Bool, true, false, cond, List, [], ◌∷◌, ◌++◌, length, get_or, take, drop, Some, None, refl, sym, arith, nat_lt}
use Rattle.std.specs.List.{All, flat_map, onto_first, position, position_or_len, slice_split}
use Rattle.std.proofs.lemmas.Bool.{lt-ltb, ltb-false}
use Rattle.std.proofs.lemmas.List.{take_all, length-append, length-drop}
use Rattle.std.proofs.lemmas.List.Elements.{All-from_get_or, All-head, All-tail}
use Rattle.std.proofs.lemmas.List.Quantifiers.{position-Some}
use Rattle.std.proofs.lemmas.List.Splits.{slice_split_first, slice_split_none}
use Rattle.std.proofs.lemmas.List.Sums.{position_or_len_is, fails_before_first, split_at_first}

rest_is : {X : Type 0} (list : List X) (i : ℕ) → take (length list - i) (drop i list) ≡ drop i list
rest_is list i = take_all (length list - i) (drop i list) (omega (arith, length-drop i list))

position_len : {X : Type 0} (p : X → Bool) (list : List X) (place : ℕ) (d : X) → position p list ≡ Some place → position_or_len p list ≡ place
position_len p list place d found =
    let here = position-Some p list place d found in
    position_or_len_is p list place d (omega (arith, here.0)) here.2 (λ _. here.1)

-- a piece ends at the first that passes
pub piece_at : {X : Type 0} (p : X → Bool) (list : List X) (place : ℕ) → position p list ≡ Some place → slice_split p list ≡ take place list ∷ slice_split p (take (length list - (place + 1)) (drop (place + 1) list))
piece_at p [] place found = absurd (some_of_none found)
  where
    some_of_none : {A : Type 0} {x : A} → None ≡ Some x → ⊥
    some_of_none e = cc
piece_at p (first ∷ list) place found =
    let at = position_len p (first ∷ list) place first found in
    let inside = (position-Some p (first ∷ list) place first found).0 in
    let within : position_or_len p (first ∷ list) < length (first ∷ list) = rw at inside in
    let split = slice_split_first p (first ∷ list) first within in
    rw (rest_is (first ∷ list) (place + 1)) (rw at at split)

some_cond : {A : Type 0} (b : Bool) (x : A) → cond b (Some x) None ≡ None → b ≡ false
some_cond true x e = cc
some_cond false x e = refl

-- all is one piece where none passes
none_passes : {X : Type 0} (p : X → Bool) (list : List X) → position p list ≡ None → length list ≤ position_or_len p list
none_passes p list none =
    ltb-false (position_or_len p list) (length list) (some_cond (nat_lt (position_or_len p list) (length list)) (position_or_len p list) none)

-- all is one piece where none passes
pub piece_whole : {X : Type 0} (p : X → Bool) (list : List X) → position p list ≡ None → slice_split p list ≡ list ∷ []
piece_whole p [] none = refl
piece_whole p (first ∷ list) none =
    let past = none_passes p (first ∷ list) none in
    slice_split_none p (first ∷ list) (All-from_get_or (λ x. p x ≡ false) (first ∷ list) first (λ i inside. fails_before_first p (first ∷ list) i first (omega (arith, past, inside))))

pub ruleset pieces = (piece_at, piece_whole)

-- what stands around the first that passes
pub around_first : {X : Type 0} (p : X → Bool) (list : List X) (place : ℕ) (sign : X) → ((x : X) → p x ≡ true → x ≡ sign) → position p list ≡ Some place → take place list ++ sign ∷ drop (place + 1) list ≡ list
around_first p list place sign only found =
    let at = position_len p list place sign found in
    let here = position-Some p list place sign found in
    let within : position_or_len p list < length list = rw at here.0 in
    let same : get_or list place sign ≡ sign = only (get_or list place sign) here.1 in
    let whole = split_at_first p list sign within in
    sym (rw (at, same) at whole)

-- the place of the one that passes after those that do not
pub place_after : {X : Type 0} (p : X → Bool) (front : List X) (sign : X) (back : List X) → All (λ x. p x ≡ false) front → p sign ≡ true → position p (front ++ sign ∷ back) ≡ Some (length front)
place_after p front sign back none passes =
    let at = len_after p front sign back none passes in
    let within = lt-ltb (length front) (length (front ++ sign ∷ back)) (omega (arith, length-append front (sign ∷ back))) in
    rw (at, within) refl
  where
    len_after : {X : Type 0} (p : X → Bool) (front : List X) (sign : X) (back : List X) → All (λ x. p x ≡ false) front → p sign ≡ true → position_or_len p (front ++ sign ∷ back) ≡ length front
    len_after p [] sign back none passes = rw passes refl
    len_after {X} p (x ∷ front) sign back none passes =
        rw (All-head (λ (y : X). p y ≡ false) x front none, len_after p front sign back (All-tail (λ (y : X). p y ≡ false) x front none) passes) (omega arith)

-- the pieces, each after the sign at which the list was cut
put_first : {X : Type 0} (sign x : X) (parts : List (List X)) → flat_map (λ part. sign ∷ part) (onto_first x parts) ≡ sign ∷ x ∷ drop 1 (flat_map (λ part. sign ∷ part) parts)
put_first sign x [] = refl
put_first sign x (part ∷ parts) = refl

pub pieces_join : {X : Type 0} (p : X → Bool) (sign : X) (list : List X) → ((x : X) → p x ≡ true → x ≡ sign) → flat_map (λ part. sign ∷ part) (slice_split p list) ≡ sign ∷ list
pieces_join p sign [] only = refl
pieces_join p sign (x ∷ list) only = by_test (pieces_join p sign list only) (p x) refl
  where
    by_test : flat_map (λ part. sign ∷ part) (slice_split p list) ≡ sign ∷ list → (test : Bool) → p x ≡ test → flat_map (λ part. sign ∷ part) (slice_split p (x ∷ list)) ≡ sign ∷ x ∷ list
    by_test rest true e = rw (e, rest, only x e) refl
    by_test rest false e = rw (e, put_first sign x (slice_split p list), rest) refl

-- what stands after the one that follows a front
pub drop_past : {X : Type 0} (front : List X) (sign : X) (back : List X) → drop (suc (length front)) (front ++ sign ∷ back) ≡ back
drop_past [] sign back = refl
drop_past (x ∷ front) sign back = drop_past front sign back

-- the length of what stands before so many last items
pub front_size : {X : Type 0} (front back : List X) (n : ℕ) → length back ≡ n → length (front ++ back) - n ≡ length front
front_size front back n e = omega (arith, length-append front back)
