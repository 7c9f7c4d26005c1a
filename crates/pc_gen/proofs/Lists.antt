-- What holds of the elements that a test keeps, how many of them pass another, and what holds whatever the result.
use Rattle.std.proofs.Common.{◌≡◌, ◌∙◌, Bool, true, false, List, [], ◌∷◌, map, filter, count_by, All, refl, sym, true≢false, Result, Ok, Err, OnOk}
use Rattle.std.proofs.lemmas.List.Elements.{All-nil, All-cons, All-head, All-tail}
use Rattle.pc_model.proofs.Tallies.{count_by-cons, count_by-skips}

kept_step : {X : Type 0} (test : X → Bool) (P : X → Type 0) (x : X) (xs : List X) (passes : Bool) → test x ≡ passes → (All P (filter test xs) → All (λ y. test y ≡ true → P y) xs) → All P (filter test (x ∷ xs)) → All (λ y. test y ≡ true → P y) (x ∷ xs)
kept_step test P x xs true e later all =
    let kept : All P (x ∷ filter test xs) = rw e at all in
    All-cons (λ y. test y ≡ true → P y) x xs (λ passes. All-head P x (filter test xs) kept) (later (All-tail P x (filter test xs) kept))
kept_step test P x xs false e later all =
    let kept : All P (filter test xs) = rw e at all in
    All-cons (λ y. test y ≡ true → P y) x xs (λ passes. absurd (true≢false (sym passes ∙ e))) (later kept)

pub if_kept : {X : Type 0} (test : X → Bool) (P : X → Type 0) (xs : List X) → All P (filter test xs) → All (λ y. test y ≡ true → P y) xs
if_kept test P [] all = All-nil (λ y. test y ≡ true → P y)
if_kept test P (x ∷ xs) all = kept_step test P x xs (test x) refl (if_kept test P xs) all

pub before_map : {X Y : Type 0} (f : X → Y) (P : Y → Type 0) (xs : List X) → All P (map f xs) → All (λ x. P (f x)) xs
before_map f P [] all = All-nil (λ x. P (f x))
before_map f P (x ∷ xs) all = All-cons (λ y. P (f y)) x xs (All-head P (f x) (map f xs) all) (before_map f P xs (All-tail P (f x) (map f xs) all))

count_step : {X : Type 0} (test kept : X → Bool) (x : X) (xs : List X) (keeps : Bool) → kept x ≡ keeps → (test x ≡ true → kept x ≡ true) → count_by test (filter kept xs) ≡ count_by test xs → count_by test (filter kept (x ∷ xs)) ≡ count_by test (x ∷ xs)
count_step test kept x xs true e passing same =
    rw e (count_by-cons test x (filter kept xs) ∙ rw same (sym (count_by-cons test x xs)))
count_step test kept x xs false e passing same =
    rw e (same ∙ sym (count_by-skips test x xs (fails (test x) refl)))
  where
    fails : (passes : Bool) → test x ≡ passes → test x ≡ false
    fails true p = absurd (true≢false (sym (passing p) ∙ e))
    fails false p = p

-- where all that pass are kept, as many pass
pub as_many : {X : Type 0} (test kept : X → Bool) → ((x : X) → test x ≡ true → kept x ≡ true) → (xs : List X) → count_by test (filter kept xs) ≡ count_by test xs
as_many test kept passing [] = refl
as_many test kept passing (x ∷ xs) = count_step test kept x xs (kept x) refl (passing x) (as_many test kept passing xs)

pub whenever_ok : {T E : Type 0} {P : Type 0} (result : Result T E) → P → OnOk result P
whenever_ok (Ok x) p = p
whenever_ok (Err e) p = tt
