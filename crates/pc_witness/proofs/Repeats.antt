-- Lists in which each item of another list stands a number of times.
use Rattle.std.proofs.Common.{◌≡◌, ℕ, zero, suc, ◌+◌, ◌*◌, ◌≤◌, Bool, true, false, cond, List, [], ◌∷◌, ◌++◌, refl, sym, ap, ◌∙◌, arith}
use Rattle.std.proofs.Math.ListN.{replicate}
use Rattle.std.specs.List.{flat_map, sum_by, count_by, All}
use Rattle.std.proofs.lemmas.List.Elements.{All-nil, All-cons, All-head, All-tail, All-append, All-replicate}
use Rattle.std.proofs.lemmas.List.Sums.{sum_by-append, sum_by-cons}
use Rattle.std.proofs.lemmas.List.Folds.{sum_by-replicate}

All-past : {Y : Type 0} (P : Y → Type 0) (xs ys : List Y) → All P (xs ++ ys) → All P ys
All-past P [] ys each = each
All-past P (x ∷ xs) ys each = All-past P xs ys (All-tail P x (xs ++ ys) each)

repeated : {Y : Type 0} (P : Y → Type 0) (n : ℕ) (y : Y) (ys : List Y) → 1 ≤ n → All P (replicate n y ++ ys) → P y
repeated P zero y ys stands each = absurd (omega arith)
repeated P (suc n) y ys stands each = All-head P y (replicate n y ++ ys) each

times_one : (b : Bool) (n : ℕ) → n * cond b 1 0 ≡ cond b n 0
times_one true n = omega arith
times_one false n = omega arith

module _ {X Y : Type 0} (times : X → ℕ) (item : X → Y) where
  -- what holds of each item holds wherever it stands
  pub All-repeats : (P : Y → Type 0) (xs : List X) → All (λ x. P (item x)) xs → All P (flat_map (λ x. replicate (times x) (item x)) xs)
  All-repeats P [] each = All-nil P
  All-repeats P (x ∷ xs) each =
      All-append P (replicate (times x) (item x)) (flat_map (λ x. replicate (times x) (item x)) xs)
      (All-replicate P (times x) (item x) (All-head (λ x. P (item x)) x xs each))
      (All-repeats P xs (All-tail (λ x. P (item x)) x xs each))

  -- and the other way round, where each stands at least once
  pub All-from_repeats : (P : Y → Type 0) (xs : List X) → All (λ x. 1 ≤ times x) xs → All P (flat_map (λ x. replicate (times x) (item x)) xs) → All (λ x. P (item x)) xs
  All-from_repeats P [] stands each = All-nil (λ x. P (item x))
  All-from_repeats P (x ∷ xs) stands each =
      let rest : List Y = flat_map (λ x. replicate (times x) (item x)) xs in
      All-cons (λ x. P (item x)) x xs
      (repeated P (times x) (item x) rest (All-head (λ x. 1 ≤ times x) x xs stands) each)
      (All-from_repeats P xs (All-tail (λ x. 1 ≤ times x) x xs stands) (All-past P (replicate (times x) (item x)) rest each))

  -- how many pass a test
  pub count_by-repeats : (p : Y → Bool) (xs : List X) → count_by p (flat_map (λ x. replicate (times x) (item x)) xs) ≡ sum_by (λ x. cond (p (item x)) (times x) 0) xs
  count_by-repeats p [] = refl
  count_by-repeats p (x ∷ xs) =
      let one : Y → ℕ = λ y. cond (p y) 1 0 in
      let rest : List Y = flat_map (λ x. replicate (times x) (item x)) xs in
      let here : ℕ = cond (p (item x)) (times x) 0 in
      let part : sum_by one (replicate (times x) (item x)) ≡ here = sum_by-replicate one (times x) (item x) ∙ times_one (p (item x)) (times x) in
      sum_by-append one (replicate (times x) (item x)) rest
      ∙ ap (λ n. n + sum_by one rest) part
      ∙ ap (λ n. here + n) (count_by-repeats p xs)
      ∙ sym (sum_by-cons (λ x. cond (p (item x)) (times x) 0) x xs)
