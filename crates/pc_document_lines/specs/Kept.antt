-- What a reader of a line finds where a value is likely.
use Rattle.std.specs.Prelude.{◌≡◌, Bool, true, false, Option, Some, IfSome, MatchOption}

-- the value where it is good, and none else
abbrev pub IsKept : {A : Type 0} → (A → Bool) → A → Option A → Type 0
IsKept is_good x found = MatchOption found (is_good x ≡ false) (λ y. (y ≡ x) × (is_good x ≡ true))

-- the likely value, if there is one
abbrev pub IsLikelyKept : {A : Type 0} → (A → Bool) → Option A → Option A → Type 0
IsLikelyKept is_good likely found = MatchOption found (IfSome likely (λ x. is_good x ≡ false)) (λ x. (likely ≡ Some x) × (is_good x ≡ true))
