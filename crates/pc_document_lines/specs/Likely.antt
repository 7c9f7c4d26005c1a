-- What a reader finds where a value is likely.
use Rattle.std.specs.Prelude.{◌≡◌, Bool, false, Option, Some, IfSome, MatchOption}

-- the likely value, or none where that is not good
abbrev pub IsLikely : {A : Type 0} → (A → Bool) → Option A → Option A → Type 0
IsLikely is_good likely found = MatchOption found (IfSome likely (λ x. is_good x ≡ false)) (λ x. likely ≡ Some x)

-- the likely numbers, or none where one of them does not fit
abbrev pub AreLikely : {A : Type 0} → (A → Bool) → A → Option A → Type 0
AreLikely is_good likely found = MatchOption found (is_good likely ≡ false) (λ x. x ≡ likely)
