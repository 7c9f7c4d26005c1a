-- Texts that are the same or not, and pairs of a list.
use Rattle.std.proofs.Common.{◌≡◌, ◌≢◌, ℕ, suc, Bool, true, false, List, ◌∷◌, All, AllPairs, refl, arith}
use Rattle.std.specs.Prelude.{bytes_eq, Decides}
use Rattle.std.proofs.lemmas.Slice.Eq.{bytes_eq-Decides}

pub AllPairs-head : {X : Type 0} (R : X → X → Type 0) (x : X) (xs : List X) → AllPairs R (x ∷ xs) → All (R x) xs
AllPairs-head R x xs pairs = λ k d inside. pairs 0 (suc k) d (omega arith) (omega arith)

pub AllPairs-tail : {X : Type 0} (R : X → X → Type 0) (x : X) (xs : List X) → AllPairs R (x ∷ xs) → AllPairs R xs
AllPairs-tail R x xs pairs = λ i j d before inside. pairs (suc i) (suc j) d (omega arith) (omega arith)

pub bytes_eq-same : (text : List ℕ) → bytes_eq text text ≡ true
bytes_eq-same text = (bytes_eq-Decides text text).1 refl

pub bytes_eq-other : (text name : List ℕ) → text ≢ name → bytes_eq text name ≡ false
bytes_eq-other text name other = by_test (bytes_eq text name) (bytes_eq-Decides text name)
  where
    by_test : (test : Bool) → Decides test (text ≡ name) → test ≡ false
    by_test true decides = absurd (other (decides.0 refl))
    by_test false decides = refl
