-- The first scale that passes a test, as far as a loop has come.
use Rattle.std.proofs.Common.{◌≡◌, ℕ, ◌+◌, ◌<◌, ◌≤◌, Bool, true, false, List, length, get_or, drop, Some, None, refl, add-one, drop-cons}
use Rattle.std.specs.List.{find}
use Rattle.std.proofs.lemmas.List.{drop_all}

pub found_here : (test : ℕ → Bool) (scales : List ℕ) (place d : ℕ) → place < length scales → test (get_or scales place d) ≡ true → find test (drop place scales) ≡ Some (get_or scales place d)
found_here test scales place d inside e = rw (drop-cons scales place d, e) refl

pub found_later : (test : ℕ → Bool) (scales : List ℕ) (place d : ℕ) → place < length scales → test (get_or scales place d) ≡ false → find test (drop place scales) ≡ find test (drop (place + 1) scales)
found_later test scales place d inside e = rw (drop-cons scales place d, e) (rw add-one refl)

pub found_nowhere : (test : ℕ → Bool) (scales : List ℕ) (place : ℕ) → length scales ≤ place → find test (drop place scales) ≡ None
found_nowhere test scales place past = rw (drop_all place scales past) refl

pub ruleset scan = (found_here, found_later, found_nowhere)
