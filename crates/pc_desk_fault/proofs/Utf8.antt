-- The test of UTF-8, and what it tests.
use Rattle.std.proofs.Common.{◌≡◌, ℕ, Bool, true, false, List, refl}
use Rattle.std.specs.Str.{is_utf8, IsUtf8}
use Rattle.std.specs.Str.Lossy.{utf8_valid_len}
use Rattle.std.proofs.lemmas.Str.{IsUtf8-from_is_utf8, is_utf8-from_IsUtf8}
use Rattle.pc_desk_fault.specs.WholeFiles.{spoiled_at, spoiled_text}

pub is_text : (bytes : List ℕ) → IsUtf8 bytes → is_utf8 bytes ≡ true
is_text bytes text = is_utf8-from_IsUtf8 bytes text

pub is_no_text : (bytes : List ℕ) → (IsUtf8 bytes → ⊥) → is_utf8 bytes ≡ false
is_no_text bytes none = by_test (is_utf8 bytes) refl
  where
    by_test : (test : Bool) → is_utf8 bytes ≡ test → is_utf8 bytes ≡ false
    by_test true e = absurd (none (IsUtf8-from_is_utf8 bytes e))
    by_test false e = e

pub spoiled_from : (bytes : List ℕ) (place : ℕ) → (IsUtf8 bytes → ⊥) → place ≡ utf8_valid_len bytes → spoiled_text bytes ≡ spoiled_at place bytes
unfolding spoiled_text
spoiled_from bytes place none is = rw (is_no_text bytes none, is) refl

pub ruleset tests = (is_text)
