-- What stands between quotes, as far as a loop has come.
use Rattle.std.proofs.Common.{◌≡◌, ℕ, ◌+◌, ◌<◌, ◌≤◌, ◌==◌, Bool, true, false, List, [], ◌∷◌, ◌++◌, length, drop, get_or, Some, None, refl, drop-cons}
use Rattle.std.specs.Prelude.{if◌then◌else◌}
use Rattle.std.proofs.lemmas.Bool.{eqb-true}
use Rattle.std.proofs.lemmas.List.{drop_all}
use Rattle.pc_lang_tokens.specs.Lexing.{quoted_from}

pub quote_opens : (len : ℕ) (name : List ℕ) (byte : ℕ) (rest : List ℕ) → (byte == 34) ≡ true → quoted_from false len name (byte ∷ rest) ≡ quoted_from true (len + 1) name rest
unfolding quoted_from
quote_opens len name byte rest quote = rw quote refl

-- a byte that is added
pub quote_adds : (closing : Bool) (len : ℕ) (name : List ℕ) (byte : ℕ) (rest : List ℕ) → (byte == 34) ≡ closing → quoted_from closing len name (byte ∷ rest) ≡ quoted_from false (len + 1) (name ++ byte ∷ []) rest
unfolding quoted_from
quote_adds false len name byte rest quote = rw quote refl
quote_adds true len name byte rest quote = rw (eqb-true byte 34 quote) refl

pub ruleset byte_steps = (quote_opens, quote_adds)

pub quote_ends : (len : ℕ) (name text : List ℕ) (i d : ℕ) → i < length text → (get_or text i d == 34) ≡ false → quoted_from true len name (drop i text) ≡ Some (name, len)
unfolding quoted_from
quote_ends len name text i d inside past = rw (drop-cons text i d inside, past) refl

pub quote_left : (closing : Bool) (len : ℕ) (name text : List ℕ) (i : ℕ) → length text ≤ i → quoted_from closing len name (drop i text) ≡ (if closing then Some (name, len) else None)
unfolding quoted_from
quote_left true len name text i past = rw (drop_all i text past) refl
quote_left false len name text i past = rw (drop_all i text past) refl

pub ruleset steps = (quote_ends, quote_left)

pub quote_last : (len : ℕ) (name : List ℕ) → quoted_from true len name [] ≡ Some (name, len)
unfolding quoted_from
quote_last len name = refl

pub nothing_quoted : (len : ℕ) (name : List ℕ) → quoted_from false len name [] ≡ None
unfolding quoted_from
nothing_quoted len name = refl

pub quote_stops : (len : ℕ) (name : List ℕ) (byte : ℕ) (rest : List ℕ) → (byte == 34) ≡ false → quoted_from true len name (byte ∷ rest) ≡ Some (name, len)
unfolding quoted_from
quote_stops len name byte rest past = rw past refl
