-- Names of plain letters and digits, and lists of names that differ.
use Rattle.std.proofs.Common.{◌≡◌, ◌≢◌, ℕ, ◌<◌, ◌≤◌, ◌&&◌, nat_le, nat_lt, not, Bool, true, List, [], ◌∷◌, length, get_or, arith}
use Rattle.std.specs.Prelude.{bytes_eq}
use Rattle.std.specs.List.{All, AllPairs, list_any, list_all}
use Rattle.std.specs.Str.{IsAscii}
use Rattle.std.proofs.lemmas.Bool.{and_parts, both_ways, not-true}
use Rattle.std.proofs.lemmas.Bool.Decides.{nat_tests}
use Rattle.std.proofs.lemmas.List.Elements.{All-nil, All-cons}
use Rattle.std.proofs.lemmas.List.Folds.{list_any_at}
use Rattle.std.proofs.lemmas.List.Kept.{AllPairs-cons}
use Rattle.std.proofs.lemmas.Slice.Eq.{bytes_eq-Decides}
use Rattle.std.proofs.lemmas.Str.{IsUtf8-from_ascii}
use Rattle.std.proofs.lemmas.Str.Ascii.{IsAscii-nil, IsAscii-cons}
use Rattle.pc_model.specs.Texts.{IsName}

abbrev pub is_plain : ℕ → Bool
is_plain byte = nat_le 32 byte && nat_lt byte 127

plain_byte : (byte : ℕ) → is_plain byte ≡ true → (byte < 128) × ((32 ≤ byte) × (byte ≢ 127))
plain_byte byte plain = (grind (arith, nat_tests), (grind (arith, nat_tests), λ same. grind (arith, nat_tests)))

abbrev IsPrinted : ℕ → Type 0
IsPrinted byte = (32 ≤ byte) × (byte ≢ 127)

plain_text : (text : List ℕ) → list_all is_plain text ≡ true → IsAscii text × All IsPrinted text
plain_text [] plain = (IsAscii-nil, All-nil IsPrinted)
plain_text (byte ∷ rest) plain =
    let parts = and_parts (is_plain byte) (list_all is_plain rest) plain in
    let here = plain_byte byte parts.0 in
    let later = plain_text rest parts.1 in
    (IsAscii-cons byte rest here.0 later.0, All-cons IsPrinted byte rest here.1 later.1)

pub plain_name : (name : List ℕ) → list_all is_plain name ≡ true → 0 < length name → length name ≤ 64 → IsName name
plain_name name plain some short =
    let text = plain_text name plain in
    record { text = IsUtf8-from_ascii name text.0; some = some; short = short; printed = text.1 }

-- ---- names that differ

unfoldable pub are_apart : {X : Type 0} → (X → List ℕ) → List X → Bool
are_apart name [] = true
are_apart name (x ∷ xs) = not (list_any (λ y. bytes_eq (name x) (name y)) xs) && are_apart name xs

pub apart : {X : Type 0} (name : X → List ℕ) (xs : List X) → are_apart name xs ≡ true → AllPairs (λ a b. name a ≢ name b) xs
unfolding are_apart
apart name [] tested = λ i j d before inside. absurd (omega arith)
apart name (x ∷ xs) tested =
    let parts = and_parts (not (list_any (λ y. bytes_eq (name x) (name y)) xs)) (are_apart name xs) tested in
    AllPairs-cons (λ a b. name a ≢ name b) x xs
    (λ k d inside same. both_ways _ (not-true _ parts.0) (list_any_at (λ y. bytes_eq (name x) (name y)) xs k d inside ((bytes_eq-Decides (name x) (name (get_or xs k d))).1 same)))
    (apart name xs parts.1)
