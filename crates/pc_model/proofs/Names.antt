-- The test of a name, and what it tests.
use Rattle.std.proofs.Common.{◌≡◌, ◌≢◌, ℕ, ◌≤◌, ◌&&◌, nat_lt, nat_le, Bool, true, List, [], ◌∷◌, length, refl, arith, ◌↔◌}
use Rattle.std.specs.Bool.{IsTrue}
use Rattle.std.specs.List.{All, list_all}
use Rattle.std.specs.Str.{is_utf8}
use Rattle.std.proofs.lemmas.Bool.{and_parts}
use Rattle.std.proofs.lemmas.Bool.Decides.{nat_tests}
use Rattle.std.proofs.lemmas.List.Elements.{All-nil, All-cons, All-head, All-tail}
use Rattle.std.proofs.lemmas.Str.{IsUtf8-from_is_utf8, is_utf8-from_IsUtf8}
use Rattle.pc_model.specs.Texts.{is_name, is_name_byte, IsName}

abbrev IsPrinted : ℕ → Type 0
IsPrinted byte = (32 ≤ byte) × (byte ≢ 127)

both_true : (x y : Bool) → x ≡ true → y ≡ true → (x && y) ≡ true
both_true x y p q = rw (p, q) refl

printed_byte : (byte : ℕ) → is_name_byte byte ≡ true → IsPrinted byte
printed_byte byte e = (grind (arith, nat_tests), λ same. grind (arith, nat_tests))

name_byte : (byte : ℕ) → IsPrinted byte → is_name_byte byte ≡ true
name_byte byte printed = grind (arith, nat_tests)

all_printed : (name : List ℕ) → list_all is_name_byte name ≡ true → All IsPrinted name
all_printed [] e = All-nil IsPrinted
all_printed (byte ∷ rest) e =
    let parts = and_parts (is_name_byte byte) (list_all is_name_byte rest) e in
    All-cons IsPrinted byte rest (printed_byte byte parts.0) (all_printed rest parts.1)

all_name_bytes : (name : List ℕ) → All IsPrinted name → list_all is_name_byte name ≡ true
all_name_bytes [] all = refl
all_name_bytes (byte ∷ rest) all =
    both_true (is_name_byte byte) (list_all is_name_byte rest)
    (name_byte byte (All-head IsPrinted byte rest all))
    (all_name_bytes rest (All-tail IsPrinted byte rest all))

pub name_is : (name : List ℕ) → is_name name ≡ true → IsName name
unfolding is_name
name_is name e =
    let bytes = and_parts (is_utf8 name && nat_lt 0 (length name) && nat_le (length name) 64) (list_all is_name_byte name) e in
    let short = and_parts (is_utf8 name && nat_lt 0 (length name)) (nat_le (length name) 64) bytes.0 in
    let some = and_parts (is_utf8 name) (nat_lt 0 (length name)) short.0 in
    record {
      text = IsUtf8-from_is_utf8 name some.0;
      some = grind (arith, nat_tests, some.1);
      short = grind (arith, nat_tests, short.1);
      printed = all_printed name bytes.1;
    }

pub is_name_of : (name : List ℕ) → IsName name → is_name name ≡ true
unfolding is_name
is_name_of name is =
    let some : nat_lt 0 (length name) ≡ true = grind (arith, nat_tests, is.some) in
    let short : nat_le (length name) 64 ≡ true = grind (arith, nat_tests, is.short) in
    both_true _ _ (both_true _ _ (both_true _ _ (is_utf8-from_IsUtf8 name is.text) some) short) (all_name_bytes name is.printed)

pub means : (name : List ℕ) (result : Bool) → result ≡ is_name name → (IsTrue result ↔ IsName name)
means name result e = (λ t. name_is name (rw e at t), λ is. rw e (is_name_of name is))
