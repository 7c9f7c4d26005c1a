-- Texts that are shown, as far as a loop has come.
use Rattle.std.proofs.Common.{◌≡◌, ℕ, zero, suc, ◌+◌, ◌<◌, ◌≤◌, ◌==◌, Bool, true, false, List, [], ◌∷◌, ◌++◌, length, map, take, drop, get_or, refl, sym, arith, append_assoc, add-one, drop-cons}
use Rattle.std.specs.Prelude.{nat_lt}
use Rattle.std.proofs.lemmas.List.{append-nil, drop_all, get_or_past, take_all}
use Rattle.pc_desk_records.specs.Shown.{comma_at, cut_place, distance, listed_from, nearest_from, shown, shown_byte}

pub whole_start : (text : List ℕ) → length text ≤ 64 → text ≡ take 64 text
whole_start text few = sym (take_all 64 text few)

-- past the end no byte is within a character
pub whole_characters : (text : List ℕ) → length text ≤ 64 → text ≡ take (cut_place text) text
whole_characters text few = rw (get_or_past text 64 0 few) (sym (take_all 64 text few))

pub ruleset starts = (whole_start, whole_characters)

-- ---- bytes

pub byte_step : (before text : List ℕ) (at : ℕ) (d : ℕ) → at < length text → (before ++ shown_byte (get_or text at d) ∷ []) ++ map shown_byte (drop (at + 1) text) ≡ before ++ map shown_byte (drop at text)
byte_step before text at d inside = rw (add-one, drop-cons text at d inside) (append_assoc before (shown_byte (get_or text at d) ∷ []) (map shown_byte (drop (suc at) text)))

pub byte_end : (before text : List ℕ) (at : ℕ) → length text ≤ at → before ++ map shown_byte (drop at text) ≡ before
byte_end before text at past = rw (drop_all at text past) (append-nil before)

pub ruleset bytes = (byte_step, byte_end)

-- ---- texts

one_more : (place : ℕ) (texts : List (List ℕ)) (d : List ℕ) → place < length texts → listed_from place (drop place texts) ≡ (comma_at place ++ shown (get_or texts place d)) ++ listed_from (place + 1) (drop (place + 1) texts)
unfolding listed_from
one_more place texts d inside = rw (drop-cons texts place d inside) (rw add-one refl)

pub text_step : (before : List ℕ) (place : ℕ) (texts : List (List ℕ)) (d : List ℕ) → place < length texts → (before ++ (comma_at place ++ shown (get_or texts place d))) ++ listed_from (place + 1) (drop (place + 1) texts) ≡ before ++ listed_from place (drop place texts)
text_step before place texts d inside =
    rw (one_more place texts d inside)
    (append_assoc before (comma_at place ++ shown (get_or texts place d)) (listed_from (place + 1) (drop (place + 1) texts)))

pub text_end : (before : List ℕ) (place : ℕ) (texts : List (List ℕ)) → length texts ≤ place → before ++ listed_from place (drop place texts) ≡ before
unfolding listed_from
text_end before place texts past = rw (drop_all place texts past) (append-nil before)

pub ruleset lists = (text_step, text_end)

-- ---- the nearest

module _ (text : List ℕ) (place best least : ℕ) (others : List (List ℕ)) where
  pub is_nearer : (d : List ℕ) → place < length others → distance text (get_or others place d) < least
      → nearest_from text place best least (drop place others) ≡ nearest_from text (place + 1) place (distance text (get_or others place d)) (drop (place + 1) others)
  unfolding nearest_from
  is_nearer d inside less = let e : nat_lt (distance text (get_or others place d)) least ≡ true = grind arith in rw (drop-cons others place d inside, e) (rw add-one refl)

  pub is_no_nearer : (d : List ℕ) → place < length others → least ≤ distance text (get_or others place d)
      → nearest_from text place best least (drop place others) ≡ nearest_from text (place + 1) best least (drop (place + 1) others)
  unfolding nearest_from
  is_no_nearer d inside more = let e : nat_lt (distance text (get_or others place d)) least ≡ false = grind arith in rw (drop-cons others place d inside, e) (rw add-one refl)

  pub no_more : length others ≤ place → nearest_from text place best least (drop place others) ≡ best
  unfolding nearest_from
  no_more past = rw (drop_all place others past) refl

pub ruleset nearer = (is_nearer, is_no_nearer, no_more)
