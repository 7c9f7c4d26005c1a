-- Lines by places in the bytes.
use Rattle.std.proofs.Common.{◌≡◌, ℕ, ◌+◌, ◌-◌, ◌<◌, ◌≤◌, List, [], ◌∷◌, length, take, drop, get_or, refl, sym, ap, ◌∙◌, arith}
use Rattle.std.proofs.lemmas.List.{take_more, take_all, get_or-drop, length-drop}
use Rattle.std.proofs.lemmas.Bool.{ne_eqb, eq-eqb}
use Rattle.pc_document_format.specs.Lines.{whole_lines, feeds_in, IsLineEnd}
use Rattle.pc_document_format.proofs.LinesOf.{feeds_joined, no_lines, joined, rest_joined}

-- the line feeds of one byte
feed_here : (byte : ℕ) → byte ≡ 10 → feeds_in (byte ∷ []) ≡ 1
unfolding feeds_in
feed_here byte is = rw (eq-eqb byte 10 is) refl

no_feed_here : (byte : ℕ) → (byte ≡ 10 → ⊥) → feeds_in (byte ∷ []) ≡ 0
unfolding feeds_in
no_feed_here byte other = rw (ne_eqb byte 10 other) refl

feeds_more : (bytes : List ℕ) (n : ℕ) → n < length bytes → feeds_in (take (n + 1) bytes) ≡ feeds_in (take n bytes) + feeds_in (get_or bytes n 0 ∷ [])
feeds_more bytes n inside = ap feeds_in (take_more bytes n 0 inside) ∙ feeds_joined (take n bytes) (get_or bytes n 0 ∷ [])

-- no line feed from a place on
abbrev IsPlainTo : List ℕ → ℕ → ℕ → Type 0
IsPlainTo bytes at end = feeds_in (take (end - at) (drop at bytes)) ≡ 0

pub end_start : (bytes : List ℕ) (at end : ℕ) → at ≡ end → feeds_in (take (end - at) (drop at bytes)) ≡ 0
unfolding feeds_in
end_start bytes at end same = let none : end - at ≡ 0 = omega arith in rw none refl

pub end_step : (bytes : List ℕ) (at end : ℕ) → at ≤ end → end < length bytes → (get_or bytes end 0 ≡ 10 → ⊥) → feeds_in (take (end - at) (drop at bytes)) ≡ 0 → feeds_in (take (end + 1 - at) (drop at bytes)) ≡ 0
end_step bytes at end after inside other plain =
    let next : end + 1 - at ≡ (end - at) + 1 = omega arith in
    let place : at + (end - at) ≡ end = omega arith in
    let more = feeds_more (drop at bytes) (end - at) (omega (arith, length-drop at bytes)) in
    let same = get_or-drop at bytes (end - at) 0 ∙ ap (λ (k : ℕ). get_or bytes k 0) place in
    let none : feeds_in (get_or (drop at bytes) (end - at) 0 ∷ []) ≡ 0 = no_feed_here (get_or (drop at bytes) (end - at) 0) (λ is. other (sym same ∙ is)) in
    rw next (omega arith)

pub end_found : (bytes : List ℕ) (at end : ℕ) → at ≤ end → end < length bytes → get_or bytes end 0 ≡ 10 → feeds_in (take (end - at) (drop at bytes)) ≡ 0 → IsLineEnd bytes at end
end_found bytes at end after inside feed plain = record { after = after; inside = inside; first = joined bytes at end after inside feed plain; rest = rest_joined bytes at end after inside feed plain }

pub end_none : (bytes : List ℕ) (at end : ℕ) → length bytes ≤ end → feeds_in (take (end - at) (drop at bytes)) ≡ 0 → whole_lines (drop at bytes) ≡ []
end_none bytes at end past plain = no_lines [] (drop at bytes) (ap feeds_in (sym (take_all (end - at) (drop at bytes) (omega (arith, length-drop at bytes)))) ∙ plain)

pub ruleset ends = (end_start, end_step, end_found, end_none)

-- how many line feeds there are before a place
pub count_start : 1 ≡ feeds_in [] + 1
unfolding feeds_in
count_start = refl

pub count_feed : (bytes : List ℕ) (n : ℕ) → n < length bytes → get_or bytes n 0 ≡ 10 → feeds_in (take (n + 1) bytes) ≡ feeds_in (take n bytes) + 1
count_feed bytes n inside feed = feeds_more bytes n inside ∙ ap (λ (one : ℕ). feeds_in (take n bytes) + one) (feed_here (get_or bytes n 0) feed)

pub count_other : (bytes : List ℕ) (n : ℕ) → n < length bytes → (get_or bytes n 0 ≡ 10 → ⊥) → feeds_in (take (n + 1) bytes) ≡ feeds_in (take n bytes)
count_other bytes n inside other = let none = no_feed_here (get_or bytes n 0) other in let more = feeds_more bytes n inside in omega arith

pub ruleset counts = (count_start, count_feed, count_other)
