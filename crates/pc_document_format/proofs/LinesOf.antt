-- The lines of bytes.
use Rattle.std.proofs.Common.{◌≡◌, ℕ, ◌+◌, ◌-◌, ◌<◌, ◌≤◌, ◌==◌, Bool, true, false, List, [], ◌∷◌, ◌++◌, length, take, drop, get_or, refl, sym, ap, ◌∙◌, arith, append_assoc, if◌then◌else◌}
use Rattle.std.proofs.lemmas.List.{append-nil, take-append-drop, drop-drop, drop_more}
use Rattle.std.proofs.lemmas.List.Elements.{All-nil, All-cons, All-head, All-tail}
use Rattle.std.proofs.lemmas.List.Concat.{flat_map-append}
use Rattle.std.proofs.lemmas.Bool.{eqb-true}
use Rattle.pc_document_format.specs.Lines.{lines_text, lines_after, whole_lines, rest_after, feeds_in}
use Rattle.pc_document_format.specs.Formats.{Lines, IsPlain, ArePlain, line_at}

pub no_feeds : feeds_in [] ≡ 0
unfolding feeds_in
no_feeds = refl

-- the line feeds of two texts, one after the other
pub feeds_joined : (a b : List ℕ) → feeds_in (a ++ b) ≡ feeds_in a + feeds_in b
unfolding feeds_in
feeds_joined [] b = omega arith
feeds_joined (byte ∷ a) b = by_test (byte == 10) (feeds_joined a b)
  where
    by_test : (test : Bool) → feeds_in (a ++ b) ≡ feeds_in a + feeds_in b → (if test then feeds_in (a ++ b) + 1 else feeds_in (a ++ b)) ≡ (if test then feeds_in a + 1 else feeds_in a) + feeds_in b
    by_test true e = omega arith
    by_test false e = e

-- a byte of a plain line is no line feed
plain_head : (byte : ℕ) (line : List ℕ) → feeds_in (byte ∷ line) ≡ 0 → ((byte == 10) ≡ false) × (feeds_in line ≡ 0)
unfolding feeds_in
plain_head byte line plain = by_test (byte == 10) plain
  where
    by_test : (test : Bool) → (if test then feeds_in line + 1 else feeds_in line) ≡ 0 → (test ≡ false) × (feeds_in line ≡ 0)
    by_test true e = absurd (omega arith)
    by_test false e = (refl, e)

-- a line feed ends the line before it
lines_front : (line before rest : List ℕ) → feeds_in line ≡ 0 → lines_after before (line ++ 10 ∷ rest) ≡ (before ++ line) ∷ lines_after [] rest
unfolding lines_after
lines_front [] before rest plain = rw (append-nil before) refl
lines_front (byte ∷ line) before rest plain =
    let parts = plain_head byte line plain in
    rw (parts.0, lines_front line (before ++ byte ∷ []) rest parts.1, append_assoc before (byte ∷ []) line) refl

rest_front : (line before rest : List ℕ) → feeds_in line ≡ 0 → rest_after before (line ++ 10 ∷ rest) ≡ rest_after [] rest
unfolding rest_after
rest_front [] before rest plain = refl
rest_front (byte ∷ line) before rest plain =
    let parts = plain_head byte line plain in
    rw parts.0 (rest_front line (before ++ byte ∷ []) rest parts.1)

-- bytes without a line feed
pub no_lines : (before bytes : List ℕ) → feeds_in bytes ≡ 0 → lines_after before bytes ≡ []
unfolding lines_after
no_lines before [] plain = refl
no_lines before (byte ∷ bytes) plain =
    let parts = plain_head byte bytes plain in
    rw parts.0 (no_lines (before ++ byte ∷ []) bytes parts.1)

pub rest_alone : (before bytes : List ℕ) → feeds_in bytes ≡ 0 → rest_after before bytes ≡ before ++ bytes
unfolding rest_after
rest_alone before [] plain = sym (append-nil before)
rest_alone before (byte ∷ bytes) plain =
    let parts = plain_head byte bytes plain in
    rw parts.0 (rest_alone (before ++ byte ∷ []) bytes parts.1 ∙ append_assoc before (byte ∷ []) bytes)

-- the bytes of lines and of further lines
pub text_joined : (a b : Lines) → lines_text (a ++ b) ≡ lines_text a ++ lines_text b
unfolding lines_text
text_joined a b = flat_map-append (λ line. line ++ 10 ∷ []) a b

pub text_cons : (line : List ℕ) (lines : Lines) (rest : List ℕ) → lines_text (line ∷ lines) ++ rest ≡ line ++ 10 ∷ (lines_text lines ++ rest)
unfolding lines_text
text_cons line lines rest = simp append_assoc

-- lines are read back, and those of what stands after them
pub lines_before : (lines : Lines) (rest : List ℕ) → ArePlain lines → whole_lines (lines_text lines ++ rest) ≡ lines ++ whole_lines rest
unfolding lines_text
lines_before [] rest plain = refl
lines_before (line ∷ lines) rest plain =
    let head = All-head IsPlain line lines plain in
    let tail = All-tail IsPlain line lines plain in
    rw (text_cons line lines rest, lines_front line [] (lines_text lines ++ rest) head, lines_before lines rest tail) refl

pub rest_back : (lines : Lines) (rest : List ℕ) → ArePlain lines → rest_after [] (lines_text lines ++ rest) ≡ rest_after [] rest
unfolding lines_text
rest_back [] rest plain = refl
rest_back (line ∷ lines) rest plain =
    let head = All-head IsPlain line lines plain in
    let tail = All-tail IsPlain line lines plain in
    rw (text_cons line lines rest, rest_front line [] (lines_text lines ++ rest) head) (rest_back lines rest tail)

pub lines_back : (lines : Lines) (rest : List ℕ) → ArePlain lines → feeds_in rest ≡ 0 → whole_lines (lines_text lines ++ rest) ≡ lines
lines_back lines rest plain ended = rw (lines_before lines rest plain, no_lines [] rest ended) (append-nil lines)

-- bytes are their lines and the rest
whole_from : (before bytes : List ℕ) → before ++ bytes ≡ lines_text (lines_after before bytes) ++ rest_after before bytes
unfolding lines_after rest_after lines_text
whole_from before [] = append-nil before
whole_from before (byte ∷ bytes) = by_test (byte == 10) refl (whole_from [] bytes) (whole_from (before ++ byte ∷ []) bytes)
  where
    by_test : (test : Bool) → (byte == 10) ≡ test → bytes ≡ lines_text (lines_after [] bytes) ++ rest_after [] bytes → (before ++ byte ∷ []) ++ bytes ≡ lines_text (lines_after (before ++ byte ∷ []) bytes) ++ rest_after (before ++ byte ∷ []) bytes → before ++ byte ∷ bytes ≡ lines_text (if test then before ∷ lines_after [] bytes else lines_after (before ++ byte ∷ []) bytes) ++ (if test then rest_after [] bytes else rest_after (before ++ byte ∷ []) bytes)
    by_test true is ended longer = rw (eqb-true byte 10 is) (ap (λ (after : List ℕ). before ++ 10 ∷ after) ended ∙ sym (text_cons before (lines_after [] bytes) (rest_after [] bytes)))
    by_test false is ended longer = sym (append_assoc before (byte ∷ []) bytes) ∙ longer

pub whole : (bytes : List ℕ) → bytes ≡ lines_text (whole_lines bytes) ++ rest_after [] bytes
whole bytes = whole_from [] bytes

-- the lines of bytes have no line feed
plain_more : (before : List ℕ) (byte : ℕ) → feeds_in before ≡ 0 → (byte == 10) ≡ false → feeds_in (before ++ byte ∷ []) ≡ 0
unfolding feeds_in
plain_more before byte plain other = rw (feeds_joined before (byte ∷ []), other) (omega arith)

plain_from : (before bytes : List ℕ) → feeds_in before ≡ 0 → ArePlain (lines_after before bytes) × (feeds_in (rest_after before bytes) ≡ 0)
unfolding lines_after rest_after
plain_from before [] plain = (All-nil IsPlain, plain)
plain_from before (byte ∷ bytes) plain = by_test (byte == 10) refl (plain_from [] bytes nothing) (plain_from (before ++ byte ∷ []) bytes)
  where
    nothing : feeds_in [] ≡ 0
    nothing = no_feeds

    by_test : (test : Bool) → (byte == 10) ≡ test → ArePlain (lines_after [] bytes) × (feeds_in (rest_after [] bytes) ≡ 0) → (feeds_in (before ++ byte ∷ []) ≡ 0 → ArePlain (lines_after (before ++ byte ∷ []) bytes) × (feeds_in (rest_after (before ++ byte ∷ []) bytes) ≡ 0)) → ArePlain (if test then before ∷ lines_after [] bytes else lines_after (before ++ byte ∷ []) bytes) × (feeds_in (if test then rest_after [] bytes else rest_after (before ++ byte ∷ []) bytes) ≡ 0)
    by_test true is ended longer = (All-cons IsPlain before (lines_after [] bytes) plain ended.0, ended.1)
    by_test false is ended longer = longer (plain_more before byte plain is)

pub lines_plain : (bytes : List ℕ) → ArePlain (whole_lines bytes)
lines_plain bytes = (plain_from [] bytes no_feeds).0

pub rest_plain : (bytes : List ℕ) → feeds_in (rest_after [] bytes) ≡ 0
rest_plain bytes = (plain_from [] bytes no_feeds).1

-- as many line feeds as lines
pub as_many : (lines : Lines) → ArePlain lines → feeds_in (lines_text lines) ≡ length lines
unfolding lines_text feeds_in
as_many [] plain = refl
as_many (line ∷ lines) plain =
    let head = All-head IsPlain line lines plain in
    let others = as_many lines (All-tail IsPlain line lines plain) in
    rw (append_assoc line (10 ∷ []) (lines_text lines), feeds_joined line (10 ∷ lines_text lines)) (omega arith)

feeds_from : (before bytes : List ℕ) → length (lines_after before bytes) ≡ feeds_in bytes
unfolding lines_after feeds_in
feeds_from before [] = refl
feeds_from before (byte ∷ bytes) = by_test (byte == 10) (feeds_from [] bytes) (feeds_from (before ++ byte ∷ []) bytes)
  where
    by_test : (test : Bool) → length (lines_after [] bytes) ≡ feeds_in bytes → length (lines_after (before ++ byte ∷ []) bytes) ≡ feeds_in bytes → length (if test then before ∷ lines_after [] bytes else lines_after (before ++ byte ∷ []) bytes) ≡ (if test then feeds_in bytes + 1 else feeds_in bytes)
    by_test true ended longer = omega arith
    by_test false ended longer = longer

pub feeds_are_lines : (bytes : List ℕ) → feeds_in bytes ≡ length (whole_lines bytes)
feeds_are_lines bytes = sym (feeds_from [] bytes)

-- the lines of the front of bytes are lines of all
joined_from : (before front back : List ℕ) → lines_after before (front ++ back) ≡ lines_after before front ++ lines_after (rest_after before front) back
unfolding lines_after rest_after
joined_from before [] back = refl
joined_from before (byte ∷ front) back = by_test (byte == 10) (joined_from [] front back) (joined_from (before ++ byte ∷ []) front back)
  where
    by_test : (test : Bool) → lines_after [] (front ++ back) ≡ lines_after [] front ++ lines_after (rest_after [] front) back → lines_after (before ++ byte ∷ []) (front ++ back) ≡ lines_after (before ++ byte ∷ []) front ++ lines_after (rest_after (before ++ byte ∷ []) front) back → (if test then before ∷ lines_after [] (front ++ back) else lines_after (before ++ byte ∷ []) (front ++ back)) ≡ (if test then before ∷ lines_after [] front else lines_after (before ++ byte ∷ []) front) ++ lines_after (if test then rest_after [] front else rest_after (before ++ byte ∷ []) front) back
    by_test true ended longer = ap (λ (lines : Lines). before ∷ lines) ended
    by_test false ended longer = longer

pub lines_joined : (front back : List ℕ) → whole_lines (front ++ back) ≡ whole_lines front ++ lines_after (rest_after [] front) back
lines_joined front back = joined_from [] front back

-- the number of the line at a place
pub line_at_place : (bytes : List ℕ) (at : ℕ) → line_at (whole_lines bytes) (whole_lines (drop at bytes)) ≡ feeds_in (take at bytes) + 1
line_at_place bytes at =
    let all = feeds_are_lines bytes in
    let left = feeds_are_lines (drop at bytes) in
    let parts = feeds_joined (take at bytes) (drop at bytes) in
    let same = ap feeds_in (take-append-drop at bytes) in
    omega arith

split_at : (bytes : List ℕ) (at end : ℕ) → at ≤ end → end < length bytes → get_or bytes end 0 ≡ 10 → take (end - at) (drop at bytes) ++ 10 ∷ drop (end + 1) bytes ≡ drop at bytes
split_at bytes at end before inside feed =
    let here : at + (end - at) ≡ end = omega arith in
    let after : drop (end - at) (drop at bytes) ≡ 10 ∷ drop (end + 1) bytes = drop-drop (end - at) at bytes ∙ (rw (here, drop_more bytes end 0 inside, feed) refl) in
    ap (λ (rest : List ℕ). take (end - at) (drop at bytes) ++ rest) (sym after) ∙ take-append-drop (end - at) (drop at bytes)

-- the line at a place, of which the line feed is the first at or after the place
pub joined : (bytes : List ℕ) (at end : ℕ) → at ≤ end → end < length bytes → get_or bytes end 0 ≡ 10 → feeds_in (take (end - at) (drop at bytes)) ≡ 0 → whole_lines (drop at bytes) ≡ take (end - at) (drop at bytes) ∷ whole_lines (drop (end + 1) bytes)
joined bytes at end before inside feed plain =
    let split = split_at bytes at end before inside feed in
    rw split at (lines_front (take (end - at) (drop at bytes)) [] (drop (end + 1) bytes) plain)

-- what stands after the last line is the same after it
pub rest_joined : (bytes : List ℕ) (at end : ℕ) → at ≤ end → end < length bytes → get_or bytes end 0 ≡ 10 → feeds_in (take (end - at) (drop at bytes)) ≡ 0 → rest_after [] (drop at bytes) ≡ rest_after [] (drop (end + 1) bytes)
rest_joined bytes at end before inside feed plain =
    let split = split_at bytes at end before inside feed in
    rw split at (rest_front (take (end - at) (drop at bytes)) [] (drop (end + 1) bytes) plain)
