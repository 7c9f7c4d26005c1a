-- Words that a mark joins are the pieces between the marks, and lines of words have no line feed.
use Rattle.std.proofs.Common.{◌≡◌, ◌≤◌, ℕ, ◌==◌, List, [], ◌∷◌, ◌++◌, arith, refl, ap, ◌∙◌, Bool, true, false}
use Rattle.std.specs.Prelude.{flat_map, nat_le}
use Rattle.std.specs.List.{All, list_all, slice_split}
use Rattle.std.proofs.lemmas.Bool.{leb-true, ne_eqb}
use Rattle.std.proofs.lemmas.List.{append-nil}
use Rattle.std.proofs.lemmas.List.Elements.{All-head, All-tail, All-weaker}
use Rattle.std.proofs.lemmas.List.Sums.{AllPass-from_list_all}
use Rattle.std.proofs.lemmas.List.Splits.{slice_split_at, slice_split_none}
use Rattle.pc_document_format.specs.Lines.{feeds_in}
use Rattle.pc_document_format.proofs.LinesOf.{feeds_joined}
use Rattle.pc_document_lines.specs.NodeLines.{pieces_of}
use Rattle.pc_document_lines.proofs.NumbersBack.{IsNumberByte}

-- a word, and others after a mark each
abbrev pub marked_words : ℕ → List ℕ → List (List ℕ) → List ℕ
marked_words mark first rest = first ++ flat_map (λ word. mark ∷ word) rest

-- Where no word has a byte that passes, and the mark passes, the pieces are the words.
pub pieces_again : (p : ℕ → Bool) (mark : ℕ) (first : List ℕ) (rest : List (List ℕ)) → p mark ≡ true → All (λ byte. p byte ≡ false) first → All (All (λ byte. p byte ≡ false)) rest → slice_split p (marked_words mark first rest) ≡ first ∷ rest
pieces_again p mark first [] passes free others = rw (append-nil first) (slice_split_none p first free)
pieces_again p mark first (word ∷ rest) passes free others =
    slice_split_at p first mark (marked_words mark word rest) free passes
    ∙ ap (λ pieces. first ∷ pieces) (pieces_again p mark word rest passes (All-head (All (λ byte. p byte ≡ false)) word rest others) (All-tail (All (λ byte. p byte ≡ false)) word rest others))

-- ---- words between spaces

-- a byte that is no space and no line feed
abbrev pub IsInk : ℕ → Type 0
IsInk byte = 45 ≤ byte

-- words with a space before each but the first
abbrev pub words_text : List ℕ → List (List ℕ) → List ℕ
words_text first rest = marked_words 32 first rest

-- the bytes of a literal word pass by `refl`
pub tested_ink : (text : List ℕ) → list_all (λ byte. nat_le 45 byte) text ≡ true → All IsInk text
tested_ink text e = All-weaker (λ byte. nat_le 45 byte ≡ true) IsInk (λ byte is. leb-true 45 byte is) text (AllPass-from_list_all (λ byte. nat_le 45 byte) text e)

-- the text of a number is ink, and has no slash
pub number_ink : (text : List ℕ) → All IsNumberByte text → All IsInk text
number_ink text bytes = All-weaker IsNumberByte IsInk (λ byte is. is.0) text bytes

-- the text of a number has no slash
pub number_unslashed : (text : List ℕ) → All IsNumberByte text → All (λ byte. (byte == 47) ≡ false) text
number_unslashed text bytes = All-weaker IsNumberByte (λ byte. (byte == 47) ≡ false) (λ byte is. ne_eqb byte 47 is.1) text bytes

-- ink has no space
unspaced : (text : List ℕ) → All IsInk text → All (λ byte. (byte == 32) ≡ false) text
unspaced text ink = All-weaker IsInk (λ byte. (byte == 32) ≡ false) (λ byte is. ne_eqb byte 32 (λ e. omega (arith, is, e))) text ink

-- The pieces of words between spaces are these words.
pub words_again : (first : List ℕ) (rest : List (List ℕ)) → All IsInk first → All (All IsInk) rest → pieces_of (words_text first rest) ≡ first ∷ rest
words_again first rest ink others =
    pieces_again (λ byte. byte == 32) 32 first rest refl (unspaced first ink) (All-weaker (All IsInk) (All (λ byte. (byte == 32) ≡ false)) unspaced rest others)

-- ---- no line feed

-- ink has no line feed
pub ink_plain : (text : List ℕ) → All IsInk text → feeds_in text ≡ 0
unfolding feeds_in
ink_plain [] ink = refl
ink_plain (byte ∷ text) ink =
    let first : 45 ≤ byte = All-head IsInk byte text ink in
    rw (ne_eqb byte 10 (λ e. omega (arith, first, e))) (ink_plain text (All-tail IsInk byte text ink))

-- Words between spaces have no line feed.
pub words_plain : (first : List ℕ) (rest : List (List ℕ)) → All IsInk first → All (All IsInk) rest → feeds_in (words_text first rest) ≡ 0
unfolding feeds_in
words_plain first [] ink others = rw (append-nil first) (ink_plain first ink)
words_plain first (word ∷ rest) ink others =
    let before = ink_plain first ink in
    let after = words_plain word rest (All-head (All IsInk) word rest others) (All-tail (All IsInk) word rest others) in
    feeds_joined first (32 ∷ words_text word rest) ∙ omega (arith, before, after)
