-- The line of a node of a search tree is read as that node.
use Rattle.std.proofs.Common.{Bor, add-one, append_assoc, drop, drop-cons, get_or, length, zero, suc, ◌+◌, ◌≡◌, ◌≤◌, ◌<◌, ◌^◌, ◌&&◌, ℕ, List, [], ◌∷◌, ◌++◌, arith, refl, ap, ap₂, sym, ◌∙◌, Bool, true, false, Option, Some, None, if◌then◌else◌}
use Rattle.std.specs.Prelude.{IsTrue, ◌↔◌, ℤ, pos, unsigned_abs, codes, flat_map, map, bytes_eq, nat_lt, nat_le}
use Rattle.std.specs.List.{All, list_all}
use Rattle.std.specs.Ordering.{int_eq}
use Rattle.std.proofs.lemmas.Bool.{both_ways, le-ltb, lt-leb, false_from_ne_true, and_parts, and_from, lt-ltb, ltb-true, le-leb, leb-true}
use Rattle.std.proofs.lemmas.Bool.Decides.{Decides-int_eq}
use Rattle.std.proofs.lemmas.Int.{ints}
use Rattle.std.proofs.lemmas.List.{append-nil, drop_all}
use Rattle.std.proofs.lemmas.List.Elements.{All-head, All-tail, All-cons, All-nil, All-weaker}
use Rattle.std.proofs.lemmas.List.Sums.{AllPass-from_list_all, list_all-from_AllPass}
use Rattle.pc_num.specs.Signs.{Fits}
use Rattle.pc_model.specs.declared.tree.TreeNode.{TreeNode}
use Rattle.pc_model.specs.declared.tree.TreeNode.TheVariants as nodes
use Rattle.pc_document_format.specs.Formats.{IsLine, IsSpelled}
use Rattle.pc_document_format.specs.Lines.{feeds_in}
use Rattle.pc_document_format.proofs.Spelled.{spelled_line}
use Rattle.pc_proof.specs.Form.{IsFormedNode}
use Rattle.pc_document_lines.specs.Numbers.{count_text, whole_text, likely_count, likely_number, is_fit, is_positive}
use Rattle.pc_document_lines.specs.NodeLines.{IsBareNode, bare, bound_of, is_node, likely_node, node_of_pieces, node_text, numbers_text, pieces_of, read_node, split_of, void_of}
use Rattle.pc_document_lines.proofs.NumbersBack.{number_bytes, numbers_again}
use Rattle.pc_document_lines.proofs.NumbersInLines.{IsInk, number_ink, tested_ink, words_again, words_plain, words_text}
use Rattle.pc_document_lines.proofs.NumbersLikely.{both_false}

-- ---- a node in words

-- the first word of a node's line
head_word : TreeNode → List ℕ
head_word (nodes.Split cell at less more) = codes "split"
head_word (nodes.Bound m) = codes "bound"
head_word (nodes.Void m) = codes "void"

-- its other words
other_words : TreeNode → List (List ℕ)
other_words (nodes.Split cell at less more) = count_text cell ∷ count_text at ∷ []
other_words (nodes.Bound m) = whole_text m.den ∷ map whole_text m.by
other_words (nodes.Void m) = map whole_text m.by

-- numbers after a space each are words between spaces
numbers_as_words : (numbers : List ℤ) → numbers_text numbers ≡ flat_map (λ word. 32 ∷ word) (map whole_text numbers)
unfolding numbers_text
numbers_as_words [] = refl
numbers_as_words (number ∷ numbers) = ap (λ rest. (32 ∷ whole_text number) ++ rest) (numbers_as_words numbers)

-- a node's line is its words between spaces
node_as_words : (node : TreeNode) → node_text node ≡ words_text (head_word node) (other_words node)
unfolding node_text head_word other_words
node_as_words (nodes.Split cell at less more) = rw (append-nil (count_text at)) refl
node_as_words (nodes.Bound m) = rw (numbers_as_words m.by) refl
node_as_words (nodes.Void m) = rw (numbers_as_words m.by) refl

-- a number's text is ink
whole_ink : (number : ℤ) → unsigned_abs number < 10 ^ 64 → All IsInk (whole_text number)
whole_ink number small = number_ink (whole_text number) (number_bytes number 0 small)

-- so are the texts of numbers that fit
numbers_ink : (numbers : List ℤ) → All Fits numbers → All (All IsInk) (map whole_text numbers)
numbers_ink [] fit = All-nil (All IsInk)
numbers_ink (number ∷ numbers) fit =
    let first : unsigned_abs number < 2 ^ 127 = All-head Fits number numbers fit in
    All-cons (All IsInk) (whole_text number) (map whole_text numbers) (whole_ink number (omega (arith, first))) (numbers_ink numbers (All-tail Fits number numbers fit))

-- and the first words
head_ink : (node : TreeNode) → All IsInk (head_word node)
unfolding head_word
head_ink (nodes.Split cell at less more) = tested_ink (codes "split") refl
head_ink (nodes.Bound m) = tested_ink (codes "bound") refl
head_ink (nodes.Void m) = tested_ink (codes "void") refl

-- and the other words of a node in form
words_ink : (node : TreeNode) → IsFormedNode node → All (All IsInk) (other_words node)
unfolding other_words
words_ink (nodes.Split cell at less more) formed =
    All-cons (All IsInk) (count_text cell) (count_text at ∷ []) (whole_ink (pos cell) (omega (arith, formed.0)))
    (All-cons (All IsInk) (count_text at) [] (whole_ink (pos at) (omega (arith, formed.1))) (All-nil (All IsInk)))
words_ink (nodes.Bound m) formed =
    let den : unsigned_abs m.den < 2 ^ 127 = formed.1 in
    All-cons (All IsInk) (whole_text m.den) (map whole_text m.by) (whole_ink m.den (omega (arith, den))) (numbers_ink m.by formed.2)
words_ink (nodes.Void m) formed = numbers_ink m.by formed.1

-- ---- back from the words

-- numbers that fit are read back
numbers_back : (numbers : List ℤ) → All Fits numbers → map likely_number (map whole_text numbers) ≡ numbers
numbers_back [] fit = refl
numbers_back (number ∷ numbers) fit =
    let first : unsigned_abs number < 2 ^ 127 = All-head Fits number numbers fit in
    ap₂ (λ (x : ℤ) (xs : List ℤ). x ∷ xs) (numbers_again number 0 (omega (arith, first))) (numbers_back numbers (All-tail Fits number numbers fit))

-- and counts
count_back : (n : ℕ) → n < 10 ^ 64 → likely_count (count_text n) ≡ n
count_back n small = ap unsigned_abs (numbers_again (pos n) 0 small)

-- the words of a node in form are read as that node without its places
words_back : (node : TreeNode) → IsFormedNode node → node_of_pieces (head_word node ∷ other_words node) ≡ Some (bare node)
unfolding node_of_pieces head_word other_words
words_back (nodes.Split cell at less more) formed = rw (count_back cell (omega (arith, formed.0)), count_back at (omega (arith, formed.1))) refl
words_back (nodes.Bound m) formed =
    let den : unsigned_abs m.den < 2 ^ 127 = formed.1 in
    rw (numbers_back m.by formed.2, numbers_again m.den 0 (omega (arith, den))) refl
words_back (nodes.Void m) formed = rw (numbers_back m.by formed.1, sym formed.0) refl

-- so is its line
node_back : (node : TreeNode) → IsFormedNode node → likely_node (node_text node) ≡ Some (bare node)
unfolding likely_node
node_back node formed =
    ap (λ line. node_of_pieces (pieces_of line)) (node_as_words node)
    ∙ ap node_of_pieces (words_again (head_word node) (other_words node) (head_ink node) (words_ink node formed))
    ∙ words_back node formed

-- a node's line has no line feed
node_plain : (node : TreeNode) → IsFormedNode node → feeds_in (node_text node) ≡ 0
node_plain node formed = ap feeds_in (node_as_words node) ∙ words_plain (head_word node) (other_words node) (head_ink node) (words_ink node formed)

-- ---- what is read has no places

-- what was found is a node without places
HasNoPlaces : Option TreeNode → Type 0
HasNoPlaces found = (node : TreeNode) → found ≡ Some node → bare node ≡ node

-- where nothing was found
no_node : HasNoPlaces None
unfolding HasNoPlaces
no_node node e = cc

-- where such a node was found
some_node : (found : TreeNode) → bare found ≡ found → HasNoPlaces (Some found)
unfolding HasNoPlaces
some_node found same node e = let is : found ≡ node = cc in ap bare (sym is) ∙ same ∙ is

-- where either of two was found
one_of_both : (test : Bool) (found other : Option TreeNode) → HasNoPlaces found → HasNoPlaces other → HasNoPlaces (if test then found else other)
one_of_both true found other first second = first
one_of_both false found other first second = second

-- a split that is read has no places
split_placeless : (pieces : List (List ℕ)) → HasNoPlaces (split_of pieces)
split_placeless [] = no_node
split_placeless (cell ∷ []) = no_node
split_placeless (cell ∷ at ∷ []) = some_node _ refl
split_placeless (cell ∷ at ∷ more ∷ pieces) = no_node

-- a bound has none
bound_placeless : (pieces : List (List ℕ)) → HasNoPlaces (bound_of pieces)
bound_placeless [] = no_node
bound_placeless (den ∷ pieces) = some_node _ refl

-- no node that is read has places
pieces_placeless : (pieces : List (List ℕ)) → HasNoPlaces (node_of_pieces pieces)
unfolding node_of_pieces
pieces_placeless [] = no_node
pieces_placeless (first ∷ rest) =
    one_of_both (bytes_eq first (codes "split")) (split_of rest) _ (split_placeless rest)
    (one_of_both (bytes_eq first (codes "bound")) (bound_of rest) _ (bound_placeless rest)
    (one_of_both (bytes_eq first (codes "void")) (void_of rest) None (some_node _ refl) no_node))

-- ---- sizes

-- a number that fits passes the test
fit_is : (number : ℤ) → Fits number → is_fit number ≡ true
fit_is number fits = lt-ltb (unsigned_abs number) (2 ^ 127) fits

-- a number that passes fits
is_fit_is : (number : ℤ) → is_fit number ≡ true → Fits number
is_fit_is number e = ltb-true (unsigned_abs number) (2 ^ 127) e

-- numbers that fit pass
fits_are : (numbers : List ℤ) → All Fits numbers → list_all is_fit numbers ≡ true
fits_are numbers fit = list_all-from_AllPass is_fit numbers (All-weaker Fits (λ number. is_fit number ≡ true) fit_is numbers fit)

-- numbers that pass fit
are_fits : (numbers : List ℤ) → list_all is_fit numbers ≡ true → All Fits numbers
are_fits numbers e = All-weaker (λ number. is_fit number ≡ true) Fits is_fit_is numbers (AllPass-from_list_all is_fit numbers e)

-- a node in form passes the test
node_tested : (node : TreeNode) → IsFormedNode node → is_node node ≡ true
unfolding is_node
node_tested (nodes.Split cell at less more) formed = and_from (nat_lt cell (2 ^ 32)) (nat_le at (10 ^ 18)) (lt-ltb cell (2 ^ 32) formed.0) (le-leb at (10 ^ 18) formed.1)
node_tested (nodes.Bound m) formed =
    let above : is_positive m.den ≡ true = grind (arith, ints, formed.0) in
    and_from (is_positive m.den && is_fit m.den) (list_all is_fit m.by) (and_from (is_positive m.den) (is_fit m.den) above (fit_is m.den formed.1)) (fits_are m.by formed.2)
node_tested (nodes.Void m) formed = and_from (int_eq m.den (pos 1)) (list_all is_fit m.by) ((Decides-int_eq m.den (pos 1)).1 formed.0) (fits_are m.by formed.1)

-- a node that passes is in form
tested_node : (node : TreeNode) → is_node node ≡ true → IsFormedNode node
unfolding is_node
tested_node (nodes.Split cell at less more) e =
    let parts = and_parts (nat_lt cell (2 ^ 32)) (nat_le at (10 ^ 18)) e in
    (ltb-true cell (2 ^ 32) parts.0, leb-true at (10 ^ 18) parts.1)
tested_node (nodes.Bound m) e =
    let parts = and_parts (is_positive m.den && is_fit m.den) (list_all is_fit m.by) e in
    let den = and_parts (is_positive m.den) (is_fit m.den) parts.0 in
    (grind (arith, ints, den.0), is_fit_is m.den den.1, are_fits m.by parts.1)
tested_node (nodes.Void m) e =
    let parts = and_parts (int_eq m.den (pos 1)) (list_all is_fit m.by) e in
    ((Decides-int_eq m.den (pos 1)).0 parts.0, are_fits m.by parts.1)

-- a node that is read and passes is one of a line
read_bare : (line : List ℕ) (node : TreeNode) → likely_node line ≡ Some node → is_node node ≡ true → IsBareNode node
unfolding likely_node HasNoPlaces
read_bare line node e tested = record {
  placeless = pieces_placeless (pieces_of line) node e;
  good = tested_node node tested;
}

-- there is a node of a line
zero_split : IsBareNode (nodes.Split 0 0 0 0)
zero_split = record { placeless = refl; good = (omega arith, omega arith) }

-- nodes are a kind of line that is written again and compared
spelled : IsSpelled IsBareNode node_text is_node likely_node
spelled = record {
  some = nodes.Split 0 0 0 0;
  some_good = zero_split;
  tested = λ node bare_node. node_tested node bare_node.good;
  holds = read_bare;
  plain = λ node bare_node. node_plain node bare_node.good;
  back = λ node bare_node. node_back node bare_node.good ∙ ap Some bare_node.placeless;
}

-- The line of a node is read as that node, and nothing else is.
pub node_line : IsLine IsBareNode node_text read_node
unfolding read_node
node_line = spelled_line node_text is_node likely_node spelled

-- ---- the code's steps

-- a test that decides whether numbers fit is the test of the definition
pub fits_test : (test : Bool) (numbers : List ℤ) → IsTrue test ↔ All Fits numbers → test ≡ list_all is_fit numbers
fits_test test numbers same = by_test (list_all is_fit numbers) refl
  where
    by_test : (all : Bool) → list_all is_fit numbers ≡ all → test ≡ all
    by_test true e = same.1 (are_fits numbers e)
    by_test false e = false_from_ne_true test (λ is. both_ways (list_all is_fit numbers) e (fits_are numbers (same.0 is)))

-- the line tells no places
pub bare_text : (node : TreeNode) → node_text (bare node) ≡ node_text node
unfolding node_text
bare_text (nodes.Split cell at less more) = refl
bare_text (nodes.Bound m) = refl
bare_text (nodes.Void m) = refl

-- a cell of more than 32 bits
pub wide_split : (cell at : ℕ) → 2 ^ 32 ≤ cell → is_node (nodes.Split cell at 0 0) ≡ false
unfolding is_node
wide_split cell at wide = ap (λ (test : Bool). test && nat_le at (10 ^ 18)) (le-ltb cell (2 ^ 32) wide)

-- a count of more than 64 bits
pub far_split : (cell at : ℕ) → 2 ^ 64 ≤ at → is_node (nodes.Split cell at 0 0) ≡ false
unfolding is_node
far_split cell at far = both_false (nat_lt cell (2 ^ 32)) (nat_le at (10 ^ 18)) (lt-leb at (10 ^ 18) (omega (arith, far)))

pub ruleset splits = (wide_split, far_split)

-- the numbers that are written so far, and those that are left
pub number_more : (items : List ℕ) (numbers : List ℤ) (i : ℕ) (d : ℤ) → i < length numbers → (items ++ 32 ∷ whole_text (get_or numbers i d)) ++ numbers_text (drop (i + 1) numbers) ≡ items ++ numbers_text (drop i numbers)
unfolding numbers_text
number_more items numbers i d inside = rw (add-one, drop-cons numbers i d) (append_assoc items (32 ∷ whole_text (get_or numbers i d)) (numbers_text (drop (suc i) numbers)))

-- none are left at the end
pub number_end : (items : List ℕ) (numbers : List ℤ) (i : ℕ) → length numbers ≤ i → items ++ numbers_text (drop i numbers) ≡ items
unfolding numbers_text
number_end items numbers i past = rw (drop_all i numbers past) (append-nil items)

pub ruleset numbers_steps = (number_more, number_end)

-- the numbers that are read so far, and those that are left
abbrev numbers_in : List (Bor (List ℕ)) → List ℤ
numbers_in pieces = map likely_number (map (λ piece. piece.now) pieces)

-- the number at a place goes after those before it
pub likely_more : (numbers : List ℤ) (pieces : List (Bor (List ℕ))) (i : ℕ) (d : Bor (List ℕ)) → i < length pieces → (numbers ++ likely_number (get_or pieces i d).now ∷ []) ++ numbers_in (drop (i + 1) pieces) ≡ numbers ++ numbers_in (drop i pieces)
likely_more numbers pieces i d inside = rw (add-one, drop-cons pieces i d) (append_assoc numbers (likely_number (get_or pieces i d).now ∷ []) (numbers_in (drop (suc i) pieces)))

-- none are left at the end
pub likely_end : (numbers : List ℤ) (pieces : List (Bor (List ℕ))) (i : ℕ) → length pieces ≤ i → numbers ++ numbers_in (drop i pieces) ≡ numbers
likely_end numbers pieces i past = rw (drop_all i pieces past) (append-nil numbers)

-- where one number does not fit, they do not all
pub one_unfit : (pieces : List (Bor (List ℕ))) (i : ℕ) (d : Bor (List ℕ)) → i < length pieces → 2 ^ 127 ≤ unsigned_abs (likely_number (get_or pieces i d).now) → list_all is_fit (numbers_in pieces) ≡ false
one_unfit [] i d inside large = absurd (omega (arith, inside))
one_unfit (piece ∷ pieces) zero d inside large = ap (λ (test : Bool). test && list_all is_fit (numbers_in pieces)) (le-ltb (unsigned_abs (likely_number piece.now)) (2 ^ 127) large)
one_unfit (piece ∷ pieces) (suc i) d inside large = both_false (is_fit (likely_number piece.now)) (list_all is_fit (numbers_in pieces)) (one_unfit pieces i d (omega arith) large)

pub ruleset likely_steps = (likely_more, likely_end, one_unfit)

-- a bound over a denominator that does not fit may not stand
pub unfit_den : (by' : List ℤ) (den : ℤ) → 2 ^ 127 ≤ unsigned_abs den → is_node (nodes.Bound (record { by = by'; den = den })) ≡ false
unfolding is_node
unfit_den by' den large =
    ap (λ (test : Bool). test && list_all is_fit by') (both_false (is_positive den) (is_fit den) (le-ltb (unsigned_abs den) (2 ^ 127) large))

-- a bound of multipliers that do not fit may not
pub unfit_bound : (by' : List ℤ) (den : ℤ) → list_all is_fit by' ≡ false → is_node (nodes.Bound (record { by = by'; den = den })) ≡ false
unfolding is_node
unfit_bound by' den unfit = both_false (is_positive den && is_fit den) (list_all is_fit by') unfit

pub ruleset bounds = (unfit_den, unfit_bound)

-- a void leaf of such may not
pub unfit_void : (by' : List ℤ) (den : ℤ) → list_all is_fit by' ≡ false → is_node (nodes.Void (record { by = by'; den = den })) ≡ false
unfolding is_node
unfit_void by' den unfit = both_false (int_eq den (pos 1)) (list_all is_fit by') unfit
