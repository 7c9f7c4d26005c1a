-- The bytes of a format.
use Rattle.std.proofs.Common.{◌≡◌, ⊎_elim, ℕ, ◌+◌, ◌<◌, ◌≤◌, List, [], ◌∷◌, ◌++◌, length, Option, Some, None, Ok, Err, refl, sym, ap, ◌∙◌, subst, arith, append_assoc}
use Rattle.std.proofs.lemmas.List.{append-nil, length-append}
use Rattle.std.proofs.lemmas.List.Elements.{All-nil, All-cons, All-head, All-tail}
use Rattle.std.proofs.lemmas.Bool.{cases_lt}
use Rattle.pc_document_format.specs.Lines.{lines_text, lines_after, whole_lines, rest_after, feeds_in}
use Rattle.pc_document_format.specs.Formats.{Lines, Found, IsPlain, ArePlain, IsFault, IsFormat, IsTextOf, IsBeginning, IsFirstFault, Tells, line_at, whole_of, read_bytes, first_line}
use Rattle.pc_document_format.proofs.Results.{ok_parts, ok_err, cons_parts, nil_cons}
use Rattle.pc_document_format.proofs.LinesOf.{lines_back, rest_back, rest_alone, text_joined, whole, as_many, lines_plain, feeds_joined, feeds_are_lines, lines_joined, no_feeds}

-- a list goes on where a shorter one with the same lines does
longer : (a b u : Lines) (line : List ℕ) (more : Lines) → a ++ u ≡ b ++ line ∷ more → length b < length a → (w : Lines) × (a ≡ b ++ line ∷ w)
longer [] b u line more e long = absurd (omega arith)
longer (first ∷ a) [] u line more e long = (a, ap (λ (next : List ℕ). next ∷ a) (cons_parts first line (a ++ u) more e).0)
longer (first ∷ a) (other ∷ b) u line more e long =
    let parts = cons_parts first other (a ++ u) (b ++ line ∷ more) e in
    let rest = longer a b u line more parts.1 (omega arith) in
    (rest.0, ap (λ (next : List ℕ). next ∷ a) parts.0 ∙ ap (λ (after : Lines). other ∷ after) rest.1)

all_front : (before left : Lines) → ArePlain (before ++ left) → ArePlain before
all_front [] left plain = All-nil IsPlain
all_front (line ∷ before) left plain = All-cons IsPlain line before (All-head IsPlain line (before ++ left) plain) (all_front before left (All-tail IsPlain line (before ++ left) plain))

nil_cons_bytes : (byte : ℕ) (rest : List ℕ) → [] ≡ byte ∷ rest → ⊥
nil_cons_bytes byte rest e = cc

module _ {A : Type 0} (Good : A → Type 0) (text : A → Lines) (Follows : A → Option (List ℕ) → Type 0) (read : Lines → Found A) (format : IsFormat Good text Follows read) (last : (x : A) → Good x → Follows x None) where
  -- a value's lines are read from its bytes
  lines_are : (bytes : List ℕ) (x : A) → IsTextOf Good text bytes x → whole_lines bytes ≡ text x
  lines_are bytes x is = ap whole_lines (sym is.1 ∙ sym (append-nil (lines_text (text x)))) ∙ lines_back (text x) [] (format.plain x is.0) no_feeds

  nothing_after : (bytes : List ℕ) (x : A) → IsTextOf Good text bytes x → rest_after [] bytes ≡ []
  nothing_after bytes x is = ap (rest_after []) (sym is.1 ∙ sym (append-nil (lines_text (text x)))) ∙ rest_back (text x) [] (format.plain x is.0) ∙ rest_alone [] [] no_feeds

  read_all : (x : A) → Good x → read (text x) ≡ Ok (x, [])
  read_all x good = ap read (sym (append-nil (text x))) ∙ format.complete x [] good (last x good)

  reads : (bytes : List ℕ) (x : A) → IsTextOf Good text bytes x → read_bytes read bytes ≡ Ok x
  unfolding read_bytes
  reads bytes x is = rw (nothing_after bytes x is, lines_are bytes x is, read_all x is.0) refl

  -- no good value's lines go on so
  abbrev EndsAt : Lines → List ℕ → Type 0
  EndsAt before line = (y : A) (other : Lines) → Good y → text y ≡ before ++ line ∷ other → ⊥

  -- beginnings that are shared have no more line feeds than lines before the first that may not stand there
  longest_is : (bytes : List ℕ) (before : Lines) (line : List ℕ) (more : Lines) → whole_lines bytes ≡ before ++ line ∷ more → EndsAt before line → (front back : List ℕ) → bytes ≡ front ++ back → IsBeginning Good text front → feeds_in front ≤ length before
  longest_is bytes before line more parts ends front back split begun = ⊎_elim too_long (λ (fits : feeds_in front ≤ length before). fits) (cases_lt (length before) (feeds_in front))
    where
      mine : whole_lines front ++ lines_after (rest_after [] front) back ≡ before ++ line ∷ more
      mine = sym (lines_joined front back) ∙ ap whole_lines (sym split) ∙ parts

      its : text begun.0 ≡ whole_lines front ++ lines_after (rest_after [] front) begun.1
      its = sym (lines_are (front ++ begun.1) begun.0 begun.2) ∙ lines_joined front begun.1

      too_long : length before < feeds_in front → feeds_in front ≤ length before
      too_long long =
          let rest = longer (whole_lines front) before (lines_after (rest_after [] front) back) line more mine (subst (λ (n : ℕ). length before < n) (feeds_are_lines front) long) in
          let goes_on : text begun.0 ≡ before ++ line ∷ (rest.0 ++ lines_after (rest_after [] front) begun.1) =
          its ∙ ap (λ (lines : Lines). lines ++ lines_after (rest_after [] front) begun.1) rest.1 ∙ append_assoc before (line ∷ rest.0) (lines_after (rest_after [] front) begun.1) in
          absurd (ends begun.0 (rest.0 ++ lines_after (rest_after [] front) begun.1) begun.2.0 goes_on)

  -- a front of the bytes has no more line feeds than there are lines
  at_most_all : (bytes front back : List ℕ) → bytes ≡ front ++ back → feeds_in front ≤ length (whole_lines bytes)
  at_most_all bytes front back split =
      let all = ap feeds_in split ∙ feeds_joined front back in
      let lines = feeds_are_lines bytes in
      omega arith

  -- the first fault, of the lines before it and what is left
  fault_is : (bytes : List ℕ) (before left after : Lines) (x : A) → Good x → whole_lines bytes ≡ before ++ left → text x ≡ before ++ after → ((line : List ℕ) (more : Lines) → left ≡ line ∷ more → EndsAt before line) → ((y : A) → IsTextOf Good text bytes y → ⊥) → IsFirstFault Good text bytes (line_at (whole_lines bytes) left)
  fault_is bytes before left after x good parts goes_on ends none = record {
    beginning = lines_text before;
    others = lines_text left ++ rest_after [] bytes;
    parts = whole bytes ∙ ap (λ (lines : Lines). lines_text lines ++ rest_after [] bytes) parts ∙ ap (λ (front : List ℕ). front ++ rest_after [] bytes) (text_joined before left) ∙ append_assoc (lines_text before) (lines_text left) (rest_after [] bytes);
    begins = (x, lines_text after, (good, ap lines_text goes_on ∙ text_joined before after));
    line_is = number;
    longest = longest left refl;
    none = none;
  }
    where
      plain : ArePlain before
      plain = all_front before left (subst ArePlain parts (lines_plain bytes))

      many : feeds_in (lines_text before) ≡ length before
      many = as_many before plain

      counted : length (whole_lines bytes) ≡ length before + length left
      counted = ap (λ (lines : Lines). length lines) parts ∙ length-append before left

      number : line_at (whole_lines bytes) left ≡ feeds_in (lines_text before) + 1
      number = omega (arith, many, counted)

      longest : (rest : Lines) → left ≡ rest → (front back : List ℕ) → bytes ≡ front ++ back → IsBeginning Good text front → feeds_in front + 1 ≤ line_at (whole_lines bytes) left
      longest [] is front back split begun =
          let most = at_most_all bytes front back split in
          let short = ap (λ (lines : Lines). length lines) is in
          omega (arith, many, counted)
      longest (line ∷ more) is front back split begun =
          let most = longest_is bytes before line more (parts ∙ ap (λ (rest : Lines). before ++ rest) is) (ends line more is) front back split begun in
          omega (arith, many, counted)

  -- lines that are read as a value, with nothing after them, are those of no other
  same_value : (bytes : List ℕ) (x : A) (left : Lines) (y : A) → read (whole_lines bytes) ≡ Ok (x, left) → IsTextOf Good text bytes y → (y ≡ x) × ([] ≡ left)
  same_value bytes x left y found is = ok_parts y x [] left (sym (read_all y is.0) ∙ ap read (sym (lines_are bytes y is)) ∙ found)

  -- nothing is read
  refused : (bytes : List ℕ) (left : Lines) → read (whole_lines bytes) ≡ Err left → IsFirstFault Good text bytes (line_at (whole_lines bytes) left)
  refused bytes left found = fault_is bytes f.before left f.after f.value f.good f.parts f.goes_on ends none
    where
      f : IsFault Good text read (whole_lines bytes) left
      f = format.fault (whole_lines bytes) left found

      ends : (line : List ℕ) (more : Lines) → left ≡ line ∷ more → EndsAt f.before line
      ends line more is y other good same = ok_err y [] (line ∷ other) (sym (read_all y good) ∙ ap read same ∙ f.stays line more other is)

      none : (y : A) → IsTextOf Good text bytes y → ⊥
      none y is = ok_err y [] left (sym (read_all y is.0) ∙ ap read (sym (lines_are bytes y is)) ∙ found)

  -- a value is read, but something stands after it
  not_all : (bytes : List ℕ) (x : A) (left : Lines) → read (whole_lines bytes) ≡ Ok (x, left) → ((y : A) → IsTextOf Good text bytes y → ⊥) → IsFirstFault Good text bytes (line_at (whole_lines bytes) left)
  not_all bytes x left found none = fault_is bytes (text x) left [] x known.0 known.1 (sym (append-nil (text x))) ends none
    where
      known : Good x × (whole_lines bytes ≡ text x ++ left) × Follows x (first_line left)
      known = format.sound (whole_lines bytes) left x found

      ends : (line : List ℕ) (more : Lines) → left ≡ line ∷ more → EndsAt (text x) line
      ends line more is y other good same =
          let follows : Follows x (Some line) = subst (λ (lines : Lines). Follows x (first_line lines)) is known.2 in
          let again = format.complete x (line ∷ other) known.0 follows in
          nil_cons line other (ok_parts y x [] (line ∷ other) (sym (read_all y good) ∙ ap read same ∙ again)).1

  all_read : (bytes : List ℕ) (x : A) → read (whole_lines bytes) ≡ Ok (x, []) → rest_after [] bytes ≡ [] → IsTextOf Good text bytes x
  all_read bytes x found is =
      let known = format.sound (whole_lines bytes) [] x found in
      let lines : text x ≡ whole_lines bytes = sym (known.1 ∙ append-nil (text x)) in
      let front : lines_text (whole_lines bytes) ≡ lines_text (whole_lines bytes) ++ rest_after [] bytes = sym (append-nil (lines_text (whole_lines bytes))) ∙ ap (λ (rest : List ℕ). lines_text (whole_lines bytes) ++ rest) (sym is) in
      (known.0, ap lines_text lines ∙ front ∙ sym (whole bytes))

  tells_of : (bytes : List ℕ) → Tells Good text bytes (read_bytes read bytes)
  unfolding read_bytes
  tells_of bytes = by_found (read (whole_lines bytes)) refl (rest_after [] bytes) refl
    where
      by_found : (found : Found A) → read (whole_lines bytes) ≡ found → (rest : List ℕ) → rest_after [] bytes ≡ rest → Tells Good text bytes (whole_of (whole_lines bytes) rest found)
      by_found (Err left) found rest is = refused bytes left found
      by_found (Ok (x, [])) found [] is = all_read bytes x found is
      by_found (Ok (x, [])) found (byte ∷ rest) is = not_all bytes x [] found (λ y of_y. nil_cons_bytes byte rest (sym (nothing_after bytes y of_y) ∙ is))
      by_found (Ok (x, line ∷ left)) found rest is = not_all bytes x (line ∷ left) found (λ y of_y. nil_cons line left (same_value bytes x (line ∷ left) y found of_y).1)

-- The bytes of a good value are read as it.
pub reads_back : {A : Type 0} {Good : A → Type 0} {text : A → Lines} {Follows : A → Option (List ℕ) → Type 0} {read : Lines → Found A} → IsFormat Good text Follows read → ((x : A) → Good x → Follows x None) → (bytes : List ℕ) (x : A) → IsTextOf Good text bytes x → read_bytes read bytes ≡ Ok x
reads_back {A} {Good} {text} {Follows} {read} format last = reads Good text Follows read format last

-- What is read of bytes is the value whose bytes they are, or the line of the first fault.
pub tells : {A : Type 0} {Good : A → Type 0} {text : A → Lines} {Follows : A → Option (List ℕ) → Type 0} {read : Lines → Found A} → IsFormat Good text Follows read → ((x : A) → Good x → Follows x None) → (bytes : List ℕ) → Tells Good text bytes (read_bytes read bytes)
tells {A} {Good} {text} {Follows} {read} format last = tells_of Good text Follows read format last
