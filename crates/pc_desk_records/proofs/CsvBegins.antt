-- The record that csv reads is the one that begins where it is sought.
use Rattle.std.proofs.Common.{◌≡◌, ◌⊎◌, ℕ, zero, suc, ◌+◌, ◌-◌, ◌≤◌, ◌==◌, ◌&&◌, ◌||◌, Bool, true, false, List, [], ◌∷◌, ◌++◌, length, drop, inl, inr, refl, sym, ap, ◌∙◌, arith}
use Rattle.std.specs.Prelude.{MatchOption, Option, Some, None, if◌then◌else◌}
use Rattle.std.proofs.lemmas.Bool.{cases_Bool, eqb-true}
use Rattle.csv.specs.Machine.{Read, after_end, next_record}
use Rattle.csv.specs.Reading.{default_config, records, records_from, records_next}
use Rattle.csv.specs.declared.parser.State.{State}
use Rattle.csv.specs.declared.parser.State.TheVariants as st
use Rattle.csv.specs.declared.parser.Terminator.TheVariants as term
use Rattle.pc_desk_records.specs.declared.begin.Stance.{Stance}
use Rattle.pc_desk_records.specs.declared.begin.Stance.TheVariants as stances
use Rattle.pc_desk_records.specs.declared.begin.Passage.{Passage}
use Rattle.pc_desk_records.specs.Beginnings.{begin_from, begin_of, begins, is_there, nth, passed, stance_after}

abbrev Records : Type 0
Records = List (List (List ℕ))

abbrev ends_line : ℕ → Bool
ends_line byte = (byte == 13) || (byte == 10)

abbrev passage : Stance → ℕ → Passage
passage stance left = record { stance = stance; left = left }

-- what stands from the sought record on
unfoldable rest_from : Passage → List ℕ → Option (List ℕ)
rest_from way [] = None
rest_from way (byte ∷ rest) = if is_there way byte then Some (byte ∷ rest) else rest_from (passed way byte) rest

abbrev first_of : Option (List ℕ) → Option (List (List ℕ))
first_of None = None
first_of (Some rest) = nth 0 (records default_config rest)

-- ---- lists

nth_none : (left : ℕ) → ◌≡◌ {A = Option (List (List ℕ))} (nth left []) None
unfolding nth
nth_none left = refl

nth_next : (left : ℕ) (list : Records) → nth (suc left) list ≡ nth left (drop 1 list)
unfolding nth
nth_next left [] = refl
nth_next left (x ∷ rest) = refl

first_same : (more less : State → List ℕ → Records) (read : Option Read) → nth 0 (records_next more read) ≡ nth 0 (records_next less read)
unfolding nth
first_same more less None = refl
first_same more less (Some read) = refl

first_any : (n m : ℕ) (s : State) (text : List ℕ) → nth 0 (records_from default_config (suc n) s text) ≡ nth 0 (records_from default_config (suc m) s text)
unfolding records_from
first_any n m s text = first_same (records_from default_config n) (records_from default_config m) (next_record default_config s [] [] text)

-- ---- ends of lines

which_end : (byte : ℕ) → ends_line byte ≡ true → (byte ≡ 13) ⊎ (byte ≡ 10)
which_end byte ends =
    elim (cases_Bool (byte == 13)) [
      | inl return ↦ inl (eqb-true byte 13 return)
      | inr other ↦ inr (eqb-true byte 10 (rw other at ends))
    ]

after_return : (fields : List (List ℕ)) (field text : List ℕ) → next_record default_config st.AfterCr fields field text ≡ next_record default_config st.StartRecord fields field text
unfolding next_record
after_return fields field [] = refl
after_return fields field (byte ∷ rest) =
    elim (cases_Bool (byte == 10)) [
      | inl feed ↦ rw (eqb-true byte 10 feed) refl
      | inr other ↦ rw other refl
    ]

after_any_end : (byte fuel : ℕ) (text : List ℕ) → records_from default_config fuel (after_end term.CRLF byte) text ≡ records_from default_config fuel st.StartRecord text
unfolding records_from
after_any_end byte zero text = refl
after_any_end byte (suc fuel) text =
    elim (cases_Bool (byte == 13)) [
      | inl return ↦ rw (return, after_return [] [] text) refl
      | inr other ↦ rw other refl
    ]

start_end : (byte : ℕ) (rest : List ℕ) → ends_line byte ≡ true → next_record default_config st.StartRecord [] [] (byte ∷ rest) ≡ next_record default_config st.StartRecord [] [] rest
unfolding next_record
start_end byte rest ends =
    elim (which_end byte ends) [ inl return ↦ rw return refl | inr feed ↦ rw feed refl ]

-- ---- what holds from a state on

-- of the records from the start of one on
abbrev FromStart : List ℕ → Type 0
FromStart text = (fuel left : ℕ) → length text ≤ fuel → nth left (records_from default_config fuel st.StartRecord text) ≡ first_of (rest_from (passage stances.Between left) text)

-- .. and of those behind one that was begun
abbrev FromWithin : State → Stance → List ℕ → Type 0
FromWithin s stance text = (fields : List (List ℕ)) (field : List ℕ) (fuel left : ℕ) → length text ≤ fuel + 1
    → nth left (drop 1 (records_next (records_from default_config fuel) (next_record default_config s fields field text))) ≡ first_of (rest_from (passage stance left) text)

record Reads (text : List ℕ) : Type 0 where
  start : FromStart text
  opening : FromWithin st.StartField stances.Opening text
  plain : FromWithin st.InField stances.Plain text
  quoted : FromWithin st.InQuoted stances.Quoted text
  quote : FromWithin st.AfterQuote stances.Quote text

no_both : (test : Bool) → (test && false) ≡ false
no_both true = refl
no_both false = refl

-- a byte within a record leads on
goes_on : (stance : Stance) (left byte : ℕ) (rest : List ℕ) → begins stance byte ≡ false → rest_from (passage stance left) (byte ∷ rest) ≡ rest_from (passage (stance_after stance byte) left) rest
unfolding rest_from
goes_on stance left byte rest within = rw (within, no_both (left == 0)) refl

start_none : (fuel : ℕ) → records_from default_config fuel st.StartRecord [] ≡ []
unfolding records_from next_record
start_none zero = refl
start_none (suc fuel) = refl

module _ (text : List ℕ) (below : Reads text) where
  -- the byte that ends a record
  at_end : (s : State) (stance : Stance) (byte : ℕ) → ends_line byte ≡ true → begins stance byte ≡ false → stance_after stance byte ≡ stances.Between
      → ((fields : List (List ℕ)) (field : List ℕ) → next_record default_config s fields field (byte ∷ text) ≡ Some (fields ++ (field ∷ []), after_end term.CRLF byte, text))
      → FromWithin s stance (byte ∷ text)
  at_end s stance byte ends within between reads fields field fuel left long =
      rw (reads fields field, after_any_end byte fuel text, goes_on stance left byte text within, between)
      (below.start fuel left (omega (arith, long)))

  -- .. and one that leads to another state
  leads : (s next : State) (stance : Stance) (byte : ℕ) (fields_then : List (List ℕ) → List ℕ → List (List ℕ)) (field_then : List ℕ → List ℕ) → begins stance byte ≡ false
      → FromWithin next (stance_after stance byte) text
      → ((fields : List (List ℕ)) (field : List ℕ) → next_record default_config s fields field (byte ∷ text) ≡ next_record default_config next (fields_then fields field) (field_then field) text)
      → FromWithin s stance (byte ∷ text)
  leads s next stance byte fields_then field_then within more reads fields field fuel left long =
      rw (reads fields field, goes_on stance left byte text within)
      (more (fields_then fields field) (field_then field) fuel left (omega (arith, long)))

  -- an empty line is passed over
  start_at_end : (byte : ℕ) → ends_line byte ≡ true → begins stances.Between byte ≡ false → stance_after stances.Between byte ≡ stances.Between → FromStart (byte ∷ text)
  unfolding records_from
  start_at_end byte ends none between zero left long = absurd (omega (arith, long))
  start_at_end byte ends none between (suc fuel) left long =
      rw (start_end byte text ends, goes_on stances.Between left byte text none, between)
      (below.start (suc fuel) left (omega (arith, long)))

  behind_first : (next : State) (byte : ℕ) (fields : List (List ℕ)) (field : List ℕ)
      → FromWithin next (stance_after stances.Between byte) text
      → next_record default_config st.StartRecord [] [] (byte ∷ text) ≡ next_record default_config next fields field text
      → (fuel left : ℕ) → length (byte ∷ text) ≤ suc fuel
      → nth left (drop 1 (records_from default_config (suc fuel) st.StartRecord (byte ∷ text))) ≡ first_of (rest_from (passage (stance_after stances.Between byte) left) text)
  unfolding records_from
  behind_first next byte fields field more reads fuel left long = rw reads (more fields field fuel left (omega (arith, long)))

  -- a record begins
  start_at_first : (next : State) (byte : ℕ) (fields : List (List ℕ)) (field : List ℕ) → begins stances.Between byte ≡ true
      → FromWithin next (stance_after stances.Between byte) text
      → next_record default_config st.StartRecord [] [] (byte ∷ text) ≡ next_record default_config next fields field text
      → FromStart (byte ∷ text)
  unfolding rest_from
  start_at_first next byte fields field first more reads zero left long = absurd (omega (arith, long))
  start_at_first next byte fields field first more reads (suc fuel) zero long =
      let one : length (byte ∷ text) + 1 ≡ suc (length (byte ∷ text)) = omega arith in
      rw (first, one) (first_any fuel (length (byte ∷ text)) st.StartRecord (byte ∷ text))
  start_at_first next byte fields field first more reads (suc fuel) (suc left) long =
      let later : (suc left == 0) ≡ false = grind arith in
      let less : suc left - 1 ≡ left = omega arith in
      rw (nth_next left (records_from default_config (suc fuel) st.StartRecord (byte ∷ text)), later, first, less)
      (behind_first next byte fields field more reads fuel left long)

  -- ---- each byte

  at_quote : Reads (34 ∷ text)
  unfolding next_record
  at_quote = record {
    start = start_at_first st.InQuoted 34 [] [] refl below.quoted refl;
    opening = leads st.StartField st.InQuoted stances.Opening 34 (λ fields field. fields) (λ field. field) refl below.quoted (λ fields field. refl);
    plain = leads st.InField st.InField stances.Plain 34 (λ fields field. fields) (λ field. field ++ (34 ∷ [])) refl below.plain (λ fields field. refl);
    quoted = leads st.InQuoted st.AfterQuote stances.Quoted 34 (λ fields field. fields) (λ field. field) refl below.quote (λ fields field. refl);
    quote = leads st.AfterQuote st.InQuoted stances.Quote 34 (λ fields field. fields) (λ field. field ++ (34 ∷ [])) refl below.quoted (λ fields field. refl);
  }

  at_comma : Reads (44 ∷ text)
  unfolding next_record
  at_comma = record {
    start = start_at_first st.StartField 44 ([] ∷ []) [] refl below.opening refl;
    opening = leads st.StartField st.StartField stances.Opening 44 (λ fields field. fields ++ (field ∷ [])) (λ field. []) refl below.opening (λ fields field. refl);
    plain = leads st.InField st.StartField stances.Plain 44 (λ fields field. fields ++ (field ∷ [])) (λ field. []) refl below.opening (λ fields field. refl);
    quoted = leads st.InQuoted st.InQuoted stances.Quoted 44 (λ fields field. fields) (λ field. field ++ (44 ∷ [])) refl below.quoted (λ fields field. refl);
    quote = leads st.AfterQuote st.StartField stances.Quote 44 (λ fields field. fields ++ (field ∷ [])) (λ field. []) refl below.opening (λ fields field. refl);
  }

  at_return : Reads (13 ∷ text)
  unfolding next_record
  at_return = record {
    start = start_at_end 13 refl refl refl;
    opening = at_end st.StartField stances.Opening 13 refl refl refl (λ fields field. refl);
    plain = at_end st.InField stances.Plain 13 refl refl refl (λ fields field. refl);
    quoted = leads st.InQuoted st.InQuoted stances.Quoted 13 (λ fields field. fields) (λ field. field ++ (13 ∷ [])) refl below.quoted (λ fields field. refl);
    quote = at_end st.AfterQuote stances.Quote 13 refl refl refl (λ fields field. refl);
  }

  at_feed : Reads (10 ∷ text)
  unfolding next_record
  at_feed = record {
    start = start_at_end 10 refl refl refl;
    opening = at_end st.StartField stances.Opening 10 refl refl refl (λ fields field. refl);
    plain = at_end st.InField stances.Plain 10 refl refl refl (λ fields field. refl);
    quoted = leads st.InQuoted st.InQuoted stances.Quoted 10 (λ fields field. fields) (λ field. field ++ (10 ∷ [])) refl below.quoted (λ fields field. refl);
    quote = at_end st.AfterQuote stances.Quote 10 refl refl refl (λ fields field. refl);
  }

  module _ (byte : ℕ) (no_quote : (byte == 34) ≡ false) (no_comma : (byte == 44) ≡ false) (no_return : (byte == 13) ≡ false) (no_feed : (byte == 10) ≡ false) where
    plain_after : stance_after stances.Opening byte ≡ stances.Plain
    plain_after = rw (no_quote, no_comma, no_return, no_feed) refl

    at_other : Reads (byte ∷ text)
    unfolding next_record
    at_other = record {
      start = start_at_first st.InField byte [] (byte ∷ []) (rw (no_return, no_feed) refl) (rw plain_after below.plain) (rw (no_quote, no_comma, no_return, no_feed) refl);
      opening = leads st.StartField st.InField stances.Opening byte (λ fields field. fields) (λ field. field ++ (byte ∷ [])) refl (rw plain_after below.plain) (λ fields field. rw (no_quote, no_comma, no_return, no_feed) refl);
      plain = leads st.InField st.InField stances.Plain byte (λ fields field. fields) (λ field. field ++ (byte ∷ [])) refl (rw (no_comma, no_return, no_feed) below.plain) (λ fields field. rw (no_comma, no_return, no_feed) refl);
      quoted = leads st.InQuoted st.InQuoted stances.Quoted byte (λ fields field. fields) (λ field. field ++ (byte ∷ [])) refl (rw no_quote below.quoted) (λ fields field. rw no_quote refl);
      quote = leads st.AfterQuote st.InField stances.Quote byte (λ fields field. fields) (λ field. field ++ (byte ∷ [])) refl (rw plain_after below.plain) (λ fields field. rw (no_quote, no_comma, no_return, no_feed) refl);
    }

at_nothing : Reads []
unfolding next_record rest_from
at_nothing = record {
  start = λ fuel left long. rw (start_none fuel, nth_none left) refl;
  opening = λ fields field fuel left long. rw (start_none fuel, nth_none left) refl;
  plain = λ fields field fuel left long. rw (start_none fuel, nth_none left) refl;
  quoted = λ fields field fuel left long. rw (start_none fuel, nth_none left) refl;
  quote = λ fields field fuel left long. rw (start_none fuel, nth_none left) refl;
}

at_byte : (byte : ℕ) (text : List ℕ) → Reads text → Reads (byte ∷ text)
at_byte byte text below =
    elim (cases_Bool (byte == 34)) [
      | inl quote ↦ rw (eqb-true byte 34 quote) (at_quote text below)
      | inr no_quote ↦ elim (cases_Bool (byte == 44)) [
        | inl comma ↦ rw (eqb-true byte 44 comma) (at_comma text below)
        | inr no_comma ↦ elim (cases_Bool (byte == 13)) [
          | inl return ↦ rw (eqb-true byte 13 return) (at_return text below)
          | inr no_return ↦ elim (cases_Bool (byte == 10)) [
            | inl feed ↦ rw (eqb-true byte 10 feed) (at_feed text below)
            | inr no_feed ↦ at_other text below byte no_quote no_comma no_return no_feed
          ]
        ]
      ]
    ]

all_read : (text : List ℕ) → Reads text
all_read [] = at_nothing
all_read (byte ∷ text) = at_byte byte text (all_read text)

-- ---- the place

drop_next : (at : ℕ) (text : List ℕ) → drop (at + 1) text ≡ drop 1 (drop at text)
drop_next zero text = refl
drop_next (suc at) [] = let e : suc at + 1 ≡ suc (at + 1) = omega arith in rw e refl
drop_next (suc at) (byte ∷ text) = let e : suc at + 1 ≡ suc (at + 1) = omega arith in rw e (drop_next at text)

placed : (whole : List ℕ) (way : Passage) (at : ℕ) (text : List ℕ) → drop at whole ≡ text → MatchOption (begin_from way at text) (rest_from way text ≡ None) (λ place. rest_from way text ≡ Some (drop place whole))
unfolding begin_from rest_from
placed whole way at [] left = refl
placed whole way at (byte ∷ rest) left =
    elim (cases_Bool (is_there way byte)) [
      | inl there ↦ rw there (ap (λ text. Some text) (sym left))
      | inr other ↦ rw other (placed whole (passed way byte) (at + 1) rest (drop_next at whole ∙ ap (λ text. drop 1 text) left))
    ]

record_there : (before : ℕ) (text : List ℕ) (rest : Option (List ℕ)) (found : Option ℕ) → nth before (records default_config text) ≡ first_of rest → MatchOption found (rest ≡ None) (λ place. rest ≡ Some (drop place text))
    → MatchOption found (nth before (records default_config text) ≡ None) (λ place. nth before (records default_config text) ≡ nth 0 (records default_config (drop place text)))
record_there before text rest None is none = is ∙ ap first_of none
record_there before text rest (Some place) is some = is ∙ ap first_of some

pub records_begin : (before : ℕ) (text : List ℕ) → MatchOption (begin_of before text) (nth before (records default_config text) ≡ None) (λ place. nth before (records default_config text) ≡ nth 0 (records default_config (drop place text)))
unfolding begin_of
records_begin before text =
    record_there before text (rest_from (passage stances.Between before) text) (begin_from (passage stances.Between before) 0 text)
    ((all_read text).start (length text + 1) before (omega arith))
    (placed text (passage stances.Between before) 0 text refl)

pub ruleset laws = (records_begin)
