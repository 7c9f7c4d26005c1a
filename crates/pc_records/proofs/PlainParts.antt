-- A text without quotes has a record for each line that is not empty.
use Rattle.std.proofs.Common.{◌≡◌, ◌∙◌, ℕ, zero, suc, ◌+◌, ◌≤◌, ◌==◌, ◌⊎◌, Bool, true, false, List, [], ◌∷◌, ◌++◌, length, map, Some, inl, inr, refl, ap, arith, append_assoc}
use Rattle.std.specs.List.{slice_split, filter}
use Rattle.std.proofs.lemmas.Bool.{cases_Bool, eqb-true, or_parts}
use Rattle.std.proofs.lemmas.List.{append-nil}
use Rattle.std.proofs.lemmas.List.Elements.{All-head, All-tail}
use Rattle.std.proofs.lemmas.List.Splits.{slice_split-cons_no, slice_split-cons_yes}
use Rattle.csv.specs.Machine.{after_end, next_record}
use Rattle.csv.specs.Reading.{default_config, records, records_from, records_next}
use Rattle.csv.specs.declared.parser.State.TheVariants as st
use Rattle.csv.specs.declared.parser.Terminator.TheVariants as term
use Rattle.csv.proofs.RoundTrip.{record-same, start-same}
use Rattle.pc_records.specs.Plain.{HasNoQuote, ends_line, filled_parts, is_filled, split_at_commas}

abbrev parts : List ℕ → List (List ℕ)
parts text = slice_split ends_line text

-- a split has a first part
module _ (p : ℕ → Bool) where
  pub first_part : (text : List ℕ) → (first : List ℕ) × (more : List (List ℕ)) × (slice_split p text ≡ first ∷ more)
  first_part [] = ([], [], refl)
  first_part (byte ∷ rest) =
      elim (cases_Bool (p byte)) [
        | inl ends ↦ ([], slice_split p rest, slice_split-cons_yes p byte rest ends)
        | inr other ↦
            let found = first_part rest in
            (byte ∷ found.0, found.1, slice_split-cons_no p byte rest other ∙ rw found.2 refl)
      ]

-- the fields of a line of which a first field was begun
abbrev begun : List ℕ → List (List ℕ) → List (List ℕ)
begun field [] = field ∷ []
begun field (first ∷ more) = (field ++ first) ∷ more

-- the records of a text in mid-line, after some fields and what was begun of the next
abbrev rest_of : List (List ℕ) → List ℕ → List (List ℕ) → List (List (List ℕ))
rest_of fields field [] = (fields ++ (field ∷ [])) ∷ []
rest_of fields field (line ∷ more) = (fields ++ begun field (split_at_commas line)) ∷ map split_at_commas (filter is_filled more)

-- the records of a text from the start of a line on
abbrev FromStart : List ℕ → Type 0
FromStart text = (fuel : ℕ) → length text ≤ fuel → records_from default_config fuel st.StartRecord text ≡ map split_at_commas (filled_parts text)

-- .. and from within one
abbrev FromWithin : List ℕ → Type 0
FromWithin text = (fields : List (List ℕ)) (field : List ℕ) (fuel : ℕ) → length text ≤ fuel + 1 → records_next (records_from default_config fuel) (next_record default_config st.InField fields field text) ≡ rest_of fields field (parts text)

-- an LF after a CR, as one at the start of a line, is passed over
after_return : (fields : List (List ℕ)) (field text : List ℕ) → next_record default_config st.AfterCr fields field text ≡ next_record default_config st.StartRecord fields field text
unfolding next_record
after_return fields field [] = refl
after_return fields field (byte ∷ rest) =
    elim (cases_Bool (byte == 10)) [
      | inl feed ↦ rw (eqb-true byte 10 feed) refl
      | inr other ↦ rw other refl
    ]

after_any_end : (byte fuel : ℕ) (text : List ℕ) → records_from default_config fuel (after_end term.CRLF byte) text ≡ records_from default_config fuel st.StartRecord text
unfolding records_from
after_any_end byte zero text = refl
after_any_end byte (suc fuel) text =
    elim (cases_Bool (byte == 13)) [
      | inl return ↦ rw (return, after_return [] [] text) refl
      | inr other ↦ rw other refl
    ]

field_starts : (fields : List (List ℕ)) (text : List ℕ) → HasNoQuote text → next_record default_config st.StartField fields [] text ≡ next_record default_config st.InField fields [] text
unfolding next_record
field_starts fields [] free = refl
field_starts fields (byte ∷ rest) free = start-same fields [] byte rest (All-head (λ byte. (byte == 34) ≡ false) byte rest free)

which_end : (byte : ℕ) → ends_line byte ≡ true → (byte ≡ 13) ⊎ (byte ≡ 10)
which_end byte ends =
    elim (cases_Bool (byte == 13)) [
      | inl return ↦ inl (eqb-true byte 13 return)
      | inr other ↦ inr (eqb-true byte 10 (rw other at ends))
    ]

-- the steps of the machine in mid-line
step_end : (fields : List (List ℕ)) (field : List ℕ) (byte : ℕ) (rest : List ℕ) → ends_line byte ≡ true → next_record default_config st.InField fields field (byte ∷ rest) ≡ Some (fields ++ (field ∷ []), after_end term.CRLF byte, rest)
unfolding next_record
step_end fields field byte rest ends =
    elim (which_end byte ends) [ inl return ↦ rw return refl | inr feed ↦ rw feed refl ]

step_other : (fields : List (List ℕ)) (field : List ℕ) (byte : ℕ) (rest : List ℕ) → ends_line byte ≡ false → (byte == 44) ≡ false → next_record default_config st.InField fields field (byte ∷ rest) ≡ next_record default_config st.InField fields (field ++ (byte ∷ [])) rest
unfolding next_record
step_other fields field byte rest inner other =
    let none = or_parts (byte == 13) (byte == 10) inner in
    rw (other, none.0, none.1) refl

step_comma : (fields : List (List ℕ)) (field rest : List ℕ) → next_record default_config st.InField fields field (44 ∷ rest) ≡ next_record default_config st.StartField (fields ++ (field ∷ [])) [] rest
unfolding next_record
step_comma fields field rest = refl

start_end : (byte : ℕ) (rest : List ℕ) → ends_line byte ≡ true → next_record default_config st.StartRecord [] [] (byte ∷ rest) ≡ next_record default_config st.StartRecord [] [] rest
unfolding next_record
start_end byte rest ends =
    elim (which_end byte ends) [ inl return ↦ rw return refl | inr feed ↦ rw feed refl ]

-- a comma, and any other byte, before the parts of what follows
comma_before : (fields : List (List ℕ)) (field rest : List ℕ) → rest_of (fields ++ (field ∷ [])) [] (parts rest) ≡ rest_of fields field (parts (44 ∷ rest))
comma_before fields field rest =
    let found = first_part ends_line rest in
    let cells = first_part (λ byte. byte == 44) found.0 in
    rw (found.2, cells.2, append-nil field) (ap (λ (line : List (List ℕ)). line ∷ map split_at_commas (filter is_filled found.1)) (append_assoc fields (field ∷ []) (cells.0 ∷ cells.1)))

other_before : (fields : List (List ℕ)) (field : List ℕ) (byte : ℕ) (rest : List ℕ) → ends_line byte ≡ false → (byte == 44) ≡ false → rest_of fields (field ++ (byte ∷ [])) (parts rest) ≡ rest_of fields field (parts (byte ∷ rest))
other_before fields field byte rest inner other =
    let found = first_part ends_line rest in
    let cells = first_part (λ byte. byte == 44) found.0 in
    rw (slice_split-cons_no ends_line byte rest inner, found.2, slice_split-cons_no (λ byte. byte == 44) byte found.0 other, cells.2, append_assoc field (byte ∷ []) cells.0) refl

within_step : (byte : ℕ) (rest : List ℕ) → HasNoQuote rest → FromStart rest → FromWithin rest → FromWithin (byte ∷ rest)
within_step byte rest free start within fields field fuel enough =
    elim (cases_Bool (ends_line byte)) [
      | inl ends ↦
          rw (step_end fields field byte rest ends, slice_split-cons_yes ends_line byte rest ends, after_any_end byte fuel rest, start fuel (omega arith), append-nil field) refl
      | inr inner ↦
          elim (cases_Bool (byte == 44)) [
            | inl comma ↦
                rw (eqb-true byte 44 comma, step_comma fields field rest, field_starts (fields ++ (field ∷ [])) rest free, within (fields ++ (field ∷ [])) [] fuel (omega arith))
                (comma_before fields field rest)
            | inr other ↦
                rw (step_other fields field byte rest inner other, within fields (field ++ (byte ∷ [])) fuel (omega arith))
                (other_before fields field byte rest inner other)
          ]
    ]

whole_line : (line : List ℕ) → begun [] (split_at_commas line) ≡ split_at_commas line
whole_line line = let cells = first_part (λ byte. byte == 44) line in rw cells.2 refl

start_step : (byte : ℕ) (rest : List ℕ) → (byte == 34) ≡ false → FromStart rest → FromWithin (byte ∷ rest) → FromStart (byte ∷ rest)
unfolding records_from
start_step byte rest unquoted start within zero enough = absurd (omega arith)
start_step byte rest unquoted start within (suc fuel) enough =
    elim (cases_Bool (ends_line byte)) [
      | inl ends ↦
          rw (start_end byte rest ends, slice_split-cons_yes ends_line byte rest ends) (start (suc fuel) (omega arith))
      | inr inner ↦
          let none = or_parts (byte == 13) (byte == 10) inner in
          let found = first_part ends_line rest in
          rw (record-same [] [] byte rest none.0 none.1, start-same [] [] byte rest unquoted, within [] [] fuel (omega arith), slice_split-cons_no ends_line byte rest inner, found.2, whole_line (byte ∷ found.0)) refl
    ]

start_nothing : FromStart []
unfolding records_from next_record
start_nothing zero enough = refl
start_nothing (suc fuel) enough = refl

within_nothing : FromWithin []
unfolding records_from next_record
within_nothing fields field zero enough = rw (append-nil field) refl
within_nothing fields field (suc fuel) enough = rw (append-nil field) refl

all_records : (text : List ℕ) → HasNoQuote text → FromStart text × FromWithin text
all_records [] free = (start_nothing, within_nothing)
all_records (byte ∷ rest) free =
    let tail = All-tail (λ byte. (byte == 34) ≡ false) byte rest free in
    let more = all_records rest tail in
    let within = within_step byte rest tail more.0 more.1 in
    (start_step byte rest (All-head (λ byte. (byte == 34) ≡ false) byte rest free) more.0 within, within)

pub records_of_parts : (text : List ℕ) → HasNoQuote text → records default_config text ≡ map split_at_commas (filled_parts text)
records_of_parts text free = (all_records text free).0 (length text + 1) (omega arith)
