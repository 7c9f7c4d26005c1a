-- The records of a plain text are the records that it was made of.
use Rattle.std.proofs.Common.{◌≡◌, ℕ, zero, suc, ◌+◌, ◌≤◌, List, [], ◌∷◌, ◌++◌, length, All, nat_lt, Bool, true, false, if◌then◌else◌, None, Ok, Err, refl, ap, arith, ◌∙◌, length-append}
use Rattle.std.specs.Str.{is_utf8}
use Rattle.std.proofs.lemmas.List.Elements.{All-tail}
use Rattle.csv.specs.Machine.{next_record}
use Rattle.csv.specs.Reading.{default_config, records, records_from, strip_bom}
use Rattle.csv.specs.Writing.{default_writer, is_blank, row_body, row_text}
use Rattle.csv.specs.declared.parser.State.TheVariants as st
use Rattle.csv.proofs.RoundTrip.{read-write}
use Rattle.pc_model.specs.declared.fault.Reason.TheVariants as reasons
use Rattle.pc_model.specs.Texts.{file_limit, text_of, without_mark}
use Rattle.pc_records.specs.Lines.{lines_text}

-- each line has a byte
line_length : (body blank : List ℕ) → 1 ≤ length (body ++ (blank ++ 10 ∷ []))
line_length body blank = omega (arith, length-append body (blank ++ 10 ∷ []), length-append blank (10 ∷ []))

row_length : (fields : List (List ℕ)) → 1 ≤ length (row_text default_writer fields)
row_length fields = line_length (row_body default_writer fields) (if is_blank default_writer fields then 34 ∷ 34 ∷ [] else [])

text_length : (lines : List (List (List ℕ))) → length lines ≤ length (lines_text lines)
unfolding lines_text
text_length [] = omega arith
text_length (fields ∷ rest) = omega (arith, text_length rest, row_length fields, length-append (row_text default_writer fields) (lines_text rest))

nothing_left : next_record default_config st.StartRecord [] [] [] ≡ None
unfolding next_record
nothing_left = refl

abbrev HaveFields : List (List (List ℕ)) → Type 0
HaveFields lines = All (λ (fields : List (List ℕ)). 1 ≤ length fields) lines

lines_again : (lines : List (List (List ℕ))) (fuel : ℕ) → HaveFields lines → length lines ≤ fuel → records_from default_config fuel st.StartRecord (lines_text lines) ≡ lines
unfolding records_from lines_text
lines_again [] zero some enough = refl
lines_again [] (suc fuel) some enough = rw nothing_left refl
lines_again (fields ∷ rest) zero some enough = absurd (omega arith)
lines_again ([] ∷ rest) (suc fuel) some enough = absurd (omega (arith, some 0 [] (omega arith)))
lines_again ((field ∷ fields) ∷ rest) (suc fuel) some enough =
    rw (read-write (field ∷ fields) (lines_text rest))
    (ap (λ (lines : List (List (List ℕ))). (field ∷ fields) ∷ lines) (lines_again rest fuel (All-tail (λ (fields : List (List ℕ)). 1 ≤ length fields) (field ∷ fields) rest some) (omega arith)))

-- both readers know the same mark
same_mark : (text : List ℕ) → strip_bom text ≡ without_mark text
unfolding strip_bom without_mark
same_mark [] = refl
same_mark (a ∷ []) = refl
same_mark (a ∷ b ∷ []) = refl
same_mark (a ∷ b ∷ c ∷ rest) = refl

unmarked : (text : List ℕ) → text_of text ≡ Ok text → without_mark text ≡ text
unfolding text_of
unmarked text e = by_tests (nat_lt file_limit (length text)) (is_utf8 text) e
  where
    by_tests : (long utf8 : Bool) → (if long then Err reasons.TooLong else if utf8 then Ok (without_mark text) else Err reasons.NotUtf8) ≡ Ok text → without_mark text ≡ text
    by_tests true utf8 same = cc
    by_tests false true same = cc
    by_tests false false same = cc

-- records of one field or more, in a text that is read as it stands
pub plain_records : (lines : List (List (List ℕ))) → HaveFields lines → text_of (lines_text lines) ≡ Ok (lines_text lines) → records default_config (strip_bom (lines_text lines)) ≡ lines
plain_records lines some is_text =
    let text = lines_text lines in
    let bare : strip_bom text ≡ text = same_mark text ∙ unmarked text is_text in
    let enough : length lines ≤ length text + 1 = omega (arith, text_length lines) in
    rw bare (lines_again lines (length text + 1) some enough)
