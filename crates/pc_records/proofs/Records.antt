-- The records of a text that a reader has begun: what one read takes from them.
use Rattle.std.proofs.Common.{◌≡◌, ◌<◌, ◌≤◌, ℕ, zero, suc, ◌+◌, List, [], ◌∷◌, ◌++◌, length, get_or, Option, Some, None, Bool, true, false, Bor, inl, inr, refl, sym, ap, ◌∙◌, ◌⊎◌, arith, add-one}
use Rattle.std.specs.Prelude.{IsSome, Result, Ok, if◌then◌else◌}
use Rattle.std.proofs.lemmas.Bool.{cases_Bool, false≢true}
use Rattle.csv.specs.Machine.{Read, ends_at_end, field_after, fields_after, is_end, next_record, step}
use Rattle.csv.specs.Reading.{Reached, ReadRecord, default_config, has_failed, reader_state, records_from, source_of}
use Rattle.csv.specs.Records.{field_at}
use Rattle.csv.specs.declared.error.Error.{Error}
use Rattle.csv.specs.declared.parser.State.{State}
use Rattle.csv.specs.declared.parser.State.TheVariants as st
use Rattle.csv.specs.declared.reader.Reader.{Reader}
use Rattle.csv.proofs.ReadFacts.{rows-end, rows-more}
use Rattle.pc_records.specs.Unread.{IsPlain, IsReading, known, records_at, unread}

-- a record that is read to its end leaves nothing for the end of the text to end
end_state : (s : State) (c : ℕ) → is_end (step default_config s c).1 ≡ true → ends_at_end (step default_config s c).0 ≡ false
end_state st.StartRecord c h = grind arith
end_state st.StartField c h = grind arith
end_state st.InField c h = grind arith
end_state st.InQuoted c h = grind arith
end_state st.AfterQuote c h = grind arith
end_state st.InEscape c h = grind arith
end_state st.InComment c h = grind arith
end_state st.AfterCr c h = grind arith

-- no more records are left than bytes, and one that the end of the text ends
unfoldable left_over : State → List ℕ → ℕ
left_over s xs = length xs + (if ends_at_end s then 1 else 0)

left_within : (s : State) (xs : List ℕ) → left_over s xs ≤ length xs + 1
unfolding left_over
left_within s xs = elim (cases_Bool (ends_at_end s)) [ inl e ↦ rw e (omega arith) | inr e ↦ rw e (omega arith) ]

left_least : (s : State) (xs : List ℕ) → length xs ≤ left_over s xs
unfolding left_over
left_least s xs = omega arith

left_at_start : (s : State) (xs : List ℕ) → ends_at_end s ≡ false → left_over s xs ≡ length xs
unfolding left_over
left_at_start s xs e = rw e (omega arith)

left_at_end : (s : State) (xs : List ℕ) → ends_at_end s ≡ true → left_over s xs ≡ length xs + 1
unfolding left_over
left_at_end s xs e = rw e refl

-- a read leaves less than there was
leaves_less : (s : State) (fields : List (List ℕ)) (field xs : List ℕ) (p : Read) → next_record default_config s fields field xs ≡ Some p → left_over p.1 p.2 < left_over s xs
unfolding next_record
leaves_less s fields field [] p h =
    elim (cases_Bool (ends_at_end s)) [
      | inl e ↦
          let q : Some (fields ++ (field ∷ []), st.StartRecord, []) ≡ Some p = rw e at h in
          let r : (fields ++ (field ∷ []), st.StartRecord, []) ≡ p = cc in
          rw (← r) (let a = left_at_start st.StartRecord [] refl in let b = left_at_end s [] e in omega arith)
      | inr e ↦ let q : None ≡ Some p = rw e at h in cc
    ]
leaves_less s fields field (c ∷ rest) p h =
    elim (cases_Bool (is_end (step default_config s c).1)) [
      | inl e ↦
          let q : Some (fields_after (step default_config s c).1 fields field, (step default_config s c).0, rest) ≡ Some p = rw e at h in
          let r : (fields_after (step default_config s c).1 fields field, (step default_config s c).0, rest) ≡ p = cc in
          rw (← r) (let a = left_at_start (step default_config s c).0 rest (end_state s c e) in let b = left_least s (c ∷ rest) in omega arith)
      | inr e ↦
          let q : next_record default_config (step default_config s c).0 (fields_after (step default_config s c).1 fields field) (field_after (step default_config s c).1 c field) rest ≡ Some p = rw e at h in
          let less = leaves_less (step default_config s c).0 (fields_after (step default_config s c).1 fields field) (field_after (step default_config s c).1 c field) rest p q in
          let a = left_within (step default_config s c).0 rest in
          let b = left_least s (c ∷ rest) in
          omega arith
    ]

-- a read from bytes that leave nothing finds nothing
none_left : (s : State) (xs : List ℕ) → left_over s xs ≤ 0 → next_record default_config s [] [] xs ≡ None
unfolding next_record
none_left s [] h =
    elim (cases_Bool (ends_at_end s)) [ inl e ↦ absurd (omega (arith, left_at_end s [] e)) | inr e ↦ rw e refl ]
none_left s (c ∷ rest) h = absurd (omega (arith, left_least s (c ∷ rest)))

found_or_not : (read : Option Read) → (read ≡ None) ⊎ ((p : Read) × (read ≡ Some p))
found_or_not None = inl refl
found_or_not (Some p) = inr (p, refl)

-- as many reads as may be left are enough
enough : (n m : ℕ) (s : State) (xs : List ℕ) → left_over s xs ≤ n → left_over s xs ≤ m → records_from default_config n s xs ≡ records_from default_config m s xs
unfolding records_from
enough zero zero s xs a b = refl
enough zero (suc m) s xs a b = rw (none_left s xs a) refl
enough (suc n) zero s xs a b = rw (none_left s xs b) refl
enough (suc n) (suc m) s xs a b =
    elim (found_or_not (next_record default_config s [] [] xs)) [
      | inl none ↦ rw none refl
      | inr found ↦
          let less = leaves_less s [] [] xs found.0 found.1 in
          rw found.1 (ap (λ (more : List (List (List ℕ))). found.0.0 ∷ more) (enough n m found.0.1 found.0.2 (omega arith) (omega arith)))
    ]

-- what is left begins with the record that the next read finds
first_left : (s : State) (xs : List ℕ) (p : Read) → next_record default_config s [] [] xs ≡ Some p → records_at s (Some xs) ≡ p.0 ∷ records_at p.1 (Some p.2)
unfolding records_from
first_left s xs p h =
    let less = leaves_less s [] [] xs p h in
    let a = left_within s xs in
    let b = left_within p.1 p.2 in
    rw (add-one (length xs), h) (ap (λ (more : List (List (List ℕ))). p.0 ∷ more) (enough (length xs) (length p.2 + 1) p.1 p.2 (omega arith) (omega arith)))

nothing_left : (s : State) (xs : List ℕ) → next_record default_config s [] [] xs ≡ None → records_at s (Some xs) ≡ []
unfolding records_from
nothing_left s xs h = rw (add-one (length xs), h) refl

reached_none : (s : State) (xs : List ℕ) → Reached default_config s xs [] s xs
unfolding Reached
reached_none s xs = (refl, refl)

reached_one : (s s2 : State) (xs ys : List ℕ) (fields : List (List ℕ)) → Reached default_config s xs (fields ∷ []) s2 ys → records_at s (Some xs) ≡ fields ∷ records_at s2 (Some ys)
unfolding Reached
reached_one s s2 xs ys fields h = rw (h.2, ← h.3.0, ← h.3.1) (first_left s xs h.0 h.1)

bytes_of : (source : Option (List ℕ)) → IsSome source → (bytes : List ℕ) × (source ≡ Some bytes)
bytes_of None h = absurd (false≢true h)
bytes_of (Some bytes) h = (bytes, refl)

-- a record that was read was the first of those left
pub takes_one : (old new : Reader (Bor (List ℕ))) (fields : List (List ℕ)) → IsPlain old → ReadRecord known old new true fields → unread old ≡ fields ∷ unread new
takes_one old new fields plain read =
    let before = bytes_of (source_of known old) plain.in_memory in
    let after = rows-more known old new fields default_config (reader_state old) before.0 before.0 [] plain.by_default before.1 (reached_none (reader_state old) before.0) read in
    ap (records_at (reader_state old)) before.1
    ∙ reached_one (reader_state old) (reader_state new) before.0 after.0 fields after.2
    ∙ ap (λ (source : Option (List ℕ)). fields ∷ records_at (reader_state new) source) (sym after.1)

-- a read that found none was of a text without more
pub takes_none : (old new : Reader (Bor (List ℕ))) (fields : List (List ℕ)) → IsPlain old → ReadRecord known old new false fields → unread old ≡ []
takes_none old new fields plain read =
    let before = bytes_of (source_of known old) plain.in_memory in
    ap (records_at (reader_state old)) before.1
    ∙ nothing_left (reader_state old) before.0 (rows-end known old new fields default_config before.0 plain.by_default before.1 read)

-- the same of a reader that may have failed, which then finds no record
pub found_first : (old new : Reader (Bor (List ℕ))) (fields : List (List ℕ)) (found : Bool) → IsReading old → (IsPlain old → ReadRecord known old new found fields) → (has_failed old ≡ true → ◌≡◌ {A = Result Bool Error} (Ok found) (Ok false)) → found ≡ true → unread old ≡ fields ∷ unread new
found_first old new fields false reading read failed e = cc
found_first old new fields true reading read failed e =
    elim (cases_Bool (has_failed old)) [
      | inl stopped ↦ let none : ◌≡◌ {A = Result Bool Error} (Ok true) (Ok false) = failed stopped in cc
      | inr goes_on ↦ takes_one old new fields (reading goes_on) (read (reading goes_on))
    ]

pub found_none : (old new : Reader (Bor (List ℕ))) (fields : List (List ℕ)) (found : Bool) → IsReading old → (IsPlain old → ReadRecord known old new found fields) → found ≡ false → unread old ≡ []
found_none old new fields true reading read e = cc
found_none old new fields false reading read e =
    elim (cases_Bool (has_failed old)) [
      | inl stopped ↦ rw stopped refl
      | inr goes_on ↦ takes_none old new fields (reading goes_on) (read (reading goes_on))
    ]

pub field_found : (fields : List (List ℕ)) (place : ℕ) (field : List ℕ) → Some field ≡ field_at fields place → field ≡ get_or fields place []
unfolding field_at
field_found [] place field h = cc
field_found (first ∷ fields) zero field h = cc
field_found (first ∷ fields) (suc place) field h = field_found fields place field h

pub field_missing : (fields : List (List ℕ)) (place : ℕ) → None ≡ field_at fields place → [] ≡ get_or fields place []
unfolding field_at
field_missing [] place h = refl
field_missing (first ∷ fields) zero h = cc
field_missing (first ∷ fields) (suc place) h = field_missing fields place h
