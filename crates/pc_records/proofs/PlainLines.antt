-- The lines of a text in which no CR stands alone are what stands between its CRs and LFs.
use Rattle.std.proofs.Common.{◌≡◌, ◌∙◌, ℕ, suc, ◌+◌, ◌-◌, ◌==◌, Bool, false, List, [], ◌∷◌, length, get_or, map, inl, inr, refl, sym, ap, arith, add-one}
use Rattle.std.specs.List.{filter, onto_first, slice_index, slice_split}
use Rattle.std.specs.Str.Lines.{lines_of_parts, strip_carriage_return}
use Rattle.std.proofs.lemmas.Bool.{cases_Bool, eqb-true, ne_eqb}
use Rattle.std.proofs.lemmas.List.Splits.{slice_split-cons_no}
use Rattle.csv.specs.Reading.{default_config, records}
use Rattle.pc_records.specs.Plain.{HasPlainLines, ends_line, is_filled, plain_lines, split_at_commas}
use Rattle.pc_records.proofs.PlainParts.{first_part, records_of_parts}

abbrev ends_in_feed : ℕ → Bool
ends_in_feed byte = byte == 10

-- the first line of a text that is cut at its LFs
abbrev first_line : List ℕ → List (List ℕ) → List ℕ
first_line first [] = first
first_line first (next ∷ more) = strip_carriage_return first

-- the lines, where the first one may be empty, are the parts
abbrev Agree : List (List ℕ) → List (List ℕ) → Type 0
Agree [] parts = ⊥
Agree (first ∷ more) [] = ⊥
Agree (first ∷ more) (part ∷ parts) = (first_line first more ≡ part) × (filter is_filled (lines_of_parts more) ≡ filter is_filled parts)

-- a filled line keeps its bytes but for a CR at its end
stripped_nothing : strip_carriage_return [] ≡ []
stripped_nothing = refl

stripped_return : strip_carriage_return (13 ∷ []) ≡ []
stripped_return = refl

stripped_more : (byte : ℕ) (line : List ℕ) → (byte == 13) ≡ false → strip_carriage_return (byte ∷ line) ≡ byte ∷ strip_carriage_return line
stripped_more byte [] other = rw other refl
stripped_more byte (next ∷ line) other =
    let outer : length (byte ∷ next ∷ line) - 1 ≡ suc (length line) = omega arith in
    let inner : length (next ∷ line) - 1 ≡ length line = omega arith in
    elim (cases_Bool (slice_index (next ∷ line) (length line) == 13)) [
      | inl return ↦ rw (outer, inner, return) refl
      | inr none ↦ rw (outer, inner, none) refl
    ]

-- all lines of texts that agree so are alike, but for empty ones
all_agree : (cuts parts : List (List ℕ)) → Agree cuts parts → filter is_filled (lines_of_parts cuts) ≡ filter is_filled parts
all_agree [] parts agree = absurd agree
all_agree (first ∷ more) [] agree = absurd agree
all_agree ([] ∷ []) (part ∷ parts) agree = rw (sym agree.0) agree.1
all_agree ((byte ∷ line) ∷ []) (part ∷ parts) agree = rw (ne_eqb (suc (length line)) 0 (λ e. cc e), sym agree.0) (ap (λ (more : List (List ℕ)). (byte ∷ line) ∷ more) agree.1)
all_agree (first ∷ next ∷ more) (part ∷ parts) agree =
    rw (agree.0, agree.1) refl

abbrev Follows : List ℕ → Type 0
Follows text = (place : ℕ) → get_or text place 0 ≡ 13 → get_or text (place + 1) 0 ≡ 10

agree_after : (byte : ℕ) (cuts parts : List (List ℕ)) → (byte == 13) ≡ false → Agree cuts parts → Agree (onto_first byte cuts) (onto_first byte parts)
agree_after byte [] parts other agree = absurd agree
agree_after byte (first ∷ more) [] other agree = absurd agree
agree_after byte (first ∷ []) (part ∷ parts) other agree = (ap (λ (line : List ℕ). byte ∷ line) agree.0, agree.1)
agree_after byte (first ∷ next ∷ more) (part ∷ parts) other agree =
    (stripped_more byte first other ∙ ap (λ (line : List ℕ). byte ∷ line) agree.0, agree.1)

agree_at_feed : (cuts parts : List (List ℕ)) → Agree cuts parts → Agree ([] ∷ cuts) ([] ∷ parts)
agree_at_feed [] parts agree = absurd agree
agree_at_feed (first ∷ more) parts agree = (stripped_nothing, all_agree (first ∷ more) parts agree)

follows_rest : (byte : ℕ) (rest : List ℕ) → Follows (byte ∷ rest) → Follows rest
follows_rest byte rest follows place return =
    let after = follows (suc place) return in
    rw (add-one place) (rw (add-one (suc place)) at after)

neither : (byte : ℕ) → (byte == 13) ≡ false → (byte == 10) ≡ false → ends_line byte ≡ false
neither byte other inner = rw (other, inner) refl

-- a CR, behind which stands an LF
at_return : (rest : List ℕ) → Agree (slice_split ends_in_feed rest) (slice_split ends_line rest) → get_or rest 0 0 ≡ 10 → Agree (slice_split ends_in_feed (13 ∷ rest)) (slice_split ends_line (13 ∷ rest))
at_return [] agree feed = absurd (omega (arith, feed))
at_return (byte ∷ rest) agree feed =
    let same : byte ≡ 10 = feed in
    let found = first_part ends_in_feed rest in
    let now : Agree ([] ∷ slice_split ends_in_feed rest) ([] ∷ slice_split ends_line rest) = rw same at agree in
    rw (same, found.2) (let more : Agree ([] ∷ found.0 ∷ found.1) ([] ∷ slice_split ends_line rest) = rw found.2 at now in (stripped_return, more.1))

both_agree : (text : List ℕ) → Follows text → Agree (slice_split ends_in_feed text) (slice_split ends_line text)
both_agree [] follows = (refl, refl)
both_agree (byte ∷ rest) follows =
    let agree = both_agree rest (follows_rest byte rest follows) in
    elim (cases_Bool (byte == 13)) [
      | inl return ↦
          rw (eqb-true byte 13 return) (at_return rest agree (follows 0 (eqb-true byte 13 return)))
      | inr other ↦
          elim (cases_Bool (byte == 10)) [
            | inl feed ↦
                rw (eqb-true byte 10 feed) (agree_at_feed (slice_split ends_in_feed rest) (slice_split ends_line rest) agree)
            | inr inner ↦
                rw (slice_split-cons_no ends_in_feed byte rest inner, slice_split-cons_no ends_line byte rest (neither byte other inner))
                (agree_after byte (slice_split ends_in_feed rest) (slice_split ends_line rest) other agree)
          ]
    ]

pub records_of_lines : (text : List ℕ) → HasPlainLines text → records default_config text ≡ map split_at_commas (plain_lines text)
records_of_lines text is =
    records_of_parts text is.no_quote
    ∙ ap (map split_at_commas) (sym (all_agree (slice_split ends_in_feed text) (slice_split ends_line text) (both_agree text is.no_lone_return)))
