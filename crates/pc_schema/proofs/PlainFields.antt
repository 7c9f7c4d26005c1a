-- A schema's plain fields are read as that schema.
use Rattle.std.proofs.Common.{◌≡◌, ◌≢◌, ℕ, suc, ◌+◌, ◌/◌, ◌<◌, ◌≤◌, ◌≤ℤ◌, ℤ, pos, List, [], ◌∷◌, ◌++◌, length, get_or, map, Bool, true, false, ◌<ℤ◌, Decides, nat_lt, nat_le, int_lt, Ok, refl, sym, arith, ◌∙◌, length-append, append_assoc}
use Rattle.std.specs.List.{AllPairs, list_all, list_any}
use Rattle.std.specs.Char.{is_ascii_digit}
use Rattle.std.specs.Str.{bytes_eq}
use Rattle.std.proofs.lemmas.Bool.Decides.{nat_tests}
use Rattle.std.proofs.lemmas.Fmt.{decimal_digit}
use Rattle.std.proofs.lemmas.Int.{ints}
use Rattle.std.specs.Int.Signed.{lt_z_yes}
use Rattle.std.proofs.lemmas.List.{append-nil, get_or_append_left}
use Rattle.std.proofs.lemmas.List.Folds.{list_any_none}
use Rattle.std.proofs.Math.Seq.{get_or-append_seam}
use Rattle.std.proofs.lemmas.Slice.Eq.{bytes_eq-Decides}
use Rattle.pc_num.specs.Put.{scaled_text}
use Rattle.pc_model.specs.declared.schema.Kind.{Kind}
use Rattle.pc_model.specs.declared.schema.Kind.TheVariants.{Int, Dec, Cat}
use Rattle.pc_model.specs.declared.schema.Column.{Column}
use Rattle.pc_model.specs.declared.schema.Schema.{Schema}
use Rattle.pc_model.specs.Texts.{IsName}
use Rattle.pc_model.specs.WellFormed.{AreColumns, AreNames, AreValues, IsColumn, IsKind, IsSmall, IsSpan}
use Rattle.pc_model.proofs.Names.{is_name_of}
use Rattle.pc_model.proofs.NumberTexts.{number_again}
use Rattle.csv.specs.Reading.{strip_bom}
use Rattle.pc_records.proofs.PlainLines.{records_of_lines}
use Rattle.pc_schema.specs.Plain.{SpellsByLines, SpellsPlainly, column_fields, kind_fields}
use Rattle.pc_schema.specs.SchemaFile.{cat_of, column_at, column_of, columns_from, dec_of, int_of, is_taken, kind_of, name_of, names_from, scale_of, schema_from, schema_of, span_of}

ordered : (low high : ℤ) → low ≤ℤ high → int_lt high low ≡ false
ordered low high le = by_test (int_lt high low) refl
  where
    by_test : (test : Bool) → int_lt high low ≡ test → int_lt high low ≡ false
    by_test true e = let less : high <ℤ low = lt_z_yes (rw e tt) in absurd (omega (arith, ints))
    by_test false e = e

span_again : (scale : ℕ) (low high : ℤ) → IsSpan low high → span_of scale (scaled_text low scale) (scaled_text high scale) ≡ Ok (low, high)
unfolding span_of
span_again scale low high is =
    rw (number_again scale low is.small_low, number_again scale high is.small_high, ordered low high is.ordered) refl

false_from_Decides : {P : Type 0} (test : Bool) → Decides test P → ¬ P → test ≡ false
false_from_Decides true decides none = absurd (none (decides.0 refl))
false_from_Decides false decides none = refl

-- a scale is written as one digit
one_digit : (scale : ℕ) → scale ≤ 6 → scaled_text (pos scale) 0 ≡ (48 + scale) ∷ []
unfolding scaled_text
one_digit scale few =
    let below : scale < 10 = omega arith in
    let same : scale / 1 ≡ scale = omega arith in
    rw (same, decimal_digit scale below) refl

is_digit_of : (scale : ℕ) → scale ≤ 6 → is_ascii_digit (48 + scale) ≡ true
is_digit_of scale few = grind (arith, nat_tests)

scale_digit : (scale : ℕ) → scale ≤ 6 → list_all is_ascii_digit (scaled_text (pos scale) 0) ≡ true
scale_digit scale few = rw (one_digit scale few, is_digit_of scale few) refl

scale_again : (scale : ℕ) → scale ≤ 6 → scale_of (scaled_text (pos scale) 0) ≡ Ok scale
unfolding scale_of
scale_again scale few =
    let small : IsSmall (pos scale) = omega arith in
    let least : nat_lt 6 scale ≡ false = grind (arith, nat_tests) in
    rw (scale_digit scale few, number_again 0 (pos scale) small, least) refl

name_again : (name : List ℕ) → IsName name → name_of false name ≡ Ok name
unfolding name_of
name_again name is = rw (is_name_of name is) refl

-- a name is none of those before it
not_among : (before rest : List (List ℕ)) (name : List ℕ) → AllPairs (λ a b. a ≢ b) (before ++ name ∷ rest) → list_any (bytes_eq name) before ≡ false
not_among before rest name different =
    list_any_none (bytes_eq name) before (λ k d inside.
    let here : length before < length (before ++ name ∷ rest) = omega (arith, length-append before (name ∷ rest)) in
    false_from_Decides _ (bytes_eq-Decides name (get_or before k d))
    (λ same. different k (length before) d inside here (get_or_append_left before (name ∷ rest) d k inside ∙ (sym same ∙ sym (get_or-append_seam before name rest d)))))

names_again : (before rest : List (List ℕ)) → AreNames (before ++ rest) → names_from before rest ≡ Ok (before ++ rest)
unfolding names_from
names_again before [] are = rw (append-nil before) refl
names_again before (name ∷ rest) are =
    let here : length before < length (before ++ name ∷ rest) = omega (arith, length-append before (name ∷ rest)) in
    let is : IsName name = rw (get_or-append_seam before name rest name) at (are.all (length before) name here) in
    let again : names_from (before ++ name ∷ []) rest ≡ Ok ((before ++ name ∷ []) ++ rest) = names_again (before ++ name ∷ []) rest (rw append_assoc are) in
    rw (not_among before rest name are.different, name_again name is, again, append_assoc before (name ∷ []) rest) refl

int_again : (name : List ℕ) (low high : ℤ) → IsSpan low high → kind_of (name ∷ kind_fields (Int low high)) ≡ Ok (Int low high)
unfolding kind_of int_of
int_again name low high is = rw (span_again 0 low high is) refl

dec_again : (name : List ℕ) (scale : ℕ) (low high : ℤ) → scale ≤ 6 → IsSpan low high → kind_of (name ∷ kind_fields (Dec scale low high)) ≡ Ok (Dec scale low high)
unfolding kind_of dec_of
dec_again name scale low high few is = rw (scale_again scale few, span_again scale low high is) refl

cat_again : (name : List ℕ) (names : List (List ℕ)) → AreValues names → kind_of (name ∷ kind_fields (Cat names)) ≡ Ok (Cat names)
unfolding kind_of cat_of
cat_again name names are =
    let some : nat_lt (suc (suc (length names))) 3 ≡ false = grind (arith, nat_tests, are.some) in
    let few : nat_lt 130 (suc (suc (length names))) ≡ false = grind (arith, nat_tests, are.few) in
    rw (some, few, names_again [] names are.own) refl

kind_again : (name : List ℕ) (kind : Kind) → IsKind kind → kind_of (name ∷ kind_fields kind) ≡ Ok kind
kind_again name (Int low high) is = int_again name low high is
kind_again name (Dec scale low high) is = dec_again name scale low high is.0 is.1
kind_again name (Cat names) is = cat_again name names is

not_taken : (before rest : List Column) (column : Column) → AllPairs (λ (a b : Column). a.name ≢ b.name) (before ++ column ∷ rest) → is_taken before column.name ≡ false
not_taken before rest column different =
    list_any_none (λ (other : Column). bytes_eq column.name other.name) before (λ k d inside.
    let here : length before < length (before ++ column ∷ rest) = omega (arith, length-append before (column ∷ rest)) in
    let first : get_or (before ++ column ∷ rest) k d ≡ get_or before k d = get_or_append_left before (column ∷ rest) d k inside in
    let second : get_or (before ++ column ∷ rest) (length before) d ≡ column = get_or-append_seam before column rest d in
    let apart : (get_or before k d).name ≢ column.name = rw (first, second) at (different k (length before) d inside here) in
    false_from_Decides _ (bytes_eq-Decides column.name (get_or before k d).name) (λ same. apart (sym same)))

column_again : (before rest : List Column) (column : Column) → AreColumns (before ++ column ∷ rest) → column_at before (column_fields column) ≡ Ok column
unfolding column_at column_of
column_again before rest column are =
    let longer = length-append before (column ∷ rest) in
    let here : length before < length (before ++ column ∷ rest) = omega (arith, longer) in
    let room : nat_le 12 (length before) ≡ false = grind (arith, nat_tests, longer, are.few) in
    let is : IsColumn column = rw (get_or-append_seam before column rest column) at (are.all (length before) column here) in
    rw (room, not_taken before rest column are.own_names, name_again column.name is.name, kind_again column.name column.kind is.kind) refl

columns_again : (before rest : List Column) → AreColumns (before ++ rest) → columns_from before (map column_fields rest) ≡ Ok (before ++ rest)
unfolding columns_from
columns_again before [] are = rw (append-nil before) refl
columns_again before (column ∷ rest) are =
    let again : columns_from (before ++ column ∷ []) (map column_fields rest) ≡ Ok ((before ++ column ∷ []) ++ rest) = columns_again (before ++ column ∷ []) rest (rw append_assoc are) in
    rw (column_again before rest column are, again, append_assoc before (column ∷ []) rest) refl

schema_again : (columns : List Column) → 1 ≤ length columns → schema_from columns ≡ Ok (record { columns = columns })
schema_again [] some = absurd (omega arith)
schema_again (column ∷ columns) some = refl

pub reads_plain_fields : (bytes text : List ℕ) (schema : Schema) → SpellsPlainly bytes text schema → schema_of bytes ≡ Ok schema
unfolding schema_of
reads_plain_fields bytes text schema spells =
    rw (spells.of_bytes, spells.fields, columns_again [] schema.columns spells.well_formed.columns) (schema_again schema.columns spells.well_formed.some)

pub reads_plain_lines : (bytes text : List ℕ) (schema : Schema) → SpellsByLines bytes text schema → schema_of bytes ≡ Ok schema
reads_plain_lines bytes text schema spells =
    reads_plain_fields bytes text schema (record {
      well_formed = spells.well_formed;
      of_bytes = spells.of_bytes;
      fields = records_of_lines (strip_bom text) spells.plain ∙ spells.fields;
    })
