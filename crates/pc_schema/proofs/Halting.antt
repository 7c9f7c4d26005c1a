-- What halts the reader of a column, and for which reason.
use Rattle.std.proofs.Common.{◌≡◌, ℕ, ◌+◌, ◌<◌, ◌≤◌, ◌==◌, Bool, true, false, not, ℤ, length, get_or, drop, List, [], ◌∷◌, ◌++◌, Option, Some, None, Result, Ok, Err, refl, sym, add-one, drop-cons, nat_le}
use Rattle.std.specs.Prelude.{codes, nat_lt, if◌then◌else◌}
use Rattle.std.specs.List.{list_any}
use Rattle.std.specs.Str.{bytes_eq}
use Rattle.std.proofs.lemmas.List.{drop_all}
use Rattle.pc_model.specs.declared.fault.Reason.{Reason}
use Rattle.pc_model.specs.declared.fault.Reason.TheVariants as reasons
use Rattle.pc_model.specs.declared.schema.Column.{Column}
use Rattle.pc_model.specs.declared.schema.Kind.{Kind}
use Rattle.pc_model.specs.declared.schema.Kind.TheVariants.{Int, Dec, Cat}
use Rattle.pc_model.specs.Numbers.{number_of}
use Rattle.pc_model.specs.Refusals.{◌>>=◌}
use Rattle.pc_model.specs.Texts.{is_name}
use Rattle.pc_records.specs.Fields.{field}
use Rattle.pc_schema.specs.declared.halt.Halt.{Halt}
use Rattle.pc_schema.specs.declared.halt.Halt.TheVariants as halts
use Rattle.pc_schema.specs.declared.halt.Wanted.TheVariants as wants
use Rattle.pc_schema.specs.SchemaFile.{cat_of, column_of, dec_of, int_of, is_taken, kind_of, name_of, names_from, scale_of, span_of}
use Rattle.pc_schema.specs.Told.{HaltsAs, behind_scale, cat_halt, column_halt, dec_halt, int_halt, kind_halt, names_halt, reason_of, span_halt}

module _ (before : List (List ℕ)) (fields : List (List ℕ)) (place : ℕ) where
  pub name_read : (name : List ℕ) → place < length fields → name_of (list_any (bytes_eq (field fields place)) before) (field fields place) ≡ Ok name → name ≡ field fields place
      → names_halt before place (drop place fields) ≡ names_halt (before ++ name ∷ []) (place + 1) (drop (place + 1) fields)
  unfolding names_halt
  name_read name inside e same = rw (drop-cons fields place [] inside, e, same) (rw add-one refl)

  pub name_halts : (reason : Reason) → place < length fields → name_of (list_any (bytes_eq (field fields place)) before) (field fields place) ≡ Err reason
      → names_halt before place (drop place fields) ≡ Some (halts.Field place wants.Name reason)
  unfolding names_halt
  name_halts reason inside e = rw (drop-cons fields place [] inside, e) refl

  pub names_end : length fields ≤ place → names_halt before place (drop place fields) ≡ None
  unfolding names_halt
  names_end past = rw (drop_all place fields past) refl

pub ruleset names_steps = (name_read, name_halts, names_end)

-- ---- the reason

-- what is made of what is read is refused for the same reason
made_as : {A B : Type 0} (halt : Option Halt) (read : Result A Reason) (make : A → B) → HaltsAs halt read → HaltsAs halt (read >>= (λ value. Ok (make value)))
made_as None (Ok value) make as_read = tt
made_as None (Err reason) make as_read = as_read
made_as (Some halt) (Ok value) make as_read = cc
made_as (Some halt) (Err reason) make as_read = let same : reason ≡ reason_of halt = cc in rw same refl

low_first : (scale : ℕ) (low high : List ℕ) (reason : Reason) → number_of scale low ≡ Err reason → span_of scale low high ≡ Err reason
unfolding span_of
low_first scale low high reason e = rw e refl

span_halts_as : (scale place : ℕ) (fields : List (List ℕ)) → HaltsAs (span_halt scale place fields) (span_of scale (field fields place) (field fields (place + 1)))
unfolding span_halt
span_halts_as scale place fields = by_low (number_of scale (field fields place)) refl
  where
    by_span : (span : Result (ℤ × ℤ) Reason) (low : ℤ) → number_of scale (field fields place) ≡ Ok low → span_of scale (field fields place) (field fields (place + 1)) ≡ span
        → HaltsAs (span_halt scale place fields) (span_of scale (field fields place) (field fields (place + 1)))
    by_span (Ok span) low e s = rw (e, s) tt
    by_span (Err reason) low e s = rw (e, s) refl

    by_low : (low : Result ℤ Reason) → number_of scale (field fields place) ≡ low → HaltsAs (span_halt scale place fields) (span_of scale (field fields place) (field fields (place + 1)))
    by_low (Ok low) e = by_span (span_of scale (field fields place) (field fields (place + 1))) low e refl
    by_low (Err reason) e = rw (e, low_first scale (field fields place) (field fields (place + 1)) reason e) refl

int_halts_as : (fields : List (List ℕ)) → HaltsAs (int_halt fields) (int_of fields)
unfolding int_halt int_of
int_halts_as fields = by_count (length fields == 4) refl
  where
    by_count : (fits : Bool) → (length fields == 4) ≡ fits → HaltsAs (int_halt fields) (int_of fields)
    by_count true e = rw e (made_as (span_halt 0 2 fields) (span_of 0 (field fields 2) (field fields 3)) (λ (span : ℤ × ℤ). Int span.0 span.1) (span_halts_as 0 2 fields))
    by_count false e = rw e refl

dec_halts_as : (fields : List (List ℕ)) → HaltsAs (dec_halt fields) (dec_of fields)
unfolding dec_halt dec_of
dec_halts_as fields = by_count (length fields == 5) refl
  where
    by_scale : (scale : Result ℕ Reason) → (length fields == 5) ≡ true → scale_of (field fields 2) ≡ scale → HaltsAs (dec_halt fields) (dec_of fields)
    by_scale (Ok scale) e s = rw (e, s) (made_as (span_halt scale 3 fields) (span_of scale (field fields 3) (field fields 4)) (λ (span : ℤ × ℤ). Dec scale span.0 span.1) (span_halts_as scale 3 fields))
    by_scale (Err reason) e s = rw (e, s) refl

    by_count : (fits : Bool) → (length fields == 5) ≡ fits → HaltsAs (dec_halt fields) (dec_of fields)
    by_count true e = by_scale (scale_of (field fields 2)) e refl
    by_count false e = rw e refl

names_halt_as : (before : List (List ℕ)) (place : ℕ) (texts : List (List ℕ)) → HaltsAs (names_halt before place texts) (names_from before texts)
unfolding names_halt names_from name_of
names_halt_as before place [] = tt
names_halt_as before place (text ∷ rest) = by_name (names_halt_as (before ++ text ∷ []) (place + 1) rest) (is_name text) (list_any (bytes_eq text) before) refl refl
  where
    by_name : HaltsAs (names_halt (before ++ text ∷ []) (place + 1) rest) (names_from (before ++ text ∷ []) rest) → (named taken : Bool) → is_name text ≡ named → list_any (bytes_eq text) before ≡ taken
        → HaltsAs (names_halt before place (text ∷ rest)) (names_from before (text ∷ rest))
    by_name later false taken n t = rw n refl
    by_name later true true n t = rw (n, t) refl
    by_name later true false n t = rw (n, t) later

cat_halts_as : (fields : List (List ℕ)) → HaltsAs (cat_halt fields) (cat_of fields)
unfolding cat_halt cat_of
cat_halts_as fields = by_count (nat_lt (length fields) 3) (nat_lt 130 (length fields)) refl refl
  where
    by_count : (few many : Bool) → nat_lt (length fields) 3 ≡ few → nat_lt 130 (length fields) ≡ many → HaltsAs (cat_halt fields) (cat_of fields)
    by_count true many f m = rw f refl
    by_count false true f m = rw (f, m) refl
    by_count false false f m = rw (f, m) (made_as (names_halt [] 2 (drop 2 fields)) (names_from [] (drop 2 fields)) Cat (names_halt_as [] 2 (drop 2 fields)))

kind_halts_as : (fields : List (List ℕ)) → HaltsAs (kind_halt fields) (kind_of fields)
unfolding kind_halt kind_of
kind_halts_as fields = by_word (bytes_eq (field fields 1) (codes "int")) (bytes_eq (field fields 1) (codes "dec")) (bytes_eq (field fields 1) (codes "cat")) refl refl refl
  where
    by_word : (is_int is_dec is_cat : Bool) → bytes_eq (field fields 1) (codes "int") ≡ is_int → bytes_eq (field fields 1) (codes "dec") ≡ is_dec → bytes_eq (field fields 1) (codes "cat") ≡ is_cat
        → HaltsAs (kind_halt fields) (kind_of fields)
    by_word true is_dec is_cat i d c = rw i (int_halts_as fields)
    by_word false true is_cat i d c = rw (i, d) (dec_halts_as fields)
    by_word false false true i d c = rw (i, d, c) (cat_halts_as fields)
    by_word false false false i d c = rw (i, d, c) refl

abbrev column_from : List ℕ → Kind → Column
column_from name kind = record { name = name; kind = kind }

-- what halts the reader of a record is why it is refused
pub column_halts_as : (before : List Column) (fields : List (List ℕ)) → HaltsAs (column_halt before fields) (column_of before fields)
unfolding column_halt column_of name_of
column_halts_as before fields = by_name (nat_le 12 (length before)) (is_name (field fields 0)) (is_taken before (field fields 0)) refl refl refl
  where
    by_name : (full named taken : Bool) → nat_le 12 (length before) ≡ full → is_name (field fields 0) ≡ named → is_taken before (field fields 0) ≡ taken → HaltsAs (column_halt before fields) (column_of before fields)
    by_name true named taken f n t = rw f refl
    by_name false false taken f n t = rw (f, n) refl
    by_name false true true f n t = rw (f, n, t) refl
    by_name false true false f n t =
        rw (f, n, t)
        (made_as (kind_halt fields) (kind_of fields) (column_from (field fields 0)) (kind_halts_as fields))
