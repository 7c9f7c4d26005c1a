-- What is told of a row file, as far as a loop has come, and that it is the fault for which the rows are refused.
use Rattle.std.proofs.Common.{◌≡◌, ◌∙◌, ℕ, zero, suc, ◌+◌, ◌<◌, ◌≤◌, ◌^◌, Bool, true, false, cond, ℤ, length, length-append, List, [], ◌∷◌, ◌++◌, Option, Some, None, is_some, Result, Ok, Err, refl, sym, ap, arith, nat_le}
use Rattle.std.specs.Prelude.{count_by, nat_lt}
use Rattle.std.specs.Str.{is_utf8}
use Rattle.std.specs.Result.{is_err}
use Rattle.std.proofs.lemmas.Bool.{false≢true}
use Rattle.csv.specs.Machine.{Read, next_record}
use Rattle.csv.specs.Reading.{default_config, records, records_from, records_next, strip_bom}
use Rattle.csv.specs.declared.parser.State.{State}
use Rattle.csv.specs.declared.parser.State.TheVariants as st
use Rattle.pc_model.specs.declared.fault.Fault.{Fault}
use Rattle.pc_model.specs.declared.fault.Reason.{Reason}
use Rattle.pc_model.specs.declared.fault.Reason.TheVariants as reasons
use Rattle.pc_model.specs.declared.row.Row.{Row}
use Rattle.pc_model.specs.declared.schema.Column.{Column}
use Rattle.pc_model.specs.declared.schema.Schema.{Schema}
use Rattle.pc_model.specs.Membership.{row_from as row}
use Rattle.pc_model.specs.Texts.{file_limit, text_of, without_mark}
use Rattle.pc_model.proofs.Tallies.{count_by-cons, count_by-skips}
use Rattle.pc_rows.specs.declared.halt.Halt.{Halt}
use Rattle.pc_rows.specs.declared.tell.RowsTold.{RowsTold}
use Rattle.pc_rows.specs.RowFile.{cells_at, cells_of, places_from, rows_from, rows_of, rows_under}
use Rattle.pc_rows.specs.Stored.{row_limit}
use Rattle.pc_rows.specs.Told.{HaltsAs, Tells, halt_field, header_told, is_whole, names_halt, reason_of, record_halt, refused_in, told_behind, told_from, told_in, told_of, told_under}
use Rattle.pc_rows.proofs.Halting.{halts_where_refused, header_halts_as, record_halts_as}

-- ---- the loops

module _ (columns : List Column) (places : List ℕ) (width count : ℕ) (table rest : List (List (List ℕ))) (fields : List (List ℕ)) (split : table ≡ fields ∷ rest) where
  pub told_past : row_limit ≤ count → told_from columns places width count table ≡ None
  unfolding told_from
  told_past past = let e : nat_le row_limit count ≡ true = grind arith in rw (split, e) refl

  pub told_here : (halt : Halt) → count < row_limit → record_halt columns places width fields ≡ Some halt
      → told_from columns places width count table ≡ Some (record { place = count + 2; halt = halt; field = halt_field halt fields; further = refused_in columns places width rest })
  unfolding told_from
  told_here halt few e = let below : nat_le row_limit count ≡ false = grind arith in rw (split, below, e) refl

  pub told_later : count < row_limit → record_halt columns places width fields ≡ None → told_from columns places width count table ≡ told_from columns places width (count + 1) rest
  unfolding told_from
  told_later few e = let below : nat_le row_limit count ≡ false = grind arith in rw (split, below, e) refl

  pub counted_more : is_some (record_halt columns places width fields) ≡ true → refused_in columns places width table ≡ 1 + refused_in columns places width rest
  counted_more halted =
      let e : is_err (cells_of columns places width fields) ≡ true = sym (halts_where_refused columns places width fields) ∙ halted in
      rw (split, count_by-cons (λ other. is_err (cells_of columns places width other)) fields rest, e) refl

  pub counted_same : is_some (record_halt columns places width fields) ≡ false → refused_in columns places width table ≡ refused_in columns places width rest
  counted_same read =
      let e : is_err (cells_of columns places width fields) ≡ false = sym (halts_where_refused columns places width fields) ∙ read in
      rw split (count_by-skips (λ other. is_err (cells_of columns places width other)) fields rest e)

  pub one_less : length table ≡ length rest + 1
  one_less = rw split (omega arith)

module _ (columns : List Column) (places : List ℕ) (width : ℕ) (table : List (List (List ℕ))) (none : table ≡ []) where
  pub told_end : (count : ℕ) → told_from columns places width count table ≡ None
  unfolding told_from
  told_end count = rw none refl

  pub counted_none : refused_in columns places width table ≡ 0
  counted_none = rw none refl

pub ruleset steps = (told_past, told_here, told_later, told_end, one_less)

pub ruleset counts = (counted_more, counted_same, counted_none, one_less)

-- ---- a text has no more records than bytes, but for one

few_from : (n : ℕ) (s : State) (text : List ℕ) → length (records_from default_config n s text) ≤ n
unfolding records_from
few_from zero s text = omega arith
few_from (suc n) s text = by_read (few_from n) (next_record default_config s [] [] text)
  where
    by_read : ((next : State) (left : List ℕ) → length (records_from default_config n next left) ≤ n) → (read : Option Read) → length (records_next (records_from default_config n) read) ≤ suc n
    by_read few None = omega arith
    by_read few (Some read) = omega (arith, few read.1 read.2)

shorter : (text : List ℕ) → length (strip_bom text) ≤ length text
unfolding strip_bom
shorter [] = omega arith
shorter (a ∷ []) = omega arith
shorter (a ∷ b ∷ []) = omega arith
shorter (a ∷ b ∷ c ∷ rest) = grind arith

pub few_left : (text : List ℕ) (first : List (List ℕ)) (rest : List (List (List ℕ))) → records default_config (strip_bom text) ≡ first ∷ rest → length rest ≤ length text
few_left text first rest split =
    let counted : length (records default_config (strip_bom text)) ≡ length rest + 1 = rw split (omega arith) in
    omega (arith, counted, few_from (length (strip_bom text) + 1) st.StartRecord (strip_bom text), shorter text)

-- ---- the fault

module _ (columns : List Column) (places : List ℕ) (width : ℕ) where
  from_tells : (before : List Row) (table : List (List (List ℕ))) → Tells (told_from columns places width (length before) table) (rows_from columns places width before table)
  unfolding told_from rows_from cells_at
  from_tells before [] = tt
  from_tells before (fields ∷ rest) = by_count (λ cells. rw (length-append before (row cells ∷ [])) at (from_tells (before ++ row cells ∷ []) rest)) (nat_le row_limit (length before)) refl
    where
      Later : Type 0
      Later = (cells : List ℤ) → Tells (told_from columns places width (length before + 1) rest) (rows_from columns places width (before ++ row cells ∷ []) rest)

      by_halt : Later → (halt : Option Halt) (read : Result (List ℤ) Reason) → nat_le row_limit (length before) ≡ false → HaltsAs halt read → record_halt columns places width fields ≡ halt → cells_of columns places width fields ≡ read
          → Tells (told_from columns places width (length before) (fields ∷ rest)) (rows_from columns places width before (fields ∷ rest))
      by_halt later None (Ok cells) few as_read h r = rw (few, h, r) (later cells)
      by_halt later None (Err reason) few as_read h r = absurd (false≢true as_read)
      by_halt later (Some halt) (Ok cells) few as_read h r = cc
      by_halt later (Some halt) (Err reason) few as_read h r = let same : reason ≡ reason_of halt = cc in rw (few, h, r, same) refl

      by_count : Later → (many : Bool) → nat_le row_limit (length before) ≡ many → Tells (told_from columns places width (length before) (fields ∷ rest)) (rows_from columns places width before (fields ∷ rest))
      by_count later true e = rw e refl
      by_count later false e = by_halt later (record_halt columns places width fields) (cells_of columns places width fields) e (record_halts_as columns places width fields) refl refl

module _ (columns : List Column) where
  header_tells : (header : List (List ℕ)) (rest : List (List (List ℕ))) (halt : Option Halt) (places : Result (List ℕ) Reason) → HaltsAs halt places → names_halt 0 columns header ≡ halt → places_from [] columns header ≡ places
      → Tells (told_under columns (header ∷ rest)) (rows_under columns (header ∷ rest))
  unfolding told_under rows_under
  header_tells header rest None (Ok places) as_read h p = rw p (from_tells columns places (length header) [] rest)
  header_tells header rest None (Err reason) as_read h p = absurd (false≢true as_read)
  header_tells header rest (Some halt) (Ok places) as_read h p = cc
  header_tells header rest (Some halt) (Err reason) as_read h p = let same : reason ≡ reason_of halt = cc in rw (p, h, same) refl

  under_tells : (table : List (List (List ℕ))) → Tells (told_under columns table) (rows_under columns table)
  unfolding told_under rows_under
  under_tells [] = refl
  under_tells (header ∷ rest) = header_tells header rest (names_halt 0 columns header) (places_from [] columns header) (header_halts_as columns header) refl refl

same_reason : (first second : Reason) → ◌≡◌ {A = Result (List ℕ) Reason} (Err first) (Err second) → first ≡ second
same_reason first second e = cc

text_whole : (bytes : List ℕ) (reason : Reason) → text_of bytes ≡ Err reason → is_whole reason ≡ true
unfolding text_of
text_whole bytes reason e = by_test (nat_lt file_limit (length bytes)) (is_utf8 bytes) refl refl
  where
    by_test : (long text : Bool) → nat_lt file_limit (length bytes) ≡ long → is_utf8 bytes ≡ text → is_whole reason ≡ true
    by_test true text l t = let same : reasons.TooLong ≡ reason = same_reason reasons.TooLong reason (rw l at e) in rw (← same) refl
    by_test false true l t = let found : ◌≡◌ {A = Result (List ℕ) Reason} (Ok (without_mark bytes)) (Err reason) = rw (l, t) at e in cc
    by_test false false l t = let same : reasons.NotUtf8 ≡ reason = same_reason reasons.NotUtf8 reason (rw (l, t) at e) in rw (← same) refl

tells_file : (schema : Schema) (bytes : List ℕ) → Tells (told_of schema bytes) (rows_of schema bytes)
unfolding told_of rows_of
tells_file schema bytes = by_text (text_of bytes) refl
  where
    by_text : (text : Result (List ℕ) Reason) → text_of bytes ≡ text → Tells (told_of schema bytes) (rows_of schema bytes)
    by_text (Ok text) e = rw e (under_tells schema.columns (records default_config (strip_bom text)))
    by_text (Err reason) e = rw e (text_whole bytes reason e)

pub tells : (schema : Schema) (bytes : List ℕ) (told : Option RowsTold) → told ≡ told_of schema bytes → Tells told (rows_of schema bytes)
tells schema bytes told is = rw is (tells_file schema bytes)
