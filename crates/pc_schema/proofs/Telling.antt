-- What is told of a schema file, as far as a loop has come, and that it is the fault for which the schema is refused.
use Rattle.std.proofs.Common.{◌≡◌, ℕ, ◌+◌, Bool, true, false, length, List, [], ◌∷◌, ◌++◌, Option, Some, None, Result, Ok, Err, refl}
use Rattle.std.specs.Prelude.{nat_lt}
use Rattle.std.specs.Str.{is_utf8}
use Rattle.csv.specs.Reading.{default_config, records, strip_bom}
use Rattle.pc_model.specs.declared.fault.FileKind.TheVariants as files
use Rattle.pc_model.specs.declared.fault.Fault.{Fault}
use Rattle.pc_model.specs.declared.fault.Reason.{Reason}
use Rattle.pc_model.specs.declared.fault.Reason.TheVariants as reasons
use Rattle.pc_model.specs.declared.schema.Column.{Column}
use Rattle.pc_model.specs.Refusals.{◌>>=◌, placed}
use Rattle.pc_model.specs.Texts.{file_limit, text_of, without_mark}
use Rattle.pc_schema.specs.declared.halt.Halt.{Halt}
use Rattle.pc_schema.specs.declared.tell.SchemaTold.{SchemaTold}
use Rattle.pc_schema.specs.SchemaFile.{column_at, column_of, columns_from, schema_from, schema_of}
use Rattle.pc_schema.specs.Told.{HaltsAs, Tells, column_halt, is_whole, reason_of, record_told, told_from, told_of}
use Rattle.pc_schema.proofs.Halting.{column_halts_as}

-- ---- the loop

without_place : (read : Result Column Reason) (place : ℕ) (column : Column) → placed files.Schema place read ≡ Ok column → read ≡ Ok column
without_place (Ok other) place column e = cc
without_place (Err reason) place column e = cc

refused_there : (read : Result Column Reason) (place : ℕ) (fault : Fault) → placed files.Schema place read ≡ Err fault → read ≡ Err fault.reason
refused_there (Ok other) place fault e = cc
refused_there (Err reason) place fault e = cc

module _ (before : List Column) (table rest : List (List (List ℕ))) (fields : List (List ℕ)) (split : table ≡ fields ∷ rest) where
  pub told_later : (column : Column) → column_at before fields ≡ Ok column → told_from before table ≡ told_from (before ++ column ∷ []) rest
  unfolding told_from column_at
  told_later column e = rw (split, without_place (column_of before fields) (length before + 1) column e) refl

  pub told_here : (fault : Fault) → column_at before fields ≡ Err fault → told_from before table ≡ record_told (length before) fields (column_halt before fields)
  unfolding told_from column_at
  told_here fault e = rw (split, refused_there (column_of before fields) (length before + 1) fault e) refl

pub told_end : (before : List Column) (table : List (List (List ℕ))) → table ≡ [] → told_from before table ≡ None
unfolding told_from
told_end before table none = rw none refl

pub ruleset steps = (told_later, told_here, told_end)

-- ---- the fault

from_tells : (before : List Column) (table : List (List (List ℕ))) → Tells (told_from before table) (columns_from before table)
unfolding told_from columns_from column_at
from_tells before [] = tt
from_tells before (fields ∷ rest) = by_halt (λ column. from_tells (before ++ column ∷ []) rest) (column_halt before fields) (column_of before fields) (column_halts_as before fields) refl refl
  where
    by_halt : ((column : Column) → Tells (told_from (before ++ column ∷ []) rest) (columns_from (before ++ column ∷ []) rest))
        → (halt : Option Halt) (read : Result Column Reason) → HaltsAs halt read → column_halt before fields ≡ halt → column_of before fields ≡ read
        → Tells (told_from before (fields ∷ rest)) (columns_from before (fields ∷ rest))
    by_halt later halt (Ok column) as_read h r = rw r (later column)
    by_halt later None (Err reason) as_read h r = absurd as_read
    by_halt later (Some halt) (Err reason) as_read h r = let same : reason ≡ reason_of halt = cc in rw (r, h, same) refl

schema_tells : (told : Option SchemaTold) (columns : Result (List Column) Fault) → Tells told columns → Tells told (columns >>= schema_from)
schema_tells None (Ok []) as_read = refl
schema_tells None (Ok (column ∷ columns)) as_read = tt
schema_tells None (Err fault) as_read = as_read
schema_tells (Some told) (Ok columns) as_read = cc
schema_tells (Some told) (Err fault) as_read = let same : fault ≡ record { file = files.Schema; place = told.place; reason = reason_of told.halt } = cc in rw same refl

same_reason : (first second : Reason) → ◌≡◌ {A = Result (List ℕ) Reason} (Err first) (Err second) → first ≡ second
same_reason first second e = cc

text_whole : (bytes : List ℕ) (reason : Reason) → text_of bytes ≡ Err reason → is_whole reason ≡ true
unfolding text_of
text_whole bytes reason e = by_test (nat_lt file_limit (length bytes)) (is_utf8 bytes) refl refl
  where
    by_test : (long text : Bool) → nat_lt file_limit (length bytes) ≡ long → is_utf8 bytes ≡ text → is_whole reason ≡ true
    by_test true text l t = let same : reasons.TooLong ≡ reason = same_reason reasons.TooLong reason (rw l at e) in rw (← same) refl
    by_test false true l t = let found : ◌≡◌ {A = Result (List ℕ) Reason} (Ok (without_mark bytes)) (Err reason) = rw (l, t) at e in cc
    by_test false false l t = let same : reasons.NotUtf8 ≡ reason = same_reason reasons.NotUtf8 reason (rw (l, t) at e) in rw (← same) refl

tells_file : (bytes : List ℕ) → Tells (told_of bytes) (schema_of bytes)
unfolding told_of schema_of
tells_file bytes = by_text (text_of bytes) refl
  where
    by_text : (text : Result (List ℕ) Reason) → text_of bytes ≡ text → Tells (told_of bytes) (schema_of bytes)
    by_text (Ok text) e = rw e (schema_tells (told_from [] (records default_config (strip_bom text))) (columns_from [] (records default_config (strip_bom text))) (from_tells [] (records default_config (strip_bom text))))
    by_text (Err reason) e = rw e (text_whole bytes reason e)

pub tells : (bytes : List ℕ) (told : Option SchemaTold) → told ≡ told_of bytes → Tells told (schema_of bytes)
tells bytes told is = rw is (tells_file bytes)
