-- The draft for a file whose text is known.
use Rattle.std.proofs.Common.{◌≡◌, ◌≤◌, ◌∙◌, ℕ, List, [], length, Ok, Err, refl, sym}
use Rattle.csv.specs.Reading.{default_config, records, strip_bom}
use Rattle.pc_model.specs.declared.fault.Fault.{Fault}
use Rattle.pc_model.specs.declared.fault.Refusal.{Refusal}
use Rattle.pc_model.specs.declared.fault.Refusal.TheVariants as refusals
use Rattle.pc_model.specs.declared.row.Row.{Row}
use Rattle.pc_model.specs.Refusals.{RefusesAs}
use Rattle.pc_model.specs.Texts.{text_of}
use Rattle.pc_model.specs.WellFormed.{AreColumns, IsWellFormed}
use Rattle.pc_rows.specs.RowFile.{rows_of, rows_under}
use Rattle.pc_desk_schema.specs.declared.draft.Draft.{Draft}
use Rattle.pc_desk_schema.specs.Draft.{drafted_of, drafted_under}

rows_in : (bytes text : List ℕ) → text_of bytes ≡ Ok text → rows_of (record { columns = [] }) bytes ≡ rows_under [] (records default_config (strip_bom text))
unfolding rows_of
rows_in bytes text is = rw is refl

pub drafted_after : (bytes text : List ℕ) (names : List (List ℕ)) (rows : List Row) → text_of bytes ≡ Ok text → rows_of (record { columns = [] }) bytes ≡ Ok rows → drafted_of bytes names ≡ drafted_under names (records default_config (strip_bom text))
unfolding drafted_of
drafted_after bytes text names rows is found = let under = sym (rows_in bytes text is) ∙ found in rw (is, under) refl

drafted_stopped : (bytes text : List ℕ) (names : List (List ℕ)) (fault : Fault) → text_of bytes ≡ Ok text → rows_of (record { columns = [] }) bytes ≡ Err fault → drafted_of bytes names ≡ Err fault
unfolding drafted_of
drafted_stopped bytes text names fault is found = let under = sym (rows_in bytes text is) ∙ found in rw (is, under) refl

pub drafted_refused : (bytes text : List ℕ) (names : List (List ℕ)) (refusal : Refusal) → text_of bytes ≡ Ok text → RefusesAs refusal (rows_of (record { columns = [] }) bytes) → RefusesAs refusal (drafted_of bytes names)
drafted_refused bytes text names (refusals.Fault fault) is found = drafted_stopped bytes text names fault is found
drafted_refused bytes text names refusals.Memory is found = tt

pub ruleset steps = (drafted_after, drafted_refused)

pub is_formed : (draft : Draft) → AreColumns draft.schema.columns → 1 ≤ length draft.schema.columns → IsWellFormed draft.schema
is_formed draft are some = record { some = some; columns = are }
