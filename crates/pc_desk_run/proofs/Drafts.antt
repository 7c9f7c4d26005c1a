-- What was read of a row file of which a schema is drafted.
use Rattle.std.proofs.Common.{◌≡◌, ⊎_elim, inl, inr, ℕ, Bool, true, false, List, [], ◌∷◌, Option, Some, None, Ok, Err, IfSome, IsOk, if◌then◌else◌, refl, ap, subst}
use Rattle.std.specs.List.{list_all}
use Rattle.csv.specs.Reading.{default_config, records, strip_bom}
use Rattle.pc_model.specs.declared.fault.Fault.{Fault}
use Rattle.pc_model.specs.declared.fault.FileKind.TheVariants as kinds
use Rattle.pc_model.specs.declared.fault.Reason.TheVariants as reasons
use Rattle.pc_model.specs.Refusals.{fault_at, placed}
use Rattle.pc_model.specs.Texts.{text_of}
use Rattle.pc_rows.specs.RowFile.{rows_under}
use Rattle.pc_base.specs.Files.{Files}
use Rattle.pc_base.specs.declared.outside.Loaded.{Loaded}
use Rattle.pc_base.specs.declared.outside.Loaded.TheVariants as loads
use Rattle.pc_files.specs.declared.kept.Kept.{Kept}
use Rattle.pc_files.specs.declared.stop.Stop.{Stop}
use Rattle.pc_files.specs.declared.stop.Stop.TheVariants as stops
use Rattle.pc_files.specs.Keeping.{KeepsInVain}
use Rattle.pc_files.specs.Loading.{Agrees, IsLoaded, LoadsInVain, LoadsUntil, Reading, StopsAt}
use Rattle.pc_files.specs.Outcome.{found_after, found_in, mapped, refused, value_under}
use Rattle.pc_files.proofs.FaultFiles.{IsOf, placed_of, table_of_file, then_of}
use Rattle.pc_desk_schema.specs.Draft.{draft_over, drafted_of, drafted_under, is_field_of}
use Rattle.pc_desk_schema.specs.declared.draft.Draft.{Draft}
use Rattle.pc_desk_words.specs.Words.{DraftNames, draft}
use Rattle.pc_desk_run.specs.Inputs.{IsSoundInput, KeepsDraft, KeepsDraftUntil}
use Rattle.pc_desk_run.specs.Outcome.{ComesTo, drafted_for, drafts, files_of}
use Rattle.pc_desk_run.specs.Replies.{IsPosed}

-- ---- a fault of a draft names the row file

under_test : (test : Bool) (drafted : Draft) → IsOf kinds.Rows (if test then Ok drafted else Err (fault_at kinds.Rows 1 reasons.MissingColumn))
under_test true drafted = tt
under_test false drafted = refl

under_header : (names : List (List ℕ)) (records : List (List (List ℕ))) → IsOf kinds.Rows (drafted_under names records)
under_header names [] = refl
under_header names (header ∷ rows) = under_test (list_all (is_field_of header) names) (draft_over header rows names)

pub draft_of_file : (bytes : List ℕ) (names : List (List ℕ)) → IsOf kinds.Rows (drafted_of bytes names)
unfolding drafted_of
draft_of_file bytes names =
    then_of kinds.Rows (placed kinds.Rows 0 (text_of bytes)) _ (placed_of kinds.Rows 0 (text_of bytes))
    (λ text. then_of kinds.Rows (rows_under [] (records default_config (strip_bom text))) _ (table_of_file [] _) (λ rows. under_header names (records default_config (strip_bom text))))

-- ---- what is kept

pub keeps_draft : (told : Option Files) (names : DraftNames) (kept : Kept) (stop : Stop) → kept.schema ≡ [] → KeepsInVain told kinds.Rows names.rows kept.last stop → KeepsDraftUntil {X = Draft} told names kept (Err stop)
keeps_draft told names kept (stops.Refused fault) none is = (none, is)
keeps_draft told names kept (stops.Unread file) none is = tt
keeps_draft told names kept stops.Memory none is = tt

pub explains_draft : (told : Option Files) (names : DraftNames) (kept : Kept) (stop : Stop) → KeepsDraftUntil {X = Draft} told names kept (Err stop) → (fault : Fault) → stop ≡ stops.Refused fault → KeepsDraft told names kept
explains_draft told names kept stop until fault is = subst (λ (s : Stop). KeepsDraftUntil {X = Draft} told names kept (Err s)) is until

-- ---- a draft, and why there is none

module _ (reading : Reading) (names : DraftNames) where
  drafted_told : (told : Option Files) (drafted : Draft) → IfSome told (λ shelf. value_under kinds.Rows names.rows (drafted_for names) shelf ≡ Ok drafted) → ComesTo told (draft names) (Ok (drafts drafted))
  drafted_told None drafted is = tt
  drafted_told (Some shelf) drafted is = ap (mapped drafts) is

  refused_told : (told : Option Files) (fault : Fault) → IfSome told (λ shelf. value_under kinds.Rows names.rows (drafted_for names) shelf ≡ Err (refused fault)) → ComesTo told (draft names) (Err (refused fault))
  refused_told None fault is = tt
  refused_told (Some shelf) fault is = ap (mapped drafts) is

  pub is_posed : (drafted : Draft) → IsLoaded reading kinds.Rows names.rows (drafted_for names) (Ok drafted) → IsSoundInput (drafts drafted) → IsPosed reading (draft names) (drafts drafted)
  is_posed drafted loaded sound = record { agrees = drafted_told reading.before.files drafted loaded.agrees; posed = tt; sound = sound; loads = loaded.loads }

  pub agrees_none : (stop : Stop) → Agrees (λ outcome. IfSome reading.before.files (λ shelf. value_under kinds.Rows names.rows (drafted_for names) shelf ≡ outcome)) (Err stop) → Agrees (ComesTo reading.before.files (draft names)) (Err stop)
  agrees_none (stops.Refused fault) is = refused_told reading.before.files fault is
  agrees_none (stops.Unread file) is = tt
  agrees_none stops.Memory is = tt

  none_before : (told : Option Files) → IfSome told (λ shelf. IsOk (found_in [] shelf))
  unfolding found_after
  none_before None = tt
  none_before (Some shelf) = refl

  stopped_at : (loaded : Loaded) → reading.did ((names.rows, loaded) ∷ []) → StopsAt reading (files_of (draft names)) kinds.Rows loaded
  stopped_at loaded did = record { front = []; name = names.rows; rest = []; in_order = refl; accepted = none_before reading.before.files; loads = did }

  pub loads_none : (stop : Stop) → LoadsInVain reading kinds.Rows names.rows stop → LoadsUntil reading (files_of (draft names)) stop
  unfolding stopped_at
  loads_none (stops.Refused fault) vain = rw vain.0 (inl (⊎_elim (λ whole. inl (stopped_at loads.Whole whole)) (λ long. inr (stopped_at loads.Long long)) vain.1))
  loads_none (stops.Unread file) vain = rw vain.0 (record { stopped = stopped_at loads.Failed vain.1; cause = vain.2 })
  loads_none stops.Memory vain = inr (kinds.Rows, vain.0, stopped_at vain.0 vain.1)
