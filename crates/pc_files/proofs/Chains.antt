-- Which loads there were, one after the other.
use Rattle.std.proofs.Common.{ℕ, ⊎_elim, inl, inr, List, [], ◌∷◌, ◌++◌, length, refl, sym, subst}
use Rattle.std.proofs.Math.Seq.{take-length}
use Rattle.pc_base.specs.Loads.{Load, Chain}
use Rattle.pc_base.specs.declared.outside.Loaded.{Loaded}
use Rattle.pc_base.specs.declared.outside.Loaded.TheVariants as loads
use Rattle.pc_files.specs.declared.stop.Stop.{Stop}
use Rattle.pc_files.specs.declared.stop.Stop.TheVariants as stops
use Rattle.pc_files.specs.Outcome.{NamedFile}
use Rattle.pc_files.specs.Loading.{Reading, LoadsAll, LoadsUntil, IsInOrder, wholes}

pub one_load : {S : Type 0} (leads : S → List ℕ → Loaded → S → Type 0) (old new : S) (name : List ℕ) (loaded : Loaded) → leads old name loaded new → Chain leads old new ((name, loaded) ∷ [])
one_load leads old new name loaded led = (new, led, refl)

pub more : {S : Type 0} (leads : S → List ℕ → Loaded → S → Type 0) (old middle new : S) (first later : List Load) → Chain leads old middle first → Chain leads middle new later → Chain leads old new (first ++ later)
more leads old middle new [] later did after = subst (λ s. Chain leads s new later) did after
more leads old middle new (load ∷ first) later did after = (did.0, did.1, more leads did.0 middle new first later did.2 after)

-- ---- in order

pub all_in_order : (reading : Reading) (files : List NamedFile) → LoadsAll reading files → IsInOrder reading files
all_in_order reading files all = inl (length files, subst (λ (fs : List NamedFile). reading.did (wholes fs)) (sym (take-length files)) all)

pub until_in_order : (reading : Reading) (files : List NamedFile) (stop : Stop) → LoadsUntil reading files stop → IsInOrder reading files
until_in_order reading files (stops.Refused fault) ends =
    ⊎_elim (λ stopped. ⊎_elim (λ whole. inr (fault.file, loads.Whole, whole)) (λ long. inr (fault.file, loads.Long, long)) stopped) (λ query. all_in_order reading files query.1) ends
until_in_order reading files (stops.Unread kind) unread = inr (kind, loads.Failed, unread.stopped)
until_in_order reading files stops.Memory is = is
