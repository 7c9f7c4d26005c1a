-- What a reader answers, against the value or the first fault that a definition gives.
use Rattle.std.specs.Prelude.{◌≡◌, ℕ, ⊤, Result, Ok, Err}
use Rattle.pc_model.specs.declared.fault.FileKind.{FileKind}
use Rattle.pc_model.specs.declared.fault.Reason.{Reason}
use Rattle.pc_model.specs.declared.fault.Fault.{Fault}
use Rattle.pc_model.specs.declared.fault.Refusal.{Refusal}
use Rattle.pc_model.specs.declared.fault.Refusal.TheVariants as refusals
use Rattle.pc_model.specs.declared.fault.ReadStop.{ReadStop}
use Rattle.pc_model.specs.declared.fault.ReadStop.TheVariants as stops

infixl 10 ◌>>=◌
abbrev pub ◌>>=◌ : {E A B : Type 0} → Result A E → (A → Result B E) → Result B E
(Ok x) >>= f = f x
(Err e) >>= f = Err e

abbrev pub fault_at : FileKind → ℕ → Reason → Fault
fault_at file place reason = record { file = file; place = place; reason = reason }

abbrev pub refusal_at : FileKind → ℕ → ReadStop → Refusal
refusal_at file place (stops.Reason reason) = refusals.Fault (fault_at file place reason)
refusal_at file place stops.Memory = refusals.Memory

-- what a part of a file gives, with its place
abbrev pub placed : {A : Type 0} → FileKind → ℕ → Result A Reason → Result A Fault
placed file place (Ok x) = Ok x
placed file place (Err reason) = Err (fault_at file place reason)

abbrev pub StopsAs : {A : Type 0} → ReadStop → Result A Reason → Type 0
StopsAs (stops.Reason reason) wanted = wanted ≡ Err reason
StopsAs stops.Memory wanted = ⊤

-- what was answered for a part of a file is what is wanted, unless memory ran out
abbrev pub Answers : {A : Type 0} → Result A ReadStop → Result A Reason → Type 0
Answers (Ok x) wanted = wanted ≡ Ok x
Answers (Err stop) wanted = StopsAs stop wanted

abbrev pub RefusesAs : {A : Type 0} → Refusal → Result A Fault → Type 0
RefusesAs (refusals.Fault fault) wanted = wanted ≡ Err fault
RefusesAs refusals.Memory wanted = ⊤

-- what was answered is what is wanted, unless memory ran out
abbrev pub Gives : {A : Type 0} → Result A Refusal → Result A Fault → Type 0
Gives (Ok x) wanted = wanted ≡ Ok x
Gives (Err refusal) wanted = RefusesAs refusal wanted
