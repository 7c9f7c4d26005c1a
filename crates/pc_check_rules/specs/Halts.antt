-- What a judgement ends with: what it shows, or the first broken line and its rule. Nothing is said where there was no memory.
use Rattle.std.specs.Prelude.{ℕ, ⊤, List, Some, None, Result, Ok, Err}
use Rattle.pc_proof.specs.Setting.{Setting}
use Rattle.pc_proof.specs.Demands.{Placed, Judges}
use Rattle.pc_check_rules.specs.declared.halt.Halt.{Halt}
use Rattle.pc_check_rules.specs.declared.halt.Halt.TheVariants as halts

-- this is so of the broken line and its rule
abbrev pub HaltsAs : (ℕ → ℕ → Type 0) → Halt → Type 0
HaltsAs Q (halts.Broken line rule) = Q line rule
HaltsAs Q halts.Memory = ⊤

-- the first is so of what is shown, or the second of the broken line and its rule
abbrev pub Gives : {X : Type 0} → (X → Type 0) → (ℕ → ℕ → Type 0) → Result X Halt → Type 0
Gives P Q (Ok shown) = P shown
Gives P Q (Err halt) = HaltsAs Q halt

-- the first of the demands that is broken
abbrev pub HaltsIn : Setting → List Placed → Halt → Type 0
HaltsIn s demands halt = HaltsAs (λ line rule. Judges s demands (Some (line, rule))) halt

-- none of the demands is broken, and this is so of what is shown, or a first one is broken
abbrev pub Finds : {X : Type 0} → Setting → List Placed → (X → Type 0) → Result X Halt → Type 0
Finds s demands P result = Gives (λ shown. Judges s demands None × P shown) (λ line rule. Judges s demands (Some (line, rule))) result
