-- What is found of a statement with runs before the lines of its proof, and its own line last.
use Rattle.std.proofs.Common.{List, [], ◌∷◌, ◌++◌, None, Some, Ok, Err, refl, inl}
use Rattle.pc_proof.specs.Setting.{Setting}
use Rattle.pc_proof.specs.Demands.{Placed, Holds, Judges}
use Rattle.pc_proof.proofs.Parts.{last-holds}
use Rattle.pc_check_rules.specs.declared.halt.Halt.{Halt}
use Rattle.pc_check_rules.specs.declared.halt.Halt.TheVariants as halts
use Rattle.pc_check_rules.specs.Halts.{HaltsIn}
use Rattle.pc_check_rules.proofs.Verdicts.{judges-back, stops, goes_on}
use Rattle.pc_check.specs.Verdicts.{Keeps}

module _ (s : Setting) (runs lines : List Placed) (d : Placed) (held : Judges s runs None) where
  pub proof_broken : (halt : Halt) → HaltsIn s lines halt → Keeps s (runs ++ lines ++ d ∷ []) (Err halt)
  proof_broken halt broken = stops s (runs ++ lines) (d ∷ []) halt (goes_on s runs lines {X = Unit {0}} (λ kept. Unit {0}) (Err halt) held broken)

  module _ (proved : Judges s lines None) where
    pub stands : Holds s d → Keeps s (runs ++ lines ++ d ∷ []) (Ok tt)
    stands met = (last-holds s runs lines d held proved met, tt)

    pub falls : (Holds s d → ⊥) → Keeps s (runs ++ lines ++ d ∷ []) (Err (halts.Broken d.line d.rule))
    falls unmet = judges-back s (runs ++ lines) (d ∷ []) (Some (d.line, d.rule)) (judges-back s runs lines None held proved) (inl (unmet, refl, refl))
