-- The names of constraints that are told, as far as a loop has come.
use Rattle.std.proofs.Common.{◌≡◌, ℕ, ◌+◌, ◌<◌, ◌≤◌, Bool, List, [], ◌∷◌, ◌++◌, length, get_or, drop, refl}
use Rattle.pc_model.specs.declared.constraint.Constraint.{Constraint}
use Rattle.pc_model.proofs.Pieces.{pieces_step, pieces_past, pieces_spent}
use Rattle.pc_desk_run.specs.Texts.{beside_names, name_if}

next_name : (c : Constraint) (cs : List Constraint) (t : Bool) (ts : List Bool) → beside_names (c ∷ cs) (t ∷ ts) ≡ name_if c t ++ beside_names cs ts
unfolding beside_names
next_name c cs t ts = refl

no_constraints : (ts : List Bool) → beside_names [] ts ≡ []
unfolding beside_names
no_constraints ts = refl

no_truths : (cs : List Constraint) → beside_names cs [] ≡ []
unfolding beside_names
no_truths [] = refl
no_truths (c ∷ cs) = refl

pub names_step : (items : List ℕ) (cs : List Constraint) (ts : List Bool) (i : ℕ) (c : Constraint) (t : Bool) → i < length cs → i < length ts →
    (items ++ name_if (get_or cs i c) (get_or ts i t)) ++ beside_names (drop (i + 1) cs) (drop (i + 1) ts) ≡ items ++ beside_names (drop i cs) (drop i ts)
names_step = pieces_step beside_names name_if next_name

pub names_past : (items : List ℕ) (cs : List Constraint) (ts : List Bool) (i : ℕ) → length cs ≤ i → items ++ beside_names (drop i cs) (drop i ts) ≡ items
names_past = pieces_past beside_names no_constraints

pub names_spent : (items : List ℕ) (cs : List Constraint) (ts : List Bool) (i : ℕ) → length ts ≤ i → items ++ beside_names (drop i cs) (drop i ts) ≡ items
names_spent = pieces_spent beside_names no_truths

pub ruleset steps = (names_step, names_past, names_spent)
