-- What each constraint gives, and what the runs of rows add up to, as far as a loop has come.
use Rattle.std.proofs.Common.{◌≡◌, ◌∙◌, ℕ, ◌+◌, ◌<◌, ◌≤◌, List, [], ◌∷◌, ◌++◌, get_or, length, take, sym, ap, append-nil, append_assoc}
use Rattle.std.specs.List.{enumerate_from, flat_map}
use Rattle.std.proofs.lemmas.List.{take_all}
use Rattle.std.proofs.lemmas.List.Concat.{flat_map-append}
use Rattle.pc_model.specs.declared.constraint.Constraint.{Constraint}
use Rattle.pc_desk_table.proofs.Enumerated.{enumerate_more}
use Rattle.pc_desk_parts.specs.Held.{of_each}

module _ {X : Type 0} (given : ℕ → Constraint → List X) (constraints : List Constraint) (place : ℕ) (d : Constraint) (here : place < length constraints) where
  pub each_more : of_each given (take (place + 1) constraints) ≡ of_each given (take place constraints) ++ given place (get_or constraints place d)
  each_more =
      ap (flat_map (λ (entry : ℕ × Constraint). given entry.0 entry.1)) (enumerate_more constraints place d here)
      ∙ flat_map-append (λ (entry : ℕ × Constraint). given entry.0 entry.1) (enumerate_from 0 (take place constraints)) ((place, get_or constraints place d) ∷ [])
      ∙ ap (λ (more : List X). of_each given (take place constraints) ++ more) (append-nil (given place (get_or constraints place d)))

  pub each_in : (item : X) → given place (get_or constraints place d) ≡ item ∷ [] → of_each given (take (place + 1) constraints) ≡ of_each given (take place constraints) ++ item ∷ []
  each_in item one = each_more ∙ ap (λ (more : List X). of_each given (take place constraints) ++ more) one

  pub each_out : given place (get_or constraints place d) ≡ [] → of_each given (take (place + 1) constraints) ≡ of_each given (take place constraints)
  each_out none = each_more ∙ ap (λ (more : List X). of_each given (take place constraints) ++ more) none ∙ append-nil (of_each given (take place constraints))

module _ {X : Type 0} (given : ℕ → Constraint → List X) (constraints : List Constraint) (place : ℕ) (past : length constraints ≤ place) where
  pub each_all : of_each given (take place constraints) ≡ of_each given constraints
  each_all = ap (of_each given) (take_all place constraints past)

-- after what stands before them
module _ {X : Type 0} (given : ℕ → Constraint → List X) (constraints : List Constraint) (place : ℕ) (d : Constraint) (here : place < length constraints) where
  pub each_after : (start held new : List X) → held ≡ start ++ of_each given (take place constraints) → new ≡ held ++ given place (get_or constraints place d)
      → new ≡ start ++ of_each given (take (place + 1) constraints)
  each_after start held new before one =
      one ∙ ap (λ (items : List X). items ++ given place (get_or constraints place d)) before
      ∙ append_assoc start (of_each given (take place constraints)) (given place (get_or constraints place d))
      ∙ ap (λ (items : List X). start ++ items) (sym (each_more given constraints place d here))

pub ruleset steps = (each_in, each_out, each_more, each_all)
