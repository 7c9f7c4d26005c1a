-- The program of cells by their masks is that of any classes with these masks.
use Rattle.std.proofs.Common.{◌≡◌, ℕ, ℤ, List, [], ◌∷◌, map, refl, sym, ap, ◌∙◌}
use Rattle.pc_model.specs.declared.constraint.Constraint.{Constraint}
use Rattle.pc_model.specs.Cells.{Class}
use Rattle.pc_program_bound.specs.declared.program.Program.{Program}
use Rattle.pc_program_bound.specs.CellPrograms.{program_with}
use Rattle.pc_proof.specs.Masks.{cap_for, program_by}

-- a list made of another in two steps
pub map_twice : {X Y Z : Type 0} (f : Y → Z) (g : X → Y) (xs : List X) → map (λ x. f (g x)) xs ≡ map f (map g xs)
map_twice f g [] = refl
map_twice f g (x ∷ xs) = ap (λ later. f (g x) ∷ later) (map_twice f g xs)

pub program_by_masks : (constraints : List Constraint) (masks : List ℕ) (gains : List ℤ) (program : Program) → program ≡ program_by constraints masks gains
    → (classes : List Class) → map (λ (class : Class). class.mask) classes ≡ masks → program ≡ program_with constraints classes gains
program_by_masks constraints masks gains program is classes same =
    is ∙ sym (ap (λ found. program_by constraints found gains) same) ∙ (λ k. record {
      masks = map (λ (class : Class). class.mask) classes;
      least = map (λ (c : Constraint). c.least) constraints;
      most = map (λ (c : Constraint). c.most) constraints;
      floor = sym (map_twice (λ (mask : ℕ). 0) (λ (class : Class). class.mask) classes) k;
      cap = sym (map_twice (cap_for constraints) (λ (class : Class). class.mask) classes) k;
      gain = gains;
    })
