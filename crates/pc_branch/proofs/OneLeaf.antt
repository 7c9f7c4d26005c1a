-- A tree of one leaf shows what constraints that share no cell have as their best.
use Rattle.std.proofs.Common.{◌≡◌, ◌≤◌, ℕ, List, [], ◌∷◌, Some, refl, sym, ap, subst, arith}
use Rattle.std.specs.Prelude.{ℤ}
use Rattle.std.proofs.lemmas.Int.{ints}
use Rattle.pc_model.specs.declared.tree.Mult.{Mult}
use Rattle.pc_model.specs.declared.tree.TreeNode.{TreeNode}
use Rattle.pc_model.specs.declared.tree.TreeNode.TheVariants as nodes
use Rattle.pc_program_bound.specs.declared.program.Program.{Program}
use Rattle.pc_program_bound.specs.Allocation.{IsAllocation, worth}
use Rattle.pc_program_bound.specs.Bound.{IsMultiplier, IsVoid, bound_of}
use Rattle.pc_program_bound.specs.SplitTrees.{IsInPreorder, tree_of}
use Rattle.pc_program_bound.proofs.Duality.{worth-le-bound, void-none}
use Rattle.pc_simplex.specs.Vertices.{IsFitMult}
use Rattle.pc_branch.specs.Outcome.{IsBest, IsNothing}

pub best_one : (p : Program) (budget : ℕ) (counts : List ℕ) (value : ℤ) (mult : Mult) (list : List TreeNode) → 1 ≤ budget → list ≡ nodes.Bound mult ∷ []
    → IsAllocation p p.floor p.cap counts → value ≡ worth p counts → IsMultiplier p mult → value ≡ bound_of p p.floor p.cap mult → IsFitMult mult
    → IsInPreorder list × IsBest p budget counts value (tree_of list)
best_one p budget counts value mult list some is allowed worth_is by bounded fits =
    subst (λ (nodes : List TreeNode). IsInPreorder nodes × IsBest p budget counts value (tree_of nodes)) (sym is) (
      refl,
      record {
        allowed = allowed;
        is = sym worth_is;
        greatest = λ others other.
            let most = worth-le-bound p p.floor p.cap others mult other (let positive = by.positive in omega (arith, ints, positive)) in
            omega (arith, ints, most, bounded);
        shown = record { proves = by; fits = fits; search = record { few = some; splits = tt } };
        bounded = ap Some (sym bounded);
      },
    )

pub nothing_one : (p : Program) (budget : ℕ) (mult : Mult) (list : List TreeNode) → 1 ≤ budget → list ≡ nodes.Void mult ∷ []
    → IsVoid p p.floor p.cap mult → IsFitMult mult → IsInPreorder list × IsNothing p budget (tree_of list)
nothing_one p budget mult list some is empty fits =
    subst (λ (nodes : List TreeNode). IsInPreorder nodes × IsNothing p budget (tree_of nodes)) (sym is) (
      refl,
      record {
        empty = λ counts allowed. void-none p p.floor p.cap counts mult empty allowed;
        shown = record { proves = empty; fits = fits; search = record { few = some; splits = tt } };
        none = refl;
      },
    )
