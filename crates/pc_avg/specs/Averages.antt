-- What an answer to an average is made of.
use Rattle.std.specs.Prelude.{Bool, ◌&&◌, not, ⊤, pos, ◌≤ℤ◌, Option, Some, None, IfSome}
use Rattle.pc_num.specs.Fractions.{IsFrac}
use Rattle.pc_num.specs.declared.fraction.Frac.{Frac}
use Rattle.pc_model.specs.Right.{is_always, is_impossible}
use Rattle.pc_proof.specs.declared.answer.End.{End}
use Rattle.pc_proof.specs.declared.answer.Answer.{Answer}
use Rattle.pc_proof.specs.declared.answer.Proof.{Proof}
use Rattle.pc_proof.specs.declared.answer.Proof.TheVariants as proofs
use Rattle.pc_proof.specs.declared.answer.Relation.{Relation}
use Rattle.pc_proof.specs.declared.answer.Lack.{Lack}
use Rattle.pc_proof.specs.Unbroken.{plain_lack, plain_relation}

-- some list may be possible and give a value
abbrev pub has_ends : Relation → Lack → Bool
has_ends relation lack = not (is_impossible (plain_relation relation)) && not (is_always (plain_lack lack))

abbrev pub both : Option End → Option End → Option (End × End)
both None high = None
both (Some low) None = None
both (Some low) (Some high) = Some (low, high)

-- a fraction in lowest terms whose denominator is no greater than those of averages are
pub record IsShort (value : Frac) : Type 0 where
  pub lowest : IsFrac value
  pub small : value.den ≤ℤ pos 30_000_000_000_000_000

-- the ratio of a proof is in lowest terms too
abbrev pub HasLowestRatio : Proof → Type 0
HasLowestRatio (proofs.At r t) = IsFrac r
HasLowestRatio (proofs.Tree t) = ⊤
HasLowestRatio proofs.Rows = ⊤
HasLowestRatio proofs.Values = ⊤

abbrev pub IsShortEnd : End → Type 0
IsShortEnd end = IsShort end.value × HasLowestRatio end.proof

abbrev pub HasShortEnds : Answer → Type 0
HasShortEnds answer = IfSome answer.ends (λ ends. IsShortEnd ends.0 × IsShortEnd ends.1)
