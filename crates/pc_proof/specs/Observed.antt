-- What the observed rows of a question come to.
use Rattle.std.specs.Prelude.{◌≡◌, pos, IfSome}
use Rattle.pc_model.specs.declared.query.Folded.{Folded}
use Rattle.pc_model.specs.Right.{Question}
use Rattle.pc_proof.specs.Setting.{seen_count, seen_sum, seen_least, seen_greatest}

-- the numbers that a fold of the observed rows has
pub record ComesTo (q : Question) (seen : Folded) : Type 0 where
  pub count : seen_count q ≡ pos seen.count
  pub sum : IfSome q.query.column (λ _. seen_sum q ≡ seen.sum)
  pub least : IfSome q.query.column (λ _. seen_least q ≡ seen.least)
  pub greatest : IfSome q.query.column (λ _. seen_greatest q ≡ seen.greatest)
