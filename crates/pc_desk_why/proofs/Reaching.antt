-- The rows that reach the ends of an answer to a quantile that is right are possible.
use Rattle.std.proofs.Common.{◌≡◌, ℤ, pos, ◌<ℤ◌, List, Option, Some, None, sym, subst, arith}
use Rattle.std.specs.Prelude.{IfSome}
use Rattle.std.proofs.lemmas.Int.{ints}
use Rattle.pc_model.specs.declared.row.Run.{Run}
use Rattle.pc_model.specs.Aggregate.{Ratio}
use Rattle.pc_model.specs.Right.{Answer, ArePossible, End, Mark, Question, Relation, exact, outer}
use Rattle.pc_lang.specs.declared.quantile.Quantile.{Quantile}
use Rattle.pc_quantile.specs.Right.{AreRightEnds, IsRight as IsRightQuantile, IsRightEnd as IsRightQuantileEnd, IsRightMark}
use Rattle.pc_desk_parts.specs.declared.asked.Asked.{Asked as Ask}
use Rattle.pc_desk_why.specs.Scopes.{AreReachable, IsReachable, MayReach}

module _ (ask : Ask) (q : Question) (schema : ask.schema.now ≡ q.schema) (constraints : ask.constraints.now ≡ q.constraints) where
  possible_reach : (runs : List Run) → ArePossible q runs → MayReach ask (exact runs)
  possible_reach runs are = (are.each_stands, rw (schema, constraints) are.are_possible)

  -- ---- of a quantile

  module _ (asked : Quantile) where
    mark_reaches : (number : ℤ) (mark : Mark) → IsRightMark q asked number mark → MayReach ask mark
    mark_reaches number (exact runs) right = possible_reach runs right.by
    mark_reaches number outer right = tt

    end_reaches : (relation : Relation) (number : ℤ) (end : End) → IsRightQuantileEnd q asked relation number end → IsReachable ask end
    end_reaches relation number end right = record {
      positive = subst (λ (v : Ratio). pos 0 <ℤ v.den) (sym right.value) (omega (arith, ints));
      rows = mark_reaches number end.mark right.mark;
    }

    both_reach : (relation : Relation) (ends : Option (End × End)) → IfSome ends (λ both. AreRightEnds q asked relation both.0 both.1) → AreReachable ask ends
    both_reach relation None right = tt
    both_reach relation (Some both) right = (end_reaches relation right.least both.0 right.low_end, end_reaches relation right.greatest both.1 right.high_end)

    pub quantile_reaches : (answer : Answer) → IsRightQuantile q asked answer → AreReachable ask answer.ends
    quantile_reaches answer right = both_reach answer.relation answer.ends right.ends
