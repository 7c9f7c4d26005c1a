use Rattle.std.proofs.Common.{◌≡◌, ◌%◌, ◌⊎◌, inl, inr, ◌∙◌, arith}
use Rattle.pc_num.proofs.Comparing.{whole_differs, ends, turned}
use Rattle.pc_num.proofs.order.compare_sizes.Goals as goal
use Rattle.pc_num.proofs.order.compare_sizes.Goals.{then-rest-eq0-via-then-rest-eq0, then-rest-eq0-via-else-rest-eq0+then-rest_of_others-eq0}

pub returns-then-whole-others : goal.returns-then-whole-others
returns-then-whole-others c =
    let l = c.loop-whole in
    c.cmp.ensures ∙ whole_differs l.a l.b l.c l.d l.invariant.b_above l.invariant.d_above c.if-whole-others.true ∙ l.invariant.same

pub returns-then-rest-eq0 : goal.returns-then-rest-eq0
returns-then-rest-eq0 c =
    let l = c.loop-whole in
    let one : (l.a % l.b ≡ 0) ⊎ (l.c % l.d ≡ 0) =
    elim c.then-rest-eq0.branch [
      | then-rest-eq0-via-then-rest-eq0 w ↦ inl w.if-rest-eq0.true
      | then-rest-eq0-via-else-rest-eq0+then-rest_of_others-eq0 w ↦ inr w.if-rest_of_others-eq0.true
    ] in
    c.cmp-then-rest-eq0.ensures ∙ ends l.a l.b l.c l.d l.invariant.b_above l.invariant.d_above (omega arith) one ∙ l.invariant.same

pub loop-whole-preserved : goal.loop-whole-preserved
loop-whole-preserved c =
    let l = c.loop-whole in
    record {
      b_above = omega arith;
      d_above = omega arith;
      same = turned l.a l.b l.c l.d (omega arith) ∙ l.invariant.same;
    }
