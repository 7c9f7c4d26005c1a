use Rattle.std.proofs.Common.{◌≡◌, ◌≤◌, ◌⊎◌, nat_abs, take, All, Any}
use Rattle.pc_simplex.proofs.setting.greatest_gain.Given as goal

abbrev pub invariant-loop-gain : goal.invariant-loop-gain
invariant-loop-gain l = record {
  some : 1 ≤ l.top;
  reached : (l.top ≡ 1) ⊎ Any (λ g. nat_abs g ≡ l.top) l.p.gain;
  most : All (λ g. nat_abs g ≤ l.top) (take l.gain-index l.p.gain);
}
