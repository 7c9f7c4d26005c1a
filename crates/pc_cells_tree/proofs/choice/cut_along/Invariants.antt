use Rattle.std.proofs.Common.{◌≡◌, drop, MatchOption}
use Rattle.std.specs.Prelude.{⊤}
use Rattle.std.specs.Cmp.Lexicographic.{pointwise}
use Rattle.pc_box.specs.Sides.{is_within}
use Rattle.pc_cells_tree.specs.Choices.{cut_at, passed_by, IsCounted}
use Rattle.pc_cells_tree.specs.Stances.{IsAlong}
use Rattle.pc_cells_tree.proofs.Chosen.{HasFewest}
use Rattle.pc_cells_tree.proofs.choice.cut_along.Given as goal

abbrev pub invariant-loop-place : goal.invariant-loop-place
invariant-loop-place l = record {
  candidate : MatchOption l.best (pointwise is_within l.sides l.others ≡ pointwise is_within (drop l.place l.sides) (drop l.place l.others)) (λ candidate. IsAlong l.part l.region candidate.cut);
  fewest : HasFewest (cut_at l.part l.region) (passed_by l.part l.constraints l.known) l.place l.best;
  counted : MatchOption l.best ⊤ (IsCounted l.part l.constraints l.known);
}
