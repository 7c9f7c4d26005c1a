-- The trees of proofs, and the lines of the ends, ask what is asked of the ends.
use Rattle.std.proofs.Common.{ℕ, ◌+◌, List, [], ◌∷◌, ◌++◌, length, All, Option, Some, None, IfSome}
use Rattle.std.proofs.lemmas.List.Elements.{All-nil, All-append}
use Rattle.pc_num.specs.declared.Frac.{Frac}
use Rattle.pc_model.specs.declared.row.Run.{Run}
use Rattle.pc_model.specs.declared.query.Agg.{Agg}
use Rattle.pc_model.specs.declared.query.Agg.TheVariants.{Count, Sum, Min, Max, Avg}
use Rattle.pc_proof.specs.declared.answer.Proof.{Proof}
use Rattle.pc_proof.specs.declared.answer.Proof.TheVariants as proofs
use Rattle.pc_proof.specs.declared.answer.Bounded.{Bounded}
use Rattle.pc_proof.specs.declared.answer.Why.{Why}
use Rattle.pc_proof.specs.declared.answer.Why.TheVariants as whys
use Rattle.pc_proof.specs.declared.answer.NeverBy.{NeverBy}
use Rattle.pc_proof.specs.declared.answer.NeverBy.TheVariants as nevers
use Rattle.pc_proof.specs.declared.answer.AlwaysBy.{AlwaysBy}
use Rattle.pc_proof.specs.declared.answer.AlwaysBy.TheVariants as alwayses
use Rattle.pc_proof.specs.declared.answer.Relation.{Relation}
use Rattle.pc_proof.specs.declared.answer.Mark.{Mark}
use Rattle.pc_proof.specs.declared.answer.Mark.TheVariants as marks
use Rattle.pc_proof.specs.declared.answer.End.{End}
use Rattle.pc_proof.specs.Setting.{Setting, on_chosen, program_for}
use Rattle.pc_proof.specs.Table.{ratio_of, none, one, minus_one, high_program, low_program, ShowsHigh, ShowsLow, EndsCross, ShowsImpossible, ShowsNever, ShowsAlways}
use Rattle.pc_proof.specs.Unbroken.{HoldsMark, HoldsLow, HoldsHigh, MayStand}
use Rattle.pc_proof.specs.Demands.{Placed, Holds, possible_runs, gives, low_by, high_by, proof_lines, high_trees, low_trees, mark_demands, mark_lines, low_demands, high_demands, ends_demands, tree_demands, crossing_trees, why_trees, never_trees, always_trees}
use Rattle.pc_proof.proofs.Parts.{All-front, All-back, two-hold, the-second, last-holds, the-last}
use Rattle.pc_proof.proofs.TreeLines.{demands-from_tree}

module _ (s : Setting) where
  abbrev asked_for : Agg
  asked_for = s.question.query.agg

  -- ---- the trees of proofs

  high-trees : (line : ℕ) (agg : Agg) (v : Frac) (proof : Proof) → ShowsHigh s agg (ratio_of v) proof → All (Holds s) (high_trees s line agg v proof)
  high-trees line Count v (proofs.Tree t) shown = demands-from_tree s (line + 1) (high_program s Count (ratio_of v)) t shown.sound.proves
  high-trees line Sum v (proofs.Tree t) shown = demands-from_tree s (line + 1) (high_program s Sum (ratio_of v)) t shown.sound.proves
  high-trees line Min v proofs.Rows shown = All-nil (Holds s)
  high-trees line Min v (proofs.Tree t) shown = demands-from_tree s (line + 1) (high_program s Min (ratio_of v)) t shown.sound.proves
  high-trees line Max v (proofs.Tree t) shown = demands-from_tree s (line + 1) (high_program s Max (ratio_of v)) t shown.0.sound.proves
  high-trees line Avg v (proofs.Tree t) shown = demands-from_tree s (line + 1) (high_program s Avg (ratio_of v)) t shown.sound.proves
  high-trees line Avg v (proofs.At r t) shown = demands-from_tree s (line + 1) (high_program s Avg (ratio_of r)) t shown.0.proves
  high-trees line Avg v proofs.Values shown = All-nil (Holds s)
  high-trees line agg v proof shown = absurd shown

  low-trees : (line : ℕ) (agg : Agg) (v : Frac) (proof : Proof) → ShowsLow s agg (ratio_of v) proof → All (Holds s) (low_trees s line agg v proof)
  low-trees line Count v (proofs.Tree t) shown = demands-from_tree s (line + 1) (low_program s Count (ratio_of v)) t shown.sound.proves
  low-trees line Sum v (proofs.Tree t) shown = demands-from_tree s (line + 1) (low_program s Sum (ratio_of v)) t shown.sound.proves
  low-trees line Min v (proofs.Tree t) shown = demands-from_tree s (line + 1) (low_program s Min (ratio_of v)) t shown.0.sound.proves
  low-trees line Max v proofs.Rows shown = All-nil (Holds s)
  low-trees line Max v (proofs.Tree t) shown = demands-from_tree s (line + 1) (low_program s Max (ratio_of v)) t shown.sound.proves
  low-trees line Avg v (proofs.Tree t) shown = demands-from_tree s (line + 1) (low_program s Avg (ratio_of v)) t shown.sound.proves
  low-trees line Avg v (proofs.At r t) shown = demands-from_tree s (line + 1) (low_program s Avg (ratio_of r)) t shown.0.proves
  low-trees line Avg v proofs.Values shown = All-nil (Holds s)
  low-trees line agg v proof shown = absurd shown

  crossing-trees : (line : ℕ) (low high : Bounded) → EndsCross s low high → All (Holds s) (crossing_trees s line low high)
  crossing-trees line low high cross =
      All-append (Holds s) (low_trees s (line + 2) asked_for low.value low.proof) (high_trees s (line + 3 + proof_lines low.proof) asked_for high.value high.proof)
      (low-trees (line + 2) asked_for low.value low.proof cross.low_holds)
      (high-trees (line + 3 + proof_lines low.proof) asked_for high.value high.proof cross.high_holds)

  pub why-trees : (line : ℕ) (why : Why) → ShowsImpossible s why → All (Holds s) (why_trees s line why)
  why-trees line (whys.Void t) shown = demands-from_tree s (line + 1) (program_for s none) t shown.sound.proves
  why-trees line (whys.Cross t u) shown =
      All-append (Holds s) (tree_demands (line + 1) (program_for s one) t) (tree_demands (line + 1 + length t.nodes) (program_for s minus_one) u)
      (demands-from_tree s (line + 1) (program_for s one) t shown.0.proves)
      (demands-from_tree s (line + 1 + length t.nodes) (program_for s minus_one) u shown.1.proves)
  why-trees line (whys.Ends low high) shown = crossing-trees line low high shown.0

  pub never-trees : (line : ℕ) (by' : NeverBy) → ShowsNever s by' → All (Holds s) (never_trees s line by')
  never-trees line nevers.Rows shown = All-nil (Holds s)
  never-trees line (nevers.Tree t) shown = demands-from_tree s (line + 1) (program_for s (on_chosen minus_one)) t shown.sound.proves

  pub always-trees : (line : ℕ) (by' : AlwaysBy) → ShowsAlways s by' → All (Holds s) (always_trees s line by')
  always-trees line (alwayses.Tree t) shown = demands-from_tree s (line + 1) (program_for s (on_chosen one)) t shown.1.sound.proves
  always-trees line (alwayses.Ends low high) shown = crossing-trees line low high shown.1

  -- ---- an end

  abbrev pub runs_line : ℕ → List Run → Placed
  runs_line line runs = record { line = line; rule = 5; demand = possible_runs runs }

  abbrev value_line : ℕ → Frac → List Run → Placed
  value_line line value runs = record { line = line; rule = 6; demand = gives value runs }

  marked : (line : ℕ) (value : Frac) (mark : Mark) → HoldsMark s value mark → All (Holds s) (mark_demands line value mark)
  marked line value (marks.Exact runs) held = two-hold s (runs_line line runs) (value_line line value runs) held.by held
  marked line value marks.Outer held = All-nil (Holds s)

  mark-from_demands : (line : ℕ) (value : Frac) (mark : Mark) → All (Holds s) (mark_demands line value mark) → HoldsMark s value mark
  mark-from_demands line value (marks.Exact runs) all = the-second s (runs_line line runs) (value_line line value runs) all
  mark-from_demands line value marks.Outer all = tt

  abbrev low_line : ℕ → End → Placed
  low_line line end = record { line = line; rule = 11; demand = low_by end }

  abbrev high_line : ℕ → End → Placed
  high_line line end = record { line = line; rule = 12; demand = high_by end }

  -- the trees of an end's proof
  abbrev under_low : ℕ → End → List Placed
  under_low line end = low_trees s (line + mark_lines end.mark) asked_for end.value end.proof

  abbrev under_high : ℕ → End → List Placed
  under_high line end = high_trees s (line + mark_lines end.mark) asked_for end.value end.proof

  low-holds : (line : ℕ) (end : End) → HoldsLow s end → All (Holds s) (low_demands s line end)
  low-holds line end held =
      last-holds s (mark_demands line end.value end.mark) (under_low line end) (low_line line end)
      (marked line end.value end.mark held.marked) (low-trees (line + mark_lines end.mark) asked_for end.value end.proof held.shown) (held.shown, held.kind)

  high-holds : (line : ℕ) (end : End) → HoldsHigh s end → All (Holds s) (high_demands s line end)
  high-holds line end held =
      last-holds s (mark_demands line end.value end.mark) (under_high line end) (high_line line end)
      (marked line end.value end.mark held.marked) (high-trees (line + mark_lines end.mark) asked_for end.value end.proof held.shown) (held.shown, held.kind)

  low-from_demands : (line : ℕ) (end : End) → All (Holds s) (low_demands s line end) → HoldsLow s end
  low-from_demands line end all =
      let before = mark_demands line end.value end.mark ++ under_low line end in
      let last = the-last s before (low_line line end) all in
      record {
        marked =
            mark-from_demands line end.value end.mark
            (All-front (Holds s) (mark_demands line end.value end.mark) (under_low line end) (All-front (Holds s) before (low_line line end ∷ []) all));
        shown = last.0;
        kind = last.1;
      }

  high-from_demands : (line : ℕ) (end : End) → All (Holds s) (high_demands s line end) → HoldsHigh s end
  high-from_demands line end all =
      let before = mark_demands line end.value end.mark ++ under_high line end in
      let last = the-last s before (high_line line end) all in
      record {
        marked =
            mark-from_demands line end.value end.mark
            (All-front (Holds s) (mark_demands line end.value end.mark) (under_high line end) (All-front (Holds s) before (high_line line end ∷ []) all));
        shown = last.0;
        kind = last.1;
      }

  -- ---- both ends, which may stand beside the relation

  abbrev pub Stand : Relation → Option (End × End) → Type 0
  Stand relation ends = IfSome ends (λ e. MayStand relation e.0 × MayStand relation e.1)

  abbrev high_start : ℕ → End → ℕ
  high_start line low = line + mark_lines low.mark + proof_lines low.proof

  pub ends-hold : (line : ℕ) (relation : Relation) (ends : Option (End × End)) → IfSome ends (λ e. HoldsLow s e.0 × MayStand relation e.0)
      → IfSome ends (λ e. HoldsHigh s e.1 × MayStand relation e.1) → All (Holds s) (ends_demands s line ends)
  ends-hold line relation None low high = All-nil (Holds s)
  ends-hold line relation (Some e) low high =
      All-append (Holds s) (low_demands s line e.0) (high_demands s (high_start line e.0) e.1) (low-holds line e.0 low.0) (high-holds (high_start line e.0) e.1 high.0)

  pub lows-from_demands : (line : ℕ) (relation : Relation) (ends : Option (End × End)) → All (Holds s) (ends_demands s line ends) → Stand relation ends
      → IfSome ends (λ e. HoldsLow s e.0 × MayStand relation e.0)
  lows-from_demands line relation None all stand = tt
  lows-from_demands line relation (Some e) all stand =
      (low-from_demands line e.0 (All-front (Holds s) (low_demands s line e.0) (high_demands s (high_start line e.0) e.1) all), stand.0)

  pub highs-from_demands : (line : ℕ) (relation : Relation) (ends : Option (End × End)) → All (Holds s) (ends_demands s line ends) → Stand relation ends
      → IfSome ends (λ e. HoldsHigh s e.1 × MayStand relation e.1)
  highs-from_demands line relation None all stand = tt
  highs-from_demands line relation (Some e) all stand =
      (high-from_demands (high_start line e.0) e.1 (All-back (Holds s) (low_demands s line e.0) (high_demands s (high_start line e.0) e.1) all), stand.1)
