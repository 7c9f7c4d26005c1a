-- What the relaxation of a box shows: its point is of greatest worth, its multipliers that the box is void, and there is one of it.
use Rattle.std.proofs.Common.{◌≡◌, ℕ, ◌<◌, List, length, refl, ap, sym, subst, ◌∙◌, arith, inl, inr}
use Rattle.std.specs.Prelude.{pos, ◌<ℤ◌, ◌≤ℤ◌, slice_index_or}
use Rattle.std.proofs.lemmas.Int.{ints}
use Rattle.std.proofs.lemmas.Bool.{cases_lt}
use Rattle.std.proofs.lemmas.List.{same_lists, get_or_past, get_or_default}
use Rattle.pc_num.specs.declared.Frac.{Frac}
use Rattle.pc_model.specs.declared.tree.Mult.{Mult}
use Rattle.pc_program_bound.specs.declared.program.Program.{Program}
use Rattle.pc_program_bound.specs.Sums.{nat_at}
use Rattle.pc_program_bound.specs.Allocation.{cells_of, constraints_of, IsBox, IsProgram}
use Rattle.pc_program_bound.specs.Bound.{IsVoid, HasFitWidth, without_gain}
use Rattle.pc_simplex_tableau.specs.declared.step.Step.{Step}
use Rattle.pc_simplex_tableau.specs.Tableau.{Tableau}
use Rattle.pc_simplex_tableau.specs.Relaxation.{multiplier, multipliers, Ending, at_vertex, at_void, at_wide, at_stall, ending}
use Rattle.pc_simplex_tableau.specs.Point.{under_at, count_over, no_count, IsPointOf, IsNarrow, Relaxation, vertex, void, wide, stalled, IsEnding, IsRelaxation}
use Rattle.pc_simplex_tableau.proofs.Listed.{length-table}
use Rattle.pc_simplex_tableau.proofs.Counted.{under-positive}
use Rattle.pc_simplex_tableau.proofs.WholeEnds.{vertex_stands, vertex_counts, void_shows}
use Rattle.pc_simplex.specs.Vertices.{count_at, IsVertex}
use Rattle.pc_simplex.proofs.Counts.{across, one_count}

module _ (p : Program) (floors caps : List ℕ) (program : IsProgram p) (box : IsBox p floors caps) where
  -- ---- the point of a vertex

  module _ (steps : List Step) (t : Tableau) (at : ending p floors caps ≡ at_vertex steps t) where
    weighed : pos 1 ≤ℤ t.weight
    weighed = let above = (vertex_stands p floors caps steps t program box at).0.meant.solved.weighed in omega (arith, ints, above)

    pub under-above : (i : ℕ) → pos 0 <ℤ under_at t i
    under-above = under-positive t (vertex_stands p floors caps steps t program box at).0.meant.solved

    positive_each : (point : List Frac) → IsPointOf p floors caps t point → (i : ℕ) → pos 1 ≤ℤ (count_at point i).den
    positive_each point of i = elim (cases_lt i (cells_of p)) [
      | inl lt ↦ (of.counts i lt).positive
      | inr past ↦ subst (λ (count : Frac). pos 1 ≤ℤ count.den) (sym (get_or_past point i no_count (omega (arith, past, of.sized)))) (omega (arith, ints))
    ]

    IsVertex-narrow : (point : List Frac) → IsNarrow p floors caps t point → IsVertex p floors caps point (multipliers p t t.weight)
    IsVertex-narrow point narrow =
        let there = vertex_counts p floors caps steps t program box at in
        record {
          by = record { sized = length-table (constraints_of p) (multiplier p t); positive = weighed; wide = narrow.width };
          den = there.den;
          counts = there.counts;
          relaxed = there.relaxed;
          greatest = there.greatest;
          sized = narrow.point_of.sized;
          positive = positive_each point narrow.point_of;
          reduced = λ i lt. (narrow.point_of.counts i lt).reduced;
          counted = λ i lt.
              across (count_over p floors caps t i) (under_at t i) (count_at point i).num (count_at point i).den (pos (nat_at there.counts i)) (pos there.den)
              (under-above i) (narrow.point_of.counts i lt).same (there.counted i lt);
        }

    one_point : (a b : List Frac) → IsPointOf p floors caps t a → IsPointOf p floors caps t b → a ≡ b
    one_point a b first second = same_lists a b (first.sized ∙ sym second.sized) each
      where
        each : (k : ℕ) (d : Frac) → k < length a → slice_index_or a k d ≡ slice_index_or b k d
        each k d lt =
            let inside : k < cells_of p = omega (arith, lt, first.sized) in
            let there : k < length b = omega (arith, inside, second.sized) in
            get_or_default a k d no_count lt
            ∙ one_count p floors caps t k (count_at a k) (count_at b k) (under-above k) (first.counts k inside) (second.counts k inside)
            ∙ sym (get_or_default b k d no_count there)

    one_at-vertex : (r s : Relaxation) → IsEnding p floors caps (at_vertex steps t) r → IsEnding p floors caps (at_vertex steps t) s → r ≡ s
    one_at-vertex (vertex a by) (vertex b other) h k =
        ap (λ point. vertex point by) (one_point a b h.0.point_of k.0.point_of) ∙ ap (vertex b) (h.1 ∙ sym k.1)
    one_at-vertex (vertex a by) (wide taken) h k = absurd (k.0 a h.0)
    one_at-vertex (wide taken) (vertex a by) h k = absurd (h.0 a k.0)
    one_at-vertex (wide taken) (wide other) h k = ap wide (h.1 ∙ sym k.1)
    one_at-vertex (void mult) s h k = absurd h
    one_at-vertex (stalled taken) s h k = absurd h
    one_at-vertex (vertex a by) (void mult) h k = absurd k
    one_at-vertex (vertex a by) (stalled taken) h k = absurd k
    one_at-vertex (wide taken) (void mult) h k = absurd k
    one_at-vertex (wide taken) (stalled other) h k = absurd k

  pub IsVertex-point : (point : List Frac) (mult : Mult) → IsRelaxation p floors caps (vertex point mult) → IsVertex p floors caps point mult
  IsVertex-point point mult = by (ending p floors caps) refl
    where
      by : (end : Ending) → ending p floors caps ≡ end → IsEnding p floors caps end (vertex point mult) → IsVertex p floors caps point mult
      by (at_vertex steps t) e h = subst (IsVertex p floors caps point) (sym h.1) (IsVertex-narrow steps t e point h.0)
      by (at_void steps shown) e h = absurd h
      by (at_wide steps) e h = absurd h
      by (at_stall steps) e h = absurd h

  -- ---- the multipliers of a void box

  IsVoid-at : (steps : List Step) (mult : Mult) → ending p floors caps ≡ at_void steps mult → HasFitWidth (without_gain p) mult → IsVoid p floors caps mult
  IsVoid-at steps mult e fits =
      let there = void_shows p floors caps steps mult program box e in
      let one = there.1 in
      record {
        by = record { sized = there.0; positive = omega (arith, ints, one); wide = fits };
        whole = one;
        below = there.2;
      }

  pub IsVoid-mult : (mult : Mult) → IsRelaxation p floors caps (void mult) → IsVoid p floors caps mult
  IsVoid-mult mult = by (ending p floors caps) refl
    where
      by : (end : Ending) → ending p floors caps ≡ end → IsEnding p floors caps end (void mult) → IsVoid p floors caps mult
      by (at_vertex steps t) e h = absurd h
      by (at_void steps shown) e h = subst (IsVoid p floors caps) (sym h.1) (IsVoid-at steps shown e h.0)
      by (at_wide steps) e h = absurd h
      by (at_stall steps) e h = absurd h

  -- ---- one relaxation

  one_at-void : (steps : List Step) (shown : Mult) (r s : Relaxation) → IsEnding p floors caps (at_void steps shown) r → IsEnding p floors caps (at_void steps shown) s → r ≡ s
  one_at-void steps shown (void by) (void other) h k = ap void (h.1 ∙ sym k.1)
  one_at-void steps shown (void by) (wide taken) h k = absurd (k.0 h.0)
  one_at-void steps shown (wide taken) (void by) h k = absurd (h.0 k.0)
  one_at-void steps shown (wide taken) (wide other) h k = ap wide (h.1 ∙ sym k.1)
  one_at-void steps shown (vertex point by) s h k = absurd h
  one_at-void steps shown (stalled taken) s h k = absurd h
  one_at-void steps shown (void by) (vertex point other) h k = absurd k
  one_at-void steps shown (void by) (stalled taken) h k = absurd k
  one_at-void steps shown (wide taken) (vertex point by) h k = absurd k
  one_at-void steps shown (wide taken) (stalled other) h k = absurd k

  one_at-wide : (steps : List Step) (r s : Relaxation) → IsEnding p floors caps (at_wide steps) r → IsEnding p floors caps (at_wide steps) s → r ≡ s
  one_at-wide steps (wide taken) (wide other) h k = ap wide (h ∙ sym k)
  one_at-wide steps (vertex point by) s h k = absurd h
  one_at-wide steps (void by) s h k = absurd h
  one_at-wide steps (stalled taken) s h k = absurd h
  one_at-wide steps (wide taken) (vertex point by) h k = absurd k
  one_at-wide steps (wide taken) (void by) h k = absurd k
  one_at-wide steps (wide taken) (stalled other) h k = absurd k

  one_at-stall : (steps : List Step) (r s : Relaxation) → IsEnding p floors caps (at_stall steps) r → IsEnding p floors caps (at_stall steps) s → r ≡ s
  one_at-stall steps (stalled taken) (stalled other) h k = ap stalled (h ∙ sym k)
  one_at-stall steps (vertex point by) s h k = absurd h
  one_at-stall steps (void by) s h k = absurd h
  one_at-stall steps (wide taken) s h k = absurd h
  one_at-stall steps (stalled taken) (vertex point by) h k = absurd k
  one_at-stall steps (stalled taken) (void by) h k = absurd k
  one_at-stall steps (stalled taken) (wide other) h k = absurd k

  pub one_relaxation : (r s : Relaxation) → IsRelaxation p floors caps r → IsRelaxation p floors caps s → r ≡ s
  one_relaxation r s = by (ending p floors caps) refl
    where
      by : (end : Ending) → ending p floors caps ≡ end → IsEnding p floors caps end r → IsEnding p floors caps end s → r ≡ s
      by (at_vertex steps t) e h k = one_at-vertex steps t e r s h k
      by (at_void steps shown) e h k = one_at-void steps shown r s h k
      by (at_wide steps) e h k = one_at-wide steps r s h k
      by (at_stall steps) e h k = one_at-stall steps r s h k
