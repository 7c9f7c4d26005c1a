-- A step keeps what stands, and so do all the steps of a phase.
use Rattle.std.proofs.Common.{◌≡◌, ℕ, zero, suc, ◌<◌, Bool, true, false, ◌++◌, List, [], ◌∷◌, length, refl, sym, subst, arith, Option, Some, None}
use Rattle.std.specs.Prelude.{ℤ, pos, neg_ℤ, ◌-ℤ◌, ◌*ℤ◌}
use Rattle.pc_program_bound.specs.declared.program.Program.{Program}
use Rattle.pc_program_bound.specs.Sums.{nat_at}
use Rattle.pc_simplex_tableau.specs.declared.step.Step.{Step}
use Rattle.pc_simplex_tableau.specs.Tableau.{Tableau, Columns, range_of, end_of, turned, pivoted, entering, Way, turning, pivoting, turning_and_pivoting, Limit, deciding, after_step, does_step_fit, ended, wide, stalled, run}
use Rattle.pc_simplex_tableau.specs.Standing.{entry_at, basic_at, value_at, HasRoom, IsMeant, IsStanding}
use Rattle.pc_simplex_tableau.proofs.Sized.{sized_basic, sized_row}
use Rattle.pc_simplex_tableau.proofs.Pivots.{IsPivot-pivoted}
use Rattle.pc_simplex_tableau.proofs.Turns.{rows-turned}
use Rattle.pc_simplex_tableau.proofs.Pivoted.{IsMeant-pivoted}
use Rattle.pc_simplex_tableau.proofs.Turned.{IsMeant-turned, end_is}
use Rattle.pc_simplex_tableau.proofs.Feasible.{IsFeasible-pivot, IsFeasible-turned}
use Rattle.pc_simplex_tableau.proofs.Limits.{IsOfWay, IsLimit-least, HasRoom-deciding}
use Rattle.pc_simplex_tableau.proofs.Entering.{IsEntering, IsEntering-entering, plain_column, range_is}
use Rattle.pc_simplex_tableau.proofs.Leaving.{HasRoom-turned}

-- the same with the room told by other words
room_is : (f : Columns) (c : ℕ) (t : Tableau) (v q w o : ℤ) → v ≡ w → q ≡ o → HasRoom f c t v q → HasRoom f c t w o
room_is f c t v q w o e d room = rw (e, d) at room

module _ (p : Program) (floors : List ℕ) (gain : ℕ → ℤ) (f : Columns) where
  -- a pivot within the room that there is
  pub IsStanding-pivoted : (c r : ℕ) (t : Tableau) → IsMeant p floors gain f t → c < length f.ranges → r < length t.rows
      → HasRoom f c t (value_at f t r) (entry_at t r c) → IsStanding p floors gain f (pivoted c r t)
  IsStanding-pivoted c r t meant ranged lt room =
      let own : c < f.count = omega (arith, ranged, meant.sized.ranges) in
      let pivot = IsPivot-pivoted f.count c r t lt (sized_row meant.sized) meant.sized.aim room.positive meant.solved.weighed in
      record {
        meant = IsMeant-pivoted p floors gain f c r t meant own (plain_column f c ranged) lt room.positive;
        feasible = IsFeasible-pivot f c r t (pivoted c r t) lt meant.sized meant.solved pivot room;
      }

  -- and a column that is turned, which is not basic
  pub IsStanding-turned : (c u : ℕ) (t : Tableau) → IsMeant p floors gain f t → c < f.count → range_of f c ≡ Some u
      → ((i : ℕ) → i < length t.rows → basic_at t i ≡ c → ⊥) → HasRoom f c t (pos u) (pos 1) → IsStanding p floors gain f (turned f c u t)
  IsStanding-turned c u t meant own range free room = record {
    meant = IsMeant-turned p floors gain f c u t meant own range;
    feasible = IsFeasible-turned f c u t own (end_is f c u range) meant.sized free room;
  }

  module _ (c : ℕ) (t : Tableau) (standing : IsStanding p floors gain f t) (enters : IsEntering f t c) (limit : Limit)
      (room : HasRoom f c t limit.over limit.under) where
    own : c < f.count
    own = omega (arith, enters.ranged, standing.meant.sized.ranges)

    turns : IsOfWay f c t (length t.rows) limit turning → IsStanding p floors gain f (turned f c (end_of f c) t)
    turns h =
        let u = nat_at f.ranges c in
        let range = range_is f c enters.ranged in
        subst (λ n. IsStanding p floors gain f (turned f c n t)) (sym (end_is f c u range))
        (IsStanding-turned c u t standing.meant own range enters.free (room_is f c t limit.over limit.under (pos u) (pos 1) h.0 h.1 room))

    pivots : (r : ℕ) → IsOfWay f c t (length t.rows) limit (pivoting r) → IsStanding p floors gain f (pivoted c r t)
    pivots r h = IsStanding-pivoted c r t standing.meant enters.ranged h.0 (room_is f c t limit.over limit.under (value_at f t r) (entry_at t r c) h.1 h.2 room)

    leaves : (r u : ℕ) → r < length t.rows → range_of f (basic_at t r) ≡ Some u
        → HasRoom f c t (entry_at t r (basic_at t r) *ℤ pos u -ℤ value_at f t r) (neg_ℤ (entry_at t r c))
        → IsStanding p floors gain f (pivoted c r (turned f (basic_at t r) u t))
    leaves r u lt range there =
        let meant = IsMeant-turned p floors gain f (basic_at t r) u t standing.meant (sized_basic standing.meant.sized r lt) range in
        IsStanding-pivoted c r (turned f (basic_at t r) u t) meant enters.ranged (rw (rows-turned f (basic_at t r) u t) lt)
        (HasRoom-turned f c r u t lt standing.meant.sized standing.meant.solved range own enters.free there)

    turns_and_pivots : (r : ℕ) → IsOfWay f c t (length t.rows) limit (turning_and_pivoting r)
        → IsStanding p floors gain f (pivoted c r (turned f limit.column (end_of f limit.column) t))
    turns_and_pivots r h =
        let range = h.3 in
        subst (λ n. IsStanding p floors gain f (pivoted c r (turned f n (end_of f n) t))) (sym h.1)
        (subst (λ n. IsStanding p floors gain f (pivoted c r (turned f (basic_at t r) n t))) (sym (end_is f (basic_at t r) h.2 range))
        (leaves r h.2 h.0 range
        (room_is f c t limit.over limit.under (entry_at t r (basic_at t r) *ℤ pos h.2 -ℤ value_at f t r) (neg_ℤ (entry_at t r c)) h.4 h.5 room)))

    pub IsStanding-way : (way : Way) → IsOfWay f c t (length t.rows) limit way → IsStanding p floors gain f (after_step f c limit.column way t)
    unfolding after_step
    IsStanding-way turning h = turns h
    IsStanding-way (pivoting r) h = pivots r h
    IsStanding-way (turning_and_pivoting r) h = turns_and_pivots r h

  pub IsStanding-step : (c : ℕ) (t : Tableau) → IsStanding p floors gain f t → entering f t ≡ Some c
      → IsStanding p floors gain f (after_step f c (deciding f c t).column (deciding f c t).way t)
  IsStanding-step c t standing e =
      let enters = IsEntering-entering f t c e in
      let limit = IsLimit-least f c t standing.feasible (length t.rows) (omega arith) in
      IsStanding-way c t standing enters (deciding f c t) (HasRoom-deciding f c t standing.feasible (plain_column f c enters.ranged))
      (deciding f c t).way limit.way

  -- ---- the steps of a phase

  -- what they end in stands, and no column enters
  abbrev IsEnded : Tableau → Type 0
  IsEnded t = IsStanding p floors gain f t × (entering f t ≡ None)

  same_end : (l m : ℕ) (s v : List Step) (t after : Tableau) → ended l s t ≡ ended m v after → IsEnded t → IsEnded after
  same_end l m s v t after e h = let same : t ≡ after = cc in subst IsEnded same h

  last_step : (l m : ℕ) (s v : List Step) (t after : Tableau) → IsStanding p floors gain f t → (found : Option ℕ) → entering f t ≡ found
      → elim found [ None ↦ ended l s t | Some c ↦ stalled s ] ≡ ended m v after → IsEnded after
  last_step l m s v t after standing None d h = same_end l m s v t after h (standing, d)
  last_step l m s v t after standing (Some c) d h = absurd cc

  abbrev one_more : List Step → ℕ → Tableau → List Step
  one_more steps c t = steps ++ record { enters = c; leaves = (deciding f c t).column } ∷ []

  abbrev next : ℕ → Tableau → Tableau
  next c t = after_step f c (deciding f c t).column (deciding f c t).way t

  pub IsEnded-run : (left : ℕ) (steps : List Step) (t : Tableau) (m : ℕ) (v : List Step) (after : Tableau) → IsStanding p floors gain f t
      → run f left steps t ≡ ended m v after → IsEnded after
  unfolding run
  IsEnded-run zero steps t m v after standing e = last_step zero m steps v t after standing (entering f t) refl e
  IsEnded-run (suc left) steps t m v after standing e =
      first (entering f t) refl (λ c. IsEnded-run left (one_more steps c t) (next c t) m v after) e
    where
      taken : (c : ℕ) → entering f t ≡ Some c → (IsStanding p floors gain f (next c t) → run f left (one_more steps c t) (next c t) ≡ ended m v after → IsEnded after)
          → (test : Bool) → elim test [ false ↦ wide steps | true ↦ run f left (one_more steps c t) (next c t) ] ≡ ended m v after → IsEnded after
      taken c d again false h = absurd cc
      taken c d again true h = again (IsStanding-step c t standing d) h

      first : (found : Option ℕ) → entering f t ≡ found
          → ((c : ℕ) → IsStanding p floors gain f (next c t) → run f left (one_more steps c t) (next c t) ≡ ended m v after → IsEnded after)
          → elim found [
            | None ↦ ended (suc left) steps t
            | Some c ↦ elim (does_step_fit f c (deciding f c t) t) [ false ↦ wide steps | true ↦ run f left (one_more steps c t) (next c t) ]
          ] ≡ ended m v after → IsEnded after
      first None d again h = same_end (suc left) m steps v t after h (standing, d)
      first (Some c) d again h = taken c d (again c) (does_step_fit f c (deciding f c t) t) h
