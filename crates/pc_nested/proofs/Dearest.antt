-- The dearest cell with room, one cell further.
use Rattle.std.proofs.Common.{◌≡◌, ℕ, ◌+◌, ◌<◌, true, inl, inr, Option, Some, None, List, subst, arith}
use Rattle.std.specs.Prelude.{ℤ, pos, ◌<ℤ◌}
use Rattle.std.proofs.lemmas.Int.{ints, by_lt_z}
use Rattle.std.proofs.lemmas.Bool.{cases_eq, cases_lt}
use Rattle.pc_program_bound.specs.declared.program.Program.{Program}
use Rattle.pc_program_bound.specs.Sums.{nat_at, int_at}
use Rattle.pc_program_bound.specs.Allocation.{cells_of}
use Rattle.pc_program.specs.Settled.{is_in}
use Rattle.pc_nested.specs.Filled.{AreSmall, IsDearest, HasNoRoom, IsDearestIfAny, IsTopPrice}

abbrev pub HasRoom : Program → ℕ → List ℕ → List ℕ → ℕ → Type 0
HasRoom p k counts highs i = (is_in p i k ≡ true) × (nat_at counts i < nat_at highs i)

below_next : (i to : ℕ) → i < to + 1 → (i ≡ to → ⊥) → i < to
below_next i to h other = omega (arith, h, other)

pub none_yet : (p : Program) (k : ℕ) (counts highs : List ℕ) → HasNoRoom p k counts highs 0
none_yet p k counts highs i h member = absurd (omega arith)

-- a cell without room
skip_none : (p : Program) (k : ℕ) (counts highs : List ℕ) (to : ℕ) → HasNoRoom p k counts highs to → (HasRoom p k counts highs to → ⊥)
    → HasNoRoom p k counts highs (to + 1)
skip_none p k counts highs to none full i h member = elim (cases_eq i to) [
  | inl e ↦ elim (cases_lt (nat_at counts i) (nat_at highs i)) [
    | inl room ↦ absurd (full (subst (λ n. HasRoom p k counts highs n) e (member, room)))
    | inr le ↦ le
  ]
  | inr other ↦ none i (below_next i to h other) member
]

skip_some : (p : Program) (k : ℕ) (counts highs : List ℕ) (to cell : ℕ) → IsDearest p k counts highs to cell → (HasRoom p k counts highs to → ⊥)
    → IsDearest p k counts highs (to + 1) cell
skip_some p k counts highs to cell is full = record {
  there = let h = is.there in omega (arith, h);
  member = is.member;
  room = is.room;
  dearest = λ i h member room. elim (cases_eq i to) [
    | inl e ↦ absurd (full (subst (λ n. HasRoom p k counts highs n) e (member, room)))
    | inr other ↦ is.dearest i (below_next i to h other) member room
  ];
}

pub skip : (p : Program) (k : ℕ) (counts highs : List ℕ) (to : ℕ) (found : Option ℕ) → IsDearestIfAny p k counts highs to found → (HasRoom p k counts highs to → ⊥)
    → IsDearestIfAny p k counts highs (to + 1) found
skip p k counts highs to None none full = skip_none p k counts highs to none full
skip p k counts highs to (Some cell) is full = skip_some p k counts highs to cell is full

-- the first cell with room
pub first_room : (p : Program) (k : ℕ) (counts highs : List ℕ) (to : ℕ) → HasNoRoom p k counts highs to → HasRoom p k counts highs to
    → IsDearest p k counts highs (to + 1) to
first_room p k counts highs to none here = record {
  there = omega arith;
  member = here.0;
  room = here.1;
  dearest = λ i h member room. elim (cases_eq i to) [
    | inl e ↦ rw e (omega (arith, ints))
    | inr other ↦ let le = none i (below_next i to h other) member in absurd (omega (arith, le, room))
  ];
}

-- a dearer one
pub dearer_room : (p : Program) (k : ℕ) (counts highs : List ℕ) (to cell : ℕ) → IsDearest p k counts highs to cell → HasRoom p k counts highs to
    → int_at p.gain cell <ℤ int_at p.gain to → IsDearest p k counts highs (to + 1) to
dearer_room p k counts highs to cell is here less = record {
  there = omega arith;
  member = here.0;
  room = here.1;
  dearest = λ i h member room. elim (cases_eq i to) [
    | inl e ↦ rw e (omega (arith, ints))
    | inr other ↦ let le = is.dearest i (below_next i to h other) member room in omega (arith, ints, le, less)
  ];
}

-- and one that is no dearer
pub stay_room : (p : Program) (k : ℕ) (counts highs : List ℕ) (to cell : ℕ) → IsDearest p k counts highs to cell
    → (int_at p.gain cell <ℤ int_at p.gain to → ⊥) → IsDearest p k counts highs (to + 1) cell
stay_room p k counts highs to cell is not = record {
  there = let h = is.there in omega (arith, h);
  member = is.member;
  room = is.room;
  dearest = λ i h member room. elim (cases_eq i to) [
    | inl e ↦ by_lt_z (int_at p.gain cell) (int_at p.gain to) (λ less. absurd (not less)) (λ le. rw e le)
    | inr other ↦ is.dearest i (below_next i to h other) member room
  ];
}

pub ruleset dearer_steps = (skip, first_room, dearer_room, stay_room)

-- ---- the price of the dearest row

pub top_none : (p : Program) (k : ℕ) (counts highs : List ℕ) → HasNoRoom p k counts highs (cells_of p) → IsTopPrice p k counts highs (pos 0)
top_none p k counts highs none = record {
  small = omega arith;
  top = λ i h member room. let le = none i h member in absurd (omega (arith, le, room));
}

pub top_some : (p : Program) (k : ℕ) (counts highs : List ℕ) (cell : ℕ) (price : ℤ) → AreSmall p → IsDearest p k counts highs (cells_of p) cell
    → price ≡ int_at p.gain cell → IsTopPrice p k counts highs price
top_some p k counts highs cell price gains is e = record {
  small = let fits = gains cell is.there in rw e (omega (arith, fits));
  top = λ i h member room. rw e (is.dearest i h member room);
}

pub ruleset top_prices = (top_none, top_some)
