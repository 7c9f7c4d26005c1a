-- The greatest key, as far as a loop over the cells has come, and over the classes of the cells.
use Rattle.std.proofs.Common.{◌≡◌, ℕ, ◌+◌, ◌<◌, ◌≤◌, ◌^◌, ℤ, pos, ◌≤ℤ◌, Bool, true, false, true≢false, cond, List, length, map, get_or, All, Option, Some, None, IfSome, inl, inr, ◌⊎◌, refl, sym, ap, subst, ◌∙◌, arith}
use Rattle.std.specs.Prelude.{nat_abs, int_le}
use Rattle.std.specs.Int.{int_max}
use Rattle.std.proofs.lemmas.Bool.{cases_lt}
use Rattle.std.proofs.lemmas.Int.{ints, clamps}
use Rattle.std.proofs.lemmas.List.{get_or_default, get_or_past}
use Rattle.pc_model.specs.declared.schema.Schema.{Schema}
use Rattle.pc_model.specs.declared.constraint.Constraint.{Constraint}
use Rattle.pc_model.specs.declared.query.Query.{Query}
use Rattle.pc_model.specs.declared.tree.CutNode.{CutNode}
use Rattle.pc_model.specs.Cells.{Class, leaves_in}
use Rattle.pc_program_bound.proofs.CellPlaces.{no_class}
use Rattle.pc_cells.specs.declared.cells.Cell.{Cell}
use Rattle.pc_cells.specs.Found.{cells_of}
use Rattle.pc_proof.specs.Setting.{Setting, cells, on_chosen}
use Rattle.pc_agg_search.specs.declared.extreme.Extreme.{Extreme}
use Rattle.pc_agg_search.specs.Keys.{key_of}
use Rattle.pc_agg_search.specs.Settings.{unseen}
use Rattle.pc_agg_search.specs.Targets.{cell_at}
use Rattle.pc_agg.specs.Kept.{HasKey}
use Rattle.pc_agg.proofs.Ladders.{long, class_is, key_is}
use Rattle.pc_avg.specs.Outermost.{greater, IsGreatestKey}
use Rattle.pc_avg.specs.Sides.{IsChosenKey, IsOutermost}

-- the greater of two numbers is one of them
one_of : (a b : ℤ) → (int_max a b ≡ a) ⊎ (int_max a b ≡ b)
one_of a b = by (int_le b a) refl
  where
    by : (test : Bool) → int_le b a ≡ test → (int_max a b ≡ a) ⊎ (int_max a b ≡ b)
    by true less = inl (omega (arith, ints, clamps, less))
    by false more = inr (omega (arith, ints, clamps, more))

module _ (list : List Cell) (keys : List ℤ) (observed : Option ℤ) where
  -- ---- the loop

  pub greatest_first : IsGreatestKey list keys 0 observed observed
  greatest_first = first observed refl
    where
      first : (o : Option ℤ) → observed ≡ o → IsGreatestKey list keys 0 observed o
      first None is = (is, λ i below chosen. absurd (omega (arith, below)))
      first (Some m) is = record {
        there = inr is;
        chosen = λ i below chosen. absurd (omega (arith, below));
        seen = subst (λ (o : Option ℤ). IfSome o (λ n. n ≤ℤ m)) (sym is) (omega (arith, ints));
      }

  module _ (place : ℕ) where
    abbrev key : ℤ
    key = get_or keys place (pos 0)

    longer : (other : ℤ) → HasKey list keys place other → HasKey list keys (place + 1) other
    longer other has = (has.0, omega (arith, has.1), has.2, has.3)

    still_there : (other : ℤ) → HasKey list keys place other ⊎ (observed ≡ Some other) → HasKey list keys (place + 1) other ⊎ (observed ≡ Some other)
    still_there other (inl has) = inl (longer other has)
    still_there other (inr is) = inr is

    raised_seen : (o : Option ℤ) (a b : ℤ) → a ≤ℤ b → IfSome o (λ m. m ≤ℤ a) → IfSome o (λ m. m ≤ℤ b)
    raised_seen None a b less within = tt
    raised_seen (Some m) a b less within = omega (arith, ints, less, within)

    pub greatest_other : (greatest : Option ℤ) → IsGreatestKey list keys place observed greatest → (cell_at list place).chosen ≡ false → IsGreatestKey list keys (place + 1) observed greatest
    greatest_other None is other = (
      is.0,
      λ i below chosen. elim (cases_lt i place) [
        | inl less ↦ is.1 i less chosen
        | inr past ↦ let same : i ≡ place = omega (arith, below, past) in true≢false (sym chosen ∙ ap (λ n. (cell_at list n).chosen) same ∙ other)
      ],
    )
    greatest_other (Some greatest) is other = record {
      there = still_there greatest is.there;
      chosen = λ i below chosen. elim (cases_lt i place) [
        | inl less ↦ is.chosen i less chosen
        | inr past ↦ let same : i ≡ place = omega (arith, below, past) in absurd (true≢false (sym chosen ∙ ap (λ n. (cell_at list n).chosen) same ∙ other))
      ];
      seen = is.seen;
    }

    at_key : (i : ℕ) → i ≡ place → get_or keys i (pos 0) ≡ key
    at_key i same = ap (λ n. get_or keys n (pos 0)) same

    -- the greater of a number and the key is one of both
    pub greatest_more : (greatest : Option ℤ) → IsGreatestKey list keys place observed greatest → (cell_at list place).chosen ≡ true → IsGreatestKey list keys (place + 1) observed (greater greatest key)
    greatest_more None is chosen = record {
      there = inl (place, omega arith, chosen, refl);
      chosen = λ i below own. elim (cases_lt i place) [
        | inl less ↦ absurd (is.1 i less own)
        | inr past ↦ let same = at_key i (omega (arith, below, past)) in omega (arith, ints, same)
      ];
      seen = subst (λ (o : Option ℤ). IfSome o (λ m. m ≤ℤ key)) (sym is.0) tt;
    }
    greatest_more (Some greatest) is chosen = record {
      there = which (int_max greatest key) (one_of greatest key);
      chosen = λ i below own. elim (cases_lt i place) [
        | inl less ↦ let within = is.chosen i less own in omega (arith, ints, clamps, within)
        | inr past ↦ let same = at_key i (omega (arith, below, past)) in omega (arith, ints, clamps, same)
      ];
      seen = raised_seen observed greatest (int_max greatest key) (omega (arith, ints, clamps)) is.seen;
    }
      where
        which : (top : ℤ) → (top ≡ greatest) ⊎ (top ≡ key) → HasKey list keys (place + 1) top ⊎ (observed ≡ Some top)
        which top (inl same) = subst (λ t. HasKey list keys (place + 1) t ⊎ (observed ≡ Some t)) (sym same) (still_there greatest is.there)
        which top (inr same) = subst (λ t. HasKey list keys (place + 1) t ⊎ (observed ≡ Some t)) (sym same) (inl (place, omega arith, chosen, refl))

    pub greatest_next : (greatest next : Option ℤ) (chosen : Bool) → (cell_at list place).chosen ≡ chosen → next ≡ cond chosen (greater greatest key) greatest → IsGreatestKey list keys place observed greatest →
        IsGreatestKey list keys (place + 1) observed next
    greatest_next greatest next true own is so_far = subst (IsGreatestKey list keys (place + 1) observed) (sym is) (greatest_more greatest so_far own)
    greatest_next greatest next false own is so_far = subst (IsGreatestKey list keys (place + 1) observed) (sym is) (greatest_other greatest so_far own)

-- ---- over the classes

module _ (schema : Schema) (constraints : List Constraint) (query : Query) (nodes : List CutNode) (found : List Cell) (listed : found ≡ cells_of (leaves_in schema nodes))
    (extreme : Extreme) (keys : List ℤ) (keyed : keys ≡ map (on_chosen (key_of (unseen schema constraints query nodes) extreme)) (cells (unseen schema constraints query nodes)))
    (small : All (λ key. nat_abs key ≤ 2 ^ 63) keys) where
  abbrev u : Setting
  u = unseen schema constraints query nodes

  abbrev is_chosen : Class → Bool
  is_chosen class = class.chosen

  -- a chosen class is that of a chosen cell, with its key
  cell_chosen : (i : ℕ) (d : Class) → i < length (cells u) → (get_or (cells u) i d).chosen ≡ true → (cell_at found i).chosen ≡ true
  cell_chosen i d inside chosen =
      let there : i < length found = omega (arith, inside, long schema constraints query nodes found listed extreme keys keyed) in
      ap is_chosen (class_is schema constraints query nodes found listed extreme keys keyed i there) ∙ sym (ap is_chosen (get_or_default (cells u) i d no_class inside)) ∙ chosen

  own_key : (i : ℕ) (d : Class) → i < length (cells u) → (get_or (cells u) i d).chosen ≡ true → get_or keys i (pos 0) ≡ key_of u extreme (get_or (cells u) i d)
  own_key i d inside chosen =
      let there : i < length found = omega (arith, inside, long schema constraints query nodes found listed extreme keys keyed) in
      key_is schema constraints query nodes found listed extreme keys keyed i there (cell_chosen i d inside chosen) ∙ ap (key_of u extreme) (sym (get_or_default (cells u) i d no_class inside))

  chosen_key : (top : ℤ) → HasKey found keys (length found) top → IsChosenKey u extreme top
  chosen_key top has =
      let class = get_or (cells u) has.0 no_class in
      let inside : has.0 < length (cells u) = omega (arith, has.1, long schema constraints query nodes found listed extreme keys keyed) in (
        has.0,
        class,
        inside,
        get_or_default (cells u) has.0 class no_class inside,
        (ap is_chosen (sym (class_is schema constraints query nodes found listed extreme keys keyed has.0 has.1)) ∙ has.2, sym (key_is schema constraints query nodes found listed extreme keys keyed has.0 has.1 has.2) ∙ has.3),
      )

  seen_small : (observed : Option ℤ) (number : ℤ) → IfSome observed (λ m. nat_abs m ≤ 2 ^ 63) → observed ≡ Some number → nat_abs number ≤ 2 ^ 63
  seen_small observed number few is = subst (λ (o : Option ℤ). IfSome o (λ m. nat_abs m ≤ 2 ^ 63)) is few

  key_small : (top : ℤ) → HasKey found keys (length found) top → nat_abs top ≤ 2 ^ 63
  key_small top has = subst (λ k. nat_abs k ≤ 2 ^ 63) has.3 (key_at has.0)
    where
      key_at : (i : ℕ) → nat_abs (get_or keys i (pos 0)) ≤ 2 ^ 63
      key_at i = elim (cases_lt i (length keys)) [
        | inl inside ↦ small i (pos 0) inside
        | inr past ↦ subst (λ k. nat_abs k ≤ 2 ^ 63) (sym (get_or_past keys i (pos 0) past)) (omega arith)
      ]

  pub outermost_is : (observed result : Option ℤ) → IfSome observed (λ m. nat_abs m ≤ 2 ^ 63) → IsGreatestKey found keys (length found) observed result → IsOutermost u extreme observed result
  outermost_is observed None few is = (
    is.0,
    λ i d inside chosen.
        is.1 i (omega (arith, inside, long schema constraints query nodes found listed extreme keys keyed)) (cell_chosen i d inside chosen),
  )
  outermost_is observed (Some top) few is = record {
    of_cell = of_either is.there;
    chosen = λ i d inside chosen.
        let within = is.chosen i (omega (arith, inside, long schema constraints query nodes found listed extreme keys keyed)) (cell_chosen i d inside chosen) in
        subst (λ k. k ≤ℤ top) (own_key i d inside chosen) within;
    seen = is.seen;
    small = either_small is.there;
  }
    where
      of_either : HasKey found keys (length found) top ⊎ (observed ≡ Some top) → IsChosenKey u extreme top ⊎ (observed ≡ Some top)
      of_either (inl has) = inl (chosen_key top has)
      of_either (inr own) = inr own

      either_small : HasKey found keys (length found) top ⊎ (observed ≡ Some top) → nat_abs top ≤ 2 ^ 63
      either_small (inl has) = key_small top has
      either_small (inr own) = seen_small observed top few own
