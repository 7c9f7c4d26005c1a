-- The gains that the code finds by keys are those of how far rows pass a number.
use Rattle.std.proofs.Common.{◌≡◌, ℕ, ◌<◌, ◌≤◌, ℤ, pos, neg_ℤ, ◌+ℤ◌, ◌-ℤ◌, ◌*ℤ◌, nat_abs, Bool, true, false, cond, List, length, map, get_or, All, refl, sym, ap, subst, ◌∙◌, true≢false, arith}
use Rattle.std.specs.Prelude.{int_le, int_lt}
use Rattle.std.proofs.lemmas.Int.{ints}
use Rattle.std.proofs.lemmas.List.{length-map}
use Rattle.std.proofs.lemmas.List.Elements.{All-map}
use Rattle.pc_model.specs.Cells.{Class}
use Rattle.pc_program_bound.proofs.CellPlaces.{no_class}
use Rattle.pc_simplex_tableau.specs.Numbers.{table}
use Rattle.pc_cells.specs.declared.cells.Cell.{Cell}
use Rattle.pc_cells.specs.Found.{class_of_cell}
use Rattle.pc_proof.specs.Setting.{Setting, cells, low_in, on_chosen}
use Rattle.pc_agg_search.specs.declared.extreme.Extreme.{Extreme}
use Rattle.pc_agg_search.specs.declared.extreme.Extreme.TheVariants.{Low, High}
use Rattle.pc_agg_search.specs.declared.problem.Problem.{Problem}
use Rattle.pc_agg_search.specs.Ends.{signed}
use Rattle.pc_agg_search.specs.Keys.{key_of}
use Rattle.pc_agg_search.specs.Limits.{greatest_gain}
use Rattle.pc_agg_search.specs.Posed.{keys_of}
use Rattle.pc_agg_search.specs.Problem.{IsPosed, setting_of}
use Rattle.pc_agg_search.specs.Targets.{cell_at}
use Rattle.pc_agg_search.proofs.ListedPrograms.{no_cell, gains_are}
use Rattle.pc_agg_search.proofs.PosedPrograms.{own_classes}
use Rattle.pc_agg_search.proofs.UnseenPrograms.{tested_small}
use Rattle.pc_agg.proofs.Ladders.{class_is, key_is}
use Rattle.pc_lang.specs.declared.quantile.Quantile.{Quantile}
use Rattle.pc_quantile.specs.Passing.{inner_gain, outer_gain, passing_gain, IsShare}
use Rattle.pc_quantile.specs.Past.{gain_past}
use Rattle.pc_quantile.specs.Sums.{weight}

-- ---- a key past another is a number past that one's

by_other : {X : Type 0} (s t : Bool) (x y : X) → (s ≡ true → t ≡ true → ⊥) → (s ≡ false → t ≡ false → ⊥) → cond s x y ≡ cond t y x
by_other true true x y never or_both = absurd (never refl refl)
by_other true false x y never or_both = refl
by_other false true x y never or_both = refl
by_other false false x y never or_both = absurd (or_both refl refl)

by_same : {X : Type 0} (s t : Bool) (x y : X) → (s ≡ true → t ≡ true) → (t ≡ true → s ≡ true) → cond s x y ≡ cond t x y
by_same true true x y there back = refl
by_same false false x y there back = refl
by_same true false x y there back = absurd (true≢false (sym (there refl)))
by_same false true x y there back = absurd (true≢false (sym (back refl)))

module _ (s : Setting) (asked : Quantile) (key : ℤ) (class : Class) where
  past_is : (extreme : Extreme) → cond (int_lt key (key_of s extreme class)) (outer_gain asked extreme) (inner_gain asked extreme) ≡ gain_past s extreme asked (signed extreme key) class
  past_is High = by_other (int_lt key (key_of s High class)) (int_le (key_of s High class) key) (pos asked.p) (pos asked.p -ℤ pos asked.q)
      (λ past within. grind (arith, ints, past, within)) (λ past within. grind (arith, ints, past, within))
  past_is Low = by_same (int_lt key (neg_ℤ (low_in s class))) (int_lt (low_in s class) (neg_ℤ key)) ((weight *ℤ (pos asked.q -ℤ pos asked.p)) +ℤ pos 1) (pos 1 -ℤ (weight *ℤ pos asked.p))
      (λ past. grind (arith, ints, past)) (λ past. grind (arith, ints, past))

  if_chosen : (extreme : Extreme) (chosen : Bool) (own : ℤ) → (chosen ≡ true → own ≡ key_of s extreme class) →
      cond chosen (cond (int_lt key own) (outer_gain asked extreme) (inner_gain asked extreme)) (pos 0) ≡ cond chosen (gain_past s extreme asked (signed extreme key) class) (pos 0)
  if_chosen extreme false own is = refl
  if_chosen extreme true own is = ap (λ k. cond (int_lt key k) (outer_gain asked extreme) (inner_gain asked extreme)) (is refl) ∙ past_is extreme

-- ---- small gains

outer_small : (asked : Quantile) → IsShare asked → (extreme : Extreme) → nat_abs (outer_gain asked extreme) ≤ greatest_gain
outer_small asked share Low = omega (arith, ints, share.some, share.most, share.few)
outer_small asked share High = omega (arith, ints, share.some, share.most, share.few)

inner_small : (asked : Quantile) → IsShare asked → (extreme : Extreme) → nat_abs (inner_gain asked extreme) ≤ greatest_gain
inner_small asked share Low = omega (arith, ints, share.some, share.most, share.few)
inner_small asked share High = omega (arith, ints, share.some, share.most, share.few)

either_small : (n : ℕ) (test : Bool) (x y : ℤ) → nat_abs x ≤ n → nat_abs y ≤ n → nat_abs (cond test x y) ≤ n
either_small n true x y first second = first
either_small n false x y first second = second

-- what a row of a cell adds, as the code takes it
pub gain_small : (asked : Quantile) → IsShare asked → (extreme : Extreme) (chosen past : Bool) → nat_abs (cond chosen (cond past (outer_gain asked extreme) (inner_gain asked extreme)) (pos 0)) ≤ greatest_gain
gain_small asked share extreme chosen past =
    either_small greatest_gain chosen (cond past (outer_gain asked extreme) (inner_gain asked extreme)) (pos 0)
    (either_small greatest_gain past (outer_gain asked extreme) (inner_gain asked extreme) (outer_small asked share extreme) (inner_small asked share extreme)) (omega arith)

module _ (s : Setting) (asked : Quantile) (share : IsShare asked) (key : ℤ) (extreme : Extreme) (class : Class) where
  past_small : nat_abs (gain_past s extreme asked (signed extreme key) class) ≤ greatest_gain
  past_small = subst (λ g. nat_abs g ≤ greatest_gain) (past_is s asked key class extreme)
      (either_small greatest_gain (int_lt key (key_of s extreme class)) (outer_gain asked extreme) (inner_gain asked extreme) (outer_small asked share extreme) (inner_small asked share extreme))

  pub chosen_small : nat_abs (on_chosen (gain_past s extreme asked (signed extreme key)) class) ≤ greatest_gain
  chosen_small = tested_small greatest_gain class.chosen (gain_past s extreme asked (signed extreme key) class) past_small

-- ---- the gains of a problem's cells

module _ (problem : Problem) (posed : IsPosed problem) (extreme : Extreme) (keys : List ℤ) (keyed : keys ≡ keys_of problem extreme) where
  abbrev u : Setting
  u = setting_of problem

  abbrev list : List Cell
  list = problem.cells.now.cells

  pub keys_long : length keys ≡ length list
  keys_long = ap length keyed ∙ length-map (cells u) (on_chosen (key_of u extreme)) ∙ sym (ap length (own_classes problem posed)) ∙ length-map list class_of_cell

  module _ (asked : Quantile) (key : ℤ) where
    abbrev passed : Class → ℤ
    passed = on_chosen (gain_past u extreme asked (signed extreme key))

    gain_is : (i : ℕ) → i < length list → passing_gain asked extreme list keys key i ≡ passed (class_of_cell (get_or list i no_cell))
    gain_is i inside =
        let class = get_or (cells u) i no_class in
        let same = class_is problem.schema.now problem.constraints.now problem.query.now problem.cells.now.tree.nodes list posed.found.listed extreme keys keyed i inside in
        if_chosen u asked key (class_of_cell (get_or list i no_cell)) extreme (cell_at list i).chosen (get_or keys i (pos 0))
        (λ chosen. key_is problem.schema.now problem.constraints.now problem.query.now problem.cells.now.tree.nodes list posed.found.listed extreme keys keyed i inside chosen ∙ ap (key_of u extreme) (sym same))

    -- how far rows of each cell pass
    pub past_are : (gains : List ℤ) → gains ≡ table (length list) (passing_gain asked extreme list keys key) → gains ≡ map passed (cells u)
    past_are gains is = is ∙ gains_are u list (own_classes problem posed) (passing_gain asked extreme list keys key) passed gain_is

    pub past_long : (gains : List ℤ) → gains ≡ map passed (cells u) → length gains ≡ length list
    past_long gains is = ap length is ∙ length-map (cells u) passed ∙ sym (ap length (own_classes problem posed)) ∙ length-map list class_of_cell

    pub all_small : IsShare asked → (gains : List ℤ) → gains ≡ map passed (cells u) → All (λ gain. nat_abs gain ≤ greatest_gain) gains
    all_small share gains is =
        subst (All (λ gain. nat_abs gain ≤ greatest_gain)) (sym is) (All-map (λ gain. nat_abs gain ≤ greatest_gain) passed (cells u) (λ i d inside. chosen_small u asked share key extreme (get_or (cells u) i d)))
