-- What a short objective row that is freed of a column spells, and its weight.
use Rattle.std.proofs.Common.{◌≡◌, ℕ, zero, suc, ◌+◌, ◌*◌, ◌^◌, ◌<◌, ◌≤◌, Bool, true, false, true≢false, cond, List, ◌∷◌, map, length, refl, ap, ap₂, sym, ◌∙◌, arith, to_z, of_z}
use Rattle.std.specs.Prelude.{ℤ, pos, nat_abs, ◌-ℤ◌, ◌*ℤ◌}
use Rattle.std.specs.Int.{◌∣◌, w64, w128}
use Rattle.std.proofs.lemmas.Bool.{eqb-true, false_from_ne_true}
use Rattle.std.proofs.lemmas.Int.{ints}
use Rattle.std.proofs.lemmas.List.{length-map}
use Rattle.std.proofs.lemmas.Nat.{mul-le}
use Rattle.pc_num.proofs.Signed.{as_passed, passed}
use Rattle.pc_program_bound.specs.Bound.{IsFit}
use Rattle.pc_program_bound.specs.Sums.{int_at}
use Rattle.pc_simplex_tableau.specs.Numbers.{common, combined, is_zero}
use Rattle.pc_simplex_tableau.specs.Tableau.{Tableau, combined_aim, freed_aim}
use Rattle.pc_simplex_tableau.specs.Conditions.{divided, freed_entries, freed_weight, aim_alone}
use Rattle.pc_simplex_tableau.proofs.Aims.{undivided_entries, undivided_weight}
use Rattle.pc_simplex_tableau.proofs.Places as places
use Rattle.pc_simplex_tableau.proofs.Products.{one-mul, cancel}
use Rattle.pc_simplex_short.specs.Short.{ShortSetting, entry, spelled_numbers, aim_entry, spelled_aim}
use Rattle.pc_simplex_short.specs.Kept.{IsWithin, IsSetting, IsShortAim}
use Rattle.pc_simplex_short.proofs.Spelled.{same_numbers, length-spelled, at-spelled, length-aim, at-aim}
use Rattle.pc_simplex_short.proofs.Combining.{aim-made}
use Rattle.pc_simplex_short.proofs.Multiples.{divides-aim, common-aim}
use Rattle.pc_simplex_short.proofs.FreedRows.{as_it_is, no_other, other_none}
use Rattle.pc_simplex_short.proofs.Words.{passed_word}

module _ (f : ShortSetting) (turned : List Bool) (h : IsSetting f) where
  combined-aim : (p t w : ℤ) (xs ys : List ℤ) → length xs ≡ f.constraints → length ys ≡ f.constraints + 1
      → spelled_aim f turned (p *ℤ w) (combined p xs t ys) ≡ combined p (spelled_aim f turned w xs) t (spelled_numbers f turned ys)
  combined-aim p t w xs ys long also =
      let row = spelled_aim f turned w xs in
      let other = spelled_numbers f turned ys in
      let le : length row ≤ length other = omega (arith, length-aim f turned w xs, length-spelled f turned ys) in
      let sized = places.length-combined p t row other le in
      same_numbers (spelled_aim f turned (p *ℤ w) (combined p xs t ys)) (combined p row t other)
      (length-aim f turned (p *ℤ w) (combined p xs t ys) ∙ sym (sized ∙ length-aim f turned w xs))
      (λ k lt. as_it_is _ _ (aim-made f turned h (pos 1) p t (combined p xs t ys) xs ys (p *ℤ w) w (one-mul (p *ℤ w)) each k (omega (arith, lt, sized, length-aim f turned w xs)))
      ∙ sym (places.at-combined p t row other k (omega (arith, lt, sized)) le))
    where
      each : (j : ℕ) → j < f.constraints → pos 1 *ℤ int_at (combined p xs t ys) j ≡ p *ℤ int_at xs j -ℤ t *ℤ int_at ys j
      each j lt = one-mul (int_at (combined p xs t ys) j) ∙ places.at-combined p t xs ys j (omega (arith, lt, long)) (omega (arith, long, also))

  divided-aim : (g : ℕ) (w : ℤ) (xs : List ℤ) → zero < g → g ∣ nat_abs w → ((k : ℕ) → g ∣ nat_abs (int_at xs k))
      → spelled_aim f turned (divided g w) (map (divided g) xs) ≡ map (divided g) (spelled_aim f turned w xs)
  divided-aim g w xs some weighs divides =
      let row = spelled_aim f turned w xs in
      let sized = length-map row (divided g) in
      same_numbers (spelled_aim f turned (divided g w) (map (divided g) xs)) (map (divided g) row)
      (length-aim f turned (divided g w) (map (divided g) xs) ∙ sym (sized ∙ length-aim f turned w xs))
      (λ k lt. let below : k < f.columns.count = omega (arith, lt, sized, length-aim f turned w xs) in
      cancel (pos g) _ _ (omega (arith, ints, some))
      (other_none _ (int_at row k) (int_at (spelled_numbers f turned xs) k)
      (aim-made f turned h (pos g) (pos 1) (pos 0) (map (divided g) xs) xs xs (divided g w) w (places.exact g w some weighs ∙ sym (one-mul w)) each k below)
      ∙ sym (places.divided row g k some (divides-aim f turned g w xs weighs divides k below))))
    where
      each : (j : ℕ) → j < f.constraints → pos g *ℤ int_at (map (divided g) xs) j ≡ pos 1 *ℤ int_at xs j -ℤ pos 0 *ℤ int_at xs j
      each j lt = no_other (pos g *ℤ int_at (map (divided g) xs) j) (int_at xs j) (int_at xs j) (places.divided xs g j some (divides j))

  -- divided by what all have in common, which may be 0: then all are
  divided_together : (w : ℤ) (xs : List ℤ) → length xs ≡ f.constraints
      → spelled_aim f turned (divided (common (w ∷ xs)) w) (map (divided (common (w ∷ xs))) xs)
      ≡ map (divided (common (w ∷ spelled_aim f turned w xs))) (spelled_aim f turned w xs)
  divided_together w xs long = by (common (w ∷ xs)) refl
    where
      row : List ℤ
      row = spelled_aim f turned w xs

      by : (g : ℕ) → common (w ∷ xs) ≡ g
          → spelled_aim f turned (divided (common (w ∷ xs)) w) (map (divided (common (w ∷ xs))) xs)
          ≡ map (divided (common (w ∷ spelled_aim f turned w xs))) (spelled_aim f turned w xs)
      by zero e =
          ap₂ (spelled_aim f turned) (sym (undivided_weight w xs e)) (sym (undivided_entries w xs e))
          ∙ undivided_entries w (spelled_aim f turned w xs) (common-aim f turned h w xs long ∙ e)
      by (suc g) e =
          let some : zero < common (w ∷ xs) = omega (arith, e) in
          divided-aim (common (w ∷ xs)) w xs some (places.common-dvd (w ∷ xs) 0) (λ k. places.common-dvd (w ∷ xs) (suc k))
          ∙ ap (λ n. map (divided n) (spelled_aim f turned w xs)) (sym (common-aim f turned h w xs long))

  -- ---- the objective row that is freed

  module _ (p t w : ℤ) (xs ys : List ℤ) (long : length xs ≡ f.constraints) (also : length ys ≡ f.constraints + 1) where
    length-made : length (combined p xs t ys) ≡ f.constraints
    length-made = places.length-combined p t xs ys (omega (arith, long, also)) ∙ long

    pub length-freed : length (freed_entries p xs t ys w) ≡ f.constraints
    length-freed = length-map (combined p xs t ys) (divided (common ((p *ℤ w) ∷ combined p xs t ys))) ∙ length-made

    spelled-entries : spelled_aim f turned (freed_weight p xs t ys w) (freed_entries p xs t ys w)
        ≡ freed_entries p (spelled_aim f turned w xs) t (spelled_numbers f turned ys) w
    spelled-entries =
        divided_together (p *ℤ w) (combined p xs t ys) length-made
        ∙ ap (λ row. map (divided (common ((p *ℤ w) ∷ row))) row) (combined-aim p t w xs ys long also)

    spelled-weight : freed_weight p xs t ys w ≡ freed_weight p (spelled_aim f turned w xs) t (spelled_numbers f turned ys) w
    spelled-weight =
        ap (λ g. divided g (p *ℤ w)) (sym (common-aim f turned h (p *ℤ w) (combined p xs t ys) length-made))
        ∙ ap (λ row. divided (common ((p *ℤ w) ∷ row)) (p *ℤ w)) (combined-aim p t w xs ys long also)

-- ---- as the definition says it

chosen : {X : Type 0} (test : Bool) (x y : X) → test ≡ false → y ≡ cond test x y
chosen true x y e = absurd (true≢false e)
chosen false x y e = refl

kept : {X : Type 0} (test : Bool) (x y : X) → test ≡ true → x ≡ cond test x y
kept true x y e = refl
kept false x y e = absurd (true≢false (sym e))

some_entry : (z : ℤ) → (z ≡ pos 0 → ⊥) → is_zero z ≡ false
some_entry z other = false_from_ne_true (is_zero z) (λ e. other (let none : nat_abs z ≡ 0 = eqb-true (nat_abs z) 0 e in omega (arith, ints, none)))

no_entry : (z : ℤ) → z ≡ pos 0 → is_zero z ≡ true
no_entry z e = rw e refl

module _ (f : ShortSetting) (turned : List Bool) (c : ℕ) (lt : c < f.columns.count) (w : ℤ) (aim other : List ℤ) where
  abbrev alone : Tableau
  alone = aim_alone (spelled_aim f turned w aim) w

  module _ (none : aim_entry f turned w aim c ≡ pos 0) where
    as_before : alone ≡ freed_aim c (spelled_numbers f turned other) alone
    as_before = kept (is_zero (int_at (spelled_aim f turned w aim) c)) alone (combined_aim c (spelled_numbers f turned other) alone)
        (no_entry (int_at (spelled_aim f turned w aim) c) (at-aim f turned w aim c lt ∙ none))

    pub kept-aim : spelled_aim f turned w aim ≡ (freed_aim c (spelled_numbers f turned other) (aim_alone (spelled_aim f turned w aim) w)).aim
    kept-aim = ap (λ (t : Tableau). t.aim) as_before

    pub kept-weight : w ≡ (freed_aim c (spelled_numbers f turned other) (aim_alone (spelled_aim f turned w aim) w)).weight
    kept-weight = ap (λ (t : Tableau). t.weight) as_before

  module _ (h : IsSetting f) (p t : ℤ) (p_is : p ≡ entry f turned other c) (t_is : t ≡ aim_entry f turned w aim c) (some : t ≡ pos 0 → ⊥)
      (long : length aim ≡ f.constraints) (also : length other ≡ f.constraints + 1) where
    changed : combined_aim c (spelled_numbers f turned other) alone ≡ freed_aim c (spelled_numbers f turned other) alone
    changed = chosen (is_zero (int_at (spelled_aim f turned w aim) c)) alone (combined_aim c (spelled_numbers f turned other) alone)
        (some_entry (int_at (spelled_aim f turned w aim) c) (λ none. some (t_is ∙ sym (at-aim f turned w aim c lt) ∙ none)))

    pub freed-aim : (left : ℤ) (new : List ℤ) → new ≡ freed_entries p aim t other w → left ≡ freed_weight p aim t other w
        → spelled_aim f turned left new ≡ (freed_aim c (spelled_numbers f turned other) (aim_alone (spelled_aim f turned w aim) w)).aim
    freed-aim left new e d =
        ap₂ (spelled_aim f turned) d e ∙ spelled-entries f turned h p t w aim other long also
        ∙ ap₂ (λ a b. freed_entries a (spelled_aim f turned w aim) b (spelled_numbers f turned other) w)
        (p_is ∙ sym (at-spelled f turned other c lt)) (t_is ∙ sym (at-aim f turned w aim c lt))
        ∙ ap (λ (s : Tableau). s.aim) changed

    pub freed-weight : (left : ℤ) → left ≡ freed_weight p aim t other w
        → left ≡ (freed_aim c (spelled_numbers f turned other) (aim_alone (spelled_aim f turned w aim) w)).weight
    freed-weight left d =
        d ∙ spelled-weight f turned h p t w aim other long also
        ∙ ap₂ (λ a b. freed_weight a (spelled_aim f turned w aim) b (spelled_numbers f turned other) w)
        (p_is ∙ sym (at-spelled f turned other c lt)) (t_is ∙ sym (at-aim f turned w aim c lt))
        ∙ ap (λ (s : Tableau). s.weight) changed

-- ---- entries as they are passed

fit_entry : (z : ℤ) → nat_abs z ≤ 2 ^ 70 → IsFit z
fit_entry z small = omega (arith, small)

pub passed_scale : (z : ℤ) → IsWithin 55 z → to_z w64 (of_z w64 z) ≡ z
passed_scale z small = passed_word z (omega (arith, small))

pub passed_entry : (z : ℤ) → IsWithin 70 z → as_passed z ≡ z
passed_entry z small = passed z (fit_entry z small)

pub is_none : (z : ℤ) → IsWithin 70 z → of_z w128 z ≡ 0 → z ≡ pos 0
is_none z small e = sym (passed_entry z small) ∙ ap (to_z w128) e

pub is_some : (z : ℤ) → (of_z w128 z ≡ 0 → ⊥) → z ≡ pos 0 → ⊥
is_some z other e = other (rw e refl)

-- the weight fits, since some gain may be as great as 1
pub passed_weight : (f : ShortSetting) (w : ℤ) (aim : List ℤ) → IsSetting f → IsShortAim f w aim → as_passed w ≡ w
passed_weight f w aim h short =
    let more : nat_abs w * 1 ≤ nat_abs w * f.top = mul-le (nat_abs w) 1 (nat_abs w) f.top (omega arith) h.some in
    let light = short.light in
    passed w (fit_entry w (omega (arith, more, light)))
