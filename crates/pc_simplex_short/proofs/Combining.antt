-- Where each number of a short row is made of two others by the same factors, so is each number that it spells.
use Rattle.std.proofs.Common.{◌≡◌, ℕ, ◌+◌, ◌<◌, Bool, true, false, List, [], ◌∷◌, All, ap, sym, subst, ◌∙◌, arith, slice_index_or}
use Rattle.std.specs.Prelude.{ℤ, ◌+ℤ◌, ◌-ℤ◌, ◌*ℤ◌}
use Rattle.std.proofs.lemmas.Int.{ints}
use Rattle.std.proofs.lemmas.List.Elements.{All-head, All-tail, All-get_or}
use Rattle.pc_program_bound.specs.Sums.{int_at}
use Rattle.pc_program_bound.proofs.Ring.{mul-add, mul_assoc}
use Rattle.pc_simplex_tableau.proofs.Products.{mul-zero, mul-neg}
use Rattle.pc_simplex_tableau.proofs.Pivots.{by_same}
use Rattle.pc_simplex_short.specs.Short.{ShortSetting, mix, signed, places_of, entry, spelled_numbers, aim_entry, spelled_aim}
use Rattle.pc_simplex_short.specs.Kept.{ArePlaces, IsSetting}
use Rattle.pc_simplex_short.proofs.Spelled.{at-spelled, value-spelled, at-aim}

-- numbers that are made of two others by the same factors, below a place
abbrev pub AreMade : ℤ → ℤ → ℤ → ℕ → List ℤ → List ℤ → List ℤ → Type 0
AreMade g p t n new xs ys = (j : ℕ) → j < n → g *ℤ int_at new j ≡ p *ℤ int_at xs j -ℤ t *ℤ int_at ys j

mix-made : (g p t : ℤ) (n : ℕ) (new xs ys : List ℤ) → AreMade g p t n new xs ys → (places : List ℕ) → All (λ j. j < n) places
    → g *ℤ mix places new ≡ p *ℤ mix places xs -ℤ t *ℤ mix places ys
unfolding mix
mix-made g p t n new xs ys each [] all = rw (mul-zero g, mul-zero p, mul-zero t) (omega (arith, ints))
mix-made g p t n new xs ys each (j ∷ places) all =
    let first = each j (All-head (λ i. i < n) j places all) in
    let rest = mix-made g p t n new xs ys each places (All-tail (λ i. i < n) j places all) in
    let left = mul-add g (int_at new j) (mix places new) in
    let right = mul-add p (int_at xs j) (mix places xs) in
    let other = mul-add t (int_at ys j) (mix places ys) in
    omega (arith, ints, first, rest, left, right, other)

signed_made : (test : Bool) (g p t x y z : ℤ) → g *ℤ z ≡ p *ℤ x -ℤ t *ℤ y → g *ℤ signed test z ≡ p *ℤ signed test x -ℤ t *ℤ signed test y
signed_made true g p t x y z e = rw (mul-neg g z, mul-neg p x, mul-neg t y) (omega (arith, ints, e))
signed_made false g p t x y z e = e

-- a gain comes in as often as the weight says
weighed_made : (g p t v w gain x y z : ℤ) → g *ℤ v ≡ p *ℤ w → g *ℤ z ≡ p *ℤ x -ℤ t *ℤ y → g *ℤ (v *ℤ gain +ℤ z) ≡ p *ℤ (w *ℤ gain +ℤ x) -ℤ t *ℤ y
weighed_made g p t v w gain x y z weights e =
    let left = mul-add g (v *ℤ gain) z in
    let right = mul-add p (w *ℤ gain) x in
    let weighed : g *ℤ (v *ℤ gain) ≡ p *ℤ (w *ℤ gain) = sym (mul_assoc g v gain) ∙ ap (λ n. n *ℤ gain) weights ∙ mul_assoc p w gain in
    omega (arith, ints, e, left, right, weighed)

-- the same numbers, read elsewhere
made_there : (g p t x y z a b c : ℤ) → a ≡ x → b ≡ y → c ≡ z → g *ℤ z ≡ p *ℤ x -ℤ t *ℤ y → g *ℤ c ≡ p *ℤ a -ℤ t *ℤ b
made_there g p t x y z a b c first second third e = rw (first, second, third) e

pub places-within : (f : ShortSetting) → IsSetting f → (k : ℕ) → k < f.columns.count → All (λ j. j < f.constraints) (places_of f k)
places-within f h k lt = (All-get_or (ArePlaces f) f.places k [] (omega (arith, lt, h.listed)) h.places).within

module _ (f : ShortSetting) (turned : List Bool) (h : IsSetting f) (g p t : ℤ) (new xs ys : List ℤ) where
  pub spelled-made : AreMade g p t (f.constraints + 1) new xs ys
      → AreMade g p t (f.columns.count + 1) (spelled_numbers f turned new) (spelled_numbers f turned xs) (spelled_numbers f turned ys)
  spelled-made each k lt = by_same k f.columns.count value before
    where
      within : AreMade g p t f.constraints new xs ys
      within j less = each j (omega (arith, less))

      before : (k ≡ f.columns.count → ⊥)
          → g *ℤ int_at (spelled_numbers f turned new) k ≡ p *ℤ int_at (spelled_numbers f turned xs) k -ℤ t *ℤ int_at (spelled_numbers f turned ys) k
      before other =
          let below : k < f.columns.count = omega (arith, lt, other) in
          made_there g p t (entry f turned xs k) (entry f turned ys k) (entry f turned new k) _ _ _
          (at-spelled f turned xs k below) (at-spelled f turned ys k below) (at-spelled f turned new k below)
          (signed_made (slice_index_or turned k false) g p t (mix (places_of f k) xs) (mix (places_of f k) ys) (mix (places_of f k) new)
          (mix-made g p t f.constraints new xs ys within (places_of f k) (places-within f h k below)))

      value : k ≡ f.columns.count
          → g *ℤ int_at (spelled_numbers f turned new) k ≡ p *ℤ int_at (spelled_numbers f turned xs) k -ℤ t *ℤ int_at (spelled_numbers f turned ys) k
      value e = subst (λ i. g *ℤ int_at (spelled_numbers f turned new) i ≡ p *ℤ int_at (spelled_numbers f turned xs) i -ℤ t *ℤ int_at (spelled_numbers f turned ys) i) (sym e)
          (made_there g p t (int_at xs f.constraints) (int_at ys f.constraints) (int_at new f.constraints) _ _ _
          (value-spelled f turned xs) (value-spelled f turned ys) (value-spelled f turned new) (each f.constraints (omega arith)))

  pub aim-made : (v w : ℤ) → g *ℤ v ≡ p *ℤ w → AreMade g p t f.constraints new xs ys
      → AreMade g p t f.columns.count (spelled_aim f turned v new) (spelled_aim f turned w xs) (spelled_numbers f turned ys)
  aim-made v w weights each k lt =
      made_there g p t (aim_entry f turned w xs k) (entry f turned ys k) (aim_entry f turned v new k) _ _ _
      (at-aim f turned w xs k lt) (at-spelled f turned ys k lt) (at-aim f turned v new k lt)
      (signed_made (slice_index_or turned k false) g p t (w *ℤ int_at f.gains k +ℤ mix (places_of f k) xs) (mix (places_of f k) ys) (v *ℤ int_at f.gains k +ℤ mix (places_of f k) new)
      (weighed_made g p t v w (int_at f.gains k) (mix (places_of f k) xs) (mix (places_of f k) ys) (mix (places_of f k) new) weights
      (mix-made g p t f.constraints new xs ys each (places_of f k) (places-within f h k lt))))
