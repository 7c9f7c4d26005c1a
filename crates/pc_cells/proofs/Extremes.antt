-- The end of a column as far as a loop over leaves has come.
use Rattle.std.proofs.Common.{◌≡◌, ℕ, ◌+◌, ◌<◌, ◌≤◌, ℤ, ◌≤ℤ◌, Bool, true, false, List, [], length, get_or, take, All, cond, sym, ap, ◌∙◌, subst, arith}
use Rattle.std.proofs.lemmas.Int.{ints}
use Rattle.std.proofs.lemmas.Bool.{cond_both}
use Rattle.std.proofs.lemmas.List.{get_or_default, take_all}
use Rattle.std.proofs.lemmas.List.Elements.{All-nil, All-more, All-weaker}
use Rattle.pc_model.specs.declared.region.Region.{Region}
use Rattle.pc_model.specs.Cells.{low_at, high_at}
use Rattle.pc_cells_laws.proofs.Leasts.{least_is, greatest_is}
use Rattle.pc_cells.specs.declared.ends.End.{End}
use Rattle.pc_cells.specs.Ends.{end_at, is_past, last_end, IsFirstAt}
use Rattle.pc_cells.specs.Found.{leaf_at}

-- ---- numbers towards an end

-- no number lies beyond this one
abbrev pub IsLast : Bool → ℤ → ℤ → Type 0
IsLast true number other = number ≤ℤ other
IsLast false number other = other ≤ℤ number

last_alone : (low : Bool) (number : ℤ) → IsLast low number number
last_alone true number = omega (arith, ints)
last_alone false number = omega (arith, ints)

last_further : (low : Bool) (further number other : ℤ) → is_past low further number ≡ true → IsLast low number other → IsLast low further other
last_further true further number other past last = grind (arith, ints)
last_further false further number other past last = grind (arith, ints)

apart_past : (low : Bool) (further number other : ℤ) → is_past low further number ≡ true → IsLast low number other → further ≡ other → ⊥
apart_past true further number other past last same = grind (arith, ints)
apart_past false further number other past last same = grind (arith, ints)

last_still : (low : Bool) (number other : ℤ) → is_past low other number ≡ false → IsLast low number other
last_still true number other past = grind (arith, ints)
last_still false number other past = grind (arith, ints)

-- ---- leaves

abbrev no_leaf : Region
no_leaf = record { sides = [] }

-- the number is that of the leaf, and none of the first leaves has one beyond it
pub record IsEnd (low : Bool) (column : ℕ) (leaves : List Region) (count : ℕ) (number : ℤ) (place : ℕ) : Type 0 where
  pub there : place < length leaves
  pub held : number ≡ end_at low column (leaf_at leaves place)
  pub last : All (λ (other : Region). IsLast low number (end_at low column other)) (take count leaves)
  pub first : IsFirstAt low column leaves place number

module _ (low : Bool) (column : ℕ) (leaves : List Region) (count : ℕ) (region : Region) (end new : End) (inside : count < length leaves) (is : region ≡ get_or leaves count region) where
  region_is : get_or leaves count no_leaf ≡ region
  region_is = get_or_default leaves count no_leaf region inside ∙ sym is

  abbrev number : ℤ
  number = end_at low column region

  abbrev IsEndNow : End → Type 0
  IsEndNow x = IsEnd low column leaves (count + 1) x.number x.leaf

  kept : IsEnd low column leaves count end.number end.leaf → is_past low number end.number ≡ false → IsEndNow end
  kept known still = record {
    there = known.there;
    held = known.held;
    last = All-more (λ (other : Region). IsLast low end.number (end_at low column other)) leaves count no_leaf inside known.last
        (rw region_is (last_still low end.number number still));
    first = known.first;
  }

  taken : IsEnd low column leaves count end.number end.leaf → is_past low number end.number ≡ true → IsEndNow (record { number = number; leaf = count })
  taken known past = record {
    there = inside;
    held = ap (end_at low column) (sym region_is);
    last = All-more (λ (other : Region). IsLast low number (end_at low column other)) leaves count no_leaf inside
        (All-weaker (λ (other : Region). IsLast low end.number (end_at low column other)) (λ (other : Region). IsLast low number (end_at low column other))
        (λ other last. last_further low number end.number (end_at low column other) past last) (take count leaves) known.last)
        (rw region_is (last_alone low number));
    first = All-weaker (λ (other : Region). IsLast low end.number (end_at low column other)) (λ (other : Region). number ≡ end_at low column other → ⊥)
        (λ other last. apart_past low number end.number (end_at low column other) past last) (take count leaves) known.last;
  }

  pub end_step : IsEnd low column leaves count end.number end.leaf → new ≡ cond (is_past low number end.number) (record { number = number; leaf = count }) end →
      IsEnd low column leaves (count + 1) new.number new.leaf
  end_step known new_is =
      subst IsEndNow (sym new_is)
      (cond_both (is_past low number end.number) (record { number = number; leaf = count }) end IsEndNow (λ past. taken known past) (λ still. kept known still))

pub end_first : (low : Bool) (column : ℕ) (leaves : List Region) (number : ℤ) (region : Region) → 0 < length leaves → region ≡ get_or leaves 0 region → number ≡ end_at low column region → IsEnd low column leaves 0 number 0
end_first low column leaves number region some is e = record {
  there = some;
  held = e ∙ ap (end_at low column) (is ∙ get_or_default leaves 0 region no_leaf some);
  last = All-nil (λ (other : Region). IsLast low number (end_at low column other));
  first = All-nil (λ (other : Region). number ≡ end_at low column other → ⊥);
}

end_is : (low : Bool) (column : ℕ) (leaves : List Region) (place : ℕ) (number : ℤ) → place < length leaves → number ≡ end_at low column (leaf_at leaves place) →
    All (λ (other : Region). IsLast low number (end_at low column other)) leaves → number ≡ last_end low column leaves
end_is true column leaves place number there held last = least_is (low_at column) leaves place no_leaf number there held last
end_is false column leaves place number there held last = greatest_is (high_at column) leaves place no_leaf number there held last

pub end_all : (low : Bool) (column : ℕ) (leaves : List Region) (count : ℕ) (number : ℤ) (place : ℕ) → length leaves ≤ count → IsEnd low column leaves count number place → number ≡ last_end low column leaves
end_all low column leaves count number place past known =
    end_is low column leaves place number known.there known.held
    (subst (All (λ (other : Region). IsLast low number (end_at low column other))) (take_all count leaves past) known.last)

pub ruleset steps = (end_first, end_step, end_all)
