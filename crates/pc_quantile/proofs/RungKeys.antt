-- The keys that the code gathers are those of the candidates.
use Rattle.std.proofs.Common.{◌≡◌, ℕ, ◌<◌, ◌≤◌, ℤ, pos, nat_abs, true, inl, inr, List, ◌++◌, length, map, get_or, All, Contains, refl, sym, ap, subst, ◌∙◌, arith}
use Rattle.std.proofs.lemmas.Int.{ints}
use Rattle.std.proofs.lemmas.List.{length-map, get_or-map, get_or_default}
use Rattle.std.proofs.lemmas.List.Elements.{All-append, All-map, All-weaker, All-contains, Contains-append_left, Contains-append_right, Contains-get_or}
use Rattle.pc_num.specs.Scaled.{greatest_size}
use Rattle.pc_model.specs.declared.row.Row.{Row}
use Rattle.pc_model.specs.Cells.{Class}
use Rattle.pc_program_bound.proofs.CellPlaces.{no_class}
use Rattle.pc_cells.specs.declared.cells.Cell.{Cell}
use Rattle.pc_proof.specs.Setting.{Setting, cells}
use Rattle.pc_agg_search.specs.declared.extreme.Extreme.{Extreme}
use Rattle.pc_agg_search.specs.declared.extreme.Extreme.TheVariants.{Low, High}
use Rattle.pc_agg_search.specs.declared.problem.Problem.{Problem}
use Rattle.pc_agg_search.specs.Ends.{signed}
use Rattle.pc_agg_search.specs.Keys.{key_of}
use Rattle.pc_agg_search.specs.Posed.{AreAtEnd, keys_of}
use Rattle.pc_agg_search.specs.Problem.{IsPosed, setting_of}
use Rattle.pc_agg_search.specs.Targets.{cell_at}
use Rattle.pc_agg_search.proofs.CellNumbers.{keys_small}
use Rattle.pc_agg.specs.Falling.{IsFallingOf}
use Rattle.pc_agg.proofs.Ladders.{class_is, key_is, long}
use Rattle.pc_quantile.specs.Climbing.{AreRungs}
use Rattle.pc_quantile.specs.Past.{IsCandidateBeside, end_in}
use Rattle.pc_quantile.specs.Rungs.{AreKeysOf, HasKeyBefore}
use Rattle.pc_quantile.proofs.PastPrograms.{keys_long}

-- ---- turned numbers

turned_back : (extreme : Extreme) (n : ℤ) → signed extreme (signed extreme n) ≡ n
turned_back Low n = omega (arith, ints)
turned_back High n = refl

turned_small : (extreme : Extreme) (n : ℤ) → nat_abs n ≤ greatest_size → nat_abs (signed extreme n) ≤ greatest_size
turned_small Low n small = omega (arith, ints, small)
turned_small High n small = small

end_is : (s : Setting) (extreme : Extreme) (class : Class) → end_in s extreme class ≡ signed extreme (key_of s extreme class)
end_is s Low class = omega (arith, ints)
end_is s High class = refl

key_at_end : (s : Setting) (extreme : Extreme) (class : Class) → key_of s extreme class ≡ signed extreme (end_in s extreme class)
key_at_end s Low class = refl
key_at_end s High class = refl

-- ---- numbers that contain one contain it turned

turned_there : (extreme : Extreme) (seen : List ℤ) (number : ℤ) → Contains seen number → Contains (map (signed extreme) seen) (signed extreme number)
turned_there extreme seen number there =
    (there.0, omega (arith, there.1, length-map seen (signed extreme)), get_or-map (signed extreme) seen there.0 number (signed extreme number) there.1 ∙ ap (signed extreme) (get_or_default seen there.0 number number there.1 ∙ there.2))

module _ (problem : Problem) (posed : IsPosed problem) (extreme : Extreme) (keys : List ℤ) (keyed : keys ≡ keys_of problem extreme) (seen : List ℤ) where
  abbrev u : Setting
  u = setting_of problem

  abbrev list : List Cell
  list = problem.cells.now.cells

  abbrev class_at : ℕ → Class
  class_at i = get_or (cells u) i no_class

  as_long : length list ≡ length (cells u)
  as_long = long problem.schema.now problem.constraints.now problem.query.now problem.cells.now.tree.nodes list posed.found.listed extreme keys keyed

  class_here : (i : ℕ) → i < length list → (cell_at list i).chosen ≡ (class_at i).chosen
  class_here i inside =
      ap (λ (class : Class). class.chosen) (class_is problem.schema.now problem.constraints.now problem.query.now problem.cells.now.tree.nodes list posed.found.listed extreme keys keyed i inside)

  key_here : (i : ℕ) → i < length list → (cell_at list i).chosen ≡ true → get_or keys i (pos 0) ≡ key_of u extreme (class_at i)
  key_here i inside chosen = key_is problem.schema.now problem.constraints.now problem.query.now problem.cells.now.tree.nodes list posed.found.listed extreme keys keyed i inside chosen

  module _ (chosen : List ℤ) (are : AreKeysOf list keys (length list) chosen) where
    abbrev IsOne : ℤ → Type 0
    IsOne key = IsCandidateBeside u seen extreme (signed extreme key)

    of_cell : (key : ℤ) → HasKeyBefore list keys (length list) key → IsOne key
    of_cell key has =
        let i = has.0 in
        let inside : i < length (cells u) = omega (arith, has.1, as_long) in
        inl (record {
          class = class_at i;
          listed = Contains-get_or (cells u) i no_class inside;
          chosen = sym (class_here i has.1) ∙ has.2;
          is = end_is u extreme (class_at i) ∙ ap (signed extreme) (sym (key_here i has.1 has.2) ∙ has.3);
        })

    abbrev all : List ℤ
    all = chosen ++ map (signed extreme) seen

    from_all : All IsOne all
    from_all = All-append IsOne chosen (map (signed extreme) seen)
        (All-weaker (HasKeyBefore list keys (length list)) IsOne of_cell chosen are.from)
        (All-map IsOne (signed extreme) seen (λ i d inside. inr (subst (Contains seen) (sym (turned_back extreme (get_or seen i d))) (Contains-get_or seen i d inside))))

    there : (number : ℤ) → IsCandidateBeside u seen extreme number → Contains all (signed extreme number)
    there number (inr own) = Contains-append_right chosen (map (signed extreme) seen) (signed extreme number) (turned_there extreme seen number own)
    there number (inl own) =
        let i = own.listed.0 in
        let inside : i < length list = omega (arith, own.listed.1, as_long) in
        let class : class_at i ≡ own.class = get_or_default (cells u) i no_class own.class own.listed.1 ∙ own.listed.2 in
        let is_chosen : (cell_at list i).chosen ≡ true = class_here i inside ∙ ap (λ (c : Class). c.chosen) class ∙ own.chosen in
        let key : get_or keys i (pos 0) ≡ signed extreme number =
        key_here i inside is_chosen ∙ ap (key_of u extreme) class ∙ key_at_end u extreme own.class ∙ ap (signed extreme) own.is in
        Contains-append_left chosen (map (signed extreme) seen) (signed extreme number) (subst (Contains chosen) key (are.each i inside is_chosen))

    module _ (picks : List Row) (picked : AreAtEnd problem extreme picks) (small_seen : All (λ number. nat_abs number ≤ greatest_size) seen) where
      abbrev IsSmall : ℤ → Type 0
      IsSmall key = nat_abs key ≤ greatest_size

      small_keys : All IsSmall keys
      small_keys = subst (All IsSmall) (sym keyed) (keys_small u extreme posed.formed (cells u) picks picked)

      small_all : All IsSmall all
      small_all = All-append IsSmall chosen (map (signed extreme) seen)
          (All-weaker (HasKeyBefore list keys (length list)) IsSmall
          (λ key has. subst IsSmall has.3 (small_keys has.0 (pos 0) (omega (arith, has.1, keys_long problem posed extreme keys keyed)))) chosen are.from)
          (All-map IsSmall (signed extreme) seen (λ i d inside. turned_small extreme (get_or seen i d) (small_seen i d inside)))

      of_all : (P : ℤ → Type 0) (rungs : List ℤ) → All P all → All (Contains all) rungs → All P rungs
      of_all P rungs each from i d inside = All-contains P all (get_or rungs i d) each (from i d inside)

      pub are_rungs : (rungs : List ℤ) → IsFallingOf all rungs → AreRungs u seen extreme rungs
      are_rungs rungs falling = record {
        falling = falling.falls;
        from = of_all IsOne rungs from_all falling.from;
        each = λ number is. All-contains (Contains rungs) all (signed extreme number) falling.each (there number is);
        small = of_all IsSmall rungs small_all falling.from;
      }
