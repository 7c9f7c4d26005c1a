-- The keys that pass, as far as a loop over the cells has come.
use Rattle.std.proofs.Common.{◌≡◌, ℕ, ◌+◌, ◌<◌, ℤ, pos, Bool, true, false, true≢false, cond, ◌&&◌, List, [], ◌∷◌, ◌++◌, get_or, All, Contains, Option, inl, inr, refl, sym, ap, subst, ◌∙◌, arith}
use Rattle.std.proofs.lemmas.Bool.{cases_lt}
use Rattle.std.proofs.lemmas.List.Elements.{All-push, All-weaker, Contains-push, Contains-append_left}
use Rattle.pc_cells.specs.declared.cells.Cell.{Cell}
use Rattle.pc_agg.specs.declared.ladder.Test.{Test}
use Rattle.pc_agg.specs.Kept.{passes, HasKey, AreKept}
use Rattle.pc_agg_search.specs.Targets.{cell_at}

module _ (cells : List Cell) (keys : List ℤ) (test : Test) (seen : Option ℤ) where
  module _ (place : ℕ) (kept : List ℤ) (so_far : AreKept cells keys test seen place kept) where
    abbrev key : ℤ
    key = get_or keys place (pos 0)

    later : All (λ other. HasKey cells keys (place + 1) other × (passes test seen other ≡ true)) kept
    later =
        All-weaker (λ other. HasKey cells keys place other × (passes test seen other ≡ true)) (λ other. HasKey cells keys (place + 1) other × (passes test seen other ≡ true))
        (λ other has. ((has.0.0, omega (arith, has.0.1), has.0.2, has.0.3), has.1)) kept so_far.from

    here_or_before : (i : ℕ) → i < place + 1 → (i < place → Contains kept (get_or keys i (pos 0))) → (more : List ℤ) → (i ≡ place → Contains (kept ++ more) (get_or keys i (pos 0))) → Contains (kept ++ more) (get_or keys i (pos 0))
    here_or_before i below before more here = elim (cases_lt i place) [
      | inl less ↦ Contains-append_left kept more (get_or keys i (pos 0)) (before less)
      | inr past ↦ here (omega (arith, below, past))
    ]

    keeping : (cell_at cells place).chosen ≡ true → passes test seen key ≡ true → AreKept cells keys test seen (place + 1) (kept ++ key ∷ [])
    keeping chosen passed = record {
      from = All-push (λ other. HasKey cells keys (place + 1) other × (passes test seen other ≡ true)) kept key later ((place, omega arith, chosen, refl), passed);
      each = λ i below is_chosen is_passed.
          here_or_before i below (λ less. so_far.each i less is_chosen is_passed) (key ∷ [])
          (λ same. subst (Contains (kept ++ key ∷ [])) (ap (λ n. get_or keys n (pos 0)) (sym same)) (Contains-push kept key));
    }

    leaving : ((cell_at cells place).chosen ≡ true → passes test seen key ≡ true → ⊥) → AreKept cells keys test seen (place + 1) kept
    leaving never = record {
      from = later;
      each = λ i below is_chosen is_passed. elim (cases_lt i place) [
        | inl less ↦ so_far.each i less is_chosen is_passed
        | inr past ↦
            let same : i ≡ place = omega (arith, below, past) in
            absurd (never (ap (λ n. (cell_at cells n).chosen) (sym same) ∙ is_chosen) (ap (λ n. passes test seen (get_or keys n (pos 0))) (sym same) ∙ is_passed))
      ];
    }

    pub next_keys : (keeps : Bool) (more : List ℤ) → keeps ≡ ((cell_at cells place).chosen && passes test seen key) → more ≡ cond keeps (kept ++ key ∷ []) kept → AreKept cells keys test seen (place + 1) more
    next_keys keeps more keeps_is is = subst (AreKept cells keys test seen (place + 1)) (sym (is ∙ ap (λ k. cond k (kept ++ key ∷ []) kept) keeps_is)) (by_tests (cell_at cells place).chosen refl (passes test seen key) refl)
      where
        by_tests : (chosen : Bool) → (cell_at cells place).chosen ≡ chosen → (passed : Bool) → passes test seen key ≡ passed → AreKept cells keys test seen (place + 1) (cond (chosen && passed) (kept ++ key ∷ []) kept)
        by_tests true chosen_is true passed_is = keeping chosen_is passed_is
        by_tests true chosen_is false passed_is = leaving (λ _ passed. true≢false (sym passed ∙ passed_is))
        by_tests false chosen_is passed passed_is = leaving (λ chosen _. true≢false (sym chosen ∙ chosen_is))
