-- The keys of the chosen cells, as far as a loop over the cells has come.
use Rattle.std.proofs.Common.{◌≡◌, ℕ, ◌+◌, ℤ, pos, Bool, true, false, true≢false, cond, List, [], ◌∷◌, ◌++◌, get_or, All, Contains, inl, inr, refl, sym, ap, subst, ◌∙◌, arith}
use Rattle.std.proofs.lemmas.Bool.{cases_lt}
use Rattle.std.proofs.lemmas.List.Elements.{All-push, All-weaker, Contains-push, Contains-append_left}
use Rattle.pc_cells.specs.declared.cells.Cell.{Cell}
use Rattle.pc_agg_search.specs.Targets.{cell_at}
use Rattle.pc_quantile.specs.Rungs.{AreKeysOf, HasKeyBefore}

module _ (cells : List Cell) (keys : List ℤ) (place : ℕ) (kept : List ℤ) (so_far : AreKeysOf cells keys place kept) where
  abbrev key : ℤ
  key = get_or keys place (pos 0)

  later : All (HasKeyBefore cells keys (place + 1)) kept
  later = All-weaker (HasKeyBefore cells keys place) (HasKeyBefore cells keys (place + 1)) (λ other has. (has.0, omega (arith, has.1), has.2, has.3)) kept so_far.from

  keeping : (cell_at cells place).chosen ≡ true → AreKeysOf cells keys (place + 1) (kept ++ key ∷ [])
  keeping chosen = record {
    from = All-push (HasKeyBefore cells keys (place + 1)) kept key later (place, omega arith, chosen, refl);
    each = λ i below is_chosen. elim (cases_lt i place) [
      | inl less ↦ Contains-append_left kept (key ∷ []) (get_or keys i (pos 0)) (so_far.each i less is_chosen)
      | inr past ↦
          let same : i ≡ place = omega (arith, below, past) in
          subst (Contains (kept ++ key ∷ [])) (ap (λ n. get_or keys n (pos 0)) (sym same)) (Contains-push kept key)
    ];
  }

  leaving : (cell_at cells place).chosen ≡ false → AreKeysOf cells keys (place + 1) kept
  leaving other = record {
    from = later;
    each = λ i below is_chosen. elim (cases_lt i place) [
      | inl less ↦ so_far.each i less is_chosen
      | inr past ↦
          let same : i ≡ place = omega (arith, below, past) in
          absurd (true≢false (sym is_chosen ∙ ap (λ n. (cell_at cells n).chosen) same ∙ other))
    ];
  }

  pub next_keys : (chosen : Bool) → chosen ≡ (cell_at cells place).chosen → (more : List ℤ) → more ≡ cond chosen (kept ++ key ∷ []) kept → AreKeysOf cells keys (place + 1) more
  next_keys true chosen more is = subst (AreKeysOf cells keys (place + 1)) (sym is) (keeping (sym chosen))
  next_keys false other more is = subst (AreKeysOf cells keys (place + 1)) (sym is) (leaving (sym other))
