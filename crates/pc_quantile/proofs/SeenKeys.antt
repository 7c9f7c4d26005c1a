-- The keys of the observed numbers, as far as a loop over them has come.
use Rattle.std.proofs.Common.{◌≡◌, ℕ, ◌+◌, ◌<◌, ◌≤◌, ℤ, pos, List, [], ◌∷◌, ◌++◌, length, map, get_or, take, sym, ap, ◌∙◌, append_assoc, append-nil}
use Rattle.std.proofs.lemmas.List.{map_more, take_all}
use Rattle.pc_agg_search.specs.declared.extreme.Extreme.{Extreme}
use Rattle.pc_agg_search.specs.Ends.{signed}

module _ (extreme : Extreme) (keys seen : List ℤ) where
  pub seen_none : keys ≡ keys ++ map (signed extreme) (take 0 seen)
  seen_none = sym (append-nil keys)

  pub seen_more : (all : List ℤ) (place : ℕ) (key : ℤ) → place < length seen → all ≡ keys ++ map (signed extreme) (take place seen) → key ≡ signed extreme (get_or seen place (pos 0)) →
      all ++ key ∷ [] ≡ keys ++ map (signed extreme) (take (place + 1) seen)
  seen_more all place key inside so_far is =
      rw (so_far, is, map_more (signed extreme) seen place (pos 0) inside) (append_assoc keys (map (signed extreme) (take place seen)) (signed extreme (get_or seen place (pos 0)) ∷ []))

  pub seen_all : (all : List ℤ) (place : ℕ) → length seen ≤ place → all ≡ keys ++ map (signed extreme) (take place seen) → all ≡ keys ++ map (signed extreme) seen
  seen_all all place past so_far = so_far ∙ ap (λ list. keys ++ map (signed extreme) list) (take_all place seen past)
