-- Rows that are changed one after the other: those before a place are changed already.
use Rattle.std.proofs.Common.{◌≡◌, ◌<◌, ◌+◌, ◌++◌, ℕ, zero, suc, List, [], ◌∷◌, length, get_or, set, take, drop, map, All, arith, refl, ap, sym, subst, ◌∙◌}
use Rattle.std.proofs.lemmas.List.{get_or_default, get_or-map, length-map}
use Rattle.std.proofs.lemmas.List.Edits.{map_over_more}
use Rattle.std.proofs.lemmas.List.Elements.{All-set}

-- the rows before place i are changed, and all keep what is to be kept
pub record IsMadeTo {X : Type 0} (f : X → X) (Keeps : X → Type 0) (old rows : List X) (i : ℕ) : Type 0 where
  pub made : rows ≡ map f (take i old) ++ drop i old
  pub kept : All Keeps rows

module _ {X : Type 0} (f : X → X) where
  after_changed : (i : ℕ) (old : List X) (x : X) → i < length old → get_or (map f (take i old) ++ drop i old) i x ≡ get_or old i x
  after_changed i [] x h = absurd (omega arith)
  after_changed zero (y ∷ old) x h = refl
  after_changed (suc i) (y ∷ old) x h = after_changed i old x (omega arith)

module _ {X : Type 0} (f : X → X) (Keeps : X → Type 0) (old rows : List X) (i : ℕ) where
  pub made_more : (d y : X) → i < length old → i < length rows → IsMadeTo f Keeps old rows i →
      y ≡ f (get_or rows i d) → Keeps y → IsMadeTo f Keeps old (set rows i y) (i + 1)
  made_more d y within inside h e keeps =
      let x = get_or rows i d in
      record {
        made = rw e (map_over_more f old rows i x within h.made (get_or_default rows i d x inside));
        kept = All-set Keeps rows i y keeps h.kept;
      }

  -- the row that is next to be changed keeps what all changed rows keep
  pub made_at : (P : X → Type 0) (d : X) → i < length old → IsMadeTo f Keeps old rows i → All P (map f old) → P (f (get_or rows i d))
  made_at P d within h all =
      let same : get_or rows i d ≡ get_or old i d = ap (λ l. get_or l i d) h.made ∙ after_changed f i old d within in
      let there : get_or (map f old) i (f d) ≡ f (get_or old i d) = get_or-map f old i d (f d) within in
      subst (λ y. P (f y)) (sym same) (subst P there (all i (f d) (omega (arith, within, length-map old f))))
