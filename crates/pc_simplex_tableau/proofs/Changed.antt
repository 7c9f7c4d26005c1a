-- Rows that are changed one after the other, as long as the numbers fit.
use Rattle.std.proofs.Common.{◌≡◌, ◌<◌, ◌+◌, ◌++◌, ◌&&◌, ℕ, zero, suc, Bool, true, List, [], ◌∷◌, length, get_or, set, take, drop, map, All, arith, refl, ap, sym, ◌∙◌}
use Rattle.std.specs.List.{list_all}
use Rattle.std.proofs.lemmas.List.{at_drop_more, get_or_default}
use Rattle.std.proofs.lemmas.List.Edits.{map_over_more}
use Rattle.std.proofs.lemmas.List.Elements.{All-set}
use Rattle.pc_simplex_tableau.specs.Tableau.{TableauRow}
use Rattle.pc_simplex_tableau.specs.Conditions.{IsFitRow}

-- the rows before place i are changed, and those from there decide whether all fit
pub record IsMadeTo (f : TableauRow → TableauRow) (test : TableauRow → Bool) (Keeps : TableauRow → Type 0) (old rows : List TableauRow) (i : ℕ) : Type 0 where
  pub decides : list_all test old ≡ list_all test (drop i old)
  pub made : rows ≡ map f (take i old) ++ drop i old
  pub kept : All Keeps rows
  pub fits : All IsFitRow rows

module _ (f : TableauRow → TableauRow) where
  after_changed : (i : ℕ) (old : List TableauRow) (x : TableauRow) → i < length old → get_or (map f (take i old) ++ drop i old) i x ≡ get_or old i x
  after_changed i [] x h = absurd (omega arith)
  after_changed zero (y ∷ old) x h = refl
  after_changed (suc i) (y ∷ old) x h = after_changed i old x (omega arith)

module _ (f : TableauRow → TableauRow) (test : TableauRow → Bool) (Keeps : TableauRow → Type 0) (old rows : List TableauRow) (i : ℕ) where
  pub changed_more : ((x : TableauRow) → Keeps x → Keeps (f x)) → (d y : TableauRow) → i < length old → i < length rows → IsMadeTo f test Keeps old rows i →
      y ≡ f (get_or rows i d) → true ≡ test (get_or rows i d) → IsFitRow y → IsMadeTo f test Keeps old (set rows i y) (i + 1)
  changed_more keeps d y within inside h e passes fits =
      let x = get_or rows i d in
      let x_is : x ≡ get_or old i d = ap (λ l. get_or l i d) h.made ∙ after_changed f i old d within in
      let passed : test (get_or old i d) ≡ true = ap test (sym x_is) ∙ sym passes in
      record {
        decides = h.decides ∙ at_drop_more (list_all test) old i d within ∙ ap (λ b. b && list_all test (drop (i + 1) old)) passed;
        made = rw e (map_over_more f old rows i x within h.made (get_or_default rows i d x inside));
        kept = rw e (All-set Keeps rows i (f x) (keeps x (h.kept i d inside)) h.kept);
        fits = All-set IsFitRow rows i y fits h.fits;
      }
