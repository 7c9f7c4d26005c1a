-- What the observed rows come to for each block of a query.
use Rattle.std.proofs.Common.{◌≡◌, ◌<◌, ◌≤◌, ◌*◌, ℕ, zero, suc, List, [], ◌∷◌, length, map, get_or, All, Some, None, Result, Ok, Err, IfOk, refl, sym, ap, subst, ◌∙◌, arith}
use Rattle.std.specs.Prelude.{nat_abs}
use Rattle.std.specs.List.{AllPass, AllZip}
use Rattle.std.proofs.lemmas.List.Elements.{All-nil, All-cons}
use Rattle.std.proofs.lemmas.Slice.Zip.{AllZip-long}
use Rattle.pc_num.specs.declared.memory.Memory.{Memory}
use Rattle.pc_num.specs.Scaled.{greatest_size}
use Rattle.pc_model.specs.declared.schema.Schema.{Schema}
use Rattle.pc_model.specs.declared.row.Row.{Row}
use Rattle.pc_model.specs.declared.query.Folded.{Folded}
use Rattle.pc_model.specs.declared.query.Query.{Query}
use Rattle.pc_model.specs.Folds.{IsFold}
use Rattle.pc_model.specs.Membership.{in_domain}
use Rattle.pc_model.specs.WellFormed.{IsWellFormed}
use Rattle.pc_proof.proofs.SeenSums.{each_small, seen_small}
use Rattle.pc_group.specs.Scopes.{AreFolds, AreFoldsFor}
use Rattle.pc_group.specs.Wanted.{Wanted, allowed_names, wanted_as, wanted_by, wanted_of}
use Rattle.pc_group.proofs.Areas.{grouped, ungrouped}

module _ (query : Query) (observed : List Row) where
  -- the folds of names are those of their blocks
  of_names : (names : List ℕ) (folds : List Folded) → AllZip (λ (name : ℕ) (folded : Folded). IsFold query (Some name) observed folded) names folds → AreFolds (map (wanted_of query) names) observed folds
  of_names [] [] each = tt
  of_names [] (folded ∷ folds) each = absurd each
  of_names (name ∷ names) [] each = absurd each
  of_names (name ∷ names) (folded ∷ folds) each = (each.0, of_names names folds each.1)

  pub fold_at : (names : List ℕ) (folds : List Folded) (i d : ℕ) (e : Folded) → AreFolds (map (wanted_of query) names) observed folds → i < length names → IsFold query (Some (get_or names i d)) observed (get_or folds i e)
  fold_at [] folds i d e each inside = let no : ⊥ = omega (arith, inside) in absurd no
  fold_at (name ∷ names) [] i d e each inside = absurd each
  fold_at (name ∷ names) (folded ∷ folds) zero d e each inside = each.0
  fold_at (name ∷ names) (folded ∷ folds) (suc i) d e each inside = fold_at names folds i d e each.1 (omega (arith, inside))

  as_many : (names : List ℕ) → length (map (wanted_of query) names) ≡ length names
  as_many [] = refl
  as_many (name ∷ names) = ap suc (as_many names)

-- ---- one block

module _ (schema : Schema) (query : Query) (is : query.group ≡ None) where
  pub alone : (observed : List Row) (folded : Folded) → IsFold query None observed folded → AreFolds (wanted_by schema query) observed (folded ∷ [])
  alone observed folded fold = subst (λ (ws : List Wanted). AreFolds ws observed (folded ∷ [])) (sym (ungrouped schema query is)) (fold, tt)

  pub alone_fits : (rows : List Row) (folded : Folded) → IsWellFormed schema → AllPass (in_domain schema) rows → IsFold query None rows folded → folded.count ≤ 1_000_000 → AreFoldsFor (wanted_by schema query) (folded ∷ [])
  alone_fits rows folded formed seen fold few = record {
    even = ap length (sym (ungrouped schema query is));
    few = All-cons (λ (f : Folded). f.count ≤ 1_000_000) folded [] few (All-nil (λ (f : Folded). f.count ≤ 1_000_000));
    small = All-cons (λ (f : Folded). nat_abs f.sum ≤ 1_000_000 * greatest_size) folded [] (seen_small schema query rows formed seen None folded fold few) (All-nil (λ (f : Folded). nat_abs f.sum ≤ 1_000_000 * greatest_size));
  }

  pub alone_at : (observed : List Row) (folds : List Folded) (e : Folded) → AreFolds (wanted_by schema query) observed folds → IsFold query None observed (get_or folds 0 e)
  alone_at observed folds e each = first folds (subst (λ (ws : List Wanted). AreFolds ws observed folds) (ungrouped schema query is) each)
    where
      first : (folds : List Folded) → AreFolds (wanted_as query None ∷ []) observed folds → IsFold query None observed (get_or folds 0 e)
      first [] each = absurd each
      first (folded ∷ folds) each = each.0

  pub one_fold : (folds : List Folded) → AreFoldsFor (wanted_by schema query) folds → length folds ≡ 1
  one_fold folds fit = fit.even ∙ ap length (ungrouped schema query is)

-- ---- a block for each name

module _ (schema : Schema) (query : Query) (column : ℕ) (is : query.group ≡ Some column) where
  pub named : (rows : List Row) (folds : List Folded) → AllZip (λ (name : ℕ) (folded : Folded). IsFold query (Some name) rows folded) (allowed_names schema query column) folds → AreFolds (wanted_by schema query) rows folds
  named rows folds each = subst (λ (ws : List Wanted). AreFolds ws rows folds) (sym (grouped schema query column is)) (of_names query rows (allowed_names schema query column) folds each)

  pub named_fit : (rows : List Row) (folds : List Folded) → IsWellFormed schema → AllPass (in_domain schema) rows → AllZip (λ (name : ℕ) (folded : Folded). IsFold query (Some name) rows folded) (allowed_names schema query column) folds →
      All (λ (folded : Folded). folded.count ≤ 1_000_000) folds → AreFoldsFor (wanted_by schema query) folds
  named_fit rows folds formed seen each few = record {
    even =
        AllZip-long (λ (name : ℕ) (folded : Folded). IsFold query (Some name) rows folded) (allowed_names schema query column) folds each
        ∙ sym (ap length (grouped schema query column is) ∙ as_many query rows (allowed_names schema query column));
    few = few;
    small = each_small schema query rows formed seen (allowed_names schema query column) folds each few;
  }

  pub named_if : (rows : List Row) → IsWellFormed schema → AllPass (in_domain schema) rows → (names : List ℕ) → names ≡ allowed_names schema query column → (result : Result (List Folded) Memory) →
      IfOk result (AllZip (λ (name : ℕ) (folded : Folded). IsFold query (Some name) rows folded) names) → IfOk result (All (λ (folded : Folded). folded.count ≤ 1_000_000)) → IfOk result (AreFoldsFor (wanted_by schema query))
  named_if rows formed seen names same (Err stop) each few = tt
  named_if rows formed seen names same (Ok folds) each few =
      named_fit rows folds formed seen (subst (λ (ns : List ℕ). AllZip (λ (name : ℕ) (folded : Folded). IsFold query (Some name) rows folded) ns folds) same each) few
