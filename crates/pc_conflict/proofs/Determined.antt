-- The tests keep the same constraints, whatever lists decide them.
use Rattle.std.proofs.Common.{◌≡◌, ℕ, zero, suc, List, inl, inr, sym, subst, ◌∙◌}
use Rattle.pc_model.specs.declared.schema.Schema.{Schema}
use Rattle.pc_model.specs.declared.constraint.Constraint.{Constraint}
use Rattle.pc_conflict.specs.Deletion.{AreCompatible, AreContrary, AreKept, IsNext}

module _ (schema : Schema) (constraints : List Constraint) where
  refuted : (listed : List Constraint) → AreContrary schema listed → AreCompatible schema listed → ⊥
  refuted listed contrary compatible = contrary compatible.rows compatible.possible

  one_next : (place : ℕ) (before after other : List ℕ) → IsNext schema constraints place before after → IsNext schema constraints place before other → after ≡ other
  one_next place before after other (inl a) (inl b) = a.1 ∙ sym b.1
  one_next place before after other (inl a) (inr b) = absurd (refuted _ a.0 b.0)
  one_next place before after other (inr a) (inl b) = absurd (refuted _ b.0 a.0)
  one_next place before after other (inr a) (inr b) = a.1 ∙ sym b.1

  pub one_kept : (place : ℕ) (kept others : List ℕ) → AreKept schema constraints place kept → AreKept schema constraints place others → kept ≡ others
  one_kept zero kept others a b = a.1 ∙ sym b.1
  one_kept (suc place) kept others a b =
      one_next place a.0 kept others a.2 (subst (λ (before : List ℕ). IsNext schema constraints place before others) (one_kept place b.0 a.0 b.1 a.1) b.2)
