-- What the statements of a block are about is made of its cells and of its observed rows.
use Rattle.std.proofs.Common.{◌≡◌, ℕ, ◌≤◌, List, Option, Some, None, IsSome, refl, sym, arith}
use Rattle.std.specs.Prelude.{unwrap_or, IsSomeAnd}
use Rattle.std.specs.List.{AllPass}
use Rattle.pc_model.specs.declared.schema.Schema.{Schema}
use Rattle.pc_model.specs.declared.row.Row.{Row}
use Rattle.pc_model.specs.declared.constraint.Constraint.{Constraint}
use Rattle.pc_model.specs.declared.tree.CutNode.{CutNode}
use Rattle.pc_model.specs.declared.query.Agg.{Agg}
use Rattle.pc_model.specs.declared.query.Agg.TheVariants.{Count, Sum, Min, Max, Avg}
use Rattle.pc_model.specs.declared.query.Query.{Query}
use Rattle.pc_model.specs.declared.query.Folded.{Folded}
use Rattle.pc_model.specs.Accepted.{AreConstraints, IsColumnWhere, IsNumeric, Measures}
use Rattle.pc_model.specs.Cells.{leaves_in}
use Rattle.pc_model.specs.Folds.{IsFold}
use Rattle.pc_model.specs.Membership.{in_domain}
use Rattle.pc_model.specs.WellFormed.{IsWellFormed}
use Rattle.pc_proof.specs.declared.document.Block.{Block}
use Rattle.pc_proof.specs.Documents.{Premises, setting_of}
use Rattle.pc_proof.specs.Form.{IsFormedBlock}
use Rattle.pc_check.specs.Blocks.{asked_for}
use Rattle.pc_proof.specs.Unbroken.{AllowsName}
use Rattle.pc_proof.proofs.Observing.{comes}
use Rattle.pc_proof.proofs.SeenSums.{seen_small}
use Rattle.pc_check_rules.specs.Cells.{cells_from}
use Rattle.pc_check_rules.specs.Scene.{AreLimited, IsCounted, HasMeasure}
use Rattle.pc_check.specs.declared.matter.Matter.{Matter}
use Rattle.pc_check.specs.Verdicts.{IsMatterOf}

-- ---- sizes

pub limited : (schema : Schema) (constraints : List Constraint) → AreConstraints schema constraints → AreLimited constraints
limited schema constraints accepted = record {
  few = accepted.few;
  ordered = λ k c there. (accepted.servable k c there).ordered;
  small = λ k c there. let most = accepted.small k c there in omega (arith, most);
}

pub counted : (schema : Schema) (query : Query) (rows : List Row) (name : Option ℕ) (seen : Folded) → IsWellFormed schema → AllPass (in_domain schema) rows
    → IsFold query name rows seen → seen.count ≤ 1_000_000 → IsCounted seen
counted schema query rows name seen formed observed folded few =
    let small = seen_small schema query rows formed observed name seen folded few in record {
      few = few;
      small = omega (arith, small);
    }

-- ---- the setting

is_there : (A : Type 0) (P : A → Type 0) (x : Option A) → IsSomeAnd x P → IsSome x
is_there A P None both = absurd both
is_there A P (Some x) both = refl

measure_there : (schema : Schema) (agg : Agg) (column : Option ℕ) → Measures schema agg column → HasMeasure agg column
measure_there schema Count column measured = tt
measure_there schema Sum column measured = is_there ℕ (IsColumnWhere IsNumeric schema) column measured
measure_there schema Min column measured = is_there ℕ (IsColumnWhere IsNumeric schema) column measured
measure_there schema Max column measured = is_there ℕ (IsColumnWhere IsNumeric schema) column measured
measure_there schema Avg column measured = is_there ℕ (IsColumnWhere IsNumeric schema) column measured

module _ (case : Premises) (block : Block) where
  -- the cells and the fold that the code has, and the query over the area that it keeps
  pub record IsMadeOf (nodes : List CutNode) (matter : Matter) : Type 0 where
    pub schema_is : matter.schema.now ≡ case.schema
    pub asked_is : matter.asked.now ≡ asked_for block
    pub constraints_are : matter.scene.constraints.now ≡ case.constraints
    pub cells_are : matter.scene.cells.now ≡ cells_from (unwrap_or block.query.column 0) (leaves_in case.schema nodes)
    pub agg_is : matter.scene.agg ≡ block.query.agg
    pub folded : IsFold block.query block.name case.observed matter.scene.seen

  pub matter_of : (matter : Matter) (nodes : List CutNode) → IsWellFormed case.schema → IsFormedBlock case.schema block
      → AllowsName block.query.chosen block.query.group block.name → IsMadeOf nodes matter → IsMatterOf matter (setting_of case block nodes)
  matter_of matter nodes formed block_formed allowed made = record {
    schema_is = sym made.schema_is;
    asked_is = sym made.asked_is;
    scene = record {
      constraints_are = sym made.constraints_are;
      cells_are = made.cells_are;
      agg_is = sym made.agg_is;
      comes_to = comes (setting_of case block nodes).question matter.scene.seen made.folded;
      measured = measure_there case.schema block.query.agg block.query.column block_formed.query.measured;
    };
    posed = record { formed = formed; query = block_formed.query };
    named = block_formed.named;
    allowed = allowed;
  }
