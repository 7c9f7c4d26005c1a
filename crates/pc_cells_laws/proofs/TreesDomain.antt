-- The leaves of trees of proper cuts over the whole domain.
use Rattle.std.proofs.Common.{◌≡◌, true, All, sym, ◌∙◌}
use Rattle.pc_model.specs.declared.schema.Schema.{Schema}
use Rattle.pc_model.specs.declared.row.Row.{Row}
use Rattle.pc_model.specs.Membership.{has, in_domain}
use Rattle.pc_model.specs.Regions.{is_region_of, whole_region}
use Rattle.pc_model.specs.WellFormed.{IsWellFormed}
use Rattle.pc_model.specs.declared.tree.Leaf.{Leaf}
use Rattle.pc_model.specs.CutTrees.{CutShape, leaves_of, HasRow, HasProperCuts}
use Rattle.pc_model.proofs.WholeDomain.{in_whole, whole_is_region}
use Rattle.pc_box.proofs.Rows.{row_of_box}
use Rattle.pc_box.proofs.Schemas.{IsBox-from_schema}
use Rattle.pc_cells_laws.proofs.TreesLeaves.{IsInLeaves, some_leaf, leaf_inside, leaf_rows, leaf_regions}

whole_has_row : (schema : Schema) → IsWellFormed schema → HasRow (whole_region schema)
whole_has_row schema formed = row_of_box (whole_region schema) (IsBox-from_schema schema (whole_region schema) (whole_is_region schema formed))

-- ---- the leaves of a tree over it

module _ (schema : Schema) (tree : CutShape) (proper : HasProperCuts (whole_region schema) tree) where
  -- each row of the domain is in a leaf
  pub domain_covered : (row : Row) → in_domain schema row ≡ true → IsInLeaves (leaves_of (whole_region schema) tree) row
  domain_covered row allowed = some_leaf (whole_region schema) tree row proper (in_whole schema row ∙ allowed)

  -- each row of a leaf is in the domain
  pub leaves_in_domain : All (λ (found : Leaf). (row : Row) → has found.region row ≡ true → in_domain schema row ≡ true) (leaves_of (whole_region schema) tree)
  leaves_in_domain place other inside row held = sym (in_whole schema row) ∙ leaf_inside (whole_region schema) tree proper place other inside row held

  pub domain_rows : IsWellFormed schema → All (λ (found : Leaf). HasRow found.region) (leaves_of (whole_region schema) tree)
  domain_rows formed = leaf_rows (whole_region schema) tree (whole_has_row schema formed) proper

  pub domain_regions : IsWellFormed schema → All (λ (found : Leaf). is_region_of schema found.region ≡ true) (leaves_of (whole_region schema) tree)
  domain_regions formed = leaf_regions schema (whole_region schema) tree (whole_is_region schema formed) proper
