-- The query over the part of its area that a name keeps is one of the schema.
use Rattle.std.proofs.Common.{ℕ, Option}
use Rattle.pc_model.specs.declared.schema.Schema.{Schema}
use Rattle.pc_model.specs.declared.query.Query.{Query}
use Rattle.pc_model.specs.Accepted.{IsQuery}
use Rattle.pc_proof.specs.Unbroken.{AllowsName}
use Rattle.pc_proof.proofs.NameParts.{narrowed_is_area}
use Rattle.pc_agg_search.specs.Asked.{query_for}

pub query_for_is : (schema : Schema) (query : Query) (name : Option ℕ) → AllowsName query.chosen query.group name → IsQuery schema query → IsQuery schema (query_for query name)
query_for_is schema query name allowed well = record {
  chosen = narrowed_is_area schema query.chosen query.group name allowed well.chosen;
  measured = well.measured;
  grouped = tt;
}
