-- What is asked of the kinds of lines of which a document is made.
use Rattle.std.specs.Prelude.{◌≡◌, ℕ, true, false, Some}
use Rattle.pc_model.specs.declared.schema.Schema.{Schema}
use Rattle.pc_model.specs.declared.row.Run.{Run}
use Rattle.pc_model.specs.declared.query.Query.{Query}
use Rattle.pc_model.specs.Accepted.{IsQuery, IsColumnWhere, HasNames}
use Rattle.pc_document_format.specs.Formats.{IsLine}
use Rattle.pc_proof.specs.Form.{IsFormedRun, IsFormedValue, IsGroupName}
use Rattle.pc_document_lines.specs.NodeLines.{IsBareNode, node_text, read_node}
use Rattle.pc_document_lines.specs.declared.tags.Side.{Side}
use Rattle.pc_document_lines.specs.declared.tags.EndLine.{EndLine}
use Rattle.pc_document_lines.specs.declared.tags.ProofLine.{ProofLine}
use Rattle.pc_document_lines.specs.ValueLines.{IsEndLine, IsProofLine, end_text, outer_text, proof_text, read_end_line, read_outer_line, read_proof_line}
use Rattle.pc_document_lines.specs.TokenLines.{IsBareCut, run_text, cut_node_text, group_text, query_line_text, begins_run, begins_query, read_run, read_cut_node, read_group, read_query_line}

-- each kind of line is written and read back
pub record AreLines (schema : Schema) : Type 0 where
  pub node : IsLine IsBareNode node_text read_node
  pub run : IsLine (IsFormedRun schema) (run_text schema) (read_run schema)
  pub run_begins : (run : Run) → begins_run (run_text schema run) ≡ true
  pub cut : IsLine (IsBareCut schema) (cut_node_text schema) (read_cut_node schema)
  pub end : (query : Query) → IsQuery schema query → (side : Side) → IsLine (IsEndLine query) (end_text schema query side) (read_end_line schema query side)
  pub end_begins : (query : Query) (side : Side) (e : EndLine) → begins_run (end_text schema query side e) ≡ false
  pub outer : (query : Query) → IsQuery schema query → (side : Side) → IsLine (IsFormedValue query.agg) (outer_text schema query side) (read_outer_line schema query side)
  pub proof : (query : Query) → IsQuery schema query → IsLine IsProofLine (proof_text schema query) (read_proof_line schema query)
  pub proof_begins : (query : Query) (line : ProofLine) → begins_run (proof_text schema query line) ≡ false
  pub query : IsLine (IsQuery schema) (query_line_text schema) (read_query_line schema)
  pub query_begins : (query : Query) → begins_query (query_line_text schema query) ≡ true
  pub group : (group : ℕ) → IsColumnWhere HasNames schema group → IsLine (λ place. IsGroupName schema (Some group) (Some place)) (group_text schema group) (read_group schema group)
