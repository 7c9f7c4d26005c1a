-- Each kind of line of a document is a line.
use Rattle.pc_model.specs.declared.schema.Schema.{Schema}
use Rattle.pc_model.specs.WellFormed.{IsWellFormed}
use Rattle.pc_document_lines.specs.Kinds.{AreLines}
use Rattle.pc_document_lines.proofs.NodesBack.{node_line}
use Rattle.pc_document_lines.proofs.ValuesBack.{end_line, outer_line, end_begins}
use Rattle.pc_document_lines.proofs.ProofLinesBack.{proof_line, proof_begins}
use Rattle.pc_document_lines.proofs.RunsBack.{run_line, run_begins}
use Rattle.pc_document_lines.proofs.CutsBack.{cut_line}
use Rattle.pc_document_lines.proofs.GroupsBack.{group_line}
use Rattle.pc_document_lines.proofs.QueriesBack.{query_line, query_begins}

pub all_lines : (schema : Schema) → IsWellFormed schema → AreLines schema
all_lines schema well = record {
  node = node_line;
  run = run_line schema well;
  run_begins = run_begins schema;
  cut = cut_line schema well;
  end = λ query asked side. end_line schema query well asked side;
  end_begins = end_begins schema;
  outer = λ query asked side. outer_line schema query well asked side;
  proof = λ query asked. proof_line schema query well asked;
  proof_begins = proof_begins schema;
  query = query_line schema well;
  query_begins = query_begins schema;
  group = λ group there. group_line schema group well there;
}
