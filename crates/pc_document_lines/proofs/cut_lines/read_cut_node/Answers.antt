use Rattle.std.proofs.Common.{rules, ◌≡◌, Some}
use Rattle.std.proofs.lemmas.Result.{IfOk-weaker}
use Rattle.pc_lang_tokens.specs.Lexing.{tokens_of}
use Rattle.pc_document_lines.specs.TokenLines.{cut_node_of_tokens, tokens_if}
use Rattle.pc_document_lines.proofs.CutReading.{node_some}
use Rattle.pc_document_lines.proofs.cut_lines.read_cut_node.Goals as goal

pub returns-in-Some : goal.returns-in-Some
returns-in-Some c =
    let is : c.as_slice.result.now ≡ tokens_if (tokens_of c.args.line.now) = search rules in
    let likely : cut_node_of_tokens c.args.schema.now c.as_slice.result.now ≡ Some c.in-Some.node = search rules in
    IfOk-weaker c.if_spelled.result _ _ (λ found e. node_some c.args.schema.now c.args.line.now c.as_slice.result.now c.in-Some.node found is likely e) c.if_spelled.ensures
