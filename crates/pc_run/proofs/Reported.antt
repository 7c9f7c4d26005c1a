-- The bytes of a report determine what its answers say.
use Rattle.std.proofs.Common.{◌≡◌, ℕ, ℤ, List, [], ◌∷◌, All, Option, Some, None, refl, sym, ◌∙◌, ap, subst, arith}
use Rattle.std.specs.List.{AllZip}
use Rattle.std.specs.Option.{is_none}
use Rattle.std.proofs.lemmas.Int.{ints}
use Rattle.std.proofs.lemmas.List.Elements.{All-weaker}
use Rattle.pc_num.specs.declared.Frac.{Frac}
use Rattle.pc_model.specs.declared.schema.Kind.{Kind}
use Rattle.pc_model.specs.declared.schema.Kind.TheVariants.{Int, Dec, Cat}
use Rattle.pc_model.specs.declared.schema.Column.{Column}
use Rattle.pc_model.specs.declared.schema.Schema.{Schema}
use Rattle.pc_model.specs.declared.row.Run.{Run}
use Rattle.pc_model.specs.declared.query.Agg.{Agg}
use Rattle.pc_model.specs.declared.query.Agg.TheVariants as aggs
use Rattle.pc_model.specs.declared.query.Query.{Query}
use Rattle.pc_model.specs.WellFormed.{IsWellFormed}
use Rattle.pc_proof.specs.declared.answer.Relation.{Relation}
use Rattle.pc_proof.specs.declared.answer.Relation.TheVariants as relations
use Rattle.pc_proof.specs.declared.answer.Lack.{Lack}
use Rattle.pc_proof.specs.declared.answer.Lack.TheVariants as lacks
use Rattle.pc_proof.specs.declared.answer.Mark.{Mark}
use Rattle.pc_proof.specs.declared.answer.Mark.TheVariants as marks
use Rattle.pc_proof.specs.declared.answer.End.{End}
use Rattle.pc_proof.specs.declared.answer.Answer.{Answer}
use Rattle.pc_proof.specs.declared.document.Block.{Block}
use Rattle.pc_proof.specs.declared.document.Document.{Document}
use Rattle.pc_proof.specs.Form.{IsFormedCell, IsFormedCellOf, IsFormedRun, AreFormedRuns, IsFormedRelation, IsFormedLack, IsFormedValue, IsFormedWhole, IsFormedMark, IsFormedEnd, AreFormedEnds, IsFormedAnswer, IsFormedBlock, IsInForm}
use Rattle.pc_proof.specs.Unbroken.{plain_answer, plain_end, plain_ends, plain_lack, plain_mark, plain_relation}
use Rattle.pc_report.specs.Report.{report_text}
use Rattle.pc_report.specs.Shown.{IsCell, IsCellOf, IsShownRun, AreShownRuns, IsShownRelation, IsShownLack, IsShownMark, IsWhole, IsShownValue, IsShownEnd, AreShownEnds, IsShownAnswer, IsShown, SaysAlike}
use Rattle.pc_report.proofs.BlocksBack.{reports_tell_their_blocks}
use Rattle.pc_rows.specs.declared.case.Case.{Case}
use Rattle.pc_run.specs.Replies.{SaysReport}

-- ---- what is in form is read back from its report

shown_cell : (kind : Kind) (cell : ℤ) → IsFormedCell kind cell → IsCell kind cell
shown_cell (Int low high) cell small = omega (arith, ints)
shown_cell (Dec scale low high) cell small = omega (arith, ints)
shown_cell (Cat names) cell within = within

shown_cells : (columns : List Column) (cells : List ℤ) → AllZip IsFormedCellOf columns cells → AllZip IsCellOf columns cells
shown_cells [] [] formed = tt
shown_cells [] (cell ∷ cells) formed = absurd formed
shown_cells (column ∷ columns) [] formed = absurd formed
shown_cells (column ∷ columns) (cell ∷ cells) formed = (shown_cell column.kind cell formed.0, shown_cells columns cells formed.1)

shown_run : (schema : Schema) (run : Run) → IsFormedRun schema run → IsShownRun schema run
shown_run schema run formed = record { few = omega (arith, formed.times); cells = shown_cells schema.columns run.row.cells formed.cells }

shown_runs : (schema : Schema) (runs : List Run) → AreFormedRuns schema runs → AreShownRuns schema runs
shown_runs schema runs formed = All-weaker (IsFormedRun schema) (IsShownRun schema) (shown_run schema) runs formed

shown_relation : (schema : Schema) (agg : Agg) (relation : Relation) → IsFormedRelation schema agg relation → IsShownRelation schema (plain_relation relation)
shown_relation schema agg (relations.Possible runs) formed = shown_runs schema runs formed
shown_relation schema agg (relations.Impossible why) formed = tt
shown_relation schema agg relations.Undecided formed = tt

shown_lack : (schema : Schema) (agg : Agg) (lack : Lack) → IsFormedLack schema agg lack → IsShownLack schema (plain_lack lack)
shown_lack schema agg lacks.Silent formed = tt
shown_lack schema agg (lacks.Never by') formed = tt
shown_lack schema agg (lacks.Sometimes without with') formed = (shown_runs schema without formed.0, shown_runs schema with' formed.1)
shown_lack schema agg (lacks.Always by') formed = tt
shown_lack schema agg lacks.Undecided formed = tt

shown_mark : (schema : Schema) (mark : Mark) → IsFormedMark schema mark → IsShownMark schema (plain_mark mark)
shown_mark schema (marks.Exact runs) formed = shown_runs schema runs formed
shown_mark schema marks.Outer formed = tt

shown_whole : (value : Frac) → IsFormedWhole value → IsWhole value
shown_whole value formed = let small = formed.small in record { fits = omega (arith, ints, small); one = formed.one }

shown_value : (agg : Agg) (value : Frac) → IsFormedValue agg value → IsShownValue agg value
shown_value aggs.Count value formed = shown_whole value formed
shown_value aggs.Sum value formed = shown_whole value formed
shown_value aggs.Min value formed = shown_whole value formed
shown_value aggs.Max value formed = shown_whole value formed
shown_value aggs.Avg value formed = formed.reduced

shown_end : (schema : Schema) (agg : Agg) (end : End) → IsFormedEnd schema agg end → IsShownEnd schema agg (plain_end end)
shown_end schema agg end formed = record { value = shown_value agg end.value formed.value; mark = shown_mark schema end.mark formed.mark }

shown_ends : (schema : Schema) (agg : Agg) (ends : Option (End × End)) → AreFormedEnds schema agg ends → AreShownEnds schema agg (plain_ends ends)
shown_ends schema agg None formed = tt
shown_ends schema agg (Some ends) formed = (shown_end schema agg ends.0 formed.0, shown_end schema agg ends.1 formed.1)

same_absence : (ends : Option (End × End)) → is_none ends ≡ is_none (plain_ends ends)
same_absence None = refl
same_absence (Some ends) = refl

shown_answer : (schema : Schema) (query : Query) (answer : Answer) → IsFormedAnswer schema query.agg answer → IsShownAnswer schema query (plain_answer answer)
shown_answer schema query answer formed = record {
  relation = shown_relation schema query.agg answer.relation formed.relation;
  lack = shown_lack schema query.agg answer.lack formed.lack;
  ends = shown_ends schema query.agg answer.ends formed.ends;
  silent = formed.silent;
  absent = sym (same_absence answer.ends) ∙ formed.absent;
}

shown_block : (schema : Schema) (block : Block) → IsFormedBlock schema block → IsShown schema block
shown_block schema block formed = record {
  query = formed.query;
  named = formed.named;
  name = formed.name;
  answer = shown_answer schema block.query block.answer formed.answer;
}

pub all_shown : (schema : Schema) (doc : Document) → IsInForm schema doc → All (IsShown schema) doc.blocks
all_shown schema doc formed = All-weaker (IsFormedBlock schema) (IsShown schema) (shown_block schema) doc.blocks formed

-- ---- two reports of the same bytes

tells : (schema : Schema) (doc other : Document) (text : List ℕ) → IsWellFormed schema → IsInForm schema doc → IsInForm schema other → text ≡ report_text schema doc → text ≡ report_text schema other → AllZip SaysAlike doc.blocks other.blocks
tells schema doc other text formed one two first second =
    reports_tell_their_blocks schema doc other formed (all_shown schema doc one) (all_shown schema other two) (sym first ∙ second)

pub reports_tell_answers : (nodes budget : ℕ) (case other : Case) (text : List ℕ) → IsWellFormed case.schema → case.schema ≡ other.schema → (one : SaysReport nodes case text) (two : SaysReport budget other text) → AllZip SaysAlike one.document.blocks two.document.blocks
reports_tell_answers nodes budget case other text formed same one two =
    tells case.schema one.document two.document text formed one.answers.formed
    (subst (λ (schema : Schema). IsInForm schema two.document) (sym same) two.answers.formed)
    one.reported
    (two.reported ∙ ap (λ (schema : Schema). report_text schema two.document) (sym same))
