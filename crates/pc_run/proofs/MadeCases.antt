-- A case that is made: some relation is possible for it, and its queries are accepted.
use Rattle.std.proofs.Common.{◌≡◌, ℕ, List, filter, All, None, refl}
use Rattle.std.proofs.lemmas.List.Elements.{All-weaker}
use Rattle.std.specs.Prelude.{false}
use Rattle.pc_model.specs.declared.row.Row.{Row}
use Rattle.pc_model.specs.declared.query.Query.{Query}
use Rattle.pc_model.specs.Accepted.{IsQuery}
use Rattle.pc_model.specs.Possible.{is_covered}
use Rattle.pc_model.specs.Right as plain
use Rattle.pc_model.specs.Right.{Question, IsPossibleFor, IsRightRelation, is_impossible}
use Rattle.pc_rows.specs.declared.case.Case.{Case}
use Rattle.pc_proof.specs.declared.document.Document.{Document}
use Rattle.pc_proof.specs.Unbroken.{plain_relation}
use Rattle.pc_gen.specs.Generated.{generated_case, generated_constraints, generated_queries, generated_schema, hidden_rows}
use Rattle.pc_gen.proofs.Possible.{hidden_are_possible}
use Rattle.pc_gen.proofs.Tables.{queries_asked}
use Rattle.pc_group.specs.Answers.{AnswersWanted, question_for}
use Rattle.pc_group.specs.Trees.{Told}
use Rattle.pc_group.specs.Wanted.{Wanted}
use Rattle.pc_run.specs.Answers.{AnswersCase}
use Rattle.pc_run.specs.Replies.{IsPossibleBlock}
use Rattle.pc_run.proofs.Documents.{each_block}

-- where some relation is possible, a right answer does not say that none is
not_impossible : (q : Question) (lost : List Row) → IsPossibleFor q lost → (relation : plain.Relation) → IsRightRelation q relation → is_impossible relation ≡ false
not_impossible q lost possible (plain.possible runs) right = refl
not_impossible q lost possible plain.impossible right = absurd (right lost possible)
not_impossible q lost possible plain.undecided right = refl

module _ (seed size : ℕ) where
  abbrev lost : List Row
  lost = filter (is_covered (generated_constraints seed size)) (hidden_rows seed size)

  abbrev made : Case
  made = generated_case seed size

  possible_block : (budget : ℕ) (w : Wanted) (t : Told) → AnswersWanted budget made.schema made.rows made.constraints w t → IsPossibleBlock t.block
  possible_block budget w t answered =
      not_impossible (question_for made.schema made.rows made.constraints w) lost (hidden_are_possible seed size) (plain_relation t.block.answer.relation) answered.right.relation

  pub none_is_impossible : (budget : ℕ) (document : Document) → AnswersCase budget made document → All IsPossibleBlock document.blocks
  none_is_impossible budget document answers = each_block budget made document answers IsPossibleBlock (possible_block budget)

  -- a case with its parts is the case
  pub case_is : (case : Case) → case.schema ≡ made.schema → case.rows ≡ made.rows → case.constraints ≡ made.constraints → case.queries ≡ made.queries → case ≡ made
  case_is case schema rows constraints queries =
      let same : ◌≡◌ {A = Case} (record { schema = case.schema; rows = case.rows; constraints = case.constraints; queries = case.queries }) made = rw (schema, rows, constraints, queries) refl in
      same

pub made_asked : All (IsQuery generated_schema) generated_queries
made_asked = All-weaker (λ (query : Query). IsQuery generated_schema query × (query.group ≡ None)) (IsQuery generated_schema) (λ query is. is.0) generated_queries queries_asked
