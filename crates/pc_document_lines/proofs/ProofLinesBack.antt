-- The line of a proof is read as that line.
use Rattle.std.proofs.Common.{◌≡◌, ℕ, List, [], ◌∷◌, ◌++◌, refl, ap, sym, ◌∙◌, Bool, true, false, Option, Some, None, if◌then◌else◌}
use Rattle.std.specs.Prelude.{IfSome, bytes_eq, codes, drop}
use Rattle.std.specs.List.{All}
use Rattle.std.proofs.lemmas.List.{append-nil}
use Rattle.std.proofs.lemmas.List.Elements.{All-cons, All-nil}
use Rattle.pc_num.specs.declared.Frac.{Frac}
use Rattle.pc_model.specs.declared.schema.Schema.{Schema}
use Rattle.pc_model.specs.declared.query.Query.{Query}
use Rattle.pc_model.specs.Accepted.{IsQuery}
use Rattle.pc_model.specs.WellFormed.{IsWellFormed}
use Rattle.pc_document_format.specs.Formats.{IsLine, IsSpelled}
use Rattle.pc_document_format.specs.Lines.{feeds_in}
use Rattle.pc_document_format.proofs.Spelled.{spelled_line}
use Rattle.pc_report.specs.Report.{scale_for}
use Rattle.pc_report.specs.Units.{average_text}
use Rattle.pc_report.proofs.EndsBack.{few_for}
use Rattle.pc_document_lines.specs.Likely.{IsLikely}
use Rattle.pc_document_lines.specs.TokenLines.{begins_run}
use Rattle.pc_document_lines.specs.declared.tags.ProofLine.{ProofLine}
use Rattle.pc_document_lines.specs.declared.tags.ProofLine.TheVariants.{Rows as rows, Tree as tree, At as at, Values as values}
use Rattle.pc_document_lines.specs.ValueLines.{IsProofLine, at_if, is_proof_line, is_ratio, likely_average, likely_proof, proof_text, read_proof_line}
use Rattle.pc_document_lines.proofs.NumbersInLines.{IsInk, tested_ink, words_plain}
use Rattle.pc_document_lines.proofs.NumbersInUnits.{average_ink, averages_again, ratio_tested, read_ratio}

-- ---- written and read

module _ (schema : Schema) (query : Query) (well : IsWellFormed schema) where
  -- the text of a proof's line is read as that line
  proof_back : (line : ProofLine) → IsProofLine line → likely_proof schema query (proof_text schema query line) ≡ Some line
  unfolding likely_proof proof_text
  proof_back rows formed = refl
  proof_back tree formed = refl
  proof_back (at ratio) formed = ap at_if (averages_again (scale_for schema query.column) ratio (few_for schema query.column well) formed)
  proof_back values formed = refl

  -- it has no line feed
  proof_plain : (line : ProofLine) → IsProofLine line → feeds_in (proof_text schema query line) ≡ 0
  unfolding proof_text feeds_in
  proof_plain rows formed = refl
  proof_plain tree formed = refl
  proof_plain (at ratio) formed =
      let text = average_text (scale_for schema query.column) ratio in
      let ink = average_ink (scale_for schema query.column) ratio (few_for schema query.column well) formed in
      let others = All-cons (All IsInk) (codes "at") (text ∷ []) (tested_ink (codes "at") refl) (All-cons (All IsInk) text [] ink (All-nil (All IsInk))) in
      ap (λ rest. feeds_in (codes "by at " ++ rest)) (sym (append-nil text)) ∙ words_plain (codes "by") (codes "at" ∷ text ∷ []) (tested_ink (codes "by") refl) others
  proof_plain values formed = refl

-- a line in form passes the test
proof_tested : (line : ProofLine) → IsProofLine line → is_proof_line line ≡ true
proof_tested rows formed = refl
proof_tested tree formed = refl
proof_tested (at ratio) formed = ratio_tested ratio formed
proof_tested values formed = refl

-- ---- what is read

-- a ratio is not one of the words before
passed_over : (ratio : Frac) (test : Bool) (word : ProofLine) (other : Option ProofLine) → (Some word ≡ Some (at ratio) → ⊥) → (if test then Some word else other) ≡ Some (at ratio) → other ≡ Some (at ratio)
passed_over ratio true word other unlike same = absurd (unlike same)
passed_over ratio false word other unlike same = same

-- a ratio that was found is that of the line
found_ratio : (found : Option Frac) (ratio : Frac) → at_if found ≡ Some (at ratio) → found ≡ Some ratio
found_ratio None ratio same = absurd cc
found_ratio (Some own) ratio same = let e : own ≡ ratio = cc in ap Some e

-- it is the likely average after `by at `
read_at : (schema : Schema) (query : Query) (line : List ℕ) (ratio : Frac) → likely_proof schema query line ≡ Some (at ratio) → likely_average (scale_for schema query.column) (drop 6 line) ≡ Some ratio
unfolding likely_proof
read_at schema query line ratio same =
    let others = passed_over ratio (bytes_eq line (codes "by rows")) rows _ (λ e. cc) same in
    let further = passed_over ratio (bytes_eq line (codes "by tree")) tree _ (λ e. cc) others in
    found_ratio (likely_average (scale_for schema query.column) (drop 6 line)) ratio (passed_over ratio (bytes_eq line (codes "by values")) values _ (λ e. cc) further)

-- A line that is read and passes is in form.
pub read_proof : (schema : Schema) (query : Query) (text : List ℕ) (line : ProofLine) → likely_proof schema query text ≡ Some line → is_proof_line line ≡ true → IsProofLine line
read_proof schema query text rows same tested = tt
read_proof schema query text tree same tested = tt
read_proof schema query text (at ratio) same tested = read_ratio (scale_for schema query.column) (drop 6 text) ratio (read_at schema query text ratio same) tested
read_proof schema query text values same tested = tt

-- no ratio that may stand, no line of one that may
pub no_ratio : (likely : Option Frac) → IsLikely is_ratio likely None → IfSome (at_if likely) (λ (line : ProofLine). is_proof_line line ≡ false)
no_ratio None refused = tt
no_ratio (Some ratio) refused = refused

-- ---- the line

-- lines of proofs are a kind of line that is written again and compared
spelled : (schema : Schema) (query : Query) → IsWellFormed schema → IsSpelled IsProofLine (proof_text schema query) is_proof_line (likely_proof schema query)
spelled schema query well = record {
  some = rows;
  some_good = tt;
  tested = proof_tested;
  holds = read_proof schema query;
  plain = proof_plain schema query well;
  back = proof_back schema query well;
}

-- The line of a proof is read as that line, and nothing else is.
pub proof_line : (schema : Schema) (query : Query) → IsWellFormed schema → IsQuery schema query → IsLine IsProofLine (proof_text schema query) (read_proof_line schema query)
unfolding read_proof_line
proof_line schema query well accepted = spelled_line (proof_text schema query) is_proof_line (likely_proof schema query) (spelled schema query well)

-- No line of a proof begins as that of a run.
pub proof_begins : (schema : Schema) (query : Query) (line : ProofLine) → begins_run (proof_text schema query line) ≡ false
unfolding proof_text
proof_begins schema query rows = refl
proof_begins schema query tree = refl
proof_begins schema query (at ratio) = refl
proof_begins schema query values = refl
