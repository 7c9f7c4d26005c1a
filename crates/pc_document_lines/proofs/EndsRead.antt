-- What the reader of lines of ends finds where a part of the line may not stand, and that values in form can be printed.
use Rattle.std.proofs.Common.{◌≡◌, refl, Bool, false, Option, Some, None}
use Rattle.std.specs.Prelude.{IfSome}
use Rattle.pc_num.specs.declared.fraction.Frac.{Frac}
use Rattle.pc_model.specs.declared.query.Agg.{Agg}
use Rattle.pc_model.specs.declared.query.Agg.TheVariants as aggs
use Rattle.pc_proof.specs.Form.{IsFormedRatio, IsFormedValue}
use Rattle.pc_report.specs.Units.{IsAverage, IsPrintable}
use Rattle.pc_document_lines.specs.Likely.{IsLikely}
use Rattle.pc_document_lines.specs.declared.tags.EndLine.{EndLine}
use Rattle.pc_document_lines.specs.ValueLines.{end_line_of, is_value_of}

-- a ratio can be printed
pub ratio_printable : (value : Frac) → IsFormedRatio value → IsAverage value
ratio_printable value formed = record {
  above = formed.reduced.above;
  small = formed.few;
  fits = formed.reduced.num_fits;
}

-- a value in form can be printed
pub printable : (agg : Agg) (value : Frac) → IsFormedValue agg value → IsPrintable agg value
printable aggs.Count value formed = λ e. absurd cc
printable aggs.Sum value formed = λ e. absurd cc
printable aggs.Min value formed = λ e. absurd cc
printable aggs.Max value formed = λ e. absurd cc
printable aggs.Avg value formed = λ e. ratio_printable value formed

-- no mark, no end
pub unmarked : (found : Option Frac) → end_line_of found None ≡ None
unmarked None = refl
unmarked (Some value) = refl

-- no value that may stand, no end that may
pub worthless : (agg : Agg) (likely : Option Frac) (exact : Bool) → IsLikely (is_value_of agg) likely None → IfSome (end_line_of likely (Some exact)) (λ (e : EndLine). is_value_of agg e.value ≡ false)
worthless agg None exact refused = tt
worthless agg (Some value) exact refused = refused
