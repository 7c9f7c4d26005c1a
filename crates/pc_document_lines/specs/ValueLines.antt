-- The lines of ends, and what a line says of their proof.
use Rattle.std.specs.Prelude.{ℕ, ◌^◌, ◌*◌, ◌==◌, ◌&&◌, ⊤, pos, Bool, true, false, List, [], ◌∷◌, ◌++◌, codes, drop, Option, Some, None, bytes_eq, unsigned_abs, if◌then◌else◌}
use Rattle.std.specs.List.{slice_split}
use Rattle.std.specs.Ordering.{int_eq}
use Rattle.pc_num.specs.Signs.{differ}
use Rattle.pc_num.specs.declared.Frac.{Frac}
use Rattle.pc_model.specs.declared.schema.Schema.{Schema}
use Rattle.pc_model.specs.declared.query.Agg.{Agg}
use Rattle.pc_model.specs.declared.query.Agg.TheVariants as aggs
use Rattle.pc_model.specs.declared.query.Query.{Query}
use Rattle.pc_document_lines.specs.declared.tags.Side.{Side}
use Rattle.pc_document_lines.specs.declared.tags.Side.TheVariants.{Low as low, High as high}
use Rattle.pc_document_lines.specs.declared.tags.EndLine.{EndLine}
use Rattle.pc_document_lines.specs.declared.tags.ProofLine.{ProofLine}
use Rattle.pc_document_lines.specs.declared.tags.ProofLine.TheVariants.{Rows as rows, Tree as tree, At as at, Values as values}
use Rattle.pc_document_format.specs.Formats.{read_spelled}
use Rattle.pc_proof.specs.Form.{IsFormedValue, IsFormedRatio}
use Rattle.pc_report.specs.Report.{scale_for, value_text}
use Rattle.pc_report.specs.Units.{lowest, with_sign, average_text}
use Rattle.pc_document_lines.specs.Numbers.{likely_number, is_within, is_positive}
use Rattle.pc_document_lines.specs.NodeLines.{pieces_of}

-- ---- fractions

-- a fraction in the column's unit, in units of its last place and in lowest terms
unfoldable pub in_units : ℕ → Frac → Frac
in_units scale f = with_sign (differ f.num f.den) (lowest (unsigned_abs f.num * 10 ^ scale) (unsigned_abs f.den))

abbrev pub fraction_of : List (List ℕ) → Option Frac
fraction_of (num ∷ []) = Some (record { num = likely_number num; den = pos 1 })
fraction_of (num ∷ den ∷ []) = Some (record { num = likely_number num; den = likely_number den })
fraction_of pieces = None

-- no greater than what an average is printed with
abbrev pub is_printed_size : Frac → Bool
is_printed_size f = is_within (3 * 10 ^ 31) f.num && (is_positive f.den && is_within (3 * 10 ^ 22) f.den)

abbrev pub in_units_if : ℕ → Option Frac → Option Frac
in_units_if scale None = None
in_units_if scale (Some f) = if is_printed_size f then Some (in_units scale f) else None

-- the only average whose text this can be
unfoldable pub likely_average : ℕ → List ℕ → Option Frac
likely_average scale text = in_units_if scale (fraction_of (slice_split (λ byte. byte == 47) text))

-- ---- values

abbrev pub likely_whole : List ℕ → Option Frac
likely_whole text = Some (record { num = likely_number text; den = pos 1 })

abbrev pub likely_value_of : Agg → ℕ → List ℕ → Option Frac
likely_value_of aggs.Count scale text = likely_whole text
likely_value_of aggs.Sum scale text = likely_whole text
likely_value_of aggs.Min scale text = likely_whole text
likely_value_of aggs.Max scale text = likely_whole text
likely_value_of aggs.Avg scale text = likely_average scale text

abbrev pub likely_value : Schema → Query → List ℕ → Option Frac
likely_value schema query text = likely_value_of query.agg (scale_for schema query.column) text

unfoldable pub is_whole_value : Frac → Bool
is_whole_value v = int_eq v.den (pos 1) && is_within (10 ^ 31) v.num

-- the sizes of a ratio; what was read of a text is in lowest terms
unfoldable pub is_ratio : Frac → Bool
is_ratio v = is_positive v.den && (is_within (3 * 10 ^ 31) v.num && is_within (3 * 10 ^ 16) v.den)

abbrev pub is_value_of : Agg → Frac → Bool
is_value_of aggs.Count v = is_whole_value v
is_value_of aggs.Sum v = is_whole_value v
is_value_of aggs.Min v = is_whole_value v
is_value_of aggs.Max v = is_whole_value v
is_value_of aggs.Avg v = is_ratio v

-- ---- the lines of ends

abbrev pub side_word : Side → List ℕ
side_word low = codes "low"
side_word high = codes "high"

abbrev pub mark_word : Bool → List ℕ
mark_word true = codes "exact"
mark_word false = codes "outer"

unfoldable pub end_text : Schema → Query → Side → EndLine → List ℕ
end_text schema query side e = side_word side ++ (codes " " ++ value_text schema query.agg query.column e.value ++ (codes " " ++ mark_word e.exact))

abbrev pub exact_of : List ℕ → Option Bool
exact_of text = if bytes_eq text (codes "exact") then Some true else if bytes_eq text (codes "outer") then Some false else None

abbrev pub end_line_of : Option Frac → Option Bool → Option EndLine
end_line_of None exact = None
end_line_of (Some value) None = None
end_line_of (Some value) (Some exact) = Some (record { value = value; exact = exact })

abbrev pub end_of_pieces : Schema → Query → List (List ℕ) → Option EndLine
end_of_pieces schema query (word ∷ number ∷ mark ∷ []) = end_line_of (likely_value schema query number) (exact_of mark)
end_of_pieces schema query pieces = None

unfoldable pub likely_end : Schema → Query → List ℕ → Option EndLine
likely_end schema query line = end_of_pieces schema query (pieces_of line)

unfoldable pub read_end_line : Schema → Query → Side → List ℕ → Option EndLine
read_end_line schema query side line = read_spelled (end_text schema query side) (λ e. is_value_of query.agg e.value) (likely_end schema query) line

-- the value of an end may stand, as a test
abbrev pub is_end_line : Query → EndLine → Bool
is_end_line query e = is_value_of query.agg e.value

abbrev pub IsEndLine : Query → EndLine → Type 0
IsEndLine query e = IsFormedValue query.agg e.value

-- an end of which nothing is said but its value: an outer one
abbrev pub outer_text : Schema → Query → Side → Frac → List ℕ
outer_text schema query side value = end_text schema query side (record { value = value; exact = false })

abbrev pub outer_value : Option EndLine → Option Frac
outer_value None = None
outer_value (Some e) = if e.exact then None else Some e.value

unfoldable pub read_outer_line : Schema → Query → Side → List ℕ → Option Frac
read_outer_line schema query side line = outer_value (read_end_line schema query side line)

-- ---- the line of a proof

unfoldable pub proof_text : Schema → Query → ProofLine → List ℕ
proof_text schema query rows = codes "by rows"
proof_text schema query tree = codes "by tree"
proof_text schema query (at ratio) = codes "by at " ++ average_text (scale_for schema query.column) ratio
proof_text schema query values = codes "by values"

abbrev pub at_if : Option Frac → Option ProofLine
at_if None = None
at_if (Some ratio) = Some (at ratio)

unfoldable pub likely_proof : Schema → Query → List ℕ → Option ProofLine
likely_proof schema query line =
    if bytes_eq line (codes "by rows") then Some rows
    else if bytes_eq line (codes "by tree") then Some tree
    else if bytes_eq line (codes "by values") then Some values
    else at_if (likely_average (scale_for schema query.column) (drop 6 line))

abbrev pub is_proof_line : ProofLine → Bool
is_proof_line rows = true
is_proof_line tree = true
is_proof_line (at ratio) = is_ratio ratio
is_proof_line values = true

unfoldable pub read_proof_line : Schema → Query → List ℕ → Option ProofLine
read_proof_line schema query line = read_spelled (proof_text schema query) is_proof_line (likely_proof schema query) line

abbrev pub IsProofLine : ProofLine → Type 0
IsProofLine rows = ⊤
IsProofLine tree = ⊤
IsProofLine (at ratio) = IsFormedRatio ratio
IsProofLine values = ⊤
