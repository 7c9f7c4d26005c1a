-- The line of an end is read as that end.
use Rattle.std.proofs.Common.{◌≡◌, ◌≤◌, ◌<◌, ◌^◌, ℕ, pos, unsigned_abs, List, [], ◌∷◌, arith, refl, ap, sym, ◌∙◌, Bool, true, false, Option, Some, None, if◌then◌else◌}
use Rattle.std.specs.Prelude.{codes}
use Rattle.std.specs.List.{All}
use Rattle.std.specs.Ordering.{int_eq}
use Rattle.std.proofs.Math.Nat.{one-dvd}
use Rattle.std.proofs.lemmas.Bool.{and_parts, and_from, le-leb, leb-true}
use Rattle.std.proofs.lemmas.Bool.Decides.{Decides-int_eq}
use Rattle.std.proofs.lemmas.Int.{ints}
use Rattle.std.proofs.lemmas.List.{append-nil}
use Rattle.std.proofs.lemmas.List.Elements.{All-cons, All-nil}
use Rattle.pc_num.specs.declared.Frac.{Frac}
use Rattle.pc_num.specs.Put.{scaled_text}
use Rattle.pc_model.specs.declared.schema.Schema.{Schema}
use Rattle.pc_model.specs.declared.query.Agg.{Agg}
use Rattle.pc_model.specs.declared.query.Agg.TheVariants as aggs
use Rattle.pc_model.specs.declared.query.Query.{Query}
use Rattle.pc_model.specs.Accepted.{IsQuery}
use Rattle.pc_model.specs.WellFormed.{IsWellFormed}
use Rattle.pc_document_format.specs.Formats.{IsLine, IsSpelled}
use Rattle.pc_document_format.specs.Lines.{feeds_in}
use Rattle.pc_document_format.proofs.Spelled.{spelled_line}
use Rattle.pc_proof.specs.Form.{IsFormedRatio, IsFormedValue, IsFormedWhole}
use Rattle.pc_report.specs.Report.{scale_for, value_text}
use Rattle.pc_report.proofs.EndsBack.{few_for}
use Rattle.pc_document_lines.specs.Numbers.{is_within}
use Rattle.pc_document_lines.specs.NodeLines.{pieces_of}
use Rattle.pc_document_lines.specs.TokenLines.{begins_run}
use Rattle.pc_document_lines.specs.declared.tags.Side.{Side}
use Rattle.pc_document_lines.specs.declared.tags.Side.TheVariants.{Low as low, High as high}
use Rattle.pc_document_lines.specs.declared.tags.EndLine.{EndLine}
use Rattle.pc_document_lines.specs.ValueLines.{IsEndLine, end_line_of, end_of_pieces, end_text, exact_of, is_value_of, is_whole_value, likely_end, likely_value, likely_value_of, likely_whole, mark_word, outer_text, outer_value, read_end_line, read_outer_line, side_word}
use Rattle.pc_document_lines.proofs.NumbersBack.{number_bytes, numbers_again}
use Rattle.pc_document_lines.proofs.NumbersInLines.{IsInk, number_ink, tested_ink, words_again, words_plain, words_text}
use Rattle.pc_document_lines.proofs.NumbersInUnits.{average_ink, averages_again, ratio_tested, read_ratio}

-- ---- whole values

-- a whole value is small enough to be read back
whole_small : (value : Frac) → IsFormedWhole value → unsigned_abs value.num < 10 ^ 64
whole_small value formed = let small : unsigned_abs value.num ≤ 10 ^ 31 = formed.small in omega (arith, small)

-- it is read back at every scale
whole_back : (value : Frac) (scale : ℕ) → IsFormedWhole value → likely_whole (scaled_text value.num scale) ≡ Some value
whole_back value scale formed = rw (numbers_again value.num scale (whole_small value formed), sym formed.one) refl

-- its text is ink
whole_ink : (value : Frac) (scale : ℕ) → IsFormedWhole value → All IsInk (scaled_text value.num scale)
whole_ink value scale formed = number_ink (scaled_text value.num scale) (number_bytes value.num scale (whole_small value formed))

-- it passes the test
whole_tested : (value : Frac) → IsFormedWhole value → is_whole_value value ≡ true
unfolding is_whole_value
whole_tested value formed = and_from (int_eq value.den (pos 1)) _ ((Decides-int_eq value.den (pos 1)).1 formed.one) (le-leb (unsigned_abs value.num) (10 ^ 31) formed.small)

-- and what passes is a whole value
tested_whole : (value : Frac) → is_whole_value value ≡ true → IsFormedWhole value
unfolding is_whole_value
tested_whole value e =
    let parts = and_parts (int_eq value.den (pos 1)) (is_within (10 ^ 31) value.num) e in
    record {
      one = (Decides-int_eq value.den (pos 1)).0 parts.0;
      small = leb-true (unsigned_abs value.num) (10 ^ 31) parts.1;
    }

-- ---- values of an aggregate

-- the text of an aggregate's value is read as that value
value_back : (schema : Schema) (agg : Agg) (column : Option ℕ) (value : Frac) → IsWellFormed schema → IsFormedValue agg value → likely_value_of agg (scale_for schema column) (value_text schema agg column value) ≡ Some value
unfolding value_text
value_back schema aggs.Count column value well formed = whole_back value 0 formed
value_back schema aggs.Sum column value well formed = whole_back value (scale_for schema column) formed
value_back schema aggs.Min column value well formed = whole_back value (scale_for schema column) formed
value_back schema aggs.Max column value well formed = whole_back value (scale_for schema column) formed
value_back schema aggs.Avg column value well formed = averages_again (scale_for schema column) value (few_for schema column well) formed

-- it is ink
value_ink : (schema : Schema) (agg : Agg) (column : Option ℕ) (value : Frac) → IsWellFormed schema → IsFormedValue agg value → All IsInk (value_text schema agg column value)
unfolding value_text
value_ink schema aggs.Count column value well formed = whole_ink value 0 formed
value_ink schema aggs.Sum column value well formed = whole_ink value (scale_for schema column) formed
value_ink schema aggs.Min column value well formed = whole_ink value (scale_for schema column) formed
value_ink schema aggs.Max column value well formed = whole_ink value (scale_for schema column) formed
value_ink schema aggs.Avg column value well formed = average_ink (scale_for schema column) value (few_for schema column well) formed

-- the value passes the test
value_tested : (agg : Agg) (value : Frac) → IsFormedValue agg value → is_value_of agg value ≡ true
value_tested aggs.Count value formed = whole_tested value formed
value_tested aggs.Sum value formed = whole_tested value formed
value_tested aggs.Min value formed = whole_tested value formed
value_tested aggs.Max value formed = whole_tested value formed
value_tested aggs.Avg value formed = ratio_tested value formed

-- what is read and passes is a value in form
read_value : (agg : Agg) (scale : ℕ) (text : List ℕ) (value : Frac) → likely_value_of agg scale text ≡ Some value → is_value_of agg value ≡ true → IsFormedValue agg value
read_value aggs.Count scale text value e tested = tested_whole value tested
read_value aggs.Sum scale text value e tested = tested_whole value tested
read_value aggs.Min scale text value e tested = tested_whole value tested
read_value aggs.Max scale text value e tested = tested_whole value tested
read_value aggs.Avg scale text value e tested = read_ratio scale text value e tested

-- ---- an end in words

-- the word of a side is ink
side_ink : (side : Side) → All IsInk (side_word side)
side_ink low = tested_ink (codes "low") refl
side_ink high = tested_ink (codes "high") refl

-- the word of a mark is ink
mark_ink : (exact : Bool) → All IsInk (mark_word exact)
mark_ink true = tested_ink (codes "exact") refl
mark_ink false = tested_ink (codes "outer") refl

-- and is read back
mark_back : (exact : Bool) → exact_of (mark_word exact) ≡ Some exact
mark_back true = refl
mark_back false = refl

-- the words of an end's line after the side
end_words : Schema → Query → EndLine → List (List ℕ)
end_words schema query e = value_text schema query.agg query.column e.value ∷ mark_word e.exact ∷ []

-- an end's line is its words between spaces
end_as_words : (schema : Schema) (query : Query) (side : Side) (e : EndLine) → end_text schema query side e ≡ words_text (side_word side) (end_words schema query e)
unfolding end_text end_words
end_as_words schema query side e = rw (append-nil (mark_word e.exact)) refl

module _ (schema : Schema) (query : Query) (well : IsWellFormed schema) where
  -- the words of an end in form are ink
  words_ink : (e : EndLine) → IsEndLine query e → All (All IsInk) (end_words schema query e)
  unfolding end_words
  words_ink e formed =
      All-cons (All IsInk) (value_text schema query.agg query.column e.value) (mark_word e.exact ∷ []) (value_ink schema query.agg query.column e.value well formed)
      (All-cons (All IsInk) (mark_word e.exact) [] (mark_ink e.exact) (All-nil (All IsInk)))

  -- they are read as that end
  words_back : (side : Side) (e : EndLine) → IsEndLine query e → end_of_pieces schema query (side_word side ∷ end_words schema query e) ≡ Some e
  unfolding end_words
  words_back side e formed = rw (value_back schema query.agg query.column e.value well formed, mark_back e.exact) refl

  -- so is its line
  end_back : (side : Side) (e : EndLine) → IsEndLine query e → likely_end schema query (end_text schema query side e) ≡ Some e
  unfolding likely_end
  end_back side e formed =
      ap (λ line. end_of_pieces schema query (pieces_of line)) (end_as_words schema query side e)
      ∙ ap (end_of_pieces schema query) (words_again (side_word side) (end_words schema query e) (side_ink side) (words_ink e formed))
      ∙ words_back side e formed

  -- an end's line has no line feed
  end_plain : (side : Side) (e : EndLine) → IsEndLine query e → feeds_in (end_text schema query side e) ≡ 0
  end_plain side e formed = ap feeds_in (end_as_words schema query side e) ∙ words_plain (side_word side) (end_words schema query e) (side_ink side) (words_ink e formed)

-- ---- what is read

-- an end that was found has the value that was found
found_value : (found : Option Frac) (exact : Option Bool) (e : EndLine) → end_line_of found exact ≡ Some e → found ≡ Some e.value
found_value None exact e same = absurd cc
found_value (Some value) None e same = absurd cc
found_value (Some value) (Some exact) e same =
    let is : ◌≡◌ {A = EndLine} (record { value = value; exact = exact }) e = cc in
    ap (λ (line : EndLine). Some line.value) is

-- an end of pieces that passes has a value in form
pieces_value : (schema : Schema) (query : Query) (pieces : List (List ℕ)) (e : EndLine) → end_of_pieces schema query pieces ≡ Some e → is_value_of query.agg e.value ≡ true → IsEndLine query e
pieces_value schema query [] e same tested = absurd cc
pieces_value schema query (word ∷ []) e same tested = absurd cc
pieces_value schema query (word ∷ number ∷ []) e same tested = absurd cc
pieces_value schema query (word ∷ number ∷ mark ∷ []) e same tested =
    read_value query.agg (scale_for schema query.column) number e.value (found_value (likely_value schema query number) (exact_of mark) e same) tested
pieces_value schema query (word ∷ number ∷ mark ∷ more ∷ pieces) e same tested = absurd cc

-- An end that is read and passes has a value in form.
pub read_end : (schema : Schema) (query : Query) (line : List ℕ) (e : EndLine) → likely_end schema query line ≡ Some e → is_value_of query.agg e.value ≡ true → IsEndLine query e
unfolding likely_end
read_end schema query line e same tested = pieces_value schema query (pieces_of line) e same tested

-- ---- some value

-- the value 0
zero_value : Frac
zero_value = record { num = pos 0; den = pos 1 }

-- it is a whole value
zero_whole : IsFormedWhole zero_value
unfolding zero_value
zero_whole = record { one = refl; small = omega arith }

-- it is a ratio
zero_ratio : IsFormedRatio zero_value
unfolding zero_value
zero_ratio = record {
  reduced = record {
    above = omega (arith, ints);
    reduced = (one-dvd 0, one-dvd 1, λ d p q. q);
    num_fits = omega arith;
    den_fits = omega arith;
  };
  small = omega arith;
  few = omega (arith, ints);
}

-- it is a value of every aggregate
zero_formed : (agg : Agg) → IsFormedValue agg zero_value
zero_formed aggs.Count = zero_whole
zero_formed aggs.Sum = zero_whole
zero_formed aggs.Min = zero_whole
zero_formed aggs.Max = zero_whole
zero_formed aggs.Avg = zero_ratio

-- ---- the lines

-- ends are a kind of line that is written again and compared
spelled : (schema : Schema) (query : Query) (side : Side) → IsWellFormed schema → IsSpelled (IsEndLine query) (end_text schema query side) (λ (e : EndLine). is_value_of query.agg e.value) (likely_end schema query)
spelled schema query side well = record {
  some = record { value = zero_value; exact = true };
  some_good = zero_formed query.agg;
  tested = λ e formed. value_tested query.agg e.value formed;
  holds = read_end schema query;
  plain = end_plain schema query well side;
  back = end_back schema query well side;
}

-- The line of an end is read as that end, and nothing else is.
pub end_line : (schema : Schema) (query : Query) → IsWellFormed schema → IsQuery schema query → (side : Side) → IsLine (IsEndLine query) (end_text schema query side) (read_end_line schema query side)
unfolding read_end_line
end_line schema query well accepted side = spelled_line (end_text schema query side) (λ (e : EndLine). is_value_of query.agg e.value) (likely_end schema query) (spelled schema query side well)

-- an outer value that was found is that of an outer end
outer_of : (found : Option EndLine) (value : Frac) → outer_value found ≡ Some value → found ≡ Some (record { value = value; exact = false })
outer_of None value same = absurd cc
outer_of (Some e) value same = by_mark e.value e.exact same
  where
    by_mark : (own : Frac) (exact : Bool) → (if exact then None else Some own) ≡ Some value → ◌≡◌ {A = Option EndLine} (Some (record { value = own; exact = exact })) (Some (record { value = value; exact = false }))
    by_mark own true is = absurd cc
    by_mark own false is = let e : own ≡ value = cc in ap (λ (kept : Frac). Some (record { value = kept; exact = false })) e

-- outer ends are the ends that are not exact
outer_from : (schema : Schema) (query : Query) (side : Side) → IsLine (IsEndLine query) (end_text schema query side) (read_end_line schema query side) → IsLine (IsFormedValue query.agg) (outer_text schema query side) (read_outer_line schema query side)
unfolding read_outer_line
outer_from schema query side line = record {
  some = zero_value;
  some_good = zero_formed query.agg;
  complete = λ value formed. ap outer_value (line.complete (record { value = value; exact = false }) formed);
  sound = λ text value e. line.sound text (record { value = value; exact = false }) (outer_of (read_end_line schema query side text) value e);
  plain = λ value formed. line.plain (record { value = value; exact = false }) formed;
}

-- The line of an outer end is read as its value, and nothing else is.
pub outer_line : (schema : Schema) (query : Query) → IsWellFormed schema → IsQuery schema query → (side : Side) → IsLine (IsFormedValue query.agg) (outer_text schema query side) (read_outer_line schema query side)
outer_line schema query well accepted side = outer_from schema query side (end_line schema query well accepted side)

-- No line of an end begins as that of a run.
pub end_begins : (schema : Schema) (query : Query) (side : Side) (e : EndLine) → begins_run (end_text schema query side e) ≡ false
unfolding end_text
end_begins schema query low e = refl
end_begins schema query high e = refl
