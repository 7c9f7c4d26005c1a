-- The statements of an answer stand at the lines that the demands on it name.
use Rattle.std.proofs.Common.{ℕ, ◌+◌, List, [], ◌∷◌, ◌++◌, length, All, Option, Some, None, refl, arith}
use Rattle.std.specs.Prelude.{codes}
use Rattle.std.proofs.lemmas.List.Elements.{All-nil, All-cons, All-append}
use Rattle.pc_num.specs.declared.Frac.{Frac}
use Rattle.pc_model.specs.declared.schema.Schema.{Schema}
use Rattle.pc_model.specs.declared.row.Run.{Run}
use Rattle.pc_model.specs.declared.tree.Tree.{Tree}
use Rattle.pc_model.specs.declared.query.Agg.{Agg}
use Rattle.pc_model.specs.declared.query.Agg.TheVariants.{Count, Sum, Min, Max, Avg}
use Rattle.pc_program_bound.specs.declared.program.Program.{Program}
use Rattle.pc_proof.specs.declared.answer.Proof.{Proof}
use Rattle.pc_proof.specs.declared.answer.Proof.TheVariants as proofs
use Rattle.pc_proof.specs.declared.answer.Bounded.{Bounded}
use Rattle.pc_proof.specs.declared.answer.Why.{Why}
use Rattle.pc_proof.specs.declared.answer.Why.TheVariants as whys
use Rattle.pc_proof.specs.declared.answer.Relation.{Relation}
use Rattle.pc_proof.specs.declared.answer.Relation.TheVariants as relations
use Rattle.pc_proof.specs.declared.answer.NeverBy.{NeverBy}
use Rattle.pc_proof.specs.declared.answer.NeverBy.TheVariants as nevers
use Rattle.pc_proof.specs.declared.answer.AlwaysBy.{AlwaysBy}
use Rattle.pc_proof.specs.declared.answer.AlwaysBy.TheVariants as alwayses
use Rattle.pc_proof.specs.declared.answer.Lack.{Lack}
use Rattle.pc_proof.specs.declared.answer.Lack.TheVariants as lacks
use Rattle.pc_proof.specs.declared.answer.Mark.{Mark}
use Rattle.pc_proof.specs.declared.answer.Mark.TheVariants as marks
use Rattle.pc_proof.specs.declared.answer.End.{End}
use Rattle.pc_proof.specs.declared.document.Block.{Block}
use Rattle.pc_proof.specs.Form.{IsFormedTree, IsFormedProof, IsFormedBounded, IsFormedWhy, IsFormedNever, IsFormedAlways, IsFormedRelation, IsFormedLack, IsFormedEnd, AreFormedEnds}
use Rattle.pc_proof.specs.Setting.{Setting, on_chosen, program_for}
use Rattle.pc_proof.specs.Table.{ratio_of, none, one, minus_one, high_program, low_program}
use Rattle.pc_proof.specs.Demands.{Placed, possible_runs, gives, gives_none, gives_some, impossible_by, stands, never_by, always_by, low_by, high_by, tree_demands, high_trees, low_trees, mark_demands, low_demands, high_demands, ends_demands, crossing_trees, why_trees, relation_demands, never_trees, always_trees, lack_demands}
use Rattle.pc_proof.specs.Demands as demands
use Rattle.pc_document_format.specs.Formats.{Lines}
use Rattle.pc_document_lines.specs.declared.tags.Side.{Side}
use Rattle.pc_document_lines.specs.declared.tags.Side.TheVariants.{Low as low, High as high}
use Rattle.pc_document_lines.specs.declared.tags.ProofLine.{ProofLine}
use Rattle.pc_document_lines.specs.declared.tags.ProofLine.TheVariants as tags
use Rattle.pc_document_lines.specs.ValueLines.{outer_text, proof_text}
use Rattle.pc_document.specs.DocumentLines.{tree_lines, proof_lines, bounded_lines, crossing_lines, why_lines, relation_lines, never_lines, always_lines, lack_lines, mark_lines, end_lines, ends_lines}
use Rattle.pc_document.specs.Statements.{StandIn, IsStatement, IsInPlace, possible, without, with_some, attained, runs_under}
use Rattle.pc_document.proofs.Counting.{runs_counted, tree_counted, proof_counted, end_counted}
use Rattle.pc_document.proofs.Standing.{front, back, at, rest, tree_fits}

module _ (schema : Schema) (b : Block) (text : Lines) (s : Setting) where
  abbrev Fits : Placed → Type 0
  Fits = IsInPlace schema b text

  -- a demand at the line where its statement stands
  one_fits : (d : Placed) (lines : Lines) → IsStatement schema b d.demand lines → StandIn text d.line lines → All Fits (d ∷ [])
  one_fits d lines is there = All-cons Fits d [] (record { lines = lines; is = is; there = there }) (All-nil Fits)

  -- and one after others
  last_fits : (before : List Placed) (d : Placed) (lines : Lines) → All Fits before → IsStatement schema b d.demand lines → StandIn text d.line lines → All Fits (before ++ d ∷ [])
  last_fits before d lines all is there = All-append Fits before (d ∷ []) all (one_fits d lines is there)

  -- ---- proofs

  module _ (line : ℕ) (v : Frac) where
    -- under the line of a proof stands its tree
    under_line : (tag : ProofLine) (t : Tree) (p : Program) → IsFormedTree t → StandIn text line (proof_text schema b.query tag ∷ tree_lines t) → All Fits (tree_demands (line + 1) p t)
    under_line tag t p formed is = tree_fits schema b text (line + 1) p t formed (rest text line (proof_text schema b.query tag) (tree_lines t) is)

    highs_fit : (agg : Agg) (proof : Proof) → IsFormedProof proof → StandIn text line (proof_lines schema b.query proof) → All Fits (high_trees s line agg v proof)
    highs_fit Count proofs.Rows formed is = All-nil Fits
    highs_fit Count (proofs.Tree t) formed is = under_line tags.Tree t (high_program s Count (ratio_of v)) formed is
    highs_fit Count (proofs.At r t) formed is = under_line (tags.At r) t (program_for s none) formed.1 is
    highs_fit Count proofs.Values formed is = All-nil Fits
    highs_fit Sum proofs.Rows formed is = All-nil Fits
    highs_fit Sum (proofs.Tree t) formed is = under_line tags.Tree t (high_program s Sum (ratio_of v)) formed is
    highs_fit Sum (proofs.At r t) formed is = under_line (tags.At r) t (program_for s none) formed.1 is
    highs_fit Sum proofs.Values formed is = All-nil Fits
    highs_fit Min proofs.Rows formed is = All-nil Fits
    highs_fit Min (proofs.Tree t) formed is = under_line tags.Tree t (high_program s Min (ratio_of v)) formed is
    highs_fit Min (proofs.At r t) formed is = under_line (tags.At r) t (program_for s none) formed.1 is
    highs_fit Min proofs.Values formed is = All-nil Fits
    highs_fit Max proofs.Rows formed is = All-nil Fits
    highs_fit Max (proofs.Tree t) formed is = under_line tags.Tree t (high_program s Max (ratio_of v)) formed is
    highs_fit Max (proofs.At r t) formed is = under_line (tags.At r) t (program_for s none) formed.1 is
    highs_fit Max proofs.Values formed is = All-nil Fits
    highs_fit Avg proofs.Rows formed is = All-nil Fits
    highs_fit Avg (proofs.Tree t) formed is = under_line tags.Tree t (high_program s Avg (ratio_of v)) formed is
    highs_fit Avg (proofs.At r t) formed is = under_line (tags.At r) t (high_program s Avg (ratio_of r)) formed.1 is
    highs_fit Avg proofs.Values formed is = All-nil Fits

    lows_fit : (agg : Agg) (proof : Proof) → IsFormedProof proof → StandIn text line (proof_lines schema b.query proof) → All Fits (low_trees s line agg v proof)
    lows_fit Count proofs.Rows formed is = All-nil Fits
    lows_fit Count (proofs.Tree t) formed is = under_line tags.Tree t (low_program s Count (ratio_of v)) formed is
    lows_fit Count (proofs.At r t) formed is = under_line (tags.At r) t (program_for s none) formed.1 is
    lows_fit Count proofs.Values formed is = All-nil Fits
    lows_fit Sum proofs.Rows formed is = All-nil Fits
    lows_fit Sum (proofs.Tree t) formed is = under_line tags.Tree t (low_program s Sum (ratio_of v)) formed is
    lows_fit Sum (proofs.At r t) formed is = under_line (tags.At r) t (program_for s none) formed.1 is
    lows_fit Sum proofs.Values formed is = All-nil Fits
    lows_fit Min proofs.Rows formed is = All-nil Fits
    lows_fit Min (proofs.Tree t) formed is = under_line tags.Tree t (low_program s Min (ratio_of v)) formed is
    lows_fit Min (proofs.At r t) formed is = under_line (tags.At r) t (program_for s none) formed.1 is
    lows_fit Min proofs.Values formed is = All-nil Fits
    lows_fit Max proofs.Rows formed is = All-nil Fits
    lows_fit Max (proofs.Tree t) formed is = under_line tags.Tree t (low_program s Max (ratio_of v)) formed is
    lows_fit Max (proofs.At r t) formed is = under_line (tags.At r) t (program_for s none) formed.1 is
    lows_fit Max proofs.Values formed is = All-nil Fits
    lows_fit Avg proofs.Rows formed is = All-nil Fits
    lows_fit Avg (proofs.Tree t) formed is = under_line tags.Tree t (low_program s Avg (ratio_of v)) formed is
    lows_fit Avg (proofs.At r t) formed is = under_line (tags.At r) t (low_program s Avg (ratio_of r)) formed.1 is
    lows_fit Avg proofs.Values formed is = All-nil Fits

  abbrev asked_for : Agg
  asked_for = s.question.query.agg

  -- two crossing ends behind this line
  crossing_fits : (agg : Agg) (line : ℕ) (lower higher : Bounded) → IsFormedBounded agg lower → IsFormedBounded agg higher
      → StandIn text (line + 1) (crossing_lines schema b.query lower higher) → All Fits (crossing_trees s line lower higher)
  crossing_fits agg line lower higher below above is =
      let one = bounded_lines schema b.query low lower in
      let two = bounded_lines schema b.query high higher in
      let lower_at = rest text (line + 1) (outer_text schema b.query low lower.value) (proof_lines schema b.query lower.proof) (front text (line + 1) one two is) in
      let higher_at =
      rest text (line + 1 + length one) (outer_text schema b.query high higher.value) (proof_lines schema b.query higher.proof) (back text (line + 1) one two is) in
      let many = proof_counted schema b.query lower.proof in
      All-append Fits (low_trees s (line + 2) asked_for lower.value lower.proof) (high_trees s (line + 3 + demands.proof_lines lower.proof) asked_for higher.value higher.proof)
      (lows_fit (line + 2) lower.value asked_for lower.proof below.proof
      (at text (line + 1 + 1) (line + 2) (proof_lines schema b.query lower.proof) (omega arith) lower_at))
      (highs_fit (line + 3 + demands.proof_lines lower.proof) higher.value asked_for higher.proof above.proof
      (at text (line + 1 + length one + 1) (line + 3 + demands.proof_lines lower.proof) (proof_lines schema b.query higher.proof) (omega (arith, many)) higher_at))

  -- ---- the relation

  whys_fit : (agg : Agg) (line : ℕ) (why : Why) → IsFormedWhy agg why → StandIn text line (why_lines schema b.query why) → All Fits (why_trees s line why)
  whys_fit agg line (whys.Void t) formed is =
      tree_fits schema b text (line + 1) (program_for s none) t formed (rest text line (codes "by void") (tree_lines t) is)
  whys_fit agg line (whys.Cross t u) formed is =
      let both = rest text line (codes "by cross") (tree_lines t ++ tree_lines u) is in
      let many = tree_counted t in
      All-append Fits (tree_demands (line + 1) (program_for s one) t) (tree_demands (line + 1 + length t.nodes) (program_for s minus_one) u)
      (tree_fits schema b text (line + 1) (program_for s one) t formed.0 (front text (line + 1) (tree_lines t) (tree_lines u) both))
      (tree_fits schema b text (line + 1 + length t.nodes) (program_for s minus_one) u formed.1
      (at text (line + 1 + length (tree_lines t)) (line + 1 + length t.nodes) (tree_lines u) (omega (arith, many)) (back text (line + 1) (tree_lines t) (tree_lines u) both)))
  whys_fit agg line (whys.Ends lower higher) formed is =
      crossing_fits agg line lower higher formed.0 formed.1 (rest text line (codes "by ends") (crossing_lines schema b.query lower higher) is)

  pub relation_fits : (agg : Agg) (line : ℕ) (relation : Relation) (ends : Option (End × End)) → IsFormedRelation schema agg relation
      → StandIn text line (relation_lines schema b.query relation) → All Fits (relation_demands s line relation ends)
  relation_fits agg line (relations.Possible runs) ends formed is =
      one_fits (record { line = line; rule = 5; demand = possible_runs runs }) (runs_under schema b.query possible runs) (possible, refl) is
  relation_fits agg line (relations.Impossible why) ends formed is =
      last_fits (why_trees s (line + 1) why) (record { line = line; rule = 9; demand = impossible_by why }) (relation_lines schema b.query (relations.Impossible why))
      (whys_fit agg (line + 1) why formed (rest text line (codes "relation impossible") (why_lines schema b.query why) is)) refl is
  relation_fits agg line relations.Undecided ends formed is =
      one_fits (record { line = line; rule = 9; demand = stands relations.Undecided ends }) (relation_lines schema b.query relations.Undecided) refl is

  -- ---- what the aggregate lacks

  nevers_fit : (line : ℕ) (by' : NeverBy) → IsFormedNever by' → StandIn text line (never_lines by') → All Fits (never_trees s line by')
  nevers_fit line nevers.Rows formed is = All-nil Fits
  nevers_fit line (nevers.Tree t) formed is =
      tree_fits schema b text (line + 1) (program_for s (on_chosen minus_one)) t formed (rest text line (codes "by tree") (tree_lines t) is)

  alwayses_fit : (agg : Agg) (line : ℕ) (by' : AlwaysBy) → IsFormedAlways agg by' → StandIn text line (always_lines schema b.query by') → All Fits (always_trees s line by')
  alwayses_fit agg line (alwayses.Tree t) formed is =
      tree_fits schema b text (line + 1) (program_for s (on_chosen one)) t formed (rest text line (codes "by tree") (tree_lines t) is)
  alwayses_fit agg line (alwayses.Ends lower higher) formed is =
      crossing_fits agg line lower higher formed.0 formed.1 (rest text line (codes "by ends") (crossing_lines schema b.query lower higher) is)

  -- two demands on the same runs
  two_fit : (d e : Placed) (lines : Lines) → IsStatement schema b d.demand lines → IsStatement schema b e.demand lines → StandIn text d.line lines → StandIn text e.line lines
      → All Fits (d ∷ e ∷ [])
  two_fit d e lines is also there here = All-cons Fits d (e ∷ []) (record { lines = lines; is = is; there = there }) (one_fits e lines also here)

  sometimes_fit : (line : ℕ) (none_of some_of : List Run) → StandIn text line (lack_lines schema b.query (lacks.Sometimes none_of some_of))
      → All Fits (lack_demands s line (lacks.Sometimes none_of some_of))
  sometimes_fit line none_of some_of is =
      let one = runs_under schema b.query without none_of in
      let two = runs_under schema b.query with_some some_of in
      let many = runs_counted schema none_of in
      let next = line + 1 + length none_of in
      let first_at = front text line one two is in
      let second_at = at text (line + length one) next two (omega (arith, many)) (back text line one two is) in
      let d : Placed = record { line = line; rule = 5; demand = possible_runs none_of } in
      let e : Placed = record { line = line; rule = 6; demand = gives_none none_of } in
      let f : Placed = record { line = next; rule = 5; demand = possible_runs some_of } in
      let g : Placed = record { line = next; rule = 6; demand = gives_some some_of } in
      All-append Fits (d ∷ e ∷ []) (f ∷ g ∷ []) (two_fit d e one (without, refl) refl first_at first_at) (two_fit f g two (with_some, refl) refl second_at second_at)

  pub lack_fits : (agg : Agg) (line : ℕ) (lack : Lack) → IsFormedLack schema agg lack → StandIn text line (lack_lines schema b.query lack) → All Fits (lack_demands s line lack)
  lack_fits agg line lacks.Silent formed is = All-nil Fits
  lack_fits agg line (lacks.Never by') formed is =
      last_fits (never_trees s (line + 1) by') (record { line = line; rule = 10; demand = never_by by' }) (lack_lines schema b.query (lacks.Never by'))
      (nevers_fit (line + 1) by' formed (rest text line (codes "none never") (never_lines by') is)) refl is
  lack_fits agg line (lacks.Sometimes none_of some_of) formed is = sometimes_fit line none_of some_of is
  lack_fits agg line (lacks.Always by') formed is =
      last_fits (always_trees s (line + 1) by') (record { line = line; rule = 10; demand = always_by by' }) (lack_lines schema b.query (lacks.Always by'))
      (alwayses_fit agg (line + 1) by' formed (rest text line (codes "none always") (always_lines schema b.query by') is)) refl is
  lack_fits agg line lacks.Undecided formed is = All-nil Fits

  -- ---- the ends

  module _ (side : Side) (line : ℕ) (end : End) where
    marks_fit : (mark : Mark) → StandIn text line (mark_lines schema b.query side end mark) → All Fits (mark_demands line end.value mark)
    marks_fit (marks.Exact runs) is =
        let lines = runs_under schema b.query (attained side end.value) runs in
        let there = front text line lines (proof_lines schema b.query end.proof) is in
        two_fit (record { line = line; rule = 5; demand = possible_runs runs }) (record { line = line; rule = 6; demand = gives end.value runs }) lines (attained side end.value, refl) (side, refl) there there
    marks_fit marks.Outer is = All-nil Fits

    proof_there : (mark : Mark) → StandIn text line (mark_lines schema b.query side end mark) → StandIn text (line + demands.mark_lines mark) (proof_lines schema b.query end.proof)
    proof_there (marks.Exact runs) is =
        let lines = runs_under schema b.query (attained side end.value) runs in
        let many = runs_counted schema runs in
        at text (line + length lines) (line + (1 + length runs)) (proof_lines schema b.query end.proof) (omega (arith, many)) (back text line lines (proof_lines schema b.query end.proof) is)
    proof_there marks.Outer is = rest text line (outer_text schema b.query side end.value) (proof_lines schema b.query end.proof) is

  module _ (agg : Agg) (line : ℕ) (end : End) (formed : IsFormedEnd schema agg end) where
    low_fits : StandIn text line (end_lines schema b.query low end) → All Fits (low_demands s line end)
    low_fits is =
        let under = low_trees s (line + demands.mark_lines end.mark) asked_for end.value end.proof in
        last_fits (mark_demands line end.value end.mark ++ under) (record { line = line; rule = 11; demand = low_by end }) (end_lines schema b.query low end)
        (All-append Fits (mark_demands line end.value end.mark) under (marks_fit low line end end.mark is)
        (lows_fit (line + demands.mark_lines end.mark) end.value asked_for end.proof formed.proof (proof_there low line end end.mark is))) refl is

    high_fits : StandIn text line (end_lines schema b.query high end) → All Fits (high_demands s line end)
    high_fits is =
        let under = high_trees s (line + demands.mark_lines end.mark) asked_for end.value end.proof in
        last_fits (mark_demands line end.value end.mark ++ under) (record { line = line; rule = 12; demand = high_by end }) (end_lines schema b.query high end)
        (All-append Fits (mark_demands line end.value end.mark) under (marks_fit high line end end.mark is)
        (highs_fit (line + demands.mark_lines end.mark) end.value asked_for end.proof formed.proof (proof_there high line end end.mark is))) refl is

  pub ends_fit : (agg : Agg) (line : ℕ) (ends : Option (End × End)) → AreFormedEnds schema agg ends → StandIn text line (ends_lines schema b.query ends)
      → All Fits (ends_demands s line ends)
  ends_fit agg line None formed is = All-nil Fits
  ends_fit agg line (Some ends) formed is =
      let one = end_lines schema b.query low ends.0 in
      let two = end_lines schema b.query high ends.1 in
      let many = end_counted schema b.query low ends.0 in
      let next = line + demands.mark_lines ends.0.mark + demands.proof_lines ends.0.proof in
      All-append Fits (low_demands s line ends.0) (high_demands s next ends.1)
      (low_fits agg line ends.0 formed.0 (front text line one two is))
      (high_fits agg next ends.1 formed.1 (at text (line + length one) next two (omega (arith, many)) (back text line one two is)))
