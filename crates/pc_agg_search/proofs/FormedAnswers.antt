-- What breaks no rule and fits is in form.
use Rattle.std.proofs.Common.{◌<◌, ◌≤◌, ◌^◌, Bool, length, map, Option, Some, None, arith}
use Rattle.std.specs.Prelude.{ℤ, IfSome}
use Rattle.std.proofs.lemmas.List.{length-map}
use Rattle.std.proofs.Math.Pow.{pow_mono}
use Rattle.pc_model.specs.declared.schema.Schema.{Schema}
use Rattle.pc_model.specs.declared.tree.Tree.{Tree}
use Rattle.pc_model.specs.declared.query.Agg.{Agg}
use Rattle.pc_model.specs.declared.query.Agg.TheVariants.{Count, Sum, Min, Max, Avg}
use Rattle.pc_model.specs.Accepted.{AreConstraints}
use Rattle.pc_model.specs.Aggregate.{Ratio}
use Rattle.pc_model.specs.Cells.{Class, IsSettledTree, leaves_in}
use Rattle.pc_model.specs.WellFormed.{IsWellFormed}
use Rattle.pc_cells_laws.proofs.Cells.{classes_of-differ}
use Rattle.pc_proof.specs.declared.answer.Proof.{Proof}
use Rattle.pc_proof.specs.declared.answer.Proof.TheVariants as proofs
use Rattle.pc_proof.specs.declared.answer.Bounded.{Bounded}
use Rattle.pc_proof.specs.declared.answer.Why.{Why}
use Rattle.pc_proof.specs.declared.answer.Why.TheVariants as whys
use Rattle.pc_proof.specs.declared.answer.Relation.{Relation}
use Rattle.pc_proof.specs.declared.answer.Relation.TheVariants as relations
use Rattle.pc_proof.specs.declared.answer.NeverBy.{NeverBy}
use Rattle.pc_proof.specs.declared.answer.NeverBy.TheVariants as nevers
use Rattle.pc_proof.specs.declared.answer.AlwaysBy.{AlwaysBy}
use Rattle.pc_proof.specs.declared.answer.AlwaysBy.TheVariants as alwayses
use Rattle.pc_proof.specs.declared.answer.Lack.{Lack}
use Rattle.pc_proof.specs.declared.answer.Lack.TheVariants as lacks
use Rattle.pc_proof.specs.declared.answer.Mark.{Mark}
use Rattle.pc_proof.specs.declared.answer.Mark.TheVariants as marks
use Rattle.pc_proof.specs.declared.answer.End.{End}
use Rattle.pc_proof.specs.declared.answer.Answer.{Answer}
use Rattle.pc_proof.specs.Setting.{Setting, area_of, cells, program_for, program_without}
use Rattle.pc_proof.specs.Table.{ratio_of, IsSound, EndsCross, ShowsHigh, ShowsLow, ShowsImpossible, ShowsNever, ShowsAlways}
use Rattle.pc_proof.specs.Unbroken.{HoldsRelation, HoldsLack, HoldsMark, HoldsLow, HoldsHigh, MayStand, HasForm, IsUnbroken}
use Rattle.pc_proof.specs.Form.{IsFormedTree, IsFormedProof, IsFormedBounded, IsFormedWhy, IsFormedNever, IsFormedAlways, IsFormedRelation, IsFormedLack, IsFormedMark, IsFormedEnd, AreFormedEnds, IsFormedAnswer}
use Rattle.pc_agg_search.specs.Asked.{query_for}
use Rattle.pc_agg_search.specs.Fitting.{IsFitTree, IsFitProof, IsFitBounded, IsFitWhy, IsFitNever, IsFitAlways, IsFitRelation, IsFitLack, IsFitEnd, IsFitAnswer}
use Rattle.pc_agg_search.proofs.FormedRuns.{formed_runs}
use Rattle.pc_agg_search.proofs.FormedTrees.{formed_tree}
use Rattle.pc_agg_search.proofs.ManyCells.{many_cells}
use Rattle.pc_agg_search.proofs.SettledPrograms.{have_rows}
use Rattle.pc_agg_search.proofs.UnseenPrograms.{for_program, without_program}

module _ (s : Setting) (formed : IsWellFormed s.question.schema) (are : AreConstraints s.question.schema s.question.constraints)
    (tree : IsSettledTree s.question.schema s.question.constraints (area_of s.question) s.nodes) where
  abbrev schema : Schema
  schema = s.question.schema

  -- ---- trees

  few_cells : length (cells s) ≤ 2_097_152
  few_cells =
      let rows = have_rows schema s.question.constraints (area_of s.question) s.nodes formed tree in
      let many = many_cells schema s.question.constraints (area_of s.question) (cells s) rows (classes_of-differ (leaves_in schema s.nodes)) in
      let most : 2 ^ length s.question.constraints ≤ 2 ^ 20 = pow_mono are.few in
      omega (arith, many, most)

  few_masks : length (map (λ (class : Class). class.mask) (cells s)) < 2 ^ 32
  few_masks = omega (arith, few_cells, length-map (cells s) (λ (class : Class). class.mask))

  tree_for : (gain : Class → ℤ) (t : Tree) → IsSound (program_for s gain) t → IsFitTree t → IsFormedTree t
  tree_for gain t sound fit =
      let program = for_program schema s.question.constraints (query_for s.question.query s.question.name) s.nodes formed are tree gain in
      formed_tree (program_for s gain) program few_masks t sound.proves fit

  tree_without : (closed : Class → Bool) (t : Tree) → IsSound (program_without s closed) t → IsFitTree t → IsFormedTree t
  tree_without closed t sound fit =
      let program = without_program schema s.question.constraints (query_for s.question.query s.question.name) s.nodes formed are tree closed in
      formed_tree (program_without s closed) program few_masks t sound.proves fit

  -- ---- proofs

  formed_high : (agg : Agg) (v : Ratio) (proof : Proof) → ShowsHigh s agg v proof → IsFitProof proof → IsFormedProof proof
  formed_high agg v proofs.Rows shows fit = tt
  formed_high agg v proofs.Values shows fit = tt
  formed_high Count v (proofs.Tree t) shows fit = tree_for _ t shows.sound fit
  formed_high Sum v (proofs.Tree t) shows fit = tree_for _ t shows.sound fit
  formed_high Min v (proofs.Tree t) shows fit = tree_without _ t shows.sound fit
  formed_high Max v (proofs.Tree t) shows fit = tree_for _ t shows.0.sound fit
  formed_high Avg v (proofs.Tree t) shows fit = tree_for _ t shows.sound fit
  formed_high Avg v (proofs.At r t) shows fit = (fit.0, tree_for _ t shows.0 fit.1)
  formed_high Count v (proofs.At r t) shows fit = absurd shows
  formed_high Sum v (proofs.At r t) shows fit = absurd shows
  formed_high Min v (proofs.At r t) shows fit = absurd shows
  formed_high Max v (proofs.At r t) shows fit = absurd shows

  formed_low : (agg : Agg) (v : Ratio) (proof : Proof) → ShowsLow s agg v proof → IsFitProof proof → IsFormedProof proof
  formed_low agg v proofs.Rows shows fit = tt
  formed_low agg v proofs.Values shows fit = tt
  formed_low Count v (proofs.Tree t) shows fit = tree_for _ t shows.sound fit
  formed_low Sum v (proofs.Tree t) shows fit = tree_for _ t shows.sound fit
  formed_low Min v (proofs.Tree t) shows fit = tree_for _ t shows.0.sound fit
  formed_low Max v (proofs.Tree t) shows fit = tree_without _ t shows.sound fit
  formed_low Avg v (proofs.Tree t) shows fit = tree_for _ t shows.sound fit
  formed_low Avg v (proofs.At r t) shows fit = (fit.0, tree_for _ t shows.0 fit.1)
  formed_low Count v (proofs.At r t) shows fit = absurd shows
  formed_low Sum v (proofs.At r t) shows fit = absurd shows
  formed_low Min v (proofs.At r t) shows fit = absurd shows
  formed_low Max v (proofs.At r t) shows fit = absurd shows

  abbrev agg : Agg
  agg = s.question.query.agg

  formed_cross : (low high : Bounded) → EndsCross s low high → IsFitBounded agg low → IsFitBounded agg high → IsFormedBounded agg low × IsFormedBounded agg high
  formed_cross low high cross fit_low fit_high = (
    record { value = fit_low.value; proof = formed_low agg (ratio_of low.value) low.proof cross.low_holds fit_low.proof },
    record { value = fit_high.value; proof = formed_high agg (ratio_of high.value) high.proof cross.high_holds fit_high.proof },
  )

  -- ---- relation and lack

  formed_why : (why : Why) → ShowsImpossible s why → IsFitWhy agg why → IsFormedWhy agg why
  formed_why (whys.Void t) shows fit = tree_for _ t shows.sound fit
  formed_why (whys.Cross t u) shows fit = (tree_for _ t shows.0 fit.0, tree_for _ u shows.1 fit.1)
  formed_why (whys.Ends low high) shows fit = formed_cross low high shows.0 fit.0 fit.1

  formed_never : (by' : NeverBy) → ShowsNever s by' → IsFitNever by' → IsFormedNever by'
  formed_never nevers.Rows shows fit = tt
  formed_never (nevers.Tree t) shows fit = tree_for _ t shows.sound fit

  formed_always : (by' : AlwaysBy) → ShowsAlways s by' → IsFitAlways agg by' → IsFormedAlways agg by'
  formed_always (alwayses.Tree t) shows fit = tree_for _ t shows.1.sound fit
  formed_always (alwayses.Ends low high) shows fit = formed_cross low high shows.1 fit.0 fit.1

  pub formed_relation : (relation : Relation) → HoldsRelation s relation → IsFitRelation agg relation → IsFormedRelation schema agg relation
  formed_relation (relations.Possible runs) holds fit = formed_runs s.question formed are runs holds
  formed_relation (relations.Impossible why) holds fit = formed_why why holds fit
  formed_relation relations.Undecided holds fit = tt

  pub formed_lack : (lack : Lack) → HoldsLack s lack → IsFitLack agg lack → IsFormedLack schema agg lack
  formed_lack lacks.Silent holds fit = tt
  formed_lack (lacks.Never by') holds fit = formed_never by' holds fit
  formed_lack (lacks.Sometimes without with') holds fit = (formed_runs s.question formed are without holds.0.by, formed_runs s.question formed are with' holds.1.by)
  formed_lack (lacks.Always by') holds fit = formed_always by' holds fit
  formed_lack lacks.Undecided holds fit = tt

  -- ---- ends

  formed_mark : (end : End) (mark : Mark) → HoldsMark s end.value mark → IsFormedMark schema mark
  formed_mark end (marks.Exact runs) holds = formed_runs s.question formed are runs holds.by
  formed_mark end marks.Outer holds = tt

  low_end : (end : End) → HoldsLow s end → IsFitEnd agg end → IsFormedEnd schema agg end
  low_end end holds fit = record {
    value = fit.value;
    mark = formed_mark end end.mark holds.marked;
    proof = formed_low agg (ratio_of end.value) end.proof holds.shown fit.proof;
  }

  high_end : (end : End) → HoldsHigh s end → IsFitEnd agg end → IsFormedEnd schema agg end
  high_end end holds fit = record {
    value = fit.value;
    mark = formed_mark end end.mark holds.marked;
    proof = formed_high agg (ratio_of end.value) end.proof holds.shown fit.proof;
  }

  formed_ends : (relation : Relation) (ends : Option (End × End)) → IfSome ends (λ ends. HoldsLow s ends.0 × MayStand relation ends.0) → IfSome ends (λ ends. HoldsHigh s ends.1 × MayStand relation ends.1) →
      IfSome ends (λ ends. IsFitEnd agg ends.0 × IsFitEnd agg ends.1) → AreFormedEnds schema agg ends
  formed_ends relation None low high fit = tt
  formed_ends relation (Some ends) low high fit = (low_end ends.0 low.0 fit.0, high_end ends.1 high.0 fit.1)

  pub formed_answer : (answer : Answer) → HasForm s answer → IsUnbroken s answer → IsFitAnswer agg answer → IsFormedAnswer schema agg answer
  formed_answer answer form unbroken fit = record {
    relation = formed_relation answer.relation unbroken.relation fit.relation;
    lack = formed_lack answer.lack unbroken.lack fit.lack;
    ends = formed_ends answer.relation answer.ends unbroken.low unbroken.high fit.ends;
    silent = form.silent;
    absent = form.absent;
  }
