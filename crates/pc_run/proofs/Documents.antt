-- What a document that answers a case has for the texts of its answers.
use Rattle.std.proofs.Common.{◌≡◌, ℕ, suc, List, [], ◌∷◌, length, map, flat_map, Option, Some, None, IfSome, All, refl, sym, ap, subst, ◌∙◌}
use Rattle.std.specs.List.{AllZip}
use Rattle.std.proofs.lemmas.List.Elements.{All-nil, All-cons, All-head, All-tail, All-append}
use Rattle.std.proofs.lemmas.Slice.Zip.{AllZip-long}
use Rattle.pc_num.specs.declared.fraction.Frac.{Frac}
use Rattle.pc_model.specs.declared.schema.Schema.{Schema}
use Rattle.pc_model.specs.declared.query.Query.{Query}
use Rattle.pc_model.specs.declared.tree.CutNode.{CutNode}
use Rattle.pc_model.specs.Accepted.{IsQuery}
use Rattle.pc_rows.specs.declared.case.Case.{Case}
use Rattle.pc_proof.specs.declared.answer.End.{End}
use Rattle.pc_proof.specs.declared.document.Block.{Block}
use Rattle.pc_proof.specs.declared.document.Document.{Document}
use Rattle.pc_proof.specs.Documents.{nodes_after}
use Rattle.pc_proof.specs.Table.{ratio_of}
use Rattle.pc_proof.specs.Unbroken.{plain_ends}
use Rattle.pc_report.specs.Units.{AreAverages, HasAverages, IsAverage, frac_of}
use Rattle.pc_avg.specs.Averages.{IsShort, IsShortEnd}
use Rattle.pc_group.specs.Answers.{AnswersWanted}
use Rattle.pc_group.specs.Trees.{Told, told, told_after, told_with}
use Rattle.pc_group.proofs.FormedBlocks.{all_blocks}
use Rattle.pc_group.specs.Wanted.{Wanted, wanted_in, wanted_by, wanted_of, wanted, allowed_names}
use Rattle.pc_run.specs.Answers.{AnswersCase}

-- what each pair gives of its second part
second_of : {A B : Type 0} (R : A → B → Type 0) (P : A → Type 0) (Q : B → Type 0) → ((a : A) (b : B) → P a → R a b → Q b) → (xs : List A) (ys : List B) → All P xs → AllZip R xs ys → All Q ys
second_of R P Q gives [] [] each pairs = All-nil Q
second_of R P Q gives [] (y ∷ ys) each pairs = absurd pairs
second_of R P Q gives (x ∷ xs) [] each pairs = absurd pairs
second_of R P Q gives (x ∷ xs) (y ∷ ys) each pairs =
    All-cons Q y ys (gives x y (All-head P x xs each) pairs.0) (second_of R P Q gives xs ys (All-tail P x xs each) pairs.1)

-- ---- wanted blocks are of the queries

all_named : (P : Query → Type 0) (query : Query) → P query → (places : List ℕ) → All (λ (w : Wanted). P w.query) (map (wanted_of query) places)
all_named P query is [] = All-nil (λ (w : Wanted). P w.query)
all_named P query is (place ∷ places) = All-cons (λ (w : Wanted). P w.query) (wanted_of query place) (map (wanted_of query) places) is (all_named P query is places)

all_wanted_in : (P : Query → Type 0) (schema : Schema) (query : Query) (group : Option ℕ) → P query → All (λ (w : Wanted). P w.query) (wanted_in schema query group)
all_wanted_in P schema query None is = All-cons (λ (w : Wanted). P w.query) (record { query = query; name = None }) [] is (All-nil (λ (w : Wanted). P w.query))
all_wanted_in P schema query (Some column) is = all_named P query is (allowed_names schema query column)

all_wanted : (P : Query → Type 0) (schema : Schema) (queries : List Query) → All P queries → All (λ (w : Wanted). P w.query) (wanted schema queries)
unfolding wanted
all_wanted P schema [] each = All-nil (λ (w : Wanted). P w.query)
all_wanted P schema (query ∷ queries) each =
    All-append (λ (w : Wanted). P w.query) (wanted_by schema query) (flat_map (wanted_by schema) queries)
    (all_wanted_in P schema query query.group (All-head P query queries each)) (all_wanted P schema queries (All-tail P query queries each))

-- ---- blocks as they are told

told_one : (block : Block) (blocks : List Block) (nodes : Option (List CutNode)) → ((before : Option (List CutNode)) → length (told_after blocks before) ≡ length blocks) → length (told_with block nodes (told_after blocks)) ≡ length (block ∷ blocks)
told_one block blocks None later = ap suc (later None)
told_one block blocks (Some nodes) later = ap suc (later (Some nodes))

told_length : (blocks : List Block) (before : Option (List CutNode)) → length (told_after blocks before) ≡ length blocks
unfolding told_after
told_length [] before = refl
told_length (block ∷ blocks) before = told_one block blocks (nodes_after before block.tree) (told_length blocks)

-- ---- what is printed

short_average : (value : Frac) → IsShort value → IsAverage (frac_of (ratio_of value))
short_average value short = record { above = short.lowest.above; small = short.small; fits = short.lowest.num_fits }

averages_of : (ends : Option (End × End)) → IfSome ends (λ both. IsShortEnd both.0 × IsShortEnd both.1) → AreAverages (plain_ends ends)
averages_of None short = tt
averages_of (Some both) short = (short_average both.0.value short.0.0, short_average both.1.value short.1.0)

module _ (budget : ℕ) (case : Case) (document : Document) (answers : AnswersCase budget case document) where
  -- what the answer to each wanted block gives of that block
  pub each_block : (P : Block → Type 0) → ((w : Wanted) (t : Told) → AnswersWanted budget case.schema case.rows case.constraints w t → P t.block) → All P document.blocks
  each_block P gives =
      all_blocks P document.blocks None
      (second_of (AnswersWanted budget case.schema case.rows case.constraints) (λ (w : Wanted). Unit {0}) (λ (t : Told). P t.block)
      (λ w t none is. gives w t is) (wanted case.schema case.queries) (told document.blocks) (λ place d inside. tt) answers.answers)

  -- what holds of the queries holds of those of the blocks
  pub blocks_are_of : (P : Query → Type 0) → All P case.queries → All (λ (block : Block). P block.query) document.blocks
  blocks_are_of P each =
      all_blocks (λ (block : Block). P block.query) document.blocks None
      (second_of (AnswersWanted budget case.schema case.rows case.constraints) (λ (w : Wanted). P w.query) (λ (t : Told). P t.block.query)
      (λ w t is answered. subst P (sym answered.query_is) is) (wanted case.schema case.queries) (told document.blocks) (all_wanted P case.schema case.queries each) answers.answers)

  pub blocks_are_accepted : All (IsQuery case.schema) case.queries → All (λ (block : Block). IsQuery case.schema block.query) document.blocks
  blocks_are_accepted accepted = blocks_are_of (IsQuery case.schema) accepted

  pub as_many_blocks : length document.blocks ≡ length (wanted case.schema case.queries)
  as_many_blocks = sym (told_length document.blocks None) ∙ AllZip-long (AnswersWanted budget case.schema case.rows case.constraints) (wanted case.schema case.queries) (told document.blocks) answers.answers

  pub ends_can_be_printed : All HasAverages document.blocks
  ends_can_be_printed =
      each_block HasAverages (λ w t answered average.
      averages_of t.block.answer.ends (answered.short (sym (ap (λ (q : Query). q.agg) answered.query_is) ∙ average)))
