-- Blocks that answer what a query wants, and what is explained of them.
use Rattle.std.proofs.Common.{◌≡◌, ◌<◌, ℕ, ◌+◌, List, [], ◌∷◌, ◌++◌, length, map, take, get_or, All, refl, sym, ap, subst, ◌∙◌}
use Rattle.std.proofs.Common.{zero, suc, arith}
use Rattle.std.specs.List.{AllZip}
use Rattle.std.proofs.lemmas.List.{take_more}
use Rattle.std.proofs.lemmas.List.Elements.{All-nil, All-cons, All-head, All-tail}
use Rattle.std.proofs.lemmas.Slice.Zip.{AllZip-long, all_zipped_more}
use Rattle.pc_model.specs.declared.query.Folded.{Folded}
use Rattle.pc_model.specs.declared.query.Query.{Query}
use Rattle.pc_model.specs.declared.row.Row.{Row}
use Rattle.pc_model.specs.Folds.{IsFold}
use Rattle.pc_proof.specs.declared.document.Block.{Block}
use Rattle.pc_group.specs.Answers.{AnswersWanted}
use Rattle.pc_group.specs.Scopes.{AreFolds}
use Rattle.pc_group.specs.Trees.{told}
use Rattle.pc_group.specs.Wanted.{Wanted, wanted_as, wanted_by}
use Rattle.pc_desk_answers.specs.Blocks.{Ground, block}
use Rattle.pc_desk_answers.proofs.Shown.{IsAnswered as Answers, blocks_answer, wanted_are_of}
use Rattle.pc_desk_why.specs.declared.explained.Explained.{Explained}
use Rattle.pc_desk_why.specs.Explained.{AreExplained, ExplainsBlock}
use Rattle.pc_desk_why.specs.Scopes.{IsAnswered}

-- two lists side by side, at a place
zipped_at : {A B : Type 0} (R : A → B → Type 0) (xs : List A) (ys : List B) (i : ℕ) (d : A) (e : B) → AllZip R xs ys → i < length xs → R (get_or xs i d) (get_or ys i e)
zipped_at R [] ys i d e each inside = let no : ⊥ = omega (arith, inside) in absurd no
zipped_at R (x ∷ xs) [] i d e each inside = absurd each
zipped_at R (x ∷ xs) (y ∷ ys) zero d e each inside = each.0
zipped_at R (x ∷ xs) (y ∷ ys) (suc i) d e each inside = zipped_at R xs ys i d e each.1 (omega (arith, inside))

module _ (ground : Ground) (query : Query) where
  abbrev Answered : Wanted → Block → Type 0
  Answered = Answers ground.nodes ground.schema ground.rows ground.constraints

  abbrev IsOf : Wanted → Type 0
  IsOf w = w.query ≡ query

  -- what is wanted of the name that a block is of
  abbrev of_block : Block → Wanted
  of_block b = wanted_as query b.name

  one_wanted : (w : Wanted) (b : Block) → w.query ≡ query → Answered w b → w ≡ of_block b
  one_wanted w b is answered = ap (λ (q : Query). wanted_as q w.name) is ∙ ap (wanted_as query) (sym answered.1.name_is)

  all_wanted : (ws : List Wanted) (bs : List Block) → All IsOf ws → AllZip Answered ws bs → ws ≡ map of_block bs
  all_wanted [] [] of answered = refl
  all_wanted [] (b ∷ bs) of answered = absurd answered
  all_wanted (w ∷ ws) [] of answered = absurd answered
  all_wanted (w ∷ ws) (b ∷ bs) of answered =
      ap (λ (v : Wanted). v ∷ ws) (one_wanted w b (All-head IsOf w ws of) answered.0)
      ∙ ap (λ (vs : List Wanted). of_block b ∷ vs) (all_wanted ws bs (All-tail IsOf w ws of) answered.1)

  one_answered : (w : Wanted) (b : Block) → w.query ≡ query → Answered w b → IsAnswered ground query b
  one_answered w b is answered = record {
    nodes = answered.0;
    answers = subst (λ (v : Wanted). AnswersWanted ground.nodes ground.schema ground.rows ground.constraints v (record { block = b; nodes = answered.0 })) (one_wanted w b is answered) answered.1;
  }

  all_answered : (ws : List Wanted) (bs : List Block) → All IsOf ws → AllZip Answered ws bs → All (IsAnswered ground query) bs
  all_answered [] [] of answered = All-nil (IsAnswered ground query)
  all_answered [] (b ∷ bs) of answered = absurd answered
  all_answered (w ∷ ws) [] of answered = absurd answered
  all_answered (w ∷ ws) (b ∷ bs) of answered =
      All-cons (IsAnswered ground query) b bs (one_answered w b (All-head IsOf w ws of) answered.0) (all_answered ws bs (All-tail IsOf w ws of) answered.1)

  -- the folds of what is wanted of blocks are theirs
  abbrev IsSeenOf : Block → Folded → Type 0
  IsSeenOf b folded = IsFold query b.name ground.rows folded

  all_seen : (bs : List Block) (folds : List Folded) → AreFolds (map of_block bs) ground.rows folds → AllZip IsSeenOf bs folds
  all_seen [] [] each = tt
  all_seen [] (folded ∷ folds) each = absurd each
  all_seen (b ∷ bs) [] each = absurd each
  all_seen (b ∷ bs) (folded ∷ folds) each = (each.0, all_seen bs folds each.1)

  abbrev IsExplainedOf : Block → Explained → Type 0
  IsExplainedOf b told = ExplainsBlock ground (of_block b) told

  each_explained : (bs : List Block) (all : List Explained) → AllZip IsExplainedOf bs all → AreExplained ground (map block (map of_block bs)) all
  each_explained [] [] each = tt
  each_explained [] (told ∷ all) each = absurd each
  each_explained (b ∷ bs) [] each = absurd each
  each_explained (b ∷ bs) (told ∷ all) each = (each.0, each_explained bs all each.1)

  module _ (bs : List Block) (answers : AllZip (AnswersWanted ground.nodes ground.schema ground.rows ground.constraints) (wanted_by ground.schema query) (told bs)) where
    each_answer : AllZip Answered (wanted_by ground.schema query) bs
    each_answer = blocks_answer ground.nodes ground.schema ground.rows ground.constraints query bs answers

    wanted_is : wanted_by ground.schema query ≡ map of_block bs
    wanted_is = all_wanted (wanted_by ground.schema query) bs (wanted_are_of ground.schema query) each_answer

    pub blocks_answered : All (IsAnswered ground query) bs
    blocks_answered = all_answered (wanted_by ground.schema query) bs (wanted_are_of ground.schema query) each_answer

    pub blocks_seen : (folds : List Folded) → AreFolds (wanted_by ground.schema query) ground.rows folds → AllZip IsSeenOf bs folds
    blocks_seen folds each = all_seen bs folds (subst (λ (ws : List Wanted). AreFolds ws ground.rows folds) wanted_is each)

    pub as_many : (folds : List Folded) → AreFolds (wanted_by ground.schema query) ground.rows folds → length folds ≡ length bs
    as_many folds each = AllZip-long IsSeenOf bs folds (blocks_seen folds each)

    pub blocks_explained : (all : List Explained) → AllZip IsExplainedOf bs all → AreExplained ground (map block (wanted_by ground.schema query)) all
    blocks_explained all each = subst (λ (ws : List Wanted). AreExplained ground (map block ws) all) (sym wanted_is) (each_explained bs all each)

  -- ---- one block more

  pub explained_more : (bs : List Block) (i : ℕ) (b : Block) (before : List Explained) (told : Explained) → i < length bs → b ≡ get_or bs i b →
      AllZip IsExplainedOf (take i bs) before → IsExplainedOf b told → AllZip IsExplainedOf (take (i + 1) bs) (before ++ told ∷ [])
  explained_more bs i b before told inside is earlier explains =
      let next : take (i + 1) bs ≡ take i bs ++ b ∷ [] = take_more bs i b inside ∙ ap (λ (c : Block). take i bs ++ c ∷ []) (sym is) in
      subst (λ (cs : List Block). AllZip IsExplainedOf cs (before ++ told ∷ [])) (sym next) (all_zipped_more IsExplainedOf (take i bs) before b told earlier explains)

module _ (query : Query) (rows : List Row) where
  pub seen_at : (bs : List Block) (folds : List Folded) (i : ℕ) (b : Block) (d : Folded) → AllZip (λ (b : Block) (folded : Folded). IsFold query b.name rows folded) bs folds → i < length bs → b ≡ get_or bs i b →
      IsFold query b.name rows (get_or folds i d)
  seen_at bs folds i b d each inside is =
      subst (λ (c : Block). IsFold query c.name rows (get_or folds i d)) (sym is) (zipped_at (λ (b : Block) (folded : Folded). IsFold query b.name rows folded) bs folds i b d each inside)
