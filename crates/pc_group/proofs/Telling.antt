-- What one block more tells after those before it.
use Rattle.std.proofs.Common.{◌≡◌, List, [], ◌∷◌, ◌++◌, get_or, AllPairs, Option, Some, None, refl, sym, ap, subst, ◌∙◌, arith}
use Rattle.std.specs.List.{AllZip}
use Rattle.std.proofs.lemmas.List.Elements.{All-nil, All-push}
use Rattle.std.proofs.lemmas.Slice.Zip.{all_zipped_more}
use Rattle.pc_model.specs.declared.tree.CutNode.{CutNode}
use Rattle.pc_model.specs.CutTrees.{shape_of}
use Rattle.pc_cells_tree.specs.Walking.{HasCutsAt, bare}
use Rattle.pc_cells_tree.proofs.BareTrees.{same_bare}
use Rattle.pc_proof.specs.declared.answer.Answer.{Answer}
use Rattle.pc_proof.specs.declared.document.Block.{Block}
use Rattle.pc_proof.specs.declared.document.BlockTree.{BlockTree}
use Rattle.pc_proof.specs.Documents.{nodes_after}
use Rattle.pc_group.specs.declared.blocks.Written.{Written}
use Rattle.pc_group.specs.Trees.{Told, AreOfTree, AreWrittenAfter, IsWrittenAfter, told, told_after, told_with}
use Rattle.pc_group.specs.Wanted.{Wanted}
use Rattle.pc_group.specs.Written.{AreBlocksOf, HasBlock, last_after}

last_push : (blocks : List Block) (block : Block) (before : Option (List CutNode)) → last_after (blocks ++ block ∷ []) before ≡ nodes_after (last_after blocks before) block.tree
unfolding last_after
last_push [] block before = refl
last_push (b ∷ blocks) block before = last_push blocks block (nodes_after before b.tree)

told_first : (b : Block) (nodes : Option (List CutNode)) (more less : Option (List CutNode) → List Told) (t : Told) → more nodes ≡ less nodes ++ t ∷ [] → told_with b nodes more ≡ told_with b nodes less ++ t ∷ []
told_first b None more less t e = ap (λ (later : List Told). record { block = b; nodes = [] } ∷ later) e
told_first b (Some nodes) more less t e = ap (λ (later : List Told). record { block = b; nodes = nodes } ∷ later) e

told_push : (blocks : List Block) (block : Block) (nodes : List CutNode) (before : Option (List CutNode)) → nodes_after (last_after blocks before) block.tree ≡ Some nodes →
    told_after (blocks ++ block ∷ []) before ≡ told_after blocks before ++ record { block = block; nodes = nodes } ∷ []
unfolding last_after told_after
told_push [] block nodes before says = ap (λ (o : Option (List CutNode)). told_with block o (λ _. [])) says
told_push (b ∷ blocks) block nodes before says =
    told_first b (nodes_after before b.tree) (told_after (blocks ++ block ∷ [])) (told_after blocks) (record { block = block; nodes = nodes }) (told_push blocks block nodes (nodes_after before b.tree) says)

own_push : (blocks : List Block) (block : Block) (before : Option (List CutNode)) → AreWrittenAfter blocks before → IsWrittenAfter (last_after blocks before) block.tree → AreWrittenAfter (blocks ++ block ∷ []) before
unfolding last_after AreWrittenAfter
own_push [] block before each own = (own, tt)
own_push (b ∷ blocks) block before each own = (each.0, own_push blocks block (nodes_after before b.tree) each.1 own)

module _ (Answers : Wanted → Told → Type 0) (shared : List CutNode) where
  pub no_blocks : (written : Written) → written.blocks ≡ [] → written.last ≡ None → AreBlocksOf Answers shared [] written
  unfolding last_after told_after AreWrittenAfter
  no_blocks written none last = record {
    answers = rw none tt;
    of_tree = rw none (All-nil (λ (t : Told). HasCutsAt shared 0 (shape_of t.nodes)));
    own = rw none tt;
    last_is = rw (none, last) refl;
  }

  pub block_more : (blocks : List Wanted) (w : Wanted) (nodes : List CutNode) (answer : Answer) (before after : Written) → HasBlock before w.query w.name nodes answer after →
      ((tree : BlockTree) → nodes_after before.last tree ≡ Some nodes → Answers w (record { block = record { query = w.query; name = w.name; tree = tree; answer = answer }; nodes = nodes })) → HasCutsAt shared 0 (shape_of nodes) →
      AreBlocksOf Answers shared blocks before → AreBlocksOf Answers shared (blocks ++ w ∷ []) after
  block_more blocks w nodes answer before after has answers cuts each =
      let block : Block = record { query = w.query; name = w.name; tree = has.tree; answer = answer } in
      let t : Told = record { block = block; nodes = nodes } in
      let says : nodes_after (last_after before.blocks None) block.tree ≡ Some nodes = subst (λ (o : Option (List CutNode)). nodes_after o has.tree ≡ Some nodes) each.last_is has.says in
      let all : told after.blocks ≡ told before.blocks ++ t ∷ [] = ap told has.blocks ∙ told_push before.blocks block nodes None says in
      record {
        answers = subst (λ (ts : List Told). AllZip Answers (blocks ++ w ∷ []) ts) (sym all) (all_zipped_more Answers blocks (told before.blocks) w t each.answers (answers has.tree has.says));
        of_tree = subst (λ (ts : List Told). AreOfTree shared ts) (sym all) (All-push (λ (u : Told). HasCutsAt shared 0 (shape_of u.nodes)) (told before.blocks) t each.of_tree cuts);
        own = subst (λ (bs : List Block). AreWrittenAfter bs None) (sym has.blocks) (own_push before.blocks block None each.own (subst (λ (o : Option (List CutNode)). IsWrittenAfter o has.tree) each.last_is has.own));
        last_is = has.last_is ∙ sym (ap (λ (bs : List Block). last_after bs None) has.blocks ∙ last_push before.blocks block None ∙ says);
      }

-- trees of one tree have the same cuts
pub same_cuts : (shared : List CutNode) (ts : List Told) → AreOfTree shared ts → AllPairs (λ (a b : Told). bare (shape_of a.nodes) ≡ bare (shape_of b.nodes)) ts
same_cuts shared ts each i j d before inside = same_bare shared 0 (shape_of (get_or ts i d).nodes) (shape_of (get_or ts j d).nodes) (each i d (omega (arith, before, inside))) (each j d inside)
