-- The entries of blocks so far, and those of the blocks that are left.
use Rattle.std.proofs.Common.{◌≡◌, ℕ, ◌+◌, ◌<◌, ◌≤◌, List, [], ◌∷◌, ◌++◌, length, get_or, drop, refl}
use Rattle.pc_model.specs.declared.query.Query.{Query}
use Rattle.pc_model.proofs.Pieces.{pieces_step, pieces_past, pieces_spent}
use Rattle.pc_proof.specs.declared.document.Block.{Block}
use Rattle.pc_desk_table.specs.declared.entry.Entry.{Entry}
use Rattle.pc_desk_answers.specs.Blocks.{Ground, block_entry, entries_between}

module _ (ground : Ground) (query : Query) where
  next_entry : (b : Block) (bs : List Block) (l : Block) (ls : List Block) → entries_between ground query (b ∷ bs) (l ∷ ls) ≡ (block_entry ground query b l ∷ []) ++ entries_between ground query bs ls
  unfolding entries_between
  next_entry b bs l ls = refl

  no_blocks : (ls : List Block) → entries_between ground query [] ls ≡ []
  unfolding entries_between
  no_blocks ls = refl

  no_lefts : (bs : List Block) → entries_between ground query bs [] ≡ []
  unfolding entries_between
  no_lefts [] = refl
  no_lefts (b ∷ bs) = refl

  pub entries_step : (items : List Entry) (bs ls : List Block) (i : ℕ) (b l : Block) → i < length bs → i < length ls →
      (items ++ block_entry ground query (get_or bs i b) (get_or ls i l) ∷ []) ++ entries_between ground query (drop (i + 1) bs) (drop (i + 1) ls) ≡ items ++ entries_between ground query (drop i bs) (drop i ls)
  entries_step = pieces_step (entries_between ground query) (λ b l. block_entry ground query b l ∷ []) next_entry

  pub entries_past : (items : List Entry) (bs ls : List Block) (i : ℕ) → length bs ≤ i → items ++ entries_between ground query (drop i bs) (drop i ls) ≡ items
  entries_past = pieces_past (entries_between ground query) no_blocks

  pub entries_spent : (items : List Entry) (bs ls : List Block) (i : ℕ) → length ls ≤ i → items ++ entries_between ground query (drop i bs) (drop i ls) ≡ items
  entries_spent = pieces_spent (entries_between ground query) no_lefts

pub ruleset steps = (entries_step, entries_past, entries_spent)
