-- The text of JSON that is written for data, and what it reads as.
use Rattle.std.proofs.Common.{◌≡◌, ℕ, ◌≤◌, List, [], ◌∷◌, ◌++◌, false, Some, sym, ap, subst, ◌∙◌, arith}
use Rattle.json.specs.Lex.{tokens}
use Rattle.json.specs.Print.{print}
use Rattle.serde_json.specs.Data.{Data, depth}
use Rattle.serde_json.specs.Read.{max_depth, read}
use Rattle.serde_json.specs.Written.{IsInOrder, compact_text, has_float}
use Rattle.pc_desk_table.proofs.LineFeed.{read_line_feed}
use Rattle.pc_desk_table.proofs.Shallow.{IsPlain}

module _ (items new : List ℕ) (d wanted : Data) (is : d ≡ wanted) (plain : IsPlain 6 wanted) (ends : new ≡ items ++ 10 ∷ []) where
  plain_too : IsPlain 6 d
  plain_too = subst (IsPlain 6) (sym is) plain

  pub text_is : (has_float d ≡ false → items ≡ compact_text d) → new ≡ compact_text wanted ++ 10 ∷ []
  text_is written = ends ∙ ap (λ t. t ++ 10 ∷ []) (written plain_too.0 ∙ ap compact_text is)

  pub text_reads : items ≡ print (tokens items) → IsInOrder items d → (depth d ≤ max_depth → read items ≡ Some d) → read new ≡ Some wanted
  text_reads compact order back =
      let shallow = plain_too.1 in
      ap read ends ∙ read_line_feed items d compact order (back (omega arith)) ∙ ap Some is
