-- Lines written one after another.
use Rattle.std.proofs.Common.{◌≡◌, ℕ, ◌+◌, ◌<◌, ◌≤◌, List, [], ◌∷◌, ◌++◌, length, drop, get_or, refl, sym, ap, ◌∙◌, append_assoc}
use Rattle.std.proofs.lemmas.List.{append-nil, drop_more, drop_all}
use Rattle.pc_document_format.specs.Lines.{lines_text}
use Rattle.pc_document_format.specs.Formats.{Lines, nodes_text, items_text}
use Rattle.pc_model.specs.declared.tree.TreeNode.{TreeNode}
use Rattle.pc_model.specs.declared.schema.Schema.{Schema}
use Rattle.pc_model.specs.declared.row.Run.{Run}
use Rattle.pc_report.specs.RunLines.{run_line, run_lines}
use Rattle.pc_document_lines.specs.NodeLines.{bare, node_text}
use Rattle.pc_document_lines.specs.TokenLines.{run_text}
use Rattle.pc_document.specs.DocumentLines.{runs_lines}
use Rattle.pc_document_format.proofs.LinesOf.{text_joined}

no_lines : lines_text [] ≡ []
unfolding lines_text
no_lines = refl

pub no_more : (out : List ℕ) → out ≡ out ++ lines_text []
no_more out = sym (ap (λ (text : List ℕ). out ++ text) no_lines ∙ append-nil out)

-- one line
pub one_line : (out line : List ℕ) → (out ++ line) ++ 10 ∷ [] ≡ out ++ lines_text (line ∷ [])
unfolding lines_text
one_line out line = let same = append-nil (line ++ 10 ∷ []) in append_assoc out line (10 ∷ []) ∙ ap (λ (text : List ℕ). out ++ text) (sym same)

-- lines after lines
pub then_lines : (out : List ℕ) (a b : Lines) → (out ++ lines_text a) ++ lines_text b ≡ out ++ lines_text (a ++ b)
then_lines out a b = append_assoc out (lines_text a) (lines_text b) ∙ ap (λ (text : List ℕ). out ++ text) (sym (text_joined a b))

pub first_line_then : (out line : List ℕ) (b : Lines) → (out ++ lines_text (line ∷ [])) ++ lines_text b ≡ out ++ lines_text (line ∷ b)
first_line_then out line b = then_lines out (line ∷ []) b

pub lines_then_rest : (out line : List ℕ) (a b : Lines) → (out ++ lines_text (line ∷ a)) ++ lines_text b ≡ out ++ lines_text (line ∷ (a ++ b))
lines_then_rest out line a b = then_lines out (line ∷ a) b

pub three_parts : (out : List ℕ) (a b c : Lines) → ((out ++ lines_text a) ++ lines_text b) ++ lines_text c ≡ out ++ lines_text (a ++ (b ++ c))
three_parts out a b c = then_lines (out ++ lines_text a) b c ∙ then_lines out a (b ++ c)

pub line_and_two : (out line : List ℕ) (b c : Lines) → ((out ++ lines_text (line ∷ [])) ++ lines_text b) ++ lines_text c ≡ out ++ lines_text (line ∷ (b ++ c))
line_and_two out line b c = three_parts out (line ∷ []) b c

-- four parts, and the first of them one line
pub four_parts : (out line : List ℕ) (b c d : Lines) → (((out ++ lines_text (line ∷ [])) ++ lines_text b) ++ lines_text c) ++ lines_text d ≡ out ++ lines_text (line ∷ (b ++ (c ++ d)))
four_parts out line b c d = three_parts (out ++ lines_text (line ∷ [])) b c d ∙ then_lines out (line ∷ []) (b ++ (c ++ d))

-- a text that begins as none
pub new_text : (empty : List ℕ) (first last : List ℕ) (b : Lines) → empty ≡ [] → ((empty ++ lines_text (first ∷ [])) ++ lines_text b) ++ lines_text (last ∷ []) ≡ lines_text (first ∷ (b ++ (last ∷ [])))
new_text empty first last b none = line_and_two empty first b (last ∷ []) ∙ ap (λ (out : List ℕ). out ++ lines_text (first ∷ (b ++ (last ∷ [])))) none

pub ruleset joins = (then_lines, first_line_then, lines_then_rest, three_parts, line_and_two, four_parts)

-- ---- as many as there are

module _ {A : Type 0} (text : A → List ℕ) where
  pub nodes_more : (items : List ℕ) (xs : List A) (i : ℕ) (x : A) → i < length xs → x ≡ get_or xs i x
      → ((items ++ text x) ++ 10 ∷ []) ++ lines_text (nodes_text text (drop (i + 1) xs)) ≡ items ++ lines_text (nodes_text text (drop i xs))
  nodes_more items xs i x inside is =
      let front : drop i xs ≡ x ∷ drop (i + 1) xs = drop_more xs i x inside ∙ ap (λ (y : A). y ∷ drop (i + 1) xs) (sym is) in
      ap (λ (t : List ℕ). t ++ lines_text (nodes_text text (drop (i + 1) xs))) (one_line items (text x))
      ∙ first_line_then items (text x) (nodes_text text (drop (i + 1) xs)) ∙ ap (λ (ys : List A). items ++ lines_text (nodes_text text ys)) (sym front)

  pub nodes_end : (items : List ℕ) (xs : List A) (i : ℕ) → length xs ≤ i → items ++ lines_text (nodes_text text (drop i xs)) ≡ items
  nodes_end items xs i late =
      ap (λ (ys : List A). items ++ lines_text (nodes_text text ys)) (drop_all i xs late) ∙ ap (λ (t : List ℕ). items ++ t) no_lines ∙ append-nil items

module _ {A : Type 0} (lines : A → Lines) where
  pub items_more : (items : List ℕ) (xs : List A) (i : ℕ) (x : A) → i < length xs → x ≡ get_or xs i x
      → (items ++ lines_text (lines x)) ++ lines_text (items_text lines (drop (i + 1) xs)) ≡ items ++ lines_text (items_text lines (drop i xs))
  items_more items xs i x inside is =
      let front : drop i xs ≡ x ∷ drop (i + 1) xs = drop_more xs i x inside ∙ ap (λ (y : A). y ∷ drop (i + 1) xs) (sym is) in
      then_lines items (lines x) (items_text lines (drop (i + 1) xs)) ∙ ap (λ (ys : List A). items ++ lines_text (items_text lines ys)) (sym front)

  pub items_end : (items : List ℕ) (xs : List A) (i : ℕ) → length xs ≤ i → items ++ lines_text (items_text lines (drop i xs)) ≡ items
  items_end items xs i late =
      ap (λ (ys : List A). items ++ lines_text (items_text lines ys)) (drop_all i xs late) ∙ ap (λ (t : List ℕ). items ++ t) no_lines ∙ append-nil items

-- of a search tree
abbrev bare_text : TreeNode → List ℕ
bare_text node = node_text (bare node)

pub tree_more : (items : List ℕ) (xs : List TreeNode) (i : ℕ) (x : TreeNode) → i < length xs → x ≡ get_or xs i x
    → ((items ++ node_text (bare x)) ++ 10 ∷ []) ++ lines_text (nodes_text (λ (node : TreeNode). node_text (bare node)) (drop (i + 1) xs)) ≡ items ++ lines_text (nodes_text (λ (node : TreeNode). node_text (bare node)) (drop i xs))
tree_more = nodes_more bare_text

pub tree_end : (items : List ℕ) (xs : List TreeNode) (i : ℕ) → length xs ≤ i → items ++ lines_text (nodes_text (λ (node : TreeNode). node_text (bare node)) (drop i xs)) ≡ items
tree_end = nodes_end bare_text

pub ruleset tree_steps = (tree_more, tree_end)

-- the lines of runs are those of a report
pub runs_written : (schema : Schema) (runs : List Run) → run_lines schema runs ≡ lines_text (runs_lines schema runs)
unfolding lines_text run_lines run_line run_text
runs_written schema [] = refl
runs_written schema (run ∷ runs) = ap (λ (text : List ℕ). run_line schema run ++ text) (runs_written schema runs)

pub put_after : (out text : List ℕ) (schema : Schema) (runs : List Run) → text ≡ out ++ run_lines schema runs → text ≡ out ++ lines_text (runs_lines schema runs)
put_after out text schema runs is = is ∙ ap (λ (lines : List ℕ). out ++ lines) (runs_written schema runs)
