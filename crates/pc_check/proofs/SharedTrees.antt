-- The lines of a block's tree. Of one that is that of the block before every line has the same number.
use Rattle.std.proofs.Common.{◌≡◌, ℕ, ◌+◌, List, [], ◌∷◌, ◌++◌, map, All, Result, Ok, Err, inl, inr, refl, sym, ap, ap₂, ◌∙◌, subst}
use Rattle.std.proofs.lemmas.List.{map-append}
use Rattle.std.proofs.lemmas.List.Elements.{All-nil, All-cons, All-head, All-tail}
use Rattle.pc_model.specs.declared.schema.Schema.{Schema}
use Rattle.pc_model.specs.declared.region.Region.{Region}
use Rattle.pc_model.specs.declared.area.Area.{Area}
use Rattle.pc_model.specs.declared.tree.CutNode.{CutNode}
use Rattle.pc_model.specs.declared.tree.Leaf.{Leaf}
use Rattle.pc_model.specs.Cells.{leaves_in}
use Rattle.pc_model.specs.CutTrees.{CutShape, leaf, inner, size_of, shape_of, first_part, second_part}
use Rattle.pc_model.specs.Regions.{whole_region}
use Rattle.pc_proof.specs.Setting.{Setting}
use Rattle.pc_proof.specs.Demands.{Placed, Holds, IsFirstBroken, at_line, cut_demands, proper, own, same}
use Rattle.pc_check_rules.specs.declared.halt.Halt.{Halt}
use Rattle.pc_check_rules.specs.declared.halt.Halt.TheVariants as halts
use Rattle.pc_check_rules.specs.Halts.{Finds}
use Rattle.pc_check_rules.specs.Cuts.{IsCutFinding}
use Rattle.pc_check.specs.declared.premises.Premises.{Premises}
use Rattle.pc_check.specs.Blocks.{IsSettingOf, IsTreeFinding, moved_to}

-- from whichever line the tree is counted
pub lines_alike : (line j k : ℕ) (box : Region) (t : CutShape) → map (at_line line) (cut_demands j box t) ≡ map (at_line line) (cut_demands k box t)
lines_alike line j k box (leaf mark) = refl
lines_alike line j k box (inner cut t u) =
    let here : Placed = record { line = line; rule = 3; demand = proper box cut } in
    let first = λ (n : ℕ). cut_demands (n + 1) (first_part box cut) t in
    let second = λ (n : ℕ). cut_demands (n + 1 + size_of t) (second_part box cut) u in
    ap (λ (ds : List Placed). here ∷ ds)
    (map-append (at_line line) (first j) (second j)
    ∙ ap₂ (λ (ds es : List Placed). ds ++ es) (lines_alike line (j + 1) (k + 1) (first_part box cut) t) (lines_alike line (j + 1 + size_of t) (k + 1 + size_of t) (second_part box cut) u)
    ∙ sym (map-append (at_line line) (first k) (second k)))

moved_broken : (s : Setting) (line at rule : ℕ) (ds : List Placed) → IsFirstBroken s at rule ds → IsFirstBroken s line rule (map (at_line line) ds)
moved_broken s line at rule [] broken = absurd broken
moved_broken s line at rule (d ∷ ds) (inl here) = inl (here.0, refl, here.2)
moved_broken s line at rule (d ∷ ds) (inr later) = inr (later.0, moved_broken s line at rule ds later.1)

pub moved_whole : (s : Setting) (line : ℕ) (ds : List Placed) → All (Holds s) ds → All (Holds s) (map (at_line line) ds)
moved_whole s line [] all = All-nil (Holds s)
moved_whole s line (d ∷ ds) all =
    All-cons (Holds s) (at_line line d) (map (at_line line) ds) (All-head (Holds s) d ds all) (moved_whole s line ds (All-tail (Holds s) d ds all))

module _ (premises : Premises) (area : Area) (list : List CutNode) (line : ℕ) where
  abbrev of_tree : List Placed
  of_tree = cut_demands 0 (whole_region premises.schema.now) (shape_of list)

  -- the lines of the tree, as a setting of it has them
  abbrev shared : Schema → List CutNode → List Placed
  shared of_schema nodes = map (at_line line) (cut_demands (line + 1) (whole_region of_schema) (shape_of nodes))

  as_shared : (P : List Placed → Type 0) (s : Setting) → IsSettingOf premises area list s → P (map (at_line line) of_tree) → P (shared s.question.schema s.nodes)
  as_shared P s given found =
      subst (λ (x : Schema). P (shared x s.nodes)) (sym given.schema_is)
      (subst (λ (nodes : List CutNode). P (shared premises.schema.now nodes)) (sym given.nodes_are)
      (subst P (lines_alike line 0 (line + 1) (whole_region premises.schema.now) (shape_of list)) found))

  pub own_found : (result : Result (List Leaf) Halt) → IsCutFinding (line + 1) premises.schema.now premises.constraints.now area list result → IsTreeFinding own line premises area list result
  own_found result found s given =
      let are_leaves = λ (leaves : List Leaf). leaves ≡ leaves_in premises.schema.now list in
      subst (λ (x : Schema). Finds s (cut_demands (line + 1) (whole_region x) (shape_of s.nodes)) are_leaves result) (sym given.schema_is)
      (subst (λ (nodes : List CutNode). Finds s (cut_demands (line + 1) (whole_region premises.schema.now) (shape_of nodes)) are_leaves result) (sym given.nodes_are) (found s given.asked))

  pub same_halted : (halt : Halt) → IsCutFinding 0 premises.schema.now premises.constraints.now area list (Err halt) → IsTreeFinding same line premises area list (Err (moved_to line halt))
  same_halted (halts.Broken at rule) found s given = as_shared (IsFirstBroken s line rule) s given (moved_broken s line at rule of_tree (found s given.asked))
  same_halted halts.Memory found s given = tt

  pub same_settled : (leaves : List Leaf) → IsCutFinding 0 premises.schema.now premises.constraints.now area list (Ok leaves) → IsTreeFinding same line premises area list (Ok leaves)
  same_settled leaves found s given =
      let settled = found s given.asked in
      (as_shared (All (Holds s)) s given (moved_whole s line of_tree settled.0), settled.1)
