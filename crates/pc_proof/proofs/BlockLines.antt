-- What a block asks line by line is what its answer has to show, and one broken demand is the first.
use Rattle.std.proofs.Common.{◌≡◌, ◌↔◌, ℕ, ◌+◌, List, [], ◌∷◌, ◌++◌, length, map, All, Option, Some, None, IfSome, inl, inr, sym, ◌∙◌, refl}
use Rattle.std.proofs.lemmas.List.Elements.{All-nil, All-cons, All-head, All-tail, All-append}
use Rattle.pc_model.specs.declared.region.Region.{Region}
use Rattle.pc_model.specs.declared.area.Area.{Area}
use Rattle.pc_model.specs.declared.row.Run.{Run}
use Rattle.pc_model.specs.Regions.{whole_region}
use Rattle.pc_model.specs.CutTrees.{shape_of, HasProperCuts}
use Rattle.pc_model.specs.Cells.{AreSettled}
use Rattle.pc_proof.specs.declared.answer.Why.{Why}
use Rattle.pc_proof.specs.declared.answer.Relation.{Relation}
use Rattle.pc_proof.specs.declared.answer.Relation.TheVariants as relations
use Rattle.pc_proof.specs.declared.answer.Lack.{Lack}
use Rattle.pc_proof.specs.declared.answer.Lack.TheVariants as lacks
use Rattle.pc_proof.specs.declared.answer.NeverBy.{NeverBy}
use Rattle.pc_proof.specs.declared.answer.AlwaysBy.{AlwaysBy}
use Rattle.pc_proof.specs.declared.answer.End.{End}
use Rattle.pc_proof.specs.declared.answer.Answer.{Answer}
use Rattle.pc_proof.specs.Setting.{Setting, area_of, leaves}
use Rattle.pc_proof.specs.Unbroken.{AllowsName, HoldsRelation, HoldsLack, HoldsLow, HoldsHigh, MayStand, IsUnbroken}
use Rattle.pc_proof.specs.Demands.{Placed, Holds, IsFirstBroken, allowed, gives_none, gives_some, impossible_by, stands, never_by, always_by, why_trees, never_trees, always_trees, relation_demands, lack_demands, ends_demands, front_lines, name_demands, TreeLines, own, same, at_line, cut_demands, cells_demands, relation_line, lack_line, end_line, block_demands}
use Rattle.pc_proof.proofs.Parts.{All-front, All-back, one-holds, the-one, the-second, two-hold, the-last}
use Rattle.pc_proof.proofs.TreeLines.{proper-from_demands, settled-from_demands, demands-from_cuts}
use Rattle.pc_proof.proofs.EndLines.{Stand, why-trees, never-trees, always-trees, ends-hold, lows-from_demands, highs-from_demands, runs_line}

-- ---- the first that is broken

pub first-once : (s : Setting) (first rule other kind : ℕ) (demands : List Placed) → IsFirstBroken s first rule demands → IsFirstBroken s other kind demands → (first ≡ other) × (rule ≡ kind)
first-once s first rule other kind [] a b = absurd a
first-once s first rule other kind (d ∷ ds) (inl a) (inl b) = (sym a.1 ∙ b.1, sym a.2 ∙ b.2)
first-once s first rule other kind (d ∷ ds) (inl a) (inr b) = absurd (a.0 b.0)
first-once s first rule other kind (d ∷ ds) (inr a) (inl b) = absurd (b.0 a.0)
first-once s first rule other kind (d ∷ ds) (inr a) (inr b) = first-once s first rule other kind ds a.1 b.1

-- where one is broken, not all hold
pub first-breaks : (s : Setting) (line rule : ℕ) (demands : List Placed) → IsFirstBroken s line rule demands → All (Holds s) demands → ⊥
first-breaks s line rule [] broken all = broken
first-breaks s line rule (d ∷ ds) (inl broken) all = broken.0 (All-head (Holds s) d ds all)
first-breaks s line rule (d ∷ ds) (inr later) all = first-breaks s line rule ds later.1 (All-tail (Holds s) d ds all)

-- ---- the name

allowed-without : (chosen : Area) (group name : Option ℕ) → name ≡ None → AllowsName chosen group name
allowed-without chosen (Some column) None without = tt
allowed-without chosen (Some column) (Some place) without = absurd (cc)
allowed-without chosen None name without = tt

module _ (s : Setting) where
  abbrev IsAllowed : Type 0
  IsAllowed = AllowsName s.question.query.chosen s.question.query.group s.question.name

  abbrev name_line : ℕ → Placed
  name_line line = record { line = line + 1; rule = 2; demand = allowed }

  name-holds : (line : ℕ) (name : Option ℕ) → IsAllowed → All (Holds s) (name_demands line name)
  name-holds line None held = All-nil (Holds s)
  name-holds line (Some place) held = one-holds s (name_line line) held

  name-from_demands : (line : ℕ) (name : Option ℕ) → s.question.name ≡ name → All (Holds s) (name_demands line name) → IsAllowed
  name-from_demands line None same_name all = allowed-without s.question.query.chosen s.question.query.group s.question.name same_name
  name-from_demands line (Some place) same_name all = the-one s (name_line line) all

  -- ---- the tree of the cells, whose demands stand in one line where it is that of the block before

  moved : (line : ℕ) (demands : List Placed) → All (Holds s) demands → All (Holds s) (map (at_line line) demands)
  moved line [] all = All-nil (Holds s)
  moved line (d ∷ ds) all =
      All-cons (Holds s) (at_line line d) (map (at_line line) ds) (All-head (Holds s) d ds all) (moved line ds (All-tail (Holds s) d ds all))

  moved-back : (line : ℕ) (demands : List Placed) → All (Holds s) (map (at_line line) demands) → All (Holds s) demands
  moved-back line [] all = All-nil (Holds s)
  moved-back line (d ∷ ds) all =
      All-cons (Holds s) d ds (All-head (Holds s) (at_line line d) (map (at_line line) ds) all)
      (moved-back line ds (All-tail (Holds s) (at_line line d) (map (at_line line) ds) all))

  abbrev box : Region
  box = whole_region s.question.schema

  cells-hold : (kind : TreeLines) (line : ℕ) → HasProperCuts box (shape_of s.nodes) → AreSettled s.question.constraints (area_of s.question) (leaves s)
      → All (Holds s) (cells_demands kind s line)
  cells-hold own line cut fit = demands-from_cuts s (line + 1) box (shape_of s.nodes) cut fit
  cells-hold same line cut fit =
      moved line (cut_demands (line + 1) box (shape_of s.nodes)) (demands-from_cuts s (line + 1) box (shape_of s.nodes) cut fit)

  cuts-from_demands : (kind : TreeLines) (line : ℕ) → All (Holds s) (cells_demands kind s line) → All (Holds s) (cut_demands (line + 1) box (shape_of s.nodes))
  cuts-from_demands own line all = all
  cuts-from_demands same line all = moved-back line (cut_demands (line + 1) box (shape_of s.nodes)) all

  -- ---- the relation

  stand-both : (relation : Relation) (ends : Option (End × End)) → IfSome ends (λ e. HoldsLow s e.0 × MayStand relation e.0) → IfSome ends (λ e. HoldsHigh s e.1 × MayStand relation e.1) → Stand s relation ends
  stand-both relation None low high = tt
  stand-both relation (Some e) low high = (low.1, high.1)

  stand-possible : (runs : List Run) (ends : Option (End × End)) → Stand s (relations.Possible runs) ends
  stand-possible runs None = tt
  stand-possible runs (Some e) = (tt, tt)

  stand-impossible : (why : Why) (ends : Option (End × End)) → Stand s (relations.Impossible why) ends
  stand-impossible why None = tt
  stand-impossible why (Some e) = (tt, tt)

  abbrev why_line : ℕ → Why → Placed
  why_line line why = record { line = line; rule = 9; demand = impossible_by why }

  abbrev stand_line : ℕ → Option (End × End) → Placed
  stand_line line ends = record { line = line; rule = 9; demand = stands relations.Undecided ends }

  relation-holds : (line : ℕ) (relation : Relation) (ends : Option (End × End)) → HoldsRelation s relation → Stand s relation ends → All (Holds s) (relation_demands s line relation ends)
  relation-holds line (relations.Possible runs) ends held stand = one-holds s (runs_line s line runs) held
  relation-holds line (relations.Impossible why) ends held stand =
      All-append (Holds s) (why_trees s (line + 1) why) (why_line line why ∷ []) (why-trees s (line + 1) why held) (one-holds s (why_line line why) held)
  relation-holds line relations.Undecided ends held stand = one-holds s (stand_line line ends) stand

  relation-from_demands : (line : ℕ) (relation : Relation) (ends : Option (End × End)) → All (Holds s) (relation_demands s line relation ends) → HoldsRelation s relation
  relation-from_demands line (relations.Possible runs) ends all = the-one s (runs_line s line runs) all
  relation-from_demands line (relations.Impossible why) ends all = the-last s (why_trees s (line + 1) why) (why_line line why) all
  relation-from_demands line relations.Undecided ends all = tt

  stand-from_demands : (line : ℕ) (relation : Relation) (ends : Option (End × End)) → All (Holds s) (relation_demands s line relation ends) → Stand s relation ends
  stand-from_demands line (relations.Possible runs) ends all = stand-possible runs ends
  stand-from_demands line (relations.Impossible why) ends all = stand-impossible why ends
  stand-from_demands line relations.Undecided ends all = the-one s (stand_line line ends) all

  -- ---- the lack

  abbrev never_line : ℕ → NeverBy → Placed
  never_line line by' = record { line = line; rule = 10; demand = never_by by' }

  abbrev always_line : ℕ → AlwaysBy → Placed
  always_line line by' = record { line = line; rule = 10; demand = always_by by' }

  abbrev none_line : ℕ → List Run → Placed
  none_line line runs = record { line = line; rule = 6; demand = gives_none runs }

  abbrev some_line : ℕ → List Run → Placed
  some_line line runs = record { line = line; rule = 6; demand = gives_some runs }

  lack-holds : (line : ℕ) (lack : Lack) → HoldsLack s lack → All (Holds s) (lack_demands s line lack)
  lack-holds line lacks.Silent held = All-nil (Holds s)
  lack-holds line (lacks.Never by') held =
      All-append (Holds s) (never_trees s (line + 1) by') (never_line line by' ∷ []) (never-trees s (line + 1) by' held) (one-holds s (never_line line by') held)
  lack-holds line (lacks.Sometimes without with') held =
      let other = line + 1 + length without in
      All-append (Holds s) (runs_line s line without ∷ none_line line without ∷ []) (runs_line s other with' ∷ some_line other with' ∷ [])
      (two-hold s (runs_line s line without) (none_line line without) held.0.by held.0)
      (two-hold s (runs_line s other with') (some_line other with') held.1.by held.1)
  lack-holds line (lacks.Always by') held =
      All-append (Holds s) (always_trees s (line + 1) by') (always_line line by' ∷ []) (always-trees s (line + 1) by' held) (one-holds s (always_line line by') held)
  lack-holds line lacks.Undecided held = All-nil (Holds s)

  lack-from_demands : (line : ℕ) (lack : Lack) → All (Holds s) (lack_demands s line lack) → HoldsLack s lack
  lack-from_demands line lacks.Silent all = tt
  lack-from_demands line (lacks.Never by') all = the-last s (never_trees s (line + 1) by') (never_line line by') all
  lack-from_demands line (lacks.Sometimes without with') all =
      let other = line + 1 + length without in
      let first = runs_line s line without ∷ none_line line without ∷ [] in
      let second = runs_line s other with' ∷ some_line other with' ∷ [] in (
        the-second s (runs_line s line without) (none_line line without) (All-front (Holds s) first second all),
        the-second s (runs_line s other with') (some_line other with') (All-back (Holds s) first second all),
      )
  lack-from_demands line (lacks.Always by') all = the-last s (always_trees s (line + 1) by') (always_line line by') all
  lack-from_demands line lacks.Undecided all = tt

  -- ---- a block

  module _ (kind : TreeLines) (line : ℕ) (answer : Answer) where
    abbrev names : List Placed
    names = name_demands line s.question.name

    abbrev tree : List Placed
    tree = cells_demands kind s (line + front_lines s.question.name)

    abbrev relation : List Placed
    relation = relation_demands s (relation_line kind s line) answer.relation answer.ends

    abbrev lack : List Placed
    lack = lack_demands s (lack_line kind s line answer) answer.lack

    abbrev ends : List Placed
    ends = ends_demands s (end_line kind s line answer) answer.ends

    block-holds : IsUnbroken s answer → All (Holds s) (block_demands kind s line answer)
    block-holds unbroken =
        All-append (Holds s) names (tree ++ (relation ++ (lack ++ ends))) (name-holds line s.question.name unbroken.allowed)
        (All-append (Holds s) tree (relation ++ (lack ++ ends)) (cells-hold kind (line + front_lines s.question.name) unbroken.proper unbroken.settled)
        (All-append (Holds s) relation (lack ++ ends)
        (relation-holds (relation_line kind s line) answer.relation answer.ends unbroken.relation (stand-both answer.relation answer.ends unbroken.low unbroken.high))
        (All-append (Holds s) lack ends (lack-holds (lack_line kind s line answer) answer.lack unbroken.lack)
        (ends-hold s (end_line kind s line answer) answer.relation answer.ends unbroken.low unbroken.high))))

    unbroken-from_demands : All (Holds s) (block_demands kind s line answer) → IsUnbroken s answer
    unbroken-from_demands all =
        let named = All-front (Holds s) names (tree ++ (relation ++ (lack ++ ends))) all in
        let after_names = All-back (Holds s) names (tree ++ (relation ++ (lack ++ ends))) all in
        let cut_start = line + front_lines s.question.name in
        let cut = cuts-from_demands kind cut_start (All-front (Holds s) tree (relation ++ (lack ++ ends)) after_names) in
        let after_tree = All-back (Holds s) tree (relation ++ (lack ++ ends)) after_names in
        let related = All-front (Holds s) relation (lack ++ ends) after_tree in
        let after_relation = All-back (Holds s) relation (lack ++ ends) after_tree in
        let stand = stand-from_demands (relation_line kind s line) answer.relation answer.ends related in
        let ended = All-back (Holds s) lack ends after_relation in
        record {
          allowed = name-from_demands line s.question.name refl named;
          proper = proper-from_demands s (cut_start + 1) box (shape_of s.nodes) cut;
          settled = settled-from_demands s (cut_start + 1) box (shape_of s.nodes) cut;
          relation = relation-from_demands (relation_line kind s line) answer.relation answer.ends related;
          lack = lack-from_demands (lack_line kind s line answer) answer.lack (All-front (Holds s) lack ends after_relation);
          low = lows-from_demands s (end_line kind s line answer) answer.relation answer.ends ended stand;
          high = highs-from_demands s (end_line kind s line answer) answer.relation answer.ends ended stand;
        }

pub demands-from_unbroken : (kind : TreeLines) (s : Setting) (line : ℕ) (answer : Answer) → IsUnbroken s answer → All (Holds s) (block_demands kind s line answer)
demands-from_unbroken kind s line answer unbroken = block-holds s kind line answer unbroken

pub demands-are_rules : (kind : TreeLines) (s : Setting) (line : ℕ) (answer : Answer) → (All (Holds s) (block_demands kind s line answer) ↔ IsUnbroken s answer)
demands-are_rules kind s line answer = (unbroken-from_demands s kind line answer, block-holds s kind line answer)
