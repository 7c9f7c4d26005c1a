-- A walk over a tree: where its tasks lead, and that each step leaves less to do.
use Rattle.std.proofs.Common.{◌≡◌, ℕ, zero, suc, ◌+◌, ◌*◌, ◌^◌, ◌<◌, ◌≤◌, true, List, [], ◌∷◌, ◌++◌, length, get_or, All, refl, sym, ◌∙◌, ap, subst, arith, pow-suc}
use Rattle.std.specs.Global.{Vec}
use Rattle.std.proofs.lemmas.List.{length-append, length-set, get_or_append_left, get_or_default}
use Rattle.std.proofs.lemmas.List.Elements.{All-nil, All-cons, All-append}
use Rattle.std.proofs.lemmas.List.Sums.{sum_by_push}
use Rattle.std.proofs.Math.Pow.{pow_mono}
use Rattle.std.proofs.Math.Seq.{get_or-append_seam}
use Rattle.pc_model.specs.declared.schema.Schema.{Schema}
use Rattle.pc_model.specs.declared.region.Region.{Region}
use Rattle.pc_model.specs.declared.area.Area.{Area}
use Rattle.pc_model.specs.declared.constraint.Constraint.{Constraint}
use Rattle.pc_model.specs.declared.tree.Cut.{Cut}
use Rattle.pc_model.specs.declared.tree.LeafMark.{LeafMark}
use Rattle.pc_model.specs.declared.tree.LeafMark.TheVariants.{Barren}
use Rattle.pc_model.specs.declared.tree.Leaf.{Leaf}
use Rattle.pc_model.specs.declared.tree.CutNode.{CutNode}
use Rattle.pc_model.specs.declared.tree.CutNode.TheVariants as forms
use Rattle.pc_model.specs.Boxes.{IsAreaOf, IsServable}
use Rattle.pc_model.specs.Regions.{whole_region}
use Rattle.pc_model.specs.WellFormed.{IsWellFormed}
use Rattle.pc_model.specs.CutTrees.{IsProper, first_part, second_part}
use Rattle.pc_model.specs.Cells.{IsSettledAs}
use Rattle.pc_box.specs.Cuts.{Divides}
use Rattle.pc_box.proofs.Proper.{Divides-from_proper}
use Rattle.pc_cells_tree.specs.declared.growth.Growth.{Growth}
use Rattle.pc_cells_tree.specs.declared.known.Known.{Known}
use Rattle.pc_cells_tree.specs.declared.walk.Task.{Task}
use Rattle.pc_cells_tree.specs.declared.walk.Task.TheVariants.{Visit, Close}
use Rattle.pc_cells_tree.specs.declared.walk.Walk.{Walk}
use Rattle.pc_cells_tree.specs.Decisions.{CanBeSettled}
use Rattle.pc_cells_tree.specs.Growing.{with_leaf, with_place, with_inner}
use Rattle.pc_cells_tree.specs.Knowing.{IsKnown}
use Rattle.pc_cells_tree.specs.Linked.{node_at, is_leaf_node, box_at, IsNodeAt, IsCutInto, IsTree, IsDone, IsDividedFor}
use Rattle.pc_cells_tree.specs.Rooms.{room}
use Rattle.pc_cells_tree.specs.Walking.{turn_of, HasWalked, Does, Leads, IsVisit, IsTask, effort, efforts, IsStep, IsOpened, nothing, IsUnderWay}
use Rattle.pc_cells_tree.proofs.Grown.{first_comparable, second_comparable, grown-leaf, grown-inner, whole_comparable}
use Rattle.pc_cells_tree.proofs.Knowing.{known_first, known_second}
use Rattle.pc_cells_tree.proofs.Rooms.{first_smaller, second_smaller}

-- ---- efforts

pub some_effort : (n : ℕ) → 0 < 2 ^ n
some_effort n = let least : 2 ^ 0 ≤ 2 ^ n = pow_mono {i = 0} {j = n} (omega arith) in omega (arith, least)

pub parts_less : (a b c : ℕ) → a < c → b < c → 2 ^ (2 * a) + 2 ^ (2 * b) + 1 < 2 ^ (2 * c)
parts_less a b zero p q = absurd (omega arith)
parts_less a b (suc c) p q =
    let first : 2 ^ (2 * a) ≤ 2 ^ (2 * c) = pow_mono {i = 2 * a} {j = 2 * c} (omega arith) in
    let second : 2 ^ (2 * b) ≤ 2 ^ (2 * c) = pow_mono {i = 2 * b} {j = 2 * c} (omega arith) in
    let twice : 2 * suc c ≡ suc (suc (2 * c)) = omega arith in
    let four : 2 ^ (2 * suc c) ≡ 4 * 2 ^ (2 * c) = rw twice (omega (arith, pow-suc 2 (suc (2 * c)), pow-suc 2 (2 * c))) in
    omega (arith, first, second, four, some_effort (2 * c))

some_task : (task : Task) → 0 < effort task
some_task (Visit turn) = some_effort (2 * room turn.part)
some_task (Close place cut) = omega arith

module _ (nodes : List CutNode) (constraints : List Constraint) (chosen : Area) where
  -- ---- the last task is done first

  leads_push : (tasks : List Task) (task : Task) (before middle end : Growth) → Does nodes constraints chosen task before middle → Leads nodes constraints chosen tasks middle end →
      Leads nodes constraints chosen (tasks ++ task ∷ []) before end
  leads_push [] task before middle end does leads = (before, refl, subst (Does nodes constraints chosen task before) leads does)
  leads_push (other ∷ tasks) task before middle end does leads = (leads.0, leads_push tasks task before middle leads.0 does leads.1, leads.2)

  leads_pop : (tasks : List Task) (task : Task) (before end : Growth) → Leads nodes constraints chosen (tasks ++ task ∷ []) before end →
      (middle : Growth) × Does nodes constraints chosen task before middle × Leads nodes constraints chosen tasks middle end
  leads_pop [] task before end leads = (end, subst (λ start. Does nodes constraints chosen task start end) (sym leads.1) leads.2, refl)
  leads_pop (other ∷ tasks) task before end leads =
      let last = leads_pop tasks task before leads.0 leads.1 in
      (last.0, last.1, (leads.0, last.2, leads.2))

  -- ---- the tasks that are left

  later_task : (grown more : ℕ) (task : Task) → grown ≤ more → IsTask nodes constraints chosen grown task → IsTask nodes constraints chosen more task
  later_task grown more (Visit turn) longer visit = visit
  later_task grown more (Close place cut) longer there = omega (arith, longer, there)

  later_tasks : (grown more : ℕ) (tasks : List Task) → grown ≤ more → All (IsTask nodes constraints chosen grown) tasks → All (IsTask nodes constraints chosen more) tasks
  later_tasks grown more tasks longer each = λ k d inside. later_task grown more (get_or tasks k d) longer (each k d inside)

  one_more : (grown : ℕ) (tasks : List Task) (task : Task) → All (IsTask nodes constraints chosen grown) tasks → IsTask nodes constraints chosen grown task →
      All (IsTask nodes constraints chosen grown) (tasks ++ task ∷ [])
  one_more grown tasks task each one = All-append (IsTask nodes constraints chosen grown) tasks (task ∷ []) each
      (All-cons (IsTask nodes constraints chosen grown) task [] one (All-nil (IsTask nodes constraints chosen grown)))

  -- a task that is done, with no other in its place
  done-step : (walk : Walk) (task : Task) (growth : Growth) → length walk.growth.nodes ≤ length growth.nodes → Does nodes constraints chosen task walk.growth growth →
      IsStep nodes constraints chosen task walk (record { growth = growth; tasks = walk.tasks })
  done-step walk task growth longer does = record {
    tasks = later_tasks (length walk.growth.nodes) (length growth.nodes) walk.tasks.items longer;
    leads = λ end leads. leads_push walk.tasks.items task walk.growth growth end does leads;
    less = rw (sum_by_push effort walk.tasks.items task) (omega (arith, some_task task));
  }

  -- a cut is set into its place
  pub closed-step : (walk : Walk) (task : Task) (place : ℕ) (cut : Cut) (growth : Growth) → task ≡ Close place cut → growth ≡ with_inner walk.growth place cut →
      IsStep nodes constraints chosen task walk (record { growth = growth; tasks = walk.tasks })
  closed-step walk task place cut growth is_task e =
      let same : length growth.nodes ≡ length walk.growth.nodes = ap (λ (g : Growth). length g.nodes) e ∙ length-set walk.growth.nodes place (forms.Inner cut (place + 1) (length walk.growth.nodes)) in
      subst (λ t. IsStep nodes constraints chosen t walk (record { growth = growth; tasks = walk.tasks })) (sym is_task) (done-step walk (Close place cut) growth (omega (arith, same)) e)

  -- what is read of the nodes, at any default
  pub node_read : (number : ℕ) (d node : CutNode) → number < length nodes → get_or nodes number d ≡ node → node_at nodes number ≡ node
  node_read number d node there e = get_or_default nodes number (forms.Leaf Barren) d there ∙ e

  -- ---- at a leaf

  leaf_node : (number : ℕ) (mark : LeafMark) → node_at nodes number ≡ forms.Leaf mark → is_leaf_node (node_at nodes number) ≡ true
  leaf_node number mark e = rw e refl

  walked-leaf : (number : ℕ) (part : Region) (before : Growth) (mark : LeafMark) → is_leaf_node (node_at nodes number) ≡ true → IsSettledAs constraints chosen part mark →
      HasWalked nodes constraints chosen number part before (with_leaf before part mark)
  unfolding grown-leaf
  walked-leaf number part before mark leaf settled = record { grown = grown-leaf constraints chosen part before mark settled; same = leaf }

  pub leaf-settled : (number : ℕ) (part : Region) (mark : LeafMark) → IsVisit nodes constraints chosen number part → node_at nodes number ≡ forms.Leaf mark → CanBeSettled constraints chosen part
  leaf-settled number part mark visit e =
      let done : CanBeSettled constraints chosen (box_at visit.boxes number) = subst (IsDone constraints chosen (box_at visit.boxes number)) e (visit.done number visit.there) in
      subst (CanBeSettled constraints chosen) (sym visit.part_is) done

  pub leaf-step : (walk : Walk) (number : ℕ) (part : Region) (known : Known) (kept mark : LeafMark) (growth : Growth) → node_at nodes number ≡ forms.Leaf kept → IsSettledAs constraints chosen part mark →
      growth ≡ with_leaf walk.growth part mark → IsStep nodes constraints chosen (Visit (turn_of number part known)) walk (record { growth = growth; tasks = walk.tasks })
  leaf-step walk number part known kept mark growth is_leaf settled e =
      let more : length growth.nodes ≡ length walk.growth.nodes + 1 = ap (λ (g : Growth). length g.nodes) e ∙ length-append walk.growth.nodes (forms.Leaf mark ∷ []) in
      done-step walk (Visit (turn_of number part known)) growth (omega (arith, more))
      (subst (HasWalked nodes constraints chosen number part walk.growth) (sym e) (walked-leaf number part walk.growth mark (leaf_node number kept is_leaf) settled))

  -- ---- at a cut

  module _ (number : ℕ) (part : Region) (cut : Cut) (first second : ℕ) (visit : IsVisit nodes constraints chosen number part) (is_inner : node_at nodes number ≡ forms.Inner cut first second) where
    into : IsCutInto visit.boxes number cut first second
    into = subst (IsNodeAt visit.boxes number) is_inner (visit.boxes_are.each number visit.there)

    pub visit_divided : Divides part cut
    visit_divided = Divides-from_proper part cut (subst (λ box. IsProper box cut) (sym visit.part_is) into.proper)

    first_visit : IsVisit nodes constraints chosen first (first_part part cut)
    first_visit = record {
      whole = visit.whole;
      boxes = visit.boxes;
      boxes_are = visit.boxes_are;
      done = visit.done;
      there = omega (arith, into.first_there, visit.boxes_are.long);
      part_is = rw visit.part_is (sym into.first_is);
      comparable = first_comparable constraints chosen part (first_part part cut) cut visit.comparable visit_divided refl;
    }

    second_visit : IsVisit nodes constraints chosen second (second_part part cut)
    second_visit = record {
      whole = visit.whole;
      boxes = visit.boxes;
      boxes_are = visit.boxes_are;
      done = visit.done;
      there = omega (arith, into.second_there, visit.boxes_are.long);
      part_is = rw visit.part_is (sym into.second_is);
      comparable = second_comparable constraints chosen part (second_part part cut) cut visit.comparable visit_divided refl;
    }

    walked-inner : (before middle after : Growth) → HasWalked nodes constraints chosen first (first_part part cut) (with_place before) middle →
        HasWalked nodes constraints chosen second (second_part part cut) (with_inner middle (length before.nodes) cut) after → HasWalked nodes constraints chosen number part before after
    unfolding grown-inner
    walked-inner before middle after one other = record {
      grown = grown-inner constraints chosen part cut before middle after visit.comparable.filled visit_divided one.grown other.grown;
      same = (first, second, is_inner, one.same, other.same);
    }

    module _ (known of_parts : Known) (says : IsKnown constraints part of_parts) (tasks : List Task) (before : Growth) where
      abbrev with_second : List Task
      with_second = tasks ++ Visit (turn_of second (second_part part cut) of_parts) ∷ []

      abbrev with_close : List Task
      with_close = with_second ++ Close (length before.nodes) cut ∷ []

      abbrev with_first : List Task
      with_first = with_close ++ Visit (turn_of first (first_part part cut) of_parts) ∷ []

      opened_tasks : All (IsTask nodes constraints chosen (length before.nodes)) tasks → All (IsTask nodes constraints chosen (length (with_place before).nodes)) with_first
      opened_tasks each =
          let grown = length (with_place before).nodes in
          let more : grown ≡ length before.nodes + 1 = length-append before.nodes (forms.Leaf Barren ∷ []) in
          one_more grown with_close (Visit (turn_of first (first_part part cut) of_parts))
          (one_more grown with_second (Close (length before.nodes) cut)
          (one_more grown tasks (Visit (turn_of second (second_part part cut) of_parts)) (later_tasks (length before.nodes) grown tasks (omega (arith, more)) each) (second_visit, known_second constraints part of_parts cut visit_divided says)) (omega (arith, more)))
          (first_visit, known_first constraints part of_parts cut visit_divided says)

      opened_leads : (end : Growth) → Leads nodes constraints chosen with_first (with_place before) end → Leads nodes constraints chosen (tasks ++ Visit (turn_of number part known) ∷ []) before end
      opened_leads end leads =
          let one = leads_pop with_close (Visit (turn_of first (first_part part cut) of_parts)) (with_place before) end leads in
          let closed = leads_pop with_second (Close (length before.nodes) cut) one.0 end one.2 in
          let other = leads_pop tasks (Visit (turn_of second (second_part part cut) of_parts)) closed.0 end closed.2 in
          let start : HasWalked nodes constraints chosen second (second_part part cut) (with_inner one.0 (length before.nodes) cut) other.0 =
          subst (λ growth. HasWalked nodes constraints chosen second (second_part part cut) growth other.0) closed.1 other.1 in
          leads_push tasks (Visit (turn_of number part known)) before other.0 end (walked-inner before one.0 other.0 one.1 start) other.2

      opened_less : efforts with_first < efforts (tasks ++ Visit (turn_of number part known) ∷ [])
      opened_less =
          let less = parts_less (room (first_part part cut)) (room (second_part part cut)) (room part) (first_smaller part cut visit_divided (first_part part cut) refl) (second_smaller part cut visit_divided (second_part part cut) refl) in
          omega (
            arith,
            less,
            sum_by_push effort tasks (Visit (turn_of number part known)),
            sum_by_push effort with_close (Visit (turn_of first (first_part part cut) of_parts)),
            sum_by_push effort with_second (Close (length before.nodes) cut),
            sum_by_push effort tasks (Visit (turn_of second (second_part part cut) of_parts)),
          )

    pub opened-step : (known of_parts : Known) → IsKnown constraints part of_parts → (before after : Walk) → IsOpened cut part of_parts first second before after → IsStep nodes constraints chosen (Visit (turn_of number part known)) before after
    opened-step known of_parts says before after opened = record {
      tasks = λ each. rw (opened.growth, opened.tasks) (opened_tasks known of_parts says before.tasks.items before.growth each);
      leads = λ end leads. opened_leads known of_parts says before.tasks.items before.growth end (rw (opened.growth, opened.tasks) at leads);
      less = rw opened.tasks (opened_less known of_parts says before.tasks.items before.growth);
    }

  -- ---- the whole walk

  pub start-under_way : (whole : Region) (known : Known) (grown : List CutNode) (leaves : List Leaf) (tasks : Vec Task) → IsVisit nodes constraints chosen 0 whole → IsKnown constraints whole known → grown ≡ [] → leaves ≡ [] → tasks.items ≡ Visit (turn_of 0 whole known) ∷ [] →
      IsUnderWay nodes constraints chosen whole (record { growth = record { nodes = grown; leaves = leaves }; tasks = tasks })
  start-under_way whole known grown leaves tasks visit says no_nodes no_leaves one_task = record {
    tasks = rw one_task (All-cons (IsTask nodes constraints chosen (length grown)) (Visit (turn_of 0 whole known)) [] (visit, says) (All-nil (IsTask nodes constraints chosen (length grown))));
    leads = λ end leads. let last = leads_pop [] (Visit (turn_of 0 whole known)) nothing end (rw (no_nodes, no_leaves, one_task) at leads) in subst (HasWalked nodes constraints chosen 0 whole nothing) last.2 last.1;
  }

  pub step-under_way : (whole : Region) (walk : Walk) (tasks : List Task) (task : Task) (before after : Walk) → IsUnderWay nodes constraints chosen whole walk →
      walk.tasks.items ≡ tasks ++ task ∷ [] → before.growth ≡ walk.growth → before.tasks.items ≡ tasks → IsStep nodes constraints chosen task before after → IsUnderWay nodes constraints chosen whole after
  step-under_way whole walk tasks task before after way popped same_growth same_tasks step = record {
    tasks = step.tasks (rw (same_growth, same_tasks) (fewer (rw popped at way.tasks)));
    leads = λ end leads. way.leads end (rw popped (rw (same_growth, same_tasks) at (step.leads end leads)));
  }
    where
      fewer : All (IsTask nodes constraints chosen (length walk.growth.nodes)) (tasks ++ task ∷ []) → All (IsTask nodes constraints chosen (length walk.growth.nodes)) tasks
      fewer each = λ k d inside.
          let same : get_or (tasks ++ task ∷ []) k d ≡ get_or tasks k d = get_or_append_left tasks (task ∷ []) d k inside in
          subst (IsTask nodes constraints chosen (length walk.growth.nodes)) same (each k d (omega (arith, inside, length-append tasks (task ∷ []))))

  pub last_task : (whole : Region) (walk : Walk) (tasks : List Task) (task : Task) → IsUnderWay nodes constraints chosen whole walk → walk.tasks.items ≡ tasks ++ task ∷ [] →
      IsTask nodes constraints chosen (length walk.growth.nodes) task
  last_task whole walk tasks task way popped =
      let each : All (IsTask nodes constraints chosen (length walk.growth.nodes)) (tasks ++ task ∷ []) = rw popped at way.tasks in
      subst (IsTask nodes constraints chosen (length walk.growth.nodes)) (get_or-append_seam tasks task [] task) (each (length tasks) task (omega (arith, length-append tasks (task ∷ []))))

  pub ended : (whole : Region) (walk : Walk) → IsUnderWay nodes constraints chosen whole walk → walk.tasks.items ≡ [] → HasWalked nodes constraints chosen 0 whole nothing walk.growth
  ended whole walk way none = way.leads walk.growth (rw none refl)

-- the root of a tree
pub root-visit : (schema : Schema) (nodes : List CutNode) (constraints : List Constraint) (chosen : Area) (whole : Region) → IsWellFormed schema → All (IsServable schema) constraints → IsAreaOf schema chosen →
    IsTree schema nodes → IsDividedFor schema constraints chosen nodes → whole ≡ whole_region schema → IsVisit nodes constraints chosen 0 whole
root-visit schema nodes constraints chosen whole formed servable side tree divided e = record {
  whole = whole_region schema;
  boxes = tree.0;
  boxes_are = tree.1;
  done = divided tree.0 tree.1;
  there = tree.1.some;
  part_is = e ∙ sym tree.1.root;
  comparable = whole_comparable schema constraints chosen whole formed servable side e;
}
