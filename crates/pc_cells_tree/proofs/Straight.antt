-- A tree that is grown straight away: where its jobs lead, and that each step leaves less to do.
use Rattle.std.proofs.Common.{◌≡◌, ℕ, ◌+◌, ◌*◌, ◌<◌, ◌≤◌, List, [], ◌∷◌, ◌++◌, length, get_or, All, refl, sym, ◌∙◌, ap, subst, arith}
use Rattle.std.specs.Global.{Vec}
use Rattle.std.proofs.lemmas.List.{length-append, length-set, get_or_append_left}
use Rattle.std.proofs.lemmas.List.Elements.{All-nil, All-cons, All-append}
use Rattle.std.proofs.lemmas.List.Sums.{sum_by_push}
use Rattle.std.proofs.Math.Seq.{get_or-append_seam}
use Rattle.pc_model.specs.declared.region.Region.{Region}
use Rattle.pc_model.specs.declared.area.Area.{Area}
use Rattle.pc_model.specs.declared.constraint.Constraint.{Constraint}
use Rattle.pc_model.specs.declared.tree.Cut.{Cut}
use Rattle.pc_model.specs.declared.tree.LeafMark.{LeafMark}
use Rattle.pc_model.specs.declared.tree.LeafMark.TheVariants.{Barren}
use Rattle.pc_model.specs.declared.tree.Leaf.{Leaf}
use Rattle.pc_model.specs.declared.tree.CutNode.{CutNode}
use Rattle.pc_model.specs.declared.tree.CutNode.TheVariants as forms
use Rattle.pc_model.specs.CutTrees.{first_part, second_part}
use Rattle.pc_model.specs.Cells.{IsSettledAs}
use Rattle.pc_cells_tree.specs.declared.growth.Growth.{Growth}
use Rattle.pc_cells_tree.specs.declared.known.Known.{Known}
use Rattle.pc_cells_tree.specs.declared.grow.Job.{Job}
use Rattle.pc_cells_tree.specs.declared.grow.Job.TheVariants.{Grow, Close}
use Rattle.pc_cells_tree.specs.declared.grow.Work.{Work}
use Rattle.pc_cells_tree.specs.Decisions.{IsComparable, IsNeeded}
use Rattle.pc_cells_tree.specs.Growing.{with_leaf, with_place, with_inner}
use Rattle.pc_cells_tree.specs.Knowing.{IsKnown}
use Rattle.pc_cells_tree.specs.Rooms.{room}
use Rattle.pc_cells_tree.specs.Straight.{Does, Leads, IsJob, effort, efforts, IsDoing, IsOpened, IsThriving, HasSprouted}
use Rattle.pc_cells_tree.specs.Walking.{nothing}
use Rattle.pc_cells_tree.proofs.Grown.{first_comparable, second_comparable, grown-leaf, grown-inner}
use Rattle.pc_cells_tree.proofs.Knowing.{known_first, known_second}
use Rattle.pc_cells_tree.proofs.Rooms.{first_smaller, second_smaller}
use Rattle.pc_cells_tree.proofs.Walked.{some_effort, parts_less}

some_job : (job : Job) → 0 < effort job
some_job (Grow part known) = some_effort (2 * room part)
some_job (Close place cut) = omega arith

module _ (constraints : List Constraint) (chosen : Area) where
  -- ---- the last job is done first

  leads_push : (jobs : List Job) (job : Job) (before middle end : Growth) → Does constraints chosen job before middle → Leads constraints chosen jobs middle end →
      Leads constraints chosen (jobs ++ job ∷ []) before end
  leads_push [] job before middle end does leads = (before, refl, subst (Does constraints chosen job before) leads does)
  leads_push (other ∷ jobs) job before middle end does leads = (leads.0, leads_push jobs job before middle leads.0 does leads.1, leads.2)

  leads_pop : (jobs : List Job) (job : Job) (before end : Growth) → Leads constraints chosen (jobs ++ job ∷ []) before end →
      (middle : Growth) × Does constraints chosen job before middle × Leads constraints chosen jobs middle end
  leads_pop [] job before end leads = (end, subst (λ start. Does constraints chosen job start end) (sym leads.1) leads.2, refl)
  leads_pop (other ∷ jobs) job before end leads =
      let last = leads_pop jobs job before leads.0 leads.1 in
      (last.0, last.1, (leads.0, last.2, leads.2))

  -- ---- the jobs that are left

  later_job : (grown more : ℕ) (job : Job) → grown ≤ more → IsJob constraints chosen grown job → IsJob constraints chosen more job
  later_job grown more (Grow part known) longer is = is
  later_job grown more (Close place cut) longer there = omega (arith, longer, there)

  later_jobs : (grown more : ℕ) (jobs : List Job) → grown ≤ more → All (IsJob constraints chosen grown) jobs → All (IsJob constraints chosen more) jobs
  later_jobs grown more jobs longer each = λ k d inside. later_job grown more (get_or jobs k d) longer (each k d inside)

  one_more : (grown : ℕ) (jobs : List Job) (job : Job) → All (IsJob constraints chosen grown) jobs → IsJob constraints chosen grown job → All (IsJob constraints chosen grown) (jobs ++ job ∷ [])
  one_more grown jobs job each one = All-append (IsJob constraints chosen grown) jobs (job ∷ []) each (All-cons (IsJob constraints chosen grown) job [] one (All-nil (IsJob constraints chosen grown)))

  -- a job that is done, with no other in its place
  done-job : (work : Work) (job : Job) (growth : Growth) → length work.growth.nodes ≤ length growth.nodes → Does constraints chosen job work.growth growth →
      IsDoing constraints chosen job work (record { growth = growth; jobs = work.jobs })
  done-job work job growth longer does = record {
    jobs = later_jobs (length work.growth.nodes) (length growth.nodes) work.jobs.items longer;
    leads = λ end leads. leads_push work.jobs.items job work.growth growth end does leads;
    less = rw (sum_by_push effort work.jobs.items job) (omega (arith, some_job job));
  }

  -- a cut is set into its place
  pub closed-job : (work : Work) (job : Job) (place : ℕ) (cut : Cut) (growth : Growth) → job ≡ Close place cut → growth ≡ with_inner work.growth place cut →
      IsDoing constraints chosen job work (record { growth = growth; jobs = work.jobs })
  closed-job work job place cut growth is e =
      let same : length growth.nodes ≡ length work.growth.nodes = ap (λ (g : Growth). length g.nodes) e ∙ length-set work.growth.nodes place (forms.Inner cut (place + 1) (length work.growth.nodes)) in
      subst (λ j. IsDoing constraints chosen j work (record { growth = growth; jobs = work.jobs })) (sym is) (done-job work (Close place cut) growth (omega (arith, same)) e)

  -- ---- at a leaf

  has_leaf : (part : Region) (before : Growth) (mark : LeafMark) → IsSettledAs constraints chosen part mark → HasSprouted constraints chosen part before (with_leaf before part mark)
  unfolding grown-leaf
  has_leaf part before mark settled = record { grown = grown-leaf constraints chosen part before mark settled; needed = tt }

  pub leaf-job : (work : Work) (part : Region) (known : Known) (mark : LeafMark) (growth : Growth) → IsSettledAs constraints chosen part mark → growth ≡ with_leaf work.growth part mark →
      IsDoing constraints chosen (Grow part known) work (record { growth = growth; jobs = work.jobs })
  leaf-job work part known mark growth settled e =
      let more : length growth.nodes ≡ length work.growth.nodes + 1 = ap (λ (g : Growth). length g.nodes) e ∙ length-append work.growth.nodes (forms.Leaf mark ∷ []) in
      done-job work (Grow part known) growth (omega (arith, more)) (subst (HasSprouted constraints chosen part work.growth) (sym e) (has_leaf part work.growth mark settled))

  -- ---- at a cut

  module _ (part : Region) (known of_parts : Known) (cut : Cut) (fits : IsComparable constraints chosen part) (needs : IsNeeded constraints chosen part cut) (says : IsKnown constraints part of_parts) where
    abbrev first : Job
    first = Grow (first_part part cut) of_parts

    abbrev second : Job
    second = Grow (second_part part cut) of_parts

    is_first : IsComparable constraints chosen (first_part part cut) × IsKnown constraints (first_part part cut) of_parts
    is_first = (first_comparable constraints chosen part (first_part part cut) cut fits needs.divides refl, known_first constraints part of_parts cut needs.divides says)

    is_second : IsComparable constraints chosen (second_part part cut) × IsKnown constraints (second_part part cut) of_parts
    is_second = (second_comparable constraints chosen part (second_part part cut) cut fits needs.divides refl, known_second constraints part of_parts cut needs.divides says)

    has_inner : (before middle after : Growth) → HasSprouted constraints chosen (first_part part cut) (with_place before) middle →
        HasSprouted constraints chosen (second_part part cut) (with_inner middle (length before.nodes) cut) after → HasSprouted constraints chosen part before after
    unfolding grown-inner
    has_inner before middle after one other = record {
      grown = grown-inner constraints chosen part cut before middle after fits.filled needs.divides one.grown other.grown;
      needed = (needs, one.needed, other.needed);
    }

    module _ (jobs : List Job) (before : Growth) where
      abbrev with_second : List Job
      with_second = jobs ++ second ∷ []

      abbrev with_close : List Job
      with_close = with_second ++ Close (length before.nodes) cut ∷ []

      abbrev with_first : List Job
      with_first = with_close ++ first ∷ []

      opened_jobs : All (IsJob constraints chosen (length before.nodes)) jobs → All (IsJob constraints chosen (length (with_place before).nodes)) with_first
      opened_jobs each =
          let grown = length (with_place before).nodes in
          let more : grown ≡ length before.nodes + 1 = length-append before.nodes (forms.Leaf Barren ∷ []) in
          one_more grown with_close first
          (one_more grown with_second (Close (length before.nodes) cut)
          (one_more grown jobs second (later_jobs (length before.nodes) grown jobs (omega (arith, more)) each) is_second) (omega (arith, more))) is_first

      opened_leads : (end : Growth) → Leads constraints chosen with_first (with_place before) end → Leads constraints chosen (jobs ++ Grow part known ∷ []) before end
      opened_leads end leads =
          let one = leads_pop with_close first (with_place before) end leads in
          let closed = leads_pop with_second (Close (length before.nodes) cut) one.0 end one.2 in
          let other = leads_pop jobs second closed.0 end closed.2 in
          let start : HasSprouted constraints chosen (second_part part cut) (with_inner one.0 (length before.nodes) cut) other.0 =
          subst (λ growth. HasSprouted constraints chosen (second_part part cut) growth other.0) closed.1 other.1 in
          leads_push jobs (Grow part known) before other.0 end (has_inner before one.0 other.0 one.1 start) other.2

      opened_less : efforts with_first < efforts (jobs ++ Grow part known ∷ [])
      opened_less =
          let less = parts_less (room (first_part part cut)) (room (second_part part cut)) (room part) (first_smaller part cut needs.divides (first_part part cut) refl) (second_smaller part cut needs.divides (second_part part cut) refl) in
          omega (
            arith,
            less,
            sum_by_push effort jobs (Grow part known),
            sum_by_push effort with_close first,
            sum_by_push effort with_second (Close (length before.nodes) cut),
            sum_by_push effort jobs second,
          )

    pub opened-job : (before after : Work) → IsOpened cut part of_parts before after → IsDoing constraints chosen (Grow part known) before after
    opened-job before after opened = record {
      jobs = λ each. rw (opened.growth, opened.jobs) (opened_jobs before.jobs.items before.growth each);
      leads = λ end leads. opened_leads before.jobs.items before.growth end (rw (opened.growth, opened.jobs) at leads);
      less = rw opened.jobs (opened_less before.jobs.items before.growth);
    }

  -- ---- the whole tree

  pub start-thriving : (whole : Region) (known : Known) (grown : List CutNode) (leaves : List Leaf) (jobs : Vec Job) → IsComparable constraints chosen whole → IsKnown constraints whole known → grown ≡ [] → leaves ≡ [] →
      jobs.items ≡ Grow whole known ∷ [] → IsThriving constraints chosen whole (record { growth = record { nodes = grown; leaves = leaves }; jobs = jobs })
  start-thriving whole known grown leaves jobs fits says no_nodes no_leaves one_job = record {
    jobs = rw one_job (All-cons (IsJob constraints chosen (length grown)) (Grow whole known) [] (fits, says) (All-nil (IsJob constraints chosen (length grown))));
    leads = λ end leads. let last = leads_pop [] (Grow whole known) nothing end (rw (no_nodes, no_leaves, one_job) at leads) in subst (HasSprouted constraints chosen whole nothing) last.2 last.1;
  }

  pub step-thriving : (whole : Region) (work : Work) (jobs : List Job) (job : Job) (before after : Work) → IsThriving constraints chosen whole work →
      work.jobs.items ≡ jobs ++ job ∷ [] → before.growth ≡ work.growth → before.jobs.items ≡ jobs → IsDoing constraints chosen job before after → IsThriving constraints chosen whole after
  step-thriving whole work jobs job before after way popped same_growth same_jobs step = record {
    jobs = step.jobs (rw (same_growth, same_jobs) (fewer (rw popped at way.jobs)));
    leads = λ end leads. way.leads end (rw popped (rw (same_growth, same_jobs) at (step.leads end leads)));
  }
    where
      fewer : All (IsJob constraints chosen (length work.growth.nodes)) (jobs ++ job ∷ []) → All (IsJob constraints chosen (length work.growth.nodes)) jobs
      fewer each = λ k d inside.
          let same : get_or (jobs ++ job ∷ []) k d ≡ get_or jobs k d = get_or_append_left jobs (job ∷ []) d k inside in
          subst (IsJob constraints chosen (length work.growth.nodes)) same (each k d (omega (arith, inside, length-append jobs (job ∷ []))))

  pub last_job : (whole : Region) (work : Work) (jobs : List Job) (job : Job) → IsThriving constraints chosen whole work → work.jobs.items ≡ jobs ++ job ∷ [] →
      IsJob constraints chosen (length work.growth.nodes) job
  last_job whole work jobs job way popped =
      let each : All (IsJob constraints chosen (length work.growth.nodes)) (jobs ++ job ∷ []) = rw popped at way.jobs in
      subst (IsJob constraints chosen (length work.growth.nodes)) (get_or-append_seam jobs job [] job) (each (length jobs) job (omega (arith, length-append jobs (job ∷ []))))

  pub ended : (whole : Region) (work : Work) → IsThriving constraints chosen whole work → work.jobs.items ≡ [] → HasSprouted constraints chosen whole nothing work.growth
  ended whole work way none = way.leads work.growth (rw none refl)
