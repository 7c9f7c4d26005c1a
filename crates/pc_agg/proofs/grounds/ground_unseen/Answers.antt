use Rattle.std.proofs.Common.{false, [], All, refl, sym, subst}
use Rattle.std.proofs.lemmas.List.{append-nil}
use Rattle.std.proofs.lemmas.Result.{IfOk-weaker}
use Rattle.pc_proof.specs.Setting.{on_chosen}
use Rattle.pc_proof.specs.Table.{minus_one}
use Rattle.pc_agg_search.specs.declared.want.Want.TheVariants as wants
use Rattle.pc_agg.specs.Grounds.{AreAlways, IsLacking, IsLackingSurely}
use Rattle.pc_agg_search.specs.Problem.{setting_of}
use Rattle.pc_agg_search.specs.Wants.{IsMet, IsProbed, IsSure}
use Rattle.pc_agg.proofs.Grounding.{kept_on, probed_empty, probed_lawful, probed_some, probed_sure, fewest_short, fewest_open, some_chosen, none_chosen}
use Rattle.pc_agg.proofs.Lawful.{lawful_met}
use Rattle.pc_agg.proofs.grounds.ground_unseen.Goals as goal
use Rattle.pc_agg.proofs.grounds.ground_unseen.Goals.{in-Short, in-Open}

pub returns-then-not-has_chosen-clause-grounded : goal.returns-then-not-has_chosen-clause-grounded
returns-then-not-has_chosen-clause-grounded c =
    let u = setting_of c.args.problem.now in
    subst (λ tree. AreAlways u false c.args.problem.now.nodes tree c.args.found) (sym c.in_ok-tree.ensures)
    (none_chosen c.args.problem.now c.requires.posed c.args.problem.now.nodes c.args.found c.requires.posed.nodes.0
    (c.if-not-has_chosen.ensures.none refl) c.requires.lawful c.requires.totals)

pub probe_once-requires-clause-met : goal.probe_once-requires-clause-met
probe_once-requires-clause-met c =
    subst (λ p. All (IsMet p) c.args.found) (sym c.in_ok-fewest.ensures.program)
    (lawful_met (setting_of c.args.problem.now) (on_chosen minus_one) c.args.found c.requires.lawful)

pub returns-in-Empty-clause-grounded : goal.returns-in-Empty-clause-grounded
returns-in-Empty-clause-grounded c =
    let u = setting_of c.args.problem.now in
    let probed = subst (λ p. IsProbed p wants.Without c.args.problem.now.nodes c.args.found c.in_ok-verdict.field-0) c.in_ok-fewest.ensures.program c.in_ok-verdict.ensures.probed in
    let void = probed_empty u (on_chosen minus_one) wants.Without c.args.problem.now.nodes c.args.found c.in_ok-verdict.field-0 probed c.in-Empty.tree c.in-Empty.is in
    (void.shows, void.small)

pub ground_most-requires-clause-some : goal.ground_most-requires-clause-some
ground_most-requires-clause-some c =
    some_chosen c.args.problem.now c.requires.posed (c.if-not-has_chosen.ensures.some refl)

pub ground_most-requires-clause-lawful : goal.ground_most-requires-clause-lawful
ground_most-requires-clause-lawful c =
    let u = setting_of c.args.problem.now in
    let probed = subst (λ p. IsProbed p wants.Without c.args.problem.now.nodes c.args.found c.in_ok-verdict.field-0) c.in_ok-fewest.ensures.program c.in_ok-verdict.ensures.probed in
    probed_lawful u (on_chosen minus_one) wants.Without c.args.problem.now.nodes c.args.found c.in_ok-verdict.field-0 probed c.requires.lawful

pub ground_most-requires-clause-lacking : goal.ground_most-requires-clause-lacking
ground_most-requires-clause-lacking c =
    let u = setting_of c.args.problem.now in
    let probed = subst (λ p. IsProbed p wants.Without c.args.problem.now.nodes c.args.found c.in_ok-verdict.field-0) c.in_ok-fewest.ensures.program c.in_ok-verdict.ensures.probed in
    elim c.match-verdict.branch [
      | in-Short w ↦
          subst (IsLacking u false c.args.problem.now.nodes c.in_ok-verdict.field-0.found) (sym w.lacking-is)
          (fewest_short u c.args.problem.now.nodes c.args.found c.in_ok-verdict.field-0 probed w.in-Short.tree w.in-Short.is)
      | in-Open w ↦
          subst (IsLacking u false c.args.problem.now.nodes c.in_ok-verdict.field-0.found) (sym w.lacking-is)
          (fewest_open u c.args.problem.now.nodes c.args.found c.in_ok-verdict.field-0 probed w.in-Open.is)
    ]

pub returns-clause-nested : goal.returns-clause-nested
returns-clause-nested c = λ nested some.
    let u = setting_of c.args.problem.now in
    let probed = subst (λ p. IsProbed p wants.Without c.args.problem.now.nodes c.args.found c.in_ok-verdict.field-0) c.in_ok-fewest.ensures.program c.in_ok-verdict.ensures.probed in
    let sure = subst (λ p. IsSure p wants.Without c.in_ok-verdict.field-0) c.in_ok-fewest.ensures.program (c.in_ok-verdict.ensures.nested (c.in_ok-fewest.ensures.nested nested)) in
    c.ground_most.ensures.nested nested (probed_some u (on_chosen minus_one) wants.Without c.args.problem.now.nodes c.args.found c.in_ok-verdict.field-0 probed some)
    (elim c.match-verdict.branch [
      | in-Short w ↦ subst (IsLackingSurely u c.in_ok-verdict.field-0.found) (sym w.lacking-is) tt
      | in-Open w ↦
          subst (IsLackingSurely u c.in_ok-verdict.field-0.found) (sym w.lacking-is)
          (probed_sure u (on_chosen minus_one) wants.Without c.args.problem.now.nodes c.args.found c.in_ok-verdict.field-0 probed w.in-Open.is sure)
    ])

pub returns-then-not-has_chosen-clause-kept : goal.returns-then-not-has_chosen-clause-kept
returns-then-not-has_chosen-clause-kept c = ([], sym (append-nil c.args.found))

pub returns-clause-kept : goal.returns-clause-kept
returns-clause-kept c =
    let probed = c.in_ok-verdict.ensures.probed in
    IfOk-weaker c.ground_most.result _ _ (kept_on c.args.found c.in_ok-verdict.field-0.found probed.more probed.grown) c.ground_most.ensures.kept
