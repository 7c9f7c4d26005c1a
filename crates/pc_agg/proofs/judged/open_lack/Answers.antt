use Rattle.std.proofs.Common.{All, [], inr, sym, ap, subst, ◌∙◌}
use Rattle.std.proofs.lemmas.List.{get_or_read}
use Rattle.pc_model.specs.Runs.{runs_from}
use Rattle.pc_proof.specs.Setting.{on_chosen, program_for}
use Rattle.pc_proof.specs.Table.{one, minus_one}
use Rattle.pc_agg_search.specs.declared.want.Want.TheVariants as wants
use Rattle.pc_agg_search.specs.Problem.{setting_of}
use Rattle.pc_agg_search.specs.Wants.{IsFound, IsMet}
use Rattle.pc_agg.proofs.Lawful.{first_listed, lawful_met, some_listed}
use Rattle.pc_agg.proofs.judged.open_lack.Goals as goal

pub place_in-requires-clause-met : goal.place_in-requires-clause-met
place_in-requires-clause-met c =
    subst (λ p. All (IsMet p) c.args.found.now) (sym c.in_ok-fewest.ensures.program)
    (lawful_met (setting_of c.args.problem.now) (on_chosen minus_one) c.args.found.now c.requires.lawful)

pub place_in-requires-2-clause-met : goal.place_in-requires-2-clause-met
place_in-requires-2-clause-met c =
    subst (λ p. All (IsMet p) c.args.found.now) (sym c.in_ok-most.ensures.program)
    (lawful_met (setting_of c.args.problem.now) (on_chosen one) c.args.found.now c.requires.lawful)

pub returns-in_default-place_in : goal.returns-in_default-place_in
returns-in_default-place_in c = inr (subst (λ p. All (λ counts. IsFound p wants.Gaining counts → ⊥) c.args.found.now) c.in_ok-most.ensures.program c.in_default-place_in.ensures)

pub returns : goal.returns
returns c =
    let u = setting_of c.args.problem.now in
    let found = c.args.found.now in
    let picks = c.args.picks.now in
    let fewest_is = c.in_ok-fewest.ensures.program in
    let most_is = c.in_ok-most.ensures.program in
    let without = c.in-Some.without in
    let given = c.in-Some-place_in.with in
    let without_is = (rw c.as_slice.ensures at c.in_ok-without.ensures) ∙ ap (runs_from picks) (get_or_read found without c.index-found-without.result c.in-Some.ensures.0 c.index-found-without.is []) in
    let given_is = (rw c.as_slice-2.ensures at c.in_ok-with.ensures) ∙ ap (runs_from picks) (get_or_read found given c.index-found-with.result c.in-Some-place_in.ensures.0 c.index-found-with.is []) in
    let fewest = program_for u (on_chosen minus_one) in
    let most = program_for u (on_chosen one) in (
      some_listed c.in_ok-fewest.fewest fewest wants.Without picks found without c.in_ok-without.without fewest_is c.in-Some.ensures without_is,
      some_listed c.in_ok-most.most most wants.Gaining picks found given c.in_ok-with.with most_is c.in-Some-place_in.ensures given_is,
      first_listed c.in_ok-fewest.fewest fewest wants.Without picks found without c.in_ok-without.without fewest_is c.in-Some.ensures without_is,
      first_listed c.in_ok-most.most most wants.Gaining picks found given c.in_ok-with.with most_is c.in-Some-place_in.ensures given_is,
    )
