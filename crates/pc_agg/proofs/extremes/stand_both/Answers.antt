use Rattle.std.proofs.Common.{Any, sym, ap, subst, ◌∙◌}
use Rattle.std.specs.Prelude.{is_some}
use Rattle.pc_agg_search.specs.declared.extreme.Extreme.TheVariants.{Low, High}
use Rattle.pc_agg_search.specs.Wants.{want_for, most_chosen}
use Rattle.pc_agg_search.specs.Problem.{setting_of}
use Rattle.pc_agg_search.specs.Wants.{IsDoubt, IsFound}
use Rattle.pc_agg.proofs.Pairs.{lawful_first, some_first, doubt_first, chosen_first, pair_from, pair_surely}
use Rattle.pc_agg.proofs.SeenNumbers.{key_some}
use Rattle.pc_agg.proofs.extremes.stand_both.Goals as goal

pub search_end-requires-2-clause-lawful : goal.search_end-requires-2-clause-lawful
search_end-requires-2-clause-lawful c =
    lawful_first (setting_of c.args.problem.now) c.args.problem.now.nodes c.args.far c.args.number c.args.found c.in-At.on.stand c.in-At.on.found
    (rw (c.test_at.ensures, c.key_at.ensures) at (rw c.in-At.is at c.in_ok-stood.ensures.stood)) c.requires.lawful

pub search_end-requires-2-clause-doubt : goal.search_end-requires-2-clause-doubt
search_end-requires-2-clause-doubt c =
    let u = setting_of c.args.problem.now in
    subst (λ o. IsDoubt (most_chosen u) (want_for o) c.args.problem.now.nodes c.in-At.on.found) (sym (ap is_some c.key_at-2.ensures ∙ key_some High c.args.number))
    (doubt_first u c.args.problem.now.nodes c.args.far c.args.number c.args.found c.in-At.on.stand c.in-At.on.found (rw (c.test_at.ensures, c.key_at.ensures) at (rw c.in-At.is at c.in_ok-stood.ensures.stood))
    (is_some c.args.number) c.requires.doubt)

pub returns-clause-pair : goal.returns-clause-pair
returns-clause-pair c =
    pair_from (setting_of c.args.problem.now) c.args.problem.now.nodes c.args.far c.args.number c.args.found c.in-At.on.stand c.in-At.on.found
    (rw (c.test_at.ensures, c.key_at.ensures) at (rw c.in-At.is at c.in_ok-stood.ensures.stood)) c.in_ok-stood-2.stood c.pair_at.result
    (rw (c.test_at-2.ensures, c.key_at-2.ensures) at c.in_ok-stood-2.ensures.stood) c.pair_at.ensures

pub returns-clause-nested : goal.returns-clause-nested
returns-clause-nested c nested some found =
    let u = setting_of c.args.problem.now in
    let low_at = (rw (c.test_at.ensures, c.key_at.ensures) at (rw c.in-At.is at c.in_ok-stood.ensures.stood)) in
    let low_some = (rw c.in-At.is at (c.in_ok-stood.ensures.nested nested some
    (subst (λ o. Any (IsFound (most_chosen u) (want_for o)) c.args.found) (sym (ap is_some c.key_at.ensures ∙ key_some Low c.args.number)) found))) in
    let high_some = c.in_ok-stood-2.ensures.nested nested
    (some_first u c.args.problem.now.nodes c.args.far c.args.number c.args.found c.in-At.on.stand c.in-At.on.found low_at some)
    (subst (λ o. Any (IsFound (most_chosen u) (want_for o)) c.in-At.on.found) (sym (ap is_some c.key_at-2.ensures ∙ key_some High c.args.number))
    (chosen_first u c.args.problem.now.nodes c.args.far c.args.number c.args.found c.in-At.on.stand c.in-At.on.found low_at (is_some c.args.number) found)) in
    pair_surely u c.args.problem.now.nodes c.args.far c.args.number c.args.found c.in-At.on.stand c.in-At.on.found low_at c.in_ok-stood-2.stood c.pair_at.result
    (rw (c.test_at-2.ensures, c.key_at-2.ensures) at c.in_ok-stood-2.ensures.stood) c.pair_at.ensures low_some high_some
