use Rattle.std.proofs.Common.{get_or, subst, false, true}
use Rattle.pc_cells_tree.specs.Standings.{IsStanding}
use Rattle.pc_cells_tree.proofs.Knowing.{known_with}
use Rattle.pc_cells_tree.proofs.Decisions.{some_of, bit-inside, found-open, found-none_of, found-inside, found-broken, found-across_values}
use Rattle.pc_cells_tree.proofs.decision.found_from.Goals as goal

pub returns-in-OfNone-clause-finding : goal.returns-in-OfNone-clause-finding
returns-in-OfNone-clause-finding c =
    rw c.with_bit.ensures
    (found-none_of c.args.part.now c.args.constraints.now c.args.place (some_of c.args.constraints.now c.args.place c.requires.there) c.requires.there c.args.standing c.requires.stands
    c.args.later.finding c.requires.alike c.in-OfNone.is c.requires.later)

pub returns-in-Open-clause-finding : goal.returns-in-Open-clause-finding
returns-in-Open-clause-finding c =
    found-open c.args.part.now c.args.constraints.now c.args.place c.requires.there c.args.standing c.in-Open.crossing c.args.later.finding c.with_crossing.result c.requires.alike c.requires.stands c.in-Open.is
    c.with_crossing.ensures c.requires.later

pub returns-in-Apart-clause-finding : goal.returns-in-Apart-clause-finding
returns-in-Apart-clause-finding c =
    found-broken c.args.part.now c.args.constraints.now c.args.place c.index-constraints-place.result c.requires.there c.args.standing c.requires.stands c.compare.result c.compare.ensures
    c.in-OfAll.is c.in-Apart.is

pub returns-in-Across-clause-finding : goal.returns-in-Across-clause-finding
returns-in-Across-clause-finding c =
    found-across_values c.args.part.now c.args.constraints.now c.args.place c.index-constraints-place.result c.requires.there c.args.standing c.requires.stands c.compare.result c.compare.ensures
    c.in-Across.faces c.args.later.finding c.with_crossing-in-Across.result c.requires.alike c.in-OfAll.is c.in-Across.is c.with_crossing-in-Across.ensures c.requires.later

pub returns-in-Inside-clause-finding : goal.returns-in-Inside-clause-finding
returns-in-Inside-clause-finding c =
    rw c.with_bit-in-Inside.ensures
    (found-inside c.args.part.now c.args.constraints.now c.args.place c.index-constraints-place.result c.requires.there c.args.standing c.requires.stands c.compare.result c.compare.ensures
    c.args.later.finding c.requires.alike c.in-OfAll.is c.in-Inside.is c.requires.later)

pub returns-in-OfNone-clause-known : goal.returns-in-OfNone-clause-known
returns-in-OfNone-clause-known c =
    known_with c.args.constraints.now c.args.part.now c.args.later.known c.with.result c.args.place false c.with.ensures
    (λ d. subst (IsStanding c.args.constraints.now c.args.part.now (get_or c.args.constraints.now c.args.place d)) c.in-OfNone.is (c.requires.stands d)) c.requires.known

pub returns-in-Inside-clause-known : goal.returns-in-Inside-clause-known
returns-in-Inside-clause-known c =
    known_with c.args.constraints.now c.args.part.now c.args.later.known c.with-in-Inside.result c.args.place true c.with-in-Inside.ensures
    (bit-inside c.args.part.now c.args.constraints.now c.args.place c.index-constraints-place.result c.requires.there c.args.standing c.requires.stands c.compare.result c.compare.ensures c.in-OfAll.is c.in-Inside.is)
    c.requires.known
