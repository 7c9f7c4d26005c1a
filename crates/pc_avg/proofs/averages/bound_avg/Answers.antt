use Rattle.std.proofs.Common.{ℕ, List, ◌∙◌, sym, subst, ap}
use Rattle.std.proofs.lemmas.Result.{IfOk-weaker}
use Rattle.pc_agg.specs.Owed.{OwesSettled, Owes}
use Rattle.pc_proof.specs.declared.answer.Answer.{Answer}
use Rattle.pc_agg_search.specs.Asked.{setting_for}
use Rattle.pc_agg_search.proofs.Posing.{asked}
use Rattle.pc_avg.proofs.BothEnds.{owes_both_ends, short_ends}
use Rattle.pc_avg.proofs.OwesAverages.{owes_endless}
use Rattle.pc_avg.proofs.averages.bound_avg.Goals as goal

pub returns-then-not-has_ends-clause-owes : goal.returns-then-not-has_ends-clause-owes
returns-then-not-has_ends-clause-owes c =
    IfOk-weaker c.without_ends.result _ _
    (λ answer is asking.
    subst (λ (a : Answer). Owes (setting_for c.args.schema.now c.args.constraints.now c.args.query.now c.args.seen.now c.args.cells.now.tree.nodes asking) c.args.nodes a) (sym is)
    (owes_endless c.args.schema.now c.args.constraints.now c.args.query.now c.args.seen.now c.args.cells.now.tree.nodes c.requires.asked.formed c.requires.asked.limited c.requires.asked.found.tree
    c.args.nodes asking c.requires.average c.args.settled.now.relation c.args.settled.now.lack c.args.settled.now.found (c.requires.settled asking) (sym c.has_ends.ensures ∙ c.if-not-has_ends.true))) c.without_ends.ensures

pub search_end-requires-clause-posed : goal.search_end-requires-clause-posed
search_end-requires-clause-posed c = (asked _ c.args.seen.now c.requires.asked).posed

pub search_end-requires-2-clause-posed : goal.search_end-requires-2-clause-posed
search_end-requires-2-clause-posed c = (asked _ c.args.seen.now c.requires.asked).posed

pub returns-clause-owes : goal.returns-clause-owes
returns-clause-owes c = λ asking.
    let s = setting_for c.args.schema.now c.args.constraints.now c.args.query.now c.args.seen.now c.args.cells.now.tree.nodes asking in
    owes_both_ends c.args.schema.now c.args.constraints.now c.args.query.now c.args.seen.now c.args.cells.now.tree.nodes c.requires.asked.formed c.requires.asked.limited c.requires.asked.found.tree
    c.args.nodes asking c.requires.average c.args.settled.now.relation c.args.settled.now.lack c.as_slice-found.result.now
    (subst (λ (found : List (List ℕ)). OwesSettled s c.args.nodes c.args.settled.now.relation c.args.settled.now.lack found) (sym c.as_slice-found.ensures) (c.requires.settled asking))
    (sym c.has_ends.ensures ∙ c.if-not-has_ends.false)
    c.in_ok-answer.answer c.in_ok-low.low c.in_ok-high.high c.both.result c.in_ok-answer.ensures c.both.ensures c.in_ok-low.ensures.end c.in_ok-high.ensures.end c.in_ok-low.ensures.nested c.in_ok-high.ensures.nested

pub returns-clause-short : goal.returns-clause-short
returns-clause-short c =
    short_ends _ c.args.seen.now c.args.nodes c.as_slice-found.result.now c.in_ok-low.low c.in_ok-high.high c.both.result c.both.ensures c.in_ok-low.ensures.end c.in_ok-high.ensures.end

pub returns-then-not-has_ends-clause-kept : goal.returns-then-not-has_ends-clause-kept
returns-then-not-has_ends-clause-kept c =
    IfOk-weaker c.without_ends.result _ _ (λ answer is. (ap (λ (a : Answer). a.relation) is, ap (λ (a : Answer). a.lack) is)) c.without_ends.ensures

pub returns-clause-kept : goal.returns-clause-kept
returns-clause-kept c = (ap (λ (a : Answer). a.relation) c.in_ok-answer.ensures, ap (λ (a : Answer). a.lack) c.in_ok-answer.ensures)
