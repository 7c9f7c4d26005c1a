use Rattle.std.proofs.Common.{sym, ◌∙◌, arith}
use Rattle.pc_frontier.proofs.Joined.{joined_first, joined_cell, joined_cap, joined_small, joined_more, joined_floors, joined_caps}
use Rattle.pc_frontier.proofs.boxes.narrow.Goals as goal

pub loop-split-init : goal.loop-split-init
loop-split-init c = joined_first _ _ c.requires.ordered c.requires.fits _ c.requires.there (λ i. omega (arith, c.type_inv.cap i))

pub raise-requires-clause-cell : goal.raise-requires-clause-cell
raise-requires-clause-cell c = joined_cell _ _ c.requires.ordered c.requires.fits _ _ _ _ c.loop-split.invariant _ (sym c.born.ensures ∙ c.in-Some.is)

pub raise-requires-clause-small : goal.raise-requires-clause-small
raise-requires-clause-small c = joined_small _ _ c.requires.ordered c.requires.fits _ _ _ _ c.loop-split.invariant _ (sym c.born.ensures ∙ c.in-Some.is)

pub sink-requires : goal.sink-requires
sink-requires c = joined_cap _ _ c.requires.ordered c.requires.fits _ _ _ _ c.loop-split.invariant _ (sym c.born.ensures ∙ c.in-Some.is)

pub loop-split-smaller : goal.loop-split-smaller
loop-split-smaller c = c.requires.ordered _ _ (sym c.born.ensures ∙ c.in-Some.is)

pub loop-split-preserved : goal.loop-split-preserved
loop-split-preserved c =
    rw (c.raise.ensures, c.sink.ensures)
    (joined_more _ _ c.requires.ordered c.requires.fits _ _ _ _ c.loop-split.invariant _ (sym c.born.ensures ∙ c.in-Some.is))

pub returns-clause-floor : goal.returns-clause-floor
returns-clause-floor c = joined_floors _ _ c.requires.ordered c.requires.fits _ _ _ _ c.loop-split.invariant (sym c.born.ensures ∙ c.in_default.is)

pub returns-clause-cap : goal.returns-clause-cap
returns-clause-cap c = joined_caps _ _ c.requires.ordered c.requires.fits _ _ _ _ c.loop-split.invariant (sym c.born.ensures ∙ c.in_default.is)
