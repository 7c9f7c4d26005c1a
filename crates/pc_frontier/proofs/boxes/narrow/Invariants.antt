use Rattle.pc_frontier.specs.Boxes.{box_at}
use Rattle.pc_frontier.proofs.Joined.{IsJoined}
use Rattle.pc_frontier.proofs.boxes.narrow.Given as goal

-- what was narrowed so far, joined with the box of the place still to do, is the box of the node
abbrev pub invariant-loop-split : goal.invariant-loop-split
invariant-loop-split l =
    IsJoined l.nodes (record { floors = l.fn.floor; caps = l.fn.cap })
    (box_at l.nodes (record { floors = l.fn.floor; caps = l.fn.cap }) l.node) l.floor l.cap l.place

abbrev pub decreases-loop-split : goal.decreases-loop-split
decreases-loop-split l = l.place
