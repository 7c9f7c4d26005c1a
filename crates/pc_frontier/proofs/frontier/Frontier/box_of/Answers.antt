use Rattle.std.proofs.Common.{◌≡◌, List, sym, ap, ◌∙◌, subst}
use Rattle.pc_frontier.specs.declared.node.Node.{Node}
use Rattle.pc_frontier.specs.Frontier.{Seen}
use Rattle.pc_frontier.specs.Boxes.{AreFitting}
use Rattle.pc_frontier.proofs.frontier.Frontier.box_of.Goals as goal

pub narrow-requires-clause-fits : goal.narrow-requires-clause-fits
narrow-requires-clause-fits c =
    let same : c.as_slice.result.now ≡ c.args.self.now.nodes = c.as_slice.ensures.value ∙ ap (λ (f : Seen). f.nodes) c.self.view_is in
    subst (λ (nodes : List Node). AreFitting nodes (record { floors = c.args.floor.now; caps = c.args.cap.now })) (sym same) c.requires.fits
