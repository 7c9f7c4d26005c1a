-- The nodes that the tests speak of.
use Rattle.std.specs.Prelude.{List}
use Rattle.pc_frontier.specs.declared.node.Node.{Node}
use Rattle.pc_frontier.specs.Frontier.{none_yet, with_root, with_split}

-- a root split at 0 of cell 0, and its second child at 0 of cell 1
abbrev pub two_splits : List Node
two_splits = (with_split 2 1 0 (with_split 0 0 0 (with_root (none_yet 5)))).nodes
