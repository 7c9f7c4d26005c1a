-- A search with one node in hand is divided once that node is split.
use Rattle.std.proofs.Common.{◌≡◌, ◌<◌, ◌≤◌, ℕ, ◌+◌, [], ◌∷◌, length, Option, Result, Ok, Err, IfOk, refl, sym, ◌∙◌, arith}
use Rattle.pc_num.specs.declared.memory.Memory.{Memory}
use Rattle.pc_program_bound.specs.declared.program.Program.{Program}
use Rattle.pc_program_bound.specs.Allocation.{IsProgram}
use Rattle.pc_program_bound.specs.Bound.{HasFitWidth}
use Rattle.pc_program_bound.specs.SplitTrees.{less_caps, more_floors}
use Rattle.pc_program_bound.proofs.WalkParts.{less_box, more_box}
use Rattle.pc_frontier.specs.Boxes.{divided}
use Rattle.pc_frontier.proofs.Trees.{splits_divide}
use Rattle.pc_frontier.proofs.Boxed.{trees_boxed}
use Rattle.pc_frontier.proofs.Keeping.{splits_keep_fit}
use Rattle.pc_branch.specs.Licence.{no_multipliers, first_bound}
use Rattle.pc_branch.specs.declared.visited.Visited.{Visited}
use Rattle.pc_branch.specs.declared.visit.Visit.{Visit}
use Rattle.pc_branch.specs.declared.search.Found.{Found}
use Rattle.pc_branch.specs.declared.search.Search.{Search}
use Rattle.pc_branch.specs.declared.search.Hand.{Hand}
use Rattle.pc_branch.specs.Grown.{visited_at, value_of, IsPartedAt}
use Rattle.pc_branch.specs.Searching.{start_of, IsAtMost}
use Rattle.pc_branch.specs.Steps.{budget_of, counts_found, better, IsSearch, IsGoing, IsDivided}
use Rattle.pc_branch.specs.Visits.{box_of, ArePartsVisited, with_parts}
use Rattle.pc_branch.proofs.Parting.{IsPartedPlace, going_parted, range_part, small_part}
use Rattle.pc_branch.proofs.Offers.{IsBetter-then, IsUnder-more, IsConsidered, consider_keeps, offered_by, held_by}
use Rattle.pc_branch.proofs.Growing.{AreSplit, AreVisited, ArePartsOf, are_split, are_visited, grown_divides}
use Rattle.pc_branch.proofs.Dividing.{less_most, more_most, leaf_divided, split_divided, hand_divided, halt_divided}

module _ (p : Program) (s : Search) (hand : Hand) (cell at : ℕ) (less more : Visit) (program : IsProgram p) (wide : HasFitWidth p (no_multipliers p))
    (going : IsGoing p s hand) (parted : IsPartedAt cell at (visited_at s.visited hand.node).known) (parts : ArePartsVisited p s hand.node cell at less more) where
  abbrev n : ℕ
  n = hand.node

  abbrev size : ℕ
  size = length s.frontier.nodes

  abbrev after : Search
  after = with_parts n cell at less more s

  abbrev node : Visited
  node = visited_at s.visited n

  -- what was found once the first part's whole point was taken
  abbrev middle : Option Found
  middle = better less.counts less.node.bound s.found

  place : IsPartedPlace p (box_of p s n) node cell at
  place = going_parted p s hand cell at program wide going parted

  made : AreSplit s.frontier.nodes after.frontier.nodes n
  made = are_split s.frontier n cell at going.in_hand

  known : AreVisited s.visited after.visited size less.node more.node
  known = are_visited s.visited size less.node more.node going.search.search.long

  both : ArePartsOf p (box_of p s n) node cell at less.node more.node
  both = record { parted = parted; low = parts.low; high = parts.high; under = parts.less_visited; over = parts.more_visited }

  low_most : IsAtMost (value_of less.node) hand.bound
  low_most = less_most p (box_of p s n) node cell at hand.bound program place going.bound less.node parts.less_visited

  high_most : IsAtMost (value_of more.node) hand.bound
  high_most = more_most p (box_of p s n) node cell at hand.bound program place going.bound more.node parts.more_visited

  first : IsConsidered p hand.bound less.counts less.node.bound s.found middle
  first =
      consider_keeps p hand.bound less.counts less.node.bound s.found
      (offered_by p hand.bound (box_of p s n).floors (less_caps (box_of p s n).caps cell at) less.node.known less.node.bound less.counts
      (less_box p (box_of p s n).floors (box_of p s n).caps cell at place.is_box place.low place.high) parts.less_counts low_most)
      going.search.valued going.search.search.allowed

  second : IsConsidered p hand.bound more.counts more.node.bound middle after.found
  second =
      consider_keeps p hand.bound more.counts more.node.bound middle
      (offered_by p hand.bound (more_floors (box_of p s n).floors cell at) (box_of p s n).caps more.node.known more.node.bound more.counts
      (more_box p (box_of p s n).floors (box_of p s n).caps cell at place.is_box place.low place.high) parts.more_counts high_most)
      first.valued first.allowed

  pub divided_search : IsSearch p after (size ∷ (size + 1) ∷ []) hand.bound
  divided_search =
      let search = going.search.search in
      record {
        search = record {
          tree = divided n cell at size search.tree;
          is_tree = splits_divide s.frontier search.tree n cell at going.in_hand search.is_tree;
          fit = splits_keep_fit s.frontier (start_of p) n cell at going.in_hand search.is_tree.ordered search.fit
              (range_part p s.frontier.nodes node n cell at program place);
          long = known.sized ∙ sym made.sized;
          room = refl;
          grown = grown_divides p s.frontier.nodes s.visited after.visited n cell at less.node more.node going.in_hand.0 known both
              (no_multipliers p) (first_bound p) p.floor p.cap search.tree search.is_tree.grown
              (trees_boxed s.frontier.nodes (start_of p) search.tree search.is_tree) search.grown;
          leaves = leaf_divided s.frontier.nodes after.frontier.nodes s.visited after.visited n less.node more.node made known p hand.bound
              (counts_found s.found) (counts_found after.found) s.halted
              (IsBetter-then p (counts_found s.found) (counts_found middle) (counts_found after.found) first.more second.more)
              search.leaves low_most
              (held_by p (box_of p s n).floors (less_caps (box_of p s n).caps cell at) less.node.known less.node.bound less.counts (counts_found after.found)
              parts.less_counts
              (IsUnder-more p less.counts less.node.bound (counts_found middle) (counts_found after.found) first.under second.more))
              high_most
              (held_by p (more_floors (box_of p s n).floors cell at) (box_of p s n).caps more.node.known more.node.bound more.counts (counts_found after.found)
              parts.more_counts second.under);
          splits = split_divided s.frontier.nodes after.frontier.nodes s.visited after.visited n less.node more.node made known p hand.bound
              search.splits going.bound;
          in_hand = hand_divided s.frontier.nodes after.frontier.nodes s.visited after.visited n less.node more.node made known p hand.bound search.in_hand;
          allowed = second.allowed;
          halt = halt_divided s.frontier.nodes after.frontier.nodes s.visited after.visited n less.node more.node made known p hand.bound
              s.halted going.parted search.halt;
        };
        valued = second.valued;
      }

  pub is_divided : IsDivided p after size hand.bound
  is_divided =
      let sized = made.sized in
      record { search = divided_search; less = (omega (arith, sized), made.first); more = (omega (arith, sized), made.second) }

  pub divided_budget : 2 ≤ s.frontier.room → budget_of after ≡ budget_of s
  divided_budget room = let sized = made.sized in omega (arith, sized, room)

  pub divides : (result : Result ℕ Memory) (new : Search) → IfOk result (λ first. first ≡ size) → IfOk result (λ first. new ≡ after)
      → IfOk result (λ first. IsDivided p new first hand.bound)
  divides (Ok first) new e h = rw (e, h) is_divided
  divides (Err none) new e h = tt

  pub divides_budget : (result : Result ℕ Memory) (new : Search) → 2 ≤ s.frontier.room → IfOk result (λ first. new ≡ after)
      → IfOk result (λ first. budget_of new ≡ budget_of s)
  divides_budget (Ok first) new room h = rw h (divided_budget room)
  divides_budget (Err none) new room h = tt

  pub divided_small : at < 1_000_000_000
  divided_small = small_part p (box_of p s n) node cell at program place
