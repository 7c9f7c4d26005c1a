-- The best that was found, once a whole point was taken where it is worth more.
use Rattle.std.proofs.Common.{◌≡◌, ℕ, true, false, List, Option, Some, None, MatchOption, sym, subst, arith}
use Rattle.std.specs.Prelude.{ℤ, ◌≤ℤ◌, int_le}
use Rattle.std.proofs.lemmas.Int.{ints, clamps}
use Rattle.std.proofs.lemmas.Bool.{cond_both, false≢true}
use Rattle.pc_num.specs.declared.Frac.{Frac}
use Rattle.pc_model.specs.declared.tree.Mult.{Mult}
use Rattle.pc_program_bound.specs.declared.program.Program.{Program}
use Rattle.pc_program_bound.specs.Allocation.{IsAllocation, IsBox, worth}
use Rattle.pc_program_bound.specs.Bound.{bound_of}
use Rattle.pc_program_bound.specs.SplitTrees.{IsWithin}
use Rattle.pc_simplex_tableau.specs.Point.{vertex, IsRelaxation}
use Rattle.pc_frontier.specs.declared.node.State.{State}
use Rattle.pc_frontier.specs.declared.node.State.TheVariants as states
use Rattle.pc_frontier.specs.declared.node.Node.{Node}
use Rattle.pc_branch.specs.declared.visited.Known.{Known}
use Rattle.pc_branch.specs.declared.visited.Known.TheVariants as knowns
use Rattle.pc_branch.specs.declared.visited.Visited.{Visited}
use Rattle.pc_branch.specs.declared.search.Found.{Found}
use Rattle.pc_branch.specs.Grown.{value_as, value_of, IsKnownAs}
use Rattle.pc_branch.specs.Searching.{closed_at, IsAtMost, StandsAs, IsHeldAs, IsLeafKept, IsFound}
use Rattle.pc_branch.specs.Steps.{counts_found, is_worth, better, IsValued}
use Rattle.pc_branch.specs.Visits.{HasCountsAs}

-- ---- a better one

-- something was found that is worth as much as what was found before
abbrev pub IsBetter : Program → Option (List ℕ) → Option (List ℕ) → Type 0
IsBetter p before after = MatchOption before (Unit {0}) (λ counts. MatchOption after ⊥ (λ more. worth p counts ≤ℤ worth p more))

-- counts that may be found are an allocation that is worth so much
abbrev pub IsOffered : Program → ℤ → Option (List ℕ) → ℤ → Type 0
IsOffered p level counts value = MatchOption counts (Unit {0}) (λ some. IsAllocation p p.floor p.cap some × (worth p some ≡ value) × (value ≤ℤ level))

-- counts are worth at most what was found
abbrev pub IsUnder : Program → Option (List ℕ) → ℤ → Option (List ℕ) → Type 0
IsUnder p counts value found = MatchOption counts (Unit {0}) (λ some. MatchOption found ⊥ (λ more. value ≤ℤ worth p more))

pub IsBetter-same : (p : Program) (found : Option (List ℕ)) → IsBetter p found found
IsBetter-same p None = tt
IsBetter-same p (Some counts) = omega (arith, ints)

pub IsBetter-then : (p : Program) (a b c : Option (List ℕ)) → IsBetter p a b → IsBetter p b c → IsBetter p a c
IsBetter-then p None b c h k = tt
IsBetter-then p (Some x) None c h k = absurd h
IsBetter-then p (Some x) (Some y) None h k = absurd k
IsBetter-then p (Some x) (Some y) (Some z) h k = omega (arith, ints, h, k)

pub IsUnder-more : (p : Program) (counts : Option (List ℕ)) (value : ℤ) (a b : Option (List ℕ)) → IsUnder p counts value a → IsBetter p a b → IsUnder p counts value b
IsUnder-more p None value a b h k = tt
IsUnder-more p (Some some) value None b h k = absurd h
IsUnder-more p (Some some) value (Some x) None h k = absurd k
IsUnder-more p (Some some) value (Some x) (Some y) h k = omega (arith, ints, h, k)

-- what was found after counts were considered
pub record IsConsidered (p : Program) (level : ℤ) (counts : Option (List ℕ)) (value : ℤ) (before after : Option Found) : Type 0 where
  pub valued : IsValued p after
  pub allowed : IsFound p level (counts_found after)
  pub more : IsBetter p (counts_found before) (counts_found after)
  pub under : IsUnder p counts value (counts_found after)

worth_kept : (p : Program) (level : ℤ) (some : List ℕ) (value : ℤ) (before : Option Found) → IsValued p before → IsFound p level (counts_found before)
    → is_worth before value ≡ true → IsConsidered p level (Some some) value before before
worth_kept p level some value None valued allowed e = absurd (false≢true e)
worth_kept p level some value (Some f) valued allowed e = record {
  valued = valued;
  allowed = allowed;
  more = IsBetter-same p (Some f.counts);
  under = rw valued (grind (arith, ints, e));
}

worth_less : (a b v w : ℤ) → a ≡ v → b ≡ w → int_le w v ≡ false → a ≤ℤ b
worth_less a b v w e h less = grind (arith, ints, e, h, less)

worth_taken : (p : Program) (level : ℤ) (some : List ℕ) (value : ℤ) (before : Option Found) → IsOffered p level (Some some) value → IsValued p before
    → is_worth before value ≡ false → IsConsidered p level (Some some) value before (Some (record { counts = some; value = value }))
worth_taken p level some value None offered valued e =
    let is = offered.1 in
    let most = offered.2 in
    record {
      valued = is;
      allowed = (offered.0, omega (arith, ints, is, most));
      more = tt;
      under = omega (arith, ints, is);
    }
worth_taken p level some value (Some f) offered valued e =
    let is = offered.1 in
    let most = offered.2 in
    record {
      valued = is;
      allowed = (offered.0, omega (arith, ints, is, most));
      more = worth_less (worth p f.counts) (worth p some) f.value value valued is e;
      under = omega (arith, ints, is);
    }

pub consider_keeps : (p : Program) (level : ℤ) (counts : Option (List ℕ)) (value : ℤ) (before : Option Found) → IsOffered p level counts value → IsValued p before
    → IsFound p level (counts_found before) → IsConsidered p level counts value before (better counts value before)
consider_keeps p level None value before offered valued allowed =
    record { valued = valued; allowed = allowed; more = IsBetter-same p (counts_found before); under = tt }
consider_keeps p level (Some some) value before offered valued allowed =
    cond_both (is_worth before value) before (Some (record { counts = some; value = value })) (IsConsidered p level (Some some) value before)
    (λ e. worth_kept p level some value before valued allowed e)
    (λ e. worth_taken p level some value before offered valued e)

-- ---- a visited part

-- an allocation of a box is one of the start box
start_allocation : (p : Program) (lows highs counts : List ℕ) → IsBox p lows highs → IsAllocation p lows highs counts → IsAllocation p p.floor p.cap counts
start_allocation p lows highs counts box allowed = record {
  sized = allowed.sized;
  within = λ i lt.
      let outer = box.inside i lt in
      let inner = allowed.within i lt in
      (omega (arith, outer, inner), omega (arith, outer, inner));
  met = allowed.met;
}

offered_some : (p : Program) (level : ℤ) (lows highs : List ℕ) (bound : ℤ) (counts : Option (List ℕ)) → IsBox p lows highs
    → HasCountsAs p lows highs knowns.Whole bound counts → bound ≤ℤ level → IsOffered p level counts bound
offered_some p level lows highs bound None box has most = tt
offered_some p level lows highs bound (Some some) box has most = (start_allocation p lows highs some box has.0, has.1, most)

offered_none : (p : Program) (level : ℤ) (bound : ℤ) (counts : Option (List ℕ)) → counts ≡ None → IsOffered p level counts bound
offered_none p level bound counts e = rw e tt

pub offered_by : (p : Program) (level : ℤ) (lows highs : List ℕ) (known : Known) (bound : ℤ) (counts : Option (List ℕ)) → IsBox p lows highs
    → HasCountsAs p lows highs known bound counts → IsAtMost (value_as known bound) level → IsOffered p level counts bound
offered_by p level lows highs knowns.Whole bound counts box has most = offered_some p level lows highs bound counts box has most
offered_by p level lows highs knowns.Nothing bound counts box has most = offered_none p level bound counts has
offered_by p level lows highs (knowns.Parted cell at) bound counts box has most = offered_none p level bound counts has
offered_by p level lows highs knowns.Stuck bound counts box has most = offered_none p level bound counts has

held_some : (p : Program) (lows highs : List ℕ) (bound : ℤ) (counts found : Option (List ℕ)) → HasCountsAs p lows highs knowns.Whole bound counts
    → IsUnder p counts bound found → IsHeldAs p found knowns.Whole bound
held_some p lows highs bound None found has under = absurd has
held_some p lows highs bound (Some some) found has under = under

-- a whole part is worth at most what was found
pub held_by : (p : Program) (lows highs : List ℕ) (known : Known) (bound : ℤ) (counts found : Option (List ℕ)) → HasCountsAs p lows highs known bound counts
    → IsUnder p counts bound found → IsHeldAs p found known bound
held_by p lows highs knowns.Whole bound counts found has under = held_some p lows highs bound counts found has under
held_by p lows highs knowns.Nothing bound counts found has under = tt
held_by p lows highs (knowns.Parted cell at) bound counts found has under = tt
held_by p lows highs knowns.Stuck bound counts found has under = tt

-- a part's value is at most the level where that of each vertex is
pub most_by : (p : Program) (above : Mult) (limit level : ℤ) (lows highs : List ℕ) (known : Known) (mult : Mult) (bound : ℤ)
    → IsKnownAs p above limit lows highs known mult bound → limit ≡ level
    → ((point : List Frac) → IsRelaxation p lows highs (vertex point mult) → bound_of p lows highs mult ≤ℤ level) → IsAtMost (value_as known bound) level
most_by p above limit level lows highs knowns.Nothing mult bound h e each = tt
most_by p above limit level lows highs knowns.Whole mult bound h e each = subst (λ (x : ℤ). x ≤ℤ level) (sym h.bound_is) (each h.point h.relaxed)
most_by p above limit level lows highs (knowns.Parted cell at) mult bound h e each = subst (λ (x : ℤ). x ≤ℤ level) (sym h.bound_is) (each h.point h.relaxed)
most_by p above limit level lows highs knowns.Stuck mult bound h e each = let is = h.bound_is in omega (arith, ints, is, e)

-- ---- a leaf, where something better was found

within_more : (p : Program) (x : ℤ) (a b : Option (List ℕ)) (halted : Option ℤ) → IsBetter p a b → IsWithin x (closed_at p a halted) → IsWithin x (closed_at p b halted)
within_more p x None None halted h k = k
within_more p x None (Some counts) None h k = absurd k
within_more p x None (Some counts) (Some e) h k = omega (arith, ints, clamps, k)
within_more p x (Some counts) None halted h k = absurd h
within_more p x (Some counts) (Some more) None h k = omega (arith, ints, h, k)
within_more p x (Some counts) (Some more) (Some e) h k = omega (arith, ints, clamps, h, k)

closed_more : (p : Program) (value : Option ℤ) (a b : Option (List ℕ)) (halted : Option ℤ) → IsBetter p a b
    → MatchOption value (Unit {0}) (λ x. IsWithin x (closed_at p a halted)) → MatchOption value (Unit {0}) (λ x. IsWithin x (closed_at p b halted))
closed_more p None a b halted h k = tt
closed_more p (Some x) a b halted h k = within_more p x a b halted h k

stands_more : (p : Program) (a b : Option (List ℕ)) (halted : Option ℤ) (state : State) (bound : ℤ) (v : Visited) → IsBetter p a b
    → StandsAs (closed_at p a halted) state bound v → StandsAs (closed_at p b halted) state bound v
stands_more p a b halted states.Open bound v h k = k
stands_more p a b halted states.Closed bound v h k = closed_more p (value_of v) a b halted h k
stands_more p a b halted states.InHand bound v h k = tt
stands_more p a b halted (states.Split first) bound v h k = tt

held_whole : (p : Program) (a b : Option (List ℕ)) (bound : ℤ) → IsBetter p a b → IsHeldAs p a knowns.Whole bound → IsHeldAs p b knowns.Whole bound
held_whole p None b bound h k = absurd k
held_whole p (Some x) None bound h k = absurd h
held_whole p (Some x) (Some y) bound h k = omega (arith, ints, h, k)

held_more : (p : Program) (a b : Option (List ℕ)) (known : Known) (bound : ℤ) → IsBetter p a b → IsHeldAs p a known bound → IsHeldAs p b known bound
held_more p a b knowns.Whole bound h k = held_whole p a b bound h k
held_more p a b (knowns.Parted cell at) bound h k = tt
held_more p a b knowns.Nothing bound h k = tt
held_more p a b knowns.Stuck bound h k = tt

pub leaf_more : (p : Program) (level : ℤ) (a b : Option (List ℕ)) (halted : Option ℤ) (node : Node) (v : Visited) → IsBetter p a b
    → IsLeafKept p level a halted node v → IsLeafKept p level b halted node v
leaf_more p level a b halted node v h kept = record {
  most = kept.most;
  stands = stands_more p a b halted node.state node.bound v h kept.stands;
  held = held_more p a b v.known v.bound h kept.held;
}
