-- Which node is next, and that the search is over where there is none.
use Rattle.std.proofs.Common.{◌≡◌, ◌<◌, ℕ, ◌+◌, Bool, true, false, cond, not, ◌&&◌, ◌||◌, List, [], ◌∷◌, length, Option, Some, None, refl, sym, ap, ◌∙◌, subst, arith, inl, inr, ◌⊎◌}
use Rattle.std.specs.Prelude.{ℤ, ◌≤ℤ◌, ◌<ℤ◌, int_lt, int_le, MatchOption}
use Rattle.std.specs.Bool.{⊤}
use Rattle.std.proofs.lemmas.Int.{ints, clamps}
use Rattle.std.proofs.lemmas.List.{get_or-set_same, length-set}
use Rattle.pc_program_bound.specs.declared.program.Program.{Program}
use Rattle.pc_program_bound.specs.Allocation.{worth}
use Rattle.pc_program_bound.specs.SplitTrees.{greater, IsWithin}
use Rattle.pc_frontier.specs.declared.node.State.{State}
use Rattle.pc_frontier.specs.declared.node.State.TheVariants as states
use Rattle.pc_frontier.specs.declared.node.Node.{Node}
use Rattle.pc_frontier.specs.Rings.{In}
use Rattle.pc_frontier.specs.Frontier.{no_node, node_at, bound_at, best_of, taken_from, AreUnder, IsFalling, IsKept, IsInHand}
use Rattle.pc_frontier.specs.Boxes.{IsLeaf, IsLeafState}
use Rattle.pc_branch.specs.declared.visited.Known.{Known}
use Rattle.pc_branch.specs.declared.visited.Known.TheVariants as knowns
use Rattle.pc_branch.specs.declared.visited.Visited.{Visited}
use Rattle.pc_branch.specs.declared.search.Found.{Found}
use Rattle.pc_branch.specs.declared.search.Hand.{Hand}
use Rattle.pc_branch.specs.declared.search.Search.{Search}
use Rattle.pc_branch.specs.Grown.{visited_at, value_as, value_of, IsParted}
use Rattle.pc_branch.specs.Searching.{StandsAs, IsAtMost, IsFound, closed_at}
use Rattle.pc_branch.specs.Steps.{counts_found, value_found, is_worth, is_above, is_over, is_parted, kept_hand, unless_over, hand_of, next_hand, pruned_by, settled, with_taken, budget_of, IsValued, IsSearch, IsGoing, IsOver, IsAt, IsDivided}
use Rattle.pc_branch.proofs.Kept.{set_by}
use Rattle.pc_branch.proofs.Moves.{IsLetGo, settled_keeps, settled_budget}
use Rattle.pc_branch.proofs.Takings.{pruned_keeps, pruned_budget, pruned_in_hand, taken_keeps, taken_budget}

-- ---- what is at most a number

pub within-le : (x y : ℤ) (most : Option ℤ) → x ≤ℤ y → IsWithin y most → IsWithin x most
within-le x y None h k = absurd k
within-le x y (Some z) h k = omega (arith, ints, h, k)

-- nothing found is worth so much, and nothing so great was halted
closed-low : (p : Program) (found : Option Found) (halted : Option ℤ) (top x : ℤ) → IsValued p found → is_worth found top ≡ false → is_above halted top ≡ false
    → IsWithin x (closed_at p (counts_found found) halted) → x ≤ℤ top
closed-low p None None top x valued e d h = absurd h
closed-low p None (Some y) top x valued e d h = grind (arith, ints, d, h)
closed-low p (Some f) None top x valued e d h = grind (arith, ints, e, subst (λ (w : ℤ). x ≤ℤ w) valued h)
closed-low p (Some f) (Some y) top x valued e d h = both (worth p f.counts) f.value y valued e d h
  where
    both : (w v y : ℤ) → w ≡ v → int_le top v ≡ false → int_lt top y ≡ false → IsWithin x (greater (Some w) (Some y)) → x ≤ℤ top
    both w v y same e d h =
        let low : v <ℤ top = grind (arith, ints, e) in
        let under : y ≤ℤ top = grind (arith, ints, d) in
        let low : w <ℤ top = subst (λ (k : ℤ). k <ℤ top) (sym same) low in
        omega (arith, ints, clamps, low, under, h)

closed-high : (p : Program) (found : Option Found) (halted : Option ℤ) (top : ℤ) → IsValued p found → is_worth found top || is_above halted top ≡ true
    → IsWithin top (closed_at p (counts_found found) halted)
closed-high p None None top valued e = cc
closed-high p None (Some y) top valued e = grind (arith, ints, e)
closed-high p (Some f) None top valued e = found (int_le top f.value) refl e
  where
    found : (b : Bool) → int_le top f.value ≡ b → b || false ≡ true → top ≤ℤ worth p f.counts
    found true is e = subst (λ (w : ℤ). top ≤ℤ w) (sym valued) (grind (arith, ints, is))
    found false is e = cc
closed-high p (Some f) (Some y) top valued e = either (worth p f.counts) f.value y valued (int_le top f.value) refl (int_lt top y) refl e
  where
    either : (w v y : ℤ) → w ≡ v → (a : Bool) → int_le top v ≡ a → (b : Bool) → int_lt top y ≡ b → a || b ≡ true → IsWithin top (greater (Some w) (Some y))
    either w v y same true is b other e = let h : top ≤ℤ v = grind (arith, ints, is) in let h : top ≤ℤ w = subst (λ (k : ℤ). top ≤ℤ k) (sym same) h in omega (arith, ints, clamps, h)
    either w v y same false is true other e = let h : top <ℤ y = grind (arith, ints, other) in omega (arith, ints, clamps, h)
    either w v y same false is false other e = cc

found-low : (p : Program) (found : Option Found) (level top : ℤ) → IsValued p found → is_worth found top ≡ false → IsFound p level (counts_found found) → IsFound p top (counts_found found)
found-low p None level top valued e h = tt
found-low p (Some f) level top valued e h = (h.0, subst (λ (w : ℤ). w ≤ℤ top) (sym valued) (grind (arith, ints, e)))

found-below : (found : Option Found) (top : ℤ) → is_worth found top ≡ false → MatchOption (value_found found) ⊤ (λ value. value <ℤ top)
found-below None top e = tt
found-below (Some f) top e = grind (arith, ints, e)

-- ---- a node that may be next

-- it is in hand alone and can be split, and no open node has a greater bound
pub record IsCandidate (p : Program) (s : Search) (hand : Hand) (level : ℤ) : Type 0 where
  pub search : IsSearch p s (hand.node ∷ []) level
  pub in_hand : IsInHand s.frontier hand.node
  pub parted : IsParted (visited_at s.visited hand.node).known
  pub bound : (visited_at s.visited hand.node).bound ≡ hand.bound
  pub greatest : (n : ℕ) → n < length s.frontier.nodes → (node_at s.frontier.nodes n).state ≡ states.Open → bound_at s.frontier.nodes n ≤ℤ hand.bound

-- a leaf's value is at most the bound, or within what may be closed
abbrev IsLow : Option ℤ → ℤ → Visited → Type 0
IsLow closed top v = MatchOption (value_of v) ⊤ (λ x. (x ≤ℤ top) ⊎ IsWithin x closed)

value-low : (closed : Option ℤ) (top : ℤ) (known : Known) (bound : ℤ) → bound ≤ℤ top → MatchOption (value_as known bound) ⊤ (λ x. (x ≤ℤ top) ⊎ IsWithin x closed)
value-low closed top knowns.Nothing bound h = tt
value-low closed top knowns.Whole bound h = inl h
value-low closed top (knowns.Parted cell at) bound h = inl h
value-low closed top knowns.Stuck bound h = inl h

value-closed : (closed : Option ℤ) (top : ℤ) (value : Option ℤ) → MatchOption value ⊤ (λ x. IsWithin x closed) → MatchOption value ⊤ (λ x. (x ≤ℤ top) ⊎ IsWithin x closed)
value-closed closed top None h = tt
value-closed closed top (Some x) h = inr h

leaf-low : (closed : Option ℤ) (top : ℤ) (state : State) (bound : ℤ) (v : Visited) → StandsAs closed state bound v → IsLeafState state
    → (state ≡ states.Open → bound ≤ℤ top) → (state ≡ states.InHand → v.bound ≤ℤ top) → IsLow closed top v
leaf-low closed top states.Open bound v stands is opens hand = value-low closed top v.known v.bound (subst (λ (b : ℤ). b ≤ℤ top) (sym stands.1) (opens refl))
leaf-low closed top states.InHand bound v stands is opens hand = value-low closed top v.known v.bound (hand refl)
leaf-low closed top states.Closed bound v stands is opens hand = value-closed closed top (value_of v) stands
leaf-low closed top (states.Split first) bound v stands is opens hand = absurd is

map-value : (value : Option ℤ) (P Q : ℤ → Type 0) → ((x : ℤ) → P x → Q x) → MatchOption value ⊤ P → MatchOption value ⊤ Q
map-value None P Q f h = tt
map-value (Some x) P Q f h = f x h

parted-most : (known : Known) (bound level : ℤ) → IsParted known → IsAtMost (value_as known bound) level → bound ≤ℤ level
parted-most (knowns.Parted cell at) bound level is h = h
parted-most knowns.Nothing bound level is h = absurd is
parted-most knowns.Whole bound level is h = absurd is
parted-most knowns.Stuck bound level is h = absurd is

module _ (p : Program) (s : Search) (hand : Hand) (level : ℤ) (c : IsCandidate p s hand level) where
  hand-low : (n : ℕ) → In n (hand.node ∷ []) → (visited_at s.visited n).bound ≤ℤ hand.bound
  hand-low n named = elim named [
    | inl e ↦ let same : (visited_at s.visited n).bound ≡ hand.bound = ap (λ k. (visited_at s.visited k).bound) e ∙ c.bound in omega (arith, ints, same)
    | inr none ↦ absurd none
  ]

  each-low : (n : ℕ) → IsLeaf s.frontier.nodes n → IsLow (closed_at p (counts_found s.found) s.halted) hand.bound (visited_at s.visited n)
  each-low n leaf =
      leaf-low (closed_at p (counts_found s.found) s.halted) hand.bound (node_at s.frontier.nodes n).state (bound_at s.frontier.nodes n) (visited_at s.visited n)
      (c.search.search.leaves n leaf).stands leaf.1 (c.greatest n leaf.0) (λ is. hand-low n (c.search.search.in_hand n leaf.0 is))

  over : is_over s hand.bound ≡ true → IsOver p s
  over e =
      let high : IsWithin hand.bound (closed_at p (counts_found s.found) s.halted) = closed-high p s.found s.halted hand.bound c.search.valued e in
      record {
        hand = hand.node ∷ [];
        level = level;
        search = c.search;
        under = λ n leaf. map-value (value_of (visited_at s.visited n)) (λ x. (x ≤ℤ hand.bound) ⊎ IsWithin x (closed_at p (counts_found s.found) s.halted)) (λ x. IsWithin x (closed_at p (counts_found s.found) s.halted))
            (λ x h. elim h [ inl low ↦ within-le x hand.bound (closed_at p (counts_found s.found) s.halted) low high | inr within ↦ within ]) (each-low n leaf);
      }

  -- the level comes down to the bound
  lowered : is_worth s.found hand.bound ≡ false → is_above s.halted hand.bound ≡ false → IsSearch p s (hand.node ∷ []) hand.bound
  lowered e d =
      let here : IsLeaf s.frontier.nodes hand.node = (c.in_hand.0, subst IsLeafState (sym c.in_hand.1) tt) in
      let own : (visited_at s.visited hand.node).bound ≤ℤ level = parted-most (visited_at s.visited hand.node).known (visited_at s.visited hand.node).bound level c.parted (c.search.search.leaves hand.node here).most in
      let down : hand.bound ≤ℤ level = subst (λ (b : ℤ). b ≤ℤ level) c.bound own in
      record {
        search = record {
          tree = c.search.search.tree;
          is_tree = c.search.search.is_tree;
          fit = c.search.search.fit;
          long = c.search.search.long;
          room = c.search.search.room;
          grown = c.search.search.grown;
          leaves = λ n leaf. record {
            most = map-value (value_of (visited_at s.visited n)) (λ x. (x ≤ℤ hand.bound) ⊎ IsWithin x (closed_at p (counts_found s.found) s.halted)) (λ x. x ≤ℤ hand.bound)
                (λ x h. elim h [ inl low ↦ low | inr within ↦ closed-low p s.found s.halted hand.bound x c.search.valued e d within ]) (each-low n leaf);
            stands = (c.search.search.leaves n leaf).stands;
            held = (c.search.search.leaves n leaf).held;
          };
          splits = λ n is. below hand.bound level (visited_at s.visited n).bound down (c.search.search.splits n is);
          in_hand = c.search.search.in_hand;
          allowed = found-low p s.found level hand.bound c.search.valued e c.search.search.allowed;
          halt = c.search.search.halt;
        };
        valued = c.search.valued;
      }
    where
      below : (a b d : ℤ) → a ≤ℤ b → b ≤ℤ d → a ≤ℤ d
      below a b d h k = omega (arith, ints, h, k)

  going : is_worth s.found hand.bound ≡ false → is_above s.halted hand.bound ≡ false → IsGoing p s hand
  going e d = record {
    search = lowered e d;
    in_hand = c.in_hand;
    parted = c.parted;
    bound = c.bound;
    above = found-below s.found hand.bound e;
  }

  pub candidate_at : IsAt p s (unless_over s hand)
  candidate_at = by (is_worth s.found hand.bound) (is_above s.halted hand.bound) refl refl
    where
      by : (a b : Bool) → is_worth s.found hand.bound ≡ a → is_above s.halted hand.bound ≡ b → IsAt p s (cond (a || b) None (Some hand))
      by true b e d = over (ap (λ x. x || is_above s.halted hand.bound) e)
      by false true e d = over (ap (λ x. x || is_above s.halted hand.bound) e ∙ ap (λ y. false || y) d)
      by false false e d = going e d

-- ---- open nodes in their order

under-top : (bounds : ℕ → ℤ) (top : ℤ) (ns : List ℕ) (m : ℕ) → AreUnder bounds top ns → In m ns → bounds m ≤ℤ top
under-top bounds top [] m under is = absurd is
under-top bounds top (n ∷ ns) m under is = elim is [
  | inl e ↦ subst (λ k. bounds k ≤ℤ top) (sym e) under.0
  | inr later ↦ under-top bounds top ns m under.1 later
]

first-top : (bounds : ℕ → ℤ) (n : ℕ) (ns : List ℕ) (m : ℕ) → IsFalling bounds (n ∷ ns) → In m (n ∷ ns) → bounds m ≤ℤ bounds n
first-top bounds n ns m falling is = elim is [
  | inl e ↦ let same : bounds m ≡ bounds n = ap bounds e in omega (arith, ints, same)
  | inr later ↦ under-top bounds (bounds n) ns m falling.0 later
]

-- where the first is not above a bound, none is
best-low : (nodes : List Node) (opened : List ℕ) (bound : ℤ) (m : ℕ) → IsFalling (bound_at nodes) opened → is_above (best_of nodes opened) bound ≡ false → In m opened → bound_at nodes m ≤ℤ bound
best-low nodes [] bound m falling e is = absurd is
best-low nodes (n ∷ ns) bound m falling e is = low (bound_at nodes m) (bound_at nodes n) (first-top (bound_at nodes) n ns m falling is) e
  where
    low : (a b : ℤ) → a ≤ℤ b → int_lt bound b ≡ false → a ≤ℤ bound
    low a b h e = let under : b ≤ℤ bound = grind (arith, ints, e) in omega (arith, ints, h, under)

-- ---- the node in hand

known-parted : (known : Known) → is_parted known ≡ true → IsParted known
known-parted (knowns.Parted cell at) e = tt
known-parted knowns.Nothing e = cc
known-parted knowns.Whole e = cc
known-parted knowns.Stuck e = cc

kept_candidate : (p : Program) (s : Search) (n : ℕ) (hand : Hand) (level : ℤ) → kept_hand n s ≡ Some hand → IsKept s.frontier → IsInHand s.frontier n → IsSearch p s (n ∷ []) level → IsCandidate p s hand level
kept_candidate p s n hand level e kept in_hand is =
    by (is_parted (visited_at s.visited n).known) (is_above (best_of s.frontier.nodes s.frontier.opened) (visited_at s.visited n).bound) refl refl e
  where
    by : (a b : Bool) → is_parted (visited_at s.visited n).known ≡ a → is_above (best_of s.frontier.nodes s.frontier.opened) (visited_at s.visited n).bound ≡ b
        → cond (a && not b) (Some (record { node = n; bound = (visited_at s.visited n).bound })) None ≡ Some hand → IsCandidate p s hand level
    by true false parted low e =
        let same : record { node = n; bound = (visited_at s.visited n).bound } ≡ hand = cc in
        subst (λ (h : Hand). IsCandidate p s h level) same (record {
          search = is;
          in_hand = in_hand;
          parted = known-parted (visited_at s.visited n).known parted;
          bound = refl;
          greatest = λ m there open_m. best-low s.frontier.nodes s.frontier.opened (visited_at s.visited n).bound m kept.falling low (kept.all m there open_m);
        })
    by true true parted low e = cc
    by false b parted low e = cc

-- ---- the best open node

leaf-closed : (closed : Option ℤ) (state : State) (bound : ℤ) (v : Visited) → StandsAs closed state bound v → IsLeafState state → (state ≡ states.Open → ⊥) → (state ≡ states.InHand → ⊥)
    → MatchOption (value_of v) ⊤ (λ x. IsWithin x closed)
leaf-closed closed states.Closed bound v stands is opens hand = stands
leaf-closed closed states.Open bound v stands is opens hand = absurd (opens refl)
leaf-closed closed states.InHand bound v stands is opens hand = absurd (hand refl)
leaf-closed closed (states.Split first) bound v stands is opens hand = absurd is

-- nothing is open and nothing in hand
none_open : (p : Program) (s : Search) (level : ℤ) → s.frontier.opened ≡ [] → IsKept s.frontier → IsSearch p s [] level → IsOver p s
none_open p s level e kept is = record {
  hand = [];
  level = level;
  search = is;
  under = λ n leaf. leaf-closed (closed_at p (counts_found s.found) s.halted) (node_at s.frontier.nodes n).state (bound_at s.frontier.nodes n) (visited_at s.visited n) (is.search.leaves n leaf).stands leaf.1
      (λ is_open. subst (In n) e (kept.all n leaf.0 is_open)) (λ hand. is.search.in_hand n leaf.0 hand);
}

taken_none : (p : Program) (s : Search) (level : ℤ) → next_hand s.frontier ≡ None → IsKept s.frontier → IsSearch p s [] level → IsOver p (with_taken s)
taken_none p s level e kept is = by s.frontier.opened refl e
  where
    by : (opened : List ℕ) → s.frontier.opened ≡ opened → hand_of (bound_at s.frontier.nodes) opened ≡ None → IsOver p (record s { frontier = taken_from s.frontier.room s.frontier.nodes opened })
    by [] same e = subst (λ (ns : List ℕ). IsOver p (record s { frontier = record { room = s.frontier.room; nodes = s.frontier.nodes; opened = ns } })) same (none_open p s level same kept is)
    by (n ∷ ns) same e = cc

taken_first : (p : Program) (s : Search) (level : ℤ) (n : ℕ) (ns : List ℕ) → s.frontier.opened ≡ n ∷ ns → IsKept s.frontier → IsSearch p s [] level
    → IsCandidate p (record s { frontier = taken_from s.frontier.room s.frontier.nodes (n ∷ ns) }) (record { node = n; bound = bound_at s.frontier.nodes n }) level
taken_first p s level n ns same kept is =
    let nodes : List Node = s.frontier.nodes in
    let first = kept.opens n (subst (In n) (sym same) (inl refl)) in
    let x : Node = record (node_at nodes n) { state = states.InHand } in
    let was : IsLeafState (node_at nodes n).state = subst IsLeafState (sym first.1) tt in
    let stands = subst (λ (state : State). StandsAs (closed_at p (counts_found s.found) s.halted) state (bound_at nodes n) (visited_at s.visited n)) first.1 (is.search.leaves n (first.0, was)).stands in
    record {
      search = taken_keeps p s [] level n ns first.0 first.1 is;
      in_hand = (subst (λ k. n < k) (sym (length-set nodes n x)) first.0, ap (λ (y : Node). y.state) (get_or-set_same nodes n x no_node first.0));
      parted = stands.0;
      bound = stands.1;
      greatest = λ m there is_open. set_by nodes n x first.0 refl tt was (λ k y. y.state ≡ states.Open → y.bound ≤ℤ bound_at nodes n) m (λ e is_open. cc)
          (λ ne is_open. first-top (bound_at nodes) n ns m (subst (IsFalling (bound_at nodes)) same kept.falling) (subst (In m) same (kept.all m (subst (λ k. m < k) (length-set nodes n x) there) is_open))) is_open;
    }

taken_candidate : (p : Program) (s : Search) (hand : Hand) (level : ℤ) → next_hand s.frontier ≡ Some hand → IsKept s.frontier → IsSearch p s [] level → IsCandidate p (with_taken s) hand level
taken_candidate p s hand level e kept is = by s.frontier.opened refl e
  where
    by : (opened : List ℕ) → s.frontier.opened ≡ opened → hand_of (bound_at s.frontier.nodes) opened ≡ Some hand
        → IsCandidate p (record s { frontier = taken_from s.frontier.room s.frontier.nodes opened }) hand level
    by [] same e = cc
    by (n ∷ ns) same e =
        let is_hand : record { node = n; bound = bound_at s.frontier.nodes n } ≡ hand = cc in
        subst (λ (h : Hand). IsCandidate p (record s { frontier = taken_from s.frontier.room s.frontier.nodes (n ∷ ns) }) h level) is_hand (taken_first p s level n ns same kept is)

-- ---- picking

alone-goes : (n : ℕ) → IsLetGo n (n ∷ []) []
alone-goes n = record { rest = λ m is ne. elim is [ inl e ↦ ne e | inr none ↦ none ] }

pub picked_kept : (p : Program) (s after : Search) (n : ℕ) (kept result : Option Hand) (hand : Hand) (level : ℤ) → after ≡ pruned_by s → kept ≡ kept_hand n after → kept ≡ Some hand
    → IsKept after.frontier → result ≡ unless_over after hand → IsInHand s.frontier n → IsSearch p s (n ∷ []) level → IsAt p after result
picked_kept p s after n kept result hand level e is_kept some well is_result in_hand is =
    subst (IsAt p after) (sym is_result) (candidate_at p after hand level (kept_candidate p after n hand level (sym is_kept ∙ some) well
    (subst (λ (x : Search). IsInHand x.frontier n) (sym e) (pruned_in_hand s n in_hand))
    (subst (λ (x : Search). IsSearch p x (n ∷ []) level) (sym e) (pruned_keeps p s (n ∷ []) level is))))

-- once the node is let go
let_go : (p : Program) (s first second : Search) (n : ℕ) (level : ℤ) → first ≡ pruned_by s → second ≡ settled n first → IsInHand s.frontier n → IsSearch p s (n ∷ []) level → IsSearch p second [] level
let_go p s first second n level e d in_hand is =
    subst (λ (x : Search). IsSearch p x [] level) (sym (d ∙ ap (settled n) e))
    (settled_keeps p (pruned_by s) n (n ∷ []) [] level (pruned_in_hand s n in_hand) (alone-goes n) (pruned_keeps p s (n ∷ []) level is))

pub picked_none : (p : Program) (s first second after : Search) (n : ℕ) (next : Option Hand) (level : ℤ) → first ≡ pruned_by s → second ≡ settled n first → after ≡ with_taken second
    → next ≡ next_hand second.frontier → next ≡ None → IsKept second.frontier → IsInHand s.frontier n → IsSearch p s (n ∷ []) level → IsOver p after
picked_none p s first second after n next level e d is_after is_next none well in_hand is =
    subst (IsOver p) (sym is_after) (taken_none p second level (sym is_next ∙ none) well (let_go p s first second n level e d in_hand is))

pub picked_best : (p : Program) (s first second after : Search) (n : ℕ) (next result : Option Hand) (hand : Hand) (level : ℤ) → first ≡ pruned_by s → second ≡ settled n first → after ≡ with_taken second
    → next ≡ next_hand second.frontier → next ≡ Some hand → IsKept second.frontier → result ≡ unless_over after hand → IsInHand s.frontier n → IsSearch p s (n ∷ []) level → IsAt p after result
picked_best p s first second after n next result hand level e d is_after is_next some well is_result in_hand is =
    subst (IsAt p after) (sym is_result) (candidate_at p after hand level
    (subst (λ (x : Search). IsCandidate p x hand level) (sym is_after) (taken_candidate p second hand level (sym is_next ∙ some) well (let_go p s first second n level e d in_hand is))))

pub picked_budget : (s first second after : Search) (n : ℕ) → first ≡ pruned_by s → second ≡ settled n first → after ≡ with_taken second → budget_of after ≡ budget_of s
picked_budget s first second after n e d is_after =
    ap budget_of (is_after ∙ ap with_taken (d ∙ ap (settled n) e)) ∙ taken_budget (settled n (pruned_by s)) ∙ settled_budget (pruned_by s) n ∙ pruned_budget s

-- ---- the two children of a split

first-stays : (first : ℕ) → IsLetGo (first + 1) (first ∷ (first + 1) ∷ []) (first ∷ [])
first-stays first = record { rest = λ m is ne. elim is [ inl e ↦ inl e | inr other ↦ elim other [ inl e ↦ absurd (ne e) | inr none ↦ absurd none ] ] }

second-stays : (first : ℕ) → IsLetGo first (first ∷ (first + 1) ∷ []) ((first + 1) ∷ [])
second-stays first = record { rest = λ m is ne. elim is [ inl e ↦ absurd (ne e) | inr other ↦ elim other [ inl e ↦ inl e | inr none ↦ absurd none ] ] }

-- the first child stays in hand
pub first_kept : (p : Program) (s after : Search) (first : ℕ) (level : ℤ) → after ≡ settled (first + 1) s → IsDivided p s first level → IsSearch p after (first ∷ []) level
first_kept p s after first level e is =
    subst (λ (x : Search). IsSearch p x (first ∷ []) level) (sym e)
    (settled_keeps p s (first + 1) (first ∷ (first + 1) ∷ []) (first ∷ []) level is.more (first-stays first) is.search)

-- the second child does
pub second_kept : (p : Program) (s after : Search) (first : ℕ) (level : ℤ) → after ≡ settled first s → IsDivided p s first level → IsSearch p after ((first + 1) ∷ []) level
second_kept p s after first level e is =
    subst (λ (x : Search). IsSearch p x ((first + 1) ∷ []) level) (sym e)
    (settled_keeps p s first (first ∷ (first + 1) ∷ []) ((first + 1) ∷ []) level is.less (second-stays first) is.search)
