-- Closing the last open nodes, one by one, closes all of at most a bound.
use Rattle.std.proofs.Common.{◌≡◌, ◌<◌, ◌≤◌, ◌+◌, ℕ, zero, suc, ℤ, ◌≤ℤ◌, Bool, true, false, cond, ◌&&◌, not, List, [], ◌∷◌, length, map, Option, Some, None, ◌⊎◌, inl, inr, arith, refl, ap, ap₂, sym, subst, ◌∙◌, eq-eqb, eqb-true}
use Rattle.std.specs.Prelude.{int_lt, ◌==◌, slice_set}
use Rattle.std.proofs.lemmas.Bool.{cond_both, cond-true, cond-false, false≢true}
use Rattle.std.proofs.lemmas.Int.{ints}
use Rattle.pc_frontier.specs.declared.node.State.{State}
use Rattle.pc_frontier.specs.declared.node.State.TheVariants as states
use Rattle.pc_frontier.specs.declared.node.Node.{Node}
use Rattle.pc_frontier.specs.Rings.{In, AreBelow, IsListed, last_of, without}
use Rattle.pc_frontier.specs.Frontier.{Seen, IsSound, IsKept, IsFalling, node_at, bound_at, set_state, is_open, pruned_node, pruned, above, low_of}
use Rattle.pc_frontier.specs.Inside.{IsFew, shut}
use Rattle.pc_frontier.proofs.Orders.{once_few}
use Rattle.pc_frontier.proofs.Chains.{below_in}
use Rattle.pc_frontier.proofs.Falling.{least_last, last_in}
use Rattle.pc_frontier.proofs.Sound.{is_kept, bound_kept}

-- ---- few enough to count
pub is_few : (limit capacity room : ℕ) (nodes : List Node) (opened : List ℕ) → IsSound limit capacity nodes opened → IsListed (record { limit = limit; numbers = opened })
    → IsFew (record { room = room; nodes = nodes; opened = opened })
is_few limit capacity room nodes opened h listed =
    let some : length opened ≤ limit = once_few limit opened listed.once listed.below in
    let small : limit < 4294967296 = h.small in
    record { kept = is_kept limit capacity nodes opened h room listed.once; few = omega (arith, some, small) }

-- ---- the last one
module _ (value : ℤ) (bounds : ℕ → ℤ) where
  pub low_none : (limit : ℕ) (xs : List ℕ) → AreBelow limit xs → last_of limit xs ≡ limit → None ≡ low_of value bounds 0 xs
  low_none limit [] below e = refl
  low_none limit (x ∷ xs) below e = let less : last_of x xs < limit = below_in (last_of x xs) limit (x ∷ xs) below (last_in x xs) in absurd (omega (arith, less, e))

  -- the number found is in the list, and its bound is not above the value
  pub record IsLow (xs : List ℕ) (k : ℕ) : Type 0 where
    pub inside : In k xs
    pub low : int_lt value (bounds k) ≡ false

  last_low : (x : ℕ) (xs : List ℕ) (k : ℕ) (b : Bool) → int_lt value (bounds (last_of x xs)) ≡ b → cond {A = Option ℕ} b None (Some (last_of x xs)) ≡ Some k → IsLow (x ∷ xs) k
  last_low x xs k true e f = absurd cc
  last_low x xs k false e f = let same : last_of x xs ≡ k = cc in subst (IsLow (x ∷ xs)) same (record { inside = last_in x xs; low = e })

  pub low_found : (xs : List ℕ) (k : ℕ) → low_of value bounds 0 xs ≡ Some k → IsLow xs k
  low_found [] k e = absurd cc
  low_found (x ∷ xs) k e = last_low x xs k (int_lt value (bounds (last_of x xs))) refl e

  last_above : (x : ℕ) (xs : List ℕ) (b : Bool) → cond {A = Option ℕ} b None (Some (last_of x xs)) ≡ None → b ≡ true
  last_above x xs true e = refl
  last_above x xs false e = absurd cc

  pub all_above : (xs : List ℕ) → IsFalling bounds xs → low_of value bounds 0 xs ≡ None → (k : ℕ) → In k xs → int_lt value (bounds k) ≡ true
  all_above [] h e k i = elim i [ ]
  all_above (x ∷ xs) h e k i =
      let last : int_lt value (bounds (last_of x xs)) ≡ true = last_above x xs (int_lt value (bounds (last_of x xs))) e in
      let low : bounds (last_of x xs) ≤ℤ bounds k = least_last bounds x xs k h i in
      grind (arith, ints, last, low)

  -- ---- the list
  pub above_all : (xs : List ℕ) → ((k : ℕ) → In k xs → int_lt value (bounds k) ≡ true) → above value bounds xs ≡ xs
  above_all [] h = refl
  above_all (x ∷ xs) h =
      cond-true (int_lt value (bounds x)) (x ∷ above value bounds xs) (above value bounds xs) (h x (inl refl)) ∙ ap (λ ys. x ∷ ys) (above_all xs (λ k i. h k (inr i)))

  above_skips : (x : ℕ) (xs : List ℕ) → int_lt value (bounds x) ≡ false → above value bounds (x ∷ xs) ≡ above value bounds xs
  above_skips x xs e = cond-false (int_lt value (bounds x)) (x ∷ above value bounds xs) (above value bounds xs) e

  pub above_without : (n : ℕ) (xs : List ℕ) → int_lt value (bounds n) ≡ false → above value bounds (without n xs) ≡ above value bounds xs
  above_without n [] e = refl
  above_without n (x ∷ xs) e =
      cond_both (x == n) xs (x ∷ without n xs) (λ ys. above value bounds ys ≡ above value bounds (x ∷ xs))
      (λ same. sym (above_skips x xs (ap (λ j. int_lt value (bounds j)) (eqb-true x n same) ∙ e)))
      (λ other. ap (λ ys. cond (int_lt value (bounds x)) (x ∷ ys) ys) (above_without n xs e))

  pub above_same : (after : ℕ → ℤ) (xs : List ℕ) → ((k : ℕ) → after k ≡ bounds k) → above value after xs ≡ above value bounds xs
  above_same after [] same = refl
  above_same after (x ∷ xs) same =
      ap₂ (λ (b : ℤ) (ys : List ℕ). cond (int_lt value b) (x ∷ ys) ys) (same x) (above_same after xs same)

pub length-without : (n : ℕ) (xs : List ℕ) → In n xs → length (without n xs) + 1 ≡ length xs
length-without n [] i = elim i [ ]
length-without n (x ∷ xs) i =
    cond_both (x == n) xs (x ∷ without n xs) (λ ys. length ys + 1 ≡ length (x ∷ xs)) (λ e. omega arith) (λ e. passed (λ j. length-without n xs j) e i)
  where
    passed : (In n xs → length (without n xs) + 1 ≡ length xs) → (x == n) ≡ false → In n (x ∷ xs) → length (x ∷ without n xs) + 1 ≡ length (x ∷ xs)
    passed rec e (inl f) = absurd (let t : (x == n) ≡ true = eq-eqb x n (sym f) in cc)
    passed rec e (inr j) = let h = rec j in omega (arith, h)

-- ---- the nodes
map_set : (f : Node → Node) (xs : List Node) (k : ℕ) (y : Node) → k < length xs → f y ≡ f (node_at xs k) → map f (slice_set xs k y) ≡ map f xs
map_set f [] k y less e = refl
map_set f (x ∷ xs) zero y less e = ap (λ z. z ∷ map f xs) e
map_set f (x ∷ xs) (suc k) y less e = ap (λ zs. f x ∷ zs) (map_set f xs k y (omega (arith, less)) e)

map_fixed : (f : Node → Node) (xs : List Node) → ((k : ℕ) → k < length xs → f (node_at xs k) ≡ node_at xs k) → map f xs ≡ xs
map_fixed f [] h = refl
map_fixed f (x ∷ xs) h = ap₂ (λ (y : Node) (ys : List Node). y ∷ ys) (h 0 (omega arith)) (map_fixed f xs (λ k less. h (suc k) (omega (arith, less))))

is_open_means : (s : State) → is_open s ≡ true → s ≡ states.Open
is_open_means states.Open e = refl
is_open_means (states.Split first) e = absurd (false≢true e)
is_open_means states.InHand e = absurd (false≢true e)
is_open_means states.Closed e = absurd (false≢true e)

module _ (value : ℤ) where
  -- a node that is open and of at most the bound is closed, as if it had been closed before
  shut_first : (node : Node) → node.state ≡ states.Open → int_lt value node.bound ≡ false → pruned_node value (record node { state = states.Closed }) ≡ pruned_node value node
  shut_first node e low =
      let test : (is_open node.state && not (int_lt value node.bound)) ≡ true = rw (e, low) refl in
      sym (cond-true (is_open node.state && not (int_lt value node.bound)) (record node { state = states.Closed }) node test)

  spared : (node : Node) → (node.state ≡ states.Open → int_lt value node.bound ≡ true) → pruned_node value node ≡ node
  spared node h =
      cond-false (is_open node.state && not (int_lt value node.bound)) (record node { state = states.Closed }) node (by (is_open node.state) refl)
    where
      by : (b : Bool) → is_open node.state ≡ b → (b && not (int_lt value node.bound)) ≡ false
      by true e = ap not (h (is_open_means node.state e))
      by false e = refl

  module _ (f : Seen) (kept : IsKept f) where
    pub pruned_shut : (k : ℕ) → IsLow value (bound_at f.nodes) f.opened k → pruned value (shut k f) ≡ pruned value f
    pruned_shut k h =
        let own = kept.opens k h.inside in
        let nodes : map (pruned_node value) (set_state f.nodes k states.Closed) ≡ map (pruned_node value) f.nodes =
        map_set (pruned_node value) f.nodes k (record (node_at f.nodes k) { state = states.Closed }) own.0 (shut_first (node_at f.nodes k) own.1 h.low) in
        let opened : above value (bound_at (set_state f.nodes k states.Closed)) (without k f.opened) ≡ above value (bound_at f.nodes) f.opened =
        above_same value (bound_at f.nodes) (bound_at (set_state f.nodes k states.Closed)) (without k f.opened) (λ j. bound_kept f.nodes k states.Closed j own.0)
        ∙ above_without value (bound_at f.nodes) k f.opened h.low in
        ap₂ (λ (xs : List Node) (ys : List ℕ). record { room = f.room; nodes = xs; opened = ys }) nodes opened

    pub pruned_all : low_of value (bound_at f.nodes) 0 f.opened ≡ None → pruned value f ≡ f
    pruned_all none =
        let over : (k : ℕ) → In k f.opened → int_lt value (bound_at f.nodes k) ≡ true = all_above value (bound_at f.nodes) f.opened kept.falling none in
        let nodes : map (pruned_node value) f.nodes ≡ f.nodes = map_fixed (pruned_node value) f.nodes (λ k less. spared (node_at f.nodes k) (λ e. over k (kept.all k less e))) in
        ap₂ (λ (xs : List Node) (ys : List ℕ). record { room = f.room; nodes = xs; opened = ys }) nodes (above_all value (bound_at f.nodes) f.opened over)

-- ---- the loop
pub record IsPruned (value : ℤ) (before now : Seen) (count : ℕ) : Type 0 where
  pub same : pruned value now ≡ pruned value before
  pub counted : count + length now.opened ≡ length before.opened
  pub few : (count ≡ 0) ⊎ (length before.opened < 4294967296)

few_before : (before now count : ℕ) → count + now ≡ before → now < 4294967296 → (count ≡ 0) ⊎ (before < 4294967296) → before < 4294967296
few_before before now count e less (inl none) = omega (arith, e, less, none)
few_before before now count e less (inr few) = few

module _ (value : ℤ) (before now : Seen) (count : ℕ) (h : IsPruned value before now count) (few : IsFew now) where
  pub prune_goes_on : (k : ℕ) → low_of value (bound_at now.nodes) 0 now.opened ≡ Some k → IsPruned value before (shut k now) (count + 1)
  prune_goes_on k e =
      let low = low_found value (bound_at now.nodes) now.opened k e in
      let less : length (without k now.opened) + 1 ≡ length now.opened = length-without k now.opened low.inside in
      let counted : count + length now.opened ≡ length before.opened = h.counted in
      record {
        same = pruned_shut value now few.kept k low ∙ h.same;
        counted = omega (arith, less, counted);
        few = inr (few_before (length before.opened) (length now.opened) count counted few.few h.few);
      }

  pub prune_ends : low_of value (bound_at now.nodes) 0 now.opened ≡ None → now ≡ pruned value before
  prune_ends e = sym (pruned_all value now few.kept e) ∙ h.same

pub prune_comes_nearer : (value : ℤ) (now : Seen) (k : ℕ) → low_of value (bound_at now.nodes) 0 now.opened ≡ Some k → length (without k now.opened) < length now.opened
prune_comes_nearer value now k e =
    let less : length (without k now.opened) + 1 ≡ length now.opened = length-without k now.opened (low_found value (bound_at now.nodes) now.opened k e).inside in
    omega (arith, less)
