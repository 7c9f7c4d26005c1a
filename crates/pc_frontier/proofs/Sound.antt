-- The invariant of a frontier after each call.
use Rattle.std.proofs.Common.{◌≡◌, ◌≢◌, ◌<◌, ◌≤◌, ℕ, ◌+◌, ◌-◌, ℤ, true, false, List, [], ◌∷◌, ◌++◌, length, ◌⊎◌, inl, inr, arith, refl, ap, sym, subst, ◌∙◌, length-append, get_or-set_same, get_or-set_other}
use Rattle.std.specs.Prelude.{slice_set}
use Rattle.std.proofs.Math.ListN.{get_or-append}
use Rattle.std.proofs.lemmas.List.{length-set, get_or_push}
use Rattle.std.proofs.lemmas.Bool.{cases_eq}
use Rattle.pc_frontier.specs.declared.node.State.{State}
use Rattle.pc_frontier.specs.declared.node.State.TheVariants as states
use Rattle.pc_frontier.specs.declared.node.Node.{Node}
use Rattle.pc_frontier.specs.Rings.{In, IsOnce, without}
use Rattle.pc_frontier.specs.Frontier.{IsSound, IsKept, no_node, node_at, bound_at, set_state, placed, held, is_open}
use Rattle.pc_frontier.specs.Inside.{with_bound}
use Rattle.pc_frontier.proofs.Chains.{in_without}
use Rattle.pc_frontier.proofs.Falling.{Agree, falling_agreed, placed_falls, in_placed, placed_has, placed_keeps, without_keeps, without_drops, without_falls}

pub node_set_same : (nodes : List Node) (n : ℕ) (node : Node) → n < length nodes → node_at (slice_set nodes n node) n ≡ node
node_set_same nodes n node h = get_or-set_same nodes n node no_node h

pub node_set_other : (nodes : List Node) (n k : ℕ) (node : Node) → k ≢ n → node_at (slice_set nodes n node) k ≡ node_at nodes k
node_set_other nodes n k node ne = get_or-set_other nodes n k node no_node ne

-- what holds of a node that is set and of every other one
set_by : (P : Node → Type 0) (nodes : List Node) (n k : ℕ) (node : Node) → n < length nodes → (k ≡ n → P node) → (k ≢ n → P (node_at nodes k)) → P (node_at (slice_set nodes n node) k)
set_by P nodes n k node h own other = by (cases_eq k n)
  where
    by : (k ≡ n) ⊎ (k ≡ n → ⊥) → P (node_at (slice_set nodes n node) k)
    by (inl e) = let Q : ℕ → Type 0 = λ j. P (node_at (slice_set nodes n node) j) in subst Q (sym e) (subst P (sym (node_set_same nodes n node h)) (own e))
    by (inr ne) = subst P (sym (node_set_other nodes n k node ne)) (other ne)

closed_is_not : (s : State) → is_open s ≡ false → s ≡ states.Open → ⊥
closed_is_not s shut e = absurd (let f : true ≡ false = ap is_open (sym e) ∙ shut in cc)

in_hand_is_not : (nodes : List Node) (n : ℕ) → (node_at nodes n).state ≡ states.InHand → (node_at nodes n).state ≡ states.Open → ⊥
in_hand_is_not nodes n h e = closed_is_not (node_at nodes n).state (ap is_open h) e

pub bound_kept : (nodes : List Node) (n : ℕ) (s : State) (k : ℕ) → n < length nodes → bound_at (set_state nodes n s) k ≡ bound_at nodes k
bound_kept nodes n s k h =
    set_by (λ node. node.bound ≡ bound_at nodes k) nodes n k (record (node_at nodes n) { state = s }) h (λ e. ap (bound_at nodes) (sym e)) (λ ne. refl)

-- what is seen of a frontier after `hold`
pub seen_held : (limit : ℕ) (nodes : List Node) (opened : List ℕ) (n : ℕ) (bound : ℤ)
    → record { room = limit - length (with_bound nodes n bound); nodes = with_bound nodes n bound; opened = placed (bound_at nodes) n bound opened }
    ≡ held n bound (record { room = limit - length nodes; nodes = nodes; opened = opened })
seen_held limit nodes opened n bound =
    let same : length (with_bound nodes n bound) ≡ length nodes = length-set nodes n (record (node_at nodes n) { state = states.Open; bound = bound }) in
    ap (λ l. record { room = limit - l; nodes = with_bound nodes n bound; opened = placed (bound_at nodes) n bound opened }) same

pub sound_grown : (limit capacity : ℕ) (nodes : List Node) (opened : List ℕ) {more : ℕ} → capacity ≤ more → IsSound limit capacity nodes opened → IsSound limit more nodes opened
sound_grown limit capacity nodes opened {more} le h =
    let fits = h.fits in record { small = h.small; few = h.few; fits = omega (arith, fits, le); opens = h.opens; all = h.all; falling = h.falling }

module _ (limit capacity : ℕ) (nodes : List Node) (opened : List ℕ) (h : IsSound limit capacity nodes opened) where
  pub is_kept : (room : ℕ) → IsOnce opened → IsKept (record { room = room; nodes = nodes; opened = opened })
  is_kept room once = record { opens = h.opens; all = h.all; once = once; falling = h.falling }

  pub outside : (n : ℕ) → (node_at nodes n).state ≡ states.InHand → In n opened → ⊥
  outside n e i = in_hand_is_not nodes n e (h.opens n i).1

  differ : (n k : ℕ) → (node_at nodes n).state ≡ states.InHand → In k opened → k ≢ n
  differ n k e i f = let P : ℕ → Type 0 = λ j. In j opened in outside n e (subst P f i)

  -- ---- hold
  module _ (n : ℕ) (bound : ℤ) (there : n < length nodes) (hand : (node_at nodes n).state ≡ states.InHand) where
    held_few : length (with_bound nodes n bound) ≡ length nodes
    held_few = length-set nodes n (record (node_at nodes n) { state = states.Open; bound = bound })

    held_open : (k : ℕ) → (k ≡ n) ⊎ In k opened → (k < length (with_bound nodes n bound)) × ((node_at (with_bound nodes n bound) k).state ≡ states.Open)
    held_open k (inl e) = (
      let same = held_few in omega (arith, e, there, same),
      set_by (λ node. node.state ≡ states.Open) nodes n k (record (node_at nodes n) { state = states.Open; bound = bound }) there (λ f. refl) (λ ne. absurd (ne e)),
    )
    held_open k (inr i) = (
      let same = held_few in let o = h.opens k i in omega (arith, same, o.0),
      set_by (λ node. node.state ≡ states.Open) nodes n k (record (node_at nodes n) { state = states.Open; bound = bound }) there (λ f. refl) (λ ne. (h.opens k i).1),
    )

    held_all : (k : ℕ) → k < length (with_bound nodes n bound) → (node_at (with_bound nodes n bound) k).state ≡ states.Open → In k (placed (bound_at nodes) n bound opened)
    held_all k less e = by (cases_eq k n)
      where
        by : (k ≡ n) ⊎ (k ≡ n → ⊥) → In k (placed (bound_at nodes) n bound opened)
        by (inl f) = let P : ℕ → Type 0 = λ j. In j (placed (bound_at nodes) n bound opened) in subst P (sym f) (placed_has (bound_at nodes) n bound opened)
        by (inr ne) =
            let same : length (with_bound nodes n bound) ≡ length nodes = held_few in
            let there_too : k < length nodes = omega (arith, less, same) in
            let own : (node_at (with_bound nodes n bound) k).state ≡ (node_at nodes k).state =
            ap (λ (node : Node). node.state) (node_set_other nodes n k (record (node_at nodes n) { state = states.Open; bound = bound }) ne) in
            placed_keeps (bound_at nodes) n bound k opened (h.all k there_too (sym own ∙ e))

    held_bounds : Agree (bound_at nodes) (bound_at (with_bound nodes n bound)) opened
    held_bounds k i =
        ap (λ (node : Node). node.bound) (node_set_other nodes n k (record (node_at nodes n) { state = states.Open; bound = bound }) (differ n k hand i))

    held_own : bound_at (with_bound nodes n bound) n ≡ bound
    held_own = ap (λ (node : Node). node.bound) (node_set_same nodes n (record (node_at nodes n) { state = states.Open; bound = bound }) there)

    pub sound_held : IsSound limit capacity (with_bound nodes n bound) (placed (bound_at nodes) n bound opened)
    sound_held = record {
      small = h.small;
      few = let same = held_few in let few = h.few in omega (arith, same, few);
      fits = h.fits;
      opens = λ k i. held_open k (in_placed (bound_at nodes) n bound k opened i);
      all = held_all;
      falling = placed_falls (bound_at nodes) n bound (bound_at (with_bound nodes n bound)) opened held_own held_bounds h.falling;
    }

  -- ---- a node that is not open, or open no more
  module _ (n : ℕ) (s : State) (there : n < length nodes) (shut : is_open s ≡ false) where
    state_few : length (set_state nodes n s) ≡ length nodes
    state_few = length-set nodes n (record (node_at nodes n) { state = s })

    state_other : (k : ℕ) → k ≢ n → (node_at (set_state nodes n s) k).state ≡ (node_at nodes k).state
    state_other k ne = ap (λ (node : Node). node.state) (node_set_other nodes n k (record (node_at nodes n) { state = s }) ne)

    still_open : (k : ℕ) → k ≢ n → In k opened → (k < length (set_state nodes n s)) × ((node_at (set_state nodes n s) k).state ≡ states.Open)
    still_open k ne i = (let same = state_few in let o = h.opens k i in omega (arith, same, o.0), state_other k ne ∙ (h.opens k i).1)

    changed : (k : ℕ) → (node_at (set_state nodes n s) k).state ≡ states.Open → k ≢ n
    changed k e f =
        let own : (node_at (set_state nodes n s) n).state ≡ s = ap (λ (node : Node). node.state) (node_set_same nodes n (record (node_at nodes n) { state = s }) there) in
        let at : (node_at (set_state nodes n s) n).state ≡ states.Open = ap (λ j. (node_at (set_state nodes n s) j).state) (sym f) ∙ e in
        closed_is_not s shut (sym own ∙ at)

    was_open : (k : ℕ) → k < length (set_state nodes n s) → (node_at (set_state nodes n s) k).state ≡ states.Open → In k opened
    was_open k less e =
        let same = state_few in
        h.all k (omega (arith, less, same)) (sym (state_other k (changed k e)) ∙ e)

    state_bounds : Agree (bound_at nodes) (bound_at (set_state nodes n s)) opened
    state_bounds k i = bound_kept nodes n s k there

    pub sound_moved : (node_at nodes n).state ≡ states.InHand → IsSound limit capacity (set_state nodes n s) opened
    sound_moved hand = record {
      small = h.small;
      few = let same = state_few in let few = h.few in omega (arith, same, few);
      fits = h.fits;
      opens = λ k i. still_open k (differ n k hand i) i;
      all = was_open;
      falling = falling_agreed (bound_at nodes) (bound_at (set_state nodes n s)) opened state_bounds h.falling;
    }

    out : (k : ℕ) → IsOnce opened → In k (without n opened) → k ≢ n
    out k once i e = let P : ℕ → Type 0 = λ j. In j (without n opened) in without_drops n opened once (subst P e i)

    pub sound_without : IsOnce opened → IsSound limit capacity (set_state nodes n s) (without n opened)
    sound_without once = record {
      small = h.small;
      few = let same = state_few in let few = h.few in omega (arith, same, few);
      fits = h.fits;
      opens = λ k i. still_open k (out k once i) (in_without n k opened i);
      all = λ k less e. without_keeps n k opened (changed k e) (was_open k less e);
      falling = without_falls n (bound_at (set_state nodes n s)) opened (falling_agreed (bound_at nodes) (bound_at (set_state nodes n s)) opened state_bounds h.falling);
    }

  -- ---- a new node
  module _ (node : Node) (shut : is_open node.state ≡ false) (room : length nodes < limit) where
    old_node : (k : ℕ) → k < length nodes → node_at (nodes ++ node ∷ []) k ≡ node_at nodes k
    old_node k less = get_or-append nodes (node ∷ []) no_node k less

    more : length (nodes ++ node ∷ []) ≡ length nodes + 1
    more = omega (arith, length-append nodes (node ∷ []))

    push_open : (k : ℕ) → In k opened → (k < length (nodes ++ node ∷ [])) × ((node_at (nodes ++ node ∷ []) k).state ≡ states.Open)
    push_open k i =
        let o = h.opens k i in
        (let same = more in omega (arith, same, o.0), ap (λ (x : Node). x.state) (old_node k o.0) ∙ o.1)

    push_all : (k : ℕ) → k < length (nodes ++ node ∷ []) → (node_at (nodes ++ node ∷ []) k).state ≡ states.Open → In k opened
    push_all k less e = by (cases_eq k (length nodes))
      where
        by : (k ≡ length nodes) ⊎ (k ≡ length nodes → ⊥) → In k opened
        by (inl f) = absurd (closed_is_not node.state shut (ap (λ (x : Node). x.state) (sym (get_or_push nodes node no_node k (sym f))) ∙ e))
        by (inr ne) =
            let same = more in
            let old : k < length nodes = omega (arith, less, same, ne) in
            h.all k old (ap (λ (x : Node). x.state) (sym (old_node k old)) ∙ e)

    pub sound_pushed : IsSound limit capacity (nodes ++ node ∷ []) opened
    sound_pushed = record {
      small = h.small;
      few = let same = more in omega (arith, same, room);
      fits = h.fits;
      opens = push_open;
      all = push_all;
      falling =
          falling_agreed (bound_at nodes) (bound_at (nodes ++ node ∷ [])) opened (λ k i. ap (λ (x : Node). x.bound) (old_node k (h.opens k i).0)) h.falling;
    }
