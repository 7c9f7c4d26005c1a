-- What keeps the fit of a start box.
use Rattle.std.proofs.Common.{◌≡◌, ◌<◌, ℕ, ◌+◌, Bool, true, false, List, length, Some, sym, ap, ◌∙◌, subst, arith, inl, inr}
use Rattle.std.specs.Bool.{⊤}
use Rattle.std.proofs.lemmas.Bool.{cases_lt, cases_eq}
use Rattle.pc_frontier.specs.declared.node.Born.{Born}
use Rattle.pc_frontier.specs.declared.node.Node.{Node}
use Rattle.pc_frontier.specs.Frontier.{Seen, IsInHand, node_at, born_of, with_split}
use Rattle.pc_frontier.specs.Boxes.{Box, box_at, AreOrdered, AreLeavesKept, AreFitting, IsFitting, HasRange}
use Rattle.pc_frontier.proofs.Trees.{IsParted, split_parts, none_some}
use Rattle.pc_frontier.proofs.Boxed.{same_boxes}

some_same : (a b : Born) → Some a ≡ Some b → a ≡ b
some_same a b e = cc

-- a fit where the parent has the same box
fit_moved : (before after : List Node) (start : Box) (born : Born) → box_at after start born.parent ≡ box_at before start born.parent → IsFitting before start born → IsFitting after start born
fit_moved before after start born same fits = record {
  floor = fits.floor;
  cap = fits.cap;
  low = rw same fits.low;
  high = rw same fits.high;
}

pub calls_keep_fit : (before after : List Node) (start : Box) → AreLeavesKept before after → AreFitting before start → AreFitting after start
calls_keep_fit before after start kept fits n born e =
    fit_moved before after start born
    (same_boxes before after start (λ i. ⊤) (λ i is. kept.born i) (λ i b is made. tt) (born.parent + 1) born.parent tt)
    (fits n born (sym (kept.born n) ∙ e))

module _ (before after : List Node) (start : Box) (n cell at : ℕ) (made : IsParted before after n cell at) (ordered : AreOrdered before) where
  same_box : (k : ℕ) → k < length before → box_at after start k ≡ box_at before start k
  same_box k old =
      same_boxes before after start (λ i. i < length before) made.born (λ i born h e. omega (arith, ordered i born e)) (k + 1) k old

  fit_of_child : HasRange before start n cell at → (born : Born) (more : Bool) → Some born ≡ born_of n cell at more → IsFitting after start born
  fit_of_child range born more e = subst (IsFitting after start) (sym (some_same born _ e)) (record {
    floor = range.floor;
    cap = range.cap;
    low = rw (same_box n made.there) range.low;
    high = rw (same_box n made.there) range.high;
  })

  fit_after : AreFitting before start → HasRange before start n cell at → AreFitting after start
  fit_after fits range i born e = elim (cases_lt i (length before)) [
    | inl old ↦
        let was : (node_at before i).born ≡ Some born = sym (made.born i old) ∙ e in
        fit_moved before after start born (same_box born.parent (omega (arith, old, ordered i born was))) (fits i born was)
    | inr new ↦ elim (cases_eq i (length before)) [
      | inl same ↦ fit_of_child range born false (sym e ∙ (ap (λ k. (node_at after k).born) same ∙ made.first_born))
      | inr other ↦ elim (cases_eq i (length before + 1)) [
        | inl same ↦ fit_of_child range born true (sym e ∙ (ap (λ k. (node_at after k).born) same ∙ made.second_born))
        | inr far ↦ absurd (none_some born (sym (made.none i (omega (arith, new, other, far))) ∙ e))
      ]
    ]
  ]

pub splits_keep_fit : (f : Seen) (start : Box) (n cell at : ℕ) → IsInHand f n → AreOrdered f.nodes → AreFitting f.nodes start → HasRange f.nodes start n cell at → AreFitting (with_split n cell at f).nodes start
splits_keep_fit f start n cell at hand ordered fits range =
    fit_after f.nodes (with_split n cell at f).nodes start n cell at (split_parts f n cell at hand) ordered fits range
