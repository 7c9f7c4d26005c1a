-- What the steps of a walk do to its open boxes.
use Rattle.std.proofs.Common.{◌≡◌, ℕ, ◌+◌, ◌<◌, List, [], ◌∷◌, ◌++◌, length, Some, refl, ap, ◌∙◌, sym, subst}
use Rattle.std.specs.Prelude.{slice_set, reverse, All}
use Rattle.std.proofs.lemmas.List.{length-set, set-set, set-get_or, reverse-append}
use Rattle.std.proofs.lemmas.List.Elements.{All-push, All-pop}
use Rattle.pc_program_bound.specs.Sums.{nat_at}
use Rattle.pc_program_bound.specs.declared.walk.OpenSplit.{OpenSplit}
use Rattle.pc_program_bound.specs.declared.walk.OpenSplit.TheVariants.{Less, More}
use Rattle.pc_program_bound.specs.declared.walk.Walk.{Walk}
use Rattle.pc_program_bound.specs.Walk.{in_less, in_more, boxes_after, later_boxes, boxes_of, HasCell, IsStanding, IsNext, HasLeft, IsLeaving}

-- the number that stood at a place is put back
set_back : (xs : List ℕ) (i n : ℕ) → slice_set (slice_set xs i n) i (nat_at xs i) ≡ xs
set_back xs i n = set-set xs i n (nat_at xs i) ∙ set-get_or xs i 0

-- a further split is the first to be left
pub boxes-further : (floors caps : List ℕ) (splits : List OpenSplit) (split : OpenSplit)
    → boxes_after floors caps (reverse (splits ++ split ∷ [])) ≡ boxes_after floors caps (split ∷ reverse splits)
boxes-further floors caps splits split = ap (boxes_after floors caps) (reverse-append splits (split ∷ []))

pub less-boxes : (w : Walk) (cell at : ℕ)
    → later_boxes (in_less w cell at) ≡ record { floors = slice_set w.floors cell (at + 1); caps = w.caps } ∷ later_boxes w
less-boxes w cell at =
    boxes-further w.floors (slice_set w.caps cell at) w.splits (Less cell (nat_at w.caps cell) (at + 1))
    ∙ ap (λ caps. record { floors = slice_set w.floors cell (at + 1); caps = caps } ∷ boxes_after w.floors caps (reverse w.splits)) (set_back w.caps cell at)

more-boxes : (w : Walk) (cell most floor : ℕ)
    → boxes_of (in_more w cell most floor) ≡ boxes_after w.floors w.caps (reverse (w.splits ++ Less cell most floor ∷ []))
more-boxes w cell most floor =
    ap (λ boxes. record { floors = slice_set w.floors cell floor; caps = slice_set w.caps cell most } ∷ boxes)
    (boxes-further (slice_set w.floors cell floor) (slice_set w.caps cell most) w.splits (More cell (nat_at w.floors cell))
    ∙ ap (λ floors. boxes_after floors (slice_set w.caps cell most) (reverse w.splits)) (set_back w.floors cell floor))
    ∙ sym (boxes-further w.floors w.caps w.splits (Less cell most floor))

-- ---- the cells of the open splits

pub less-stands : (w : Walk) (cell at : ℕ) → cell < length w.caps → IsStanding w → IsStanding (in_less w cell at)
less-stands w cell at there stands =
    let sized = length-set w.caps cell at in
    record {
      paired = stands.paired ∙ sym sized;
      cells = subst (λ n. All (HasCell n) (w.splits ++ Less cell (nat_at w.caps cell) (at + 1) ∷ [])) (sym sized)
          (All-push (HasCell (length w.caps)) w.splits (Less cell (nat_at w.caps cell) (at + 1)) stands.cells there);
    }

more-stands : (w : Walk) (cell most floor : ℕ) → cell < length w.caps → IsStanding w → IsStanding (in_more w cell most floor)
more-stands w cell most floor there stands =
    let sized = length-set w.caps cell most in
    record {
      paired = length-set w.floors cell floor ∙ stands.paired ∙ sym sized;
      cells = subst (λ n. All (HasCell n) (w.splits ++ More cell (nat_at w.floors cell) ∷ [])) (sym sized)
          (All-push (HasCell (length w.caps)) w.splits (More cell (nat_at w.floors cell)) stands.cells there);
    }

-- ---- out of the box of a leaf

pub more-done : (before : Walk) (floors : List ℕ) (splits : List OpenSplit) (cell floor : ℕ) → IsLeaving before floors (splits ++ More cell floor ∷ [])
    → IsLeaving before (slice_set floors cell floor) splits
more-done before floors splits cell floor leaving = record {
  paired = length-set floors cell floor ∙ leaving.paired;
  cells = (All-pop (HasCell (length before.caps)) (splits ++ More cell floor ∷ []) splits (Some (More cell floor)) refl leaving.cells).0;
  boxes = leaving.boxes ∙ boxes-further floors before.caps splits (More cell floor);
}

pub more-left : (before : Walk) (floors : List ℕ) (splits : List OpenSplit) (cell most floor : ℕ) → IsLeaving before floors (splits ++ Less cell most floor ∷ [])
    → HasLeft before (in_more (record before { floors = floors; splits = splits }) cell most floor)
more-left before floors splits cell most floor leaving =
    let popped = All-pop (HasCell (length before.caps)) (splits ++ Less cell most floor ∷ []) splits (Some (Less cell most floor)) refl leaving.cells in
    let w : Walk = record before { floors = floors; splits = splits } in
    let boxes = leaving.boxes ∙ boxes-further floors before.caps splits (Less cell most floor) in
    record {
      stands = more-stands w cell most floor popped.1 (record { paired = leaving.paired; cells = popped.0 });
      most = refl;
      boxes = subst (λ later. IsNext later (in_more w cell most floor)) (sym boxes)
          (more-boxes w cell most floor ∙ boxes-further floors before.caps splits (Less cell most floor));
    }
