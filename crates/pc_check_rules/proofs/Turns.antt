-- What the steps of a walk do to its open boxes.
use Rattle.std.proofs.Common.{◌≡◌, ℕ, ◌+◌, ◌<◌, List, [], ◌∷◌, ◌++◌, length, Some, refl, ap, ◌∙◌, sym, subst}
use Rattle.std.specs.Prelude.{slice_set, reverse, All}
use Rattle.std.proofs.lemmas.List.{length-set, set-set, set-get_or}
use Rattle.std.proofs.lemmas.List.Elements.{All-push, All-pop}
use Rattle.pc_program_bound.specs.Sums.{nat_at}
use Rattle.pc_check_rules.specs.declared.tree_line.Corner.{Corner}
use Rattle.pc_check_rules.specs.declared.walk.Turn.{Turn}
use Rattle.pc_check_rules.specs.declared.walk.Turn.TheVariants.{Less, More}
use Rattle.pc_check_rules.specs.declared.walk.Walk.{Walk}
use Rattle.pc_check_rules.specs.Walk.{in_less, in_more, more_part, corners_after, later_corners, corners_of, HasCell, IsStanding, IsNext, HasLeft, IsLeaving}
use Rattle.pc_check_rules.proofs.Loops.{reverse-push}

-- the number that stood at a place is put back
set_back : (xs : List ℕ) (i n : ℕ) → slice_set (slice_set xs i n) i (nat_at xs i) ≡ xs
set_back xs i n = set-set xs i n (nat_at xs i) ∙ set-get_or xs i 0

-- a further split is the first to be left
corners-further : (floors caps : List ℕ) (turns : List Turn) (turn : Turn)
    → corners_after floors caps (reverse (turns ++ turn ∷ [])) ≡ corners_after floors caps (turn ∷ reverse turns)
corners-further floors caps turns turn = ap (corners_after floors caps) (reverse-push turns turn)

-- behind the lesser part of a split comes the greater one, then what came before
pub less-corners : (w : Walk) (cell at : ℕ) → later_corners (in_less w cell at) ≡ more_part w.corner cell at ∷ later_corners w
less-corners w cell at =
    corners-further w.corner.floors (slice_set w.corner.caps cell at) w.turns (Less cell (nat_at w.corner.caps cell) (at + 1))
    ∙ ap (λ (caps : List ℕ). record { floors = slice_set w.corner.floors cell (at + 1); caps = caps } ∷ corners_after w.corner.floors caps (reverse w.turns)) (set_back w.corner.caps cell at)

more-corners : (w : Walk) (cell cap floor : ℕ)
    → corners_of (in_more w cell cap floor) ≡ corners_after w.corner.floors w.corner.caps (Less cell cap floor ∷ reverse w.turns)
more-corners w cell cap floor =
    let floors = slice_set w.corner.floors cell floor in
    let caps = slice_set w.corner.caps cell cap in
    ap (λ (later : List Corner). record { floors = floors; caps = caps } ∷ later)
    (corners-further floors caps w.turns (More cell (nat_at w.corner.floors cell))
    ∙ ap (λ (before : List ℕ). corners_after before caps (reverse w.turns)) (set_back w.corner.floors cell floor))

-- ---- the cells of the open splits

pub less-stands : (w : Walk) (cell at : ℕ) → cell < length w.corner.caps → IsStanding w → IsStanding (in_less w cell at)
less-stands w cell at there stands =
    let sized = length-set w.corner.caps cell at in
    record {
      paired = stands.paired ∙ sym sized;
      cells = subst (λ n. All (HasCell n) (w.turns ++ Less cell (nat_at w.corner.caps cell) (at + 1) ∷ [])) (sym sized)
          (All-push (HasCell (length w.corner.caps)) w.turns (Less cell (nat_at w.corner.caps cell) (at + 1)) stands.cells there);
    }

more-stands : (w : Walk) (cell cap floor : ℕ) → cell < length w.corner.caps → IsStanding w → IsStanding (in_more w cell cap floor)
more-stands w cell cap floor there stands =
    let sized = length-set w.corner.caps cell cap in
    record {
      paired = length-set w.corner.floors cell floor ∙ stands.paired ∙ sym sized;
      cells = subst (λ n. All (HasCell n) (w.turns ++ More cell (nat_at w.corner.floors cell) ∷ [])) (sym sized)
          (All-push (HasCell (length w.corner.caps)) w.turns (More cell (nat_at w.corner.floors cell)) stands.cells there);
    }

-- ---- out of the box of a leaf

pub more-done : (before : Walk) (floors : List ℕ) (turns : List Turn) (cell floor : ℕ) → IsLeaving before floors (turns ++ More cell floor ∷ [])
    → IsLeaving before (slice_set floors cell floor) turns
more-done before floors turns cell floor leaving = record {
  paired = length-set floors cell floor ∙ leaving.paired;
  cells = (All-pop (HasCell (length before.corner.caps)) (turns ++ More cell floor ∷ []) turns (Some (More cell floor)) refl leaving.cells).0;
  corners = leaving.corners ∙ corners-further floors before.corner.caps turns (More cell floor);
}

pub more-left : (before : Walk) (floors : List ℕ) (turns : List Turn) (cell cap floor : ℕ) → IsLeaving before floors (turns ++ Less cell cap floor ∷ [])
    → HasLeft before (in_more (record before { corner = record { floors = floors; caps = before.corner.caps }; turns = turns }) cell cap floor)
more-left before floors turns cell cap floor leaving =
    let popped = All-pop (HasCell (length before.corner.caps)) (turns ++ Less cell cap floor ∷ []) turns (Some (Less cell cap floor)) refl leaving.cells in
    let w : Walk = record before { corner = record { floors = floors; caps = before.corner.caps }; turns = turns } in
    record {
      stands = more-stands w cell cap floor popped.1 (record { paired = leaving.paired; cells = popped.0 });
      most = refl;
      next = subst (λ (later : List Corner). IsNext later (in_more w cell cap floor)) (sym (leaving.corners ∙ corners-further floors before.corner.caps turns (Less cell cap floor)))
          (more-corners w cell cap floor);
    }
