-- How the boxes of the rest are gathered, side by side.
use Rattle.std.proofs.Common.{◌≡◌, ℕ, ◌+◌, ◌<◌, ◌≤◌, List, [], ◌∷◌, ◌++◌, length, get_or, drop, ◌∙◌, ap, add-one, drop-cons, append_assoc}
use Rattle.std.proofs.lemmas.List.{drop_all, append-nil}
use Rattle.pc_model.specs.declared.region.Side.{Side}
use Rattle.pc_model.specs.declared.region.Region.{Region}
use Rattle.pc_box.specs.Sides.{common_side, lower_rest, upper_rest, box_with, rest_after}

-- the boxes of one side, before those of the sides after it
pub rest_step : (boxes : List Region) (front xs ys : List Side) (i : ℕ) (x y : Side) → i < length xs → i < length ys →
    ((boxes ++ box_with front (lower_rest (get_or xs i x) (get_or ys i y)) (drop (i + 1) xs)) ++ box_with front (upper_rest (get_or xs i x) (get_or ys i y)) (drop (i + 1) xs))
    ++ rest_after (front ++ common_side (get_or xs i x) (get_or ys i y) ∷ []) (drop (i + 1) xs) (drop (i + 1) ys)
    ≡ boxes ++ rest_after front (drop i xs) (drop i ys)
rest_step boxes front xs ys i x y in_xs in_ys =
    rw (add-one, drop-cons xs i x in_xs, drop-cons ys i y in_ys) (grouped boxes _ _ _)
  where
    grouped : (a b c d : List Region) → ((a ++ b) ++ c) ++ d ≡ a ++ ((b ++ c) ++ d)
    grouped a b c d = ap (λ (l : List Region). l ++ d) (append_assoc a b c) ∙ append_assoc a (b ++ c) d

pub rest_end : (boxes : List Region) (front xs ys : List Side) (i : ℕ) → length xs ≤ i → boxes ++ rest_after front (drop i xs) (drop i ys) ≡ boxes
rest_end boxes front xs ys i past = rw (drop_all i xs past) (append-nil boxes)

pub ruleset steps = (rest_step, rest_end)

pub no_box : (boxes : List Region) → boxes ++ [] ≡ boxes
no_box boxes = append-nil boxes

pub joined : (front back : List Side) (side : Side) → (front ++ side ∷ []) ++ back ≡ front ++ side ∷ back
joined front back side = append_assoc front (side ∷ []) back

pub ruleset box_steps = (no_box, joined)
