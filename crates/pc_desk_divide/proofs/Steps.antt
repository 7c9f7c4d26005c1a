-- Lists as far as loops have come.
use Rattle.std.proofs.Common.{◌≡◌, ◌∙◌, ℕ, zero, suc, ◌+◌, ◌<◌, ◌≤◌, List, [], ◌∷◌, ◌++◌, flat_map, get_or, length, map, take, refl, sym, ap, arith, append_assoc, append-nil}
use Rattle.std.specs.List.{filter_map, range_with_len}
use Rattle.std.proofs.lemmas.List.{take_more, take_all}
use Rattle.std.proofs.lemmas.List.Concat.{flat_map-append}
use Rattle.std.proofs.lemmas.List.Elements.{filter_map-append}
use Rattle.std.proofs.lemmas.List.FromFn.{map-range_with_len_more}
use Rattle.pc_model.specs.declared.area.Area.{Area}
use Rattle.pc_model.specs.declared.region.Region.{Region}
use Rattle.pc_model.specs.declared.region.Side.{Side}
use Rattle.pc_desk_divide.specs.declared.parting.Parting.{Parting}
use Rattle.pc_desk_divide.specs.Cells.{cut_cell, cut_cells, listed, narrowed, narrowed_area, narrowed_boxes}
use Rattle.pc_desk_divide.specs.Pieces.{name_in}

-- ---- what each item adds

module _ {X Y : Type 0} (f : X → List Y) where
  one_more : (x : X) → flat_map f (x ∷ []) ≡ f x
  one_more x = append-nil (f x)

  flat_more : (xs : List X) (i : ℕ) (d : X) → i < length xs → flat_map f (take i xs) ++ f (get_or xs i d) ≡ flat_map f (take (i + 1) xs)
  flat_more xs i d here =
      sym (ap (flat_map f) (take_more xs i d here) ∙ flat_map-append f (take i xs) (get_or xs i d ∷ []) ∙ ap (λ (ys : List Y). flat_map f (take i xs) ++ ys) (one_more (get_or xs i d)))

-- ---- names

same_range : (i : ℕ) → map (λ (k : ℕ). k) (range_with_len 0 i) ≡ range_with_len 0 i
same_range i = same 0 i
  where
    same : (a n : ℕ) → map (λ (k : ℕ). k) (range_with_len a n) ≡ range_with_len a n
    same a zero = refl
    same a (suc n) = ap (λ (ks : List ℕ). a ∷ ks) (same (a + 1) n)

range_more : (i : ℕ) → range_with_len 0 (i + 1) ≡ range_with_len 0 i ++ i ∷ []
range_more i =
    sym (same_range (i + 1)) ∙ map-range_with_len_more (λ (k : ℕ). k) 0 i i (omega arith) ∙ ap (λ (ks : List ℕ). ks ++ i ∷ []) (same_range i)

pub name_more : (bits i : ℕ) → flat_map (name_in bits) (range_with_len 0 i) ++ name_in bits i ≡ flat_map (name_in bits) (range_with_len 0 (i + 1))
name_more bits i =
    sym (ap (flat_map (name_in bits)) (range_more i) ∙ flat_map-append (name_in bits) (range_with_len 0 i) (i ∷ [])
    ∙ ap (λ (ys : List Side). flat_map (name_in bits) (range_with_len 0 i) ++ ys) (one_more (name_in bits) i))

pub ruleset name_steps = (name_more)

-- ---- cells

pub cells_more : (cells : List Area) (parting : Parting) (i : ℕ) (d : Area) → i < length cells → cut_cells (take i cells) parting ++ cut_cell parting (get_or cells i d) ≡ cut_cells (take (i + 1) cells) parting
cells_more cells parting i d here = flat_more (cut_cell parting) cells i d here

pub cells_all : (cells : List Area) (parting : Parting) (i : ℕ) → length cells ≤ i → cut_cells (take i cells) parting ≡ cut_cells cells parting
cells_all cells parting i past = rw (take_all i cells past) refl

pub ruleset cell_steps = (cells_more, cells_all)

module _ (cells : List Area) (column : ℕ) (cell : Area) (pieces : List Side) (i : ℕ) where
  pub pieces_more : (d : Side) → i < length pieces →
      (cells ++ flat_map (λ (piece : Side). listed (narrowed_area column cell piece)) (take i pieces)) ++ listed (narrowed_area column cell (get_or pieces i d))
      ≡ cells ++ flat_map (λ (piece : Side). listed (narrowed_area column cell piece)) (take (i + 1) pieces)
  pieces_more d here =
      append_assoc cells _ _ ∙ ap (λ (more : List Area). cells ++ more) (flat_more (λ (piece : Side). listed (narrowed_area column cell piece)) pieces i d here)

  pub pieces_all : length pieces ≤ i →
      cells ++ flat_map (λ (piece : Side). listed (narrowed_area column cell piece)) (take i pieces)
      ≡ cells ++ flat_map (λ (piece : Side). listed (narrowed_area column cell piece)) pieces
  pieces_all past = rw (take_all i pieces past) refl

pub ruleset piece_steps = (pieces_more, pieces_all)

-- ---- boxes

pub boxes_none : (column : ℕ) (piece : Side) → [] ≡ narrowed_boxes column piece []
unfolding narrowed_boxes
boxes_none column piece = refl

pub boxes_more : (column : ℕ) (piece : Side) (boxes : List Region) (i : ℕ) (d : Region) → i < length boxes →
    narrowed_boxes column piece (take i boxes) ++ filter_map (narrowed column piece) (get_or boxes i d ∷ []) ≡ narrowed_boxes column piece (take (i + 1) boxes)
unfolding narrowed_boxes
boxes_more column piece boxes i d here =
    sym (ap (filter_map (narrowed column piece)) (take_more boxes i d here) ∙ filter_map-append (narrowed column piece) (take i boxes) (get_or boxes i d ∷ []))

pub boxes_all : (column : ℕ) (piece : Side) (boxes : List Region) (i : ℕ) → length boxes ≤ i → narrowed_boxes column piece (take i boxes) ≡ narrowed_boxes column piece boxes
boxes_all column piece boxes i past = rw (take_all i boxes past) refl

pub ruleset box_steps = (boxes_none, boxes_more, boxes_all)

-- ---- ranges

pub ruleset range_steps = (map-range_with_len_more)
