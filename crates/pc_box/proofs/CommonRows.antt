-- The common box: how its sides are gathered, and its rows.
use Rattle.std.proofs.Common.{◌≡◌, ℕ, ◌+◌, ◌<◌, ◌≤◌, ◌&&◌, Bool, true, false, List, [], ◌∷◌, ◌++◌, length, get_or, drop, Option, Some, None, IfOk, IfSome, MatchOption, Result, Ok, Err, if◌then◌else◌, refl, sym, subst, add-one, drop-cons, append_assoc}
use Rattle.std.proofs.lemmas.List.{drop_all, append-nil}
use Rattle.pc_num.specs.declared.memory.Memory.{Memory}
use Rattle.pc_model.specs.declared.row.Row.{Row}
use Rattle.pc_model.specs.declared.region.Side.{Side}
use Rattle.pc_model.specs.declared.region.Region.{Region}
use Rattle.pc_model.specs.Membership.{has}
use Rattle.pc_model.specs.CutTrees.{IsApart}
use Rattle.pc_box.specs.Boxes.{AreAlike}
use Rattle.pc_box.specs.Sides.{regions_meet, common_side, common_sides, common_region}
use Rattle.pc_box.proofs.Rows.{all_like_common, all_held_common, apart_from_test}

pub common_step : (items xs ys : List Side) (i : ℕ) (x y : Side) → i < length xs → i < length ys → (items ++ common_side (get_or xs i x) (get_or ys i y) ∷ []) ++ common_sides (drop (i + 1) xs) (drop (i + 1) ys) ≡ items ++ common_sides (drop i xs) (drop i ys)
common_step items xs ys i x y in_xs in_ys = rw (add-one, drop-cons xs i x in_xs, drop-cons ys i y in_ys) (append_assoc items (common_side (get_or xs i x) (get_or ys i y) ∷ []) _)

pub common_end : (items xs ys : List Side) (i : ℕ) → length xs ≤ i → items ++ common_sides (drop i xs) (drop i ys) ≡ items
common_end items xs ys i past = rw (drop_all i xs past) (append-nil items)

pub ruleset steps = (common_step, common_end)

-- what is said of a common box
abbrev IsCommon : Region → Region → Option Region → Type 0
IsCommon a b found = MatchOption found (IsApart a b) (λ (common : Region). (row : Row) → has common row ≡ (has a row && has b row))

abbrev IsLike : Region → Option Region → Type 0
IsLike a found = IfSome found (λ (common : Region). AreAlike a common)

rows_held : (a b : Region) → AreAlike a b → regions_meet a b ≡ true → (row : Row) → has (record { sides = common_sides a.sides b.sides }) row ≡ (has a row && has b row)
unfolding has regions_meet
rows_held a b alike meet row = all_held_common a.sides b.sides row.cells alike meet

likeness : (a b : Region) → AreAlike a b → regions_meet a b ≡ true → AreAlike a (record { sides = common_sides a.sides b.sides })
unfolding regions_meet
likeness a b alike meet = all_like_common a.sides b.sides alike meet

found_common : (a b : Region) → AreAlike a b → IsCommon a b (common_region a b) × IsLike a (common_region a b)
found_common a b alike = by_test (regions_meet a b) refl
  where
    by_test : (test : Bool) → regions_meet a b ≡ test → IsCommon a b (if test then Some (record { sides = common_sides a.sides b.sides }) else None) × IsLike a (if test then Some (record { sides = common_sides a.sides b.sides }) else None)
    by_test true e = (rows_held a b alike e, likeness a b alike e)
    by_test false e = (apart_from_test a b alike e, tt)

pub common_rows : (a b : Region) (result : Result (Option Region) Memory) → AreAlike a b → IfOk result (λ found. found ≡ common_region a b) → IfOk result (λ found. MatchOption found (IsApart a b) (λ (common : Region). (row : Row) → has common row ≡ (has a row && has b row)))
common_rows a b (Ok found) alike e = subst (IsCommon a b) (sym e) (found_common a b alike).0
common_rows a b (Err memory) alike e = tt

pub common_alike : (a b : Region) (result : Result (Option Region) Memory) → AreAlike a b → IfOk result (λ found. found ≡ common_region a b) → IfOk result (λ found. IfSome found (λ (common : Region). AreAlike a common))
common_alike a b (Ok found) alike e = subst (IsLike a) (sym e) (found_common a b alike).1
common_alike a b (Err memory) alike e = tt
