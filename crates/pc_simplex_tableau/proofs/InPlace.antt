-- Numbers that are changed in their place, one after the other.
use Rattle.std.proofs.Common.{◌≡◌, ◌<◌, ◌+◌, ◌++◌, ℕ, ℤ, pos, List, length, get_or, set, take, drop, map, All}
use Rattle.std.proofs.lemmas.List.{get_or_default}
use Rattle.std.proofs.lemmas.List.Edits.{map_over_more}
use Rattle.std.proofs.lemmas.List.Elements.{All-set}
use Rattle.pc_num.proofs.Signed.{as_passed, passed}
use Rattle.pc_program_bound.specs.Bound.{IsFit}

pub one_set_fit : (numbers : List ℤ) (i : ℕ) (entry : ℤ) → IsFit entry → All IsFit numbers → All IsFit (set numbers i (as_passed entry))
one_set_fit numbers i entry fits all = rw (passed entry fits) (All-set IsFit numbers i entry fits all)

pub mapped_more : (f : ℤ → ℤ) (old new : List ℤ) (i : ℕ) (z : ℤ) → i < length old → i < length new → new ≡ map f (take i old) ++ drop i old → IsFit (get_or new i (pos 0)) →
    z ≡ f (as_passed (get_or new i (pos 0))) → IsFit z → set new i (as_passed z) ≡ map f (take (i + 1) old) ++ drop (i + 1) old
mapped_more f old new i z within inside made read_fits e fits =
    let clean : z ≡ f (get_or new i (pos 0)) = rw (passed (get_or new i (pos 0)) read_fits) at e in
    rw (passed z fits, clean) (map_over_more f old new i (get_or new i (pos 0)) within made (get_or_default new i (pos 0) (get_or new i (pos 0)) inside))
