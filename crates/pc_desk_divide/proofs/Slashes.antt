-- The last slash of a text, as far as a loop has come.
use Rattle.std.proofs.Common.{◌≡◌, ℕ, zero, suc, ◌+◌, ◌<◌, ◌≤◌, ◌==◌, false, List, [], ◌∷◌, Some, None, length, get_or, take, drop, refl, sym, subst, arith, drop-cons}
use Rattle.std.proofs.lemmas.List.{drop_all}
use Rattle.std.proofs.lemmas.Bool.Decides.{nat_tests}
use Rattle.pc_desk_divide.specs.Reading.{last_cut}
use Rattle.pc_desk_divide.proofs.Commas.{rest_is}

-- behind the end stands none
pub none_behind : (text : List ℕ) (i : ℕ) → length text ≤ i → last_cut (drop i text) ≡ None
unfolding last_cut
none_behind text i past = rw (drop_all i text past) refl

-- a byte that is no slash
pub none_more : (text : List ℕ) (i : ℕ) → i < length text → (get_or text i 0 ≡ 47 → ⊥) → last_cut (drop (i + 1) text) ≡ None → last_cut (drop i text) ≡ None
unfolding last_cut
none_more text i inside other none =
    let differs : (get_or text i 0 == 47) ≡ false = grind (arith, nat_tests) in
    let next : i + 1 ≡ suc i = omega arith in
    let behind : last_cut (drop (suc i) text) ≡ None = subst (λ k. last_cut (drop k text) ≡ None) next none in
    rw (drop-cons text i 0 inside, behind, differs) refl

-- a slash behind which stands none is the last
pub cut_there : (text : List ℕ) (i : ℕ) → i < length text → get_or text i 0 ≡ 47 → last_cut (drop (i + 1) text) ≡ None → last_cut text ≡ Some (take i text, drop (i + 1) text)
unfolding last_cut
cut_there [] i inside here none = absurd (omega arith)
cut_there (byte ∷ rest) zero inside here none = rw (here, none) refl
cut_there (byte ∷ rest) (suc i) inside here none =
    let next : suc i + 1 ≡ suc (i + 1) = omega arith in
    subst (λ k. last_cut (byte ∷ rest) ≡ Some (take (suc i) (byte ∷ rest), drop k (byte ∷ rest))) (sym next)
    (rw (cut_there rest i (omega arith) here (subst (λ k. last_cut (drop k (byte ∷ rest)) ≡ None) next none)) refl)

pub ruleset steps = (rest_is, none_behind, none_more, cut_there)
