-- The texts that are joined so far, and those that are left.
use Rattle.std.proofs.Common.{◌≡◌, ℕ, zero, suc, ◌+◌, ◌-◌, ◌<◌, ◌≤◌, List, [], ◌∷◌, ◌++◌, length, get_or, drop, refl, append_assoc, ◌∙◌, ap, arith}
use Rattle.std.proofs.lemmas.List.{append-nil, drop_all}
use Rattle.pc_desk_wants.specs.Joined.{joined, joint}

one_joined : (last : List ℕ) (texts : List (List ℕ)) (i : ℕ) (text : List ℕ) → text ≡ get_or texts i text → i < length texts →
    text ++ (joint last (length texts - i - 1) ++ joined last (drop (i + 1) texts)) ≡ joined last (drop i texts)
unfolding joined
one_joined last [] i text is inside = absurd (omega (arith, inside))
one_joined last (first ∷ rest) zero text is inside =
    let e : suc (length rest) - 0 - 1 ≡ length rest = omega arith in rw (e, is) refl
one_joined last (first ∷ rest) (suc i) text is inside =
    let e : suc i + 1 ≡ suc (i + 1) = omega arith in
    let d : suc (length rest) - suc i - 1 ≡ length rest - i - 1 = omega arith in
    rw (e, d) (one_joined last rest i text is (omega (arith, inside)))

module _ (last out : List ℕ) (texts : List (List ℕ)) (i : ℕ) where
  pub joined_step : (text : List ℕ) → text ≡ get_or texts i text → i < length texts →
      ((out ++ text) ++ joint last (length texts - i - 1)) ++ joined last (drop (i + 1) texts) ≡ out ++ joined last (drop i texts)
  joined_step text is inside =
      append_assoc (out ++ text) (joint last (length texts - i - 1)) (joined last (drop (i + 1) texts))
      ∙ append_assoc out text (joint last (length texts - i - 1) ++ joined last (drop (i + 1) texts))
      ∙ ap (λ more. out ++ more) (one_joined last texts i text is inside)

  pub joined_end : length texts ≤ i → out ++ joined last (drop i texts) ≡ out
  unfolding joined
  joined_end end = rw (drop_all i texts end) (append-nil out)

pub ruleset steps = (joined_step, joined_end)
