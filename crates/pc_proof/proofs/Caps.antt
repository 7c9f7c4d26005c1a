-- The cap of a mask, as far as a loop over the constraints has come.
use Rattle.std.proofs.Common.{◌≡◌, ℕ, ◌+◌, ◌/◌, ◌<◌, ◌≤◌, min, Bool, true, false, List, [], ◌∷◌, length, map, get_or, drop, fold, Option, Some, None, refl, sym, ap, ◌∙◌, arith}
use Rattle.std.proofs.lemmas.List.{drop_more, drop_all}
use Rattle.std.specs.Prelude.{unwrap_or, if◌then◌else◌}
use Rattle.std.specs.List.{reduce}
use Rattle.pc_model.specs.declared.constraint.Constraint.{Constraint}
use Rattle.pc_model.specs.Places.{has_bit}
use Rattle.pc_program_bound.specs.CellPrograms.{members}
use Rattle.pc_proof.specs.Masks.{cap_for}

-- the least of a cap and further numbers
abbrev pub least_after : Option ℕ → List ℕ → ℕ
least_after None numbers = unwrap_or (reduce min numbers) 0
least_after (Some cap) numbers = fold min cap numbers

abbrev pub most_of : Constraint → ℕ
most_of c = c.most

abbrev pub lesser : Option ℕ → ℕ → ℕ → Option ℕ
lesser cap mask most = if has_bit mask 0 then Some (min (unwrap_or cap most) most) else cap

least-first : (cap : Option ℕ) (most : ℕ) (numbers : List ℕ) → least_after cap (most ∷ numbers) ≡ least_after (Some (min (unwrap_or cap most) most)) numbers
least-first None most numbers = ap (λ n. fold min n numbers) (omega arith)
least-first (Some cap) most numbers = refl

least-cons : (cap : Option ℕ) (mask : ℕ) (c : Constraint) (cs : List Constraint)
    → least_after cap (map most_of (members mask (c ∷ cs))) ≡ least_after (lesser cap mask c.most) (map most_of (members (mask / 2) cs))
least-cons cap mask c cs = by_bit (has_bit mask 0)
  where
    by_bit : (bit : Bool) → least_after cap (map most_of (if bit then c ∷ members (mask / 2) cs else members (mask / 2) cs))
        ≡ least_after (if bit then Some (min (unwrap_or cap c.most) c.most) else cap) (map most_of (members (mask / 2) cs))
    by_bit true = least-first cap c.most (map most_of (members (mask / 2) cs))
    by_bit false = refl

pub cap_step : (cap : Option ℕ) (mask : ℕ) (cs : List Constraint) (i : ℕ) (c : Constraint) → i < length cs → c ≡ get_or cs i c
    → least_after (lesser cap mask c.most) (map most_of (members (mask / 2) (drop (i + 1) cs))) ≡ least_after cap (map most_of (members mask (drop i cs)))
cap_step cap mask cs i c inside is =
    let front : drop i cs ≡ c ∷ drop (i + 1) cs = drop_more cs i c inside ∙ ap (λ x. x ∷ drop (i + 1) cs) (sym is) in
    sym (ap (λ l. least_after cap (map most_of (members mask l))) front ∙ least-cons cap mask c (drop (i + 1) cs))

least-none : (cap : Option ℕ) → least_after cap [] ≡ unwrap_or cap 0
least-none None = refl
least-none (Some cap) = refl

pub cap_end : (best : Option ℕ) (mask : ℕ) (cs : List Constraint) (i : ℕ) → length cs ≤ i → least_after best (map most_of (members mask (drop i cs))) ≡ unwrap_or best 0
cap_end best mask cs i past = ap (λ l. least_after best (map most_of (members mask l))) (drop_all i cs past) ∙ least-none best

pub cap_start : (mask : ℕ) (cs : List Constraint) → least_after None (map most_of (members mask (drop 0 cs))) ≡ cap_for cs mask
cap_start mask cs = refl

pub ruleset cap_steps = (cap_start, cap_step, cap_end)
