-- Limits, as far as a loop has come.
use Rattle.std.proofs.Common.{◌≡◌, ◌∙◌, ℕ, ◌+◌, ◌<◌, ◌&&◌, Bool, true, false, cond, List, [], ◌∷◌, ◌++◌, get_or, length, take, sym, ap}
use Rattle.std.proofs.lemmas.List.{get_or-map}
use Rattle.pc_model.specs.declared.constraint.Constraint.{Constraint}
use Rattle.pc_model.specs.declared.row.Row.{Row}
use Rattle.pc_model.specs.Membership.{is_under}
use Rattle.pc_model.specs.Possible.{count_of}
use Rattle.pc_desk_parts.specs.declared.pulls.Pull.{Pull}
use Rattle.pc_desk_parts.specs.Counts.{counts_of}
use Rattle.pc_desk_parts.specs.Held.{is_full, limit_at, limit_hold, of_each}
use Rattle.pc_desk_parts.proofs.Each.{each_in, each_out}

module _ (constraints : List Constraint) (counts : List ℕ) (pull : Pull) (row : Row) (place : ℕ) (d : Constraint) (here : place < length constraints) (lost : List Row) (same : counts ≡ counts_of constraints lost) where
  abbrev c : Constraint
  c = get_or constraints place d

  count_is : get_or counts place 0 ≡ count_of constraints c lost
  count_is = ap (λ (numbers : List ℕ). get_or numbers place 0) same ∙ get_or-map (λ (other : Constraint). count_of constraints other lost) constraints place d 0 here

  limit_is : (test : Bool) → (is_under constraints c row && is_full pull c (get_or counts place 0)) ≡ test → limit_at constraints lost pull row place c ≡ cond test (limit_hold pull place ∷ []) []
  limit_is test is =
      ap (λ (n : ℕ). cond (is_under constraints c row && is_full pull c n) (limit_hold pull place ∷ []) []) (sym count_is)
      ∙ ap (λ (b : Bool). cond b (limit_hold pull place ∷ []) []) is

  pub limit_in : (is_under constraints c row && is_full pull c (get_or counts place 0)) ≡ true
      → of_each (limit_at constraints lost pull row) (take (place + 1) constraints) ≡ of_each (limit_at constraints lost pull row) (take place constraints) ++ limit_hold pull place ∷ []
  limit_in is = each_in (limit_at constraints lost pull row) constraints place d here (limit_hold pull place) (limit_is true is)

  pub limit_out : (is_under constraints c row && is_full pull c (get_or counts place 0)) ≡ false
      → of_each (limit_at constraints lost pull row) (take (place + 1) constraints) ≡ of_each (limit_at constraints lost pull row) (take place constraints)
  limit_out is = each_out (limit_at constraints lost pull row) constraints place d here (limit_is false is)
