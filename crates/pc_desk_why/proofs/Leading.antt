-- The segments of an end's parts begin at 0, follow one another and end at what all parts add.
use Rattle.std.proofs.Common.{◌≡◌, ℕ, ◌+◌, ◌-◌, ◌^◌, ◌&&◌, ℤ, pos, ◌+ℤ◌, ◌*ℤ◌, Bool, true≢false, List, [], ◌∷◌, ◌++◌, Option, Some, None, IsSome, if◌then◌else◌, arith, refl, sym, ap, subst}
use Rattle.std.proofs.lemmas.Int.{ints}
use Rattle.std.proofs.lemmas.Option.{cond_some}
use Rattle.pc_model.specs.declared.constraint.Constraint.{Constraint}
use Rattle.pc_desk_draw.specs.declared.segment.Segment.{Segment}
use Rattle.pc_desk_parts.specs.declared.part.Part.{Part}
use Rattle.pc_desk_parts.specs.Sums.{amount_of, amounts}
use Rattle.pc_desk_why.specs.Bars.{Lead, all_segments, is_drawn, millionths, part_row, part_rows, segments_between, tone_of, total_after, total_of, total_with}

-- a total that is kept is the sum
kept_sum : (test : Bool) (sum total : ℤ) → (if test then Some sum else None) ≡ Some total → sum ≡ total
kept_sum test sum total e = (cond_some test sum total e).1

none_kept : (parts : List Part) → total_of None parts ≡ None
unfolding total_of
none_kept [] = refl
none_kept (part ∷ parts) = none_kept parts

module _ (constraints : List Constraint) (places : ℕ) where
  segments_from : ℕ → Option ℤ → List Part → List Segment
  segments_from place total parts = all_segments (part_rows constraints places place total parts)

  Leads : ℕ → ℤ → List Part → Type 0
  Leads place total parts = Lead (millionths places total) (segments_from place (Some total) parts) (millionths places (total +ℤ amounts parts))

  no_more : (place : ℕ) (total : ℤ) → Leads place total []
  unfolding part_rows segments_from Leads
  no_more place total = ap (millionths places) (let same : total ≡ total +ℤ pos 0 = omega (arith, ints) in same)

  module _ (place : ℕ) (total : ℤ) (part : Part) (parts : List Part) where
    -- where the next total is this
    LeadsOn : Option ℤ → Type 0
    LeadsOn next =
        Lead (millionths places total) (segments_between places (tone_of place part.under) (Some total) next ++ segments_from (place + 1) next parts)
        (millionths places (total +ℤ amounts (part ∷ parts)))

    one_more : (after : ℤ) → total +ℤ amount_of part.adds ≡ after → Leads (place + 1) after parts → LeadsOn (Some after)
    unfolding Leads LeadsOn
    one_more after is leads =
        let rest = amounts parts in
        let amount = amount_of part.adds in
        let same : after +ℤ rest ≡ total +ℤ (amount +ℤ rest) = omega (arith, ints, is) in
        (refl, subst (λ (to : ℤ). Lead (millionths places after) (segments_from (place + 1) (Some after) parts) (millionths places to)) same leads)

    turned : LeadsOn (total_after (Some total) part.adds) → Leads place total (part ∷ parts)
    unfolding part_rows part_row segments_from Leads LeadsOn
    turned leads = leads

  -- from one total on, by what is known from the next one on
  on : (place : ℕ) (total : ℤ) (part : Part) (parts : List Part) (next : Option ℤ) → total_with total (amount_of part.adds) ≡ next
      → ((after : ℤ) → IsSome (total_of (Some after) parts) → Leads (place + 1) after parts) → IsSome (total_of next parts) → LeadsOn place total part parts next
  on place total part parts None is later some = absurd (true≢false (sym (rw (none_kept parts) at some)))
  on place total part parts (Some after) is later some =
      let amount = amount_of part.adds in
      one_more place total part parts after (kept_sum (is_drawn amount && is_drawn (total +ℤ amount)) (total +ℤ amount) after is) (later after some)

  leads : (place : ℕ) (total : ℤ) (parts : List Part) → IsSome (total_of (Some total) parts) → Leads place total parts
  unfolding total_of
  leads place total [] some = no_more place total
  leads place total (part ∷ parts) some =
      turned place total part parts
      (on place total part parts (total_with total (amount_of part.adds)) refl (λ after later. leads (place + 1) after parts later) some)

none_times : (n : ℕ) → pos 0 *ℤ pos n ≡ pos 0
none_times n = ap pos (omega arith)

pub segments_lead : (constraints : List Constraint) (places : ℕ) (parts : List Part) → IsSome (total_of (Some (pos 0)) parts) →
    Lead (pos 0) (all_segments (part_rows constraints places 0 (Some (pos 0)) parts)) (millionths places (amounts parts))
unfolding segments_from Leads
segments_lead constraints places parts some =
    let none : pos 0 +ℤ amounts parts ≡ amounts parts = omega (arith, ints) in
    let start : millionths places (pos 0) ≡ pos 0 = none_times (10 ^ (6 - places)) in
    subst (λ (to : ℤ). Lead (pos 0) (all_segments (part_rows constraints places 0 (Some (pos 0)) parts)) (millionths places to)) none
    (subst (λ (from : ℤ). Lead from (all_segments (part_rows constraints places 0 (Some (pos 0)) parts)) (millionths places (pos 0 +ℤ amounts parts))) start (leads constraints places 0 (pos 0) parts some))
