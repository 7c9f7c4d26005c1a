-- Behind lines that close what limits alone would open, limits limit and open nothing.
use Rattle.std.proofs.Common.{◌≡◌, ◌∙◌, ◌↔◌, ℕ, ◌<◌, ◌||◌, ◌&&◌, not, Bool, true, false, List, ◌++◌, All, get_or, length, refl, sym, ap, subst, arith, lt-ltb, true≢false}
use Rattle.std.proofs.Math.Bool.{and-false}
use Rattle.std.proofs.lemmas.Bool.{and_from, false_from_ne_true}
use Rattle.std.proofs.lemmas.List.Elements.{All-append}
use Rattle.std.proofs.lemmas.List.Folds.{Any-from_list_any, list_any-append, list_any_at}
use Rattle.pc_model.specs.declared.constraint.Constraint.{Constraint}
use Rattle.pc_model.specs.declared.row.Row.{Row}
use Rattle.pc_model.specs.declared.schema.Schema.{Schema}
use Rattle.pc_model.specs.Membership.{is_named, is_named_by_some, is_under}
use Rattle.pc_model.specs.Possible.{IsPossible, Meets, is_covered}
use Rattle.pc_desk_limit.specs.Closing.{has_room, is_opened, is_opened_by_some}
use Rattle.pc_desk_limit.specs.Limiting.{IsShut, NoneIsOutside, is_outside}
use Rattle.pc_desk_limit.proofs.Quantified.{all_first, all_second, none_counted, one_counted}
use Rattle.pc_desk_limit.proofs.Speaking.{all_meet_alike, covered_named, named_under}

abbrev IsBoxed : Constraint → Type 0
IsBoxed c = is_outside c.when ≡ false

module _ (schema : Schema) (constraints limits closing : List Constraint)
    (boxed : NoneIsOutside constraints) (limits_boxed : NoneIsOutside limits) (closing_boxed : NoneIsOutside closing) (shut : All IsShut closing)
    (closes : (row : Row) → is_named_by_some closing row ≡ is_opened constraints limits row) where
  abbrev written : List Constraint
  written = constraints ++ (limits ++ closing)

  written_boxed : NoneIsOutside written
  written_boxed = All-append IsBoxed constraints (limits ++ closing) boxed (All-append IsBoxed limits closing limits_boxed closing_boxed)

  covered_by : (row : Row) → is_covered written row ≡ (is_named_by_some constraints row || (is_named_by_some limits row || is_named_by_some closing row))
  covered_by row =
      covered_named written written row written_boxed
      ∙ list_any-append (λ (c : Constraint). is_named c.when row) constraints (limits ++ closing)
      ∙ ap (λ (later : Bool). is_named_by_some constraints row || later) (list_any-append (λ (c : Constraint). is_named c.when row) limits closing)

  module _ (rows : List Row) where
    abbrev AllMeet : List Constraint → List Constraint → Type 0
    AllMeet all some = All (λ (c : Constraint). Meets all c rows) some

    -- ---- what the list allows

    -- a constraint that is met has room for a row of which it speaks
    room_for : (c : Constraint) → IsBoxed c → Meets written c rows → (place : ℕ) (d : Row) → place < length rows →
        is_named c.when (get_or rows place d) ≡ true → 0 < c.most
    room_for c own meets place d here named =
        let one = one_counted (is_under written c) rows place d here (named_under written c (get_or rows place d) own ∙ named) in
        omega (arith, one, meets.not_more)

    module _ (meet : AllMeet written written) (place : ℕ) (d : Row) (here : place < length rows) where
      abbrev row : Row
      row = get_or rows place d

      meet_later : AllMeet written (limits ++ closing)
      meet_later = all_second (λ (c : Constraint). Meets written c rows) constraints (limits ++ closing) meet

      none_shut : is_named_by_some closing row ≡ true → ⊥
      none_shut named =
          let found = Any-from_list_any (λ (c : Constraint). is_named c.when row) closing named in
          let c = get_or closing found.0 found.1 in
          let speaks = subst (λ (other : Constraint). is_named other.when row ≡ true) (sym found.3) found.4 in
          let meets = all_second (λ (other : Constraint). Meets written other rows) limits closing meet_later found.0 found.1 found.2 in
          let room = room_for c (closing_boxed found.0 found.1 found.2) meets place d here speaks in
          let none : c.most ≡ 0 = (shut found.0 found.1 found.2).1 in
          omega (arith, room, none)

      limit_opens : is_named_by_some limits row ≡ true → is_opened_by_some limits row ≡ true
      limit_opens named =
          let found = Any-from_list_any (λ (c : Constraint). is_named c.when row) limits named in
          let c = get_or limits found.0 found.1 in
          let speaks = subst (λ (other : Constraint). is_named other.when row ≡ true) (sym found.3) found.4 in
          let meets = all_first (λ (other : Constraint). Meets written other rows) limits closing meet_later found.0 found.1 found.2 in
          let room = room_for c (limits_boxed found.0 found.1 found.2) meets place d here speaks in
          list_any_at (λ (other : Constraint). has_room other && is_named other.when row) limits found.0 found.1 found.2
          (and_from (has_room c) (is_named c.when row) (lt-ltb 0 c.most room) speaks)

      -- a row that no constraint names would be named by a line that is shut
      named_first : (test : Bool) → is_named_by_some constraints row ≡ test →
          (test || (is_named_by_some limits row || is_named_by_some closing row)) ≡ true → test ≡ true
      named_first true e covered = refl
      named_first false e covered = absurd (none_shut (by_limits (is_named_by_some limits row) refl covered))
        where
          by_limits : (named : Bool) → is_named_by_some limits row ≡ named → (named || is_named_by_some closing row) ≡ true → is_named_by_some closing row ≡ true
          by_limits true named either =
              closes row ∙ and_from (is_opened_by_some limits row) (not (is_named_by_some constraints row)) (limit_opens named) (ap not e)
          by_limits false named either = either

      still_covered : is_covered written row ≡ true → is_covered constraints row ≡ true
      still_covered covered =
          covered_named constraints constraints row boxed ∙ named_first (is_named_by_some constraints row) refl (sym (covered_by row) ∙ covered)

    pub limited : IsPossible schema written rows → IsPossible schema constraints rows × AllMeet constraints limits
    limited p =
        let later = all_second (λ (c : Constraint). Meets written c rows) constraints (limits ++ closing) p.meets in (
          record {
            allowed = p.allowed;
            covered = λ place d here. still_covered p.meets place d here (p.covered place d here);
            meets = all_meet_alike written constraints constraints rows boxed
                (all_first (λ (c : Constraint). Meets written c rows) constraints (limits ++ closing) p.meets);
          },
          all_meet_alike written constraints limits rows limits_boxed (all_first (λ (c : Constraint). Meets written c rows) limits closing later),
        )

    -- ---- what is allowed

    module _ (p : IsPossible schema constraints rows) where
      named : (place : ℕ) (d : Row) → place < length rows → is_named_by_some constraints (get_or rows place d) ≡ true
      named place d here = sym (covered_named constraints constraints (get_or rows place d) boxed) ∙ p.covered place d here

      -- no line that closes boxes speaks of a row
      unspoken : (line : ℕ) (c : Constraint) → line < length closing → All (λ (row : Row). is_under written (get_or closing line c) row ≡ false) rows
      unspoken line c there = λ place d here.
          let row = get_or rows place d in
          let own = get_or closing line c in
          false_from_ne_true (is_under written own row) (λ under.
          let speaks = list_any_at (λ (other : Constraint). is_named other.when row) closing line c there
          (sym (named_under written own row (closing_boxed line c there)) ∙ under) in
          let outside = ap (λ (test : Bool). is_opened_by_some limits row && not test) (named place d here) ∙ and-false (is_opened_by_some limits row) in
          true≢false (sym speaks ∙ closes row ∙ outside))

      closing_met : AllMeet written closing
      closing_met = λ line c there.
          let own = get_or closing line c in
          let none = none_counted (is_under written own) rows (unspoken line c there) in
          let least : own.least ≡ 0 = (shut line c there).0 in
          record {
            in_values = λ place d here under. absurd (true≢false (sym under ∙ unspoken line c there place d here));
            enough = omega (arith, least);
            not_more = omega (arith, none);
          }

      pub allowed : AllMeet constraints limits → IsPossible schema written rows
      allowed met = record {
        allowed = p.allowed;
        covered = λ place d here.
            covered_by (get_or rows place d)
            ∙ ap (λ (first : Bool). first || (is_named_by_some limits (get_or rows place d) || is_named_by_some closing (get_or rows place d))) (named place d here);
        meets = All-append (λ (c : Constraint). Meets written c rows) constraints (limits ++ closing)
            (all_meet_alike constraints written constraints rows boxed p.meets)
            (All-append (λ (c : Constraint). Meets written c rows) limits closing (all_meet_alike constraints written limits rows limits_boxed met) closing_met);
      }

    pub limits_close : IsPossible schema written rows ↔ (IsPossible schema constraints rows × AllMeet constraints limits)
    limits_close = (limited, λ both. allowed both.0 both.1)
