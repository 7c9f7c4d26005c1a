-- What is told to hold lost rows holds them, and all that does is told.
use Rattle.std.proofs.Common.{◌≡◌, ◌∙◌, ◌⊎◌, ◌↔◌, ℕ, ◌==◌, ◌&&◌, Bool, true, false, true≢false, cond, not, List, [], ◌∷◌, Contains, Option, Some, None, refl, sym, ap, subst, inl, inr, eq-eqb, eqb-true}
use Rattle.std.specs.Prelude.{IsSomeAnd, slice_get}
use Rattle.std.proofs.lemmas.Bool.{and_from, and_parts}
use Rattle.std.proofs.lemmas.List.Elements.{Contains-append_cases, Contains-append_left, Contains-append_right}
use Rattle.pc_model.specs.declared.constraint.Constraint.{Constraint}
use Rattle.pc_model.specs.declared.row.Row.{Row}
use Rattle.pc_model.specs.Membership.{has, in_domain, is_under}
use Rattle.pc_model.specs.Possible.{count_of}
use Rattle.pc_model.specs.Runs.{rows_of}
use Rattle.pc_desk_parts.specs.declared.asked.Asked.{Asked}
use Rattle.pc_desk_parts.specs.declared.asked.Reached.{Reached}
use Rattle.pc_desk_parts.specs.declared.part.Hold.{Hold}
use Rattle.pc_desk_parts.specs.declared.part.Hold.TheVariants as holds
use Rattle.pc_desk_parts.specs.declared.pulls.Pull.{Pull}
use Rattle.pc_desk_parts.specs.declared.pulls.Pull.TheVariants.{More, Fewer, Neither}
use Rattle.pc_desk_parts.specs.Ends.{pull_of}
use Rattle.pc_desk_parts.specs.Held.{beyond_hold, block_at, block_by, block_hold, blocks_of, column_of, held_of, narrows, is_full, limit_at, limit_hold, limits_of, next_of, of_each, schema_hold}
use Rattle.pc_desk_parts.specs.Told.{Bars, BarsValue, Holds, IsAtLimit, SpeaksOfOne}
use Rattle.pc_desk_parts.proofs.EachHolds.{given_at, given_by_one, in_none, in_one, one_in}

-- ---- tests and options

under_test : {X : Type 0} (b : Bool) (y x : X) → Contains (cond b (y ∷ []) []) x → (b ≡ true) × (y ≡ x)
under_test true y x found = (refl, in_one y x found)
under_test false y x found = absurd (in_none x found)

by_test : {X : Type 0} (b : Bool) (x : X) → b ≡ true → Contains (cond b (x ∷ []) []) x
by_test b x is = rw is (one_in x x refl)

some_from : {X : Type 0} (P : X → Type 0) (o : Option X) (x : X) → o ≡ Some x → P x → IsSomeAnd o P
some_from P o x is holds = rw is holds

record Found {X : Type 0} (P : X → Type 0) (o : Option X) : Type 0 where
  item : X
  is : o ≡ Some item
  holds : P item

found_in : {X : Type 0} (P : X → Type 0) (o : Option X) → IsSomeAnd o P → Found P o
found_in P None there = absurd there
found_in P (Some x) there = record { item = x; is = refl; holds = there }

same_number : (n : ℕ) → (n == n) ≡ true
same_number n = eq-eqb n n refl

module _ (ask : Asked) (reached : Reached) (row : Row) where
  abbrev constraints : List Constraint
  constraints = ask.constraints.now

  abbrev lost : List Row
  lost = rows_of reached.runs.now

  abbrev column : ℕ
  column = column_of ask

  abbrev pull : Pull
  pull = pull_of ask reached row

  -- ---- limits

  limit_holds : (p : Pull) → pull ≡ p → (place : ℕ) (c : Constraint) → slice_get constraints place ≡ Some c → is_under constraints c row ≡ true → is_full p c (count_of constraints c lost) ≡ true
      → Holds ask reached row (limit_hold p place)
  unfolding Holds
  limit_holds More is place c there speaks full =
      (is, some_from (λ c. IsAtLimit constraints lost row c.most c) (slice_get constraints place) c there (record { speaks = speaks; full = eqb-true _ _ full }))
  limit_holds Fewer is place c there speaks full =
      (is, some_from (λ c. IsAtLimit constraints lost row c.least c) (slice_get constraints place) c there (record { speaks = speaks; full = eqb-true _ _ full }))
  limit_holds Neither is place c there speaks full = absurd (true≢false (sym full))

  limits_hold : (x : Hold) → Contains (limits_of constraints lost pull row) x → Holds ask reached row x
  limits_hold x found =
      let one = given_by_one x (limit_at constraints lost pull row) constraints found in
      let test = under_test (is_under constraints one.c row && is_full pull one.c (count_of constraints one.c lost)) (limit_hold pull one.place) x one.gives in
      let parts = and_parts (is_under constraints one.c row) (is_full pull one.c (count_of constraints one.c lost)) test.0 in
      subst (Holds ask reached row) test.1 (limit_holds pull refl one.place one.c one.there parts.0 parts.1)

  limit_told : (p : Pull) (place : ℕ) (limit : Constraint → ℕ) → ((c : Constraint) → is_full p c (count_of constraints c lost) ≡ (count_of constraints c lost == limit c))
      → pull ≡ p → IsSomeAnd (slice_get constraints place) (λ c. IsAtLimit constraints lost row (limit c) c) → Contains (limits_of constraints lost pull row) (limit_hold p place)
  limit_told p place limit full_is is there =
      let at = found_in (λ c. IsAtLimit constraints lost row (limit c) c) (slice_get constraints place) there in
      let c = at.item in
      let full = full_is c ∙ ap (λ (n : ℕ). n == limit c) at.holds.full ∙ same_number (limit c) in
      let test = and_from (is_under constraints c row) (is_full p c (count_of constraints c lost)) at.holds.speaks full in
      subst (λ (q : Pull). Contains (limits_of constraints lost q row) (limit_hold p place)) (sym is)
      (given_at (limit_hold p place) (limit_at constraints lost p row) constraints place c at.is (by_test (is_under constraints c row && is_full p c (count_of constraints c lost)) (limit_hold p place) test))

  -- ---- the next row

  block_holds : (next : Row) → next_of ask reached row ≡ Some next → in_domain ask.schema.now next ≡ true → (place : ℕ) (c : Constraint) → slice_get constraints place ≡ Some c → (here there inside : Bool) → is_under constraints c row ≡ here
      → is_under constraints c next ≡ there → has c.values next ≡ inside → (x : Hold) → Contains (block_hold here there inside place) x → Holds ask reached row x
  unfolding Holds
  block_holds next is allowed place c at true true true here there inside x found = absurd (in_none x found)
  block_holds next is allowed place c at true true false here there inside x found =
      subst (Holds ask reached row) (in_one (holds.Values place) x found)
      (some_from (λ next. IsSomeAnd (slice_get constraints place) (BarsValue ask row next)) (next_of ask reached row) next is
      (some_from (BarsValue ask row next) (slice_get constraints place) c at (record { speaks = here; bars = subst (Bars ask next c) (sym allowed) (there, inside) })))
  block_holds next is allowed place c at true false inside here there barred x found =
      subst (Holds ask reached row) (in_one (holds.When place) x found)
      (some_from (λ next. IsSomeAnd (slice_get constraints place) (SpeaksOfOne ask row next)) (next_of ask reached row) next is
      (some_from (SpeaksOfOne ask row next) (slice_get constraints place) c at (record { allowed = allowed; differs = there ∙ ap not (sym here) })))
  block_holds next is allowed place c at false true inside here there barred x found =
      subst (Holds ask reached row) (in_one (holds.When place) x found)
      (some_from (λ next. IsSomeAnd (slice_get constraints place) (SpeaksOfOne ask row next)) (next_of ask reached row) next is
      (some_from (SpeaksOfOne ask row next) (slice_get constraints place) c at (record { allowed = allowed; differs = there ∙ ap not (sym here) })))
  block_holds next is allowed place c at false false inside here there barred x found = absurd (in_none x found)

  beyond_holds : (next : Row) → next_of ask reached row ≡ Some next → in_domain ask.schema.now next ≡ false → (place : ℕ) (c : Constraint) → slice_get constraints place ≡ Some c
      → (x : Hold) → Contains (beyond_hold (is_under constraints c row && narrows ask.schema.now column c.values) place) x → Holds ask reached row x
  unfolding Holds
  beyond_holds next is denied place c at x found =
      let test = under_test (is_under constraints c row && narrows ask.schema.now column c.values) (holds.Values place) x found in
      let parts = and_parts (is_under constraints c row) (narrows ask.schema.now column c.values) test.0 in
      subst (Holds ask reached row) test.1
      (some_from (λ next. IsSomeAnd (slice_get constraints place) (BarsValue ask row next)) (next_of ask reached row) next is
      (some_from (BarsValue ask row next) (slice_get constraints place) c at (record { speaks = parts.0; bars = subst (Bars ask next c) (sym denied) parts.1 })))

  block_by_holds : (next : Row) → next_of ask reached row ≡ Some next → (allowed : Bool) → in_domain ask.schema.now next ≡ allowed → (place : ℕ) (c : Constraint) → slice_get constraints place ≡ Some c
      → (x : Hold) → Contains (block_by ask.schema.now column constraints row next allowed place c) x → Holds ask reached row x
  block_by_holds next is true allowed place c at x found =
      block_holds next is allowed place c at (is_under constraints c row) (is_under constraints c next) (has c.values next) refl refl refl x found
  block_by_holds next is false denied place c at x found = beyond_holds next is denied place c at x found

  schema_holds : (next : Row) → next_of ask reached row ≡ Some next → (allowed : Bool) → in_domain ask.schema.now next ≡ allowed → (x : Hold) → Contains (schema_hold allowed) x → Holds ask reached row x
  unfolding Holds
  schema_holds next is true allowed x found = absurd (in_none x found)
  schema_holds next is false allowed x found =
      subst (Holds ask reached row) (in_one holds.Schema x found) (some_from (λ next. in_domain ask.schema.now next ≡ false) (next_of ask reached row) next is allowed)

  blocks_hold : (next : Option Row) → next_of ask reached row ≡ next → (x : Hold) → Contains (blocks_of ask.schema.now column constraints row next) x → Holds ask reached row x
  blocks_hold None is x found = absurd (in_none x found)
  blocks_hold (Some next) is x found = by_case (Contains-append_cases (of_each (block_at ask.schema.now column constraints row next) constraints) (schema_hold (in_domain ask.schema.now next)) x found)
    where
      by_case : (Contains (of_each (block_at ask.schema.now column constraints row next) constraints) x ⊎ Contains (schema_hold (in_domain ask.schema.now next)) x) → Holds ask reached row x
      by_case (inl block) =
          let one = given_by_one x (block_at ask.schema.now column constraints row next) constraints block in
          block_by_holds next is (in_domain ask.schema.now next) refl one.place one.c one.there x one.gives
      by_case (inr schema) = schema_holds next is (in_domain ask.schema.now next) refl x schema

  block_told : (place : ℕ) (x : Hold) (P : Row → Constraint → Type 0)
      → ((next : Row) (c : Constraint) → P next c → Contains (block_at ask.schema.now column constraints row next place c) x)
      → IsSomeAnd (next_of ask reached row) (λ next. IsSomeAnd (slice_get constraints place) (P next)) → Contains (blocks_of ask.schema.now column constraints row (next_of ask reached row)) x
  block_told place x P gives there =
      let next = found_in (λ next. IsSomeAnd (slice_get constraints place) (P next)) (next_of ask reached row) there in
      let at = found_in (P next.item) (slice_get constraints place) next.holds in
      subst (λ (o : Option Row). Contains (blocks_of ask.schema.now column constraints row o) x) (sym next.is)
      (Contains-append_left (of_each (block_at ask.schema.now column constraints row next.item) constraints) (schema_hold (in_domain ask.schema.now next.item)) x
      (given_at x (block_at ask.schema.now column constraints row next.item) constraints place at.item at.is (gives next.item at.item at.holds)))

  schema_told : IsSomeAnd (next_of ask reached row) (λ next. in_domain ask.schema.now next ≡ false) → Contains (blocks_of ask.schema.now column constraints row (next_of ask reached row)) holds.Schema
  schema_told there =
      let next = found_in (λ next. in_domain ask.schema.now next ≡ false) (next_of ask reached row) there in
      subst (λ (o : Option Row). Contains (blocks_of ask.schema.now column constraints row o) holds.Schema) (sym next.is)
      (Contains-append_right (of_each (block_at ask.schema.now column constraints row next.item) constraints) (schema_hold (in_domain ask.schema.now next.item)) holds.Schema
      (subst (λ (b : Bool). Contains (schema_hold b) holds.Schema) (sym next.holds) (one_in holds.Schema holds.Schema refl)))

  values_told : (place : ℕ) (next : Row) (c : Constraint) → BarsValue ask row next c → Contains (block_at ask.schema.now column constraints row next place c) (holds.Values place)
  values_told place next c bars = by_domain (in_domain ask.schema.now next) bars.bars
    where
      by_domain : (allowed : Bool) → Bars ask next c allowed → Contains (block_by ask.schema.now column constraints row next allowed place c) (holds.Values place)
      by_domain true both = rw (bars.speaks, both.0, both.1) (one_in (holds.Values place) (holds.Values place) refl)
      by_domain false narrowed =
          by_test (is_under constraints c row && narrows ask.schema.now column c.values) (holds.Values place) (and_from (is_under constraints c row) (narrows ask.schema.now column c.values) bars.speaks narrowed)

  when_told : (place : ℕ) (next : Row) (c : Constraint) → SpeaksOfOne ask row next c → Contains (block_at ask.schema.now column constraints row next place c) (holds.When place)
  when_told place next c other =
      subst (λ (allowed : Bool). Contains (block_by ask.schema.now column constraints row next allowed place c) (holds.When place)) (sym other.allowed)
      (subst (λ (b : Bool). Contains (block_hold (is_under constraints c row) b (has c.values next) place) (holds.When place)) (sym other.differs) (either (is_under constraints c row)))
    where
      either : (b : Bool) → Contains (block_hold b (not b) (has c.values next) place) (holds.When place)
      either true = one_in (holds.When place) (holds.When place) refl
      either false = one_in (holds.When place) (holds.When place) refl

  -- ---- all of them

  abbrev limits : List Hold
  limits = limits_of constraints lost pull row

  abbrev blocks : List Hold
  blocks = blocks_of ask.schema.now column constraints row (next_of ask reached row)

  all_hold : (x : Hold) → Contains (held_of ask reached row) x → Holds ask reached row x
  all_hold x found = by_case (Contains-append_cases limits blocks x found)
    where
      by_case : (Contains limits x ⊎ Contains blocks x) → Holds ask reached row x
      by_case (inl limit) = limits_hold x limit
      by_case (inr block) = blocks_hold (next_of ask reached row) refl x block

  all_told : (x : Hold) → Holds ask reached row x → Contains (held_of ask reached row) x
  unfolding Holds
  all_told (holds.Most place) is = Contains-append_left limits blocks (holds.Most place) (limit_told More place (λ c. c.most) (λ c. refl) is.0 is.1)
  all_told (holds.Least place) is = Contains-append_left limits blocks (holds.Least place) (limit_told Fewer place (λ c. c.least) (λ c. refl) is.0 is.1)
  all_told (holds.Values place) is = Contains-append_right limits blocks (holds.Values place) (block_told place (holds.Values place) (BarsValue ask row) (values_told place) is)
  all_told (holds.When place) is =
      Contains-append_right limits blocks (holds.When place)
      (block_told place (holds.When place) (SpeaksOfOne ask row) (when_told place) is)
  all_told holds.Schema is = Contains-append_right limits blocks holds.Schema (schema_told is)

  pub holds_told : (x : Hold) → Contains (held_of ask reached row) x ↔ Holds ask reached row x
  holds_told x = (all_hold x, all_told x)
