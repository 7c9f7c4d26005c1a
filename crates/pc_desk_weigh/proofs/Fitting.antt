-- A constraint with a limit that it may get is a constraint.
use Rattle.std.proofs.Common.{◌≡◌, ℕ, ◌+◌, ◌-◌, ◌≤◌, ◌==◌, nat_lt, Bool, true, false, [], ◌∷◌, ◌++◌, All, if◌then◌else◌, refl, arith}
use Rattle.std.proofs.lemmas.Bool.Decides.{nat_tests}
use Rattle.std.proofs.lemmas.List.Elements.{All-append, All-cons, All-nil}
use Rattle.pc_model.specs.declared.constraint.Constraint.{Constraint}
use Rattle.pc_model.specs.declared.schema.Schema.{Schema}
use Rattle.pc_model.specs.Accepted.{frequency_limit}
use Rattle.pc_model.specs.Boxes.{IsServable}
use Rattle.pc_lang.specs.Canonical.{is_whole}
use Rattle.pc_desk_weigh.specs.declared.change.Limit.{Limit}
use Rattle.pc_desk_weigh.specs.declared.change.Limit.TheVariants.{Least, Most, Values}
use Rattle.pc_desk_weigh.specs.Changes.{any_values, fewer_at_most, limits_of, more_at_least, more_at_most, none_at_least, with_limit}
use Rattle.pc_desk_weigh.proofs.WholeSides.{whole_too}

pub record IsGood (schema : Schema) (c : Constraint) : Type 0 where
  pub servable : IsServable schema c
  pub small : c.most ≤ frequency_limit

module _ (schema : Schema) (c : Constraint) (good : IsGood schema c) where
  abbrev pub Fits : Limit → Type 0
  Fits limit = IsGood schema (with_limit schema limit c)

  of_least : (least : ℕ) → least ≤ c.most → Fits (Least least)
  of_least least few = record {
    servable = record { when_area = good.servable.when_area; value_region = good.servable.value_region; ordered = few };
    small = good.small;
  }

  of_most : (most : ℕ) → c.least ≤ most → most ≤ frequency_limit → Fits (Most most)
  of_most most enough few = record {
    servable = record { when_area = good.servable.when_area; value_region = good.servable.value_region; ordered = enough };
    small = few;
  }

  of_values : Fits Values
  of_values = record {
    servable = record { when_area = good.servable.when_area; value_region = whole_too schema c.values good.servable.value_region; ordered = good.servable.ordered };
    small = good.small;
  }

  one : (limit : Limit) → Fits limit → All Fits (limit ∷ [])
  one limit fits = All-cons Fits limit [] fits (All-nil Fits)

  more_least : (test : Bool) → nat_lt c.least c.most ≡ test → All Fits (if test then Least (c.least + 1) ∷ [] else [])
  more_least true e = one (Least (c.least + 1)) (of_least (c.least + 1) (grind (arith, nat_tests, e)))
  more_least false e = All-nil Fits

  none_least : (test : Bool) → All Fits (if test then [] else Least 0 ∷ [])
  none_least true = All-nil Fits
  none_least false = one (Least 0) (of_least 0 (omega arith))

  fewer_most : (test : Bool) → nat_lt c.least c.most ≡ test → All Fits (if test then Most (c.most - 1) ∷ [] else [])
  fewer_most true e =
      let small = good.small in
      let below : c.least + 1 ≤ c.most = grind (arith, nat_tests, e) in
      one (Most (c.most - 1)) (of_most (c.most - 1) (omega (arith, below)) (omega (arith, small)))
  fewer_most false e = All-nil Fits

  more_most : (test : Bool) → nat_lt c.most frequency_limit ≡ test → All Fits (if test then Most (c.most + 1) ∷ [] else [])
  more_most true e =
      let ordered = good.servable.ordered in
      one (Most (c.most + 1)) (of_most (c.most + 1) (omega (arith, ordered)) (grind (arith, nat_tests, e)))
  more_most false e = All-nil Fits

  all_values : (test : Bool) → All Fits (if test then [] else Values ∷ [])
  all_values true = All-nil Fits
  all_values false = one Values of_values

  pub limits_fit : All Fits (limits_of schema c)
  unfolding limits_of
  limits_fit =
      let a = more_at_least c in
      let b = none_at_least c in
      let d = fewer_at_most c in
      let e = more_at_most c in
      All-append Fits (a ++ b ++ d ++ e) (any_values schema c)
      (All-append Fits (a ++ b ++ d) e
      (All-append Fits (a ++ b) d
      (All-append Fits a b (more_least (nat_lt c.least c.most) refl) (none_least (c.least == 0)))
      (fewer_most (nat_lt c.least c.most) refl)) (more_most (nat_lt c.most frequency_limit) refl)) (all_values (is_whole schema c.values))
