-- Constraints at places of a list that is accepted are accepted, and nested where the list is.
use Rattle.std.proofs.Common.{◌≡◌, ◌≢◌, ℕ, ◌≤◌, ◌<◌, List, get_or, length, sym, subst, arith}
use Rattle.std.proofs.lemmas.List.Elements.{Contains-get_or}
use Rattle.pc_model.specs.declared.schema.Schema.{Schema}
use Rattle.pc_model.specs.declared.constraint.Constraint.{Constraint}
use Rattle.pc_model.specs.Accepted.{AreConstraints, IsNameFor, frequency_limit}
use Rattle.pc_model.specs.Boxes.{IsServable}
use Rattle.pc_model.specs.Membership.{AreNested, AreTwoNested}
use Rattle.pc_agg_search.specs.Easy.{IsEasy}
use Rattle.pc_conflict.specs.Deleting.{ArePlaces}
use Rattle.pc_conflict.specs.Deletion.{at_places}
use Rattle.pc_conflict.proofs.Nested.{two_still}
use Rattle.pc_conflict.proofs.AtPlaces.{All-at_places, AllPairs-at_places, few_places}

module _ (schema : Schema) (constraints : List Constraint) (places : List ℕ) (are : ArePlaces constraints places) where
  pub accepted_still : AreConstraints schema constraints → AreConstraints schema (at_places constraints places)
  accepted_still accepted = record {
    few = omega (arith, accepted.few, few_places constraints places are);
    servable = All-at_places constraints places are (IsServable schema) accepted.servable;
    small = All-at_places constraints places are (λ (c : Constraint). c.most ≤ frequency_limit) accepted.small;
    named = All-at_places constraints places are (λ (c : Constraint). IsNameFor c.when c.name) accepted.named;
    own_names = AllPairs-at_places constraints places are (λ (a b : Constraint). a.name ≢ b.name) accepted.own_names;
  }

  pub nested_still : AreNested schema constraints → AreNested schema (at_places constraints places)
  nested_still nested i j d before here =
      let part = at_places constraints places in
      let first : i < length part = omega (arith, before, here) in
      two_still schema constraints part (get_or part i d) (get_or part j d) (Contains-get_or part i d first) (Contains-get_or part j d here)
      (AllPairs-at_places constraints places are (AreTwoNested schema constraints) nested i j d before here)

  -- every search stays easy
  pub easy_still : (part : List Constraint) → part ≡ at_places constraints places → IsEasy schema constraints → IsEasy schema part
  easy_still part is easy = subst (IsEasy schema) (sym is) (nested_still easy)
