-- What a test adds to what the tests keep, and what they have kept at the end.
use Rattle.std.proofs.Common.{◌≡◌, ℕ, zero, suc, ◌+◌, ◌-◌, ◌≤◌, ◌<◌, true, false, cond, List, [], ◌∷◌, ◌++◌, length, get_or, map, take, All, inl, inr, refl, sym, ap, subst, ◌∙◌, append-nil, append_assoc, arith}
use Rattle.std.specs.Prelude.{nat_lt}
use Rattle.std.specs.List.{AllZip, range_with_len}
use Rattle.std.proofs.lemmas.Bool.{lt-ltb}
use Rattle.std.proofs.lemmas.Bool.Decides.{nat_tests}
use Rattle.std.proofs.lemmas.List.{take_more}
use Rattle.std.proofs.lemmas.List.Elements.{All-head, All-nil, All-push, All-tail, All-weaker, filter-append}
use Rattle.std.proofs.lemmas.List.FromFn.{fill_by_all}
use Rattle.std.proofs.lemmas.List.Quantifiers.{all_pairs_push}
use Rattle.std.proofs.lemmas.Slice.Zip.{all_zipped_more}
use Rattle.pc_model.specs.declared.schema.Schema.{Schema}
use Rattle.pc_model.specs.declared.row.Run.{Run}
use Rattle.pc_model.specs.declared.constraint.Constraint.{Constraint}
use Rattle.pc_model.specs.Runs.{rows_of}
use Rattle.pc_conflict.specs.declared.deletion.Deletion.{Deletion}
use Rattle.pc_conflict.specs.Core.{IsCore, IsFreeWithout, other_than}
use Rattle.pc_conflict.specs.Deletion.{at_places, from_place, AreContrary, StandFor}
use Rattle.pc_conflict.specs.Deleting.{ArePlaces, IsDeletion, IsFoundAt, lower_than, runs_without, tested_at, with_member}
use Rattle.pc_conflict.proofs.AtPlaces.{are_part, at_places_is}
use Rattle.pc_conflict.proofs.Tested.{later_there, others_tested, tested_places, tested_there}
use Rattle.pc_conflict.proofs.Thinned.{stand_still}

-- ---- lists

pub AllZip-weaker : {A B : Type 0} (P : A → Type 0) (R S : A → B → Type 0) → ((a : A) (b : B) → P a → R a b → S a b) → (as' : List A) (bs : List B) → All P as' → AllZip R as' bs → AllZip S as' bs
AllZip-weaker P R S so [] [] each zip = tt
AllZip-weaker P R S so [] (b ∷ bs) each zip = absurd zip
AllZip-weaker P R S so (a ∷ as') [] each zip = absurd zip
AllZip-weaker P R S so (a ∷ as') (b ∷ bs) each zip = (so a b (All-head P a as' each) zip.0, AllZip-weaker P R S so as' bs (All-tail P a as' each) zip.1)

AllZip-at : {A B : Type 0} (R : A → B → Type 0) (as' : List A) (bs : List B) (i : ℕ) (d : A) (e : B) → AllZip R as' bs → i < length as' → R (get_or as' i d) (get_or bs i e)
AllZip-at R [] bs i d e zip here = absurd (omega (arith, here))
AllZip-at R (a ∷ as') [] i d e zip here = absurd zip
AllZip-at R (a ∷ as') (b ∷ bs) zero d e zip here = zip.0
AllZip-at R (a ∷ as') (b ∷ bs) (suc i) d e zip here = AllZip-at R as' bs i d e zip.1 (omega (arith, here))

-- all are below a place
all_lower : (place : ℕ) (members : List ℕ) → All (λ member. member < place) members → lower_than place members ≡ members
all_lower place [] before = refl
all_lower place (member ∷ members) before =
    let first : nat_lt member place ≡ true = lt-ltb member place (before 0 member (omega arith)) in
    rw first (ap (λ ms. member ∷ ms) (all_lower place members (All-tail (λ member. member < place) member members before)))

-- one more that is not
not_lower : (place next : ℕ) (members : List ℕ) → place ≤ next → lower_than place (members ++ next ∷ []) ≡ lower_than place members
not_lower place next members le =
    let no : nat_lt next place ≡ false = grind (arith, nat_tests) in
    filter-append (λ (member : ℕ). nat_lt member place) members (next ∷ []) ∙ ap (λ b. lower_than place members ++ cond b (next ∷ []) []) no ∙ append-nil (lower_than place members)

module _ (constraints : List Constraint) where
  pub from_next : (place : ℕ) → place < length constraints → from_place constraints place ≡ place ∷ from_place constraints (suc place)
  from_next place here =
      let count : length constraints - place ≡ suc (length constraints - suc place) = omega (arith, here) in
      let next : place + 1 ≡ suc place = omega arith in
      ap (range_with_len place) count ∙ ap (λ n. place ∷ range_with_len n (length constraints - suc place)) next

  from_end : from_place constraints (length constraints) ≡ []
  from_end = let none : length constraints - length constraints ≡ 0 = omega arith in ap (range_with_len (length constraints)) none

  pub tested_is : (members : List ℕ) (place : ℕ) → All (λ member. member < place) members → tested_at constraints members place ≡ members ++ from_place constraints (suc place)
  tested_is members place before = ap (λ ms. ms ++ from_place constraints (suc place)) (all_lower place members before)

pub at_all : (constraints : List Constraint) → at_places constraints (from_place constraints 0) ≡ constraints
at_all [] = refl
at_all (c ∷ cs) =
    let constraints : List Constraint = c ∷ cs in
    let whole : length constraints - 0 ≡ length constraints = omega arith in
    at_places_is constraints c (from_place constraints 0) (later_there constraints 0) ∙ ap (λ n. map (λ place. get_or constraints place c) (range_with_len 0 n)) whole
    ∙ sym (fill_by_all (λ place. get_or constraints place c) constraints (length constraints) c refl (λ k here. refl))

module _ (schema : Schema) (constraints : List Constraint) where
  pub begins : AreContrary schema constraints → (deletion : Deletion) → deletion.members ≡ [] → deletion.found ≡ [] → IsDeletion schema constraints 0 deletion
  begins contrary deletion none nothing = record {
    inside = omega arith;
    before = rw none (All-nil (λ member. member < 0));
    rising = rw none (λ i j d before here. absurd (omega (arith, here)));
    kept = (contrary, none);
    contrary = rw none (subst (AreContrary schema) (sym (at_all constraints)) contrary);
    each = rw (none, nothing) tt;
  }

  pub members_there : (place : ℕ) (deletion : Deletion) → IsDeletion schema constraints place deletion → All (λ member. member < length constraints) deletion.members
  members_there place deletion is = All-weaker (λ member. member < place) (λ member. member < length constraints) (λ member lt. omega (arith, lt, is.inside)) deletion.members is.before

  pub next_places : (place : ℕ) (deletion : Deletion) → IsDeletion schema constraints place deletion → ArePlaces constraints (tested_at constraints deletion.members place)
  next_places place deletion is = tested_places constraints deletion.members place (members_there place deletion is) is.rising

  module _ (place : ℕ) (deletion : Deletion) (here : place < length constraints) (is : IsDeletion schema constraints place deletion) where
    abbrev tested : List ℕ
    tested = tested_at constraints deletion.members place

    pub left_out : AreContrary schema (at_places constraints tested) → IsDeletion schema constraints (suc place) deletion
    left_out contrary =
        let others = subst (λ (places : List ℕ). AreContrary schema (at_places constraints places)) (tested_is constraints deletion.members place is.before) contrary in
        record {
          inside = omega (arith, here);
          before = All-weaker (λ member. member < place) (λ member. member < suc place) (λ member lt. omega (arith, lt)) deletion.members is.before;
          rising = is.rising;
          kept = (deletion.members, is.kept, inl (others, refl));
          contrary = others;
          each = is.each;
        }

    module _ (runs : List Run) where
      pub kept_too : StandFor schema (at_places constraints tested) runs → IsDeletion schema constraints (suc place) (with_member deletion place runs)
      kept_too stands =
          let members = deletion.members in
          let others = subst (λ (places : List ℕ). StandFor schema (at_places constraints places) runs) (tested_is constraints members place is.before) stands in
          let same : members ++ from_place constraints place ≡ (members ++ place ∷ []) ++ from_place constraints (suc place) =
          ap (λ places. members ++ places) (from_next constraints place here) ∙ sym (append_assoc members (place ∷ []) (from_place constraints (suc place))) in
          record {
            inside = omega (arith, here);
            before = All-push (λ member. member < suc place) members place (All-weaker (λ member. member < place) (λ member. member < suc place) (λ member lt. omega (arith, lt)) members is.before) (omega arith);
            rising = all_pairs_push (λ (a b : ℕ). a < b) members place is.rising is.before;
            kept = (members, is.kept, inr (record { rows = rows_of runs; possible = others.possible }, refl));
            contrary = subst (λ (places : List ℕ). AreContrary schema (at_places constraints places)) same is.contrary;
            each =
                all_zipped_more (IsFoundAt schema constraints (members ++ place ∷ [])) members deletion.found place runs
                (AllZip-weaker (λ member. member < place) (IsFoundAt schema constraints members) (IsFoundAt schema constraints (members ++ place ∷ []))
                (λ member found lt. subst (λ (ms : List ℕ). StandFor schema (at_places constraints (ms ++ from_place constraints (suc member))) found) (sym (not_lower member place members (omega (arith, lt))))) members deletion.found is.before is.each)
                (subst (λ (ms : List ℕ). StandFor schema (at_places constraints (ms ++ from_place constraints (suc place))) runs) (sym (not_lower place place members (omega arith))) stands);
          }

  -- ---- after the last place

  -- a list for a member, and of it what the other members speak of
  pub free_without : (members : List ℕ) (member : ℕ) (runs : List Run) → All (λ place. place < length constraints) members → IsFoundAt schema constraints members member runs →
      IsFreeWithout schema constraints members member (runs_without constraints members member runs)
  free_without members member runs inside found =
      stand_still schema (at_places constraints (tested_at constraints members member)) (at_places constraints (other_than member members)) runs
      (are_part constraints (tested_at constraints members member) (other_than member members) (tested_there constraints members member inside) (others_tested constraints members member inside)) found

  -- one member more
  pub without_more : (members : List ℕ) (found without : List (List Run)) (i : ℕ) (e item runs : List Run) → i < length members → All (λ place. place < length constraints) members → item ≡ get_or found i e →
      runs ≡ runs_without constraints members (get_or members i 0) item →
      AllZip (IsFoundAt schema constraints members) members found → AllZip (IsFreeWithout schema constraints members) (take i members) without → AllZip (IsFreeWithout schema constraints members) (take (i + 1) members) (without ++ runs ∷ [])
  without_more members found without i e item runs here inside item_is runs_are each before =
      let member = get_or members i 0 in
      let Free = IsFreeWithout schema constraints members in
      let stands : IsFoundAt schema constraints members member item = subst (IsFoundAt schema constraints members member) (sym item_is) (AllZip-at (IsFoundAt schema constraints members) members found i 0 e each here) in
      subst (λ (ms : List ℕ). AllZip Free ms (without ++ runs ∷ [])) (sym (take_more members i 0 here))
      (all_zipped_more Free (take i members) without member runs before (subst (Free member) (sym runs_are) (free_without members member item inside stands)))

  pub is_core : (deletion : Deletion) (without : List (List Run)) → IsDeletion schema constraints (length constraints) deletion → AllZip (IsFreeWithout schema constraints deletion.members) deletion.members without → IsCore schema constraints deletion.members without
  is_core deletion without is each = record {
    places = is.before;
    rising = λ k inside. is.rising k (k + 1) 0 (omega arith) inside;
    contrary =
        subst (λ (places : List ℕ). AreContrary schema (at_places constraints places)) (ap (λ places. deletion.members ++ places) (from_end constraints) ∙ append-nil deletion.members) is.contrary;
    each = each;
    kept = is.kept;
  }
