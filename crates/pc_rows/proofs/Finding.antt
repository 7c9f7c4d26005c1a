-- The map of the first places, as far as a loop over the names has come.
use Rattle.std.proofs.Common.{◌≡◌, ◌∙◌, ℕ, ◌+◌, ◌<◌, ℤ, pos, Bool, true, false, cond, List, [], ◌∷◌, ◌++◌, length, get_or, take, position, Option, Some, None, is_some, not, refl, sym, ap, nat_lt, arith, Bor}
use Rattle.std.specs.List.{position_or_len}
use Rattle.std.specs.Option.{option_map}
use Rattle.std.specs.Str.{bytes_eq}
use Rattle.std.specs.Cmp.Lexicographic.{bytes_decides, nat_list_eq_equiv}
use Rattle.std.proofs.lemmas.Bool.{false≢true}
use Rattle.std.proofs.lemmas.Bool.Decides.{nat_tests}
use Rattle.std.proofs.lemmas.List.{take_more, length-append, length-take}
use Rattle.std.proofs.lemmas.List.Folds.{position_or_len_push}
use Rattle.std.proofs.lemmas.List.Sums.{prefix_len-le-length}
use Rattle.std.proofs.lemmas.Grind.{common_steps}
use Rattle.indexmap.specs.IndexMap.{IndexMap, Updates, get_by}
use Rattle.pc_rows.specs.Finding.{IsFinder}

-- the first place at which a test passes, where one that passes or not comes after the others
abbrev pushed : Option ℕ → Bool → ℕ → Option ℕ
pushed (Some place) passes count = Some place
pushed None passes count = cond passes (Some count) None

position-push : (test : List ℕ → Bool) (xs : List (List ℕ)) (x : List ℕ) → position test (xs ++ x ∷ []) ≡ pushed (position test xs) (test x) (length xs)
position-push test xs x = by_cases (nat_lt (position_or_len test xs) (length xs)) refl
  where
    by_cases : (before : Bool) → nat_lt (position_or_len test xs) (length xs) ≡ before → position test (xs ++ x ∷ []) ≡ pushed (position test xs) (test x) (length xs)
    by_cases true b = grind (arith, nat_tests, common_steps, position_or_len_push test xs x, length-append xs (x ∷ []))
    by_cases false b = grind (arith, nat_tests, common_steps, position_or_len_push test xs x, length-append xs (x ∷ []), prefix_len-le-length (λ y. not (test y)) xs)

pushed-found : (place : Option ℕ) (passes : Bool) (count : ℕ) → (passes ≡ true → is_some place ≡ true) → pushed place passes count ≡ place
pushed-found (Some place) passes count found = refl
pushed-found None true count found = absurd (false≢true (found refl))
pushed-found None false count found = refl

pushed-missing : (place : Option ℕ) (count : ℕ) → is_some place ≡ false → pushed place true count ≡ Some count
pushed-missing (Some place) count missing = cc
pushed-missing None count missing = refl

pushed-other : (place : Option ℕ) (count : ℕ) → pushed place false count ≡ place
pushed-other (Some place) count = refl
pushed-other None count = refl

is_some-map : (place : Option ℕ) → is_some (option_map (λ (n : ℕ). pos n) place) ≡ is_some place
is_some-map (Some place) = refl
is_some-map None = refl

alike : (text name : List ℕ) → bytes_eq text name ≡ true → text ≡ name
alike text name same = (bytes_decides text name).0 same

module _ {S : Type 0} (names : List (List ℕ)) (at : ℕ) (name : Bor (List ℕ)) (d : List ℕ) (inside : at < length names) (is : name.now ≡ get_or names at d) (m : IndexMap (Bor (List ℕ)) ℤ S) (finds : IsFinder (take at names) m) where
  place_after : (text : List ℕ) → position (bytes_eq text) (take (at + 1) names) ≡ pushed (position (bytes_eq text) (take at names)) (bytes_eq text name.now) at
  place_after text =
      let count : length (take at names) ≡ at = grind (arith, common_steps, length-take) in
      rw (take_more names at d inside, ← is) (position-push (bytes_eq text) (take at names) name.now ∙ ap (pushed (position (bytes_eq text) (take at names)) (bytes_eq text name.now)) count)

  has_place : (text : List ℕ) → is_some (get_by (λ (key : Bor (List ℕ)). bytes_eq text key.now) m) ≡ is_some (position (bytes_eq text) (take at names))
  has_place text = ap is_some (finds text) ∙ is_some-map (position (bytes_eq text) (take at names))

  -- a name that is there already has its first place
  pub finder_known : is_some (get_by (λ (key : Bor (List ℕ)). bytes_eq name.now key.now) m) ≡ true → IsFinder (take (at + 1) names) m
  finder_known known text =
      finds text ∙ ap (option_map (λ (n : ℕ). pos n)) (sym (place_after text ∙ pushed-found (position (bytes_eq text) (take at names)) (bytes_eq text name.now) at (λ same. rw (alike text name.now same) (sym (has_place name.now) ∙ known))))

  -- a new name has the place at which it stands
  pub finder_new : (n : IndexMap (Bor (List ℕ)) ℤ S) → is_some (get_by (λ (key : Bor (List ℕ)). bytes_eq name.now key.now) m) ≡ false → Updates (λ (a b : Bor (List ℕ)). bytes_eq a.now b.now) m n name (Some (pos at)) → IsFinder (take (at + 1) names) n
  finder_new n missing updates text = by_test (bytes_eq text name.now) refl
    where
      key : Bor (List ℕ)
      key = record { ref_ptr = name.ref_ptr; now = text }

      by_test : (test : Bool) → bytes_eq text name.now ≡ test → get_by (λ (key : Bor (List ℕ)). bytes_eq text key.now) n ≡ option_map (λ (n : ℕ). pos n) (position (bytes_eq text) (take (at + 1) names))
      by_test true e =
          let same : text ≡ name.now = alike text name.now e in
          let none : is_some (position (bytes_eq text) (take at names)) ≡ false = rw same (sym (has_place name.now) ∙ missing) in
          let found : bytes_eq name.now text ≡ true = nat_list_eq_equiv.symm name.now text ∙ e in
          updates.0 key ∙ rw (place_after text, e, found, pushed-missing (position (bytes_eq text) (take at names)) at none) refl
      by_test false e =
          let other : bytes_eq name.now text ≡ false = nat_list_eq_equiv.symm name.now text ∙ e in
          updates.0 key ∙ rw (place_after text, e, other, pushed-other (position (bytes_eq text) (take at names)) at) (finds text)
