-- Each field of a column of names is one of them.
use Rattle.std.proofs.Common.{◌≡◌, ◌∙◌, ℕ, suc, ◌+◌, ◌<◌, ◌≤◌, ◌==◌, ◌||◌, not, Bool, true, false, cond, List, [], ◌∷◌, ◌++◌, length, nat_lt, position, Some, None, is_ok, refl, arith, length-append, lt-ltb, ltb-true}
use Rattle.std.specs.List.{list_all, list_any, position_or_len}
use Rattle.std.specs.Str.{bytes_eq}
use Rattle.std.proofs.lemmas.Bool.{and_from, false≢true}
use Rattle.std.proofs.lemmas.Bool.Decides.{nat_tests}
use Rattle.std.proofs.lemmas.List.Folds.{list_any-append}
use Rattle.pc_model.specs.declared.schema.Kind.TheVariants.{Cat}
use Rattle.pc_model.proofs.Lists.{bytes_eq-same}
use Rattle.pc_rows.specs.RowFile.{cell_of, place_number}
use Rattle.pc_desk_schema.specs.Names.{are_names, different_from, few, name_limit, names_of, with_text}
use Rattle.pc_desk_schema.proofs.NumbersFit.{all_read, list_all_follows}

abbrev pub is_among : List (List ℕ) → List ℕ → Bool
is_among names text = list_any (bytes_eq text) names

or_first : (a b : Bool) → a ≡ true → (a || b) ≡ true
or_first true b is = refl
or_first false b is = absurd (false≢true is)

pub or_last : (a b : Bool) → b ≡ true → (a || b) ≡ true
or_last true b is = refl
or_last false b is = is

among_more : (names : List (List ℕ)) (name text : List ℕ) → is_among names text ≡ true → is_among (names ++ name ∷ []) text ≡ true
among_more names name text is = list_any-append (bytes_eq text) names (name ∷ []) ∙ or_first (is_among names text) (is_among (name ∷ []) text) is

among_last : (names : List (List ℕ)) (text : List ℕ) → is_among (names ++ text ∷ []) text ≡ true
among_last names text =
    let last : is_among (text ∷ []) text ≡ true = rw (bytes_eq-same text) refl in
    list_any-append (bytes_eq text) names (text ∷ []) ∙ or_last (is_among names text) (is_among (text ∷ []) text) last

-- ---- no text is lost

kept_by_one : (names : List (List ℕ)) (name text : List ℕ) → is_among names text ≡ true → is_among (with_text names name) text ≡ true
kept_by_one names name text is = by_test (is_among names name || nat_lt name_limit (length names))
  where
    by_test : (stays : Bool) → is_among (cond stays names (names ++ name ∷ [])) text ≡ true
    by_test true = is
    by_test false = among_more names name text is

kept : (names texts : List (List ℕ)) (text : List ℕ) → is_among names text ≡ true → is_among (different_from names texts) text ≡ true
kept names [] text is = is
kept names (name ∷ texts) text is = kept (with_text names name) texts text (kept_by_one names name text is)

grown_by_one : (names : List (List ℕ)) (name : List ℕ) → length names ≤ length (with_text names name)
grown_by_one names name = by_test (is_among names name || nat_lt name_limit (length names))
  where
    by_test : (stays : Bool) → length names ≤ length (cond stays names (names ++ name ∷ []))
    by_test true = omega arith
    by_test false = omega (arith, length-append names (name ∷ []))

pub grown : (names texts : List (List ℕ)) → length names ≤ length (different_from names texts)
grown names [] = omega arith
grown names (name ∷ texts) = omega (arith, grown_by_one names name, grown (with_text names name) texts)

-- a text is taken unless the names are too many
taken : (names : List (List ℕ)) (text : List ℕ) → length names ≤ name_limit → is_among (with_text names text) text ≡ true
taken names text room = by_tests (is_among names text) (nat_lt name_limit (length names)) refl refl
  where
    by_tests : (known full : Bool) → is_among names text ≡ known → nat_lt name_limit (length names) ≡ full → is_among (cond (known || full) names (names ++ text ∷ [])) text ≡ true
    by_tests true full k f = k
    by_tests false true k f = absurd (omega (arith, ltb-true name_limit (length names) f, room))
    by_tests false false k f = among_last names text

all_taken : (names texts : List (List ℕ)) → length (different_from names texts) ≤ name_limit → list_all (is_among (different_from names texts)) texts ≡ true
all_taken names [] room = refl
all_taken names (text ∷ texts) room =
    let after = with_text names text in
    let early : length names ≤ name_limit = omega (arith, room, grown_by_one names text, grown after texts) in
    and_from (is_among (different_from after texts) text) (list_all (is_among (different_from after texts)) texts) (kept after texts text (taken names text early)) (all_taken after texts room)

-- ---- so it is read

pub among_place : (p : List ℕ → Bool) (names : List (List ℕ)) → list_any p names ≡ true → position_or_len p names < length names
among_place p [] is = absurd (false≢true is)
among_place p (name ∷ names) is = by_test (p name) is (among_place p names)
  where
    by_test : (passes : Bool) → (passes || list_any p names) ≡ true → (list_any p names ≡ true → position_or_len p names < length names) → cond (not passes) (1 + position_or_len p names) 0 < suc (length names)
    by_test true h later = omega arith
    by_test false h later = omega (arith, later h)

name_read : (names : List (List ℕ)) (text : List ℕ) → is_among names text ≡ true → is_ok (place_number (position (bytes_eq text) names)) ≡ true
name_read names text is = rw (lt-ltb (position_or_len (bytes_eq text) names) (length names) (among_place (bytes_eq text) names is)) refl

cat_read : (names texts : List (List ℕ)) → list_all (is_among names) texts ≡ true → all_read (Cat names) texts ≡ true
unfolding cell_of
cat_read names texts all = list_all_follows (is_among names) (λ text. is_ok (place_number (position (bytes_eq text) names))) texts (name_read names) all

few_read : (names texts : List (List ℕ)) → few (different_from [] texts) ≡ Some names → all_read (Cat names) texts ≡ true
few_read names texts is = by_tests (length (different_from [] texts) == 0) (nat_lt name_limit (length (different_from [] texts))) refl is
  where
    by_tests : (none full : Bool) → nat_lt name_limit (length (different_from [] texts)) ≡ full → cond (none || full) None (Some (different_from [] texts)) ≡ Some names → all_read (Cat names) texts ≡ true
    by_tests true full f is = cc
    by_tests false true f is = cc
    by_tests false false f is =
        let same : different_from [] texts ≡ names = cc in
        let room : length (different_from [] texts) ≤ name_limit = grind (arith, nat_tests, f) in
        rw (← same) (cat_read (different_from [] texts) texts (all_taken [] texts room))

pub names_read : (names texts : List (List ℕ)) → names_of texts ≡ Some names → all_read (Cat names) texts ≡ true
unfolding names_of
names_read names texts is = by_test (are_names texts) is
  where
    by_test : (are : Bool) → cond are (few (different_from [] texts)) None ≡ Some names → all_read (Cat names) texts ≡ true
    by_test true is = few_read names texts is
    by_test false is = cc
