-- What is said of the fields of a column that is left out is so.
use Rattle.std.proofs.Common.{◌≡◌, ◌∙◌, ℕ, suc, ◌+◌, ◌-◌, ◌<◌, ◌≤◌, ◌==◌, ◌||◌, ◌&&◌, not, Bool, true, false, cond, List, [], ◌∷◌, ◌++◌, length, get_or, nat_lt, Option, Some, None, Err, refl, sym, subst, arith, eqb-true, ltb-true}
use Rattle.std.specs.List.{count_by, find, list_all, position_or_len}
use Rattle.std.specs.Option.{unwrap_or}
use Rattle.std.specs.Str.{bytes_eq}
use Rattle.std.proofs.lemmas.Bool.{and_from, and_parts, false≢true}
use Rattle.std.proofs.lemmas.List.Sums.{fails_before_first, passes_at_first}
use Rattle.pc_model.specs.declared.schema.Kind.{Kind}
use Rattle.pc_desk_schema.specs.declared.said.Said.{Said}
use Rattle.pc_desk_schema.specs.declared.said.Said.TheVariants as saids
use Rattle.pc_desk_schema.specs.Dates.{is_date}
use Rattle.pc_desk_schema.specs.Fits.{first_odd, fit_of, is_no_name, is_no_number, name_or, name_past, number_or, said_of}
use Rattle.pc_desk_schema.specs.Names.{are_most, are_names, different_from, few, may_name, name_limit, names_of, with_text}
use Rattle.pc_desk_schema.specs.Numbers.{decimals_of, decimals_spelled, fits_at, has_room_at, is_number, is_wide_at, kind_over, number_kind, scale_of, scales}
use Rattle.pc_desk_schema.specs.Told.{IsFirstOdd, IsFirstOf, IsShare, Tells}
use Rattle.pc_desk_schema.proofs.Named.{passes_at}
use Rattle.pc_desk_schema.proofs.NamesFit.{among_place, grown, is_among, or_last}
use Rattle.pc_desk_schema.proofs.NumbersFit.{list_all_follows}
use Rattle.pc_model.proofs.Lists.{bytes_eq-same}
use Rattle.std.proofs.lemmas.List.Folds.{list_all-append}

-- ---- the first odd field

true_from_not : (test : Bool) → not test ≡ false → test ≡ true
true_from_not true is = refl
true_from_not false is = sym is

false_from_not : (test : Bool) → not test ≡ true → test ≡ false
false_from_not true is = sym is
false_from_not false is = refl

odd_inside : (test : List ℕ → Bool) (texts : List (List ℕ)) → list_all test texts ≡ false → position_or_len (λ text. not (test text)) texts < length texts
odd_inside test [] is = absurd (false≢true (sym is))
odd_inside test (text ∷ texts) is = by_test (test text) is (odd_inside test texts)
  where
    by_test : (passes : Bool) → (passes && list_all test texts) ≡ false → (list_all test texts ≡ false → position_or_len (λ text. not (test text)) texts < length texts) → cond (not (not passes)) (1 + position_or_len (λ text. not (test text)) texts) 0 < suc (length texts)
    by_test true h later = omega (arith, later h)
    by_test false h later = omega arith

first_is : (test : List ℕ → Bool) (texts : List (List ℕ)) → list_all test texts ≡ false → IsFirstOdd test texts (first_odd (λ text. not (test text)) texts)
first_is test texts is =
    let at = position_or_len (λ text. not (test text)) texts in
    let inside : at < length texts = odd_inside test texts is in
    record {
      place = at;
      inside = inside;
      numbered = refl;
      stands = refl;
      fails = false_from_not (test (get_or texts at [])) (passes_at_first (λ text. not (test text)) texts [] inside);
      passes = λ before early. true_from_not (test (get_or texts before [])) (fails_before_first (λ text. not (test text)) texts before [] early);
    }

share_is : (test : List ℕ → Bool) (texts : List (List ℕ)) → are_most test texts ≡ true → IsShare test texts (count_by test texts) (length texts)
share_is test texts is = record { so_many = refl; of_all = refl; most = ltb-true (length texts - count_by test texts) (count_by test texts) is }

-- ---- numbers of which some are too wide for the decimals of others

none_there : (p q : ℕ → Bool) (xs : List ℕ) (x : ℕ) → find p xs ≡ None → find q xs ≡ Some x → p x ≡ false
none_there p q [] x none found = cc
none_there p q (y ∷ ys) x none found = by_tests (p y) (q y) refl none found (none_there p q ys x)
  where
    by_tests : (first second : Bool) → p y ≡ first → cond first (Some y) (find p ys) ≡ None → cond second (Some y) (find q ys) ≡ Some x → (find p ys ≡ None → find q ys ≡ Some x → p x ≡ false) → p x ≡ false
    by_tests true second e none found later = cc
    by_tests false true e none found later = let same : y ≡ x = cc in rw (← same) e
    by_tests false false e none found later = later none found

none_last : (p : ℕ → Bool) (xs : List ℕ) (x : ℕ) → find p (xs ++ x ∷ []) ≡ None → p x ≡ false
none_last p [] x none = by_test (p x) none
  where
    by_test : (passes : Bool) → cond passes (Some x) None ≡ None → passes ≡ false
    by_test true none = cc
    by_test false none = refl
none_last p (y ∷ ys) x none = by_test (p y) none (none_last p ys x)
  where
    by_test : (passes : Bool) → cond passes (Some y) (find p (ys ++ x ∷ [])) ≡ None → (find p (ys ++ x ∷ []) ≡ None → p x ≡ false) → p x ≡ false
    by_test true none later = cc
    by_test false none later = later none

wide_there : (p q : ℕ → Bool) (room : Option ℕ) → find p scales ≡ None → find q scales ≡ room → p (unwrap_or room 6) ≡ false
wide_there p q (Some scale) none is = none_there p q scales scale none is
wide_there p q None none is = none_last p (0 ∷ 1 ∷ 2 ∷ 3 ∷ 4 ∷ 5 ∷ []) 6 none

no_kind : (texts : List (List ℕ)) (scale : Option ℕ) → (length texts == 0) ≡ false → kind_over texts scale ≡ None → scale ≡ None
no_kind texts None some is = refl
no_kind [] (Some scale) some is = absurd (false≢true (sym some))
no_kind (text ∷ texts) (Some scale) some is = cc

none_after : (p : ℕ → Bool) (x : ℕ) (xs : List ℕ) → find p (x ∷ xs) ≡ None → find p xs ≡ None
none_after p x xs none = by_test (p x) none
  where
    by_test : (passes : Bool) → cond passes (Some x) (find p xs) ≡ None → find p xs ≡ None
    by_test true none = cc
    by_test false none = none

none_of_scales : (texts : List (List ℕ)) → scale_of texts ≡ None → find (λ scale. list_all (fits_at scale) texts) scales ≡ None
none_of_scales texts none =
    let p : ℕ → Bool = λ scale. list_all (fits_at scale) texts in
    none_after p (decimals_spelled texts) scales (none_after p 0 (decimals_spelled texts ∷ scales) none)

wide_is : (texts : List (List ℕ)) → (length texts == 0) ≡ false → number_kind texts ≡ None → list_all (fits_at (decimals_of texts)) texts ≡ false
unfolding number_kind
wide_is texts some none =
    wide_there (λ scale. list_all (fits_at scale) texts) (λ scale. list_all (has_room_at scale) texts) (find (λ scale. list_all (has_room_at scale) texts) scales) (none_of_scales texts (no_kind texts (scale_of texts) some none)) refl

-- ---- names that are too many

few_none : (names : List (List ℕ)) → 1 ≤ length names → few names ≡ None → name_limit < length names
few_none names some none = by_tests (length names == 0) (nat_lt name_limit (length names)) refl refl none
  where
    by_tests : (empty full : Bool) → (length names == 0) ≡ empty → nat_lt name_limit (length names) ≡ full → cond (empty || full) None (Some names) ≡ None → name_limit < length names
    by_tests true full e f none = absurd (omega (arith, eqb-true (length names) 0 e))
    by_tests false true e f none = ltb-true name_limit (length names) f
    by_tests false false e f none = cc

some_different : (texts : List (List ℕ)) → (length texts == 0) ≡ false → 1 ≤ length (different_from [] texts)
some_different [] some = absurd (false≢true (sym some))
some_different (text ∷ texts) some = omega (arith, grown (text ∷ []) texts)

many_is : (texts : List (List ℕ)) → (length texts == 0) ≡ false → are_names texts ≡ true → names_of texts ≡ None → name_limit < length (different_from [] texts)
unfolding names_of
many_is texts some are none = few_none (different_from [] texts) (some_different texts some) (rw are at none)

-- each name is one of the texts
from_texts : (all before texts : List (List ℕ)) → list_all (is_among all) before ≡ true → list_all (is_among all) texts ≡ true → list_all (is_among all) (different_from before texts) ≡ true
from_texts all before [] known more = known
from_texts all before (text ∷ texts) known more =
    let parts = and_parts (is_among all text) (list_all (is_among all) texts) more in
    from_texts all (with_text before text) texts (by_test (is_among before text || nat_lt name_limit (length before)) known parts.0) parts.1
  where
    by_test : (stays : Bool) → list_all (is_among all) before ≡ true → is_among all text ≡ true → list_all (is_among all) (cond stays before (before ++ text ∷ [])) ≡ true
    by_test true known is = known
    by_test false known is = list_all-append (is_among all) before (text ∷ []) ∙ rw (known, is) refl

self_among : (texts : List (List ℕ)) → list_all (is_among texts) texts ≡ true
self_among [] = refl
self_among (text ∷ texts) =
    and_from (is_among (text ∷ texts) text) (list_all (is_among (text ∷ texts)) texts) (rw (bytes_eq-same text) refl)
    (list_all_follows (is_among texts) (is_among (text ∷ texts)) texts (λ other is. or_last (bytes_eq other text) (is_among texts other) is) (self_among texts))

past_is : (texts : List (List ℕ)) → name_limit < length (different_from [] texts) → IsFirstOf (name_past texts) texts (first_odd (bytes_eq (name_past texts)) texts)
past_is texts more =
    let name = name_past texts in
    let among : is_among texts name ≡ true = passes_at (is_among texts) (different_from [] texts) 128 [] more (from_texts texts [] texts refl (self_among texts)) in
    let at = position_or_len (bytes_eq name) texts in
    let inside : at < length texts = among_place (bytes_eq name) texts among in
    record {
      place = at;
      inside = inside;
      numbered = refl;
      stands = refl;
      same = passes_at_first (bytes_eq name) texts [] inside;
      others = λ before early. fails_before_first (bytes_eq name) texts before [] early;
    }

-- ---- what is said

said_is : (texts : List (List ℕ)) → number_kind texts ≡ None → names_of texts ≡ None → Tells texts (said_of texts)
unfolding said_of
said_is texts numberless nameless =
    by_tests (length texts == 0) (list_all is_number texts) (are_most is_number texts) (are_most is_date texts) (list_all may_name texts) refl refl refl refl refl
  where
    by_tests : (empty numbers mostly dates names : Bool) → (length texts == 0) ≡ empty → list_all is_number texts ≡ numbers → are_most is_number texts ≡ mostly → are_most is_date texts ≡ dates → list_all may_name texts ≡ names → Tells texts (cond empty saids.NoRows (cond numbers (saids.TooWide (first_odd (is_wide_at (decimals_of texts)) texts)) (cond mostly (saids.Numbers (count_by is_number texts) (length texts) (first_odd is_no_number texts)) (cond dates (saids.Dates (count_by is_date texts) (length texts)) (cond names (saids.ManyNames (first_odd (bytes_eq (name_past texts)) texts)) (saids.NoName (first_odd is_no_name texts)))))))
    by_tests true numbers mostly dates names e n m d a = eqb-true (length texts) 0 e
    by_tests false true mostly dates names e n m d a = first_is (fits_at (decimals_of texts)) texts (wide_is texts e numberless)
    by_tests false false true dates names e n m d a = (share_is is_number texts m, first_is is_number texts n)
    by_tests false false false true names e n m d a = share_is is_date texts d
    by_tests false false false false true e n m d a =
        let are : are_names texts ≡ true = rw (a, m, d) refl in
        let more : name_limit < length (different_from [] texts) = many_is texts e are nameless in
        (more, past_is texts more)
    by_tests false false false false false e n m d a = first_is may_name texts a

names_told : (texts : List (List ℕ)) (what : Said) (names : Option (List (List ℕ))) → number_kind texts ≡ None → names_of texts ≡ names → name_or texts names ≡ Err what → Tells texts what
names_told texts what (Some names) numberless e is = cc
names_told texts what None numberless e is = let same : said_of texts ≡ what = cc in subst (λ (what : Said). Tells texts what) same (said_is texts numberless e)

numbers_told : (texts : List (List ℕ)) (what : Said) (numbers : Option Kind) → number_kind texts ≡ numbers → number_or texts numbers ≡ Err what → Tells texts what
numbers_told texts what (Some kind) e is = cc
numbers_told texts what None e is = names_told texts what (names_of texts) e refl is

pub told_is : (texts : List (List ℕ)) (what : Said) → fit_of texts ≡ Err what → Tells texts what
unfolding fit_of
told_is texts what is = numbers_told texts what (number_kind texts) refl is
