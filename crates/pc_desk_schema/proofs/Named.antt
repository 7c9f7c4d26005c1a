-- Of texts that may stand as names, each is one.
use Rattle.std.proofs.Common.{◌≡◌, ◌<◌, ◌∙◌, ℕ, Bool, true, false, not, ◌&&◌, List, length, get_or, refl, sym}
use Rattle.std.specs.Prelude.{IsTrue}
use Rattle.std.specs.List.{list_all}
use Rattle.std.proofs.lemmas.Bool.{false≢true}
use Rattle.std.proofs.lemmas.List.Folds.{list_all_at}
use Rattle.pc_model.specs.Texts.{IsName, is_name}
use Rattle.pc_model.proofs.Names.{name_is}
use Rattle.pc_desk_schema.specs.Names.{are_most, are_names, may_name}
use Rattle.pc_desk_schema.specs.Dates.{is_date}
use Rattle.pc_desk_schema.specs.Numbers.{is_number, is_past_limit}

first_of : (a b : Bool) → (a && b) ≡ true → a ≡ true
first_of true b both = refl
first_of false b both = both

pub passes_at : (test : List ℕ → Bool) (texts : List (List ℕ)) (i : ℕ) (d : List ℕ) → i < length texts → list_all test texts ≡ true → test (get_or texts i d) ≡ true
passes_at test texts i d inside all = by_test (test (get_or texts i d)) refl
  where
    by_test : (passes : Bool) → test (get_or texts i d) ≡ passes → test (get_or texts i d) ≡ true
    by_test true e = e
    by_test false e = absurd (false≢true (sym (list_all_at test texts i d inside e) ∙ all))

pub name_at : (texts : List (List ℕ)) (i : ℕ) (d : List ℕ) → i < length texts → IsTrue (list_all may_name texts) → IsName (get_or texts i d)
name_at texts i d inside all =
    name_is (get_or texts i d) (first_of (is_name (get_or texts i d)) (not (is_past_limit (get_or texts i d))) (passes_at may_name texts i d inside all))

pub each_may_name : (texts : List (List ℕ)) → are_names texts ≡ true → IsTrue (list_all may_name texts)
each_may_name texts are = first_of (list_all may_name texts) (not (are_most is_number texts)) (first_of (list_all may_name texts && not (are_most is_number texts)) (not (are_most is_date texts)) are)
