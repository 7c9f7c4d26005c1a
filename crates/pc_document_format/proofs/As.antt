-- The format of values that are read as others.
use Rattle.std.proofs.Common.{◌≡◌, ⊎_elim, ℕ, List, ◌∷◌, ◌++◌, Option, Ok, Err, refl, sym, ap, ◌∙◌, subst}
use Rattle.pc_document_format.specs.Formats.{Lines, Found, ArePlain, IsFault, IsFormat, IsAs, read_as, read_none, first_line}
use Rattle.pc_document_format.proofs.Results.{ok_parts, ok_err, found_as, IsBoth, IsFirst, both_found, first_or_second, both_are, first_fails}

module _ {A C : Type 0} (GoodA : A → Type 0) (textA : A → Lines) (FollowsA : A → Option (List ℕ) → Type 0) (read : Lines → Found A) (to : A → C) (Good : C → Type 0) (text : C → Lines) (Follows : C → Option (List ℕ) → Type 0) (format : IsFormat GoodA textA FollowsA read) (a : IsAs GoodA textA FollowsA to Good text Follows) where
  -- reading as another value is reading a second part of no line
  abbrev nothing : A → Lines → Found (Unit {0})
  nothing x = read_none tt

  abbrev to_value : A → Unit {0} → C
  to_value x y = to x

  as_complete : (z : C) (rest : Lines) → Good z → Follows z (first_line rest) → read_as to read (text z ++ rest) ≡ Ok (z, rest)
  as_complete z rest good follows = subst (λ (w : C). read_as to read (text w ++ rest) ≡ Ok (w, rest)) p.2 again
    where
      p : (x : A) × GoodA x × (to x ≡ z)
      p = a.parts z good

      ended : FollowsA p.0 (first_line rest)
      ended = a.back_follows p.0 (first_line rest) p.1 (subst (λ (w : C). Follows w (first_line rest)) (sym p.2) follows)

      again : read_as to read (text (to p.0) ++ rest) ≡ Ok (to p.0, rest)
      again = ap (λ (front : Lines). read_as to read (front ++ rest)) (a.made p.0 p.1).1 ∙ both_are read nothing to_value (textA p.0 ++ rest) rest rest p.0 tt (format.complete p.0 rest p.1 ended) refl

  as_sound : (lines rest : Lines) (z : C) → read_as to read lines ≡ Ok (z, rest) → Good z × (lines ≡ text z ++ rest) × Follows z (first_line rest)
  as_sound lines rest z e = subst (λ (w : C). Good w × (lines ≡ text w ++ rest) × Follows w (first_line rest)) b.is (made.0, one.1 ∙ ap (λ (front : Lines). front ++ rest) (sym made.1), a.follows b.x (first_line rest) one.0 one.2)
    where
      b : IsBoth read nothing to_value lines rest z
      b = both_found read nothing to_value lines rest z e

      found : read lines ≡ Ok (b.x, rest)
      found = b.found ∙ ap (λ (left : Lines). found_as b.x left) (ok_parts tt b.y b.middle rest b.last).1

      one : GoodA b.x × (lines ≡ textA b.x ++ rest) × FollowsA b.x (first_line rest)
      one = format.sound lines rest b.x found

      made : Good (to b.x) × (text (to b.x) ≡ textA b.x)
      made = a.made b.x one.0

  read_fault : (lines left : Lines) → read lines ≡ Err left → IsFault Good text (read_as to read) lines left
  read_fault lines left e = record {
    before = f.before;
    parts = f.parts;
    value = to f.value;
    good = made.0;
    after = f.after;
    goes_on = made.1 ∙ f.goes_on;
    stays = λ line more other is. first_fails read nothing to_value (f.before ++ line ∷ other) (line ∷ other) (f.stays line more other is);
  }
    where
      f : IsFault GoodA textA read lines left
      f = format.fault lines left e

      made : Good (to f.value) × (text (to f.value) ≡ textA f.value)
      made = a.made f.value f.good

  as_fault : (lines left : Lines) → read_as to read lines ≡ Err left → IsFault Good text (read_as to read) lines left
  as_fault lines left e = ⊎_elim (read_fault lines left) (λ (s : IsFirst read nothing lines left). absurd (ok_err tt s.middle left s.last)) (first_or_second read nothing to_value lines left e)

  as_plain : (z : C) → Good z → ArePlain (text z)
  as_plain z good =
      let p : (x : A) × GoodA x × (to x ≡ z) = a.parts z good in
      subst (λ (w : C). ArePlain (text w)) p.2 (subst ArePlain (sym (a.made p.0 p.1).1) (format.plain p.0 p.1))

  in_module : IsFormat Good text Follows (read_as to read)
  in_module = record {
    some = to format.some;
    some_good = (a.made format.some format.some_good).0;
    complete = as_complete;
    sound = as_sound;
    fault = as_fault;
    plain = as_plain;
  }

-- Of a format of values one of what they are read as.
pub as_format : {A C : Type 0} {GoodA : A → Type 0} {textA : A → Lines} {FollowsA : A → Option (List ℕ) → Type 0} {read : Lines → Found A} {to : A → C} {Good : C → Type 0} {text : C → Lines} {Follows : C → Option (List ℕ) → Type 0} → IsFormat GoodA textA FollowsA read → IsAs GoodA textA FollowsA to Good text Follows → IsFormat Good text Follows (read_as to read)
as_format {A} {C} {GoodA} {textA} {FollowsA} {read} {to} {Good} {text} {Follows} format a = in_module GoodA textA FollowsA read to Good text Follows format a
