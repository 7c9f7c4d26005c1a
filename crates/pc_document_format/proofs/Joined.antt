-- The format of two parts, the second of which may depend on the first.
use Rattle.std.proofs.Common.{◌≡◌, ⊎_elim, ℕ, List, ◌∷◌, ◌++◌, Option, Ok, Err, refl, sym, ap, ◌∙◌, subst, append_assoc}
use Rattle.std.proofs.lemmas.List.Elements.{All-append}
use Rattle.pc_document_format.specs.Formats.{Lines, Found, IsPlain, ArePlain, IsFault, IsFormat, IsJoin, read_joined, read_then, first_line}
use Rattle.pc_document_format.proofs.Results.{first_same, IsBoth, IsFirst, both_found, first_or_second, both_are, first_fails, second_fails}

module _ {A B C : Type 0} (GoodA : A → Type 0) (textA : A → Lines) (FollowsA : A → Option (List ℕ) → Type 0) (read : Lines → Found A) (GoodB : A → B → Type 0) (textB : A → B → Lines) (FollowsB : A → B → Option (List ℕ) → Type 0) (next : A → Lines → Found B) (join : A → B → C) (Good : C → Type 0) (text : C → Lines) (Follows : C → Option (List ℕ) → Type 0) (first : IsFormat GoodA textA FollowsA read) (second : (x : A) → GoodA x → IsFormat (GoodB x) (textB x) (FollowsB x) (next x)) (j : IsJoin GoodA textA FollowsA GoodB textB FollowsB join Good text Follows) where
  abbrev reader : Lines → Found C
  reader = read_joined read next join

  joined_complete : (z : C) (rest : Lines) → Good z → Follows z (first_line rest) → reader (text z ++ rest) ≡ Ok (z, rest)
  joined_complete z rest good follows = subst (λ (w : C). reader (text w ++ rest) ≡ Ok (w, rest)) p.4 again
    where
      p : (x : A) × (y : B) × GoodA x × GoodB x y × (join x y ≡ z)
      p = j.parts z good

      ended : FollowsB p.0 p.1 (first_line rest)
      ended = j.back_follows p.0 p.1 (first_line rest) p.2 p.3 (subst (λ (w : C). Follows w (first_line rest)) (sym p.4) follows)

      lines : text (join p.0 p.1) ++ rest ≡ textA p.0 ++ (textB p.0 p.1 ++ rest)
      lines = ap (λ (front : Lines). front ++ rest) (j.made p.0 p.1 p.2 p.3).1 ∙ append_assoc (textA p.0) (textB p.0 p.1) rest

      again : reader (text (join p.0 p.1) ++ rest) ≡ Ok (join p.0 p.1, rest)
      again = ap reader lines ∙ both_are read next join (textA p.0 ++ (textB p.0 p.1 ++ rest)) (textB p.0 p.1 ++ rest) rest p.0 p.1 (first.complete p.0 (textB p.0 p.1 ++ rest) p.2 (j.fits p.0 p.1 rest p.2 p.3 ended)) ((second p.0 p.2).complete p.1 rest p.3 ended)

  joined_sound : (lines rest : Lines) (z : C) → reader lines ≡ Ok (z, rest) → Good z × (lines ≡ text z ++ rest) × Follows z (first_line rest)
  joined_sound lines rest z e = subst (λ (w : C). Good w × (lines ≡ text w ++ rest) × Follows w (first_line rest)) b.is (made.0, whole, j.follows b.x b.y (first_line rest) one.0 two.0 two.2)
    where
      b : IsBoth read next join lines rest z
      b = both_found read next join lines rest z e

      one : GoodA b.x × (lines ≡ textA b.x ++ b.middle) × FollowsA b.x (first_line b.middle)
      one = first.sound lines b.middle b.x b.found

      two : GoodB b.x b.y × (b.middle ≡ textB b.x b.y ++ rest) × FollowsB b.x b.y (first_line rest)
      two = (second b.x one.0).sound b.middle rest b.y b.last

      made : Good (join b.x b.y) × (text (join b.x b.y) ≡ textA b.x ++ textB b.x b.y)
      made = j.made b.x b.y one.0 two.0

      whole : lines ≡ text (join b.x b.y) ++ rest
      whole = one.1 ∙ ap (λ (others : Lines). textA b.x ++ others) two.1 ∙ sym (append_assoc (textA b.x) (textB b.x b.y) rest) ∙ ap (λ (front : Lines). front ++ rest) (sym made.1)

  -- reading ends in the first part, which any second part completes
  first_fault : (lines left : Lines) → read lines ≡ Err left → IsFault Good text reader lines left
  first_fault lines left e = record {
    before = f.before;
    parts = f.parts;
    value = join f.value last;
    good = made.0;
    after = f.after ++ textB f.value last;
    goes_on = made.1 ∙ ap (λ (front : Lines). front ++ textB f.value last) f.goes_on ∙ append_assoc f.before f.after (textB f.value last);
    stays = λ line more other is. first_fails read next join (f.before ++ line ∷ other) (line ∷ other) (f.stays line more other is);
  }
    where
      f : IsFault GoodA textA read lines left
      f = first.fault lines left e

      last : B
      last = (second f.value f.good).some

      made : Good (join f.value last) × (text (join f.value last) ≡ textA f.value ++ textB f.value last)
      made = j.made f.value last f.good (second f.value f.good).some_good

  -- reading ends in the second part
  second_fault : (lines left : Lines) → IsFirst read next lines left → IsFault Good text reader lines left
  second_fault lines left s = record {
    before = textA s.x ++ f.before;
    parts = one.1 ∙ ap (λ (others : Lines). textA s.x ++ others) f.parts ∙ sym (append_assoc (textA s.x) f.before left);
    value = join s.x f.value;
    good = made.0;
    after = f.after;
    goes_on = made.1 ∙ ap (λ (others : Lines). textA s.x ++ others) f.goes_on ∙ sym (append_assoc (textA s.x) f.before f.after);
    stays = stays;
  }
    where
      one : GoodA s.x × (lines ≡ textA s.x ++ s.middle) × FollowsA s.x (first_line s.middle)
      one = first.sound lines s.middle s.x s.found

      f : IsFault (GoodB s.x) (textB s.x) (next s.x) s.middle left
      f = (second s.x one.0).fault s.middle left s.last

      made : Good (join s.x f.value) × (text (join s.x f.value) ≡ textA s.x ++ textB s.x f.value)
      made = j.made s.x f.value one.0 f.good

      stays : (line : List ℕ) (more other : Lines) → left ≡ line ∷ more → reader ((textA s.x ++ f.before) ++ line ∷ other) ≡ Err (line ∷ other)
      stays line more other is =
          let seen : first_line s.middle ≡ first_line (f.before ++ line ∷ other) =
          ap first_line (f.parts ∙ ap (λ (others : Lines). f.before ++ others) is) ∙ first_same f.before line more other in
          let follows = subst (FollowsA s.x) seen one.2 in
          let read_first = ap read (append_assoc (textA s.x) f.before (line ∷ other)) ∙ first.complete s.x (f.before ++ line ∷ other) one.0 follows in
          second_fails read next join ((textA s.x ++ f.before) ++ line ∷ other) (f.before ++ line ∷ other) (line ∷ other) s.x read_first (f.stays line more other is)

  joined_plain : (z : C) → Good z → ArePlain (text z)
  joined_plain z good = subst (λ (w : C). ArePlain (text w)) p.4 (subst ArePlain (sym made.1) both)
    where
      p : (x : A) × (y : B) × GoodA x × GoodB x y × (join x y ≡ z)
      p = j.parts z good

      made : Good (join p.0 p.1) × (text (join p.0 p.1) ≡ textA p.0 ++ textB p.0 p.1)
      made = j.made p.0 p.1 p.2 p.3

      both : ArePlain (textA p.0 ++ textB p.0 p.1)
      both = All-append IsPlain (textA p.0) (textB p.0 p.1) (first.plain p.0 p.2) ((second p.0 p.2).plain p.1 p.3)

  in_module : IsFormat Good text Follows reader
  in_module = record {
    some = join first.some (second first.some first.some_good).some;
    some_good = (j.made first.some (second first.some first.some_good).some first.some_good (second first.some first.some_good).some_good).0;
    complete = joined_complete;
    sound = joined_sound;
    fault = λ lines left e. ⊎_elim (first_fault lines left) (second_fault lines left) (first_or_second read next join lines left e);
    plain = joined_plain;
  }

-- Of formats of parts one of what they make.
pub joined_format : {A B C : Type 0} {GoodA : A → Type 0} {textA : A → Lines} {FollowsA : A → Option (List ℕ) → Type 0} {read : Lines → Found A} {GoodB : A → B → Type 0} {textB : A → B → Lines} {FollowsB : A → B → Option (List ℕ) → Type 0} {next : A → Lines → Found B} {join : A → B → C} {Good : C → Type 0} {text : C → Lines} {Follows : C → Option (List ℕ) → Type 0} → IsFormat GoodA textA FollowsA read → ((x : A) → GoodA x → IsFormat (GoodB x) (textB x) (FollowsB x) (next x)) → IsJoin GoodA textA FollowsA GoodB textB FollowsB join Good text Follows → IsFormat Good text Follows (read_joined read next join)
joined_format {A} {B} {C} {GoodA} {textA} {FollowsA} {read} {GoodB} {textB} {FollowsB} {next} {join} {Good} {text} {Follows} first second j = in_module GoodA textA FollowsA read GoodB textB FollowsB next join Good text Follows first second j

-- one after another
abbrev pub IsPair : {A B : Type 0} → (A → Type 0) → (A → B → Type 0) → A × B → Type 0
IsPair GoodA GoodB p = GoodA p.0 × GoodB p.0 p.1

pub then_format : {A B : Type 0} {GoodA : A → Type 0} {textA : A → Lines} {FollowsA : A → Option (List ℕ) → Type 0} {read : Lines → Found A} {GoodB : A → B → Type 0} {textB : A → B → Lines} {FollowsB : A → B → Option (List ℕ) → Type 0} {next : A → Lines → Found B} → IsFormat GoodA textA FollowsA read → ((x : A) → GoodA x → IsFormat (GoodB x) (textB x) (FollowsB x) (next x)) → ((x : A) (y : B) (rest : Lines) → GoodA x → GoodB x y → FollowsB x y (first_line rest) → FollowsA x (first_line (textB x y ++ rest))) → IsFormat (IsPair GoodA GoodB) (λ (p : A × B). textA p.0 ++ textB p.0 p.1) (λ (p : A × B). FollowsB p.0 p.1) (read_then read next)
then_format {A} {B} {GoodA} {textA} {FollowsA} {read} {GoodB} {textB} {FollowsB} {next} first second fits = in_module GoodA textA FollowsA read GoodB textB FollowsB next (λ x y. (x, y)) (IsPair GoodA GoodB) (λ (p : A × B). textA p.0 ++ textB p.0 p.1) (λ (p : A × B). FollowsB p.0 p.1) first second (record {
  made = λ x y goodx goody. ((goodx, goody), refl);
  follows = λ x y line goodx goody follows. follows;
  parts = λ p good. (p.0, p.1, good.0, good.1, refl);
  back_follows = λ x y line goodx goody follows. follows;
  fits = fits;
})
