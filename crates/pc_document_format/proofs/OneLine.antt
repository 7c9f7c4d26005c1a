-- The format of one line, and that of none.
use Rattle.std.proofs.Common.{◌≡◌, ℕ, List, [], ◌∷◌, ◌++◌, Option, Some, None, Ok, Err, refl, sym, ap, ◌∙◌, subst}
use Rattle.std.proofs.lemmas.List.Elements.{All-nil, All-cons}
use Rattle.pc_document_format.specs.Formats.{Lines, IsPlain, ArePlain, IsFault, IsFormat, IsLine, any, line_found, read_line, read_none, first_line}
use Rattle.pc_document_format.proofs.Results.{found_as, ok_parts, err_same, ok_err, err_ok, cons_parts, nil_cons}

-- a line is refused at once, whatever follows it
pub refused_line : {A : Type 0} (read : List ℕ → Option A) (lines left : Lines) → read_line read lines ≡ Err left → (lines ≡ left) × ((line : List ℕ) (more other : Lines) → left ≡ line ∷ more → read_line read (line ∷ other) ≡ Err (line ∷ other))
refused_line read [] left e =
    let same = err_same [] left e in
    (same, λ line more other is. absurd (nil_cons line more (same ∙ is)))
refused_line {A} read (line ∷ others) left e = by_found (read line) refl e
  where
    by_found : (found : Option A) → read line ≡ found → line_found line others found ≡ Err left → (line ∷ others ≡ left) × ((next : List ℕ) (more other : Lines) → left ≡ next ∷ more → read_line read (next ∷ other) ≡ Err (next ∷ other))
    by_found (Some y) is e = absurd (ok_err y others left e)
    by_found None is e =
        let same = err_same (line ∷ others) left e in
        (same, λ next more other eq. ap (line_found next other) (ap read (sym (cons_parts line next others more (same ∙ eq)).0) ∙ is))

module _ {A : Type 0} (Good : A → Type 0) (text : A → List ℕ) (read : List ℕ → Option A) (l : IsLine Good text read) where
  abbrev lines_of : A → Lines
  lines_of x = text x ∷ []

  line_complete : (x : A) (rest : Lines) → Good x → read_line read (text x ∷ rest) ≡ Ok (x, rest)
  line_complete x rest good = ap (line_found (text x) rest) (l.complete x good)

  line_sound : (lines rest : Lines) (x : A) → read_line read lines ≡ Ok (x, rest) → Good x × (lines ≡ text x ∷ rest)
  line_sound [] rest x e = absurd (err_ok x rest [] e)
  line_sound (line ∷ others) rest x e = by_found (read line) refl e
    where
      by_found : (found : Option A) → read line ≡ found → line_found line others found ≡ Ok (x, rest) → Good x × (line ∷ others ≡ text x ∷ rest)
      by_found None is e = absurd (err_ok x rest (line ∷ others) e)
      by_found (Some y) is e =
          let parts = ok_parts y x others rest e in
          let known = l.sound line x (is ∙ ap Some parts.0) in
          (known.0, ap (λ (first : List ℕ). first ∷ others) known.1 ∙ ap (λ (after : Lines). text x ∷ after) parts.1)

  line_fault : (lines left : Lines) → read_line read lines ≡ Err left → IsFault Good lines_of (read_line read) lines left
  line_fault lines left e =
      let refused = refused_line read lines left e in
      record { before = []; parts = refused.0; value = l.some; good = l.some_good; after = text l.some ∷ []; goes_on = refl; stays = refused.1 }

  in_module : IsFormat Good lines_of any (read_line read)
  in_module = record {
    some = l.some;
    some_good = l.some_good;
    complete = λ x rest good follows. line_complete x rest good;
    sound = λ lines rest x e. let known = line_sound lines rest x e in (known.0, known.1, tt);
    fault = line_fault;
    plain = λ x good. All-cons IsPlain (text x) [] (l.plain x good) (All-nil IsPlain);
  }

-- Of a kind of line the format of one.
pub line_format : {A : Type 0} {Good : A → Type 0} {text : A → List ℕ} {read : List ℕ → Option A} → IsLine Good text read → IsFormat Good (λ x. text x ∷ []) any (read_line read)
line_format {A} {Good} {text} {read} l = in_module Good text read l

-- The format of one value that takes no line.
pub none_format : {A : Type 0} {Good : A → Type 0} {text : A → Lines} {Follows : A → Option (List ℕ) → Type 0} (x : A) → Good x → ((y : A) → Good y → y ≡ x) → text x ≡ [] → ((line : Option (List ℕ)) → Follows x line) → IsFormat Good text Follows (read_none x)
none_format {A} {Good} {text} {Follows} x good only no_line follows = record {
  some = x;
  some_good = good;
  complete = λ y rest is after. ap (λ (z : A). read_none x (text z ++ rest)) (only y is) ∙ ap (λ (front : Lines). read_none x (front ++ rest)) no_line ∙ ap (λ (z : A). found_as z rest) (sym (only y is));
  sound = known;
  fault = λ lines left e. absurd (ok_err x lines left e);
  plain = λ y is. subst (λ (z : A). ArePlain (text z)) (sym (only y is)) (subst ArePlain (sym no_line) (All-nil IsPlain));
}
  where
    known : (lines rest : Lines) (y : A) → read_none x lines ≡ Ok (y, rest) → Good y × (lines ≡ text y ++ rest) × Follows y (first_line rest)
    known lines rest y e =
        let parts = ok_parts x y lines rest e in
        subst (λ (z : A). Good z × (lines ≡ text z ++ rest) × Follows z (first_line rest)) parts.0 (good, parts.1 ∙ ap (λ (front : Lines). front ++ rest) (sym no_line), follows (first_line rest))
