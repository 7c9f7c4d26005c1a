-- The first picture is the run of blocks that ask the same as the first.
use Rattle.std.proofs.Common.{◌≡◌, ℕ, suc, ◌+◌, ◌&&◌, Bool, true, false, List, [], ◌∷◌, take, drop, add-one, refl, eqb-true, ap}
use Rattle.std.specs.Prelude.{bytes_eq, Option, Some, None}
use Rattle.std.proofs.lemmas.Bool.{false≢true}
use Rattle.std.proofs.lemmas.Slice.Eq.{bytes_eq-Decides}
use Rattle.pc_desk_table.specs.declared.entry.Entry.{Entry}
use Rattle.pc_desk_draw.specs.Questions.{IsCut, asks, joined, pictures_of, same_len, same_line}

-- the pictures, where the first run is so long
abbrev Cut : Entry → List Entry → ℕ → Type 0
Cut entry rest len = pictures_of (entry ∷ rest) ≡ (entry ∷ take len rest) ∷ pictures_of (drop len rest)

same_query : (one other : List ℕ) → bytes_eq one other ≡ true → one ≡ other
same_query one other = (bytes_eq-Decides one other).0

lines_same : (one other : Option ℕ) → same_line one other ≡ true → one ≡ other
lines_same None None is = refl
lines_same None (Some other) is = absurd (false≢true is)
lines_same (Some line) None is = absurd (false≢true is)
lines_same (Some line) (Some other) is = ap Some (eqb-true line other is)

both : (a b : Bool) → (a && b) ≡ true → (a ≡ true) × (b ≡ true)
both true true is = (refl, refl)
both true false is = absurd (false≢true is)
both false b is = absurd (false≢true is)

unfold_pictures : (entry next : Entry) (more : List Entry) → pictures_of (entry ∷ next ∷ more) ≡ joined entry (pictures_of (next ∷ more))
unfolding pictures_of
unfold_pictures entry next more = refl

module _ (line : Option ℕ) (query : List ℕ) (next : Entry) (more : List Entry) where
  len_same : asks line query next ≡ true → same_len line query (next ∷ more) ≡ suc (same_len line query more)
  unfolding same_len
  len_same is = rw (is, add-one) refl

  len_other : asks line query next ≡ false → same_len line query (next ∷ more) ≡ 0
  unfolding same_len
  len_other is = rw is refl

cut_by : (entry next : Entry) (more : List Entry) (test : Bool) → asks entry.line entry.query next ≡ test → Cut next more (same_len next.line next.query more) → Cut entry (next ∷ more) (same_len entry.line entry.query (next ∷ more))
cut_by entry next more true is rest =
    let parts = both (same_line next.line entry.line) (bytes_eq next.query entry.query) is in
    let line = lines_same next.line entry.line parts.0 in
    let query = same_query next.query entry.query parts.1 in
    let cut : Cut next more (same_len entry.line entry.query more) = rw (← line, ← query) rest in
    rw (len_same entry.line entry.query next more is, unfold_pictures entry next more, cut, is) refl
cut_by entry next more false is rest = rw (len_other entry.line entry.query next more is, unfold_pictures entry next more, rest, is) refl

run : (entry : Entry) (rest : List Entry) → Cut entry rest (same_len entry.line entry.query rest)
unfolding pictures_of same_len
run entry [] = refl
run entry (next ∷ more) = cut_by entry next more (asks entry.line entry.query next) refl (run next more)

pub cut : (entries rest front back : List Entry) (first : Entry) (query : List ℕ) (len : ℕ) → entries ≡ first ∷ rest → query ≡ first.query → len ≡ same_len first.line query rest → front ≡ take (len + 1) entries → back ≡ drop (len + 1) entries → IsCut entries front back
cut entries rest front back first query len is asks same at after =
    rw (at, after, same, asks, is, add-one) (run first rest)
