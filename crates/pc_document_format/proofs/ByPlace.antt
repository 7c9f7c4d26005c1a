-- What a reader tells of bytes, by the place that it has come to.
use Rattle.std.proofs.Common.{◌≡◌, ℕ, ◌+◌, ◌<◌, ◌≤◌, List, [], ◌∷◌, length, take, drop, Ok, Err, refl, sym, ap, ◌∙◌, arith}
use Rattle.std.proofs.lemmas.List.{length-drop, drop_all}
use Rattle.pc_document_format.specs.Lines.{whole_lines, rest_after, feeds_in}
use Rattle.pc_document_format.specs.Formats.{Lines, Found, line_at, whole_of, read_bytes}
use Rattle.pc_document_format.proofs.LinesOf.{feeds_are_lines, line_at_place, no_lines, rest_alone, no_feeds}

-- where no line is left, what stands after the last line is what is left
rest_left : (bytes : List ℕ) (at : ℕ) → whole_lines (drop at bytes) ≡ [] → rest_after [] (drop at bytes) ≡ drop at bytes
rest_left bytes at none = rest_alone [] (drop at bytes) (feeds_are_lines (drop at bytes) ∙ ap (λ (lines : Lines). length lines) none)

module _ {A : Type 0} (read : Lines → Found A) where
  -- reading ended at the line that begins there
  pub refused_at : (bytes : List ℕ) (at : ℕ) → read (whole_lines bytes) ≡ Err (whole_lines (drop at bytes)) → read_bytes read bytes ≡ Err (feeds_in (take at bytes) + 1)
  unfolding read_bytes
  refused_at bytes at found = ap (whole_of (whole_lines bytes) (rest_after [] bytes)) found ∙ ap (λ (line : ℕ). Err line) (line_at_place bytes at)

  -- a value was read, and nothing is left
  pub whole_at : (bytes : List ℕ) (at : ℕ) (x : A) → read (whole_lines bytes) ≡ Ok (x, whole_lines (drop at bytes)) → rest_after [] (drop at bytes) ≡ rest_after [] bytes → length bytes ≤ at → read_bytes read bytes ≡ Ok x
  unfolding read_bytes
  whole_at bytes at x found same past =
      let none : drop at bytes ≡ [] = drop_all at bytes past in
      let no_line : whole_lines (drop at bytes) ≡ [] = ap whole_lines none ∙ no_lines [] [] no_feeds in
      let no_rest : rest_after [] bytes ≡ [] = sym same ∙ ap (rest_after []) none ∙ rest_alone [] [] no_feeds in
      rw (found, no_rest, no_line) refl

  -- a value was read, and bytes are left
  pub more_at : (bytes : List ℕ) (at : ℕ) (x : A) → read (whole_lines bytes) ≡ Ok (x, whole_lines (drop at bytes)) → rest_after [] (drop at bytes) ≡ rest_after [] bytes → at < length bytes → read_bytes read bytes ≡ Err (feeds_in (take at bytes) + 1)
  unfolding read_bytes
  more_at bytes at x found same inside = ap (whole_of (whole_lines bytes) (rest_after [] bytes)) found ∙ by_left (whole_lines (drop at bytes)) refl (rest_after [] bytes) refl ∙ ap (λ (line : ℕ). Err line) (line_at_place bytes at)
    where
      by_left : (left : Lines) → whole_lines (drop at bytes) ≡ left → (rest : List ℕ) → rest_after [] bytes ≡ rest → whole_of (whole_lines bytes) rest (Ok (x, left)) ≡ Err (line_at (whole_lines bytes) left)
      by_left (line ∷ left) is rest after = refl
      by_left [] is (byte ∷ rest) after = refl
      by_left [] is [] after =
          let none = ap (λ (left : List ℕ). length left) (sym (rest_left bytes at is) ∙ same ∙ after) in
          absurd (omega (arith, length-drop at bytes))
