-- Lists that stand one after the other, as one more is put after them.
use Rattle.std.proofs.Common.{◌≡◌, ◌≤◌, ◌+◌, ℕ, zero, suc, List, [], ◌∷◌, ◌++◌, length, map, take, drop, All, arith, refl, ap, ap₂, ◌∙◌, take_all}
use Rattle.std.proofs.lemmas.List.Elements.{All-head, All-tail}
use Rattle.pc_simplex_short.specs.declared.places.Span.{Span}
use Rattle.pc_simplex_short.specs.Spans.{part, IsSpan}

-- what stands within the first part stays
cut_kept : (n from : ℕ) (all more : List ℕ) → n + from ≤ length all → take n (drop from (all ++ more)) ≡ take n (drop from all)
cut_kept zero zero [] more h = refl
cut_kept (suc n) zero [] more h = absurd (omega (arith, h))
cut_kept n (suc from) [] more h = absurd (omega (arith, h))
cut_kept zero zero (x ∷ all) more h = refl
cut_kept (suc n) zero (x ∷ all) more h = ap (λ xs. x ∷ xs) (cut_kept n zero all more (omega (arith, h)))
cut_kept n (suc from) (x ∷ all) more h = cut_kept n from all more (omega (arith, h))

last_part : (all more : List ℕ) → take (length more) (drop (length all) (all ++ more)) ≡ more
last_part [] more = take_all (length more) more (omega arith)
last_part (x ∷ all) more = last_part all more

part_kept : (all more : List ℕ) (span : Span) → IsSpan (length all) span → part (all ++ more) span ≡ part all span
part_kept all more span h = cut_kept span.count span.from all more (omega (arith, h))

pub parts_kept : (all more : List ℕ) (spans : List Span) → All (IsSpan (length all)) spans → map (part (all ++ more)) spans ≡ map (part all) spans
parts_kept all more [] h = refl
parts_kept all more (span ∷ spans) h =
    ap₂ ◌∷◌ (part_kept all more span (All-head (IsSpan (length all)) span spans h)) (parts_kept all more spans (All-tail (IsSpan (length all)) span spans h))

put_part : (all : List ℕ) (spans : List Span) (span : Span) → map (part all) (spans ++ span ∷ []) ≡ map (part all) spans ++ part all span ∷ []
put_part all [] span = refl
put_part all (x ∷ spans) span = ap (λ xs. part all x ∷ xs) (put_part all spans span)

module _ (all more whole : List ℕ) (spans : List Span) (h : All (IsSpan (length all)) spans) (whole_is : whole ≡ all ++ more) where
  -- the new list without a span
  pub parts_same : map (part whole) spans ≡ map (part all) spans
  parts_same = ap (λ xs. map (part xs) spans) whole_is ∙ parts_kept all more spans h

  pub parts_pushed : (made : List Span) (from count : ℕ) → from ≡ length all → count ≡ length more → made ≡ spans ++ record { from = from; count = count } ∷ []
      → map (part whole) made ≡ map (part all) spans ++ more ∷ []
  parts_pushed made from count from_is count_is made_is =
      let last : part whole (record { from = from; count = count }) ≡ more = ap₂ take count_is (ap₂ drop from_is whole_is) ∙ last_part all more in
      ap (map (part whole)) made_is ∙ put_part whole spans (record { from = from; count = count })
      ∙ ap₂ (λ xs x. xs ++ x ∷ []) parts_same last
