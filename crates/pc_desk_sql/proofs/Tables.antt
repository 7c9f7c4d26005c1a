-- The name of a table, part by part.
use Rattle.std.proofs.Common.{◌≡◌, ◌∙◌, ℕ, List, [], ◌∷◌, ◌++◌, sym, ap, append_assoc}
use Rattle.std.specs.Prelude.{flat_map}
use Rattle.std.proofs.lemmas.List.Concat.{flat_map-append}
use Rattle.pc_desk_sql.specs.Texts.{part_byte, surrounded, table_text}

module _ (first rest : List ℕ) where
  abbrev before : List ℕ
  before = flat_map part_byte first

  abbrev after : List ℕ
  after = flat_map part_byte rest

  pub parts_are_quoted_each : table_text (first ++ 46 ∷ rest) ≡ table_text first ++ 46 ∷ table_text rest
  unfolding table_text surrounded part_byte
  parts_are_quoted_each =
      ap (λ (text : List ℕ). 34 ∷ (text ++ 34 ∷ [])) (flat_map-append part_byte first (46 ∷ rest))
      ∙ ap (λ (text : List ℕ). 34 ∷ text)
      (append_assoc before (34 ∷ 46 ∷ 34 ∷ after) (34 ∷ []) ∙ sym (append_assoc before (34 ∷ []) (46 ∷ 34 ∷ (after ++ 34 ∷ []))))
