-- What is tested of a value, in SQL.
use Rattle.std.specs.Prelude.{ℕ, ℤ, List, [], ◌∷◌, codes, map}
use Rattle.std.specs.List.{concat}
use Rattle.pc_num.specs.Put.{scaled_text}
use Rattle.pc_desk_sql.specs.Tests.{Among, Known, Missing, Test, Within}
use Rattle.pc_desk_sql.specs.Texts.{listed, string_text, surrounded}

unfoldable pub span_claim : ℤ → ℤ → List ℕ
span_claim low high = concat (codes " BETWEEN " ∷ scaled_text low 0 ∷ codes " AND " ∷ scaled_text high 0 ∷ [])

unfoldable pub names_claim : List (List ℕ) → List ℕ
names_claim names = surrounded (codes " IN (") (listed [] (codes ", ") (map string_text names)) (codes ")")

-- what stands behind a value
abbrev pub claim_text : Test → List ℕ
claim_text Known = codes " IS NOT NULL"
claim_text (Within low high) = span_claim low high
claim_text (Among names) = names_claim names
claim_text Missing = codes " IS NULL"
