-- What is written, by how many lines it would have.
use Rattle.std.proofs.Common.{◌≡◌, ◌∙◌, ℕ, ◌+◌, ◌<◌, ◌≤◌, nat_lt, Bool, true, false, List, ◌++◌, length, ap, sym, lt-ltb, if◌then◌else◌}
use Rattle.std.proofs.lemmas.Bool.{le-ltb}
use Rattle.pc_model.specs.declared.constraint.Constraint.{Constraint}
use Rattle.pc_model.specs.declared.region.Region.{Region}
use Rattle.pc_model.specs.declared.schema.Schema.{Schema}
use Rattle.pc_model.specs.Accepted.{constraint_limit}
use Rattle.pc_desk_limit.specs.declared.limiting.Limiting.TheVariants.{Written, TooMany}
use Rattle.pc_desk_limit.specs.Limiting.{written_of}
use Rattle.pc_desk_limit.specs.Lines.{closing_lines, free_names, lines_for}

module _ (schema : Schema) (all : List Constraint) (boxes : List Region) (lines : ℕ) (count : lines ≡ length all + lines_for boxes) where
  abbrev list : List Constraint
  list = all ++ closing_lines schema (free_names all) boxes

  by_length : (test : Bool) → nat_lt constraint_limit lines ≡ test → (if test then TooMany lines else Written list) ≡ written_of schema all boxes
  by_length test e = ap (λ (t : Bool). if t then TooMany lines else Written list) (sym e)
      ∙ ap (λ (n : ℕ). if nat_lt constraint_limit n then TooMany n else Written list) count

  pub too_many : constraint_limit < lines → TooMany lines ≡ written_of schema all boxes
  too_many more = by_length true (lt-ltb constraint_limit lines more)

  pub few_enough : (written : List Constraint) → lines ≤ constraint_limit → written ≡ list → Written written ≡ written_of schema all boxes
  few_enough written few is = ap Written is ∙ by_length false (le-ltb constraint_limit lines few)
