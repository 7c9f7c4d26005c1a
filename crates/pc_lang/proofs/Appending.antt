-- The text of constraints, and the parts of boxes, as far as a loop has come.
use Rattle.std.proofs.Common.{◌≡◌, ℕ, ◌+◌, ◌<◌, ◌≤◌, suc, List, [], ◌∷◌, ◌++◌, length, get_or, drop, map, refl, add-one, drop-cons, append_assoc}
use Rattle.std.proofs.lemmas.List.{drop_all, append-nil}
use Rattle.pc_model.specs.declared.schema.Schema.{Schema}
use Rattle.pc_model.specs.declared.region.Region.{Region}
use Rattle.pc_model.specs.declared.constraint.Constraint.{Constraint}
use Rattle.pc_lang_grammar.specs.declared.syntax.Part.{Part}
use Rattle.pc_lang.specs.Canonical.{constraint_text, constraints_text, part_for}

pub text_none : (schema : Schema) → constraints_text schema [] ≡ []
unfolding constraints_text
text_none schema = refl

pub text_more : (schema : Schema) (c : Constraint) (rest : List Constraint) → constraints_text schema (c ∷ rest) ≡ constraint_text schema c ++ constraints_text schema rest
unfolding constraints_text
text_more schema c rest = refl

pub text_step : (schema : Schema) (constraints : List Constraint) (i : ℕ) (c : Constraint) (items : List ℕ) → i < length constraints → (items ++ constraint_text schema (get_or constraints i c)) ++ constraints_text schema (drop (i + 1) constraints) ≡ items ++ constraints_text schema (drop i constraints)
text_step schema constraints i c items inside = rw (add-one, drop-cons constraints i c inside, text_more schema (get_or constraints i c) (drop (suc i) constraints), append_assoc) refl

pub text_end : (schema : Schema) (constraints : List Constraint) (i : ℕ) (items : List ℕ) → length constraints ≤ i → items ++ constraints_text schema (drop i constraints) ≡ items
text_end schema constraints i items past = rw (drop_all i constraints past, text_none schema, append-nil) refl

pub ruleset text_steps = (text_step, text_end)

pub part_step : (schema : Schema) (boxes : List Region) (i : ℕ) (box : Region) (parts : List Part) → i < length boxes → (parts ++ part_for schema (get_or boxes i box) ∷ []) ++ map (part_for schema) (drop (i + 1) boxes) ≡ parts ++ map (part_for schema) (drop i boxes)
part_step schema boxes i box parts inside = rw (add-one, drop-cons boxes i box inside, append_assoc) refl

pub part_end : (schema : Schema) (boxes : List Region) (i : ℕ) (parts : List Part) → length boxes ≤ i → parts ++ map (part_for schema) (drop i boxes) ≡ parts
part_end schema boxes i parts past = rw (drop_all i boxes past, append-nil) refl

pub ruleset part_steps = (part_step, part_end)
