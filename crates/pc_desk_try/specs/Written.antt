-- The names of constraints, in texts of the language.
use Rattle.std.specs.Prelude.{ℕ, List, codes}
use Rattle.pc_model.specs.declared.constraint.When.{When}
use Rattle.pc_model.specs.declared.constraint.When.TheVariants.{Boxes, Outside}
use Rattle.pc_lang_tokens.specs.Spelling.{name_text}

-- as the language writes it; one of the rows outside has no name, and its word stands there
abbrev pub written_name : When → List ℕ → List ℕ
written_name (Boxes area) name = name_text name
written_name Outside name = codes "outside"
