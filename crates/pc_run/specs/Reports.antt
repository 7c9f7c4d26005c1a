-- The texts that a run writes.
use Rattle.std.specs.Prelude.{ℕ, Bool, if◌then◌else◌, List, [], ◌∷◌, ◌++◌, codes, decimal}
use Rattle.std.specs.List.{concat}
use Rattle.pc_lang.specs.Canonical.{constraints_text}
use Rattle.pc_files.specs.declared.reading.Listing.{Listing}
use Rattle.pc_files.specs.Texts.{line_break}

-- the commands of the whole language
abbrev pub usage_line : List ℕ
usage_line = codes "usage: pc bound|prove [--nodes N] SCHEMA ROWS CONSTRAINTS QUERY... | pc check SCHEMA ROWS CONSTRAINTS DOCUMENT | pc show SCHEMA CONSTRAINTS | pc gen SEED SIZE | pc conflict [--nodes N] SCHEMA CONSTRAINTS | pc quantile [--nodes N] SCHEMA ROWS CONSTRAINTS QUERY | pc session [--nodes N] SCHEMA ROWS CONSTRAINTS SCRIPT" ++ line_break

abbrev pub yes_line : List ℕ
yes_line = codes "yes" ++ line_break

-- the first line that breaks a rule, and the number of the rule
abbrev pub no_line : ℕ → ℕ → List ℕ
no_line line rule = concat (codes "no line " ∷ decimal line ∷ codes " rule " ∷ decimal rule ∷ line_break ∷ [])

abbrev pub disjoint_line : Bool → List ℕ
disjoint_line answer = if answer then codes "disjoint yes" ++ line_break else codes "disjoint no" ++ line_break

-- the constraints in canonical text, and whether no two of them speak of one row
unfoldable pub listing_of : Listing → Bool → List ℕ
listing_of listing disjoint = constraints_text listing.schema listing.constraints ++ disjoint_line disjoint
