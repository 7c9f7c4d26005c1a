-- Which parts an answer has, in the order in which they are read.
use Rattle.std.specs.Prelude.{◌≡◌, ℕ, Bool, true, false, Option, Some, None}
use Rattle.pc_model.specs.declared.schema.Schema.{Schema}
use Rattle.pc_model.specs.declared.query.Agg.{Agg}
use Rattle.pc_model.specs.Right.{always_has_value, is_always, is_impossible, is_silent}
use Rattle.pc_proof.specs.declared.answer.Relation.{Relation}
use Rattle.pc_proof.specs.declared.answer.Lack.{Lack}
use Rattle.pc_proof.specs.declared.answer.Lack.TheVariants as lacks
use Rattle.pc_proof.specs.declared.answer.End.{End}
use Rattle.pc_proof.specs.Unbroken.{plain_lack, plain_relation}
use Rattle.pc_document.specs.declared.tags.After.{After}
use Rattle.pc_proof.specs.Form.{IsFormedLack, IsFormedEnd, IsGroupName}

abbrev pub ends_block : Relation → Bool
ends_block relation = is_impossible (plain_relation relation)

abbrev pub has_no_ends : Lack → Bool
has_no_ends lack = is_always (plain_lack lack)

-- a lack that is spoken of
pub record IsSpokenLack (schema : Schema) (agg : Agg) (lack : Lack) : Type 0 where
  pub spoken : is_silent (plain_lack lack) ≡ false
  pub good : IsFormedLack schema agg lack

-- a lack is spoken of unless the aggregate always has a value
abbrev pub IsLackUnless : Schema → Agg → Bool → Lack → Type 0
IsLackUnless schema agg true lack = lack ≡ lacks.Silent
IsLackUnless schema agg false lack = IsSpokenLack schema agg lack

-- two ends, unless the aggregate never has a value
abbrev pub AreEndsUnless : Schema → Agg → Bool → Option (End × End) → Type 0
AreEndsUnless schema agg true ends = ends ≡ None
AreEndsUnless schema agg false None = ⊥
AreEndsUnless schema agg false (Some ends) = IsFormedEnd schema agg ends.0 × IsFormedEnd schema agg ends.1

abbrev pub nothing_after : After
nothing_after = record { lack = lacks.Silent; ends = None }

-- nothing more where the relation is impossible
abbrev pub IsAfter : Schema → Agg → Bool → After → Type 0
IsAfter schema agg true after = after ≡ nothing_after
IsAfter schema agg false after = IsLackUnless schema agg (always_has_value agg) after.lack × AreEndsUnless schema agg (has_no_ends after.lack) after.ends

-- a name exactly where the query is grouped
abbrev pub IsName : Schema → Option ℕ → Option ℕ → Type 0
IsName schema None name = name ≡ None
IsName schema (Some group) None = ⊥
IsName schema (Some group) (Some place) = IsGroupName schema (Some group) (Some place)
