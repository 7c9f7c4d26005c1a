-- The rows of parts so far, and those of the parts that are left.
use Rattle.std.proofs.Common.{◌≡◌, ◌∙◌, ℕ, ◌+◌, ◌<◌, ◌≤◌, ℤ, List, [], ◌∷◌, ◌++◌, length, get_or, drop, Option, refl, sym, ap, append_assoc}
use Rattle.std.proofs.lemmas.List.{append-nil, drop_all, drop_more}
use Rattle.pc_model.specs.declared.constraint.Constraint.{Constraint}
use Rattle.pc_desk_draw.specs.declared.segment.BarRow.{BarRow}
use Rattle.pc_desk_parts.specs.declared.part.Part.{Part}
use Rattle.pc_desk_table.specs.Texts.{shown}
use Rattle.pc_desk_why.specs.Bars.{added_text, part_row, part_rows, part_words, segments_between, tone_of, total_after}

module _ (constraints : List Constraint) (places : ℕ) where
  next_row : (place : ℕ) (total : Option ℤ) (part : Part) (parts : List Part) → part_rows constraints places place total (part ∷ parts)
      ≡ part_row constraints places place part total (total_after total part.adds) ∷ part_rows constraints places (place + 1) (total_after total part.adds) parts
  unfolding part_rows
  next_row place total part parts = refl

  no_rows : (place : ℕ) (total : Option ℤ) → part_rows constraints places place total [] ≡ []
  unfolding part_rows
  no_rows place total = refl

  pub rows_step : (items : List BarRow) (parts : List Part) (i : ℕ) (total : Option ℤ) (part : Part) → i < length parts →
      (items ++ part_row constraints places i (get_or parts i part) total (total_after total (get_or parts i part).adds) ∷ [])
      ++ part_rows constraints places (i + 1) (total_after total (get_or parts i part).adds) (drop (i + 1) parts)
      ≡ items ++ part_rows constraints places i total (drop i parts)
  rows_step items parts i total part inside =
      let here = get_or parts i part in
      let row = part_row constraints places i here total (total_after total here.adds) in
      let rest = part_rows constraints places (i + 1) (total_after total here.adds) (drop (i + 1) parts) in
      let step : part_rows constraints places i total (drop i parts) ≡ row ∷ rest =
      ap (part_rows constraints places i total) (drop_more parts i part inside) ∙ next_row i total here (drop (i + 1) parts) in
      append_assoc items (row ∷ []) rest ∙ ap (λ (all : List BarRow). items ++ all) (sym step)

  pub rows_past : (items : List BarRow) (parts : List Part) (i : ℕ) (total : Option ℤ) → length parts ≤ i → items ++ part_rows constraints places i total (drop i parts) ≡ items
  rows_past items parts i total past = rw (drop_all i parts past, no_rows i total) (append-nil items)

  -- a row is made of its name, what it adds and its segments
  pub made_row : (place : ℕ) (part : Part) (before after : Option ℤ) →
      ◌≡◌ {A = BarRow} (record { name = shown (part_words constraints places part); text = added_text part.adds places; segments = segments_between places (tone_of place part.under) before after })
      (part_row constraints places place part before after)
  unfolding part_row
  made_row place part before after = refl

pub ruleset steps = (rows_step, rows_past)
