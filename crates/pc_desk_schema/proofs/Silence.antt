-- A line is told where a column is left out.
use Rattle.std.proofs.Common.{◌≡◌, ℕ, ◌≤◌, ◌==◌, Bool, true, false, List, [], ◌∷◌, ◌++◌, length, refl, sym, arith, length-append}
use Rattle.std.specs.Prelude.{flat_map}
use Rattle.std.specs.List.{list_all}
use Rattle.std.proofs.lemmas.Bool.{false≢true}
use Rattle.pc_desk_schema.specs.declared.draft.Draft.{Draft}
use Rattle.pc_desk_schema.specs.declared.said.Remark.{Remark}
use Rattle.pc_desk_schema.specs.Draft.{is_whole, spares}
use Rattle.pc_desk_schema.specs.Texts.{column_text, further_line, further_text, header_line, line_end, remark_line, remark_lines, said_text}

line_told : (remark : Remark) → 1 ≤ length (remark_line remark)
unfolding remark_line
line_told remark = omega (arith, length-append (column_text remark.said remark.number remark.name ++ said_text remark.said) line_end)

remarks_told : (remarks : List Remark) → list_all spares remarks ≡ false → 1 ≤ length (flat_map remark_line remarks)
remarks_told [] left = absurd (false≢true (sym left))
remarks_told (remark ∷ remarks) left = omega (arith, line_told remark, length-append (remark_line remark) (flat_map remark_line remarks))

further_told : (further : ℕ) → (further == 0) ≡ false → 1 ≤ length (further_line further)
further_told further some = rw some (omega (arith, length-append (further_text further) line_end))

pub left_out_told : (draft : Draft) → is_whole draft ≡ false → 1 ≤ length (remark_lines draft)
unfolding remark_lines
left_out_told draft left = by_test (list_all spares draft.remarks) refl
  where
    by_test : (spared : Bool) → list_all spares draft.remarks ≡ spared → 1 ≤ length ((header_line draft.header ++ flat_map remark_line draft.remarks) ++ further_line draft.further)
    by_test true e =
        let some : (draft.further == 0) ≡ false = rw e at left in
        omega (arith, length-append (header_line draft.header ++ flat_map remark_line draft.remarks) (further_line draft.further), further_told draft.further some)
    by_test false e =
        omega (arith, length-append (header_line draft.header ++ flat_map remark_line draft.remarks) (further_line draft.further), length-append (header_line draft.header) (flat_map remark_line draft.remarks), remarks_told draft.remarks e)
