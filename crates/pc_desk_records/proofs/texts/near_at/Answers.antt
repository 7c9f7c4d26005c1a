use Rattle.pc_desk_records.proofs.texts.near_at.Goals as goal

pub returns : goal.returns
returns c = rw (c.as_slice.ensures.value, c.in_ok-name.ensures, c.as_slice-2.ensures) at c.joined.ensures
