use Rattle.std.proofs.Common.{◌<◌, ◌∙◌, length, ap, arith}
use Rattle.std.proofs.lemmas.List.{get_or_read}
use Rattle.pc_program.specs.declared.members.Members.{Members}
use Rattle.pc_program.specs.Gathered.{no_members, with_cell}
use Rattle.pc_program.proofs.Gathering.{gathered_more}
use Rattle.pc_program.proofs.members.with_member.Goals as goal

pub returns : goal.returns
returns c =
    let found = c.args.found.items in
    let k = c.constraint_of-constraint.result in
    let inside : k < length found = omega (arith, c.requires.before.sized, c.constraint_of-constraint.ensures.there) in
    let read = get_or_read found k c.index.result.now inside c.index.ensures no_members in
    let same = c.with_cell-members.ensures ∙ ap (λ (m : Members). with_cell m c.args.cell) read in
    rw same (gathered_more c.args.p.now found c.args.cell k c.requires.one_bits c.requires.there c.constraint_of-constraint.ensures.member c.requires.before)
