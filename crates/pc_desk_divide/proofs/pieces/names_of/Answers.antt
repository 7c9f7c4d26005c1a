use Rattle.std.proofs.Common.{◌≡◌, ◌∙◌, ℕ, ap, arith, flat_map}
use Rattle.std.specs.List.{range_with_len}
use Rattle.pc_desk_divide.specs.Pieces.{name_in, names_of}
use Rattle.pc_desk_divide.proofs.pieces.names_of.Goals as goal

pub returns : goal.returns
unfolding names_of
returns c =
    let end : c.loop-place.place ≡ 128 = omega (arith, c.loop-place-test.false, c.loop-place.auto.place-end) in
    c.loop-place.invariant ∙ ap (λ (k : ℕ). flat_map (name_in c.args.bits) (range_with_len 0 k)) end
