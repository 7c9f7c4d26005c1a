use Rattle.std.proofs.Common.{◌≡◌, ◌-ℤ◌, ◌*ℤ◌, ◌∙◌, arith, to_z-of_z}
use Rattle.std.proofs.lemmas.Int.{ints}
use Rattle.std.proofs.Math.IntN.{*ℤ_comm}
use Rattle.pc_num.proofs.Signed.{passed}
use Rattle.pc_simplex_short.proofs.Sizes.{mixed_fits}
use Rattle.pc_simplex_short.proofs.aim.mixed.Goals as goal

pub overflow_sub-result : goal.overflow_sub-result
overflow_sub-result c =
    let fits = mixed_fits c.args.p c.args.a c.args.t c.args.b c.requires.p c.requires.a c.requires.t c.requires.b in
    let own = rw (to_z-of_z c.ranges.a, to_z-of_z c.ranges.p) at c.times.ensures in
    let others = rw (to_z-of_z c.ranges.t, to_z-of_z c.ranges.b) at c.times-2.ensures in
    let own_is : c.times.result ≡ c.args.p *ℤ c.args.a = own ∙ *ℤ_comm c.args.a c.args.p in
    let others_is : c.times-2.result ≡ c.args.t *ℤ c.args.b = others in
    rw (own_is, others_is, passed (c.args.p *ℤ c.args.a) fits.0, passed (c.args.t *ℤ c.args.b) fits.1) (omega (arith, ints, fits.2))

pub returns : goal.returns
returns c =
    let fits = mixed_fits c.args.p c.args.a c.args.t c.args.b c.requires.p c.requires.a c.requires.t c.requires.b in
    let own = rw (to_z-of_z c.ranges.a, to_z-of_z c.ranges.p) at c.times.ensures in
    let others = rw (to_z-of_z c.ranges.t, to_z-of_z c.ranges.b) at c.times-2.ensures in
    let own_is : c.times.result ≡ c.args.p *ℤ c.args.a = own ∙ *ℤ_comm c.args.a c.args.p in
    let others_is : c.times-2.result ≡ c.args.t *ℤ c.args.b = others in
    rw (own_is, others_is, passed (c.args.p *ℤ c.args.a) fits.0, passed (c.args.t *ℤ c.args.b) fits.1)
    (passed (c.args.p *ℤ c.args.a -ℤ c.args.t *ℤ c.args.b) fits.2)
