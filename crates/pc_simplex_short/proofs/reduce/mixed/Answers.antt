use Rattle.std.proofs.Common.{◌≡◌, ◌-ℤ◌, ◌*ℤ◌, ◌∙◌, arith, to_z-of_z}
use Rattle.std.proofs.lemmas.Int.{ints}
use Rattle.pc_program_bound.specs.Bound.{IsFit}
use Rattle.pc_num.proofs.Signed.{passed}
use Rattle.pc_simplex_short.proofs.Sizes.{mixed_fits}
use Rattle.pc_simplex_short.proofs.reduce.mixed.Goals as goal

pub overflow_sub-result : goal.overflow_sub-result
overflow_sub-result c =
    let fits = mixed_fits c.args.p c.args.a c.args.t c.args.b c.requires.p (omega (arith, c.requires.a)) (omega (arith, c.requires.t)) c.requires.b in
    let p : c.from.result ≡ c.args.p = c.from.ensures ∙ to_z-of_z c.ranges.p in
    let a : c.from-2.result ≡ c.args.a = c.from-2.ensures ∙ to_z-of_z c.ranges.a in
    let t : c.from-3.result ≡ c.args.t = c.from-3.ensures ∙ to_z-of_z c.ranges.t in
    let b : c.from-4.result ≡ c.args.b = c.from-4.ensures ∙ to_z-of_z c.ranges.b in
    let p_fits : IsFit c.args.p = omega (arith, c.requires.p) in
    let a_fits : IsFit c.args.a = omega (arith, c.requires.a) in
    let t_fits : IsFit c.args.t = omega (arith, c.requires.t) in
    let b_fits : IsFit c.args.b = omega (arith, c.requires.b) in
    rw (
      p,
      a,
      t,
      b,
      passed c.args.p p_fits,
      passed c.args.a a_fits,
      passed c.args.t t_fits,
      passed c.args.b b_fits,
      passed (c.args.p *ℤ c.args.a) fits.0,
      passed (c.args.t *ℤ c.args.b) fits.1,
    ) (omega (arith, ints, fits.2))

pub returns-clause-value : goal.returns-clause-value
returns-clause-value c =
    let fits = mixed_fits c.args.p c.args.a c.args.t c.args.b c.requires.p (omega (arith, c.requires.a)) (omega (arith, c.requires.t)) c.requires.b in
    let p : c.from.result ≡ c.args.p = c.from.ensures ∙ to_z-of_z c.ranges.p in
    let a : c.from-2.result ≡ c.args.a = c.from-2.ensures ∙ to_z-of_z c.ranges.a in
    let t : c.from-3.result ≡ c.args.t = c.from-3.ensures ∙ to_z-of_z c.ranges.t in
    let b : c.from-4.result ≡ c.args.b = c.from-4.ensures ∙ to_z-of_z c.ranges.b in
    let p_fits : IsFit c.args.p = omega (arith, c.requires.p) in
    let a_fits : IsFit c.args.a = omega (arith, c.requires.a) in
    let t_fits : IsFit c.args.t = omega (arith, c.requires.t) in
    let b_fits : IsFit c.args.b = omega (arith, c.requires.b) in
    rw (
      p,
      a,
      t,
      b,
      passed c.args.p p_fits,
      passed c.args.a a_fits,
      passed c.args.t t_fits,
      passed c.args.b b_fits,
      passed (c.args.p *ℤ c.args.a) fits.0,
      passed (c.args.t *ℤ c.args.b) fits.1,
    ) (passed (c.args.p *ℤ c.args.a -ℤ c.args.t *ℤ c.args.b) fits.2)

pub returns-clause-fits : goal.returns-clause-fits
returns-clause-fits c =
    let fits = mixed_fits c.args.p c.args.a c.args.t c.args.b c.requires.p (omega (arith, c.requires.a)) (omega (arith, c.requires.t)) c.requires.b in
    let p : c.from.result ≡ c.args.p = c.from.ensures ∙ to_z-of_z c.ranges.p in
    let a : c.from-2.result ≡ c.args.a = c.from-2.ensures ∙ to_z-of_z c.ranges.a in
    let t : c.from-3.result ≡ c.args.t = c.from-3.ensures ∙ to_z-of_z c.ranges.t in
    let b : c.from-4.result ≡ c.args.b = c.from-4.ensures ∙ to_z-of_z c.ranges.b in
    let p_fits : IsFit c.args.p = omega (arith, c.requires.p) in
    let a_fits : IsFit c.args.a = omega (arith, c.requires.a) in
    let t_fits : IsFit c.args.t = omega (arith, c.requires.t) in
    let b_fits : IsFit c.args.b = omega (arith, c.requires.b) in
    rw (
      p,
      a,
      t,
      b,
      passed c.args.p p_fits,
      passed c.args.a a_fits,
      passed c.args.t t_fits,
      passed c.args.b b_fits,
      passed (c.args.p *ℤ c.args.a) fits.0,
      passed (c.args.t *ℤ c.args.b) fits.1,
      passed (c.args.p *ℤ c.args.a -ℤ c.args.t *ℤ c.args.b) fits.2,
    ) fits.2
