use Rattle.std.proofs.Common.{◌≡◌, ◌^◌, inl, inr, refl, to_z, of_z, arith}
use Rattle.std.specs.Int.{w128}
use Rattle.std.proofs.lemmas.Int.{ints}
use Rattle.std.proofs.Math.Nat.{one-dvd}
use Rattle.pc_num.specs.Fractions.{IsQuotient}
use Rattle.pc_avg_ratio.proofs.PassedProducts.{small_product, product_is}
use Rattle.pc_avg_ratio.proofs.Reduced.{small_den}
use Rattle.pc_avg_ratio.proofs.raised.lesser.Goals as goal

pub returns-in-Some-clause-small : goal.returns-in-Some-clause-small
returns-in-Some-clause-small c =
    let top : to_z w128 (of_z w128 c.args.top) ≡ c.args.top = omega (arith, ints) in
    let bottom : to_z w128 (of_z w128 c.args.bottom) ≡ c.args.bottom = omega (arith, ints) in
    let less = small_den c.args.top c.args.bottom c.in-Some.value c.requires.positive (rw (top, bottom) at c.in-Some.ensures.some) in
    omega (arith, ints, less, c.requires.small_bottom)

pub returns-in-Some-clause-value : goal.returns-in-Some-clause-value
returns-in-Some-clause-value c =
    let top : to_z w128 (of_z w128 c.args.top) ≡ c.args.top = omega (arith, ints) in
    let bottom : to_z w128 (of_z w128 c.args.bottom) ≡ c.args.bottom = omega (arith, ints) in
    let quotient : IsQuotient c.args.top c.args.bottom c.in-Some.value = rw (top, bottom) at c.in-Some.ensures.some in
    let product =
    product_is c.args.outermost c.args.bottom
    (small_product c.args.outermost c.args.bottom (2 ^ 63) 300_000_000_000_000 c.requires.small_outermost (omega (arith, ints, c.requires.positive, c.requires.small_bottom)) (omega arith) (omega arith) (omega arith)) in
    let within = rw (top, product) at c.if-top-outermost.true in
    inl (quotient.equal, omega (arith, ints, within))

pub returns-clause-lowest : goal.returns-clause-lowest
returns-clause-lowest c =
    let outermost : to_z w128 (of_z w128 c.args.outermost) ≡ c.args.outermost = omega (arith, ints) in
    let small = c.requires.small_outermost in
    rw outermost
    (record {
      above = omega (arith, ints);
      reduced = (one-dvd _, one-dvd 1, λ d divides also. also);
      num_fits = omega (arith, ints, small);
      den_fits = omega (arith, ints);
    })

pub returns-clause-value : goal.returns-clause-value
returns-clause-value c =
    let top : to_z w128 (of_z w128 c.args.top) ≡ c.args.top = omega (arith, ints) in
    let outermost : to_z w128 (of_z w128 c.args.outermost) ≡ c.args.outermost = omega (arith, ints) in
    let product =
    product_is c.args.outermost c.args.bottom
    (small_product c.args.outermost c.args.bottom (2 ^ 63) 300_000_000_000_000 c.requires.small_outermost (omega (arith, ints, c.requires.positive, c.requires.small_bottom)) (omega arith) (omega arith) (omega arith)) in
    let above = rw (top, product) at c.if-top-outermost.false in
    rw outermost (inr (refl, omega (arith, ints, above)))
