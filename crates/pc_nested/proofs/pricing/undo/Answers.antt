use Rattle.std.proofs.Common.{◌≡◌, ◌∙◌, ◌≤◌, ◌^◌, set, ap, subst, sym, to_z, of_z, arith}
use mir.Syntax.{w128}
use Rattle.std.specs.Prelude.{◌-ℤ◌, nat_abs}
use Rattle.std.proofs.lemmas.Int.{ints}
use Rattle.pc_program_bound.specs.Allocation.{cells_of}
use Rattle.pc_nested.specs.Narrowed.{price_at}
use Rattle.pc_nested.specs.Priced.{HasPriceOf, IsRepriced}
use Rattle.pc_nested.proofs.Prices.{ArePriced-more, difference_size, old_small, new_small, undone_step}
use Rattle.pc_nested.proofs.pricing.undo.Goals as goal

pub returns-clause-priced : goal.returns-clause-priced
returns-clause-priced c =
    let p = c.args.p.now in
    let step = c.args.step in
    let old = c.price_of-old.result in
    let new = c.price_at-new.result in
    let pricing = c.args.pricing in
    let old_same : to_z w128 (of_z w128 old) ≡ old = omega (arith, ints) in
    let new_same : to_z w128 (of_z w128 new) ≡ new = omega (arith, ints) in
    let is : new ≡ price_at step old = c.price_at-new.ensures ∙ ap (price_at step) old_same in
    let has = subst (λ prices. HasPriceOf p step.place prices old) c.as_slice.ensures c.price_of-old.ensures in
    let fits = subst (λ x. nat_abs x ≤ 2 ^ 87) (sym is) (new_small p step pricing.by pricing.prices old c.requires.small c.requires.priced has) in
    let repriced = subst (λ x. IsRepriced p step.place pricing.prices x (cells_of p) c.with_price.result) new_same c.with_price.ensures in
    ArePriced-more p step.place pricing.by pricing.prices c.from_vec.result c.with_price.result
    (to_z w128 (of_z w128 (to_z w128 (of_z w128 new) -ℤ to_z w128 (of_z w128 old)))) new c.requires.priced fits
    (c.from_vec.ensures ∙ ap (λ by. set by step.place (to_z w128 (of_z w128 (to_z w128 (of_z w128 new) -ℤ to_z w128 (of_z w128 old))))) c.into_vec-by.ensures) repriced

pub returns-clause-undone : goal.returns-clause-undone
returns-clause-undone c =
    let p = c.args.p.now in
    let step = c.args.step in
    let old = c.price_of-old.result in
    let new = c.price_at-new.result in
    let pricing = c.args.pricing in
    let old_same : to_z w128 (of_z w128 old) ≡ old = omega (arith, ints) in
    let new_same : to_z w128 (of_z w128 new) ≡ new = omega (arith, ints) in
    let is : new ≡ price_at step old = c.price_at-new.ensures ∙ ap (price_at step) old_same in
    let has = subst (λ prices. HasPriceOf p step.place prices old) c.as_slice.ensures c.price_of-old.ensures in
    let old_fits = old_small p step.place pricing.by pricing.prices old c.requires.priced has in
    let fits = subst (λ x. nat_abs x ≤ 2 ^ 87) (sym is) (new_small p step pricing.by pricing.prices old c.requires.small c.requires.priced has) in
    let repriced = subst (λ x. IsRepriced p step.place pricing.prices x (cells_of p) c.with_price.result) new_same c.with_price.ensures in
    let change : to_z w128 (of_z w128 (to_z w128 (of_z w128 new) -ℤ to_z w128 (of_z w128 old))) ≡ new -ℤ old =
    rw (new_same, old_same) (let size = difference_size new old fits old_fits in omega (arith, ints, size)) in
    undone_step p step pricing.by pricing.prices c.from_vec.result c.with_price.result old new
    (to_z w128 (of_z w128 (to_z w128 (of_z w128 new) -ℤ to_z w128 (of_z w128 old)))) has is change
    (c.from_vec.ensures ∙ ap (λ by. set by step.place (to_z w128 (of_z w128 (to_z w128 (of_z w128 new) -ℤ to_z w128 (of_z w128 old))))) c.into_vec-by.ensures) repriced
