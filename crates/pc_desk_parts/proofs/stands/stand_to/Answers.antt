use Rattle.std.proofs.Common.{rules, arith, sym}
use Rattle.std.specs.Int.{w128}
use Rattle.std.proofs.lemmas.Int.{ints}
use mir.Val.{SFits}
use Rattle.pc_desk_parts.proofs.Standing.{rest_of, stands_above, stands_at, stands_below, stands_just_below, whole_of}
use Rattle.pc_desk_parts.proofs.stands.stand_to.Goals as goal

pub returns-then-number-whole : goal.returns-then-number-whole
returns-then-number-whole c =
    let test = c.if-number-whole.true in
    let num : SFits w128 c.args.value.num = search rules in
    let den : SFits w128 c.args.value.den = search rules in
    let whole = whole_of c.args.value.num c.args.value.den c.div_euclid-whole.result num den c.div_euclid-whole.ensures in
    let number = c.from-number.ensures in
    sym (stands_below c.args.value c.args.number c.requires (grind (arith, ints, test, whole, number)))

pub returns-then-whole-number : goal.returns-then-whole-number
returns-then-whole-number c =
    let test = c.if-whole-number.true in
    let num : SFits w128 c.args.value.num = search rules in
    let den : SFits w128 c.args.value.den = search rules in
    let whole = whole_of c.args.value.num c.args.value.den c.div_euclid-whole.result num den c.div_euclid-whole.ensures in
    let number = c.from-number.ensures in
    sym (stands_above c.args.value c.args.number c.requires (grind (arith, ints, test, whole, number)))

pub returns-then-rem_euclid-eq0 : goal.returns-then-rem_euclid-eq0
returns-then-rem_euclid-eq0 c =
    let low = c.if-number-whole.false in
    let high = c.if-whole-number.false in
    let num : SFits w128 c.args.value.num = search rules in
    let den : SFits w128 c.args.value.den = search rules in
    let whole = whole_of c.args.value.num c.args.value.den c.div_euclid-whole.result num den c.div_euclid-whole.ensures in
    let number = c.from-number.ensures in
    let rest = rest_of c.args.value.num c.args.value.den c.rem_euclid.result num den c.rem_euclid.ensures.value in
    let least = c.rem_euclid.ensures.lower_bound in
    let test = c.if-rem_euclid-eq0.true in
    sym (stands_at c.args.value c.args.number c.requires (grind (arith, ints, low, high, whole, number)) (omega (arith, ints, rest, least, test)))

pub returns : goal.returns
returns c =
    let low = c.if-number-whole.false in
    let high = c.if-whole-number.false in
    let num : SFits w128 c.args.value.num = search rules in
    let den : SFits w128 c.args.value.den = search rules in
    let whole = whole_of c.args.value.num c.args.value.den c.div_euclid-whole.result num den c.div_euclid-whole.ensures in
    let number = c.from-number.ensures in
    let rest = rest_of c.args.value.num c.args.value.den c.rem_euclid.result num den c.rem_euclid.ensures.value in
    let least = c.rem_euclid.ensures.lower_bound in
    let other = c.if-rem_euclid-eq0.false in
    sym (stands_just_below c.args.value c.args.number c.requires (grind (arith, ints, low, high, whole, number)) (grind (arith, ints, rest, least, other)))
