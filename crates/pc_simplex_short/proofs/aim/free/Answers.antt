use Rattle.std.proofs.Common.{◌*◌, ◌^◌, ◌≤◌, length, ap, subst, sym, ◌∙◌}
use Rattle.std.specs.Prelude.{nat_abs}
use Rattle.pc_num.proofs.Signed.{passed}
use Rattle.pc_simplex_short.specs.Short.{ShortSetting}
use Rattle.pc_simplex_short.proofs.Alike.{aim_small}
use Rattle.pc_simplex_short.proofs.FreedAims.{length-freed, kept-aim, kept-weight, freed-aim, freed-weight, passed_scale, passed_entry, passed_weight, is_none, is_some}
use Rattle.pc_simplex_short.proofs.aim.free.Goals as goal

pub returns-then-own-eq0-clause-aim : goal.returns-then-own-eq0-clause-aim
returns-then-own-eq0-clause-aim c true_result =
    let weight_is = passed_weight c.args.setting.now c.args.weight.now c.args.aim.now c.requires.setting c.requires.short in
    let own = c.aim_entry-own.ensures in
    let value = rw weight_is at own.value in
    kept-aim c.args.setting.now c.args.turned.now c.args.column c.requires.column c.args.weight.now c.args.aim.now c.args.other.now
    (sym value ∙ is_none c.aim_entry-own.result own.small c.if-own-eq0.true)

pub returns-then-own-eq0-clause-weight : goal.returns-then-own-eq0-clause-weight
returns-then-own-eq0-clause-weight c true_result =
    let weight_is = passed_weight c.args.setting.now c.args.weight.now c.args.aim.now c.requires.setting c.requires.short in
    let own = c.aim_entry-own.ensures in
    let value = rw weight_is at own.value in
    kept-weight c.args.setting.now c.args.turned.now c.args.column c.requires.column c.args.weight.now c.args.aim.now c.args.other.now
    (sym value ∙ is_none c.aim_entry-own.result own.small c.if-own-eq0.true)

pub returns-clause-aim : goal.returns-clause-aim
returns-clause-aim c true_result =
    let weight_is = passed_weight c.args.setting.now c.args.weight.now c.args.aim.now c.requires.setting c.requires.short in
    let own = c.aim_entry-own.ensures in
    let value = rw weight_is at own.value in
    let scale = c.entry-scale.ensures in
    let entries = rw (passed_scale c.entry-scale.result scale.small, passed_entry c.aim_entry-own.result own.small) at (c.free_entries.ensures.entries) in
    let weight = rw (passed_scale c.entry-scale.result scale.small, passed_entry c.aim_entry-own.result own.small) at (c.free_entries.ensures.weight) in
    freed-aim c.args.setting.now c.args.turned.now c.args.column c.requires.column c.args.weight.now c.args.aim.now c.args.other.now c.requires.setting
    c.entry-scale.result c.aim_entry-own.result scale.value value (is_some c.aim_entry-own.result c.if-own-eq0.false) c.requires.short.numbers c.requires.other
    c.free_entries.new.weight c.free_entries.new.entries entries weight

pub returns-clause-weight : goal.returns-clause-weight
returns-clause-weight c true_result =
    let weight_is = passed_weight c.args.setting.now c.args.weight.now c.args.aim.now c.requires.setting c.requires.short in
    let own = c.aim_entry-own.ensures in
    let value = rw weight_is at own.value in
    let scale = c.entry-scale.ensures in
    let weight = rw (passed_scale c.entry-scale.result scale.small, passed_entry c.aim_entry-own.result own.small) at (c.free_entries.ensures.weight) in
    freed-weight c.args.setting.now c.args.turned.now c.args.column c.requires.column c.args.weight.now c.args.aim.now c.args.other.now c.requires.setting
    c.entry-scale.result c.aim_entry-own.result scale.value value (is_some c.aim_entry-own.result c.if-own-eq0.false) c.requires.short.numbers c.requires.other
    c.free_entries.new.weight weight

pub returns-clause-short : goal.returns-clause-short
returns-clause-short c true_result =
    let f = c.args.setting.now in
    let made = c.free_entries.ensures in
    let left = c.free_entries.new.weight in
    let small = rw (passed left made.weight_fits) at (c.is_small_aim.ensures.weight true_result) in
    record {
      numbers = rw made.entries (length-freed f c.args.turned.now c.requires.setting _ _ c.args.weight.now c.args.aim.now c.args.other.now c.requires.short.numbers c.requires.other);
      small = c.is_small_aim.ensures.aim true_result;
      light = subst (λ (s : ShortSetting). nat_abs left * s.top ≤ 2 ^ 69) c.setting.view_is small;
    }

pub returns-clause-given : goal.returns-clause-given
returns-clause-given c held =
    let f = c.args.setting.now in
    let made = c.free_entries.ensures in
    let left = c.free_entries.new.weight in
    let weight_is = passed_weight f c.args.weight.now c.args.aim.now c.requires.setting c.requires.short in
    let own = c.aim_entry-own.ensures in
    let value = rw weight_is at own.value in
    let scale = c.entry-scale.ensures in
    let entries = rw (passed_scale c.entry-scale.result scale.small, passed_entry c.aim_entry-own.result own.small) at made.entries in
    let weight = rw (passed_scale c.entry-scale.result scale.small, passed_entry c.aim_entry-own.result own.small) at made.weight in
    let some = is_some c.aim_entry-own.result c.if-own-eq0.false in
    let aim_is = freed-aim f c.args.turned.now c.args.column c.requires.column c.args.weight.now c.args.aim.now c.args.other.now c.requires.setting
    c.entry-scale.result c.aim_entry-own.result scale.value value some c.requires.short.numbers c.requires.other left c.free_entries.new.entries entries weight in
    let left_is = freed-weight f c.args.turned.now c.args.column c.requires.column c.args.weight.now c.args.aim.now c.args.other.now c.requires.setting
    c.entry-scale.result c.aim_entry-own.result scale.value value some c.requires.short.numbers c.requires.other left weight in
    let long = ap length made.entries
    ∙ length-freed f c.args.turned.now c.requires.setting _ _ c.args.weight.now c.args.aim.now c.args.other.now c.requires.short.numbers c.requires.other in
    let small = aim_small f c.args.turned.now _ left c.free_entries.new.entries c.requires.setting held aim_is left_is long in
    c.is_small_aim.ensures.given small.small
    (rw (passed left made.weight_fits) (subst (λ (s : ShortSetting). nat_abs left * s.top ≤ 2 ^ 69) (sym c.setting.view_is) small.light))
