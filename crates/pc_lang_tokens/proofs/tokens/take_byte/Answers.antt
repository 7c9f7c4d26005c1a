use Rattle.std.proofs.Common.{rules, ◌≡◌, arith, false, drop, Ok, Err}
use Rattle.pc_lang_tokens.specs.Places.{HasRead}
use Rattle.pc_lang_tokens.specs.Lexing.{starts_blank, token_at}
use Rattle.pc_lang_tokens.proofs.Reading.{reached_none, reached_token}
use Rattle.pc_lang_tokens.proofs.tokens.take_byte.Goals as goal

pub returns-in_ok-put_token-in-Ok : goal.returns-in_ok-put_token-in-Ok
returns-in_ok-put_token-in-Ok c =
    let none : c.args.taken ≡ 0 = omega (arith, c.if-taken-gt0.false) in
    let read : HasRead c.args.text.now c.args.place c.args.tokens.now 0 = rw none at c.requires.read in
    let other : starts_blank (drop c.args.place c.args.text.now) ≡ false = search rules in
    let found : token_at (drop c.args.place c.args.text.now) ≡ Ok (c.in-Ok.token, c.in-Ok.len) = search rules in
    let told = c.in_ok-put_token-in-Ok.ensures in
    rw c.saturating_sub.ensures
    (reached_token c.args.text.now c.args.place c.args.tokens.now c.put_token.new.tokens c.in-Ok.token c.in-Ok.len c.requires.inside other found read told.list told.places)

pub returns-in-Err-Reason : goal.returns-in-Err-Reason
returns-in-Err-Reason c =
    let none : c.args.taken ≡ 0 = omega (arith, c.if-taken-gt0.false) in
    let read : HasRead c.args.text.now c.args.place c.args.tokens.now 0 = rw none at c.requires.read in
    let other : starts_blank (drop c.args.place c.args.text.now) ≡ false = search rules in
    let bad : token_at (drop c.args.place c.args.text.now) ≡ Err c.in-Err-Reason.field-0-0 = search rules in
    reached_none c.args.text.now c.args.place c.args.tokens.now c.in-Err-Reason.field-0-0 c.requires.inside other bad read
