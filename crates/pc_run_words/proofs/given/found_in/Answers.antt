use Rattle.std.proofs.Common.{◌≡◌, ◌∙◌, [], ap, map, string_bytes, subst}
use Rattle.clap.specs.Words.{HasMatchesOf, fault_of, is_simple_and_free, takes}
use Rattle.pc_run_words.proofs.Parses.{all_texts, found_holds, is_free_parser, refused_by}
use Rattle.pc_run_words.proofs.given.found_in.Goals as goal

pub returns-in-Ok : goal.returns-in-Ok
returns-in-Ok c name has_nodes e =
    let words = map string_bytes c.args.words.now in
    found_holds name has_nodes words (all_texts c.args.words.now) c.in-Ok.found
    (subst (λ app. HasMatchesOf app words c.in-Ok.found) e c.in-Ok.ensures.matches)
    (subst (λ app. fault_of app words ≡ []) e (c.in-Ok.ensures.kinds (ap is_simple_and_free e ∙ is_free_parser name has_nodes)))

pub returns : goal.returns
returns c name has_nodes e =
    let words = map string_bytes c.args.words.now in
    refused_by name has_nodes words (all_texts c.args.words.now)
    (λ taken. c.in_default.not-OutOfMemory (c.kind.ensures ∙ c.in-Err.ensures.passes (ap (λ app. takes app words) e ∙ taken)))
