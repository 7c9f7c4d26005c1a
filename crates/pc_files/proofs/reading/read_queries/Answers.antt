use Rattle.std.proofs.Common.{◌≡◌, List, [], ◌∷◌, ◌++◌, map, Bor, ℕ, rules, sym, subst, ◌∙◌}
use Rattle.std.proofs.lemmas.List.Elements.{All-nil, All-push}
use Rattle.std.proofs.lemmas.Result.{err_from_is_err_and}
use Rattle.pc_model.specs.Accepted.{IsQuery}
use Rattle.pc_model.specs.Refusals.{RefusesAs}
use Rattle.pc_files.proofs.Asked.{none_read, next_word, refused_word, all_words}
use Rattle.pc_files.proofs.reading.read_queries.Goals as goal

pub loop-place-init : goal.loop-place-init
loop-place-init c = rw c.new-queries.ensures (record { read = none_read c.args.schema.now (map (λ (text : Bor (List ℕ)). text.now) c.args.texts.now); asked = All-nil (IsQuery c.args.schema.now) })

pub returns-in_err-query-clause-gives : goal.returns-in_err-query-clause-gives
returns-in_err-query-clause-gives c =
    let p = err_from_is_err_and c.from_residual.result c.from_residual.ensures.1 in
    let here = refused_word c.args.schema.now c.args.texts.now c.loop-place.place c.loop-place.queries (record { ref_ptr = (0, 0); now = [] }) c.in_err-query.field-0.0 c.loop-place-test.true c.in_err-query.ensures.gives in
    rw (p.1, p.2) (subst (RefusesAs c.in_err-query.field-0.0) c.loop-place.invariant.read here)

pub loop-place-preserved : goal.loop-place-preserved
loop-place-preserved c =
    let pushed : c.push.new.self ≡ c.loop-place.queries ++ c.in_ok-query.query ∷ [] = search rules in
    rw pushed (record {
      read = next_word c.args.schema.now c.args.texts.now c.loop-place.place c.loop-place.queries (record { ref_ptr = (0, 0); now = [] }) c.in_ok-query.query c.loop-place-test.true c.in_ok-query.ensures.gives ∙ c.loop-place.invariant.read;
      asked = All-push (IsQuery c.args.schema.now) c.loop-place.queries c.in_ok-query.query c.loop-place.invariant.asked c.in_ok-query.ensures.accepted;
    })

pub returns-clause-gives : goal.returns-clause-gives
returns-clause-gives c =
    sym c.loop-place.invariant.read ∙ all_words c.args.schema.now c.args.texts.now c.loop-place.place c.loop-place.queries c.loop-place-test.false

pub returns-clause-asked : goal.returns-clause-asked
returns-clause-asked c = c.loop-place.invariant.asked
