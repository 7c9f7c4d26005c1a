use Rattle.std.proofs.Common.{inl}
use Rattle.std.proofs.lemmas.Result.{IfOk-weaker}
use Rattle.pc_desk_words.specs.Calls.{ask_names, draft_names, history_names, limit_names, opens_names, session_names, sql_names, trial_names, weigh_names, why_names}
use Rattle.pc_desk_words.specs.Words.{ask, draft, history, limit, opens, session, sql, trial, weigh, why}
use Rattle.pc_desk_run.proofs.reply.respond.Goals as goal

pub reply_to_ask-requires : goal.reply_to_ask-requires
reply_to_ask-requires g c = let numbers = rw c.in-Ask.is at c.in_ok-call.ensures.numbers in numbers.0

pub returns-in-Ask : goal.returns-in-Ask
returns-in-Ask g c =
    let reads = rw c.in-Ask.is at c.in_ok-call.ensures.reads in
    record { responds = IfOk-weaker c.reply_to_ask.result _ _ (λ reply replies. inl (ask (ask_names c.in-Ask.ask), reads, replies)) c.reply_to_ask.ensures }

pub reply_to_session-requires : goal.reply_to_session-requires
reply_to_session-requires g c = rw c.in-Session.is at c.in_ok-call.ensures.numbers

pub returns-in-Session : goal.returns-in-Session
returns-in-Session g c =
    let reads = rw c.in-Session.is at c.in_ok-call.ensures.reads in
    record { responds = IfOk-weaker c.reply_to_session.result _ _ (λ reply replies. inl (session (session_names c.in-Session.session), reads, replies)) c.reply_to_session.ensures }

pub reply_to_why-requires : goal.reply_to_why-requires
reply_to_why-requires g c = let numbers = rw c.in-Why.is at c.in_ok-call.ensures.numbers in numbers.0

pub returns-in-Why : goal.returns-in-Why
returns-in-Why g c =
    let reads = rw c.in-Why.is at c.in_ok-call.ensures.reads in
    record { responds = IfOk-weaker c.reply_to_why.result _ _ (λ reply replies. inl (why (why_names c.in-Why.why), reads, replies)) c.reply_to_why.ensures }

pub reply_to_weigh-requires : goal.reply_to_weigh-requires
reply_to_weigh-requires g c = rw c.in-Weigh.is at c.in_ok-call.ensures.numbers

pub returns-in-Weigh : goal.returns-in-Weigh
returns-in-Weigh g c =
    let reads = rw c.in-Weigh.is at c.in_ok-call.ensures.reads in
    record { responds = IfOk-weaker c.reply_to_weigh.result _ _ (λ reply replies. inl (weigh (weigh_names c.in-Weigh.wish), reads, replies)) c.reply_to_weigh.ensures }

pub reply_to_trial-requires : goal.reply_to_trial-requires
reply_to_trial-requires g c = rw c.in-Trial.is at c.in_ok-call.ensures.numbers

pub returns-in-Trial : goal.returns-in-Trial
returns-in-Trial g c =
    let reads = rw c.in-Trial.is at c.in_ok-call.ensures.reads in
    record { responds = IfOk-weaker c.reply_to_trial.result _ _ (λ reply replies. inl (trial (trial_names c.in-Trial.trial), reads, replies)) c.reply_to_trial.ensures }

pub returns-in-Opens : goal.returns-in-Opens
returns-in-Opens g c =
    let reads = rw c.in-Opens.is at c.in_ok-call.ensures.reads in
    record { responds = IfOk-weaker c.reply_to_opens.result _ _ (λ reply replies. inl (opens (opens_names c.in-Opens.opens), reads, replies)) c.reply_to_opens.ensures }

pub reply_to_history-requires : goal.reply_to_history-requires
reply_to_history-requires g c =
    let numbers = rw c.in-History.is at c.in_ok-call.ensures.numbers in
    record { widen = numbers.0; lost = numbers.1 }

pub returns-in-History : goal.returns-in-History
returns-in-History g c =
    let reads = rw c.in-History.is at c.in_ok-call.ensures.reads in
    record { responds = IfOk-weaker c.reply_to_history.result _ _ (λ reply replies. inl (history (history_names c.in-History.wish), reads, replies)) c.reply_to_history.ensures }

pub returns-in-Limit : goal.returns-in-Limit
returns-in-Limit g c =
    let reads = rw c.in-Limit.is at c.in_ok-call.ensures.reads in
    record { responds = IfOk-weaker c.reply_to_limit.result _ _ (λ reply replies. inl (limit (limit_names c.in-Limit.limit), reads, replies)) c.reply_to_limit.ensures }

pub returns-in-Sql : goal.returns-in-Sql
returns-in-Sql g c =
    let reads = rw c.in-Sql.is at c.in_ok-call.ensures.reads in
    record { responds = IfOk-weaker c.reply_to_sql.result _ _ (λ reply replies. inl (sql (sql_names c.in-Sql.sql), reads, replies)) c.reply_to_sql.ensures }

pub returns-in-Draft : goal.returns-in-Draft
returns-in-Draft g c =
    let reads = rw c.in-Draft.is at c.in_ok-call.ensures.reads in
    record { responds = IfOk-weaker c.reply_to_draft.result _ _ (λ reply replies. inl (draft (draft_names c.in-Draft.draft), reads, replies)) c.reply_to_draft.ensures }
