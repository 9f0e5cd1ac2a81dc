use Rattle.std.proofs.Common.{List, [], Some, sym, ◌∙◌, subst}
use Rattle.mg_transcript.specs.declared.turn.Spoken.{Spoken}
use Rattle.mg_transcript.specs.Lines.{last_reply}
use Rattle.mg_courses.specs.Running.{refusal_answered}
use Rattle.mg_sessions.specs.Accounts.{Accounts}
use Rattle.mg_sessions.specs.Coming.{ComesTo}
use Rattle.mg_turns.specs.Turns.{Turned}
use Rattle.mg_turns.specs.declared.turn.TurnEnd.TheVariants.{Stopped}
use Rattle.mg_turns.proofs.SpeakLemmas.{accounts_from, goes_is, lets_from, stops_is}
use Rattle.mg_turns.proofs.TurnLemmas.{obeyed_stops, obeyed_then}
use Rattle.mg_turns.proofs.turn.take_turn.Goals as goal

pub returns-in-Stops-clause-does : goal.returns-in-Stops-clause-does
returns-in-Stops-clause-does g c = λ o h us stand.
    let m = g.R.Records.meaning in
    let runs = g.R.Statements.runs in
    subst (λ (xs : List Spoken). ComesTo m runs c.args.r.now c.obey-reply.new.r o h
    c.obey-reply.new.sessions.transactions c.obey-reply.new.sessions.pending.items
    (Turned o h c.args.size us c.args.kind.now c.obey-reply.result xs (Some Stopped))) (sym c.new.ensures.items)
    (obeyed_stops m runs c.args.r.now c.obey-reply.new.r c.obey-reply.new.sessions.transactions
    c.obey-reply.new.sessions.pending.items o h c.args.size us c.args.kind.now c.obey-reply.result
    (stops_is c.obey-reply.result c.in-Stops.field-0 (sym c.flow_of.ensures ∙ c.in-Stops.is))
    (c.obey-reply.ensures.does o h us stand))

pub returns-in-Stops-clause-accounts : goal.returns-in-Stops-clause-accounts
returns-in-Stops-clause-accounts g c = subst (λ (xs : List Spoken). Accounts g.R.Records.meaning c.args.r.now
    c.obey-reply.new.r (refusal_answered (last_reply c.obey-reply.result xs))) (sym c.new.ensures.items)
    c.obey-reply.ensures.accounts

pub returns-in-GoesOn-clause-does : goal.returns-in-GoesOn-clause-does
returns-in-GoesOn-clause-does g c = λ o h us stand.
    let m = g.R.Records.meaning in
    let runs = g.R.Statements.runs in
    obeyed_then m runs g.met.R.Records.lasts c.args.r.now c.obey-reply.new.r c.release_all-end.new.r
    c.obey-reply.new.sessions.transactions c.release_all-end.new.sessions.transactions
    c.obey-reply.new.sessions.pending.items c.release_all-end.new.sessions.pending.items o h c.args.size us
    c.args.kind.now c.obey-reply.result c.release_all-end.new.released.items c.release_all-end.result
    (goes_is c.obey-reply.result (sym c.flow_of.ensures ∙ c.in-GoesOn.is))
    (c.obey-reply.ensures.does o h us stand)
    (lets_from m runs c.obey-reply.new.r c.release_all-end.new.r c.obey-reply.new.sessions.transactions
    c.release_all-end.new.sessions.transactions c.obey-reply.new.sessions.pending.items
    c.release_all-end.new.sessions.pending.items [] c.new-released.result.items
    c.release_all-end.new.released.items (Some c.release_all-end.result) c.new-released.ensures.items
    c.release_all-end.ensures.lets)

pub returns-in-GoesOn-clause-accounts : goal.returns-in-GoesOn-clause-accounts
returns-in-GoesOn-clause-accounts g c = (accounts_from g.R.Records.meaning c.obey-reply.new.r c.release_all-end.new.r
    [] c.new-released.result.items c.release_all-end.new.released.items (Some c.release_all-end.result)
    c.new-released.ensures.items c.release_all-end.ensures.accounts c.args.r.now c.obey-reply.result
    (goes_is c.obey-reply.result (sym c.flow_of.ensures ∙ c.in-GoesOn.is)) c.obey-reply.ensures.accounts).0

pub returns-in-GoesOn-clause-stopped : goal.returns-in-GoesOn-clause-stopped
returns-in-GoesOn-clause-stopped g c = (accounts_from g.R.Records.meaning c.obey-reply.new.r c.release_all-end.new.r
    [] c.new-released.result.items c.release_all-end.new.released.items (Some c.release_all-end.result)
    c.new-released.ensures.items c.release_all-end.ensures.accounts c.args.r.now c.obey-reply.result
    (goes_is c.obey-reply.result (sym c.flow_of.ensures ∙ c.in-GoesOn.is)) c.obey-reply.ensures.accounts).1
