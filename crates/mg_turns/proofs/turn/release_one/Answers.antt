use Rattle.std.proofs.Common.{Some}
use Rattle.mg_turns.specs.declared.turn.TurnEnd.TheVariants.{NoRoom}
use Rattle.mg_turns.proofs.SpeakLemmas.{accounts_end, accounts_from, accounts_none, lets_from, lets_to}
use Rattle.mg_turns.proofs.TurnLemmas.{lets_short}
use Rattle.mg_turns.proofs.turn.release_one.Goals as goal

pub returns-in-Ok-clause-accounts : goal.returns-in-Ok-clause-accounts
returns-in-Ok-clause-accounts g c = accounts_from g.R.Records.meaning c.args.r.now c.speak.new.r
    c.args.released.now.items c.reserve.new.self.items c.speak.new.released.items c.speak.result
    c.reserve.ensures.items c.speak.ensures.accounts

pub returns-in-Ok-clause-lets : goal.returns-in-Ok-clause-lets
returns-in-Ok-clause-lets g c = lets_from g.R.Records.meaning g.R.Statements.runs c.args.r.now c.speak.new.r
    c.args.sessions.now.transactions c.speak.new.sessions.transactions c.args.sessions.now.pending.items
    c.speak.new.sessions.pending.items c.args.released.now.items c.reserve.new.self.items
    c.speak.new.released.items c.speak.result c.reserve.ensures.items c.speak.ensures.lets

pub returns-in-Err-clause-lets : goal.returns-in-Err-clause-lets
returns-in-Err-clause-lets g c = lets_to g.R.Records.meaning g.R.Statements.runs c.args.r.now c.args.r.now
    c.args.sessions.now.transactions c.args.sessions.now.transactions c.args.sessions.now.pending.items
    c.args.sessions.now.pending.items c.args.released.now.items c.args.released.now.items c.reserve.new.self.items
    (Some NoRoom) c.reserve.ensures.items
    (lets_short g.R.Records.meaning g.R.Statements.runs g.met.R.Records.crashes c.args.r.now
    c.args.sessions.now.transactions c.args.sessions.now.pending.items c.args.released.now.items)

pub returns-in-Err-clause-accounts : goal.returns-in-Err-clause-accounts
returns-in-Err-clause-accounts g c = accounts_end g.R.Records.meaning c.args.r.now c.args.r.now
    c.args.released.now.items c.reserve.new.self.items NoRoom (λ last goes. goes)
    (accounts_none g.R.Records.meaning c.args.r.now c.args.released.now.items c.reserve.new.self.items
    c.reserve.ensures.items)
