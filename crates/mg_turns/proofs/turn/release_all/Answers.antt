use Rattle.std.proofs.Common.{None, Some}
use Rattle.mg_turns.specs.declared.turn.TurnEnd.TheVariants.{Whole}
use Rattle.mg_turns.proofs.SpeakLemmas.{accounts_end, accounts_then}
use Rattle.mg_turns.proofs.TurnLemmas.{lets_then, lets_whole}
use Rattle.mg_turns.proofs.turn.release_all.Goals as goal

pub returns-in-Some-release_one-clause-accounts : goal.returns-in-Some-release_one-clause-accounts
returns-in-Some-release_one-clause-accounts g c = accounts_then g.R.Records.meaning c.args.r.now c.loop-place.r
    c.release_one.new.r c.args.released.now.items c.loop-place.released.items c.release_one.new.released.items
    (Some c.in-Some-release_one.end) c.loop-place.invariant.accounts c.in-Some-release_one.ensures.accounts

pub returns-in-Some-release_one-clause-lets : goal.returns-in-Some-release_one-clause-lets
returns-in-Some-release_one-clause-lets g c = lets_then g.R.Records.meaning g.R.Statements.runs
    g.met.R.Records.lasts c.args.r.now c.loop-place.r c.release_one.new.r c.args.sessions.now.transactions
    c.loop-place.sessions.transactions c.release_one.new.sessions.transactions c.args.sessions.now.pending.items
    c.loop-place.sessions.pending.items c.release_one.new.sessions.pending.items c.args.released.now.items
    c.loop-place.released.items c.release_one.new.released.items (Some c.in-Some-release_one.end)
    c.loop-place.invariant.lets c.in-Some-release_one.ensures.lets

pub loop-place-preserved : goal.loop-place-preserved
loop-place-preserved g c = record {
  lets = lets_then g.R.Records.meaning g.R.Statements.runs
      g.met.R.Records.lasts c.args.r.now c.loop-place.r c.release_one.new.r c.args.sessions.now.transactions
      c.loop-place.sessions.transactions c.release_one.new.sessions.transactions c.args.sessions.now.pending.items
      c.loop-place.sessions.pending.items c.release_one.new.sessions.pending.items c.args.released.now.items
      c.loop-place.released.items c.release_one.new.released.items None
      c.loop-place.invariant.lets c.in-None.ensures.lets;
  ready = c.release_one.ensures.ready;
  accounts = accounts_then g.R.Records.meaning c.args.r.now c.loop-place.r
      c.release_one.new.r c.args.released.now.items c.loop-place.released.items c.release_one.new.released.items
      None c.loop-place.invariant.accounts c.in-None.ensures.accounts;
  lettered = λ all. c.release_one.ensures.lettered (c.loop-place.invariant.lettered all);
}

pub returns-clause-lets : goal.returns-clause-lets
returns-clause-lets g c = lets_whole g.R.Records.meaning g.R.Statements.runs c.args.r.now c.loop-place.r
    c.args.sessions.now.transactions c.loop-place.sessions.transactions c.args.sessions.now.pending.items
    c.loop-place.sessions.pending.items c.args.released.now.items c.loop-place.released.items
    c.in_default.ensures.none c.loop-place.invariant.lets

pub returns-clause-accounts : goal.returns-clause-accounts
returns-clause-accounts g c = accounts_end g.R.Records.meaning c.args.r.now c.loop-place.r c.args.released.now.items
    c.loop-place.released.items Whole (λ last goes. goes) c.loop-place.invariant.accounts
