use Rattle.std.proofs.Common.{◌∙◌, Option, None, Some, refl, subst}
use Rattle.mg_sessions.specs.AccountLaws.{account_after, no_account}
use Rattle.mg_sessions.specs.Accounts.{Accounts}
use Rattle.mg_scripts.specs.Steps.{reason_in}
use Rattle.mg_scripts.proofs.RunLemmas.{last_line, next_line, obeyable_rest, so_far_none}
use Rattle.mg_scripts.proofs.SinkLemmas.{all_say, last_says, next_says}
use Rattle.mg_scripts.specs.declared.lines.LinesEnd.{LinesEnd}
use Rattle.mg_scripts.specs.declared.lines.LinesEnd.TheVariants.{Whole}
use Rattle.mg_scripts.proofs.lines.run_lines.Goals as goal

pub loop-line-init : goal.loop-line-init
loop-line-init g c = record {
  ready = c.requires.ready;
  size = c.requires.size;
  obeyable = c.requires.obeyable;
  accounts = no_account g.R.Records.meaning c.args.r.now None tt;
  steady = refl;
  so_far = λ o stand. so_far_none g.R.Records.meaning g.R.Statements.runs g.K.Sink.meaning o c.args.size
      g.met.R.Records.crashes c.args.r.now c.args.sink.now c.args.lines.now c.args.sessions.now.transactions
      c.args.sessions.now.pending.items stand;
}

pub returns-in-Some-end-clause-done : goal.returns-in-Some-end-clause-done
returns-in-Some-end-clause-done g c = λ o stand. last_line g.R.Records.meaning g.R.Statements.runs g.K.Sink.meaning o
    c.args.size g.met.R.Records.lasts c.args.r.now c.loop-line.r c.obey_line-said.new.r c.args.sink.now
    c.loop-line.sink c.obey_line-said.new.sink c.args.lines.now c.loop-line.rest.now c.in-Some.later.now
    c.in-Some.line.now c.loop-line.sessions.transactions c.obey_line-said.new.sessions.transactions
    c.loop-line.sessions.pending.items c.obey_line-said.new.sessions.pending.items c.loop-line.fine
    c.obey_line-said.result.fine c.both-fine.result c.in-Some.ensures.cases.0 c.both-fine.ensures c.obey_line-said.result.end
    (c.loop-line.invariant.so_far o stand) (c.obey_line-said.ensures.done o) c.in-Some-end.end c.in-Some-end.is

pub returns-in-Some-end-clause-sinks : goal.returns-in-Some-end-clause-sinks
returns-in-Some-end-clause-sinks g c = last_says g.K.Sink.meaning c.args.sink.now c.loop-line.sink
    c.obey_line-said.new.sink c.obey_line-said.result.end c.in-Some-end.end c.loop-line.invariant.steady
    c.in-Some-end.is c.obey_line-said.ensures.sinks

pub returns-in-Some-end-clause-accounts : goal.returns-in-Some-end-clause-accounts
returns-in-Some-end-clause-accounts g c = account_after g.R.Records.meaning c.args.r.now c.loop-line.r
    c.obey_line-said.new.r (reason_in (Some c.in-Some-end.end)) c.loop-line.invariant.accounts
    (subst (λ (end : Option LinesEnd). Accounts g.R.Records.meaning c.loop-line.r c.obey_line-said.new.r (reason_in end))
    c.in-Some-end.is c.obey_line-said.ensures.accounts)

pub returns-clause-sinks : goal.returns-clause-sinks
returns-clause-sinks g c = all_say g.K.Sink.meaning c.args.sink.now c.loop-line.sink Whole refl
    c.loop-line.invariant.steady

pub loop-line-preserved : goal.loop-line-preserved
loop-line-preserved g c = record {
  ready = c.obey_line-said.ensures.ready;
  size = c.obey_line-said.ensures.accounts.sizes c.args.size ∙ c.loop-line.invariant.size;
  obeyable = obeyable_rest c.loop-line.rest.now c.in-Some.line.now c.in-Some.later.now c.in-Some.ensures.cases.0
      c.loop-line.invariant.obeyable;
  accounts = account_after g.R.Records.meaning c.args.r.now c.loop-line.r c.obey_line-said.new.r None
      c.loop-line.invariant.accounts
      (subst (λ (end : Option LinesEnd). Accounts g.R.Records.meaning c.loop-line.r c.obey_line-said.new.r (reason_in end))
      c.in_default-end.is c.obey_line-said.ensures.accounts);
  steady = next_says g.K.Sink.meaning c.args.sink.now c.loop-line.sink c.obey_line-said.new.sink
      c.obey_line-said.result.end c.loop-line.invariant.steady c.in_default-end.is c.obey_line-said.ensures.sinks;
  so_far = λ o stand. next_line g.R.Records.meaning g.R.Statements.runs g.K.Sink.meaning o c.args.size
      g.met.R.Records.lasts c.args.r.now c.loop-line.r c.obey_line-said.new.r c.args.sink.now c.loop-line.sink
      c.obey_line-said.new.sink c.args.lines.now c.loop-line.rest.now c.in-Some.later.now c.in-Some.line.now
      c.loop-line.sessions.transactions c.obey_line-said.new.sessions.transactions
      c.loop-line.sessions.pending.items c.obey_line-said.new.sessions.pending.items c.loop-line.fine
      c.obey_line-said.result.fine c.both-fine.result c.in-Some.ensures.cases.0 c.both-fine.ensures c.obey_line-said.result.end
      (c.loop-line.invariant.so_far o stand) (c.obey_line-said.ensures.done o) c.in_default-end.is;
}
