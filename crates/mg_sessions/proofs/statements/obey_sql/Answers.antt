use Rattle.std.proofs.Common.{ap, subst}
use Rattle.mg_script.specs.declared.line.LineKind.TheVariants as kinds
use Rattle.mg_script.specs.declared.reply.Reply.TheVariants.{No}
use Rattle.mg_sql.specs.Answers.{Parses}
use Rattle.mg_statements.specs.Plain.{Plain, plain_of}
use Rattle.mg_transcript.specs.Lines.{Does, declines}
use Rattle.mg_sessions.specs.StatementLaws.{declined, stays_so}
use Rattle.mg_sessions.proofs.statements.obey_sql.Goals as goal

pub returns-in-Err-clause-does : goal.returns-in-Err-clause-does
returns-in-Err-clause-does g c = λ o h us stand.
    let all = c.args.sessions.now.transactions in
    let ps = c.args.sessions.now.pending.items in
    stays_so g.R.Records.meaning g.R.Statements.runs g.met.R.Records.crashes c.args.r.now o h all ps us
    (Does o h c.args.size us (kinds.Sql c.args.session c.args.text.now) (No c.in-Err.fault)) stand
    (declines c.args.session c.args.text.now c.in-Err.fault
    (declined g.R.Statements.runs c.args.r.now o h ps us c.args.session c.args.text.now c.in-Err.fault stand.agree
    c.in-Err.ensures.reads))

pub returns-in-SetTransaction-clause-does : goal.returns-in-SetTransaction-clause-does
returns-in-SetTransaction-clause-does g c = λ o h us stand.
    c.begin.ensures.does c.args.text.now c.args.size
    (subst (λ (s : Plain). Parses c.args.text.now s) (ap plain_of c.in-SetTransaction.is) c.in-Ok.ensures.reads.1) o h us
    stand

pub returns-in_default-clause-does : goal.returns-in_default-clause-does
returns-in_default-clause-does g c = λ o h us stand.
    c.run_own.ensures.does c.args.text.now c.in-Ok.ensures.reads.1 o h us stand
