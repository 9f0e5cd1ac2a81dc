use Rattle.mg_script.specs.declared.line.LineKind.TheVariants as kinds
use Rattle.mg_script.specs.declared.reply.Reply.TheVariants.{No}
use Rattle.mg_statements.specs.Plain.{plain_of}
use Rattle.mg_transcript.specs.Lines.{Does, declines_held}
use Rattle.mg_sessions.specs.StatementLaws.{declined, stays_so, takes_no_begin}
use Rattle.mg_sessions.proofs.statements.obey_held.Goals as goal

pub hold_own-requires-clause-other : goal.hold_own-requires-clause-other
hold_own-requires-clause-other g c =
    takes_no_begin (plain_of c.in-Ok.statement) (c.requires.held (plain_of c.in-Ok.statement) c.in-Ok.ensures.reads.1)

pub returns-in-Err-clause-does : goal.returns-in-Err-clause-does
returns-in-Err-clause-does g c = λ o h us stand.
    let all = c.args.sessions.now.transactions in
    let ps = c.args.sessions.now.pending.items in
    stays_so g.R.Records.meaning g.R.Statements.runs g.met.R.Records.crashes c.args.r.now o h all ps us
    (Does o h c.args.size us (kinds.Held c.args.session c.args.text.now) (No c.in-Err.fault)) stand
    (declines_held c.args.session c.args.text.now c.in-Err.fault
    (declined g.R.Statements.runs c.args.r.now o h ps us c.args.session c.args.text.now c.in-Err.fault stand.agree
    c.in-Err.ensures.reads))

pub returns-in-Ok-clause-does : goal.returns-in-Ok-clause-does
returns-in-Ok-clause-does g c = λ o h us stand.
    c.hold_own.ensures.does c.args.text.now c.in-Ok.ensures.reads.1 o h us stand
