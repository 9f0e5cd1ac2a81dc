use Rattle.std.proofs.Common.{ap, refl, subst}
use Rattle.mg_script.specs.declared.reply.Reply.TheVariants.{No}
use Rattle.mg_sql.specs.Answers.{Parses}
use Rattle.mg_statements.specs.Plain.{Plain, plain_of}
use Rattle.mg_sessions.specs.StatementLaws.{declined, stays_so}
use Rattle.mg_floor.specs.TakingUp.{TakesUp, declines}
use Rattle.mg_floor.specs.TakingUpLaws.{begins_taken, holds_taken}
use Rattle.mg_floor.proofs.taking_up.take_up.Goals as goal

pub returns-in-Err-clause-does : goal.returns-in-Err-clause-does
returns-in-Err-clause-does g c = λ o h us stand.
    let all = c.args.sessions.now.transactions in
    let ps = c.args.sessions.now.pending.items in
    stays_so g.R.Records.meaning g.R.Statements.runs g.met.R.Records.crashes c.args.r.now o h all ps us
    (TakesUp o h c.args.size us c.args.session c.args.text.now (No c.in-Err.fault)) stand
    (declines c.in-Err.fault
    (declined g.R.Statements.runs c.args.r.now o h ps us c.args.session c.args.text.now c.in-Err.fault stand.agree
    c.in-Err.ensures.reads))

pub returns-in-SetTransaction-clause-does : goal.returns-in-SetTransaction-clause-does
returns-in-SetTransaction-clause-does g c = λ o h us stand.
    let parses = subst (λ (s : Plain). Parses c.args.text.now s) (ap plain_of c.in-SetTransaction.is) c.in-Ok.ensures.reads.1 in
    begins_taken g.R.Records.meaning g.R.Statements.runs c.args.r.now c.begin.new.r o h c.begin.new.sessions.transactions
    c.begin.new.sessions.pending.items us c.args.size c.args.session c.args.text.now c.begin.result
    c.texts_are_one_statement.ensures _ parses refl
    (c.begin.ensures.does c.args.text.now c.args.size parses o h us stand)

pub returns-in_default-clause-does : goal.returns-in_default-clause-does
returns-in_default-clause-does g c = λ o h us stand.
    holds_taken g.R.Records.meaning g.R.Statements.runs c.args.r.now c.hold_own.new.r o h
    c.hold_own.new.sessions.transactions c.hold_own.new.sessions.pending.items us c.args.size c.args.session
    c.args.text.now c.hold_own.result c.texts_are_one_statement.ensures
    (c.hold_own.ensures.does c.args.text.now c.in-Ok.ensures.reads.1 o h us stand)
