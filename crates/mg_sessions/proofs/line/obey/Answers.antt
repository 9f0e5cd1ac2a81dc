use Rattle.std.proofs.Common.{w64}
use Rattle.std.proofs.lemmas.Int.{to_z-of_z}
use Rattle.mg_rows.specs.declared.outcome.Outcome.TheVariants as outcomes
use Rattle.mg_script.specs.declared.line.LineKind.TheVariants as kinds
use Rattle.mg_script.specs.declared.reply.Reply.TheVariants as replies
use Rattle.mg_transcript.specs.Lines.{Does, silent, bad}
use Rattle.mg_sessions.specs.StatementLaws.{stays_so}
use Rattle.mg_sessions.proofs.line.obey.Goals as goal

pub returns-in-Silent-clause-does : goal.returns-in-Silent-clause-does
returns-in-Silent-clause-does g c = λ o h us stand.
    rw c.in-Silent.is (stays_so g.R.Records.meaning g.R.Statements.runs g.met.R.Records.crashes c.args.r.now o h
    c.args.sessions.now.transactions c.args.sessions.now.pending.items us
    (Does o h c.args.size us kinds.Silent (replies.Ok outcomes.Fine)) stand silent)

pub returns-in-Bad-clause-does : goal.returns-in-Bad-clause-does
returns-in-Bad-clause-does g c = λ o h us stand.
    rw c.in-Bad.is (stays_so g.R.Records.meaning g.R.Statements.runs g.met.R.Records.crashes c.args.r.now o h
    c.args.sessions.now.transactions c.args.sessions.now.pending.items us
    (Does o h c.args.size us kinds.Bad replies.Bad) stand bad)

pub returns-in-Put-clause-does : goal.returns-in-Put-clause-does
returns-in-Put-clause-does g c = λ o h us stand.
    let did = rw (
      to_z-of_z w64 c.number_of-put.result c.number_of-put.ensures.fits,
      to_z-of_z w64 c.number_of-with.result c.number_of-with.ensures.fits,
      c.number_of-put.ensures.same,
      c.number_of-with.ensures.same,
    ) at c.obey_put.ensures.does in
    rw c.in-Put.is (did o h us c.args.size stand)

pub returns-in-Get-clause-does : goal.returns-in-Get-clause-does
returns-in-Get-clause-does g c = λ o h us stand.
    let did = rw (
      to_z-of_z w64 c.number_of-wanted.result c.number_of-wanted.ensures.fits,
      c.number_of-wanted.ensures.same,
    ) at c.obey_get.ensures.does in
    rw c.in-Get.is (did o h us stand)
