use Rattle.std.proofs.Common.{sym, ◌∙◌}
use Rattle.mg_script_ends.proofs.EndLemmas.{none_ends}
use Rattle.mg_script_ends.proofs.ending.end_session.Goals as goal

pub returns-in-None-clause-ends : goal.returns-in-None-clause-ends
returns-in-None-clause-ends g c = none_ends g.R.Records.meaning g.R.Statements.runs g.met.R.Records.crashes
    c.args.r.now c.args.session.0 c.args.transactions.now (sym c.of.ensures ∙ c.in-None.is)
