use Rattle.std.proofs.Common.{Err, ap, ◌∙◌}
use Rattle.mg_rows.specs.declared.statement_fault.StatementFault.{StatementFault}
use Rattle.mg_exec.specs.Phases.{ended}
use Rattle.mg_exec.specs.Changing.{begins, makes_none}
use Rattle.mg_calls.specs.QuietLaws.{quiet_nothing}
use Rattle.mg_exec.proofs.ChangeLemmas.{none_made, writes_behind}
use Rattle.mg_exec.proofs.ProgressLemmas.{refused_at_end}
use Rattle.mg_exec.proofs.ReadLemmas.{ended_quiet}
use Rattle.mg_exec.proofs.changing.start_to_write.Goals as goal

pub returns-in-Ok-clause-starts : goal.returns-in-Ok-clause-starts
returns-in-Ok-clause-starts g c = λ o h stands.
    begins c.in-Ok.made.items c.in-Ok.ensures.0
    (c.begin_to_write.ensures.begins o h stands)

pub returns-in-Err-clause-starts : goal.returns-in-Err-clause-starts
returns-in-Err-clause-starts g c = λ o h stands.
    makes_none c.in-Err.fault c.in-Err.ensures
    (c.ended.ensures ∙ ap (λ (f : StatementFault). ended {P = g.row.R-Place.Denot} (Err f)) c.from.ensures) stands

pub returns-in-Err-clause-leaves : goal.returns-in-Err-clause-leaves
returns-in-Err-clause-leaves g c =
    none_made g.R.Records.meaning c.args.r.now c.args.t.0 c.in-Err.fault c.from.result
    c.ended.result c.from.ensures c.ended.ensures

pub returns-in-Ok-clause-behind : goal.returns-in-Ok-clause-behind
returns-in-Ok-clause-behind g c =
    writes_behind c.args.table c.args.bound.now c.args.found.now c.in-Ok.made.items c.begin_to_write.result
    c.in-Ok.ensures.0 c.begin_to_write.ensures.behind

pub returns-in-Err-clause-behind : goal.returns-in-Err-clause-behind
returns-in-Err-clause-behind g c = λ more.
    absurd (refused_at_end c.from.result c.ended.result c.ended.ensures more)

pub returns-in-Err-clause-quiet : goal.returns-in-Err-clause-quiet
returns-in-Err-clause-quiet g c =
    ended_quiet g.R.Records.meaning c.args.r.now c.args.r.now c.args.t.0 (Err c.from.result)
    c.ended.result c.ended.ensures (quiet_nothing g.R.Records.meaning g.met.R.Records.crashes c.args.r.now)
