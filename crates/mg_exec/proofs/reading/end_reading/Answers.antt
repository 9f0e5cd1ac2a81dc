use Rattle.mg_rows.specs.declared.statement_fault.StatementFault.TheVariants.{Engine}
use Rattle.mg_model.specs.declared.refusal.Refusal.TheVariants as refusals
use Rattle.mg_calls.specs.QuietLaws.{calm_nothing, quiet_at, quiet_at_then, quiet_nothing}
use Rattle.mg_exec.specs.Phases.{rolled_back_at}
use Rattle.mg_exec.specs.Reading.{in_order}
use Rattle.mg_exec.proofs.FrameLemmas.{frames_none}
use Rattle.mg_exec.proofs.ProgressLemmas.{refused_at_end}
use Rattle.mg_exec.proofs.ReadLemmas.{behind_rows, not_told, told_on, refused_leaves, then_leaves, told_fit}
use Rattle.mg_exec.proofs.reading.end_reading.Goals as goal

pub go_on-requires-clause-rows : goal.go_on-requires-clause-rows
go_on-requires-clause-rows g c =
    told_fit c.args.table.shape c.args.kept.items c.in-Ok.rows c.in-Ok.ensures c.requires.rows

pub returns-in-Ok-tell-clause-ends : goal.returns-in-Ok-tell-clause-ends
returns-in-Ok-tell-clause-ends g c = λ o h stands.
    in_order c.in-Ok.rows c.in-Ok.ensures
    (told_on g.R.Records.meaning c.args.r.now c.tell.new.r c.go_on.new.r o h c.args.t c.args.table
    c.args.bound.now c.in-Ok.rows c.go_on.result c.in-Ok-tell.ensures.adds c.go_on.ensures.goes stands)

pub returns-in-Ok-tell-clause-behind : goal.returns-in-Ok-tell-clause-behind
returns-in-Ok-tell-clause-behind g c =
    behind_rows c.args.kept.items c.in-Ok.rows c.go_on.result c.in-Ok.ensures c.go_on.ensures.behind

pub returns-in-Ok-tell-clause-leaves : goal.returns-in-Ok-tell-clause-leaves
returns-in-Ok-tell-clause-leaves g c =
    then_leaves g.R.Records.meaning c.args.r.now c.tell.new.r c.go_on.new.r c.args.t.0 c.go_on.result
    c.in-Ok-tell.ensures.frames c.in-Ok-tell.ensures.calm c.go_on.ensures.leaves

pub returns-in-Ok-tell-clause-quiet : goal.returns-in-Ok-tell-clause-quiet
returns-in-Ok-tell-clause-quiet g c = λ o h stands found.
    quiet_at_then g.R.Records.meaning g.met.R.Records.lasts c.args.r.now c.tell.new.r c.go_on.new.r
    (rolled_back_at c.args.t.0 c.go_on.result.phase) o h c.in-Ok-tell.ensures.calm
    (c.in-Ok-tell.ensures.quiet o h stands (found c.in-Ok.rows c.in-Ok.ensures)) c.go_on.ensures.quiet

pub returns-in-Err-tell-clause-ends : goal.returns-in-Err-tell-clause-ends
returns-in-Err-tell-clause-ends g c = λ o h stands.
    in_order c.in-Ok.rows c.in-Ok.ensures (λ is.
    not_told g.R.Records.meaning c.args.r.now c.tell.new.r o h c.args.t c.args.table
    c.args.bound.now c.in-Ok.rows c.in-Err-tell.refusal c.refused-in-Err-tell.result c.in-Err-tell.ensures.adds
    stands c.refused-in-Err-tell.ensures)

pub returns-in-Err-tell-clause-behind : goal.returns-in-Err-tell-clause-behind
returns-in-Err-tell-clause-behind g c = λ more.
    absurd (refused_at_end (Engine c.in-Err-tell.refusal) c.refused-in-Err-tell.result
    c.refused-in-Err-tell.ensures more)

pub returns-in-Err-tell-clause-leaves : goal.returns-in-Err-tell-clause-leaves
returns-in-Err-tell-clause-leaves g c =
    refused_leaves g.R.Records.meaning c.args.r.now c.tell.new.r c.args.t.0 c.in-Err-tell.refusal
    c.refused-in-Err-tell.result c.in-Err-tell.ensures.frames c.in-Err-tell.ensures.calm
    c.refused-in-Err-tell.ensures

pub returns-in-Err-tell-clause-quiet : goal.returns-in-Err-tell-clause-quiet
returns-in-Err-tell-clause-quiet g c = λ o h stands found.
    c.in-Err-tell.ensures.quiet o h stands (found c.in-Ok.rows c.in-Ok.ensures)

pub returns-in-Err-clause-behind : goal.returns-in-Err-clause-behind
returns-in-Err-clause-behind g c = λ more.
    absurd (refused_at_end (Engine refusals.Memory) c.refused.result c.refused.ensures more)

pub returns-in-Err-clause-leaves : goal.returns-in-Err-clause-leaves
returns-in-Err-clause-leaves g c =
    refused_leaves g.R.Records.meaning c.args.r.now c.args.r.now c.args.t.0 refusals.Memory c.refused.result
    (frames_none g.R.Records.meaning c.args.r.now c.args.t.0 _ tt)
    (calm_nothing g.R.Records.meaning c.args.r.now) c.refused.ensures

pub returns-in-Err-clause-quiet : goal.returns-in-Err-clause-quiet
returns-in-Err-clause-quiet g c = λ o h stands found.
    quiet_at g.R.Records.meaning c.args.r.now c.args.r.now _
    (quiet_nothing g.R.Records.meaning g.met.R.Records.crashes c.args.r.now) o h stands
