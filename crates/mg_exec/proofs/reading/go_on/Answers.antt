use Rattle.std.proofs.Common.{List, Result, ap, sym, subst, ◌∙◌}
use Rattle.mg_statements.specs.Plain.{plain_of}
use Rattle.mg_model.specs.Changes.{Cells}
use Rattle.mg_rows.specs.declared.statement_fault.StatementFault.{StatementFault}
use Rattle.mg_exec.specs.declared.phase.Step.{Step}
use Rattle.mg_exec.specs.Changing.{StartsToWrite}
use Rattle.mg_exec.specs.Phases.{AllMayStand, ended}
use Rattle.mg_rows.specs.Answering.{Answers}
use Rattle.mg_exec.specs.Reading.{answers, writes}
use Rattle.mg_calls.specs.QuietLaws.{quiet_nothing}
use Rattle.mg_exec.proofs.ProgressLemmas.{told_at_end}
use Rattle.mg_exec.proofs.ReadLemmas.{answer_leaves, ended_quiet}
use Rattle.mg_exec.proofs.reading.go_on.Goals as goal

pub returns-then-is_select-clause-goes : goal.returns-then-is_select-clause-goes
returns-then-is_select-clause-goes g c = λ o h stands.
    answers c.answer.result (subst (λ (rows : List Cells). Answers (plain_of c.args.bound.now.statement)
    c.args.bound.now.places.items c.args.table.shape.key rows c.answer.result) c.as_slice.ensures c.answer.ensures)
    (c.ended.ensures ∙ ap (λ (a : Result Step StatementFault). ended {P = g.row.R-Place.Denot} a) c.as_answer.ensures)
    stands

pub returns-then-is_select-clause-leaves : goal.returns-then-is_select-clause-leaves
returns-then-is_select-clause-leaves g c =
    answer_leaves g.R.Records.meaning c.args.r.now c.args.t.0 c.answer.result c.as_answer.result
    c.ended.result c.as_answer.ensures c.ended.ensures

pub start_to_write-requires-clause-rows : goal.start_to_write-requires-clause-rows
start_to_write-requires-clause-rows g c =
    subst (AllMayStand c.args.table.shape) (sym c.as_slice-2.ensures) c.requires.rows

pub returns-clause-goes : goal.returns-clause-goes
returns-clause-goes g c = λ o h stands.
    writes (sym c.is_select.ensures ∙ c.if-is_select.false)
    (subst (λ (rows : List Cells). StartsToWrite g.R.Records.meaning c.start_to_write.new.r o h c.args.t
    c.args.table c.args.bound.now rows c.start_to_write.result) c.as_slice-2.ensures
    (c.start_to_write.ensures.starts o h stands))

pub returns-then-is_select-clause-behind : goal.returns-then-is_select-clause-behind
returns-then-is_select-clause-behind g c = λ more.
    absurd (told_at_end c.answer.result c.as_answer.result c.ended.result c.as_answer.ensures c.ended.ensures more)

pub returns-then-is_select-clause-quiet : goal.returns-then-is_select-clause-quiet
returns-then-is_select-clause-quiet g c =
    ended_quiet g.R.Records.meaning c.args.r.now c.args.r.now c.args.t.0 c.as_answer.result
    c.ended.result c.ended.ensures (quiet_nothing g.R.Records.meaning g.met.R.Records.crashes c.args.r.now)
