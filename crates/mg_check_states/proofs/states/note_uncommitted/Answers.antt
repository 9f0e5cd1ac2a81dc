use Rattle.std.proofs.Common.{ap, refl, sym, ◌∙◌}
use Rattle.std.specs.Prelude.{◌++◌, Bool, not}
use Rattle.mg_base.specs.Image.{page_at}
use Rattle.mg_base.specs.declared.transaction.TxState.{TxState}
use Rattle.mg_check_states.proofs.StepLemmas.{none_left, passes_all, passes_more}
use Rattle.mg_check_states.specs.States.{is_committed, later_backs, state_finding, unless}
use Rattle.mg_findings.specs.declared.finding.Finding.{Finding}
use Rattle.mg_image.specs.Inventory.{state_at}
use Rattle.mg_image.specs.Records.{writer}
use Rattle.mg_check_states.proofs.states.note_uncommitted.Goals as goal

pub loop-entry-preserved : goal.loop-entry-preserved
loop-entry-preserved c = passes_more (later_backs (state_at c.args.size (page_at c.args.size c.args.pages.now)))
    c.args.entries.now c.loop-entry.rest.now c.in-Some.older.now c.in-Some.entry.now
    c.args.findings.now.items c.loop-entry.findings.items c.add_unless.new.findings.items
    (unless (is_committed c.state_of-state.result)
    (state_finding c.in-Some.entry.now.at c.state_of-state.result))
    c.loop-entry.invariant c.in-Some.ensures.cases.0
    (ap (λ (s : TxState). unless (is_committed s) (state_finding c.in-Some.entry.now.at s)
    ++ later_backs (state_at c.args.size (page_at c.args.size c.args.pages.now)) c.in-Some.older.now) (sym c.state_of-state.ensures))
    (c.in_ok-add_unless.ensures ∙ (ap (λ (f : Finding). c.loop-entry.findings.items
    ++ unless c.is_committed.result f) c.state_finding.ensures
    ∙ ap (λ (w : Bool). c.loop-entry.findings.items
    ++ unless w (state_finding c.in-Some.entry.now.at c.state_of-state.result)) c.is_committed.ensures))

pub returns : goal.returns
returns c = passes_all (later_backs (state_at c.args.size (page_at c.args.size c.args.pages.now))) c.args.entries.now
    c.loop-entry.rest.now c.args.findings.now.items c.loop-entry.findings.items c.loop-entry.invariant
    (none_left c.loop-entry.rest.now c.in_default.ensures.cases) refl
