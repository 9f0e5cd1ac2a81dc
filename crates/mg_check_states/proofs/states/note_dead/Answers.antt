use Rattle.std.proofs.Common.{ap, refl, sym, ◌∙◌}
use Rattle.std.specs.Prelude.{◌++◌, Bool, not}
use Rattle.mg_base.specs.Image.{page_at}
use Rattle.mg_base.specs.declared.transaction.TxState.{TxState}
use Rattle.mg_check_states.proofs.StepLemmas.{none_left, passes_all, passes_more}
use Rattle.mg_check_states.specs.States.{dead_finding, dead_of, is_dead, unless}
use Rattle.mg_findings.specs.declared.finding.Finding.{Finding}
use Rattle.mg_image.specs.Inventory.{state_at}
use Rattle.mg_image.specs.Records.{writer}
use Rattle.mg_check_states.proofs.states.note_dead.Goals as goal

pub loop-entry-preserved : goal.loop-entry-preserved
loop-entry-preserved c = passes_more (dead_of (state_at c.args.size (page_at c.args.size c.args.pages.now)))
    c.args.entries.now c.loop-entry.rest.now c.in-Some.older.now c.in-Some.entry.now
    c.args.findings.now.items c.loop-entry.findings.items c.add_unless.new.findings.items
    (unless (not (is_dead c.state_of-state.result)) (dead_finding c.in-Some.entry.now.at))
    c.loop-entry.invariant c.in-Some.ensures.cases.0
    (ap (λ (s : TxState). unless (not (is_dead s)) (dead_finding c.in-Some.entry.now.at)
    ++ dead_of (state_at c.args.size (page_at c.args.size c.args.pages.now)) c.in-Some.older.now) (sym c.state_of-state.ensures))
    (c.in_ok-add_unless.ensures ∙ (ap (λ (f : Finding). c.loop-entry.findings.items
    ++ unless (not c.is_dead.result) f) c.dead_finding.ensures
    ∙ ap (λ (d : Bool). c.loop-entry.findings.items
    ++ unless (not d) (dead_finding c.in-Some.entry.now.at)) c.is_dead.ensures))

pub returns : goal.returns
returns c = passes_all (dead_of (state_at c.args.size (page_at c.args.size c.args.pages.now))) c.args.entries.now
    c.loop-entry.rest.now c.args.findings.now.items c.loop-entry.findings.items c.loop-entry.invariant
    (none_left c.loop-entry.rest.now c.in_default.ensures.cases) refl
