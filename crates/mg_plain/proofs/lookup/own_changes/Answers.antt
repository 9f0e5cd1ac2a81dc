use Rattle.std.proofs.Common.{refl, ◌∷◌, []}
use Rattle.mg_model.specs.Machine.{changes_by}
use Rattle.mg_plain.proofs.LoopLemmas.{pieces_end, pieces_more}
use Rattle.mg_plain.proofs.RowLemmas.{changes_by-append}
use Rattle.mg_plain.proofs.lookup.own_changes.Goals as goal

pub loop-step-preserved : goal.loop-step-preserved
loop-step-preserved c = pieces_more (changes_by c.args.by) (λ x xs. changes_by-append c.args.by (x ∷ []) xs)
    c.args.steps.now c.loop-step.step-index c.step-item.result c.loop-step.changes.items
    c.push_change.new.changes.items _ c.loop-step-test.true c.step-item.is c.loop-step.invariant
    c.in_ok-push_change.ensures

pub returns : goal.returns
returns c = pieces_end (changes_by c.args.by) refl c.args.steps.now c.loop-step.step-index
    c.loop-step.changes.items _ c.loop-step-test.false c.loop-step.invariant
