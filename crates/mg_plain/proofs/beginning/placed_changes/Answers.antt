-- One row more, and those that are left.
use Rattle.std.proofs.Common.{refl}
use Rattle.mg_model.specs.Machine.{placed}
use Rattle.mg_plain.specs.Beginning.{catalog_of_one}
use Rattle.mg_plain.proofs.ExitLemmas.{no_answer}
use Rattle.mg_plain.proofs.LoopLemmas.{pieces_end, pieces_more, placed_more}
use Rattle.mg_plain.proofs.beginning.placed_changes.Goals as goal

pub loop-placed-preserved : goal.loop-placed-preserved
loop-placed-preserved c = pieces_more (placed (catalog_of_one c.args.seen.now)) (λ x xs. refl) c.args.rows.now
    c.loop-placed.placed-index c.placed-item.result c.loop-placed.changes.items c.push.new.self.items _
    c.loop-placed-test.true c.placed-item.is c.loop-placed.invariant
    (placed_more (catalog_of_one c.args.seen.now) c.placed-item.result c.loop-placed.changes.items
    c.push.new.self.items _ _ c.in_ok-key_of.ensures c.in_ok-copy.ensures c.in_ok-push.ensures.items)

pub returns : goal.returns
returns c = pieces_end (placed (catalog_of_one c.args.seen.now)) refl c.args.rows.now c.loop-placed.placed-index
    c.loop-placed.changes.items _ c.loop-placed-test.false c.loop-placed.invariant

pub returns-in_err-key_of : goal.returns-in_err-key_of
returns-in_err-key_of c = no_answer _ c.from_residual.result c.from_residual.ensures.0

pub returns-in_err-copy : goal.returns-in_err-copy
returns-in_err-copy c = no_answer _ c.from_residual-in_err-copy.result c.from_residual-in_err-copy.ensures.0

pub returns-in_err-push : goal.returns-in_err-push
returns-in_err-push c = no_answer _ c.from_residual-in_err-push.result c.from_residual-in_err-push.ensures.0
