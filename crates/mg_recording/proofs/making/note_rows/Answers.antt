use Rattle.mg_recording.proofs.MakingLemmas.{notes_last, notes_next}
use Rattle.mg_recording.proofs.making.note_rows.Goals as goal

pub returns : goal.returns
returns c =
    c.loop-row.invariant c.loop-row.trace
    (notes_last c.loop-row.trace c.args.t c.args.catalog.now c.args.rows.now c.loop-row.row-index
    c.loop-row-test.false)

pub loop-row-init : goal.loop-row-init
loop-row-init c = λ new rest. rest

pub loop-row-preserved : goal.loop-row-preserved
loop-row-preserved c = λ new rest.
    c.loop-row.invariant new
    (notes_next c.loop-row.trace c.note_insert.new.self new c.args.t c.args.catalog.now c.args.rows.now
    c.loop-row.row-index c.row-item.result c.loop-row-test.true c.row-item.is c.note_insert.ensures rest)
