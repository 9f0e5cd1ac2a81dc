use Rattle.std.proofs.Common.{◌∙◌, ap, arith, sym}
use Rattle.mg_undo.specs.declared.changes.Change.{Change}
use Rattle.mg_undo.proofs.TouchLemmas.{found_here, none_yet}
use Rattle.mg_undo.proofs.changes.has_among.Goals as goal

pub returns-then-index-table : goal.returns-then-index-table
returns-then-index-table c =
    sym (found_here c.args.table c.args.list.now.items c.loop-i.i c.args.count c.index.result.now c.loop-i-test.true
    (omega (arith, c.loop-i-test.true, c.requires))
    (sym (ap (λ (d : Change). d.table) c.index.ensures) ∙ c.if-index-table.true))

pub loop-i-preserved : goal.loop-i-preserved
loop-i-preserved c =
    none_yet c.args.table c.args.list.now.items c.loop-i.i c.index.result.now
    (omega (arith, c.loop-i-test.true, c.requires))
    (λ same. c.if-index-table.false (ap (λ (d : Change). d.table) c.index.ensures ∙ same)) c.loop-i.invariant
