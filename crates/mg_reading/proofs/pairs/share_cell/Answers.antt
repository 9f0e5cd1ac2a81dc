use Rattle.std.proofs.Common.{◌∷◌, refl}
use Rattle.mg_reading.specs.Found.{SharesCell}
use Rattle.mg_reading.proofs.PairLemmas.{cell_here, cells_left, emptied, no_cell, opened}
use Rattle.mg_reading.proofs.pairs.share_cell.Goals as goal

pub loop-entry-init : goal.loop-entry-init
loop-entry-init c = (λ shares. shares, λ shares. shares)

pub loop-entry-preserved : goal.loop-entry-preserved
loop-entry-preserved c = cells_left c.args.a.now c.args.b.now c.in-Some.older.now
    c.in-Some.entry.now (opened (λ rest. SharesCell rest c.args.b.now) (SharesCell c.args.a.now c.args.b.now)
    c.loop-entry.rest.now (c.in-Some.entry.now ∷ c.in-Some.older.now) c.in-Some.ensures.cases.0
    c.loop-entry.invariant)
    c.if-stands.ensures.1

pub returns-then-stands : goal.returns-then-stands
returns-then-stands c = cell_here c.args.a.now c.args.b.now c.in-Some.older.now
    c.in-Some.entry.now (opened (λ rest. SharesCell rest c.args.b.now) (SharesCell c.args.a.now c.args.b.now)
    c.loop-entry.rest.now (c.in-Some.entry.now ∷ c.in-Some.older.now) c.in-Some.ensures.cases.0
    c.loop-entry.invariant)
    (c.if-stands.ensures.0 refl)

pub returns : goal.returns
returns c = no_cell c.args.a.now c.args.b.now
    (emptied (λ rest. SharesCell rest c.args.b.now) (SharesCell c.args.a.now c.args.b.now)
    c.loop-entry.rest.now c.in_default.ensures.cases c.loop-entry.invariant)
