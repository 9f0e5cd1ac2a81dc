-- A row is one of the catalog, or it is left out.
use Rattle.mg_plain.proofs.ExitLemmas.{no_deed}
use Rattle.mg_plain.proofs.LoopLemmas.{catalog_more, catalog_same}
use Rattle.mg_plain.proofs.beginning.push_catalog.Goals as goal

pub returns-else-same_name : goal.returns-else-same_name
returns-else-same_name c = catalog_same c.args.placed.now c.args.changes.now.items c.as_slice.result.now
    c.as_slice.ensures.bytes c.if-same_name.ensures

pub returns-in_ok-push : goal.returns-in_ok-push
returns-in_ok-push c = catalog_more c.args.placed.now c.args.changes.now.items c.push.new.self.items
    c.as_slice.result.now _ _ c.as_slice.ensures.bytes c.if-same_name.ensures c.in_ok-value_at.ensures
    c.in_ok-copy.ensures c.in_ok-push.ensures.items

pub returns-in_err-value_at : goal.returns-in_err-value_at
returns-in_err-value_at c = no_deed _ c.from_residual.result c.from_residual.ensures.0

pub returns-in_err-copy : goal.returns-in_err-copy
returns-in_err-copy c = no_deed _ c.from_residual-in_err-copy.result c.from_residual-in_err-copy.ensures.0

pub returns-in_err-push : goal.returns-in_err-push
returns-in_err-push c = no_deed _ c.from_residual-in_err-push.result c.from_residual-in_err-push.ensures.0
