use Rattle.mg_soundness.proofs.OwnLemmas.{owned_first, owned_not}
use Rattle.mg_soundness.proofs.owners.have_own_tables.Goals as goal

pub returns-then-is_owned : goal.returns-then-is_owned
returns-then-is_owned c = owned_first c.args.image.now c.args.standing.now c.args.records.now
    c.in-Some.catalog.now c.in-Some.tables.now c.in-Some.ensures.cases.0
    (rw (c.deref.ensures.value, c.as_slice.ensures.bytes, c.deref-2.ensures.value)
    at (c.is_owned.ensures.0 c.if-is_owned.true)) c.are_owned.result
    (rw (c.deref-then-is_owned.ensures.value, c.deref-then-is_owned-2.ensures.value)
    at c.are_owned.ensures)

pub returns-else-is_owned : goal.returns-else-is_owned
returns-else-is_owned c = owned_not c.args.image.now c.args.standing.now c.args.records.now
    c.in-Some.catalog.now c.in-Some.tables.now c.in-Some.ensures.cases.0 c.is_owned.result
    c.if-is_owned.false (λ owned. c.is_owned.ensures.1
    (rw (c.deref.ensures.value, c.as_slice.ensures.bytes, c.deref-2.ensures.value) owned))
