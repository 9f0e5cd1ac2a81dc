use Rattle.std.proofs.Common.{refl}
use Rattle.mg_reading.proofs.ReadingLemmas.{apart_all, read_of, read_only, versions_read}
use Rattle.mg_reading.proofs.parts.read_versions.Goals as goal

pub returns-clause-versions : goal.returns-clause-versions
returns-clause-versions c = versions_read c.args.coding c.args.image.now c.args.table.now
    c.args.data_pages.now c.in_ok-found.found.items c.in_ok-found.ensures.found
    c.in_ok-found.ensures.all (rw c.deref.ensures.value at (c.if-not-are_apart.ensures.0 refl))

pub returns-clause-found : goal.returns-clause-found
returns-clause-found c = read_of c.args.coding c.args.image.now c.args.table.now
    c.args.data_pages.now c.in_ok-found.found.items c.in_ok-found.ensures.found
    c.in_ok-found.ensures.all (rw c.deref.ensures.value at (c.if-not-are_apart.ensures.0 refl))

pub returns-clause-only : goal.returns-clause-only
returns-clause-only c = read_only c.args.coding c.args.image.now c.args.table.now
    c.args.data_pages.now c.in_ok-found.found.items c.in_ok-found.ensures.found
    c.in_ok-found.ensures.all (rw c.deref.ensures.value at (c.if-not-are_apart.ensures.0 refl))

pub returns-then-not-are_apart-clause-broken : goal.returns-then-not-are_apart-clause-broken
returns-then-not-are_apart-clause-broken c = λ reads. absurd (let passed =
    c.if-not-are_apart.ensures.1 (rw c.deref.ensures.value (apart_all c.args.coding
    c.args.image.now c.args.table.now c.args.data_pages.now c.in_ok-found.found.items
    c.in_ok-found.ensures.found reads)) in cc)
