use Rattle.std.proofs.Common.{refl}
use Rattle.mg_reading.specs.Readable.{HasReading, HasVersionReading}
use Rattle.mg_reading.proofs.RefusalLemmas.{passed_on}
use Rattle.mg_reading.proofs.WholeLemmas.{backs_must, drawn_must, has_versions, keys_must, records_whole}
use Rattle.mg_reading.proofs.table_reading.table_records.Goals as goal

pub returns-clause-records : goal.returns-clause-records
returns-clause-records c = records_whole c.args.coding c.args.image.now c.args.table.now
    c.args.data_pages.now c.in_ok-found.found.items c.in_ok-found.ensures.versions
    (rw c.deref.ensures.value at (c.if-not-are_drawn.ensures.0 refl))
    (rw c.deref-2.ensures.value at (c.if-not-are_backs_committed.ensures.0 refl))
    (rw c.deref-3.ensures.value at (c.if-not-have_own_keys.ensures.0 refl))

pub returns-in_err-found-clause-broken : goal.returns-in_err-found-clause-broken
returns-in_err-found-clause-broken c = passed_on
    (HasVersionReading c.args.coding c.args.image.now c.args.table.now c.args.data_pages.now)
    (HasReading c.args.coding c.args.image.now c.args.table.now c.args.data_pages.now)
    (has_versions c.args.coding c.args.image.now c.args.table.now c.args.data_pages.now)
    c.from_residual.result c.in_err-found.field-0.0 c.from_residual.ensures.1
    c.in_err-found.ensures.broken

pub returns-then-not-are_drawn-clause-broken : goal.returns-then-not-are_drawn-clause-broken
returns-then-not-are_drawn-clause-broken c = λ reads. absurd (let passed =
    c.if-not-are_drawn.ensures.1 (rw c.deref.ensures.value (drawn_must c.args.coding
    c.args.image.now c.args.table.now c.args.data_pages.now c.in_ok-found.found.items
    c.in_ok-found.ensures.only reads)) in cc)

pub returns-then-not-are_backs_committed-clause-broken : goal.returns-then-not-are_backs_committed-clause-broken
returns-then-not-are_backs_committed-clause-broken c = λ reads. absurd (let passed =
    c.if-not-are_backs_committed.ensures.1 (rw c.deref-2.ensures.value (backs_must c.args.coding
    c.args.image.now c.args.table.now c.args.data_pages.now c.in_ok-found.found.items
    c.in_ok-found.ensures.only reads)) in cc)

pub returns-then-not-have_own_keys-clause-broken : goal.returns-then-not-have_own_keys-clause-broken
returns-then-not-have_own_keys-clause-broken c = λ reads. absurd (let passed =
    c.if-not-have_own_keys.ensures.1 (rw c.deref-3.ensures.value (keys_must c.args.coding
    c.args.image.now c.args.table.now c.args.data_pages.now c.in_ok-found.found.items
    c.in_ok-found.ensures.only reads)) in cc)
