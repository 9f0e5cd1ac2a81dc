use Rattle.std.proofs.Common.{◌∷◌, [], ◌++◌, ap, refl, length, length-append, arith}
use Rattle.mg_image.specs.Records.{cells_of}
use Rattle.mg_reading.specs.ImageView.{pages_in}
use Rattle.mg_reading.specs.Readable.{HasEntry, HasRecord}
use Rattle.mg_reading.specs.RunLaws.{version_run_ends}
use Rattle.mg_reading.proofs.CountLemmas.{once_short}
use Rattle.mg_reading.proofs.RecordLemmas.{none_of}
use Rattle.mg_reading.proofs.RefusalLemmas.{passed_on}
use Rattle.mg_reading.proofs.VersionsLemmas.{reading_entry, reading_more, reading_none, reading_only, reading_twice}
use Rattle.mg_reading.proofs.record.read_record.Goals as goal

pub loop-next-init : goal.loop-next-init
loop-next-init c = rw c.new-entries.ensures.items (reading_none c.args.coding c.args.image.now c.args.table.now
    c.args.data_pages.now c.args.newest)

pub loop-next-preserved : goal.loop-next-preserved
loop-next-preserved c = rw c.in_ok-push.ensures.items (reading_more c.args.coding
    c.one_reading.ensures.plain_rows c.one_reading.ensures.packed_rows c.args.image.now
    c.args.table.now c.args.data_pages.now c.args.newest c.loop-next.entries.items c.in-Some.link
    c.in_ok-entry.entry (rw c.in-Some.is at c.loop-next.invariant)
    (λ stands. absurd (let passed = c.if-stands.ensures.1
    (rw c.deref.ensures.value stands) in cc))
    c.in_ok-entry.ensures.linked c.in_ok-entry.ensures.stored c.in_ok-entry.ensures.placed)

pub returns-then-stands-clause-broken : goal.returns-then-stands-clause-broken
returns-then-stands-clause-broken c = reading_twice c.args.coding c.args.image.now
    c.args.table.now c.args.data_pages.now c.args.newest c.loop-next.entries.items c.in-Some.link
    (rw c.in-Some.is at c.loop-next.invariant)
    (rw c.deref.ensures.value at (c.if-stands.ensures.0 refl))

pub returns-in_err-entry-clause-broken : goal.returns-in_err-entry-clause-broken
returns-in_err-entry-clause-broken c = passed_on
    (HasEntry c.args.coding c.args.image.now c.args.table.now c.args.data_pages.now
    c.in-Some.link)
    (HasRecord c.args.coding c.args.image.now c.args.table.now c.args.data_pages.now
    c.args.newest)
    (reading_entry c.args.coding c.args.image.now c.args.table.now c.args.data_pages.now
    c.args.newest c.loop-next.entries.items c.in-Some.link
    (rw c.in-Some.is at c.loop-next.invariant))
    c.from_residual.result c.in_err-entry.field-0.0 c.from_residual.ensures.1
    c.in_err-entry.ensures.broken

pub returns-clause-record : goal.returns-clause-record
returns-clause-record c = record {
  chain = version_run_ends (cells_of (pages_in c.args.image.now)) c.args.newest
      c.loop-next.entries.items c.loop-next.next c.loop-next.invariant.run
      (none_of c.loop-next.next c.in_default.not-Some);
  versions = record {
    once = c.loop-next.invariant.once;
    each = c.loop-next.invariant.stored;
  };
}

pub returns-clause-only : goal.returns-clause-only
returns-clause-only c = reading_only c.args.coding c.args.image.now c.args.table.now
    c.args.data_pages.now c.args.newest c.loop-next.entries.items c.loop-next.next
    c.loop-next.invariant (none_of c.loop-next.next c.in_default.not-Some)

pub loop-next-smaller : goal.loop-next-smaller
loop-next-smaller c =
    let more = reading_more c.args.coding c.one_reading.ensures.plain_rows
    c.one_reading.ensures.packed_rows c.args.image.now c.args.table.now c.args.data_pages.now
    c.args.newest c.loop-next.entries.items c.in-Some.link c.in_ok-entry.entry
    (rw c.in-Some.is at c.loop-next.invariant)
    (λ stands. absurd (let passed = c.if-stands.ensures.1
    (rw c.deref.ensures.value stands) in cc))
    c.in_ok-entry.ensures.linked c.in_ok-entry.ensures.stored c.in_ok-entry.ensures.placed in
    omega (
      arith,
      once_short (c.loop-next.entries.items ++ c.in_ok-entry.entry ∷ []) more.once
          more.placed,
      ap length c.in_ok-push.ensures.items,
      length-append c.loop-next.entries.items (c.in_ok-entry.entry ∷ []),
    )
