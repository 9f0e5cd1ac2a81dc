use Rattle.std.proofs.Common.{inl, refl}
use Rattle.mg_image.specs.Tables.{stands_of}
use Rattle.mg_layout.specs.Standing.{layout_in, stand_in, stands_in}
use Rattle.mg_reading.specs.Readable.{HasVersionReading}
use Rattle.mg_reading.specs.declared.point.Rule.TheVariants.{Links}
use Rattle.mg_soundness.specs.Joined.{IsTableRead}
use Rattle.mg_soundness.specs.Rungs.{HasReadingOf, MeetsLinks}
use Rattle.mg_soundness.proofs.FaultLemmas.{refused_on}
use Rattle.mg_soundness.proofs.ReadLemmas.{among_first, none_left, read_all, table_reading, tested_one}
use Rattle.mg_soundness.proofs.records.read_tables.Goals as goal

pub returns-in_err-read_stand-clause-broken : goal.returns-in_err-read_stand-clause-broken
returns-in_err-read_stand-clause-broken c = refused_on Links
    (HasVersionReading c.args.coding c.args.image.now c.args.standing.now.catalog.table
    c.args.standing.now.catalog.pages.data_pages.items)
    (HasReadingOf MeetsLinks c.args.coding c.args.image.now (layout_in c.args.standing.now))
    (table_reading c.args.coding c.args.image.now (layout_in c.args.standing.now) c.requires
    (stand_in c.args.standing.now.catalog) (inl refl))
    c.from_residual.result c.in_err-read_stand.field-0.0 c.from_residual.ensures.1
    c.in_err-read_stand.ensures.broken

pub read_stand-requires-in-Some : goal.read_stand-requires-in-Some
read_stand-requires-in-Some c = tested_one c.args.image.now
    (stands_of (layout_in c.args.standing.now)) c.requires (stand_in c.in-Some.stand.now)
    (c.loop-stand.invariant.among (stand_in c.in-Some.stand.now)
    (among_first c.loop-stand.rest.now c.in-Some.stand.now c.in-Some.later.now
    c.in-Some.ensures.cases.0))

pub returns-in_err-read_stand-2-clause-broken : goal.returns-in_err-read_stand-2-clause-broken
returns-in_err-read_stand-2-clause-broken c = refused_on Links
    (HasVersionReading c.args.coding c.args.image.now c.in-Some.stand.now.table
    c.in-Some.stand.now.pages.data_pages.items)
    (HasReadingOf MeetsLinks c.args.coding c.args.image.now (layout_in c.args.standing.now))
    (table_reading c.args.coding c.args.image.now (layout_in c.args.standing.now) c.requires
    (stand_in c.in-Some.stand.now) (c.loop-stand.invariant.among (stand_in c.in-Some.stand.now)
    (among_first c.loop-stand.rest.now c.in-Some.stand.now c.in-Some.later.now
    c.in-Some.ensures.cases.0)))
    c.from_residual-in_err-read_stand-2.result c.in_err-read_stand-2.field-0.0
    c.from_residual-in_err-read_stand-2.ensures.1 c.in_err-read_stand-2.ensures.broken

pub returns-clause-read : goal.returns-clause-read
returns-clause-read c = read_all (IsTableRead c.args.coding c.args.image.now)
    (stands_of (layout_in c.args.standing.now)) (stands_in c.loop-stand.rest.now)
    c.loop-stand.records.items (none_left c.loop-stand.rest.now c.in_default.ensures.cases)
    c.loop-stand.invariant.whole
