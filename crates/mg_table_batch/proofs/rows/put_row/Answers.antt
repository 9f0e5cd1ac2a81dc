use Rattle.mg_space.specs.WholeLaws.{whole_kept, whole_as}
use Rattle.std.proofs.Common.{subst}
use Rattle.mg_base.specs.declared.geometry.Geometry.{Geometry}
use Rattle.mg_space.specs.ViewLaws.{keeps_on, tells_on}
use Rattle.mg_table_batch.specs.Filling.{StoresRow}
use Rattle.mg_table_batch.specs.Refusals.{RefusesRow, RefusesStoring, row_unmade, row_unplaced, row_unstored}
use Rattle.mg_table_batch.proofs.FillLemmas.{row_made}
use Rattle.mg_table_batch.proofs.SeenLemmas.{handed_on}
use Rattle.mg_table_batch.proofs.rows.put_row.Goals as goal

pub returns-in_err-version-clause-puts : goal.returns-in_err-version-clause-puts
returns-in_err-version-clause-puts g c = λ image tells. handed_on c.from_residual.result c.in_err-version.field-0.0 _
    (RefusesRow g.D.Disk.meaning c.args.store.now c.args.store.now image c.args.catalog.now c.args.t.0 c.args.batch.now c.args.row.now)
    c.from_residual.ensures.0 c.from_residual.ensures.1
    (row_unstored (subst (λ (g : Geometry). RefusesStoring g.size c.args.catalog.now c.args.t.0 c.args.row.now
    c.in_err-version.field-0.0) c.geometry-size.ensures c.in_err-version.ensures))

pub returns-in_err-at-clause-puts : goal.returns-in_err-at-clause-puts
returns-in_err-at-clause-puts g c = λ image tells. handed_on c.from_residual-in_err-at.result c.in_err-at.field-0.0 _
    (RefusesRow g.D.Disk.meaning c.args.store.now c.spot.new.store image c.args.catalog.now c.args.t.0 c.args.batch.now c.args.row.now)
    c.from_residual-in_err-at.ensures.0 c.from_residual-in_err-at.ensures.1
    (row_unplaced (c.in_err-at.ensures.gives image tells))

pub returns-in_err-first-clause-puts : goal.returns-in_err-first-clause-puts
returns-in_err-first-clause-puts g c = λ image tells. handed_on c.from_residual-in_err-first.result c.in_err-first.field-0.0 _
    (RefusesRow g.D.Disk.meaning c.args.store.now c.first.new.store image c.args.catalog.now c.args.t.0 c.args.batch.now c.args.row.now)
    c.from_residual-in_err-first.ensures.0 c.from_residual-in_err-first.ensures.1
    (row_unmade c.in_ok-at.at c.in_ok-version.version c.spot.new.batch c.spot.new.store
    (c.in_ok-at.ensures.gives image tells)
    (subst (λ (g : Geometry). StoresRow g.size c.args.catalog.now c.args.t.0 c.args.row.now c.in_ok-version.version)
    c.geometry-size.ensures c.in_ok-version.ensures) c.in_ok-at.ensures.keeps
    (c.in_err-first.ensures.makes image (tells_on g.D.Disk.meaning c.args.store.now c.spot.new.store image
    c.in_ok-at.ensures.keeps tells)))

pub returns-clause-keeps : goal.returns-clause-keeps
returns-clause-keeps g c = keeps_on g.D.Disk.meaning g.met.D.Disk.counts_now c.args.store.now c.spot.new.store
    c.first.new.store c.in_ok-at.ensures.keeps c.in_ok-first.ensures.keeps

pub returns-clause-puts : goal.returns-clause-puts
returns-clause-puts g c = λ image tells. row_made g.D.Disk.meaning c.args.store.now c.spot.new.store c.first.new.store image
    c.args.catalog.now c.args.t.0 c.args.batch.now c.spot.new.batch c.first.new.batch c.args.row.now c.in_ok-at.at
    c.in_ok-version.version
    (subst (λ (g : Geometry). StoresRow g.size c.args.catalog.now c.args.t.0 c.args.row.now c.in_ok-version.version)
    c.geometry-size.ensures c.in_ok-version.ensures) c.in_ok-at.ensures.keeps (c.in_ok-at.ensures.gives image tells)
    (c.in_ok-first.ensures.makes image (tells_on g.D.Disk.meaning c.args.store.now c.spot.new.store image
    c.in_ok-at.ensures.keeps tells))

pub first-requires-clause-whole : goal.first-requires-clause-whole
first-requires-clause-whole g c = whole_kept g.D.Disk.meaning c.args.store.now
    c.spot.new.store c.spot.new.batch.pages
    c.in_ok-at.ensures.keeps c.in_ok-at.ensures.whole

pub returns-clause-whole : goal.returns-clause-whole
returns-clause-whole g c = whole_as c.spot.new.store.geometry c.args.store.now.geometry c.first.new.batch.pages
    c.in_ok-at.ensures.keeps.geometry c.in_ok-first.ensures.whole
