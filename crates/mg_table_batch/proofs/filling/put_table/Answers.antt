use Rattle.mg_space.specs.WholeLaws.{whole_kept}
use Rattle.mg_space.specs.ViewLaws.{keeps_on, tells_on}
use Rattle.mg_table_batch.specs.Refusals.{RefusesRowsOf}
use Rattle.mg_table_batch.proofs.FillLemmas.{own_refused, rows_then}
use Rattle.mg_table_batch.proofs.SeenLemmas.{handed_on}
use Rattle.std.proofs.Common.{subst}
use Rattle.std.specs.Prelude.{OnOk}
use Rattle.mg_base.specs.declared.geometry.Geometry.{Geometry}
use Rattle.mg_space.specs.View.{AreWhole}
use Rattle.mg_table_batch.proofs.filling.put_table.Goals as goal

pub returns-in_err-put_naming-clause-puts : goal.returns-in_err-put_naming-clause-puts
returns-in_err-put_naming-clause-puts g c = λ image tells. handed_on c.from_residual.result c.in_err-put_naming.field-0.0 _
    (RefusesRowsOf g.D.Disk.meaning c.args.store.now c.put_naming.new.store image c.args.catalog.now c.args.t.0 c.args.batch.now c.args.rows.now)
    c.from_residual.ensures.0 c.from_residual.ensures.1
    (own_refused g.D.Disk.meaning c.args.store.now c.put_naming.new.store image c.args.catalog.now c.args.t.0 c.args.rows.now
    c.in-Some.columns.now c.in-Some.own.now c.args.batch.now c.in_err-put_naming.field-0.0 c.in-Some.ensures.cases.0
    (c.in_err-put_naming.ensures.puts image tells))

pub returns-clause-keeps : goal.returns-clause-keeps
returns-clause-keeps g c = keeps_on g.D.Disk.meaning g.met.D.Disk.counts_now c.args.store.now c.put_naming.new.store
    c.put_rows.new.store c.in_ok-put_naming.ensures.keeps c.put_rows.ensures.keeps

pub returns-clause-puts : goal.returns-clause-puts
returns-clause-puts g c = λ image tells. rows_then g.D.Disk.meaning c.args.store.now c.put_naming.new.store c.put_rows.new.store
    image c.args.catalog.now c.args.t.0 c.args.rows.now c.in-Some.columns.now c.in-Some.own.now c.args.page.0 c.args.batch.now
    c.put_naming.new.batch c.put_rows.new.batch c.put_rows.result c.in-Some.ensures.cases.0
    (c.in_ok-put_naming.ensures.puts image tells) c.in_ok-put_naming.ensures.keeps
    (c.put_rows.ensures.puts image (tells_on g.D.Disk.meaning c.args.store.now c.put_naming.new.store image
    c.in_ok-put_naming.ensures.keeps tells))

pub returns-clause-whole : goal.returns-clause-whole
returns-clause-whole g c = subst (λ (x : Geometry). OnOk c.put_rows.result (AreWhole x c.put_rows.new.batch.pages))
    c.in_ok-put_naming.ensures.keeps.geometry c.put_rows.ensures.whole

pub put_rows-requires-clause-whole : goal.put_rows-requires-clause-whole
put_rows-requires-clause-whole g c = whole_kept g.D.Disk.meaning c.args.store.now
    c.put_naming.new.store c.put_naming.new.batch.pages
    c.in_ok-put_naming.ensures.keeps c.in_ok-put_naming.ensures.whole
