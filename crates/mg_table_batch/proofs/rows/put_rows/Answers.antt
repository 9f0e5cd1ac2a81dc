use Rattle.mg_space.specs.WholeLaws.{whole_kept, whole_as}
use Rattle.std.proofs.Common.{arith, ◌∙◌, subst, sym, List}
use Rattle.mg_image.specs.Form.{Row}
use Rattle.mg_space.specs.ViewLaws.{keeps_on, tells_on}
use Rattle.mg_table_batch.specs.Filling.{PutsRows, puts_none}
use Rattle.mg_table_batch.specs.Refusals.{RefusesRows}
use Rattle.mg_table_batch.proofs.FillLemmas.{nothing_left, puts_step, refuses_here, refuses_step}
use Rattle.mg_table_batch.proofs.SeenLemmas.{handed_on}
use Rattle.mg_table_batch.proofs.rows.put_rows.Goals as goal

pub returns-in_err-put_row-clause-keeps : goal.returns-in_err-put_row-clause-keeps
returns-in_err-put_row-clause-keeps g c = keeps_on g.D.Disk.meaning g.met.D.Disk.counts_now c.args.store.now
    c.loop-row.store c.put_row.new.store c.loop-row.invariant.keeps c.in_err-put_row.ensures.keeps

pub returns-in_err-put_row-clause-puts : goal.returns-in_err-put_row-clause-puts
returns-in_err-put_row-clause-puts g c = λ image tells. handed_on c.from_residual.result c.in_err-put_row.field-0.0 _
    (λ fault. RefusesRows g.D.Disk.meaning c.put_row.new.store image c.args.catalog.now c.args.t.0 fault c.args.rows.now
    c.args.store.now c.args.batch.now) c.from_residual.ensures.0 c.from_residual.ensures.1
    (refuses_here g.D.Disk.meaning c.args.store.now c.loop-row.store c.put_row.new.store image c.args.catalog.now c.args.t.0
    c.args.rows.now c.loop-row.rest.now c.in-Some.later.now c.in-Some.row.now c.args.batch.now c.loop-row.batch
    c.in_err-put_row.field-0.0 c.in-Some.ensures.cases.0 (c.loop-row.invariant.refuses image tells)
    (c.in_err-put_row.ensures.puts image (tells_on g.D.Disk.meaning c.args.store.now c.loop-row.store image
    c.loop-row.invariant.keeps tells)))

pub loop-row-preserved : goal.loop-row-preserved
loop-row-preserved g c = record {
  keeps = keeps_on g.D.Disk.meaning g.met.D.Disk.counts_now c.args.store.now c.loop-row.store
      c.put_row.new.store c.loop-row.invariant.keeps c.in_ok-put_row.ensures.keeps;
  faults = c.in_ok-put_row.ensures.fault.2 ∙ c.loop-row.invariant.faults;
  whole = whole_as c.loop-row.store.geometry c.args.store.now.geometry c.put_row.new.batch.pages
      c.loop-row.invariant.keeps.geometry c.in_ok-put_row.ensures.whole;
  puts = λ image tells. puts_step g.D.Disk.meaning c.args.store.now c.loop-row.store image c.args.catalog.now c.args.t.0
      c.args.rows.now c.loop-row.rest.now c.in-Some.later.now c.in-Some.row.now c.args.batch.now c.loop-row.batch
      c.put_row.new.batch c.in_ok-put_row.field-0 c.in-Some.ensures.cases.0 c.loop-row.invariant.keeps
      (c.in_ok-put_row.ensures.puts image (tells_on g.D.Disk.meaning c.args.store.now c.loop-row.store image
      c.loop-row.invariant.keeps tells)) (c.loop-row.invariant.puts image tells);
  refuses = λ image tells. refuses_step g.D.Disk.meaning c.args.store.now c.loop-row.store image c.args.catalog.now c.args.t.0
      c.args.rows.now c.loop-row.rest.now c.in-Some.later.now c.in-Some.row.now c.args.batch.now c.loop-row.batch
      c.put_row.new.batch c.in_ok-put_row.field-0 c.in-Some.ensures.cases.0 c.loop-row.invariant.keeps
      (c.in_ok-put_row.ensures.puts image (tells_on g.D.Disk.meaning c.args.store.now c.loop-row.store image
      c.loop-row.invariant.keeps tells)) c.put_row.new.store c.in_ok-put_row.ensures.keeps
      (c.loop-row.invariant.refuses image tells);
}

pub returns-clause-puts : goal.returns-clause-puts
returns-clause-puts g c = λ image tells. c.loop-row.invariant.puts image tells c.loop-row.batch
    (subst (λ (rows : List Row). PutsRows c.args.store.now image c.args.catalog.now c.args.t.0 rows c.loop-row.batch
    c.loop-row.batch) (sym (nothing_left c.loop-row.rest.now (omega (arith, c.in_default.ensures.cases))))
    (puts_none c.loop-row.batch))

pub put_row-requires-clause-whole : goal.put_row-requires-clause-whole
put_row-requires-clause-whole g c = whole_kept g.D.Disk.meaning c.args.store.now
    c.loop-row.store c.loop-row.batch.pages
    c.loop-row.invariant.keeps c.loop-row.invariant.whole
