use Rattle.std.proofs.Common.{refl, drop, ◌+◌}
use Rattle.mg_plain.specs.Kept.{kept}
use Rattle.mg_plain.proofs.CallLemmas.{goes_first, goes_further, goes_refused, goes_to_end, goes_at, views_further, in_catalog, drop_item, drop_past}
use Rattle.mg_plain.proofs.SessionLemmas.{grows_done, grows_none}
use Rattle.mg_plain.proofs.plain.Plain.insert_each.Goals as goal

pub returns : goal.returns
returns c =
    record {
      inserts = goes_to_end c.args.self.now c.loop-row.self c.args.t c.args.rows.now (drop c.loop-row.row-index c.args.rows.now)
          (drop_past c.args.rows.now c.loop-row.row-index c.loop-row-test.false) c.loop-row.invariant.goes_on;
      inner = refl;
      views = c.loop-row.invariant.views;
      grows = c.loop-row.invariant.grows;
    }

pub returns-in-Err : goal.returns-in-Err
returns-in-Err c =
    let done = in_catalog (kept c.loop-row.self) (kept c.insert_row.new.self) c.args.t c.args.catalog.now c.row-item.result _ c.requires c.in-Err.ensures in
    record {
      inserts = goes_refused c.args.self.now c.loop-row.self c.insert_row.new.self c.args.t c.args.rows.now c.row-item.result (drop (c.loop-row.row-index + 1) c.args.rows.now) c.in-Err.refusal
          (goes_at c.args.self.now c.loop-row.self c.args.t c.args.rows.now (drop c.loop-row.row-index c.args.rows.now) c.row-item.result (drop (c.loop-row.row-index + 1) c.args.rows.now)
          (drop_item c.args.rows.now c.loop-row.row-index c.row-item.result c.loop-row-test.true c.row-item.is) c.loop-row.invariant.goes_on) done;
      inner = c.in-Err.ensures.inner;
      views = views_further (kept c.args.self.now) (kept c.loop-row.self) (kept c.insert_row.new.self) c.args.t c.loop-row.invariant.views c.in-Err.ensures.views;
      grows = grows_done c.loop-row.invariant.grows c.in-Err.ensures;
    }

pub loop-row-init : goal.loop-row-init
loop-row-init c =
    record { goes_on = goes_first c.args.self.now c.args.t c.args.rows.now; views = λ u apart. refl; grows = grows_none (kept c.args.self.now) }

pub loop-row-preserved : goal.loop-row-preserved
loop-row-preserved c =
    let done = in_catalog (kept c.loop-row.self) (kept c.insert_row.new.self) c.args.t c.args.catalog.now c.row-item.result _ c.requires c.in-Ok.ensures in
    record {
      goes_on = goes_further c.args.self.now c.loop-row.self c.insert_row.new.self c.args.t c.args.rows.now c.row-item.result (drop (c.loop-row.row-index + 1) c.args.rows.now)
          (goes_at c.args.self.now c.loop-row.self c.args.t c.args.rows.now (drop c.loop-row.row-index c.args.rows.now) c.row-item.result (drop (c.loop-row.row-index + 1) c.args.rows.now)
          (drop_item c.args.rows.now c.loop-row.row-index c.row-item.result c.loop-row-test.true c.row-item.is) c.loop-row.invariant.goes_on) done;
      views = views_further (kept c.args.self.now) (kept c.loop-row.self) (kept c.insert_row.new.self) c.args.t c.loop-row.invariant.views c.in-Ok.ensures.views;
      grows = grows_done c.loop-row.invariant.grows c.in-Ok.ensures;
    }
