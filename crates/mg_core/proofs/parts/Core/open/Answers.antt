use Rattle.std.proofs.Common.{ℕ, ap}
use Rattle.mg_database.specs.declared.loading.Loaded.{Loaded}
use Rattle.mg_core.specs.Opening.{unprepared, unread}
use Rattle.mg_core.proofs.OpeningLemmas.{alone_again, answered_again, opened}
use Rattle.mg_core.proofs.parts.Core.open.Goals as goal

pub returns-in-Err : goal.returns-in-Err
returns-in-Err g c = unprepared c.in-Err.fault c.open_refusal.ensures c.in-Err.ensures

pub returns-in-Ok-load : goal.returns-in-Ok-load
returns-in-Ok-load g c = opened g.D.Disk.meaning c.args.disk c.args.limit c.in-Ok.store c.load.new.store
    c.in-Ok-load.loaded c.new.result c.new-in-Ok-load.result c.new-in-Ok-load-2.result c.in-Ok.ensures c.load.ensures.keeps
    c.in-Ok-load.ensures.lawful (ap (λ (counts : ℕ × ℕ × ℕ). counts.1) c.in-Ok-load.ensures.fault.2)
    (ap (λ (counts : ℕ × ℕ × ℕ). counts.2) c.in-Ok-load.ensures.fault.2)
    c.in-Ok-load.ensures.reads c.new.ensures c.new-in-Ok-load.ensures c.new-in-Ok-load-2.ensures
    c.in-Ok-load.ensures.says

pub returns-in-Err-load : goal.returns-in-Err-load
returns-in-Err-load g c = unread c.in-Err-load.fault c.open_refusal-in-Err-load.ensures (record {
  before = c.in-Ok.store;
  after = c.load.new.store;
  is_disk = c.into_disk.ensures;
  prepared = c.in-Ok.ensures;
  keeps = c.load.ensures.keeps;
  told = answered_again Loaded g.D.Disk.meaning c.in-Ok.store c.load.new.store c.in-Err-load.fault
      c.in-Err-load.ensures.fault;
  own = alone_again Loaded c.in-Err-load.fault c.in-Err-load.ensures.own;
  why = c.in-Err-load.ensures.refused;
})
