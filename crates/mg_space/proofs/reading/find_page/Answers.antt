use Rattle.std.proofs.Common.{◌≡◌, ◌∙◌, None, Some, ap, sym}
use Rattle.mg_pool.specs.Batch.{content_in}
use Rattle.mg_pool.specs.Pool.{resident, shown}
use Rattle.mg_space.specs.HandedLaws.{out_of_memory, told_as}
use Rattle.mg_space.specs.ViewLaws.{keeps_itself}
use Rattle.mg_space.specs.declared.fault.SpaceFault.TheVariants as faults
use Rattle.mg_space.specs.declared.reading.Found.{Found}
use Rattle.mg_space.proofs.HandedLemmas.{no_ok, refusal_reads, told_online}
use Rattle.mg_space.proofs.ReadingLemmas.{batch_read, batch_seen, cache_read, cache_seen, copied_len, copied_read, copied_seen, fetch_keeps, fetches_nothing, reads_as}
use Rattle.mg_space.proofs.reading.find_page.Goals as goal

pub returns-in_err-online : goal.returns-in_err-online
returns-in_err-online g c =
    let m = g.D.Disk.meaning in
    let r = c.from_residual.result in
    let is = c.from_residual.ensures.1 in
    let refused = c.in_err-online.field-0.0 in
    record {
      keeps = keeps_itself m c.args.store.now c.requires.pool;
      fault = told_as (Unit {0}) m c.args.store.now c.args.store.now r (faults.Pool refused) is
          c.in_err-online.ensures.fault;
      refusal = reads_as r (faults.Pool refused) is
          (refusal_reads (Unit {0}) Found refused c.in_err-online.ensures.refusal);
      found = no_ok r _ _ is;
      read = no_ok r _ _ is;
      seen = no_ok r _ _ is;
      reads = fetches_nothing m c.args.store.now c.args.page.0;
    }

pub returns-in_err-copy_of : goal.returns-in_err-copy_of
returns-in_err-copy_of g c =
    let m = g.D.Disk.meaning in
    let r = c.from_residual-in_err-copy_of.result in
    let is = c.from_residual-in_err-copy_of.ensures.1 in
    record {
      keeps = keeps_itself m c.args.store.now c.requires.pool;
      fault = told_online m c.args.store.now c.args.store.now r out_of_memory is
          c.in_ok-online.ensures.fault;
      refusal = reads_as r out_of_memory is tt;
      found = no_ok r _ _ is;
      read = no_ok r _ _ is;
      seen = no_ok r _ _ is;
      reads = fetches_nothing m c.args.store.now c.args.page.0;
    }

pub returns-in-Some : goal.returns-in-Some
returns-in-Some g c =
    let m = g.D.Disk.meaning in
    let copy = c.in_ok-copy_of.field-0 in
    let there : content_in c.args.batch.now.pages c.args.page.0 ≡ Some copy =
    sym c.in-Some.ensures ∙ ap Some (sym c.in_ok-copy_of.ensures) in
    record {
      keeps = keeps_itself m c.args.store.now c.requires.pool;
      fault = c.in_ok-online.ensures.fault;
      refusal = tt;
      found = (c.requires.whole c.args.page.0 copy there).0;
      read = batch_read (content_in c.args.batch.now.pages c.args.page.0)
          (resident c.args.store.now c.args.page.0) copy there;
      seen = λ image tells.
          batch_seen c.args.store.now image c.args.batch.now c.args.page.0 copy there;
      reads = fetches_nothing m c.args.store.now c.args.page.0;
    }

pub returns-in-Err-Absent-clause-keeps : goal.returns-in-Err-Absent-clause-keeps
returns-in-Err-Absent-clause-keeps g c = fetch_keeps g.D.Disk.meaning c.args.store.now
    c.fetch.new.self c.fetch.result c.fetch.ensures.pool c.fetch.ensures.geometry
    c.fetch.ensures.dirty c.fetch.ensures.graph c.fetch.ensures.fault c.fetch.ensures.never_written
    c.fetch.ensures.disk

pub returns-in-Err-Absent-clause-reads : goal.returns-in-Err-Absent-clause-reads
returns-in-Err-Absent-clause-reads g c = c.fetch.ensures.reads

pub returns-in-Err-clause-keeps : goal.returns-in-Err-clause-keeps
returns-in-Err-clause-keeps g c = fetch_keeps g.D.Disk.meaning c.args.store.now
    c.fetch.new.self c.fetch.result c.fetch.ensures.pool c.fetch.ensures.geometry
    c.fetch.ensures.dirty c.fetch.ensures.graph c.fetch.ensures.fault c.fetch.ensures.never_written
    c.fetch.ensures.disk

pub returns-in-Err-clause-reads : goal.returns-in-Err-clause-reads
returns-in-Err-clause-reads g c = c.fetch.ensures.reads

pub returns-in-Err-clause-fault : goal.returns-in-Err-clause-fault
returns-in-Err-clause-fault g c = c.in-Err.ensures.fault

pub returns-in_err-copy_of-2 : goal.returns-in_err-copy_of-2
returns-in_err-copy_of-2 g c =
    let m = g.D.Disk.meaning in
    let r = c.from_residual-in_err-copy_of-2.result in
    let is = c.from_residual-in_err-copy_of-2.ensures.1 in
    record {
      keeps = fetch_keeps m c.args.store.now c.fetch.new.self c.fetch.result c.fetch.ensures.pool
          c.fetch.ensures.geometry c.fetch.ensures.dirty c.fetch.ensures.graph c.fetch.ensures.fault
          c.fetch.ensures.never_written c.fetch.ensures.disk;
      fault = told_online m c.args.store.now c.fetch.new.self r out_of_memory is c.in-Ok.ensures.fault;
      refusal = reads_as r out_of_memory is tt;
      found = no_ok r _ _ is;
      read = no_ok r _ _ is;
      seen = no_ok r _ _ is;
      reads = c.fetch.ensures.reads;
    }

pub returns : goal.returns
returns g c =
    let m = g.D.Disk.meaning in
    let copy = c.in_ok-copy_of-2.field-0 in
    let none : content_in c.args.batch.now.pages c.args.page.0 ≡ None = sym c.in_default.ensures in
    let is : c.bytes-2.result ≡ Some c.unwrap-bytes.result = c.unwrap-bytes.ensures in
    record {
      keeps = fetch_keeps m c.args.store.now c.fetch.new.self c.fetch.result c.fetch.ensures.pool
          c.fetch.ensures.geometry c.fetch.ensures.dirty c.fetch.ensures.graph c.fetch.ensures.fault
          c.fetch.ensures.never_written c.fetch.ensures.disk;
      fault = c.in-Ok.ensures.fault;
      refusal = tt;
      found = copied_len c.bytes-2.result c.unwrap-bytes.result copy is c.in_ok-copy_of-2.ensures
          c.fetch.new.self.geometry.size c.bytes-2.ensures.whole;
      read = cache_read (content_in c.args.batch.now.pages c.args.page.0)
          (resident c.fetch.new.self c.args.page.0) copy none
          (copied_read c.bytes-2.result c.unwrap-bytes.result copy is c.in_ok-copy_of-2.ensures
          (resident c.fetch.new.self c.args.page.0) c.bytes-2.ensures.resident);
      seen = λ image tells. cache_seen c.args.store.now c.fetch.new.self image c.args.batch.now
          c.args.page.0 copy none c.fetch.ensures.dirty
          (copied_seen c.bytes-2.result c.unwrap-bytes.result copy is c.in_ok-copy_of-2.ensures
          (shown c.fetch.new.self.dirty image c.args.page.0)
          (c.bytes-2.ensures.last (c.fetch.ensures.disk.tells ∙ tells.told) image
          (c.fetch.ensures.disk.held ∙ tells.held)));
      reads = c.fetch.ensures.reads;
    }
