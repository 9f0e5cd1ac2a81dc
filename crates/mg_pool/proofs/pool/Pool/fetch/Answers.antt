use Rattle.std.proofs.Common.{◌≡◌, ◌≢◌, ◌<◌, ◌≤◌, ◌∙◌, sym, ap, length, Some, ℕ, true, false, refl, subst, inr, is_some, rules}
use Rattle.std.proofs.lemmas.Bool.{both_ways}
use Rattle.mg_pool.specs.Clean.{kept_in}
use Rattle.mg_base.specs.Image.{page_at}
use Rattle.mg_pool.specs.Dirty.{is_dirty}
use Rattle.mg_pool.specs.Pool.{IsOnDisk}
use Rattle.mg_pool.proofs.PoolLemmas.{below_within, size_stays, absent_is_clean, put_clean, put_none, on_disk_calm, within_calm}
use Rattle.mg_pool.proofs.FetchLemmas.{quiet_call, quiet_then, reads_at_most, reads_then, leaves_pages, leaves_all, shown_so, present, rose_now, rose_then, tells_read, stays_online, refused, no_ok, ok_no_err, offline_no_absent, offline_no_write, read_no_offline, read_no_absent, read_no_write, absent_no_offline, absent_same, absent_no_write, memory_no_offline, memory_no_absent, memory_no_write, leaves_cleaned, keeps_same, put_stays}
use Rattle.mg_pool.proofs.RunLemmas.{on_err}
use Rattle.mg_pool.proofs.pool.Pool.fetch.Goals as goal

pub returns-in_err-online : goal.returns-in_err-online
returns-in_err-online g c =
    let m = g.D.Disk.meaning in
    let r = c.from_residual.result in
    let told = refused m c.args.self.now r c.in_err-online.field-0.0 c.from_residual.ensures.1 c.in_err-online.ensures.fault c.in_err-online.ensures.refusal in
    let all = leaves_all m c.args.self.now c.args.page.0 c.requires.pool in
    record {
      pool = all.pool;
      geometry = refl;
      dirty = refl;
      graph = refl;
      resident = no_ok r _ _ told.2;
      same = on_err r _ all.same;
      offline = λ n is. refl;
      fault = told.0;
      present = no_ok r _ _ told.2;
      absent = λ k is. absurd (offline_no_absent r told.1 k told.2 is);
      never_written = λ k is. offline_no_write r told.1 k told.2 is;
      disk = all.disk;
      reads = all.reads;
    }

pub returns-then-is_some : goal.returns-then-is_some
returns-then-is_some g c =
    let m = g.D.Disk.meaning in
    let online = c.in_ok-online.ensures.fault in
    let there = shown_so c.args.self.now c.args.page.0 c.bytes.result c.is_some.result true c.bytes.ensures.resident c.is_some.ensures c.if-is_some.true in
    let old = c.args.self.now in
    let all = leaves_cleaned m old old (record old { clean = c.touch.new.self }) c.args.page.0 refl c.touch.ensures (leaves_all m old c.args.page.0 c.requires.pool) in
    let still = ap is_some (all.same c.args.page.0) ∙ there in
    record {
      pool = all.pool;
      geometry = refl;
      dirty = refl;
      graph = refl;
      resident = still;
      same = tt;
      offline = λ n is. absurd (ok_no_err _ _ is);
      fault = online;
      present = present m c.args.self.now c.args.page.0 c.requires.pool online.0 there;
      absent = λ k is. absurd (ok_no_err _ _ is);
      never_written = λ k is. ok_no_err _ _ is;
      disk = all.disk;
      reads = all.reads;
    }

pub returns-in-Err : goal.returns-in-Err
returns-in-Err g c =
    let m = g.D.Disk.meaning in
    let old = c.args.self.now in
    let new = c.read_fault.new.self in
    let disk = c.pages.new.self in
    let unread = c.in-Err.ensures.unread in
    let left = leaves_pages m old disk new.faults new c.args.page.0 c.read_fault.ensures.same c.requires.pool (quiet_call m old.disk disk _ c.in-Err.ensures.calm c.in-Err.ensures.no_failed_write) (reads_at_most m old.disk disk c.args.page.0 unread) (λ there. unread) in
    record {
      pool = left.pool;
      geometry = left.geometry;
      dirty = left.dirty;
      graph = left.graph;
      resident = tt;
      same = left.same;
      offline = λ n is. absurd (read_no_offline c.read_fault.result new.faults n c.read_fault.ensures.fault is);
      fault = tells_read (Unit {0}) m old disk new c.read_fault.result c.read_fault.ensures.same c.read_fault.ensures.count c.read_fault.ensures.fault c.in_ok-online.ensures.fault.0 (rose_now m old.disk disk c.in-Err.field-0 c.in-Err.ensures.calm) c.in-Err.ensures.no_failed_write;
      present = tt;
      absent = λ k is. absurd (read_no_absent c.read_fault.result new.faults k c.read_fault.ensures.fault is);
      never_written = λ k is. read_no_write c.read_fault.result new.faults k c.read_fault.ensures.fault is;
      disk = left.disk;
      reads = left.reads;
    }

pub returns-then-page-pages : goal.returns-then-page-pages
returns-then-page-pages g c =
    let m = g.D.Disk.meaning in
    let old = c.args.self.now in
    let disk = c.pages.new.self in
    let calm = c.in-Ok.ensures.calm in
    let unread = c.in-Ok.ensures.unread in
    let left = leaves_pages m old disk old.faults (record old { disk = disk }) c.args.page.0 refl c.requires.pool (quiet_call m old.disk disk _ calm c.in-Ok.ensures.no_failed_write) (reads_at_most m old.disk disk c.args.page.0 unread) (λ there. unread) in
    let out = shown_so old c.args.page.0 c.bytes.result c.is_some.result false c.bytes.ensures.resident c.is_some.ensures c.if-is_some.false in
    record {
      pool = left.pool;
      geometry = refl;
      dirty = refl;
      graph = refl;
      resident = tt;
      same = left.same;
      offline = λ n is. absurd (absent_no_offline c.in-Ok.pages n is);
      fault = stays_online m old disk c.in_ok-online.ensures.fault.0 calm.keeps.steady c.in-Ok.ensures.no_failed_write;
      present = tt;
      absent = λ k is.
          let told = absent_same c.in-Ok.pages k is in
          (absent_is_clean old.dirty (kept_in old.clean) c.args.page.0 out, c.in-Ok.ensures.count ∙ ap Some told, subst (λ (n : ℕ). n ≤ c.args.page.0) told c.if-page-pages.true);
      never_written = λ k is. absent_no_write c.in-Ok.pages k is;
      disk = left.disk;
      reads = left.reads;
    }

pub returns-in-Err-vec : goal.returns-in-Err-vec
returns-in-Err-vec g c =
    let m = g.D.Disk.meaning in
    let old = c.args.self.now in
    let disk = c.pages.new.self in
    let calm = c.in-Ok.ensures.calm in
    let unread = c.in-Ok.ensures.unread in
    let left = leaves_pages m old disk old.faults (record old { disk = disk }) c.args.page.0 refl c.requires.pool (quiet_call m old.disk disk _ calm c.in-Ok.ensures.no_failed_write) (reads_at_most m old.disk disk c.args.page.0 unread) (λ there. unread) in
    record {
      pool = left.pool;
      geometry = refl;
      dirty = refl;
      graph = refl;
      resident = tt;
      same = left.same;
      offline = λ n is. absurd (memory_no_offline n is);
      fault = stays_online m old disk c.in_ok-online.ensures.fault.0 calm.keeps.steady c.in-Ok.ensures.no_failed_write;
      present = tt;
      absent = λ k is. absurd (memory_no_absent k is);
      never_written = λ k is. memory_no_write k is;
      disk = left.disk;
      reads = left.reads;
    }

pub returns-in-Err-read_into : goal.returns-in-Err-read_into
returns-in-Err-read_into g c =
    let m = g.D.Disk.meaning in
    let old = c.args.self.now in
    let fault = c.read_fault-in-Err-read_into in
    let new = fault.new.self in
    let disk = c.read_into.new.disk in
    let calm = c.in-Ok.ensures.calm in
    let read = c.in-Err-read_into.ensures.calm in
    let out = shown_so old c.args.page.0 c.bytes.result c.is_some.result false c.bytes.ensures.resident c.is_some.ensures c.if-is_some.false in
    let left = leaves_pages m old disk new.faults new c.args.page.0 fault.ensures.same c.requires.pool (quiet_then m g.met.D.Disk.counts_now old.disk c.pages.new.self disk (quiet_call m old.disk c.pages.new.self _ calm c.in-Ok.ensures.no_failed_write) (quiet_call m c.pages.new.self disk _ read c.in-Err-read_into.ensures.no_failed_write)) (reads_then m old.disk c.pages.new.self disk c.args.page.0 c.in-Ok.ensures.unread c.in-Err-read_into.ensures.reads) (λ there. absurd (both_ways _ out there)) in
    record {
      pool = left.pool;
      geometry = left.geometry;
      dirty = left.dirty;
      graph = left.graph;
      resident = tt;
      same = left.same;
      offline = λ n is. absurd (read_no_offline fault.result new.faults n fault.ensures.fault is);
      fault = tells_read (Unit {0}) m old disk new fault.result fault.ensures.same fault.ensures.count fault.ensures.fault c.in_ok-online.ensures.fault.0 (rose_then (m.faults old.disk) (m.faults c.pages.new.self) (m.faults disk) calm.keeps.never_falls (rose_now m c.pages.new.self disk c.in-Err-read_into.field-0 read)) (c.in-Err-read_into.ensures.no_failed_write ∙ c.in-Ok.ensures.no_failed_write);
      present = tt;
      absent = λ k is. absurd (read_no_absent fault.result new.faults k fault.ensures.fault is);
      never_written = λ k is. read_no_write fault.result new.faults k fault.ensures.fault is;
      disk = left.disk;
      reads = left.reads;
    }

pub returns-in-Ok-put-clause-pool : goal.returns-in-Ok-put-clause-pool
returns-in-Ok-put-clause-pool g c =
    let pool = c.requires.pool in
    let asked = size_stays g.D.Disk.meaning c.args.self.now.disk c.pages.new.self _ _ pool.size c.in-Ok.ensures.calm.keeps in
    let puts = c.in-Ok-put.ensures.put in
    let here = puts.here in
    let others = puts.others in
    let long : length c.in-Ok-vec.buffer.items ≡ c.args.self.now.geometry.size = search rules in
    let read_long : length c.new-2.result ≡ c.args.self.now.geometry.size = ap length (c.new-2.ensures ∙ c.new.ensures) ∙ (c.in-Ok-read_into.ensures.len ∙ long) in
    let told_so = shown_so c.args.self.now c.args.page.0 c.bytes.result c.is_some.result false c.bytes.ensures.resident c.is_some.ensures c.if-is_some.false in
    let not_dirty : is_dirty c.args.self.now.dirty c.args.page.0 ≡ false = absent_is_clean c.args.self.now.dirty (kept_in c.args.self.now.clean) c.args.page.0 told_so in
    let asked_calm = c.in-Ok.ensures.calm in
    let read_calm = c.in-Ok-read_into.ensures.calm in
    let on_it = on_disk_calm g.D.Disk.meaning c.pages.new.self c.read_into.new.disk _ read_calm c.args.page.0 (c.in-Ok.pages, c.in-Ok.ensures.count, c.if-page-pages.false) in
    let counted_within = within_calm g.D.Disk.meaning c.args.self.now.disk c.pages.new.self _ asked_calm c.args.self.now.geometry.limit pool.within in
    let page_below = below_within g.D.Disk.meaning c.pages.new.self c.in-Ok.pages c.args.page.0 c.args.self.now.geometry.limit c.in-Ok.ensures.count c.if-page-pages.false counted_within in
    record {
      size = size_stays g.D.Disk.meaning c.pages.new.self c.read_into.new.disk _ _ asked read_calm.keeps;
      page_size = pool.page_size;
      room = pool.room;
      few = pool.few;
      on_disk = λ online p bytes there.
          put_clean (kept_in c.args.self.now.clean) (kept_in c.put.new.self) c.args.page.0 c.new-2.result here others (λ q b. IsOnDisk g.D.Disk.meaning c.read_into.new.disk q) on_it (λ q b was. on_disk_calm g.D.Disk.meaning c.pages.new.self c.read_into.new.disk _ read_calm q (on_disk_calm g.D.Disk.meaning c.args.self.now.disk c.pages.new.self _ asked_calm q (pool.on_disk online q b was))) p bytes there;
      counted = λ online told. (on_it.0, on_it.1);
      graph_room = pool.graph_room;
      tied = pool.tied;
      apart = λ p dirty. let apart : p ≢ c.args.page.0 = λ e. both_ways _ not_dirty (ap (is_dirty c.args.self.now.dirty) (sym e) ∙ dirty) in put_none (kept_in c.args.self.now.clean) (kept_in c.put.new.self) c.args.page.0 p others apart (pool.apart p dirty);
      whole = put_clean (kept_in c.args.self.now.clean) (kept_in c.put.new.self) c.args.page.0 c.new-2.result here others (λ p bytes. length bytes ≡ c.args.self.now.geometry.size) read_long pool.whole;
      clean = λ told image held.
          let held_asked : g.D.Disk.meaning.held c.pages.new.self ≡ Some image = sym read_calm.held ∙ held in
          let told_asked = sym read_calm.keeps.tells ∙ told in
          let fresh : c.new-2.result ≡ page_at c.args.self.now.geometry.size image c.args.page.0 = (c.new-2.ensures ∙ c.new.ensures) ∙ (c.in-Ok-read_into.ensures.page image held_asked ∙ ap (λ (n : ℕ). page_at n image c.args.page.0) long) in
          put_clean (kept_in c.args.self.now.clean) (kept_in c.put.new.self) c.args.page.0 c.new-2.result here others (λ p bytes. bytes ≡ page_at c.args.self.now.geometry.size image p) fresh (pool.clean (sym asked_calm.keeps.tells ∙ told_asked) image (sym asked_calm.held ∙ held_asked));
      below = pool.below;
      kept_below = put_clean (kept_in c.args.self.now.clean) (kept_in c.put.new.self) c.args.page.0 c.new-2.result here others (λ q b. q < c.args.self.now.geometry.limit) page_below pool.kept_below;
      within = within_calm g.D.Disk.meaning c.pages.new.self c.read_into.new.disk _ read_calm c.args.self.now.geometry.limit counted_within;
      noted = λ told image held. pool.noted (sym asked_calm.keeps.tells ∙ (sym read_calm.keeps.tells ∙ told)) image (sym asked_calm.held ∙ (sym read_calm.held ∙ held));
    }

pub returns-in-Ok-put-clause-geometry : goal.returns-in-Ok-put-clause-geometry
returns-in-Ok-put-clause-geometry g c = refl

pub returns-in-Ok-put-clause-resident : goal.returns-in-Ok-put-clause-resident
returns-in-Ok-put-clause-resident g c =
    let old = c.args.self.now in
    let out = shown_so old c.args.page.0 c.bytes.result c.is_some.result false c.bytes.ensures.resident c.is_some.ensures c.if-is_some.false in
    (put_stays old (record old { disk = c.read_into.new.disk; clean = c.put.new.self; counted = true }) c.args.page.0 c.new-2.result refl (absent_is_clean old.dirty (kept_in old.clean) c.args.page.0 out) c.in-Ok-put.ensures.put).0

pub returns-in-Ok-put-clause-offline : goal.returns-in-Ok-put-clause-offline
returns-in-Ok-put-clause-offline g c = λ n is. absurd (ok_no_err _ _ is)

pub returns-in-Ok-put-clause-fault : goal.returns-in-Ok-put-clause-fault
returns-in-Ok-put-clause-fault g c = stays_online g.D.Disk.meaning c.args.self.now c.read_into.new.disk c.in_ok-online.ensures.fault.0 (c.in-Ok-read_into.ensures.calm.keeps.steady ∙ c.in-Ok.ensures.calm.keeps.steady)
    (c.in-Ok-read_into.ensures.no_failed_write ∙ c.in-Ok.ensures.no_failed_write)

pub returns-in-Ok-put-clause-present : goal.returns-in-Ok-put-clause-present
returns-in-Ok-put-clause-present g c = inr (on_disk_calm g.D.Disk.meaning c.pages.new.self c.read_into.new.disk _ c.in-Ok-read_into.ensures.calm c.args.page.0 (c.in-Ok.pages, c.in-Ok.ensures.count, c.if-page-pages.false))

pub returns-in-Ok-put-clause-absent : goal.returns-in-Ok-put-clause-absent
returns-in-Ok-put-clause-absent g c = λ k is. absurd (ok_no_err _ _ is)

pub returns-in-Ok-put-clause-never_written : goal.returns-in-Ok-put-clause-never_written
returns-in-Ok-put-clause-never_written g c = λ k is. ok_no_err _ _ is

pub returns-in-Ok-put-clause-disk : goal.returns-in-Ok-put-clause-disk
returns-in-Ok-put-clause-disk g c =
    let m = g.D.Disk.meaning in
    (quiet_then m g.met.D.Disk.counts_now c.args.self.now.disk c.pages.new.self c.read_into.new.disk (quiet_call m c.args.self.now.disk c.pages.new.self _ c.in-Ok.ensures.calm c.in-Ok.ensures.no_failed_write) (quiet_call m c.pages.new.self c.read_into.new.disk _ c.in-Ok-read_into.ensures.calm c.in-Ok-read_into.ensures.no_failed_write)).content

pub returns-in-Ok-put-clause-reads : goal.returns-in-Ok-put-clause-reads
returns-in-Ok-put-clause-reads g c =
    let old = c.args.self.now in
    let out = shown_so old c.args.page.0 c.bytes.result c.is_some.result false c.bytes.ensures.resident c.is_some.ensures c.if-is_some.false in
    record {
      once = reads_then g.D.Disk.meaning old.disk c.pages.new.self c.read_into.new.disk c.args.page.0 c.in-Ok.ensures.unread c.in-Ok-read_into.ensures.reads;
      none = λ there. absurd (both_ways _ out there);
      stay = (put_stays old (record old { disk = c.read_into.new.disk; clean = c.put.new.self; counted = true }) c.args.page.0 c.new-2.result refl (absent_is_clean old.dirty (kept_in old.clean) c.args.page.0 out) c.in-Ok-put.ensures.put).1;
    }

pub returns-in-Err-put : goal.returns-in-Err-put
returns-in-Err-put g c =
    let m = g.D.Disk.meaning in
    let old = c.args.self.now in
    let disk = c.read_into.new.disk in
    let calm = c.in-Ok.ensures.calm in
    let read = c.in-Ok-read_into.ensures.calm in
    let out = shown_so old c.args.page.0 c.bytes.result c.is_some.result false c.bytes.ensures.resident c.is_some.ensures c.if-is_some.false in
    let kept = leaves_pages m old disk old.faults (record old { disk = disk }) c.args.page.0 refl c.requires.pool (quiet_then m g.met.D.Disk.counts_now old.disk c.pages.new.self disk (quiet_call m old.disk c.pages.new.self _ calm c.in-Ok.ensures.no_failed_write) (quiet_call m c.pages.new.self disk _ read c.in-Ok-read_into.ensures.no_failed_write)) (reads_then m old.disk c.pages.new.self disk c.args.page.0 c.in-Ok.ensures.unread c.in-Ok-read_into.ensures.reads) (λ there. absurd (both_ways _ out there)) in
    let left = leaves_cleaned m old (record old { disk = disk }) (record old { disk = disk; clean = c.put.new.self }) c.args.page.0 refl (keeps_same old.clean c.put.new.self c.in-Err-put.ensures.same) kept in
    record {
      pool = left.pool;
      geometry = refl;
      dirty = refl;
      graph = refl;
      resident = tt;
      same = left.same;
      offline = λ n is. absurd (memory_no_offline n is);
      fault = stays_online m old disk c.in_ok-online.ensures.fault.0 (read.keeps.steady ∙ calm.keeps.steady) (c.in-Ok-read_into.ensures.no_failed_write ∙ c.in-Ok.ensures.no_failed_write);
      present = tt;
      absent = λ k is. absurd (memory_no_absent k is);
      never_written = λ k is. memory_no_write k is;
      disk = left.disk;
      reads = left.reads;
    }
