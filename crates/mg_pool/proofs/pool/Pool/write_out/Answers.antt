use Rattle.std.proofs.Common.{◌≡◌, ◌≢◌, ◌<◌, ◌∙◌, arith, sym, ap, inl, inr, Some, None, Option, List, length, ℕ, true, [], refl}
use Rattle.mg_pool.specs.Clean.{kept_in}
use Rattle.mg_base.specs.Image.{Image, page_at}
use Rattle.mg_pool.specs.Pool.{IsOnDisk, shown}
use Rattle.mg_slots.specs.Room.{room_of}
use Rattle.mg_pool.specs.Dirty.{content_of, is_dirty}
use Rattle.mg_pool.proofs.PoolLemmas.{counted_after, kept_none, kept_then, on_disk_written, stored_now, shown_after, tied_after, writes_out, overlay_of_page, leaves_after, size_stays, held_after, still_dirty, clean_written, clean_failed, failed_leaves, on_disk_after, shown_failed, within_after, within_failed}
use Rattle.mg_pool.proofs.RunLemmas.{time_of_call}
use Rattle.mg_pool.proofs.pool.Pool.write_out.Goals as goal

pub returns-in-Err : goal.returns-in-Err
returns-in-Err g c =
    let m = g.D.Disk.meaning in
    let pool = c.requires.pool in
    let content : content_of c.args.self.now.dirty c.args.page ≡ Some c.in-Some.bytes.now = sym c.in-Some.ensures.content in
    let writes = c.in-Err.ensures.writes in
    record {
      page = c.args.page;
      dirty = c.requires.dirty;
      ready = c.requires.ready;
      same = refl;
      asked = writes.asked;
      told = (c.count_fault-faults.result, refl, refl, (sym c.count_fault-faults.ensures.told, c.count_fault-faults.ensures.told ∙ c.count_fault-faults.ensures.count, writes.keeps.cause refl));
      failed_writes = c.in-Err.ensures.failed_writes.cause refl;
      pool = record {
        size = size_stays m c.args.self.now.disk c.write.new.self _ _ pool.size writes.keeps;
        page_size = pool.page_size;
        room = pool.room;
        few = pool.few;
        on_disk = λ online. let e : Some c.count_fault-faults.result ≡ None = online in cc;
        counted = λ online. let e : Some c.count_fault-faults.result ≡ None = online in cc;
        graph_room = pool.graph_room;
        tied = pool.tied;
        apart = pool.apart;
        whole = pool.whole;
        clean = λ told image held page bytes there.
            let apart : page ≢ c.args.page = λ e. let gone = pool.apart page (ap (is_dirty c.args.self.now.dirty) e ∙ c.requires.dirty) in let f : Some bytes ≡ None = sym there ∙ gone in cc in
            clean_failed m g.met.D.Disk.holds c.args.self.now.disk c.write.new.self c.args.page c.args.self.now.geometry.size c.in-Some.bytes.now (c.in-Some.ensures.whole ∙ pool.page_size) page apart bytes (λ t i h. pool.clean t i h page bytes there) _ writes told image held;
        below = pool.below;
        kept_below = pool.kept_below;
        within = within_failed m c.args.self.now.disk c.write.new.self c.args.page c.in-Some.bytes.now _ writes c.args.self.now.geometry.limit (pool.below c.args.page c.requires.dirty) pool.within;
        noted = λ told image held page room there.
            let told_old = sym writes.keeps.tells ∙ told in
            let before = g.met.D.Disk.holds c.args.self.now.disk told_old in
            pool.noted told_old before.0 before.1 page room there ∙ sym (ap room_of (shown_failed m c.args.self.now.disk c.write.new.self c.args.self.now.dirty c.args.page c.in-Some.bytes.now _ content c.in-Some.ensures.whole writes before.0 image before.1 held page));
      };
      kept = record {
        geometry = refl;
        same_shown = λ told i j held_i held_j page. shown_failed m c.args.self.now.disk c.write.new.self c.args.self.now.dirty c.args.page c.in-Some.bytes.now _ content c.in-Some.ensures.whole writes i j held_i held_j page;
        contents = λ page dirty. refl;
      };
      time = time_of_call m c.args.self.now.disk c.write.new.self _ writes.keeps c.in-Err.ensures.failed_writes.never_falls;
      crash = λ told image held.
          leaves_after m c.args.self.now.disk c.write.new.self c.args.page c.in-Some.bytes.now _ _ writes told
          (λ after now. elim (failed_leaves m g.met.D.Disk.holds c.args.self.now.disk c.write.new.self c.args.page c.in-Some.bytes.now _ writes told image held after now) [
            | inl before ↦ inl before
            | inr e ↦ inr (rw (e, c.in-Some.ensures.whole) (overlay_of_page c.args.self.now.dirty c.args.self.now.graph image c.args.page c.in-Some.bytes.now content c.requires.ready))
          ]);
    }

pub returns-in-Ok : goal.returns-in-Ok
returns-in-Ok g c =
    let m = g.D.Disk.meaning in
    let pool = c.requires.pool in
    let content : content_of c.args.self.now.dirty c.args.page ≡ Some c.in-Some.bytes.now = sym c.in-Some.ensures.content in
    let writes = c.in-Ok.ensures.writes in
    let was : ℕ → Option (List ℕ) = kept_in c.args.self.now.clean in
    let now : ℕ → Option (List ℕ) = kept_in c.keep.new.clean in
    let kept = kept_then (c.args.self.now.counted ≡ true) was now c.args.page c.in-Some.bytes.now c.copy_of-copy.result (content_of c.args.self.now.dirty c.args.page) c.keep.ensures content c.copy_of-copy.ensures.content c.copy_of-copy.ensures.counted in
    let not_this : (p : ℕ) (b : List ℕ) → was p ≡ Some b → p ≢ c.args.page = λ p b there e. let gone = pool.apart p (ap (is_dirty c.args.self.now.dirty) e ∙ c.requires.dirty) in let f : Some b ≡ None = sym there ∙ gone in cc in
    let whole : length c.in-Some.bytes.now ≡ c.args.self.now.geometry.size = c.in-Some.ensures.whole ∙ pool.page_size in
    let shown_same : (old new : Image) → m.held c.args.self.now.disk ≡ Some old → m.held c.write.new.self ≡ Some new → (p : ℕ) → shown c.take_out.new.self new p ≡ shown c.args.self.now.dirty old p =
    λ old new held_old held_new p.
    let e = held_after m c.args.self.now.disk c.write.new.self c.args.page c.in-Some.bytes.now _ writes old new held_old held_new in
    rw (e, c.in-Some.ensures.whole) (shown_after c.args.self.now.dirty c.take_out.new.self c.args.self.now.graph c.clear.new.self old c.args.page c.in-Some.bytes.now content c.in-Some.ensures.whole c.take_out.ensures.taken c.clear.ensures c.requires.ready p) in
    record {
      geometry = refl;
      offline = refl;
      faults = refl;
      steady = writes.keeps.steady;
      none_failed = c.in-Ok.ensures.failed_writes.steady;
      tells = writes.keeps.tells;
      taken = c.take_out.ensures.taken;
      asked = writes.asked;
      cleared = c.clear.ensures;
      out = λ old new held_old held_new.
          let e = held_after m c.args.self.now.disk c.write.new.self c.args.page c.in-Some.bytes.now _ writes old new held_old held_new in
          rw (e, c.in-Some.ensures.whole) (writes_out c.args.self.now.dirty c.take_out.new.self c.args.self.now.graph c.clear.new.self old c.args.page c.in-Some.bytes.now content c.in-Some.ensures.whole c.take_out.ensures.taken c.clear.ensures c.requires.ready);
      pool = record {
        size = size_stays m c.args.self.now.disk c.write.new.self _ _ pool.size writes.keeps;
        page_size = c.take_out.ensures.taken.size ∙ pool.page_size;
        room = c.take_out.ensures.taken.room ∙ pool.room;
        few = omega (arith, c.take_out.ensures.taken.count, pool.few);
        on_disk = λ online. kept (λ p b. IsOnDisk m c.write.new.self p)
            (λ told. on_disk_written m c.args.self.now.disk c.write.new.self c.args.page c.in-Some.bytes.now _ writes (pool.counted online told))
            (λ p b there. on_disk_after m c.args.self.now.disk c.write.new.self c.args.page c.in-Some.bytes.now _ writes p (pool.on_disk online p b there));
        counted = λ online told. counted_after m c.args.self.now.disk c.write.new.self c.args.page c.in-Some.bytes.now _ writes (pool.counted online told);
        graph_room = c.clear.ensures.room ∙ pool.graph_room;
        tied = tied_after c.args.self.now.dirty c.take_out.new.self c.args.self.now.graph c.clear.new.self [] c.args.page c.in-Some.bytes.now content c.in-Some.ensures.whole c.take_out.ensures.taken c.clear.ensures c.requires.ready pool.tied;
        apart = λ page dirty.
            let still = still_dirty c.args.self.now.dirty c.take_out.new.self c.args.self.now.graph c.clear.new.self [] c.args.page c.in-Some.bytes.now content c.in-Some.ensures.whole c.take_out.ensures.taken c.clear.ensures c.requires.ready page dirty in
            kept_none was now c.args.page page c.copy_of-copy.result c.keep.ensures still.0 (pool.apart page still.1);
        whole = kept (λ p b. length b ≡ c.args.self.now.geometry.size) (λ told. whole) pool.whole;
        clean = λ told image held. kept (λ p b. b ≡ page_at c.args.self.now.geometry.size image p)
            (λ counted. stored_now m g.met.D.Disk.holds c.args.self.now.disk c.write.new.self c.args.page c.args.self.now.geometry.size c.in-Some.bytes.now _ whole writes told image held)
            (λ p b there. clean_written m g.met.D.Disk.holds c.args.self.now.disk c.write.new.self c.args.page c.args.self.now.geometry.size c.in-Some.bytes.now whole p (not_this p b there) b (λ t i h. pool.clean t i h p b there) _ writes told image held);
        below = λ page dirty. pool.below page (still_dirty c.args.self.now.dirty c.take_out.new.self c.args.self.now.graph c.clear.new.self [] c.args.page c.in-Some.bytes.now content c.in-Some.ensures.whole c.take_out.ensures.taken c.clear.ensures c.requires.ready page dirty).1;
        kept_below = kept (λ p b. p < c.args.self.now.geometry.limit) (λ told. pool.below c.args.page c.requires.dirty) pool.kept_below;
        within = within_after m c.args.self.now.disk c.write.new.self c.args.page c.in-Some.bytes.now _ writes c.args.self.now.geometry.limit (pool.below c.args.page c.requires.dirty) pool.within;
        noted = λ told image held page room there.
            let told_old = sym writes.keeps.tells ∙ told in
            let before = g.met.D.Disk.holds c.args.self.now.disk told_old in
            pool.noted told_old before.0 before.1 page room there ∙ sym (ap room_of (shown_same before.0 image before.1 held page));
      };
      time = time_of_call m c.args.self.now.disk c.write.new.self _ writes.keeps c.in-Ok.ensures.failed_writes.never_falls;
      crash = λ told image held.
          leaves_after m c.args.self.now.disk c.write.new.self c.args.page c.in-Some.bytes.now _ _ writes told
          (λ after now. inr (let e = held_after m c.args.self.now.disk c.write.new.self c.args.page c.in-Some.bytes.now _ writes image after held now in
          rw (e, c.in-Some.ensures.whole) (overlay_of_page c.args.self.now.dirty c.args.self.now.graph image c.args.page c.in-Some.bytes.now content c.requires.ready)));
    }
