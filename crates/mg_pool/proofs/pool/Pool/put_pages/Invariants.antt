use Rattle.std.proofs.Common.{◌≤◌, ◌+◌, length, take, drop}
use Rattle.mg_pool.specs.Batch.{content_in}
use Rattle.mg_pool.specs.Change.{PutsPages}
use Rattle.mg_pool.specs.Dirty.{is_dirty}
use Rattle.mg_pool.proofs.BatchLemmas.{clean_count}
use Rattle.mg_pool.proofs.pool.Pool.put_pages.Given as goal

abbrev pub invariant-loop-place : goal.invariant-loop-place
invariant-loop-place g l = record {
  puts : PutsPages g.D.Disk.meaning (content_in (take l.place l.pages.items)) l.initial.self l.self;
  fits : length l.self.dirty.pages + clean_count (is_dirty l.self.dirty) (drop l.place l.pages.items) ≤ 512;
}
