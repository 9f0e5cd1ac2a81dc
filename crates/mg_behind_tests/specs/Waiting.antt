-- What a disk that waits tells: what the disk in memory behind it tells.
use Rattle.mg_base.specs.Disk.{Meaning}
use Rattle.mg_base.specs.MemDisk.{mem_meaning}
use Rattle.mg_base.specs.declared.mem_disk.MemDisk.{MemDisk}
use Rattle.mg_behind_tests.specs.declared.waiting.Waiting.{Waiting}

abbrev pub inner_of : Waiting → MemDisk
inner_of d = d.inner

abbrev pub waiting_meaning : Meaning Waiting
waiting_meaning = record {
  size = λ d. mem_meaning.size d.inner;
  count = λ d. mem_meaning.count d.inner;
  held = λ d. mem_meaning.held d.inner;
  tells = λ d. mem_meaning.tells d.inner;
  moment = λ d. mem_meaning.moment d.inner;
  left = λ d t c. mem_meaning.left d.inner t c;
  faults = λ d. mem_meaning.faults d.inner;
  failed_writes = λ d. mem_meaning.failed_writes d.inner;
  asked = λ d. mem_meaning.asked d.inner;
  reads = λ d. mem_meaning.reads d.inner;
  was_read = λ d n. mem_meaning.was_read d.inner n;
  most_writes = λ d. mem_meaning.most_writes d.inner;
}
