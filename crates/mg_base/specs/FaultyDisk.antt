-- A disk in memory whose calls fail where a list says so.
use Rattle.std.specs.Prelude.{ℕ, ◌+◌, List}
use Rattle.mg_base.specs.Calls.{IsListed}
use Rattle.mg_base.specs.Disk.{Meaning}
use Rattle.mg_base.specs.MemDisk.{mem_meaning}
use Rattle.mg_base.specs.declared.mem_disk.MemDisk.{MemDisk}
use Rattle.mg_base.specs.declared.faulty_disk.FaultyDisk.{FaultyDisk}

abbrev pub disk_of : FaultyDisk → MemDisk
disk_of d = d.inner

-- the numbers of the calls that fail
abbrev pub bad_of : FaultyDisk → List ℕ
bad_of d = d.bad.items

-- the calls so far
abbrev pub calls_of : FaultyDisk → ℕ
calls_of d = d.calls

-- the next call is one of those that fail
abbrev pub FailsNext : FaultyDisk → Type 0
FailsNext d = IsListed (bad_of d) (calls_of d)

-- It tells what the disk in memory tells; its faults are those of both, and so its failed page writes. It counts the calls that fail too.
abbrev pub faulty_meaning : Meaning FaultyDisk
faulty_meaning = record {
  size = λ d. mem_meaning.size d.inner;
  count = λ d. mem_meaning.count d.inner;
  held = λ d. mem_meaning.held d.inner;
  tells = λ d. mem_meaning.tells d.inner;
  moment = λ d. mem_meaning.moment d.inner;
  left = λ d t c. mem_meaning.left d.inner t c;
  faults = λ d. mem_meaning.faults d.inner + d.failed;
  failed_writes = λ d. mem_meaning.failed_writes d.inner + d.failed_writes;
  asked = λ d. d.asked;
  reads = λ d. d.reads;
  was_read = λ d n. mem_meaning.was_read d.inner n;
  most_writes = λ d. mem_meaning.most_writes d.inner;
}
