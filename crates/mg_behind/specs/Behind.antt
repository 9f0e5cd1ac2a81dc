-- What the disk tells: its mirror, and nothing of crashes.
use Rattle.std.specs.Prelude.{◌≡◌, ◌≤◌, ◌+◌, ℕ, true, false, Some, None, List, length}
use Rattle.std.proofs.Common.{arith}
use Rattle.std.proofs.lemmas.List.{length-take}
use Rattle.mg_base.specs.Image.{Image}
use Rattle.mg_base.specs.Disk.{Meaning, MayLeave}
use Rattle.mg_base.specs.declared.disk.Disk as disk
use Rattle.mg_behind.specs.Mirror.{shown}
use Rattle.rtrb.specs.Ring.{sent, received}
use Rattle.mg_behind.specs.declared.job.Job.{Job}
use Rattle.mg_behind.specs.declared.job.Receipt.{Receipt}
use Rattle.mg_behind.specs.declared.started.Started as started
use Rattle.mg_behind.specs.declared.behind.Behind.{Behind}

module _ {D R J : Type 0} {d : disk.Ghosts D} {j : started.Ghosts J D} where
  -- the jobs that were issued, the first of them first
  abbrev pub jobs_of : Behind D R J d j → List Job
  jobs_of b = sent b.line.jobs

  -- the receipts that were read, the first of them first
  abbrev pub receipts_of : Behind D R J d j → List Receipt
  receipts_of b = received b.line.receipts

  abbrev pub pages_of : Behind D R J d j → Image
  pages_of b = shown b.mirror

  abbrev pub behind_meaning : Meaning (Behind D R J d j)
  behind_meaning = record {
    size = λ b. Some b.mirror.size;
    count = λ b. Some b.mirror.used;
    held = λ b. Some (shown b.mirror);
    tells = λ b. false;
    moment = λ b. 0;
    left = λ b t c. Unit {0};
    faults = λ b. b.refused + b.past;
    failed_writes = λ b. b.refused + b.past;
    asked = λ b. 0;
    reads = λ b. 0;
    was_read = λ b n. false;
    most_writes = λ b. None;
  }

  pub behind_holds : (b : Behind D R J d j) → false ≡ true → (image : Image) × (Some (shown b.mirror) ≡ Some image) × MayLeave behind_meaning b image
  behind_holds b told = absurd (cc (told))

  pub behind_counts_now : (b : Behind D R J d j) (t : ℕ) (c : Image) → false ≡ true → t ≤ 0 → MayLeave behind_meaning b c → Unit {0}
  behind_counts_now b t c told le now = tt

  pub behind_counted : (b : Behind D R J d j) (image : Image) (n : ℕ) → Some (shown b.mirror) ≡ Some image → Some b.mirror.used ≡ Some n → length image ≡ n
  behind_counted b image n is told =
      let k = b.mirror.kept in let r = k.room in let f = k.fits in
      let l : length (shown b.mirror) ≡ b.mirror.used = grind (arith, length-take) in cc (l, is, told)
