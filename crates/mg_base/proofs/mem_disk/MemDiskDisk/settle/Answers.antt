-- A settle of a settled disk does nothing, and of another one adds an act.
use Rattle.std.proofs.Common.{refl, ap, Some, arith}
use Rattle.mg_base.specs.MemDisk.{writes_of}
use Rattle.mg_base.specs.Acts.{times_settle, crash_settle, held_settle}
use Rattle.mg_base.proofs.mem_disk.MemDiskDisk.settle.Goals as goal

pub returns-clause-calm : goal.returns-clause-calm
returns-clause-calm c =
    let d = c.args.self.now in
    let times = times_settle d.size (writes_of d) d.settled in
    record {
      keeps = record {
        size = refl;
        tells = refl;
        most_writes = refl;
        time = λ told. record { later = times.later; nothing_else = times.nothing_else; keeps = times.keeps };
        never_falls = omega arith;
        cause = λ no. absurd (let n = no in cc);
        steady = refl;
      };
      count = refl;
      held = ap Some (held_settle d.size (writes_of d) d.settled);
      crash = λ told. crash_settle d.size (writes_of d) d.settled;
      asked = refl;
    }
