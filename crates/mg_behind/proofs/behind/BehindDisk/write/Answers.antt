use Rattle.std.proofs.Common.{◌+◌, Some, length, max, refl, ap, ◌∙◌, arith}
use Rattle.mg_base.specs.Image.{written}
use Rattle.mg_behind.proofs.Writing.{some_is}
use Rattle.mg_behind.proofs.behind.BehindDisk.write.Goals as goal

pub returns-clause-writes : goal.returns-clause-writes
returns-clause-writes g c = record {
  count = λ n is. ap Some (c.put.ensures.used ∙ ap (λ k. max k (c.args.page.0 + 1)) (some_is is));
  stored = λ image is. ap Some (c.put.ensures.written ∙ ap (λ i. written (length c.args.bytes.now) i c.args.page.0 c.args.bytes.now) (some_is is));
  failed = tt;
  failed_count = tt;
  crash = λ told. absurd (cc (told));
  untold = λ none. absurd (cc (none));
  asked = omega arith;
  unread = record { reads = refl; was_read = λ n. refl };
  keeps = record {
    size = ap Some c.put.ensures.size;
    tells = refl;
    most_writes = refl;
    time = λ told. absurd (cc (told));
    never_falls = omega arith;
    cause = λ bad. absurd (cc (bad));
    steady = refl;
  };
}
