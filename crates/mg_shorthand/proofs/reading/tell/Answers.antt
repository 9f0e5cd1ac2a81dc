use Rattle.std.proofs.Common.{Some, false, refl, w64}
use Rattle.std.proofs.lemmas.Int.{to_z-of_z}
use Rattle.mg_model.specs.declared.refusal.Refusal.TheVariants.{Memory}
use Rattle.mg_courses.specs.CarryLaws.{carries_none}
use Rattle.mg_shorthand.proofs.GoingLemmas.{spares_quiet}
use Rattle.mg_shorthand.proofs.ReadingLemmas.{stopped}
use Rattle.mg_shorthand.proofs.reading.tell.Goals as goal

pub tell_so-requires-clause-filter : goal.tell_so-requires-clause-filter
tell_so-requires-clause-filter g c = c.in-Ok.ensures.filter

pub returns-in-Ok-clause-reads : goal.returns-in-Ok-clause-reads
returns-in-Ok-clause-reads g c = λ o h seen found.
    let reads = rw (to_z-of_z w64 c.args.key c.ranges.key) at c.tell_so.ensures.reads in
    reads c.args.row o h c.in-Ok.ensures.rows seen found

pub returns-in-Err-clause-reads : goal.returns-in-Err-clause-reads
returns-in-Err-clause-reads g c = λ o h seen found stands active. record {
  after = h;
  runs = stopped o h c.args.t c.args.key Memory refl;
  stands = stands;
  carries = carries_none g.R.Records.meaning g.met.R.Records.crashes c.args.r.now o h stands;
}

pub returns-in-Err-clause-spares : goal.returns-in-Err-clause-spares
returns-in-Err-clause-spares g c = λ before spares.
    spares_quiet g.R.Records.meaning before c.args.r.now c.args.t (Some Memory) false tt spares
