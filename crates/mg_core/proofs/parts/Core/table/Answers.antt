use Rattle.std.proofs.Common.{refl}
use Rattle.mg_core.specs.Tables.{by_call, by_memory}
use Rattle.mg_core.proofs.TableLemmas.{reads_none}
use Rattle.mg_core.proofs.parts.Core.table.Goals as goal

pub returns-in-Err-clause-table : goal.returns-in-Err-clause-table
returns-in-Err-clause-table g c = by_call c.in-Err.refusal c.in-Err.ensures refl

pub returns-in-Err-given-clause-table : goal.returns-in-Err-given-clause-table
returns-in-Err-given-clause-table g c = by_memory (record {
  continues = c.in-Ok.ensures;
  reads = reads_none g.D.Disk.meaning c.args.self.now c.requires c.in-Ok.ensures.0;
  same = refl;
})
