use Rattle.mg_engine_meaning_laws.specs.ReadLaws.{reads_all, reads_quiet}
use Rattle.mg_engine_meaning_laws.proofs.page_calls.reads_go_on.Goals as goal

pub returns : goal.returns
returns g c = λ places old store damage shortages refusal walks keeps damaged short may. (
  reads_all g.D.Disk.meaning places c.histories_go_on.ensures.begins c.batches_last.ensures.reads old store keeps
      damage shortages refusal walks damaged short may,
  reads_quiet g.D.Disk.meaning places c.histories_go_on.ensures.begins c.batches_last.ensures.reads old store keeps
      damage shortages,
)
