use Rattle.mg_engine_meaning_laws.specs.VisitLaws.{visits_record}
use Rattle.mg_engine_meaning_laws.proofs.calls.visits_go_on.Goals as goal

pub returns : goal.returns
returns g c = λ places old new t table after result ranked counts in_rank scans. visits_record g.D.Disk.meaning
    places ranked c.reads_go_on.ensures (c.engines_keep.ensures places) c.walks_are_answered.ensures.visits old t table after counts new result
    in_rank scans
