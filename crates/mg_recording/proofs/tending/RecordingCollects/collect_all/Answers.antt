use Rattle.mg_recording.specs.Knowing.{Knows}
use Rattle.mg_recording.specs.declared.recording.Recording.{Recording}
use Rattle.mg_recording.proofs.CollectLemmas.{each_via}
use Rattle.mg_recording.proofs.tending.RecordingCollects.collect_all.Goals as goal

pub returns-clause-collects : goal.returns-clause-collects
returns-clause-collects g c = each_via {T = Recording g.row.R.Denot} g.R.Records.meaning g.R.Collects.collecting
    (λ t. t.keeper) (λ t o h. Knows t.trace t.active o h) c.args.self.now (record {
      keeper = c.collect_all.new.self;
      trace = c.args.self.now.trace;
      active = c.args.self.now.active;
    }) c.collect_all.result c.collect_all.ensures.collects
