use Rattle.std.proofs.Common.{subst, sym}
use Rattle.mg_pool.specs.Pool.{HasAtMost}
use Rattle.mg_survey.specs.Survey.{IsSameDisk}
use Rattle.mg_core.proofs.OpeningLemmas.{finish_writes}
use Rattle.mg_core.proofs.parts.Core.close.Goals as goal

pub answer_of-requires : goal.answer_of-requires
answer_of-requires g c = finish_writes g.D.Disk.meaning c.args.self.store c.finish-ended.new.store c.finish-ended.result
    c.finish-ended.ensures.ends

pub returns : goal.returns
returns g c = record {
  new = c.finish-ended.new.store;
  is_disk = c.into_disk.ensures;
  ended = c.finish-ended.result;
  is = c.answer_of.ensures;
  finishes = c.finish-ended.ensures.ends;
  same = subst (λ (d : g.row.D.Denot). IsSameDisk g.D.Disk.meaning c.args.self.store.disk d)
      (sym c.into_disk.ensures) c.finish-ended.ensures.same;
  within = subst (λ (d : g.row.D.Denot). HasAtMost g.D.Disk.meaning d c.args.self.store.geometry.limit)
      (sym c.into_disk.ensures) c.finish-ended.ensures.within;
}
