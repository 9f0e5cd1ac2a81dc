use Rattle.mg_engine_meaning_laws.specs.LawfulLaws.{crashes_hold, holds_on, pages_are_few, tables_are_seen, walks_are_whole}
use Rattle.mg_engine_meaning_laws.proofs.meaning.engines_keep.Goals as goal

pub returns : goal.returns
returns g c = λ places. record {
  seen = tables_are_seen g.D.Disk.meaning places;
  whole = walks_are_whole g.D.Disk.meaning places c.walks_are_answered.ensures.begin;
  few = pages_are_few g.D.Disk.meaning places;
  crashes = crashes_hold g.D.Disk.meaning places;
  lasts = holds_on g.D.Disk.meaning places;
}
