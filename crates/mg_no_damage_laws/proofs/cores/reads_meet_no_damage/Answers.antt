use Rattle.mg_no_damage_laws.proofs.ReadLemmas.{befores_are_read, keys_are_noted, records_are_passed, rows_are_found, tables_are_passed}
use Rattle.mg_no_damage_laws.proofs.cores.reads_meet_no_damage.Goals as goal

pub returns : goal.returns
returns g c = record {
  tables = tables_are_passed g.D.Disk.meaning c.keys_are_read.ensures.obstacles;
  rows = rows_are_found g.D.Disk.meaning c.keys_are_read.ensures.keys;
  records = records_are_passed g.D.Disk.meaning c.keys_are_read.ensures.ways;
  befores = befores_are_read g.D.Disk.meaning c.keys_are_read.ensures.speakers;
  noted = keys_are_noted g.D.Disk.meaning c.lawful_tables_are_read.ensures.tables;
}
