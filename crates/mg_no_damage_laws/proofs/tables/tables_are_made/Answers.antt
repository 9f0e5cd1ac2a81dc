use Rattle.mg_no_damage_laws.proofs.MakeLemmas.{tables_are_made}
use Rattle.mg_no_damage_laws.proofs.tables.tables_are_made.Goals as goal

pub returns : goal.returns
returns g c = tables_are_made g.D.Disk.meaning (record {
  there = c.stands_are_read.ensures.there;
  walked = c.stands_are_read.ensures.walked;
  reached = c.stands_are_read.ensures.reached;
  lasts = c.stands_are_read.ensures.lasts;
  taken = c.pages_are_taken.ensures.taken;
  kept = c.pages_are_taken.ensures.kept;
  one = c.one_reading.ensures.packed_rows;
}) g.met.D.Disk.holds
