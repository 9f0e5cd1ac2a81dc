use Rattle.std.proofs.Common.{ℕ}
use Rattle.mg_no_damage_laws.proofs.BackTableLemmas.{marks_over_meet_no_damage, savepoints_over_meet_no_damage}
use Rattle.mg_no_damage_laws.proofs.backs.backs_over_meet_no_damage.Goals as goal

pub returns : goal.returns
returns g c = record {
  marks = marks_over_meet_no_damage {P = ℕ} g.D.Disk.meaning c.backs_are_known.ensures c.rows_are_given.ensures.apart
      c.rows_go_on.ensures c.keys_meet_no_damage.ensures.damage c.keys_meet_no_damage.ensures.pages
      c.rows_meet_no_damage.ensures c.records_are_those_of_every_reading.ensures.speakers
      c.records_are_those_of_every_reading.ensures.places;
  savepoints = savepoints_over_meet_no_damage {P = ℕ} g.D.Disk.meaning c.backs_are_known.ensures
      c.rows_are_given.ensures.apart c.rows_go_on.ensures c.keys_meet_no_damage.ensures.damage
      c.keys_meet_no_damage.ensures.pages c.rows_meet_no_damage.ensures
      c.records_are_those_of_every_reading.ensures.speakers c.records_are_those_of_every_reading.ensures.places;
}
