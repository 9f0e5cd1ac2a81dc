use Rattle.std.proofs.Common.{ℕ}
use Rattle.mg_no_damage_laws.proofs.BackLemmas.{all_stand_back}
use Rattle.mg_no_damage_laws.proofs.BackTableLemmas.{others_stand_back}
use Rattle.mg_no_damage_laws.proofs.backs.trees_stand_back.Goals as goal

pub returns : goal.returns
returns g c = record {
  all = all_stand_back {P = ℕ} g.D.Disk.meaning c.backs_are_known.ensures c.keys_meet_no_damage.ensures.damage
      c.keys_meet_no_damage.ensures.pages c.keys_enter_midway.ensures;
  others = others_stand_back {P = ℕ} g.D.Disk.meaning c.backs_are_known.ensures c.rows_are_given.ensures.apart
      c.rows_go_on.ensures c.keys_meet_no_damage.ensures.damage c.keys_meet_no_damage.ensures.pages
      c.rows_meet_no_damage.ensures c.records_are_those_of_every_reading.ensures.speakers
      c.records_are_those_of_every_reading.ensures.places c.keys_enter_midway.ensures;
}
