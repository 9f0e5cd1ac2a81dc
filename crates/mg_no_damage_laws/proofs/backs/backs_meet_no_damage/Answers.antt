use Rattle.std.proofs.Common.{ℕ}
use Rattle.mg_no_damage_laws.proofs.BackLemmas.{marks_meet_no_damage, savepoints_meet_no_damage}
use Rattle.mg_no_damage_laws.proofs.backs.backs_meet_no_damage.Goals as goal

pub returns : goal.returns
returns g c = record {
  marks = marks_meet_no_damage {P = ℕ} g.D.Disk.meaning c.backs_are_known.ensures c.keys_meet_no_damage.ensures.damage
      c.keys_meet_no_damage.ensures.pages;
  savepoints = savepoints_meet_no_damage {P = ℕ} g.D.Disk.meaning c.backs_are_known.ensures
      c.keys_meet_no_damage.ensures.damage c.keys_meet_no_damage.ensures.pages;
}
