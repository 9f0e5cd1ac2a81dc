-- The places of walks.
use Rattle.std.specs.Prelude.{◌*◌, ◌+◌}
use Rattle.mg_core.specs.declared.scanning.Place.{Place}
use Rattle.mg_engine_meaning_laws.specs.Meaning.{Places}

-- places are ranked by the sequence of the data page, and then by the slot, which has two bytes
abbrev pub places : Places Place
places = record {
  rec = λ place. place.rec;
  sequence = λ place. place.sequence;
  rank = λ place. place.sequence * 65536 + place.rec.slot;
}
