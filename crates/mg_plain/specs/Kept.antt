-- What a plain machine keeps.
use Rattle.mg_plain.specs.declared.plain.Plain.{Plain}
use Rattle.mg_plain.specs.Keeping.{Keeping}

abbrev pub kept : Plain → Keeping
kept p = record {
  limit = p.limit;
  opened = p.opened;
  known = p.known.items;
  committed = p.committed.items;
  steps = p.steps.items;
  database = p.database.items;
  begun_by = p.begun_by.items;
}
