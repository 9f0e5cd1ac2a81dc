-- What a history may begin with promises any number of pages that are free: nothing else of an opening speaks of them.
use Rattle.std.specs.Prelude.{ℕ, []}
use Rattle.mg_grown_catalog_laws.specs.Grown.{CatalogGrows}
use Rattle.mg_image.specs.Histories.{Begins}
use Rattle.mg_image.specs.Opening.{Opened}
use Rattle.mg_model.specs.Openings.{IsOpening}
use Rattle.mg_model.specs.declared.opening.Opening.{Opening}
use Rattle.mg_runs.specs.Entry.{promising}
use Rattle.mg_runs.specs.Laws.{AnyFreeBegins}

module _ (free : ℕ) (o : Opening) where
  begins_so : (opened : Opened) → Begins opened o → Begins opened (promising free o)
  begins_so opened it = record { rows = it.rows; limbo = it.limbo; next = it.next; state = it.state }

  whole_so : IsOpening o → IsOpening (promising free o)
  whole_so it = record {
    first = it.first;
    last = it.last;
    limit = it.limit;
    states = it.states;
    ended = it.ended;
    in_limbo = it.in_limbo;
    rows_apart = it.rows_apart;
    changes_apart = it.changes_apart;
    lawful = it.lawful;
    shapes = it.shapes;
    rows_fit = it.rows_fit;
    changes_fit = it.changes_fit;
  }

  grows_so : CatalogGrows o [] → CatalogGrows (promising free o) []
  grows_so it = record { limbo = it.limbo; entries = it.entries }

pub any_free_begins : AnyFreeBegins
any_free_begins size image o free it = record {
  opened = it.opened;
  sound = it.sound;
  begins = begins_so free o it.opened it.begins;
  whole = whole_so free o it.whole;
  limit = it.limit;
  grows = grows_so free o it.grows;
  plain_tables = it.plain_tables;
}
