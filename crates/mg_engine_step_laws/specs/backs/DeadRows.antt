-- A transaction is dead, and some of its rows are no longer on the pages: they show what they showed.
use Rattle.std.specs.Prelude.{◌≡◌, ◌⊎◌, ℕ}
use Rattle.mg_base.specs.declared.numbers.RecId.{RecId}
use Rattle.mg_base.specs.declared.transaction.TxState.TheVariants.{Dead}
use Rattle.mg_engine_step_laws.specs.tables_back.Outs.{GoesWhole}
use Rattle.mg_engine_step_laws.specs.standing.Standing.{ShowsHistory, Standing}
use Rattle.mg_image.specs.Form.{Form, Pages}
use Rattle.mg_image.specs.Inventory.{next_of}
use Rattle.mg_image.specs.Records.{Reading}
use Rattle.mg_image.specs.Sound.{IsSoundBy}
use Rattle.mg_image.specs.Tables.{Layout}
use Rattle.mg_model.specs.History.{Entries}
use Rattle.mg_model.specs.Openings.{everyone}
use Rattle.mg_model.specs.declared.opening.Opening.{Opening}
use Rattle.mg_overlay_laws.specs.Overlays.{left_state}

-- The pages keep their layout, and of each record they have what they had, or it had one version, of the dead one, and has none.
abbrev pub DeadRowsGo : Form → Type 0
DeadRowsGo form = (size : ℕ) (o : Opening) (h : Entries) (s : Standing) (by : ℕ) (pages later : Pages)
    (shows : ShowsHistory form size o h s pages) (c : Layout) (rc : Reading) → s.state by ≡ Dead
    → IsSoundBy form size (left_state everyone s.state) later c rc → shows.layout ≡ c → next_of later ≡ next_of pages
    → ((p : RecId) → (rc p ≡ shows.reading p) ⊎ GoesWhole by (shows.reading p) (rc p))
    → ShowsHistory form size o h s later
