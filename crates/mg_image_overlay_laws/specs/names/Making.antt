-- Tables are made: what the statement owes of the catalog are the rows of its transaction alone.
use Rattle.std.proofs.Common.{◌≡◌, subst, ℕ, Bool, true, false, List, Option, map}
use Rattle.mg_base.specs.declared.transaction.TxState.{TxState}
use Rattle.mg_base.specs.declared.transaction.TxState.TheVariants.{Active, Limbo}
use Rattle.mg_careful.specs.CarefulWrite.{Cache, PageSet}
use Rattle.mg_careful.specs.Precedence.{Orders}
use Rattle.mg_value.specs.declared.value.Value.{Value}
use Rattle.mg_model.specs.History.{Entries}
use Rattle.mg_model.specs.Machine.{own}
use Rattle.mg_model.specs.declared.opening.Opening.{Opening}
use Rattle.mg_model.specs.declared.table.Table.{Table}
use Rattle.mg_image.specs.Form.{Form, Pages}
use Rattle.mg_image.specs.Held.{AreChanges, Changes}
use Rattle.mg_image.specs.Histories.{newest_at}
use Rattle.mg_image.specs.Records.{cells_of}
use Rattle.mg_image.specs.Sound.{facts_by}
use Rattle.mg_image.specs.Tables.{Stand}
use Rattle.mg_image_overlay_laws.specs.transactions.Begins.{Raises}
use Rattle.mg_image_overlay_laws.specs.kept.KeptImages.{IsKept, keeping}
use Rattle.mg_overlay_laws.specs.Overlays.{ChangesCache, EveryOverlay, KeepsNeeds, LaysBatch, NeedsAllDirty, laid, left_state, without}
use Rattle.mg_image_overlay_laws.specs.names.Creating.{CreatesTables, MakesTables, NamesMore, create_every, without_raises}
use Rattle.mg_image_overlay_laws.specs.names.JoinedRows.{with_tables}
use Rattle.mg_image_overlay_laws.specs.names.MadeRows.{MakesRows, names_more}

-- What the statement knows of an image that has all its pages and in which its transaction counts as
-- dead: the tables that it has made have places among those of the layout, by their names, and what they
-- owe there; the rows of the catalog that say them; the changes with them.
pub record MakesNamed (form : Form) (size : ℕ) (o : Opening) (h : Entries) (state now : ℕ → TxState)
    (t : ℕ) (raises : Raises state now t) (pages : Pages) (kept : IsKept form size o h state pages pages)
    : Type 0 where
  pub more : List Stand
  pub made : List Table
  pub in_place : with_tables made (map (λ s. s.table) kept.layout.tables) ≡ map (λ s. s.table) more
  pub makes : MakesTables form size state now t raises pages kept.layout.catalog kept.layout.sequences
      kept.layout.tables more kept.reading
  pub rows : MakesRows size (facts_by state pages kept.layout)
      (facts_by now pages (record kept.layout { tables = more })) t kept.reading kept.layout.catalog.table
      made (λ chosen. (kept.sound.names.lawful chosen).rows)
  pub changes : Changes
  pub changed : AreChanges (facts_by now pages (record kept.layout { tables = more })) kept.reading changes
  pub changes_are : (u : ℕ) (name : List ℕ) (key : Value) → now u ≡ Limbo
      → changes u name key ≡ newest_at (own o h u) name key

pub creates_of : (form : Form) (size : ℕ) (o : Opening) (h : Entries) (state now : ℕ → TxState)
    (t : ℕ) (raises : Raises state now t) (pages : Pages) (kept : IsKept form size o h state pages pages)
    → MakesNamed form size o h state now t raises pages kept
    → CreatesTables form size o h state now t raises pages kept
creates_of form size o h state now t raises pages kept made = record {
  more = made.more;
  makes = made.makes;
  names = subst (NamesMore size (facts_by now pages (record kept.layout { tables = made.more })) t
      kept.reading kept.layout.catalog.table kept.sound.names.named) made.in_place
      (names_more form.coding size (facts_by state pages kept.layout)
      (facts_by now pages (record kept.layout { tables = made.more })) (cells_of pages) t kept.reading
      kept.layout.catalog.table made.made (map (λ s. s.table) kept.layout.tables) (record {
        tables = λ p. made.makes.same p.page.0;
        raises = raises;
      }) kept.sound.records kept.sound.names made.rows);
  changes = made.changes;
  changed = made.changed;
  changes_are = made.changes_are;
}

-- a table is made by an active transaction, maybe after others: where the batch is kept with its writer
-- dead, and the writer may come to count as in limbo with all tables that it has made, whose rows alone
-- say them, every overlay is kept
abbrev pub MakeKeeps : Form → Type 0
MakeKeeps form = (size : ℕ) (o : Opening) (h later : Entries) (state : ℕ → TxState)
    (by : ℕ) (old new : Cache) (gone : PageSet) (batch : ℕ → Option (List ℕ)) (orders : Orders)
    (needs now : ℕ → PageSet)
    → ChangesCache old new gone batch orders → (active : state by ≡ Active)
    → KeepsNeeds old gone needs now
    → NeedsAllDirty new now by
    -- the half in which the writer counts as dead: rows of the catalog as pushes and first versions
    → ((chosen : ℕ → Bool) (set_ : PageSet) (image : Pages) → chosen by ≡ false
    → LaysBatch old.pool new.pool batch orders set_ image
    → IsKept form size o h (left_state chosen state) old.pool old.pool
    → IsKept form size o h (left_state chosen state) old.pool image
    → IsKept form size o later (left_state chosen state) new.pool (laid batch set_ image))
    -- the half in which it counts as in limbo
    → ((chosen : ℕ → Bool) (is : chosen by ≡ true)
    → IsKept form size o h (left_state chosen state) old.pool old.pool
    → (kept : IsKept form size o later (left_state (without by chosen) state) new.pool new.pool)
    → MakesNamed form size o later (left_state (without by chosen) state) (left_state chosen state) by
    (without_raises state by chosen active is) new.pool kept)
    → EveryOverlay (keeping form size o h) state old needs
    → EveryOverlay (keeping form size o later) state new now

pub make_every : (form : Form) → MakeKeeps form
make_every form size o h later state by old new gone batch orders needs now changes active left all part
    makes every = create_every form size o h later state by old new gone batch orders needs now changes
    active left all part (λ chosen is was kept. creates_of form size o later
    (left_state (without by chosen) state) (left_state chosen state) by
    (without_raises state by chosen active is) new.pool kept (makes chosen is was kept)) every
