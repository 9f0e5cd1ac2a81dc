-- The row of a key is there to be taken out, by what is read of the records of its table.
use Rattle.std.proofs.Common.{◌≡◌, ◌&&◌, ap, inl, inr, refl, sym, subst, ◌∙◌, ℕ, Bool, true, false, List, [], ◌∷◌, Option, None, Some}
use Rattle.std.specs.Prelude.{not}
use Rattle.mg_base.specs.declared.numbers.RecId.{RecId}
use Rattle.mg_base.specs.declared.transaction.TxState.{TxState}
use Rattle.mg_base.specs.declared.transaction.TxState.TheVariants.{Active}
use Rattle.mg_chain.specs.Chains.{newest_link}
use Rattle.mg_chain.specs.Views.{first_entry, is_dead}
use Rattle.mg_engine_step_laws.specs.standing.Listed.{page_listed}
use Rattle.mg_engine_step_laws.specs.tables.TablePages.{table_there}
use Rattle.mg_heap.specs.Table.{IsTable}
use Rattle.mg_heap.specs.Walk.{is_primary}
use Rattle.mg_image.specs.Form.{Pages, packed_form}
use Rattle.mg_image.specs.RecordRules.{Facts}
use Rattle.mg_image.specs.Records.{Cells, Chain, Reading, cells_of, ended, goes, record_key, writer}
use Rattle.mg_image.specs.Sound.{IsSoundBy, facts_by}
use Rattle.mg_image.specs.Tables.{Has, Layout, entries_in, stands_of, table_at}
use Rattle.mg_image.specs.declared.entry.Entry.{Entry as Read}
use Rattle.mg_image_overlay_laws.specs.tables.Growing.{IsTableOf}
use Rattle.mg_image_overlay_laws.specs.tables.OneChain.{link_once}
use Rattle.mg_image_overlay_laws.specs.tables.OneTable.{its_data}
use Rattle.mg_model.specs.Answers.{is_committed}
use Rattle.mg_model.specs.declared.table.Table.{Table}
use Rattle.mg_pointer.specs.PointerPage.{next_in}
use Rattle.mg_seek.specs.AmongLaws.{among_pages, newest_primary}
use Rattle.mg_seek.specs.Readings.{IsReadAt, PlacesOfReadings, SpeakIn, SpeakersOfReadings, placed_if}
use Rattle.mg_seek.specs.SpeakerLaws.{link_there}
use Rattle.mg_seek.specs.Speaking.{IsSpeaker}
use Rattle.mg_seek.specs.TableRecords.{EachRecord, IsAmong}
use Rattle.mg_seek.specs.Versions.{IsFirst, wants}
use Rattle.mg_seek.specs.declared.walk.Placed.{Placed}
use Rattle.mg_seek.specs.declared.whose.Wanted.TheVariants.{Any, Living}
use Rattle.mg_slots.specs.DataPage.{cell_of}
use Rattle.mg_snap.specs.Live.{State as Bases}
use Rattle.mg_table_unmaking.specs.Rows.{IsAlone}
use Rattle.mg_value.specs.declared.value.Value.{Value}
use Rattle.mg_version.specs.declared.cell.Link.{Link}
use Rattle.mg_no_damage_laws.specs.BackRows.{RowIsThere}

-- A record of a table has one version, a transaction's own, with a key; and no other record of the table speaks for the key.
pub record ReadsRow (state : ℕ → TxState) (live : Bases) (by : ℕ) (layout : Layout) (q : Reading) (table : Table)
    (key : Value) : Type 0 where
  pub p : RecId
  pub of : table_at (stands_of layout) p.page.0 ≡ Some table
  pub version : Read
  pub alone : q p ≡ version ∷ []
  pub its : writer version ≡ by
  pub keyed : record_key table (q p) ≡ key
  pub only : (rec : RecId) → table_at (stands_of layout) rec.page.0 ≡ Some table
      → SpeakIn state live table key (q rec) → rec ≡ p

in_each : (P : RecId → Type 0) (recs : List RecId) (rec : RecId) → EachRecord P recs → IsAmong recs rec → P rec
in_each P [] rec each among = absurd among
in_each P (first ∷ others) rec each (inl same) = subst P same each.0
in_each P (first ∷ others) rec each (inr later) = in_each P others rec each.1 later

and_none : (b : Bool) → (b && false) ≡ false
and_none true = refl
and_none false = refl

no_link : (h : Cells) (link : Option Link) → Chain h link [] → link ≡ None
no_link h link ended = refl

-- the one version of a chain has none behind it
last_one : (h : Cells) (link : Option Link) (e : Read) → Chain h link (e ∷ []) → e.version.back ≡ None
last_one h link e (goes l d rest at cell by more) = no_link h d.version.back more

module _ (speakers : SpeakersOfReadings) (places : PlacesOfReadings) (size : ℕ) (sound_by : ℕ → TxState) (view : Pages)
    (layout : Layout) (q : Reading) (sound : IsSoundBy packed_form size sound_by view layout q) (state : ℕ → TxState)
    (live : Bases) (by : ℕ) (active : state by ≡ Active) (table : Table) (stands : IsTableOf layout table) (key : Value)
    (reads : ReadsRow state live by layout q table key) where
  abbrev f : Facts
  f = facts_by sound_by view layout

  read_at : (rec : RecId) → table_at (stands_of layout) rec.page.0 ≡ Some table → IsReadAt view f q table rec
  read_at rec of = record { lawful = sound.records; of_table = of }

  there : IsTable view table.pointer.0 stands.stand.pointers stands.stand.data_pages
  there = table_there size sound_by view layout q sound table stands

  data_same : (pointers data_pages : List ℕ) → IsTable view table.pointer.0 pointers data_pages
      → data_pages ≡ stands.stand.data_pages
  data_same pointers data_pages is = is.entries ∙ (ap (entries_in view) (link_once (λ k. next_in (view k))
      table.pointer.0 pointers stands.stand.pointers is.chain there.chain) ∙ sym there.entries)

  chain : Chain (cells_of view) (newest_link view reads.p) (reads.version ∷ [])
  chain = subst (λ (es : List Read). Chain (cells_of view) (newest_link view reads.p) es) reads.alone
      (sound.records.reads reads.p table reads.of)

  lives : not (is_dead (state (writer reads.version))) ≡ true
  lives = ap (λ (n : ℕ). not (is_dead (state n))) reads.its ∙ ap (λ (x : TxState). not (is_dead x)) active

  open_still : is_committed (state (writer reads.version)) ≡ false
  open_still = ap (λ (n : ℕ). is_committed (state n)) reads.its ∙ ap is_committed active

  speaks : SpeakIn state live table key (q reads.p)
  speaks = record {
    newest = reads.version;
    first = ap (first_entry (wants state live Living)) reads.alone ∙ rw lives refl;
    stays = rw open_still (and_none reads.version.version.deleted);
    keyed = reads.keyed;
  }

  -- it is found
  found : IsSpeaker state live view table key None → ⊥
  found spoken = in_each _ spoken.records reads.p spoken.speaks
      (subst (λ (recs : List RecId). IsAmong recs reads.p) (sym spoken.of_table.are)
      (among_pages view spoken.of_table.data_pages reads.p on_page primary))
      ((speakers state live view table key reads.p f q (read_at reads.p reads.of)).1 speaks)
    where
      on_page : Has spoken.of_table.data_pages reads.p.page.0
      on_page = subst (λ (ns : List ℕ). Has ns reads.p.page.0)
          (sym (data_same spoken.of_table.pointers spoken.of_table.data_pages spoken.of_table.table))
          ((its_data packed_form size sound_by view layout q sound table stands reads.p.page.0).0 reads.of)

      primary : is_primary (cell_of (view reads.p.page.0) reads.p.slot) ≡ true
      primary = let (l, is) = link_there (cells_of view) (newest_link view reads.p) reads.version [] chain in
          newest_primary view reads.p l is

  -- and what is found is it
  it_is : (rec : RecId) → IsSpeaker state live view table key (Some rec) → rec ≡ reads.p
  it_is rec spoken = reads.only rec of
      ((speakers state live view table key rec f q (read_at rec of)).0 spoken.speaks.1)
    where
      of : table_at (stands_of layout) rec.page.0 ≡ Some table
      of = (its_data packed_form size sound_by view layout q sound table stands rec.page.0).1
          (subst (λ (ns : List ℕ). Has ns rec.page.0)
          (data_same spoken.of_table.pointers spoken.of_table.data_pages spoken.of_table.table)
          (page_listed view spoken.of_table.data_pages rec
          (subst (λ (recs : List RecId). IsAmong recs rec) spoken.of_table.are spoken.speaks.0)))

  own_alone : (newest : Option Placed) → IsFirst view (wants state live Any) reads.p newest → IsAlone by newest
  own_alone newest first = subst (IsAlone by) (sym
      (places (cells_of view) (wants state live Any) (newest_link view reads.p) newest (q reads.p) first
      (sound.records.reads reads.p table reads.of)
      ∙ ap (λ (es : List Read). placed_if (first_entry (wants state live Any) es)) reads.alone))
      (reads.its, last_one (cells_of view) (newest_link view reads.p) reads.version chain)

  pub row_is_there : RowIsThere state live by view table key
  row_is_there = record {
    some = found;
    own = λ rec newest spoken first. own_alone newest
        (subst (λ (x : RecId). IsFirst view (wants state live Any) x newest) (it_is rec spoken) first);
  }
