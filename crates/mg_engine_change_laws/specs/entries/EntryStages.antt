-- An entry was laid in an index of a table into which a transaction may write: the engine stays with its history, the
-- records are as they were, and the index finds the entry.
use Rattle.std.proofs.Common.{◌≡◌, ◌∙◌, ◌≤◌, ◌-◌, ◌/◌, refl, sym, ap, subst, ℕ, Bool, List, Option, Some}
use Rattle.mg_base.specs.Disk.{Meaning}
use Rattle.mg_base.specs.Image.{Image}
use Rattle.mg_base.specs.declared.geometry.Geometry.{Geometry}
use Rattle.mg_base.specs.declared.numbers.RecId.{RecId}
use Rattle.mg_base.specs.declared.transaction.TxState.{TxState}
use Rattle.mg_base.specs.declared.transaction.TxState.TheVariants.{Active}
use Rattle.mg_header.specs.declared.header.Header.{Header}
use Rattle.mg_engine_step_laws.specs.standing.BareLaws.{bare_grown}
use Rattle.mg_engine_step_laws.specs.writes.Knowing.{WasChanged}
use Rattle.mg_engine_step_laws.specs.commits.ListShows.{ListsStay}
use Rattle.mg_engine_step_laws.specs.writes.SpotLaws.{speaker_on, versions_on}
use Rattle.mg_engine_step_laws.specs.standing.Standing.{ShowsHistory, Standing, Stands}
use Rattle.mg_engine_step_laws.specs.writes.WritesLaws.{finds_on}
use Rattle.mg_entries.specs.Entries.{PutsEntry}
use Rattle.mg_entry_overlay_laws.specs.TreesSoundLaws.{page_there}
use Rattle.mg_entry_overlay_laws.specs.Entered.{KeepsRoots, ShowsEntries}
use Rattle.mg_entry_step_laws.specs.EntryStays.{EntriesStay, HasEntered}
use Rattle.mg_entry_tie_laws.specs.IndexPlaces.{HasRoot}
use Rattle.mg_image.specs.Form.{Form, Pages, Row, packed_coding, packed_form}
use Rattle.mg_image.specs.Indexes.{Finds, IsFoundIn}
use Rattle.mg_image.specs.Inventory.{last_sequence}
use Rattle.mg_image.specs.ReadingLaws.{RowsAreOne}
use Rattle.mg_image.specs.Records.{Reading, cells_of}
use Rattle.mg_image.specs.Sound.{facts_by}
use Rattle.mg_image.specs.Tables.{EachStand, Layout, Stand, stands_of, table_at}
use Rattle.mg_image_overlay_laws.specs.pages.Grow.{each_mid}
use Rattle.mg_image_overlay_laws.specs.tables.Growing.{IsTableOf}
use Rattle.mg_image_overlay_laws.specs.kept.KeptImages.{IsKept}
use Rattle.mg_image_overlay_laws.specs.tables.OneLayout.{StandsOneWay}
use Rattle.mg_image_overlay_laws.specs.names.Whose.{IsTableFor}
use Rattle.mg_lasting_laws.specs.Crashes.{HoldsAcknowledged, LeavesSince}
use Rattle.mg_lasting_laws.specs.Lasting.{LastsOn}
use Rattle.mg_model.specs.History.{Entries}
use Rattle.mg_model.specs.Openings.{everyone}
use Rattle.mg_model.specs.declared.opening.Opening.{Opening}
use Rattle.mg_model.specs.declared.table.Index.{Index}
use Rattle.mg_model.specs.declared.table.Table.{Table}
use Rattle.mg_node.specs.declared.entry.Entry.{Entry}
use Rattle.mg_overlay_laws.specs.Overlays.{left_state}
use Rattle.mg_pool.specs.Batch.{Changed}
use Rattle.mg_pool.specs.Pool.{shown}
use Rattle.mg_pool.specs.declared.pool.Pool.{Pool}
use Rattle.mg_pool_overlay_laws.specs.Needs.{Asked, Sessions}
use Rattle.mg_space.specs.declared.links.FireLinks.{FireLinks}
use Rattle.mg_tie_laws.specs.Changed.{fresh}
use Rattle.mg_tip.specs.TipPage.{places}
use Rattle.mg_txlist.specs.declared.list.TxList.{TxList}
use Rattle.mg_value.specs.declared.value.Value.{Value}
use Rattle.mg_engine_meaning_laws.specs.PlainTables.{HasPlainTables}
use Rattle.mg_engine_meaning_laws.specs.Standings.{HasTips}
use Rattle.mg_engine_change_laws.specs.memory.Directories.{StaysKnown}
use Rattle.mg_engine_change_laws.specs.memory.RecordChanges.{grown_keeps}
use Rattle.mg_engine_change_laws.specs.rows.PlainLaws.{grown_keeps_plain}
use Rattle.mg_engine_change_laws.specs.rows.Tips.{KeepsTips}
use Rattle.mg_engine_change_laws.specs.rows.WalkLaws.{others_walk_on}
use Rattle.mg_engine_change_laws.specs.rows.Walks.{OthersWalkOn}
use Rattle.mg_key_entry_laws.specs.KeptEntriesLaws.{entries_keep_found}

-- Pages show a history, and of pages before them these: who speaks for a key is who did, whose a page is and the records
-- on it are as they were, and what was found in the indexes of a table is found; and an index finds an entry.
pub record ShowsEntered (size : ℕ) (o : Opening) (h : Entries) (s : Standing) (list : TxList) (pool later : Pages)
    (layout : Layout) (reading : Reading) (speaker : List ℕ → Value → Option RecId) (indexes : List Index) (root : ℕ)
    (e : Entry) : Type 0 where
  pub stands : Stands packed_form size o h s (Some later)
  pub tips : HasTips list size later
  pub plain : HasPlainTables size s.state later
  pub speaks : stands.shows.versions.speaker ≡ speaker
  pub reads : stands.shows.reading ≡ reading
  pub facts : facts_by (left_state everyone s.state) later stands.shows.layout
      ≡ facts_by (left_state everyone s.state) pool layout
  pub owners : (n : ℕ) → table_at (stands_of stands.shows.layout) n ≡ table_at (stands_of layout) n
  pub cells : (p : RecId) (table : Table) → table_at (stands_of layout) p.page.0 ≡ Some table
      → cells_of later p ≡ cells_of pool p
  pub pages : (n : ℕ) (table : Table) → table_at (stands_of layout) n ≡ Some table → later n ≡ pool n
  pub found : (table : Table) (p : RecId) (row : Row) → table_at (stands_of layout) p.page.0 ≡ Some table
      → IsFoundIn pool table.indexes p row → IsFoundIn later table.indexes p row
  pub roots : KeepsRoots pool later indexes
  pub has : Finds later e root

-- An entry was laid: the cache, and its pages.
pub record StaysEntered {D : Type 0} (m : Meaning D) (o : Opening) (h : Entries) (s : Standing) (list : TxList)
    (before after : Pool D FireLinks) (was : Pages) (layout : Layout) (reading : Reading)
    (speaker : List ℕ → Value → Option RecId) (indexes : List Index) (asked : Asked) (session : Sessions) (t root : ℕ) (e : Entry) : Type 0 where
  pub image : Image
  pub held : m.held after.disk ≡ Some image
  pub keeps : KeepsTips before.geometry.size was (shown after.dirty image)
  pub lasts : LastsOn m packed_form o h after asked session
  pub leaves : LeavesSince m before.disk after.disk (HoldsAcknowledged packed_form before.dirty.size o h)
  pub others : OthersWalkOn before.geometry.size s was (shown after.dirty image) t
  pub known : StaysKnown before.geometry.size s.state was (shown after.dirty image)
  pub left : ShowsEntered after.geometry.size o h s list was (shown after.dirty image) layout reading
      speaker indexes root e

-- the pages of transactions stay where and as they were
pub entries_keep_tips : (form : Form) (size : ℕ) (state : ℕ → TxState) (pool later : Pages) (a : Layout) (r : Reading)
    → ShowsEntries form size state pool later a r → KeepsTips size pool later
entries_keep_tips form size state pool later a r entries = record {
  tips = λ sequence below. entries.tips sequence (subst (λ (n : ℕ). sequence ≤ n) last_same below);
  next = entries.bits.next;
  catalog = ap (λ (header : Header). header.catalog.0) entries.header;
}
  where
    last_same : last_sequence size later ≡ last_sequence size pool
    last_same = ap (λ (n : ℕ). (n - 1) / places size) entries.bits.next

-- an index of a table of the layout finds what it found
pub table_roots : (form : Form) (size : ℕ) (state : ℕ → TxState) (pool later : Pages) (a : Layout) (r : Reading)
    → ShowsEntries form size state pool later a r → (table : Table) → IsTableOf a table
    → KeepsRoots pool later table.indexes
table_roots form size state pool later a r entries table its = subst (λ (x : Table). KeepsRoots pool later x.indexes)
    its.table_is (each_mid (λ (st : Stand). KeepsRoots pool later st.table.indexes) its.before its.after its.stand
    (subst (λ (ss : List Stand). EachStand (λ st. KeepsRoots pool later st.table.indexes) ss) its.is_ entries.roots))

module _ (one : RowsAreOne packed_coding) (one_way : StandsOneWay packed_form) (lists_stay : ListsStay) {D : Type 0}
    (m : Meaning D) (stay : EntriesStay packed_form D FireLinks m) (o : Opening) (h : Entries) (s : Standing)
    (before after : Pool D FireLinks) (i j : Image) (batch : Changed) (list : TxList) (asked : Asked)
    (session : Sessions) (stands : Stands packed_form before.geometry.size o h s (Some (shown before.dirty i))) (t : ℕ)
    (table : Table) (root : ℕ) (e : Entry) (lasts : LastsOn m packed_form o h before asked session)
    (was : WasChanged m before after i j batch) (puts : PutsEntry before i fresh batch root e)
    (active : s.state t ≡ Active) (its : IsTableOf stands.shows.layout table) (has : HasRoot table.indexes root)
    (whose : IsTableFor packed_form before.geometry.size t s.state (shown before.dirty i) table)
    (plain : HasPlainTables before.geometry.size s.state (shown before.dirty i))
    (kept_each : (chosen : ℕ → Bool) → IsKept packed_form before.geometry.size o h (left_state chosen s.state)
    (shown before.dirty i) (shown before.dirty i))
    (tips : HasTips list before.geometry.size (shown before.dirty i)) where
  abbrev size : ℕ
  size = before.geometry.size

  abbrev pool : Pages
  pool = shown before.dirty i

  abbrev later : Pages
  later = shown after.dirty j

  abbrev shows : ShowsHistory packed_form size o h s pool
  shows = stands.shows

  entered : HasEntered m packed_form size o h s before after i j asked session shows.layout shows.reading root e
  entered = stay o h s before after i j batch asked session stands t table root e lasts was puts its has whose

  keeps_tips : KeepsTips size pool later
  keeps_tips = entries_keep_tips packed_form size (left_state everyone s.state) pool later shows.layout shows.reading
      entered.shows

  others : OthersWalkOn size s pool later t
  others = others_walk_on one size s pool later shows.layout shows.reading e.rec (shows.reading e.rec) shows.sound
      (record {
        layout = entered.shows.layout;
        reading = shows.reading;
        sound = entered.shows.sound;
        grown = entered.shows.grown;
        here = refl;
        others = λ q ne. refl;
      }) entered.shows.fronts t active (λ counts off. refl)

  shows_now : ShowsEntered size o h s list pool later shows.layout shows.reading shows.versions.speaker table.indexes root e
  shows_now = record {
    stands = record {
      opening = stands.opening;
      legal = stands.legal;
      memory = stands.memory;
      shows = record {
        layout = entered.shows.layout;
        reading = shows.reading;
        sound = entered.shows.sound;
        next = entered.shows.bits.next ∙ shows.next;
        versions = versions_on packed_form size o h s pool later shows entered.shows.layout entered.shows.grown;
        tables = λ u is. finds_on o h s shows.layout entered.shows.layout shows.reading u entered.shows.grown
            (shows.tables u is);
        found = entries_keep_found packed_form size (left_state everyone s.state) pool later shows.layout shows.reading
            entered.shows s.state s.live shows.found;
        bare = bare_grown shows.layout entered.shows.layout shows.reading entered.shows.grown shows.bare;
      };
    };
    tips = lists_stay list list size pool later refl refl keeps_tips.next keeps_tips.tips tips;
    plain = grown_keeps_plain one size o h s.state pool later shows.layout entered.shows.layout shows.reading e.rec
        shows.sound entered.shows.sound entered.shows.grown kept_each plain;
    speaks = speaker_on packed_form size o h s pool later shows entered.shows.layout entered.shows.grown;
    reads = refl;
    facts = entered.shows.facts;
    owners = entered.shows.owners;
    cells = entered.shows.cells;
    pages = λ n x of. entered.shows.leaves.tables n (page_there packed_form size (left_state everyone s.state) pool later
        shows.layout shows.reading shows.sound entered.shows.leaves (stands_of shows.layout) n x of);
    found = entered.shows.found;
    roots = table_roots packed_form size (left_state everyone s.state) pool later shows.layout shows.reading
        entered.shows table its;
    has = entered.has;
  }

  pub entered_stays : after.geometry ≡ before.geometry → m.held after.disk ≡ Some j
      → StaysEntered m o h s list before after pool shows.layout shows.reading shows.versions.speaker table.indexes
      asked session t root e
  entered_stays geometry held = record {
    image = j;
    held = held;
    keeps = keeps_tips;
    lasts = entered.stays.lasts;
    leaves = entered.stays.leaves;
    others = others;
    known = grown_keeps one_way size s.state pool later shows.layout entered.shows.layout shows.reading shows.sound
        entered.shows.sound entered.shows.grown.stays;
    left = subst (λ (g : Geometry). ShowsEntered g.size o h s list pool (shown after.dirty j) shows.layout
        shows.reading shows.versions.speaker table.indexes root e) (sym geometry) shows_now;
  }
