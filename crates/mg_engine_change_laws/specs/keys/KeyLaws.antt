-- What the core takes back for a key is a step of the laws.
use Rattle.std.proofs.Common.{◌≡◌, ◌≢◌, ◌⊎◌, inl, inr, ◌==◌, ap, refl, sym, subst, ◌∙◌, ℕ, Bool, true, false, List, [], ◌∷◌, None, Some}
use Rattle.std.specs.Cmp.Lexicographic.{same_text}
use Rattle.std.specs.Prelude.{◌+◌, if◌then◌else◌}
use Rattle.mg_base.specs.Disk.{Meaning}
use Rattle.mg_base.specs.Image.{Image}
use Rattle.mg_engine_meaning_laws.specs.PlainTables.{AreFirst}
use Rattle.mg_engine_meaning_laws.specs.Standings.{KeepsWritten}
use Rattle.mg_engine_change_laws.specs.rows.Codes.{StoredRowsAreCoded}
use Rattle.mg_engine_step_laws.specs.standing.Standing.{FindsTables, Remembers, ShowsHistory, Standing}
use Rattle.mg_engine_change_laws.specs.keys.Takings.{CoresTakeKeys, HasTakenKey, KnowsCache}
use Rattle.mg_engine_change_laws.specs.keys.BackTables.{ItsTablesMayBeWritten}
use Rattle.mg_engine_change_laws.specs.keys.Found.{IsItsRecord, ItsRecordIsFound}
use Rattle.mg_engine_change_laws.specs.keys.KeySteps.{FindsIts, KeyStepsAreTaken, PutsFormer, TakesItOut}
use Rattle.mg_engine_change_laws.specs.keys.TakingSteps.{StandsMidway, keys_then, no_keys, one_key, some_read}
use Rattle.mg_engine_change_laws.specs.keys.Written.{KeptTablesAreNamed}
use Rattle.mg_engine_step_laws.specs.writes.Knowing.{CodesRow}
use Rattle.mg_image.specs.Form.{Pages, packed_coding, packed_form}
use Rattle.mg_lasting_laws.specs.PoolLaws.{HoldsOne}
use Rattle.mg_model.specs.Catalog.{catalog_name}
use Rattle.mg_model.specs.Changes.{has_change, same_name}
use Rattle.mg_model.specs.History.{Entries, Entry}
use Rattle.mg_model.specs.Legal.{IsLegal, MayBegin}
use Rattle.mg_model.specs.Machine.{own}
use Rattle.mg_model.specs.Openings.{everyone}
use Rattle.mg_model.specs.declared.change.Change.{Change}
use Rattle.mg_model.specs.declared.opening.Opening.{Opening}
use Rattle.mg_model.specs.declared.table.Table.{Table}
use Rattle.mg_pool.specs.Pool.{shown}
use Rattle.mg_pool.specs.declared.pool.Pool.{Pool}
use Rattle.mg_pool_overlay_laws.specs.Needs.{Asked, Sessions}
use Rattle.mg_records.specs.declared.write.Write.TheVariants as writes
use Rattle.mg_row_writes.specs.Storing.{row_stored}
use Rattle.mg_space.specs.declared.links.FireLinks.{FireLinks}
use Rattle.mg_taking_back.specs.Formers.{MayComeBack}
use Rattle.mg_taking_back.specs.Keys.{IsOwnAt, PutsBack, TakesKey, former}
use Rattle.mg_undo.specs.Machine.{was_in}
use Rattle.mg_undo.specs.declared.changes.Was.{Was}
use Rattle.mg_undo.specs.declared.changes.Was.TheVariants as wases
use Rattle.mg_value.specs.declared.value.Value.{Value}
use Rattle.mg_works.specs.Works.{Working, written_to}
use Rattle.std.proofs.lemmas.Bool.{false≢true}
use Rattle.mg_engine_change_laws.specs.entries.BackEntries.{EntersMidway}
use Rattle.mg_engine_change_laws.specs.entries.BackEntryLaws.{HasChanged, all_midway, finds, has_changed, its_on, may_here, page_size, ready_is, ready_knows, ready_midway, stands_here}
use Rattle.mg_engine_change_laws.specs.entries.EnteredAllLaws.{no_more}
use Rattle.mg_engine_step_laws.specs.backs.Again.{without_key}
use Rattle.mg_engine_step_laws.specs.writes.Batches.{ReadsLast}
use Rattle.mg_engine_step_laws.specs.backs.Midway.{GoesBack}
use Rattle.mg_entries.specs.Entries.{LaysAll, no_index}
use Rattle.mg_entry_step_laws.specs.EntryMidway.{EntriesStayMidway}
use Rattle.mg_image.specs.Catalog.{IsSameTable}
use Rattle.mg_image.specs.Form.{Row}
use Rattle.mg_image.specs.ReadingLaws.{RowsAreOne}
use Rattle.mg_image_overlay_laws.specs.tables.Growing.{IsTableOf}
use Rattle.mg_image_overlay_laws.specs.tables.OneLayout.{StandsOneWay}
use Rattle.mg_model.specs.declared.change.Point.{Point}
use Rattle.mg_model.specs.declared.table.Index.{Index}
use Rattle.mg_pool.specs.Dirty.{DirtyPages}
use Rattle.mg_space.specs.ViewLaws.{keeps_itself}

-- ---- the step

module _ {D : Type 0} (m : Meaning D) (holds : HoldsOne D m) (one : RowsAreOne packed_coding)
    (one_way : StandsOneWay packed_form) (reads : ReadsLast D FireLinks m packed_form)
    (stay : EntriesStayMidway packed_form D FireLinks m) (coded : StoredRowsAreCoded) (found : ItsRecordIsFound)
    (may_write : ItsTablesMayBeWritten) (named : KeptTablesAreNamed) (steps_taken : KeyStepsAreTaken D m) (size : ℕ)
    (o : Opening) (h : Entries) (e : Entry) (point : Point) (t : ℕ) (whole left : List Change) (s : Standing)
    (start before after : Pool D FireLinks) (begun : Pages) (first : ShowsHistory packed_form size o h s begun)
    (i : Image) (asked : Asked) (session : Sessions)
    (midway : StandsMidway m size o h e t whole left s start before begun first i asked session) (opening : MayBegin o)
    (legal : IsLegal o h) (memory : Remembers o h s) (goes : GoesBack o h e point s asked t) (catalog : ℕ)
    (works : List Working) (keeps : KeepsWritten catalog works s.table) (knows : KnowsCache m size s before i)
    (c : Change) (other : c.table ≢ catalog_name) (to_take : has_change left c.table c.key ≡ true)
    (changed : has_change (own o h t) c.table c.key ≡ true) (table : Table)
    (kept : written_to works t (s.number t c.table) ≡ Some table)
    (takes : TakesKey m before after s.state s.live t table c.key (was_in (own o (e ∷ h) t) c.table c.key)) where
  finds_it : FindsTables o h s midway.pages.layout t
  finds_it = midway.pages.tables t goes.active

  name_is : table.name ≡ c.table
  name_is = named size o h s t (shown before.dirty i) midway.pages.layout midway.pages.reading catalog works
      midway.pages.sound finds_it keeps c.table c.key changed table kept

  no_catalog : same_name table.name catalog_name ≡ false
  no_catalog = at (same_name table.name catalog_name) refl
    where
      at : (b : Bool) → same_name table.name catalog_name ≡ b → same_name table.name catalog_name ≡ false
      at true is = absurd (other (sym name_is ∙ same_text table.name catalog_name (sym is)))
      at false is = is

  its_there : IsTableOf midway.pages.layout table
  its_there = stands_here m one one_way holds stay may_write size o h e point t whole left s start begun first asked session
      opening legal memory goes catalog works keeps (s.number t c.table) table kept before i midway knows

  first_columns : AreFirst table.shape.columns
  first_columns = (knows.plain.each everyone midway.pages.layout midway.pages.reading midway.pages.sound table
      its_there).first

  -- ---- the record

  own_at : IsOwnAt s.state s.live t (shown before.dirty i) table c.key takes.rec
  own_at = takes.own i knows.tells

  its_finds : FindsIts s (shown before.dirty i) t table c.key takes.rec
  its_finds = finds m one one_way holds stay may_write size o h e point t whole left s start begun first asked session
      opening legal memory goes catalog works keeps (s.number t c.table) table kept reads found before i midway knows c.key
      takes.rec own_at

  pages_long : before.dirty.size ≡ size
  pages_long = page_size m one one_way holds stay may_write size o h e point t whole left s start begun first asked session
      opening legal memory goes catalog works keeps (s.number t c.table) table kept reads found before i midway knows c.key
      takes.rec own_at

  -- pages were read

  abbrev read_then : StandsMidway m size o h e t whole left s start takes.ready begun first i asked session
  read_then = ready_midway m one one_way holds stay may_write size o h e point t whole left s start begun first asked
      session opening legal memory goes catalog works keeps (s.number t c.table) table kept reads found before i midway
      knows c.key takes.rec own_at takes.ready takes.keeps takes.online.1

  read_knows : KnowsCache m size s takes.ready i
  read_knows = ready_knows m one one_way holds stay may_write size o h e point t whole left s start begun first asked session
      opening legal memory goes catalog works keeps (s.number t c.table) table kept reads found before i midway knows c.key
      takes.rec own_at takes.ready takes.keeps takes.online.1

  read_is : IsItsRecord size o h e t whole left s begun (shown takes.ready.dirty i) first read_then.pages table c.key
      takes.rec
  read_is = ready_is m one one_way holds stay may_write size o h e point t whole left s start begun first asked session
      opening legal memory goes catalog works keeps (s.number t c.table) table kept reads found before i midway knows c.key
      takes.rec own_at takes.ready takes.keeps takes.online.1

  -- ---- the batch of the record, from wherever the cache is known

  record_taken : (pool : Pool D FireLinks) (k : Image)
      (here : StandsMidway m size o h e t whole left s start pool begun first k asked session)
      → KnowsCache m size s pool k
      → IsItsRecord size o h e t whole left s begun (shown pool.dirty k) first here.pages table c.key takes.rec
      → HasChanged m pool after
      → TakesItOut m s pool after k t table c.key takes.rec (own o (e ∷ h) t)
      ⊎ PutsFormer m pool after k t table c.key takes.rec (own o (e ∷ h) t)
      → HasTakenKey m size o h e t whole left s start pool after k asked session first.versions.speaker c
  record_taken pool k here knows_it is then_ puts =
      let (j, held, left_) = holds after.disk then_.told in record {
        image = j;
        steps = one_key c after j (steps_taken size o h e t whole left s start pool after begun first k j asked session
            here opening legal memory goes.active c.table c.key table to_take (record {
              may = may_here m one one_way holds stay may_write size o h e point t whole left s start begun first asked
                  session opening legal memory goes catalog works keeps (s.number t c.table) table kept pool k here knows_it
                  c.key takes.rec is;
              named = name_is;
            }) (record {
              pool = knows_it.pool_is;
              size_is = knows_it.size_is;
              geometry = knows_it.geometry;
              tells = knows_it.tells;
              ready = pool;
              keeps = keeps_itself m pool knows_it.pool_is;
              rec = takes.rec;
              puts = puts;
              held = held;
              told = then_.told;
            }) is) no_keys;
        pool_is = then_.pool;
        geometry = then_.geometry;
        online = then_.online;
        tells = record { told = then_.told; held = held };
      }

  -- behind the entries of the row that comes back
  behind : (entered : Pool D FireLinks) (indexes : List Index) (row : Row)
      (all : EntersMidway m size o h e t whole left s start takes.ready entered begun first i asked session read_then
      indexes takes.rec row) → HasChanged m entered after
      → PutsFormer m entered after all.image t table c.key takes.rec (own o (e ∷ h) t)
      → HasTakenKey m size o h e t whole left s start takes.ready after i asked session first.versions.speaker c
  behind entered indexes row all then_ puts =
      let inner = record_taken entered all.image all.then_ all.knows
      (its_on size o h e t whole left s begun (shown takes.ready.dirty i) (shown entered.dirty all.image) first
      read_then.pages all.then_.pages table c.key takes.rec all.reading (all.owners takes.rec.page.0) read_is) then_
      (inr puts) in record {
        image = inner.image;
        steps = keys_then m size o h e t s first.versions.speaker [] (c ∷ []) left left
            (without_key c.table c.key left) takes.ready entered after i all.image inner.image all.steps inner.steps;
        pool_is = inner.pool_is;
        geometry = inner.geometry ∙ all.geometry;
        online = inner.online;
        tells = inner.tells;
      }

  -- behind pages that were read
  behind_read : HasTakenKey m size o h e t whole left s start takes.ready after i asked session first.versions.speaker c
      → HasTakenKey m size o h e t whole left s start before after i asked session first.versions.speaker c
  behind_read inner = record {
    image = inner.image;
    steps = some_read takes.ready takes.keeps knows.tells.told pages_long inner.steps;
    pool_is = inner.pool_is;
    geometry = inner.geometry ∙ takes.keeps.geometry;
    online = inner.online;
    tells = inner.tells;
  }

  -- ---- what comes back

  same_table : IsSameTable table table
  same_table = record { name = refl; shape = refl; pointer = refl }

  was_its : (w : Was) → was_in (own o (e ∷ h) t) c.table c.key ≡ w → was_in (own o (e ∷ h) t) table.name c.key ≡ w
  was_its w is = ap (λ (n : List ℕ). was_in (own o (e ∷ h) t) n c.key) name_is ∙ is

  -- the entries of a row, all of them
  row_midway : (row : Row) (entered : Pool D FireLinks) → LaysAll m table.indexes takes.rec row takes.ready entered
      → EntersMidway m size o h e t whole left s start takes.ready entered begun first i asked session read_then
      table.indexes takes.rec row
  row_midway row entered laid = all_midway m one one_way holds stay may_write size o h e point t whole left s start begun
      first asked session opening legal memory goes catalog works keeps (s.number t c.table) table kept takes.ready i
      read_then read_knows c.key takes.rec read_is table.indexes [] (sym (no_more table.indexes)) row entered laid

  -- of a deletion there are none
  none_midway : (entered : Pool D FireLinks) → entered ≡ takes.ready
      → EntersMidway m size o h e t whole left s start takes.ready entered begun first i asked session read_then []
      takes.rec []
  none_midway entered same = subst (λ (b : Pool D FireLinks). EntersMidway m size o h e t whole left s start takes.ready b
      begun first i asked session read_then [] takes.rec []) (sym same) (all_midway m one one_way holds stay may_write
      size o h e point t whole left s start begun first asked session opening legal memory goes catalog works keeps
      (s.number t c.table) table kept takes.ready i read_then read_knows c.key takes.rec read_is [] table.indexes refl
      [] takes.ready (no_index takes.rec [] takes.ready))

  taken_at : (w : Was) → was_in (own o (e ∷ h) t) c.table c.key ≡ w → MayComeBack table.shape c.key w
      → PutsBack m takes.ready after t table takes.rec (former c.key w)
      → HasTakenKey m size o h e t whole left s start takes.ready after i asked session first.versions.speaker c
  taken_at wases.Untouched is may puts = record_taken takes.ready i read_then read_knows read_is
      (has_changed m takes.ready after _ read_knows.tells.told puts) (inl (record {
        finds = subst (λ (d : DirtyPages). FindsIts s (shown d i) t table c.key takes.rec) (sym takes.keeps.dirty) its_finds;
        takes = puts;
        was = was_its wases.Untouched is;
      }))
  taken_at wases.Deleted is may puts =
      let all = none_midway puts.enters.entered puts.enters.enters in
      behind puts.enters.entered [] [] all
      (has_changed m puts.enters.entered after _ all.knows.tells.told puts.enters.lays) (record {
        row = None;
        version = puts.version;
        stored = row_stored table (writes.Erase c.key);
        replaces = puts.enters.lays;
        codes = coded table table t (writes.Erase c.key) puts.version same_table no_catalog first_columns puts.fits puts.stored;
        entries = λ live. absurd (false≢true (sym live ∙ puts.stored.deleted));
        was = was_its wases.Deleted is;
      })
  taken_at (wases.Row row) is may puts =
      let all = row_midway row puts.enters.entered puts.enters.enters in
      behind puts.enters.entered table.indexes row all
      (has_changed m puts.enters.entered after _ all.knows.tells.told puts.enters.lays) (record {
        row = Some row;
        version = puts.version;
        stored = row_stored table (writes.Insert row);
        replaces = puts.enters.lays;
        codes = subst (λ (k : Value). CodesRow packed_coding table puts.version row t k (Some row)) may
            (coded table table t (writes.Insert row) puts.version same_table no_catalog first_columns puts.fits
            puts.stored);
        entries = λ live. all.found;
        was = was_its (wases.Row row) is;
      })

  pub has_taken : HasTakenKey m size o h e t whole left s start before after i asked session first.versions.speaker c
  has_taken = behind_read (taken_at (was_in (own o (e ∷ h) t) c.table c.key) refl takes.comes takes.puts)

pub cores_take_keys : {D : Type 0} (m : Meaning D) → HoldsOne D m → RowsAreOne packed_coding → StandsOneWay packed_form
    → ReadsLast D FireLinks m packed_form → EntriesStayMidway packed_form D FireLinks m → StoredRowsAreCoded
    → ItsRecordIsFound → ItsTablesMayBeWritten → KeptTablesAreNamed → KeyStepsAreTaken D m → CoresTakeKeys D m
cores_take_keys m holds one one_way reads stay coded found may_write named steps_taken size o h e point t whole left s
    start before after begun first i asked session midway opening legal memory goes catalog works keeps knows c other
    to_take changed table kept takes = has_taken m holds one one_way reads stay coded found may_write named steps_taken
    size o h e point t whole left s start before after begun first i asked session midway opening legal memory goes
    catalog works keeps knows c other to_take changed table kept takes
