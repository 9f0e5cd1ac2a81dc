-- Keys are taken back, one after another.
use Rattle.std.proofs.Common.{◌≡◌, ◌⊎◌, inl, inr, sym, subst, ◌∙◌, ℕ, true, List, ◌∷◌, Option, Some}
use Rattle.mg_base.specs.Disk.{Meaning}
use Rattle.mg_base.specs.Image.{Image}
use Rattle.mg_base.specs.Moments.{joined, leaves_as}
use Rattle.mg_base.specs.declared.numbers.RecId.{RecId}
use Rattle.mg_careful.specs.Graph.{PageGraph}
use Rattle.mg_engine_step_laws.specs.backs.Again.{again, rolling, without_key}
use Rattle.mg_engine_step_laws.specs.backs.Midway.{GoesBack, IsBackAt, IsMidway, KeysComeBack, KeysGoOut, LastsDead}
use Rattle.mg_engine_step_laws.specs.backs.MidwayLaws.{holds_back, lasts_of}
use Rattle.mg_engine_step_laws.specs.backs.Shown.{ShowsMidway, ShowsOnward, TakesKeyBack}
use Rattle.mg_engine_step_laws.specs.writes.Batches.{ReadsLast}
use Rattle.mg_engine_step_laws.specs.writes.Knowing.{WasChanged}
use Rattle.mg_engine_change_laws.specs.keys.TakingSteps.{ComesBack, GoesOut, KeysGoOn, LaysEntryOf, StandsEntered, StandsMidway, TakesKeyOf, TakesKeysOf, no_keys, one_entry, one_key, some_read}
use Rattle.mg_entries.specs.Entries.{PutsEntry}
use Rattle.mg_entry_step_laws.specs.EntryMidway.{EntriesStayMidway, StaysMidway}
use Rattle.mg_entry_tie_laws.specs.IndexPlaces.{HasRoot}
use Rattle.mg_image.specs.Form.{Pages, packed_form}
use Rattle.mg_image.specs.Histories.{row_change}
use Rattle.mg_image.specs.Records.{Reading}
use Rattle.mg_image.specs.Sound.{IsSoundBy, facts_by}
use Rattle.mg_image.specs.Tables.{Layout, stands_of, table_at}
use Rattle.mg_lasting_laws.specs.Crashes.{HoldsAcknowledged, LeavesSince}
use Rattle.mg_lasting_laws.specs.Lasting.{LastsOn}
use Rattle.mg_model.specs.History.{Entries, Entry}
use Rattle.mg_model.specs.Legal.{IsLegal, MayBegin}
use Rattle.mg_model.specs.Openings.{everyone}
use Rattle.mg_model.specs.declared.change.Change.{Change}
use Rattle.mg_model.specs.declared.change.Point.{Point}
use Rattle.mg_model.specs.declared.opening.Opening.{Opening}
use Rattle.mg_model.specs.declared.table.Table.{Table}
use Rattle.mg_image_overlay_laws.specs.tables.Growing.{IsTableOf}
use Rattle.mg_image_overlay_laws.specs.tables.OneLayout.{StandsOneWay}
use Rattle.mg_image_overlay_laws.specs.names.Whose.{IsTableFor}
use Rattle.mg_node.specs.declared.entry.Entry.{Entry as IndexEntry}
use Rattle.mg_overlay_laws.specs.Overlays.{left_state}
use Rattle.mg_pool.specs.Batch.{Changed}
use Rattle.mg_pool.specs.Dirty.{DirtyPages}
use Rattle.mg_pool.specs.Pool.{shown}
use Rattle.mg_pool.specs.declared.pool.Pool.{Pool}
use Rattle.mg_pool_overlay_laws.specs.Needs.{Asked, Sessions}
use Rattle.mg_space.specs.View.{KeepsStore}
use Rattle.mg_tie_laws.specs.Changed.{KeptIn, fresh}
use Rattle.mg_engine_step_laws.specs.standing.Standing.{Remembers, ShowsHistory, Standing}
use Rattle.mg_engine_step_laws.specs.standing.Versions.{SpeaksFor}
use Rattle.mg_value.specs.declared.value.Value.{Value}

-- ---- pages were read

module _ {D L : Type 0} (m : Meaning D) (reads : ReadsLast D L m packed_form) (size : ℕ) (o : Opening) (h : Entries)
    (t : ℕ) (start before ready : Pool D L) (asked : Asked) (session : Sessions) (opening : MayBegin o)
    (legal : IsLegal o (rolling t ∷ h)) (keeps : KeepsStore m before ready) (tells : m.tells before.disk ≡ true)
    (page_size : before.dirty.size ≡ size)
    (midway : LastsDead m packed_form size o h t start before asked session) where
  both : LastsOn m packed_form o (rolling t ∷ h) ready asked session
      × LeavesSince m before.disk ready.disk (HoldsAcknowledged packed_form before.dirty.size o (rolling t ∷ h))
  both = reads o (rolling t ∷ h) before ready asked session opening legal tells keeps midway.lasts

  as_was : (c : Image) → HoldsAcknowledged packed_form before.dirty.size o (rolling t ∷ h) c
      → HoldsAcknowledged packed_form size o h c
  as_was c holds = subst (λ (n : ℕ). HoldsAcknowledged packed_form n o h c) page_size
      (holds_back packed_form before.dirty.size o h t c holds)

  pub read_lasts : LastsDead m packed_form size o h t start ready asked session
  read_lasts = record {
    lasts = both.0;
    leaves = record {
      since = joined m start.disk before.disk ready.disk (HoldsAcknowledged packed_form size o h) midway.leaves.since
          (leaves_as m before.disk ready.disk (HoldsAcknowledged packed_form before.dirty.size o (rolling t ∷ h))
          (HoldsAcknowledged packed_form size o h) as_was both.1.since);
      left = λ c may. as_was c (both.1.left c may);
    };
  }

module _ {D L : Type 0} (m : Meaning D) (reads : ReadsLast D L m packed_form) (size : ℕ) (o : Opening) (h : Entries)
    (e : Entry) (point : Point) (s : Standing) (start before ready : Pool D L) (i : Image) (asked : Asked)
    (session : Sessions) (t : ℕ) (left : List Change) (opening : MayBegin o) (legal : IsLegal o h)
    (goes : GoesBack o h e point s asked t) (keeps : KeepsStore m before ready) (tells : m.tells before.disk ≡ true)
    (page_size : before.dirty.size ≡ size)
    (midway : IsMidway m packed_form size o h e t left s start before i asked session) where
  then_ : LastsDead m packed_form size o h t start ready asked session
  then_ = read_lasts m reads size o h t start before ready asked session opening (goes.ends, legal) keeps tells page_size
      (lasts_of m packed_form size o h e t left s start before i asked session midway)

  pub read_cache : IsMidway m packed_form size o h e t left s start ready i asked session
  read_cache = record {
    kept = subst (λ (d : DirtyPages). KeptIn packed_form size o (again t left (e ∷ h)) s.state asked session
        (record ready { dirty = d }) i) (sym keeps.dirty)
        (subst (λ (g : PageGraph). KeptIn packed_form size o (again t left (e ∷ h)) s.state asked session
        (record ready { dirty = before.dirty; graph = g }) i) (sym keeps.graph) midway.kept);
    lasts = then_.lasts;
    leaves = then_.leaves;
  }

pub read_midway : {D L : Type 0} (m : Meaning D) → ReadsLast D L m packed_form → (size : ℕ) (o : Opening) (h : Entries)
    (e : Entry) (point : Point) (s : Standing) (start before ready : Pool D L) (begun : Pages)
    (first : ShowsHistory packed_form size o h s begun) (i : Image) (asked : Asked) (session : Sessions) (t : ℕ)
    (whole left : List Change) → MayBegin o → IsLegal o h → GoesBack o h e point s asked t → KeepsStore m before ready
    → m.tells before.disk ≡ true → before.dirty.size ≡ size
    → StandsMidway m size o h e t whole left s start before begun first i asked session
    → StandsMidway m size o h e t whole left s start ready begun first i asked session
read_midway m reads size o h e point s start before ready begun first i asked session t whole left opening legal goes
    keeps tells page_size midway = record {
      cache = read_cache m reads size o h e point s start before ready i asked session t left opening legal goes keeps
          tells page_size midway.cache;
      pages = subst (λ (d : DirtyPages). ShowsMidway packed_form size o h e t whole left s begun first (shown d i))
          (sym keeps.dirty) midway.pages;
    }

-- ---- one key

module _ {D L : Type 0} (m : Meaning D) (one_way : StandsOneWay packed_form) (out : KeysGoOut packed_form D L m)
    (back : KeysComeBack packed_form D L m) (onward : ShowsOnward packed_form) (o : Opening) (h : Entries) (e : Entry)
    (point : Point) (s : Standing) (start ready after : Pool D L) (begun : Pages) (i j : Image) (asked : Asked)
    (session : Sessions) (t : ℕ) (whole left : List Change) (opening : MayBegin o) (legal : IsLegal o h)
    (memory : Remembers o h s) (goes : GoesBack o h e point s asked t) (name : List ℕ) (key : Value) (batch : Changed)
    (was : WasChanged m ready after i j batch) (rec : RecId) (table : Table)
    (at_key : IsBackAt packed_form ready.geometry.size s (shown ready.dirty i) t table name key left rec)
    (how : GoesOut ready i batch o h e t name key rec ⊎ ComesBack ready i batch o h e t name key rec table)
    (first : ShowsHistory packed_form ready.geometry.size o h s begun)
    (spoken : first.versions.speaker name key ≡ Some rec)
    (midway : StandsMidway m ready.geometry.size o h e t whole left s start ready begun first i asked session) where
  abbrev page_bytes : ℕ
  page_bytes = ready.geometry.size

  stood : IsMidway m packed_form page_bytes o h e t (without_key name key left) s start after j asked session
      × ((speaker : List ℕ → Value → Option RecId) → speaker name key ≡ Some rec
      → TakesKeyBack packed_form page_bytes o h e t s (shown ready.dirty i) (shown after.dirty j) at_key.layout
      at_key.reading speaker name key rec table)
  stood = at how
    where
      at : GoesOut ready i batch o h e t name key rec ⊎ ComesBack ready i batch o h e t name key rec table
          → IsMidway m packed_form page_bytes o h e t (without_key name key left) s start after j asked session
          × ((speaker : List ℕ → Value → Option RecId) → speaker name key ≡ Some rec
          → TakesKeyBack packed_form page_bytes o h e t s (shown ready.dirty i) (shown after.dirty j) at_key.layout
          at_key.reading speaker name key rec table)
      at (inl goes_out) = out o h e point s start ready after i j batch asked session t name key left rec table opening
          legal memory goes midway.cache was goes_out.takes goes_out.its at_key goes_out.none
      at (inr comes) = back o h e point s start ready after i j batch asked session t name key comes.row left rec
          comes.version comes.stored table opening legal memory goes midway.cache was comes.replaces at_key comes.codes
          comes.entries comes.former

  -- the pages have one layout and one reading
  once : (at_key.layout ≡ midway.pages.layout) × (at_key.reading ≡ midway.pages.reading)
  once = one_way page_bytes (left_state everyone s.state) (shown ready.dirty i) at_key.layout midway.pages.layout
      at_key.reading midway.pages.reading at_key.sound midway.pages.sound

  takes : TakesKeyBack packed_form page_bytes o h e t s (shown ready.dirty i) (shown after.dirty j) midway.pages.layout
      midway.pages.reading first.versions.speaker name key rec table
  takes = subst (λ (r : Reading). TakesKeyBack packed_form page_bytes o h e t s (shown ready.dirty i) (shown after.dirty j)
      midway.pages.layout r first.versions.speaker name key rec table) once.1
      (subst (λ (l : Layout). TakesKeyBack packed_form page_bytes o h e t s (shown ready.dirty i) (shown after.dirty j) l
      at_key.reading first.versions.speaker name key rec table) once.0 (stood.1 first.versions.speaker spoken))

  -- its table was that of its page at first
  was_of : table_at (stands_of first.layout) rec.page.0 ≡ Some table
  was_of = at (subst (SpeaksFor o h (facts_by (left_state everyone s.state) begun first.layout) first.reading name key)
      spoken (first.versions.speaks name key))
    where
      at : SpeaksFor o h (facts_by (left_state everyone s.state) begun first.layout) first.reading name key (Some rec)
          → table_at (stands_of first.layout) rec.page.0 ≡ Some table
      at (its, versions) =
          let there : table_at (stands_of midway.pages.layout) rec.page.0 ≡ Some its.table =
          midway.pages.stays rec its.table its.of_table in
          let both : Some its.table ≡ Some table = sym there ∙ takes.of in
          its.of_table ∙ both

  pub key_goes_on : StandsMidway m page_bytes o h e t whole (without_key name key left) s start after begun first j asked
      session
  key_goes_on = record {
    cache = stood.0;
    pages = onward page_bytes o h e t whole left s begun (shown ready.dirty i) (shown after.dirty j) first midway.pages name
        key (row_change at_key.change) rec table at_key.to_take was_of takes;
  }

-- ---- an entry

module _ {D L : Type 0} (m : Meaning D) (stay : EntriesStayMidway packed_form D L m) (o : Opening) (h : Entries)
    (e : Entry) (point : Point) (s : Standing) (start : Pool D L) (begun : Pages) (asked : Asked) (session : Sessions)
    (t : ℕ) (whole left : List Change) (opening : MayBegin o) (legal : IsLegal o h) (memory : Remembers o h s)
    (goes : GoesBack o h e point s asked t) where
  -- at the size of the cache
  entry_at : (before after : Pool D L) (i j : Image) (batch : Changed) → WasChanged m before after i j batch
      → (table : Table) (root : ℕ) (x : IndexEntry) → PutsEntry before i fresh batch root x
      → HasRoot table.indexes root → (first : ShowsHistory packed_form before.geometry.size o h s begun)
      (midway : StandsMidway m before.geometry.size o h e t whole left s start before begun first i asked session)
      → IsTableOf midway.pages.layout table
      → IsTableFor packed_form before.geometry.size t s.state (shown before.dirty i) table
      → StandsEntered m before.geometry.size o h e t whole left s start before after begun first i j asked session midway
      root x
  entry_at before after i j batch was table root x puts has first midway its whose = record {
    entries = on.entries;
    then_ = record { cache = on.cache; pages = on.pages };
    layout = on.layout;
    reading = on.reading;
    has = on.has;
  }
    where
      on : StaysMidway m packed_form before.geometry.size o h e t whole left s start before after begun first i j asked
          session midway.pages root x
      on = stay o h e point s start before after begun first i j batch asked session t whole left table root x opening
          legal memory goes midway.cache midway.pages was puts its has whose

  pub entry_on : (size : ℕ) (first : ShowsHistory packed_form size o h s begun) (before after : Pool D L) (i j : Image)
      (laid : LaysEntryOf m size s t before after i j)
      (midway : StandsMidway m size o h e t whole left s start before begun first i asked session)
      → StandsEntered m size o h e t whole left s start before after begun first i j asked session midway laid.root
      laid.entry
  entry_on size first before after i j laid midway =
      subst (λ (n : ℕ). (its : ShowsHistory packed_form n o h s begun)
      (stands : StandsMidway m n o h e t whole left s start before begun its i asked session)
      → ((layout : Layout) (reading : Reading)
      → IsSoundBy packed_form n (left_state everyone s.state) (shown before.dirty i) layout reading
      → IsTableOf layout laid.table) → IsTableFor packed_form n t s.state (shown before.dirty i) laid.table
      → StandsEntered m n o h e t whole left s start before after begun its i j asked session stands laid.root laid.entry)
      laid.size_is
      (λ its stands there whose. entry_at before after i j laid.batch laid.was laid.table laid.root laid.entry laid.puts
      laid.has its stands (there stands.pages.layout stands.pages.reading stands.pages.sound) whose)
      first midway laid.stands laid.whose

-- ---- all keys

module _ {D L : Type 0} (m : Meaning D) (reads : ReadsLast D L m packed_form) (one_way : StandsOneWay packed_form)
    (stay : EntriesStayMidway packed_form D L m) (out : KeysGoOut packed_form D L m) (back : KeysComeBack packed_form D L m) (onward : ShowsOnward packed_form)
    (o : Opening) (h : Entries) (e : Entry) (point : Point) (s : Standing) (start : Pool D L) (begun : Pages)
    (asked : Asked) (session : Sessions) (t : ℕ) (whole : List Change) (opening : MayBegin o) (legal : IsLegal o h)
    (memory : Remembers o h s) (goes : GoesBack o h e point s asked t) where
  one_goes_on : (size : ℕ) (first : ShowsHistory packed_form size o h s begun) (left : List Change)
      (before after : Pool D L) (i j : Image) (name : List ℕ) (key : Value)
      → TakesKeyOf m size o h e t s first.versions.speaker left before after i j name key
      → StandsMidway m size o h e t whole left s start before begun first i asked session
      → StandsMidway m size o h e t whole (without_key name key left) s start after begun first j asked session
  one_goes_on size first left before after i j name key taken midway =
      subst (λ (n : ℕ). (its : ShowsHistory packed_form n o h s begun)
      → IsBackAt packed_form n s (shown taken.ready.dirty i) t taken.table name key left taken.rec
      → its.versions.speaker name key ≡ Some taken.rec
      → StandsMidway m n o h e t whole left s start taken.ready begun its i asked session
      → StandsMidway m n o h e t whole (without_key name key left) s start after begun its j asked session)
      taken.size_is
      (λ its at_key spoken stands. key_goes_on m one_way out back onward o h e point s start taken.ready after begun i j
      asked session t whole left opening legal memory goes name key taken.batch taken.was taken.rec taken.table at_key
      taken.how its spoken stands)
      first taken.at_key taken.spoken
      (read_midway m reads size o h e point s start before taken.ready begun first i asked session t whole left opening
      legal goes taken.keeps taken.tells taken.page_size midway)

  pub keys_on : (size : ℕ) (first : ShowsHistory packed_form size o h s begun) (keys left rest : List Change)
      (before after : Pool D L) (i j : Image)
      → TakesKeysOf m size o h e t s first.versions.speaker keys left rest before after i j
      → StandsMidway m size o h e t whole left s start before begun first i asked session
      → StandsMidway m size o h e t whole rest s start after begun first j asked session
  keys_on size first all left rest before after i j no_keys midway = midway
  keys_on size first all left rest before after i j (one_key {keys = keys} c mid k taken more) midway =
      keys_on size first keys (without_key c.table c.key left) rest mid after k j more
      (one_goes_on size first left before mid i k c.table c.key taken midway)
  keys_on size first all left rest before after i j (some_read mid keeps tells page_size more) midway =
      keys_on size first all left rest mid after i j more (read_midway m reads size o h e point s start before mid begun
      first i asked session t whole left opening legal goes keeps tells page_size midway)
  keys_on size first all left rest before after i j (one_entry mid k laid more) midway =
      keys_on size first all left rest mid after k j more (entry_on m stay o h e point s start begun asked session t whole
      left opening legal memory goes size first before mid i k laid midway).then_

pub keys_go_on : (D L : Type 0) (m : Meaning D) → ReadsLast D L m packed_form → StandsOneWay packed_form
    → EntriesStayMidway packed_form D L m → KeysGoOut packed_form D L m → KeysComeBack packed_form D L m → ShowsOnward packed_form → KeysGoOn D L m
keys_go_on D L m reads one_way stay out back onward size o h e point s start before after begun first i j asked session t
    whole left rest keys opening legal memory goes taken midway = keys_on m reads one_way stay out back onward o h e point s
    start begun asked session t whole opening legal memory goes size first keys left rest before after i j taken midway
