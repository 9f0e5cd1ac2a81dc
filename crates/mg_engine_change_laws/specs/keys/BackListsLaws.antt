-- The pages of transactions stay, and tables stay plain, key after key.
use Rattle.std.proofs.Common.{◌≡◌, ◌≢◌, ◌∙◌, ◌⊎◌, inl, inr, refl, subst, sym, ℕ, List, [], ◌∷◌, Option, Some}
use Rattle.mg_base.specs.Disk.{Meaning}
use Rattle.mg_base.specs.Image.{Image}
use Rattle.mg_base.specs.declared.numbers.RecId.{RecId}
use Rattle.mg_base.specs.declared.transaction.TxState.{TxState}
use Rattle.mg_engine_change_laws.specs.memory.RecordChanges.{back_known, grown_keeps}
use Rattle.mg_engine_change_laws.specs.entries.EntryStages.{entries_keep_tips}
use Rattle.mg_engine_change_laws.specs.rows.PlainLaws.{grown_keeps_plain}
use Rattle.mg_entry_step_laws.specs.EntryMidway.{EntriesStayMidway}
use Rattle.mg_image_overlay_laws.specs.records.OwnVersion.{FindsNewest}
use Rattle.mg_tie_laws.specs.Newest.{newest_found}
use Rattle.mg_version.specs.declared.cell.Link.{Link}
use Rattle.mg_version.specs.declared.cell.Version.{Version}
use Rattle.mg_image.specs.Sound.{facts_by}
use Rattle.mg_chain.specs.Writing.{HasNewest, Moves, OverwritesOrMoves, PutsAt, Replaces, link_to}
use Rattle.mg_tie_laws.specs.BackTies as back_ties
use Rattle.mg_tie_laws.specs.MoveTies.{moves_pages, puts, some_grows}
use Rattle.mg_tie_laws.specs.PlaceTies.{replaces_page}
use Rattle.mg_tie_laws.specs.PushTies.{written}
use Rattle.mg_tie_laws.specs.PutTies.{PutsGiven}
use Rattle.mg_tie_laws.specs.Rows.{ForEach}
use Rattle.mg_engine_change_laws.specs.keys.BackLists.{KeepsLists, KeysKeepLists}
use Rattle.mg_engine_step_laws.specs.backs.Again.{again, without_key}
use Rattle.mg_engine_step_laws.specs.backs.Midway.{GoesBack, IsBackAt, IsMidway, KeysComeBack, KeysGoOut}
use Rattle.mg_engine_step_laws.specs.backs.Shown.{TakesKeyBack}
use Rattle.mg_engine_step_laws.specs.commits.ListShows.{TipsStayOn}
use Rattle.mg_engine_change_laws.specs.rows.Plain.{WritesKeepPlain}
use Rattle.mg_engine_change_laws.specs.rows.Tips.{KeepsTips, MovesKeepTips, ReplacementsKeepTips, TakingOutKeepsTips}
use Rattle.mg_engine_step_laws.specs.writes.Batches.{ReadsLast}
use Rattle.mg_engine_step_laws.specs.writes.GoesOnLaws.{pool_is_kept}
use Rattle.mg_engine_change_laws.specs.keys.TakingStepLaws.{entry_on, read_midway}
use Rattle.mg_engine_change_laws.specs.keys.TakingSteps.{ComesBack, GoesOut, KeysGoOn, LaysEntryOf, StandsEntered, StandsMidway, TakesKeyOf, TakesKeysOf, no_keys, one_entry, one_key, some_read}
use Rattle.mg_engine_step_laws.specs.standing.Choices.{placed}
use Rattle.mg_engine_step_laws.specs.writes.Knowing.{WasChanged}
use Rattle.mg_image_overlay_laws.specs.tables.Growing.{IsTableOf}
use Rattle.mg_tie_laws.specs.RoomTies.{GrowsSome, end_of, ends_there}
use Rattle.mg_image.specs.Form.{Pages, packed_coding, packed_form}
use Rattle.mg_image.specs.ReadingLaws.{RowsAreOne}
use Rattle.mg_image.specs.Tables.{stands_of, table_at}
use Rattle.mg_image_overlay_laws.specs.pages.Kinds.{HasNoSequences}
use Rattle.mg_image_overlay_laws.specs.kept.KeptImages.{IsKept}
use Rattle.mg_model.specs.History.{Entries, Entry}
use Rattle.mg_model.specs.Legal.{IsLegal, MayBegin}
use Rattle.mg_model.specs.Openings.{everyone}
use Rattle.mg_model.specs.declared.change.Change.{Change}
use Rattle.mg_model.specs.declared.change.Point.{Point}
use Rattle.mg_model.specs.declared.opening.Opening.{Opening}
use Rattle.mg_model.specs.declared.table.Table.{Table}
use Rattle.mg_image_overlay_laws.specs.tables.OneLayout.{StandsOneWay}
use Rattle.mg_overlay_laws.specs.Overlays.{left_state}
use Rattle.mg_pool.specs.Batch.{Changed, content_in, lists}
use Rattle.mg_pool.specs.Dirty.{DirtyPages}
use Rattle.mg_pool.specs.Pool.{shown}
use Rattle.mg_pool.specs.declared.pool.Pool.{Pool}
use Rattle.mg_pool_overlay_laws.specs.Needs.{Asked, Sessions}
use Rattle.mg_slots.specs.Room.{need_of}
use Rattle.mg_space.specs.View.{viewed}
use Rattle.mg_tie_laws.specs.Changed.{KeptIn, fresh}
use Rattle.mg_engine_step_laws.specs.standing.Standing.{Remembers, ShowsHistory, Standing}
use Rattle.mg_value.specs.declared.value.Value.{Value}

no_sequences : HasNoSequences packed_form
no_sequences page n is = is

-- ---- one batch

module _ (D L : Type 0) (m : Meaning D) (one : RowsAreOne packed_coding) (move : MovesKeepTips packed_form)
    (replace : ReplacementsKeepTips packed_form) (out : TakingOutKeepsTips packed_form) (o : Opening) (h : Entries)
    (e : Entry) (t : ℕ) (s : Standing) (ready after : Pool D L) (i j : Image) (asked : Asked) (session : Sessions)
    (left : List Change) (name : List ℕ) (key : Value) (batch : Changed) (was : WasChanged m ready after i j batch)
    (rec : RecId) (table : Table)
    (at_key : IsBackAt packed_form ready.geometry.size s (shown ready.dirty i) t table name key left rec)
    (point : Point) (goes : GoesBack o h e point s asked t)
    (every : KeptIn packed_form ready.geometry.size o (again t left (e ∷ h)) s.state asked session ready i) where
  abbrev size : ℕ
  size = ready.geometry.size

  abbrev pool : Pages
  pool = shown ready.dirty i

  abbrev state : ℕ → TxState
  state = left_state everyone s.state

  abbrev now_ : Entries
  now_ = again t left (e ∷ h)

  placed_now : ForEach packed_form ready.geometry.size s.state (shown ready.dirty i)
      (λ st layout rs. IsTableOf layout table → table_at (stands_of layout) rec.page.0 ≡ Some table)
  placed_now chosen layout rs sound its = placed packed_form one size s.state pool at_key.layout at_key.reading
      at_key.sound chosen layout rs sound table at_key.may.stands its rec.page.0 at_key.of_table

  kept : IsKept packed_form ready.geometry.size o (again t left (e ∷ h)) (left_state everyone s.state)
      (shown ready.dirty i) (shown ready.dirty i)
  kept = pool_is_kept packed_form D L size o now_ s.state asked session ready i everyone every

  out_keeps : GoesOut ready i batch o h e t name key rec
      → KeepsTips ready.geometry.size (shown ready.dirty i) (shown after.dirty j)
  out_keeps goes_out = out size state pool (viewed ready i goes_out.takes.taken.swings.turned) (shown after.dirty j)
      at_key.layout at_key.reading rec goes_out.takes.newest.rec goes_out.takes.was goes_out.takes.newest at_key.sound
      (back_ties.pages packed_form one no_sequences refl m ready after i j batch asked session o now_ t s.state rec
      table was.changes goes_out.takes goes.active at_key.may.whose placed_now every)

  module _ (comes : ComesBack ready i batch o h e t name key rec table) where
    abbrev replaces : Replaces ready i fresh batch rec comes.version
    replaces = comes.replaces

    place_keeps : PutsAt ready i fresh batch comes.replaces.newest.rec comes.replaces.bytes
        → KeepsTips ready.geometry.size (shown ready.dirty i) (shown after.dirty j)
    place_keeps puts_at = replace size state pool (shown after.dirty j) at_key.layout at_key.reading comes.replaces.was
        (written comes.replaces.newest.rec comes.version comes.replaces.was.back comes.stored) at_key.sound
        (replaces_page packed_form one no_sequences refl m ready after i j batch asked session o now_ t s.state rec
        comes.version table was.changes comes.replaces puts_at goes.active at_key.may.whose placed_now every
        comes.stored)

    module _ (moves : Moves ready i fresh batch rec comes.replaces.newest comes.replaces.owner comes.replaces.bytes
        comes.version.tx comes.replaces.was.back) where
      abbrev given : PutsGiven ready i fresh moves.puts.adds.given moves.put table.pointer.0
          (need_of comes.replaces.bytes) moves.at comes.replaces.bytes moves.pointers
      given = puts packed_form one no_sequences refl m ready after i j batch asked session o now_ t s.state rec
          comes.version table was.changes comes.replaces moves goes.active at_key.may.whose placed_now every

      grown : GrowsSome packed_form.in_primary ready.geometry.size table.pointer.0 (lists batch.orders)
          (content_in batch.pages) (shown ready.dirty i) (end_of given.gives.pointers given.gives.data_pages)
          (viewed ready i moves.puts.adds.given)
      grown = some_grows packed_form one no_sequences refl m ready after i j batch asked session o now_ t s.state rec
          comes.version table was.changes comes.replaces moves goes.active at_key.may.whose placed_now every

      move_keeps : KeepsTips ready.geometry.size (shown ready.dirty i) (shown after.dirty j)
      move_keeps = move size o now_ state pool (viewed ready i moves.puts.adds.given) (viewed ready i moves.put)
          (viewed ready i moves.swings.turned) (shown after.dirty j) at_key.layout at_key.reading table
          (lists batch.orders) (content_in batch.pages) (end_of given.gives.pointers given.gives.data_pages)
          grown.final rec comes.replaces.newest.rec comes.replaces.was
          (written moves.at comes.version comes.replaces.was.back comes.stored) comes.replaces.newest
          (link_to moves.at comes.version.tx) kept at_key.sound grown.grows
          (ends_there packed_form size state pool at_key.layout at_key.reading at_key.sound table at_key.may.stands
          given.gives.pointers given.gives.data_pages given.gives.table)
          (moves_pages packed_form one no_sequences refl m ready after i j batch asked session o now_ t s.state rec
          comes.version table was.changes comes.replaces moves goes.active at_key.may.whose placed_now every
          comes.stored)

    back_keeps : KeepsTips ready.geometry.size (shown ready.dirty i) (shown after.dirty j)
    back_keeps = at comes.replaces.written
      where
        at : OverwritesOrMoves ready i fresh batch rec comes.replaces.newest comes.replaces.owner comes.replaces.bytes
            comes.version.tx comes.replaces.was.back
            → KeepsTips ready.geometry.size (shown ready.dirty i) (shown after.dirty j)
        at (inl puts_at) = place_keeps puts_at
        at (inr (full, moves)) = move_keeps moves

  pub batch_keeps : GoesOut ready i batch o h e t name key rec ⊎ ComesBack ready i batch o h e t name key rec table
      → KeepsTips ready.geometry.size (shown ready.dirty i) (shown after.dirty j)
  batch_keeps (inl goes_out) = out_keeps goes_out
  batch_keeps (inr comes) = back_keeps comes

-- ---- one key

module _ {D L : Type 0} (m : Meaning D) (one : RowsAreOne packed_coding) (move : MovesKeepTips packed_form)
    (replace : ReplacementsKeepTips packed_form) (out : TakingOutKeepsTips packed_form)
    (one_way : StandsOneWay packed_form) (stay : EntriesStayMidway packed_form D L m) (go_on : KeysGoOn D L m)
    (kept_on : TipsStayOn) (plain : WritesKeepPlain)
    (goes_out : KeysGoOut packed_form D L m) (comes_back : KeysComeBack packed_form D L m) (o : Opening) (h : Entries)
    (e : Entry) (point : Point) (s : Standing) (start : Pool D L) (begun : Pages) (asked : Asked) (session : Sessions)
    (t : ℕ) (whole : List Change) (opening : MayBegin o) (legal : IsLegal o h) (memory : Remembers o h s)
    (goes : GoesBack o h e point s asked t) where
  -- what is read after the batch
  takes_back : (ready after : Pool D L) (i j : Image) (name : List ℕ) (key : Value) (left : List Change)
      (batch : Changed) (was : WasChanged m ready after i j batch) (rec : RecId) (table : Table)
      (at_key : IsBackAt packed_form ready.geometry.size s (shown ready.dirty i) t table name key left rec)
      → GoesOut ready i batch o h e t name key rec ⊎ ComesBack ready i batch o h e t name key rec table
      → IsMidway m packed_form ready.geometry.size o h e t left s start ready i asked session
      → (speaker : List ℕ → Value → Option RecId) → speaker name key ≡ Some rec
      → TakesKeyBack packed_form ready.geometry.size o h e t s (shown ready.dirty i) (shown after.dirty j)
      at_key.layout at_key.reading speaker name key rec table
  takes_back ready after i j name key left batch was rec table at_key (inl goes_) cache speaker spoken =
      (goes_out o h e point s start ready after i j batch asked session t name key left rec table opening legal memory
      goes cache was goes_.takes goes_.its at_key goes_.none).1 speaker spoken
  takes_back ready after i j name key left batch was rec table at_key (inr comes) cache speaker spoken =
      (comes_back o h e point s start ready after i j batch asked session t name key comes.row left rec comes.version
      comes.stored table opening legal memory goes cache was comes.replaces at_key comes.codes comes.entries
      comes.former).1 speaker spoken

  lists_then : (size : ℕ) (a b c : Pages) → KeepsLists size s a b → KeepsLists size s b c → KeepsLists size s a c
  lists_then size a b c first second = record {
    tips = record {
      tips = kept_on size a b c second.tips.next first.tips.tips second.tips.tips;
      next = second.tips.next ∙ first.tips.next;
      catalog = second.tips.catalog ∙ first.tips.catalog;
    };
    plain = λ bare. second.plain (first.plain bare);
    known = λ from dirs was. second.known from dirs (first.known from dirs was);
  }

  -- one key, at the size of the cache
  key_keeps : (ready after : Pool D L) (i j : Image) (name : List ℕ) (key : Value) (left : List Change)
      (batch : Changed) (was : WasChanged m ready after i j batch) (rec : RecId) (table : Table)
      (how : GoesOut ready i batch o h e t name key rec ⊎ ComesBack ready i batch o h e t name key rec table)
      (first : ShowsHistory packed_form ready.geometry.size o h s begun)
      (at_key : IsBackAt packed_form ready.geometry.size s (shown ready.dirty i) t table name key left rec)
      → first.versions.speaker name key ≡ Some rec
      → (midway : StandsMidway m ready.geometry.size o h e t whole left s start ready begun first i asked session)
      → KeepsLists ready.geometry.size s (shown ready.dirty i) (shown after.dirty j)
  key_keeps ready after i j name key left batch was rec table how first at_key spoken midway = record {
    tips = batch_keeps D L m one move replace out o h e t s ready after i j asked session left name key batch was rec
        table at_key point goes midway.cache.kept how;
    plain = plain ready.geometry.size o (again t left (e ∷ h)) s.state (shown ready.dirty i) (shown after.dirty j)
        at_key.layout at_key.reading rec back.es table at_key.sound back.reads at_key.of_table at_key.may.no_catalog
        (λ chosen. pool_is_kept packed_form D L ready.geometry.size o (again t left (e ∷ h)) s.state asked session
        ready i chosen midway.cache.kept);
    known = back_known one_way ready.geometry.size s.state (shown ready.dirty i) (shown after.dirty j) at_key.layout
        at_key.reading at_key.sound rec back.es back.reads table back.of at_key.may.no_catalog (has_versions how)
        (λ some. back.key_stays some ∙ sym back.keyed);
  }
    where
      -- its newest version was met
      met : (newest : Link) (owner : ℕ) (v : Version)
          → HasNewest (viewed ready i fresh) rec newest owner v → at_key.reading rec ≢ []
      met newest owner v its none =
          let it : FindsNewest (facts_by (left_state everyone s.state) (shown ready.dirty i) at_key.layout)
          at_key.reading rec table newest.rec v =
          newest_found packed_form ready.geometry.size (left_state everyone s.state) (shown ready.dirty i)
          at_key.layout at_key.reading at_key.sound rec table at_key.of_table newest its.head.slot v its.meets.cell in
          let both : it.newest ∷ it.older ≡ [] = sym it.first ∙ none in absurd cc

      has_versions : GoesOut ready i batch o h e t name key rec ⊎ ComesBack ready i batch o h e t name key rec table
          → at_key.reading rec ≢ []
      has_versions (inl goes_) = met goes_.takes.newest goes_.takes.owner goes_.takes.was goes_.takes.its
      has_versions (inr comes) = met comes.replaces.newest comes.replaces.owner comes.replaces.was comes.replaces.its

      back : TakesKeyBack packed_form ready.geometry.size o h e t s (shown ready.dirty i) (shown after.dirty j)
          at_key.layout at_key.reading first.versions.speaker name key rec table
      back = takes_back ready after i j name key left batch was rec table at_key how midway.cache
          first.versions.speaker spoken

  -- and behind pages that were read
  one_keeps : ReadsLast D L m packed_form → (size : ℕ) (first : ShowsHistory packed_form size o h s begun)
      (left : List Change) (before after : Pool D L) (i j : Image) (name : List ℕ) (key : Value)
      (taken : TakesKeyOf m size o h e t s first.versions.speaker left before after i j name key)
      (midway : StandsMidway m size o h e t whole left s start before begun first i asked session)
      → KeepsLists size s (shown before.dirty i) (shown after.dirty j)
  one_keeps reads size first left before after i j name key taken midway =
      subst (λ (d : DirtyPages). KeepsLists size s (shown d i) (shown after.dirty j)) taken.keeps.dirty
      (subst (λ (n : ℕ). (its : ShowsHistory packed_form n o h s begun)
      (at_key : IsBackAt packed_form n s (shown taken.ready.dirty i) t taken.table name key left taken.rec)
      → its.versions.speaker name key ≡ Some taken.rec
      → (first_ : StandsMidway m n o h e t whole left s start taken.ready begun its i asked session)
      → KeepsLists n s (shown taken.ready.dirty i) (shown after.dirty j)) taken.size_is
      (λ its at_key spoken first_. key_keeps taken.ready after i j name key left taken.batch taken.was taken.rec
      taken.table taken.how its at_key spoken first_)
      first taken.at_key taken.spoken
      (read_midway m reads size o h e point s start before taken.ready begun first i asked session t whole left opening
      legal goes taken.keeps taken.tells taken.page_size midway))

  -- where an entry is laid
  entry_keeps : (size : ℕ) (first : ShowsHistory packed_form size o h s begun) (left : List Change)
      (before after : Pool D L) (i j : Image) → LaysEntryOf m size s t before after i j
      → StandsMidway m size o h e t whole left s start before begun first i asked session
      → KeepsLists size s (shown before.dirty i) (shown after.dirty j)
  entry_keeps size first left before after i j laid midway = record {
    tips = entries_keep_tips packed_form size (left_state everyone s.state) (shown before.dirty i) (shown after.dirty j)
        midway.pages.layout midway.pages.reading on.entries;
    plain = grown_keeps_plain one size o (again t left (e ∷ h)) s.state (shown before.dirty i) (shown after.dirty j)
        midway.pages.layout on.entries.layout midway.pages.reading laid.entry.rec midway.pages.sound on.entries.sound
        on.entries.grown (λ chosen. pool_is_kept packed_form D L size o (again t left (e ∷ h)) s.state asked session
        before i chosen midway.cache.kept);
    known = grown_keeps one_way size s.state (shown before.dirty i) (shown after.dirty j) midway.pages.layout
        on.entries.layout midway.pages.reading midway.pages.sound on.entries.sound on.entries.grown.stays;
  }
    where
      on : StandsEntered m size o h e t whole left s start before after begun first i j asked session midway laid.root
          laid.entry
      on = entry_on m stay o h e point s start begun asked session t whole left opening legal memory goes size first before
          after i j laid midway

  -- ---- all keys

  lists_self : (size : ℕ) (pages : Pages) → KeepsLists size s pages pages
  lists_self size pages = record {
    tips = record { tips = λ sequence below. (refl, refl); next = refl; catalog = refl };
    plain = λ bare. bare;
    known = λ from dirs was. was;
  }

  pub all_keep : ReadsLast D L m packed_form → (size : ℕ) (first : ShowsHistory packed_form size o h s begun)
      (all left rest : List Change) (before after : Pool D L) (i j : Image)
      → TakesKeysOf m size o h e t s first.versions.speaker all left rest before after i j
      → StandsMidway m size o h e t whole left s start before begun first i asked session
      → KeepsLists size s (shown before.dirty i) (shown after.dirty j)
  all_keep reads size first all left rest before after i j no_keys midway = lists_self size (shown before.dirty i)
  all_keep reads size first all left rest before after i j (one_key {keys = keys} c mid k taken more) midway =
      lists_then size (shown before.dirty i) (shown mid.dirty k) (shown after.dirty j)
      (one_keeps reads size first left before mid i k c.table c.key taken midway)
      (all_keep reads size first keys (without_key c.table c.key left) rest mid after k j more
      (go_on size o h e point s start before mid begun first i k asked session t whole left
      (without_key c.table c.key left) (c ∷ []) opening legal memory goes (one_key c mid k taken no_keys) midway))
  all_keep reads size first all left rest before after i j (some_read mid keeps tells page_size more) midway =
      subst (λ (d : DirtyPages). KeepsLists size s (shown d i) (shown after.dirty j)) keeps.dirty
      (all_keep reads size first all left rest mid after i j more (read_midway m reads size o h e point s start before mid
      begun first i asked session t whole left opening legal goes keeps tells page_size midway))
  all_keep reads size first all left rest before after i j (one_entry mid k laid more) midway =
      lists_then size (shown before.dirty i) (shown mid.dirty k) (shown after.dirty j)
      (entry_keeps size first left before mid i k laid midway)
      (all_keep reads size first all left rest mid after k j more (entry_on m stay o h e point s start begun asked session
      t whole left opening legal memory goes size first before mid i k laid midway).then_)

pub keys_keep_lists : (D L : Type 0) (m : Meaning D) → RowsAreOne packed_coding → MovesKeepTips packed_form
    → ReplacementsKeepTips packed_form → TakingOutKeepsTips packed_form → StandsOneWay packed_form
    → EntriesStayMidway packed_form D L m → KeysGoOn D L m
    → TipsStayOn → WritesKeepPlain → KeysGoOut packed_form D L m → KeysComeBack packed_form D L m
    → ReadsLast D L m packed_form → KeysKeepLists D L m
keys_keep_lists D L m one move replace out one_way stay go_on kept_on plain goes_out comes_back reads size o h e point s
    start before after begun first i j asked session t whole left rest keys opening legal memory goes takes midway =
    all_keep m one move replace out one_way stay go_on kept_on plain goes_out comes_back o h e point s start begun asked
    session t whole opening legal memory goes reads size first keys left rest before after i j takes midway
