-- The version of a key that had no change before is taken out.
use Rattle.mg_base.specs.Disk.{Meaning}
use Rattle.mg_base.specs.Image.{Image}
use Rattle.mg_base.specs.declared.numbers.RecId.{RecId}
use Rattle.mg_base.specs.declared.transaction.TxState.{TxState}
use Rattle.mg_base.specs.declared.transaction.TxState.TheVariants.{Committed, Limbo}
use Rattle.mg_chain.specs.Writing.{TakesOut}
use Rattle.mg_tie_laws.specs.BackTies.{back_row, pages}
use Rattle.mg_tie_laws.specs.Newest.{newest_found, newest_placed}
use Rattle.mg_tie_laws.specs.Rows.{ForEach}
use Rattle.mg_engine_step_laws.specs.backs.Again.{again, giving, marking, unmarking, without_key}
use Rattle.mg_engine_step_laws.specs.writes.Claims.{every_as}
use Rattle.mg_engine_step_laws.specs.backs.KeyLaws.{given_claims, out_claims, out_else, out_here, unmarked_leaves}
use Rattle.mg_engine_step_laws.specs.backs.Midway.{GoesBack, IsBackAt, IsMidway, KeysGoOut}
use Rattle.mg_engine_step_laws.specs.backs.MidwayLaws.{midway_on}
use Rattle.mg_engine_step_laws.specs.backs.Shown.{TakesKeyBack}
use Rattle.mg_engine_step_laws.specs.backs.ToldBack.{told_out}
use Rattle.mg_engine_step_laws.specs.writes.Batches.{RowsLastStill}
use Rattle.mg_engine_step_laws.specs.writes.GoesOnLaws.{pool_is_kept, taking_out_is_read}
use Rattle.mg_engine_step_laws.specs.writes.Writes.{ReadsAfter}
use Rattle.mg_engine_step_laws.specs.writes.ChangeKnown.{after_are, changes_after, turns_to}
use Rattle.mg_engine_step_laws.specs.standing.Choices.{placed, read}
use Rattle.mg_engine_step_laws.specs.writes.Knowing.{WasChanged}
use Rattle.mg_engine_step_laws.specs.tables.SameRecords.{same_catalog}
use Rattle.mg_generation_laws.specs.After.{generations_back}
use Rattle.mg_image_overlay_laws.specs.tables.Growing.{IsTableOf}
use Rattle.mg_image.specs.Form.{Form, Pages}
use Rattle.mg_image.specs.Histories.{newest_at}
use Rattle.mg_image.specs.ReadingLaws.{RowsAreOne}
use Rattle.mg_image.specs.RecordRules.{Each, EachBack, IsRecord, IsVersion}
use Rattle.mg_image.specs.Records.{record_key, writer}
use Rattle.mg_image.specs.Sound.{facts_by}
use Rattle.mg_image.specs.Tables.{stands_of, table_at}
use Rattle.mg_image.specs.declared.entry.Entry.{Entry as Read}
use Rattle.mg_image_overlay_laws.specs.records.Fronts.{is_dead}
use Rattle.mg_image_overlay_laws.specs.pages.Kinds.{HasNoSequences}
use Rattle.mg_image_overlay_laws.specs.transactions.CommitLaws.{LeavesOthers}
use Rattle.mg_image_overlay_laws.specs.kept.KeptImages.{IsKept}
use Rattle.mg_model.specs.Changes.{same_key, same_name}
use Rattle.mg_model.specs.History.{Entries, Entry}
use Rattle.mg_model.specs.Legal.{IsLegal, MayBegin}
use Rattle.mg_model.specs.Machine.{own}
use Rattle.mg_model.specs.Openings.{everyone}
use Rattle.mg_model.specs.declared.change.Change.{Change}
use Rattle.mg_model.specs.declared.change.Point.{Point}
use Rattle.mg_model.specs.declared.opening.Opening.{Opening}
use Rattle.mg_model.specs.declared.table.Table.{Table}
use Rattle.mg_overlay_laws.specs.Overlays.{left_by, left_state}
use Rattle.mg_image_overlay_laws.specs.records.BackEvery.{TakesBackRow}
use Rattle.mg_image_overlay_laws.specs.records.OwnVersion.{FindsNewest}
use Rattle.mg_image_overlay_laws.specs.names.Whose.{maker_has}
use Rattle.mg_pool.specs.Batch.{Changed}
use Rattle.mg_pool.specs.Pool.{shown}
use Rattle.mg_pool.specs.declared.pool.Pool.{Pool}
use Rattle.mg_pool_overlay_laws.specs.Needs.{Asked, Sessions}
use Rattle.mg_seek.specs.Histories.{told_versions}
use Rattle.mg_space.specs.View.{viewed}
use Rattle.mg_tie_laws.specs.Changed.{KeptIn, fresh}
use Rattle.mg_engine_step_laws.specs.standing.Standing.{Remembers, Standing}
use Rattle.mg_image_overlay_laws.specs.pages.DataKept.{KeepsBits}
use Rattle.mg_value.specs.declared.value.Value.{Value}
use Rattle.mg_version.specs.declared.cell.Version.{Version}
use Rattle.std.proofs.Common.{Bool, List, None, Option, Some, [], ap, false, refl, subst, sym, true, ℕ, ◌&&◌, ◌∙◌, ◌∷◌, ◌≡◌, ◌≢◌}

module _ (D L : Type 0) (m : Meaning D) (form : Form) (one : RowsAreOne form.coding)
    (none : HasNoSequences form) (no_primary : form.in_primary ≡ false) (last : RowsLastStill D L m form)
    (o : Opening) (h : Entries) (e : Entry) (point : Point) (s : Standing) (start before after : Pool D L)
    (i j : Image) (batch : Changed) (has_asked : Asked) (session : Sessions) (t : ℕ) (name : List ℕ)
    (key : Value) (cs : List Change) (rec : RecId) (table : Table) (opening : MayBegin o)
    (legal : IsLegal o h) (memory : Remembers o h s) (goes : GoesBack o h e point s has_asked t)
    (midway : IsMidway m form before.geometry.size o h e t cs s start before i has_asked session)
    (was : WasChanged m before after i j batch) (takes : TakesOut before i fresh batch rec)
    (is_own : takes.was.tx.0 ≡ t)
    (at_key : IsBackAt form before.geometry.size s (shown before.dirty i) t table name key cs rec)
    (none_left : newest_at (own o (e ∷ h) t) name key ≡ None) where
  abbrev size : ℕ
  size = before.geometry.size

  abbrev pool : Pages
  pool = shown before.dirty i

  abbrev state : ℕ → TxState
  state = left_state everyone s.state

  abbrev given : Entries
  given = giving t name key at_key.change ∷ marking t ∷ again t (without_key name key cs) (e ∷ h)

  -- the change is the newest of all, behind a mark
  every : KeptIn form size o given s.state has_asked session before i
  every = every_as form size o (again t cs (e ∷ h)) given s.state has_asked session before i
      (λ chosen. given_claims o h e point s has_asked t memory goes name key cs at_key.change at_key.to_take none_left
      (left_state chosen s.state)) midway.kept

  placed_now : ForEach form size s.state pool
      (λ st layout rs. IsTableOf layout table → table_at (stands_of layout) rec.page.0 ≡ Some table)
  placed_now chosen layout rs sound its = placed form one size s.state pool at_key.layout at_key.reading
      at_key.sound chosen layout rs sound table at_key.may.stands its rec.page.0 at_key.of_table

  knows : (chosen : ℕ → Bool) → chosen t ≡ true
      → (kept : IsKept form size o given (left_state chosen s.state) pool pool)
      → TakesBackRow form size o given (unmarking t) (left_state chosen s.state) pool rec table takes.was.tx.0 key kept
  knows chosen is kept = record {
    keyed = ap (record_key table) (sym (read form one size s.state pool at_key.layout at_key.reading at_key.sound
        chosen kept.layout kept.reading kept.sound table at_key.may.stands its rec at_key.of_table)) ∙ at_key.keyed;
    after = changes_after o given (unmarking t) t kept.changes;
    turns = turns_to o given (unmarking t) (left_state chosen s.state) t name key None here_now else_now out_leaves
        limbo kept.changes kept.changes_are (facts_by (left_state chosen s.state) pool kept.layout) table
        takes.was.tx.0 key [] at_key.named is_own refl refl;
    after_are = after_are o given (unmarking t) (left_state chosen s.state) t name key None here_now else_now
        out_leaves limbo kept.changes kept.changes_are;
    no_catalog = λ same. at_key.may.no_catalog (same ∙ same_catalog form size (left_state chosen s.state) state
        pool kept.layout at_key.layout kept.reading at_key.reading kept.sound at_key.sound);
  }
    where
      limbo : left_state chosen s.state t ≡ Limbo
      limbo = rw (is, goes.active) refl

      its : IsTableOf kept.layout table
      its = maker_has form size t s.state pool table goes.active at_key.may.whose chosen is kept.layout kept.reading
          kept.sound

      out_leaves : LeavesOthers o given (unmarking t) t
      out_leaves = unmarked_leaves o h e point s has_asked t memory goes name key cs at_key.change at_key.to_take
          none_left

      here_now : newest_at (own o (unmarking t ∷ given) t) name key ≡ None
      here_now = out_here o h e point s has_asked t memory goes name key cs at_key.change at_key.to_take none_left

      else_now : (n : List ℕ) (k : Value) → (same_name name n && same_key key k) ≡ false
          → newest_at (own o (unmarking t ∷ given) t) n k ≡ newest_at (own o given t) n k
      else_now = out_else o h e point s has_asked t memory goes name key cs at_key.change at_key.to_take none_left

  out_kept : KeptIn form size o (unmarking t ∷ given) s.state has_asked session after j
  out_kept = back_row form one none no_primary m before after i j batch has_asked session o given t s.state rec table
      was.changes takes goes.active at_key.may.whose placed_now every (unmarking t) key is_own goes.not_asked
      (unmarked_leaves o h e point s has_asked t memory goes name key cs at_key.change at_key.to_take none_left) knows

  kept_then : KeptIn form size o (again t (without_key name key cs) (e ∷ h)) s.state has_asked session after j
  kept_then = every_as form size o (unmarking t ∷ given) (again t (without_key name key cs) (e ∷ h)) s.state has_asked
      session after j (λ chosen. out_claims o h e point s has_asked t memory goes name key cs at_key.change
      at_key.to_take none_left (left_state chosen s.state)) out_kept

  later : IsKept form size o (again t (without_key name key cs) (e ∷ h)) state (shown after.dirty j)
      (shown after.dirty j)
  later = pool_is_kept form D L size o (again t (without_key name key cs) (e ∷ h)) s.state has_asked session after j
      everyone kept_then

  pub found : FindsNewest (facts_by state pool at_key.layout) at_key.reading rec table takes.newest.rec takes.was
  found = newest_found form size state pool at_key.layout at_key.reading at_key.sound rec table at_key.of_table
      takes.newest takes.its.head.slot takes.was takes.its.meets.cell

  pub out_reads : ReadsAfter form size state pool (shown after.dirty j) at_key.layout at_key.reading rec found.older
      × KeepsBits size pool (shown after.dirty j)
  out_reads = taking_out_is_read form one none size state pool (viewed before i takes.taken.swings.turned)
      (shown after.dirty j) at_key.layout at_key.reading table rec takes.newest.rec takes.was found.newest found.older
      takes.newest later.layout later.reading at_key.sound
      (pages form one none no_primary m before after i j batch has_asked session o given t s.state rec table
      was.changes takes goes.active at_key.may.whose placed_now every)
      found.first found.at found.version at_key.of_table
      (newest_placed form size state pool at_key.layout at_key.reading at_key.sound rec table at_key.of_table
      takes.newest takes.its.head.slot)
      at_key.may.no_catalog later.sound

  its_own : writer found.newest ≡ t
  its_own = ap (λ (w : Version). w.tx.0) found.version ∙ is_own

  its_limbo : state (writer found.newest) ≡ Limbo
  its_limbo = ap state its_own ∙ ap (left_by true) goes.active

  lawful : IsRecord form.coding (facts_by state pool at_key.layout) table (at_key.reading rec)
  lawful = at_key.sound.records.each rec table at_key.of_table

  -- the versions behind have its key
  key_behind : (es : List Read) → found.older ≡ es → es ≢ [] → record_key table es ≡ key
  key_behind [] are some = absurd (some refl)
  key_behind (x ∷ xs) are some = (subst (Each (IsVersion form.coding (facts_by state pool at_key.layout) table
      (record_key table (at_key.reading rec)))) are
      (subst (Each (IsVersion form.coding (facts_by state pool at_key.layout) table
      (record_key table (at_key.reading rec)))) found.first lawful.each).1).0.keyed ∙ at_key.keyed

  takes_out : (speaker : List ℕ → Value → Option RecId) → speaker name key ≡ Some rec
      → TakesKeyBack form size o h e t s pool (shown after.dirty j) at_key.layout at_key.reading speaker name key rec
      table
  takes_out speaker spoken = record {
    named = at_key.named;
    of = at_key.of_table;
    keyed = at_key.keyed;
    spoken = spoken;
    es = found.older;
    reads = out_reads.0;
    next = out_reads.1.next;
    told = told_out state table t (own o (e ∷ h) t) name key found.newest found.older its_own (ap is_dead its_limbo)
        (subst (EachBack (λ x. state (writer x) ≡ Committed)) found.first lawful.backs) none_left
        ∙ ap (λ (es : List Read). generations_back (own o (e ∷ h) t) t name key (told_versions state table es))
        (sym found.first);
    key_stays = λ some. key_behind found.older refl some;
  }

  pub goes_out : IsMidway m form size o h e t (without_key name key cs) s start after j has_asked session
      × ((speaker : List ℕ → Value → Option RecId) → speaker name key ≡ Some rec
      → TakesKeyBack form size o h e t s pool (shown after.dirty j) at_key.layout at_key.reading speaker name key rec
      table)
  goes_out = (
    midway_on m form last o h e point s start before after i j batch has_asked session t cs
        (without_key name key cs) opening legal memory goes midway was out_reads.1 kept_then,
    takes_out,
  )

pub keys_go_out : (form : Form) (D L : Type 0) (m : Meaning D) → RowsAreOne form.coding → HasNoSequences form
    → form.in_primary ≡ false → RowsLastStill D L m form → KeysGoOut form D L m
keys_go_out form D L m one none no_primary last o h e point s start before after i j batch has_asked session t name
    key cs rec table opening legal memory goes midway was takes is_own at_key none_left =
    goes_out D L m form one none no_primary last o h e point s start before after i j batch has_asked session t
    name key cs rec table opening legal memory goes midway was takes is_own at_key none_left
