-- The version of a key that had a change before comes back.
use Rattle.mg_base.specs.Disk.{Meaning}
use Rattle.mg_base.specs.Image.{Image}
use Rattle.mg_base.specs.declared.numbers.RecId.{RecId}
use Rattle.mg_base.specs.declared.transaction.TxState.{TxState}
use Rattle.mg_base.specs.declared.transaction.TxState.TheVariants.{Committed}
use Rattle.mg_chain.specs.Writing.{Replaces}
use Rattle.mg_tie_laws.specs.PushTies.{written}
use Rattle.mg_engine_step_laws.specs.backs.Again.{again, giving, giving_gives, without_key}
use Rattle.mg_engine_step_laws.specs.writes.Claims.{every_as}
use Rattle.mg_engine_step_laws.specs.backs.KeyLaws.{back_claims}
use Rattle.mg_engine_step_laws.specs.backs.Midway.{GoesBack, IsBackAt, IsMidway, KeysComeBack}
use Rattle.mg_engine_step_laws.specs.backs.MidwayLaws.{midway_on}
use Rattle.mg_engine_step_laws.specs.backs.Shown.{TakesKeyBack}
use Rattle.mg_engine_step_laws.specs.backs.ToldBack.{told_former}
use Rattle.mg_engine_step_laws.specs.writes.Batches.{RowsLastStill}
use Rattle.mg_engine_step_laws.specs.writes.Knowing.{CodesRow, HasEntries, WasChanged}
use Rattle.mg_engine_step_laws.specs.writes.OwnKept.{IsRewritten, found, its_own, rewritten}
use Rattle.mg_generation_laws.specs.After.{generations_back}
use Rattle.mg_image.specs.Form.{Form, Row}
use Rattle.mg_image.specs.Histories.{newest_at, row_change}
use Rattle.mg_image.specs.ReadingLaws.{RowsAreOne}
use Rattle.mg_image.specs.RecordRules.{EachBack}
use Rattle.mg_image.specs.Records.{writer}
use Rattle.mg_image.specs.Sound.{facts_by}
use Rattle.mg_image.specs.declared.entry.Entry.{Entry as Read}
use Rattle.mg_image_overlay_laws.specs.records.Fronts.{is_dead}
use Rattle.mg_image_overlay_laws.specs.pages.Kinds.{HasNoSequences}
use Rattle.mg_model.specs.Changes.{Cells}
use Rattle.mg_model.specs.History.{Entries, Entry}
use Rattle.mg_model.specs.Legal.{IsLegal, MayBegin}
use Rattle.mg_model.specs.Machine.{own}
use Rattle.mg_model.specs.Openings.{everyone}
use Rattle.mg_model.specs.declared.change.Change.{Change}
use Rattle.mg_model.specs.declared.change.Point.{Point}
use Rattle.mg_model.specs.declared.opening.Opening.{Opening}
use Rattle.mg_model.specs.declared.table.Table.{Table}
use Rattle.mg_overlay_laws.specs.Overlays.{left_by, left_state}
use Rattle.mg_image_overlay_laws.specs.records.OwnVersion.{FindsNewest}
use Rattle.mg_pool.specs.Batch.{Changed}
use Rattle.mg_pool.specs.Pool.{shown}
use Rattle.mg_pool.specs.declared.pool.Pool.{Pool}
use Rattle.mg_pool_overlay_laws.specs.Needs.{Asked, Sessions}
use Rattle.mg_seek.specs.Histories.{told_versions}
use Rattle.mg_tie_laws.specs.Changed.{fresh}
use Rattle.mg_engine_step_laws.specs.standing.Standing.{Remembers, Standing}
use Rattle.mg_engine_step_laws.specs.standing.Writing.{WritesKey}
use Rattle.mg_value.specs.declared.value.Value.{Value}
use Rattle.mg_version.specs.declared.cell.Version.{Version}
use Rattle.std.proofs.Common.{List, Option, Some, ap, false, inl, subst, sym, true, ℕ, ◌∙◌, ◌∷◌, ◌≡◌}

module _ (D L : Type 0) (m : Meaning D) (form : Form) (one : RowsAreOne form.coding)
    (none : HasNoSequences form) (no_primary : form.in_primary ≡ false) (last : RowsLastStill D L m form)
    (o : Opening) (h : Entries) (e : Entry) (point : Point) (s : Standing) (start before after : Pool D L)
    (i j : Image) (batch : Changed) (has_asked : Asked) (session : Sessions) (t : ℕ) (name : List ℕ)
    (key : Value) (row : Option Cells) (cs : List Change) (rec : RecId) (v : Version) (stored : Row)
    (table : Table) (opening : MayBegin o) (legal : IsLegal o h) (memory : Remembers o h s)
    (goes : GoesBack o h e point s has_asked t)
    (midway : IsMidway m form before.geometry.size o h e t cs s start before i has_asked session)
    (was : WasChanged m before after i j batch) (replaces : Replaces before i fresh batch rec v)
    (at_key : IsBackAt form before.geometry.size s (shown before.dirty i) t table name key cs rec)
    (codes : CodesRow form.coding table v stored t key row)
    (laid : HasEntries (shown before.dirty i) table rec v stored)
    (former : newest_at (own o (e ∷ h) t) name key ≡ Some (row_change row)) where
  abbrev size : ℕ
  size = before.geometry.size

  abbrev now_ : Entries
  now_ = again t cs (e ∷ h)

  abbrev writes : WritesKey o now_ (giving t name key row) t name key row
  writes = inl (giving_gives t name key row)

  abbrev found_own : FindsNewest (facts_by (left_state everyone s.state) (shown before.dirty i) at_key.layout)
      at_key.reading rec table replaces.newest.rec replaces.was
  found_own = found D L m form one none no_primary o now_ (giving t name key row) s.state before after i j batch
      has_asked session at_key.layout at_key.reading at_key.sound t name key row rec v stored table was.changes
      replaces writes goes.active goes.not_asked at_key.drawn at_key.named at_key.may codes laid at_key.of_table
      at_key.keyed midway.kept

  pub back_written : IsRewritten form size o (giving t name key row ∷ now_) s.state before after i j has_asked session
      at_key.layout at_key.reading rec v replaces.was.back stored found_own.older
  back_written = rewritten D L m form one none no_primary o now_ (giving t name key row) s.state before after i j
      batch has_asked session at_key.layout at_key.reading at_key.sound t name key row rec v stored table was.changes
      replaces writes goes.active goes.not_asked at_key.drawn at_key.named at_key.may codes laid at_key.of_table
      at_key.keyed midway.kept

  abbrev state : ℕ → TxState
  state = left_state everyone s.state

  abbrev n : Read
  n = written back_written.at v replaces.was.back stored

  its_was : writer found_own.newest ≡ t
  its_was = its_own D L m form one none no_primary o now_ (giving t name key row) s.state before after i j batch
      has_asked session at_key.layout at_key.reading at_key.sound t name key row rec v stored table was.changes
      replaces writes goes.active goes.not_asked at_key.drawn at_key.named at_key.may codes laid at_key.of_table
      at_key.keyed midway.kept

  limbo_of : (x : Read) → writer x ≡ t → is_dead (state (writer x)) ≡ false
  limbo_of x its = ap is_dead (ap state its ∙ ap (left_by true) goes.active)

  takes_back : (speaker : List ℕ → Value → Option RecId) → speaker name key ≡ Some rec
      → TakesKeyBack form size o h e t s (shown before.dirty i) (shown after.dirty j) at_key.layout at_key.reading
      speaker name key rec table
  takes_back speaker spoken = record {
    named = at_key.named;
    of = at_key.of_table;
    keyed = at_key.keyed;
    spoken = spoken;
    es = n ∷ found_own.older;
    reads = back_written.reads;
    next = back_written.bits.next;
    told = told_former state table t (own o (e ∷ h) t) name key found_own.newest found_own.older its_was
        (limbo_of found_own.newest its_was)
        (subst (EachBack (λ x. state (writer x) ≡ Committed)) found_own.first
        (at_key.sound.records.each rec table at_key.of_table).backs) n row former codes.its codes.given
        (limbo_of n codes.its)
        ∙ ap (λ (es : List Read). generations_back (own o (e ∷ h) t) t name key (told_versions state table es))
        (sym found_own.first);
    key_stays = λ some. codes.keyed;
  }

  pub comes_back : IsMidway m form size o h e t (without_key name key cs) s start after j has_asked session
      × ((speaker : List ℕ → Value → Option RecId) → speaker name key ≡ Some rec
      → TakesKeyBack form size o h e t s (shown before.dirty i) (shown after.dirty j) at_key.layout at_key.reading
      speaker name key rec table)
  comes_back = (
    midway_on m form last o h e point s start before after i j batch has_asked session t cs
        (without_key name key cs) opening legal memory goes midway was back_written.bits
        (every_as form size o (giving t name key row ∷ now_) (again t (without_key name key cs) (e ∷ h)) s.state
        has_asked session after j (λ chosen. back_claims o h e point s has_asked t memory goes name key cs row former
        (left_state chosen s.state)) back_written.kept),
    takes_back,
  )

pub keys_come_back : (form : Form) (D L : Type 0) (m : Meaning D) → RowsAreOne form.coding → HasNoSequences form
    → form.in_primary ≡ false → RowsLastStill D L m form → KeysComeBack form D L m
keys_come_back form D L m one none no_primary last o h e point s start before after i j batch has_asked session t
    name key row cs rec v stored table opening legal memory goes midway was replaces at_key codes laid former =
    comes_back D L m form one none no_primary last o h e point s start before after i j batch has_asked session t
    name key row cs rec v stored table opening legal memory goes midway was replaces at_key codes laid former
