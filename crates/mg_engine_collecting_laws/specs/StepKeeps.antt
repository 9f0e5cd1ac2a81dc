-- Each step of a collection keeps every overlay, by nobody's work, and leaves the history.
use Rattle.std.proofs.Common.{◌≡◌, ◌∙◌, inl, inr, refl, sym, ap, ℕ, ◌&&◌, Bool, true, false, List, Option, Some}
use Rattle.mg_base.specs.Disk.{Meaning}
use Rattle.mg_base.specs.Image.{Image}
use Rattle.mg_base.specs.declared.numbers.RecId.{RecId}
use Rattle.mg_base.specs.declared.numbers.TxNo.{TxNo}
use Rattle.mg_base.specs.declared.transaction.TxState.{TxState}
use Rattle.mg_base.specs.declared.transaction.TxState.TheVariants.{Active, Limbo, Dead, Committed}
use Rattle.mg_chain.specs.Views.{is_dead}
use Rattle.mg_collect_tie_laws.specs.DropTies.{HasCommittedAt, drop_keeps}
use Rattle.mg_collect_tie_laws.specs.TakeTies.{dead_keeps, erase_keeps}
use Rattle.mg_image.specs.Form.{Form}
use Rattle.mg_image.specs.ReadingLaws.{RowsAreOne}
use Rattle.mg_image.specs.RecordRules.{Facts}
use Rattle.mg_image.specs.Records.{Cells, Chain, Reading, Stands, cells_of, ended, goes, newest_of}
use Rattle.mg_image.specs.Sound.{IsSoundBy, facts_by}
use Rattle.mg_image.specs.Tables.{Layout, stands_of, table_at}
use Rattle.mg_image.specs.declared.entry.Entry.{Entry}
use Rattle.mg_image_overlay_laws.specs.pages.Kinds.{HasNoSequences}
use Rattle.mg_image_overlay_laws.specs.records.Skips.{IsCommittedAt}
use Rattle.mg_model.specs.Answers.{is_committed}
use Rattle.mg_model.specs.History.{Entries}
use Rattle.mg_model.specs.declared.opening.Opening.{Opening}
use Rattle.mg_model.specs.declared.table.Table.{Table}
use Rattle.mg_overlay_laws.specs.Overlays.{left_by, left_state}
use Rattle.mg_pool.specs.Batch.{Changed}
use Rattle.mg_pool.specs.Pool.{shown}
use Rattle.mg_pool.specs.declared.pool.Pool.{Pool}
use Rattle.mg_pool_overlay_laws.specs.Needs.{Asked, Sessions}
use Rattle.mg_batches.specs.Batches.{ChangesOwn}
use Rattle.mg_snap.specs.Live.{State, all_see}
use Rattle.mg_space.specs.Taking.{IsGeometry}
use Rattle.mg_space.specs.View.{Tells}
use Rattle.mg_space.specs.declared.links.FireLinks.{FireLinks}
use Rattle.mg_tie_laws.specs.Changed.{ChangesFresh, KeptIn}
use Rattle.mg_version.specs.declared.cell.Cell.TheVariants as cells
use Rattle.mg_version.specs.declared.cell.Link.{Link}
use Rattle.mg_version.specs.declared.cell.Version.{Version}
use Rattle.mg_collecting.specs.LinkedLaws.{chain_linked}
use Rattle.mg_collecting.specs.Steps.{CollectStep, DropsUnneeded, drops_unneeded, takes_dead, takes_erased}

-- A step of a collection of a record, which is one of a table whoever is chosen, keeps every overlay.
abbrev pub StepKeeps : Form → (D : Type 0) → Meaning D → Type 0
StepKeeps form D m = (before after : Pool D FireLinks) (i j : Image) (asked : Asked) (session : Sessions) (o : Opening)
    (h : Entries) (state : ℕ → TxState) (live : State) (rec : RecId) (table : Table)
    → IsGeometry before.geometry → CollectStep m state live rec before after → Tells m before.disk i
    → Tells m after.disk j
    → ((chosen : ℕ → Bool) (layout : Layout) (r : Reading)
    → IsSoundBy form before.geometry.size (left_state chosen state) (shown before.dirty i) layout r
    → table_at (stands_of layout) rec.page.0 ≡ Some table)
    → KeptIn form before.geometry.size o h state asked session before i
    → KeptIn form before.geometry.size o h state asked session after j

pub dead_is : (s : TxState) → is_dead s ≡ true → s ≡ Dead
dead_is Active is = absurd cc
dead_is Limbo is = absurd cc
dead_is Dead is = refl
dead_is Committed is = absurd cc

pub committed_is : (s : TxState) → is_committed s ≡ true → s ≡ Committed
committed_is Active is = absurd cc
committed_is Limbo is = absurd cc
committed_is Dead is = absurd cc
committed_is Committed is = refl

pub both_of : (a b : Bool) → (a && b) ≡ true → (a ≡ true) × (b ≡ true)
both_of true true is = (refl, refl)
both_of true false is = absurd cc
both_of false b is = absurd cc

-- who is committed is so whoever is chosen
pub still_committed : (b : Bool) (s : TxState) → s ≡ Committed → left_by b s ≡ Committed
still_committed b s is = ap (left_by b) is ∙ still b
  where
    still : (c : Bool) → left_by c Committed ≡ Committed
    still true = refl
    still false = refl

one_version : (v w : Version) → Some (cells.Version v) ≡ Some (cells.Version w) → v ≡ w
one_version v w same = cc

-- a version of a record that stands in a cell is committed where that one is
committed_at : (f : Facts) (h : Cells) (x : RecId) (v : Version) → h x ≡ Some (cells.Version v)
    → f.state v.tx.0 ≡ Committed → (l : Option Link) (es : List Entry) → Chain h l es → Stands es x
    → IsCommittedAt f x es
committed_at f h x v cell committed l es ended there = there
committed_at f h x v cell committed l es (goes m e fs at is tx more) (inl here) =
    inl (here, ap (λ (w : Version). f.state w.tx.0) (one_version e.version v (sym is ∙ (ap h here ∙ cell))) ∙ committed)
committed_at f h x v cell committed l es (goes m e fs at is tx more) (inr there) =
    inr (committed_at f h x v cell committed e.version.back fs more there)

module _ (form : Form) (one : RowsAreOne form.coding) (none : HasNoSequences form) (no_primary : form.in_primary ≡ false)
    {D : Type 0} (m : Meaning D) (before after : Pool D FireLinks) (i j : Image) (asked : Asked) (session : Sessions)
    (o : Opening) (h : Entries) (state : ℕ → TxState) (live : State) (rec : RecId) (table : Table)
    (geometry : IsGeometry before.geometry) (tells : Tells m before.disk i) (later : Tells m after.disk j)
    (placed : (chosen : ℕ → Bool) (layout : Layout) (r : Reading)
    → IsSoundBy form before.geometry.size (left_state chosen state) (shown before.dirty i) layout r
    → table_at (stands_of layout) rec.page.0 ≡ Some table)
    (every : KeptIn form before.geometry.size o h state asked session before i) where
  abbrev pub changes_of : (fills : Image → Changed → Type 0) (own : ChangesOwn m before after fills)
      → ChangesFresh m before after i j own.batch
  changes_of fills own = record {
    ready = own.ready;
    geometry = geometry;
    keeps = own.keeps;
    frame = own.changed.frame;
    tells = tells;
    held = later.held;
  }

  -- whoever is chosen, the record has the version that stays, a committed one
  pub finds_kept : (newer gone : Link) (own : ChangesOwn m before after
      (λ image batch. DropsUnneeded before image state live rec newer gone batch)) (chosen : ℕ → Bool)
      (layout : Layout) (r : Reading)
      → IsSoundBy form before.geometry.size (left_state chosen state) (shown before.dirty i) layout r
      → HasCommittedAt (facts_by (left_state chosen state) (shown before.dirty i) layout) r rec newer.rec
  finds_kept newer gone own chosen layout r sound =
      let drops = own.filled i tells in
      let reads = sound.records.reads rec table (placed chosen layout r sound) in
      let linked = chain_linked (cells_of (shown before.dirty i))
      (newest_of rec (cells_of (shown before.dirty i) rec)) (r rec) reads in record {
        table = table;
        of = placed chosen layout r sound;
        committed = committed_at (facts_by (left_state chosen state) (shown before.dirty i) layout)
            (cells_of (shown before.dirty i)) newer.rec drops.drops.version drops.drops.meets.cell
            (ap (λ (t : TxNo). left_state chosen state t.0) drops.drops.meets.by
            ∙ still_committed (chosen newer.tx.0) (state newer.tx.0) (committed_is (state newer.tx.0) drops.kept))
            (newest_of rec (cells_of (shown before.dirty i) rec)) (r rec) reads
            (drops.its (r rec) (record { slot = linked.0; linked = linked.1 }));
      }

  by_step : CollectStep m state live rec before after
      → KeptIn form before.geometry.size o h state asked session after j
  by_step (takes_dead own) =
      let takes = own.filled i tells in
      dead_keeps form one none no_primary D FireLinks m before after i j own.batch asked session o h state rec table
      (changes_of _ own) takes.takes (dead_is (state takes.takes.was.tx.0) takes.dead) placed every
  by_step (drops_unneeded newer gone own) =
      drop_keeps form none no_primary D FireLinks m before after i j own.batch asked session o h state rec newer gone
      (changes_of _ own) (own.filled i tells).drops (finds_kept newer gone own) every
  by_step (takes_erased own) =
      let takes = own.filled i tells in
      let one_ = both_of takes.takes.was.deleted
      (is_committed (state takes.takes.was.tx.0) && all_see live takes.takes.was.tx.0) takes.erased in
      let two = both_of (is_committed (state takes.takes.was.tx.0)) (all_see live takes.takes.was.tx.0) one_.1 in
      erase_keeps form none no_primary D FireLinks m before after i j own.batch asked session o h state rec table
      (changes_of _ own) takes.takes (committed_is (state takes.takes.was.tx.0) two.0) one_.0 takes.alone placed every

pub step_keeps : (form : Form) → RowsAreOne form.coding → HasNoSequences form → form.in_primary ≡ false → (D : Type 0)
    (m : Meaning D) → StepKeeps form D m
step_keeps form one none no_primary D m before after i j asked session o h state live rec table geometry step tells later
    placed every = by_step form one none no_primary m before after i j asked session o h state live rec table geometry
    tells later placed every step
