-- A transaction's own newest version is replaced, or one that has not committed is taken out: the batch pays, by what its
-- engine knows of the pages.
use Rattle.std.specs.Prelude.{◌≡◌, ℕ, true, false, [], ◌∷◌, Some}
use Rattle.std.proofs.Common.{inl, inr, sym, subst, ap, ◌∙◌}
use Rattle.mg_base.specs.Image.{Image}
use Rattle.mg_base.specs.declared.numbers.RecId.{RecId}
use Rattle.mg_careful.specs.declared.links.Demand.{Demand}
use Rattle.mg_careful.specs.CarefulWrite.{DemandSet, Has}
use Rattle.mg_chain.specs.Writing.{HasNewest, Moves, PutsAt, Replaces, TakesOut}
use Rattle.mg_demand_laws.specs.Runs.{IsLasting, Lasting}
use Rattle.mg_image.specs.Records.{Reading}
use Rattle.mg_image.specs.Tables.{Layout}
use Rattle.mg_model.specs.Answers.{is_committed}
use Rattle.mg_model.specs.declared.table.Table.{Table}
use Rattle.mg_overlay_laws.specs.Overlays.{left_state}
use Rattle.mg_pool.specs.Batch.{Changed, content_in, lists}
use Rattle.mg_pool.specs.Pool.{shown}
use Rattle.mg_pool.specs.declared.pool.Pool.{Pool}
use Rattle.mg_batches.specs.Batches.{nothing_yet}
use Rattle.mg_slots.specs.Room.{need_of}
use Rattle.mg_space.specs.View.{viewed}
use Rattle.mg_space.specs.declared.links.FireLinks.{FireLinks}
use Rattle.mg_space.specs.declared.links.TheConstants.{VERSION}
use Rattle.mg_version.specs.declared.cell.Link.{Link}
use Rattle.mg_version.specs.declared.cell.Version.{Version}
use Rattle.mg_demand_laws.specs.Met.{has_either, of_listed}
use Rattle.mg_demand_laws.specs.Wanting.{want_of}
use Rattle.mg_demand_laws.specs.BatchSteps.{HasLasting}
use Rattle.mg_demand_laws.specs.CellTies.{write_wants}
use Rattle.mg_demand_laws.specs.GrowthTies.{room_versions, room_wants}
use Rattle.mg_demand_laws.specs.May.{MayMove}
use Rattle.mg_demand_laws.specs.KeepingTies.{move_keeps, out_keeps, over_keeps}
use Rattle.mg_demand_laws.specs.PartLaws.{knows_write}
use Rattle.mg_demand_laws.specs.Parts.{KnowsTable}
use Rattle.mg_engine_demand_laws.specs.Bearing.{Fates, LastsFor, PaysFor, asks}
use Rattle.mg_engine_demand_laws.specs.Fates.{StoodBefore}
use Rattle.mg_engine_demand_laws.specs.RecordLaws.{behind_committed, names_table}
use Rattle.mg_engine_demand_laws.specs.Stores.{WantsAll}
use Rattle.mg_engine_demand_laws.specs.Wanted.{IsPageOf}
use Rattle.mg_engine_demand_laws.specs.WriteLaws.{is_young, its_page, knows_table, left_committed, never_asks, of_sound}
use Rattle.mg_engine_demand_laws.specs.Writes.{Knows, ReplacementsPay, TakingOutPays}

module _ {D : Type 0} (store : Pool D FireLinks) (image : Image) (fates : Fates) (layout later : Layout) (r : Reading)
    (t : ℕ) (table : Table) (wanted : DemandSet) (batch : Changed) (rec : RecId)
    (known : Knows store image fates layout r t table wanted) (stood : StoodBefore layout later)
    (on : IsPageOf layout rec.page.0 table) (it : Lasting) (on_disk : DemandSet) (lasting : IsLasting it)
    (for : LastsFor fates it) (has : HasLasting it on_disk wanted) where
  abbrev all : WantsAll store.geometry.size (shown store.dirty image) fates layout wanted
  all = known.1

  -- the version behind the newest one is settled
  behind_settled : (newest : Link) (owner : ℕ) (was : Version)
      → HasNewest (viewed store image nothing_yet) rec newest owner was → (link : Link) → was.back ≡ Some link
      → it.settled link.tx.0 ≡ true
  behind_settled newest owner was newest_is link back = for.settled link.tx.0 ∙ ap is_committed
      (left_committed (known.0.limbo link.tx.0) (fates.state link.tx.0) (behind_committed store.geometry.size
      (left_state known.0.limbo fates.state) (shown store.dirty image) layout r wanted
      (of_sound store image fates layout r t table wanted known) rec table on newest was newest_is.head.slot newest_is.meets
      link back))

  module _ (v : Version) (its : v.tx.0 ≡ t) (replaces : Replaces store image nothing_yet batch rec v) where
    over : PutsAt store image nothing_yet batch replaces.newest.rec replaces.bytes
        → PaysFor store.geometry.size (shown store.dirty image) (viewed store image batch) (content_in batch.pages)
        (lists batch.orders) fates layout later [] it on_disk wanted
    over puts = record {
      pays = over_keeps D FireLinks store image nothing_yet batch rec v replaces puts (lists batch.orders) it on_disk wanted
          all.wants all.header (its_page store image fates layout r t table wanted known rec.page.0 on) all.orderly
          all.chained;
      own = λ d h is. absurd (of_listed [] d h);
      tables = λ other is. inl (stood other is);
      newly = λ d h. absurd h;
    }

    knows : KnowsTable store image nothing_yet replaces.owner t it.settled on_disk wanted
    knows = subst (λ (o : ℕ). KnowsTable store image nothing_yet o t it.settled on_disk wanted)
        (sym (replaces.its.head.owned.is ∙ names_table store.geometry.size (left_state known.0.limbo fates.state)
        (shown store.dirty image) layout r known.0.sound rec.page.0 table on))
        (knows_table store image fates layout r t table wanted known it on_disk lasting for has)

    may_move : MayMove store image nothing_yet batch rec v replaces it on_disk wanted
    may_move = record {
      write = knows_write store image t (lists batch.orders) it.settled on_disk nothing_yet replaces.owner wanted knows rec
          v.tx its (its_page store image fates layout r t table wanted known rec.page.0 on);
      lasting = lasting;
      young = λ d lasts same. is_young fates t known.0.active known.0.not_asked it for d lasts (same ∙ its);
      behind = behind_settled replaces.newest replaces.owner replaces.was replaces.its;
    }

    moved : (moves : Moves store image nothing_yet batch rec replaces.newest replaces.owner replaces.bytes v.tx
        replaces.was.back)
        → PaysFor store.geometry.size (shown store.dirty image) (viewed store image batch) (content_in batch.pages)
        (lists batch.orders) fates layout later [] it on_disk wanted
    moved moves = record {
      pays = move_keeps D FireLinks store image nothing_yet batch rec v replaces moves (lists batch.orders) it on_disk wanted
          may_move (λ a c is. is) all.orderly all.chained;
      own = λ d h is. ap (asks fates) (its_own d (of_listed (write_wants store image nothing_yet moves.puts.adds.given
          replaces.owner (need_of replaces.bytes) moves.at v.tx moves.puts.adds.gives) d h) is)
          ∙ never_asks fates t known.0.active known.0.not_asked;
      tables = λ other is. inl (stood other is);
      newly = λ d h. absurd h;
    }
      where
        its_own : (d : Demand) → Has (write_wants store image nothing_yet moves.puts.adds.given replaces.owner
            (need_of replaces.bytes) moves.at v.tx moves.puts.adds.gives) d → d.what ≡ VERSION → d.b ≡ t
        its_own d h is = elim (has_either (room_wants store image nothing_yet moves.puts.adds.given replaces.owner
            (need_of replaces.bytes) moves.at.page moves.puts.adds.gives moves.puts.adds.gives.found)
            (want_of moves.at.page.0 VERSION moves.at.slot v.tx.0 ∷ []) d h) [
              | inl x ↦ absurd (room_versions store image nothing_yet moves.puts.adds.given replaces.owner
                  (need_of replaces.bytes) moves.at.page moves.puts.adds.gives moves.puts.adds.gives.found d x is)
              | inr y ↦ elim y [
                | inl same ↦ ap (λ (e : Demand). e.b) same ∙ its
                | inr none ↦ absurd none
              ]
            ]

  out : (takes : TakesOut store image nothing_yet batch rec) → is_committed (fates.state takes.newest.tx.0) ≡ false
      → PaysFor store.geometry.size (shown store.dirty image) (viewed store image batch) (content_in batch.pages)
      (lists batch.orders) fates layout later [] it on_disk wanted
  out takes uncommitted = record {
    pays = out_keeps D FireLinks store image nothing_yet batch rec takes (lists batch.orders) it on_disk wanted (record {
      wants = all.wants;
      header = all.header;
      record_ = its_page store image fates layout r t table wanted known rec.page.0 on;
      unsettled = for.settled takes.newest.tx.0 ∙ uncommitted;
      behind = behind_settled takes.newest takes.owner takes.was takes.its;
      lasting = λ d h is done. has d h (lasting.of_settled d is done);
    }) (λ a c is. is) all.orderly all.chained;
    own = λ d h is. absurd (of_listed [] d h);
    tables = λ other is. inl (stood other is);
    newly = λ d h. absurd h;
  }

pub replacements_pay : (D : Type 0) → ReplacementsPay D
replacements_pay D store image fates layout later r t table wanted batch rec v known stood replaces its on it on_disk lasting for has =
    elim replaces.written [
      | inl puts ↦ over store image fates layout later r t table wanted batch rec known stood on it on_disk lasting for has v
          its replaces puts
      | inr apart ↦ moved store image fates layout later r t table wanted batch rec known stood on it on_disk lasting for has
          v its replaces apart.1
    ]

pub taking_out_pays : (D : Type 0) → TakingOutPays D
taking_out_pays D store image fates layout later r t table wanted batch rec known stood takes on uncommitted it on_disk lasting for has =
    out store image fates layout later r t table wanted batch rec known stood on it on_disk lasting for has takes uncommitted
