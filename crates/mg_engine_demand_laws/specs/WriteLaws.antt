-- The batches of a transaction that writes records pay, by what its engine knows of the pages.
use Rattle.std.specs.Prelude.{◌≡◌, ◌≢◌, ◌⊎◌, ◌&&◌, ℕ, Bool, true, false, []}
use Rattle.std.proofs.Common.{inl, inr, refl, sym, subst, ap, ◌∙◌}
use Rattle.std.proofs.lemmas.Bool.{both_ways}
use Rattle.mg_base.specs.Image.{Image}
use Rattle.mg_base.specs.declared.transaction.TxState.{TxState}
use Rattle.mg_base.specs.declared.transaction.TxState.TheVariants.{Active, Limbo, Dead, Committed}
use Rattle.mg_careful.specs.declared.links.Demand.{Demand}
use Rattle.mg_careful.specs.CarefulWrite.{DemandSet, Has, listed}
use Rattle.mg_demand_laws.specs.Runs.{IsLasting, Lasting}
use Rattle.mg_image.specs.Inventory.{inventory_page}
use Rattle.mg_image.specs.Records.{Reading}
use Rattle.mg_image.specs.Tables.{Layout}
use Rattle.mg_model.specs.Answers.{is_active, is_committed}
use Rattle.mg_model.specs.declared.table.Table.{Table}
use Rattle.mg_overlay_laws.specs.Overlays.{left_by, left_state}
use Rattle.mg_pool.specs.Batch.{Changed, content_in, lists}
use Rattle.mg_pool.specs.Pool.{shown}
use Rattle.mg_pool.specs.declared.pool.Pool.{Pool}
use Rattle.mg_batches.specs.Batches.{nothing_yet}
use Rattle.mg_space.specs.Taking.{region_of}
use Rattle.mg_space.specs.View.{viewed}
use Rattle.mg_space.specs.declared.links.TheConstants.{BIT, POINTER}
use Rattle.mg_image_overlay_laws.specs.tables.Growing.{IsTableOf}
use Rattle.mg_space.specs.declared.links.FireLinks.{FireLinks}
use Rattle.mg_demand_laws.specs.Met.{in_listed, of_listed}
use Rattle.mg_demand_laws.specs.Wanting.{want_of}
use Rattle.mg_demand_laws.specs.BatchSteps.{HasLasting}
use Rattle.mg_demand_laws.specs.Wants.{IsDataOf, WantsPointer}
use Rattle.mg_demand_laws.specs.KeepingTies.{part_keeps}
use Rattle.mg_demand_laws.specs.FillTies.{fill_pays}
use Rattle.mg_demand_laws.specs.PartLaws.{place_part, record_part, room_part, version_part}
use Rattle.mg_demand_laws.specs.Parts.{KnowsTable, PaysPart, PaysTable}
use Rattle.mg_engine_demand_laws.specs.Bearing.{Fates, LastsFor, PaysFor, asks}
use Rattle.mg_engine_demand_laws.specs.RecordLaws.{names_table, record_wanted, stand_owns}
use Rattle.mg_engine_demand_laws.specs.Stores.{WantsAll}
use Rattle.mg_engine_demand_laws.specs.Wanted.{IsPageOf, SoundAndWanted}
use Rattle.mg_engine_demand_laws.specs.Writes.{FirstsPay, GrowthPays, Knows, MakingPays, PlacesPay, PushesPay, WritesInto}

-- ---- a transaction that is active, and has not asked for its commit

module _ (fates : Fates) (t : ℕ) (active : fates.state t ≡ Active) (not_asked : fates.asked t ≡ false) where
  pub never_asks : asks fates t ≡ false
  never_asks = none (is_active (fates.state t)) (fates.asked t) not_asked
    where
      none : (x y : Bool) → y ≡ false → (x && y) ≡ false
      none true y is = is
      none false y is = refl

  pub not_settled : (it : Lasting) → LastsFor fates it → it.settled t ≡ false
  not_settled it for = for.settled t ∙ ap is_committed active

  pub is_young : (it : Lasting) → LastsFor fates it → (d : Demand) → it.lasts d ≡ true → d.b ≢ t
  is_young it for d lasts same = elim (for.lasts d lasts) [
    | inl committed ↦ both_ways _ (ap is_committed (ap fates.state same ∙ active)) committed
    | inr asked ↦ both_ways _ (ap (asks fates) same ∙ never_asks) asked
  ]

-- who has committed, whichever active ones count as in limbo, has committed
pub left_committed : (chosen : Bool) (x : TxState) → left_by chosen x ≡ Committed → x ≡ Committed
left_committed true Active is = absurd cc
left_committed false Active is = absurd cc
left_committed true Limbo is = absurd cc
left_committed false Limbo is = absurd cc
left_committed true Dead is = absurd cc
left_committed false Dead is = absurd cc
left_committed true Committed is = refl
left_committed false Committed is = refl

module _ {D : Type 0} (store : Pool D FireLinks) (image : Image) (fates : Fates) (layout : Layout) (r : Reading)
    (t : ℕ) (table : Table) (wanted : DemandSet) (known : Knows store image fates layout r t table wanted) where
  abbrev may : WritesInto store image fates layout r t table
  may = known.0

  abbrev all : WantsAll store.geometry.size (shown store.dirty image) fates layout wanted
  all = known.1

  pub of_sound : SoundAndWanted store.geometry.size (left_state known.0.limbo fates.state) (shown store.dirty image)
      layout r wanted
  of_sound = record { sound = may.sound; wants = all.wants; orderly = all.orderly; tables = all.tables }

  pub its_page : (n : ℕ) → IsPageOf layout n table → IsDataOf store.geometry.size wanted n
  its_page n on = record_wanted store.geometry.size (left_state known.0.limbo fates.state) (shown store.dirty image) layout
      r wanted of_sound n table on

  module _ (it : Lasting) (on_disk : DemandSet) (lasting : IsLasting it) (for : LastsFor fates it)
      (has : HasLasting it on_disk wanted) where
    pub knows_table : KnowsTable store image nothing_yet table.pointer.0 t it.settled on_disk wanted
    knows_table = record {
      lawful = may.lawful;
      wants = all.wants;
      orderly = all.orderly;
      chained = all.chained;
      header = all.header;
      number = all.numbers t may.active;
      owns = stand_owns store.geometry.size (left_state known.0.limbo fates.state) (shown store.dirty image) layout r
          may.sound table may.stands;
      root = all.tables table may.stands;
      young = not_settled fates t may.active may.not_asked it for;
      lasting = λ d h is done. has d h (lasting.of_settled d is done);
    }

    -- a part that is all of the batch
    pub part_pays : (later : Layout) (batch : Changed)
        (part : PaysPart store image nothing_yet batch t (lists batch.orders) it.settled on_disk wanted)
        → ((other : Table) → IsTableOf later other → IsTableOf layout other
        ⊎ WantsPointer store.geometry.size (listed part.more) other.pointer.0 other.pointer.0 0)
        → PaysFor store.geometry.size (shown store.dirty image) (viewed store image batch) (content_in batch.pages)
        (lists batch.orders) fates layout later [] it on_disk wanted
    part_pays later batch part tables = record {
      pays = part_keeps D FireLinks store image nothing_yet batch t (content_in batch.pages) (lists batch.orders) it on_disk
          wanted lasting (is_young fates t may.active may.not_asked it for) part;
      own = λ d h is. ap (asks fates) (part.own d (of_listed part.more d h) is)
          ∙ never_asks fates t may.active may.not_asked;
      tables = tables;
      newly = λ d h. absurd h;
    }

pub places_pay : (D : Type 0) → PlacesPay D
places_pay D store image fates layout later r t table wanted batch at known stood spot it on_disk lasting for has =
    part_pays store image fates layout r t table wanted known it on_disk lasting for has later batch
    (place_part D FireLinks store image nothing_yet batch table.pointer.0 t at (lists batch.orders) it.settled on_disk wanted
    (knows_table store image fates layout r t table wanted known it on_disk lasting for has) spot
    (λ a c is. is)).part (λ other its. inl (stood other its))

pub firsts_pay : (D : Type 0) → FirstsPay D
firsts_pay D store image fates layout later r t table wanted batch at v known stood makes its on free it on_disk lasting for has =
    part_pays store image fates layout r t table wanted known it on_disk lasting for has later batch
    (record_part D FireLinks store image nothing_yet batch table.pointer.0 t at v (lists batch.orders) it.settled on_disk
    wanted (knows_table store image fates layout r t table wanted known it on_disk lasting for has) makes its
    (its_page store image fates layout r t table wanted known at.page.0 on) free (λ a c is. is))
    (λ other is. inl (stood other is))

pub pushes_pay : (D : Type 0) → PushesPay D
pushes_pay D store image fates layout later r t table wanted batch rec v known stood pushes its on committed it on_disk lasting for has =
    part_pays store image fates layout r t table wanted known it on_disk lasting for has later batch
    (version_part D FireLinks store image nothing_yet batch t rec v pushes (lists batch.orders) it.settled on_disk wanted
    knows its (its_page store image fates layout r t table wanted known rec.page.0 on)
    (for.settled pushes.newest.tx.0 ∙ ap is_committed committed) (λ a c is. is)) (λ other is. inl (stood other is))
  where
    owned : pushes.owner ≡ table.pointer.0
    owned = pushes.head.owned.is ∙ names_table store.geometry.size (left_state known.0.limbo fates.state)
        (shown store.dirty image) layout r known.0.sound rec.page.0 table on

    knows : KnowsTable store image nothing_yet pushes.owner t it.settled on_disk wanted
    knows = subst (λ (o : ℕ). KnowsTable store image nothing_yet o t it.settled on_disk wanted) (sym owned)
        (knows_table store image fates layout r t table wanted known it on_disk lasting for has)

pub growth_pays : (D : Type 0) → GrowthPays D
growth_pays D store image fates layout later r t table wanted batch need n known stood gives it on_disk lasting for has =
    part_pays store image fates layout r t table wanted known it on_disk lasting for has later batch
    (room_part D FireLinks store image nothing_yet batch table.pointer.0 t need n (lists batch.orders) it.settled on_disk
    wanted (knows_table store image fates layout r t table wanted known it on_disk lasting for has) gives
    (λ a c is. is)).part (λ other is. inl (stood other is))

pub making_pays : (D : Type 0) → MakingPays D
making_pays D store image fates layout later r t table catalog wanted name shape batch known begins fills stood it on_disk lasting for has =
    part_pays store image fates layout r t table wanted known it on_disk lasting for has later batch whole.part
    (λ other its. elim (stood other its) [
      | inl before ↦ inl before
      | inr new ↦ inr (record {
        page = in_listed whole.part.more (want_of other.pointer.0 POINTER other.pointer.0 0)
            (subst (λ (n : ℕ). Has whole.part.more (want_of n POINTER n 0)) (sym new) whole.root);
        bit = in_listed whole.part.more _ (subst (λ (n : ℕ). Has whole.part.more
            (want_of (inventory_page store.geometry.size (region_of store.geometry.size n)) BIT n 0)) (sym new) whole.bit);
      })
    ])
  where
    whole : PaysTable store image nothing_yet batch t fills.page (lists batch.orders) it.settled on_disk wanted
    whole = fill_pays D FireLinks store image catalog t name shape nothing_yet batch fills (lists batch.orders) it.settled
        on_disk wanted (subst (λ (o : ℕ). KnowsTable store image nothing_yet o t it.settled on_disk wanted) (sym begins)
        (knows_table store image fates layout r t table wanted known it on_disk lasting for has)) (λ a c is. is)
