-- The catalog gets data pages, one after another: the cache shows a sound image still, and so many of its pages are empty.
use Rattle.std.proofs.Common.{◌≡◌, ◌≢◌, ◌∙◌, ◌⊎◌, inl, inr, ◌≤◌, ◌+◌, ◌-◌, ◌∷◌, ℕ, Bool, true, false, List, Some, length, refl, sym, ap, subst, arith}
use Rattle.std.specs.Prelude.{if◌then◌else◌, nat_lt}
use Rattle.mg_base.specs.Disk.{Meaning, MayLeave}
use Rattle.mg_base.specs.Image.{Image}
use Rattle.mg_base.specs.declared.geometry.Geometry.{Geometry}
use Rattle.mg_base.specs.declared.numbers.PageNo.{PageNo}
use Rattle.mg_base.specs.declared.transaction.TxState.{TxState}
use Rattle.mg_heap.specs.Room.{GivesRoom}
use Rattle.mg_image.specs.Form.{Pages, packed_form}
use Rattle.mg_image.specs.Inventory.{is_used}
use Rattle.mg_image.specs.Tables.{Has, IsOnce, stands_of, table_at}
use Rattle.mg_model.specs.declared.table.Table.{Table}
use Rattle.mg_no_damage_laws.specs.Sees.{no_batch}
use Rattle.mg_pool.specs.Batch.{Changed}
use Rattle.mg_pool.specs.Pool.{shown}
use Rattle.mg_pool.specs.declared.pool.Pool.{Pool}
use Rattle.mg_slots.specs.DataPage.{slot_count}
use Rattle.mg_slots.specs.Room.{least_free, rest_of, room_of}
use Rattle.mg_space.specs.Taking.{IsGeometry}
use Rattle.mg_space.specs.TakingLaws.{page_sizes}
use Rattle.mg_space.specs.View.{KeepsStore, Tells, viewed}
use Rattle.mg_space.specs.ViewLaws.{tells_on}
use Rattle.mg_space.specs.declared.links.FireLinks.{FireLinks}
use Rattle.mg_tie_laws.specs.Changed.{BatchIsChanged, changed_batches_are}
use Rattle.mg_table_batch.specs.Making.{Grows}
use Rattle.mg_image_overlay_laws.specs.tables.Growing.{IsTableOf}
use Rattle.mg_image_overlay_laws.specs.tables.OneTable.{its_data}
use Rattle.mg_no_damage_laws.specs.Given.{data_apart}
use Rattle.mg_no_damage_laws.proofs.MidwayLemmas.{IsMidway, its_catalog, room_placed, room_stays, room_step}
use Rattle.mg_no_damage_laws.specs.Reading.{Reads, views}
use Rattle.mg_no_damage_laws.specs.RoomLaws.{given_or_new, to}

-- no page has room for as many bytes as it has
room_less : (b : List ℕ) → room_of b ≤ length b - 20
room_less b = by (nat_lt (least_free b) (slot_count b))
  where
    by : (inside : Bool) → (if inside then rest_of b else rest_of b - 4) ≤ length b - 20
    by true = omega arith
    by false = omega arith

module _ {D : Type 0} (m : Meaning D) (laws : Reads m) (size_is : ℕ) (state : ℕ → TxState) (catalog : Table)
    (head : List ℕ) where
  -- A cache shows a sound image with the catalog, of whose data pages so many are empty.
  pub record IsStage (store : Pool D FireLinks) (count : ℕ) : Type 0 where
    pub image : Image
    pub tells : Tells m store.disk image
    pub geometry : IsGeometry store.geometry
    pub sized : store.geometry.size ≡ size_is
    pub midway : IsMidway store.geometry.size state catalog head (shown store.dirty image)
    pub free : List ℕ
    pub many : count ≤ length free
    pub once : IsOnce free
    pub placed : (k : ℕ) → Has free k → table_at (stands_of midway.layout) k ≡ Some catalog
    pub empty : (k : ℕ) → Has free k → store.geometry.size ≤ room_of (shown store.dirty image k) + 24

  -- what it shows, on pages of a geometry
  abbrev Shows : List ℕ → Geometry → Pages → Type 0
  Shows free g pages = (mid : IsMidway g.size state catalog head pages)
      × ((k : ℕ) → Has free k → table_at (stands_of mid.layout) k ≡ Some catalog)
      × ((k : ℕ) → Has free k → g.size ≤ room_of (pages k) + 24)

  -- pages were read
  module _ (old ready : Pool D FireLinks) (count : ℕ) (keeps : KeepsStore m old ready) (it : IsStage old count) where
    shows_on : Shows it.free ready.geometry (shown ready.dirty it.image)
    shows_on = subst (λ (g : Geometry). Shows it.free g (shown ready.dirty it.image)) (sym keeps.geometry)
        (subst (λ (ps : Pages). Shows it.free old.geometry ps)
        (sym (views m laws old ready it.image keeps.dirty (tells_on m old ready it.image keeps it.tells)
        old.geometry.size no_batch)) (it.midway, it.placed, it.empty))

    pub stage_on : IsStage ready count
    stage_on = record {
      image = it.image;
      tells = tells_on m old ready it.image keeps it.tells;
      geometry = subst IsGeometry (sym keeps.geometry) it.geometry;
      sized = ap (λ (g : Geometry). g.size) keeps.geometry ∙ it.sized;
      midway = shows_on.0;
      free = it.free;
      many = it.many;
      once = it.once;
      placed = shows_on.1;
      empty = shows_on.2;
    }

  module _ (holds : (disk : D) → m.tells disk ≡ true → (image : Image) × (m.held disk ≡ Some image) × MayLeave m disk image)
      (before after : Pool D FireLinks) (count : ℕ) (it : IsStage before count)
      (grows : Grows m before after catalog.pointer.0) where
    abbrev size : ℕ
    size = before.geometry.size

    abbrev view : Changed → Pages
    view b = viewed before it.image b

    abbrev batch : Changed
    batch = grows.batch

    abbrev its : IsTableOf it.midway.layout catalog
    its = its_catalog size state catalog head (view no_batch) it.midway

    filled : (n : PageNo) × GivesRoom before it.image no_batch grows.batch catalog.pointer.0 before.geometry.size n
    filled = grows.filled it.image it.tells

    abbrev n : PageNo
    n = filled.0

    abbrev gives : GivesRoom before it.image no_batch grows.batch catalog.pointer.0 before.geometry.size n
    gives = filled.1

    told_after : m.tells after.disk ≡ true
    told_after = ap m.tells (grows.changed.changes.enters.disk ∙ grows.changed.changes.puts.disk)
        ∙ (grows.changed.changes.written.tells ∙ (grows.keeps.disk.tells ∙ it.tells.told))

    now : (j : Image) × (m.held after.disk ≡ Some j) × MayLeave m after.disk j
    now = holds after.disk told_after

    changed : BatchIsChanged before after it.image now.0 grows.batch (λ t. false) (λ t. 0)
    changed = changed_batches_are D FireLinks m before grows.ready after it.image now.0 grows.batch (λ t. false) (λ t. 0)
        grows.keeps grows.changed.frame it.tells now.1

    same_geometry : after.geometry ≡ before.geometry
    same_geometry = grows.changed.geometry ∙ grows.keeps.geometry

    abbrev grown : IsMidway size state catalog head (view batch)
    grown = room_step m laws before it.image it.tells it.geometry state catalog head no_batch batch size n gives it.midway

    -- the page is none that was used, and is empty
    fresh : (k : ℕ) → is_used size (view no_batch) k ≡ true
        → (n.0 ≢ k) × (size ≤ room_of (view batch n.0) + 24)
    fresh k used = by (given_or_new m laws before before it.image refl it.tells it.geometry no_batch state
        it.midway.layout it.midway.reading it.midway.sound catalog its batch size n gives k used)
      where
        by : (size ≤ room_of (view batch n.0)) ⊎ ((n.0 ≢ k) × (size ≤ room_of (view batch n.0) + 24))
            → (n.0 ≢ k) × (size ≤ room_of (view batch n.0) + 24)
        by (inr new) = new
        by (inl room) =
            let less = room_less (view batch n.0) in
            let whole : length (view batch n.0) ≡ size = grown.sound.header.whole n.0 in
            let least = (page_sizes size it.geometry.size).0 in absurd (omega (arith, room, less, whole, least))

    used_free : (k : ℕ) → Has it.free k → is_used size (view no_batch) k ≡ true
    used_free k there = (data_apart size state (view no_batch) it.midway.layout it.midway.reading it.midway.sound catalog
        its k ((its_data packed_form size state (view no_batch) it.midway.layout it.midway.reading it.midway.sound catalog
        its k).0 (it.placed k there))).used

    its_placed : (k : ℕ) → Has (n.0 ∷ it.free) k → table_at (stands_of grown.layout) k ≡ Some catalog
    its_placed k (inl same) = subst (λ (j : ℕ). table_at (stands_of grown.layout) j ≡ Some catalog) (sym same)
        (room_placed m laws before it.image it.tells it.geometry state catalog head no_batch batch size n gives it.midway)
    its_placed k (inr there) = room_stays m laws before it.image it.tells it.geometry state catalog head no_batch batch
        size n gives it.midway k (it.placed k there)

    its_empty : (k : ℕ) → Has (n.0 ∷ it.free) k → size ≤ room_of (view batch k) + 24
    its_empty k (inl same) = subst (λ (j : ℕ). size ≤ room_of (view batch j) + 24) (sym same)
        (fresh 0 it.midway.sound.header.used).1
    its_empty k (inr there) = subst (λ (b : List ℕ). size ≤ room_of b + 24)
        (sym ((to m laws before before it.image refl it.tells it.geometry no_batch state it.midway.layout
        it.midway.reading it.midway.sound catalog its batch size n gives).data_same k catalog (it.placed k there)))
        (it.empty k there)

    shows_now : Shows (n.0 ∷ it.free) after.geometry (shown after.dirty now.0)
    shows_now = subst (λ (g : Geometry). Shows (n.0 ∷ it.free) g (shown after.dirty now.0)) (sym same_geometry)
        (subst (λ (ps : Pages). Shows (n.0 ∷ it.free) before.geometry ps) (sym changed.pool)
        (grown, its_placed, its_empty))

    pub stage_grown : IsStage after (count + 1)
    stage_grown = record {
      image = now.0;
      tells = record { told = told_after; held = now.1 };
      geometry = subst IsGeometry (sym same_geometry) it.geometry;
      sized = ap (λ (g : Geometry). g.size) same_geometry ∙ it.sized;
      midway = shows_now.0;
      free = n.0 ∷ it.free;
      many = let many = it.many in omega (arith, many);
      once = ((λ there. (fresh n.0 (used_free n.0 there)).0 refl), it.once);
      placed = shows_now.1;
      empty = shows_now.2;
    }
