-- A version is dropped over a sound image without damage: its batch is filled, and it is lawful.
use Rattle.std.proofs.Common.{◌≡◌, ◌≢◌, ◌∙◌, ◌⊎◌, ◌≤◌, ◌<◌, ◌+◌, ◌++◌, ◌==◌, inl, inr, refl, sym, ap, subst, arith, ℕ, Bool, true, false, List, [], ◌∷◌, Option, None, Some, length, is_some, cond}
use Rattle.std.specs.Prelude.{if◌then◌else◌}
use Rattle.std.proofs.lemmas.Bool.{cases_eq, eq-eqb, ne_eqb}
use Rattle.mg_base.specs.Disk.{Meaning}
use Rattle.mg_base.specs.Image.{Image}
use Rattle.mg_base.specs.declared.damage.Damaged.{Damaged}
use Rattle.mg_base.specs.declared.geometry.Geometry.{Geometry}
use Rattle.mg_base.specs.declared.numbers.RecId.{RecId}
use Rattle.mg_base.specs.declared.transaction.TxState.{TxState}
use Rattle.mg_chain.specs.Chains.{LeadsTo, Meets, goes_on, newest_link, starts}
use Rattle.mg_chain.specs.Dropping.{DropsBehind, PutsOver, RefusesDrop, RefusesLeadPast, drop_leads, drop_newer, drop_older, lead_frees, lead_memory, lead_puts}
use Rattle.mg_chain.specs.Orders.{before_page}
use Rattle.mg_chain.specs.Refusals.{RefusesVersion}
use Rattle.mg_chain.specs.Writing.{FreesAt, leading_to}
use Rattle.mg_collect_tie_laws.specs.Chains.{each_placed}
use Rattle.mg_collecting.specs.Steps.{IsFollowed}
use Rattle.mg_heap.specs.Changing.{ChangesOne, MayHave, PutsCellAt}
use Rattle.mg_image.specs.Form.{Pages, packed_coding, packed_form}
use Rattle.mg_image.specs.ReadingLaws.{Opens, chain_opens}
use Rattle.mg_image.specs.RecordRules.{Facts}
use Rattle.mg_image.specs.Records.{Cells, Chain, Reading, Stands, cell_spelled, cells_of, record_key, slot_cell}
use Rattle.mg_image.specs.Sound.{IsCellOf, IsSoundBy, facts_by}
use Rattle.mg_image.specs.Tables.{Has, Layout, stands_of, table_at}
use Rattle.mg_image.specs.declared.entry.Entry.{Entry}
use Rattle.mg_image_overlay_laws.specs.tables.Growing.{IsTableOf}
use Rattle.mg_image_overlay_laws.specs.tables.OneTable.{its_data}
use Rattle.mg_model.specs.declared.table.Table.{Table}
use Rattle.mg_no_damage_laws.specs.Lawful.{AreGood, IsGood, good_before, good_lawful, good_none, good_orders, good_puts, in_here}
use Rattle.mg_no_damage_laws.specs.Reading.{Reads, page_there}
use Rattle.mg_no_damage_laws.specs.Records.{VersionsAreThere}
use Rattle.mg_no_damage_laws.specs.Sees.{SeesLawful, no_batch}
use Rattle.mg_no_damage_laws.specs.Sound.{SoundRecordsAreLawful}
use Rattle.mg_no_damage_laws.specs.WriteStanding.{IsStanding, cells_there, put_standing, sound_standing}
use Rattle.mg_pool.specs.Batch.{Changed, IsLawful}
use Rattle.mg_pool.specs.Dirty.{DirtyPages}
use Rattle.mg_pool.specs.Pool.{shown}
use Rattle.mg_pool.specs.declared.pool.Pool.{Pool}
use Rattle.mg_batches.specs.Batches.{nothing_yet}
use Rattle.mg_slots.specs.DataPage.{cell_of, taken_by}
use Rattle.mg_slots.specs.Room.{need_of, rest_of, room_of}
use Rattle.mg_space.specs.View.{KeepsStore, Tells, viewed}
use Rattle.mg_space.specs.ViewLaws.{tells_on}
use Rattle.mg_space.specs.declared.fault.SpaceFault.TheVariants as faults
use Rattle.mg_space.specs.declared.links.FireLinks.{FireLinks}
use Rattle.mg_tie_laws.specs.CellTies.{spelled_is}
use Rattle.mg_tie_laws.specs.Rows.{table_of_page}
use Rattle.mg_version.specs.Cells.{back_bytes, cell_bytes}
use Rattle.mg_version.specs.declared.cell.Cell.{Cell}
use Rattle.mg_version.specs.declared.cell.Cell.TheVariants as cells
use Rattle.mg_version.specs.declared.cell.Link.{Link}
use Rattle.mg_version.specs.declared.cell.Version.{Version}

-- ---- how long a version's cell is

back_most : (back : Option Link) (body : List ℕ) → length (back_bytes back ++ body) ≤ 10 + length body
back_most None body = omega arith
back_most (Some l) body = omega arith

back_led : (back : Option Link) (gone : Link) (body : List ℕ) → back ≡ Some gone
    → length (back_bytes back ++ body) ≡ 10 + length body
back_led None gone body is = absurd cc
back_led (Some l) gone body is = omega arith

-- one that leads on otherwise is no longer than one that led somewhere
no_longer : (v : Version) (gone : Link) (back : Option Link) → v.back ≡ Some gone
    → length (cell_bytes (cells.Version (leading_to v back))) ≤ length (cell_bytes (cells.Version v))
unfolding cell_bytes
no_longer v gone back is =
    let most = back_most back v.body in let led = back_led v.back gone v.body is in omega (arith, most, led)

-- ---- cells

one_cell : (c d : Cell) → Some c ≡ Some d → c ≡ d
one_cell c d is = cc

one_version : (v w : Version) → Some (cells.Version v) ≡ Some (cells.Version w) → v ≡ w
one_version v w is = cc

-- a slot that is read as a version has bytes
held_there : (cell : Option (List ℕ)) (v : Version) → slot_cell cell ≡ Some (cells.Version v)
    → (held : List ℕ) × (cell ≡ Some held) × (cell_spelled held ≡ cells.Version v)
held_there None v is = absurd cc
held_there (Some held) v is = (held, refl, one_cell (cell_spelled held) (cells.Version v) is)

-- which spell it, where the cell is lawful
spells_it : (held : List ℕ) (v : Version) → IsCellOf false held → cell_spelled held ≡ cells.Version v
    → held ≡ cell_bytes (cells.Version v)
spells_it held v (inl (cell, spells)) is = spells.spelled ∙ ap cell_bytes (sym (spelled_is held cell spells) ∙ is)
spells_it held v (inr (primary, its)) is = absurd cc

some_cell : (cell : Option (List ℕ)) (v : Version) → slot_cell cell ≡ Some (cells.Version v) → is_some cell ≡ true
some_cell None v is = absurd cc
some_cell (Some held) v is = refl

-- a cell may stand where a longer one stands
may_over : (b : List ℕ) (slot : ℕ) (held bytes : List ℕ) → cell_of b slot ≡ Some held → length bytes ≤ length held
    → MayHave b slot bytes
may_over b slot held bytes is short = record {
  slot_is = λ none. absurd (let no : Some held ≡ None = sym is ∙ none in cc);
  fits = subst (λ (c : Option (List ℕ)). need_of bytes ≤ cond (is_some c) (rest_of b + taken_by c) (room_of b))
      (sym is) (omega (arith, short));
}

-- a slot that has a cell has one after another cell was put
put_still : (old new : Pages) (at : RecId) (bytes : List ℕ) → PutsCellAt old new at bytes → (x : RecId)
    → is_some (cell_of (old x.page.0) x.slot) ≡ true → is_some (cell_of (new x.page.0) x.slot) ≡ true
put_still old new at bytes puts x some = by (cases_eq x.page.0 at.page.0) (cases_eq x.slot at.slot)
  where
    by : (x.page.0 ≡ at.page.0) ⊎ (x.page.0 ≢ at.page.0) → (x.slot ≡ at.slot) ⊎ (x.slot ≢ at.slot)
        → is_some (cell_of (new x.page.0) x.slot) ≡ true
    by (inr other) slot = ap (λ (b : List ℕ). is_some (cell_of b x.slot)) (puts.others x.page.0 other) ∙ some
    by (inl same) (inl also) = ap (λ (k : ℕ). is_some (cell_of (new k) x.slot)) same
        ∙ (ap (λ (s : ℕ). is_some (cell_of (new at.page.0) s)) also
        ∙ ap (λ (c : Option (List ℕ)). is_some c) puts.puts.sets.here)
    by (inl same) (inr other) = ap (λ (k : ℕ). is_some (cell_of (new k) x.slot)) same
        ∙ (ap (λ (c : Option (List ℕ)). is_some c) (puts.puts.sets.others x.slot other)
        ∙ (ap (λ (k : ℕ). is_some (cell_of (old k) x.slot)) (sym same) ∙ some))

-- where a slot had a cell that is freed, its page is in the batch
one_freed : {D L : Type 0} (store : Pool D L) (image : Image) (old new : Changed) (at : RecId)
    → FreesAt store image old new at → is_some (cell_of (viewed store image old at.page.0) at.slot) ≡ true
    → ChangesOne store.geometry.size old new at.page.0
one_freed store image old new at frees some = by frees.at_most
  where
    by : (new ≡ old) ⊎ ChangesOne store.geometry.size old new at.page.0
        → ChangesOne store.geometry.size old new at.page.0
    by (inr one) = one
    by (inl same) =
        let none : is_some (cell_of (viewed store image new at.page.0) at.slot) ≡ false =
        ap (λ (c : Option (List ℕ)). is_some c) (frees.frees.used some).sets.here in
        let also : is_some (cell_of (viewed store image new at.page.0) at.slot) ≡ true =
        ap (λ (b : Changed). is_some (cell_of (viewed store image b at.page.0) at.slot)) same ∙ some in absurd cc

-- ---- links that are followed

module _ (h : Cells) where
  -- A link is come to along these versions: it leads to the rest of them.
  record IsCome (es : List Entry) (l : Link) : Type 0 where
    rest : List Entry
    chain : Chain h (Some l) rest
    its : (x : RecId) → Stands rest x → Stands es x

  come : (start : Option Link) (first : ℕ) (es : List Entry) → Chain h start es → (n holder : ℕ) (l : Link)
      → LeadsTo h start first n holder l → IsCome es l
  come start first es chain n holder l (starts k is) =
      record { rest = es; chain = subst (λ (o : Option Link). Chain h o es) is chain; its = λ x there. there }
  come start first es chain n holder l (goes_on k before was next v leads meets back) =
      on (come start first es chain k before was leads)
    where
      behind : (rest : List Entry) → Opens h (Some was) rest → ((x : RecId) → Stands rest x → Stands es x)
          → IsCome es next
      behind [] opens its = absurd opens
      behind (d ∷ ds) opens its = record {
        rest = ds;
        chain = subst (λ (o : Option Link). Chain h o ds)
            (ap (λ (w : Version). w.back)
            (one_version d.version v (sym opens.1 ∙ (ap h opens.0 ∙ meets.cell))) ∙ back) opens.3;
        its = λ x there. its x (inr there);
      }

      on : IsCome es was → IsCome es next
      on it = behind it.rest (chain_opens h (Some was) it.rest it.chain) it.its

  -- so it leads to one of them
  stands_come : (es : List Entry) (l : Link) → IsCome es l → Stands es l.rec
  stands_come es l it = by it.rest (chain_opens h (Some l) it.rest it.chain) it.its
    where
      by : (rest : List Entry) → Opens h (Some l) rest → ((x : RecId) → Stands rest x → Stands es x)
          → Stands es l.rec
      by [] opens its = absurd opens
      by (d ∷ ds) opens its = its l.rec (inl opens.0)

-- ---- pages that were only read since

module _ {D : Type 0} (m : Meaning D) (a b : Pool D FireLinks) (image : Image) (keeps : KeepsStore m a b) where
  -- what holds of the pages before holds of them now
  pub shown_now : (P : Pages → Type 0) → P (shown a.dirty image) → P (shown b.dirty image)
  shown_now P holds = subst (λ (d : DirtyPages). P (shown d image)) (sym keeps.dirty) holds

  pub sound_now : (state : ℕ → TxState) (layout : Layout) (r : Reading)
      → IsSoundBy packed_form a.geometry.size state (shown a.dirty image) layout r
      → IsSoundBy packed_form b.geometry.size state (shown b.dirty image) layout r
  sound_now state layout r sound = shown_now (λ ps. IsSoundBy packed_form b.geometry.size state ps layout r)
      (subst (λ (g : Geometry). IsSoundBy packed_form g.size state (shown a.dirty image) layout r)
      (sym keeps.geometry) sound)

  pub lawful_now : SoundRecordsAreLawful → Tells m a.disk image → (state : ℕ → TxState) (layout : Layout) (r : Reading)
      → IsSoundBy packed_form a.geometry.size state (shown a.dirty image) layout r
      → SeesLawful m b image no_batch (facts_by state (shown b.dirty image) layout) r
  lawful_now lawful_of tells state layout r sound = record {
    tells = tells_on m a b image keeps tells;
    lawful = lawful_of b.geometry.size state (shown b.dirty image) layout r (sound_now state layout r sound);
  }

-- ---- the batch

module _ {D : Type 0} (m : Meaning D) (laws : Reads m) (versions : VersionsAreThere m)
    (lawful_of : SoundRecordsAreLawful) (image : Image) (state : ℕ → TxState) (layout : Layout) (r : Reading)
    (rec : RecId) (table : Table) (of : table_at (stands_of layout) rec.page.0 ≡ Some table) where
  of_table : IsTableOf layout table
  of_table = table_of_page layout rec.page.0 table of

  module _ (a : Pool D FireLinks)
      (sound : IsSoundBy packed_form a.geometry.size state (shown a.dirty image) layout r) (holder : ℕ) (newer : Link)
      (followed : IsFollowed (shown a.dirty image) rec holder newer) (v older : Version) (gone : Link)
      (meets : Meets (cells_of (shown a.dirty image)) newer v) (back : v.back ≡ Some gone)
      (behind : Meets (cells_of (shown a.dirty image)) gone older) where
    abbrev size : ℕ
    size = a.geometry.size

    abbrev pages : Pages
    pages = shown a.dirty image

    abbrev view : Changed → Pages
    view b = viewed a image b

    abbrev f : Facts
    f = facts_by state pages layout

    standing : IsStanding size pages of_table.stand
    standing = sound_standing size state pages layout r sound table of_table

    -- both versions stand on pages of the table
    listed : (n before : ℕ) (l : Link) → LeadsTo (cells_of pages) (newest_link pages rec) rec.page.0 n before l
        → Has of_table.stand.data_pages l.rec.page.0
    listed n before l leads = (its_data packed_form size state pages layout r sound table of_table l.rec.page.0).0
        (each_placed packed_coding f table (record_key table (r rec)) (r rec) l.rec
        (sound.records.each rec table of).each (stands_come (cells_of pages) (r rec) l
        (come (cells_of pages) (newest_link pages rec) rec.page.0 (r rec) (sound.records.reads rec table of) n before l
        leads)))

    newer_listed : Has of_table.stand.data_pages newer.rec.page.0
    newer_listed = listed followed.count holder newer followed.follows

    gone_listed : Has of_table.stand.data_pages gone.rec.page.0
    gone_listed = listed (followed.count + 1) newer.rec.page.0 gone
        (goes_on followed.count holder newer gone v followed.follows meets back)

    -- the newer one is put over itself, and is no longer
    its_bytes : (held : List ℕ) × (cell_of (pages newer.rec.page.0) newer.rec.slot ≡ Some held)
        × (cell_spelled held ≡ cells.Version v)
    its_bytes = held_there (cell_of (pages newer.rec.page.0) newer.rec.slot) v meets.cell

    held_is : its_bytes.0 ≡ cell_bytes (cells.Version v)
    held_is = spells_it its_bytes.0 v ((cells_there size pages of_table.stand standing newer.rec.page.0
        newer_listed).cells newer.rec.slot its_bytes.0 its_bytes.1) its_bytes.2

    may_stand : (bytes : List ℕ) → bytes ≡ cell_bytes (cells.Version (leading_to v older.back))
        → MayHave (pages newer.rec.page.0) newer.rec.slot bytes
    may_stand bytes spelled = may_over (pages newer.rec.page.0) newer.rec.slot its_bytes.0 bytes its_bytes.1
        (let short = no_longer v gone older.back back in let one = ap (length {A = ℕ}) spelled in
        let other = ap (length {A = ℕ}) held_is in omega (arith, short, one, other))

    put_stands : (put : Changed) → PutsOver a image nothing_yet put newer.rec v older.back
        → IsStanding size (view put) of_table.stand
    put_stands put puts = put_standing size pages of_table.stand standing (view put) newer.rec puts.bytes newer_listed
        puts.puts.puts (inl (cells.Version (leading_to v older.back), puts.spells))

    pub led_past : (n : Pool D FireLinks) → n.dirty ≡ a.dirty → Tells m n.disk image → (it : Damaged)
        → RefusesLeadPast m a n image nothing_yet newer.rec gone.rec v older.back (faults.Damaged it) → ⊥
    led_past n like tells it (lead_memory is) = absurd cc
    led_past n like tells it (lead_puts (inl refused)) = page_there m laws a n image like tells size nothing_yet
        of_table.stand standing newer.rec.page newer_listed it refused
    led_past n like tells it (lead_puts (inr none)) = none.none (may_stand none.bytes none.spells.spelled)
    led_past n like tells it (lead_frees put puts refused) = page_there m laws a n image like tells size put
        of_table.stand (put_stands put puts) gone.rec.page gone_listed it refused

  -- ---- it is filled

  module _ (a n : Pool D FireLinks) (tells : Tells m a.disk image) (keeps : KeepsStore m a n)
      (sound : IsSoundBy packed_form a.geometry.size state (shown a.dirty image) layout r) (holder : ℕ) (newer : Link)
      (followed : IsFollowed (shown a.dirty image) rec holder newer) where
    version_read : (count before : ℕ) (l : Link)
        → LeadsTo (cells_of (shown a.dirty image)) (newest_link (shown a.dirty image) rec) rec.page.0 count before l
        → (it : Damaged) → RefusesVersion m n [] (shown a.dirty image) before l (faults.Damaged it) → ⊥
    version_read count before l leads it refused = versions n image no_batch
        (facts_by state (shown n.dirty image) layout) r (lawful_now m a n image keeps lawful_of tells state layout r sound)
        rec table of count before l
        (shown_now m a n image keeps (λ ps. LeadsTo (cells_of ps) (newest_link ps rec) rec.page.0 count before l) leads)
        it (shown_now m a n image keeps (λ ps. RefusesVersion m n [] ps before l (faults.Damaged it)) refused)

    pub drop_filled : (it : Damaged) → RefusesDrop m a n image nothing_yet holder newer (faults.Damaged it) → ⊥
    drop_filled it (drop_newer refused) = version_read followed.count holder newer followed.follows it refused
    drop_filled it (drop_older v gone meets back refused) = version_read (followed.count + 1) newer.rec.page.0 gone
        (goes_on followed.count holder newer gone v followed.follows meets back) it refused
    drop_filled it (drop_leads v older gone ready meets back behind kept refused) = led_past ready
        (sound_now m a ready image kept state layout r sound) holder newer
        (shown_now m a ready image kept (λ ps. IsFollowed ps rec holder newer) followed) v older gone
        (shown_now m a ready image kept (λ ps. Meets (cells_of ps) newer v) meets) back
        (shown_now m a ready image kept (λ ps. Meets (cells_of ps) gone older) behind) n
        (keeps.dirty ∙ sym kept.dirty) (tells_on m a n image keeps tells) it refused

-- ---- it is lawful

module _ {D : Type 0} (a : Pool D FireLinks) (image : Image) (batch : Changed) (newer gone : Link)
    (drops : DropsBehind a image nothing_yet batch newer gone) where
  -- the page of the freed cell stands higher than all others
  high : ℕ → ℕ
  high n = if n == gone.rec.page.0 then 1 else 0

  high_there : high gone.rec.page.0 ≡ 1
  unfolding high
  high_there = ap (λ (b : Bool). if b then 1 else 0) (eq-eqb gone.rec.page.0 gone.rec.page.0 refl)

  high_off : (n : ℕ) → n ≢ gone.rec.page.0 → high n ≡ 0
  unfolding high
  high_off n off = ap (λ (b : Bool). if b then 1 else 0) (ne_eqb n gone.rec.page.0 off)

  abbrev page_len : ℕ
  page_len = a.geometry.size

  abbrev put : Changed
  put = drops.leads.put

  abbrev freed : Changed
  freed = drops.leads.freed

  put_good : IsGood page_len high 1 put
  put_good = good_puts nothing_yet put newer.rec.page.0 drops.leads.puts.puts.one.bytes
      drops.leads.puts.puts.one.puts page_len high 0 (good_none page_len high) drops.leads.puts.puts.one.len

  freed_one : ChangesOne page_len put freed gone.rec.page.0
  freed_one = one_freed a image put freed gone.rec drops.leads.frees
      (put_still (viewed a image nothing_yet) (viewed a image put) newer.rec drops.leads.puts.bytes
      drops.leads.puts.puts.puts gone.rec
      (some_cell (cell_of (viewed a image nothing_yet gone.rec.page.0) gone.rec.slot) drops.older drops.behind.cell))

  freed_good : IsGood page_len high 2 freed
  freed_good = good_puts put freed gone.rec.page.0 freed_one.bytes freed_one.puts page_len high 1 put_good freed_one.len

  rises : (n : ℕ) → Has (newer.rec.page.0 ∷ []) n → n ≢ gone.rec.page.0 → high n < high gone.rec.page.0
  rises n there off = let low = high_off n off in let top = high_there in omega (arith, low, top)

  orders_good : AreGood high freed (before_page (newer.rec.page.0 ∷ []) gone.rec.page.0)
  orders_good = good_before high freed (newer.rec.page.0 ∷ []) gone.rec.page.0
      (in_here put freed gone.rec.page.0 freed_one.bytes freed_one.puts) rises

  pub drop_lawful : IsLawful page_len batch.pages batch.orders
  drop_lawful = good_lawful page_len high 2 batch (good_orders page_len high 2 freed batch
      (before_page (newer.rec.page.0 ∷ []) gone.rec.page.0) freed_good drops.leads.ordered orders_good) (omega arith)
