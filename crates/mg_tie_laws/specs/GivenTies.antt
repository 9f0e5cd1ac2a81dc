-- The page that the heap gives to a table is one of the table's pages afterwards.
use Rattle.std.proofs.Common.{◌≡◌, ◌≢◌, ◌⊎◌, inl, inr, ap, sym, subst, ◌∙◌, refl, arith, zero, suc, ℕ, ◌-◌, ◌+◌, ◌<◌, Bool, true, false, List, [], ◌∷◌, ◌++◌, length, Some}
use Rattle.std.specs.Prelude.{get_or, if◌then◌else◌, slice_index, ◌==◌}
use Rattle.mg_base.specs.Disk.{Meaning}
use Rattle.mg_base.specs.Fields.{byte}
use Rattle.mg_base.specs.Image.{Image}
use Rattle.mg_base.specs.declared.numbers.PageNo.{PageNo}
use Rattle.mg_base.specs.declared.transaction.TxState.{TxState}
use Rattle.mg_image.specs.Form.{Form, Pages}
use Rattle.mg_image.specs.Inventory.{is_used}
use Rattle.mg_image.specs.ReadingLaws.{RowsAreOne}
use Rattle.mg_image.specs.Records.{Reading}
use Rattle.mg_image.specs.Sound.{IsSoundBy}
use Rattle.mg_image.specs.Tables.{Has, IsOnce, Layout, LinkChain, ended, entries_in, goes, stands_of, table_at}
use Rattle.mg_image_overlay_laws.specs.pages.DataPages.{kind_of}
use Rattle.mg_image_overlay_laws.specs.pages.Growth.{has_back, has_either, has_front}
use Rattle.mg_image_overlay_laws.specs.pages.Kinds.{HasNoSequences}
use Rattle.mg_image_overlay_laws.specs.pages.Trees.{trees_stay}
use Rattle.mg_image_overlay_laws.specs.kept.KeptImages.{IsKept, keeping}
use Rattle.mg_image_overlay_laws.specs.pages.Reach.{IsEntered, here, later, once_apart}
use Rattle.mg_model.specs.declared.opening.Opening.{Opening}
use Rattle.mg_model.specs.declared.table.Table.{Table}
use Rattle.mg_model.specs.History.{Entries}
use Rattle.mg_image_overlay_laws.specs.tables.OneLayout.{sound_once}
use Rattle.mg_overlay_laws.specs.BatchLaws.{good_of_pool}
use Rattle.mg_overlay_laws.specs.Overlays.{left_state}
use Rattle.mg_pointer.specs.PointerPage.{entries_of, new_pointer_page, next_in}
use Rattle.mg_pool.specs.Batch.{Changed, content_in, lists}
use Rattle.mg_pool.specs.Pool.{shown}
use Rattle.mg_pool.specs.declared.pool.Pool.{Pool}
use Rattle.mg_pool_overlay_laws.specs.Needs.{Asked, Sessions}
use Rattle.mg_space.specs.Taking.{IsGeometry, region_of}
use Rattle.mg_space.specs.TakingLaws.{takes_keeps}
use Rattle.mg_space.specs.View.{viewed}
use Rattle.mg_space.specs.ViewLaws.{viewed_else, viewed_here}
use Rattle.mg_tie_laws.specs.Changed.{BatchIsChanged, ChangesFresh, KeptIn, cache_over, changed_fresh, fresh, needs_in}
use Rattle.mg_heap.specs.Growth.{ListsInLast, ListsInNew}
use Rattle.mg_heap.specs.Room.{FindsOrGrows, GivesRoom, IsFirstWithRoom, looked_at}
use Rattle.mg_image_overlay_laws.specs.tables.Growing.{IsTableOf}
use Rattle.mg_image_overlay_laws.specs.tables.GrowingLaws.{StandsTo, grows_pool, table_of_end}
use Rattle.mg_image_overlay_laws.specs.kept.Knowing.{entered_of}
use Rattle.mg_tie_laws.specs.Batches.{viewed_same, within_self}
use Rattle.mg_tie_laws.specs.GrowthTies.{MayBeLast}
use Rattle.mg_tie_laws.specs.RoomTies.{GrowsSome, end_of, ends_there, last_are, last_front, last_there, pointer_may, pointers_once, room_grows}

-- an entry of one of a chain's pages is reached along the chain
chain_entered : (pages : Pages) (n m : ℕ) (ns : List ℕ) → LinkChain (λ k. next_in (pages k)) m ns
    → Has (entries_in pages ns) n → IsEntered (λ k. Unit {0}) pages n m
chain_entered pages n m ns ended there = absurd there
chain_entered pages n m ns (goes k ks ne more) there =
    at (has_either (entries_of (pages k)) (entries_in pages ks) n there)
    (λ rest. chain_entered pages n (next_in (pages k)) ks more rest)
  where
    at : Has (entries_of (pages k)) n ⊎ Has (entries_in pages ks) n
        → (Has (entries_in pages ks) n → IsEntered (λ q. Unit {0}) pages n (next_in (pages k)))
        → IsEntered (λ q. Unit {0}) pages n k
    at (inl first) others = here k ne tt first
    at (inr rest) others = later k ne tt (others rest)

-- a chain whose pages but the last are as they were leads to the last, and on from there
last_entered : (old new : Pages) (n m q : ℕ) (front : List ℕ)
    → LinkChain (λ k. next_in (old k)) m (front ++ (q ∷ []))
    → ((k : ℕ) → Has front k → new k ≡ old k) → IsEntered (λ k. Unit {0}) new n q
    → IsEntered (λ k. Unit {0}) new n m
last_entered old new n m q [] (goes k ks ne more) same entered = entered
last_entered old new n m q (f ∷ front) (goes k ks ne more) same entered =
    later f ne tt (subst (λ (next : ℕ). IsEntered (λ i. Unit {0}) new n next)
    (sym (ap next_in (same f (inl refl))))
    (last_entered old new n (next_in (old f)) q front more (λ i is. same i (inr is)) entered))

pub has_at : (ns : List ℕ) (k : ℕ) → k < length ns → Has ns (get_or ns k 0)
has_at [] k less = absurd (omega (arith, less))
has_at (n ∷ ns) zero less = inl refl
has_at (n ∷ ns) (suc k) less = inr (has_at ns k (omega (arith, less)))

pub looked_within : (k len : ℕ) → k < len → looked_at k len < len
looked_within k len less = at (k == 0)
  where
    at : (b : Bool) → (if b then len - 1 else k - 1) < len
    at true = omega (arith, less)
    at false = omega (arith, less)

module _ {D L : Type 0} (form : Form) (store : Pool D L) (image : Image) (state : ℕ → TxState)
    (layout : Layout) (r : Reading) (old new : Changed) (table : Table) (need : ℕ) (n : PageNo)
    (lawful : IsGeometry store.geometry)
    (sound : IsSoundBy form store.geometry.size state (viewed store image old) layout r)
    (its : IsTableOf layout table) (gives : GivesRoom store image old new table.pointer.0 need n) where
  abbrev size : ℕ
  size = store.geometry.size

  abbrev view : Pages
  view = viewed store image old

  abbrev next : Pages
  next = viewed store image new

  abbrev q : ℕ
  q = slice_index gives.pointers (length gives.pointers - 1)

  abbrev front : List ℕ
  front = last_front form size state view layout r sound table its gives.pointers gives.data_pages
      gives.table

  are : gives.pointers ≡ front ++ (q ∷ [])
  are = last_are form size state view layout r sound table its gives.pointers gives.data_pages gives.table

  may : (k : ℕ) → Has gives.pointers k → MayBeLast size view k
  may = pointer_may form size state view layout r sound table its gives.pointers gives.data_pages
      gives.table

  last_may_be : MayBeLast size view q
  last_may_be = may q (last_there form size state view layout r sound table its gives.pointers
      gives.data_pages gives.table)

  once : IsOnce (front ++ (q ∷ []))
  once = subst IsOnce are (pointers_once form size state view layout r sound table its gives.pointers
      gives.data_pages gives.table)

  front_may : (k : ℕ) → Has front k → MayBeLast size view k
  front_may k there = may k (subst (λ (ns : List ℕ). Has ns k) (sym are)
      (has_front front (q ∷ []) k there))

  front_off : (k : ℕ) → Has front k → k ≢ q
  front_off k there same = once_apart front (q ∷ []) k once there (inl same)

  along : ((k : ℕ) → Has front k → next k ≡ view k) → IsEntered (λ k. Unit {0}) next gives.it.page.0 q
      → IsEntered (λ k. Unit {0}) next gives.it.page.0 table.pointer.0
  along same entered = last_entered view next gives.it.page.0 table.pointer.0 q front
      (subst (LinkChain (λ k. next_in (view k)) table.pointer.0) are gives.table.chain) same entered

  -- the last number of a list with one more
  has_new : (ns : List ℕ) (k : ℕ) → Has (ns ++ (k ∷ [])) k
  has_new ns k = has_back ns (k ∷ []) k (inl refl)

  some : (k : ℕ) → MayBeLast size view k → k ≢ 0
  some k last same = absurd (off_header (subst (λ (p : ℕ). byte (view p) 0 ≡ 4) same last.kind))
    where
      off_header : byte (view 0) 0 ≡ 4 → ⊥
      off_header four = let one : byte (view 0) 0 ≡ 1 = kind_of (view 0) 0 1 0 0 _ sound.header.fields in
          omega (arith, one, four)

  in_last : (pointer : List ℕ)
      → ListsInLast store.geometry store image old new table.pointer.0 (length gives.data_pages) q
      gives.it.page.0 pointer gives.it.bytes
      → IsEntered (λ k. Unit {0}) next gives.it.page.0 table.pointer.0
  in_last pointer it = along same (here q (some q last_may_be) tt
      (subst (λ (page : List ℕ). Has (entries_of page) gives.it.page.0) (sym last_now)
      (subst (λ (ns : List ℕ). Has ns gives.it.page.0) (sym it.adds.entries)
      (has_new (entries_of pointer) gives.it.page.0))))
    where
      views : next ≡ viewed store image it.listed
      views = viewed_same store image it.listed new it.orders.same_pages

      last_now : next q ≡ it.page
      last_now = ap (λ (pages : Pages). pages q) views
          ∙ viewed_here store image it.made it.listed q it.page it.puts

      same : (k : ℕ) → Has front k → next k ≡ view k
      same k there = ap (λ (pages : Pages). pages k) views
          ∙ (viewed_else store image it.made it.listed q it.page it.puts k (front_off k there)
          ∙ (viewed_else store image it.taken it.made gives.it.page.0 gives.it.bytes it.makes.puts k
          off_new ∙ it.takes.others k (λ e. (front_may k there).no_inventory
          (region_of size gives.it.page.0) (sym e))))
        where
          off_new : k ≢ gives.it.page.0
          off_new e = let both : true ≡ false = sym (front_may k there).used
              ∙ (ap (is_used size view) e ∙ it.takes.free.unused) in absurd cc

  in_new : (pointer : List ℕ) (p at : ℕ)
      → ListsInNew store.geometry store image old new table.pointer.0 (length gives.data_pages) at q p
      gives.it.page.0 pointer gives.it.bytes
      → IsEntered (λ k. Unit {0}) next gives.it.page.0 table.pointer.0
  in_new pointer p at it = along same (later q (some q last_may_be) tt
      (subst (λ (k : ℕ). IsEntered (λ i. Unit {0}) next gives.it.page.0 k) (sym next_is)
      (here p it.takes_pointer.free.no_header tt
      (subst (λ (page : List ℕ). Has (entries_of page) gives.it.page.0) (sym new_now)
      (subst (λ (ns : List ℕ). Has ns gives.it.page.0) (sym it.adds.entries)
      (has_new (entries_of (new_pointer_page size p table.pointer.0 at)) gives.it.page.0))))))
    where
      views : next ≡ viewed store image it.linked
      views = viewed_same store image it.linked new it.orders.same_pages

      apart : (k : ℕ) → MayBeLast size view k → p ≢ k
      apart k last e = let both : true ≡ false = sym last.used
          ∙ (ap (is_used size view) (sym e) ∙ it.takes_pointer.free.unused) in absurd cc

      off_data : (k : ℕ) → MayBeLast size view k → k ≢ gives.it.page.0
      off_data k last e =
          let used : is_used size (viewed store image it.with_bit) k ≡ true =
          takes_keeps store.geometry view (viewed store image it.with_bit) p lawful it.takes_pointer k
          last.used in
          let both : true ≡ false = sym used ∙ (ap (is_used size (viewed store image it.with_bit)) e
          ∙ it.takes.free.unused) in absurd cc

      last_now : next q ≡ it.link
      last_now = ap (λ (pages : Pages). pages q) views
          ∙ viewed_here store image it.begun it.linked q it.link it.puts_link

      next_is : next_in (next q) ≡ p
      next_is = ap next_in last_now ∙ it.links.next_set

      new_now : next p ≡ it.page
      new_now = ap (λ (pages : Pages). pages p) views
          ∙ (viewed_else store image it.begun it.linked q it.link it.puts_link p (apart q last_may_be)
          ∙ viewed_here store image it.made it.begun p it.page it.puts)

      same : (k : ℕ) → Has front k → next k ≡ view k
      same k there = ap (λ (pages : Pages). pages k) views
          ∙ (viewed_else store image it.begun it.linked q it.link it.puts_link k (front_off k there)
          ∙ (viewed_else store image it.made it.begun p it.page it.puts k
          (λ e. apart k (front_may k there) (sym e))
          ∙ (viewed_else store image it.taken it.made gives.it.page.0 gives.it.bytes it.makes.puts k
          (off_data k (front_may k there))
          ∙ (it.takes.others k (λ e. (front_may k there).no_inventory
          (region_of size gives.it.page.0) (sym e))
          ∙ it.takes_pointer.others k (λ e. (front_may k there).no_inventory (region_of size p)
          (sym e))))))

  pub given_entered : IsEntered (λ k. Unit {0}) next n.0 table.pointer.0
  given_entered = subst (λ (k : PageNo). IsEntered (λ i. Unit {0}) next k.0 table.pointer.0)
      gives.page_is (by gives.found)
    where
      found_there : IsFirstWithRoom view gives.data_pages need gives.it
          → IsEntered (λ k. Unit {0}) view gives.it.page.0 table.pointer.0
      found_there first = chain_entered view gives.it.page.0 table.pointer.0 gives.pointers gives.table.chain
          (subst (λ (ns : List ℕ). Has ns gives.it.page.0) gives.table.entries
          (subst (Has gives.data_pages) (sym first.page_is)
          (has_at gives.data_pages (looked_at first.after (length gives.data_pages))
          (looked_within first.after (length gives.data_pages) first.inside))))

      by : FindsOrGrows store image old new table.pointer.0 gives.pointers gives.data_pages need gives.it
          → IsEntered (λ k. Unit {0}) next gives.it.page.0 table.pointer.0
      by (inl (same, first)) = subst (λ (b : Changed). IsEntered (λ k. Unit {0}) (viewed store image b)
          gives.it.page.0 table.pointer.0) (sym same) (found_there first)
      by (inr (none_, inl (room, it))) = in_last (view q) it
      by (inr (none_, inr (full, (p, it)))) = in_new (view q) p (length gives.pointers - 1 + 1) it

-- a page that was given to a table in a batch of its own is the table's in each layout afterwards
abbrev pub GivenPagesAre : Form → (D L : Type 0) → Meaning D → Type 0
GivenPagesAre form D L m = (before after : Pool D L) (i j : Image) (batch : Changed) (asked : Asked)
    (session : Sessions) (o : Opening) (h : Entries) (state : ℕ → TxState) (table : Table) (need : ℕ)
    (n : PageNo) → ChangesFresh m before after i j batch
    → GivesRoom before i fresh batch table.pointer.0 need n
    → ((chosen : ℕ → Bool) (layout : Layout) (r : Reading) → IsSoundBy form before.geometry.size
    (left_state chosen state) (shown before.dirty i) layout r → IsTableOf layout table)
    → KeptIn form before.geometry.size o h state asked session before i
    → (chosen : ℕ → Bool) (layout : Layout) (r : Reading) → IsSoundBy form before.geometry.size
    (left_state chosen state) (shown after.dirty j) layout r
    → table_at (stands_of layout) n.0 ≡ Some table

pub given_pages_are : (form : Form) → RowsAreOne form.coding → HasNoSequences form → (D L : Type 0)
    (m : Meaning D) → GivenPagesAre form D L m
given_pages_are form one none D L m before after i j batch asked session o h state table need n changes gives
    its every chosen layout r sound =
    subst (λ (y : Layout). table_at (stands_of y) n.0 ≡ Some table)
    (sound_once form one none before.geometry.size (left_state chosen state) (viewed before i batch) to.layout layout
    start.reading r to.sound (subst (λ (pages : Pages). IsSoundBy form before.geometry.size
    (left_state chosen state) pages layout r) it.pool sound)).0 there
  where
    it : BatchIsChanged before after i j batch asked session
    it = changed_fresh m before after i j batch asked session changes

    start : IsKept form before.geometry.size o h (left_state chosen state) (shown before.dirty i)
        (shown before.dirty i)
    start = good_of_pool (keeping form before.geometry.size o h) state (cache_over before i)
        (needs_in asked session before) it.changes.was_clean (λ t p needs. (it.left t p needs).0) every
        chosen

    its_then : IsTableOf start.layout table
    its_then = its chosen start.layout start.reading start.sound

    grown : GrowsSome form.in_primary before.geometry.size table.pointer.0 (lists batch.orders)
        (content_in batch.pages) (shown before.dirty i) (end_of gives.pointers gives.data_pages)
        (viewed before i batch)
    grown = room_grows form before i (left_state chosen state) start.layout start.reading fresh batch table
        need n (lists batch.orders) (content_in batch.pages) changes.geometry start.sound its_then
        (within_self batch) gives

    to : StandsTo form before.geometry.size (left_state chosen state) (shown before.dirty i)
        (viewed before i batch) start.layout start.reading table grown.final
    to = grows_pool form (sound_once form one none) none before.geometry.size
        (trees_stay form before.geometry.size) (left_state chosen state) table (lists batch.orders)
        (content_in batch.pages) (shown before.dirty i) (viewed before i batch)
        (end_of gives.pointers gives.data_pages) grown.final grown.grows start.layout start.reading
        start.sound (ends_there form before.geometry.size (left_state chosen state) (shown before.dirty i)
        start.layout start.reading start.sound table its_then gives.pointers gives.data_pages gives.table)

    there : table_at (stands_of to.layout) n.0 ≡ Some table
    there = entered_of form before.geometry.size (left_state chosen state) (viewed before i batch) to.layout
        start.reading to.sound table (table_of_end to.layout table grown.final to.ends) (λ k. Unit {0})
        (viewed before i batch) (λ k is. refl) n.0
        (given_entered form before i (left_state chosen state) start.layout start.reading fresh batch table
        need n changes.geometry start.sound its_then gives)
