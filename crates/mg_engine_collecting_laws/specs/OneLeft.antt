-- What is left of one record where it is collected, and that the versions of all others stay as they are.
use Rattle.std.proofs.Common.{◌≡◌, ◌≢◌, ◌∙◌, ◌||◌, inl, inr, refl, sym, ap, subst, ℕ, Bool, true, false, List, [], ◌∷◌, map, None, Option, Some, is_some}
use Rattle.std.specs.Prelude.{if◌then◌else◌}
use Rattle.std.proofs.Math.Path.{fun_ext}
use Rattle.mg_base.specs.Disk.{Meaning}
use Rattle.mg_base.specs.Image.{Image}
use Rattle.mg_base.specs.declared.numbers.RecId.{RecId}
use Rattle.mg_base.specs.declared.transaction.TxState.{TxState}
use Rattle.mg_base.specs.declared.transaction.TxState.TheVariants.{Committed}
use Rattle.mg_chain.specs.Bases.{StandsFor as BasesStandFor}
use Rattle.mg_chain.specs.Chains.{newest_link}
use Rattle.mg_chain.specs.Writing.{leading_to, link_to}
use Rattle.mg_collecting.specs.Collecting.{HasVersions}
use Rattle.mg_collecting.specs.Leaving.{AreLinked, HasInOrder, LeavesTold, first_link}
use Rattle.mg_collecting.specs.Remaining.{remaining}
use Rattle.mg_core.specs.declared.parts.Core.{Core}
use Rattle.mg_core_collecting.specs.Every.{CollectsListed, is_collected, left_alone}
use Rattle.mg_core_collecting.specs.Places.{IsSettled, IsUnsettled}
use Rattle.mg_engine_meaning_laws.specs.Standings.{Numbers, Tables}
use Rattle.mg_engine_step_laws.specs.standing.Based.{AreBased}
use Rattle.mg_image.specs.Form.{Pages}
use Rattle.mg_image.specs.ReadingLaws.{Opens, chain_opens}
use Rattle.mg_image.specs.RecordRules.{EachBack}
use Rattle.mg_image.specs.Records.{Cells, Chain, Stands, cells_of, newest_of, writer}
use Rattle.mg_image.specs.Tables.{stands_of, table_at}
use Rattle.mg_image.specs.declared.entry.Entry.{Entry}
use Rattle.mg_model.specs.Answers.{is_committed}
use Rattle.mg_model.specs.History.{Entries}
use Rattle.mg_model.specs.Machine.{state_of}
use Rattle.mg_model.specs.Openings.{everyone}
use Rattle.mg_model.specs.declared.opening.Opening.{Opening}
use Rattle.mg_model.specs.declared.table.Table.{Table}
use Rattle.mg_overlay_laws.specs.Overlays.{left_state}
use Rattle.mg_pool.specs.Dirty.{DirtyPages}
use Rattle.mg_pool.specs.Pool.{shown}
use Rattle.mg_pool.specs.declared.pool.Pool.{Pool}
use Rattle.mg_snap.specs.Live.{State}
use Rattle.mg_space.specs.View.{KeepsStore, Tells}
use Rattle.mg_space.specs.ViewLaws.{tells_on}
use Rattle.mg_space.specs.declared.links.FireLinks.{FireLinks}
use Rattle.mg_tending.specs.Collecting.{IsLeft}
use Rattle.mg_txlist.specs.TxList.{said}
use Rattle.mg_version.specs.declared.cell.Cell.TheVariants as cells
use Rattle.mg_version.specs.declared.cell.Link.{Link}
use Rattle.mg_version.specs.declared.cell.Version.{Version}
use Rattle.mg_engine_collecting_laws.specs.EveryStays.{HasShown, IsPageAt, one_image}
use Rattle.mg_engine_collecting_laws.specs.PlaceLeaves.{HaveSettled, back_by, back_of, left_committed, lone_left, no_link, same_writers, settled_left}
use Rattle.mg_engine_collecting_laws.specs.Versions.{kept_of}

-- A record has these versions in order, and its slot is free where it has none.
pub record IsKeptAt (h : Cells) (x : RecId) (es : List Entry) : Type 0 where
  pub its : HasInOrder h x es
  pub free : es ≡ [] → h x ≡ None

-- ---- where versions stand

one_version : (v w : Version) → Some (cells.Version v) ≡ Some (cells.Version w) → v ≡ w
one_version v w is = cc

one_link : (l k : Link) → Some l ≡ Some k → l ≡ k
one_link l k is = cc

-- versions in order stand where those of a reading stand
same_places : (h : Cells) (es rs : List Entry) → AreLinked h es → Chain h (first_link es) rs → (x : RecId)
    → Stands es x → Stands rs x
same_places h [] rs linked chain x none = absurd none
same_places h (e ∷ es) rs linked chain x at = by rs (chain_opens h (Some (link_to e.at e.version.tx)) rs chain) at
    (λ ds on more. same_places h es ds linked.1 on x more)
  where
    by : (rs : List Entry) → Opens h (Some (link_to e.at e.version.tx)) rs → Stands (e ∷ es) x
        → ((ds : List Entry) → Chain h (first_link es) ds → Stands es x → Stands ds x) → Stands rs x
    by [] opens at further = absurd opens
    by (d ∷ ds) opens (inl same) further = inl (opens.0 ∙ same)
    by (d ∷ ds) opens (inr more) further =
        let version : d.version ≡ leading_to e.version (first_link es) =
        one_version d.version (leading_to e.version (first_link es))
        (sym opens.1 ∙ (ap h opens.0 ∙ linked.0)) in
        inr (further ds (subst (λ (l : Option Link). Chain h l ds) (ap (λ (w : Version). w.back) version) opens.3) more)

-- a cell of one of them is a version's
version_at : (h : Cells) (es : List Entry) → AreLinked h es → (x : RecId) → Stands es x
    → (v : Version) × (h x ≡ Some (cells.Version v))
version_at h [] linked x none = absurd none
version_at h (e ∷ es) linked x (inl same) = (leading_to e.version (first_link es), ap h (sym same) ∙ linked.0)
version_at h (e ∷ es) linked x (inr more) = version_at h es linked.1 x more

-- a slot that is a version's and leads to versions is that of the first of them
version_first : (q : RecId) (v : Version) (f : Entry) (fs : List Entry)
    → newest_of q (Some (cells.Version v)) ≡ first_link (f ∷ fs) → f.at ≡ q
version_first q v f fs leads = by v.primary leads
  where
    by : (b : Bool) → ◌≡◌ {A = Option Link} (if b then Some (record { rec = q; tx = v.tx }) else None)
        (Some (link_to f.at f.version.tx)) → f.at ≡ q
    by true is =
        sym (ap (λ (l : Link). l.rec) (one_link (record { rec = q; tx = v.tx }) (link_to f.at f.version.tx) is))
    by false is = absurd cc

-- cells that stay keep versions in order
linked_stay : (h g : Cells) (es : List Entry) → ((y : RecId) → Stands es y → g y ≡ h y) → AreLinked h es
    → AreLinked g es
linked_stay h g [] stay linked = tt
linked_stay h g (e ∷ es) stay linked =
    (stay e.at (inl refl) ∙ linked.0, linked_stay h g es (λ y more. stay y (inr more)) linked.1)

-- ---- what is left of a record by the history

module _ (o : Opening) (h : Entries) (live : State) (stands : BasesStandFor o h live) (based : AreBased o h live)
    (state : ℕ → TxState) (states_are : (u : ℕ) → state u ≡ state_of o h u) (pages : Pages) (rec : RecId)
    (es : List Entry) (its : HasInOrder (cells_of pages) rec es)
    (backs : EachBack (λ (e : Entry). is_committed (state_of o h (writer e)) ≡ true) es) where
  -- what the link to the newest one says of them
  opened : (link : Link) → newest_link pages rec ≡ Some link → (e : Entry) × (ds : List Entry) × (es ≡ e ∷ ds)
      × (link ≡ link_to e.at e.version.tx)
  opened link leads = by es refl (sym its.slot ∙ leads)
    where
      by : (fs : List Entry) → es ≡ fs → first_link fs ≡ Some link
          → (e : Entry) × (ds : List Entry) × (es ≡ e ∷ ds) × (link ≡ link_to e.at e.version.tx)
      by [] are first = absurd cc
      by (e ∷ ds) are first = (e, ds, are, sym (one_link (link_to e.at e.version.tx) link first))

  -- where the newest one leads
  leads_on : (e : Entry) (ds : List Entry) → es ≡ e ∷ ds → (v : Version)
      → cells_of pages e.at ≡ Some (cells.Version v) → v.back ≡ first_link ds
  leads_on e ds are v cell =
      let linked : AreLinked (cells_of pages) (e ∷ ds) = subst (AreLinked (cells_of pages)) are its.linked in
      ap (λ (w : Version). w.back)
      (one_version v (leading_to e.version (first_link ds)) (sym cell ∙ linked.0))

  has_settled : IsSettled pages state rec → HaveSettled (state_of o h) es
  has_settled settled = by (opened settled.link settled.leads)
    where
      by : (e : Entry) × (ds : List Entry) × (es ≡ e ∷ ds) × (settled.link ≡ link_to e.at e.version.tx)
          → HaveSettled (state_of o h) es
      by (e, ds, are, link) = subst (HaveSettled (state_of o h)) (sym are)
          (at ds (leads_on e ds are settled.version
          (ap (λ (l : Link). cells_of pages l.rec) (sym link) ∙ settled.meets.cell)))
        where
          first : (a b : Bool) → (a || b) ≡ true → b ≡ false → a ≡ true
          first true b either none = refl
          first false b either none = let both : true ≡ false = sym either ∙ none in absurd cc

          at : (fs : List Entry) → settled.version.back ≡ first_link fs → HaveSettled (state_of o h) (e ∷ fs)
          at [] back = ap is_committed (sym (states_are (writer e)))
              ∙ (ap (λ (l : Link). is_committed (state l.tx.0)) (sym link)
              ∙ first (is_committed (state settled.link.tx.0)) (is_some settled.version.back) settled.told
              (ap (λ (l : Option Link). is_some l) back))
          at (d ∷ fs) back = tt

  -- of one that has something settled what remains is left
  pub remains_left : IsSettled pages state rec
      → IsLeft o h (map kept_of es) (map kept_of (remaining state live es))
  remains_left settled = subst (λ (s : ℕ → TxState). IsLeft o h (map kept_of es) (map kept_of (remaining s live es)))
      (sym (fun_ext states_are)) (settled_left o h live stands based es backs (has_settled settled))

  -- of one that has not all is
  pub all_left : IsUnsettled pages state rec → IsLeft o h (map kept_of es) (map kept_of es)
  all_left (inl none) = subst (λ (fs : List Entry). IsLeft o h (map kept_of fs) (map kept_of fs))
      (sym (no_link es (sym its.slot ∙ none))) refl
  all_left (inr unsettled) = by (opened unsettled.link unsettled.leads)
    where
      neither : (a b : Bool) → (a || b) ≡ false → (a ≡ false) × (b ≡ false)
      neither true b is = absurd cc
      neither false b is = (refl, is)

      two : (is_committed (state unsettled.link.tx.0) ≡ false) × (is_some unsettled.version.back ≡ false)
      two = neither (is_committed (state unsettled.link.tx.0)) (is_some unsettled.version.back) unsettled.told

      by : (e : Entry) × (ds : List Entry) × (es ≡ e ∷ ds) × (unsettled.link ≡ link_to e.at e.version.tx)
          → IsLeft o h (map kept_of es) (map kept_of es)
      by (e, ds, are, link) = at ds are (leads_on e ds are unsettled.version
          (ap (λ (l : Link). cells_of pages l.rec) (sym link) ∙ unsettled.meets.cell))
        where
          at : (fs : List Entry) → es ≡ e ∷ fs → unsettled.version.back ≡ first_link fs
              → IsLeft o h (map kept_of es) (map kept_of es)
          at [] are_ back = subst (λ (fs : List Entry). IsLeft o h (map kept_of fs) (map kept_of fs)) (sym are_)
              (lone_left o h live stands based e (ap is_committed (sym (states_are (writer e)))
              ∙ (ap (λ (l : Link). is_committed (state l.tx.0)) (sym link) ∙ two.0)))
          at (d ∷ fs) are_ back =
              let both : false ≡ true = sym two.1 ∙ ap (λ (l : Option Link). is_some l) back in absurd cc

-- ---- in the store of an engine

module _ {D : Type 0} (m : Meaning D) (old : Core D) (o : Opening) (h : Entries) (numbers : Numbers) (tables : Tables)
    (a b : Pool D FireLinks) (it : HasShown m old o h numbers tables a) (p : RecId) (table : Table)
    (page : IsPageAt m (said old.list) a p.page.0 table) (gone : Bool)
    (made : CollectsListed m (said old.list) old.live p gone a b) where
  abbrev pages : Pages
  pages = shown a.dirty it.image

  abbrev f : Cells
  f = cells_of (shown a.dirty it.image)

  -- a page's table, and what is read of a record there
  chain_of : (x : RecId) (its : Table) → IsPageAt m (said old.list) a x.page.0 its
      → Chain (cells_of (shown a.dirty it.image)) (newest_of x (cells_of (shown a.dirty it.image) x))
      (it.stands.shows.reading x)
  chain_of x its on = it.stands.shows.sound.records.reads x its
      (on it.image it.tells it.stands.shows.layout it.stands.shows.reading it.stands.shows.sound)

  -- versions in order stand where its reading has them
  read_places : (x : RecId) (its : Table) → IsPageAt m (said old.list) a x.page.0 its → (es : List Entry)
      → HasInOrder (cells_of (shown a.dirty it.image)) x es → (y : RecId) → Stands es y
      → Stands (it.stands.shows.reading x) y
  read_places x its on es has y at = same_places f es (it.stands.shows.reading x) has.linked
      (subst (λ (l : Option Link). Chain f l (it.stands.shows.reading x)) has.slot (chain_of x its on)) y at

  -- after pages were read
  still_kept : KeepsStore m a b → (x : RecId) (es : List Entry)
      → IsKeptAt (cells_of (shown a.dirty it.image)) x es → (j : Image) → Tells m b.disk j
      → IsKeptAt (cells_of (shown b.dirty j)) x es
  still_kept keeps x es kept j tells = subst (λ (i : Image). IsKeptAt (cells_of (shown b.dirty i)) x es)
      (one_image m b.disk it.image j (tells_on m a b it.image keeps it.tells) tells)
      (subst (λ (d : DirtyPages). IsKeptAt (cells_of (shown d it.image)) x es) (sym keeps.dirty) kept)

  -- ---- where it has something settled

  module _ (ready : Pool D FireLinks) (keeps : KeepsStore m a ready)
      (settled : (image : Image) → Tells m a.disk image → IsSettled (shown a.dirty image) (said old.list) p)
      (ps : List Entry) (has : HasInOrder (cells_of (shown a.dirty it.image)) p ps) (j : Image) (tells : Tells m b.disk j)
      (left : List Entry) (leaves : LeavesTold (shown ready.dirty it.image) (shown b.dirty j) p ps left gone) where
    abbrev g : Cells
    g = cells_of (shown b.dirty j)

    some : ps ≢ []
    some none =
        let lead = settled it.image it.tells in
        let both : ◌≡◌ {A = Option Link} (Some lead.link) None =
        sym lead.leads ∙ (has.slot ∙ ap first_link none) in absurd cc

    -- its slot is no version of another record
    cells_same : (y : RecId) → y ≢ p → (Stands ps y → ⊥) → cells_of (shown b.dirty j) y ≡ cells_of (shown a.dirty it.image) y
    cells_same y ne off = leaves.leaves.others y ne off
        ∙ ap (λ (d : DirtyPages). cells_of (shown d it.image) y) keeps.dirty

    module _ (x : RecId) (its : Table) (on : IsPageAt m (said old.list) a x.page.0 its) (ne : x ≢ p) (es : List Entry)
        (kept : IsKeptAt (cells_of (shown a.dirty it.image)) x es) where
      abbrev r : RecId → List Entry
      r = it.stands.shows.reading

      -- no cell is one of both records
      apart : (y : RecId) → Stands (it.stands.shows.reading x) y → Stands (it.stands.shows.reading p) y → ⊥
      apart y one other = ne (it.stands.shows.sound.records.apart x p y one other)

      -- the record's slot is no version of the one that is collected
      slot_off : Stands ps x → ⊥
      slot_off at = by (version_at f ps has.linked x at) es kept.its kept.free
          (read_places x its on es kept.its)
        where
          by : (v : Version) × (f x ≡ Some (cells.Version v)) → (fs : List Entry) → HasInOrder f x fs
              → (fs ≡ [] → f x ≡ None) → ((y : RecId) → Stands fs y → Stands (it.stands.shows.reading x) y) → ⊥
          by (v, cell) [] order free read =
              let both : Some (cells.Version v) ≡ None = sym cell ∙ free refl in absurd cc
          by (v, cell) (d ∷ fs) order free read = apart x
              (read x (inl (version_first x v d fs (ap (newest_of x) (sym cell) ∙ order.slot))))
              (read_places p table page ps has x at)

      -- nor is a version of it, nor the slot of the one that is collected
      place_off : (y : RecId) → Stands es y → Stands ps y → ⊥
      place_off y at other = apart y (read_places x its on es kept.its y at) (read_places p table page ps has y other)

      place_other : (y : RecId) → Stands es y → y ≢ p
      place_other y at same = by (version_at f es kept.its.linked y at) ps has some
          (read_places p table page ps has)
        where
          by : (v : Version) × (f y ≡ Some (cells.Version v)) → (fs : List Entry) → HasInOrder f p fs → fs ≢ []
              → ((z : RecId) → Stands fs z → Stands (it.stands.shows.reading p) z) → ⊥
          by (v, cell) [] order some_ read = some_ refl
          by (v, cell) (d ∷ fs) order some_ read = apart p
              (subst (Stands (it.stands.shows.reading x)) same (read_places x its on es kept.its y at))
              (read p (inl (version_first p v d fs (ap (newest_of p) (sym (ap f (sym same) ∙ cell)) ∙ order.slot))))

      pub other_kept : IsKeptAt (cells_of (shown b.dirty j)) x es
      other_kept = record {
        its = record {
          slot = ap (newest_of x) (cells_same x ne slot_off) ∙ kept.its.slot;
          linked = linked_stay f g es (λ y at. cells_same y (place_other y at) (place_off y at)) kept.its.linked;
        };
        free = λ none. cells_same x ne slot_off ∙ kept.free none;
      }

    pub itself_kept : IsKeptAt (cells_of (shown b.dirty j)) p left
    itself_kept = record { its = leaves.leaves.its; free = λ none. leaves.leaves.emptied none some }

  -- ---- the versions of other records stay

  pub others_stay : (x : RecId) (its : Table) → IsPageAt m (said old.list) a x.page.0 its → x ≢ p → (es : List Entry)
      → IsKeptAt (cells_of (shown a.dirty it.image)) x es → (j : Image) → Tells m b.disk j
      → IsKeptAt (cells_of (shown b.dirty j)) x es
  others_stay x its on ne es kept j tells = by made
    where
      by : CollectsListed m (said old.list) old.live p gone a b → IsKeptAt (cells_of (shown b.dirty j)) x es
      by (left_alone none keeps online why) = still_kept keeps x es kept j tells
      by (is_collected ready keeps online settled collected) = other_kept ready keeps settled ends.versions has j tells
          (remaining (said old.list) old.live ends.versions) (collected.collected.left it.image j tells_ready tells
          ends.versions ends.its) x its on ne es kept
        where
          tells_ready : Tells m ready.disk it.image
          tells_ready = tells_on m a ready it.image keeps it.tells

          ends : HasVersions (cells_of (shown ready.dirty it.image)) p
          ends = collected.ends it.image tells_ready

          has : HasInOrder (cells_of (shown a.dirty it.image)) p ends.versions
          has = subst (λ (d : DirtyPages). HasInOrder (cells_of (shown d it.image)) p ends.versions) keeps.dirty ends.its

-- What is left of a record that had these versions.
pub record IsLeftOf (o : Opening) (h : Entries) (now : Cells) (x : RecId) (es : List Entry) : Type 0 where
  pub left : List Entry
  pub kept : IsKeptAt now x left
  pub is : IsLeft o h (map kept_of es) (map kept_of left)

module _ {D : Type 0} (m : Meaning D) (old : Core D) (o : Opening) (h : Entries) (numbers : Numbers) (tables : Tables)
    (a b : Pool D FireLinks) (it : HasShown m old o h numbers tables a) (p : RecId) (table : Table)
    (page : IsPageAt m (said old.list) a p.page.0 table) (gone : Bool)
    (made : CollectsListed m (said old.list) old.live p gone a b) (es : List Entry)
    (kept : IsKeptAt (cells_of (shown a.dirty it.image)) p es) (j : Image) (tells : Tells m b.disk j) where
  state_is : (u : ℕ) → said old.list u ≡ state_of o h u
  state_is = it.stands.memory.state

  of : table_at (stands_of it.stands.shows.layout) p.page.0 ≡ Some table
  of = page it.image it.tells it.stands.shows.layout it.stands.shows.reading it.stands.shows.sound

  -- all but the newest are of committed transactions
  backs : EachBack (λ (e : Entry). is_committed (state_of o h (writer e)) ≡ true) es
  backs = back_by (λ n. is_committed (state_of o h n) ≡ true) es (it.stands.shows.reading p)
      (same_writers (cells_of (shown a.dirty it.image)) es (it.stands.shows.reading p) kept.its.linked
      (subst (λ (l : Option Link). Chain (cells_of (shown a.dirty it.image)) l (it.stands.shows.reading p)) kept.its.slot
      (it.stands.shows.sound.records.reads p table of)))
      (back_of (λ (e : Entry). left_state everyone (said old.list) (writer e) ≡ Committed)
      (λ (e : Entry). is_committed (state_of o h (writer e)) ≡ true)
      (λ e committed. ap is_committed (sym (state_is (writer e)))
      ∙ left_committed (said old.list (writer e)) committed) (it.stands.shows.reading p)
      (it.stands.shows.sound.records.each p table of).backs)

  -- what remains of it is left
  pub itself_left : IsLeftOf o h (cells_of (shown b.dirty j)) p es
  itself_left = by made
    where
      by : CollectsListed m (said old.list) old.live p gone a b → IsLeftOf o h (cells_of (shown b.dirty j)) p es
      by (left_alone none keeps online why) = record {
        left = es;
        kept = still_kept m old o h numbers tables a b it p table page gone made keeps p es kept j tells;
        is = all_left o h old.live it.stands.memory.live it.stands.memory.based (said old.list) state_is
            (shown a.dirty it.image) p es kept.its backs (why it.image it.tells);
      }
      by (is_collected ready keeps online settled collected) = record {
        left = remaining (said old.list) old.live es;
        kept = itself_kept m old o h numbers tables a b it p table page gone made ready keeps settled es kept.its j tells
            (remaining (said old.list) old.live es) (collected.collected.left it.image j
            (tells_on m a ready it.image keeps it.tells) tells es (subst (λ (d : DirtyPages).
            HasInOrder (cells_of (shown d it.image)) p es) (sym keeps.dirty) kept.its));
        is = remains_left o h old.live it.stands.memory.live it.stands.memory.based (said old.list) state_is
            (shown a.dirty it.image) p es kept.its backs (settled it.image it.tells);
      }
