-- Tables that a transaction has made go, each row of theirs in a batch of its own.
use Rattle.std.proofs.Common.{◌≡◌, ◌≢◌, ◌⊎◌, inl, inr, refl, sym, ap, ◌∙◌, subst, arith, ◌&&◌, ◌||◌, ◌++◌, ◌∷◌, [], ℕ, Bool, true, false, List, Option, None, Some}
use Rattle.std.specs.Prelude.{if◌then◌else◌, is_some}
use Rattle.std.specs.Cmp.Lexicographic.{same_text}
use Rattle.std.proofs.lemmas.Bool.{eq-eqb, false≢true}
use Rattle.mg_base.specs.Disk.{Meaning}
use Rattle.mg_base.specs.Fields.{byte}
use Rattle.mg_base.specs.Image.{Image}
use Rattle.mg_base.specs.declared.transaction.TxState.{TxState}
use Rattle.mg_base.specs.declared.transaction.TxState.TheVariants.{Active}
use Rattle.mg_value.specs.declared.value.Value.{Value}
use Rattle.mg_engine_step_laws.specs.writes.Batches.{RowsLastStill}
use Rattle.mg_engine_step_laws.specs.standing.Following.{FollowsEntry}
use Rattle.mg_engine_step_laws.specs.writes.GoesOnLaws.{pool_is_kept}
use Rattle.mg_engine_step_laws.specs.standing.Standing.{Remembers, ShowsHistory, Standing}
use Rattle.mg_engine_step_laws.specs.backs.Again.{AreTaken, again, others_again, own_again, rolling, rows_again}
use Rattle.mg_engine_step_laws.specs.backs.DeadMidway.{dead_pool, every_from, raised}
use Rattle.mg_engine_step_laws.specs.backs.Midway.{GoesBack, IsMidway, LastsDead}
use Rattle.mg_engine_step_laws.specs.backs.MidwayLaws.{dead, lasts_of, lasts_on, others}
use Rattle.mg_engine_step_laws.specs.standing.OwnChains.{change_there, newest_second}
use Rattle.mg_engine_step_laws.specs.backs.Shown.{ShowsMidway}
use Rattle.mg_grown_catalog_laws.specs.Grown.{CatalogGrows}
use Rattle.mg_image.specs.Form.{Pages, packed_form}
use Rattle.mg_image.specs.Histories.{newest_at, row_change}
use Rattle.mg_image.specs.ReadingLaws.{RowsAreOne}
use Rattle.mg_image.specs.Records as records
use Rattle.mg_image.specs.Records.{Reading}
use Rattle.mg_image.specs.Sound.{IsSoundBy, facts_by}
use Rattle.mg_image.specs.Tables.{Layout, has}
use Rattle.mg_image_overlay_laws.specs.pages.DataPages.{kind_of}
use Rattle.mg_image_overlay_laws.specs.pages.Kinds.{HasNoSequences}
use Rattle.mg_image_overlay_laws.specs.kept.KeptImages.{IsKept}
use Rattle.mg_model.specs.Catalog.{catalog_name, table_key}
use Rattle.mg_model.specs.Changes.{has_change, is_at, same_key, same_name}
use Rattle.mg_model.specs.History.{Entries, Entry}
use Rattle.mg_model.specs.ReadLaws.{same_name_itself}
use Rattle.mg_model.specs.Legal.{IsLegal, MayBegin}
use Rattle.mg_model.specs.Machine.{own, state_of}
use Rattle.mg_model.specs.Openings.{everyone}
use Rattle.mg_model.specs.declared.change.Change.{Change}
use Rattle.mg_model.specs.declared.change.Point.{Point}
use Rattle.mg_model.specs.declared.opening.Opening.{Opening}
use Rattle.mg_model.specs.declared.table.Table.{Table}
use Rattle.mg_overlay_laws.specs.Overlays.{left_state, nobody, without}
use Rattle.mg_image_overlay_laws.specs.names.Creating.{without_raises}
use Rattle.mg_pool.specs.Pool.{IsPool, shown}
use Rattle.mg_pool.specs.declared.pool.Pool.{Pool}
use Rattle.mg_pool_overlay_laws.specs.Needs.{Asked, Sessions}
use Rattle.mg_tie_laws.specs.Changed.{BatchIsChanged, KeptIn, changed_fresh}
use Rattle.mg_image_overlay_laws.specs.tables.Growing.{IsTableOf}
use Rattle.mg_image_overlay_laws.specs.tables.OneLayout.{sound_once}
use Rattle.mg_engine_step_laws.specs.tables_back.CatalogPages.{ChangesCatalogPages}
use Rattle.mg_engine_step_laws.specs.tables_back.ChangedTables.{NoneOfGone}
use Rattle.mg_engine_step_laws.specs.tables_back.LeftShown.{ShowsLeft, TakesTables}
use Rattle.mg_engine_step_laws.specs.tables_back.Outs.{OutsThere, ReadsWithout, RowAwayKeeps, RowsGone, TakesRowAway, is_among}
use Rattle.mg_engine_step_laws.specs.tables_back.OutsThereLaws.{gone_join, none_gone, row_gone, same_itself}
use Rattle.mg_engine_step_laws.specs.tables_back.RowsTaken.{RowsAreTaken}
use Rattle.mg_engine_step_laws.specs.tables_back.TablesBefore.{stood_before}
use Rattle.mg_engine_step_laws.specs.tables_back.TablesBack.{AreRowsLeft, RowsGoOn, StoodBeside, StoodUnder, TablesAreTaken, TablesGoBack, TakesEachRow, TakesOnPages, TakesTheRow, no_row, one_row}
use Rattle.mg_engine_step_laws.specs.tables_back.Taken.{IsWithout, LeavesTables, TakesRows, change_left, layout_left, reading_left}
use Rattle.mg_engine_step_laws.specs.tables_back.TakenKept.{left_are_kept}
use Rattle.mg_engine_step_laws.specs.tables_back.TakenSound.{left_are_sound}
use Rattle.mg_engine_step_laws.specs.tables_back.Whole.{GoWhole}

-- ---- each table that stands stood before

-- where the transaction counts as dead the layout is the one that was
stood_beside : (size : ℕ) (o : Opening) (h : Entries) (state : ℕ → TxState) (t : ℕ) (keys : List Value)
    (pages later : Pages) → RowsGone packed_form size o h state t keys pages later
    → ((chosen : ℕ → Bool) → chosen t ≡ false → IsKept packed_form size o h (left_state chosen state) pages pages)
    → StoodBeside size state t pages later
stood_beside size o h state t keys pages later gone kept chosen off layout q sound its of = record {
  layout = (kept chosen off).of_pool;
  reading = (kept chosen off).in_pool;
  sound = (kept chosen off).pool_sound;
  of = subst (λ (l : Layout). IsTableOf l its)
      (sym (gone chosen off (kept chosen off) layout q sound).0) of;
}

module _ (D L : Type 0) (one : RowsAreOne packed_form.coding) (no_pages : HasNoSequences packed_form)
    (leave : OutsThere packed_form D L) (o : Opening) (h later : Entries) (state : ℕ → TxState) (before after : Pool D L)
    (i j : Image) (asked : Asked) (session : Sessions) (t : ℕ) (keys : List Value) (active : state t ≡ Active)
    (whole : GoWhole (own o h t) (is_among keys))
    (gone : RowsGone packed_form before.geometry.size o h state t keys (shown before.dirty i) (shown after.dirty j))
    (kept : KeptIn packed_form before.geometry.size o h state asked session before i)
    (done : KeptIn packed_form before.geometry.size o later state asked session after j) (chosen : ℕ → Bool)
    (layout : Layout) (q : Reading)
    (sound : IsSoundBy packed_form before.geometry.size (left_state chosen state) (shown after.dirty j) layout q)
    (its : Table) (of : IsTableOf layout its) where
  kept_before : IsKept packed_form before.geometry.size o h (left_state chosen state) (shown before.dirty i)
      (shown before.dirty i)
  kept_before = pool_is_kept packed_form D L before.geometry.size o h state asked session before i chosen kept

  stood_dead : chosen t ≡ false → StoodUnder before.geometry.size (left_state chosen state) (shown before.dirty i) its
  stood_dead not_ = stood_beside before.geometry.size o h state t keys (shown before.dirty i) (shown after.dirty j) gone
      (λ other off. pool_is_kept packed_form D L before.geometry.size o h state asked session before i other kept)
      chosen not_ layout q sound its of

  -- where it counts as in limbo the layout is what is left of the one that was
  stood_limbo : chosen t ≡ true → StoodUnder before.geometry.size (left_state chosen state) (shown before.dirty i) its
  stood_limbo is = record {
    layout = kept_before.layout;
    reading = kept_before.reading;
    sound = kept_before.sound;
    of = stood_before (is_among keys) kept_before.layout after_not.layout leaves_.catalog its
        (subst (λ (l : Layout). IsTableOf l its) (sym same_layout) of);
  }
    where
      after_not : IsKept packed_form before.geometry.size o later (left_state (without t chosen) state)
          (shown after.dirty j) (shown after.dirty j)
      after_not = pool_is_kept packed_form D L before.geometry.size o later state asked session after j
          (without t chosen) done

      both : LeavesTables before.geometry.size (shown before.dirty i) (shown after.dirty j) kept_before.layout
          after_not.layout
          × TakesRows t kept_before.layout (facts_by (left_state chosen state) (shown before.dirty i)
          kept_before.layout) kept_before.reading after_not.reading (is_among keys)
      both = leave before i o h state t keys (shown after.dirty j) asked session active gone whole kept chosen is
          kept_before after_not.layout after_not.reading after_not.sound

      leaves_ : LeavesTables before.geometry.size (shown before.dirty i) (shown after.dirty j) kept_before.layout
          after_not.layout
      leaves_ = both.0

      sound_then : IsSoundBy packed_form before.geometry.size (left_state chosen state) (shown after.dirty j)
          (layout_left (is_among keys) kept_before.layout after_not.layout)
          (reading_left (is_among keys) kept_before.layout after_not.layout kept_before.reading after_not.reading)
      sound_then = left_are_sound packed_form before.geometry.size (left_state (without t chosen) state)
          (left_state chosen state) t (shown before.dirty i) (shown after.dirty j) kept_before.layout after_not.layout
          kept_before.reading after_not.reading (is_among keys) (without_raises state t chosen active is)
          kept_before.sound after_not.sound both.0 both.1

      same_layout : layout_left (is_among keys) kept_before.layout after_not.layout ≡ layout
      same_layout = (sound_once packed_form one no_pages before.geometry.size (left_state chosen state)
          (shown after.dirty j) (layout_left (is_among keys) kept_before.layout after_not.layout) layout
          (reading_left (is_among keys) kept_before.layout after_not.layout kept_before.reading after_not.reading) q
          sound_then sound).0

  stood : StoodUnder before.geometry.size (left_state chosen state) (shown before.dirty i) its
  stood = at (chosen t) refl
    where
      at : (b : Bool) → chosen t ≡ b
          → StoodUnder before.geometry.size (left_state chosen state) (shown before.dirty i) its
      at true is = stood_limbo is
      at false not_ = stood_dead not_

-- ---- one row goes

module _ (D L : Type 0) (m : Meaning D) (one : RowsAreOne packed_form.coding) (no_pages : HasNoSequences packed_form)
    (no_primary : packed_form.in_primary ≡ false) (last : RowsLastStill D L m packed_form)
    (keep : RowAwayKeeps packed_form D L m) (rows_taken : RowsAreTaken D L) (o : Opening) (h : Entries) (e : Entry)
    (point : Point) (s : Standing) (start before after : Pool D L) (i j : Image) (asked : Asked) (session : Sessions)
    (t : ℕ) (left : List Change) (key : Value) (opening : MayBegin o) (legal : IsLegal o h) (memory : Remembers o h s)
    (goes : GoesBack o h e point s asked t)
    (midway : LastsDead m packed_form before.geometry.size o h t start before asked session)
    (takes : TakesTheRow m s t key before after i j) where
  abbrev size : ℕ
  size = before.geometry.size

  every : KeptIn packed_form before.geometry.size o (rolling t ∷ h) (state_of o (rolling t ∷ h)) asked session before i
  every = every_from m packed_form o (rolling t ∷ h) before i asked session takes.was.pool takes.was.changes.tells.held
      midway.lasts

  before_dead : (chosen : ℕ → Bool) → chosen t ≡ false → IsKept packed_form before.geometry.size o (again t left (e ∷ h))
      (left_state chosen s.state) (shown before.dirty i) (shown before.dirty i)
  before_dead = dead_pool o h e point s asked t memory goes packed_form before.geometry.size before i session left every

  away : TakesRowAway packed_form before i s.state t key takes.batch
  away = rows_taken before i o (again t left (e ∷ h)) s.state s.live t takes.table key takes.batch goes.active
      takes.catalog before_dead takes.takes

  it : BatchIsChanged before after i j takes.batch asked session
  it = changed_fresh m before after i j takes.batch asked session takes.was.changes

  its_gone : RowsGone packed_form before.geometry.size o (again t left (e ∷ h)) s.state t (key ∷ [])
      (shown before.dirty i) (shown after.dirty j)
  its_gone = subst (λ (p : Pages). RowsGone packed_form before.geometry.size o (again t left (e ∷ h)) s.state t (key ∷ [])
      (shown before.dirty i) p) (sym it.pool) (row_gone packed_form one no_pages no_primary before i o
      (again t left (e ∷ h)) s.state t key takes.batch away goes.active)

  every_then : KeptIn packed_form before.geometry.size o (rolling t ∷ h) (state_of o (rolling t ∷ h)) asked session after j
  every_then = keep before after i j takes.batch asked session o (rolling t ∷ h) t s.state (state_of o (rolling t ∷ h)) key
      takes.was.changes away goes.active (dead o h e point s asked t memory goes)
      (others o h e point s asked t memory goes) every

  after_dead : IsKept packed_form before.geometry.size o (again t left (e ∷ h)) (left_state nobody s.state)
      (shown after.dirty j) (shown after.dirty j)
  after_dead = dead_pool o h e point s asked t memory goes packed_form before.geometry.size after j session left every_then
      nobody refl

  changed : ChangesCatalogPages before.geometry.size (shown before.dirty i) (shown after.dirty j)
      (before_dead nobody refl).of_pool
  changed = (its_gone nobody refl (before_dead nobody refl) after_dead.of_pool after_dead.in_pool after_dead.pool_sound).2

  header : shown after.dirty j 0 ≡ shown before.dirty i 0
  header = at (changed.each 0)
    where
      first : byte (shown before.dirty i 0) 0 ≡ 1
      first = kind_of (shown before.dirty i 0) 0 1 0 0 _ (before_dead nobody refl).pool_sound.header.fields

      at : (shown after.dirty j 0 ≡ shown before.dirty i 0)
          ⊎ ((has (before_dead nobody refl).of_pool.catalog.data_pages 0 ≡ true)
          × (byte (shown before.dirty i 0) 0 ≡ 5)) → shown after.dirty j 0 ≡ shown before.dirty i 0
      at (inl same) = same
      at (inr (on, five)) = absurd (omega (arith, first, five))

  pub row_on : LastsDead m packed_form before.geometry.size o h t start after asked session
      × RowsGone packed_form before.geometry.size o (again t left (e ∷ h)) s.state t (key ∷ [])
      (shown before.dirty i) (shown after.dirty j)
      × (shown after.dirty j 0 ≡ shown before.dirty i 0)
      × StoodBeside before.geometry.size s.state t (shown before.dirty i) (shown after.dirty j)
  row_on = (
    lasts_on m packed_form last o h start before after i j takes.batch asked session t opening (goes.ends, legal) midway
        takes.was changed.bits every_then,
    its_gone,
    header,
    stood_beside before.geometry.size o (again t left (e ∷ h)) s.state t (key ∷ []) (shown before.dirty i)
        (shown after.dirty j) its_gone before_dead,
  )

-- ---- one row after another

module _ (D L : Type 0) (m : Meaning D) (one : RowsAreOne packed_form.coding) (no_pages : HasNoSequences packed_form)
    (go_on : RowsGoOn D L m) (o : Opening) (h : Entries) (e : Entry) (point : Point) (s : Standing) (start : Pool D L)
    (asked : Asked) (session : Sessions) (t : ℕ) (left : List Change) (opening : MayBegin o) (legal : IsLegal o h)
    (memory : Remembers o h s) (goes : GoesBack o h e point s asked t) where
  -- one key of these and those is this one or one of those
  first_or : (key : Value) (keys : List Value) (v : Value)
      → is_among (key ∷ keys) v ≡ (is_among (key ∷ []) v || is_among keys v)
  first_or key keys v = at (same_key key v)
    where
      at : (b : Bool) → (b || is_among keys v) ≡ ((b || false) || is_among keys v)
      at true = refl
      at false = refl

  -- one row, and then the others
  module _ (key : Value) (keys : List Value) (p mid r : Pool D L) (n k l : Image)
      (takes : TakesTheRow m s t key p mid n k)
      (turn : LastsDead m packed_form p.geometry.size o h t start mid asked session
      × RowsGone packed_form p.geometry.size o (again t left (e ∷ h)) s.state t (key ∷ []) (shown p.dirty n)
      (shown mid.dirty k) × (shown mid.dirty k 0 ≡ shown p.dirty n 0)
      × StoodBeside p.geometry.size s.state t (shown p.dirty n) (shown mid.dirty k)) where
    lasts_mid : LastsDead m packed_form mid.geometry.size o h t start mid asked session
    lasts_mid = subst (λ (z : ℕ). LastsDead m packed_form z o h t start mid asked session) (sym takes.size_is) turn.0

    every_mid : KeptIn packed_form p.geometry.size o (rolling t ∷ h) (state_of o (rolling t ∷ h)) asked session mid k
    every_mid = subst (λ (z : ℕ). KeptIn packed_form z o (rolling t ∷ h) (state_of o (rolling t ∷ h)) asked session mid k)
        takes.size_is (every_from m packed_form o (rolling t ∷ h) mid k asked session takes.pool takes.held turn.0.lasts)

    joins : LastsDead m packed_form mid.geometry.size o h t start r asked session
        × RowsGone packed_form mid.geometry.size o (again t left (e ∷ h)) s.state t keys (shown mid.dirty k)
        (shown r.dirty l)
        → LastsDead m packed_form p.geometry.size o h t start r asked session
        × RowsGone packed_form p.geometry.size o (again t left (e ∷ h)) s.state t (key ∷ keys) (shown p.dirty n)
        (shown r.dirty l)
    joins more =
        let rest = subst (λ (z : ℕ). LastsDead m packed_form z o h t start r asked session
        × RowsGone packed_form z o (again t left (e ∷ h)) s.state t keys (shown mid.dirty k) (shown r.dirty l))
        takes.size_is more in (
          rest.0,
          gone_join packed_form p.geometry.size o (again t left (e ∷ h)) (again t left (e ∷ h)) s.state t (key ∷ []) keys
              (key ∷ keys) (shown p.dirty n) (shown mid.dirty k) (shown r.dirty l) (first_or key keys) turn.1 rest.1
              (dead_pool o h e point s asked t memory goes packed_form p.geometry.size mid k session left every_mid),
        )

  pub each_goes : (keys : List Value) (before after : Pool D L) (i j : Image)
      → TakesEachRow m s t keys before after i j
      → LastsDead m packed_form before.geometry.size o h t start before asked session
      → LastsDead m packed_form before.geometry.size o h t start after asked session
      × RowsGone packed_form before.geometry.size o (again t left (e ∷ h)) s.state t keys (shown before.dirty i)
      (shown after.dirty j)
  each_goes keys before after i j (no_row pool image) midway = (
    midway,
    none_gone packed_form one no_pages pool.geometry.size o (again t left (e ∷ h)) s.state t (shown pool.dirty image),
  )
  each_goes all before after i j (one_row key keys p mid r n k l takes more) midway =
      let turn = go_on o h e point s start p mid n k asked session t left key opening legal memory goes midway takes in
      joins key keys p mid r n k l takes turn
      (each_goes keys mid r k l more (lasts_mid key keys p mid r n k l takes turn))

-- where no row is left, no change is
nothing_left : (o : Opening) (h : Entries) (e : Entry) (t : ℕ) (left : List Change) → AreRowsLeft o h e t left []
    → left ≡ []
nothing_left o h e t [] rows = refl
nothing_left o h e t (c ∷ cs) rows =
    let here : is_at c c.table c.key ≡ true = rw (same_name_itself c.table, same_itself c.key) refl in
    let newest : newest_at (c ∷ cs) c.table c.key ≡ Some (row_change c.row) = rw here refl in
    let named : c.table ≡ catalog_name = rows.rows c.table c.key (row_change c.row) newest in
    let none : false ≡ true = rows.keys_are c.key
    ∙ (ap (λ (n : List ℕ). is_some (newest_at (c ∷ cs) n c.key)) (sym named) ∙ ap is_some newest) in absurd cc

-- ---- all rows have gone

-- Then the pages are what they have to be with the transaction in limbo, too: those at the beginning were, and whole tables
-- have gone since.
module _ (D L : Type 0) (m : Meaning D) (leave : OutsThere packed_form D L) (none_left : NoneOfGone) (o : Opening)
    (h : Entries) (e : Entry) (point : Point) (s : Standing) (start before after : Pool D L) (i j : Image)
    (asked : Asked) (session : Sessions) (t : ℕ) (left : List Change) (keys : List Value) (opening : MayBegin o)
    (legal : IsLegal o (e ∷ h)) (grows : CatalogGrows o h) (memory : Remembers o h s)
    (goes : GoesBack o h e point s asked t) (rows : AreRowsLeft o h e t left keys)
    (midway : IsMidway m packed_form before.geometry.size o h e t left s start before i asked session)
    (pool : IsPool m after) (held : m.held after.disk ≡ Some j)
    (size_is : after.geometry.size ≡ before.geometry.size)
    (turn : LastsDead m packed_form before.geometry.size o h t start after asked session)
    (gone : RowsGone packed_form before.geometry.size o (again t left (e ∷ h)) s.state t keys (shown before.dirty i)
    (shown after.dirty j)) where
  -- ---- the changes

  newest_there : (name : List ℕ) (key : Value) → newest_at (own o (again t left (e ∷ h)) t) name key
      ≡ newest_at (left ++ own o (e ∷ h) t) name key
  newest_there name key = ap (λ (xs : List Change). newest_at xs name key) (own_again o (e ∷ h) t left)

  -- where no row goes, nothing is left to take back
  none_else : (name : List ℕ) (key : Value) → (same_name catalog_name name && is_among keys key) ≡ false
      → newest_at left name key ≡ None
  none_else name key off = at (newest_at left name key) refl
    where
      at : (x : Option records.Change) → newest_at left name key ≡ x → newest_at left name key ≡ None
      at None is = is
      at (Some c) is =
          let named : name ≡ catalog_name = rows.rows name key c is in
          let itself : same_name catalog_name name ≡ true = ap (same_name catalog_name) named
          ∙ same_name_itself catalog_name in
          let among : is_among keys key ≡ true = rows.keys_are key
          ∙ (ap (λ (n : List ℕ). is_some (newest_at left n key)) (sym named) ∙ ap is_some is) in
          absurd (false≢true (sym off ∙ rw (itself, among) refl))

  its_left : (name : List ℕ) (key : Value) → newest_at (own o (e ∷ h) t) name key
      ≡ change_left (is_among keys) name key (newest_at (own o (again t left (e ∷ h)) t) name key)
  its_left name key = at (same_name catalog_name name) refl (is_among keys key) refl
    where
      stays : (same_name catalog_name name && is_among keys key) ≡ false
          → newest_at (own o (e ∷ h) t) name key ≡ newest_at (own o (again t left (e ∷ h)) t) name key
      stays off = sym (newest_there name key
          ∙ newest_second left (own o (e ∷ h) t) name key (none_else name key off))

      at : (x : Bool) → same_name catalog_name name ≡ x → (y : Bool) → is_among keys key ≡ y
          → newest_at (own o (e ∷ h) t) name key
          ≡ (if same_name catalog_name name && is_among keys key then None
          else newest_at (own o (again t left (e ∷ h)) t) name key)
      at true named true among =
          ap (λ (n : List ℕ). newest_at (own o (e ∷ h) t) n key) (sym (same_text catalog_name name (sym named)))
          ∙ (rows.none key among ∙ sym (rw (named, among) refl))
      at true named false among = stays (rw (named, among) refl) ∙ sym (rw (named, among) refl)
      at false named y among = stays (rw named refl) ∙ sym (rw named refl)

  none_there : (name : List ℕ) (key : Value) → name ≢ catalog_name → is_among keys (table_key name) ≡ true
      → newest_at (own o (again t left (e ∷ h)) t) name key ≡ None
  none_there name key other lost = newest_there name key ∙ (newest_second left (own o (e ∷ h) t) name key
      (none_left_there (newest_at left name key) refl) ∙ nothing (newest_at (own o (e ∷ h) t) name key) refl)
    where
      none_left_there : (x : Option records.Change) → newest_at left name key ≡ x → newest_at left name key ≡ None
      none_left_there None is = is
      none_left_there (Some c) is = absurd (other (rows.rows name key c is))

      no_change : has_change (own o (e ∷ h) t) name key ≡ false
      no_change = none_left o h e t point name key goes.back opening legal grows (sym (memory.state t) ∙ goes.active) other
          (rows.made (table_key name) lost) (change_there (own o (e ∷ h) t) catalog_name (table_key name)
          ∙ ap is_some (rows.none (table_key name) lost))

      nothing : (x : Option records.Change) → newest_at (own o (e ∷ h) t) name key ≡ x
          → newest_at (own o (e ∷ h) t) name key ≡ None
      nothing None is = is
      nothing (Some c) is = absurd (false≢true (sym no_change ∙ (change_there (own o (e ∷ h) t) name key
          ∙ ap is_some is)))

  less : IsWithout o (again t left (e ∷ h)) (e ∷ h) t (is_among keys)
  less = record {
    rows = λ name key. sym (rows_again o (e ∷ h) t left name key);
    others = λ u name key ne. ap (λ (cs : List Change). newest_at cs name key)
        (sym (others_again o (e ∷ h) t left u ne));
    its = its_left;
    none = none_there;
  }

  -- ---- the pages

  every_end : KeptIn packed_form before.geometry.size o (rolling t ∷ h) (state_of o (rolling t ∷ h)) asked session after j
  every_end = subst (λ (z : ℕ). KeptIn packed_form z o (rolling t ∷ h) (state_of o (rolling t ∷ h)) asked session after j)
      size_is (every_from m packed_form o (rolling t ∷ h) after j asked session pool held turn.lasts)

  whole_then : GoWhole (own o (again t left (e ∷ h)) t) (is_among keys)
  whole_then = subst (λ (cs : List Change). GoWhole cs (is_among keys)) (sym (own_again o (e ∷ h) t left)) rows.whole

  limbo_kept : (chosen : ℕ → Bool) → chosen t ≡ true → IsKept packed_form before.geometry.size o (e ∷ h)
      (left_state chosen s.state) (shown after.dirty j) (shown after.dirty j)
  limbo_kept chosen on = left_are_kept packed_form before.geometry.size o (again t left (e ∷ h)) (e ∷ h)
      (left_state (without t chosen) s.state) (left_state chosen s.state) t (shown before.dirty i) (shown after.dirty j)
      then_.of_pool then_.in_pool (is_among keys) (without_raises s.state t chosen goes.active on) was then_.pool_sound
      both.0 both.1 less
    where
      was : IsKept packed_form before.geometry.size o (again t left (e ∷ h)) (left_state chosen s.state)
          (shown before.dirty i) (shown before.dirty i)
      was = pool_is_kept packed_form D L before.geometry.size o (again t left (e ∷ h)) s.state asked session before i chosen
          midway.kept

      off : without t chosen t ≡ false
      off = rw (eq-eqb t t refl) refl

      then_ : IsKept packed_form before.geometry.size o (e ∷ h) (left_state (without t chosen) s.state)
          (shown after.dirty j) (shown after.dirty j)
      then_ = dead_pool o h e point s asked t memory goes packed_form before.geometry.size after j session [] every_end
          (without t chosen) off

      both : LeavesTables before.geometry.size (shown before.dirty i) (shown after.dirty j) was.layout then_.of_pool
          × TakesRows t was.layout (facts_by (left_state chosen s.state) (shown before.dirty i) was.layout) was.reading
          then_.in_pool (is_among keys)
      both = leave before i o (again t left (e ∷ h)) s.state t keys (shown after.dirty j) asked session goes.active gone
          whole_then midway.kept chosen on was then_.of_pool then_.in_pool then_.pool_sound

  pub all_back : IsMidway m packed_form before.geometry.size o h e t [] s start after j asked session
  all_back = record {
    kept = raised o h e point s asked t memory goes packed_form before.geometry.size after j session [] every_end
        limbo_kept;
    lasts = turn.lasts;
    leaves = turn.leaves;
  }

-- ---- all of them

module _ (D L : Type 0) (m : Meaning D) (one : RowsAreOne packed_form.coding) (no_pages : HasNoSequences packed_form)
    (tables : ShowsLeft) (leave : OutsThere packed_form D L) (o : Opening)
    (h : Entries) (e : Entry) (point : Point) (s : Standing) (start before after : Pool D L) (i j : Image)
    (asked : Asked) (session : Sessions) (t : ℕ) (whole left : List Change) (keys : List Value)
    (begun : Pages) (first : ShowsHistory packed_form before.geometry.size o h s begun) (opening : MayBegin o)
    (legal : IsLegal o (e ∷ h)) (grows : CatalogGrows o h) (memory : Remembers o h s)
    (goes : GoesBack o h e point s asked t) (taken : AreTaken o h e t whole) (rows : AreRowsLeft o h e t left keys)
    (midway : IsMidway m packed_form before.geometry.size o h e t left s start before i asked session)
    (shows : ShowsMidway packed_form before.geometry.size o h e t whole left s begun first (shown before.dirty i))
    (done : IsMidway m packed_form before.geometry.size o h e t [] s start after j asked session)
    (gone : RowsGone packed_form before.geometry.size o (again t left (e ∷ h)) s.state t keys (shown before.dirty i)
    (shown after.dirty j)) where
  whole_all : GoWhole (own o (again t left (e ∷ h)) t) (is_among keys)
  whole_all = subst (λ (cs : List Change). GoWhole cs (is_among keys)) (sym (own_again o (e ∷ h) t left)) rows.whole

  there : (chosen : ℕ → Bool) → chosen t ≡ true
      → (kept : IsKept packed_form before.geometry.size o (again t left (e ∷ h)) (left_state chosen s.state)
      (shown before.dirty i) (shown before.dirty i)) → (c : Layout) (rc : Reading)
      → IsSoundBy packed_form before.geometry.size (left_state (without t chosen) s.state) (shown after.dirty j) c rc
      → LeavesTables before.geometry.size (shown before.dirty i) (shown after.dirty j) kept.layout c
      × TakesRows t kept.layout (facts_by (left_state chosen s.state) (shown before.dirty i) kept.layout) kept.reading rc
      (is_among keys)
  there = leave before i o (again t left (e ∷ h)) s.state t keys (shown after.dirty j) asked session goes.active gone
      whole_all midway.kept

  -- ---- with the transaction dead

  off_all : without t everyone t ≡ false
  off_all = rw (eq-eqb t t refl) refl

  dead_before : IsKept packed_form before.geometry.size o (again t left (e ∷ h))
      (left_state (without t everyone) s.state) (shown before.dirty i) (shown before.dirty i)
  dead_before = pool_is_kept packed_form D L before.geometry.size o (again t left (e ∷ h)) s.state asked session before i
      (without t everyone) midway.kept

  dead_after : IsKept packed_form before.geometry.size o (e ∷ h) (left_state (without t everyone) s.state)
      (shown after.dirty j) (shown after.dirty j)
  dead_after = pool_is_kept packed_form D L before.geometry.size o (e ∷ h) s.state asked session after j
      (without t everyone) done.kept

  read : (dead_before.of_pool ≡ dead_after.layout)
      × ReadsWithout t keys dead_before.of_pool dead_before.in_pool dead_after.reading
      × ChangesCatalogPages before.geometry.size (shown before.dirty i) (shown after.dirty j) dead_before.of_pool
  read = gone (without t everyone) off_all dead_before dead_after.layout dead_after.reading dead_after.sound

  -- ---- with it in limbo

  limbo_before : IsKept packed_form before.geometry.size o (again t left (e ∷ h)) (left_state everyone s.state)
      (shown before.dirty i) (shown before.dirty i)
  limbo_before = pool_is_kept packed_form D L before.geometry.size o (again t left (e ∷ h)) s.state asked session before i
      everyone midway.kept

  same : (limbo_before.layout ≡ shows.layout) × (limbo_before.reading ≡ shows.reading)
  same = sound_once packed_form one no_pages before.geometry.size (left_state everyone s.state) (shown before.dirty i)
      limbo_before.layout shows.layout limbo_before.reading shows.reading limbo_before.sound shows.sound

  -- what the batch leaves and takes, by the layout and the reading of the middle
  at_shown : LeavesTables before.geometry.size (shown before.dirty i) (shown after.dirty j) shows.layout
      dead_after.layout
      × TakesRows t shows.layout (facts_by (left_state everyone s.state) (shown before.dirty i) shows.layout)
      shows.reading dead_after.reading (is_among keys)
  at_shown = subst (λ (r : Reading). LeavesTables before.geometry.size (shown before.dirty i) (shown after.dirty j)
      shows.layout dead_after.layout
      × TakesRows t shows.layout (facts_by (left_state everyone s.state) (shown before.dirty i) shows.layout) r
      dead_after.reading (is_among keys)) same.1
      (subst (λ (l : Layout). LeavesTables before.geometry.size (shown before.dirty i) (shown after.dirty j) l
      dead_after.layout
      × TakesRows t l (facts_by (left_state everyone s.state) (shown before.dirty i) l) limbo_before.reading
      dead_after.reading (is_among keys)) same.0
      (there everyone refl limbo_before dead_after.layout dead_after.reading dead_after.sound))

  sound_left : IsSoundBy packed_form before.geometry.size (left_state everyone s.state) (shown after.dirty j)
      (layout_left (is_among keys) shows.layout dead_after.layout)
      (reading_left (is_among keys) shows.layout dead_after.layout shows.reading dead_after.reading)
  sound_left = left_are_sound packed_form before.geometry.size (left_state (without t everyone) s.state)
      (left_state everyone s.state) t (shown before.dirty i) (shown after.dirty j) shows.layout dead_after.layout
      shows.reading dead_after.reading (is_among keys) (without_raises s.state t everyone goes.active refl) shows.sound
      dead_after.sound at_shown.0 at_shown.1

  takes_tables : TakesTables packed_form before.geometry.size o h e t left s shows.layout shows.reading
      (shown before.dirty i) (shown after.dirty j) (is_among keys)
  takes_tables = record {
    rows = rows.rows;
    keys = rows.keys_are;
    made = rows.made;
    none = rows.none;
    was = limbo_before;
    c = dead_after.layout;
    rc = dead_after.reading;
    leaves = at_shown.0;
    takes = at_shown.1;
    sound = sound_left;
  }

  pub on_pages : TakesOnPages before.geometry.size o h e t left s shows.layout shows.reading (shown before.dirty i)
      (shown after.dirty j) (is_among keys)
  on_pages = record {
    tables = takes_tables;
    stay = read.2.stay;
    next = read.2.bits.next;
    before = stood D L one no_pages leave o (again t left (e ∷ h)) (e ∷ h) s.state before after i j asked session t keys
        goes.active whole_all gone midway.kept done.kept;
  }

  pub pages_back : (new : Standing) → FollowsEntry o h e s new → new.number t ≡ s.number t
      → ((name : List ℕ) (table : Table) → new.table t name ≡ Some table → s.table t name ≡ Some table)
      → ShowsHistory packed_form before.geometry.size o (e ∷ h) new (shown after.dirty j)
  pages_back new follows number fewer = tables before.geometry.size o h e point t whole left s new begun
      (shown before.dirty i) (shown after.dirty j) first shows (is_among keys) opening legal grows goes.back memory
      goes.active taken follows number fewer takes_tables

pub rows_go_on : (D L : Type 0) (m : Meaning D) → RowsAreOne packed_form.coding → HasNoSequences packed_form
    → packed_form.in_primary ≡ false → RowsLastStill D L m packed_form → RowAwayKeeps packed_form D L m
    → RowsAreTaken D L → RowsGoOn D L m
rows_go_on D L m one no_pages no_primary last keep rows_taken o h e point s start before after i j asked session t left key
    opening legal memory goes midway takes = row_on D L m one no_pages no_primary last keep rows_taken o h e point s start
    before after i j asked session t left key opening legal memory goes midway takes

-- what the cache is at the end, with the changes of the history
pub rows_go : (D L : Type 0) (m : Meaning D) → RowsAreOne packed_form.coding → HasNoSequences packed_form
    → OutsThere packed_form D L → NoneOfGone → RowsGoOn D L m → (o : Opening) (h : Entries) (e : Entry) (point : Point)
    (s : Standing) (start before after : Pool D L) (i j : Image) (asked : Asked) (session : Sessions) (t : ℕ)
    (left : List Change) (keys : List Value) → MayBegin o → IsLegal o (e ∷ h) → CatalogGrows o h → Remembers o h s
    → GoesBack o h e point s asked t → AreRowsLeft o h e t left keys
    → IsMidway m packed_form before.geometry.size o h e t left s start before i asked session
    → TakesEachRow m s t keys before after i j
    → IsMidway m packed_form before.geometry.size o h e t [] s start after j asked session
    × RowsGone packed_form before.geometry.size o (again t left (e ∷ h)) s.state t keys (shown before.dirty i)
    (shown after.dirty j)
rows_go D L m one no_pages leave none_left go_on o h e point s start before after i j asked session t left keys opening
    legal grows memory goes rows midway takes =
    let its = each_goes D L m one no_pages go_on o h e point s start asked session t left opening legal.1 memory goes keys
    before after i j takes (lasts_of m packed_form before.geometry.size o h e t left s start before i asked session midway)
    in (by keys before after i j takes rows midway its, its.1)
  where
    sizes : (keys : List Value) (before after : Pool D L) (i j : Image) → TakesEachRow m s t keys before after i j
        → after.geometry.size ≡ before.geometry.size
    sizes keys before after i j (no_row pool image) = refl
    sizes keys before after i j (one_row key more p mid r n k l takes rest) = sizes more mid r k l rest ∙ takes.size_is

    -- the last of some rows leaves a pool over a disk that tells its image
    ends : (keys : List Value) (p r : Pool D L) (n l : Image) → TakesEachRow m s t keys p r n l → IsPool m p
        → m.held p.disk ≡ Some n → IsPool m r × (m.held r.disk ≡ Some l)
    ends keys p r n l (no_row pool image) is held = (is, held)
    ends keys p r n l (one_row key more first mid last a k b takes rest) is held =
        ends more mid last k b rest takes.pool takes.held

    by : (keys : List Value) (before after : Pool D L) (i j : Image) → TakesEachRow m s t keys before after i j
        → AreRowsLeft o h e t left keys
        → IsMidway m packed_form before.geometry.size o h e t left s start before i asked session
        → LastsDead m packed_form before.geometry.size o h t start after asked session
        × RowsGone packed_form before.geometry.size o (again t left (e ∷ h)) s.state t keys (shown before.dirty i)
        (shown after.dirty j)
        → IsMidway m packed_form before.geometry.size o h e t [] s start after j asked session
    by keys before after i j (no_row pool image) rows midway its =
        subst (λ (cs : List Change). IsMidway m packed_form pool.geometry.size o h e t cs s start pool image asked session)
        (nothing_left o h e t left rows) midway
    by all before after i j (one_row key more first mid last a k b takes rest) rows midway its =
        let (pool, held) = ends more mid last k b rest takes.pool takes.held in
        all_back D L m leave none_left o h e point s start first last a b asked session t left (key ∷ more) opening legal
        grows memory goes rows midway pool held (sizes (key ∷ more) first last a b
        (one_row key more first mid last a k b takes rest)) its.0 its.1

pub tables_go_back : (D L : Type 0) (m : Meaning D) → RowsAreOne packed_form.coding → HasNoSequences packed_form
    → ShowsLeft → OutsThere packed_form D L → NoneOfGone → RowsGoOn D L m → TablesGoBack D L m
tables_go_back D L m one no_pages tables leave none_left go_on o h e point s start before after i j asked session t whole
    left keys begun first opening legal grows memory goes taken rows midway shows takes =
    let (done, gone) = rows_go D L m one no_pages leave none_left go_on o h e point s start before after i j asked session t
    left keys opening legal grows memory goes rows midway takes in (
      done,
      pages_back D L m one no_pages tables leave o h e point s start before after i j asked session t whole left keys begun
          first opening legal grows memory goes taken rows midway shows done gone,
    )

pub tables_are_taken : (D L : Type 0) (m : Meaning D) → RowsAreOne packed_form.coding → HasNoSequences packed_form
    → ShowsLeft → OutsThere packed_form D L → NoneOfGone → RowsGoOn D L m → TablesAreTaken D L m
tables_are_taken D L m one no_pages tables leave none_left go_on o h e point s start before after i j asked session t whole
    left keys begun first opening legal grows memory goes taken rows midway shows takes =
    let (done, gone) = rows_go D L m one no_pages leave none_left go_on o h e point s start before after i j asked session t
    left keys opening legal grows memory goes rows midway takes in
    on_pages D L m one no_pages tables leave o h e point s start before after i j asked session t whole left keys begun
    first opening legal grows memory goes taken rows midway shows done gone
