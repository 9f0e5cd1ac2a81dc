-- Rows of the catalog are taken out one after another, as far as it goes.
use Rattle.std.proofs.Common.{◌≡◌, ◌∙◌, ◌∷◌, [], ℕ, List, Option, Some, ap, false, inl, inr, refl, subst, sym, ◌⊎◌, ◌++◌}
use Rattle.std.proofs.lemmas.Bool.{eq-eqb}
use Rattle.mg_base.specs.Disk.{Meaning}
use Rattle.mg_base.specs.Image.{Image}
use Rattle.mg_base.specs.declared.numbers.RecId.{RecId}
use Rattle.mg_base.specs.declared.transaction.TxState.{TxState}
use Rattle.mg_chain.specs.Chains.{takes_version}
use Rattle.mg_core.specs.Cores.{IsCatalog}
use Rattle.mg_core.specs.declared.parts.Core.{Core}
use Rattle.mg_engine_change_laws.specs.keys.Chains.{HasTaken}
use Rattle.mg_engine_change_laws.specs.tables_back.CoreRows.{HasTakenRow, KnowsStore}
use Rattle.mg_engine_change_laws.specs.tables_back.CoreRowsLaws.{catalog_mid, core_mid, first, lasts_mid, live_mid, state_mid, turn}
use Rattle.mg_engine_change_laws.specs.keys.Keys.{HasCatalog}
use Rattle.mg_engine_change_laws.specs.rows.MadeLaws.{on_then, own_on}
use Rattle.mg_engine_change_laws.specs.rows.RowWalks.{ShowsOn, row_at_record}
use Rattle.mg_engine_change_laws.specs.rows.RowWalksLaws.{row_walks_go_on}
use Rattle.mg_engine_change_laws.specs.tables_back.RowsLost.{HasLost, LoseRows}
use Rattle.mg_engine_change_laws.specs.rows.TipLaws.{tips_then}
use Rattle.mg_engine_change_laws.specs.rows.Tips.{KeepsTips}
use Rattle.mg_engine_meaning_laws.specs.Falling.{all_but}
use Rattle.mg_engine_step_laws.specs.backs.Again.{rolling}
use Rattle.mg_engine_step_laws.specs.backs.DeadMidway.{dead_pool, every_from}
use Rattle.mg_engine_step_laws.specs.standing.Known.{IsShown}
use Rattle.mg_engine_step_laws.specs.commits.ListShows.{tips_stay_on}
use Rattle.mg_engine_step_laws.specs.backs.Midway.{GoesBack, LastsDead}
use Rattle.mg_engine_step_laws.specs.tables_back.Outs.{GoesWhole, RowsGone}
use Rattle.mg_engine_step_laws.specs.standing.Standing.{Remembers, Standing}
use Rattle.mg_engine_step_laws.specs.tables_back.TablesBack.{RowsGoOn, StoodBeside}
use Rattle.mg_engine_step_laws.specs.reads.Walking.{AreToCome, WalkPlace}
use Rattle.mg_header.specs.HeaderPage.{header_in}
use Rattle.mg_image.specs.Form.{Pages, packed_form}
use Rattle.mg_image.specs.Records.{Reading, shown as shown_row, writer}
use Rattle.mg_image.specs.Sound.{IsSoundBy}
use Rattle.mg_image.specs.Tables.{Layout}
use Rattle.mg_image.specs.declared.entry.Entry.{Entry as Read}
use Rattle.mg_image_overlay_laws.specs.kept.KeptImages.{IsKept}
use Rattle.mg_image_overlay_laws.specs.tables.OneLayout.{StandsOneWay}
use Rattle.mg_lasting_laws.specs.PoolLaws.{HoldsOne}
use Rattle.mg_model.specs.Changes.{KeyedRows}
use Rattle.mg_model.specs.History.{Entries, Entry}
use Rattle.mg_model.specs.Legal.{IsLegal, MayBegin}
use Rattle.mg_model.specs.Openings.{everyone}
use Rattle.mg_model.specs.declared.change.Point.{Point}
use Rattle.mg_model.specs.declared.opening.Opening.{Opening}
use Rattle.mg_model.specs.declared.table.Table.{Table}
use Rattle.mg_overlay_laws.specs.Overlays.{left_state}
use Rattle.mg_model.specs.Machine.{state_of}
use Rattle.mg_pool.specs.Pool.{IsPool, shown}
use Rattle.mg_pool.specs.declared.pool.Pool.{Pool}
use Rattle.mg_pool_overlay_laws.specs.Needs.{Asked, Sessions}
use Rattle.mg_seek.specs.Walks.{keyed}
use Rattle.mg_space.specs.declared.links.FireLinks.{FireLinks}
use Rattle.mg_table_takings.specs.Takings.{TakesRows, TakesTheRow, no_row, one_row}
use Rattle.mg_tie_laws.specs.Changed.{KeptIn}
use Rattle.mg_txlist.specs.TxList.{said}
use Rattle.mg_value.specs.declared.value.Value.{Value}

-- ---- the store

-- the store has gone on, and nothing else has changed
pub rows_on : {D : Type 0} (m : Meaning D) (t : ℕ) (keys : List Value) (begun old new : Core D) → HasTaken m begun old
    → TakesRows m t keys old new → HasTaken m begun new
rows_on {D} m t keys begun old new taken (no_row core) = taken
rows_on {D} m t all begun old new taken (one_row key keys first mid end takes more) =
    rows_on m t keys begun mid end (record {
      on = on_then m begun.store first.store mid.store taken.on (own_on m first.store mid.store _ takes.takes);
      pool = takes.takes.changed.pool;
      same = takes.same ∙ ap (λ (c : Core D). record c { store = mid.store }) taken.same;
    }) more

-- ---- no row

-- nothing was taken out
pub nothing_lost : {D : Type 0} (m : Meaning D) → StandsOneWay packed_form → (size : ℕ) (o : Opening) (h : Entries)
    (t : ℕ) (s : Standing) (start : Pool D FireLinks) (core : Core D) (i : Image) (asked : Asked) (session : Sessions)
    → LastsDead m packed_form size o h t start core.store asked session → KnowsStore m core.store i
    → core.store.geometry.size ≡ size → HasLost m size o h t s start core core i i asked session
nothing_lost m one_way size o h t s start core i asked session lasts knows size_is = record {
  cache = lasts;
  loses = λ a b r q first second. let once : (a ≡ b) × (r ≡ q) = one_way size (left_state (all_but t) s.state)
      (shown core.store.dirty i) a b r q first second in
      (once.0, λ p. inl (ap (λ (x : Reading). x p) (sym once.1)));
  tips = record { tips = λ sequence below. (refl, refl); next = refl; catalog = refl };
  stood = λ chosen off layout q sound its of. record { layout = layout; reading = q; sound = sound; of = of };
  knows = knows;
  size_is = size_is;
  same = refl;
}

-- ---- one step after another

-- a version that has gone was alone, so its record has nothing to lose any more
twice_gone : (t : ℕ) (was mid now : List Read) → GoesWhole t was mid → (now ≡ mid) ⊎ GoesWhole t mid now → GoesWhole t was now
twice_gone t was mid now went (inl same) =
    record { version = went.version; alone = went.alone; its = went.its; none = same ∙ went.none }
twice_gone t was mid now went (inr again_) = let both : [] ≡ again_.version ∷ [] = sym went.none ∙ again_.alone in absurd cc

lose_join : (size : ℕ) (state : ℕ → TxState) (t : ℕ) (old mid new : Pages) (c : Layout) (z : Reading)
    → IsSoundBy packed_form size (left_state (all_but t) state) mid c z → LoseRows size state t old mid
    → LoseRows size state t mid new → LoseRows size state t old new
lose_join size state t old mid new c z sound first second a b r q before after = (
  one_.0 ∙ two.0,
  λ p. at p (one_.1 p) (two.1 p),
)
  where
    one_ : (a ≡ c) × ((p : RecId) → (z p ≡ r p) ⊎ GoesWhole t (r p) (z p))
    one_ = first a c r z before sound

    two : (c ≡ b) × ((p : RecId) → (q p ≡ z p) ⊎ GoesWhole t (z p) (q p))
    two = second c b z q sound after

    at : (p : RecId) → (z p ≡ r p) ⊎ GoesWhole t (r p) (z p) → (q p ≡ z p) ⊎ GoesWhole t (z p) (q p)
        → (q p ≡ r p) ⊎ GoesWhole t (r p) (q p)
    at p (inr went) more = inr (twice_gone t (r p) (z p) (q p) went more)
    at p (inl same) (inl still) = inl (still ∙ same)
    at p (inl same) (inr went) = inr (subst (λ (es : List Read). GoesWhole t es (q p)) same went)

module _ {D : Type 0} (m : Meaning D) (holds : HoldsOne D m) (go_on : RowsGoOn D FireLinks m)
    (one_way : StandsOneWay packed_form) (o : Opening) (h : Entries) (e : Entry) (point : Point) (s : Standing)
    (start : Pool D FireLinks) (asked : Asked) (session : Sessions) (t : ℕ) (opening : MayBegin o)
    (legal : IsLegal o h) (memory : Remembers o h s) (goes : GoesBack o h e point s asked t) where
  off : all_but t t ≡ false
  off = rw (eq-eqb t t refl) refl

  -- the pages are what they have to be where the transaction counts as dead
  dead_at : (size : ℕ) (pool : Pool D FireLinks) (i : Image) → IsPool m pool → m.held pool.disk ≡ Some i
      → pool.geometry.size ≡ size → LastsDead m packed_form size o h t start pool asked session
      → IsKept packed_form size o (e ∷ h) (left_state (all_but t) s.state) (shown pool.dirty i) (shown pool.dirty i)
  dead_at size pool i is_pool held size_is lasts = dead_pool o h e point s asked t memory goes packed_form size pool i
      session [] (subst (λ (n : ℕ). KeptIn packed_form n o (rolling t ∷ h) (state_of o (rolling t ∷ h)) asked session pool
      i) size_is (every_from m packed_form o (rolling t ∷ h) pool i asked session is_pool held lasts.lasts)) (all_but t)
      off

  -- what a row is to the pages where the transaction counts as dead
  module _ (size : ℕ) (before after : Pool D FireLinks) (i j : Image) (keys : List Value)
      (kept : IsKept packed_form size o (e ∷ h) (left_state (all_but t) s.state) (shown before.dirty i)
      (shown before.dirty i))
      (then_ : IsKept packed_form size o (e ∷ h) (left_state (all_but t) s.state) (shown after.dirty j)
      (shown after.dirty j))
      (gone : RowsGone packed_form size o (e ∷ h) s.state t keys (shown before.dirty i) (shown after.dirty j)) where
    loses_so : LoseRows size s.state t (shown before.dirty i) (shown after.dirty j)
    loses_so a b r q first second =
        let its : (kept.of_pool ≡ a) × (kept.in_pool ≡ r) = one_way size (left_state (all_but t) s.state)
        (shown before.dirty i) kept.of_pool a kept.in_pool r kept.pool_sound first in
        let read = gone (all_but t) off kept b q second in
        (sym its.0 ∙ read.0, λ p. by p (ap (λ (x : Reading). x p) its.1) (read.1.each p))
      where
        by : {B : Type 0} (p : RecId) → kept.in_pool p ≡ r p
            → (q p ≡ kept.in_pool p) ⊎ (GoesWhole t (kept.in_pool p) (q p) × B)
            → (q p ≡ r p) ⊎ GoesWhole t (r p) (q p)
        by p same (inl still) = inl (still ∙ same)
        by p same (inr (went, key)) = inr (subst (λ (es : List Read). GoesWhole t es (q p)) same went)

    tips_so : (shown after.dirty j 0 ≡ shown before.dirty i 0) → KeepsTips size (shown before.dirty i) (shown after.dirty j)
    tips_so header =
        let changes = (gone (all_but t) off kept then_.of_pool then_.in_pool then_.pool_sound).2 in record {
          tips = changes.stay;
          next = changes.bits.next;
          catalog = ap (λ (bytes : List ℕ). (header_in bytes).catalog.0) header;
        }

  -- one row, and then others
  module _ (key : Value) (begun mid : Core D) (i : Image)
      (lasts : LastsDead m packed_form begun.store.geometry.size o h t start begun.store asked session)
      (core : IsCatalog begun.catalog) (state : s.state ≡ said begun.list) (live : s.live ≡ begun.live)
      (knows : KnowsStore m begun.store i) (catalog : HasCatalog begun begun.store i)
      (takes : TakesTheRow m begun mid t key) where
    abbrev size : ℕ
    size = begun.store.geometry.size

    abbrev one_out : HasTakenRow m s t key begun mid i
    one_out = first m holds go_on o h e point s start asked session t opening legal memory goes key begun mid i lasts core
        state live knows catalog takes

    one_turn : LastsDead m packed_form begun.store.geometry.size o h t start mid.store asked session
        × RowsGone packed_form begun.store.geometry.size o (e ∷ h) s.state t (key ∷ [])
        (shown begun.store.dirty i) (shown mid.store.dirty one_out.image)
        × (shown mid.store.dirty one_out.image 0 ≡ shown begun.store.dirty i 0)
        × StoodBeside begun.store.geometry.size s.state t (shown begun.store.dirty i) (shown mid.store.dirty one_out.image)
    one_turn = turn m holds go_on o h e point s start asked session t opening legal memory goes key begun mid i lasts core
        state live knows catalog takes

    dead_begun : IsKept packed_form begun.store.geometry.size o (e ∷ h) (left_state (all_but t) s.state)
        (shown begun.store.dirty i) (shown begun.store.dirty i)
    dead_begun = dead_at size begun.store i knows.pool_is knows.tells.held refl lasts

    dead_mid : IsKept packed_form begun.store.geometry.size o (e ∷ h) (left_state (all_but t) s.state)
        (shown mid.store.dirty one_out.image) (shown mid.store.dirty one_out.image)
    dead_mid = dead_at size mid.store one_out.image one_out.step.pool one_out.step.held one_out.step.size_is one_turn.0

    after_one : (end : Core D) (j : Image)
        → HasLost m mid.store.geometry.size o h t s start mid end one_out.image j asked session
        → HasLost m begun.store.geometry.size o h t s start begun end i j asked session
    after_one end j lost = by (subst (λ (n : ℕ). HasLost m n o h t s start mid end one_out.image j asked session)
        one_out.step.size_is lost)
      where
        by : HasLost m begun.store.geometry.size o h t s start mid end one_out.image j asked session
            → HasLost m begun.store.geometry.size o h t s start begun end i j asked session
        by more = record {
          cache = more.cache;
          loses = lose_join begun.store.geometry.size s.state t (shown begun.store.dirty i)
              (shown mid.store.dirty one_out.image) (shown end.store.dirty j) dead_mid.of_pool dead_mid.in_pool
              dead_mid.pool_sound
              (loses_so size begun.store mid.store i one_out.image (key ∷ []) dead_begun dead_mid one_turn.1) more.loses;
          tips = tips_then tips_stay_on begun.store.geometry.size (shown begun.store.dirty i)
              (shown mid.store.dirty one_out.image) (shown end.store.dirty j)
              (tips_so size begun.store mid.store i one_out.image (key ∷ []) dead_begun dead_mid one_turn.1 one_turn.2)
              more.tips;
          stood = λ chosen out layout q sound table of.
              let stood = more.stood chosen out layout q sound table of in
              one_turn.3 chosen out stood.layout stood.reading stood.sound table stood.of;
          knows = more.knows;
          size_is = more.size_is;
          same = more.same ∙ ap (λ (c : Core D). record c { store = end.store }) takes.same;
        }

  -- those of some keys
  pub rows_lost : (keys : List Value) (old new : Core D) (i : Image)
      → LastsDead m packed_form old.store.geometry.size o h t start old.store asked session
      → IsCatalog old.catalog → s.state ≡ said old.list → s.live ≡ old.live → KnowsStore m old.store i
      → HasCatalog old old.store i → TakesRows m t keys old new
      → (j : Image) × HasLost m old.store.geometry.size o h t s start old new i j asked session
  rows_lost keys old new i lasts core state live knows catalog (no_row it) =
      (i, nothing_lost m one_way it.store.geometry.size o h t s start it i asked session lasts knows refl)
  rows_lost all old new i lasts core state live knows catalog (one_row key keys begun mid end takes more) =
      let rest = rows_lost keys mid end (one_out key begun mid i lasts core state live knows catalog takes).image
      (lasts_mid m holds go_on o h e point s start asked session t opening legal memory goes key begun mid i lasts core state live knows catalog takes)
      (core_mid m holds go_on o h e point s start asked session t opening legal memory goes key begun mid i lasts core state live knows catalog takes)
      (state_mid m holds go_on o h e point s start asked session t opening legal memory goes key begun mid i lasts core state live knows catalog takes)
      (live_mid m holds go_on o h e point s start asked session t opening legal memory goes key begun mid i lasts core state live knows catalog takes)
      (one_out key begun mid i lasts core state live knows catalog takes).knows
      (catalog_mid m holds go_on o h e point s start asked session t opening legal memory goes key begun mid i lasts core state live knows catalog takes)
      more in
      (rest.0, after_one key begun mid i lasts core state live knows catalog takes end rest.0 rest.1)

-- ---- walks

-- the walks of others go on where the rows of a dead one go
module _ (size : ℕ) (state : ℕ → TxState) (s : Standing) (t u : ℕ) (pages later : Pages) (c : Layout) (z : Reading)
    (sound : IsSoundBy packed_form size (left_state (all_but t) state) later c z)
    (states : left_state (all_but t) state ≡ left_state everyone s.state) (loses : LoseRows size state t pages later)
    (not_taken : takes_version s.state s.live u t ≡ false) (table : Table) where
  none_shown : (version : Read) → writer version ≡ t
      → keyed table (shown_row (takes_version s.state s.live u) (version ∷ [])) [] ≡ keyed table (shown_row (takes_version s.state s.live u) []) []
  none_shown version its = rw (ap (takes_version s.state s.live u) its ∙ not_taken) refl

  row_there : (r : Reading) (p : RecId) → (z p ≡ r p) ⊎ GoesWhole t (r p) (z p)
      → row_at_record (takes_version s.state s.live u) table z p ≡ row_at_record (takes_version s.state s.live u) table r p
  row_there r p (inl same) = ap (λ (es : List Read). keyed table (shown_row (takes_version s.state s.live u) es) []) same
  row_there r p (inr went) = ap (λ (es : List Read). keyed table (shown_row (takes_version s.state s.live u) es) []) went.none
      ∙ (sym (none_shown went.version went.its)
      ∙ sym (ap (λ (es : List Read). keyed table (shown_row (takes_version s.state s.live u) es) []) went.alone))

  none_behind : (ns : List ℕ) → ns ≡ ns ++ []
  none_behind [] = refl
  none_behind (n ∷ ns) = ap (λ (ms : List ℕ). n ∷ ms) (none_behind ns)

  shows_on : (layout : Layout) (r : Reading) → IsSoundBy packed_form size (left_state everyone s.state) pages layout r
      → (was : IsShown layout table) → ShowsOn size s s later u table layout r was
  shows_on layout r before was =
      let lost = loses layout c r z (subst (λ (x : ℕ → TxState). IsSoundBy packed_form size x pages layout r) (sym states)
      before) sound in record {
        layout = layout;
        reading = z;
        sound = subst (λ (l : Layout). IsSoundBy packed_form size (left_state everyone s.state) later l z) (sym lost.0)
            (subst (λ (x : ℕ → TxState). IsSoundBy packed_form size x later c z) states sound);
        is_ = was;
        same = record {
          more = [];
          data_pages = none_behind was.stands.stand.data_pages;
          rows = λ p has_. row_there r p (lost.1 p);
          none = λ p has_. absurd has_;
        };
      }

  pub walks_past : (after : Option WalkPlace) (rows : KeyedRows) → AreToCome size s pages u table after rows
      → AreToCome size s later u table after rows
  walks_past after rows = row_walks_go_on size s s pages later u table after rows shows_on
