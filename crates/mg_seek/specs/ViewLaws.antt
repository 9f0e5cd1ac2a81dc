-- The rows that a transaction sees of a table's records are those of its view.
use Rattle.std.proofs.Common.{◌≡◌, ◌∙◌, ◌⊎◌, ◌<◌, inl, inr, ℕ, zero, suc, ◌==◌, ◌||◌, Bool, true, false, List, [], ◌∷◌, ◌++◌, Option, None, Some, refl, sym, ap, subst, arith, cond}
use Rattle.std.specs.Prelude.{◌≢◌, IsPermutation}
use Rattle.mg_base.specs.declared.numbers.RecId.{RecId}
use Rattle.mg_chain.specs.Chains.{newest_link, takes_version}
use Rattle.mg_chain.specs.Views.{BaseIsTold}
use Rattle.mg_generation_laws.specs.Generations.{Generation, shown_by, sees as sees_told}
use Rattle.mg_generation_laws.specs.Kept.{IsErasedForAll}
use Rattle.mg_generation_laws.specs.Laws.{ChainsShowViews}
use Rattle.mg_heap.specs.Walk.{is_primary}
use Rattle.mg_image.specs.Form.{Pages, Row, packed_coding}
use Rattle.mg_image.specs.Held.{told_row}
use Rattle.mg_image.specs.RecordRules.{AreRecords, Each, Facts, IsVersion, table_in}
use Rattle.mg_image.specs.Records.{Chain, Reading, cells_of, key_of, record_key, shown, writer}
use Rattle.mg_image.specs.Tables.{Has, IsOnce}
use Rattle.mg_image.specs.declared.entry.Entry.{Entry}
use Rattle.mg_model.specs.Answers.{is_active, told}
use Rattle.mg_model.specs.Changes.{KeyedRows, row_at, rows_of}
use Rattle.mg_model.specs.History.{Entries}
use Rattle.mg_model.specs.Machine.{state_of, view}
use Rattle.mg_model.specs.RowLaws.{row_in, row_in-rows_of, rows_of_ascend}
use Rattle.mg_model.specs.declared.opening.Opening.{Opening}
use Rattle.mg_model.specs.declared.table.Table.{Table}
use Rattle.mg_slots.specs.DataPage.{cell_of, slot_count}
use Rattle.mg_snap.specs.Live.{State}
use Rattle.mg_value.specs.declared.value.Value.{Value}
use Rattle.mg_version.specs.declared.cell.Link.{Link}
use Rattle.mg_seek.specs.Histories.{AreItsPages, DieAlike, HasSpeaker, told_if, told_versions}
use Rattle.mg_seek.specs.TableRecords.{IsAmong, rec_at, record_at, records_below, records_in, records_on}
use Rattle.mg_seek.specs.Walks.{WalksShowViews, keyed, rows_shown}
use Rattle.mg_seek.specs.AmongLaws.{among_either, among_pages, below_page, newest_primary, page_among}
use Rattle.mg_seek.specs.HistoryLaws.{living_shown}
use Rattle.mg_seek.specs.OrderLaws.{AreKeyedOnce, HasRow, NoneHas, same_rows}
use Rattle.mg_seek.specs.SpeakerLaws.{link_there, same_some}

-- ---- records stand once

abbrev AreOnce : List RecId → Type 0
AreOnce [] = Unit {0}
AreOnce (x ∷ xs) = (IsAmong xs x → ⊥) × AreOnce xs

once_append : (xs ys : List RecId) → AreOnce xs → AreOnce ys
    → ((x : RecId) → IsAmong xs x → IsAmong ys x → ⊥) → AreOnce (xs ++ ys)
once_append [] ys once also apart = also
once_append (x ∷ xs) ys once also apart = (
  (λ is. at (among_either xs ys x is)),
  once_append xs ys once.1 also (λ z left right. apart z (inr left) right),
)
  where
    at : IsAmong xs x ⊎ IsAmong ys x → ⊥
    at (inl is) = once.0 is
    at (inr is) = apart x (inl refl) is

one_slot : (b : List ℕ) (n k : ℕ) (x : RecId) → IsAmong (record_at b n k) x → x.slot ≡ k
one_slot b n k x = at (is_primary (cell_of b k))
  where
    at : (p : Bool) → IsAmong (cond p (rec_at n k ∷ []) []) x → x.slot ≡ k
    at true (inl same) = sym (ap (λ (y : RecId). y.slot) same)
    at true (inr nothing) = absurd nothing
    at false is = absurd is

slot_below : (b : List ℕ) (n k : ℕ) (x : RecId) → IsAmong (records_below b n k) x → x.slot < k
slot_below b n zero x is = absurd is
slot_below b n (suc k) x is = at (among_either (records_below b n k) (record_at b n k) x is)
    (λ left. slot_below b n k x left)
  where
    at : IsAmong (records_below b n k) x ⊎ IsAmong (record_at b n k) x
        → (IsAmong (records_below b n k) x → x.slot < k) → x.slot < suc k
    at (inl left) more = let less = more left in omega arith
    at (inr here_) more = let same = one_slot b n k x here_ in omega arith

one_once : (b : List ℕ) (n k : ℕ) → AreOnce (record_at b n k)
one_once b n k = at (is_primary (cell_of b k))
  where
    at : (p : Bool) → AreOnce (cond p (rec_at n k ∷ []) [])
    at true = ((λ nothing. nothing), tt)
    at false = tt

below_once : (b : List ℕ) (n k : ℕ) → AreOnce (records_below b n k)
below_once b n zero = tt
below_once b n (suc k) = once_append (records_below b n k) (record_at b n k) (below_once b n k)
    (one_once b n k) (λ x left right. apart x (slot_below b n k x left) (one_slot b n k x right))
  where
    apart : (x : RecId) → x.slot < k → x.slot ≡ k → ⊥
    apart x less same = omega arith

pages_once : (pages : Pages) (ds : List ℕ) → IsOnce ds → AreOnce (records_in pages ds)
pages_once pages [] once = tt
pages_once pages (d ∷ ds) once = once_append (records_on (pages d) d) (records_in pages ds)
    (below_once (pages d) d (slot_count (pages d))) (pages_once pages ds once.1)
    (λ x left right. once.0 (subst (λ (n : ℕ). Has ds n)
    (sym (below_page (pages d) d (slot_count (pages d)) x left)) (page_among pages ds x right)))

-- ---- rows of records

-- a record of some shows a row with a key
record ShowsAmong (counts : ℕ → Bool) (table : Table) (r : Reading) (recs : List RecId) (key : Value)
    (row : Row) : Type 0 where
  rec : RecId
  among : IsAmong recs rec
  stored : Row
  shows : shown counts (r rec) ≡ Some stored
  its_key : key_of table stored ≡ key
  its_row : told_row table stored ≡ row

rows_there : (counts : ℕ → Bool) (table : Table) (r : Reading) (recs : List RecId) (key : Value)
    (row : Row) → HasRow (rows_shown counts table r recs) key row → ShowsAmong counts table r recs key row
rows_there counts table r [] key row has = absurd has
rows_there counts table r (rec ∷ recs) key row has =
    at (shown counts (r rec)) refl has (λ later. on (rows_there counts table r recs key row later))
  where
    on : ShowsAmong counts table r recs key row → ShowsAmong counts table r (rec ∷ recs) key row
    on s = record {
      rec = s.rec;
      among = inr s.among;
      stored = s.stored;
      shows = s.shows;
      its_key = s.its_key;
      its_row = s.its_row;
    }

    at : (found : Option Row) → shown counts (r rec) ≡ found
        → HasRow (keyed table found (rows_shown counts table r recs)) key row
        → (HasRow (rows_shown counts table r recs) key row
        → ShowsAmong counts table r (rec ∷ recs) key row)
        → ShowsAmong counts table r (rec ∷ recs) key row
    at None is has more = more has
    at (Some stored) is (inl here_) more = record {
      rec = rec;
      among = inl refl;
      stored = stored;
      shows = is;
      its_key = here_.0;
      its_row = here_.1;
    }
    at (Some stored) is (inr later) more = more later

rows_back : (counts : ℕ → Bool) (table : Table) (r : Reading) (recs : List RecId) (rec : RecId)
    (stored : Row) → IsAmong recs rec → shown counts (r rec) ≡ Some stored
    → HasRow (rows_shown counts table r recs) (key_of table stored) (told_row table stored)
rows_back counts table r [] rec stored among shows = absurd among
rows_back counts table r (x ∷ recs) rec stored (inl same) shows =
    subst (λ (found : Option Row). HasRow (keyed table found (rows_shown counts table r recs))
    (key_of table stored) (told_row table stored))
    (sym (ap (λ (y : RecId). shown counts (r y)) same ∙ shows)) (inl (refl, refl))
rows_back counts table r (x ∷ recs) rec stored (inr later) shows =
    at (shown counts (r x)) (rows_back counts table r recs rec stored later shows)
  where
    at : (found : Option Row)
        → HasRow (rows_shown counts table r recs) (key_of table stored) (told_row table stored)
        → HasRow (keyed table found (rows_shown counts table r recs)) (key_of table stored)
        (told_row table stored)
    at None is = is
    at (Some row) is = inr is

-- where one record at most shows a row with a key, no key stands twice
shown_once : (counts : ℕ → Bool) (table : Table) (r : Reading) (chosen : Value → Option RecId)
    (recs : List RecId) → AreOnce recs
    → ((rec : RecId) (stored : Row) → IsAmong recs rec → shown counts (r rec) ≡ Some stored
    → chosen (key_of table stored) ≡ Some rec)
    → AreKeyedOnce (rows_shown counts table r recs)
shown_once counts table r chosen [] once is = tt
shown_once counts table r chosen (rec ∷ recs) once is =
    at (shown counts (r rec)) refl
    (shown_once counts table r chosen recs once.1 (λ x stored among shows. is x stored (inr among) shows))
  where
    at : (found : Option Row) → shown counts (r rec) ≡ found
        → AreKeyedOnce (rows_shown counts table r recs)
        → AreKeyedOnce (keyed table found (rows_shown counts table r recs))
    at None none more = more
    at (Some stored) some more = (
      (λ row has. twice (rows_there counts table r recs (key_of table stored)
          row has)),
      more,
    )
      where
        twice : {row : Row} → ShowsAmong counts table r recs (key_of table stored) row → ⊥
        twice s =
            let first : chosen (key_of table stored) ≡ Some rec = is rec stored (inl refl) some in
            let other : chosen (key_of table stored) ≡ Some s.rec =
            ap chosen (sym s.its_key) ∙ is s.rec s.stored (inr s.among) s.shows in
            once.0 (subst (λ (x : RecId). IsAmong recs x)
            (same_some s.rec rec (sym other ∙ first)) s.among)

-- ---- the view

each_shown : (P : Entry → Type 0) (counts : ℕ → Bool) (es : List Entry) (row : Row) → Each P es
    → shown counts es ≡ Some row → (e : Entry) × P e × (e.row ≡ row)
each_shown P counts [] row each is = absurd cc
each_shown P counts (e ∷ es) row each is = at (counts (writer e)) e.version.deleted is
    (λ more. each_shown P counts es row each.1 more)
  where
    at : (b d : Bool) → cond b (cond d None (Some e.row)) (shown counts es) ≡ Some row
        → (shown counts es ≡ Some row → (e : Entry) × P e × (e.row ≡ row))
        → (e : Entry) × P e × (e.row ≡ row)
    at true true none more = absurd cc
    at true false some more = let same : e.row ≡ row = cc in (e, each.0, same)
    at false d later more = more later

module _ (law : ChainsShowViews) (o : Opening) (h : Entries) (live : State) (t : ℕ) (pages : Pages)
    (table : Table) (data_pages : List ℕ) (f : Facts) (r : Reading) (speaker : Value → Option RecId)
    (lawful : AreRecords packed_coding f (cells_of pages) r) (alike : DieAlike o h f)
    (its_pages : AreItsPages f table data_pages)
    (has : (key : Value) → HasSpeaker o h f r table key (speaker key))
    (active : is_active (state_of o h t) ≡ true) (base : BaseIsTold o h live t) where
  abbrev counts : ℕ → Bool
  counts = takes_version (state_of o h) live t

  its_shown : (rec : RecId) → told_if table (shown counts (r rec))
      ≡ shown_by (sees_told (told o h) t) (told_versions f.state table (r rec))
  its_shown rec = living_shown o h live t active base f alike table (r rec)

  key_shown : (rec : RecId) (stored : Row) → table_in f rec ≡ Some table
      → shown counts (r rec) ≡ Some stored → key_of table stored ≡ record_key table (r rec)
  key_shown rec stored of_table shows = at (each_shown
      (IsVersion packed_coding f table (record_key table (r rec))) counts (r rec) stored
      (lawful.each rec table of_table).each shows)
    where
      at : (e : Entry) × IsVersion packed_coding f table (record_key table (r rec)) e × (e.row ≡ stored)
          → key_of table stored ≡ record_key table (r rec)
      at (e, its, same) = ap (key_of table) (sym same) ∙ its.keyed

  -- versions that are none, or are erased for all, show nothing to an active transaction
  erased_shows_none : (gs : List Generation) → IsErasedForAll o h gs
      → shown_by (sees_told (told o h) t) gs ≡ None
  erased_shows_none [] gone = absurd gone
  erased_shows_none (g ∷ gs) gone = rw (gone.0.saw t active, gone.1) (none_either (g.writer == t))
    where
      none_either : (b : Bool) → cond (b || true) None (shown_by (sees_told (told o h) t) gs) ≡ None
      none_either true = refl
      none_either false = refl

  shows_chosen : (rec : RecId) (stored : Row) → table_in f rec ≡ Some table
      → shown counts (r rec) ≡ Some stored → speaker (key_of table stored) ≡ Some rec
  shows_chosen rec stored of_table shows =
      at ((has (key_of table stored)).others rec of_table (sym (key_shown rec stored of_table shows)))
    where
      told_is : Some (told_row table stored)
          ≡ shown_by (sees_told (told o h) t) (told_versions f.state table (r rec))
      told_is = ap (told_if table) (sym shows) ∙ its_shown rec

      at : (told_versions f.state table (r rec) ≡ [])
          ⊎ IsErasedForAll o h (told_versions f.state table (r rec))
          ⊎ (speaker (key_of table stored) ≡ Some rec) → speaker (key_of table stored) ≡ Some rec
      at (inl empty) =
          let none : Some (told_row table stored) ≡ None =
          told_is ∙ ap (shown_by (sees_told (told o h) t)) empty in absurd cc
      at (inr (inl gone)) =
          let none : Some (told_row table stored) ≡ None =
          told_is ∙ erased_shows_none (told_versions f.state table (r rec)) gone in absurd cc
      at (inr (inr chosen)) = chosen

  of_table : (rec : RecId) → IsAmong (records_in pages data_pages) rec → table_in f rec ≡ Some table
  of_table rec among = (its_pages rec.page.0).1 (page_among pages data_pages rec among)

  seen_at : (key : Value) (rec : RecId) → speaker key ≡ Some rec
      → row_at (view o h t) table.name key ≡ told_if table (shown counts (r rec))
  seen_at key rec chosen = law o h table.name key (told_versions f.state table (r rec)) t
      ((has key).some rec chosen).2 active ∙ sym (its_shown rec)

  there : (key : Value) (row : Row)
      → HasRow (rows_shown counts table r (records_in pages data_pages)) key row
      → row_in (rows_of (view o h t) table.name) key ≡ Some row
  there key row has_row = at (rows_there counts table r (records_in pages data_pages) key row has_row)
    where
      at : ShowsAmong counts table r (records_in pages data_pages) key row
          → row_in (rows_of (view o h t) table.name) key ≡ Some row
      at s = row_in-rows_of (view o h t) table.name key
          ∙ seen_at key s.rec (ap speaker (sym s.its_key)
          ∙ shows_chosen s.rec s.stored (of_table s.rec s.among) s.shows)
          ∙ ap (told_if table) s.shows ∙ ap Some s.its_row

  listed : (rec : RecId) (stored : Row) → table_in f rec ≡ Some table
      → shown counts (r rec) ≡ Some stored → IsAmong (records_in pages data_pages) rec
  listed rec stored of shows = at (r rec) refl shows
    where
      at : (es : List Entry) → r rec ≡ es → shown counts es ≡ Some stored
          → IsAmong (records_in pages data_pages) rec
      at [] is none = absurd cc
      at (e ∷ es) is some = on (link_there (cells_of pages) (newest_link pages rec) e es
          (subst (λ (ds : List Entry). Chain (cells_of pages) (newest_link pages rec) ds) is
          (lawful.reads rec table of)))
        where
          on : (l : Link) × (newest_link pages rec ≡ Some l) → IsAmong (records_in pages data_pages) rec
          on (l, link) = among_pages pages data_pages rec ((its_pages rec.page.0).0 of)
              (newest_primary pages rec l link)

  told_some : (found : Option Row) (row : Row) → told_if table found ≡ Some row
      → (stored : Row) × (found ≡ Some stored) × (told_row table stored ≡ row)
  told_some None row is = absurd cc
  told_some (Some stored) row is = let same : told_row table stored ≡ row = cc in (stored, refl, same)

  back : (key : Value) (row : Row) → row_in (rows_of (view o h t) table.name) key ≡ Some row
      → HasRow (rows_shown counts table r (records_in pages data_pages)) key row
  back key row is = at (speaker key) refl
    where
      viewed_row : row_at (view o h t) table.name key ≡ Some row
      viewed_row = sym (row_in-rows_of (view o h t) table.name key) ∙ is

      at : (c : Option RecId) → speaker key ≡ c
          → HasRow (rows_shown counts table r (records_in pages data_pages)) key row
      at None none =
          let nothing : row_at (view o h t) table.name key ≡ None =
          law o h table.name key [] t ((has key).none none) active in
          let both : None ≡ Some row = sym nothing ∙ viewed_row in absurd cc
      at (Some rec) chosen = on (told_some (shown counts (r rec)) row
          (sym (seen_at key rec chosen) ∙ viewed_row))
        where
          on : (stored : Row) × (shown counts (r rec) ≡ Some stored) × (told_row table stored ≡ row)
              → HasRow (rows_shown counts table r (records_in pages data_pages)) key row
          on (stored, shows, same) =
              let its = (has key).some rec chosen in
              let key_is : key_of table stored ≡ key = key_shown rec stored its.0 shows ∙ its.1 in
              subst (λ (k : Value). HasRow (rows_shown counts table r (records_in pages data_pages)) k row)
              key_is
              (subst (λ (x : Row). HasRow (rows_shown counts table r (records_in pages data_pages))
              (key_of table stored) x) same
              (rows_back counts table r (records_in pages data_pages) rec stored
              (listed rec stored its.0 shows) shows))

pub walks_show_views : ChainsShowViews → WalksShowViews
walks_show_views law o h live t pages table data_pages f r speaker lawful alike once its_pages has active
    base =
    same_rows
    (rows_shown (takes_version (state_of o h) live t) table r (records_in pages data_pages))
    (rows_of (view o h t) table.name)
    (shown_once (takes_version (state_of o h) live t) table r speaker (records_in pages data_pages)
    (pages_once pages data_pages once)
    (λ rec stored among shows. shows_chosen law o h live t pages table data_pages f r speaker lawful alike
    its_pages has active base rec stored
    ((its_pages rec.page.0).1 (page_among pages data_pages rec among)) shows))
    (rows_of_ascend (view o h t) table.name)
    (there law o h live t pages table data_pages f r speaker lawful alike its_pages has active base)
    (back law o h live t pages table data_pages f r speaker lawful alike its_pages has active base)
