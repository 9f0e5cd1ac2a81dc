-- The walks of all others go on while a transaction is taken back, and where it is given up.
use Rattle.std.proofs.Common.{◌≡◌, ◌≢◌, ◌⊎◌, inl, inr, ap, refl, sym, subst, ◌∙◌, ℕ, Bool, true, List, [], ◌∷◌, ◌++◌, Some}
use Rattle.std.proofs.Math.Path.{fun_ext}
use Rattle.mg_base.specs.declared.numbers.RecId.{RecId}
use Rattle.mg_base.specs.declared.transaction.TxState.{TxState}
use Rattle.mg_base.specs.declared.transaction.TxState.TheVariants.{Active}
use Rattle.mg_chain.specs.Chains.{takes_version}
use Rattle.mg_engine_step_laws.specs.standing.Known.{IsShown}
use Rattle.mg_engine_step_laws.specs.tables.TablePages.{data_once}
use Rattle.mg_engine_change_laws.specs.keys.BackWalks.{BackWalksGoOn, GivenUpWalksGoOn, WalksBeside}
use Rattle.mg_engine_change_laws.specs.backs.OthersRows.{keyed_alike, row_same}
use Rattle.mg_engine_step_laws.specs.backs.Shown.{ShowsMidway}
use Rattle.mg_engine_meaning_laws.specs.Falling.{Falls, read_alike}
use Rattle.mg_engine_change_laws.specs.rows.RowWalks.{RowWalksGoOn, ShowsOn, row_at_record}
use Rattle.mg_image_overlay_laws.specs.tables.Growing.{IsTableOf}
use Rattle.mg_image_overlay_laws.specs.kept.Knowing.{its_pages}
use Rattle.mg_image.specs.Form.{Pages, packed_coding, packed_form}
use Rattle.mg_image.specs.ReadingLaws.{RowsAreOne}
use Rattle.mg_image.specs.Records.{Reading, shown}
use Rattle.mg_image.specs.Sound.{HasTablePages, IsSoundBy}
use Rattle.mg_image.specs.Tables.{Has, IsOnce, Layout, PointerChain, Stand, entries_in, stands_of, table_at}
use Rattle.mg_image.specs.declared.entry.Entry.{Entry as Read}
use Rattle.mg_image_overlay_laws.specs.kept.KeptImages.{AreFrontStands, IsFrontOf, IsFrontStand}
use Rattle.mg_model.specs.History.{Entries, Entry}
use Rattle.mg_model.specs.Openings.{everyone}
use Rattle.mg_model.specs.declared.change.Change.{Change}
use Rattle.mg_model.specs.declared.opening.Opening.{Opening}
use Rattle.mg_model.specs.declared.table.Table.{Table}
use Rattle.mg_image_overlay_laws.specs.tables.OneChain.{link_once}
use Rattle.mg_image_overlay_laws.specs.tables.OneLayout.{StandsOneWay}
use Rattle.mg_overlay_laws.specs.Overlays.{left_by, left_state}
use Rattle.mg_pointer.specs.PointerPage.{next_in}
use Rattle.mg_seek.specs.Walks.{keyed}
use Rattle.mg_engine_step_laws.specs.standing.Standing.{ShowsHistory, Standing}
use Rattle.mg_image_overlay_laws.specs.tables.OneTable.{its_data}

-- ---- fronts

-- What is behind a front.
record HasMore (ns all : List ℕ) : Type 0 where
  more : List ℕ
  is_ : all ≡ ns ++ more

behind_front : (ns all : List ℕ) → IsFrontOf ns all → HasMore ns all
behind_front [] all front = record { more = all; is_ = refl }
behind_front (n ∷ ns) [] front = absurd front
behind_front (n ∷ ns) (m ∷ ms) front =
    let it = behind_front ns ms front.1 in
    record {
      more = it.more;
      is_ = (λ i. sym front.0 i ∷ ms) ∙ ap (λ (ks : List ℕ). n ∷ ks) it.is_;
    }

-- A table that stands has a stand in its place, with its data pages and more.
record StandsMore (stand : Stand) (stands : List Stand) : Type 0 where
  before : List Stand
  its : Stand
  after : List Stand
  is_ : stands ≡ before ++ (its ∷ after)
  front : IsFrontStand stand its

stand_more : (before : List Stand) (stand : Stand) (after others : List Stand)
    → AreFrontStands (before ++ (stand ∷ after)) others → StandsMore stand others
stand_more [] stand after [] fronts = absurd fronts
stand_more [] stand after (x ∷ xs) fronts =
    record { before = []; its = x; after = xs; is_ = refl; front = fronts.0 }
stand_more (y ∷ before) stand after [] fronts = absurd fronts
stand_more (y ∷ before) stand after (x ∷ xs) fronts =
    let it = stand_more before stand after xs fronts.1 in
    record {
      before = x ∷ it.before;
      its = it.its;
      after = it.after;
      is_ = ap (λ (ss : List Stand). x ∷ ss) it.is_;
      front = it.front;
    }

has_more : (ns more : List ℕ) (n : ℕ) → Has more n → Has (ns ++ more) n
has_more [] more n has = has
has_more (k ∷ ks) more n has = inr (has_more ks more n has)

has_front : (ns more : List ℕ) (n : ℕ) → Has ns n → Has (ns ++ more) n
has_front [] more n has = absurd has
has_front (k ∷ ks) more n (inl is) = inl is
has_front (k ∷ ks) more n (inr later) = inr (has_front ks more n later)

-- no number stands in both parts of a list in which each stands once
never_both : (ns more : List ℕ) (n : ℕ) → IsOnce (ns ++ more) → Has ns n → Has more n → ⊥
never_both [] more n once first second = first
never_both (k ∷ ks) more n once (inl is) second =
    once.0 (subst (Has (ks ++ more)) is (has_more ks more n second))
never_both (k ∷ ks) more n once (inr later) second = never_both ks more n once.1 later second

-- ---- a table in the middle

-- A table that one layout shows stands in another one, with the data pages that it had, and more.
pub record StandsStill (a b : Layout) (table : Table) (was : IsShown a table) : Type 0 where
  pub stands : IsTableOf b was.its
  pub more : List ℕ
  pub pages : stands.stand.data_pages ≡ was.stands.stand.data_pages ++ more

stands_still : (a b : Layout) (table : Table) (was : IsShown a table) → AreFrontStands (stands_of a) (stands_of b)
    → StandsStill a b table was
stands_still a b table was fronts =
    let there : StandsMore was.stands.stand (stands_of b) = stand_more was.stands.before was.stands.stand
    was.stands.after (stands_of b) (subst (λ (ss : List Stand). AreFrontStands ss (stands_of b)) was.stands.is_ fronts)
    in
    let behind : HasMore was.stands.stand.data_pages there.its.data_pages =
    behind_front was.stands.stand.data_pages there.its.data_pages there.front.data_pages in
    record {
      stands = record {
        before = there.before;
        stand = there.its;
        after = there.after;
        is_ = there.is_;
        table_is = sym there.front.table ∙ was.stands.table_is;
      };
      more = behind.more;
      pages = behind.is_;
    }

module _ (size : ℕ) (o : Opening) (h : Entries) (e : Entry) (t u : ℕ) (whole left : List Change) (s : Standing)
    (begun pages : Pages) (first : ShowsHistory packed_form size o h s begun)
    (midway : ShowsMidway packed_form size o h e t whole left s begun first pages) (back : s.state t ≡ Active)
    (active : s.state u ≡ Active) (apart : u ≢ t) (table : Table) (was : IsShown first.layout table)
    (still : StandsStill first.layout midway.layout table was) where
  of_first : (p : RecId) → Has was.stands.stand.data_pages p.page.0
      → table_at (stands_of first.layout) p.page.0 ≡ Some was.its
  of_first p has = (its_data packed_form size (left_state everyone s.state) begun first.layout first.reading first.sound
      was.its was.stands p.page.0).1 has

  -- the rows of its records
  pub rows_there : (p : RecId) → Has was.stands.stand.data_pages p.page.0
      → row_at_record (takes_version s.state s.live u) table midway.reading p
      ≡ row_at_record (takes_version s.state s.live u) table first.reading p
  rows_there p has = keyed_alike was.its table was.same (shown (takes_version s.state s.live u) (midway.reading p))
      ∙ (row_same size o h e t u whole left s begun pages first midway back active apart p was.its (of_first p has)
      ∙ sym (keyed_alike was.its table was.same (shown (takes_version s.state s.live u) (first.reading p))))

  once : IsOnce (was.stands.stand.data_pages ++ still.more)
  once = subst IsOnce still.pages (data_once size (left_state everyone s.state) pages midway.layout midway.reading
      midway.sound was.its still.stands)

  -- its new pages have no records
  pub none_there : (p : RecId) → Has still.more p.page.0 → midway.reading p ≡ []
  none_there p has = at (midway.new p was.its of_now)
    where
      of_now : table_at (stands_of midway.layout) p.page.0 ≡ Some was.its
      of_now = (its_data packed_form size (left_state everyone s.state) pages midway.layout midway.reading midway.sound
          was.its still.stands p.page.0).1 (subst (λ (ns : List ℕ). Has ns p.page.0) (sym still.pages)
          (has_more was.stands.stand.data_pages still.more p.page.0 has))

      at : (table_at (stands_of first.layout) p.page.0 ≡ Some was.its)
          ⊎ ((first.reading p ≡ []) × (midway.reading p ≡ [])) → midway.reading p ≡ []
      at (inr (none, empty)) = empty
      at (inl there_) = absurd (never_both was.stands.stand.data_pages still.more p.page.0 once
          ((its_data packed_form size (left_state everyone s.state) begun first.layout first.reading first.sound
          was.its was.stands p.page.0).0 there_) has)

-- ---- taken back

module _ (one_way : StandsOneWay packed_form) (size : ℕ) (o : Opening) (h : Entries) (e : Entry) (t u : ℕ)
    (whole left : List Change) (s new : Standing) (begun pages : Pages)
    (first : ShowsHistory packed_form size o h s begun)
    (midway : ShowsMidway packed_form size o h e t whole left s begun first pages) (beside : WalksBeside s new t u)
    (table : Table) where
  counts_are : takes_version new.state new.live u ≡ takes_version s.state s.live u
  counts_are = fun_ext beside.takes

  -- what is shown of a layout and a reading is so of each other one
  everywhere : ((was : IsShown first.layout table) → ShowsOn size s new pages u table first.layout first.reading was)
      → (layout : Layout) (r : Reading)
      → IsSoundBy packed_form size (left_state everyone s.state) begun layout r → (was : IsShown layout table)
      → ShowsOn size s new pages u table layout r was
  everywhere shows layout r sound =
      let once_ : (first.layout ≡ layout) × (first.reading ≡ r) =
      one_way size (left_state everyone s.state) begun first.layout layout first.reading r first.sound sound in
      subst (λ (q : Reading). (was : IsShown layout table) → ShowsOn size s new pages u table layout q was) once_.1
      (subst (λ (l : Layout). (was : IsShown l table) → ShowsOn size s new pages u table l first.reading was) once_.0
      shows)

  module _ (states : (v : ℕ) → new.state v ≡ s.state v) (was : IsShown first.layout table)
      (still : StandsStill first.layout midway.layout table was) where
    pub shows_back : ShowsOn size s new pages u table first.layout first.reading was
    shows_back = record {
      layout = midway.layout;
      reading = midway.reading;
      sound = subst (λ (x : ℕ → TxState). IsSoundBy packed_form size x pages midway.layout midway.reading)
          (sym (fun_ext (λ v. ap (left_by true) (states v)))) midway.sound;
      is_ = record { its = was.its; stands = still.stands; same = was.same };
      same = record {
        more = still.more;
        data_pages = still.pages;
        rows = λ p has. ap (λ (c : ℕ → Bool). row_at_record c table midway.reading p) counts_are
            ∙ rows_there size o h e t u whole left s begun pages first midway beside.back beside.active beside.apart
            table was still p has;
        none = λ p has. ap (λ (es : List Read). keyed table (shown (takes_version new.state new.live u) es) [])
            (none_there size o h e t u whole left s begun pages first midway beside.back beside.active beside.apart
            table was still p has);
      };
    }

  -- ---- given up

  module _ (one : RowsAreOne packed_coding)
      (falls : Falls (left_state everyone s.state) (left_state everyone new.state) t) (b : Layout) (q : Reading)
      (second : IsSoundBy packed_form size (left_state everyone new.state) pages b q) (is_b : IsShown b table)
      (was : IsShown first.layout table) (still : StandsStill first.layout midway.layout table was) where
    -- both layouts have the table where it begins, so on the same data pages
    has_a : HasTablePages packed_form.in_primary size pages still.stands.stand
    has_a = its_pages packed_form size (left_state everyone s.state) pages midway.layout midway.reading midway.sound
        was.its still.stands

    has_b : HasTablePages packed_form.in_primary size pages is_b.stands.stand
    has_b = its_pages packed_form size (left_state everyone new.state) pages b q second is_b.its is_b.stands

    pointer_same : still.stands.stand.table.pointer ≡ is_b.stands.stand.table.pointer
    pointer_same = ap (λ (x : Table). x.pointer) still.stands.table_is ∙ (was.same.pointer
        ∙ (sym is_b.same.pointer ∙ sym (ap (λ (x : Table). x.pointer) is_b.stands.table_is)))

    chains : still.stands.stand.pointers ≡ is_b.stands.stand.pointers
    chains = link_once (λ n. next_in (pages n)) still.stands.stand.table.pointer.0 still.stands.stand.pointers
        is_b.stands.stand.pointers has_a.chain
        (subst (λ (x : _). PointerChain pages x.0 is_b.stands.stand.pointers) (sym pointer_same) has_b.chain)

    pages_b : is_b.stands.stand.data_pages ≡ was.stands.stand.data_pages ++ still.more
    pages_b = has_b.entries ∙ (ap (entries_in pages) (sym chains) ∙ (sym has_a.entries ∙ still.pages))

    -- a record is read as in the middle
    read_same : (p : RecId) → Has (was.stands.stand.data_pages ++ still.more) p.page.0 → q p ≡ midway.reading p
    read_same p has = read_alike packed_form one size (left_state everyone s.state) (left_state everyone new.state) t
        falls pages midway.layout b midway.reading q midway.sound second p is_b.its
        ((its_data packed_form size (left_state everyone new.state) pages b q second is_b.its is_b.stands p.page.0).1
        (subst (λ (ns : List ℕ). Has ns p.page.0) (sym pages_b) has))

    pub shows_given_up : ShowsOn size s new pages u table first.layout first.reading was
    shows_given_up = record {
      layout = b;
      reading = q;
      sound = second;
      is_ = is_b;
      same = record {
        more = still.more;
        data_pages = pages_b;
        rows = λ p has. ap (λ (c : ℕ → Bool). row_at_record c table q p) counts_are
            ∙ (ap (λ (es : List Read). keyed table (shown (takes_version s.state s.live u) es) [])
            (read_same p (has_front was.stands.stand.data_pages still.more p.page.0 has))
            ∙ rows_there size o h e t u whole left s begun pages first midway beside.back beside.active beside.apart
            table was still p has);
        none = λ p has. ap (λ (es : List Read). keyed table (shown (takes_version new.state new.live u) es) [])
            (read_same p (has_more was.stands.stand.data_pages still.more p.page.0 has)
            ∙ none_there size o h e t u whole left s begun pages first midway beside.back beside.active beside.apart
            table was still p has);
      };
    }

pub back_walks_go_on : StandsOneWay packed_form → RowWalksGoOn → BackWalksGoOn
back_walks_go_on one_way go size o h e t u whole left s new begun pages first midway beside fronts states table after
    rows = go size s new begun pages u table after rows
    (everywhere one_way size o h e t u whole left s new begun pages first midway beside table
    (λ was. shows_back one_way size o h e t u whole left s new begun pages first midway beside table states was
    (stands_still first.layout midway.layout table was fronts)))

pub given_up_walks_go_on : RowsAreOne packed_coding → StandsOneWay packed_form → RowWalksGoOn → GivenUpWalksGoOn
given_up_walks_go_on one one_way go size o h e t u whole left s new begun pages first midway beside fronts falls layout
    reading sound table is_shown after rows = go size s new begun pages u table after rows
    (everywhere one_way size o h e t u whole left s new begun pages first midway beside table
    (λ was. shows_given_up one_way size o h e t u whole left s new begun pages first midway beside table one falls
    layout reading sound is_shown was (stands_still first.layout midway.layout table was fronts)))
