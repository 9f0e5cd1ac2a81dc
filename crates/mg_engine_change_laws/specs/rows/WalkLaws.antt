-- The walks of others go on where a record is written: each table has the data pages that it had, and more, and of each
-- record the row counts for them that counted.
use Rattle.std.proofs.Common.{◌≡◌, ◌≢◌, ◌⊎◌, inl, inr, ◌&&◌, ◌||◌, ap, refl, sym, subst, ◌∙◌, ℕ, Bool, false, List, [], ◌∷◌, ◌++◌, Option, None, Some}
use Rattle.std.specs.Prelude.{if◌then◌else◌}
use Rattle.std.proofs.lemmas.Bool.{cases_eq, ne_eqb}
use Rattle.mg_base.specs.declared.numbers.RecId.{RecId}
use Rattle.mg_base.specs.declared.transaction.TxState.TheVariants.{Active}
use Rattle.mg_chain.specs.Chains.{takes_version}
use Rattle.mg_engine_step_laws.specs.standing.Known.{IsShown}
use Rattle.mg_engine_step_laws.specs.tables.TablePages.{data_once}
use Rattle.mg_engine_change_laws.specs.rows.RowWalks.{ShowsOn, row_at_record}
use Rattle.mg_engine_change_laws.specs.rows.RowWalksLaws.{row_walks_go_on}
use Rattle.mg_engine_step_laws.specs.writes.Writes.{ReadsAfter}
use Rattle.mg_image_overlay_laws.specs.tables.Growing.{IsTableOf}
use Rattle.mg_image.specs.Form.{Pages, Row, packed_coding, packed_form}
use Rattle.mg_image.specs.ReadingLaws.{RowsAreOne}
use Rattle.mg_image.specs.Records.{Reading, shown, writer}
use Rattle.mg_image.specs.Sound.{IsSoundBy}
use Rattle.mg_image.specs.Tables.{Has, IsOnce, Layout, Stand, stands_of, table_at}
use Rattle.mg_image.specs.declared.entry.Entry.{Entry}
use Rattle.mg_image_overlay_laws.specs.kept.KeptImages.{AreFrontStands, IsFrontOf, IsFrontStand}
use Rattle.mg_model.specs.declared.table.Table.{Table}
use Rattle.mg_model.specs.Answers.{is_committed}
use Rattle.mg_model.specs.Openings.{everyone}
use Rattle.mg_image_overlay_laws.specs.tables.OneLayout.{sound_once}
use Rattle.mg_overlay_laws.specs.Overlays.{left_state}
use Rattle.mg_seek.specs.Walks.{keyed}
use Rattle.mg_snap.specs.Live.{sees}
use Rattle.mg_engine_step_laws.specs.standing.Standing.{Standing}
use Rattle.mg_image_overlay_laws.specs.tables.OneTable.{its_data}
use Rattle.mg_engine_change_laws.specs.rows.Walks.{OthersWalkOn}

-- ---- fronts

-- What is behind a front.
record HasMore (ns all : List ℕ) : Type 0 where
  more : List ℕ
  is_ : all ≡ ns ++ more

behind_front : (ns all : List ℕ) → IsFrontOf ns all → HasMore ns all
behind_front [] all front = record { more = all; is_ = refl }
behind_front (n ∷ ns) [] front = absurd front
behind_front (n ∷ ns) (m ∷ ms) front =
    let it = behind_front ns ms front.1 in
    record {
      more = it.more;
      is_ = (λ i. sym front.0 i ∷ ms) ∙ ap (λ (ks : List ℕ). n ∷ ks) it.is_;
    }

-- A table that stands has a stand in its place, with its data pages and more.
record StandsMore (stand : Stand) (stands : List Stand) : Type 0 where
  before : List Stand
  its : Stand
  after : List Stand
  is_ : stands ≡ before ++ (its ∷ after)
  front : IsFrontStand stand its

stand_more : (before : List Stand) (stand : Stand) (after others : List Stand)
    → AreFrontStands (before ++ (stand ∷ after)) others → StandsMore stand others
stand_more [] stand after [] fronts = absurd fronts
stand_more [] stand after (x ∷ xs) fronts =
    record { before = []; its = x; after = xs; is_ = refl; front = fronts.0 }
stand_more (y ∷ before) stand after [] fronts = absurd fronts
stand_more (y ∷ before) stand after (x ∷ xs) fronts =
    let it = stand_more before stand after xs fronts.1 in
    record {
      before = x ∷ it.before;
      its = it.its;
      after = it.after;
      is_ = ap (λ (ss : List Stand). x ∷ ss) it.is_;
      front = it.front;
    }

has_more : (ns more : List ℕ) (n : ℕ) → Has more n → Has (ns ++ more) n
has_more [] more n has = has
has_more (k ∷ ks) more n has = inr (has_more ks more n has)

never_both : (ns more : List ℕ) (n : ℕ) → IsOnce (ns ++ more) → Has ns n → Has more n → ⊥
never_both [] more n once first second = first
never_both (k ∷ ks) more n once (inl is) second =
    once.0 (subst (Has (ks ++ more)) is (has_more ks more n second))
never_both (k ∷ ks) more n once (inr later) second = never_both ks more n once.1 later second

-- A table that one layout shows stands in another one, with the data pages that it had, and more.
record StandsStill (a b : Layout) (table : Table) (was : IsShown a table) : Type 0 where
  stands : IsTableOf b was.its
  more : List ℕ
  pages : stands.stand.data_pages ≡ was.stands.stand.data_pages ++ more

stands_still : (a b : Layout) (table : Table) (was : IsShown a table) → AreFrontStands (stands_of a) (stands_of b)
    → StandsStill a b table was
stands_still a b table was fronts =
    let there : StandsMore was.stands.stand (stands_of b) = stand_more was.stands.before was.stands.stand
    was.stands.after (stands_of b) (subst (λ (ss : List Stand). AreFrontStands ss (stands_of b)) was.stands.is_ fronts)
    in
    let behind : HasMore was.stands.stand.data_pages there.its.data_pages =
    behind_front was.stands.stand.data_pages there.its.data_pages there.front.data_pages in
    record {
      stands = record {
        before = there.before;
        stand = there.its;
        after = there.after;
        is_ = there.is_;
        table_is = sym there.front.table ∙ was.stands.table_is;
      };
      more = behind.more;
      pages = behind.is_;
    }

pub rec_cases : (p q : RecId) → (p ≡ q) ⊎ (p ≢ q)
rec_cases p q = at (cases_eq p.page.0 q.page.0) (cases_eq p.slot q.slot)
  where
    at : (p.page.0 ≡ q.page.0) ⊎ (p.page.0 ≢ q.page.0) → (p.slot ≡ q.slot) ⊎ (p.slot ≢ q.slot)
        → (p ≡ q) ⊎ (p ≢ q)
    at (inl a) (inl b) = inl (λ i. record { page = record { 0 = a i }; slot = b i })
    at (inr off) x = inr (λ same. off (ap (λ (r : RecId). r.page.0) same))
    at (inl a) (inr off) = inr (λ same. off (ap (λ (r : RecId). r.slot) same))

-- ---- a walk

module _ (one : RowsAreOne packed_coding) (size : ℕ) (s : Standing) (pages later : Pages) (layout : Layout)
    (r : Reading) (rec : RecId) (es : List Entry)
    (sound : IsSoundBy packed_form size (left_state everyone s.state) pages layout r)
    (reads : ReadsAfter packed_form size (left_state everyone s.state) pages later layout r rec es)
    (fronts : AreFrontStands (stands_of layout) (stands_of reads.layout)) (u : ℕ)
    (same_shown : shown (takes_version s.state s.live u) es ≡ shown (takes_version s.state s.live u) (r rec))
    (table : Table) where
  abbrev counts : ℕ → Bool
  counts = takes_version s.state s.live u

  rows_all : (p : RecId) → row_at_record (takes_version s.state s.live u) table reads.reading p
      ≡ row_at_record (takes_version s.state s.live u) table r p
  rows_all p = at (rec_cases p rec)
    where
      at : (p ≡ rec) ⊎ (p ≢ rec) → row_at_record counts table reads.reading p ≡ row_at_record counts table r p
      at (inl same) = ap (λ (q : RecId). keyed table (shown counts (reads.reading q)) []) same
          ∙ (ap (λ (xs : List Entry). keyed table (shown counts xs) []) reads.here
          ∙ (ap (λ (row : Option Row). keyed table row []) same_shown
          ∙ ap (λ (q : RecId). keyed table (shown counts (r q)) []) (sym same)))
      at (inr ne) = ap (λ (xs : List Entry). keyed table (shown counts xs) []) (reads.others p ne)

  module _ (was : IsShown layout table) where
    still : StandsStill layout reads.layout table was
    still = stands_still layout reads.layout table was fronts

    once : IsOnce (was.stands.stand.data_pages ++ still.more)
    once = subst IsOnce still.pages (data_once size (left_state everyone s.state) later reads.layout reads.reading
        reads.sound was.its still.stands)

    none_there : (p : RecId) → Has still.more p.page.0
        → row_at_record (takes_version s.state s.live u) table reads.reading p ≡ []
    none_there p has = rows_all p ∙ at (reads.grown.new p.page.0 was.its of_now)
      where
        of_now : table_at (stands_of reads.layout) p.page.0 ≡ Some was.its
        of_now = (its_data packed_form size (left_state everyone s.state) later reads.layout reads.reading reads.sound
            was.its still.stands p.page.0).1 (subst (λ (ns : List ℕ). Has ns p.page.0) (sym still.pages)
            (has_more was.stands.stand.data_pages still.more p.page.0 has))

        at : (table_at (stands_of layout) p.page.0 ≡ Some was.its)
            ⊎ ((q : RecId) → q.page.0 ≡ p.page.0 → r q ≡ []) → row_at_record counts table r p ≡ []
        at (inr none) = ap (λ (xs : List Entry). keyed table (shown counts xs) []) (none p refl)
        at (inl there_) = absurd (never_both was.stands.stand.data_pages still.more p.page.0 once
            ((its_data packed_form size (left_state everyone s.state) pages layout r sound was.its was.stands
            p.page.0).0 there_) has)

    shows_on : ShowsOn size s s later u table layout r was
    shows_on = record {
      layout = reads.layout;
      reading = reads.reading;
      sound = reads.sound;
      is_ = record { its = was.its; stands = still.stands; same = was.same };
      same = record {
        more = still.more;
        data_pages = still.pages;
        rows = λ p has. rows_all p;
        none = none_there;
      };
    }

  everywhere : (b : Layout) (q : Reading) → IsSoundBy packed_form size (left_state everyone s.state) pages b q
      → (was : IsShown b table) → ShowsOn size s s later u table b q was
  everywhere b q second =
      let same : (layout ≡ b) × (r ≡ q) = sound_once packed_form one (λ page n is. is) size
      (left_state everyone s.state) pages layout b r q sound second in
      subst (λ (x : Reading). (was : IsShown b table) → ShowsOn size s s later u table b x was) same.1
      (subst (λ (l : Layout). (was : IsShown l table) → ShowsOn size s s later u table l r was) same.0 shows_on)

-- the versions of one that is not committed count for no other
pub unseen : (s : Standing) (t u : ℕ) → is_committed (s.state t) ≡ false → u ≢ t
    → takes_version s.state s.live u t ≡ false
unseen s t u off apart = ap (λ (b : Bool). b || (is_committed (s.state t) && sees s.live u t))
    (ne_eqb t u (λ same. apart (sym same))) ∙ ap (λ (b : Bool). b && sees s.live u t) off

-- all active ones walk on that are shown the same of the record
pub same_walk_on : RowsAreOne packed_coding → (size : ℕ) (s : Standing) (pages later : Pages) (layout : Layout)
    (r : Reading) (rec : RecId) (es : List Entry)
    → IsSoundBy packed_form size (left_state everyone s.state) pages layout r
    → (reads : ReadsAfter packed_form size (left_state everyone s.state) pages later layout r rec es)
    → AreFrontStands (stands_of layout) (stands_of reads.layout) → (t : ℕ)
    → ((u : ℕ) → u ≢ t → s.state u ≡ Active
    → shown (takes_version s.state s.live u) es ≡ shown (takes_version s.state s.live u) (r rec))
    → OthersWalkOn size s pages later t
same_walk_on one size s pages later layout r rec es sound reads fronts t same_shown u apart active table after rows =
    row_walks_go_on size s s pages later u table after rows
    (everywhere one size s pages later layout r rec es sound reads fronts u (same_shown u apart active) table)

-- all others walk on
pub others_walk_on : RowsAreOne packed_coding → (size : ℕ) (s : Standing) (pages later : Pages) (layout : Layout)
    (r : Reading) (rec : RecId) (es : List Entry)
    → IsSoundBy packed_form size (left_state everyone s.state) pages layout r
    → (reads : ReadsAfter packed_form size (left_state everyone s.state) pages later layout r rec es)
    → AreFrontStands (stands_of layout) (stands_of reads.layout) → (t : ℕ) → s.state t ≡ Active
    → ((counts : ℕ → Bool) → counts t ≡ false → shown counts es ≡ shown counts (r rec))
    → OthersWalkOn size s pages later t
others_walk_on one size s pages later layout r rec es sound reads fronts t active same_shown =
    same_walk_on one size s pages later layout r rec es sound reads fronts t (λ u apart also.
    same_shown (takes_version s.state s.live u) (unseen s t u (ap is_committed active) apart))

-- a version of a transaction that does not count is passed over
pub over_shown : (n : Entry) (es : List Entry) (t : ℕ) → writer n ≡ t → (counts : ℕ → Bool) → counts t ≡ false
    → shown counts (n ∷ es) ≡ shown counts es
over_shown n es t its counts off = ap (λ (b : Bool).
    if b then (if n.version.deleted then None else Some n.row) else shown counts es) (ap counts its ∙ off)
