-- The transaction list has the pages of transactions as the cache shows them.
use Rattle.std.proofs.Common.{◌≡◌, ◌≢◌, ◌⊎◌, inl, inr, ap, sym, subst, ◌∙◌, ℕ, ◌-◌, ◌/◌, ◌<◌, ◌≤◌}
use Rattle.std.specs.Prelude.{slice_index_or}
use Rattle.std.proofs.lemmas.Bool.{cases_eq}
use Rattle.mg_base.specs.Disk.{Meaning}
use Rattle.mg_base.specs.Image.{Image}
use Rattle.mg_base.specs.declared.transaction.TxState.{TxState}
use Rattle.mg_tip.specs.TipPage.{places}
use Rattle.mg_image.specs.Form.{Form, Pages}
use Rattle.mg_image.specs.Inventory.{last_sequence, next_of, tip_page}
use Rattle.mg_image.specs.Records.{Reading}
use Rattle.mg_image.specs.Sound.{IsSoundBy}
use Rattle.mg_image.specs.Tables.{Layout}
use Rattle.mg_image_overlay_laws.specs.pages.DataPages.{ChangesData, last_same, tip_content as data_content, tip_same as data_tip}
use Rattle.mg_image_overlay_laws.specs.pages.Kinds.{HasNoSequences}
use Rattle.mg_image_overlay_laws.specs.kept.KeptImages.{IsBehind}
use Rattle.mg_pool.specs.Pool.{shown}
use Rattle.mg_pool.specs.declared.pool.Pool.{Pool}
use Rattle.mg_txlist.specs.TxList.{KeepsBits, no_page, tip_in}
use Rattle.mg_txlist.specs.declared.list.TipPage.{TipPage}
use Rattle.mg_txlist.specs.declared.list.TxList.{TxList}
use Rattle.mg_tie_laws.specs.CommitTies.{ShowsTip}
use Rattle.mg_tie_laws.specs.DrawTies.{DrawsFrom}
use Rattle.mg_engine_step_laws.specs.commits.TipPages.{SetsBits, next_same, page_is, other_page, tip_stays, within_last}

-- the page of each number that was drawn
abbrev pub ListShows : TxList → ℕ → Pages → Type 0
ListShows list size pages = (t : ℕ) → t < next_of pages → ShowsTip list size pages t

-- the pages of transactions are where they were, and as they were
abbrev pub TipsStay : ℕ → Pages → Pages → Type 0
TipsStay size old new = (sequence : ℕ) → sequence ≤ last_sequence size new
    → (tip_page size new sequence ≡ tip_page size old sequence)
    × (new (tip_page size new sequence) ≡ old (tip_page size old sequence))

-- a list goes on to have them where they stay, as under page writes, under each batch that has none of them, and
-- under a rollback, which changes no page of the list
abbrev pub ListsStay : Type 0
ListsStay = (old now : TxList) (size : ℕ) (pages later : Pages) → now.size ≡ old.size
    → now.pages ≡ old.pages → next_of later ≡ next_of pages → TipsStay size pages later
    → ListShows old size pages → ListShows now size later

-- they stay where a data page is changed
abbrev pub DataKeepsTips : Form → Type 0
DataKeepsTips form = (size : ℕ) (old new : Pages) (b : ℕ) (state : ℕ → TxState) (layout : Layout)
    (r : Reading) → ChangesData form.in_primary old new b
    → IsSoundBy form size state old layout r → TipsStay size old new

-- and where the pages before are behind those after, as when a table grows
abbrev pub BehindKeepsTips : Type 0
BehindKeepsTips = (size : ℕ) (old new : Pages) (of_old of_new : Layout)
    → IsBehind size new old of_new of_old → next_of new ≡ next_of old → TipsStay size old new

-- over two steps they do
abbrev pub TipsStayOn : Type 0
TipsStayOn = (size : ℕ) (a b c : Pages) → next_of c ≡ next_of b → TipsStay size a b → TipsStay size b c
    → TipsStay size a c

-- and where a number is drawn from it
abbrev pub DrawsKeepList : (D L : Type 0) → Meaning D → Form → Type 0
DrawsKeepList D L m form = (old new : TxList) (before after : Pool D L) (i j : Image)
    (state : ℕ → TxState) (layout : Layout) (r : Reading) → DrawsFrom m old new before after i j
    → IsSoundBy form before.geometry.size state (shown before.dirty i) layout r
    → ListShows old before.geometry.size (shown before.dirty i)
    → ListShows new before.geometry.size (shown after.dirty j)

pub lists_stay : ListsStay
lists_stay old now size pages later sized same next tips shows t below =
    let was = shows t (subst (λ (n : ℕ). t < n) next below) in
    let its = tips (t / places size) (within_last size t (next_of later) below) in
    record {
      sized = sized ∙ was.sized;
      page = ap (λ (x : TipPage). x.page) (tip_same (t / places size)) ∙ (was.page ∙ sym its.0);
      bytes = ap (λ (x : TipPage). x.bytes) (tip_same (t / places size)) ∙ (was.bytes ∙ sym its.1);
    }
  where
    tip_same : (sequence : ℕ) → tip_in now sequence ≡ tip_in old sequence
    tip_same sequence = ap (λ (x : _). slice_index_or x.items sequence no_page) same

-- a list in which a transaction's bits are changed, as they are on its page, goes on to have them
pub bits_keep_list : (form : Form) → HasNoSequences form → (old now : TxList) (size : ℕ)
    (pages changed : Pages) (t : ℕ) (bits : SetsBits old size pages changed t) (state : ℕ → TxState)
    (layout : Layout) (r : Reading) → IsSoundBy form size state pages layout r
    → KeepsBits old now (t / places old.size) bits.bytes → ListShows old size pages
    → ListShows now size changed
bits_keep_list form none old now size pages changed t bits state layout r sound keeps shows u below =
    at (cases_eq (u / places size) (t / places size))
  where
    drawn : u < next_of pages
    drawn = subst (λ (n : ℕ). u < n) (next_same form none old size pages changed t bits state layout r sound) below

    was : ShowsTip old size pages u
    was = shows u drawn

    stays : tip_page size changed (u / places size) ≡ tip_page size pages (u / places size)
    stays = tip_stays form none old size pages changed t bits state layout r sound (u / places size)

    its : t / places old.size ≡ t / places size
    its = ap (λ (s : ℕ). t / places s) bits.shows.sized

    at : (u / places size ≡ t / places size) ⊎ (u / places size ≢ t / places size) → ShowsTip now size changed u
    at (inl same) = record {
      sized = keeps.same_size ∙ was.sized;
      page = ap (λ (x : TipPage). x.page) here ∙ (ap (λ (q : ℕ). (tip_in old q).page) (its ∙ sym same)
          ∙ (was.page ∙ sym stays));
      bytes = ap (λ (x : TipPage). x.bytes) here ∙ (sym bits.here
          ∙ ap changed (page_is form none old size pages changed t bits state layout r sound
          ∙ (ap (tip_page size pages) (sym same) ∙ sym stays)));
    }
      where
        here : tip_in now (u / places size)
            ≡ record { page = (tip_in old (t / places old.size)).page; bytes = bits.bytes }
        here = ap (tip_in now) (same ∙ sym its) ∙ keeps.here
    at (inr ne) = record {
      sized = keeps.same_size ∙ was.sized;
      page = ap (λ (x : TipPage). x.page) here ∙ (was.page ∙ sym stays);
      bytes = ap (λ (x : TipPage). x.bytes) here ∙ (was.bytes
          ∙ (sym (bits.others (tip_page size pages (u / places size))
          (other_page form none old size pages changed t bits state layout r sound u drawn ne))
          ∙ ap changed (sym stays)));
    }
      where
        here : tip_in now (u / places size) ≡ tip_in old (u / places size)
        here = keeps.others (u / places size) (λ same. ne (same ∙ its))

-- ---- where they stay

-- the last sequence is told by the next number
same_last : (size : ℕ) (old new : Pages) → next_of new ≡ next_of old
    → last_sequence size new ≡ last_sequence size old
same_last size old new next = ap (λ (n : ℕ). (n - 1) / places size) next

pub data_keeps_tips : (form : Form) → DataKeepsTips form
data_keeps_tips form size old new b state layout r change sound sequence below = (
  data_tip form.in_primary size old new b change sound.header sound.inventory sound.transactions sequence
      within,
  data_content form.in_primary size old new b change sound.header sound.inventory sound.transactions sequence
      within,
)
  where
    within : sequence ≤ last_sequence size old
    within = subst (λ (n : ℕ). sequence ≤ n)
        (last_same form.in_primary size old new b change sound.header sound.inventory sound.transactions) below

pub behind_keeps_tips : BehindKeepsTips
behind_keeps_tips size old new of_old of_new behind next sequence below =
    let tips = behind.tips sequence (subst (λ (n : ℕ). sequence ≤ n) (same_last size old new next) below) in
    (sym tips.0, sym tips.1)

pub tips_stay_on : TipsStayOn
tips_stay_on size a b c next first second sequence below =
    let before = first sequence (subst (λ (n : ℕ). sequence ≤ n) (same_last size b c next) below) in
    let after = second sequence below in
    (after.0 ∙ before.0, after.1 ∙ before.1)
