-- The bits of one transaction are changed on its page, as the transaction list has it: a sound image stays
-- sound, and says of all other transactions what it said.
use Rattle.std.proofs.Common.{◌≡◌, ◌≢◌, ◌⊎◌, inl, inr, ap, sym, subst, ◌∙◌, refl, arith, zero, suc, ℕ, ◌+◌, ◌*◌, ◌-◌, ◌/◌, ◌%◌, ◌<◌, ◌≤◌, List, [], ◌∷◌, ◌++◌, le-ltb}
use Rattle.std.specs.List.{flat_map}
use Rattle.std.proofs.Math.Nat.{mod-add-div'}
use Rattle.std.proofs.lemmas.Bool.{cases_eq, cases_lt, eq-eqb, lt-ltb, ne_eqb}
use Rattle.mg_base.specs.Fields.{byte}
use Rattle.mg_base.specs.declared.transaction.TxState.{TxState}
use Rattle.mg_base.specs.declared.transaction.TxState.TheVariants.{Committed, Dead}
use Rattle.mg_header.specs.declared.header.Header.{Header}
use Rattle.mg_tip.specs.TipPage.{SetsState, places, state_in, tip_checks}
use Rattle.mg_tip.specs.TipPageLaws.{same_prev, same_tests}
use Rattle.mg_image.specs.Form.{Form, Pages}
use Rattle.mg_image.specs.Indexes.{EachPage}
use Rattle.mg_image.specs.Inventory.{bits_state, last_sequence, next_of, settled, state_at, tip_page}
use Rattle.mg_image.specs.Reached.{IsAsWanted, tips_below, tips_of}
use Rattle.mg_image.specs.Records.{Reading}
use Rattle.mg_image.specs.Sound.{IsSoundBy}
use Rattle.mg_image.specs.Tables.{Has, IsOnce, Layout, pages_of, stands_of}
use Rattle.mg_image_overlay_laws.specs.transactions.Bits.{ChangesTip, bits_sound, header_same, tip_same, used_same}
use Rattle.mg_image_overlay_laws.specs.pages.DataPages.{kind_of}
use Rattle.mg_image_overlay_laws.specs.pages.DataSound.{KeepsTrees}
use Rattle.mg_image_overlay_laws.specs.pages.Kinds.{HasNoSequences}
use Rattle.mg_image_overlay_laws.specs.kept.Rest.{div_grows}
use Rattle.mg_image_overlay_laws.specs.pages.Trees.{trees_stay}
use Rattle.mg_image_overlay_laws.specs.pages.Reach.{once_front}
use Rattle.mg_txlist.specs.TxList.{tip_in}
use Rattle.mg_txlist.specs.declared.list.TxList.{TxList}
use Rattle.mg_tie_laws.specs.CommitTies.{ShowsTip}
use Rattle.mg_image_overlay_laws.specs.transactions.Midway.{IsDrawnPlace}

-- ---- pages of transactions are apart

tip_below : (size : ℕ) (pages : Pages) (n a : ℕ) → a < n
    → Has (tips_below size pages n) (tip_page size pages a)
tip_below size pages zero a less = absurd (omega (arith, less))
tip_below size pages (suc n) a less = at (cases_eq a n) (tip_below size pages n a)
  where
    at : (a ≡ n) ⊎ (a ≢ n) → (a < n → Has (tips_below size pages n) (tip_page size pages a))
        → (tip_page size pages a ≡ tip_page size pages n) ⊎ Has (tips_below size pages n) (tip_page size pages a)
    at (inl same) more = inl (ap (tip_page size pages) same)
    at (inr ne) more = inr (more (omega (arith, less, ne)))

tips_apart : (size : ℕ) (pages : Pages) (n a b : ℕ) → IsOnce (tips_below size pages n) → a < n → b < n
    → tip_page size pages a ≡ tip_page size pages b → a ≡ b
tips_apart size pages zero a b once less also same = absurd (omega (arith, less))
tips_apart size pages (suc n) a b once less also same =
    at (cases_eq a n) (cases_eq b n) (tips_apart size pages n a b once.1)
  where
    at : (a ≡ n) ⊎ (a ≢ n) → (b ≡ n) ⊎ (b ≢ n)
        → (a < n → b < n → tip_page size pages a ≡ tip_page size pages b → a ≡ b) → a ≡ b
    at (inl first) (inl second) more = first ∙ sym second
    at (inl first) (inr ne) more = absurd (once.0 (subst (Has (tips_below size pages n))
        (sym same ∙ ap (tip_page size pages) first) (tip_below size pages n b (omega (arith, also, ne)))))
    at (inr ne) (inl second) more = absurd (once.0 (subst (Has (tips_below size pages n))
        (same ∙ ap (tip_page size pages) second) (tip_below size pages n a (omega (arith, less, ne)))))
    at (inr off) (inr ne) more = more (omega (arith, less, off)) (omega (arith, also, ne)) same

number_is : (size n : ℕ) → n / places size * places size + n % places size ≡ n
number_is size n = let whole = mod-add-div' n (places size) in omega (arith, whole)

-- a number is told by its page and its place there
one_number : (a b size : ℕ) → a / places size ≡ b / places size → a % places size ≡ b % places size
    → a ≡ b
one_number a b size parts rests = sym (number_is size a)
    ∙ (ap (λ (q : ℕ). q * places size + a % places size) parts
    ∙ (ap (λ (r : ℕ). b / places size * places size + r) rests ∙ number_is size b))

-- ---- what is said of a transaction

said_zero : (size : ℕ) (pages : Pages) (t : ℕ) → t ≡ 0 → state_at size pages t ≡ Committed
unfolding state_at
said_zero size pages t is = rw (eq-eqb t 0 is) refl

said_drawn : (size : ℕ) (pages : Pages) (t : ℕ) → t ≢ 0 → t < next_of pages
    → state_at size pages t ≡ settled (bits_state size pages t)
unfolding state_at
said_drawn size pages t some below = rw (ne_eqb t 0 some, lt-ltb t (next_of pages) below) refl

said_past : (size : ℕ) (pages : Pages) (t : ℕ) → t ≢ 0 → next_of pages ≤ t → state_at size pages t ≡ Dead
unfolding state_at
said_past size pages t some past = rw (ne_eqb t 0 some, le-ltb t (next_of pages) past) refl

pub within_last : (size t next : ℕ) → t < next → t / places size ≤ (next - 1) / places size
within_last size t next below = div_grows t (next - 1) (places size) (omega (arith, below))

-- ---- the bits are changed

no_sequences : (form : Form) → HasNoSequences form → (old new : Pages) (ns : List ℕ)
    → EachPage (λ n. form.sequence_page (old n) n) ns → EachPage (λ n. form.sequence_page (new n) n) ns
no_sequences form none old new [] each = tt
no_sequences form none old new (n ∷ ns) each = absurd (none (old n) n each.0)

-- One page of a sound image has changed, that of a transaction's bits as the list has it: these are those of
-- a committed one.
pub record SetsBits (list : TxList) (size : ℕ) (pool changed : Pages) (t : ℕ) : Type 0 where
  pub shows : ShowsTip list size pool t
  pub drawn : t < next_of pool
  pub bytes : List ℕ
  pub sets : SetsState (tip_in list (t / places list.size)).bytes bytes (t % places list.size) Committed
  pub here : changed (tip_in list (t / places list.size)).page ≡ bytes
  pub others : (n : ℕ) → n ≢ (tip_in list (t / places list.size)).page → changed n ≡ pool n

module _ (form : Form) (none : HasNoSequences form) (list : TxList) (size : ℕ) (pool changed : Pages)
    (t : ℕ) (bits : SetsBits list size pool changed t) (state : ℕ → TxState) (layout : Layout)
    (r : Reading) (sound : IsSoundBy form size state pool layout r) where
  abbrev page : ℕ
  page = (tip_in list (t / places list.size)).page

  abbrev place : ℕ
  place = t % places list.size

  -- ---- which page it is

  pub page_is : page ≡ tip_page size pool (t / places size)
  page_is = ap (λ (s : ℕ). (tip_in list (t / places s)).page) bits.shows.sized ∙ bits.shows.page

  place_is : t % places size ≡ place
  place_is = ap (λ (s : ℕ). t % places s) (sym bits.shows.sized)

  bytes_were : (tip_in list (t / places list.size)).bytes ≡ pool page
  bytes_were = ap (λ (s : ℕ). (tip_in list (t / places s)).bytes) bits.shows.sized
      ∙ (bits.shows.bytes ∙ ap pool (sym page_is))

  below : t / places size ≤ last_sequence size pool
  below = within_last size t (next_of pool) bits.drawn

  wanted : IsAsWanted size pool page (tip_checks (pool page) page (t / places size))
  wanted = subst (λ (n : ℕ). IsAsWanted size pool n (tip_checks (pool n) n (t / places size))) (sym page_is)
      (sound.transactions.each (t / places size) below)

  kind_is : byte (pool page) 0 ≡ 3
  unfolding tip_checks
  kind_is = kind_of (pool page) page 3 0 (t / places size) _ wanted.fields

  pub no_header : page ≢ 0
  no_header same =
      let one : byte (pool 0) 0 ≡ 1 = kind_of (pool 0) 0 1 0 0 _ sound.header.fields in
      let also : byte (pool 0) 0 ≡ 3 = ap (λ (n : ℕ). byte (pool n) 0) (sym same) ∙ kind_is in
      omega (arith, one, also)

  sets : SetsState (pool page) (changed page) place Committed
  sets = subst (λ (b : List ℕ). SetsState b (changed page) place Committed) bytes_were
      (subst (λ (b : List ℕ). SetsState (tip_in list (t / places list.size)).bytes b place Committed)
      (sym bits.here) bits.sets)

  pub tip_changed : ChangesTip pool changed page place
  tip_changed = record {
    others = bits.others;
    below = wanted.below;
    kind = kind_is;
    checks = λ n sequence. same_tests (pool page) (changed page) n sequence sets.front;
    prev = same_prev (pool page) (changed page) sets.front;
    len = sets.len;
    states = λ n ne. sets.others n ne;
  }

  -- ---- whose place it is

  tips_once : IsOnce (tips_of size pool)
  tips_once = once_front (tips_of size pool) (flat_map pages_of (stands_of layout))
      (once_front (tips_of size pool ++ flat_map pages_of (stands_of layout)) layout.sequences sound.once)

  -- a number whose page and place these are is the transaction's
  its_alone : (u : ℕ) → u / places size ≤ last_sequence size pool
      → tip_page size pool (u / places size) ≡ page → u % places size ≡ place → u ≡ t
  its_alone u within at_page at_place = one_number u t size
      (tips_apart size pool (last_sequence size pool + 1) (u / places size) (t / places size) tips_once
      (omega (arith, within)) (omega (arith, below)) (at_page ∙ page_is)) (at_place ∙ sym place_is)

  -- a number of another sequence has another page
  pub other_page : (u : ℕ) → u < next_of pool → u / places size ≢ t / places size
      → tip_page size pool (u / places size) ≢ page
  other_page u drawn ne same = ne (tips_apart size pool (last_sequence size pool + 1) (u / places size)
      (t / places size) tips_once (omega (arith, within_last size u (next_of pool) drawn))
      (omega (arith, below)) (same ∙ page_is))

  pub drawn_place : IsDrawnPlace size pool page place
  drawn_place u past on its same =
      let here : u ≡ t = its_alone u (omega (arith, on))
      (ap (tip_page size pool) on ∙ its) same in
      let drawn = bits.drawn in omega (arith, here, past, drawn)

  -- ---- the image

  trees : KeepsTrees pool changed size layout
  trees = trees_stay form size state pool changed layout r sound
      (λ n used. used_same form size state pool changed page place layout r sound tip_changed drawn_place n
      ∙ used)
      (λ n linked seven. bits.others n (λ same.
      let three : byte (pool n) 0 ≡ 3 = ap (λ (k : ℕ). byte (pool k) 0) same ∙ kind_is in
      omega (arith, seven, three)))

  pub bits_stay_sound : IsSoundBy form size state changed layout r
  bits_stay_sound = bits_sound form size state pool changed page place layout r sound tip_changed
      drawn_place trees (no_sequences form none pool changed layout.sequences sound.sequences)

  -- ---- what it says of transactions

  pub next_same : next_of changed ≡ next_of pool
  next_same = ap (λ (h : Header). h.next.0)
      (header_same form size state pool changed page place layout r sound tip_changed drawn_place)

  pub tip_stays : (sequence : ℕ) → tip_page size changed sequence ≡ tip_page size pool sequence
  tip_stays = tip_same form size state pool changed page place layout r sound tip_changed drawn_place

  pub bits_here : state_at size changed t ≡ Committed
  bits_here = at (cases_eq t 0)
    where
      at : (t ≡ 0) ⊎ (t ≢ 0) → state_at size changed t ≡ Committed
      at (inl is) = said_zero size changed t is
      at (inr some) =
          said_drawn size changed t some (subst (λ (n : ℕ). t < n) (sym next_same) bits.drawn)
          ∙ ap settled (ap (λ (n : ℕ). state_in (changed n) (t % places size))
          (tip_stays (t / places size) ∙ sym page_is)
          ∙ (ap (λ (k : ℕ). state_in (changed page) k) place_is ∙ sets.set))

  pub bits_else : (u : ℕ) → u ≢ t → state_at size changed u ≡ state_at size pool u
  bits_else u ne = at (cases_eq u 0) (cases_lt u (next_of pool))
    where
      on_page : u < next_of pool
          → (tip_page size pool (u / places size) ≡ page) ⊎ (tip_page size pool (u / places size) ≢ page)
          → state_in (changed (tip_page size pool (u / places size))) (u % places size)
          ≡ bits_state size pool u
      on_page drawn (inr off) = ap (λ (b : List ℕ). state_in b (u % places size))
          (bits.others (tip_page size pool (u / places size)) off)
      on_page drawn (inl on) = ap (λ (n : ℕ). state_in (changed n) (u % places size)) on
          ∙ (sets.others (u % places size) (λ same.
          ne (its_alone u (within_last size u (next_of pool) drawn) on same))
          ∙ ap (λ (n : ℕ). state_in (pool n) (u % places size)) (sym on))

      at : (u ≡ 0) ⊎ (u ≢ 0) → (u < next_of pool) ⊎ (next_of pool ≤ u)
          → state_at size changed u ≡ state_at size pool u
      at (inl is) where_ = said_zero size changed u is ∙ sym (said_zero size pool u is)
      at (inr some) (inl drawn) =
          said_drawn size changed u some (subst (λ (n : ℕ). u < n) (sym next_same) drawn)
          ∙ (ap settled (ap (λ (n : ℕ). state_in (changed n) (u % places size)) (tip_stays (u / places size))
          ∙ on_page drawn (cases_eq (tip_page size pool (u / places size)) page))
          ∙ sym (said_drawn size pool u some drawn))
      at (inr some) (inr past) =
          said_past size changed u some (subst (λ (n : ℕ). n ≤ u) (sym next_same) past)
          ∙ sym (said_past size pool u some past)
