-- A commit by the transaction list: its bits are changed, written and settled.
use Rattle.std.proofs.Common.{◌≡◌, ◌≢◌, ◌⊎◌, inl, inr, ap, sym, subst, ◌∙◌, refl, arith, zero, suc, ℕ, ◌+◌, ◌*◌, ◌-◌, ◌/◌, ◌%◌, ◌<◌, ◌≤◌, true, false, List, ◌∷◌, ◌++◌, Option, None, Some}
use Rattle.std.specs.Prelude.{unwrap_or}
use Rattle.std.specs.List.{flat_map}
use Rattle.std.proofs.Math.Nat.{mod-add-div'}
use Rattle.std.proofs.lemmas.Bool.{cases_eq, eq-eqb, ne_eqb}
use Rattle.mg_base.specs.Disk.{Meaning}
use Rattle.mg_base.specs.Fields.{byte}
use Rattle.mg_base.specs.Image.{Image}
use Rattle.mg_base.specs.declared.transaction.TxState.{TxState}
use Rattle.mg_base.specs.declared.transaction.TxState.TheVariants.{Active, Committed}
use Rattle.mg_image_overlay_laws.specs.transactions.Midway.{EveryMidway, IsDrawnPlace}
use Rattle.mg_image_overlay_laws.specs.transactions.MidwayLaws.{commit_changes_every, midway_written}
use Rattle.mg_image.specs.Form.{Form, Pages}
use Rattle.mg_image.specs.Inventory.{last_sequence, next_of, tip_page}
use Rattle.mg_image.specs.Reached.{IsAsWanted, tips_below, tips_of}
use Rattle.mg_image.specs.Tables.{Has, IsOnce, pages_of, stands_of}
use Rattle.mg_image_overlay_laws.specs.transactions.Bits.{ChangesTip}
use Rattle.mg_image_overlay_laws.specs.pages.DataPages.{kind_of}
use Rattle.mg_image_overlay_laws.specs.pages.Kinds.{HasNoSequences}
use Rattle.mg_image_overlay_laws.specs.kept.Rest.{div_grows}
use Rattle.mg_image_overlay_laws.specs.transactions.CommitLaws.{BringsChanges}
use Rattle.mg_image_overlay_laws.specs.kept.KeptImages.{IsKept, keeping}
use Rattle.mg_image_overlay_laws.specs.pages.Reach.{once_front}
use Rattle.mg_model.specs.declared.opening.Opening.{Opening}
use Rattle.mg_model.specs.History.{Entries, Entry as Event}
use Rattle.mg_overlay_laws.specs.BatchLaws.{good_of_pool}
use Rattle.mg_overlay_laws.specs.Overlays.{OthersStay, WritesPages, left_state, nobody}
use Rattle.mg_pool.specs.Batch.{Changed, content_in, lists, one_page, orders_of}
use Rattle.mg_pool.specs.Pool.{IsPool, shown, taken_out}
use Rattle.mg_pool.specs.declared.pool.Pool.{Pool}
use Rattle.mg_pool_overlay_laws.specs.Needs.{Asked, Sessions}
use Rattle.mg_pool_overlay_laws.specs.Ties.{runs_are, runs_keep_needs}
use Rattle.mg_space.specs.View.{Tells}
use Rattle.mg_space.specs.ViewLaws.{keeps_itself}
use Rattle.mg_tie_laws.specs.Changed.{BatchIsChanged, KeptIn, cache_over, changed_batches_are, needs_in}
use Rattle.mg_tip.specs.TipPage.{SetsState, places, tip_checks}
use Rattle.mg_tip.specs.TipPageLaws.{same_prev, same_tests}
use Rattle.mg_txlist.specs.Ending.{CommitsBits, header_first}
use Rattle.mg_txlist.specs.TxList.{tip_in}
use Rattle.mg_txlist.specs.declared.list.TxList.{TxList}

-- the list's copy of the page of a number is the page that the cache shows there
pub record ShowsTip (list : TxList) (size : ℕ) (pool : Pages) (t : ℕ) : Type 0 where
  pub sized : list.size ≡ size
  pub page : (tip_in list (t / places size)).page ≡ tip_page size pool (t / places size)
  pub bytes : (tip_in list (t / places size)).bytes ≡ pool (tip_page size pool (t / places size))

-- A transaction that needs no page any more was committed by the list, where the disk tells its images:
-- `k` is the image in between, when its bits were changed and nothing was written yet.
pub record CommitsFrom {D L : Type 0} (m : Meaning D) (old new : TxList) (before after : Pool D L)
    (i k j : Image) (t : ℕ) : Type 0 where
  pub pool : IsPool m before
  pub commits : CommitsBits m old new before after t
  pub tells : Tells m before.disk i
  pub midway : m.held commits.settles.changed.disk ≡ Some k
  pub held : m.held after.disk ≡ Some j
  pub shows : ShowsTip old before.geometry.size (shown before.dirty i) t
  pub drawn : t < next_of (shown before.dirty i)

-- while the bits are changed and not yet written every overlay is as midway, and afterwards it is what it
-- has to be for the history with the commit
pub record CommitsRow (form : Form) {D L : Type 0} (m : Meaning D) (old new : TxList)
    (before after : Pool D L) (i k j : Image) (t : ℕ) (asked : Asked) (session : Sessions)
    (o : Opening) (h : Entries) (e : Event) (state now : ℕ → TxState)
    (from : CommitsFrom m old new before after i k j t) : Type 0 where
  pub midway : EveryMidway (keeping form before.geometry.size o h)
      (keeping form before.geometry.size o (e ∷ h))
      (tip_in old (t / places old.size)).page (shown before.dirty i) state now
      (cache_over from.commits.settles.changed k) (needs_in asked session from.commits.settles.changed)
  pub after_it : KeptIn form before.geometry.size o (e ∷ h) now asked session after j

abbrev pub CommitRowKeeps : Form → (D L : Type 0) → Meaning D → Type 0
CommitRowKeeps form D L m = (old new : TxList) (before after : Pool D L) (i k j : Image) (t : ℕ)
    (asked : Asked) (session : Sessions) (o : Opening) (h : Entries) (e : Event)
    (state now : ℕ → TxState) (from : CommitsFrom m old new before after i k j t)
    → state t ≡ Active → now t ≡ Committed → OthersStay state now t
    → ((p : ℕ) → needs_in asked session before t p ≡ false) → BringsChanges o h e t
    → KeptIn form before.geometry.size o h state asked session before i
    → CommitsRow form m old new before after i k j t asked session o h e state now from

-- ---- pages of transactions are apart

tip_below : (size : ℕ) (pages : Pages) (n a : ℕ) → a < n → Has (tips_below size pages n) (tip_page size pages a)
tip_below size pages zero a less = absurd (omega (arith, less))
tip_below size pages (suc n) a less = at (cases_eq a n) (tip_below size pages n a)
  where
    at : (a ≡ n) ⊎ (a ≢ n) → (a < n → Has (tips_below size pages n) (tip_page size pages a))
        → (tip_page size pages a ≡ tip_page size pages n) ⊎ Has (tips_below size pages n) (tip_page size pages a)
    at (inl same) more = inl (ap (tip_page size pages) same)
    at (inr ne) more = inr (more (omega (arith, less, ne)))

tips_apart : (size : ℕ) (pages : Pages) (n a b : ℕ) → IsOnce (tips_below size pages n) → a < n → b < n
    → tip_page size pages a ≡ tip_page size pages b → a ≡ b
tips_apart size pages zero a b once less also same = absurd (omega (arith, less))
tips_apart size pages (suc n) a b once less also same =
    at (cases_eq a n) (cases_eq b n) (tips_apart size pages n a b once.1)
  where
    at : (a ≡ n) ⊎ (a ≢ n) → (b ≡ n) ⊎ (b ≢ n)
        → (a < n → b < n → tip_page size pages a ≡ tip_page size pages b → a ≡ b) → a ≡ b
    at (inl first) (inl second) more = first ∙ sym second
    at (inl first) (inr ne) more = absurd (once.0 (subst (Has (tips_below size pages n))
        (sym same ∙ ap (tip_page size pages) first) (tip_below size pages n b (omega (arith, also, ne)))))
    at (inr ne) (inl second) more = absurd (once.0 (subst (Has (tips_below size pages n))
        (same ∙ ap (tip_page size pages) second) (tip_below size pages n a (omega (arith, less, ne)))))
    at (inr off) (inr ne) more = more (omega (arith, less, off)) (omega (arith, also, ne)) same

number_is : (size n : ℕ) → n / places size * places size + n % places size ≡ n
number_is size n = let whole = mod-add-div' n (places size) in omega (arith, whole)

-- a number is told by its page and its place there
one_number : (a b size : ℕ) → a / places size ≡ b / places size → a % places size ≡ b % places size
    → a ≡ b
one_number a b size parts rests = sym (number_is size a)
    ∙ (ap (λ (q : ℕ). q * places size + a % places size) parts
    ∙ (ap (λ (r : ℕ). b / places size * places size + r) rests ∙ number_is size b))

module _ (form : Form) (none : HasNoSequences form) {D L : Type 0} (m : Meaning D) (old new : TxList)
    (before after : Pool D L) (i k j : Image) (t : ℕ) (asked : Asked) (session : Sessions)
    (o : Opening) (h : Entries) (e : Event) (state now : ℕ → TxState)
    (from : CommitsFrom m old new before after i k j t) (active : state t ≡ Active)
    (committed : now t ≡ Committed) (others : OthersStay state now t)
    (ready : (p : ℕ) → needs_in asked session before t p ≡ false) (brings : BringsChanges o h e t)
    (every : KeptIn form before.geometry.size o h state asked session before i) where
  abbrev size : ℕ
  size = before.geometry.size

  abbrev pool : Pages
  pool = shown before.dirty i

  abbrev changed : Pool D L
  changed = from.commits.settles.changed

  abbrev written : Pool D L
  written = from.commits.settles.written

  abbrev page : ℕ
  page = (tip_in old (t / places old.size)).page

  abbrev place : ℕ
  place = t % places old.size

  abbrev bytes : List ℕ
  bytes = from.commits.bytes

  abbrev batch : Changed
  batch = record {
    pages = one_page page bytes;
    orders = orders_of header_first (record { 0 = page });
  }

  it : BatchIsChanged before changed i k batch asked session
  it = changed_batches_are D L m before before changed i k batch asked session
      (keeps_itself m before from.pool) from.commits.settles.changes.frame from.tells from.midway

  start : IsKept form size o h (left_state nobody state) pool pool
  start = good_of_pool (keeping form size o h) state (cache_over before i) (needs_in asked session before)
      it.changes.was_clean (λ u p needs. (it.left u p needs).0) every nobody

  -- ---- which page it is

  page_is : page ≡ tip_page size pool (t / places size)
  page_is = ap (λ (s : ℕ). (tip_in old (t / places s)).page) from.shows.sized ∙ from.shows.page

  bytes_were : (tip_in old (t / places old.size)).bytes ≡ pool page
  bytes_were = ap (λ (s : ℕ). (tip_in old (t / places s)).bytes) from.shows.sized
      ∙ (from.shows.bytes ∙ ap pool (sym page_is))

  below : t / places size ≤ last_sequence size pool
  below = div_grows t (next_of pool - 1) (places size) (let drawn = from.drawn in omega arith)

  wanted : IsAsWanted size pool page (tip_checks (pool page) page (t / places size))
  wanted = subst (λ (n : ℕ). IsAsWanted size pool n (tip_checks (pool n) n (t / places size))) (sym page_is)
      (start.sound.transactions.each (t / places size) below)

  kind_is : byte (pool page) 0 ≡ 3
  unfolding tip_checks
  kind_is = kind_of (pool page) page 3 0 (t / places size) _ wanted.fields

  header_off : 0 ≢ page
  header_off same =
      let one : byte (pool 0) 0 ≡ 1 = kind_of (pool 0) 0 1 0 0 _ start.sound.header.fields in
      let also : byte (pool 0) 0 ≡ 3 = ap (λ (n : ℕ). byte (pool n) 0) same ∙ kind_is in
      omega (arith, one, also)

  -- ---- the bits

  put_here : content_in batch.pages page ≡ Some bytes
  put_here = rw (eq-eqb page page refl) refl

  put_else : (n : ℕ) → n ≢ page → content_in batch.pages n ≡ None
  put_else n ne = rw (ne_eqb page n (λ same. ne (sym same))) refl

  view_here : (cache_over changed k).pool page ≡ bytes
  view_here = ap (λ (pages : Pages). pages page) it.pool
      ∙ ap (λ (c : Option (List ℕ)). unwrap_or c (pool page)) put_here

  view_else : (n : ℕ) → n ≢ page → (cache_over changed k).pool n ≡ pool n
  view_else n ne = ap (λ (pages : Pages). pages n) it.pool
      ∙ ap (λ (c : Option (List ℕ)). unwrap_or c (pool n)) (put_else n ne)

  sets : SetsState (pool page) ((cache_over changed k).pool page) place Committed
  sets = subst (λ (b : List ℕ). SetsState b ((cache_over changed k).pool page) place Committed) bytes_were
      (subst (λ (b : List ℕ). SetsState (tip_in old (t / places old.size)).bytes b place Committed)
      (sym view_here) from.commits.sets)

  tip : ChangesTip pool (cache_over changed k).pool page place
  tip = record {
    others = view_else;
    below = wanted.below;
    kind = kind_is;
    checks = λ n sequence. same_tests (pool page) ((cache_over changed k).pool page) n sequence sets.front;
    prev = same_prev (pool page) ((cache_over changed k).pool page) sets.front;
    len = sets.len;
    states = λ n ne. sets.others n ne;
  }

  tips_once : IsOnce (tips_of size pool)
  tips_once = once_front (tips_of size pool) (flat_map pages_of (stands_of start.layout))
      (once_front (tips_of size pool ++ flat_map pages_of (stands_of start.layout))
      start.layout.sequences start.sound.once)

  drawn_place : IsDrawnPlace size pool page place
  drawn_place u past on its same = past_it (one_number u t size (on ∙ sym last_is)
      (same ∙ ap (λ (s : ℕ). t % places s) from.shows.sized))
    where
      last_is : t / places size ≡ last_sequence size pool
      last_is = tips_apart size pool (last_sequence size pool + 1) (t / places size)
          (last_sequence size pool) tips_once (omega (arith, below)) (omega arith)
          (sym page_is ∙ sym its)

      past_it : u ≡ t → ⊥
      past_it e_ = let drawn = from.drawn in omega (arith, past, drawn, e_)

  pub midway : EveryMidway (keeping form size o h) (keeping form size o (e ∷ h)) page pool state now
      (cache_over changed k) (needs_in asked session changed)
  midway = commit_changes_every form none size o h e state now t (cache_over before i)
      (cache_over changed k) it.gone (content_in batch.pages) (lists batch.orders)
      (needs_in asked session before) (needs_in asked session changed) page place it.changes active committed
      others ready it.left brings (record {
        here = put_here ∙ ap (λ (b : List ℕ). Some b) (sym view_here);
        others = put_else;
      }) tip drawn_place (rw (eq-eqb page page refl) refl) every

  -- ---- the page writes

  held_written : m.held written.disk ≡ Some j
  held_written = sym from.commits.settles.settles.held
      ∙ (ap (λ (p : Pool D L). m.held p.disk) (sym from.commits.settles.same) ∙ from.held)

  tells_changed : m.tells changed.disk ≡ true
  tells_changed = ap m.tells (from.commits.settles.changes.changes.enters.disk
      ∙ from.commits.settles.changes.changes.puts.disk)
      ∙ (from.commits.settles.changes.changes.written.tells ∙ from.tells.told)

  writes : WritesPages (cache_over changed k) (cache_over written j)
      (taken_out changed.dirty written.dirty)
  writes = runs_are D L m changed written k j from.commits.settles.writes tells_changed from.midway
      held_written

  is_out : taken_out changed.dirty written.dirty page ≡ true
  is_out = rw (it.changes.is_laid page (λ none_. absurd (nothing none_)), from.commits.settles.out) refl
    where
      nothing : content_in batch.pages page ≡ None → ⊥
      nothing none_ = let both = sym put_here ∙ none_ in absurd cc

  after_writes : KeptIn form size o (e ∷ h) now asked session written j
  after_writes = midway_written (keeping form size o h) (keeping form size o (e ∷ h)) page pool state now
      (cache_over changed k) (cache_over written j) (taken_out changed.dirty written.dirty)
      (needs_in asked session changed) (needs_in asked session written) writes
      (runs_keep_needs D L m changed written asked session from.commits.settles.writes) midway is_out

  pub settled : KeptIn form size o (e ∷ h) now asked session after j
  settled = subst (λ (p : Pool D L). KeptIn form size o (e ∷ h) now asked session p j)
      (sym from.commits.settles.same) after_writes

pub commit_row_keeps : (form : Form) → HasNoSequences form → (D L : Type 0) (m : Meaning D)
    → CommitRowKeeps form D L m
commit_row_keeps form none D L m old new before after i k j t asked session o h e state now from active
    committed others ready brings every = record {
      midway = midway form none m old new before after i k j t asked session o h e state now from active
          committed others ready brings every;
      after_it = settled form none m old new before after i k j t asked session o h e state now from active
          committed others ready brings every;
    }
