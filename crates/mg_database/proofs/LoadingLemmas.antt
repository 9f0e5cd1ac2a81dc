-- What is read of a database.
use Rattle.std.proofs.Common.{◌≡◌, ◌≢◌, ◌⊎◌, inl, inr, ◌<◌, ◌≤◌, ◌+◌, ◌-◌, ◌==◌, ◌&&◌, ◌||◌, ◌++◌, nat_lt, ℕ, zero, suc, Bool, true, false, List, [], ◌∷◌, None, length, refl, sym, ap, ◌∙◌, subst, arith, cond, lt-ltb, le-ltb}
use Rattle.std.specs.Prelude.{IfErr, OnOk, map, max, unwrap_or, Result, Ok, Err}
use Rattle.std.proofs.lemmas.Bool.{cases_eq, cases_lt, eq-eqb, ne_eqb}
use Rattle.mg_base.specs.Disk.{Meaning}
use Rattle.mg_base.specs.Image.{Image}
use Rattle.mg_base.specs.declared.bytes.Bytes.{Bytes}
use Rattle.mg_base.specs.declared.geometry.Geometry.{Geometry}
use Rattle.mg_base.specs.declared.geometry.TheConstants.{GREATEST_LIMIT}
use Rattle.mg_base.specs.declared.numbers.PageNo.{PageNo}
use Rattle.mg_base.specs.declared.transaction.Markers.{Markers}
use Rattle.mg_base.specs.declared.transaction.TxState.{TxState}
use Rattle.mg_base.specs.declared.transaction.TxState.TheVariants.{Active, Committed, Dead, Limbo}
use Rattle.mg_header.specs.HeaderPage.{header_in, reading, the_page}
use Rattle.mg_header.specs.HeaderPageLaws.{reading_ok}
use Rattle.mg_header.specs.declared.header.HeadFault.{HeadFault}
use Rattle.mg_header.specs.declared.header.HeadFault.TheVariants as heads
use Rattle.mg_header.specs.declared.header.Header.{Header}
use Rattle.mg_image.specs.Catalog.{catalog_table}
use Rattle.mg_image.specs.Form.{Pages}
use Rattle.mg_image.specs.Inventory.{settled}
use Rattle.mg_heap.specs.Reading.{ReadsData}
use Rattle.mg_model.specs.Answers.{is_open}
use Rattle.mg_model.specs.Openings.{Each}
use Rattle.mg_model.specs.declared.table.Table.{Table}
use Rattle.mg_pool.specs.Batch.{Changed, content_in}
use Rattle.mg_pool.specs.Dirty.{DirtyPages}
use Rattle.mg_pool.specs.Fault.{MeetsNoFault, StaysOnline, TellsFault}
use Rattle.mg_pool.specs.Pool.{shown}
use Rattle.mg_pool.specs.Reading.{ReadsPages}
use Rattle.mg_pool.specs.declared.batch.BatchPage.{BatchPage}
use Rattle.mg_pool.specs.declared.fault.PoolFault.TheVariants.{Memory}
use Rattle.mg_pool.specs.declared.pool.Pool.{Pool}
use Rattle.mg_space.specs.View.{IsMissing, KeepsStore, ReadsAlone, RefusesRead, Tells, pool_answer, viewed}
use Rattle.mg_space.specs.ViewLaws.{fault_on, tells_on}
use Rattle.mg_space.specs.declared.fault.SpaceFault.{SpaceFault}
use Rattle.mg_space.specs.declared.fault.SpaceFault.TheVariants as space
use Rattle.mg_space.specs.declared.links.FireLinks.{FireLinks}
use Rattle.mg_snap.specs.Live.{Entered, State as Bases, after_enter, after_limbo, is_among, undecided, unended_in}
use Rattle.mg_snap.specs.LiveLaws.{among_more, numbers_more, numbers_undecided}
use Rattle.mg_txlist.specs.Chain.{HasHead}
use Rattle.mg_txlist.specs.Reading.{is_head_or_tip}
use Rattle.mg_txlist.specs.ReadingLaws.{all_more}
use Rattle.mg_txlist.specs.Refusals.{RefusesLoad}
use Rattle.mg_txlist.specs.TxList.{bits_said, next_said, own_said, said}
use Rattle.mg_txlist.specs.declared.list.TipPage.{TipPage}
use Rattle.mg_txlist.specs.declared.list.TxList.{TxList}
use Rattle.mg_database.specs.declared.fault.OpenFault.{OpenFault}
use Rattle.mg_database.specs.declared.fault.OpenFault.TheVariants.{Space}
use Rattle.mg_database.specs.declared.loading.Loaded.{Loaded}
use Rattle.mg_database.specs.Loading.{AreUndecided, AreUndecidedBelow, ChecksCatalog, OpensAlone, ReadsFront, RefusesPages, SaysPages, cache_answer, head_fault, is_front, markers_in, no_catalog, no_list, untested}
use Rattle.mg_database.specs.Tested.{IsTested, ReadsTable, RefusesTested, is_of_table}
use Rattle.mg_database.proofs.TestedLemmas.{or_left, or_right, wider}

-- ---- who has not ended

-- nobody is active, where no number was drawn in this run
pub nobody_active : (list : TxList) → list.own.items ≡ [] → (t : ℕ) → said list t ≢ Active
unfolding said
nobody_active list none t = at (t == 0) (nat_lt t list.first) (bits_said list t)
  where
    by_bits : (x : TxState) → settled x ≢ Active
    by_bits Active is = absurd cc
    by_bits Limbo is = absurd cc
    by_bits Dead is = absurd cc
    by_bits Committed is = absurd cc

    own : own_said list (t - list.first) ≡ Dead
    own = rw none refl

    at : (z b : Bool) (x : TxState)
        → cond z Committed (cond b (settled x) (own_said list (t - list.first))) ≢ Active
    at true b x is = absurd cc
    at false true x is = by_bits x is
    at false false x is = absurd (let no : Dead ≡ Active = sym own ∙ is in cc)

-- the system's transaction has ended
system_ended : (list : TxList) → is_open (said list 0) ≡ false
unfolding said
system_ended list = refl

-- who is open is in limbo, as nobody is active
open_limbo : (list : TxList) → list.own.items ≡ [] → (t : ℕ) → said list t ≢ Limbo
    → is_open (said list t) ≡ false
open_limbo list none t other = at (said list t) (nobody_active list none t) other
  where
    at : (x : TxState) → x ≢ Active → x ≢ Limbo → is_open x ≡ false
    at Active active limbo = absurd (active refl)
    at Limbo active limbo = absurd (limbo refl)
    at Dead active limbo = refl
    at Committed active limbo = refl

-- one that was not drawn is dead
pub past_dead : (list : TxList) → list.own.items ≡ [] → (t : ℕ) → 1 ≤ t → next_said list ≤ t
    → said list t ≡ Dead
unfolding said
past_dead list none t some past = rw (ne_eqb t 0 other, le-ltb t list.first first) (rw none refl)
  where
    other : t ≢ 0
    other is = absurd (omega (arith, some, is))

    len : length list.own.items ≡ 0
    len = ap (λ (xs : List TxState). length xs) none

    first : list.first ≤ t
    first = omega (arith, past, len)

-- ---- the loop

pub undecided_first : (list : TxList) (live : Bases) → live ≡ record { next = next_said list; entered = [] }
    → AreUndecidedBelow list 1 live
undecided_first list live is = subst (AreUndecidedBelow list 1) (sym is) (record {
  next = refl;
  unended = first;
  no_bases = tt;
})
  where
    first : (t : ℕ) → false ≡ (nat_lt t 1 && is_open (said list t))
    first zero = sym (system_ended list)
    first (suc t) = sym (rw (le-ltb (suc t) 1 (omega arith)) refl)

below_more : (t n : ℕ) → t ≢ n → nat_lt t (n + 1) ≡ nat_lt t n
below_more t n other = at (cases_lt t n)
  where
    at : (t < n) ⊎ (n ≤ t) → nat_lt t (n + 1) ≡ nat_lt t n
    at (inl below) = lt-ltb t (n + 1) (omega (arith, below)) ∙ sym (lt-ltb t n below)
    at (inr past) = le-ltb t (n + 1) (omega (arith, past, other)) ∙ sym (le-ltb t n past)

-- one that is in limbo enters
module _ (list : TxList) (n : ℕ) (live : Bases) (so_far : AreUndecidedBelow list n live) where
  none_based : (es : List Entered) (t : ℕ) → Each (λ e. e.base ≡ None) es
      → Each (λ e. e.base ≡ None) (map (undecided t) es)
  none_based [] t all = tt
  none_based (e ∷ es) t all = (at (e.number == t) all.0, none_based es t all.1)
    where
      at : (b : Bool) → e.base ≡ None → cond b None e.base ≡ None
      at true is = refl
      at false is = is

  entered_based : (es : List Entered) (e : Entered) → Each (λ e. e.base ≡ None) es
      → Each (λ e. e.base ≡ None) (map (undecided e.number) (es ++ e ∷ []))
  entered_based [] e all = (rw (eq-eqb e.number e.number refl) refl, tt)
  entered_based (x ∷ es) e all = (at (x.number == e.number) all.0, entered_based es e all.1)
    where
      at : (b : Bool) → x.base ≡ None → cond b None x.base ≡ None
      at true is = refl
      at false is = is

  numbers_are : unended_in (after_limbo (after_enter live n) n) ≡ unended_in live ++ n ∷ []
  numbers_are = numbers_undecided (after_enter live n).entered n ∙ numbers_more live.entered _

  pub undecided_more : n < next_said list → said list n ≡ Limbo
      → AreUndecidedBelow list (n + 1) (after_limbo (after_enter live n) n)
  undecided_more below limbo = record {
    next = same_next ∙ so_far.next;
    unended = λ t. ap (λ (ns : List ℕ). is_among ns t) numbers_are
        ∙ (among_more (unended_in live) n t ∙ at t (cases_eq t n));
    no_bases = entered_based live.entered _ so_far.no_bases;
  }
    where
      same_next : max live.next (n + 1) ≡ live.next
      same_next = let next = so_far.next in omega (arith, next, below)

      or_false : (b : Bool) → (b || false) ≡ b
      or_false true = refl
      or_false false = refl

      or_true : (b : Bool) → (b || true) ≡ true
      or_true true = refl
      or_true false = refl

      at : (t : ℕ) → (t ≡ n) ⊎ (t ≢ n)
          → (is_among (unended_in live) t || (n == t)) ≡ (nat_lt t (n + 1) && is_open (said list t))
      at t (inl same) = rw (same, eq-eqb n n refl, lt-ltb n (n + 1) (omega arith), limbo)
          (or_true (is_among (unended_in live) n))
      at t (inr other) = rw (ne_eqb n t (λ e. other (sym e)), below_more t n other)
          (or_false (is_among (unended_in live) t) ∙ so_far.unended t)

  pub undecided_other : list.own.items ≡ [] → said list n ≢ Limbo → AreUndecidedBelow list (n + 1) live
  undecided_other none other = record {
    next = so_far.next;
    unended = λ t. so_far.unended t ∙ at t (cases_eq t n);
    no_bases = so_far.no_bases;
  }
    where
      and_false : (b : Bool) → (b && false) ≡ false
      and_false true = refl
      and_false false = refl

      at : (t : ℕ) → (t ≡ n) ⊎ (t ≢ n)
          → (nat_lt t n && is_open (said list t)) ≡ (nat_lt t (n + 1) && is_open (said list t))
      at t (inl same) = rw (same, open_limbo list none n other)
          (and_false (nat_lt n n) ∙ sym (and_false (nat_lt n (n + 1))))
      at t (inr apart) = rw (below_more t n apart) refl

  -- a number may enter
  pub not_entered : is_among (unended_in live) n ≡ false
  not_entered = so_far.unended n ∙ rw (le-ltb n n (omega arith)) refl

-- nobody from a number up to another one is in limbo, so the next one who enters stands there
skip_more : (list : TxList) (live : Bases) (n k : ℕ) → list.own.items ≡ []
    → ((t : ℕ) → n ≤ t → t < n + k → said list t ≢ Limbo) → AreUndecidedBelow list n live
    → AreUndecidedBelow list (n + k) live
skip_more list live n zero none others so_far =
    subst (λ (m : ℕ). AreUndecidedBelow list m live) (omega arith) so_far
skip_more list live n (suc k) none others so_far =
    subst (λ (m : ℕ). AreUndecidedBelow list m live) (let e : n + k + 1 ≡ n + suc k = omega arith in e)
    (undecided_other list (n + k) live (skip_more list live n k none
    (λ t least below. others t least (omega (arith, below))) so_far) none
    (others (n + k) (omega arith) (omega arith)))

pub undecided_to : (list : TxList) (live : Bases) (n m : ℕ) → list.own.items ≡ [] → n ≤ m
    → ((t : ℕ) → n ≤ t → t < m → said list t ≢ Limbo) → AreUndecidedBelow list n live
    → AreUndecidedBelow list m live
undecided_to list live n m none later others so_far =
    subst (λ (k : ℕ). AreUndecidedBelow list k live) (let e : n + (m - n) ≡ m = omega (arith, later) in e)
    (skip_more list live n (m - n) none (λ t least below. others t least (omega (arith, below, later))) so_far)

-- in a list of a run that has drawn no number the next one is the first of the run
pub first_is_next : (list : TxList) → list.own.items ≡ [] → next_said list ≡ list.first
first_is_next list none =
    let len : length list.own.items ≡ 0 = ap (λ (xs : List TxState). length xs) none in omega (arith, len)

-- all that were drawn
pub undecided_all : (list : TxList) (n : ℕ) (live : Bases) → list.own.items ≡ [] → 1 ≤ n
    → next_said list ≤ n → AreUndecidedBelow list n live → AreUndecided list live
undecided_all list n live none some past so_far = record {
  next = so_far.next;
  unended = λ t. so_far.unended t ∙ at t (cases_lt t n);
  no_bases = so_far.no_bases;
  drawn = λ t there. below t (cases_lt t n) there;
}
  where
    and_false : (b : Bool) → (b && false) ≡ false
    and_false true = refl
    and_false false = refl

    drawn : (t : ℕ) → (t < next_said list) ⊎ (next_said list ≤ t) → is_among (unended_in live) t ≡ true
        → t < live.next
    drawn t (inl low) there = let next = so_far.next in omega (arith, low, next)
    drawn zero (inr above) there = absurd (let no : false ≡ true = sym (so_far.unended 0
        ∙ (ap (λ (b : Bool). nat_lt 0 n && b) (system_ended list) ∙ and_false (nat_lt 0 n))) ∙ there in cc)
    drawn (suc t) (inr above) there = absurd (let no : false ≡ true = sym (so_far.unended (suc t)
        ∙ (ap (λ (x : TxState). nat_lt (suc t) n && is_open x) (past_dead list none (suc t) (omega arith) above)
        ∙ and_false (nat_lt (suc t) n))) ∙ there in cc)

    below : (t : ℕ) → (t < n) ⊎ (n ≤ t) → is_among (unended_in live) t ≡ true → t < live.next
    below t (inl low) there = drawn t (cases_lt t (next_said list)) there
    below t (inr above) there = absurd (let no : false ≡ true = sym (so_far.unended t
        ∙ rw (le-ltb t n above) refl) ∙ there in cc)

    at : (t : ℕ) → (t < n) ⊎ (n ≤ t) → (nat_lt t n && is_open (said list t)) ≡ is_open (said list t)
    at t (inl below) = rw (lt-ltb t n below) refl
    at t (inr above) = rw (
      le-ltb t n above,
      past_dead list none t (omega (arith, some, above)) (omega (arith, past, above)),
    ) refl

-- ---- the header

-- what was read is what the page says
header_is : (b : List ℕ) (size : ℕ) (h : Header) → reading b size ≡ Ok h → h ≡ header_in b
header_is b size h is = (reading_ok b size h is).2

-- the page that was read is that of a view
pub head_read : (page slice : List ℕ) (view : Pages) (size wanted : ℕ)
    (result answer : Result Header HeadFault) → slice ≡ page → page ≡ view 0 → size ≡ wanted
    → result ≡ reading slice size → result ≡ answer → reading (view 0) wanted ≡ answer
head_read page slice view size wanted result answer same seen size_is read is =
    ap (λ (b : List ℕ). reading b wanted) (sym seen ∙ sym same)
    ∙ (ap (reading slice) (sym size_is) ∙ (sym read ∙ is))

-- page 0 was not read
pub head_missing : {D : Type 0} (m : Meaning D) (store : Pool D FireLinks) (batch : List BatchPage)
    (g : Geometry) (view : Pages) (fault : SpaceFault) → batch ≡ []
    → RefusesRead {T = Bytes} m store batch the_page (Err fault) → RefusesPages m store g view (Space fault)
head_missing m store batch g view (space.Full limit) none refuses = refuses
head_missing m store batch g view (space.Damaged it) none refuses = no_list it (inl (inl (
  refuses.0,
  refuses.1,
  subst (λ (pages : List BatchPage). IsMissing m store pages 0 refuses.0) none refuses.2,
)))
head_missing m store batch g view (space.Pool fault) none refuses = tt

-- a field of it differs
pub head_differs : {D : Type 0} (m : Meaning D) (store : Pool D FireLinks) (g : Geometry) (view : Pages)
    (fault : HeadFault) (told : OpenFault) → reading (view 0) g.size ≡ Err fault → told ≡ head_fault fault
    → RefusesPages m store g view told
head_differs m store g view fault told is told_is = subst (RefusesPages m store g view) (sym told_is)
    (at fault is)
  where
    at : (fault : HeadFault) → reading (view 0) g.size ≡ Err fault
        → RefusesPages m store g view (head_fault fault)
    at (heads.NotADatabase field found) is = is
    at (heads.Damaged it) is = no_list it (inl (inr (heads.Damaged it, is, refl)))

-- the catalog stands on no page of a database
pub catalog_strays : {D : Type 0} (m : Meaning D) (store : Pool D FireLinks) (g : Geometry) (view : Pages)
    (header : Header) (result : Result Header OpenFault) → reading (view 0) g.size ≡ Ok header
    → ChecksCatalog header result → IfErr result (RefusesPages m store g view)
catalog_strays m store g view header (Ok same) read checks = tt
catalog_strays m store g view header (Err fault) read checks = subst (RefusesPages m store g view) (sym checks.1)
    (no_catalog header read checks.0)

-- ---- the whole

-- the list was not read
pub list_refused : {D : Type 0} (m : Meaning D) (old mid new : Pool D FireLinks) (image : Image)
    (fault : SpaceFault) → KeepsStore m old mid → Tells m old.disk image
    → (Tells m mid.disk image → RefusesLoad m new mid.geometry (shown mid.dirty image) fault)
    → RefusesPages m new old.geometry (shown old.dirty image) (Space fault)
list_refused m old mid new image fault keeps tells refuses = at fault
    (subst (λ (g : Geometry). RefusesLoad m new g (shown old.dirty image) fault) keeps.geometry
    (subst (λ (dirty : DirtyPages). RefusesLoad m new mid.geometry (shown dirty image) fault) keeps.dirty
    (refuses (tells_on m old mid image keeps tells))))
  where
    at : (fault : SpaceFault) → RefusesLoad m new old.geometry (shown old.dirty image) fault
        → RefusesPages m new old.geometry (shown old.dirty image) (Space fault)
    at (space.Full limit) is = is
    at (space.Damaged it) is = no_list it is
    at (space.Pool fault) is = tt

-- what the list says, as the pages were seen before
list_said : {D : Type 0} (m : Meaning D) (old mid : Pool D FireLinks) (image : Image) (first : ℕ)
    (tips : List TipPage) → KeepsStore m old mid → Tells m old.disk image
    → (Tells m mid.disk image → HasHead mid.geometry.size (shown mid.dirty image) first tips)
    → HasHead old.geometry.size (shown old.dirty image) first tips
list_said m old mid image first tips keeps tells head =
    subst (λ (g : Geometry). HasHead g.size (shown old.dirty image) first tips) keeps.geometry
    (subst (λ (dirty : DirtyPages). HasHead mid.geometry.size (shown dirty image) first tips) keeps.dirty
    (head (tells_on m old mid image keeps tells)))

-- a page of the catalog is not as wanted
pub table_refused : {D : Type 0} (m : Meaning D) (old mid later new : Pool D FireLinks) (image : Image)
    (header : Header) (first : ℕ) (tips : List TipPage) (fault : SpaceFault) → KeepsStore m old mid
    → KeepsStore m old later → Tells m old.disk image
    → reading (shown old.dirty image 0) old.geometry.size ≡ Ok header
    → (Tells m mid.disk image → HasHead mid.geometry.size (shown mid.dirty image) first tips)
    → (Tells m later.disk image → RefusesTested m new [] (shown later.dirty image) header.catalog.0 fault)
    → RefusesPages m new old.geometry (shown old.dirty image) (Space fault)
table_refused m old mid later new image header first tips fault kept keeps tells read head refuses = at fault
    (subst (λ (dirty : DirtyPages). RefusesTested m new [] (shown dirty image) header.catalog.0 fault) keeps.dirty
    (refuses (tells_on m old later image keeps tells)))
  where
    at : (fault : SpaceFault) → RefusesTested m new [] (shown old.dirty image) header.catalog.0 fault
        → RefusesPages m new old.geometry (shown old.dirty image) (Space fault)
    at (space.Full limit) is = is
    at (space.Damaged it) is = untested header first tips it read
        (list_said m old mid image first tips kept tells head) is
    at (space.Pool fault) is = tt

-- what was read is what the pages say
pub says_pages : {D : Type 0} (m : Meaning D) (old mid later : Pool D FireLinks) (image : Image)
    (header : Header) (list : TxList) (catalog : PageNo) (markers : Markers) (ps ds : List ℕ)
    → KeepsStore m old mid → KeepsStore m old later → Tells m old.disk image
    → reading (shown old.dirty image 0) old.geometry.size ≡ Ok header
    → (Tells m mid.disk image → HasHead mid.geometry.size (shown mid.dirty image) list.first list.pages.items)
    → (Tells m later.disk image → IsTested (shown later.dirty image) header.catalog.0 ps ds)
    → catalog ≡ header.catalog → markers ≡ markers_in header
    → SaysPages old.geometry.size (shown old.dirty image) list catalog markers ps ds
says_pages m old mid later image header list catalog markers ps ds kept keeps tells read head tests catalog_is
    markers_are = record {
      head = list_said m old mid image list.first list.pages.items kept tells head;
      catalog_is = catalog_is ∙ ap (λ (h : Header). h.catalog) its;
      markers_are = markers_are ∙ ap markers_in its;
      tested = subst (λ (p : PageNo). IsTested (shown old.dirty image) p.0 ps ds) (sym catalog_is)
          (subst (λ (dirty : DirtyPages). IsTested (shown dirty image) header.catalog.0 ps ds) keeps.dirty
          (tests (tells_on m old later image keeps tells)));
    }
  where
    its : header ≡ header_in (shown old.dirty image 0)
    its = header_is (shown old.dirty image 0) old.geometry.size header read

-- page 0 and the list were looked for, and then the catalog's pages
pub front_read : {D : Type 0} (m : Meaning D) (old later new : Pool D FireLinks) (tips : List TipPage)
    (ps ds : List ℕ) → ReadsPages m old later (1 + length tips) (is_head_or_tip tips)
    → ReadsTable m later new ps ds → ReadsFront m old new tips ps ds
front_read m old later new tips ps ds list table = all_more m old later new (1 + length tips)
    (length ps + length ds) (is_of_table ps ds) (is_front tips ps ds)
    (wider m old later (1 + length tips) (is_head_or_tip tips) (is_front tips ps ds)
    (λ n is. or_left (is_head_or_tip tips n) (is_of_table ps ds n) is) list)
    table (λ n is. or_right (is_head_or_tip tips n) (is_of_table ps ds n) is)

-- a page is seen through a batch without pages as the cache shows it
pub seen_alone : {D L : Type 0} (store : Pool D L) (image : Image) (batch : Changed) (n : ℕ)
    (page : List ℕ) → batch.pages ≡ [] → page ≡ viewed store image batch n
    → page ≡ shown store.dirty image n
seen_alone store image batch n page none seen = seen ∙ ap (λ (pages : List BatchPage).
    unwrap_or (content_in pages n) (shown store.dirty image n)) none

-- what holds whatever the answer holds at Ok
pub at_ok : {T E P : Type 0} (result : Result T E) → P → OnOk result P
at_ok (Ok x) holds = holds
at_ok (Err fault) holds = tt

-- the table of the catalog, as it was made
pub catalog_lawful : (catalog : Table) (page : ℕ) → catalog ≡ catalog_table page → page < GREATEST_LIMIT
    → (catalog ≡ catalog_table catalog.pointer.0) × (catalog.pointer.0 < GREATEST_LIMIT)
catalog_lawful catalog page is below = (
  is ∙ ap catalog_table (sym (ap (λ (t : Table). t.pointer.0) is)),
  subst (λ (n : ℕ). n < GREATEST_LIMIT) (sym (ap (λ (t : Table). t.pointer.0) is)) below,
)

-- ---- faults of the calls

-- a fault that a later call met is told since the start
pub space_up : {D L : Type 0} (A : Type 0) (m : Meaning D) (a b c : Pool D L) (fault : SpaceFault)
    → KeepsStore m a b → MeetsNoFault m a b → TellsFault m b c (pool_answer {T = A} (Err fault))
    → TellsFault m a c (cache_answer {T = Loaded} (Err (Space fault)))
space_up A m a b c (space.Full limit) kept same told = fault_on m a b c (pool_answer {T = A} (Err (space.Full
    limit))) kept same told
space_up A m a b c (space.Damaged it) kept same told = fault_on m a b c (pool_answer {T = A} (Err
    (space.Damaged it))) kept same told
space_up A m a b c (space.Pool fault) kept same told = fault_on m a b c (pool_answer {T = A} (Err (space.Pool
    fault))) kept same told

-- it is one of a reading call
pub list_alone : (A : Type 0) (fault : SpaceFault) → ReadsAlone {T = A} (Err fault)
    → OpensAlone {T = Loaded} (Err (Space fault))
list_alone A (space.Full limit) own = own
list_alone A (space.Damaged it) own = own
list_alone A (space.Pool fault) own = own

pub table_alone : (A : Type 0) (fault : SpaceFault) → ReadsData {T = A} (Err fault)
    → OpensAlone {T = Loaded} (Err (Space fault))
table_alone A (space.Full limit) own = tt
table_alone A (space.Damaged it) own = tt
table_alone A (space.Pool fault) own = own

-- there is no memory after two calls that answered
module _ {D : Type 0} (m : Meaning D) (fault : OpenFault) (is : fault ≡ Space (space.Pool Memory)) where
  pub memory_told : (a b c : Pool D FireLinks) → StaysOnline m a b → StaysOnline m b c
      → TellsFault m a c (cache_answer {T = Loaded} (Err fault))
  memory_told a b c first second =
      let P : OpenFault → Type 0 = λ f. TellsFault m a c (cache_answer {T = Loaded} (Err f)) in
      subst P (sym is) (first.0, second.1, second.2 ∙ first.2)

  pub memory_alone : OpensAlone {T = Loaded} (Err fault)
  memory_alone = let P : OpenFault → Type 0 = λ f. OpensAlone {T = Loaded} (Err f) in subst P (sym is) tt

  pub memory_refused : (store : Pool D FireLinks) (g : Geometry) (view : Pages)
      → RefusesPages m store g view fault
  memory_refused store g view = subst (RefusesPages m store g view) (sym is) tt
