-- What the change of a batch leaves: first without a page write, then after a run of them.
use Rattle.std.proofs.Common.{◌≡◌, ◌≢◌, ◌<◌, ◌≤◌, ◌+◌, ℕ, Bool, true, false, not, ◌||◌, ◌&&◌, ◌==◌, inl, inr, List, [], ◌∷◌, length, take, drop, get_or, Option, Some, None, is_some, sym, ◌∙◌, ap, refl, cond, arith, unwrap_or, subst}
use Rattle.std.proofs.lemmas.Bool.{cases_eq, eq-eqb, ne_eqb, both_ways, and_parts, and_from, or_cases, or_left, or_right}
use Rattle.mg_base.specs.Image.{Image, page_at}
use Rattle.mg_base.specs.Disk.{FailsNoWrite, Meaning}
use Rattle.mg_careful.specs.declared.graph.Order.{Order}
use Rattle.mg_careful.specs.Precedence.{Precedes, directly}
use Rattle.mg_careful.specs.PrecedenceLaws.{precedes_in}
use Rattle.mg_careful.specs.Graph.{PageGraph, is_ordered, EntersPage}
use Rattle.mg_careful.specs.CarefulWrite.{PageSet, IsClosed, overlay}
use Rattle.mg_pool.specs.declared.batch.BatchPage.{BatchPage}
use Rattle.mg_pool.specs.declared.pool.Pool.{Pool}
use Rattle.mg_pool.specs.Batch.{content_in, is_in, IsOnce, lists, joint, order_at, dirty_with}
use Rattle.mg_pool.specs.Dirty.{DirtyPages, content_of, is_dirty, is_marked, PutsContent, IsLeastPage}
use Rattle.mg_pool.specs.Change.{Changes, ChangesPages, PutsPages, EntersOrders, set_before, or_else, IsOpen}
use Rattle.mg_pool.specs.Fault.{StaysOnline}
use Rattle.mg_pool.specs.Pool.{shown, cache_of, WritesSet, taken_out, IsPool, LeavesClosed}
use Rattle.mg_pool.proofs.BatchLemmas.{clean_count, clean_rest, clean_same, none_after, first_more_here, first_more_other, no_page}
use Rattle.mg_pool.specs.Run.{HasWritten}
use Rattle.mg_pool.proofs.DirtyLemmas.{clean_unmarked}
use Rattle.mg_pool.proofs.OrderLemmas.{lists_more}

or_else_some : (a b : Option (List ℕ)) → is_some b ≡ true → is_some (or_else a b) ≡ true
or_else_some None b some = some
or_else_some (Some x) b some = refl

module _ (old new : DirtyPages) (graph more : PageGraph) (image : Image) (batch : ℕ → Option (List ℕ)) (contents : (p : ℕ) → content_of new p ≡ or_else (batch p) (content_of old p)) (size : new.size ≡ old.size) (grows : (a b : ℕ) → is_ordered graph a b ≡ true → is_ordered more a b ≡ true) where
  dirty_still : (p : ℕ) → is_dirty old p ≡ true → is_dirty new p ≡ true
  dirty_still p dirty = ap is_some (contents p) ∙ or_else_some (batch p) (content_of old p) dirty

  -- of a closed set, the pages that were dirty before are a set that was closed
  pub put_closed : (set_ : PageSet) → IsClosed (cache_of new more image) set_ → IsClosed (cache_of old graph image) (λ p. set_ p && is_dirty old p)
  put_closed set_ closed = record {
    only_dirty = λ p holds. (and_parts (set_ p) _ holds).1;
    before = λ p q chain dirty holds.
        and_from _ _ (closed.before p q (precedes_in (is_ordered graph) (is_ordered more) grows p q chain) (dirty_still p dirty) (and_parts (set_ q) _ holds).0) dirty;
  }

  disk_same : (p : ℕ) → page_at new.size image p ≡ page_at old.size image p
  disk_same p = ap (λ (n : ℕ). page_at n image p) size

  pub put_shown : (p : ℕ) → shown new image p ≡ unwrap_or (batch p) (shown old image p)
  put_shown p = at (batch p) (content_of old p) (contents p)
    where
      at : (a o : Option (List ℕ)) → content_of new p ≡ or_else a o → unwrap_or (content_of new p) (page_at new.size image p) ≡ unwrap_or a (unwrap_or o (page_at old.size image p))
      at None o is = ap (λ (c : Option (List ℕ)). unwrap_or c (page_at new.size image p)) is ∙ ap (unwrap_or o) (disk_same p)
      at (Some b) o is = ap (λ (c : Option (List ℕ)). unwrap_or c (page_at new.size image p)) is

  pub put_overlays : (set_ : PageSet) → IsClosed (cache_of new more image) set_ → (p : ℕ) → overlay (cache_of new more image) set_ p ≡ unwrap_or (cond (set_ p) (batch p) None) (overlay (cache_of old graph image) (λ q. set_ q && is_dirty old q) p)
  put_overlays set_ closed p = at (set_ p) refl
    where
      inside : (a : Option (List ℕ)) → content_of new p ≡ or_else a (content_of old p) → is_dirty new p ≡ true → unwrap_or (content_of new p) (page_at new.size image p) ≡ unwrap_or a (cond (is_dirty old p) (unwrap_or (content_of old p) (page_at old.size image p)) (page_at old.size image p))
      inside None is dirty =
          let was : is_dirty old p ≡ true = sym (ap is_some is) ∙ dirty in
          rw (was, is) (ap (unwrap_or (content_of old p)) (disk_same p))
      inside (Some b) is dirty = ap (λ (c : Option (List ℕ)). unwrap_or c (page_at new.size image p)) is

      at : (b : Bool) → set_ p ≡ b → overlay (cache_of new more image) set_ p ≡ unwrap_or (cond (set_ p) (batch p) None) (overlay (cache_of old graph image) (λ q. set_ q && is_dirty old q) p)
      at false out = rw out (disk_same p)
      at true is_in = rw is_in (inside (batch p) (contents p) (closed.only_dirty p is_in))

-- nothing is closed
none_closed : (dirty : DirtyPages) (graph : PageGraph) (image : Image) → IsClosed (cache_of dirty graph image) (λ p. false)
none_closed dirty graph image = record {
  only_dirty = λ p holds. let h : false ≡ true = holds in absurd cc;
  before = λ p q chain dirty holds. let h : false ≡ true = holds in absurd cc;
}

closed_same : (dirty : DirtyPages) (graph : PageGraph) (image : Image) (a b : PageSet) → ((p : ℕ) → a p ≡ b p) → IsClosed (cache_of dirty graph image) a → IsClosed (cache_of dirty graph image) b
closed_same dirty graph image a b same closed = record {
  only_dirty = λ p holds. closed.only_dirty p (same p ∙ holds);
  before = λ p q chain is holds. sym (same p) ∙ closed.before p q chain is (same q ∙ holds);
}

overlay_same : (dirty : DirtyPages) (graph : PageGraph) (image : Image) (a b : PageSet) → ((p : ℕ) → a p ≡ b p) → (p : ℕ) → overlay (cache_of dirty graph image) a p ≡ overlay (cache_of dirty graph image) b p
overlay_same dirty graph image a b same p = rw (same p) refl

-- Pages are written out, and then a batch is put.
module _ {D L : Type 0} (m : Meaning D) (a b : Pool D L) (run : HasWritten m a b) (d2 : DirtyPages) (g2 : PageGraph) (i0 i1 : Image) (writes : WritesSet a.dirty b.dirty a.graph b.graph i0 i1 (taken_out a.dirty b.dirty)) (batch : ℕ → Option (List ℕ)) (orders : List Order) (contents : (p : ℕ) → content_of d2 p ≡ or_else (batch p) (content_of b.dirty p)) (marked : (p who : ℕ) → is_marked d2 p who ≡ is_marked b.dirty p who) (size : d2.size ≡ b.dirty.size) (ordered : (x y : ℕ) → is_ordered g2 x y ≡ (is_ordered b.graph x y || (lists orders x y && is_dirty d2 x))) where
  abbrev d0 : DirtyPages
  d0 = a.dirty

  abbrev d1 : DirtyPages
  d1 = b.dirty

  grows : (x y : ℕ) → is_ordered b.graph x y ≡ true → is_ordered g2 x y ≡ true
  grows x y o = ordered x y ∙ or_left _ _ o

  enters : (x y : ℕ) → lists orders x y ≡ true → is_dirty d2 x ≡ true → is_ordered g2 x y ≡ true
  enters x y listed dirty = ordered x y ∙ or_right (is_ordered b.graph x y) _ (and_from _ _ listed dirty)

  same : (set_ : PageSet) (p : ℕ) → (taken_out d0 d1 p || (set_ p && is_dirty d1 p)) ≡ set_before d0 (taken_out d0 d1) set_ p
  same set_ p = at (is_dirty d0 p) (is_dirty d1 p) (set_ p) (run.fewer p)
    where
      at : (x y z : Bool) → (y ≡ true → x ≡ true) → ((x && not y) || (z && y)) ≡ ((x && not y) || (z && x))
      at true true z sub = refl
      at true false z sub = refl
      at false true z sub = absurd (let h : false ≡ true = sub refl in cc)
      at false false z sub = refl

  -- what was dirty and is not written out is dirty still
  still : (p : ℕ) → is_dirty d1 p ≡ (is_dirty d0 p && not (taken_out d0 d1 p))
  still p = at (is_dirty d0 p) (is_dirty d1 p) (run.fewer p)
    where
      at : (x y : Bool) → (y ≡ true → x ≡ true) → y ≡ (x && not (x && not y))
      at true true sub = refl
      at true false sub = refl
      at false true sub = absurd (let h : false ≡ true = sub refl in cc)
      at false false sub = refl

  laid : (p : ℕ) (o : Option (List ℕ)) → batch p ≡ o → o ≢ None → is_dirty d2 p ≡ true
  laid p None is some = absurd (some refl)
  laid p (Some bytes) is some = ap is_some (contents p) ∙ ap (λ (o : Option (List ℕ)). is_some (or_else o (content_of d1 p))) is

  marks_left : (p who : ℕ) → is_marked d2 p who ≡ (is_marked d0 p who && not (taken_out d0 d1 p))
  marks_left p who = marked p who ∙ at (is_dirty d0 p) (is_dirty d1 p) (is_marked d0 p who) (is_marked d1 p who) (run.marks p who) (clean_unmarked d1 p who) (run.fewer p) (clean_unmarked d0 p who)
    where
      at : (x y k l : Bool) → (y ≡ true → l ≡ k) → (y ≡ false → l ≡ false) → (y ≡ true → x ≡ true) → (x ≡ false → k ≡ false) → l ≡ (k && not (x && not y))
      at true true true l kept gone sub clean = kept refl
      at true true false l kept gone sub clean = kept refl
      at true false true l kept gone sub clean = gone refl
      at true false false l kept gone sub clean = gone refl
      at false true k l kept gone sub clean = absurd (let h : false ≡ true = sub refl in cc)
      at false false true l kept gone sub clean = absurd (let h : true ≡ false = clean refl in cc)
      at false false false l kept gone sub clean = gone refl

  pub changes_pages : ChangesPages d0 d2 a.graph g2 i0 i1 (taken_out d0 d1) batch orders
  changes_pages = record {
    out = closed_same d0 a.graph i0 _ _ (λ p. no_more (taken_out d0 d1 p)) (writes.closed (λ p. false) (none_closed d1 b.graph i1));
    image = writes.image;
    is_laid = λ p some. laid p (batch p) refl some;
    dirty_else = λ p none. ap is_some (contents p) ∙ (ap (λ (o : Option (List ℕ)). is_some (or_else o (content_of d1 p))) none ∙ still p);
    marks = marks_left;
    ordered = λ x y. ordered x y ∙ ap (λ (t : Bool). t || (lists orders x y && is_dirty d2 x)) (run.orders x y ∙ ordered_left x y);
    size = size ∙ run.size;
    shown_new = λ p. put_shown d1 d2 b.graph g2 i1 batch contents size grows p ∙ ap (unwrap_or (batch p)) (writes.shown_same p);
    closed = λ set_ closed. closed_same d0 a.graph i0 _ _ (same set_) (writes.closed _ (put_closed d1 d2 b.graph g2 i1 batch contents size grows set_ closed));
    overlays = λ set_ closed p.
        put_overlays d1 d2 b.graph g2 i1 batch contents size grows set_ closed p
        ∙ ap (unwrap_or (cond (set_ p) (batch p) None)) (writes.overlays _ (put_closed d1 d2 b.graph g2 i1 batch contents size grows set_ closed) p ∙ overlay_same d0 a.graph i0 _ _ (same set_) p);
    together = λ set_ closed x y listed dirty later. closed.before x y (directly (enters x y listed dirty)) dirty later;
  }
    where
      no_more : (t : Bool) → (t || false) ≡ t
      no_more true = refl
      no_more false = refl

      ordered_left : (x y : ℕ) → (is_ordered a.graph x y && (is_dirty d1 x && is_dirty d1 y)) ≡ (is_ordered a.graph x y && ((is_dirty d0 x && not (taken_out d0 d1 x)) && (is_dirty d0 y && not (taken_out d0 d1 y))))
      ordered_left x y = ap (λ (t : Bool). is_ordered a.graph x y && (t && is_dirty d1 y)) (still x) ∙ ap (λ (t : Bool). is_ordered a.graph x y && ((is_dirty d0 x && not (taken_out d0 d1 x)) && t)) (still y)

-- the frame of a change
pub frame : {D L : Type 0} (m : Meaning D) (old new : Pool D L) (pages : List BatchPage) (orders : List Order) → Changes m old new pages orders → m.tells old.disk ≡ true → (i j : Image) → m.held old.disk ≡ Some i → m.held new.disk ≡ Some j → (gone : PageSet) × ChangesPages old.dirty new.dirty old.graph new.graph i j gone (content_in pages) orders
frame m old new pages orders changes told i j held_i held_j =
    let ready = changes.ready in
    let puts = changes.puts in
    let enters = changes.enters in
    let held : m.held ready.disk ≡ Some j = ap m.held (sym puts.disk) ∙ (ap m.held (sym enters.disk) ∙ held_j) in
    let contents : (p : ℕ) → content_of new.dirty p ≡ or_else (content_in pages p) (content_of ready.dirty p) = λ p. ap (λ (d : DirtyPages). content_of d p) enters.dirty ∙ puts.contents p in
    let marked : (p who : ℕ) → is_marked new.dirty p who ≡ is_marked ready.dirty p who = λ p who. ap (λ (d : DirtyPages). is_marked d p who) enters.dirty ∙ puts.marks p who in
    let size : new.dirty.size ≡ ready.dirty.size = ap (λ (d : DirtyPages). d.size) enters.dirty ∙ puts.size in
    let ordered : (a b : ℕ) → is_ordered new.graph a b ≡ (is_ordered ready.graph a b || (lists orders a b && is_dirty new.dirty a)) = λ a b. enters.ordered a b ∙ (ap (λ (t : Bool). t || (lists orders a b && is_dirty changes.put.dirty a)) (puts.ordered a b) ∙ ap (λ (d : DirtyPages). is_ordered ready.graph a b || (lists orders a b && is_dirty d a)) (sym enters.dirty)) in (
      taken_out old.dirty ready.dirty,
      changes_pages m old ready changes.written new.dirty new.graph i j (changes.written.out told i j held_i held) (content_in pages) orders contents marked size ordered,
    )

-- Pages are put one after another.

pub puts_none : {D L : Type 0} (m : Meaning D) (start : Pool D L) → IsPool m start → PutsPages m (content_in []) start start
puts_none m start pool = record {
  pool = pool;
  contents = λ p. refl;
  marks = λ p who. refl;
  ordered = λ a b. refl;
  size = refl;
  geometry = refl;
  disk = refl;
  offline = refl;
  faults = refl;
}

pub puts_more : {D L : Type 0} (m : Meaning D) (start now next : Pool D L) (pages : List BatchPage) (i : ℕ) → IsOnce pages → i < length pages → PutsPages m (content_in (take i pages)) start now → IsPool m next → PutsContent now.dirty next.dirty (get_or pages i no_page).page (get_or pages i no_page).bytes → EntersPage now.graph next.graph (get_or pages i no_page).page → next ≡ record now { dirty = next.dirty; graph = next.graph; clean = next.clean; rooms = next.rooms } → PutsPages m (content_in (take (i + 1) pages)) start next
puts_more {D} {L} m start now next pages i once inside before pool put enters same = record {
  pool = pool;
  contents = λ p. elim (cases_eq p (get_or pages i no_page).page) [
    | inl e ↦ rw e (put.here ∙ sym (ap (λ (o : Option (List ℕ)). or_else o (content_of start.dirty (get_or pages i no_page).page)) (first_more_here pages i no_page once inside)))
    | inr apart ↦ put.others p apart ∙ (before.contents p ∙ sym (ap (λ (o : Option (List ℕ)). or_else o (content_of start.dirty p)) (first_more_other pages i no_page p inside apart)))
  ];
  marks = λ p who. put.marks p who ∙ before.marks p who;
  ordered = λ a b. enters.ordered a b ∙ before.ordered a b;
  size = put.size ∙ before.size;
  geometry = ap (λ (p : Pool D L). p.geometry) same ∙ before.geometry;
  disk = ap (λ (p : Pool D L). p.disk) same ∙ before.disk;
  offline = ap (λ (p : Pool D L). p.offline) same ∙ before.offline;
  faults = ap (λ (p : Pool D L). p.faults) same ∙ before.faults;
}

-- Orders are entered one after another.

pub enters_none : {D L : Type 0} (m : Meaning D) (start : Pool D L) → IsPool m start → EntersOrders m [] start start
enters_none m start pool = record {
  pool = pool;
  ordered = λ a b. or_false (is_ordered start.graph a b);
  dirty = refl;
  geometry = refl;
  disk = refl;
  offline = refl;
  faults = refl;
}
  where
    or_false : (b : Bool) → b ≡ (b || false)
    or_false true = refl
    or_false false = refl

pub enters_more : {D L : Type 0} (m : Meaning D) (start now next : Pool D L) (orders : List Order) (k first later : ℕ) → k < length orders → first ≡ (order_at orders k).first → later ≡ (order_at orders k).later → EntersOrders m (take k orders) start now → EntersOrders m (record { first = first; later = later } ∷ []) now next → EntersOrders m (take (k + 1) orders) start next
enters_more m start now next orders k first later inside is_first is_later before more = record {
  pool = more.pool;
  ordered = λ a b.
      let dirty_same : is_dirty now.dirty a ≡ is_dirty start.dirty a = ap (λ (d : DirtyPages). is_dirty d a) before.dirty in
      more.ordered a b ∙ rw (before.ordered a b, dirty_same, lists_more orders k a b inside, is_first, is_later) (regroup (is_ordered start.graph a b) (lists (take k orders) a b) ((order_at orders k).first == a && (order_at orders k).later == b) (is_dirty start.dirty a));
  dirty = more.dirty ∙ before.dirty;
  geometry = more.geometry ∙ before.geometry;
  disk = more.disk ∙ before.disk;
  offline = more.offline ∙ before.offline;
  faults = more.faults ∙ before.faults;
}
  where
    regroup : (o l x d : Bool) → ((o || (l && d)) || ((x || false) && d)) ≡ (o || ((l || x) && d))
    regroup true l x d = refl
    regroup false true true true = refl
    regroup false true true false = refl
    regroup false true false true = refl
    regroup false true false false = refl
    regroup false false true true = refl
    regroup false false true false = refl
    regroup false false false d = refl

-- the orders entered so far leave the next one open
pub enters_open : {D L : Type 0} (m : Meaning D) (start now : Pool D L) (orders : List Order) (k : ℕ) → EntersOrders m (take k orders) start now → IsOpen start.graph orders k → (first later : ℕ) → first ≡ (order_at orders k).first → later ≡ (order_at orders k).later → Precedes (is_ordered now.graph) later first → ⊥
enters_open m start now orders k entered open_ first later is_first is_later chain =
    open_ (precedes_in (is_ordered now.graph) (joint start.graph (take k orders)) grows _ _ (subst (λ (x : ℕ). Precedes (is_ordered now.graph) (order_at orders k).later x) is_first (subst (λ (x : ℕ). Precedes (is_ordered now.graph) x first) is_later chain)))
  where
    grows : (a b : ℕ) → is_ordered now.graph a b ≡ true → joint start.graph (take k orders) a b ≡ true
    grows a b o = elim (or_cases (is_ordered start.graph a b) _ (sym (entered.ordered a b) ∙ o)) [
      | inl own ↦ or_left _ _ own
      | inr listed ↦ or_right (is_ordered start.graph a b) _ (and_parts (lists (take k orders) a b) _ listed).0
    ]

-- a change is no fault
pub change_online : {D L : Type 0} (m : Meaning D) (old new : Pool D L) (pages : List BatchPage) (orders : List Order) → Changes m old new pages orders → old.offline ≡ None → StaysOnline m old new
change_online m old new pages orders changes online = (
  online,
  changes.enters.offline ∙ (changes.puts.offline ∙ (changes.written.offline ∙ online)),
  let counted : new.faults ≡ old.faults = changes.enters.faults ∙ (changes.puts.faults ∙ changes.written.faults) in
      let told : m.faults new.disk ≡ m.faults old.disk =
      ap m.faults (changes.enters.disk ∙ changes.puts.disk) ∙ changes.written.steady in
      let none : FailsNoWrite m old.disk new.disk =
      ap m.failed_writes (changes.enters.disk ∙ changes.puts.disk) ∙ changes.written.none_failed in
      cc,
)

-- the room that is left as a page is put
pub fits_more : (old new : DirtyPages) (pages : List BatchPage) (i : ℕ) → IsOnce pages → i < length pages → PutsContent old new (get_or pages i no_page).page (get_or pages i no_page).bytes → length old.pages + clean_count (is_dirty old) (drop i pages) ≤ 512 → length new.pages + clean_count (is_dirty new) (drop (i + 1) pages) ≤ 512
fits_more old new pages i once inside put fits =
    let rest = clean_rest (is_dirty old) pages i no_page inside in
    let same = clean_same (is_dirty old) (is_dirty new) (get_or pages i no_page).page (drop (i + 1) pages) (λ p apart. ap is_some (put.others p apart)) (none_after pages i no_page once inside) in
    at (is_dirty old (get_or pages i no_page).page) put.count rest same
  where
    at : (b : Bool) → length new.pages ≡ cond b (length old.pages) (length old.pages + 1) → clean_count (is_dirty old) (drop i pages) ≡ cond (not b) 1 0 + clean_count (is_dirty old) (drop (i + 1) pages) → clean_count (is_dirty new) (drop (i + 1) pages) ≡ clean_count (is_dirty old) (drop (i + 1) pages) → length new.pages + clean_count (is_dirty new) (drop (i + 1) pages) ≤ 512
    at true count rest same = omega arith
    at false count rest same = omega arith

-- after a change a crash leaves what it might leave after the page writes of the change
pub change_crash : {D L : Type 0} (m : Meaning D) (old new : Pool D L) (pages : List BatchPage) (orders : List Order) → Changes m old new pages orders → m.tells old.disk ≡ true → (image : Image) → m.held old.disk ≡ Some image → LeavesClosed m old.disk new.disk old.dirty old.graph image
change_crash {D} m old new pages orders changes told image held =
    let same : changes.ready.disk ≡ new.disk = sym changes.puts.disk ∙ sym changes.enters.disk in
    subst (λ (d : D). LeavesClosed m old.disk d old.dirty old.graph image) same (changes.written.crash told image held)

-- One page.

one_content : (page : ℕ) (bytes : List ℕ) (p : ℕ) → p ≢ page → content_in (record { page = page; bytes = bytes } ∷ []) p ≡ None
one_content page bytes p apart = rw (ne_eqb page p (λ e. apart (sym e))) refl

one_here : (page : ℕ) (bytes : List ℕ) → content_in (record { page = page; bytes = bytes } ∷ []) page ≡ Some bytes
one_here page bytes = rw (eq-eqb page page refl) refl

pub puts_one : {D L : Type 0} (m : Meaning D) (before after : Pool D L) (page : ℕ) (bytes : List ℕ) → IsPool m after → PutsContent before.dirty after.dirty page bytes → EntersPage before.graph after.graph page → after ≡ record before { dirty = after.dirty; graph = after.graph; clean = after.clean; rooms = after.rooms } → PutsPages m (content_in (record { page = page; bytes = bytes } ∷ [])) before after
puts_one {D} {L} m before after page bytes pool put enters same = record {
  pool = pool;
  contents = λ p. elim (cases_eq p page) [
    | inl e ↦ rw e (put.here ∙ sym (ap (λ (o : Option (List ℕ)). or_else o (content_of before.dirty page)) (one_here page bytes)))
    | inr apart ↦ put.others p apart ∙ sym (ap (λ (o : Option (List ℕ)). or_else o (content_of before.dirty p)) (one_content page bytes p apart))
  ];
  marks = put.marks;
  ordered = enters.ordered;
  size = put.size;
  geometry = ap (λ (p : Pool D L). p.geometry) same;
  disk = ap (λ (p : Pool D L). p.disk) same;
  offline = ap (λ (p : Pool D L). p.offline) same;
  faults = ap (λ (p : Pool D L). p.faults) same;
}

pub room_one : (dirty : DirtyPages) (page : ℕ) (bytes : List ℕ) → dirty_with dirty (record { page = page; bytes = bytes } ∷ []) ≤ 512 → content_of dirty page ≡ None → length dirty.pages < 512
room_one dirty page bytes fits none =
    let fits_more : length dirty.pages + (0 + cond {A = ℕ} (not (is_dirty dirty page)) 1 0) ≤ 512 = fits in
    let is : cond {A = ℕ} (not (is_dirty dirty page)) 1 0 ≡ 1 = ap (λ (o : Option (List ℕ)). cond {A = ℕ} (not (is_some o)) 1 0) none in
    omega (arith, fits_more, is)

-- a full table of which no page is put has to make room
pub overflow_one : (dirty : DirtyPages) (page : ℕ) (bytes : List ℕ) → is_dirty dirty page ≡ false → 512 ≤ length dirty.pages → 512 < dirty_with dirty (record { page = page; bytes = bytes } ∷ [])
overflow_one dirty page bytes out full =
    let is : cond {A = ℕ} (not (is_dirty dirty page)) 1 0 ≡ 1 = ap (λ (b : Bool). cond {A = ℕ} (not b) 1 0) out in
    let all : dirty_with dirty (record { page = page; bytes = bytes } ∷ []) ≡ length dirty.pages + (0 + cond {A = ℕ} (not (is_dirty dirty page)) 1 0) = refl in
    omega (arith, all, is, full)

-- the least dirty page is the least one outside a page that isn't dirty
pub least_but_one : (dirty : DirtyPages) (page : ℕ) (bytes : List ℕ) (least : Option ℕ) → is_dirty dirty page ≡ false → IsLeastPage (is_dirty dirty) least → IsLeastPage (λ p. is_dirty dirty p && not (is_in (record { page = page; bytes = bytes } ∷ []) p)) least
least_but_one dirty page bytes least out is = record {
  passes = λ p here. let there = is.passes p here in and_from _ _ there (ap (λ (o : Option (List ℕ)). not (is_some o)) (one_content page bytes p (λ e. both_ways _ out (ap (is_dirty dirty) (sym e) ∙ there))));
  least_of = λ p pass. is.least_of p (and_parts (is_dirty dirty p) _ pass).0;
}

-- putting pages leaves an order open
pub open_put : (old new : PageGraph) (orders : List Order) (k : ℕ) → ((a b : ℕ) → is_ordered new a b ≡ is_ordered old a b) → IsOpen old orders k → IsOpen new orders k
open_put old new orders k same open_ chain = open_ (precedes_in (joint new (take k orders)) (joint old (take k orders)) (λ a b o. sym (ap (λ (t : Bool). t || lists (take k orders) a b) (same a b)) ∙ o) _ _ chain)
