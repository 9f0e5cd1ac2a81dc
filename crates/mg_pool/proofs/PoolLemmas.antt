-- What the writing of one page leaves.
use Rattle.std.proofs.Common.{◌≡◌, ◌≢◌, ◌<◌, ◌≤◌, ℕ, ◌+◌, Bool, true, false, not, ◌||◌, ◌&&◌, ◌==◌, ◌⊎◌, inl, inr, List, length, Option, Some, None, is_some, arith, sym, ◌∙◌, ap, refl, cond, subst, unwrap_or}
use Rattle.std.proofs.lemmas.Bool.{cases_eq, cases_lt, both_ways, eqb-true, eq-eqb, ne_eqb, or_cases, or_left, or_right, or_parts, and_from, false_from_ne_true, not_from_false}
use Rattle.mg_base.specs.Image.{Image, page_at, written, length-written, page_at-written_same, page_at-written_other}
use Rattle.mg_base.specs.Disk.{Meaning, MayLeave, Elapses, Writes, Calm, Keeps, Stays}
use Rattle.mg_base.specs.Moments.{LeavesOnly}
use Rattle.std.specs.Prelude.{Result, Ok, Err, IfSome, max}
use Rattle.std.specs.Option.{option_copied}
use Rattle.std.proofs.Common.{Bor}
use Rattle.mg_careful.specs.Precedence.{Precedes, directly, through}
use Rattle.mg_careful.specs.Graph.{PageGraph, is_entered, is_ordered, entered_count, ClearsPage}
use Rattle.mg_careful.specs.CarefulWrite.{PageSet, IsClosed, overlay}
use Rattle.mg_pool.specs.Dirty.{DirtyPages, content_of, is_dirty, TakesOut}
use Rattle.mg_pool.specs.Pool.{shown, cache_of, IsTied, IsOverlay, IsClosedOverlay, with_page, WritesOut, WritesSet, HasAtMost, LeavesClosed, IsOnDisk, IsCounted}

-- the image with one dirty page written is the overlay of that page alone
pub overlay_one : (dirty : DirtyPages) (graph : PageGraph) (image : Image) (page : ℕ) (bytes : List ℕ) → content_of dirty page ≡ Some bytes → IsOverlay dirty graph image (λ p. p == page) (written dirty.size image page bytes)
overlay_one dirty graph image page bytes content = record {
  pages = λ p. elim (cases_eq p page) [
    | inl e ↦ rw (e, eq-eqb page page refl, content) (page_at-written_same dirty.size image page bytes)
    | inr apart ↦ rw (ne_eqb p page apart) (page_at-written_other dirty.size image page bytes p apart)
  ];
  as_long = omega (arith, length-written dirty.size image page bytes);
  reached = λ p holds. let e : p ≡ page = eqb-true p page holds in omega (arith, length-written dirty.size image page bytes, e);
  no_longer = λ end long none. elim (cases_lt page end) [
    | inl below ↦ omega (arith, length-written dirty.size image page bytes)
    | inr past ↦ absurd (both_ways (page == page) (none page past) (eq-eqb page page refl))
  ];
}

-- A dirty page that no page precedes is a closed set, and its overlay is the image with it written.
pub overlay_of_page : (dirty : DirtyPages) (graph : PageGraph) (image : Image) (page : ℕ) (bytes : List ℕ) → content_of dirty page ≡ Some bytes → ((q : ℕ) → is_ordered graph q page ≡ false) → IsClosedOverlay dirty graph image (written dirty.size image page bytes)
overlay_of_page dirty graph image page bytes content ready = record {
  set_ = λ p. p == page;
  closed = record {
    only_dirty = λ p holds. ap (is_dirty dirty) (eqb-true p page holds) ∙ ap is_some content;
    before = λ p q chain is holds. absurd (last_step p q (eqb-true q page holds) chain);
  };
  is = overlay_one dirty graph image page bytes content;
}
  where
    last_step : (p q : ℕ) → q ≡ page → Precedes (is_ordered graph) p q → ⊥
    last_step p q e (directly o) = both_ways (is_ordered graph p page) (ready p) (ap (is_ordered graph p) (sym e) ∙ o)
    last_step p q e (through {b = m} x y) = last_step m q e y

module _ (old new : DirtyPages) (graph less : PageGraph) (image : Image) (page : ℕ) (bytes : List ℕ) (content : content_of old page ≡ Some bytes) (whole : length bytes ≡ old.size) (taken : TakesOut old new page) (cleared : ClearsPage graph less page) (ready : (q : ℕ) → is_ordered graph q page ≡ false) where
  abbrev after : Image
  after = written old.size image page bytes

  dirty_before : is_dirty old page ≡ true
  dirty_before = ap is_some content

  clean_after : is_dirty new page ≡ false
  clean_after = ap is_some taken.here

  dirty_same : (p : ℕ) → p ≢ page → is_dirty new p ≡ is_dirty old p
  dirty_same p apart = ap is_some (taken.others p apart)

  pub still_dirty : (p : ℕ) → is_dirty new p ≡ true → (p ≢ page) × (is_dirty old p ≡ true)
  still_dirty p dirty =
      elim (cases_eq p page) [
        | inl e ↦ absurd (both_ways (is_dirty new page) clean_after (ap (is_dirty new) (sym e) ∙ dirty))
        | inr apart ↦ (apart, sym (dirty_same p apart) ∙ dirty)
      ]

  pub tied_after : IsTied old graph → IsTied new less
  tied_after tied = record {
    entered = λ p. cleared.entered p ∙ (elim (cases_eq p page) [
      | inl e ↦ rw (e, eq-eqb page page refl, clean_after) (and_not (is_entered graph page))
      | inr apart ↦ rw (ne_eqb p page apart, dirty_same p apart) (and_yes (is_entered graph p) ∙ tied.entered p)
    ]);
    count =
        let e : is_entered graph page ≡ true = tied.entered page ∙ dirty_before in
        let f : entered_count graph ≡ entered_count less + 1 = rw e at cleared.count in
        omega (arith, f, tied.count, taken.count);
  }
    where
      and_not : (b : Bool) → (b && not true) ≡ false
      and_not true = refl
      and_not false = refl

      and_yes : (b : Bool) → (b && not false) ≡ b
      and_yes true = refl
      and_yes false = refl

  pub shown_after : (p : ℕ) → shown new after p ≡ shown old image p
  shown_after p =
      elim (cases_eq p page) [
        | inl e ↦ rw (e, taken.here, content, taken.size) (page_at-written_same old.size image page bytes)
        | inr apart ↦ rw (taken.others p apart, taken.size) (ap (unwrap_or (content_of old p)) (page_at-written_other old.size image page bytes p apart))
      ]

  -- no page precedes the page
  first : (p : ℕ) → Precedes (is_ordered graph) p page → ⊥
  first p chain = last_step p page refl chain
    where
      last_step : (p q : ℕ) → q ≡ page → Precedes (is_ordered graph) p q → ⊥
      last_step p q e (directly o) = both_ways (is_ordered graph p page) (ready p) (ap (is_ordered graph p) (sym e) ∙ o)
      last_step p q e (through {b = m} x y) = last_step m q e y

  -- a chain that begins elsewhere never comes to the page
  chain_less : (p q : ℕ) → p ≢ page → Precedes (is_ordered graph) p q → Precedes (is_ordered less) p q × (q ≢ page)
  chain_less p q apart (directly o) =
      let there : q ≢ page = λ e. both_ways (is_ordered graph p page) (ready p) (ap (is_ordered graph p) (sym e) ∙ o) in
      (directly (cleared.ordered p q ∙ and_from _ _ o (and_from _ _ (not_from_false _ (ne_eqb p page apart)) (not_from_false _ (ne_eqb q page there)))), there)
  chain_less p r apart (through {b = q} x y) =
      let left = chain_less p q apart x in
      let right = chain_less q r left.1 y in
      (through left.0 right.0, right.1)

  -- a set that is closed now was closed with the page
  pub closed_with : (set_ : PageSet) → IsClosed (cache_of new less after) set_ → IsClosed (cache_of old graph image) (with_page set_ page)
  closed_with set_ closed = record {
    only_dirty = λ p holds. elim (or_cases (p == page) (set_ p) holds) [
      | inl e ↦ ap (is_dirty old) (eqb-true p page e) ∙ dirty_before
      | inr x ↦ (still_dirty p (closed.only_dirty p x)).1
    ];
    before = λ p q chain dirty holds. elim (cases_eq p page) [
      | inl e ↦ or_left (p == page) (set_ p) (eq-eqb p page e)
      | inr apart ↦
          let chain_left = chain_less p q apart chain in
          elim (or_cases (q == page) (set_ q) holds) [
            | inl e ↦ absurd (chain_left.1 (eqb-true q page e))
            | inr x ↦ or_right (p == page) (set_ p) (closed.before p q chain_left.0 (dirty_same p apart ∙ dirty) x)
          ]
    ];
  }

  pub overlay_with : (set_ : PageSet) → IsClosed (cache_of new less after) set_ → (p : ℕ) → overlay (cache_of new less after) set_ p ≡ overlay (cache_of old graph image) (with_page set_ page) p
  overlay_with set_ closed p =
      elim (cases_eq p page) [
        | inl e ↦
            let out : set_ page ≡ false = false_from_ne_true _ (λ x. both_ways (is_dirty new page) clean_after (closed.only_dirty page x)) in
            rw (e, out, eq-eqb page page refl, content, taken.size) (page_at-written_same old.size image page bytes)
        | inr apart ↦
            let disk_same : page_at new.size after p ≡ page_at old.size image p = ap (λ (k : ℕ). page_at k after p) taken.size ∙ page_at-written_other old.size image page bytes p apart in
            rw (ne_eqb p page apart, taken.others p apart) (at (set_ p) (content_of old p) disk_same)
      ]
    where
      at : (b : Bool) (o : Option (List ℕ)) {x y : List ℕ} → x ≡ y → cond b (unwrap_or o x) x ≡ cond b (unwrap_or o y) y
      at b o e = ap (λ (z : List ℕ). cond b (unwrap_or o z) z) e

  pub writes_out : WritesOut old new graph less image after page
  writes_out = record {
    size = taken.size;
    image = overlay_one old graph image page bytes content;
    shown_same = shown_after;
    closed = closed_with;
    overlays = overlay_with;
  }

-- What a crash leaves after one page write: what it might have left, or what the disk holds now.
pub leaves_after : {D T E : Type 0} (m : Meaning D) (old new : D) (page : ℕ) (bytes : List ℕ) (result : Result T E) (P : Image → Type 0) → Writes m old new page bytes result → m.tells old ≡ true → ((c : Image) → m.held new ≡ Some c → MayLeave m old c ⊎ P c) → LeavesOnly m old new (λ c. MayLeave m old c ⊎ P c)
leaves_after m old new page bytes result P writes told now = record {
  later = elapses.later;
  each = λ c left. elim (since (m.moment old) c (omega arith) left) [ inl before ↦ inl before | inr either ↦ either ];
  before = since;
}
  where
    elapses : Elapses m old new
    elapses = writes.keeps.time told

    since : (t : ℕ) (c : Image) → t ≤ m.moment old → m.left new t c → m.left old t c ⊎ (MayLeave m old c ⊎ P c)
    since t c early left =
        elim (elapses.nothing_else t c early left) [
          | inl before ↦ inl before
          | inr may ↦ inr (elim (writes.crash told c may) [ inl before ↦ inl before | inr holds ↦ now c holds ])
        ]

stays_some : (old new : Option ℕ) (n : ℕ) → old ≡ Some n → Stays old new → new ≡ Some n
stays_some None new n same stays = absurd cc
stays_some (Some m) new n same stays = stays ∙ same

pub size_stays : {D T E : Type 0} (m : Meaning D) (old new : D) (result : Result T E) (n : ℕ) → m.size old ≡ Some n → Keeps m old new result → m.size new ≡ Some n
size_stays m old new result n same keeps = stays_some (m.size old) (m.size new) n same keeps.size

-- what a disk holds after a page write that answered Ok
pub held_after : {D T E : Type 0} (m : Meaning D) (old new : D) (page : ℕ) (bytes : List ℕ) (x : T) → Writes {T = T} {E = E} m old new page bytes (Ok x) → (image c : Image) → m.held old ≡ Some image → m.held new ≡ Some c → c ≡ written (length bytes) image page bytes
held_after m old new page bytes x writes image c held now =
    let e : Some (written (length bytes) image page bytes) ≡ Some c = sym (writes.stored image held) ∙ now in
    let f : written (length bytes) image page bytes ≡ c = cc in
    sym f

-- and after one that failed
pub held_failed : {D T E : Type 0} (m : Meaning D) (old new : D) (page : ℕ) (bytes : List ℕ) (x : E) → Writes {T = T} {E = E} m old new page bytes (Err x) → (image c : Image) → m.held old ≡ Some image → m.held new ≡ Some c → (c ≡ image) ⊎ (c ≡ written (length bytes) image page bytes)
held_failed m old new page bytes x writes image c held now =
    elim (writes.failed image held) [
      | inl same ↦ let e : Some image ≡ Some c = sym same ∙ now in inl (let f : image ≡ c = cc in sym f)
      | inr same ↦ let e : Some (written (length bytes) image page bytes) ≡ Some c = sym same ∙ now in inr (let f : written (length bytes) image page bytes ≡ c = cc in sym f)
    ]

-- A disk that tells what a crash may leave tells what it holds.
abbrev pub Holds : {D : Type 0} → Meaning D → Type 0
Holds {D} m = (disk : D) → m.tells disk ≡ true → (image : Image) × (m.held disk ≡ Some image) × MayLeave m disk image

same_written : (page size : ℕ) (bytes : List ℕ) → length bytes ≡ size → (p : ℕ) → p ≢ page → (image : Image) → page_at size (written (length bytes) image page bytes) p ≡ page_at size image p
same_written page size bytes whole p apart image = rw whole (page_at-written_other size image page bytes p apart)

-- after a page write a clean page is still as on the disk
module _ {D T E : Type 0} (m : Meaning D) (holds : Holds m) (old new : D) (page size : ℕ) (bytes : List ℕ) (whole : length bytes ≡ size) (p : ℕ) (apart : p ≢ page) (content : List ℕ) (was : m.tells old ≡ true → (image : Image) → m.held old ≡ Some image → content ≡ page_at size image p) where
  pub clean_written : (x : T) → Writes {T = T} {E = E} m old new page bytes (Ok x) → m.tells new ≡ true → (image : Image) → m.held new ≡ Some image → content ≡ page_at size image p
  clean_written x writes told image now =
      let told_old = sym writes.keeps.tells ∙ told in
      let before = holds old told_old in
      let e = held_after m old new page bytes x writes before.0 image before.1 now in
      was told_old before.0 before.1 ∙ (sym (same_written page size bytes whole p apart before.0) ∙ ap (λ (i : Image). page_at size i p) (sym e))

  pub clean_failed : (x : E) → Writes {T = T} {E = E} m old new page bytes (Err x) → m.tells new ≡ true → (image : Image) → m.held new ≡ Some image → content ≡ page_at size image p
  clean_failed x writes told image now =
      let told_old = sym writes.keeps.tells ∙ told in
      let before = holds old told_old in
      was told_old before.0 before.1 ∙ (elim (held_failed m old new page bytes x writes before.0 image before.1 now) [
        | inl e ↦ ap (λ (i : Image). page_at size i p) (sym e)
        | inr e ↦ sym (same_written page size bytes whole p apart before.0) ∙ ap (λ (i : Image). page_at size i p) (sym e)
      ])

-- what a crash leaves after a page write that failed: what it might have left, or the written image
pub failed_leaves : {D T E : Type 0} (m : Meaning D) (holds : Holds m) (old new : D) (page : ℕ) (bytes : List ℕ) (x : E) → Writes {T = T} {E = E} m old new page bytes (Err x) → m.tells old ≡ true → (image : Image) → m.held old ≡ Some image → (c : Image) → m.held new ≡ Some c → MayLeave m old c ⊎ (c ≡ written (length bytes) image page bytes)
failed_leaves m holds old new page bytes x writes told image held c now =
    elim (held_failed m old new page bytes x writes image c held now) [
      | inl e ↦
          let before = holds old told in
          let same : Some before.0 ≡ Some c = sym before.1 ∙ (held ∙ ap Some (sym e)) in
          let f : before.0 ≡ c = cc in
          inl (subst (λ (i : Image). MayLeave m old i) f before.2)
      | inr e ↦ inr e
    ]

option_told : {X : Type 0} (o : Option X) → is_some o ≡ false → o ≡ None
option_told None out = refl
option_told (Some x) out = absurd cc

-- a page that isn't resident isn't dirty
pub absent_is_clean : (dirty : DirtyPages) (clean : ℕ → Option (List ℕ)) (page : ℕ) → is_some (cond (is_dirty dirty page) (content_of dirty page) (clean page)) ≡ false → is_dirty dirty page ≡ false
absent_is_clean dirty clean page out = at (is_dirty dirty page) refl out
  where
    at : (b : Bool) → is_dirty dirty page ≡ b → is_some (cond b (content_of dirty page) (clean page)) ≡ false → is_dirty dirty page ≡ false
    at true is none = none
    at false is none = is

-- a page is put beside the clean ones: what holds of each clean page
pub put_clean : (was now : ℕ → Option (List ℕ)) (page : ℕ) (content : List ℕ) → now page ≡ Some content → ((p : ℕ) (b : List ℕ) → p ≢ page → now p ≡ Some b → was p ≡ Some b) → (P : ℕ → List ℕ → Type 0) → P page content → ((p : ℕ) (bytes : List ℕ) → was p ≡ Some bytes → P p bytes) → (p : ℕ) (bytes : List ℕ) → now p ≡ Some bytes → P p bytes
put_clean was now page content here others P fresh old p bytes there =
    elim (cases_eq p page) [
      | inl e ↦
          let f : Some content ≡ Some bytes = sym here ∙ (ap now (sym e) ∙ there) in
          let h : content ≡ bytes = cc in
          subst (λ (q : ℕ). P q bytes) (sym e) (subst (λ (b : List ℕ). P page b) h fresh)
      | inr apart ↦ old p bytes (others p bytes apart there)
    ]

-- another one that was not there is not there
pub put_none : (was now : ℕ → Option (List ℕ)) (page p : ℕ) → ((q : ℕ) (b : List ℕ) → q ≢ page → now q ≡ Some b → was q ≡ Some b) → p ≢ page → was p ≡ None → now p ≡ None
put_none was now page p others apart none = at (now p) refl
  where
    at : (o : Option (List ℕ)) → now p ≡ o → now p ≡ None
    at None is = is
    at (Some b) is = (let e : None ≡ Some b = sym none ∙ others p b apart is in absurd cc)

pub some_copied : {X : Type 0} (o : Option (Bor X)) → is_some (option_copied o) ≡ is_some o
some_copied None = refl
some_copied (Some x) = refl

-- Several page writes, one after another.

-- no page is written
pub writes_none : (dirty : DirtyPages) (graph : PageGraph) (image : Image) → WritesSet dirty dirty graph graph image image (λ p. false)
writes_none dirty graph image = record {
  size = refl;
  image = record { pages = λ p. refl; as_long = omega arith; reached = λ p holds. absurd cc; no_longer = λ end long none. long };
  shown_same = λ p. refl;
  closed = λ set_ closed. closed;
  overlays = λ set_ closed p. refl;
}

-- an overlay of the pages as they are then is an overlay of those at the start, with the pages that
-- were written
pub overlay_then : (d0 d1 : DirtyPages) (g0 g1 : PageGraph) (i0 i1 : Image) (gone : PageSet) → WritesSet d0 d1 g0 g1 i0 i1 gone → (set_ : PageSet) → IsClosed (cache_of d1 g1 i1) set_ → (c : Image) → IsOverlay d1 g1 i1 set_ c → IsOverlay d0 g0 i0 (λ p. gone p || set_ p) c
overlay_then d0 d1 g0 g1 i0 i1 gone first set_ closed c is = record {
  pages = λ p. ap (λ (n : ℕ). page_at n c p) (sym first.size) ∙ (is.pages p ∙ first.overlays set_ closed p);
  as_long = omega (arith, first.image.as_long, is.as_long);
  reached = λ p holds. elim (or_cases (gone p) (set_ p) holds) [
    | inl x ↦ omega (arith, first.image.reached p x, is.as_long)
    | inr x ↦ is.reached p x
  ];
  no_longer = λ end long none.
      is.no_longer end (first.image.no_longer end long (λ p past. (or_parts (gone p) (set_ p) (none p past)).0)) (λ p past. (or_parts (gone p) (set_ p) (none p past)).1);
}

-- What a crash leaves over two runs of calls: what it might have left at the start, or an overlay of
-- a set that was closed then.
pub leaves_then : {D : Type 0} (m : Meaning D) (a b c : D) (d0 d1 : DirtyPages) (g0 g1 : PageGraph) (i0 i1 : Image) (gone : PageSet) → WritesSet d0 d1 g0 g1 i0 i1 gone → ((image : Image) → MayLeave m b image → m.left b (m.moment a) image) → LeavesClosed m a b d0 g0 i0 → LeavesClosed m b c d1 g1 i1 → LeavesClosed m a c d0 g0 i0
leaves_then m a b c d0 d1 g0 g1 i0 i1 gone writes now first next = record {
  later = omega (arith, first.later, next.later);
  each = λ image left. start image (next.before (m.moment a) image first.later left);
  before = λ t image early left. elim (next.before t image (omega (arith, first.later)) left) [
    | inl x ↦ first.before t image early x
    | inr y ↦ inr (state y)
  ];
}
  where
    state : {image : Image} → MayLeave m b image ⊎ IsClosedOverlay d1 g1 i1 image → MayLeave m a image ⊎ IsClosedOverlay d0 g0 i0 image
    state {image} (inl may) = first.each image (now image may)
    state {image} (inr over) = inr (record {
      set_ = λ p. gone p || over.set_ p;
      closed = writes.closed over.set_ over.closed;
      is = overlay_then d0 d1 g0 g1 i0 i1 gone writes over.set_ over.closed image over.is;
    })

    start : (image : Image) → m.left b (m.moment a) image ⊎ (MayLeave m b image ⊎ IsClosedOverlay d1 g1 i1 image) → MayLeave m a image ⊎ IsClosedOverlay d0 g0 i0 image
    start image (inl x) = first.each image x
    start image (inr y) = state y

-- one page more is written
pub writes_more : (d0 d1 d2 : DirtyPages) (g0 g1 g2 : PageGraph) (i0 i1 i2 : Image) (gone : PageSet) (page : ℕ) → WritesSet d0 d1 g0 g1 i0 i1 gone → WritesOut d1 d2 g1 g2 i1 i2 page → WritesSet d0 d2 g0 g2 i0 i2 (λ p. gone p || p == page)
writes_more d0 d1 d2 g0 g1 g2 i0 i1 i2 gone page first next = record {
  size = next.size ∙ first.size;
  image = overlay_then d0 d1 g0 g1 i0 i1 gone first (λ p. p == page) alone i2 next.image;
  shown_same = λ p. next.shown_same p ∙ first.shown_same p;
  closed = λ set_ closed. closed_same d0 g0 i0 _ _ (λ p. or_regroup (gone p) (p == page) (set_ p)) (first.closed (with_page set_ page) (next.closed set_ closed));
  overlays = λ set_ closed p. next.overlays set_ closed p ∙ (first.overlays (with_page set_ page) (next.closed set_ closed) p ∙ overlay_same d0 g0 i0 _ _ (λ q. or_regroup (gone q) (q == page) (set_ q)) p);
}
  where
    or_false : (x : Bool) → (x || false) ≡ x
    or_false true = refl
    or_false false = refl

    or_regroup : (x y z : Bool) → (x || (y || z)) ≡ ((x || y) || z)
    or_regroup true y z = refl
    or_regroup false y z = refl

    closed_same : (d : DirtyPages) (g : PageGraph) (i : Image) (a b : PageSet) → ((p : ℕ) → a p ≡ b p) → IsClosed (cache_of d g i) a → IsClosed (cache_of d g i) b
    closed_same d g i a b same closed = record {
      only_dirty = λ p holds. closed.only_dirty p (same p ∙ holds);
      before = λ p q chain dirty holds. sym (same p) ∙ closed.before p q chain dirty (same q ∙ holds);
    }

    alone : IsClosed (cache_of d1 g1 i1) (λ p. p == page)
    alone = closed_same d1 g1 i1 (with_page (λ _. false) page) (λ p. p == page) (λ p. or_false (p == page)) (next.closed (λ _. false) (record { only_dirty = λ p holds. absurd cc; before = λ p q chain dirty holds. absurd cc }))

    overlay_same : (d : DirtyPages) (g : PageGraph) (i : Image) (a b : PageSet) → ((p : ℕ) → a p ≡ b p) → (p : ℕ) → overlay (cache_of d g i) a p ≡ overlay (cache_of d g i) b p
    overlay_same d g i a b same p = rw (same p) refl

-- two runs of page writes
pub writes_then : (d0 d1 d2 : DirtyPages) (g0 g1 g2 : PageGraph) (i0 i1 i2 : Image) (gone more : PageSet) → WritesSet d0 d1 g0 g1 i0 i1 gone → WritesSet d1 d2 g1 g2 i1 i2 more → WritesSet d0 d2 g0 g2 i0 i2 (λ p. gone p || more p)
writes_then d0 d1 d2 g0 g1 g2 i0 i1 i2 gone more first next = record {
  size = next.size ∙ first.size;
  image = overlay_then d0 d1 g0 g1 i0 i1 gone first more alone i2 next.image;
  shown_same = λ p. next.shown_same p ∙ first.shown_same p;
  closed = λ set_ closed. same_closed d0 g0 i0 _ _ (λ p. regroup (gone p) (more p) (set_ p)) (first.closed _ (next.closed set_ closed));
  overlays = λ set_ closed p. next.overlays set_ closed p ∙ (first.overlays _ (next.closed set_ closed) p ∙ same_overlay d0 g0 i0 _ _ (λ q. regroup (gone q) (more q) (set_ q)) p);
}
  where
    or_none : (x : Bool) → (x || false) ≡ x
    or_none true = refl
    or_none false = refl

    regroup : (x y z : Bool) → (x || (y || z)) ≡ ((x || y) || z)
    regroup true y z = refl
    regroup false y z = refl

    same_closed : (d : DirtyPages) (g : PageGraph) (i : Image) (a b : PageSet) → ((p : ℕ) → a p ≡ b p) → IsClosed (cache_of d g i) a → IsClosed (cache_of d g i) b
    same_closed d g i a b same closed = record {
      only_dirty = λ p holds. closed.only_dirty p (same p ∙ holds);
      before = λ p q chain dirty holds. sym (same p) ∙ closed.before p q chain dirty (same q ∙ holds);
    }

    same_overlay : (d : DirtyPages) (g : PageGraph) (i : Image) (a b : PageSet) → ((p : ℕ) → a p ≡ b p) → (p : ℕ) → overlay (cache_of d g i) a p ≡ overlay (cache_of d g i) b p
    same_overlay d g i a b same p = rw (same p) refl

    alone : IsClosed (cache_of d1 g1 i1) more
    alone = same_closed d1 g1 i1 _ more (λ p. or_none (more p)) (next.closed (λ _. false) (record { only_dirty = λ p holds. absurd cc; before = λ p q chain dirty holds. absurd cc }))

-- the number of pages after a page write that answered Ok
pub on_disk_after : {D T E : Type 0} (m : Meaning D) (old new : D) (page : ℕ) (bytes : List ℕ) (x : T) → Writes {T = T} {E = E} m old new page bytes (Ok x) → (p : ℕ) → IsOnDisk m old p → IsOnDisk m new p
on_disk_after m old new page bytes x writes p there = (max there.0 (page + 1), writes.count there.0 there.1, omega (arith, there.2))

-- and after a call that changes nothing of the content
pub on_disk_calm : {D T E : Type 0} (m : Meaning D) (old new : D) (result : Result T E) → Calm m old new result → (p : ℕ) → IsOnDisk m old p → IsOnDisk m new p
on_disk_calm m old new result calm p there = (there.0, stays_some (m.count old) (m.count new) there.0 there.1 calm.count, there.2)

-- the number of pages stays known
pub counted_calm : {D T E : Type 0} (m : Meaning D) (old new : D) (result : Result T E) → Calm m old new result → IsCounted m old → IsCounted m new
counted_calm m old new result calm there = (there.0, stays_some (m.count old) (m.count new) there.0 there.1 calm.count)

-- it stays known over a page write, and the page that was written is one of them
pub counted_after : {D T E : Type 0} (m : Meaning D) (old new : D) (page : ℕ) (bytes : List ℕ) (x : T) → Writes {T = T} {E = E} m old new page bytes (Ok x) → IsCounted m old → IsCounted m new
counted_after m old new page bytes x writes there = (max there.0 (page + 1), writes.count there.0 there.1)

pub on_disk_written : {D T E : Type 0} (m : Meaning D) (old new : D) (page : ℕ) (bytes : List ℕ) (x : T) → Writes {T = T} {E = E} m old new page bytes (Ok x) → IsCounted m old → IsOnDisk m new page
on_disk_written m old new page bytes x writes there = (max there.0 (page + 1), writes.count there.0 there.1, omega arith)

-- A disk that has no more pages than it may has no more after a call that changes nothing of the
-- content, nor after the write of a page that it may have.
pub within_calm : {D T E : Type 0} (m : Meaning D) (old new : D) (result : Result T E) → Calm m old new result → (most : ℕ) → HasAtMost m old most → HasAtMost m new most
within_calm m old new result calm most has = (has.0, stays_some (m.count old) (m.count new) has.0 has.1 calm.count, has.2)

pub within_after : {D T E : Type 0} (m : Meaning D) (old new : D) (page : ℕ) (bytes : List ℕ) (x : T) → Writes {T = T} {E = E} m old new page bytes (Ok x) → (most : ℕ) → page < most → HasAtMost m old most → HasAtMost m new most
within_after m old new page bytes x writes most below has = (max has.0 (page + 1), writes.count has.0 has.1, omega (arith, has.2, below))

pub within_failed : {D T E : Type 0} (m : Meaning D) (old new : D) (page : ℕ) (bytes : List ℕ) (x : E) → Writes {T = T} {E = E} m old new page bytes (Err x) → (most : ℕ) → page < most → HasAtMost m old most → HasAtMost m new most
within_failed m old new page bytes x writes most below has = elim (writes.failed_count has.0 has.1) [
  | inl same ↦ (has.0, same, has.2)
  | inr more ↦ (max has.0 (page + 1), more, omega (arith, has.2, below))
]

-- a page that the disk has is one of these
pub below_within : {D : Type 0} (m : Meaning D) (disk : D) (count page most : ℕ) → m.count disk ≡ Some count → page < count → HasAtMost m disk most → page < most
below_within m disk count page most told below has =
    let both : Some count ≡ Some has.0 = sym told ∙ has.1 in
    let same : count ≡ has.0 = cc in omega (arith, same, below, has.2)

-- and the disk has it as it was written
pub stored_now : {D T E : Type 0} (m : Meaning D) (holds : Holds m) (old new : D) (page size : ℕ) (bytes : List ℕ) (x : T) → length bytes ≡ size → Writes {T = T} {E = E} m old new page bytes (Ok x) → m.tells new ≡ true → (image : Image) → m.held new ≡ Some image → bytes ≡ page_at size image page
stored_now m holds old new page size bytes x whole writes told image now =
    let before = holds old (sym writes.keeps.tells ∙ told) in
    let e = held_after m old new page bytes x writes before.0 image before.1 now in
    let f : image ≡ written size before.0 page bytes = e ∙ ap (λ (n : ℕ). written n before.0 page bytes) whole in
    sym (ap (λ (i : Image). page_at size i page) f ∙ page_at-written_same size before.0 page bytes)

-- What is kept of a page that was written.

of_some : (o : Option (List ℕ)) (b : List ℕ) (P : List ℕ → Type 0) → o ≡ Some b → IfSome o P → P b
of_some None b P is holds = let e : None ≡ Some b = is in absurd cc
of_some (Some a) b P is holds = let e : Some a ≡ Some b = is in let f : a ≡ b = cc in subst P f holds

pub kept_then : (C : Type 0) (was now : ℕ → Option (List ℕ)) (page : ℕ) (bytes : List ℕ) (copy content : Option (List ℕ)) → ((p : ℕ) (b : List ℕ) → now p ≡ Some b → (was p ≡ Some b) ⊎ ((p ≡ page) × (copy ≡ Some b))) → content ≡ Some bytes → IfSome copy (λ b. content ≡ Some b) → IfSome copy (λ b. C) → (P : ℕ → List ℕ → Type 0) → (C → P page bytes) → ((p : ℕ) (b : List ℕ) → was p ≡ Some b → P p b) → (p : ℕ) (b : List ℕ) → now p ≡ Some b → P p b
kept_then C was now page bytes copy content kept is same told P fresh stays p b there =
    elim (kept p b there) [
      | inl before ↦ stays p b before
      | inr put ↦
          let c : C = of_some copy b (λ x. C) put.1 told in
          let e : Some bytes ≡ Some b = sym is ∙ of_some copy b (λ x. content ≡ Some x) put.1 same in
          let f : bytes ≡ b = cc in
          subst (λ (q : ℕ). P q b) (sym put.0) (subst (λ (y : List ℕ). P page y) f (fresh c))
    ]

pub kept_none : (was now : ℕ → Option (List ℕ)) (page p : ℕ) (copy : Option (List ℕ)) → ((q : ℕ) (b : List ℕ) → now q ≡ Some b → (was q ≡ Some b) ⊎ ((q ≡ page) × (copy ≡ Some b))) → p ≢ page → was p ≡ None → now p ≡ None
kept_none was now page p copy kept apart none = at (now p) refl
  where
    at : (o : Option (List ℕ)) → now p ≡ o → now p ≡ None
    at None is = is
    at (Some b) is = elim (kept p b is) [
      | inl before ↦ (let e : None ≡ Some b = sym none ∙ before in absurd cc)
      | inr put ↦ absurd (apart put.0)
    ]

-- a page write that failed leaves each page as it is shown
pub shown_failed : {D T E : Type 0} (m : Meaning D) (old new : D) (dirty : DirtyPages) (page : ℕ) (bytes : List ℕ) (x : E) → content_of dirty page ≡ Some bytes → length bytes ≡ dirty.size → Writes {T = T} {E = E} m old new page bytes (Err x) → (i j : Image) → m.held old ≡ Some i → m.held new ≡ Some j → (p : ℕ) → shown dirty j p ≡ shown dirty i p
shown_failed m old new dirty page bytes x content whole writes i j held_i held_j p =
    elim (held_failed m old new page bytes x writes i j held_i held_j) [
      | inl e ↦ ap (λ (k : Image). shown dirty k p) e
      | inr e ↦ elim (cases_eq p page) [
        | inl same ↦ rw (same, content) refl
        | inr apart ↦ ap (λ (k : Image). shown dirty k p) e ∙ ap (unwrap_or (content_of dirty p)) (same_written page dirty.size bytes whole p apart i)
      ]
    ]
