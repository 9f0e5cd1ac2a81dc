-- A run of page writes: what a pool has become since it began.
use Rattle.std.proofs.Common.{◌≡◌, ◌≢◌, ◌≤◌, ℕ, ◌+◌, ◌-◌, Bool, true, false, not, ◌||◌, ◌&&◌, ◌==◌, ◌⊎◌, inl, inr, Some, is_some, sym, ◌∙◌, ap, refl, arith, subst}
use Rattle.std.specs.Prelude.{Result, Ok, Err, OnOk, OnErr, min, ◌^◌}
use Rattle.std.proofs.lemmas.Bool.{cases_Bool, cases_eq, eq-eqb, ne_eqb, both_ways, and_parts, and_from, false_from_ne_true}
use Rattle.mg_base.specs.Image.{Image}
use Rattle.mg_base.specs.Disk.{Keeps, Meaning, MayLeave, Rose}
use Rattle.mg_careful.specs.Graph.{PageGraph, IsFirstReady, is_ordered}
use Rattle.mg_careful.specs.GraphLaws.{ordered_entered, precedes_entered}
use Rattle.mg_pool.specs.Fault.{Counts}
use Rattle.mg_pool.specs.Run.{HasWritten, TimeGoesOn, WritesPage}
use Rattle.mg_careful.specs.Precedence.{Orders, Precedes, directly, through}
use Rattle.mg_careful.specs.PrecedenceLaws.{precedes_in}
use Rattle.mg_careful.specs.CarefulWrite.{PageSet}
use Rattle.mg_pool.specs.declared.pool.Pool.{Pool}
use Rattle.mg_pool.specs.Dirty.{DirtyPages, is_dirty, TakesOut}
use Rattle.mg_pool.specs.Pool.{IsTied, IsPool, WritesSet, taken_out, LeavesClosed, KeepsPages}
use Rattle.mg_pool.proofs.RestLemmas.{rest_all, rest_then}
use Rattle.mg_pool.proofs.PoolLemmas.{Holds, writes_none, writes_more, writes_then, leaves_then}

-- what a crash may leave now is among what a crash since an earlier moment might have left
abbrev pub CountsNow : {D : Type 0} → Meaning D → Type 0
CountsNow {D} m = (disk : D) (t : ℕ) (image : Image) → m.tells disk ≡ true → t ≤ m.moment disk → MayLeave m disk image → m.left disk t image

-- nothing has happened yet
leaves_none : {D : Type 0} (m : Meaning D) (disk : D) (dirty : DirtyPages) (graph : PageGraph) (image : Image) → LeavesClosed m disk disk dirty graph image
leaves_none m disk dirty graph image = record { later = omega arith; each = λ c left. inl left; before = λ t c early left. inl left }

-- what a crash leaves over a run of page writes and one call more
pub run_leaves : {D L : Type 0} (m : Meaning D) → Holds m → CountsNow m → (start now : Pool D L) (next : D) → HasWritten m start now → (m.tells now.disk ≡ true → (image : Image) → m.held now.disk ≡ Some image → LeavesClosed m now.disk next now.dirty now.graph image) → m.tells start.disk ≡ true → (old : Image) → m.held start.disk ≡ Some old → LeavesClosed m start.disk next start.dirty start.graph old
run_leaves m holds counts start now next run crash told old held =
    let told_now = run.tells ∙ told in
    let middle = holds now.disk told_now in
    let first = run.crash told old held in
    leaves_then m start.disk now.disk next start.dirty now.dirty start.graph now.graph old middle.0 (taken_out start.dirty now.dirty) (run.out told old middle.0 held middle.1)
    (λ image may. counts now.disk (m.moment start.disk) image told_now first.later may) first (crash told_now middle.0 middle.1)

-- time goes on at a disk that was not called, over one call, and over two runs
pub time_stands : {D : Type 0} (m : Meaning D) (disk : D) → TimeGoesOn m disk disk
time_stands m disk = record {
  tells = refl;
  most_writes = refl;
  never_falls = omega arith;
  failed_writes = omega arith;
  later = λ told. omega arith;
  keeps = λ told t c early left. left;
}

pub time_of_call : {D T E : Type 0} (m : Meaning D) (old new : D) (result : Result T E) → Keeps m old new result
    → m.failed_writes old ≤ m.failed_writes new → TimeGoesOn m old new
time_of_call m old new result keeps failed = record {
  tells = keeps.tells;
  most_writes = keeps.most_writes;
  never_falls = keeps.never_falls;
  failed_writes = failed;
  later = λ told. (keeps.time told).later;
  keeps = λ told. (keeps.time told).keeps;
}

pub time_then : {D : Type 0} (m : Meaning D) (a b c : D) → TimeGoesOn m a b → TimeGoesOn m b c → TimeGoesOn m a c
time_then m a b c first next = record {
  tells = next.tells ∙ first.tells;
  most_writes = next.most_writes ∙ first.most_writes;
  never_falls = omega (arith, first.never_falls, next.never_falls);
  failed_writes = omega (arith, first.failed_writes, next.failed_writes);
  later = λ told. let one = first.later told in let two = next.later (first.tells ∙ told) in omega (arith, one, two);
  keeps = λ told t image early left. let one = first.later told in
      next.keeps (first.tells ∙ told) t image (omega (arith, early, one)) (first.keeps told t image early left);
}

-- the same pages were written, told by another test
writes_same : (d0 d1 : DirtyPages) (g0 g1 : PageGraph) (i0 i1 : Image) (gone other : PageSet) → ((p : ℕ) → gone p ≡ other p) → WritesSet d0 d1 g0 g1 i0 i1 gone → WritesSet d0 d1 g0 g1 i0 i1 other
writes_same d0 d1 g0 g1 i0 i1 gone other same writes = record {
  size = writes.size;
  image = record {
    pages = λ p. writes.image.pages p ∙ rw (same p) refl;
    as_long = writes.image.as_long;
    reached = λ p holds. writes.image.reached p (same p ∙ holds);
    no_longer = λ end long none. writes.image.no_longer end long (λ p past. same p ∙ none p past);
  };
  shown_same = writes.shown_same;
  closed = λ set_ closed. let before = writes.closed set_ closed in record {
    only_dirty = λ p holds. before.only_dirty p (ap (λ (b : Bool). b || set_ p) (same p) ∙ holds);
    before = λ p q chain dirty holds. sym (ap (λ (b : Bool). b || set_ p) (same p)) ∙ before.before p q chain dirty (ap (λ (b : Bool). b || set_ q) (same q) ∙ holds);
  };
  overlays = λ set_ closed p. writes.overlays set_ closed p ∙ rw (same p) refl;
}

-- nothing is taken out yet
none_taken : (dirty : DirtyPages) (page : ℕ) → false ≡ taken_out dirty dirty page
none_taken dirty page = at (is_dirty dirty page)
  where
    at : (b : Bool) → false ≡ (b && not b)
    at true = refl
    at false = refl

-- one page more is taken out
more_taken : (d0 d1 d2 : DirtyPages) (page : ℕ) → TakesOut d1 d2 page → is_dirty d0 page ≡ true → (p : ℕ) → (taken_out d0 d1 p || p == page) ≡ taken_out d0 d2 p
more_taken d0 d1 d2 page taken dirty p =
    elim (cases_eq p page) [
      | inl e ↦ rw (e, taken.here, dirty, eq-eqb page page refl) (or_true (not (is_dirty d1 page)))
      | inr apart ↦ rw (ne_eqb p page apart, taken.others p apart) (or_false (taken_out d0 d1 p))
    ]
  where
    or_true : (b : Bool) → (b || true) ≡ true
    or_true true = refl
    or_true false = refl

    or_false : (b : Bool) → (b || false) ≡ b
    or_false true = refl
    or_false false = refl

-- an order of the graph is between dirty pages
tied_orders : (dirty : DirtyPages) (graph : PageGraph) → IsTied dirty graph → (a b : ℕ) → is_ordered graph a b ≡ (is_ordered graph a b && (is_dirty dirty a && is_dirty dirty b))
tied_orders dirty graph tied a b = at (is_ordered graph a b) refl
  where
    at : (t : Bool) → is_ordered graph a b ≡ t → t ≡ (t && (is_dirty dirty a && is_dirty dirty b))
    at false is = refl
    at true is = let both = ordered_entered graph a b is in sym (and_from _ _ (sym (tied.entered a) ∙ both.0) (sym (tied.entered b) ∙ both.1))

pub run_starts : {D L : Type 0} (m : Meaning D) (start : Pool D L) → IsPool m start → HasWritten m start start
run_starts m start pool = record {
  pool = pool;
  geometry = refl;
  offline = refl;
  faults = refl;
  steady = refl;
  none_failed = refl;
  tells = refl;
  fewer = λ page dirty. dirty;
  count = omega arith;
  size = refl;
  contents = λ page dirty. refl;
  marks = λ page who dirty. refl;
  rest = rest_all start.dirty;
  asked = omega arith;
  orders = tied_orders start.dirty start.graph pool.tied;
  before = λ a b o out. absurd (both_ways _ out (sym (pool.tied.entered b) ∙ (ordered_entered start.graph a b o).1));
  time = time_stands m start.disk;
  crash = λ told old held. leaves_none m start.disk start.dirty start.graph old;
  out = λ told old new held_old held_new.
      let e : Some old ≡ Some new = sym held_old ∙ held_new in
      let f : old ≡ new = cc in
      rw (← f) (writes_same start.dirty start.dirty start.graph start.graph old old (λ p. false) _ (none_taken start.dirty) (writes_none start.dirty start.graph old));
}

-- one page write more
module _ {D L : Type 0} (m : Meaning D) (holds : Holds m) (counts : CountsNow m) (start now next : Pool D L) (page : ℕ) (run : HasWritten m start now) (dirty : is_dirty now.dirty page ≡ true) (ready : (q : ℕ) → is_ordered now.graph q page ≡ false) (w : WritesPage m now next page) where
  clean_there : is_dirty next.dirty page ≡ false
  clean_there = ap is_some w.taken.here

  same_else : (p : ℕ) → p ≢ page → is_dirty next.dirty p ≡ is_dirty now.dirty p
  same_else p apart = ap is_some (w.taken.others p apart)

  dirty_as : (p : ℕ) → is_dirty next.dirty p ≡ (is_dirty now.dirty p && not (p == page))
  dirty_as p = elim (cases_eq p page) [
    | inl e ↦ rw (e, clean_there, eq-eqb page page refl) (sym (and_false (is_dirty now.dirty page)))
    | inr apart ↦ rw (ne_eqb p page apart, same_else p apart) (sym (and_true (is_dirty now.dirty p)))
  ]
    where
      and_false : (b : Bool) → (b && not true) ≡ false
      and_false true = refl
      and_false false = refl

      and_true : (b : Bool) → (b && not false) ≡ b
      and_true true = refl
      and_true false = refl

  still : (p : ℕ) → is_dirty next.dirty p ≡ true → (p ≢ page) × (is_dirty now.dirty p ≡ true)
  still p there = elim (cases_eq p page) [
    | inl e ↦ absurd (both_ways _ clean_there (ap (is_dirty next.dirty) (sym e) ∙ there))
    | inr apart ↦ (apart, sym (same_else p apart) ∙ there)
  ]

  order_less : (o x y s t : Bool) → ((o && (x && y)) && (not s && not t)) ≡ (o && ((x && not s) && (y && not t)))
  order_less true true true true t = refl
  order_less true true true false t = refl
  order_less true true false true t = refl
  order_less true true false false t = refl
  order_less true false y s t = refl
  order_less false x y s t = refl

  pub run_goes_on : HasWritten m start next
  run_goes_on = record {
    pool = w.pool;
    geometry = w.geometry ∙ run.geometry;
    offline = w.offline ∙ run.offline;
    faults = w.faults ∙ run.faults;
    steady = w.steady ∙ run.steady;
    none_failed = w.none_failed ∙ run.none_failed;
    tells = w.tells ∙ run.tells;
    fewer = λ p there. run.fewer p (still p there).1;
    count = omega (arith, w.taken.count, run.count);
    asked = omega (arith, w.taken.count, w.asked, run.asked);
    rest = rest_then (is_dirty now.dirty) (λ p. not (p == page)) (is_dirty next.dirty) start.dirty.pages now.dirty.pages next.dirty.pages run.rest w.taken.rest (λ p. sym (dirty_as p));
    size = w.taken.size ∙ run.size;
    contents = λ p there. let s = still p there in w.taken.others p s.0 ∙ run.contents p s.1;
    marks = λ p who there. let s = still p there in w.taken.marks p who s.0 ∙ run.marks p who s.1;
    orders = λ a b. w.cleared.ordered a b ∙ rw (run.orders a b, dirty_as a, dirty_as b) (order_less (is_ordered start.graph a b) (is_dirty now.dirty a) (is_dirty now.dirty b) (a == page) (b == page));
    before = λ a b o out. false_from_ne_true _ (λ there.
        let s = still a there in
        elim (cases_eq b page) [
          | inl e ↦ both_ways _ (ready a) (ap (is_ordered now.graph a) (sym e) ∙ (run.orders a b ∙ and_from _ _ o (and_from _ _ s.1 (ap (is_dirty now.dirty) e ∙ dirty))))
          | inr apart ↦ both_ways _ (run.before a b o (sym (same_else b apart) ∙ out)) s.1
        ]);
    time = time_then m start.disk now.disk next.disk run.time w.time;
    crash = run_leaves m holds counts start now next.disk run w.crash;
    out = λ told old new held_old held_new.
        let middle = holds now.disk (run.tells ∙ told) in
        let first = run.out told old middle.0 held_old middle.1 in
        writes_same start.dirty next.dirty start.graph next.graph old new _ _ (more_taken start.dirty now.dirty next.dirty page w.taken (run.fewer page dirty))
        (writes_more start.dirty now.dirty next.dirty start.graph now.graph next.graph old middle.0 new (taken_out start.dirty now.dirty) page first (w.out middle.0 new middle.1 held_new));
  }

-- the page that may be written first towards a dirty goal is dirty
pub due_is_dirty : (dirty : DirtyPages) (graph : PageGraph) (goal page : ℕ) → IsTied dirty graph → is_dirty dirty goal ≡ true → IsFirstReady graph goal page → is_dirty dirty page ≡ true
due_is_dirty dirty graph goal page tied there first =
    elim first.ready.due [
      | inl e ↦ ap (is_dirty dirty) e ∙ there
      | inr chain ↦ sym (tied.entered page) ∙ (precedes_entered graph page goal chain).0
    ]

-- two runs of page writes
pub run_then : {D L : Type 0} (m : Meaning D) → Holds m → CountsNow m → (a b c : Pool D L) → HasWritten m a b → HasWritten m b c → HasWritten m a c
run_then m holds counts a b c first next = record {
  pool = next.pool;
  geometry = next.geometry ∙ first.geometry;
  offline = next.offline ∙ first.offline;
  faults = next.faults ∙ first.faults;
  steady = next.steady ∙ first.steady;
  none_failed = next.none_failed ∙ first.none_failed;
  tells = next.tells ∙ first.tells;
  fewer = λ p dirty. first.fewer p (next.fewer p dirty);
  count = omega (arith, first.count, next.count);
  asked = omega (arith, first.asked, next.asked);
  rest = rest_then (is_dirty b.dirty) (is_dirty c.dirty) (is_dirty c.dirty) a.dirty.pages b.dirty.pages c.dirty.pages first.rest next.rest (λ p. both (is_dirty b.dirty p) (is_dirty c.dirty p) (next.fewer p));
  size = next.size ∙ first.size;
  contents = λ p dirty. next.contents p dirty ∙ first.contents p (next.fewer p dirty);
  marks = λ p who dirty. next.marks p who dirty ∙ first.marks p who (next.fewer p dirty);
  orders = λ x y. next.orders x y ∙ (ap (λ (o : Bool). o && (is_dirty c.dirty x && is_dirty c.dirty y)) (first.orders x y) ∙ less (is_ordered a.graph x y) (is_dirty b.dirty x) (is_dirty b.dirty y) (is_dirty c.dirty x) (is_dirty c.dirty y) (next.fewer x) (next.fewer y));
  before = λ x y o out. elim (cases_Bool (is_dirty b.dirty y)) [
    | inl there ↦ elim (cases_Bool (is_dirty b.dirty x)) [
      | inl here ↦ next.before x y (first.orders x y ∙ and_from _ _ o (and_from _ _ here there)) out
      | inr gone ↦ false_from_ne_true _ (λ back. both_ways _ gone (next.fewer x back))
    ]
    | inr gone ↦ false_from_ne_true _ (λ back. both_ways _ (first.before x y o gone) (next.fewer x back))
  ];
  time = time_then m a.disk b.disk c.disk first.time next.time;
  crash = run_leaves m holds counts a b c.disk first next.crash;
  out = λ told old new held_old held_new.
      let middle = holds b.disk (first.tells ∙ told) in
      writes_same a.dirty c.dirty a.graph c.graph old new _ _ taken
      (writes_then a.dirty b.dirty c.dirty a.graph b.graph c.graph old middle.0 new (taken_out a.dirty b.dirty) (taken_out b.dirty c.dirty) (first.out told old middle.0 held_old middle.1) (next.out (first.tells ∙ told) middle.0 new middle.1 held_new));
}
  where
    both : (x y : Bool) → (y ≡ true → x ≡ true) → (x && y) ≡ y
    both true y sub = refl
    both false true sub = sub refl
    both false false sub = refl

    less : (o x y s t : Bool) → (s ≡ true → x ≡ true) → (t ≡ true → y ≡ true) → ((o && (x && y)) && (s && t)) ≡ (o && (s && t))
    less false x y s t f g = refl
    less true true true s t f g = refl
    less true false y true t f g = absurd (let h : false ≡ true = f refl in cc)
    less true false y false t f g = refl
    less true true false true true f g = absurd (let h : false ≡ true = g refl in cc)
    less true true false true false f g = refl
    less true true false false t f g = refl

    taken : (p : ℕ) → (taken_out a.dirty b.dirty p || taken_out b.dirty c.dirty p) ≡ taken_out a.dirty c.dirty p
    taken p = at (is_dirty a.dirty p) (is_dirty b.dirty p) (is_dirty c.dirty p) (first.fewer p) (next.fewer p)
      where
        at : (x y z : Bool) → (y ≡ true → x ≡ true) → (z ≡ true → y ≡ true) → ((x && not y) || (y && not z)) ≡ (x && not z)
        at true true z f g = refl
        at true false true f g = absurd (let h : false ≡ true = g refl in cc)
        at true false false f g = refl
        at false true z f g = absurd (let h : false ≡ true = f refl in cc)
        at false false z f g = refl

-- a page that two runs took out was taken out by one of them
pub taken_cases : {D L : Type 0} (m : Meaning D) (a b c : Pool D L) → (p : ℕ) → taken_out a.dirty c.dirty p ≡ true → (taken_out a.dirty b.dirty p ≡ true) ⊎ (taken_out b.dirty c.dirty p ≡ true)
taken_cases m a b c p out = at (is_dirty a.dirty p) (is_dirty b.dirty p) (is_dirty c.dirty p) out
  where
    at : (x y z : Bool) → (x && not z) ≡ true → ((x && not y) ≡ true) ⊎ ((y && not z) ≡ true)
    at true true z o = inr o
    at true false z o = inl refl
    at false y z o = absurd cc

-- what precedes by the orders of a run's end preceded at its start
pub run_precedes : {D L : Type 0} (m : Meaning D) (a b : Pool D L) → HasWritten m a b → (p q : ℕ) → Precedes (is_ordered b.graph) p q → Precedes (is_ordered a.graph) p q
run_precedes m a b run p q chain = precedes_in (is_ordered b.graph) (is_ordered a.graph) (λ x y o. (and_parts (is_ordered a.graph x y) _ (sym (run.orders x y) ∙ o)).0) p q chain

-- what precedes a page that isn't dirty any longer isn't either
pub chain_before : {D L : Type 0} (m : Meaning D) (a b : Pool D L) → HasWritten m a b → (p q : ℕ) → Precedes (is_ordered a.graph) p q → is_dirty b.dirty q ≡ false → is_dirty b.dirty p ≡ false
chain_before m a b run p q (directly o) out = run.before p q o out
chain_before m a b run p r (through {b = q} x y) out = chain_before m a b run p q x (chain_before m a b run q r y out)

-- where nothing is ordered before a page any longer, all that preceded it is written
pub chain_ready : {D L : Type 0} (m : Meaning D) (a b : Pool D L) → HasWritten m a b → (goal : ℕ) → ((q : ℕ) → is_ordered b.graph q goal ≡ false) → (p q : ℕ) → q ≡ goal → Precedes (is_ordered a.graph) p q → is_dirty b.dirty p ≡ false
chain_ready m a b run goal ready p q e (directly o) = elim (cases_Bool (is_dirty b.dirty q)) [
  | inl there ↦ false_from_ne_true _ (λ here. both_ways _ (ready p) (ap (is_ordered b.graph p) (sym e) ∙ (run.orders p q ∙ and_from _ _ o (and_from _ _ here there))))
  | inr gone ↦ run.before p q o gone
]
chain_ready m a b run goal ready p r e (through {b = q} x y) = chain_before m a b run p q x (chain_ready m a b run goal ready q r e y)

-- a fault that was counted after a run of page writes
pub counted : {D L : Type 0} (m : Meaning D) (a b c : Pool D L) → HasWritten m a b → (n : ℕ) → Counts m b c n → Counts m a c n
counted m a b c run n tells = (
  tells.0,
  subst (λ (k : ℕ). n ≡ min (k + 1) (2 ^ 64 - 1)) run.faults tells.1,
  subst (λ (k : ℕ). Rose k (m.faults c.disk)) run.steady tells.2,
)

-- The contents over page writes.

pub keeps_run : {D L : Type 0} (m : Meaning D) (a b : Pool D L) → HasWritten m a b → KeepsPages m a b
keeps_run m a b run = record {
  geometry = run.geometry;
  same_shown = λ told i j held_i held_j page. (run.out told i j held_i held_j).shown_same page;
  contents = run.contents;
}

-- a call after a run of page writes
pub keeps_then : {D L : Type 0} (m : Meaning D) → Holds m → (a b c : Pool D L) → HasWritten m a b → KeepsPages m b c → KeepsPages m a c
keeps_then m holds a b c run next = record {
  geometry = next.geometry ∙ run.geometry;
  same_shown = λ told i j held_i held_j page.
      let middle = holds b.disk (run.tells ∙ told) in
      next.same_shown (run.tells ∙ told) middle.0 j middle.1 held_j page ∙ (run.out told i middle.0 held_i middle.1).shown_same page;
  contents = λ page dirty. next.contents page dirty ∙ run.contents page (kept_dirty page dirty);
}
  where
    kept_dirty : (page : ℕ) → is_dirty c.dirty page ≡ true → is_dirty b.dirty page ≡ true
    kept_dirty page dirty = sym (ap is_some (next.contents page dirty)) ∙ dirty

-- a page that no order makes later is preceded by none
pub none_precedes : (ordered : Orders) (goal : ℕ) → ((q : ℕ) → ordered q goal ≡ false) → (p : ℕ) → Precedes ordered p goal → ⊥
none_precedes ordered goal ready p chain = last_step p goal refl chain
  where
    last_step : (p q : ℕ) → q ≡ goal → Precedes ordered p q → ⊥
    last_step p q e (directly o) = both_ways (ordered p goal) (ready p) (ap (ordered p) (sym e) ∙ o)
    last_step p q e (through {b = b} x y) = last_step b q e y

-- another page than the goal that may be written first towards it precedes it
pub due_precedes : (graph : PageGraph) (goal page : ℕ) → IsFirstReady graph goal page → page ≢ goal → Precedes (is_ordered graph) page goal
due_precedes graph goal page first apart = elim first.ready.due [ inl e ↦ absurd (apart e) | inr chain ↦ chain ]

-- a page that precedes another is dirty, and so is the other
pub precedes_dirty : (dirty : DirtyPages) (graph : PageGraph) → IsTied dirty graph → (p q : ℕ) → Precedes (is_ordered graph) p q → (is_dirty dirty p ≡ true) × (is_dirty dirty q ≡ true)
precedes_dirty dirty graph tied p q chain = let both = precedes_entered graph p q chain in (sym (tied.entered p) ∙ both.0, sym (tied.entered q) ∙ both.1)

pub taken_one : (old new : DirtyPages) (page : ℕ) → TakesOut old new page → (p : ℕ) → taken_out old new p ≡ true → p ≡ page
taken_one old new page taken p out = elim (cases_eq p page) [
  | inl e ↦ e
  | inr apart ↦ absurd (at (is_dirty old p) (is_dirty new p) (ap is_some (taken.others p apart)) out)
]
  where
    at : (x y : Bool) → y ≡ x → (x && not y) ≡ true → ⊥
    at true true e out = let h : false ≡ true = out in cc
    at true false e out = let h : false ≡ true = e in cc
    at false y e out = let h : false ≡ true = out in cc

pub none_taken_out : (dirty : DirtyPages) (p : ℕ) → taken_out dirty dirty p ≡ true → ⊥
none_taken_out dirty p out = both_ways _ (sym (none_taken dirty p)) out

-- a page that was dirty and isn't was taken out
pub taken_from : (old new : DirtyPages) (p : ℕ) → is_dirty old p ≡ true → is_dirty new p ≡ false → taken_out old new p ≡ true
taken_from old new p was gone = rw (was, gone) refl

pub taken_parts : (old new : DirtyPages) (p : ℕ) → taken_out old new p ≡ true → (is_dirty old p ≡ true) × (is_dirty new p ≡ false)
taken_parts old new p out = at (is_dirty old p) (is_dirty new p) out
  where
    at : (x y : Bool) → (x && not y) ≡ true → (x ≡ true) × (y ≡ false)
    at true true out = let h : false ≡ true = out in absurd cc
    at true false out = (refl, refl)
    at false y out = let h : false ≡ true = out in absurd cc

-- what follows at Ok from what holds at Ok
pub on_ok : {T E : Type 0} (r : Result T E) (P Q : Type 0) → (P → Q) → OnOk r P → OnOk r Q
on_ok (Ok x) P Q turn holds = turn holds
on_ok (Err e) P Q turn holds = holds

pub on_err : {T E : Type 0} (r : Result T E) (P : Type 0) → P → OnErr r P
on_err (Ok x) P holds = tt
on_err (Err e) P holds = holds
