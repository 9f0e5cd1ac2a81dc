-- Lemmas of a table that gets a data page.
use Rattle.std.proofs.Common.{◌≡◌, ◌++◌, ◌∙◌, ◌<◌, ◌+◌, ◌-◌, ◌/◌, ◌⊎◌, arith, inl, inr, ℕ, Bool, true, false, List, length, append_assoc, sym, ap, subst, Result, Ok, Err}
use Rattle.std.specs.Prelude.{IsTrue, MatchResult, nat_lt, ◌↔◌}
use Rattle.std.proofs.lemmas.Bool.{lt-ltb, ltb-true}
use Rattle.std.specs.Bool.{OnTrue}
use Rattle.mg_base.specs.Disk.{Meaning}
use Rattle.mg_base.specs.Image.{Image}
use Rattle.mg_base.specs.declared.geometry.Geometry.{Geometry}
use Rattle.mg_base.specs.declared.numbers.PageNo.{PageNo}
use Rattle.mg_careful.specs.declared.graph.Order.{Order}
use Rattle.mg_image.specs.Form.{Pages}
use Rattle.mg_pointer.specs.PointerPage.{SetsNext}
use Rattle.mg_pointer.specs.PointerPage.{count_in}
use Rattle.mg_pointer.specs.PointerPageLaws.{length-entries_of}
use Rattle.mg_pool.specs.Batch.{Changed, PutsPage}
use Rattle.mg_pool.specs.declared.pool.Pool.{Pool}
use Rattle.mg_space.specs.Taking.{RefusesTake}
use Rattle.mg_space.specs.View.{AreWhole, KeepsStore, viewed}
use Rattle.mg_space.specs.ViewLaws.{viewed_on, whole_on}
use Rattle.mg_heap.specs.GrowthLaws.{whole_begun, whole_made}
use Rattle.mg_heap.specs.RoomLaws.{bits_on, last_on, new_on, takes_on}
use Rattle.mg_space.specs.declared.fault.SpaceFault.{SpaceFault}
use Rattle.mg_heap.specs.declared.growth.DataPage.{DataPage}
use Rattle.mg_heap.specs.Table.{RefusesPointerPage}
use Rattle.mg_heap.specs.Growth.{AddsOrders, GrowsTable, HasEntryRoom, ListsInLast, ListsInNew, MakesData, MakesPointer, RefusesTwo, orders_to}

pub on_true : {P : Type 0} (b : Bool) → IsTrue b → OnTrue b P → P
on_true true is holds = holds
on_true false is holds = absurd cc

-- a size that is known by two names
pub makes_as : (a b : Geometry) (old new : Changed) (owner place n : ℕ) (bytes : List ℕ) → a ≡ b
    → MakesData a.size old new owner place n bytes → MakesData b.size old new owner place n bytes
makes_as a b old new owner place n bytes same makes =
    subst (λ (g : Geometry). MakesData g.size old new owner place n bytes) same makes

pub pointer_as : (a b : Geometry) (old new : Changed) (owner at p n : ℕ) → a ≡ b
    → MakesPointer a.size old new owner at p n → MakesPointer b.size old new owner at p n
pointer_as a b old new owner at p n same makes =
    subst (λ (g : Geometry). MakesPointer g.size old new owner at p n) same makes

pub orders_as : (a b : Geometry) (old new : Changed) (n later : ℕ) → a ≡ b
    → AddsOrders old new (orders_to a.size n later) → AddsOrders old new (orders_to b.size n later)
orders_as a b old new n later same adds =
    subst (λ (g : Geometry). AddsOrders old new (orders_to g.size n later)) same adds

-- orders behind orders
pub orders_on : (old mid new : Changed) (first second : List Order) → AddsOrders old mid first
    → AddsOrders mid new second → AddsOrders old new (first ++ second)
orders_on old mid new first second one two = record {
  same_pages = two.same_pages ∙ one.same_pages;
  added = two.added ∙ (ap (λ (orders : List Order). orders ++ second) one.added
      ∙ append_assoc old.orders first second);
}

-- ---- calls on a cache that has been read

module _ {D L : Type 0} (m : Meaning D) (a b : Pool D L) (image : Image) (kept : KeepsStore m a b) where
  pub refuses_on : (old : Changed) (fault : SpaceFault)
      → RefusesTake b.geometry (viewed b image old) fault
      → RefusesTake a.geometry (viewed a image old) fault
  refuses_on old fault refused = subst (λ (g : Geometry). RefusesTake g (viewed a image old) fault)
      kept.geometry (subst (λ (pages : Pages). RefusesTake b.geometry pages fault)
      (viewed_on m a b image old kept) refused)

  pub two_on : (old : Changed) (fault : SpaceFault) → RefusesTwo b.geometry b image old fault
      → RefusesTwo a.geometry a image old fault
  two_on old fault (inl first) = inl (refuses_on old fault first)
  two_on old fault (inr second) = inr (record {
    with_bit = second.with_bit;
    first = second.first;
    bit_first = bits_on m a b kept old second.with_bit second.first second.bit_first;
    takes_first = takes_on m a b kept image old second.with_bit second.first second.takes_first;
    refused = refuses_on second.with_bit fault second.refused;
  })

  pub grows_in_last : (store : Pool D L) (old new : Changed) (owner place at q : ℕ) (page : PageNo)
      (slice pointer : List ℕ) (result : Result DataPage SpaceFault) → slice ≡ pointer
      → HasEntryRoom pointer → pointer ≡ viewed a image old q
      → MatchResult result (λ it. ListsInLast b.geometry b image old new owner place q it.page.0 slice
      it.bytes.items) (RefusesTake b.geometry (viewed b image old))
      → MatchResult result (λ it. GrowsTable a.geometry a image old new owner place at q
      (viewed a image old q) it.page.0 it.bytes.items)
      (λ fault. RefusesPointerPage m store old.pages (viewed a image old page.0) owner at page fault
      ⊎ (RefusesTake a.geometry (viewed a image old) fault ⊎ RefusesTwo a.geometry a image old fault))
  grows_in_last store old new owner place at q page slice pointer (Ok it) same room seen lists = inl (
    subst HasEntryRoom seen room,
    last_on m a b kept image old new owner place q it.page.0 slice (viewed a image old q) it.bytes.items (same ∙ seen) lists,
  )
  grows_in_last store old new owner place at q page slice pointer (Err fault) same room seen refused =
      inr (inl (refuses_on old fault refused))

  pub grows_in_new : (store : Pool D L) (old new : Changed) (owner place at behind q : ℕ) (page : PageNo)
      (slice pointer : List ℕ) (result : Result DataPage SpaceFault) → slice ≡ pointer
      → behind ≡ at + 1 → (HasEntryRoom pointer → ⊥) → pointer ≡ viewed a image old q
      → MatchResult result (λ it. (p : ℕ) × ListsInNew b.geometry b image old new owner place behind q p
      it.page.0 slice it.bytes.items) (RefusesTwo b.geometry b image old)
      → MatchResult result (λ it. GrowsTable a.geometry a image old new owner place at q
      (viewed a image old q) it.page.0 it.bytes.items)
      (λ fault. RefusesPointerPage m store old.pages (viewed a image old page.0) owner at page fault
      ⊎ (RefusesTake a.geometry (viewed a image old) fault ⊎ RefusesTwo a.geometry a image old fault))
  grows_in_new store old new owner place at behind q page slice pointer (Ok it) same is full seen lists =
      inr (
        (λ room. full (subst HasEntryRoom (sym seen) room)),
        (
          lists.0,
          subst (λ (k : ℕ). ListsInNew a.geometry a image old new owner place k q lists.0
              it.page.0 (viewed a image old q) it.bytes.items) is
              (new_on m a b kept image old new owner place behind q lists.0 it.page.0 slice (viewed a image old q)
              it.bytes.items (same ∙ seen) lists.1),
        ),
      )
  grows_in_new store old new owner place at behind q page slice pointer (Err fault) same is full seen refused =
      inr (inr (two_on old fault refused))

-- the count of the entries tells whether there is room
pub has_room : (b : List ℕ) (count : ℕ) → count ≡ count_in b
    → IsTrue (nat_lt count ((length b - 24) / 4)) ↔ HasEntryRoom b
has_room b count is = (
  (λ below. let lt : count < (length b - 24) / 4 = ltb-true count ((length b - 24) / 4) below in
      omega (arith, length-entries_of b)),
  (λ room. let lt : count < (length b - 24) / 4 = omega (arith, length-entries_of b) in
      lt-ltb count ((length b - 24) / 4) lt),
)

-- contents are one page long where a pointer page was linked to a new one
pub whole_linked : (g h : Geometry) (taken made begun linked : Changed) (owner place at q p n : ℕ)
    (bytes pointer link : List ℕ) → h ≡ g → AreWhole g taken.pages
    → n < g.limit → p < g.limit → q < g.limit
    → MakesData h.size taken made owner place n bytes → MakesPointer h.size made begun owner at p n
    → length pointer ≡ g.size → SetsNext pointer link p → PutsPage begun linked q link
    → AreWhole g linked.pages
whole_linked g h taken made begun linked owner place at q p n bytes pointer link same whole n_below p_below
    q_below makes begins len links puts = whole_on g begun linked q link
    (whole_begun g made begun owner at p n
    (whole_made g taken made owner place n bytes whole n_below
    (makes_as h g taken made owner place n bytes same makes)) p_below
    (pointer_as h g made begun owner at p n same begins)) (links.len ∙ len) q_below puts

pub no_room : (slice pointer : List ℕ) (answer : Bool) → slice ≡ pointer → answer ≡ false
    → (HasEntryRoom slice → IsTrue answer) → HasEntryRoom pointer → ⊥
no_room slice pointer true same is says room = absurd cc
no_room slice pointer false same is says room =
    absurd (let no_ : IsTrue false = says (subst HasEntryRoom (sym same) room) in cc)
