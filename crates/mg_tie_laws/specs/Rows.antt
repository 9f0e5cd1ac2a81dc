-- What the rows of version chains have in common: batches in part, orders, walks, and the table of a page.
use Rattle.std.proofs.Common.{◌≡◌, ◌≢◌, ◌⊎◌, inl, inr, ap, sym, subst, ◌∙◌, refl, arith, suc, ℕ, Bool, true, false, List, [], ◌∷◌, ◌++◌, length, Option, Some}
use Rattle.std.specs.Prelude.{if◌then◌else◌, ◌==◌}
use Rattle.std.proofs.lemmas.Bool.{cases_eq, ne_eqb}
use Rattle.mg_base.specs.Fields.{byte}
use Rattle.mg_base.specs.declared.transaction.TxState.{TxState}
use Rattle.mg_careful.specs.Precedence.{Orders}
use Rattle.mg_careful.specs.declared.graph.Order.{Order}
use Rattle.mg_image.specs.Form.{Form, Pages}
use Rattle.mg_image.specs.Records.{Reading}
use Rattle.mg_image.specs.Sound.{IsSoundBy}
use Rattle.mg_image.specs.Tables.{EachFrom, Has, Layout, Stand, has, stands_of, table_at}
use Rattle.mg_image_overlay_laws.specs.pages.DataPages.{kind_of}
use Rattle.mg_image_overlay_laws.specs.pages.Growth.{has_back, has_either, has_front}
use Rattle.mg_image_overlay_laws.specs.pages.Reach.{IsEntered, here, later}
use Rattle.mg_model.specs.declared.table.Table.{Table}
use Rattle.mg_overlay_laws.specs.Overlays.{left_state}
use Rattle.mg_pointer.specs.PointerPage.{entries_of, next_in, pointer_checks}
use Rattle.mg_pool.specs.Batch.{Changed, PutsPage, lists}
use Rattle.mg_heap.specs.Growth.{AddsOrders, before}
use Rattle.mg_heap.specs.Reach.{IsReached}
use Rattle.mg_heap.specs.Table.{IsPointerAt, LinkRun, more, none}
use Rattle.mg_chain.specs.Orders.{before_page}
use Rattle.mg_image_overlay_laws.specs.tables.Growing.{IsTableOf}
use Rattle.mg_tie_laws.specs.Batches.{IsWithin, has_on, has_same, lists_head, lists_sooner, lists_tail}

-- ---- what is asked

-- something holds of each layout and reading under which pages are sound, whoever is chosen
abbrev pub ForEach : Form → ℕ → (ℕ → TxState) → Pages → ((ℕ → TxState) → Layout → Reading → Type 0)
    → Type 0
ForEach form size state pages P = (chosen : ℕ → Bool) (layout : Layout) (r : Reading)
    → IsSoundBy form size (left_state chosen state) pages layout r → P (left_state chosen state) layout r

-- ---- batches in part

pub within_put : (batch : ℕ → Option (List ℕ)) (orders : Orders) (old new : Changed) (page : ℕ)
    (bytes : List ℕ) → PutsPage old new page bytes → IsWithin batch orders new
    → IsWithin batch orders old
within_put batch orders old new page bytes puts within = record {
  pages = λ m has_. within.pages m (has_on old new page bytes puts m has_);
  listed = λ a c is. within.listed a c (subst (λ (os : List Order). lists os a c ≡ true)
      (sym puts.same_orders) is);
}

pub within_orders : (batch : ℕ → Option (List ℕ)) (orders : Orders) (old new : Changed)
    (os : List Order) → AddsOrders old new os → IsWithin batch orders new → IsWithin batch orders old
within_orders batch orders old new os adds within = record {
  pages = λ m has_. within.pages m (has_same old new m adds.same_pages has_);
  listed = λ a c is. within.listed a c (subst (λ (ps : List Order). lists ps a c ≡ true)
      (sym adds.added) (lists_sooner old.orders os a c is));
}

-- ---- orders

pub ordered_page : (ns : List ℕ) (n later_ : ℕ) → Has ns n → n ≢ later_
    → lists (before_page ns later_) n later_ ≡ true
ordered_page [] n later_ there ne = absurd there
ordered_page (m ∷ ms) n later_ (inl e) ne = at (cases_eq m later_)
  where
    at : (m ≡ later_) ⊎ (m ≢ later_)
        → lists (if m == later_ then before_page ms later_ else before m later_ ∷ before_page ms later_) n
        later_ ≡ true
    at (inl same) = absurd (ne (e ∙ same))
    at (inr off) = rw (ne_eqb m later_ off) (subst (λ (k : ℕ).
        lists (before k later_ ∷ before_page ms later_) n later_ ≡ true) e
        (lists_head n later_ (before_page ms later_)))
ordered_page (m ∷ ms) n later_ (inr others) ne =
    at (m == later_) (ordered_page ms n later_ others ne)
  where
    at : (b : Bool) → lists (before_page ms later_) n later_ ≡ true
        → lists (if b then before_page ms later_ else before m later_ ∷ before_page ms later_) n later_
        ≡ true
    at true is = is
    at false is = lists_tail (before m later_) (before_page ms later_) n later_ is

-- ---- walks

run_entered : (P : ℕ → Type 0) (pages : Pages) (n first last : ℕ) (ns : List ℕ)
    → LinkRun (λ m. next_in (pages m)) first ns last → ((k : ℕ) → Has ns k → P k) → P last → last ≢ 0
    → Has (entries_of (pages last)) n → IsEntered P pages n first
run_entered P pages n first last ns (none k) each is some entry = here first some is entry
run_entered P pages n first last ns (more k l ks ne rest) each is some entry =
    later first ne (each first (inl refl)) (run_entered P pages n (next_in (pages first)) last ks rest
    (λ q there. each q (inr there)) is some entry)

pub reached_entered : (P : ℕ → Type 0) (pages : Pages) (owner n : ℕ) (pointers : List ℕ)
    (is : IsReached pages owner n pointers) → ((k : ℕ) → Has pointers k → P k)
    → IsEntered P pages n owner
reached_entered P pages owner n pointers is each = run_entered P pages n owner is.last is.before
    is.leads.run (λ k there. each k (subst (λ (ns : List ℕ). Has ns k) (sym is.are)
    (has_front is.before (is.last ∷ []) k there)))
    (each is.last (subst (λ (ns : List ℕ). Has ns is.last) (sym is.are)
    (has_back is.before (is.last ∷ []) is.last (inl refl)))) is.some is.entered

-- the pages of a walk are pointer pages
each_four : (pages : Pages) (owner at : ℕ) (ns : List ℕ) → EachFrom (IsPointerAt pages owner) at ns
    → (k : ℕ) → Has ns k → byte (pages k) 0 ≡ 4
unfolding pointer_checks
each_four pages owner at [] each k there = absurd there
each_four pages owner at (m ∷ ms) each k (inl e) = rw e (kind_of (pages m) m 4 owner at _ each.0)
each_four pages owner at (m ∷ ms) each k (inr others) =
    each_four pages owner (suc at) ms each.1 k others

pub walk_four : (pages : Pages) (owner n : ℕ) (pointers : List ℕ) → IsReached pages owner n pointers
    → (k : ℕ) → Has pointers k → byte (pages k) 0 ≡ 4
unfolding pointer_checks
walk_four pages owner n pointers is k there =
    at (has_either is.before (is.last ∷ []) k (subst (λ (ns : List ℕ). Has ns k) is.are there))
  where
    at : Has is.before k ⊎ Has (is.last ∷ []) k → byte (pages k) 0 ≡ 4
    at (inl first) = each_four pages owner 0 is.before is.leads.tested k first
    at (inr (inl e)) = rw e (kind_of (pages is.last) is.last 4 owner (length is.before) _ is.tested)
    at (inr (inr none_)) = absurd none_

-- ---- the table of a page

-- Stands have a table among them.
record HasStand (stands : List Stand) (table : Table) : Type 0 where
  first : List Stand
  stand : Stand
  rest : List Stand
  is : stands ≡ first ++ (stand ∷ rest)
  table_is : stand.table ≡ table

stand_of : (stands : List Stand) (n : ℕ) (table : Table) → table_at stands n ≡ Some table
    → HasStand stands table
stand_of [] n table is = absurd cc
stand_of (s ∷ stands) n table is = at (has s.data_pages n) is (λ others. stand_of stands n table others)
  where
    later_one : HasStand stands table → HasStand (s ∷ stands) table
    later_one it = record {
      first = s ∷ it.first;
      stand = it.stand;
      rest = it.rest;
      is = ap (λ (ss : List Stand). s ∷ ss) it.is;
      table_is = it.table_is;
    }

    at : (b : Bool) → (if b then Some s.table else table_at stands n) ≡ Some table
        → (table_at stands n ≡ Some table → HasStand stands table) → HasStand (s ∷ stands) table
    at true here_is others =
        let same : s.table ≡ table = cc in
        record { first = []; stand = s; rest = stands; is = refl; table_is = same }
    at false more_is others = later_one (others more_is)

pub table_of_page : (layout : Layout) (n : ℕ) (table : Table)
    → table_at (stands_of layout) n ≡ Some table → IsTableOf layout table
table_of_page layout n table of =
    let it = stand_of (stands_of layout) n table of in
    record { before = it.first; stand = it.stand; after = it.rest; is_ = it.is; table_is = it.table_is }

-- a data page is not the header page
pub off_header : (form : Form) (size : ℕ) (state : ℕ → TxState) (pages : Pages) (layout : Layout)
    (r : Reading) → IsSoundBy form size state pages layout r → (n : ℕ) → byte (pages n) 0 ≡ 5 → 0 ≢ n
off_header form size state pages layout r sound n five same =
    let one : byte (pages 0) 0 ≡ 1 = kind_of (pages 0) 0 1 0 0 _ sound.header.fields in
    let also : byte (pages 0) 0 ≡ 5 = ap (λ (k : ℕ). byte (pages k) 0) same ∙ five in
    omega (arith, one, also)
