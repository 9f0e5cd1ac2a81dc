-- Pointer pages are orderly where a sound image is opened, and stay so where none of them changes.
use Rattle.std.specs.Prelude.{◌≡◌, ◌≢◌, ◌<◌, ◌++◌, ◌==◌, ◌+◌, ◌-◌, ◌/◌, ℕ, zero, suc, Bool, true, false, List, [], ◌∷◌, if◌then◌else◌}
use Rattle.std.proofs.Common.{inl, inr, refl, sym, subst, ap, ◌∙◌, arith}
use Rattle.std.proofs.lemmas.Bool.{both_ways, cases_eq, eq-eqb}
use Rattle.mg_base.specs.Fields.{byte}
use Rattle.mg_base.specs.declared.geometry.TheConstants.{GREATEST_LIMIT}
use Rattle.mg_base.specs.declared.transaction.TxState.{TxState}
use Rattle.mg_careful.specs.declared.links.Demand.{Demand}
use Rattle.mg_careful.specs.CarefulWrite.{DemandSet, Has, IsIn, ListsAreSets, either}
use Rattle.mg_demand_laws.specs.Wanted.{roots_wanted, wanted, wanted_have}
use Rattle.mg_header.specs.HeaderPage.{header_in}
use Rattle.mg_image.specs.Form.{Form, Pages}
use Rattle.mg_image.specs.Records.{Reading, slot_cell}
use Rattle.mg_image.specs.Sound.{HasTablePages, IsSoundBy, IsTableData, IsTablePointer}
use Rattle.mg_image.specs.Tables.{EachStand, Has as HasPage, HasStand, Layout, LinkChain, Stand, ended, entries_in, goes, stands_of}
use Rattle.mg_model.specs.declared.table.Index.{Index}
use Rattle.mg_model.specs.declared.table.Table.{Table}
use Rattle.mg_pointer.specs.PointerPage.{count_in, entries_of, next_in}
use Rattle.mg_slots.specs.DataPage.{cell_of}
use Rattle.mg_demand_laws.specs.Roots.{IsFilled, SoundIsWanted, WantsFrom, index_roots, roots_of, table_roots}
use Rattle.mg_space.specs.Demands.{bit_demand, demand, demands_by, demands_of, entry_demand, entry_demands, header_demands, linked, meets_of, pointer_demands}
use Rattle.mg_space.specs.declared.links.TheConstants.{DATA, HEADER, NEXT, NODE, POINTER, TRANSACTIONS, TREE, VERSION, BIT}
use Rattle.mg_tip.specs.TipPage.{places}
use Rattle.mg_demand_laws.specs.KindLaws.{as_want, pointer_kind}
use Rattle.mg_demand_laws.specs.Met.{IsMet, has_either, in_listed, is_demand, is_met, of_bit, of_data, of_header, of_listed, of_next, of_node, of_pointer, of_tip, of_tree, of_version}
use Rattle.mg_demand_laws.specs.Wanting.{IsWanting, want_of}
use Rattle.mg_demand_laws.specs.OrderlyTies.{orderly_else}
use Rattle.mg_demand_laws.specs.TableTies.{later_place}
use Rattle.mg_demand_laws.specs.Wants.{AreOrderly, IsOrderly, pointer_passes}
use Rattle.mg_demand_laws.specs.NoTablePages.{NoneOf, no_bit, no_both, no_data, no_demand, no_empty, no_linked, no_node, no_tip, no_tree, no_wanted}

-- the law of openings: of what is wanted of a sound image from its roots on, the pointer pages are orderly
abbrev pub OpenedIsOrderly : Form → Type 0
OpenedIsOrderly form = (size : ℕ) (state : ℕ → TxState) (pages : Pages) (layout : Layout) (r : Reading)
    → IsSoundBy form size state pages layout r → EachStand (IsFilled size pages) (stands_of layout)
    → AreOrderly size pages (wanted demands_of pages (roots_of size layout))

-- the law of changes: where no pointer page changes, and none is wanted newly
abbrev pub OrderStays : Type 0
OrderStays = (size : ℕ) (old new : Pages) (wanted more : DemandSet) → IsWanting size old wanted
    → AreOrderly size old wanted → ((n : ℕ) → byte (old n) 0 ≡ 4 → new n ≡ old n)
    → ((d : Demand) → IsIn more d → d.what ≢ POINTER) → AreOrderly size new (either wanted more)

pub order_stays : OrderStays
order_stays size old new wanted more was orderly same none = orderly_else size old new wanted more orderly
    (λ n owner at h. same n (pointer_kind (old n) n owner at (pointer_passes size old wanted was n owner at h))) none

pub sets : ListsAreSets
sets list d = (λ h. in_listed list d h, λ h. of_listed list d h)

-- ---- chains

pub head_in : (next : ℕ → ℕ) (n : ℕ) (ns : List ℕ) → LinkChain next n ns → n ≢ 0 → HasPage ns n
head_in next n ns ended some = absurd (some refl)
head_in next n ns (goes k ks other more) some = inl refl

next_in_chain : (next : ℕ → ℕ) (n : ℕ) (ns : List ℕ) → LinkChain next n ns → (k : ℕ) → HasPage ns k → next k ≢ 0
    → HasPage ns (next k)
next_in_chain next n ns ended k h some = absurd h
next_in_chain next n ns (goes m ms other more) k (inl same) some = inr (subst (λ (i : ℕ). HasPage ms (next i)) (sym same)
    (head_in next (next m) ms more (λ none. some (ap next same ∙ none))))
next_in_chain next n ns (goes m ms other more) k (inr h) some = inr (next_in_chain next (next m) ms more k h some)

pub each_stand : (P : Stand → Type 0) (stands : List Stand) (stand : Stand) → EachStand P stands → HasStand stands stand
    → P stand
each_stand P [] stand each h = absurd h
each_stand P (s ∷ ss) stand each (inl same) = subst P (sym same) each.0
each_stand P (s ∷ ss) stand each (inr h) = each_stand P ss stand each.1 h

pub entries_there : (pages : Pages) (ns : List ℕ) (n m : ℕ) → HasPage ns n → HasPage (entries_of (pages n)) m
    → HasPage (entries_in pages ns) m
entries_there pages [] n m h there = absurd h
entries_there pages (k ∷ ks) n m (inl same) there = front (entries_of (pages k)) (entries_in pages ks)
    (subst (λ (i : ℕ). HasPage (entries_of (pages i)) m) same there)
  where
    front : (xs ys : List ℕ) → HasPage xs m → HasPage (xs ++ ys) m
    front [] ys h = absurd h
    front (x ∷ xs) ys (inl is) = inl is
    front (x ∷ xs) ys (inr h) = inr (front xs ys h)
entries_there pages (k ∷ ks) n m (inr h) there = back (entries_of (pages k)) (entries_there pages ks n m h there)
  where
    back : (xs : List ℕ) → HasPage (entries_in pages ks) m → HasPage (xs ++ entries_in pages ks) m
    back [] h = h
    back (x ∷ xs) h = inr (back xs h)

module _ (form : Form) (size : ℕ) (state : ℕ → TxState) (pages : Pages) (layout : Layout) (r : Reading) (sound : IsSoundBy form size state pages layout r) (filled : EachStand (IsFilled size pages) (stands_of layout)) (from : WantsFrom size pages (roots_of size layout)) where
  low : 3 < POINTER
  low = omega arith

  high : POINTER < 6
  high = omega arith

  abbrev all : DemandSet
  all = wanted demands_of pages (roots_of size layout)

  was : IsWanting size pages all
  was = from.wants

  -- a page is a pointer page of one of the tables
  abbrev pub InStand : ℕ → Type 0
  InStand n = (stand : Stand) × HasStand (stands_of layout) stand × HasPage stand.pointers n

  -- what is wanted as a pointer page is one
  abbrev IsPlaced : Demand → Type 0
  IsPlaced d = IsIn all d × (d.what ≡ POINTER → InStand d.target)

  pub stand_pages : (stand : Stand) → HasStand (stands_of layout) stand → HasTablePages form.in_primary size pages stand
  stand_pages stand h = each_stand (HasTablePages form.in_primary size pages) (stands_of layout) stand sound.tables h

  -- a table's first pointer page is
  first_placed : (stand : Stand) → HasStand (stands_of layout) stand → (e : Demand)
      → Has (linked size stand.table.pointer.0 POINTER stand.table.pointer.0 0) e → e.what ≡ POINTER → InStand e.target
  first_placed stand h e made what =
      elim (has_either (demand stand.table.pointer.0 POINTER stand.table.pointer.0 0) (bit_demand size stand.table.pointer.0)
      e made) [
        | inl x ↦ (
          stand,
          h,
          subst (HasPage stand.pointers)
              (sym (ap (λ (y : Demand). y.target) (is_demand stand.table.pointer.0 POINTER stand.table.pointer.0 0 e x)))
              (head_in (λ n. next_in (pages n)) stand.table.pointer.0 stand.pointers (stand_pages stand h).chain
              (stand_pages stand h).first),
        )
        | inr y ↦ absurd (no_bit POINTER low high size stand.table.pointer.0 e y what)
      ]

  -- and so is the next one of a pointer page
  next_placed : (n owner at : ℕ) → InStand n → (e : Demand) → Has (pointer_demands size (pages n) owner at) e
      → e.what ≡ POINTER → InStand e.target
  next_placed n owner at its e made what =
      elim (has_either (entry_demands size (pages n) owner at (count_in (pages n))) _ e made) [
        | inl x ↦ absurd (no_entries (count_in (pages n)) e x what)
        | inr y ↦ behind (next_in (pages n) == 0) refl y
      ]
    where
      no_entries : (k : ℕ) → NoneOf POINTER (entry_demands size (pages n) owner at k)
      no_entries zero = no_empty POINTER low high
      no_entries (suc k) = no_both POINTER low high (entry_demands size (pages n) owner at k) (entry_demand size (pages n) owner at k)
          (no_entries k) (no_linked POINTER low high size _ DATA owner _ (λ is. omega (arith, is)))

      behind : (b : Bool) → (next_in (pages n) == 0) ≡ b
          → Has (if b then [] else linked size (next_in (pages n)) POINTER owner (at + 1)) e → InStand e.target
      behind true is y = absurd y
      behind false is y = elim (has_either (demand (next_in (pages n)) POINTER owner (at + 1))
          (bit_demand size (next_in (pages n))) e y) [
            | inl z ↦ (
              its.0,
              its.1,
              subst (HasPage its.0.pointers)
                  (sym (ap (λ (x : Demand). x.target) (is_demand (next_in (pages n)) POINTER owner (at + 1) e z)))
                  (next_in_chain (λ k. next_in (pages k)) its.0.table.pointer.0 its.0.pointers (stand_pages its.0 its.1).chain n
                  its.2 (λ none. both_ways _ is (eq-eqb (next_in (pages n)) 0 none))),
            )
            | inr z ↦ absurd (no_bit POINTER low high size (next_in (pages n)) e z what)
          ]

  -- ---- along links

  header_placed : (e : Demand) → Has (header_demands size (pages 0)) e → e.what ≡ POINTER → InStand e.target
  header_placed e made what = elim (has_either (linked size (header_in (pages 0)).last_tip.0 TRANSACTIONS
      (((header_in (pages 0)).next.0 - 1) / places size) 0) _ e made) [
        | inl x ↦ absurd (no_linked POINTER low high size (header_in (pages 0)).last_tip.0 TRANSACTIONS
            (((header_in (pages 0)).next.0 - 1) / places size) 0 (λ is. omega (arith, is)) e x what)
        | inr y ↦ first_placed layout.catalog (inl refl) e
            (subst (λ (k : ℕ). Has (linked size k POINTER k 0) e) (sym (ap (λ (t : Table). t.pointer.0) sound.catalog)) y) what
      ]

  along : (d e : Demand) → IsPlaced d → Has (demands_of (pages d.target) d) e → IsPlaced e
  along d e placed made = (
    was.keeps.in_turn d e placed.0 made,
    λ what. so what (is_met size (pages d.target) d (was.whole d.target) (was.keeps.met d placed.0)),
  )
    where
      by : (want : Demand) → d ≡ want → Has (demands_by size (pages d.target) want) e
      by want is = as_want size pages all was (pages d.target) (was.whole d.target) want d e is made

      so : e.what ≡ POINTER → IsMet size (pages d.target) d → InStand e.target
      so what (of_header is head) = header_placed e
          (subst (λ (n : ℕ). Has (header_demands size (pages n)) e) (ap (λ (x : Demand). x.target) is)
          (by (want_of 0 HEADER d.a d.b) is)) what
      so what (of_next is head below) = absurd (no_empty POINTER low high e (by (want_of 0 NEXT d.a d.b) is) what)
      so what (of_tip is passes) =
          absurd (no_tip POINTER low high size (pages d.target) d.a e (by (want_of d.target TRANSACTIONS d.a d.b) is) what)
      so what (of_pointer is passes) = next_placed d.target d.a d.b (placed.1 (ap (λ (x : Demand). x.what) is)) e
          (by (want_of d.target POINTER d.a d.b) is) what
      so what (of_data is passes) = absurd (no_data POINTER low high (pages d.target) e (by (want_of d.target DATA d.a d.b) is) what)
      so what (of_version is there) = absurd (no_wanted POINTER low high (slot_cell (cell_of (pages d.target) d.a)) e
          (by (want_of d.target VERSION d.a d.b) is) what)
      so what (of_tree is passes) = absurd (no_tree POINTER low high size (pages d.target) d.a e (by (want_of d.target TREE d.a d.b) is) what)
      so what (of_node is passes level) =
          absurd (no_node POINTER low high size (pages d.target) d.a e (by (want_of d.target NODE d.a d.b) is) what)
      so what (of_bit is passes used) = absurd (no_empty POINTER low high e (by (want_of d.target BIT d.a d.b) is) what)

  -- ---- from the roots

  no_index : (owner : ℕ) (indexes : List Index) → NoneOf POINTER (index_roots size owner indexes)
  no_index owner [] = no_empty POINTER low high
  no_index owner (index ∷ indexes) = no_both POINTER low high (linked size index.root.0 TREE owner 0) (index_roots size owner indexes)
      (no_linked POINTER low high size index.root.0 TREE owner 0 (λ is. omega (arith, is))) (no_index owner indexes)

  table_placed : (stands : List Stand) → ((s : Stand) → HasStand stands s → HasStand (stands_of layout) s) → (e : Demand)
      → Has (table_roots size stands) e → e.what ≡ POINTER → InStand e.target
  table_placed [] within e h what = absurd h
  table_placed (stand ∷ stands) within e h what =
      elim (has_either (linked size stand.table.pointer.0 POINTER stand.table.pointer.0 0
      ++ index_roots size stand.table.pointer.0 stand.table.indexes) (table_roots size stands) e h) [
        | inl x ↦ elim (has_either (linked size stand.table.pointer.0 POINTER stand.table.pointer.0 0)
            (index_roots size stand.table.pointer.0 stand.table.indexes) e x) [
              | inl y ↦ first_placed stand (within stand (inl refl)) e y what
              | inr z ↦ absurd (no_index stand.table.pointer.0 stand.table.indexes e z what)
            ]
        | inr w ↦ table_placed stands (λ s there. within s (inr there)) e w what
      ]

  of_roots : (e : Demand) → Has (roots_of size layout) e → IsPlaced e
  of_roots e h = (
    roots_wanted demands_of meets_of pages (roots_of size layout) sets e h,
    λ what. elim (has_either (demand 0 HEADER 0 0) (table_roots size (stands_of layout)) e h) [
      | inl x ↦ absurd (no_demand POINTER low high 0 HEADER 0 0 (λ is. omega (arith, is)) e x what)
      | inr y ↦ table_placed (stands_of layout) (λ s there. there) e y what
    ],
  )

  -- ---- orderly

  below_all : (stand : Stand) → HasStand (stands_of layout) stand → (n : ℕ) → HasPage stand.pointers n → n < GREATEST_LIMIT
  below_all stand h n there = (later_place (IsTablePointer size pages stand.table.pointer.0) 0 stand.pointers n
      (stand_pages stand h).pointers there).2.below

  data_below : (stand : Stand) → HasStand (stands_of layout) stand → (n : ℕ) → HasPage stand.data_pages n → n < GREATEST_LIMIT
  data_below stand h n there = (later_place (IsTableData form.in_primary size pages stand.table.pointer.0) 0 stand.data_pages n
      (stand_pages stand h).data_pages there).2.wanted.below

  orderly_in : (n : ℕ) → InStand n → IsOrderly size (pages n)
  orderly_in n (stand, h, there) = record {
    next = elim (cases_eq (next_in (pages n)) 0) [
      | inl none ↦ subst (λ (k : ℕ). k < GREATEST_LIMIT) (sym none) (omega arith)
      | inr some ↦ below_all stand h (next_in (pages n)) (next_in_chain (λ k. next_in (pages k)) stand.table.pointer.0
          stand.pointers (stand_pages stand h).chain n there some)
    ];
    entries = λ m listed_. data_below stand h m (subst (λ (ns : List ℕ). HasPage ns m) (sym (stand_pages stand h).entries)
        (entries_there pages stand.pointers n m there listed_));
    full = each_stand (IsFilled size pages) (stands_of layout) stand filled h n there;
  }

  -- a pointer page that is wanted is one of a table
  pub pointer_in : (n owner at : ℕ) → IsIn all (want_of n POINTER owner at) → InStand n
  pointer_in n owner at h = (wanted_have demands_of meets_of pages (roots_of size layout) sets IsPlaced of_roots along
      (want_of n POINTER owner at) h).1 refl

  pub opened_orderly : AreOrderly size pages all
  opened_orderly n owner at h = orderly_in n (pointer_in n owner at h)

pub opened_is_orderly : (form : Form) → SoundIsWanted form → OpenedIsOrderly form
opened_is_orderly form law = λ size state pages layout r sound filled.
    opened_orderly form size state pages layout r sound filled (law size state pages layout r sound filled)
