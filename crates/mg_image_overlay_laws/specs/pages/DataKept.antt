-- Data pages of a sound image are changed, one after another: what stays of the header, of the transactions,
-- of trees and of the pages of tables.
use Rattle.std.proofs.Common.{◌≡◌, ◌≢◌, ◌⊎◌, ◌<◌, ◌≤◌, inl, inr, ap, refl, sym, ◌∙◌, ◌-◌, ◌/◌, ◌%◌, arith, ℕ, Bool, List}
use Rattle.std.proofs.lemmas.Bool.{cases_eq, cases_lt, eq-eqb, le-ltb, lt-ltb, ne_eqb}
use Rattle.mg_base.specs.Fields.{byte}
use Rattle.mg_base.specs.declared.transaction.TxState.{TxState}
use Rattle.mg_base.specs.declared.transaction.TxState.TheVariants.{Committed, Dead}
use Rattle.mg_header.specs.declared.header.Header.{Header}
use Rattle.mg_tip.specs.TipPage.{places, state_in}
use Rattle.mg_image.specs.Form.{Form, Pages}
use Rattle.mg_image.specs.Inventory.{bits_state, header_of, is_used, last_sequence, next_of, settled, state_at}
use Rattle.mg_image.specs.RecordRules.{Facts}
use Rattle.mg_image.specs.Records.{Reading}
use Rattle.mg_image.specs.Sound.{HasHeader, HasInventory, HasTablePages, HasTransactions, IsSoundBy, facts_by}
use Rattle.mg_image.specs.Tables.{EachStand, Layout, stands_of, table_at}
use Rattle.mg_image_overlay_laws.specs.pages.DataPages.{ChangesData, header_kept, header_same, inventory_kept, next_same, stands_kept, tip_content, transactions_kept, used_kept}
use Rattle.mg_image_overlay_laws.specs.pages.DataSound.{KeepsTrees}
use Rattle.mg_image_overlay_laws.specs.kept.Rest.{div_grows}
use Rattle.mg_image_overlay_laws.specs.pages.Trees.{trees_stay}

-- Pages say the same of each transaction, and have the same next number.
pub record KeepsBits (size : ℕ) (old new : Pages) : Type 0 where
  pub bits : (t : ℕ) → state_at size new t ≡ state_at size old t
  pub next : next_of new ≡ next_of old

pub bits_self : (size : ℕ) (pages : Pages) → KeepsBits size pages pages
bits_self size pages = record { bits = λ t. refl; next = refl }

pub bits_more : (size : ℕ) (a b c : Pages) → KeepsBits size a b → KeepsBits size b c
    → KeepsBits size a c
bits_more size a b c first second = record {
  bits = λ t. second.bits t ∙ first.bits t;
  next = second.next ∙ first.next;
}

-- Later pages are those of an image but for data pages: header, inventories and transactions are lawful, the
-- tables of a layout have their pages, and index pages are as they were.
pub record IsDataChanged (form : Form) (size : ℕ) (old new : Pages) (layout : Layout) : Type 0 where
  pub header : HasHeader size new
  pub inventory : HasInventory size new
  pub transactions : HasTransactions size new
  pub used : (m : ℕ) → is_used size new m ≡ is_used size old m
  pub trees : (m : ℕ) → byte (old m) 0 ≡ 7 → new m ≡ old m
  pub tables : EachStand (HasTablePages form.in_primary size new) (stands_of layout)
  pub header_is : header_of new ≡ header_of old
  pub bits : KeepsBits size old new

-- the bits of a changed data page's image
data_bits : (in_primary : Bool) (size : ℕ) (old new : Pages) (b : ℕ) → ChangesData in_primary old new b
    → HasHeader size old → HasInventory size old → HasTransactions size old → KeepsBits size old new
unfolding state_at
data_bits in_primary size old new b change header inventory transactions =
    record { bits = λ t. by t (cases_eq t 0); next = next }
  where
    next : next_of new ≡ next_of old
    next = next_same in_primary size old new b change header inventory transactions

    same_bits : (t : ℕ) → t < next_of old → bits_state size new t ≡ bits_state size old t
    same_bits t below =
        let within : t / places size ≤ last_sequence size old =
        div_grows t (next_of old - 1) (places size) (omega (arith, below)) in
        ap (λ (page : List ℕ). state_in page (t % places size))
        (tip_content in_primary size old new b change header inventory transactions (t / places size) within)

    some : (t : ℕ) → t ≢ 0 → (t < next_of old) ⊎ (next_of old ≤ t)
        → state_at size new t ≡ state_at size old t
    some t some_ (inl below) =
        let also : t < next_of new = omega (arith, below, next) in
        let here : state_at size new t ≡ settled (bits_state size new t) =
        rw (ne_eqb t 0 some_, lt-ltb t (next_of new) also) refl in
        let there : state_at size old t ≡ settled (bits_state size old t) =
        rw (ne_eqb t 0 some_, lt-ltb t (next_of old) below) refl in
        here ∙ (ap settled (same_bits t below) ∙ sym there)
    some t some_ (inr past) =
        let also : next_of new ≤ t = omega (arith, past, next) in
        let here : state_at size new t ≡ Dead = rw (ne_eqb t 0 some_, le-ltb t (next_of new) also) refl in
        let there : state_at size old t ≡ Dead = rw (ne_eqb t 0 some_, le-ltb t (next_of old) past) refl in
        here ∙ sym there

    by : (t : ℕ) → (t ≡ 0) ⊎ (t ≢ 0) → state_at size new t ≡ state_at size old t
    by t (inl zero) =
        let here : state_at size new t ≡ Committed = rw (eq-eqb t 0 zero) refl in
        let there : state_at size old t ≡ Committed = rw (eq-eqb t 0 zero) refl in here ∙ sym there
    by t (inr some_) = some t some_ (cases_lt t (next_of old))

module _ (form : Form) (size : ℕ) (state : ℕ → TxState) (old : Pages) (layout : Layout) (r : Reading)
    (sound : IsSoundBy form size state old layout r) where
  pub data_self : IsDataChanged form size old old layout
  data_self = record {
    header = sound.header;
    inventory = sound.inventory;
    transactions = sound.transactions;
    used = λ m. refl;
    trees = λ m is. refl;
    tables = sound.tables;
    header_is = refl;
    bits = bits_self size old;
  }

  -- one data page more
  pub data_more : (mid new : Pages) (b : ℕ) → IsDataChanged form size old mid layout
      → ChangesData form.in_primary mid new b → IsDataChanged form size old new layout
  data_more mid new b was change = record {
    header = header_kept form.in_primary size mid new b change was.header was.inventory was.transactions;
    inventory = inventory_kept form.in_primary size mid new b change was.header was.inventory
        was.transactions;
    transactions = transactions_kept form.in_primary size mid new b change was.header was.inventory
        was.transactions;
    used = used;
    trees = trees;
    tables = stands_kept form.in_primary size mid new b change was.header was.inventory was.transactions
        (stands_of layout) keeps.trees was.tables;
    header_is = header_same form.in_primary size mid new b change was.header was.inventory was.transactions
        ∙ was.header_is;
    bits = bits_more size old mid new was.bits (data_bits form.in_primary size mid new b change was.header
        was.inventory was.transactions);
  }
    where
      used : (m : ℕ) → is_used size new m ≡ is_used size old m
      used m = used_kept form.in_primary size mid new b change was.header was.inventory was.transactions m
          ∙ was.used m

      trees : (m : ℕ) → byte (old m) 0 ≡ 7 → new m ≡ old m
      trees m seven = change.others m off ∙ was.trees m seven
        where
          off : m ≢ b
          off same =
              let same_page : mid m ≡ old m = was.trees m seven in
              let also : byte (mid m) 0 ≡ 7 = ap (λ (page : List ℕ). byte page 0) same_page ∙ seven in
              let five : byte (mid m) 0 ≡ 5 = ap (λ (k : ℕ). byte (mid k) 0) same ∙ change.kind in
              omega (arith, also, five)

      keeps : KeepsTrees old new size layout
      keeps = trees_stay form size state old new layout r sound (λ m is. used m ∙ is)
          (λ m is seven. trees m seven)

  -- and what is known of the records' surroundings is as it was
  pub data_facts : (new : Pages) → IsDataChanged form size old new layout
      → facts_by state new layout ≡ facts_by state old layout
  data_facts new was =
      let F : Header → Facts = λ h. record {
        state = state;
        next = h.next.0;
        oldest = h.oit.0;
        table_of = table_at (stands_of layout);
      } in ap F was.header_is
