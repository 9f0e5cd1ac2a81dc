-- What an image has in limbo has only made rows of the catalog, where the history that it holds has only made such rows.
use Rattle.std.proofs.Common.{◌≡◌, ◌≢◌, ◌<◌, ℕ, Bool, true, false, List, [], ◌∷◌, Option, None, Some, refl, sym, ap, ◌∙◌, subst, nat_lt}
use Rattle.std.specs.Cmp.Lexicographic.{same_text}
use Rattle.std.specs.Prelude.{◌&&◌, IsSome, if◌then◌else◌}
use Rattle.mg_base.specs.declared.numbers.RecId.{RecId}
use Rattle.mg_base.specs.declared.transaction.TxState.{TxState}
use Rattle.mg_base.specs.declared.transaction.TxState.TheVariants.{Active, Committed, Dead, Limbo}
use Rattle.mg_grown_catalog_laws.specs.Grown.{CatalogGrows, EachMakes, IsMaking, OwnRowsAreNew}
use Rattle.mg_image.specs.Form.{Pages, Row, packed_form}
use Rattle.mg_image.specs.Held.{told_change}
use Rattle.mg_image.specs.Histories.{Begins, HoldsDurable, newest_at, row_change}
use Rattle.mg_image.specs.Inventory.{next_of, state_at}
use Rattle.mg_image.specs.Opening.{IsOpened}
use Rattle.mg_image.specs.Records as records
use Rattle.mg_image.specs.Sound.{facts_of}
use Rattle.mg_image_opening_laws.specs.Begun.{begins, begun}
use Rattle.mg_image_opening_laws.specs.Chosen.{each_in}
use Rattle.mg_image_opening_laws.specs.Items.{GivesLimbo, limbo_from, limbo_list, told_of, told_so}
use Rattle.mg_image_opening_laws.specs.Openings.{packed_fitting}
use Rattle.mg_lasting_laws.specs.Bits.{IsSettled, settled_drawn}
use Rattle.mg_model.specs.Answers.{is_open}
use Rattle.mg_model.specs.Catalog.{catalog_name}
use Rattle.mg_model.specs.Changes.{Cells, has_change, is_at, row_at, same_name}
use Rattle.mg_model.specs.History.{Entries}
use Rattle.mg_model.specs.Legal.{IsLegal, MayBegin, after_durable, durable_count, durable_limbo, is_durable, is_limbo}
use Rattle.mg_model.specs.Machine.{database, own, state_of}
use Rattle.mg_model.specs.Openings.{opening_catalog}
use Rattle.mg_model.specs.declared.change.Change.{Change}
use Rattle.mg_model.specs.declared.opening.LimboChange.{LimboChange}
use Rattle.mg_model.specs.declared.opening.Opening.{Opening}
use Rattle.mg_value.specs.declared.value.Value.{Value}

-- ---- the history up to a durable event

after_makes : (h : Entries) (k : ℕ) → EachMakes h → EachMakes (after_durable h k)
after_makes [] k each = tt
after_makes (e ∷ h) k each = at (is_durable e && nat_lt (durable_count h) k) (after_makes h k each.1)
  where
    at : (b : Bool) → EachMakes (after_durable h k) → EachMakes (if b then e ∷ h else after_durable h k)
    at true rest = each
    at false rest = rest

-- ---- the newest change at a key

-- A change stands at a key, and it is the newest one there.
pub record IsNewest (cs : List Change) (name : List ℕ) (key : Value) (change : records.Change) : Type 0 where
  pub has : has_change cs name key ≡ true
  pub row : Option Cells
  pub row_is : row_at cs name key ≡ row
  pub told : row_change row ≡ change

newest_is : (cs : List Change) (name : List ℕ) (key : Value) (change : records.Change)
    → newest_at cs name key ≡ Some change → IsNewest cs name key change
newest_is [] name key change is = absurd cc
newest_is (c ∷ cs) name key change is = at (is_at c name key) refl is (λ more. newest_is cs name key change more)
  where
    at : (b : Bool) → is_at c name key ≡ b
        → (if b then Some (row_change c.row) else newest_at cs name key) ≡ Some change
        → (newest_at cs name key ≡ Some change → IsNewest cs name key change)
        → IsNewest (c ∷ cs) name key change
    at true here same rest = record {
      has = rw here refl;
      row = c.row;
      row_is = rw here refl;
      told = let it : row_change c.row ≡ change = cc in it;
    }
    at false other same rest = let more = rest same in record {
      has = rw other more.has;
      row = more.row;
      row_is = rw other more.row_is;
      told = more.told;
    }

some_too : (a b : Option Row) → row_change a ≡ row_change b → IsSome a → IsSome b
some_too None b same some = absurd cc
some_too (Some row) None same some = absurd cc
some_too (Some row) (Some other) same some = refl

open_too : (s : TxState) → is_limbo s ≡ true → is_open s ≡ true
open_too Active is = absurd cc
open_too Limbo is = refl
open_too Dead is = absurd cc
open_too Committed is = absurd cc

system_committed : (size : ℕ) (pages : Pages) → state_at size pages 0 ≡ Committed
unfolding state_at
system_committed size pages = refl

-- who is in limbo on an image was drawn there
limbo_drawn : (size : ℕ) (pages : Pages) (t : ℕ) → state_at size pages t ≡ Limbo → t < next_of pages
limbo_drawn size pages t is = settled_drawn size pages t some (subst IsSettled (sym is) tt)
  where
    some : t ≢ 0
    some zero_ =
        let both : Committed ≡ Limbo =
        sym (system_committed size pages) ∙ (ap (state_at size pages) (sym zero_) ∙ is) in absurd cc

-- ---- the law

module _ (size : ℕ) (pages : Pages) (o : Opening) (h : Entries) (k : ℕ) (opening : MayBegin o)
    (legal : IsLegal o (after_durable h k)) (grows : CatalogGrows o h) (own_new : OwnRowsAreNew) (held : HoldsDurable packed_form size pages o h k)
    (is : IsOpened packed_form size pages held.opened) where
  abbrev pub later : Opening
  later = begun packed_form packed_fitting size pages held.opened is

  abbrev pub its_begins : Begins held.opened (begun packed_form packed_fitting size pages held.opened is)
  its_begins = begins packed_form packed_fitting size pages held.opened is

  grows_until : CatalogGrows o (after_durable h k)
  grows_until = record { limbo = grows.limbo; entries = after_makes h k grows.entries }

  -- a change of the catalog made a row, where there is none
  module _ (p : RecId) (c : LimboChange) (gives : GivesLimbo (facts_of size pages is.layout) is.reading p c)
      (same : same_name gives.table.name catalog_name ≡ true) where
    abbrev t : ℕ
    t = records.writer gives.e

    abbrev key : Value
    key = records.key_of gives.table gives.e.row

    named : gives.table.name ≡ catalog_name
    named = same_text gives.table.name catalog_name (sym same)

    below : t < held.opened.next
    below = subst (λ (n : ℕ). t < n) (sym is.next) (limbo_drawn size pages t gives.has.limbo)

    durable : durable_limbo o h k t ≡ true
    durable = sym (held.limbo t below) ∙ (ap is_limbo (is.state t below) ∙ ap is_limbo gives.has.limbo)

    newest : newest_at (own o (after_durable h k) t) catalog_name key
        ≡ Some (told_change gives.table (records.change_in gives.e))
    newest = sym (held.changes t catalog_name key durable)
        ∙ (ap (λ (name : List ℕ). held.opened.limbo t name key) (sym named)
        ∙ is.limbo.there p gives.table gives.e gives.has)

    at_key : IsNewest (own o (after_durable h k) t) catalog_name key
        (told_change gives.table (records.change_in gives.e))
    at_key = newest_is (own o (after_durable h k) t) catalog_name key
        (told_change gives.table (records.change_in gives.e)) newest

    new : IsSome (row_at (own o (after_durable h k) t) catalog_name key)
        × (row_at (database o (after_durable h k)) catalog_name key ≡ None)
    new = own_new o (after_durable h k) t key opening legal grows_until
        (open_too (state_of o (after_durable h k) t) durable) at_key.has

    makes_row : IsSome (told_of gives.table (records.change_in gives.e))
    makes_row = some_too at_key.row (told_of gives.table (records.change_in gives.e))
        (at_key.told ∙ sym (told_so gives.table (records.change_in gives.e)))
        (subst IsSome at_key.row_is new.0)

    none_there : opening_catalog (begun packed_form packed_fitting size pages held.opened is) key ≡ None
    none_there = sym (its_begins.rows catalog_name key) ∙ (held.rows catalog_name key ∙ new.1)

  its_making : (c : LimboChange) → (p : RecId) × GivesLimbo (facts_of size pages is.layout) is.reading p c
      → IsMaking (begun packed_form packed_fitting size pages held.opened is) c
  its_making c (p, gives) = subst (IsMaking (begun packed_form packed_fitting size pages held.opened is)) gives.is
      (λ same. (makes_row p c gives same, none_there p c gives same))

  pub later_grows : CatalogGrows (begun packed_form packed_fitting size pages held.opened is) []
  later_grows = record {
    limbo = each_in (IsMaking (begun packed_form packed_fitting size pages held.opened is))
        (limbo_list packed_form size (state_at size pages) pages is.layout is.reading is.sound held.opened.rows is.held
        held.opened.limbo is.limbo)
        (λ c there. its_making c (limbo_from packed_form size (state_at size pages) pages is.layout is.reading is.sound
        held.opened.rows is.held held.opened.limbo is.limbo c there));
    entries = tt;
  }
