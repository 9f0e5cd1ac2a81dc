-- An image has one reading at most, and a reading holds one database at most.
use Rattle.std.proofs.Common.{◌≡◌, inl, inr, refl, sym, ap, ◌∙◌, ℕ, Bool, List, [], ◌∷◌, Option, None, Some}
use Rattle.std.specs.Prelude.{IsSome}
use Rattle.mg_base.specs.declared.numbers.RecId.{RecId}
use Rattle.mg_rowcode.specs.Storable.{AreStorable}
use Rattle.mg_value.specs.declared.shape.Column.{Column}
use Rattle.mg_value.specs.declared.value.Value.{Value}
use Rattle.mg_version.specs.declared.cell.Link.{Link}
use Rattle.mg_version.specs.declared.cell.Version.{Version}
use Rattle.mg_version.specs.declared.cell.Cell.TheVariants as cells
use Rattle.mg_image.specs.declared.entry.Entry.{Entry}
use Rattle.mg_model.specs.declared.table.Table.{Table}
use Rattle.mg_image.specs.Form.{Coding, Row}
use Rattle.mg_model.specs.Catalog.{catalog_name, table_key}
use Rattle.mg_image.specs.Held.{Database, HasTable, IsHeld, IsHeldAt, told_row}
use Rattle.mg_image.specs.RecordRules.{AreRecords, Each, Facts, IsVersion, columns_for, table_in}
use Rattle.mg_image.specs.Records.{Cells, Chain, Reading, ended, goes, key_of, newest_of, record_key}

-- a body codes one row of a format at most
abbrev pub RowsAreOne : Coding → Type 0
RowsAreOne coding = (columns : List Column) (format : ℕ) (body : List ℕ) (row other : Row)
    → coding.row_spelled columns format body row → coding.row_spelled columns format body other
    → AreStorable row → AreStorable other → row ≡ other

-- the cells of an image have one reading at most
abbrev pub HasOneReading : Coding → Type 0
HasOneReading coding = (f : Facts) (h : Cells) (r s : Reading) → AreRecords coding f h r
    → AreRecords coding f h s → (p : RecId) → r p ≡ s p

-- what a chain says of its first version
abbrev pub Opens : Cells → Option Link → List Entry → Type 0
Opens h None [] = Unit {0}
Opens h None (e ∷ es) = ⊥
Opens h (Some l) [] = ⊥
Opens h (Some l) (e ∷ es) = (e.at ≡ l.rec) × (h e.at ≡ Some (cells.Version e.version))
    × (e.version.tx ≡ l.tx) × Chain h e.version.back es

pub chain_opens : (h : Cells) (l : Option Link) (es : List Entry) → Chain h l es → Opens h l es
chain_opens h l es ended = tt
chain_opens h l es (goes m e fs at is tx more) = (at, is, tx, more)

same_version : (v w : Version) → Some (cells.Version v) ≡ Some (cells.Version w) → v ≡ w
same_version v w same = cc

-- two versions of one cell are one, as their rows are
pub same_entry : (coding : Coding) → RowsAreOne coding → (f : Facts) (table : Table) (h : Cells)
    (k m : Value) (d e : Entry) → d.at ≡ e.at → h d.at ≡ Some (cells.Version d.version)
    → h e.at ≡ Some (cells.Version e.version) → IsVersion coding f table k d
    → IsVersion coding f table m e → d ≡ e
same_entry coding one f table h k m d e at is_d is_e of_d of_e =
    let version : d.version ≡ e.version =
    same_version d.version e.version (sym is_d ∙ (ap h at ∙ is_e)) in
    let row : d.row ≡ e.row = one (columns_for table e.version.deleted) e.version.format
    e.version.body d.row e.row (rw version at of_d.spelled) of_e.spelled of_d.storable
    of_e.storable in
    λ i. record { at = at i; version = version i; row = row i }

-- the versions from a link on are one list at most
pub chain_once : (coding : Coding) → RowsAreOne coding → (f : Facts) (table : Table) (h : Cells)
    (k m : Value) (l : Option Link) (es fs : List Entry) → Chain h l es → Chain h l fs
    → Each (IsVersion coding f table k) es → Each (IsVersion coding f table m) fs → es ≡ fs
chain_once coding one f table h k m l es fs ended also each each_also =
    at fs (chain_opens h None fs also)
  where
    at : (fs : List Entry) → Opens h None fs → [] ≡ fs
    at [] o = refl
    at (e ∷ fs) o = absurd o
chain_once coding one f table h k m l es fs (goes n e rest to is tx more) also each each_also =
    at fs (chain_opens h (Some n) fs also) each_also
    (λ v gs same chain all. chain_once coding one f table h k m e.version.back rest gs more
    (rw same chain) each.1 all)
  where
    at : (fs : List Entry) → Opens h (Some n) fs → Each (IsVersion coding f table m) fs
        → ((v : Version) (gs : List Entry) → e.version ≡ v → Chain h v.back gs
        → Each (IsVersion coding f table m) gs → rest ≡ gs) → e ∷ rest ≡ fs
    at [] o all go = absurd o
    at (d ∷ gs) o all go =
        let same : e ≡ d =
        same_entry coding one f table h k m e d (to ∙ sym o.0) is o.1 each.0 all.0 in
        let others : rest ≡ gs = go d.version gs (ap (λ (x : Entry). x.version) same) o.3 all.1 in
        λ i. same i ∷ others i

-- where a body codes one row, the cells of an image have one reading
pub reading_once : (coding : Coding) → RowsAreOne coding → HasOneReading coding
reading_once coding one f h r s are also p = at (table_in f p) refl
  where
    at : (t : Option Table) → table_in f p ≡ t → r p ≡ s p
    at None none = are.outside p none ∙ sym (also.outside p none)
    at (Some table) some = chain_once coding one f table h (record_key table (r p))
        (record_key table (s p)) (newest_of p (h p)) (r p) (s p) (are.reads p table some)
        (also.reads p table some) ((are.each p table some).each) ((also.each p table some).each)

-- a database that is held has what another one has
held_has : (f : Facts) (committed : ℕ → Bool) (r : Reading) (db other : Database)
    → IsHeld f committed r db → IsHeld f committed r other
    → (name : List ℕ) (key : Value) (row : Row)
    → HasTable other name → db name key ≡ Some row → other name key ≡ Some row
held_has f committed r db other held also name key row has is =
    let at : IsHeldAt f committed r name key row = held.whole name key row is in
    let named : HasTable other at.table.name = rw at.named has in
    let there : other at.table.name (key_of at.table at.stored)
    ≡ Some (told_row at.table at.stored) =
    also.there at.place at.table at.stored at.shows named in
    ap (λ (n : List ℕ). other n key) (sym at.named) ∙
    (ap (other at.table.name) (sym at.keyed) ∙ (there ∙ ap Some at.told))

-- a table of one is a table of the other
table_of_both : (f : Facts) (committed : ℕ → Bool) (r : Reading) (db other : Database)
    → IsHeld f committed r db → IsHeld f committed r other → (name : List ℕ) → HasTable db name
    → HasTable other name
table_of_both f committed r db other held also name (inl is) = inl is
table_of_both f committed r db other held also name (inr some) =
    inr (at (db catalog_name (table_key name)) refl some)
  where
    at : (row : Option Row) → db catalog_name (table_key name) ≡ row → IsSome row
        → IsSome (other catalog_name (table_key name))
    at None is nothing = absurd cc
    at (Some row) is something = rw (held_has f committed r db other held also catalog_name
        (table_key name)
        row (inl refl) is) refl

-- a reading holds one database at most
pub held_once : (f : Facts) (committed : ℕ → Bool) (r : Reading) (db other : Database)
    → IsHeld f committed r db → IsHeld f committed r other → (name : List ℕ) (key : Value)
    → db name key ≡ other name key
held_once f committed r db other held also name key = at (db name key) (other name key) refl refl
  where
    at : (row next : Option Row) → db name key ≡ row → other name key ≡ next
        → db name key ≡ other name key
    at None None is as_ = is ∙ sym as_
    at (Some row) next is as_ = is ∙ sym (held_has f committed r db other held also name key row
        (table_of_both f committed r db other held also name (held.tables name key row is)) is)
    at None (Some row) is as_ = held_has f committed r other db also held name key row
        (table_of_both f committed r other db also held name (also.tables name key row as_)) as_ ∙
        sym as_
