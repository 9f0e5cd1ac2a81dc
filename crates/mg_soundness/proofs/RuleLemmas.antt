-- The rules of records of several tables together, from those of each and back.
use Rattle.std.proofs.Common.{◌≡◌, refl, sym, ◌∙◌, ap, subst, Bool, true, false, List, [], ◌∷◌, Option, None, Some}
use Rattle.mg_base.specs.declared.numbers.RecId.{RecId}
use Rattle.mg_model.specs.declared.table.Table.{Table}
use Rattle.mg_image.specs.declared.entry.Entry.{Entry}
use Rattle.mg_image.specs.Tables.{HasStand, Stand, has, table_at}
use Rattle.mg_reading.specs.declared.found.Found.{Found}
use Rattle.mg_reading.specs.declared.image.Image.{Image}
use Rattle.mg_reading.specs.declared.rows.RowCoding.{RowCoding}
use Rattle.mg_reading.specs.Found.{image_facts, reading_of}
use Rattle.mg_reading.specs.OneTable.{stands_facts}
use Rattle.mg_reading.specs.PartLaws.{takes_none}
use Rattle.mg_reading.specs.RecordParts.{HaveOneKey, HaveOwnKeys, TakeOneKey}
use Rattle.mg_soundness.specs.Joined.{AreTested, EachRead, EachTable, IsKeyed, IsTableRead, joined}
use Rattle.mg_soundness.proofs.JoinLemmas.{IsIn, IsPart, is_in, joined_outside, map_tables, one_of_tables, parted}

-- a property of a table, a place and what is read there
abbrev pub Placed : Type 1
Placed = Table → RecId → List Entry → Type 0

-- what holds of each table's places holds of all
pub tables_have : (P : Placed) (image : Image) (ss : List Stand) (fs : List (List Found))
    → AreTested image ss
    → EachTable (λ s found. (p : RecId) → P s.table p (reading_of found p)) ss fs
    → (p : RecId) (t : Table) → table_at ss p.page.0 ≡ Some t → P t p (joined ss fs p)
tables_have P image ss fs are each p t is =
    at (is_in (λ s found. (p : RecId) → P s.table p (reading_of found p)) ss fs are.once each p t is)
  where
    at : IsIn (λ s found. (p : RecId) → P s.table p (reading_of found p)) ss fs p t
        → P t p (joined ss fs p)
    at on = subst (λ (x : Table). P x p (joined ss fs p)) on.same
        (rw (on.part p on.there) (on.holds p))

-- nothing was read of the places of other tables
nothing_else : (coding : RowCoding) (image : Image) (s : Stand) (found : List Found)
    → IsTableRead coding image s found → (p : RecId) → has s.data_pages p.page.0 ≡ false
    → reading_of found p ≡ []
nothing_else coding image s found read p e = read.versions.outside p (rw e refl)

-- and the other way
pub have_tables : (P : Placed) → ((t : Table) (p : RecId) → P t p []) → (coding : RowCoding)
    (image : Image) (ss : List Stand) (fs : List (List Found)) → AreTested image ss
    → EachTable (IsTableRead coding image) ss fs
    → ((p : RecId) (t : Table) → table_at ss p.page.0 ≡ Some t → P t p (joined ss fs p))
    → EachTable (λ s found. (p : RecId) → P s.table p (reading_of found p)) ss fs
have_tables P none coding image ss fs are read each =
    map_tables (λ s found. IsTableRead coding image s found × IsPart (joined ss fs) s found)
    (λ s found. (p : RecId) → P s.table p (reading_of found p)) ss fs gives
    (parted (IsTableRead coding image) ss fs are.once read)
  where
    gives : (s : Stand) (found : List Found) → HasStand ss s
        → IsTableRead coding image s found × IsPart (joined ss fs) s found
        → (p : RecId) → P s.table p (reading_of found p)
    gives s found one both p = at (has s.data_pages p.page.0) refl
      where
        at : (b : Bool) → has s.data_pages p.page.0 ≡ b → P s.table p (reading_of found p)
        at true e = rw (both.1 p e) at
            (each p s.table ((one_of_tables image ss are s one).mine p e))
        at false e = rw (nothing_else coding image s found both.0 p e) (none s.table p)

-- what holds of the places of tables holds of every place, where it holds of nothing
pub every_place : (P : RecId → List Entry → Type 0) → ((p : RecId) → P p []) → (ss : List Stand)
    (fs : List (List Found))
    → ((p : RecId) (t : Table) → table_at ss p.page.0 ≡ Some t → P p (joined ss fs p))
    → (p : RecId) → P p (joined ss fs p)
every_place P none ss fs each p = at (table_at ss p.page.0) refl
  where
    at : (t : Option Table) → table_at ss p.page.0 ≡ t → P p (joined ss fs p)
    at None e = rw (joined_outside ss fs p e) (none p)
    at (Some t) e = each p t e

-- what holds of each list that was read, by tables
pub read_tables : (P Q : List Found → Type 0) (R : Stand → List Found → Type 0)
    → ((s : Stand) (found : List Found) → R s found → P found → Q found) → (ss : List Stand)
    (fs : List (List Found)) → EachTable R ss fs → EachRead P fs
    → EachTable (λ s found. Q found) ss fs
read_tables P Q R gives [] [] shape each = tt
read_tables P Q R gives [] (f ∷ fs) shape each = shape
read_tables P Q R gives (s ∷ ss) [] shape each = shape
read_tables P Q R gives (s ∷ ss) (f ∷ fs) shape each =
    (gives s f shape.0 each.0, read_tables P Q R gives ss fs shape.1 each.1)

pub tables_read : (P : List Found → Type 0) (R : Stand → List Found → Type 0)
    → ((s : Stand) (found : List Found) → R s found → P found) → (ss : List Stand)
    (fs : List (List Found)) → EachTable R ss fs → EachRead P fs
tables_read P R gives [] [] each = tt
tables_read P R gives [] (f ∷ fs) each = absurd each
tables_read P R gives (s ∷ ss) [] each = tt
tables_read P R gives (s ∷ ss) (f ∷ fs) each =
    (gives s f each.0, tables_read P R gives ss fs each.1)

-- where each table's records have keys of their own, all have
pub join_keys : (image : Image) (ss : List Stand) (fs : List (List Found))
    → AreTested image ss → EachTable (IsKeyed image) ss fs
    → HaveOwnKeys (stands_facts image ss) (joined ss fs)
join_keys image ss fs are each = record {
  one = tables_have (λ t p es. HaveOneKey t es) image ss fs are
      (map_tables (IsKeyed image) (λ s found. (p : RecId) → HaveOneKey s.table (reading_of found p))
      ss fs (λ s found one keyed. keyed.one) each);
  own = λ p q t at_p at_q both. own p q t
      (is_in (IsKeyed image) ss fs are.once each p t at_p) at_q both;
}
  where
    own : (p q : RecId) (t : Table) → IsIn (IsKeyed image) ss fs p t
        → table_at ss q.page.0 ≡ Some t
        → TakeOneKey (stands_facts image ss) t (joined ss fs p) (joined ss fs q) → p ≡ q
    own p q t on at_q both =
        let there = (one_of_tables image ss are on.stand on.one).back q
        (at_q ∙ ap Some (sym on.same)) in
        on.holds.own p q (rw (on.part p on.there, on.part q there) at
        (subst (λ (x : Table). TakeOneKey (image_facts image) x (joined ss fs p)
        (joined ss fs q)) (sym on.same) both))

-- and the other way
pub keys_alone : (coding : RowCoding) (image : Image) (ss : List Stand) (fs : List (List Found))
    → AreTested image ss → EachTable (IsTableRead coding image) ss fs
    → HaveOwnKeys (stands_facts image ss) (joined ss fs) → EachTable (IsKeyed image) ss fs
keys_alone coding image ss fs are read keys =
    map_tables (λ s found. IsTableRead coding image s found × IsPart (joined ss fs) s found)
    (IsKeyed image) ss fs (λ s found one both. record {
      one = λ p. one_key s found one both p (has s.data_pages p.page.0) refl;
      own = λ p q taken. own s found one both p q taken (has s.data_pages p.page.0)
          (has s.data_pages q.page.0) refl refl;
    }) (parted (IsTableRead coding image) ss fs are.once read)
  where
    one_key : (s : Stand) (found : List Found) → HasStand ss s
        → IsTableRead coding image s found × IsPart (joined ss fs) s found → (p : RecId) (b : Bool)
        → has s.data_pages p.page.0 ≡ b → HaveOneKey s.table (reading_of found p)
    one_key s found one both p true e = rw (both.1 p e) at
        (keys.one p s.table ((one_of_tables image ss are s one).mine p e))
    one_key s found one both p false e = rw (nothing_else coding image s found both.0 p e) tt

    own : (s : Stand) (found : List Found) → HasStand ss s
        → IsTableRead coding image s found × IsPart (joined ss fs) s found → (p q : RecId)
        → TakeOneKey (image_facts image) s.table (reading_of found p) (reading_of found q)
        → (b c : Bool) → has s.data_pages p.page.0 ≡ b → has s.data_pages q.page.0 ≡ c → p ≡ q
    own s found one both p q taken false c e d = absurd (takes_none (image_facts image)
        (rw (nothing_else coding image s found both.0 p e) at taken.0))
    own s found one both p q taken true false e d = absurd (takes_none (image_facts image)
        (rw (nothing_else coding image s found both.0 q d) at taken.1))
    own s found one both p q taken true true e d =
        let is = one_of_tables image ss are s one in
        keys.own p q s.table (is.mine p e) (is.mine q d) (rw (both.1 p e, both.1 q d) taken)
