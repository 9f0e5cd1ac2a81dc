-- The pages of the catalog are tested.
use Rattle.std.proofs.Common.{◌≡◌, inl, inr, ◌<◌, ◌+◌, ◌||◌, ℕ, Bool, true, false, List, [], length, length-take-le, take, get_or, refl, sym, subst, arith, Result, Ok, Err}
use Rattle.std.proofs.lemmas.List.{take_more}
use Rattle.std.specs.Prelude.{IsErr, IsErrAnd, MatchResult, unwrap_or}
use Rattle.mg_base.specs.Disk.{Meaning}
use Rattle.mg_base.specs.Image.{Image}
use Rattle.mg_base.specs.declared.numbers.PageNo.{PageNo}
use Rattle.mg_heap.specs.Reads.{ReadsListed, is_listed}
use Rattle.mg_heap.specs.Table.{IsTable, RefusesTable}
use Rattle.mg_heap.specs.TableLaws.{each_push}
use Rattle.mg_heap.specs.Walk.{RefusesTableData}
use Rattle.mg_image.specs.Form.{Pages}
use Rattle.mg_pool.specs.Batch.{Changed, content_in}
use Rattle.mg_pool.specs.Pool.{shown}
use Rattle.mg_pool.specs.Reading.{ReadsPages}
use Rattle.mg_pool.specs.declared.batch.BatchPage.{BatchPage}
use Rattle.mg_pool.specs.declared.pool.Pool.{Pool}
use Rattle.mg_slots.specs.DataPage.{IsDataPage}
use Rattle.mg_slots.specs.Verdict.{common_verdict}
use Rattle.mg_slots.specs.declared.page.TheConstants.{DATA_KIND}
use Rattle.mg_space.specs.View.{KeepsStore, Tells, viewed}
use Rattle.mg_space.specs.ViewLaws.{tells_on, viewed_on}
use Rattle.mg_space.specs.declared.fault.SpaceFault.{SpaceFault}
use Rattle.mg_space.specs.declared.fault.SpaceFault.TheVariants as space
use Rattle.mg_txlist.specs.ReadingLaws.{all_more, of_more}
use Rattle.mg_database.specs.Tested.{AreDataPages, IsDataAt, ReadsTable, RefusesListed, RefusesTested, is_of_table}

-- what holds of a fault holds of the answer that hands it on
pub handed_on : {T : Type 0} (result : Result T SpaceFault) (fault : SpaceFault) (P : T → Type 0)
    (Q : SpaceFault → Type 0) → IsErr result → IsErrAnd result (λ given. given ≡ fault) → Q fault
    → MatchResult result P Q
handed_on (Ok x) fault P Q err is holds = absurd cc
handed_on (Err e) fault P Q err is holds = subst Q (sym is) holds

module _ {D L : Type 0} (m : Meaning D) (start store : Pool D L) (image : Image) (batch : Changed)
    (kept : KeepsStore m start store) (tells : Tells m start.disk image) where
  -- a clause on the pages as seen later is one on the pages as seen at the start
  pub as_started : (P : Pages → Type 0) → (Tells m store.disk image → P (viewed store image batch))
      → P (viewed start image batch)
  as_started P later = subst P (viewed_on m start store image batch kept)
      (later (tells_on m start store image kept tells))

-- a batch that puts nothing shows what the cache shows
pub sees_shown : {D L : Type 0} (store : Pool D L) (image : Image) (batch : Changed)
    (P : List BatchPage → Pages → Type 0) → batch.pages ≡ []
    → P batch.pages (λ n. unwrap_or (content_in batch.pages n) (shown store.dirty image n))
    → P [] (shown store.dirty image)
sees_shown store image batch P empty holds = subst (λ (pages : List BatchPage).
    P pages (λ n. unwrap_or (content_in pages n) (shown store.dirty image n))) empty holds

-- ---- pages that were looked for

pub or_left : (a b : Bool) → a ≡ true → (a || b) ≡ true
or_left true b is = refl
or_left false b is = absurd cc

pub or_right : (a b : Bool) → b ≡ true → (a || b) ≡ true
or_right true b is = refl
or_right false b is = is

-- what is said of few pages is said of more
pub wider : {D L : Type 0} (m : Meaning D) (old new : Pool D L) (most : ℕ) (few many : ℕ → Bool)
    → ((n : ℕ) → few n ≡ true → many n ≡ true) → ReadsPages m old new most few
    → ReadsPages m old new most many
wider m old new most few many within run = record {
  asks = of_more m old.disk new.disk most few many within run.asks;
  stay = run.stay;
}

-- ---- one data page

pub page_tested : (pages : Pages) (owner place at : ℕ) (ds : List ℕ) (n : PageNo) (read : List ℕ)
    → place < length ds → n.0 ≡ get_or ds place 0 → at ≡ place → read ≡ pages n.0
    → common_verdict read n DATA_KIND owner at ≡ Ok tt → IsDataPage read
    → AreDataPages pages owner (take place ds) → AreDataPages pages owner (take (place + 1) ds)
page_tested pages owner place at ds n read inside is same seen common lawful before =
    subst (AreDataPages pages owner) (sym (take_more ds place 0 inside))
    (each_push (IsDataAt pages owner) 0 (take place ds) (get_or ds place 0) before
    (subst (λ (k : ℕ). IsDataAt pages owner k (get_or ds place 0)) so_many
    (subst (IsDataAt pages owner place) is here)))
  where
    so_many : place ≡ 0 + length (take place ds)
    so_many = omega (arith, length-take-le place ds (omega (arith, inside)))

    here : IsDataAt pages owner place n.0
    here = record {
      common = subst (λ (b : List ℕ). common_verdict b n DATA_KIND owner place ≡ Ok tt) seen
          (subst (λ (k : ℕ). common_verdict read n DATA_KIND owner k ≡ Ok tt) same common);
      lawful = subst IsDataPage seen lawful;
    }

pub page_untested : {D L : Type 0} (m : Meaning D) (store : Pool D L) (batch : List BatchPage)
    (pages : Pages) (owner place at : ℕ) (ds : List ℕ) (n : PageNo) (fault : SpaceFault)
    → place < length ds → n.0 ≡ get_or ds place 0 → at ≡ place → AreDataPages pages owner (take place ds)
    → RefusesTableData m store batch (pages n.0) owner at n fault
    → RefusesListed m store batch pages owner ds fault
page_untested m store batch pages owner place at ds n (space.Full limit) inside is same before refused = refused
page_untested m store batch pages owner place at ds n (space.Damaged it) inside is same before refused = record {
  broken = record {
    place = place;
    inside = inside;
    page = n;
    listed = sym is;
    refused = subst (λ (k : ℕ). RefusesTableData m store batch (pages n.0) owner k n (space.Damaged it)) same
        refused;
  };
  before = before;
}
page_untested m store batch pages owner place at ds n (space.Pool fault) inside is same before refused = tt

-- ---- the pages of a table

pub chain_untested : {D L : Type 0} (m : Meaning D) (store : Pool D L) (batch : List BatchPage)
    (pages : Pages) (owner : ℕ) (fault : SpaceFault) → RefusesTable m store batch pages owner fault
    → RefusesTested m store batch pages owner fault
chain_untested m store batch pages owner (space.Full limit) refused = refused
chain_untested m store batch pages owner (space.Damaged it) refused = inl refused
chain_untested m store batch pages owner (space.Pool fault) refused = tt

pub listed_untested : {D L : Type 0} (m : Meaning D) (store : Pool D L) (batch : List BatchPage)
    (pages : Pages) (owner : ℕ) (ps ds : List ℕ) (fault : SpaceFault) → IsTable pages owner ps ds
    → RefusesListed m store batch pages owner ds fault → RefusesTested m store batch pages owner fault
listed_untested m store batch pages owner ps ds (space.Full limit) table refused = refused
listed_untested m store batch pages owner ps ds (space.Damaged it) table refused =
    inr (record { pointers = ps; data_pages = ds; table = table; first = refused })
listed_untested m store batch pages owner ps ds (space.Pool fault) table refused = tt

-- the pointer pages were looked for, and then the data pages
pub table_read : {D L : Type 0} (m : Meaning D) (old mid new : Pool D L) (ps ds : List ℕ)
    → ReadsListed m old mid ps → ReadsListed m mid new ds → ReadsTable m old new ps ds
table_read m old mid new ps ds first then_ = all_more m old mid new (length ps) (length ds) (is_listed ds)
    (is_of_table ps ds)
    (wider m old mid (length ps) (is_listed ps) (is_of_table ps ds)
    (λ n is. or_left (is_listed ps n) (is_listed ds n) is) first)
    then_ (λ n is. or_right (is_listed ps n) (is_listed ds n) is)
