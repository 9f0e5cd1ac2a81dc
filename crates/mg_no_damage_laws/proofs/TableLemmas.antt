-- The pages of lawful tables are found, and their records are read.
use Rattle.std.proofs.Common.{◌≡◌, ◌∙◌, ◌⊎◌, inl, inr, ◌+◌, ◌==◌, ℕ, Bool, true, false, List, [], ◌∷◌, Option, None, Some, sym, ap, subst, cond}
use Rattle.mg_base.specs.Disk.{Meaning}
use Rattle.mg_base.specs.Image.{Image}
use Rattle.mg_base.specs.declared.damage.Damaged.{Damaged}
use Rattle.mg_base.specs.declared.numbers.PageNo.{PageNo}
use Rattle.mg_base.specs.declared.numbers.RecId.{RecId}
use Rattle.mg_heap.specs.Stands.{StandsIn, TablesAreWalked, WalksMeetNoDamage}
use Rattle.mg_heap.specs.StandsLaws.{data_pages_once}
use Rattle.mg_heap.specs.Table.{IsTable}
use Rattle.mg_heap.specs.TableLaws.{table_once}
use Rattle.mg_heap.specs.Walk.{IsNext, IsNextIn, RefusesNext, RefusesWalk, behind}
use Rattle.mg_heap.specs.WalkLaws.{gives_in_table}
use Rattle.mg_image.specs.Form.{Pages}
use Rattle.mg_image.specs.RecordRules.{Facts}
use Rattle.mg_image.specs.Records.{Reading}
use Rattle.mg_image.specs.Tables.{Has, Stand}
use Rattle.mg_model.specs.declared.table.Table.{Table}
use Rattle.mg_pool.specs.Batch.{Changed}
use Rattle.mg_pool.specs.declared.pool.Pool.{Pool}
use Rattle.mg_rle.specs.Runs.{BreaksAt, StandsFor}
use Rattle.mg_seek.specs.AmongLaws.{page_among}
use Rattle.mg_seek.specs.Readings.{PlacesOfReadings}
use Rattle.mg_seek.specs.Refusals.{bad_record, no_next}
use Rattle.mg_seek.specs.Speaking.{bad_among, no_walk}
use Rattle.mg_seek.specs.TableRecords.{AreTableRecords, IsAmong}
use Rattle.mg_space.specs.View.{viewed}
use Rattle.mg_space.specs.declared.fault.SpaceFault.TheVariants as faults
use Rattle.mg_space.specs.declared.links.FireLinks.{FireLinks}
use Rattle.mg_no_damage_laws.specs.Sees.{no_batch}
use Rattle.mg_no_damage_laws.specs.Tables.{PlacesAreKnown, SeesTable, TablesAreRead, VisitsAreMade, WalksAreWhole}
use Rattle.mg_no_damage_laws.proofs.LaidLemmas.{walk_whole}
use Rattle.mg_no_damage_laws.proofs.RowLemmas.{row_read}

-- ---- what comes next stands on a page of the table

pub next_page : (pages : Pages) (ns : List ℕ) (from : ℕ) (x : RecId) → IsNextIn pages ns from (Some x)
    → Has ns x.page.0
next_page pages [] from x is = absurd cc
next_page pages (n ∷ ns) from x (inl (y, same, first)) =
    let its : x ≡ y = cc in inl (ap (λ (z : RecId). z.page.0) its ∙ first.page)
next_page pages (n ∷ ns) from x (inr (none, later)) = inr (next_page pages ns 0 x later)

has_behind : (ds : List ℕ) (n k : ℕ) → Has (behind ds n) k → Has ds k
has_behind [] n k is = is
has_behind (d ∷ ds) n k is = at (d == n) is (has_behind ds n k)
  where
    at : (b : Bool) → Has (cond b ds (behind ds n)) k → (Has (behind ds n) k → Has ds k)
        → (k ≡ d) ⊎ Has ds k
    at true is more = inr is
    at false is more = inr (more is)

visit_page : (pages : Pages) (ds : List ℕ) (after : Option RecId) (x : RecId) → StandsIn ds after
    → IsNext pages ds after (Some x) → Has ds x.page.0
visit_page pages ds None x within next = next_page pages ds 0 x next
visit_page pages ds (Some y) x within next =
    at (next_page pages (y.page.0 ∷ behind ds y.page.0) (y.slot + 1) x next)
  where
    at : (x.page.0 ≡ y.page.0) ⊎ Has (behind ds y.page.0) x.page.0 → Has ds x.page.0
    at (inl same) = subst (Has ds) (sym same) within
    at (inr later) = has_behind ds y.page.0 x.page.0 later

-- ---- tables

module _ {D : Type 0} (m : Meaning D) (walks : WalksMeetNoDamage m) where
  module _ (store : Pool D FireLinks) (image : Image) (batch : Changed) (f : Facts) (r : Reading)
      (stand : Stand) (table : Table) (it : SeesTable m store image batch f r stand table) where
    abbrev view : Pages
    view = viewed store image batch

    -- the table's first page is that of its stand
    begins : stand.table.pointer.0 ≡ table.pointer.0
    begins = ap (λ (n : PageNo). n.0) it.stands.same.pointer

    pub walked : (damage : Damaged)
        → RefusesWalk m store batch.pages view table.pointer.0 (faults.Damaged damage) → ⊥
    walked damage refused = walk_whole m store image batch walks it.sees.tells store.geometry.size stand
        it.stands.has damage
        (subst (λ (owner : ℕ). RefusesWalk m store batch.pages view owner (faults.Damaged damage)) (sym begins)
        refused)

  pub walks_are_whole : WalksAreWhole m
  walks_are_whole store image batch f r stand table it damage refused =
      walked store image batch f r stand table it damage refused

  module _ (tables : TablesAreWalked) where
    module _ (store : Pool D FireLinks) (image : Image) (batch : Changed) (f : Facts) (r : Reading)
        (stand : Stand) (table : Table) (it : SeesTable m store image batch f r stand table) where
      is_table : IsTable (viewed store image batch) table.pointer.0 stand.pointers
          stand.data_pages
      is_table = subst (λ (owner : ℕ). IsTable (viewed store image batch) owner stand.pointers
          stand.data_pages) (begins store image batch f r stand table it)
          (tables false store.geometry.size (viewed store image batch) stand it.stands.has)

      -- it has these data pages and no others
      its_pages : (ps ds : List ℕ) → IsTable (viewed store image batch) table.pointer.0 ps ds
          → ds ≡ stand.data_pages
      its_pages ps ds other = table_once (viewed store image batch) table.pointer.0 ps ds
          stand.pointers stand.data_pages other is_table

      -- a record of the table stands on one of its data pages
      pub among_listed : (records : List RecId) (are : AreTableRecords (viewed store image batch) table.pointer.0 records)
          (rec : RecId) → IsAmong records rec → Has stand.data_pages rec.page.0
      among_listed records are rec among = subst (λ (ds : List ℕ). Has ds rec.page.0)
          (its_pages are.pointers are.data_pages are.table)
          (page_among (viewed store image batch) are.data_pages rec
          (subst (λ (recs : List RecId). IsAmong recs rec) are.are among))

    pub places_are_known : PlacesAreKnown m
    places_are_known store image batch f r stand table it n listed damage (inl chain) =
        walked store image batch f r stand table it damage (inl chain)
    places_are_known store image batch f r stand table it n listed damage (inr (unlisted, is)) =
        unlisted.not_there (subst (λ (ds : List ℕ). Has ds n.0)
        (sym (its_pages store image batch f r stand table it unlisted.pointers unlisted.data_pages unlisted.table))
        listed)

    module _ (places : PlacesOfReadings)
        (one_plain : (packed first second : List ℕ) → StandsFor packed first → StandsFor packed second
        → first ≡ second)
        (accepted : (packed plain : List ℕ) (at : ℕ) → StandsFor packed plain → BreaksAt packed at → ⊥) where
      pub tables_are_read : TablesAreRead m
      tables_are_read store image batch f r stand table it takes _ (no_walk damage refused) =
          walked store image batch f r stand table it damage refused
      tables_are_read store image batch f r stand table it takes _ (bad_among records damage are broken) =
          row_read one_plain accepted m walks places store image batch f r it.sees takes broken.rec
          stand.table table (it.stands.its broken.rec.page.0
          (among_listed store image batch f r stand table it records are broken.rec broken.among))
          it.stands.same.shape damage broken.damaged

      pub visits_are_made : VisitsAreMade m
      visits_are_made store image f r stand table it takes after within _ (no_next damage refused) =
          walks store image false store.geometry.size stand after damage it.sees.tells it.stands.has within
          (inl (subst (λ (owner : ℕ). RefusesNext m store [] (viewed store image no_batch) owner after
          (faults.Damaged damage)) (sym (begins store image no_batch f r stand table it)) refused))
      visits_are_made store image f r stand table it takes after within _ (bad_record rec damage gives broken) =
          row_read one_plain accepted m walks places store image no_batch f r it.sees takes rec
          stand.table table (it.stands.its rec.page.0 listed) it.stands.same.shape damage broken
        where
          listed : Has stand.data_pages rec.page.0
          listed = visit_page (viewed store image no_batch) stand.data_pages after rec within
              (gives_in_table (viewed store image no_batch) table.pointer.0 stand.pointers stand.data_pages
              (is_table store image no_batch f r stand table it) after (Some rec)
              (data_pages_once false store.geometry.size (viewed store image no_batch) stand it.stands.has)
              gives)
