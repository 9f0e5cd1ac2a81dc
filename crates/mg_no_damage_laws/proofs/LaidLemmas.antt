-- A batch that is filled over a cache, as dirty pages of it: so what holds of caches holds of one who fills a batch.
use Rattle.std.proofs.Common.{◌≡◌, ◌∙◌, ◌⊎◌, inl, inr, ◌==◌, ℕ, Bool, true, false, List, [], ◌∷◌, Option, None, Some, refl, sym, ap, subst, cond, unwrap_or, is_some}
use Rattle.std.proofs.Math.Path.{fun_ext}
use Rattle.mg_base.specs.Disk.{Meaning}
use Rattle.mg_base.specs.Image.{Image, page_at}
use Rattle.mg_base.specs.declared.damage.Damaged.{Damaged}
use Rattle.mg_base.specs.declared.numbers.PageNo.{PageNo}
use Rattle.mg_heap.specs.Reading.{IsAbsence, RefusesData}
use Rattle.mg_heap.specs.Stands.{WalksMeetNoDamage}
use Rattle.mg_heap.specs.Table.{IsBrokenChain, IsPointerDamage}
use Rattle.mg_heap.specs.Walk.{IsBrokenPage, RefusesTableData, RefusesWalk}
use Rattle.mg_image.specs.Form.{Pages}
use Rattle.mg_image.specs.Sound.{HasTablePages}
use Rattle.mg_image.specs.Tables.{Has, Stand}
use Rattle.mg_pool.specs.Batch.{Changed, content_in}
use Rattle.mg_pool.specs.Change.{or_else}
use Rattle.mg_pool.specs.Dirty.{DirtyPages, bytes_of, content_of, entry_in}
use Rattle.mg_pool.specs.Pool.{shown}
use Rattle.mg_pool.specs.declared.batch.BatchPage.{BatchPage}
use Rattle.mg_pool.specs.DirtyPage.{DirtyPage}
use Rattle.mg_pool.specs.declared.pool.Pool.{Pool}
use Rattle.mg_space.specs.View.{IsMissing, Tells, viewed}
use Rattle.mg_space.specs.declared.fault.SpaceFault.TheVariants as faults
use Rattle.mg_space.specs.declared.links.FireLinks.{FireLinks}

-- the pages of a batch in front of dirty pages
abbrev laid : List BatchPage → List DirtyPage → List DirtyPage
laid [] ds = ds
laid (x ∷ xs) ds = record { page = x.page; marks = []; bytes = x.bytes } ∷ laid xs ds

content_laid : (xs : List BatchPage) (ds : List DirtyPage) (n : ℕ)
    → bytes_of (entry_in (laid xs ds) n) ≡ or_else (content_in xs n) (bytes_of (entry_in ds n))
content_laid [] ds n = refl
content_laid (x ∷ xs) ds n = at (x.page == n) (content_laid xs ds n)
  where
    at : (b : Bool) → bytes_of (entry_in (laid xs ds) n)
        ≡ or_else (content_in xs n) (bytes_of (entry_in ds n))
        → bytes_of (cond b (Some (record { page = x.page; marks = []; bytes = x.bytes }))
        (entry_in (laid xs ds) n))
        ≡ or_else (cond b (Some x.bytes) (content_in xs n)) (bytes_of (entry_in ds n))
    at true more = refl
    at false more = more

two_ways : (first second : Option (List ℕ)) (x : List ℕ)
    → unwrap_or (or_else first second) x ≡ unwrap_or first (unwrap_or second x)
two_ways None second x = refl
two_ways (Some bytes) second x = refl

module _ {D : Type 0} (m : Meaning D) (store : Pool D FireLinks) (image : Image) (batch : Changed) where
  abbrev dirty_with : DirtyPages
  dirty_with = record {
    size = store.dirty.size;
    room = store.dirty.room;
    pages = laid batch.pages store.dirty.pages;
  }

  abbrev with_batch : Pool D FireLinks
  with_batch = record store { dirty = dirty_with }

  content_is : (n : ℕ) → content_of dirty_with n ≡ or_else (content_in batch.pages n) (content_of store.dirty n)
  unfolding content_of
  content_is n = content_laid batch.pages store.dirty.pages n

  -- it shows what one sees who fills the batch
  pub shows_viewed : shown dirty_with image ≡ viewed store image batch
  shows_viewed = fun_ext (λ n. ap (λ (o : Option (List ℕ)). unwrap_or o (page_at store.dirty.size image n))
      (content_is n) ∙ two_ways (content_in batch.pages n) (content_of store.dirty n)
      (page_at store.dirty.size image n))

  -- and a page that is missing is missing there
  missing : (n count : ℕ) → IsMissing m store batch.pages n count → IsMissing m with_batch [] n count
  missing n count is = record {
    unput = refl;
    clean = ap is_some (content_is n) ∙ (ap (λ (o : Option (List ℕ)).
        is_some (or_else o (content_of store.dirty n))) is.unput ∙ is.clean);
    count_is = is.count_is;
    past = is.past;
  }

  absent : (n : PageNo) (it : Damaged) → IsAbsence m store batch.pages n it → IsAbsence m with_batch [] n it
  absent n it (count, is, gone) = (count, is, missing n.0 count gone)

  data_refused : (n : PageNo) (b : List ℕ) (it : Damaged)
      → RefusesData m store batch.pages n b (faults.Damaged it)
      → RefusesData m with_batch [] n b (faults.Damaged it)
  data_refused n b it (inl gone) = inl (absent n it gone)
  data_refused n b it (inr none) = inr none

  chain_refused : (pages : Pages) (owner : ℕ) (it : Damaged)
      → IsBrokenChain m store batch.pages pages owner (faults.Damaged it)
      → IsBrokenChain m with_batch [] pages owner (faults.Damaged it)
  chain_refused pages owner it broken = record {
    pointers = broken.pointers;
    page = broken.page;
    leads = broken.leads;
    some = broken.some;
    refused = at broken.refused;
  }
    where
      at : IsAbsence m store batch.pages broken.page it
          ⊎ IsPointerDamage pages owner broken.pointers broken.page it
          → IsAbsence m with_batch [] broken.page it
          ⊎ IsPointerDamage pages owner broken.pointers broken.page it
      at (inl gone) = inl (absent broken.page it gone)
      at (inr damaged) = inr damaged

  page_refused : (pages : Pages) (owner : ℕ) (ds : List ℕ) (it : Damaged)
      → IsBrokenPage m store batch.pages pages owner ds (faults.Damaged it)
      → IsBrokenPage m with_batch [] pages owner ds (faults.Damaged it)
  page_refused pages owner ds it broken = record {
    place = broken.place;
    inside = broken.inside;
    page = broken.page;
    listed = broken.listed;
    refused = at broken.refused;
  }
    where
      at : RefusesTableData m store batch.pages (pages broken.page.0) owner broken.place broken.page
          (faults.Damaged it)
          → RefusesTableData m with_batch [] (pages broken.page.0) owner broken.place broken.page
          (faults.Damaged it)
      at (inl gone) = inl (absent broken.page it gone)
      at (inr damaged) = inr damaged

  walk_refused : (pages : Pages) (owner : ℕ) (it : Damaged)
      → RefusesWalk m store batch.pages pages owner (faults.Damaged it)
      → RefusesWalk m with_batch [] pages owner (faults.Damaged it)
  walk_refused pages owner it (inl chain) = inl (chain_refused pages owner it chain)
  walk_refused pages owner it (inr table) = inr (record {
    pointers = table.pointers;
    data_pages = table.data_pages;
    table = table.table;
    broken = page_refused pages owner table.data_pages it table.broken;
  })

  -- ---- a table that stands

  module _ (walks : WalksMeetNoDamage m) (tells : Tells m store.disk image) (size : ℕ) (stand : Stand)
      (has : HasTablePages false size (viewed store image batch) stand) where
    has_there : HasTablePages false size (shown dirty_with image) stand
    has_there = subst (λ (pages : Pages). HasTablePages false size pages stand) (sym shows_viewed) has

    pub walk_whole : (it : Damaged)
        → RefusesWalk m store batch.pages (viewed store image batch) stand.table.pointer.0 (faults.Damaged it)
        → ⊥
    walk_whole it refused = walks with_batch image false size stand None it tells has_there tt
        (inr (subst (λ (pages : Pages). RefusesWalk m with_batch [] pages stand.table.pointer.0
        (faults.Damaged it)) (sym shows_viewed)
        (walk_refused (viewed store image batch) stand.table.pointer.0 it refused)))

    pub listed_there : (n : PageNo) → Has stand.data_pages n.0 → (it : Damaged)
        → RefusesData m store batch.pages n (viewed store image batch n.0) (faults.Damaged it) → ⊥
    listed_there n listed it refused = walks with_batch image false size stand
        (Some (record { page = n; slot = 0 })) it tells has_there listed
        (inl (inl (subst (λ (pages : Pages). RefusesData m with_batch [] n (pages n.0) (faults.Damaged it))
        (sym shows_viewed) (data_refused n (viewed store image batch n.0) it refused))))
