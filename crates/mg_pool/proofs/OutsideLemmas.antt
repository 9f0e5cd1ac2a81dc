-- The dirty page of least number outside a batch.
use Rattle.std.proofs.Common.{◌≡◌, ◌<◌, ◌==◌, ℕ, Bool, true, false, not, ◌&&◌, List, [], ◌∷◌, length, Option, Some, None, is_some, sym, ◌∙◌, ap, refl, cond}
use Rattle.std.specs.Prelude.{IsSome}
use Rattle.std.proofs.lemmas.Bool.{eqb-true, and_from, not_from_false}
use Rattle.mg_pool.specs.declared.batch.BatchPage.{BatchPage}
use Rattle.mg_pool.specs.DirtyPage.{DirtyPage}
use Rattle.mg_pool.specs.Batch.{is_in, outside_in, dirty_with}
use Rattle.mg_pool.specs.Dirty.{entry_in, bytes_of, content_of, is_dirty, IsTable, IsLeastPage}
use Rattle.mg_pool.proofs.DirtyLemmas.{table}
use Rattle.mg_pool.proofs.LeastLemmas.{passes, chosen}
use Rattle.mg_pool.proofs.BatchLemmas.{IsApart, some_outside}

pub outside_chosen : (batch : List BatchPage) (d : DirtyPage) → chosen (λ e. not (is_in batch e.page)) d ≡ outside_in batch d
outside_chosen batch d = at (is_in batch d.page)
  where
    at : (b : Bool) → cond (not b) (Some d.page) None ≡ cond b None (Some d.page)
    at true = refl
    at false = refl

-- the entry of a page has its number
entry_page : (ds : List DirtyPage) (page : ℕ) (d : DirtyPage) → entry_in ds page ≡ Some d → d.page ≡ page
entry_page [] page d is = absurd cc
entry_page (x ∷ xs) page d is = at (x.page == page) refl (entry_page xs page d) is
  where
    at : (b : Bool) → (x.page == page) ≡ b → (entry_in xs page ≡ Some d → d.page ≡ page) → cond b (Some x) (entry_in xs page) ≡ Some d → d.page ≡ page
    at true same more e = let f : x ≡ d = cc in ap (λ (y : DirtyPage). y.page) (sym f) ∙ eqb-true x.page page same
    at false apart more e = more e

pub outside_passes : (size room : ℕ) (ds : List DirtyPage) (batch : List BatchPage) → IsTable size ds → (page : ℕ) → passes (λ d. not (is_in batch d.page)) (entry_in ds page) ≡ (is_dirty (table size room ds) page && not (is_in batch page))
unfolding passes content_of
outside_passes size room ds batch kept page = at (entry_in ds page) refl
  where
    at : (o : Option DirtyPage) → entry_in ds page ≡ o → passes (λ d. not (is_in batch d.page)) o ≡ (is_some (bytes_of o) && not (is_in batch page))
    at None is = refl
    at (Some d) is = ap (λ (p : ℕ). not (is_in batch p)) (entry_page ds page d is)

apart : (size : ℕ) (ds : List DirtyPage) → IsTable size ds → IsApart ds
apart size [] kept = tt
apart size (d ∷ ds) kept = (kept.0, apart size ds kept.2)

pub least_some : (size room : ℕ) (ds : List DirtyPage) (batch : List BatchPage) → IsTable size ds → (least : Option ℕ) → IsLeastPage (λ page. is_dirty (table size room ds) page && not (is_in batch page)) least → length batch < dirty_with (table size room ds) batch → IsSome least
least_some size room ds batch kept (Some m) is more = refl
least_some size room ds batch kept None is more =
    let found = some_outside size room ds batch (apart size ds kept) more in
    let least = is.least_of found.0 (and_from _ _ found.1 (not_from_false _ found.2)) in
    absurd (let e : None ≡ Some least.0 = least.1 in cc)
