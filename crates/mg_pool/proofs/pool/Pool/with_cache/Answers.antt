use Rattle.std.proofs.Common.{◌≡◌, ◌∙◌, sym, ap, length, Some, None, List, ℕ, false, true, is_some, arith, refl}
use Rattle.std.proofs.lemmas.Bool.{both_ways}
use Rattle.mg_pool.specs.Clean.{kept_in}
use Rattle.mg_pool.specs.DirtyPage.{DirtyPage}
use Rattle.mg_pool.specs.Dirty.{content_of, is_dirty, bytes_of, entry_in}
use Rattle.mg_pool.proofs.pool.Pool.with_cache.Goals as goal

pub returns-clause-pool : goal.returns-clause-pool
unfolding content_of
returns-clause-pool g c =
    let no_dirty : (p : ℕ) → is_dirty c.in-Ok.dirty p ≡ false = λ p. ap (λ (xs : List DirtyPage). is_some (bytes_of (entry_in xs p))) c.in-Ok.ensures.pages in
    let no_clean : (p : ℕ) → kept_in c.in-Ok-new-2.clean p ≡ None = λ p. rw c.in-Ok-new-2.ensures.pages refl in
    record {
      size = c.requires.size;
      page_size = c.in-Ok.ensures.size;
      room = c.in-Ok.ensures.room;
      few = omega (arith, ap (length {A = DirtyPage}) c.in-Ok.ensures.pages);
      on_disk = λ online p bytes there. let e : None ≡ Some bytes = sym (no_clean p) ∙ there in absurd cc;
      counted = λ online told. let e : false ≡ true = told in absurd cc;
      graph_room = c.in-Ok-new.ensures.room;
      tied = record {
        entered = λ p. c.in-Ok-new.ensures.entered p ∙ sym (no_dirty p);
        count = c.in-Ok-new.ensures.count ∙ sym (ap (length {A = DirtyPage}) c.in-Ok.ensures.pages);
      };
      apart = λ p dirty. absurd (both_ways _ (no_dirty p) dirty);
      whole = λ p bytes there. let e : None ≡ Some bytes = sym (no_clean p) ∙ there in cc;
      clean = λ told image held p bytes there. let e : None ≡ Some bytes = sym (no_clean p) ∙ there in cc;
      below = λ p dirty. absurd (both_ways _ (no_dirty p) dirty);
      kept_below = λ p bytes there. let e : None ≡ Some bytes = sym (no_clean p) ∙ there in absurd cc;
      within = c.requires.within;
      noted = λ told image held p room there. let e : None ≡ Some room = sym (c.in-Ok-new-3.ensures.none p) ∙ there in cc;
    }
