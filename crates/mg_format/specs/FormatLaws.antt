-- Laws of a cache that was made: what its makers know, and the writing of a new database asks for.
use Rattle.std.specs.Prelude.{◌≡◌, [], List}
use Rattle.std.proofs.Common.{ap}
use Rattle.mg_pool.specs.Dirty.{bytes_of, content_of, entry_in}
use Rattle.mg_pool.specs.DirtyPage.{DirtyPage}
use Rattle.mg_pool.specs.declared.pool.Pool.{Pool}
use Rattle.std.specs.Prelude.{is_some}
use Rattle.mg_format.specs.Format.{IsClean}

-- where the table of dirty pages is empty, no page is dirty
pub empty_clean : {D L : Type 0} (store : Pool D L) → store.dirty.pages ≡ [] → IsClean store
unfolding content_of
empty_clean store empty p =
    ap (λ (pages : List DirtyPage). is_some (bytes_of (entry_in pages p))) empty
