-- A cache that is opened over a sound image, and goes on by page writes and batches.
use Rattle.std.specs.Prelude.{◌++◌, ℕ, List, [], ◌∷◌}
use Rattle.std.proofs.Common.{arith}
use Rattle.mg_base.specs.Disk.{Meaning}
use Rattle.mg_base.specs.Image.{Image}
use Rattle.mg_base.specs.declared.transaction.TxState.{TxState}
use Rattle.mg_demand_laws.specs.Runs.{IsLasting, Lasting}
use Rattle.mg_demand_laws.specs.Starts.{IsOpened, wanted_in}
use Rattle.mg_image.specs.Form.{Form}
use Rattle.mg_image.specs.Records.{Reading}
use Rattle.mg_image.specs.Tables.{Layout, Stand, stands_of}
use Rattle.mg_model.specs.declared.table.Index.{Index}
use Rattle.mg_pool.specs.declared.pool.Pool.{Pool}
use Rattle.mg_demand_laws.specs.Roots.{SoundIsWanted, index_roots, roots_of, table_roots}
use Rattle.mg_space.specs.Demands.{demand, linked}
use Rattle.mg_space.specs.declared.links.TheConstants.{HEADER, POINTER, TREE}
use Rattle.mg_demand_laws.specs.VersionLaws.{NoVersion, none_both, none_demand, none_empty, none_linked}
use Rattle.mg_demand_laws.specs.PoolTies.{cache_over}
use Rattle.mg_demand_laws.specs.OpenedChains.{OpenedTablesBear}
use Rattle.mg_demand_laws.specs.TableRuns.{RunsStayLinked, StaysLinked, TablesGo}

-- the law: what is known at the beginning are the roots of the image, and crash images are linked from these
abbrev pub OpenedStaysLinked : (D L : Type 0) → Meaning D → Form → Type 0
OpenedStaysLinked D L m form = (first last : Pool D L) (i j : Image) (it end : Lasting) (state : ℕ → TxState)
    (layout : Layout) (r : Reading) → IsOpened form first.geometry.size state (cache_over first i) layout r → IsLasting it
    → TablesGo m (roots_of first.geometry.size layout) first i it (roots_of first.geometry.size layout) last j end
    → StaysLinked last j end (roots_of first.geometry.size layout)

-- no root is a version
none_index : (size owner : ℕ) (indexes : List Index) → NoVersion (index_roots size owner indexes)
none_index size owner [] = none_empty
none_index size owner (index ∷ indexes) = none_both (linked size index.root.0 TREE owner 0)
    (index_roots size owner indexes) (none_linked size index.root.0 TREE owner 0 (λ is. omega (arith, is)))
    (none_index size owner indexes)

none_table : (size : ℕ) (stands : List Stand) → NoVersion (table_roots size stands)
none_table size [] = none_empty
none_table size (stand ∷ stands) = none_both (linked size stand.table.pointer.0 POINTER stand.table.pointer.0 0
    ++ index_roots size stand.table.pointer.0 stand.table.indexes) (table_roots size stands)
    (none_both (linked size stand.table.pointer.0 POINTER stand.table.pointer.0 0)
    (index_roots size stand.table.pointer.0 stand.table.indexes)
    (none_linked size stand.table.pointer.0 POINTER stand.table.pointer.0 0 (λ is. omega (arith, is)))
    (none_index size stand.table.pointer.0 stand.table.indexes)) (none_table size stands)

none_root : (size : ℕ) (layout : Layout) → NoVersion (roots_of size layout)
none_root size layout = none_both (demand 0 HEADER 0 0) (table_roots size (stands_of layout))
    (none_demand 0 HEADER 0 0 (λ is. omega (arith, is))) (none_table size (stands_of layout))

pub opened_stays_linked : (D L : Type 0) (m : Meaning D) (form : Form) → SoundIsWanted form → OpenedTablesBear form
    → RunsStayLinked D L m → OpenedStaysLinked D L m form
opened_stays_linked D L m form law opens runs = λ first last i j it end state layout r opened lasting goes.
    let from = law first.geometry.size state (cache_over first i).disk layout r opened.sound opened.filled in
    runs (roots_of first.geometry.size layout) (roots_of first.geometry.size layout) first last i j it end
    (none_root first.geometry.size layout) (none_root first.geometry.size layout) goes
    (wanted_in first.geometry.size (cache_over first i) layout) (wanted_in first.geometry.size (cache_over first i) layout)
    (opens first.geometry.size state (cache_over first i) it layout r opened lasting) (record {
      rooted = λ d h. let is = from.rooted d h in (is, is);
      wanted = from.rooted;
    })
