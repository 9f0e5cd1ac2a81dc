-- A cache over a sound image begins with its demands borne.
use Rattle.std.specs.Prelude.{◌≡◌, ◌++◌, ℕ, List, [], ◌∷◌}
use Rattle.std.proofs.Common.{sym, subst, arith}
use Rattle.std.proofs.Math.Path.{fun_ext}
use Rattle.mg_careful.specs.CarefulWrite.{listed}
use Rattle.mg_demand_laws.specs.Freeing.{AllStarts}
use Rattle.mg_image.specs.Form.{Form, Pages}
use Rattle.mg_image.specs.Tables.{Layout, Stand, stands_of}
use Rattle.mg_model.specs.declared.table.Index.{Index}
use Rattle.mg_demand_laws.specs.Roots.{SoundIsWanted, index_roots, roots_of, table_roots}
use Rattle.mg_space.specs.Demands.{demand, demands_of, linked, meets_of}
use Rattle.mg_space.specs.declared.links.TheConstants.{HEADER, POINTER, TREE}
use Rattle.mg_demand_laws.specs.Met.{of_listed}
use Rattle.mg_demand_laws.specs.VersionLaws.{NoVersion, none_both, none_demand, none_empty, none_linked}
use Rattle.mg_demand_laws.specs.Wanting.{IsWanting, may_go}
use Rattle.mg_demand_laws.specs.Runs.{RunsBear}
use Rattle.mg_demand_laws.specs.Starts.{CrashesAreLinked, OpenedBears, wanted_in}

-- no root is a version
none_index : (size owner : ℕ) (indexes : List Index) → NoVersion (index_roots size owner indexes)
none_index size owner [] = none_empty
none_index size owner (index ∷ indexes) = none_both (linked size index.root.0 TREE owner 0)
    (index_roots size owner indexes) (none_linked size index.root.0 TREE owner 0 (λ is. omega (arith, is)))
    (none_index size owner indexes)

none_table : (size : ℕ) (stands : List Stand) → NoVersion (table_roots size stands)
none_table size [] = none_empty
none_table size (stand ∷ stands) = none_both (linked size stand.table.pointer.0 POINTER stand.table.pointer.0 0
    ++ index_roots size stand.table.pointer.0 stand.table.indexes) (table_roots size stands)
    (none_both (linked size stand.table.pointer.0 POINTER stand.table.pointer.0 0)
    (index_roots size stand.table.pointer.0 stand.table.indexes)
    (none_linked size stand.table.pointer.0 POINTER stand.table.pointer.0 0 (λ is. omega (arith, is)))
    (none_index size stand.table.pointer.0 stand.table.indexes)) (none_table size stands)

no_root : (size : ℕ) (layout : Layout) → NoVersion (roots_of size layout)
no_root size layout = none_both (demand 0 HEADER 0 0) (table_roots size (stands_of layout))
    (none_demand 0 HEADER 0 0 (λ is. omega (arith, is))) (none_table size (stands_of layout))

pub opened_bears : (form : Form) → AllStarts demands_of meets_of → SoundIsWanted form → OpenedBears form
opened_bears form starts law = λ size state cache it layout r opened lasting.
    let from = law size state cache.disk layout r opened.sound opened.filled in
    let all = starts cache (wanted_in size cache layout) it.lasts (may_go it.settled) opened.clean opened.same
    opened.unordered from.wants.keeps in
    let pool : cache.disk ≡ cache.pool = sym (fun_ext opened.same) in
    record {
      lasting = lasting;
      all = all;
      wants = subst (λ (pages : Pages). IsWanting size pages (wanted_in size cache layout)) pool from.wants;
    }

pub crashes_are_linked : (form : Form) → OpenedBears form → SoundIsWanted form → RunsBear → CrashesAreLinked form
crashes_are_linked form opens law runs = λ size state first last it end layout r opened lasting goes set_ closed.
    let from = law size state first.disk layout r opened.sound opened.filled in
    let still = runs size first last it end goes (wanted_in size first layout) (wanted_in size first layout)
    (opens size state first it layout r opened lasting) in
    still.linked (listed (roots_of size layout)) (λ d h.
    let there = of_listed (roots_of size layout) d h in
    let is = from.rooted d there in still.rooted d (no_root size layout d there) is is) set_ closed
