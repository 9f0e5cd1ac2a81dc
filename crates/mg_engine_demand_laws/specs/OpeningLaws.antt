-- The cache of an engine that is opened over a sound image bears its demands.
use Rattle.std.specs.Prelude.{◌≡◌, ◌≢◌, ◌<◌, ◌&&◌, ◌==◌, ◌++◌, ◌/◌, ℕ, Bool, true, List, [], ◌∷◌}
use Rattle.std.proofs.Common.{inl, inr, refl, sym, subst, ap, ◌∙◌, arith}
use Rattle.std.proofs.lemmas.Bool.{and_from, and_parts, eq-eqb, eqb-true}
use Rattle.mg_base.specs.declared.geometry.TheConstants.{GREATEST_LIMIT}
use Rattle.mg_base.specs.declared.transaction.TxState.{TxState}
use Rattle.mg_base.specs.declared.transaction.TxState.TheVariants.{Active, Limbo, Dead, Committed}
use Rattle.mg_careful.specs.declared.links.Demand.{Demand}
use Rattle.mg_careful.specs.CarefulWrite.{Has}
use Rattle.mg_demand_laws.specs.Runs.{IsLasting}
use Rattle.mg_demand_laws.specs.Starts.{wanted_in}
use Rattle.mg_heap.specs.Reach.{MayOwn}
use Rattle.mg_image.specs.Form.{packed_form}
use Rattle.mg_image.specs.Inventory.{inventory_page}
use Rattle.mg_image.specs.Tables.{Layout, Stand, stands_of}
use Rattle.mg_model.specs.Answers.{is_active}
use Rattle.mg_model.specs.declared.table.Index.{Index}
use Rattle.mg_model.specs.declared.table.Table.{Table}
use Rattle.mg_pip.specs.PipPage.{bits}
use Rattle.mg_demand_laws.specs.Roots.{SoundIsWanted, WantsFrom, index_roots, roots_of, table_roots}
use Rattle.mg_space.specs.Demands.{bit_demand, demand, linked}
use Rattle.mg_space.specs.Taking.{region_of}
use Rattle.mg_space.specs.declared.links.TheConstants.{BIT, HEADER, POINTER, TREE, VERSION}
use Rattle.mg_image_overlay_laws.specs.tables.Growing.{IsTableOf}
use Rattle.mg_demand_laws.specs.Met.{has_back, has_either, has_front, is_demand, of_listed}
use Rattle.mg_demand_laws.specs.Wanting.{want_of}
use Rattle.mg_demand_laws.specs.TableTies.{bit_wanted, demand_there}
use Rattle.mg_demand_laws.specs.OpenedChains.{OpenedTablesBear}
use Rattle.mg_engine_demand_laws.specs.Bearing.{Fates}
use Rattle.mg_engine_demand_laws.specs.Opening.{OpeningBears, lasting_first}
use Rattle.mg_engine_demand_laws.specs.RecordLaws.{stand_owns}

-- ---- no root is a version

-- none of these demands is of a version
abbrev NoVersion : List Demand → Type 0
NoVersion ds = (e : Demand) → Has ds e → e.what ≢ VERSION

none_demand : (target what a b : ℕ) → what ≢ VERSION → NoVersion (demand target what a b)
none_demand target what a b ne e h is =
    let same : e.what ≡ what = ap (λ (x : Demand). x.what) (is_demand target what a b e h) in
    ne (sym same ∙ is)

none_both : (ds es : List Demand) → NoVersion ds → NoVersion es → NoVersion (ds ++ es)
none_both ds es first second e h is = elim (has_either ds es e h) [
  | inl x ↦ first e x is
  | inr y ↦ second e y is
]

none_linked : (size target what a b : ℕ) → what ≢ VERSION → NoVersion (linked size target what a b)
none_linked size target what a b ne = none_both (demand target what a b) (bit_demand size target)
    (none_demand target what a b ne)
    (none_demand (inventory_page size (target / bits size)) BIT target 0 (λ is. omega (arith, is)))

none_index : (size owner : ℕ) (indexes : List Index) → NoVersion (index_roots size owner indexes)
none_index size owner [] = λ e h is. h
none_index size owner (index ∷ indexes) = none_both (linked size index.root.0 TREE owner 0) (index_roots size owner indexes)
    (none_linked size index.root.0 TREE owner 0 (λ is. omega (arith, is))) (none_index size owner indexes)

none_table : (size : ℕ) (stands : List Stand) → NoVersion (table_roots size stands)
none_table size [] = λ e h is. h
none_table size (stand ∷ stands) = none_both (linked size stand.table.pointer.0 POINTER stand.table.pointer.0 0
    ++ index_roots size stand.table.pointer.0 stand.table.indexes) (table_roots size stands)
    (none_both (linked size stand.table.pointer.0 POINTER stand.table.pointer.0 0)
    (index_roots size stand.table.pointer.0 stand.table.indexes)
    (none_linked size stand.table.pointer.0 POINTER stand.table.pointer.0 0 (λ is. omega (arith, is)))
    (none_index size stand.table.pointer.0 stand.table.indexes)) (none_table size stands)

none_root : (size : ℕ) (layout : Layout) → NoVersion (roots_of size layout)
none_root size layout = none_both (demand 0 HEADER 0 0) (table_roots size (stands_of layout))
    (none_demand 0 HEADER 0 0 (λ is. omega (arith, is))) (none_table size (stands_of layout))

-- ---- a table's first pointer page is a root

root_there : (size : ℕ) (before after : List Stand) (stand : Stand) (e : Demand)
    → Has (linked size stand.table.pointer.0 POINTER stand.table.pointer.0 0) e
    → Has (table_roots size (before ++ (stand ∷ after))) e
root_there size [] after stand e h = has_front (linked size stand.table.pointer.0 POINTER stand.table.pointer.0 0
    ++ index_roots size stand.table.pointer.0 stand.table.indexes) (table_roots size after) e
    (has_front (linked size stand.table.pointer.0 POINTER stand.table.pointer.0 0)
    (index_roots size stand.table.pointer.0 stand.table.indexes) e h)
root_there size (other ∷ before) after stand e h = has_back (linked size other.table.pointer.0 POINTER
    other.table.pointer.0 0 ++ index_roots size other.table.pointer.0 other.table.indexes)
    (table_roots size (before ++ (stand ∷ after))) e (root_there size before after stand e h)

module _ (size : ℕ) (layout : Layout) (table : Table) (its : IsTableOf layout table) (below : table.pointer.0 < GREATEST_LIMIT)
  where
    abbrev first : ℕ
    first = table.pointer.0

    a_root : (e : Demand) → Has (linked size first POINTER first 0) e → Has (roots_of size layout) e
    a_root e h = has_back (demand 0 HEADER 0 0) (table_roots size (stands_of layout)) e
        (subst (λ (ss : List Stand). Has (table_roots size ss) e) (sym its.is_)
        (root_there size its.before its.after its.stand e
        (subst (λ (t : Table). Has (linked size t.pointer.0 POINTER t.pointer.0 0) e) (sym its.table_is) h)))

    pub first_is_root : Has (roots_of size layout) (want_of first POINTER first 0)
    first_is_root = a_root (want_of first POINTER first 0) (has_front (demand first POINTER first 0) (bit_demand size first)
        (want_of first POINTER first 0) (demand_there first POINTER first 0 (omega (arith, below)) (omega (arith, below))
        (omega arith)))

    pub bit_is_root : Has (roots_of size layout) (want_of (inventory_page size (region_of size first)) BIT first 0)
    bit_is_root = a_root _ (has_back (demand first POINTER first 0) (bit_demand size first) _ (bit_wanted size first below))

-- ---- what lasts

first_lasting : (fates : Fates) → IsLasting (lasting_first fates)
first_lasting fates = record {
  versions = λ d is. eqb-true d.what VERSION (and_parts (d.what == VERSION) _ is).0;
  of_settled = λ d is done. and_from _ _ (eq-eqb d.what VERSION is) done;
}

-- nobody who is not active asks
never : (x : TxState) (asked : Bool) → x ≢ Active → (is_active x && asked) ≡ true → ⊥
never Active asked idle is = idle refl
never Limbo asked idle is = absurd cc
never Dead asked idle is = absurd cc
never Committed asked idle is = absurd cc

pub opening_bears : SoundIsWanted packed_form → OpenedTablesBear packed_form → OpeningBears
opening_bears law bears size cache marks fates layout r opened idle = record {
  it = lasting_first fates;
  of_disk = wanted_in size cache layout;
  of_pool = wanted_in size cache layout;
  bears = record {
    its = bears size fates.state cache (lasting_first fates) layout r opened (first_lasting fates);
    lasting = record {
      settled = λ t. refl;
      lasts = λ d is. inl (and_parts (d.what == VERSION) _ is).1;
    };
    header = from.rooted (want_of 0 HEADER 0 0) (has_front (demand 0 HEADER 0 0) (table_roots size (stands_of layout))
        (want_of 0 HEADER 0 0) (demand_there 0 HEADER 0 0 (omega arith) (omega arith) (omega arith)));
    tables = λ table its. let low = (owns table its).below in record {
      page = from.rooted (want_of table.pointer.0 POINTER table.pointer.0 0) (first_is_root size layout table its low);
      bit = from.rooted _ (bit_is_root size layout table its low);
    };
    numbers = λ t active. absurd (idle t active);
    written = λ d asked h is. absurd (never (fates.state d.b) (fates.asked d.b) (idle d.b) asked);
    rooted = λ d is. let root = of_listed (roots_of size layout) d is in
        (none_root size layout d root, from.rooted d root, from.rooted d root);
  };
}
  where
    from : WantsFrom size cache.disk (roots_of size layout)
    from = law size fates.state cache.disk layout r opened.sound opened.filled

    owns : (table : Table) → IsTableOf layout table → MayOwn table.pointer.0
    owns table its = stand_owns size fates.state cache.disk layout r opened.sound table its
