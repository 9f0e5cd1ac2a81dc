-- Where no table has an index there is nothing to find in any; and tables stay without indexes.
use Rattle.std.proofs.Common.{◌≡◌, ◌∙◌, inl, inr, refl, sym, ap, subst, ℕ, Bool, true, false, List, [], ◌∷◌, None, Some}
use Rattle.std.specs.Prelude.{if◌then◌else◌, map}
use Rattle.mg_base.specs.declared.transaction.TxState.{TxState}
use Rattle.mg_value.specs.declared.value.Value.{Value}
use Rattle.mg_model.specs.Catalog.{table_key}
use Rattle.mg_model.specs.declared.table.Index.{Index}
use Rattle.mg_model.specs.declared.table.Table.{Table}
use Rattle.mg_image.specs.Form.{Form, Pages}
use Rattle.mg_image.specs.Indexes.{IsFoundIn}
use Rattle.mg_image.specs.Records.{Reading}
use Rattle.mg_image.specs.Sound.{IsSoundBy}
use Rattle.mg_image.specs.Tables.{Layout, Stand, has, stands_of, table_at}
use Rattle.mg_image_overlay_laws.specs.tables.Growing.{HasGrown, IsTableOf}
use Rattle.mg_image_overlay_laws.specs.tables.OneTable.{stands_in}
use Rattle.mg_image_overlay_laws.specs.tables.TableOwners.{IsOneOf}
use Rattle.mg_key_entry_laws.specs.KeptEntries.{HasFound, primary_in, primary_of}
use Rattle.mg_snap.specs.Live.{State}
use Rattle.mg_engine_step_laws.specs.standing.Bare.{AreBare, IsBare}
use Rattle.mg_engine_step_laws.specs.tables_back.Taken.{stands_left}

-- ---- nothing is to be found

-- the table of a page has no index
no_index_at : (stands : List Stand) → AreBare (map (λ stand. stand.table) stands) → (n : ℕ) (table : Table)
    → table_at stands n ≡ Some table → table.indexes ≡ []
no_index_at [] bare n table of = absurd cc
no_index_at (s ∷ ss) bare n table of = at (has s.data_pages n) of (λ more. no_index_at ss bare.1 n table more)
  where
    at : (c : Bool) → (if c then Some s.table else table_at ss n) ≡ Some table
        → (table_at ss n ≡ Some table → table.indexes ≡ []) → table.indexes ≡ []
    at true is more =
        let same : s.table ≡ table = cc in
        subst (λ (x : Table). x.indexes ≡ []) same bare.0
    at false is more = more is

none_primary : (table : Table) (index : Index) → table.indexes ≡ [] → primary_of table ≡ Some index → ⊥
none_primary table index none is =
    let both : None ≡ Some index = sym (ap (primary_in table.name) none) ∙ is in absurd cc

-- an image whose tables have no index has all that a keeper asks of its indexes
pub bare_has_found : (form : Form) (size : ℕ) (counted : ℕ → TxState) (pages : Pages) (layout : Layout)
    (reading : Reading) → IsSoundBy form size counted pages layout reading → IsBare layout
    → (state : ℕ → TxState) (live : State) → HasFound state live (table_at (stands_of layout)) pages reading
bare_has_found form size counted pages layout reading sound bare state live = record {
  seen = λ t active p table row of is. subst (λ (indexes : List Index). IsFoundIn pages indexes p row)
      (sym (none_at p.page.0 table of)) tt;
  keyed = λ p table index of primary newest first deleted stays.
      absurd (none_primary table index (none_at p.page.0 table of) primary);
}
  where
    catalog : layout.catalog.table.indexes ≡ []
    catalog = ap (λ (x : Table). x.indexes) sound.catalog

    none_at : (n : ℕ) (table : Table) → table_at (stands_of layout) n ≡ Some table → table.indexes ≡ []
    none_at n table of = no_index_at (stands_of layout) (catalog, bare) n table of

-- ---- so it stays

-- where tables have grown
pub bare_grown : (before after : Layout) (r : Reading) → HasGrown before after r → IsBare before → IsBare after
bare_grown before after r grown bare = subst AreBare (sym grown.names) bare

-- where some of them have gone
pub bare_left : (gone : Value → Bool) (stands : List Stand) → AreBare (map (λ stand. stand.table) stands)
    → AreBare (map (λ stand. stand.table) (stands_left gone stands))
bare_left gone [] bare = tt
bare_left gone (s ∷ ss) bare = at (gone (table_key s.table.name)) (bare_left gone ss bare.1)
  where
    at : (b : Bool) → AreBare (map (λ stand. stand.table) (stands_left gone ss))
        → AreBare (map (λ stand. stand.table) (if b then stands_left gone ss else s ∷ stands_left gone ss))
    at true rest = rest
    at false rest = (bare.0, rest)

-- where each table of a layout is one without
all_bare : (tables : List Table) → ((x : Table) → IsOneOf tables x → x.indexes ≡ []) → AreBare tables
all_bare [] each = tt
all_bare (t ∷ ts) each = (each t (inl refl), all_bare ts (λ x is. each x (inr is)))

pub bare_by : (layout : Layout) → ((its : Table) → IsTableOf layout its → its.indexes ≡ []) → IsBare layout
bare_by layout each = all_bare (map (λ stand. stand.table) layout.tables) (λ x is. each x (stands_in layout x (inr is)))
