-- The catalog gets a data page: nothing else has happened.
use Rattle.std.specs.Prelude.{◌≡◌, None}
use Rattle.mg_base.specs.Disk.{Meaning}
use Rattle.mg_base.specs.declared.numbers.TxNo.{TxNo}
use Rattle.mg_base.specs.declared.transaction.TxState.TheVariants.{Active}
use Rattle.mg_model.specs.declared.opening.Opening.{Opening}
use Rattle.mg_model.specs.History.{Entries}
use Rattle.mg_pool.specs.Pool.{IsPool}
use Rattle.mg_pool.specs.declared.pool.Pool.{Pool}
use Rattle.mg_space.specs.Taking.{IsGeometry}
use Rattle.mg_space.specs.declared.links.FireLinks.{FireLinks}
use Rattle.mg_table_batch.specs.Making.{Grows}
use Rattle.mg_txlist.specs.TxList.{said}
use Rattle.mg_core.specs.declared.parts.Core.{Core}
use Rattle.mg_engine_meaning_laws.specs.Standings.{StandsFor}
use Rattle.mg_engine_change_laws.specs.rows.Laid.{StaysOver}
use Rattle.mg_engine_change_laws.specs.tables.Silent.{IsSilentIn}
use Rattle.mg_value.specs.declared.value.Value.{Value}

-- the catalog got a data page in a batch of its own: the engine stands for what it stood for, a crash leaves that, all
-- others walk on, and keys for which nobody spoke are so still
abbrev pub GrowthsStay : (D : Type 0) → Meaning D → Type 0
GrowthsStay D m = (old : Core D) (store : Pool D FireLinks) (t : TxNo) (o : Opening) (h : Entries)
    → IsPool m old.store → IsGeometry old.store.geometry → old.store.offline ≡ None → said old.list t.0 ≡ Active
    → Grows m old.store store old.catalog.pointer.0 → StandsFor m old o h → StaysOver m old store o h t.0
    × ((key : Value) → IsSilentIn m old o h key → IsSilentIn m (record old { store = store }) o h key)
