-- A row that is taken out in a batch of its own takes no page, and it is refused for want of pages nowhere.
use Rattle.std.proofs.Common.{◌≡◌, ◌∙◌, sym, ℕ, List}
use Rattle.mg_base.specs.Disk.{Meaning}
use Rattle.mg_base.specs.Image.{Image}
use Rattle.mg_base.specs.declared.numbers.RecId.{RecId}
use Rattle.mg_base.specs.declared.transaction.TxState.{TxState}
use Rattle.mg_chain.specs.Refusals.{RefusesChain}
use Rattle.mg_image.specs.Form.{Pages}
use Rattle.mg_model.specs.declared.table.Table.{Table}
use Rattle.mg_pool.specs.Batch.{Changed}
use Rattle.mg_pool.specs.declared.batch.BatchPage.{BatchPage}
use Rattle.mg_pool.specs.declared.pool.Pool.{Pool}
use Rattle.mg_batches.specs.Batches.{not_lawful, nothing_yet}
use Rattle.mg_seek.specs.Speaking.{RefusesTableRows}
use Rattle.mg_seek.specs.Versions.{wants}
use Rattle.mg_seek.specs.declared.whose.Wanted.TheVariants.{Living}
use Rattle.mg_snap.specs.Live.{State}
use Rattle.mg_space.specs.Taking.{IsGeometry}
use Rattle.mg_space.specs.View.{viewed}
use Rattle.mg_space.specs.declared.fault.SpaceFault.{SpaceFault}
use Rattle.mg_space.specs.declared.fault.SpaceFault.TheVariants as faults
use Rattle.mg_space.specs.declared.links.FireLinks.{FireLinks}
use Rattle.mg_table_unmaking.specs.Rows.{FailsRowOut, RefusesAloneAt, RefusesRow, TakesRowOut, alone_nobody, alone_other, alone_unread, alone_unspoken, row_not_found, row_not_out}
use Rattle.mg_value.specs.declared.value.Value.{Value}
use Rattle.mg_free_page_laws.specs.CellRefusals.{IsOther, other_there, since_read, still_lawful}
use Rattle.mg_free_page_laws.specs.FreePages.{IsNotFull}
use Rattle.mg_free_page_laws.specs.RowSpending.{BatchLaws}
use Rattle.mg_free_page_laws.specs.Spending.{IsNotShort, SpendsAtMost, ToldAreHeld}
use Rattle.mg_free_page_laws.specs.SpendingLaws.{failing_short, failing_spends, own_spends}

module _ {D : Type 0} (m : Meaning D) (holds : ToldAreHeld m) (laws : BatchLaws m) (state : ℕ → TxState) (live : State)
    (t : ℕ) (table : Table) where
  -- ---- a row is taken out

  -- with its newest version
  pub row_out_spend : (before after : Pool D FireLinks) (key : Value)
      → TakesRowOut m before after state live t table key → SpendsAtMost m before after 0
  row_out_spend before after key own = own_spends m before after _ 0
      (λ image batch row lawful. laws.out_takes before image nothing_yet batch row.rec row.out lawful) own

  -- ---- it is not

  table_other : (store : Pool D FireLinks) (pages : List BatchPage) (view : Pages) (fault : SpaceFault)
      → RefusesTableRows m store pages view (wants state live Living) table fault → IsOther fault
  table_other store pages view (faults.Full most) never limit is = absurd never
  table_other store pages view (faults.Damaged it) refused limit is = absurd cc
  table_other store pages view (faults.Pool fault) refused limit is = absurd cc

  chain_other : (store : Pool D FireLinks) (pages : List BatchPage) (view : Pages) (rec : RecId) (fault : SpaceFault)
      → RefusesChain m store pages view rec fault → IsOther fault
  chain_other store pages view rec (faults.Full most) never limit is = absurd never
  chain_other store pages view rec (faults.Damaged it) refused limit is = absurd cc
  chain_other store pages view rec (faults.Pool fault) refused limit is = absurd cc

  told_other : (fault : SpaceFault) → fault ≡ faults.Damaged not_lawful → IsOther fault
  told_other fault told limit full = let both : faults.Full limit ≡ faults.Damaged not_lawful = sym full ∙ told in
      absurd cc

  -- its record is not found
  unfound_other : (store : Pool D FireLinks) (pages : List BatchPage) (view : Pages) (key : Value) (fault : SpaceFault)
      → RefusesAloneAt m store pages view state live t table key fault → IsOther fault
  unfound_other store pages view key fault (alone_unspoken refused) = table_other store pages view fault refused
  unfound_other store pages view key fault (alone_nobody spoken told) = told_other fault told
  unfound_other store pages view key fault (alone_unread rec spoken refused) =
      chain_other store pages view rec fault refused
  unfound_other store pages view key fault (alone_other rec newest spoken first other told) =
      told_other fault told

  row_there : (old new : Pool D FireLinks) (image : Image) (batch : Changed) (key : Value) (fault : SpaceFault)
      → IsGeometry old.geometry → RefusesRow m old new image state live t table key batch fault
      → IsNotFull old.geometry (viewed old image batch) 0 fault
  row_there old new image batch key fault lawful (row_not_found refused) =
      other_there old.geometry (viewed old image batch) 0 fault
      (unfound_other new batch.pages (viewed old image batch) key fault refused)
  row_there old new image batch key fault lawful (row_not_out rec ready alone read refused) =
      since_read m old ready image batch 0 fault read
      (laws.out_there ready new image batch rec fault refused (still_lawful m old ready read lawful))

  -- pages were only read, or the batch was refused as a whole
  pub failed_row_out : (before after : Pool D FireLinks) (key : Value) (fault : SpaceFault)
      → FailsRowOut m before after state live t table key fault
      → SpendsAtMost m before after 0 × IsNotShort m before 0 fault
  failed_row_out before after key fault fails = (
    failing_spends m holds before after _ _ fault fails,
    failing_short m before after _ _ 0 fault
        (λ image why lawful. row_there before after image nothing_yet key fault lawful why) fails,
  )
