-- What the end of a transaction pays: its two bits, with the header written before them.
use Rattle.std.specs.Prelude.{◌≡◌, ◌+◌, ◌*◌, ℕ, true, Bool}
use Rattle.std.proofs.Common.{refl}
use Rattle.std.proofs.lemmas.Bool.{and_from, eq-eqb, or_left}
use Rattle.mg_base.specs.declared.transaction.TxState.{TxState}
use Rattle.mg_careful.specs.CarefulWrite.{DemandSet}
use Rattle.mg_image.specs.Form.{Pages}
use Rattle.mg_image.specs.Inventory.{is_used}
use Rattle.mg_pool.specs.Batch.{lists, orders_of}
use Rattle.mg_tip.specs.TipPage.{places}
use Rattle.mg_txlist.specs.Ending.{header_first}
use Rattle.mg_demand_laws.specs.Steps.{SetsBits, number_more}
use Rattle.mg_demand_laws.specs.TipLaws.{bits_pay}
use Rattle.mg_demand_laws.specs.Wanting.{IsWanting, Pays}

-- the law: the batch that sets the bits on a page has the one order that it needs
abbrev pub EndsPay : Type 0
EndsPay = (size : ℕ) (old new : Pages) (n s place : ℕ) (state : TxState) (settled : ℕ → Bool) (on_disk wanted : DemandSet)
    → SetsBits size old new n s place state → IsWanting size old wanted → is_used size old 0 ≡ true
    → Pays size old new (lists (orders_of header_first (record { 0 = n }))) settled on_disk wanted
    (number_more (s * places size + place))

pub ends_pay : EndsPay
ends_pay size old new n s place state settled on_disk wanted sets was used =
    bits_pay size old new n s place state (lists (orders_of header_first (record { 0 = n }))) settled on_disk wanted
    sets was used (or_left _ _ (and_from _ _ refl (eq-eqb n n refl)))
