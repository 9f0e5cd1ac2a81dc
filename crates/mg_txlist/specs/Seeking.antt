-- That four numbers are passed at one look.
use Rattle.std.specs.Prelude.{◌≡◌, ◌≢◌, ◌<◌, ◌+◌, ◌%◌, ℕ, List}
use Rattle.mg_base.specs.declared.transaction.TxState.TheVariants.{Limbo}
use Rattle.mg_tip.specs.TipPage.{state_in}
use Rattle.mg_txlist.specs.TxList.{bits_said}
use Rattle.mg_txlist.specs.declared.list.TxList.{TxList}

-- a place is the first of the four of a byte, and none of the four is in limbo
abbrev pub AreSettled : List ℕ → ℕ → Type 0
AreSettled page place = (place % 4 ≡ 0) × ((k : ℕ) → k < 4 → state_in page (place + k) ≢ Limbo)

-- the bits of a number, and those of the three behind it, say that none of the four is in limbo
abbrev pub AreFourSettled : TxList → ℕ → Type 0
AreFourSettled list t = (k : ℕ) → k < 4 → bits_said list (t + k) ≢ Limbo
