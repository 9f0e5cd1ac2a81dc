-- What a list that was loaded says.
use Rattle.std.specs.Prelude.{◌≡◌, ℕ, []}
use Rattle.mg_image.specs.Form.{Pages}
use Rattle.mg_image.specs.Inventory.{next_of, state_at}
use Rattle.mg_txlist.specs.declared.list.TxList.{TxList}
use Rattle.mg_txlist.specs.Chain.{HasHead}
use Rattle.mg_txlist.specs.TxList.{IsTxList, next_said, said}

-- it says of each number what the image says, and the same next number
abbrev pub LoadedSays : Type 0
LoadedSays = (size : ℕ) (pages : Pages) (list : TxList) → IsTxList list → list.size ≡ size
    → list.own.items ≡ [] → HasHead size pages list.first list.pages.items
    → (next_said list ≡ next_of pages) × ((t : ℕ) → said list t ≡ state_at size pages t)
