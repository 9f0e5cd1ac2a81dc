-- A walk over a table that stands ascends.
use Rattle.std.specs.Prelude.{◌<◌, ◌+◌, ◌*◌, ℕ, false, Some}
use Rattle.mg_base.specs.Fields.{u32_at}
use Rattle.mg_base.specs.declared.fields.TheConstants.{SEQUENCE_AT}
use Rattle.mg_base.specs.declared.numbers.RecId.{RecId}
use Rattle.mg_heap.specs.Walk.{GivesNext}
use Rattle.mg_image.specs.Form.{Pages}
use Rattle.mg_image.specs.Sound.{HasTablePages}
use Rattle.mg_image.specs.Tables.{Has, Stand}

-- the place of a record in its table: by the sequence that its page names, and then by its slot, which has two bytes
abbrev pub rank_in : Pages → RecId → ℕ
rank_in pages x = u32_at (pages x.page.0) SEQUENCE_AT * 65536 + x.slot

-- the record that comes next behind another one has a later place
abbrev pub WalksAscend : Type 0
WalksAscend = (size : ℕ) (pages : Pages) (stand : Stand) → HasTablePages false size pages stand
    → (x y : RecId) → Has stand.data_pages x.page.0 → x.slot < 65536
    → GivesNext pages stand.table.pointer.0 (Some x) (Some y) → rank_in pages x < rank_in pages y
