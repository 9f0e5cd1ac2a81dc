-- The walks over the records of a table, one after another.
use Rattle.std.specs.Prelude.{◌≡◌, ◌+◌, ℕ, zero, suc, Bool, false, List, [], ◌∷◌, ◌++◌, Option, None, Some}
use Rattle.mg_base.specs.declared.numbers.RecId.{RecId}
use Rattle.mg_check_records.specs.Marks.{met_in, most_slots}
use Rattle.mg_check_records.specs.Walks.{IsWalk, Met, all_met}
use Rattle.mg_findings.specs.declared.finding.Finding.{Finding}
use Rattle.mg_image.specs.declared.entry.Entry.{Entry}
use Rattle.mg_image.specs.Form.{Pages}
use Rattle.mg_image.specs.Records.{Cells, newest_of}
use Rattle.mg_model.specs.declared.table.Table.{Table}
use Rattle.mg_slots.specs.DataPage.{slot_count}

-- the places of the first slots of a page, so many
abbrev pub slots_below : ℕ → ℕ → List RecId
slots_below n zero = []
slots_below n (suc k) = slots_below n k ++ record { page = record { 0 = n }; slot = k } ∷ []

-- the places of all slots of these data pages, in their order
abbrev pub places_of : Pages → List ℕ → List RecId
places_of pages [] = []
places_of pages (n ∷ ns) = slots_below n (slot_count (pages n)) ++ places_of pages ns

-- what is found at the end of a walk, as a list
abbrev pub end_list : Option Finding → List Finding
end_list None = []
end_list (Some f) = f ∷ []

-- no cell was met yet
abbrev pub none_met : Met
none_met x = false

-- The walks from the slots at these places, in their order: these cells were met then, and this was
-- found. A slot that holds no link to a newest version is none of a record's.
pub data AreWalked (h : Cells) (table : Table) (ns : List ℕ)
    : List RecId → Met → List Finding → Type 0 where
  begun : AreWalked h table ns [] none_met []
  more : (ps : List RecId) (met : Met) (found : List Finding) (p : RecId) (es : List Entry)
      (end : Option Finding) → AreWalked h table ns ps met found
      → IsWalk h table ns met p (newest_of p (h p)) es end
      → AreWalked h table ns (ps ++ p ∷ []) (all_met es met) (found ++ end_list end)

-- The records of a table were walked over: these are the marks of the cells that were met, and what
-- was found.
pub record IsWalkedOver (h : Cells) (table : Table) (ns : List ℕ) (size : ℕ) (ps : List RecId)
    (marks : List Bool) (found : List Finding) : Type 0 where
  pub met : Met
  pub walked : AreWalked h table ns ps met found
  pub marked : met_in ns (most_slots size) marks ≡ met
