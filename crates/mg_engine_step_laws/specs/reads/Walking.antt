-- The rows of a table to which a walk still comes, by the pages of an engine.
use Rattle.std.specs.Prelude.{◌≡◌, ℕ, zero, suc, List, [], ◌∷◌, Option, None, Some, IsPermutation}
use Rattle.mg_base.specs.Fields.{u32_at}
use Rattle.mg_base.specs.declared.fields.TheConstants.{SEQUENCE_AT}
use Rattle.mg_base.specs.declared.numbers.RecId.{RecId}
use Rattle.mg_base.specs.declared.numbers.TxNo.{TxNo}
use Rattle.mg_base.specs.declared.transaction.TxState.TheVariants.{Active}
use Rattle.mg_model.specs.declared.opening.Opening.{Opening}
use Rattle.mg_model.specs.declared.table.Table.{Table}
use Rattle.mg_model.specs.Changes.{KeyedRows, rows_of}
use Rattle.mg_model.specs.History.{Entries}
use Rattle.mg_model.specs.Machine.{state_of, view}
use Rattle.mg_model.specs.Openings.{everyone}
use Rattle.mg_chain.specs.Chains.{takes_version}
use Rattle.mg_image.specs.Form.{Pages, packed_form}
use Rattle.mg_image.specs.Records.{Reading}
use Rattle.mg_image.specs.Sound.{IsSoundBy}
use Rattle.mg_image.specs.Tables.{Layout}
use Rattle.mg_overlay_laws.specs.Overlays.{left_state}
use Rattle.mg_seek.specs.declared.views.Visit.{Visit}
use Rattle.mg_seek.specs.Views.{IsVisit}
use Rattle.mg_seek.specs.Walks.{keyed, records_behind, rows_shown}
use Rattle.mg_engine_step_laws.specs.standing.Standing.{Standing}
use Rattle.mg_engine_step_laws.specs.standing.Known.{IsShown, KnowsPages}

-- ---- where a walk has come to

-- A walk over a table has come to a record, on a data page with this sequence.
pub record WalkPlace : Type 0 where
  pub rec : RecId
  pub sequence : ℕ

-- the record, if it has come to one
abbrev pub rec_of : Option WalkPlace → Option RecId
rec_of None = None
rec_of (Some place) = Some place.rec

-- a record with the sequence that its page names
abbrev pub place_in : Pages → RecId → WalkPlace
place_in pages rec = record { rec = rec; sequence = u32_at (pages rec.page.0) SEQUENCE_AT }

-- a number stands in a list at a place, counted from 0
abbrev pub HasAt : List ℕ → ℕ → ℕ → Type 0
HasAt [] at n = ⊥
HasAt (m ∷ ms) zero n = n ≡ m
HasAt (m ∷ ms) (suc at) n = HasAt ms at n

-- a walk stands at one of some data pages, whose place among them is its sequence, or at their beginning
abbrev pub StandsInTurn : List ℕ → Option WalkPlace → Type 0
StandsInTurn data_pages None = Unit {0}
StandsInTurn data_pages (Some place) = HasAt data_pages place.sequence place.rec.page.0

-- ---- the rows

-- These are the rows of a table with their keys to which a walk of a transaction comes behind a place, or
-- from the beginning on: those that the records behind it show, in their order.
pub record AreToCome (size : ℕ) (s : Standing) (pages : Pages) (t : ℕ) (table : Table)
    (after : Option WalkPlace) (rows : KeyedRows) : Type 0 where
  pub layout : Layout
  pub reading : Reading
  pub sound : IsSoundBy packed_form size (left_state everyone s.state) pages layout reading
  pub shown : IsShown layout table
  pub stands : StandsInTurn shown.stands.stand.data_pages after
  pub are : rows ≡ rows_shown (takes_version s.state s.live t) table reading
      (records_behind pages shown.stands.stand.data_pages (rec_of after))

-- a visit comes to the next of these rows, or to a record that shows none; at the end no row is to come
abbrev pub VisitsNext : (size : ℕ) (s : Standing) (pages : Pages) (t : ℕ) (table : Table)
    → Option Visit → KeyedRows → Type 0
VisitsNext size s pages t table None rows = rows ≡ []
VisitsNext size s pages t table (Some visit) rows = (more : KeyedRows)
    × (rows ≡ keyed table visit.row more)
    × AreToCome size s pages t table (Some (place_in pages visit.rec)) more

-- an active transaction's walk over a table that it sees comes to the rows of its view, each once
abbrev pub WalksBegin : Type 0
WalksBegin = (size : ℕ) (o : Opening) (h : Entries) (s : Standing) (pages : Pages)
    (knows : KnowsPages size o h s pages) (table : Table) (t : ℕ)
    → IsShown knows.shows.layout table → state_of o h t ≡ Active
    → (rows : KeyedRows) × AreToCome size s pages t table None rows
    × IsPermutation rows (rows_of (view o h t) table.name)

-- and each visit comes to the next of them
abbrev pub WalksGoOn : Type 0
WalksGoOn = (size : ℕ) (s : Standing) (pages : Pages) (table : Table) (t : TxNo)
    (after : Option WalkPlace) (found : Option Visit) (rows : KeyedRows)
    → AreToCome size s pages t.0 table after rows
    → IsVisit s.state s.live t pages table (rec_of after) found
    → VisitsNext size s pages t.0 table found rows
