-- A call of the engine keeps the room that the openings of its histories promise.
use Rattle.std.proofs.Common.{◌≡◌, ◌≤◌, ℕ, Bool, List, Option, Result, true}
use Rattle.std.specs.Prelude.{length}
use Rattle.mg_base.specs.Disk.{Meaning}
use Rattle.mg_base.specs.declared.numbers.TxNo.{TxNo}
use Rattle.mg_core.specs.declared.parts.Core.{Core}
use Rattle.mg_engine_meaning_laws.specs.Meaning.{Places, means, means_with_room}
use Rattle.mg_expr.specs.declared.expr.Expr.{Expr}
use Rattle.mg_model.specs.declared.change.Point.TheVariants.{LastMark, SavepointNamed}
use Rattle.mg_model.specs.declared.event.Event.{Event}
use Rattle.mg_model.specs.declared.opening.Opening.{Opening}
use Rattle.mg_model.specs.declared.refusal.Refusal.{Refusal}
use Rattle.mg_model.specs.Changes.{Cells}
use Rattle.mg_model.specs.History.{Entries}
use Rattle.mg_no_damage_laws.specs.FewPagesLaws.{has_fewer}
use Rattle.mg_no_damage_laws.specs.WithRoom.{TakesPages, adds_with, fine_full, finds_with, goes_with, makes_with, number_full, reads_with, undoes_with}
use Rattle.mg_records.specs.Adding.{Adds, fine_or, number_or}
use Rattle.mg_records.specs.Asking.{TakesNoPage}
use Rattle.mg_records.specs.Keeping.{Keeps, Reads, refusal_in}
use Rattle.mg_records.specs.Needed.{pages_of}
use Rattle.mg_records.specs.Reading.{FindAdds}
use Rattle.mg_records.specs.Room.{TakesFew, TakesFewBack, pages_of_table}
use Rattle.mg_records.specs.TakingBack.{GoesBack, Undoes}
use Rattle.mg_records.specs.Writing.{MakesTable}
use Rattle.mg_value.specs.declared.shape.Shape.{Shape}
use Rattle.mg_value.specs.declared.shape.TheConstants.{MOST_COLUMNS}

module _ {D P : Type 0} (m : Meaning D) (places : Places P) where
  -- an engine that stands for a history tells what a crash may leave
  stands_tell : (core : Core D) (o : Opening) (h : Entries) → (means m places).stands core o h
      → (means m places).tells core ≡ true
  stands_tell core o h stands = stands.tells

  fewer_free : (core : Core D) (many few : ℕ) → few ≤ many → (means m places).has_free core many
      → (means m places).has_free core few
  fewer_free core many few less has = has_fewer m core many few less has

  module _ (old new : Core D) where
    pub gives_room : (event : Event) (result : Result (Unit {0}) Refusal) (most : ℕ)
        → ((o : Opening) (h : Entries) → most ≤ pages_of o h event (fine_or result))
        → TakesPages event (refusal_in result) → Keeps (means m places) old new (refusal_in result)
        → TakesFew (means m places) old new (refusal_in result) most
        → Adds (means m places) old new event (fine_or result)
        → Adds (means_with_room m places) old new event (fine_or result)
    gives_room event result most least kind keeps takes adds = adds_with (means m places) stands_tell fewer_free old new event
        (fine_or result) (refusal_in result) most least (fine_full result) kind keeps takes adds

    pub numbers_room : (event : Event) (result : Result TxNo Refusal) (most : ℕ)
        → ((o : Opening) (h : Entries) → most ≤ pages_of o h event (number_or result))
        → TakesPages event (refusal_in result) → Keeps (means m places) old new (refusal_in result)
        → TakesFew (means m places) old new (refusal_in result) most
        → Adds (means m places) old new event (number_or result)
        → Adds (means_with_room m places) old new event (number_or result)
    numbers_room event result most least kind keeps takes adds = adds_with (means m places) stands_tell fewer_free old new event
        (number_or result) (refusal_in result) most least (number_full result) kind keeps takes adds

    pub reads_room : (refusal : Option Refusal) (walks : Option ℕ) → TakesFew (means m places) old new refusal 0
        → Reads (means m places) old new refusal walks → Reads (means_with_room m places) old new refusal walks
    reads_room refusal walks takes reads = reads_with (means m places) stands_tell fewer_free old new refusal walks
        takes reads

    pub finds_room : (t : TxNo) (name : List ℕ) (filter : Option Expr) (rows : List Cells)
        (result : Result (Unit {0}) Refusal) → TakesNoPage (refusal_in result)
        → Keeps (means m places) old new (refusal_in result)
        → TakesFew (means m places) old new (refusal_in result) 0 → FindAdds (means m places) old new t name filter rows result
        → FindAdds (means_with_room m places) old new t name filter rows result
    finds_room t name filter rows result none keeps takes adds = finds_with (means m places) stands_tell fewer_free old new t name
        filter rows result none keeps takes adds

    pub undoes_room : (t : TxNo) (result : Result (Unit {0}) Refusal)
        → Keeps (means m places) old new (refusal_in result)
        → TakesFewBack (means m places) old new (refusal_in result) t.0 LastMark
        → Undoes (means m places) old new t result → Undoes (means_with_room m places) old new t result
    undoes_room t result keeps takes undoes = undoes_with (means m places) stands_tell fewer_free old new t result keeps
        takes undoes

    pub goes_room : (t : TxNo) (name : List ℕ) (result : Result Bool Refusal)
        → Keeps (means m places) old new (refusal_in result)
        → TakesFewBack (means m places) old new (refusal_in result) t.0 (SavepointNamed name)
        → GoesBack (means m places) old new t name result → GoesBack (means_with_room m places) old new t name result
    goes_room t name result keeps takes goes = goes_with (means m places) stands_tell fewer_free old new t name result
        keeps takes goes

    pub makes_table_room : (t : TxNo) (name : List ℕ) (shape : Shape) (refusal : Option Refusal)
        → length shape.columns ≤ MOST_COLUMNS → Keeps (means m places) old new refusal
        → TakesFew (means m places) old new refusal (pages_of_table (length shape.columns))
        → MakesTable (means m places) old new t name shape refusal
        → MakesTable (means_with_room m places) old new t name shape refusal
    makes_table_room t name shape refusal few keeps takes makes = makes_with (means m places) stands_tell fewer_free old new
        t name shape refusal few keeps takes makes
