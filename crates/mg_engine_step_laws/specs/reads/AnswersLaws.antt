-- What is found of keys on the pages of an engine that stands for a history is what the machine says.
use Rattle.std.specs.Prelude.{◌≡◌, ℕ, List, [], Option, None, Some}
use Rattle.mg_base.specs.declared.numbers.RecId.{RecId}
use Rattle.mg_base.specs.declared.numbers.TxNo.{TxNo}
use Rattle.mg_base.specs.declared.transaction.TxState.TheVariants.{Active}
use Rattle.mg_value.specs.declared.value.Value.{Value}
use Rattle.mg_model.specs.declared.opening.Opening.{Opening}
use Rattle.mg_model.specs.declared.table.Table.{Table}
use Rattle.mg_model.specs.Answers.{obstacle, told}
use Rattle.mg_model.specs.Changes.{row_at, same_row}
use Rattle.mg_model.specs.History.{Entries}
use Rattle.mg_model.specs.Legal.{IsLegal, MayBegin}
use Rattle.mg_model.specs.Machine.{state_of, view}
use Rattle.mg_generation_laws.specs.Kept.{StandFor}
use Rattle.mg_image.specs.Form.{Pages, Row}
use Rattle.mg_seek.specs.declared.views.Obstacle.{Obstacle}
use Rattle.mg_seek.specs.Histories.{IsStateTold, by_of, told_if}
use Rattle.mg_seek.specs.Speaking.{IsSpeaker}
use Rattle.mg_seek.specs.Views.{IsObstacle, IsRowSeen}
use Rattle.mg_engine_step_laws.specs.standing.Standing.{Standing}
use Rattle.mg_engine_step_laws.specs.standing.Known.{IsShown, IsSilent, KnowsPages, speaker_of}

-- The record that was found for a key speaks for it. Where none was found, no version stands for the key,
-- and who speaks for it may be silent.
abbrev pub TellsSpeaker : (size : ℕ) (o : Opening) (h : Entries) (s : Standing) (pages : Pages)
    → KnowsPages size o h s pages → List ℕ → Value → Option RecId → Type 0
TellsSpeaker size o h s pages knows name key (Some rec) =
    speaker_of size o h s pages knows name key ≡ Some rec
TellsSpeaker size o h s pages knows name key None =
    StandFor o h name key [] × IsSilent size o h s pages knows name key

-- what is found to speak for a key of a table does
abbrev pub SpeakersAreTold : Type 0
SpeakersAreTold = (size : ℕ) (o : Opening) (h : Entries) (s : Standing) (pages : Pages)
    (knows : KnowsPages size o h s pages) (table : Table) (key : Value) (found : Option RecId)
    → IsShown knows.shows.layout table
    → IsSpeaker s.state s.live pages table key found
    → TellsSpeaker size o h s pages knows table.name key found

-- who is in the way of an active transaction at the record that speaks for a key is in its way at the key
abbrev pub ObstaclesAtKeys : Type 0
ObstaclesAtKeys = (size : ℕ) (o : Opening) (h : Entries) (s : Standing) (pages : Pages)
    (knows : KnowsPages size o h s pages) (table : Table) (key : Value) (rec : RecId) (t : ℕ)
    (found : Option Obstacle) → MayBegin o → IsLegal o h
    → IsShown knows.shows.layout table
    → speaker_of size o h s pages knows table.name key ≡ Some rec
    → state_of o h t ≡ Active → IsObstacle s.state s.live t pages rec found
    → (by_of found ≡ obstacle (told o h) t table.name key) × IsStateTold o h found

-- the row that an active transaction sees of that record is the row of its view
abbrev pub RowsAtKeys : Type 0
RowsAtKeys = (size : ℕ) (o : Opening) (h : Entries) (s : Standing) (pages : Pages)
    (knows : KnowsPages size o h s pages) (table : Table) (key : Value) (rec : RecId) (t : TxNo)
    (row : Option Row) → IsShown knows.shows.layout table
    → speaker_of size o h s pages knows table.name key ≡ Some rec
    → state_of o h t.0 ≡ Active → IsRowSeen s.state s.live t pages table rec row
    → same_row (row_at (view o h t.0) table.name key) (told_if table row)

-- where no version stands for a key, an active transaction sees no row there, and nobody is in its way
abbrev pub NothingAtKeys : Type 0
NothingAtKeys = (o : Opening) (h : Entries) (name : List ℕ) (key : Value) (t : ℕ) → MayBegin o
    → IsLegal o h → StandFor o h name key [] → state_of o h t ≡ Active
    → same_row (row_at (view o h t) name key) None × (obstacle (told o h) t name key ≡ None)
