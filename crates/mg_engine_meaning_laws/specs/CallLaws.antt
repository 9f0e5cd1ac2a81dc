-- What is true of engines that are opened and closed.
use Rattle.std.specs.Prelude.{ℕ, Result, Ok}
use Rattle.mg_base.specs.Disk.{Meaning}
use Rattle.mg_core.specs.Cores.{IsCore}
use Rattle.mg_core.specs.Opening.{ClosesDisk, OpensDisk}
use Rattle.mg_core.specs.declared.parts.Core.{Core}
use Rattle.mg_engine_meaning_laws.specs.Standings.{StandsFor}
use Rattle.mg_grown_catalog_laws.specs.Grown.{CatalogGrows}
use Rattle.mg_model.specs.History.{Entries}
use Rattle.mg_model.specs.Legal.{IsLegal, MayBegin, durable_count}
use Rattle.mg_model.specs.declared.opening.Opening.{Opening}
use Rattle.mg_model.specs.declared.refusal.Refusal.{Refusal}
use Rattle.mg_engine_meaning_laws.specs.Closings.{ClosesEngine, Ends, HasLeft, TakesUp}
use Rattle.mg_engine_meaning_laws.specs.Openings.{IsOpenedOver, OpensEngine}

-- what is said of the opening of a disk gives what is said of the opening of an engine
abbrev pub OpeningsStand : (D : Type 0) → Meaning D → Type 0
OpeningsStand D m = (disk : D) (limit : ℕ) (result : Result (Core D) (D × Refusal))
    → OpensDisk m disk limit result → OpensEngine m disk limit result

-- and what is said of the closing of a disk what is said of that of an engine
abbrev pub ClosingsLeave : (D : Type 0) → Meaning D → Type 0
ClosingsLeave D m = (old : Core D) (disk : D) (result : Result (Unit {0}) Refusal) → IsCore m old
    → ClosesDisk m old.store disk result → ClosesEngine m old disk result

-- What is left of a history is taken up, with so many of its durable events as are left: after a close all of them. (Of
-- what a crash leaves an engine's clauses tell which these are, and not yet that the tables are plain.)
abbrev pub LeftIsTakenUp : (D : Type 0) → Meaning D → Type 0
LeftIsTakenUp D m = (core : Core D) (disk : D) (limit size : ℕ) (o : Opening) (h : Entries) (k : ℕ) → MayBegin o
    → IsLegal o h → CatalogGrows o h → HasLeft m disk size o h k → IsOpenedOver m disk limit core
    → TakesUp m core o h k

-- Two opened runs compose: where an engine was closed, one that is opened over its disk stands for a history that has no
-- entry, and begins where that of the first one has ended.
abbrev pub RunsCompose : (D : Type 0) → Meaning D → Type 0
RunsCompose D m = (old core : Core D) (disk : D) (limit : ℕ) (o : Opening) (h : Entries) → Ends m old disk (Ok tt)
    → IsOpenedOver m disk limit core → StandsFor m old o h → TakesUp m core o h (durable_count h)
