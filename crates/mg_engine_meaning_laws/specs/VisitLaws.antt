-- A walk visits the next record.
use Rattle.std.proofs.Common.{◌≡◌, inl, inr, ◌<◌, ◌+◌, ◌-◌, cond, ℕ, Bool, true, false, [], ◌∷◌, Option, None, Some, Result, Ok, Err, refl, sym, ap, ◌∙◌, subst, arith}
use Rattle.mg_base.specs.Disk.{Meaning}
use Rattle.mg_base.specs.Image.{Image}
use Rattle.mg_base.specs.declared.numbers.RecId.{RecId}
use Rattle.mg_base.specs.declared.numbers.TxNo.{TxNo}
use Rattle.mg_value.specs.declared.value.Value.{Value}
use Rattle.mg_model.specs.declared.refusal.Refusal.{Refusal}
use Rattle.mg_model.specs.declared.table.Table.{Table}
use Rattle.mg_model.specs.Answers.{catalog_of, told}
use Rattle.mg_model.specs.Catalog.{catalog_name, shape_said, table_key}
use Rattle.mg_model.specs.Changes.{KeyedRows, same_name}
use Rattle.mg_records.specs.declared.found.Found.{Found}
use Rattle.mg_records.specs.Crashing.{LeavesQuietly}
use Rattle.mg_records.specs.Keeping.{Reads}
use Rattle.mg_records.specs.Reading.{Nears, Visits, with_found}
use Rattle.mg_heap.specs.Walk.{GivesAt, GivesNext, IsFirstRecord, is_primary}
use Rattle.mg_image.specs.Form.{Pages, Row}
use Rattle.mg_image.specs.Held.{told_row}
use Rattle.mg_image.specs.Records.{key_of}
use Rattle.mg_pool.specs.Dirty.{DirtyPages}
use Rattle.mg_pool.specs.Pool.{shown}
use Rattle.mg_seek.specs.Views.{IsVisit}
use Rattle.mg_seek.specs.Walks.{keyed}
use Rattle.mg_seek.specs.declared.views.Visit.{Visit}
use Rattle.mg_slots.specs.DataPage.{cell_of}
use Rattle.mg_space.specs.View.{KeepsStore}
use Rattle.mg_txlist.specs.TxList.{said}
use Rattle.mg_core.specs.declared.parts.Core.{Core}
use Rattle.mg_core.specs.declared.scanning.Place.{Place}
use Rattle.mg_core.specs.Cores.{Continues, RefusesCall}
use Rattle.mg_core.specs.Scanning.{FailsScan, GivesFound, GoesOn, HasKey, IsBehind, IsFound, Scans, ScansOn, rank, record_of, sequence_in}
use Rattle.mg_engine_step_laws.specs.reads.Walking.{AreToCome, WalkPlace, WalksGoOn, place_in, rec_of}
use Rattle.mg_engine_meaning_laws.specs.FrameLaws.{sessions_of, works_same}
use Rattle.mg_engine_meaning_laws.specs.LawfulLaws.{memory_of}
use Rattle.mg_engine_meaning_laws.specs.Laws.{IsKeeper}
use Rattle.mg_engine_meaning_laws.specs.Meaning.{AreNext, ComesTo, HasRecordAt, Places, means, place_at, rank_left}
use Rattle.mg_engine_meaning_laws.specs.Standings.{standing_of}
use Rattle.mg_engine_meaning_laws.specs.StepLaws.{refused_none}
use Rattle.mg_engine_meaning_laws.specs.Steps.{AddsNone, ReadsGoOn}
use Rattle.mg_engine_meaning_laws.specs.FaultLaws.{IsOuter, fault_outer}
use Rattle.mg_engine_meaning_laws.specs.Counts.{HasCounts}
use Rattle.mg_engine_meaning_laws.specs.Reads.{AreRanked, IsInRank, VisitsRecord}

-- the rows of a table that is not the catalog are told as they are stored
told_plain : (table : Table) (row : Row) → same_name table.name catalog_name ≡ false → told_row table row ≡ row
told_plain table row apart = rw apart refl

-- a row with its key in front of others is the row that was found there
found_row : (table : Table) (row : Option Row) (key : Option (Value × Row)) (rows : KeyedRows)
    → same_name table.name catalog_name ≡ false → HasKey table row key
    → keyed table row rows ≡ with_found key rows
found_row table None key rows apart is = ap (λ (k : Option (Value × Row)). with_found k rows) (sym is)
found_row table (Some row) key rows apart is =
    ap (λ (x : Row). (key_of table row, x) ∷ rows) (told_plain table row apart)
    ∙ ap (λ (k : Option (Value × Row)). with_found k rows) (sym is)

-- the record behind another one stands in a primary slot
first_primary : (pages : Pages) (n from : ℕ) (x : RecId) → IsFirstRecord (pages n) n from x
    → is_primary (cell_of (pages x.page.0) x.slot) ≡ true
first_primary pages n from x is = subst (λ (p : ℕ). is_primary (cell_of (pages p) x.slot) ≡ true) (sym is.page) is.primary

at_primary : (pages : Pages) (owner place : ℕ) (x : RecId) → GivesAt pages owner place (Some x)
    → is_primary (cell_of (pages x.page.0) x.slot) ≡ true
at_primary pages owner place x (page, finds, first) = first_primary pages page.0 0 x first

found_primary : (pages : Pages) (owner : ℕ) (after : Option RecId) (x : RecId) → GivesNext pages owner after (Some x)
    → is_primary (cell_of (pages x.page.0) x.slot) ≡ true
found_primary pages owner None x gives = at_primary pages owner gives.place x gives.gives
found_primary pages owner (Some former) x (inl (y, is, first)) =
    let same : x ≡ y = cc in
    subst (λ (r : RecId). is_primary (cell_of (pages r.page.0) r.slot) ≡ true) (sym same)
    (first_primary pages former.page.0 (former.slot + 1) y first)
found_primary pages owner (Some former) x (inr (none, behind)) =
    at_primary pages owner behind.gives.place x behind.gives.gives

module _ {D : Type 0} (m : Meaning D) (places : Places Place) (ranked : AreRanked places)
    (reads : ReadsGoOn D Place m) (keeper : IsKeeper m places) (go_on : WalksGoOn) (old : Core D) (t : TxNo) (table : Table)
    (after : Option Place) (counts : HasCounts old) where
  record_same : (place : Option Place) → rec_of (place_at places place) ≡ record_of place
  record_same None = refl
  record_same (Some place) = ap Some (ranked.rec place)

  -- a place with the sequence that its page names
  place_same : (pages : Pages) (place : Place) → place.sequence ≡ sequence_in pages place.rec
      → place_in pages place.rec ≡ record { rec = places.rec place; sequence = places.sequence place }
  place_same pages place sequence =
      ap (λ (r : RecId). record { rec = r; sequence = sequence_in pages place.rec }) (sym (ranked.rec place))
      ∙ ap (λ (n : ℕ). record { rec = places.rec place; sequence = n })
      (sym (ranked.sequence place ∙ sequence))

  -- a table that was given is not the catalog: the history tells it under its name
  not_catalog : (rows : KeyedRows) → ComesTo m old t.0 table (place_at places after) rows
      → same_name table.name catalog_name ≡ false
  not_catalog rows comes = at (same_name table.name catalog_name) refl
      (keeper.seen old comes.opening comes.entries t.0 table.name table comes.stands comes.active comes.seen).1
    where
      at : (b : Bool) → same_name table.name catalog_name ≡ b
          → cond b None (shape_said (catalog_of (told comes.opening comes.entries) t.0) table.name
          (catalog_of (told comes.opening comes.entries) t.0 (table_key table.name))) ≡ Some table.shape
          → same_name table.name catalog_name ≡ false
      at true is some = absurd cc
      at false is some = is

  -- ---- the end comes nearer

  nearer : (new : Core D) (found : Option (Found Place)) → GoesOn after found → IsInRank (Ok found)
      → GivesFound m old t table after found → KeepsStore m old.store new.store
      → Nears (means m places) old new t.0 table after (Ok found)
  nearer new None behind in_rank gives keeps = tt
  nearer new (Some found) behind in_rank gives keeps = (tt, at after behind, there)
    where
      -- the pages are those that were read
      there : HasRecordAt m new (places.rec found.place)
      there image tells = subst (λ (r : RecId). is_primary (cell_of (shown new.store.dirty image r.page.0) r.slot) ≡ true)
          (sym (ranked.rec found.place))
          (subst (λ (d : DirtyPages). is_primary (cell_of (shown d image found.place.rec.page.0) found.place.rec.slot)
          ≡ true) (sym keeps.dirty) (by (gives image (record {
            told = sym keeps.disk.tells ∙ tells.told;
            held = sym keeps.disk.held ∙ tells.held;
          }))))
        where
          by : IsFound (said old.list) old.live t (shown old.store.dirty image) table after (Some found)
              → is_primary (cell_of (shown old.store.dirty image found.place.rec.page.0) found.place.rec.slot) ≡ true
          by (row, visit, key, sequence) =
              found_primary (shown old.store.dirty image) table.pointer.0 (record_of after) found.place.rec visit.0

      at : (former : Option Place) → IsBehind former found.place
          → rank_left places (Some found.place) < rank_left places former
      at None behind_ = omega arith
      at (Some former) behind_ =
          let here = ranked.rank found.place in
          let there = ranked.rank former in
          omega (arith, here, there, behind_, in_rank)

  -- ---- the next of the rows to come

  module _ (new : Core D) (continues : Continues old t.0)
      (stay : (given : Table) (place : Option Place) (rows : KeyedRows)
      → (means m places).to_come old t.0 given place rows → (means m places).to_come new t.0 given place rows)
    where
      -- a visit behind the record of a place of the core
      as_walked : (i : Image) (visit : Option Visit)
          → IsVisit (said old.list) old.live t (shown old.store.dirty i) table (record_of after) visit
          → IsVisit (said old.list) old.live t (shown old.store.dirty i) table (rec_of (place_at places after)) visit
      as_walked i visit is = subst (λ (r : Option RecId). IsVisit (said old.list) old.live t
          (shown old.store.dirty i) table r visit) (sym (record_same after)) is

      next_rows : (found : Option (Found Place)) → GivesFound m old t table after found
          → (rows : KeyedRows) → (comes : ComesTo m old t.0 table (place_at places after) rows)
          → AreNext m old (standing_of old comes.stands.numbers comes.stands.tables) t.0 table
          (place_at places after) rows None
          → Visits (means m places) new t.0 table (Ok found) rows
      next_rows None gives rows comes (i, held, next) = go_on old.store.geometry.size
          (standing_of old comes.stands.numbers comes.stands.tables) (shown old.store.dirty i) table t
          (place_at places after) None rows next (as_walked i None
          (gives i (record { told = comes.stands.tells; held = held })))
      next_rows (Some found) gives rows comes (i, held, next) =
          by (gives i (record { told = comes.stands.tells; held = held }))
        where
          by : IsFound (standing_of old comes.stands.numbers comes.stands.tables).state
              (standing_of old comes.stands.numbers comes.stands.tables).live t (shown old.store.dirty i) table after
              (Some found) → Visits (means m places) new t.0 table (Ok (Some found)) rows
          by (row, visit, key, sequence) =
              let there = go_on old.store.geometry.size
              (standing_of old comes.stands.numbers comes.stands.tables) (shown old.store.dirty i) table t
              (place_at places after) (Some (record { rec = found.place.rec; row = row })) rows next
              (as_walked i (Some (record { rec = found.place.rec; row = row })) visit) in (
                there.0,
                there.1 ∙ found_row table row found.row there.0 (not_catalog rows comes) key,
                stay table (Some found.place) there.0 (record {
                  opening = comes.opening;
                  entries = comes.entries;
                  stands = comes.stands;
                  active = comes.active;
                  seen = comes.seen;
                  next = subst (λ (off : Option ℕ). AreNext m old
                      (standing_of old comes.stands.numbers comes.stands.tables) t.0 table
                      (place_at places (Some found.place)) there.0 off) (sym continues.0) (
                        i,
                        held,
                        subst (λ (place : WalkPlace). AreToCome old.store.geometry.size
                            (standing_of old comes.stands.numbers comes.stands.tables) (shown old.store.dirty i)
                            t.0 table (Some place) there.0)
                            (place_same (shown old.store.dirty i) found.place sequence) there.2,
                      );
                }),
              )

      visits_next : (found : Option (Found Place)) → GivesFound m old t table after found
          → (rows : KeyedRows) → (means m places).to_come old t.0 table after rows
          → Visits (means m places) new t.0 table (Ok found) rows
      visits_next found gives rows comes = next_rows found gives rows comes
          (subst (λ (off : Option ℕ). AreNext m old (standing_of old comes.stands.numbers comes.stands.tables) t.0
          table (place_at places after) rows off) continues.0 comes.next)

  -- ---- the call

  goes : (new : Core D) (found : Option (Found Place)) → IsInRank (Ok found)
      → ScansOn m old new t table after found
      → VisitsRecord m places old new t.0 table after (Ok found)
  goes new found in_rank is = subst (λ (c : Core D). VisitsRecord m places old c t.0 table after (Ok found))
      (sym is.same) (record {
        answers = λ o h stands. sym ((memory_of m old o h stands).state t.0) ∙ is.continues.1;
        nears = nearer (record old { store = new.store }) found is.behind in_rank is.gives is.reads.keeps;
        visits = visits_next (record old { store = new.store }) is.continues (λ given place rows comes.
            (both None).0.walks_stay t.0 given place rows refl comes) found is.gives;
        reads = (both (Some t.0)).0;
        crash = (both None).1;
        sessions = sessions_of m places old (record old { store = new.store }) t.0 (works_same old.works t.0);
      })
    where
      both : (walks : Option ℕ) → Reads (means m places) old (record old { store = new.store }) None walks
          × LeavesQuietly (means m places) old (record old { store = new.store })
      both walks = reads places old new.store old.damage old.shortages None walks is.reads.keeps (omega arith)
          (omega arith) (record { cause = tt; offline = rw is.continues.0 tt; down = is.reads.keeps.offline })

  refused_as : (refusal : Refusal) → RefusesCall old t.0 refusal
      → VisitsRecord m places old old t.0 table after (Err refusal)
  refused_as refusal refuses =
      let none : AddsNone {T = Option (Found Place)} m places old old t.0 (Err refusal) (Some t.0) =
      refused_none m places old t.0 refusal (Some t.0) refuses in
      record {
        answers = none.answers;
        nears = tt;
        visits = λ rows comes. tt;
        reads = none.reads;
        crash = none.crash;
        sessions = none.sessions;
      }

  fails : (new : Core D) (refusal : Refusal) → FailsScan m old new t table after refusal
      → VisitsRecord m places old new t.0 table after (Err refusal)
  fails new refusal is = subst (λ (c : Core D). VisitsRecord m places old c t.0 table after (Err refusal))
      (sym is.same) (record {
        answers = λ o h stands. outer.refused o h t.0;
        nears = tt;
        visits = λ rows comes. tt;
        reads = both.0;
        crash = both.1;
        sessions = sessions_of m places old
            (record old { store = new.store; damage = new.damage; shortages = new.shortages }) t.0
            (works_same old.works t.0);
      })
    where
      outer : IsOuter m places old
          (record old { store = new.store; damage = new.damage; shortages = new.shortages }) refusal
      outer = fault_outer m places old new.store new.damage new.shortages is.continues.0 is.keeps counts.damage
          counts.shortages is.fault refusal is.is is.own is.told is.counts

      both : Reads (means m places) old
          (record old { store = new.store; damage = new.damage; shortages = new.shortages }) (Some refusal)
          (Some t.0) × LeavesQuietly (means m places) old
          (record old { store = new.store; damage = new.damage; shortages = new.shortages })
      both = reads places old new.store new.damage new.shortages (Some refusal) (Some t.0) is.keeps outer.damage
          outer.shortages outer.may

  pub visits_record : (new : Core D) (result : Result (Option (Found Place)) Refusal) → IsInRank result
      → Scans m old new t table after result → VisitsRecord m places old new t.0 table after result
  visits_record new (Ok found) in_rank is = goes new found in_rank is
  visits_record new (Err refusal) in_rank (inl (refuses, same)) = subst (λ (c : Core D).
      VisitsRecord m places old c t.0 table after (Err refusal)) (sym same) (refused_as refusal refuses)
  visits_record new (Err refusal) in_rank (inr is) = fails new refusal is
