-- A walk over the records of a table.
use Rattle.std.proofs.Common.{◌≡◌, ◌≢◌, ◌≤◌, inl, inr, true, ℕ, Option, None, Some, sym, ap, ◌∙◌, subst}
use Rattle.std.specs.Prelude.{Result, Ok, Err}
use Rattle.mg_base.specs.Disk.{MayLeave, Meaning}
use Rattle.mg_base.specs.Image.{Image}
use Rattle.mg_base.specs.declared.numbers.RecId.{RecId}
use Rattle.mg_base.specs.declared.numbers.TxNo.{TxNo}
use Rattle.mg_heap.specs.Reading.{ReadsData}
use Rattle.mg_image.specs.Form.{Pages, Row}
use Rattle.mg_image.specs.Records.{key_of}
use Rattle.mg_model.specs.declared.refusal.Refusal.{Refusal}
use Rattle.mg_model.specs.declared.table.Table.{Table}
use Rattle.mg_pool.specs.Dirty.{DirtyPages}
use Rattle.mg_pool.specs.Fault.{StaysOnline, TellsFault}
use Rattle.mg_pool.specs.Pool.{shown}
use Rattle.mg_pool.specs.declared.fault.PoolFault.TheVariants as faults
use Rattle.mg_pool.specs.declared.pool.Pool.{Pool}
use Rattle.mg_records.specs.Reading.{StandsUnderKey}
use Rattle.mg_records.specs.declared.found.Found.{Found}
use Rattle.mg_seek.specs.Refusals.{RefusesVisit}
use Rattle.mg_seek.specs.Versions.{wants}
use Rattle.mg_seek.specs.Views.{IsVisit}
use Rattle.mg_seek.specs.declared.views.Visit.{Visit}
use Rattle.mg_seek.specs.declared.whose.Wanted.TheVariants.{SeenBy}
use Rattle.mg_space.specs.View.{KeepsStore, Tells, pool_answer}
use Rattle.mg_space.specs.ViewLaws.{tells_on}
use Rattle.mg_space.specs.declared.fault.SpaceFault.{SpaceFault}
use Rattle.mg_space.specs.declared.fault.SpaceFault.TheVariants as space
use Rattle.mg_space.specs.declared.links.FireLinks.{FireLinks}
use Rattle.mg_txlist.specs.TxList.{said}
use Rattle.mg_txlist.specs.declared.list.TxList.{TxList}
use Rattle.mg_value.specs.Rows.{RowFits}
use Rattle.mg_value.specs.declared.value.Value.{Value}
use Rattle.mg_value.specs.declared.value.Value.TheVariants.{Null}
use Rattle.mg_core.specs.declared.parts.Core.{Core}
use Rattle.mg_core.specs.declared.scanning.Place.{Place}
use Rattle.mg_core.specs.Cores.{Continues}
use Rattle.mg_core.specs.Refusing.{CountsFault, IsRefusal}
use Rattle.mg_core.specs.Scanning.{GivesFound, HasKey, IsStepDamage, KeysRow, PlacesBehind, Scans, VisitsNext, WhyNoStep, early, no_key, no_page, no_visit, record_of, sequence_in, unfit}

abbrev pub CountsNow : {D : Type 0} → Meaning D → Type 0
CountsNow {D} m = (disk : D) (t : ℕ) (c : Image) → m.tells disk ≡ true → t ≤ m.moment disk
    → MayLeave m disk c → m.left disk t c

-- What the walk of the layer below found, as one sees it who asks by a place.
module _ {D : Type 0} (m : Meaning D) (old : Core D) (mid : Pool D FireLinks) (list : TxList) (t : TxNo)
    (table : Table) (after : Option Place) (from : Option RecId) (same : list ≡ old.list)
    (from_is : from ≡ record_of after) where
  visit_as : (view : Pages) (found : Option Visit) → IsVisit (said list) old.live t view table from found
      → IsVisit (said old.list) old.live t view table (record_of after) found
  visit_as view found is = subst (λ (l : TxList). IsVisit (said l) old.live t view table (record_of after) found)
      same (subst (λ (f : Option RecId). IsVisit (said list) old.live t view table f found) from_is is)

  pub no_next : (fault : SpaceFault) → ((image : Image) → Tells m old.store.disk image
      → RefusesVisit m mid (shown old.store.dirty image)
      (wants (said list) old.live (SeenBy t)) table from fault) → WhyNoStep m old mid t table after fault
  no_next fault refused image tells = no_visit fault
      (subst (λ (l : TxList). RefusesVisit m mid (shown old.store.dirty image)
      (wants (said l) old.live (SeenBy t)) table (record_of after) fault) same
      (subst (λ (f : Option RecId). RefusesVisit m mid (shown old.store.dirty image)
      (wants (said list) old.live (SeenBy t)) table f fault) from_is (refused image tells)))

  -- A record was found.
  module _ (visit : Visit) (answer : Option Visit) (answer_is : answer ≡ Some visit)
      (keeps : KeepsStore m old.store mid) (gives : (image : Image) → Tells m old.store.disk image
      → IsVisit (said list) old.live t (shown old.store.dirty image) table from answer) where
    its : (image : Image) → Tells m old.store.disk image
        → IsVisit (said old.list) old.live t (shown old.store.dirty image) table (record_of after) (Some visit)
    its image tells = visit_as (shown old.store.dirty image) (Some visit) (subst (λ (a : Option Visit).
        IsVisit (said list) old.live t (shown old.store.dirty image) table from a) answer_is (gives image tells))

    on_mid : (new : Pool D FireLinks) (image : Image) (result : Result Place SpaceFault)
        → PlacesBehind m new (shown mid.dirty image) visit.rec after result
        → PlacesBehind m new (shown old.store.dirty image) visit.rec after result
    on_mid new image result is = subst (λ (dirty : DirtyPages).
        PlacesBehind m new (shown dirty image) visit.rec after result) keeps.dirty is

    pub found_some : (new : Pool D FireLinks) (place : Place) (row : Option (Value × Row))
        → ((image : Image) → Tells m mid.disk image
        → PlacesBehind m new (shown mid.dirty image) visit.rec after (Ok place)) → place.rec ≡ visit.rec
        → HasKey table visit.row row
        → GivesFound m old t table after (Some (record { place = place; row = row }))
    found_some new place row places of keyed image tells = (
      visit.row,
      subst (λ (rec : RecId). IsVisit (said old.list) old.live t (shown old.store.dirty image) table
          (record_of after) (Some (record { rec = rec; row = visit.row }))) (sym of) (its image tells),
      keyed,
      ap (λ (p : Place). p.sequence) there ∙ ap (λ (rec : RecId). sequence_in (shown old.store.dirty image) rec) (sym of),
    )
      where
        there : place ≡ record { rec = visit.rec; sequence = sequence_in (shown old.store.dirty image) visit.rec }
        there = on_mid new image (Ok place) (places image (tells_on m old.store mid image keeps tells))

    pub no_place : (new : Pool D FireLinks) (fault : SpaceFault)
        → ((image : Image) → Tells m mid.disk image
        → PlacesBehind m new (shown mid.dirty image) visit.rec after (Err fault))
        → WhyNoStep m old new t table after fault
    no_place new fault places image tells = at (on_mid new image (Err fault)
        (places image (tells_on m old.store mid image keeps tells)))
      where
        at : PlacesBehind m new (shown old.store.dirty image) visit.rec after (Err fault)
            → IsStepDamage m new (said old.list) old.live t
            (shown old.store.dirty image) table after fault
        at (inl missing) = no_page visit fault (its image tells) missing
        at (inr is) = early visit fault (its image tells) is

    pub no_row : (new : Pool D FireLinks) (fault : SpaceFault)
        → KeysRow table visit.rec.page.0 visit.row (Err fault) → WhyNoStep m old new t table after fault
    no_row new fault keys image tells = at keys
      where
        at : KeysRow table visit.rec.page.0 visit.row (Err fault)
            → IsStepDamage m new (said old.list) old.live t
            (shown old.store.dirty image) table after fault
        at (inl lacks) = no_key visit fault (its image tells) lacks
        at (inr (inl is)) = unfit visit fault (its image tells) is
        at (inr (inr memory)) = subst (IsStepDamage m new (said old.list) old.live t
            (shown old.store.dirty image) table after) (sym memory) (no_visit (space.Pool faults.Memory) tt)

-- a row that fits its table, with its key, which is not NULL
pub keyed_so : (table : Table) (row : Row) (key : Value) → RowFits table.shape.columns row
    → key ≡ key_of table row → key ≢ Null
    → HasKey table (Some row) (Some (key, row)) × StandsUnderKey table.shape (Some (key, row))
keyed_so table row key fits is not_null = (
  ap (λ (k : Value). Some (k, row)) is,
  (record { fits = fits; keyed = λ none. not_null (is ∙ none) }, sym is),
)

-- the next record was found, or it was not, and the fault is counted
pub scan_ok : {D : Type 0} (m : Meaning D) (old new : Core D) (t : TxNo) (table : Table) (after : Option Place)
    (found : Option (Found Place)) → Continues old t.0 → VisitsNext m old new t table after (Ok found)
    → Scans m old new t table after (Ok found)
scan_ok m old new t table after found continues visits = record {
  continues = continues;
  gives = visits.0;
  behind = visits.1;
  fits = visits.4;
  reads = visits.2;
  same = visits.3;
}

pub scan_fails : {D : Type 0} (m : Meaning D) (old mid new : Core D) (t : TxNo) (table : Table)
    (after : Option Place) (fault : SpaceFault) (refusal : Refusal) → Continues old t.0
    → VisitsNext m old mid t table after (Err fault) → IsRefusal fault refusal
    → CountsFault fault mid.damage new.damage mid.shortages new.shortages
    → new ≡ record mid { damage = new.damage; shortages = new.shortages }
    → Scans m old new t table after (Err refusal)
scan_fails {D} m old mid new t table after fault refusal continues visits is counts same = inr (record {
  continues = continues;
  fault = fault;
  is = is;
  keeps = subst (KeepsStore m old.store) (sym same_store) visits.0;
  told = subst (λ (s : Pool D FireLinks). TellsFault m old.store s (pool_answer {T = Unit {0}} (Err fault)))
      (sym same_store) visits.1;
  own = visits.4;
  why = subst (λ (s : Pool D FireLinks). WhyNoStep m old s t table after fault) (sym same_store) visits.2;
  counts = subst (λ (d : ℕ). CountsFault fault d new.damage old.shortages new.shortages) same_damage
      (subst (λ (s : ℕ). CountsFault fault mid.damage new.damage s new.shortages) same_shortages counts);
  same = same ∙ (ap (λ (c : Core D). record c { damage = new.damage; shortages = new.shortages }) visits.3
      ∙ ap (λ (s : Pool D FireLinks). record old {
        store = s;
        damage = new.damage;
        shortages = new.shortages;
      }) (sym same_store));
})
  where
    same_store : new.store ≡ mid.store
    same_store = ap (λ (c : Core D). c.store) same

    same_damage : mid.damage ≡ old.damage
    same_damage = ap (λ (c : Core D). c.damage) visits.3

    same_shortages : mid.shortages ≡ old.shortages
    same_shortages = ap (λ (c : Core D). c.shortages) visits.3

-- a row without a key or that does not fit, or want of memory, is what a reading is refused for
pub keys_own : (table : Table) (page : ℕ) (row : Option Row) (fault : SpaceFault)
    → KeysRow table page row (Err fault) → ReadsData {T = Unit {0}} (Err fault)
keys_own table page row fault (inr (inr memory)) = subst (λ (f : SpaceFault). ReadsData {T = Unit {0}} (Err f))
    (sym memory) tt
keys_own table page None fault (inl lacks) = absurd lacks
keys_own table page (Some row) fault (inl lacks) = subst (λ (f : SpaceFault). ReadsData {T = Unit {0}} (Err f))
    (sym lacks.1) tt
keys_own table page None fault (inr (inl is)) = absurd is
keys_own table page (Some row) fault (inr (inl is)) = subst (λ (f : SpaceFault). ReadsData {T = Unit {0}} (Err f))
    (sym is.1) tt

-- a row without a key or that does not fit, or want of memory, is no fault of the cache that is told of its disk
pub keys_told : {D : Type 0} (m : Meaning D) (old new : Pool D FireLinks) (table : Table) (page : ℕ)
    (row : Option Row) (fault : SpaceFault) → StaysOnline m old new → KeysRow table page row (Err fault)
    → TellsFault m old new (pool_answer {T = Unit {0}} (Err fault))
keys_told m old new table page row fault online (inr (inr memory)) = subst (λ (f : SpaceFault).
    TellsFault m old new (pool_answer {T = Unit {0}} (Err f))) (sym memory) online
keys_told m old new table page None fault online (inl lacks) = absurd lacks
keys_told m old new table page (Some row) fault online (inl lacks) = subst (λ (f : SpaceFault).
    TellsFault m old new (pool_answer {T = Unit {0}} (Err f))) (sym lacks.1) online
keys_told m old new table page None fault online (inr (inl is)) = absurd is
keys_told m old new table page (Some row) fault online (inr (inl is)) = subst (λ (f : SpaceFault).
    TellsFault m old new (pool_answer {T = Unit {0}} (Err f))) (sym is.1) online
