-- The record into which a write goes, and its newest version.
use Rattle.std.proofs.Common.{◌≡◌, ◌≢◌, ◌∙◌, ◌==◌, ℕ, Bool, true, false, List, [], ◌∷◌, Option, None, Some, refl, sym, ap, subst}
use Rattle.std.specs.Prelude.{if◌then◌else◌}
use Rattle.std.proofs.lemmas.Bool.{eqb-true}
use Rattle.mg_base.specs.declared.numbers.RecId.{RecId}
use Rattle.mg_base.specs.declared.numbers.TxNo.{TxNo}
use Rattle.mg_base.specs.declared.transaction.TxState.{TxState}
use Rattle.mg_chain.specs.Chains.{newest_link}
use Rattle.mg_chain.specs.Views.{first_entry, is_dead}
use Rattle.mg_engine_step_laws.specs.standing.Versions.{HaveVersions, SpeaksFor}
use Rattle.mg_image.specs.Form.{Pages, packed_coding}
use Rattle.mg_image.specs.RecordRules.{AreRecords}
use Rattle.mg_image.specs.Records.{Reading, cells_of}
use Rattle.mg_image.specs.Sound.{facts_by}
use Rattle.mg_image.specs.Tables.{Layout}
use Rattle.mg_image.specs.declared.entry.Entry.{Entry}
use Rattle.mg_model.specs.History.{Entries}
use Rattle.mg_model.specs.declared.opening.Opening.{Opening}
use Rattle.mg_model.specs.declared.table.Table.{Table}
use Rattle.mg_no_damage_laws.specs.Writes.{IsRecordOf}
use Rattle.mg_row_writes.specs.Befores.{IsBefore, IsBeforeBy, IsBeforeIn, IsBeforeOf}
use Rattle.mg_row_writes.specs.declared.before.Before.{Before}
use Rattle.mg_row_writes.specs.declared.before.Way.{Way}
use Rattle.mg_row_writes.specs.declared.before.Way.TheVariants as ways
use Rattle.mg_seek.specs.Readings.{PlacesOfReadings, placed_if}
use Rattle.mg_seek.specs.Versions.{IsFirst, wants}
use Rattle.mg_seek.specs.declared.walk.Placed.{Placed}
use Rattle.mg_seek.specs.declared.whose.Wanted.TheVariants.{Any}
use Rattle.mg_snap.specs.Live.{State}
use Rattle.mg_value.specs.declared.value.Value.{Value}

-- ---- the way of a write

-- the record into which a write goes
abbrev pub record_of : Way → Option RecId
record_of ways.Make = None
record_of (ways.Push rec) = Some rec
record_of (ways.PushOverDead rec) = Some rec
record_of (ways.Replace rec) = Some rec

goes_there : (state : ℕ → TxState) (t : ℕ) (table : Table) (rec : RecId) (found : Option Placed) (b : Before)
    → IsBeforeOf state t table rec found b → record_of b.way ≡ Some rec
goes_there state t table rec None b is = ap (λ (x : Before). record_of x.way) is
goes_there state t table rec (Some p) b is = by (p.version.tx.0 == t) is
  where
    other : (dead : Bool) → record_of (if dead then ways.PushOverDead rec else ways.Push rec) ≡ Some rec
    other true = refl
    other false = refl

    by : (own : Bool) → IsBeforeBy own state table rec p.version b → record_of b.way ≡ Some rec
    by true its = ap record_of its.way
    by false its = ap (λ (x : Before). record_of x.way) its ∙ other (is_dead (state p.version.tx.0))

-- it is the record that was found
pub goes_to : (state : ℕ → TxState) (live : State) (t : ℕ) (pages : Pages) (table : Table) (rec : Option RecId)
    (b : Before) → IsBefore state live t pages table rec b → record_of b.way ≡ rec
goes_to state live t pages table None b is = ap (λ (x : Before). record_of x.way) is
goes_to state live t pages table (Some rec) b is = goes_there state t table rec is.newest b is.is

-- Where the newest version is replaced, it is the transaction's own.
pub record IsOwn (state : ℕ → TxState) (live : State) (t : ℕ) (pages : Pages) (rec : RecId) : Type 0 where
  pub newest : Placed
  pub first : IsFirst pages (wants state live Any) rec (Some newest)
  pub own : newest.version.tx.0 ≡ t

pub replaced_own : (state : ℕ → TxState) (live : State) (t : ℕ) (pages : Pages) (table : Table) (rec other : RecId)
    (b : Before) → IsBeforeIn state live t pages table rec b → b.way ≡ ways.Replace other
    → IsOwn state live t pages rec
replaced_own state live t pages table rec other b is way = at is.newest is.first is.is
  where
    none : (dead : Bool) → (if dead then ways.PushOverDead rec else ways.Push rec) ≡ ways.Replace other → ⊥
    none true same = absurd cc
    none false same = absurd cc

    by : (p : Placed) (own : Bool) → (p.version.tx.0 == t) ≡ own → IsFirst pages (wants state live Any) rec (Some p)
        → IsBeforeBy own state table rec p.version b → IsOwn state live t pages rec
    by p true same first its = record { newest = p; first = first; own = eqb-true p.version.tx.0 t same }
    by p false off first its = absurd (none (is_dead (state p.version.tx.0))
        (sym (ap (λ (x : Before). x.way) its) ∙ way))

    at : (found : Option Placed) → IsFirst pages (wants state live Any) rec found
        → IsBeforeOf state t table rec found b → IsOwn state live t pages rec
    at None first its = let both : ways.Push rec ≡ ways.Replace other = sym (ap (λ (x : Before). x.way) its) ∙ way in
        absurd cc
    at (Some p) first its = by p (p.version.tx.0 == t) refl first its

-- ---- the record that speaks for a key

listed : (es : List Entry) → es ≢ [] → (e : Entry) × ((rest : List Entry) × (es ≡ e ∷ rest))
listed [] some = absurd (some refl)
listed (e ∷ rest) some = (e, (rest, refl))

-- it is a table's, and has versions
pub spoken_record : (o : Opening) (h : Entries) (state : ℕ → TxState) (pages : Pages) (layout : Layout) (r : Reading)
    (have : HaveVersions o h (facts_by state pages layout) r) (name : List ℕ) (key : Value) (rec : RecId)
    → have.speaker name key ≡ Some rec → (table : Table) × IsRecordOf layout r rec table
spoken_record o h state pages layout r have name key rec speaks =
    let its : SpeaksFor o h (facts_by state pages layout) r name key (Some rec) =
    subst (SpeaksFor o h (facts_by state pages layout) r name key) speaks (have.speaks name key) in
    let (newest, (older, are)) = listed (r rec) its.0.some in (
      its.0.table,
      record { of = its.0.of_table; newest = newest; older = older; are = are },
    )

-- its newest version is the one that is found first
pub newest_found : PlacesOfReadings → (state counted : ℕ → TxState) (live : State) (pages : Pages) (layout : Layout)
    (r : Reading) → AreRecords packed_coding (facts_by counted pages layout) (cells_of pages) r → (rec : RecId)
    (table : Table) (its : IsRecordOf layout r rec table) (found : Placed)
    → IsFirst pages (wants state live Any) rec (Some found) → found.version.tx ≡ its.newest.version.tx
newest_found places state counted live pages layout r lawful rec table its found first = at is
  where
    is : Some found ≡ placed_if (first_entry (wants state live Any) (its.newest ∷ its.older))
    is = places (cells_of pages) (wants state live Any) (newest_link pages rec) (Some found) (r rec) first
        (lawful.reads rec table its.of)
        ∙ ap (λ (es : List Entry). placed_if (first_entry (wants state live Any) es)) its.are

    at : Some found ≡ Some (record { at = its.newest.at; version = its.newest.version })
        → found.version.tx ≡ its.newest.version.tx
    at same = let version_is : found ≡ record { at = its.newest.at; version = its.newest.version } = cc in
        ap (λ (p : Placed). p.version.tx) version_is

pub same_number : (a b : TxNo) → a.0 ≡ b.0 → a ≡ b
same_number a b same = ap (λ (n : ℕ). record { 0 = n }) same
