-- What is told of a record between two batches, and how refusals are handed on.
use Rattle.std.specs.Prelude.{◌≡◌, ◌||◌, ◌↔◌, ℕ, Bool, true, false, List, [], Some, is_some, IsErr, IsErrAnd, IsTrue, MatchResult, Result, Ok, Err, unwrap_or}
use Rattle.std.proofs.Common.{◌∙◌, ap, inr, subst, sym}
use Rattle.mg_base.specs.Disk.{Meaning}
use Rattle.mg_base.specs.Image.{Image}
use Rattle.mg_base.specs.declared.numbers.RecId.{RecId}
use Rattle.mg_base.specs.declared.transaction.TxState.{TxState}
use Rattle.mg_chain.specs.Chains.{Meets, newest_link}
use Rattle.mg_chain.specs.Refusals.{RefusesVersion}
use Rattle.mg_collecting.specs.Steps.{FailsReading}
use Rattle.mg_core_collecting.specs.Places.{TellsSettled}
use Rattle.mg_heap.specs.Listed.{IsRecordOf, RefusesRecordOf}
use Rattle.mg_heap.specs.Reading.{ReadsData}
use Rattle.mg_image.specs.Form.{Pages}
use Rattle.mg_image.specs.Records.{cells_of}
use Rattle.mg_model.specs.Answers.{is_committed}
use Rattle.mg_pool.specs.Batch.{Changed, content_in}
use Rattle.mg_pool.specs.Dirty.{DirtyPages}
use Rattle.mg_pool.specs.Fault.{StaysOnline, TellsFault}
use Rattle.mg_pool.specs.Pool.{shown}
use Rattle.mg_pool.specs.declared.batch.BatchPage.{BatchPage}
use Rattle.mg_pool.specs.declared.pool.Pool.{Pool}
use Rattle.mg_space.specs.View.{KeepsStore, Tells, pool_answer, viewed}
use Rattle.mg_space.specs.ViewLaws.{tells_on}
use Rattle.mg_space.specs.declared.fault.SpaceFault.{SpaceFault}
use Rattle.mg_space.specs.declared.fault.SpaceFault.TheVariants as faults
use Rattle.mg_version.specs.declared.cell.Link.{Link}
use Rattle.mg_version.specs.declared.cell.Version.{Version}

-- a fault that a call met is handed on
pub handed_on : {T : Type 0} (result : Result T SpaceFault) (fault : SpaceFault) (P : T → Type 0)
    (Q : SpaceFault → Type 0) → IsErr result → IsErrAnd result (λ given. given ≡ fault) → Q fault
    → MatchResult result P Q
handed_on (Ok x) fault P Q err is holds = absurd cc
handed_on (Err e) fault P Q err is holds = subst Q (sym is) holds

-- a reading that fails, whatever it would have answered
pub reading_as : {D L : Type 0} (A : Type 0) (m : Meaning D) (before after : Pool D L)
    (refuses : Image → SpaceFault → Type 0) (fault : SpaceFault) → KeepsStore m before after
    → ReadsData {T = A} (Err fault) → TellsFault m before after (pool_answer {T = A} (Err fault))
    → ((image : Image) → Tells m before.disk image → refuses image fault)
    → FailsReading m before after refuses fault
reading_as A m before after refuses fault keeps own told why = record {
  keeps = keeps;
  own = as_own fault own;
  told = as_told fault told;
  why = why;
}
  where
    as_own : (f : SpaceFault) → ReadsData {T = A} (Err f) → ReadsData {T = Unit {0}} (Err f)
    as_own (faults.Full limit) given = given
    as_own (faults.Damaged it) given = given
    as_own (faults.Pool it) given = given

    as_told : (f : SpaceFault) → TellsFault m before after (pool_answer {T = A} (Err f))
        → TellsFault m before after (pool_answer {T = Unit {0}} (Err f))
    as_told (faults.Full limit) given = given
    as_told (faults.Damaged it) given = given
    as_told (faults.Pool it) given = given

-- what is seen by a batch without pages is what is shown
pub at_empty : {D L : Type 0} (store : Pool D L) (image : Image) (batch : Changed) → batch.pages ≡ []
    → (P : List BatchPage → Pages → Type 0) → P batch.pages (viewed store image batch) → P [] (shown store.dirty image)
at_empty store image batch empty P given =
    subst (λ (pages : List BatchPage). P pages (λ n. unwrap_or (content_in pages n) (shown store.dirty image n))) empty
    given

-- ---- whether a slot is a record of a table

abbrev pub TellsRecord : {D L : Type 0} → Meaning D → Pool D L → ℕ → RecId → Result Bool SpaceFault
    → List BatchPage → Pages → Type 0
TellsRecord m store owner rec result pages view = MatchResult result (λ its. IsTrue its ↔ IsRecordOf view owner rec)
    (RefusesRecordOf m store pages view owner rec)

pub told_record : {D L : Type 0} (m : Meaning D) (before after : Pool D L) (image : Image) (batch : Changed) (owner : ℕ)
    (rec : RecId) (result : Result Bool SpaceFault) → batch.pages ≡ []
    → TellsRecord m after owner rec result batch.pages (viewed before image batch)
    → TellsRecord m after owner rec result [] (shown before.dirty image)
told_record m before after image batch owner rec result empty given =
    at_empty before image batch empty (TellsRecord m after owner rec result) given

-- ---- after calls that have only read

-- two calls meet no fault where each meets none
pub online_on : {D L : Type 0} (m : Meaning D) (a b c : Pool D L) → StaysOnline m a b → StaysOnline m b c
    → StaysOnline m a c
online_on m a b c first second = (first.0, second.1, second.2 ∙ first.2)

-- the same pages are shown over an image
shown_on : {D L : Type 0} (m : Meaning D) (a b : Pool D L) (image : Image) → KeepsStore m a b
    → shown b.dirty image ≡ shown a.dirty image
shown_on m a b image kept = ap (λ (d : DirtyPages). shown d image) kept.dirty

-- a version that was read is one of the pages before them
pub met_on : {D L : Type 0} (m : Meaning D) (a b c : Pool D L) (image : Image) (holder : ℕ) (l : Link)
    (result : Result Version SpaceFault) → KeepsStore m a b → Tells m a.disk image
    → ((image : Image) → Tells m b.disk image → MatchResult result (Meets (cells_of (shown b.dirty image)) l)
    (RefusesVersion m c [] (shown b.dirty image) holder l))
    → MatchResult result (Meets (cells_of (shown a.dirty image)) l)
    (RefusesVersion m c [] (shown a.dirty image) holder l)
met_on m a b c image holder l result kept tells gives =
    subst (λ (view : Pages). MatchResult result (Meets (cells_of view) l) (RefusesVersion m c [] view holder l))
    (shown_on m a b image kept) (gives image (tells_on m a b image kept tells))

-- what is told of its settling is told of the pages before them
pub settled_on : {D L : Type 0} (m : Meaning D) (a b : Pool D L) (state : ℕ → TxState) (rec : RecId) (settled is : Bool)
    → KeepsStore m a b
    → ((image : Image) → Tells m b.disk image → TellsSettled (shown b.dirty image) state rec settled)
    → settled ≡ is → (image : Image) → Tells m a.disk image → TellsSettled (shown a.dirty image) state rec is
settled_on m a b state rec settled is kept told same image tells =
    subst (λ (view : Pages). TellsSettled view state rec is) (shown_on m a b image kept)
    (subst (λ (s : Bool). TellsSettled (shown b.dirty image) state rec s) same
    (told image (tells_on m a b image kept tells)))

-- ---- whether a record has something settled

pub look_told : (view : Pages) (state : ℕ → TxState) (rec : RecId) (link : Link) (met : Version) (settled : Bool)
    → newest_link view rec ≡ Some link → Meets (cells_of view) link met
    → settled ≡ (is_committed (state link.tx.0) || is_some met.back) → TellsSettled view state rec settled
look_told view state rec link met true leads meets is = record {
  link = link;
  version = met;
  leads = leads;
  meets = meets;
  told = sym is;
}
look_told view state rec link met false leads meets is = inr (record {
  link = link;
  version = met;
  leads = leads;
  meets = meets;
  told = sym is;
})
