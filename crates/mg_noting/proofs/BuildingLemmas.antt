-- Lemmas of a directory that is built record by record.
use Rattle.std.proofs.Common.{◌≡◌, ◌∙◌, ℕ, Bool, true, false, List, [], ◌∷◌, arith, length, Option, None, Some, Result, Ok, Err, inl, inr, refl, subst, sym}
use Rattle.std.specs.Bool.{OnTrue}
use Rattle.std.specs.Prelude.{IsErr, IsErrAnd, MatchResult, unwrap_or}
use Rattle.mg_base.specs.Disk.{Meaning}
use Rattle.mg_base.specs.Image.{Image}
use Rattle.mg_base.specs.declared.numbers.RecId.{RecId}
use Rattle.mg_base.specs.declared.transaction.TxState.{TxState}
use Rattle.mg_directory.specs.CandidateLaws.{HasAllOf}
use Rattle.mg_directory.specs.Candidates.{ByKey, IsCandidate}
use Rattle.mg_image.specs.Form.{Pages}
use Rattle.mg_model.specs.declared.table.Table.{Table}
use Rattle.mg_pool.specs.Batch.{Changed, content_in}
use Rattle.mg_pool.specs.Dirty.{DirtyPages}
use Rattle.mg_pool.specs.Pool.{shown}
use Rattle.mg_pool.specs.declared.batch.BatchPage.{BatchPage}
use Rattle.mg_pool.specs.declared.pool.Pool.{Pool}
use Rattle.mg_sortkey.specs.KeyBytes.{key_bytes}
use Rattle.mg_snap.specs.Live.{State}
use Rattle.mg_space.specs.View.{KeepsStore, Tells, viewed}
use Rattle.mg_space.specs.ViewLaws.{tells_on}
use Rattle.mg_space.specs.declared.fault.SpaceFault.{SpaceFault}
use Rattle.mg_space.specs.declared.fault.SpaceFault.TheVariants as faults
use Rattle.mg_value.specs.declared.value.Value.{Value}
use Rattle.mg_seek.specs.Refusals.{RefusesRecord}
use Rattle.mg_seek.specs.Speaking.{RefusesRecords}
use Rattle.mg_seek.specs.TableRecords.{IsAmong}
use Rattle.mg_seek.specs.Views.{IsKeyOf}
use Rattle.mg_noting.specs.Building.{IsBuilt, IsUnderItsKey}

-- a fault that a call met is handed on
pub handed_on : {T : Type 0} (result : Result T SpaceFault) (fault : SpaceFault)
    (P : T → Type 0) (Q : SpaceFault → Type 0) → IsErr result
    → IsErrAnd result (λ given. given ≡ fault) → Q fault → MatchResult result P Q
handed_on (Ok x) fault P Q err is holds = absurd cc
handed_on (Err e) fault P Q err is holds = subst Q (sym is) holds

-- one who fills a fresh batch sees what the cache shows
pub through_empty : {D L T : Type 0} (store : Pool D L) (image : Image) (batch : Changed)
    (result : Result T SpaceFault) (P : Pages → T → Type 0)
    (Q : List BatchPage → Pages → SpaceFault → Type 0) → batch.pages ≡ []
    → MatchResult result (P (viewed store image batch)) (Q batch.pages (viewed store image batch))
    → MatchResult result (P (shown store.dirty image)) (Q [] (shown store.dirty image))
through_empty store image batch result P Q empty given =
    let R : List BatchPage → Type 0 = λ pages. MatchResult result
    (P (λ n. unwrap_or (content_in pages n) (shown store.dirty image n)))
    (Q pages (λ n. unwrap_or (content_in pages n) (shown store.dirty image n))) in
    subst R empty given

-- what is told where a test holds
pub on_true : {P : Type 0} (b : Bool) → b ≡ true → OnTrue b P → P
on_true true is holds = holds
on_true false is holds = absurd cc

-- what is seen once pages were read was seen before
pub as_before : {D L : Type 0} (m : Meaning D) (a b : Pool D L) (image : Image) (P : Pages → Type 0)
    → KeepsStore m a b → Tells m a.disk image → (Tells m b.disk image → P (shown b.dirty image))
    → P (shown a.dirty image)
as_before m a b image P kept tells later = subst (λ (d : DirtyPages). P (shown d image)) kept.dirty
    (later (tells_on m a b image kept tells))

-- ---- candidates that stay

pub all_stay : (dir : ByKey) → HasAllOf dir dir
all_stay dir = λ bytes rec there. there

pub stay_on : (a b c : ByKey) → HasAllOf a b → HasAllOf b c → HasAllOf a c
stay_on a b c first second = λ bytes rec there. second bytes rec (first bytes rec there)

-- what is none is not some
pub no_some : {T : Type 0} (o : Option T) → o ≡ None → (x : T) → o ≡ Some x → ⊥
no_some o none x some = let both : None ≡ Some x = sym none ∙ some in absurd cc

-- no record is left
pub none_left : (recs : List RecId) → 0 ≡ length recs → recs ≡ []
none_left [] is = refl
none_left (x ∷ recs) is = absurd (omega (arith, is))

module _ (state : ℕ → TxState) (live : State) (view : Pages) (table : Table) where
  -- a slot that is none of a record has no key
  pub without_key : (dir : ByKey) (rec : RecId) (key : Option Value)
      → ((k : Value) → key ≡ Some k → ⊥) → IsKeyOf state live view table rec key
      → IsUnderItsKey state live view table dir rec
  without_key dir rec key none is = record { key = key; read = is; has = λ k some. absurd (none k some) }

  pub under_key : (dir : ByKey) (rec : RecId) (key : Option Value) (k : Value) (noted : Bool)
      → key ≡ Some k → IsKeyOf state live view table rec key
      → OnTrue noted (IsCandidate (dir (key_bytes k)) rec)
      → OnTrue noted (IsUnderItsKey state live view table dir rec)
  under_key dir rec key k false some is notes = tt
  under_key dir rec key k true some is notes = record {
    key = key;
    read = is;
    has = λ other other_is. subst (λ (v : Value). IsCandidate (dir (key_bytes v)) rec)
        (same other (sym some ∙ other_is)) notes;
  }
    where
      same : (other : Value) → Some k ≡ Some other → k ≡ other
      same other is_ = cc

  -- in a directory that has more it is there still
  pub under_on : (old new : ByKey) (rec : RecId) → HasAllOf old new
      → IsUnderItsKey state live view table old rec → IsUnderItsKey state live view table new rec
  under_on old new rec all_ is = record {
    key = is.key;
    read = is.read;
    has = λ k some. all_ (key_bytes k) rec (is.has k some);
  }

  -- one record more is passed
  pub built_more : (dir : ByKey) (rec : RecId) (recs : List RecId)
      → IsUnderItsKey state live view table dir rec → IsBuilt state live view table recs dir
      → IsBuilt state live view table (rec ∷ recs) dir
  built_more dir rec recs first others other (inl same) =
      subst (IsUnderItsKey state live view table dir) same first
  built_more dir rec recs first others other (inr among) = others other among

  module _ {D L : Type 0} (m : Meaning D) (store : Pool D L) (pages : List BatchPage)
      (takes : ℕ → Bool) where
    pub one_refuses : (records : List RecId) (rec : RecId) (fault : SpaceFault) → IsAmong records rec
        → RefusesRecord m store pages view takes table rec fault
        → RefusesRecords m store pages view takes table records fault
    one_refuses records rec (faults.Full most) among refused = refused
    one_refuses records rec (faults.Damaged it) among refused =
        record { rec = rec; among = among; damaged = refused }
    one_refuses records rec (faults.Pool fault) among refused = tt
