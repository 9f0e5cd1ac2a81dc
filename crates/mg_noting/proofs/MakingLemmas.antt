-- Lemmas of a table's directory that is made and kept.
use Rattle.std.proofs.Common.{◌≡◌, ◌≤◌, ◌<◌, ◌∙◌, ◌⊎◌, ◌++◌, ◌∷◌, inl, inr, ℕ, Bool, true, false, List, [], Option, None, Some, Result, Ok, Err, arith, ap, cond, refl, subst, sym}
use Rattle.std.specs.Bool.{OnTrue}
use Rattle.std.specs.Prelude.{IfSome, MatchOption, MatchResult, OnErr}
use Rattle.mg_base.specs.Disk.{Meaning}
use Rattle.mg_base.specs.declared.numbers.RecId.{RecId}
use Rattle.mg_base.specs.declared.transaction.TxState.{TxState}
use Rattle.mg_directory.specs.Candidates.{IsStarted, Kept, MarksFor, Noted, under}
use Rattle.mg_heap.specs.HandedLaws.{reads_same}
use Rattle.mg_heap.specs.Reading.{ReadsData}
use Rattle.mg_heap.specs.Walk.{RefusesWalk}
use Rattle.mg_image.specs.Form.{Pages}
use Rattle.mg_model.specs.declared.table.Table.{Table}
use Rattle.mg_pool.specs.Fault.{TellsFault}
use Rattle.mg_pool.specs.declared.pool.Pool.{Pool}
use Rattle.mg_snap.specs.Live.{State}
use Rattle.mg_space.specs.HandedLaws.{told_as}
use Rattle.mg_space.specs.View.{pool_answer}
use Rattle.mg_space.specs.declared.fault.SpaceFault.{SpaceFault}
use Rattle.mg_space.specs.declared.fault.SpaceFault.TheVariants as faults
use Rattle.mg_seek.specs.Speaking.{RefusesRecords, RefusesTableRows, bad_among, no_walk}
use Rattle.mg_seek.specs.TableRecords.{AreTableRecords}
use Rattle.mg_noting.specs.Building.{IsBuilt}
use Rattle.mg_noting.specs.Making.{Fills, Forgives, IsLeft, KeepsIf, KeepsIt, Makes, RefusesMaking, left_so, made, not_made}

-- ---- what is kept

-- what is kept, by its parts
abbrev kept_of : ℕ → List Noted → List ℕ → Kept
kept_of most dirs too_large = record { most = most; dirs = dirs; too_large = too_large }

kept_same : (old new : Kept) → new.most ≡ old.most → new.dirs ≡ old.dirs → new.too_large ≡ old.too_large
    → new ≡ old
kept_same old new most dirs marks =
    ap (λ (n : ℕ). kept_of n new.dirs new.too_large) most
    ∙ (ap (λ (ds : List Noted). kept_of old.most ds new.too_large) dirs
    ∙ ap (λ (ns : List ℕ). kept_of old.most old.dirs ns) marks)

-- where a directory is begun, there are not too many records, so nothing is marked
pub started_same : (old new : Kept) (first rows : ℕ) (started : Option Noted) → new.dirs ≡ old.dirs
    → MarksFor (old.most < rows) old new first
    → MatchOption started (old.most < rows) (λ dir. IsStarted first rows dir × (rows ≤ old.most))
    → IfSome started (λ dir. IsStarted first rows dir × (new ≡ old))
started_same old new first rows None dirs marks starts = tt
started_same old new first rows (Some dir) dirs marks starts = (starts.0, at marks.marked)
  where
    at : (new.too_large ≡ old.too_large) ⊎ ((new.too_large ≡ old.too_large ++ first ∷ []) × (old.most < rows))
        → new ≡ old
    at (inl same) = kept_same old new marks.most dirs same
    at (inr (with_, many)) = absurd (let few = starts.1 in omega (arith, few, many))

-- ---- a directory is filled

module _ (state : ℕ → TxState) (live : State) (view : Pages) (table : Table) (old new : Kept) where
  pub filled_by : (records : List RecId) (dir : Noted) (all : Bool) (result : Option Noted)
      → result ≡ cond all (Some dir) None → AreTableRecords view table.pointer.0 records
      → dir.first ≡ table.pointer.0 → new ≡ old
      → OnTrue all (IsBuilt state live view table records (under dir))
      → Fills state live view table old new result
  filled_by records dir true result is of_table its same built =
      subst (Fills state live view table old new) (sym is)
      (record { its = its; built = record { records = records; of_table = of_table; built = built }; same = same })
  filled_by records dir false result is of_table its same built =
      subst (Fills state live view table old new) (sym is)
      (record {
        records = records;
        of_table = of_table;
        dirs = ap (λ (k : Kept). k.dirs) same;
        marks = record {
          most = ap (λ (k : Kept). k.most) same;
          marked = inl (ap (λ (k : Kept). k.too_large) same);
        };
      })

  -- it is kept, if it was
  pub kept_made : (mid : Kept) (filled : Option Noted) → Fills state live view table old mid filled
      → KeepsIf mid new filled → Makes state live view table old new
  kept_made mid None left same = left_so (subst (IsLeft view table old) (sym same) left)
  kept_made mid (Some dir) fills keeps = made (record {
    dir = dir;
    its = fills.its;
    built = fills.built;
    kept = subst (λ (k : Kept). KeepsIt k new dir) fills.same keeps;
  })

-- what is said of an error
pub on_err : {T E : Type 0} (P : Type 0) (result : Result T E) → P → OnErr result P
on_err P (Ok x) holds = tt
on_err P (Err fault) holds = holds

-- what is said of one that there is
pub some_of : {T : Type 0} (P : T → Type 0) (o : Option T) (x : T) → o ≡ Some x → IfSome o P → P x
some_of P None x is holds = absurd cc
some_of P (Some y) x is holds = let one : y ≡ x = cc in subst P one holds

-- ---- faults

module _ {D L : Type 0} (m : Meaning D) (store : Pool D L) (view : Pages) (takes : ℕ → Bool) (table : Table) where
  pub walk_refuses : (fault : SpaceFault) → RefusesWalk m store [] view table.pointer.0 fault
      → RefusesTableRows m store [] view takes table fault
  walk_refuses (faults.Full most) refused = refused
  walk_refuses (faults.Damaged it) refused = no_walk it refused
  walk_refuses (faults.Pool fault) refused = tt

  pub records_refuse : (records : List RecId) (fault : SpaceFault)
      → AreTableRecords view table.pointer.0 records
      → RefusesRecords m store [] view takes table records fault
      → RefusesTableRows m store [] view takes table fault
  records_refuse records (faults.Full most) of_table refused = refused
  records_refuse records (faults.Damaged it) of_table refused = bad_among records it of_table refused
  records_refuse records (faults.Pool fault) of_table refused = tt

  -- want of memory makes no directory, and any other fault is told
  pub forgiven_makes : (state : ℕ → TxState) (live : State) (old new : Kept) (fault : SpaceFault)
      (result : Result (Unit {0}) SpaceFault) → Forgives fault result → new ≡ old
      → RefusesTableRows m store [] view takes table fault
      → MatchResult result (λ _. Makes state live view table old new) (RefusesMaking m store view takes table)
  forgiven_makes state live old new fault (Ok x) forgives same refused = not_made same
  forgiven_makes state live old new fault (Err told) forgives same refused =
      subst (RefusesMaking m store view takes table) (sym forgives.0) (refused, forgives.1)

pub forgiven_told : {D L : Type 0} (T : Type 0) (m : Meaning D) (a b : Pool D L) (fault : SpaceFault)
    (result : Result (Unit {0}) SpaceFault) → Forgives fault result
    → TellsFault m a b (pool_answer {T = T} (Err fault)) → TellsFault m a b (pool_answer result)
forgiven_told T m a b fault (Ok x) forgives tells =
    subst (λ (f : SpaceFault). TellsFault m a b (pool_answer {T = T} (Err f))) forgives tells
forgiven_told T m a b fault (Err told) forgives tells =
    told_as {T = Unit {0}} T m a b (Err told) fault forgives.0 tells

pub forgiven_reads : (T : Type 0) (fault : SpaceFault) (result : Result (Unit {0}) SpaceFault)
    → Forgives fault result → ReadsData {T = T} (Err fault) → ReadsData result
forgiven_reads T fault (Ok x) forgives reads = tt
forgiven_reads T fault (Err told) forgives reads = reads_same {T = Unit {0}} T (Err told) fault refl forgives.0 reads
