-- What the disk refuses comes only where its count of faults rose, and what is refused otherwise only where it stands.
use Rattle.std.specs.Prelude.{false, is_some, length, unwrap_or}
use Rattle.std.proofs.Common.{◌≡◌, ◌⊎◌, inl, inr, ◌≤◌, ℕ, List, Option, None, Some, Ok, Err, refl, sym, ap, ◌∙◌, subst, arith}
use Rattle.std.proofs.Math.Path.{fun_ext}
use Rattle.mg_base.specs.Disk.{FailsNoWrite, Meaning, Rose}
use Rattle.mg_faults.specs.Faults.{each_fault, failed_writes}
use Rattle.mg_base.specs.Image.{Image, page_at}
use Rattle.mg_base.specs.declared.damage.Damaged.{Damaged}
use Rattle.mg_core.specs.Opening.{FailsToRead, IsOpenRefusal, RefusesOpen, unprepared, unread}
use Rattle.mg_core.specs.RefusingLaws.{full_is}
use Rattle.mg_core.specs.declared.parts.Core.{Core}
use Rattle.mg_database.specs.Preparing.{BecomesReady, FailsToPrepare, IsPrepared, made, no_memory, there, unasked, unmade}
use Rattle.mg_database.specs.Loading.{IsLoadDamage}
use Rattle.mg_database.specs.declared.fault.OpenFault.{OpenFault}
use Rattle.mg_database.specs.declared.fault.OpenFault.TheVariants.{NotADatabase, Space}
use Rattle.mg_engine_meaning_laws.specs.Closings.{RefusesClose}
use Rattle.mg_format.specs.Format.{IsUnmadeImage}
use Rattle.mg_header.specs.HeaderPage.{reading}
use Rattle.mg_header.specs.declared.header.HeadFault.TheVariants as heads
use Rattle.mg_engine_meaning_laws.specs.Openings.{IsNoJudgement}
use Rattle.mg_engine_meaning_laws.specs.Meaning.{Places, means_with_room}
use Rattle.mg_image.specs.Form.{Pages}
use Rattle.mg_model.specs.declared.refusal.Refusal.{Refusal}
use Rattle.mg_model.specs.declared.refusal.Refusal.TheVariants as refusals
use Rattle.mg_pool.specs.Dirty.{DirtyPages, content_of, is_dirty}
use Rattle.mg_pool.specs.Fault.{StaysOnline}
use Rattle.mg_pool.specs.Pool.{shown}
use Rattle.mg_pool.specs.declared.pool.Pool.{Pool}
use Rattle.mg_pool.specs.declared.fault.PoolFault.TheVariants as faults
use Rattle.mg_space.specs.View.{Tells}
use Rattle.mg_space.specs.declared.fault.SpaceFault.TheVariants as space
use Rattle.mg_space.specs.declared.links.FireLinks.{FireLinks}
use Rattle.mg_sessions.specs.Accounts.{Accounts}
use Rattle.mg_run_ends.specs.Ends.{FailsWith}
use Rattle.mg_runs.specs.FileDamage.{IsFileDamage}
use Rattle.mg_runs.specs.FileDamageLaws.{file_damage}
use Rattle.mg_runs.specs.Headline.{IsOpeningFault}
use Rattle.mg_runs.specs.OtherFiles.{HoldsNoDatabase, IsOpeningRefusal}
use Rattle.mg_runs.specs.Laws.{ClosingsFail, LinesFail, OpeningsFail}

-- a count that has risen has risen since any earlier moment
rose_since : (a b c : ℕ) → a ≤ b → Rose b c → Rose a c
rose_since a b c before (inl below) = inl (omega (arith, before, below))
rose_since a b c before (inr most) = inr most

no_count : (x : Option ℕ) (count : ℕ) → x ≡ None → x ≡ Some count → ⊥
no_count x count none some = let both : None ≡ Some count = sym none ∙ some in absurd cc

-- ---- the opening

clean_shown : (dirty : DirtyPages) (image : Image) (p : ℕ) → is_dirty dirty p ≡ false
    → shown dirty image p ≡ page_at dirty.size image p
clean_shown dirty image p clean = at (content_of dirty p) clean
  where
    at : (x : Option (List ℕ)) → is_some x ≡ false
        → unwrap_or x (page_at dirty.size image p) ≡ page_at dirty.size image p
    at None none = refl
    at (Some bytes) none = absurd cc

module _ {D : Type 0} (m : Meaning D) (disk new : D) (limit : ℕ) (refusal : Refusal) where
  unprepared_fails : (fault : OpenFault) → FailsToPrepare m disk new limit fault → IsOpenRefusal fault refusal
      → FailsWith m disk new refusal
  unprepared_fails _ (unasked count keeps same rose) is = subst (FailsWith m disk new) (sym is) rose
  unprepared_fails _ (no_memory keeps same steady) is = subst (FailsWith m disk new) (sym is) steady
  unprepared_fails _ (unmade count fails) is = subst (FailsWith m disk new) (sym is) (fails.rose, fails.failed_writes)

  -- a read failed, after the disk was prepared
  read_rose : (count : ℕ) → FailsToRead m disk new limit (Space (space.Pool (faults.DiskRead count)))
      → Rose (m.faults disk) (m.faults new) × FailsNoWrite m disk new
  read_rose count fails = (
    subst (λ (d : D). Rose (m.faults disk) (m.faults d)) (sym fails.is_disk)
        (subst (λ (n : ℕ). Rose n (m.faults fails.after.disk)) fails.prepared.steady fails.told.2.2),
    ap m.failed_writes fails.is_disk ∙ (fails.told.3 ∙ fails.prepared.none_failed),
  )

  -- no call of the disk failed
  read_steady : (fault : OpenFault) (fails : FailsToRead m disk new limit fault)
      → StaysOnline m fails.before fails.after → m.faults new ≡ m.faults disk
  read_steady fault fails online = ap m.faults fails.is_disk ∙ (ap (λ (counts : ℕ × ℕ × ℕ). counts.1) online.2
      ∙ fails.prepared.steady)

  unread_fails : (fault : OpenFault) → FailsToRead m disk new limit fault → IsOpenRefusal fault refusal
      → FailsWith m disk new refusal
  unread_fails (NotADatabase field found) fails is = subst (FailsWith m disk new) (sym is)
      (read_steady (NotADatabase field found) fails fails.told)
  unread_fails (Space (space.Full most)) fails is = subst (FailsWith m disk new) (sym (full_is refusal is).1)
      (read_steady (Space (space.Full most)) fails fails.told)
  unread_fails (Space (space.Damaged damage)) fails is = subst (FailsWith m disk new) (sym is)
      (read_steady (Space (space.Damaged damage)) fails fails.told)
  unread_fails (Space (space.Pool (faults.DiskRead count))) fails is = subst (FailsWith m disk new) (sym is)
      (read_rose count fails)
  unread_fails (Space (space.Pool (faults.DiskWrite count))) fails is = absurd fails.own
  unread_fails (Space (space.Pool (faults.Offline count))) fails is =
      absurd (no_count fails.before.offline count fails.prepared.online fails.told.0)
  unread_fails (Space (space.Pool (faults.Absent pages))) fails is = subst (FailsWith m disk new) (sym is)
      (read_steady (Space (space.Pool (faults.Absent pages))) fails fails.told)
  unread_fails (Space (space.Pool faults.Memory)) fails is = subst (FailsWith m disk new) (sym is)
      (read_steady (Space (space.Pool faults.Memory)) fails fails.told)

  opening_fails : RefusesOpen m disk new limit refusal → FailsWith m disk new refusal
  opening_fails (unprepared fault is fails) = unprepared_fails fault fails is
  opening_fails (unread fault is fails) = unread_fails fault fails is

  -- ---- an opening is refused by a fault of the disk, for want of memory, or by a judgement of what the disk holds

  unprepared_fault : (fault : OpenFault) → FailsToPrepare m disk new limit fault → IsOpenRefusal fault refusal
      → IsOpeningFault refusal
  unprepared_fault _ (unasked count keeps same rose) is = subst IsOpeningFault (sym is) tt
  unprepared_fault _ (no_memory keeps same steady) is = subst IsOpeningFault (sym is) tt
  unprepared_fault _ (unmade count fails) is = subst IsOpeningFault (sym is) tt

  -- a disk that tells its image tells one once it is prepared
  prepared_tells : (image : Image) → Tells m disk image → (now : D) (size : ℕ) → BecomesReady m disk now size
      → (other : Image) × Tells m now other
  prepared_tells image tells now size (there keeps none) = (
    image,
    record {
      told = keeps.tells ∙ tells.told;
      held = keeps.held ∙ tells.held;
    },
  )
  prepared_tells image tells now size (made was done) = ((done image tells).made.image, (done image tells).made.tells)

  unread_fault : (image : Image) → Tells m disk image → (fault : OpenFault) → FailsToRead m disk new limit fault
      → IsOpenRefusal fault refusal → IsNoJudgement refusal → IsOpeningFault refusal
  unread_fault image tells (NotADatabase field found) fails is fair = absurd (subst IsNoJudgement is fair)
  unread_fault image tells (Space (space.Full most)) fails is fair =
      let before = prepared_tells image tells fails.before.disk fails.before.geometry.size fails.prepared.disk_is in
      absurd (fails.why before.0 before.1)
  unread_fault image tells (Space (space.Damaged damage)) fails is fair = absurd (subst IsNoJudgement is fair)
  unread_fault image tells (Space (space.Pool (faults.DiskRead count))) fails is fair = subst IsOpeningFault (sym is) tt
  unread_fault image tells (Space (space.Pool (faults.DiskWrite count))) fails is fair = absurd fails.own
  unread_fault image tells (Space (space.Pool (faults.Offline count))) fails is fair =
      absurd (no_count fails.before.offline count fails.prepared.online fails.told.0)
  unread_fault image tells (Space (space.Pool (faults.Absent pages))) fails is fair =
      absurd (subst IsNoJudgement is fair)
  unread_fault image tells (Space (space.Pool faults.Memory)) fails is fair = subst IsOpeningFault (sym is) tt

  pub opening_fault : (image : Image) → Tells m disk image → RefusesOpen m disk new limit refusal
      → IsNoJudgement refusal → IsOpeningFault refusal
  opening_fault image tells (unprepared fault is fails) fair = unprepared_fault fault fails is
  opening_fault image tells (unread fault is fails) fair = unread_fault image tells fault fails is fair

  -- ---- a file that holds no database

  module _ (size : ℕ) (image : Image) (other : HoldsNoDatabase m disk size image) where
    module _ (before : Pool D FireLinks) (prepared : IsPrepared m disk limit before) where
      same_size : before.geometry.size ≡ size
      same_size = let both : Some before.geometry.size ≡ Some size =
          sym prepared.pool.size ∙ prepared.same.size size other.sized in cc

      still_tells : (size' : ℕ) → size' ≡ size → BecomesReady m disk before.disk size' → Tells m before.disk image
      still_tells size' same (there keeps none) = record {
        told = keeps.tells ∙ other.tells.told;
        held = keeps.held ∙ other.tells.held;
      }
      still_tells size' same (made was done) = absurd (other.unmakeable
          (subst (λ (n : ℕ). IsUnmadeImage n image) same (was image other.tells.held)))

      -- no page is dirty: the cache shows the image's pages
      shows : (p : ℕ) → shown before.dirty image p ≡ page_at size image p
      shows p = clean_shown before.dirty image p (prepared.clean p)
          ∙ ap (λ (n : ℕ). page_at n image p) (prepared.pool.page_size ∙ same_size)

    -- the damage is one of the image's pages
    damage_told : (before after : Pool D FireLinks) → new ≡ after.disk → (prepared : IsPrepared m disk limit before)
        → (it : Damaged) → IsLoadDamage m after before.geometry (shown before.dirty image) it
        → IsFileDamage (m.count new) size (page_at size image) it
    damage_told before after is_disk prepared it wrong =
        subst (λ (d : D). IsFileDamage (m.count d) size (page_at size image) it) (sym is_disk)
        (subst (λ (s : ℕ). IsFileDamage (m.count after.disk) s (page_at size image) it) (same_size before prepared)
        (subst (λ (ps : Pages). IsFileDamage (m.count after.disk) before.geometry.size ps it)
        (fun_ext (shows before prepared)) (file_damage m after before.geometry (shown before.dirty image) it wrong)))

    unread_file : (fault : OpenFault) → FailsToRead m disk new limit fault → IsOpenRefusal fault refusal
        → IsOpeningRefusal (m.count new) size image refusal
    unread_file (NotADatabase field found) fails is = subst (IsOpeningRefusal (m.count new) size image) (sym is)
        (subst (λ (bytes : List ℕ). reading bytes size ≡ Err (heads.NotADatabase field found))
        (shows fails.before fails.prepared 0)
        (subst (λ (n : ℕ). reading (shown fails.before.dirty image 0) n ≡ Err (heads.NotADatabase field found))
        (same_size fails.before fails.prepared)
        (fails.why image (still_tells fails.before fails.prepared fails.before.geometry.size
        (same_size fails.before fails.prepared) fails.prepared.disk_is))))
    unread_file (Space (space.Full most)) fails is =
        absurd (fails.why image (still_tells fails.before fails.prepared fails.before.geometry.size
        (same_size fails.before fails.prepared) fails.prepared.disk_is))
    unread_file (Space (space.Damaged damage)) fails is = subst (IsOpeningRefusal (m.count new) size image) (sym is)
        (damage_told fails.before fails.after fails.is_disk fails.prepared damage
        (fails.why image (still_tells fails.before fails.prepared fails.before.geometry.size
        (same_size fails.before fails.prepared) fails.prepared.disk_is)))
    unread_file (Space (space.Pool (faults.DiskRead count))) fails is = subst (IsOpeningRefusal (m.count new) size image) (sym is) tt
    unread_file (Space (space.Pool (faults.DiskWrite count))) fails is = absurd fails.own
    unread_file (Space (space.Pool (faults.Offline count))) fails is =
        absurd (no_count fails.before.offline count fails.prepared.online fails.told.0)
    unread_file (Space (space.Pool (faults.Absent pages))) fails is = absurd fails.own
    unread_file (Space (space.Pool faults.Memory)) fails is = subst (IsOpeningRefusal (m.count new) size image) (sym is) tt

    unprepared_file : (fault : OpenFault) → FailsToPrepare m disk new limit fault → IsOpenRefusal fault refusal
        → IsOpeningRefusal (m.count new) size image refusal
    unprepared_file _ (unasked count keeps same rose) is = subst (IsOpeningRefusal (m.count new) size image) (sym is) tt
    unprepared_file _ (no_memory keeps same steady) is = subst (IsOpeningRefusal (m.count new) size image) (sym is) tt
    unprepared_file _ (unmade count fails) is = subst (IsOpeningRefusal (m.count new) size image) (sym is) tt

    pub refusal_of_file : RefusesOpen m disk new limit refusal → IsOpeningRefusal (m.count new) size image refusal
    refusal_of_file (unprepared fault is fails) = unprepared_file fault fails is
    refusal_of_file (unread fault is fails) = unread_file fault fails is

pub openings_fail : {D : Type 0} (m : Meaning D) → OpeningsFail m
openings_fail m disk new limit refusal refused = opening_fails m disk new limit refusal refused.cause

-- ---- the lines

-- a page write has failed: both counts of a disk have risen
abbrev BothRose : {D : Type 0} → Meaning D → D → D → Type 0
BothRose m old new = Rose (m.faults old) (m.faults new) × Rose (m.failed_writes old) (m.failed_writes new)

-- and so since an earlier moment up to which no call of it has failed
both_since : {D : Type 0} (m : Meaning D) (disk old new : D) → m.faults old ≡ m.faults disk → FailsNoWrite m disk old
    → BothRose m old new → BothRose m disk new
both_since m disk old new steady none rose = (
  subst (λ (n : ℕ). Rose n (m.faults new)) steady rose.0,
  subst (λ (n : ℕ). Rose n (m.failed_writes new)) none rose.1,
)

-- what is blamed on the disk has risen since the start; else the count stands
blamed : {D P : Type 0} (m : Meaning D) (places : Places P) (disk : D) (core now : Core D) (refusal : Refusal)
    → m.faults core.store.disk ≡ m.faults disk → FailsNoWrite m disk core.store.disk → core.store.offline ≡ None
    → Accounts (means_with_room m places) core now (Some refusal) → FailsWith m disk now.store.disk refusal
blamed m places disk core now (refusals.DiskRead count) steady none online accounts = (
  subst (λ (n : ℕ). Rose n (m.faults now.store.disk)) steady accounts.cause,
  accounts.steady failed_writes refl ∙ none,
)
blamed m places disk core now (refusals.DiskWrite count) steady none online accounts =
    both_since m disk core.store.disk now.store.disk steady none accounts.cause
blamed m places disk core now (refusals.Offline count) steady none online accounts = at accounts.cause
  where
    at : (core.store.offline ≡ Some count) ⊎ BothRose m core.store.disk now.store.disk → BothRose m disk now.store.disk
    at (inl down) = absurd (no_count core.store.offline count online down)
    at (inr rose) = both_since m disk core.store.disk now.store.disk steady none rose
blamed m places disk core now refusal steady none online accounts = accounts.steady each_fault refl ∙ steady

pub lines_fail : {D P : Type 0} (m : Meaning D) (places : Places P) → LinesFail m places
lines_fail m places disk limit core now None opened accounts = accounts.steady each_fault refl ∙ opened.steady
lines_fail m places disk limit core now (Some refusal) opened accounts =
    blamed m places disk core now refusal opened.steady opened.none_failed opened.online accounts

-- ---- the end

module _ {D : Type 0} (m : Meaning D) (disk new : D) (core now : Core D) (steady : m.faults core.store.disk ≡ m.faults disk)
    (none : FailsNoWrite m disk core.store.disk) (online : core.store.offline ≡ None)
    (later : (m.faults core.store.disk ≤ m.faults now.store.disk)
    × (m.failed_writes core.store.disk ≤ m.failed_writes now.store.disk))
    (down : (now.store.offline ≡ core.store.offline) ⊎ BothRose m core.store.disk now.store.disk) where
  went_down : (count : ℕ) → now.store.offline ≡ Some count → BothRose m disk now.store.disk
  went_down count is = at down
    where
      at : (now.store.offline ≡ core.store.offline) ⊎ BothRose m core.store.disk now.store.disk
          → BothRose m disk now.store.disk
      at (inl same) = absurd (no_count core.store.offline count online (sym same ∙ is))
      at (inr rose) = both_since m disk core.store.disk now.store.disk steady none rose

  closing_fails : (refusal : Refusal) → RefusesClose m now new refusal → FailsWith m disk new refusal
  closing_fails (refusals.Offline count) why = subst (BothRose m disk) (sym why.1) (went_down count why.0)
  closing_fails (refusals.DiskWrite count) why = (
    rose_since (m.faults disk) (m.faults now.store.disk) (m.faults new)
        (let first = later.0 in omega (arith, steady, first)) why.1,
    rose_since (m.failed_writes disk) (m.failed_writes now.store.disk) (m.failed_writes new)
        (let second = later.1 in omega (arith, none, second)) why.2,
  )
  closing_fails (refusals.DiskRead count) why = absurd why
  closing_fails (refusals.UpdateConflict by) why = absurd why
  closing_fails (refusals.LockConflict by) why = absurd why
  closing_fails (refusals.Waits on) why = absurd why
  closing_fails (refusals.Deadlock by) why = absurd why
  closing_fails (refusals.InLimbo by) why = absurd why
  closing_fails refusals.DuplicateKey why = absurd why
  closing_fails refusals.NoRow why = absurd why
  closing_fails refusals.ReadOnly why = absurd why
  closing_fails refusals.NoTransaction why = absurd why
  closing_fails (refusals.NotActive state) why = absurd why
  closing_fails refusals.NoTable why = absurd why
  closing_fails refusals.TableExists why = absurd why
  closing_fails (refusals.RowTooLong len limit) why = absurd why
  closing_fails (refusals.DatabaseFull limit) why = absurd why
  closing_fails refusals.TransactionLimit why = absurd why
  closing_fails (refusals.NotADatabase field found) why = absurd why
  closing_fails (refusals.Damaged page field found wanted) why = absurd why
  closing_fails refusals.Memory why = absurd why

pub closings_fail : {D P : Type 0} (m : Meaning D) (places : Places P) → ClosingsFail m places
closings_fail m places disk new limit core now (Ok x) opened accounts closes =
    closes.ended.1 ∙ (accounts.steady each_fault refl ∙ opened.steady)
closings_fail m places disk new limit core now (Err refusal) opened accounts closes =
    closing_fails m disk new core now opened.steady opened.none_failed opened.online accounts.faults accounts.down refusal closes.ended
