-- Why an opening is refused, and what it leaves of the disk.
use Rattle.std.proofs.Common.{◌≡◌, ◌≤◌, ◌⊎◌, inl, inr, arith, ℕ, false, length, Some, Err, refl, sym, ap, ◌∙◌, subst}
use Rattle.std.proofs.Math.Path.{fun_ext}
use Rattle.mg_base.specs.Disk.{Meaning}
use Rattle.mg_base.specs.Image.{Image, page_at}
use Rattle.mg_base.specs.Moments.{LeavesOnly}
use Rattle.mg_base.specs.declared.damage.Damaged.{Damaged}
use Rattle.mg_base.specs.declared.geometry.Geometry.{Geometry}
use Rattle.mg_core.specs.Opening.{FailsToRead, IsOpenRefusal, RefusesOpen, unprepared, unread}
use Rattle.mg_core.specs.RefusingLaws.{full_is}
use Rattle.mg_core.specs.Refusing.{IsRefusal}
use Rattle.mg_database.specs.Loading.{OpensAlone, RefusesPages}
use Rattle.mg_database.specs.Preparing.{FailsToPrepare, no_memory, unasked, unmade}
use Rattle.mg_database.specs.declared.fault.OpenFault.{OpenFault}
use Rattle.mg_database.specs.declared.fault.OpenFault.TheVariants.{NotADatabase, Space}
use Rattle.mg_format.specs.Format.{HasNew, IsMade, IsUnmadeImage, LeavesNew}
use Rattle.mg_header.specs.declared.header.HeadFault.TheVariants as heads
use Rattle.mg_heap.specs.Stands.{WalksMeetNoDamage}
use Rattle.mg_image.specs.Form.{Pages}
use Rattle.mg_lasting_laws.specs.PoolLaws.{needs_are}
use Rattle.mg_model.specs.declared.refusal.Refusal.{Refusal}
use Rattle.mg_pool.specs.Dirty.{DirtyPages}
use Rattle.mg_pool.specs.Pool.{KeepsContent, shown}
use Rattle.mg_pool.specs.declared.fault.PoolFault.TheVariants as pool_faults
use Rattle.mg_space.specs.View.{Tells}
use Rattle.mg_space.specs.ViewLaws.{CountsNow, content_on}
use Rattle.mg_space.specs.declared.fault.SpaceFault.{SpaceFault}
use Rattle.mg_space.specs.declared.fault.SpaceFault.TheVariants as space
use Rattle.mg_survey.specs.Survey.{IsSameDisk, limit_of}
use Rattle.mg_new_database_laws.specs.Readable.{AreReadable, NewAreReadable}
use Rattle.mg_engine_meaning_laws.specs.OpenedLaws.{content_leaves, new_still, read_leaves, ready_made, ready_same, ready_unwritten}
use Rattle.mg_engine_meaning_laws.specs.Openings.{IsNoJudgement, IsSoundImage, RefusesOpening}
use Rattle.mg_engine_meaning_laws.specs.RefusalLaws.{AreCounted, HasCatalog, is_database, new_has_catalog, not_damaged, sound_has_catalog, sound_readable}

-- a fault of the cache is no judgement on the disk
pool_free : (fault : SpaceFault) (refusal : Refusal) → OpensAlone {T = Unit {0}} (Err (Space fault))
    → IsRefusal fault refusal → ((d : Damaged) → fault ≡ space.Damaged d → ⊥) → IsNoJudgement refusal
pool_free (space.Full limit) refusal own is not_ = subst IsNoJudgement (sym (full_is refusal is).1) tt
pool_free (space.Damaged d) refusal own is not_ = absurd (not_ d refl)
pool_free (space.Pool (pool_faults.DiskRead n)) refusal own is not_ = subst IsNoJudgement (sym is) tt
pool_free (space.Pool (pool_faults.DiskWrite n)) refusal own is not_ = subst IsNoJudgement (sym is) tt
pool_free (space.Pool (pool_faults.Offline n)) refusal own is not_ = subst IsNoJudgement (sym is) tt
pool_free (space.Pool (pool_faults.Absent n)) refusal own is not_ = absurd own
pool_free (space.Pool pool_faults.Memory) refusal own is not_ = subst IsNoJudgement (sym is) tt

module _ {D : Type 0} (m : Meaning D) (counts : CountsNow m) (counted : AreCounted m) (walks : WalksMeetNoDamage m)
    (new_reads : NewAreReadable) (disk new : D) (limit : ℕ) (refusal : Refusal) where
  -- where it holds what it held, it has no more pages than it had
  still_within : (image now : Image) → m.held disk ≡ Some image → m.held new ≡ Some now → KeepsContent m disk new
      → length now ≤ limit_of limit (length image)
  still_within image now held then_ keeps =
      let both : Some now ≡ Some image = sym then_ ∙ (keeps.held ∙ held) in
      let same : now ≡ image = cc in
      let as_long : length now ≡ length image = ap (λ (i : Image). length i) same in
      omega (arith, as_long)

  -- ---- it was not prepared

  unprepared_free : (fault : OpenFault) → FailsToPrepare m disk new limit fault → IsOpenRefusal fault refusal
      → IsNoJudgement refusal
  unprepared_free _ (unasked count keeps same rose) is = subst IsNoJudgement (sym is) tt
  unprepared_free _ (no_memory keeps same steady) is = subst IsNoJudgement (sym is) tt
  unprepared_free _ (unmade count fails) is = subst IsNoJudgement (sym is) tt

  unprepared_kept : (image : Image) → m.held disk ≡ Some image
      → ((size : ℕ) → m.size new ≡ Some size → IsUnmadeImage size image → ⊥) → (fault : OpenFault) → FailsToPrepare m disk new limit fault → KeepsContent m disk new
  unprepared_kept image held not_ _ (unasked count keeps same rose) = keeps
  unprepared_kept image held not_ _ (no_memory keeps same steady) = keeps
  unprepared_kept image held not_ _ (unmade count fails) = absurd (not_ fails.size fails.sized
      (fails.unmade image held))

  unprepared_leaves : (size : ℕ) → m.size new ≡ Some size → (image : Image) → Tells m disk image
      → (fault : OpenFault) → FailsToPrepare m disk new limit fault → LeavesOnly m disk new (LeavesNew m disk size)
  unprepared_leaves size sized image tells _ (unasked count keeps same rose) =
      content_leaves m counts (LeavesNew m disk size) disk new tells.told keeps (λ c may. inl may)
  unprepared_leaves size sized image tells _ (no_memory keeps same steady) =
      content_leaves m counts (LeavesNew m disk size) disk new tells.told keeps (λ c may. inl may)
  unprepared_leaves size sized image tells _ (unmade count fails) =
      let both : Some fails.size ≡ Some size = sym fails.sized ∙ sized in
      let same : fails.size ≡ size = cc in
      subst (λ (n : ℕ). LeavesOnly m disk new (LeavesNew m disk n)) same (fails.leaves image tells).crash

  unprepared_same : (fault : OpenFault) → FailsToPrepare m disk new limit fault → IsSameDisk m disk new
  unprepared_same _ (unasked count keeps same rose) = same
  unprepared_same _ (no_memory keeps same steady) = same
  unprepared_same _ (unmade count fails) = fails.same

  unprepared_within : (image now : Image) → m.held disk ≡ Some image → m.held new ≡ Some now → (fault : OpenFault)
      → FailsToPrepare m disk new limit fault → length now ≤ limit_of limit (length image)
  unprepared_within image now held then_ _ (unasked count keeps same rose) = still_within image now held then_ keeps
  unprepared_within image now held then_ _ (no_memory keeps same steady) = still_within image now held then_ keeps
  unprepared_within image now held then_ _ (unmade count fails) =
      let has = fails.within image held in
      let same : length now ≡ has.0 = counted new now has.0 then_ has.1 in
      let most = has.2 in omega (arith, same, most)

  -- ---- its pages were not read

  module _ (fault : OpenFault) (fails : FailsToRead m disk new limit fault) where
    abbrev its_size : ℕ
    its_size = fails.before.geometry.size

    its_sized : m.size new ≡ Some its_size
    its_sized = ap m.size fails.is_disk
        ∙ (fails.keeps.pool.size ∙ ap (λ (g : Geometry). Some g.size) fails.keeps.geometry)

    read_kept : (image : Image) → m.held disk ≡ Some image
        → ((size : ℕ) → m.size new ≡ Some size → IsUnmadeImage size image → ⊥) → KeepsContent m disk new
    read_kept image held not_ = subst (KeepsContent m disk) (sym fails.is_disk)
        (content_on m counts disk fails.before.disk fails.after.disk
        (ready_unwritten m counts disk fails.before.disk its_size fails.prepared.disk_is image held
        (not_ its_size its_sized)) fails.keeps.disk)

    read_since : (size : ℕ) → m.size new ≡ Some size → (image : Image) → Tells m disk image
        → LeavesOnly m disk new (LeavesNew m disk size)
    read_since size sized image tells =
        let both : Some its_size ≡ Some size = sym its_sized ∙ sized in
        let same : its_size ≡ size = cc in
        subst (λ (n : ℕ). LeavesOnly m disk new (LeavesNew m disk n)) same
        (subst (λ (d : D). LeavesOnly m disk d (LeavesNew m disk its_size)) (sym fails.is_disk)
        (read_leaves m counts disk fails.before.disk its_size fails.prepared.disk_is image fails.after.disk tells
        fails.keeps.disk))

    read_within : (image now : Image) → m.held disk ≡ Some image → m.held new ≡ Some now
        → length now ≤ limit_of limit (length image)
    read_within image now held then_ =
        let has = fails.keeps.pool.within in
        let same : length now ≡ has.0 =
        counted fails.after.disk now has.0 (ap m.held (sym fails.is_disk) ∙ then_) has.1 in
        let limit_is : fails.after.geometry.limit ≡ limit_of limit (length image) =
        ap (λ (g : Geometry). g.limit) fails.keeps.geometry ∙ fails.prepared.limit_is image held in
        let most = has.2 in
        subst (λ (n : ℕ). length now ≤ n) limit_is (omega (arith, same, most))

    module _ (size : ℕ) (image : Image) (sized : m.size new ≡ Some size) (tells : Tells m new image)
        (lawful : IsSoundImage size image ⊎ IsMade size image) where
      size_is : size ≡ its_size
      size_is = let both : Some size ≡ Some its_size = sym sized ∙ its_sized in cc

      readable : AreReadable its_size (page_at its_size image)
      readable = at (subst (λ (n : ℕ). IsSoundImage n image ⊎ IsMade n image) size_is lawful)
        where
          at : IsSoundImage its_size image ⊎ IsMade its_size image → AreReadable its_size (page_at its_size image)
          at (inl sound) = sound_readable its_size image sound
          at (inr made) = new_reads its_size image fails.prepared.geometry.size made

      catalog : HasCatalog its_size (page_at its_size image)
      catalog = at (subst (λ (n : ℕ). IsSoundImage n image ⊎ IsMade n image) size_is lawful)
        where
          at : IsSoundImage its_size image ⊎ IsMade its_size image → HasCatalog its_size (page_at its_size image)
          at (inl sound) = sound_has_catalog its_size image sound
          at (inr made) = new_has_catalog its_size image fails.prepared.geometry.size made

      before_tells : Tells m fails.before.disk image
      before_tells = record {
        told = sym fails.keeps.disk.tells ∙ (ap m.tells (sym fails.is_disk) ∙ tells.told);
        held = sym fails.keeps.disk.held ∙ (ap m.held (sym fails.is_disk) ∙ tells.held);
      }

      after_tells : Tells m fails.after.disk image
      after_tells = record {
        told = ap m.tells (sym fails.is_disk) ∙ tells.told;
        held = ap m.held (sym fails.is_disk) ∙ tells.held;
      }

      as_shown : shown fails.before.dirty image ≡ page_at its_size image
      as_shown = fun_ext (λ p. (needs_are fails.before.dirty fails.before.graph image (λ t. false) (λ t. 0)).clean p
          (fails.prepared.clean p))
          ∙ ap (λ (n : ℕ). page_at n image) fails.prepared.pool.page_size

      -- no page is dirty after the reading either
      after_shown : shown fails.after.dirty image ≡ page_at its_size image
      after_shown = ap (λ (dirty : DirtyPages). shown dirty image) fails.keeps.dirty ∙ as_shown

      why : RefusesPages m fails.after fails.before.geometry (page_at its_size image) fault
      why = subst (λ (ps : Pages). RefusesPages m fails.after fails.before.geometry ps fault) as_shown
          (fails.why image before_tells)

      -- each fault, with why it came
      free : (it : OpenFault) → RefusesPages m fails.after fails.before.geometry (page_at its_size image) it
          → OpensAlone {T = Unit {0}} (Err it) → IsOpenRefusal it refusal → IsNoJudgement refusal
      free (NotADatabase field found) wrong own is = absurd (is_database m counted walks fails.after
          fails.before.geometry image after_tells after_shown readable catalog (heads.NotADatabase field found) wrong)
      free (Space (space.Full most)) wrong own is = absurd wrong
      free (Space (space.Damaged d)) wrong own is = absurd (not_damaged m counted walks fails.after
          fails.before.geometry image after_tells after_shown readable catalog d wrong)
      free (Space (space.Pool p)) wrong own is = pool_free (space.Pool p) refusal own is (λ d same. absurd cc)

      read_free : IsOpenRefusal fault refusal → IsNoJudgement refusal
      read_free is = free fault why fails.own is

    -- a new database was made, and then read
    made_free : (image : Image) → Tells m disk image → IsUnmadeImage its_size image → IsOpenRefusal fault refusal
        → IsNoJudgement refusal
    made_free image tells unmade_ is = read_free its_size there.image its_sized there.tells (inr there.made) is
      where
        there : HasNew m new its_size
        there = subst (λ (d : D). HasNew m d its_size) (sym fails.is_disk)
            (new_still m counts fails.before.disk fails.after.disk its_size fails.keeps.disk
            (ready_made m counts disk fails.before.disk its_size fails.prepared.disk_is image tells unmade_))

  -- ---- both

  its_lawful : RefusesOpen m disk new limit refusal → (size : ℕ) (image : Image) → m.size new ≡ Some size
      → Tells m new image → IsSoundImage size image ⊎ IsMade size image → IsNoJudgement refusal
  its_lawful (unprepared fault is fails) size image sized tells sound = unprepared_free fault fails is
  its_lawful (unread fault is fails) size image sized tells sound = read_free fault fails size image sized tells sound is

  its_lawful_new : RefusesOpen m disk new limit refusal → (size : ℕ) (image : Image) → m.size new ≡ Some size
      → Tells m disk image → IsUnmadeImage size image → IsNoJudgement refusal
  its_lawful_new (unprepared fault is fails) size image sized tells unmade_ = unprepared_free fault fails is
  its_lawful_new (unread fault is fails) size image sized tells unmade_ =
      let both : Some size ≡ Some (its_size fault fails) = sym sized ∙ its_sized fault fails in
      let same : size ≡ its_size fault fails = cc in
      made_free fault fails image tells (subst (λ (n : ℕ). IsUnmadeImage n image) same unmade_) is

  its_same : RefusesOpen m disk new limit refusal → IsSameDisk m disk new
  its_same (unprepared fault is fails) = unprepared_same fault fails
  its_same (unread fault is fails) = subst (IsSameDisk m disk) (sym fails.is_disk)
      (ready_same m disk fails.before fails.after fails.prepared.same fails.prepared.pool fails.keeps)

  its_kept : RefusesOpen m disk new limit refusal → (image : Image) → m.held disk ≡ Some image
      → ((size : ℕ) → m.size new ≡ Some size → IsUnmadeImage size image → ⊥) → KeepsContent m disk new
  its_kept (unprepared fault is fails) image held not_ = unprepared_kept image held not_ fault fails
  its_kept (unread fault is fails) image held not_ = read_kept fault fails image held not_

  its_within : RefusesOpen m disk new limit refusal → (image now : Image) → m.held disk ≡ Some image
      → m.held new ≡ Some now → length now ≤ limit_of limit (length image)
  its_within (unprepared fault is fails) image now held then_ = unprepared_within image now held then_ fault fails
  its_within (unread fault is fails) image now held then_ = read_within fault fails image now held then_

  its_leaves : RefusesOpen m disk new limit refusal → (size : ℕ) → m.size new ≡ Some size → (image : Image)
      → Tells m disk image → LeavesOnly m disk new (LeavesNew m disk size)
  its_leaves (unprepared fault is fails) size sized image tells =
      unprepared_leaves size sized image tells fault fails
  its_leaves (unread fault is fails) size sized image tells = read_since fault fails size sized image tells

  pub refuses_opening : RefusesOpen m disk new limit refusal → RefusesOpening m disk new limit refusal
  refuses_opening cause = record {
    cause = cause;
    same = its_same cause;
    within = its_within cause;
    lawful = its_lawful cause;
    lawful_new = its_lawful_new cause;
    unwritten = its_kept cause;
    crash = its_leaves cause;
  }
