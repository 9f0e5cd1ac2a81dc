-- A dirty page is written, or its page write fails.
use Rattle.std.proofs.Common.{◌≡◌, ◌≤◌, ◌+◌, ℕ, true, List, [], ◌∷◌, length, Option, None, Some, Result, Ok, Err, refl, sym, ap, subst, arith}
use Rattle.std.specs.Prelude.{is_some, min}
use Rattle.std.proofs.lemmas.Bool.{eq-eqb}
use Rattle.std.proofs.Math.Nat.{min-eq_right}
use Rattle.mg_base.specs.Disk.{Meaning}
use Rattle.mg_base.specs.declared.numbers.PageNo.{PageNo}
use Rattle.mg_model.specs.declared.refusal.Refusal.{Refusal}
use Rattle.mg_model.specs.declared.refusal.Refusal.TheVariants.{DiskWrite, Offline}
use Rattle.mg_engine_step_laws.specs.commits.PageWrites.{PageWritesFail, PageWritesGoOn}
use Rattle.mg_image.specs.Form.{packed_form}
use Rattle.mg_lasting_laws.specs.PoolLaws.{HoldsOne}
use Rattle.mg_pool.specs.Dirty.{DirtyPages, IsLeastPage, bytes_of, content_of, entry_in, is_dirty}
use Rattle.mg_pool.specs.DirtyPage.{DirtyPage}
use Rattle.mg_pool.specs.declared.fault.PoolFault.TheVariants as faults
use Rattle.mg_pool.specs.declared.pool.Pool.{Pool}
use Rattle.mg_space.specs.declared.links.FireLinks.{FireLinks}
use Rattle.mg_core.specs.declared.parts.Core.{Core}
use Rattle.mg_core.specs.Committing.{WritesPage}
use Rattle.mg_core.specs.Cores.{IsCore}
use Rattle.mg_engine_meaning_laws.specs.FrameLaws.{keeps_of, sessions_of, works_same}
use Rattle.mg_engine_meaning_laws.specs.Meaning.{Places}
use Rattle.mg_engine_meaning_laws.specs.StepLaws.{fail_quiet, fail_reads, fails_goes, refused_none, run_quiet, run_reads}
use Rattle.mg_engine_meaning_laws.specs.Steps.{AddsNone}
use Rattle.mg_engine_meaning_laws.specs.NextPages.{WritesPages}
use Rattle.mg_engine_meaning_laws.specs.StillLaws.{still_quiet, still_reads, still_sessions}

-- where no page is dirty there is none
none_dirty : (dirty : DirtyPages) → IsLeastPage (is_dirty dirty) None → length dirty.pages ≡ 0
unfolding content_of
none_dirty dirty least = at dirty.pages (λ page is. least.least_of page is)
  where
    first_there : (d : DirtyPage) (ds : List DirtyPage) → is_some (bytes_of (entry_in (d ∷ ds) d.page)) ≡ true
    first_there d ds = rw (eq-eqb d.page d.page refl) refl

    at : (pages : List DirtyPage) → ((page : ℕ) → is_some (bytes_of (entry_in pages page)) ≡ true
        → (n : ℕ) × (None ≡ Some n) × (n ≤ page)) → length pages ≡ 0
    at [] least_of = refl
    at (d ∷ ds) least_of =
        let found = least_of d.page (first_there d ds) in
        let none : None ≡ Some found.0 = found.1 in absurd cc

few_left : (n : ℕ) → n ≤ 512 → min 512 n ≡ n
few_left n few = min-eq_right few

module _ {D P : Type 0} (m : Meaning D) (places : Places P) (holds : HoldsOne D m)
    (writes : PageWritesGoOn D FireLinks m packed_form) (failing : PageWritesFail D FireLinks m packed_form)
    (old new : Core D) (core : IsCore m old) where
  pub next_goes : (result : Result (Option PageNo) Refusal) → WritesPage m old new result
      → WritesPages m places old new result
  next_goes (Ok None) (same, online, least) = subst (λ (c : Core D). WritesPages m places old c (Ok None)) (sym same)
      (record {
        next = (ap (min 512) (none_dirty old.store.dirty least), refl);
        reads = still_reads m places old None (record { cause = tt; offline = rw online tt; down = refl });
        crash = still_quiet m places old;
        sessions = still_sessions m places old;
      })
  next_goes (Ok (Some page)) (goal, online, least, wrote) =
      subst (λ (c : Core D). WritesPages m places old c (Ok (Some page))) (sym wrote.others) (record {
        next = fewer;
        reads = run_reads m places holds writes old new.store online wrote.run None;
        crash = run_quiet m places holds writes old new.store online wrote.run;
        sessions = sessions_of m places old (record old { store = new.store }) 0 (works_same old.works 0);
      })
    where
      fewer : min 512 (length old.store.dirty.pages) ≡ min 512 (length new.store.dirty.pages) + 1
      fewer = let was = few_left (length old.store.dirty.pages) core.pool.few in
          let less = wrote.fewer in
          let few : length new.store.dirty.pages ≤ 512 = let most = core.pool.few in omega (arith, less, most) in
          let now = few_left (length new.store.dirty.pages) few in omega (arith, was, now, less)
  next_goes (Err (DiskWrite count)) fails =
      subst (λ (c : Core D). WritesPages m places old c (Err (DiskWrite count))) (sym fails.others) (record {
        next = no_more;
        reads = fail_reads m places failing old new.store count fails.told.0 fails.told.1 fails.fails None
            (keeps_of m places old (record old { store = new.store }) (Some (DiskWrite count))
            (fails_goes m old.store new.store (faults.DiskWrite count) fails.fails) (omega arith) (omega arith)
            (record { cause = (fails.told.2.2, fails.told.3); offline = rw fails.told.0 tt; down = fails.told.1 }));
        crash = fail_quiet m places failing old new.store count fails.told.0 fails.told.1 fails.fails;
        sessions = sessions_of m places old (record old { store = new.store }) 0 (works_same old.works 0);
      })
    where
      no_more : min 512 (length new.store.dirty.pages) ≤ min 512 (length old.store.dirty.pages)
      no_more =
          let same : length new.store.dirty.pages ≡ length fails.fails.before.dirty.pages =
          ap (λ (p : Pool D FireLinks). length p.dirty.pages) fails.fails.fails.same in
          let less = fails.fails.written.count in
          let most = core.pool.few in
          let was = few_left (length old.store.dirty.pages) core.pool.few in
          let now = few_left (length new.store.dirty.pages) (omega (arith, same, less, most)) in
          omega (arith, was, now, same, less)
  next_goes (Err (Offline count)) (same, offline) =
      subst (λ (c : Core D). WritesPages m places old c (Err (Offline count))) (sym same)
      (let refused : AddsNone {T = Option PageNo} m places old old 0 (Err (Offline count)) None =
      refused_none m places old 0 (Offline count) None offline in record {
        next = omega arith;
        reads = refused.reads;
        crash = refused.crash;
        sessions = refused.sessions;
      })
  next_goes (Err refusal) wrong = absurd wrong
