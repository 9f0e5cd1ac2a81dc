-- A pass along a record's versions, over the cache: it starts, goes one version on, ends, or is refused.
use Rattle.std.proofs.Common.{◌≡◌, ◌∙◌, inl, inr, refl, sym, subst, arith, ℕ, ◌+◌, ◌≤◌, ◌||◌, Bool, true, false, List, [], ◌∷◌, ◌++◌, None, Some}
use Rattle.std.specs.Prelude.{length}
use Rattle.mg_base.specs.Disk.{Meaning}
use Rattle.mg_base.specs.Image.{Image}
use Rattle.mg_base.specs.declared.numbers.RecId.{RecId}
use Rattle.mg_base.specs.declared.transaction.TxState.{TxState}
use Rattle.mg_chain.specs.Chains.{Meets}
use Rattle.mg_chain.specs.Dropping.{DropsBehind}
use Rattle.mg_chain.specs.Lists.{FreesSlot, PutsSpelled}
use Rattle.mg_chain.specs.Refusals.{RefusesChain, RefusesVersion, version}
use Rattle.mg_chain.specs.Writing.{link_to}
use Rattle.mg_image.specs.Form.{Pages}
use Rattle.mg_image.specs.Records.{Stands, cells_of}
use Rattle.mg_image.specs.declared.entry.Entry.{Entry}
use Rattle.mg_model.specs.Answers.{is_committed}
use Rattle.mg_pool.specs.Batch.{Changed}
use Rattle.mg_pool.specs.Fault.{StaysOnline}
use Rattle.mg_pool.specs.Pool.{IsPool, shown}
use Rattle.mg_pool.specs.declared.batch.BatchPage.{BatchPage}
use Rattle.mg_pool.specs.declared.pool.Pool.{Pool}
use Rattle.mg_batches.specs.Batches.{ChangesOwn, nothing_yet}
use Rattle.mg_snap.specs.Live.{State, needed}
use Rattle.mg_space.specs.View.{KeepsStore, Tells, viewed}
use Rattle.mg_space.specs.declared.fault.SpaceFault.{SpaceFault}
use Rattle.mg_space.specs.declared.fault.SpaceFault.TheVariants as faults
use Rattle.mg_space.specs.declared.links.FireLinks.{FireLinks}
use Rattle.mg_version.specs.declared.cell.Link.{Link}
use Rattle.mg_version.specs.declared.cell.Version.{Version}
use Rattle.mg_collecting.specs.Collecting.{HasAtMost}
use Rattle.mg_collecting.specs.Leaving.{AreLinked, HasInOrder, LeavesAtLeast, LeavesTold, first_link}
use Rattle.mg_collecting.specs.LeavingLaws.{leaves_on, same_leaves}
use Rattle.mg_collecting.specs.LinkedLaws.{as_long, linked_behind, stand_alike}
use Rattle.mg_collecting.specs.Passing.{DropsOwn, FailsPass, HasPassed, IsPassed, Passes, StandsAt, StartsAt, drops_it, keeps_it, undropped, unread}
use Rattle.mg_collecting.specs.Remaining.{without_unneeded}
use Rattle.mg_collecting.specs.Steps.{DoesPart, DropsUnneeded, FailsPart, IsFollowed, Steps, drops_unneeded, not_dropped, not_read, one_more, reads_on, starts}
use Rattle.mg_collecting.specs.declared.passing.Passed.{Passed}
use Rattle.mg_collecting.specs.declared.passing.Stand.{Stand}
use Rattle.mg_collecting.proofs.PartLemmas.{Holds, fails_behind, held_now, kept_shown, own_more, own_shown, steps_told, tells_back}
use Rattle.mg_collecting.proofs.ShownLemmas.{drop_shown, gone_is}
use Rattle.mg_collecting.proofs.StandLemmas.{all_passed, covered_on, dropped_on, few_behind, kept_followed, kept_on, least_there, leads_on, next_followed, none_behind, now_with, one_less, open_next, passed, passed_is, behind}

-- why a version is not read that a record's links lead to
pub version_unread : {D L : Type 0} (m : Meaning D) (store : Pool D L) (pages : List BatchPage) (view : Pages)
    (rec : RecId) (holder : ℕ) (l : Link) → IsFollowed view rec holder l → (fault : SpaceFault)
    → RefusesVersion m store pages view holder l fault → RefusesChain m store pages view rec fault
version_unread m store pages view rec holder l followed (faults.Full most) refuses = refuses
version_unread m store pages view rec holder l followed (faults.Damaged it) refuses =
    version followed.count holder l it followed.follows refuses
version_unread m store pages view rec holder l followed (faults.Pool fault) refuses = tt

module _ {D : Type 0} (m : Meaning D) (holds : Holds m) (puts : PutsSpelled) (frees : FreesSlot) (state : ℕ → TxState)
    (live : State) (rec : RecId) (start : Pool D FireLinks) (count : ℕ)
    (counted : (image : Image) → Tells m start.disk image
    → HasAtMost (cells_of (shown start.dirty image)) rec count) where
  few : (i : Image) → Tells m start.disk i → (es : List Entry) → HasInOrder (cells_of (shown start.dirty i)) rec es
      → length es ≤ count
  few i tells es has =
      let it = counted i tells in
      let long = as_long (cells_of (shown start.dirty i)) es it.versions (sym has.slot ∙ it.its.slot) has.linked
      it.its.linked in
      let less = it.few in omega (arith, long, less)

  -- ---- it starts

  pub passed_starts : (now : Pool D FireLinks) (at : Stand) → KeepsStore m start now → StaysOnline m start now
      → ((image : Image) → Tells m start.disk image → (es : List Entry)
      → HasInOrder (cells_of (shown start.dirty image)) rec es → StartsAt state live rec es (Some at))
      → HasPassed m start now state live rec false at count
  passed_starts now at keeps online stands = record {
    pool = keeps.pool;
    geometry = keeps.geometry;
    steps = reads_on false start now starts keeps online;
    passed = λ i j first second es has. record {
      left = es;
      leaves = same_leaves (shown start.dirty i) (shown now.dirty j) rec es
          (kept_shown m start now i j keeps first second) has;
      stands = stands i first es has;
      few = let less = few i first es has in
          let fewer = few_behind state live rec es es at (stands i first es has) in omega (arith, less, fewer);
    };
  }

  module _ (now : Pool D FireLinks) (gone : Bool) (at : Stand) (most : ℕ)
      (it : HasPassed m start now state live rec gone at most) where
    -- the versions that it had at the start, and how it stands among them now
    record Knows (k : Image) : Type 0 where
      image : Image
      tells : Tells m start.disk image
      versions : List Entry
      its : HasInOrder (cells_of (shown start.dirty image)) rec versions
      passed : IsPassed state live rec (shown start.dirty image) (shown now.dirty k) versions gone at most

    knows : (k : Image) → Tells m now.disk k → Knows k
    knows k tells =
        let was = held_now m holds start.disk
        (sym (steps_told m state live rec start now gone it.steps) ∙ tells.told) in
        let had = counted was.image was.tells in record {
          image = was.image;
          tells = was.tells;
          versions = had.versions;
          its = had.its;
          passed = it.passed was.image k was.tells tells had.versions had.its;
        }

    -- ---- it ends

    ends : ((all left : List Entry) (stands : StandsAt state live rec all left at) → length stands.rest ≤ most
        → left ≡ without_unneeded state live all)
        → DoesPart m start now state live rec (without_unneeded state live) gone
    ends same = record {
      steps = it.steps;
      left = λ i j first second es has.
          let passed_ = it.passed i j first second es has in
          subst (λ (xs : List Entry). LeavesTold (shown start.dirty i) (shown now.dirty j) rec es xs gone)
          (same es passed_.left passed_.stands passed_.few) passed_.leaves;
    }

    pub ends_none : at.next ≡ None → DoesPart m start now state live rec (without_unneeded state live) gone
    ends_none none = ends (λ all left stands few_. none_behind state live rec all left at stands none)

    pub ends_open : (older : Link) → at.next ≡ Some older → is_committed (state older.tx.0) ≡ false
        → DoesPart m start now state live rec (without_unneeded state live) gone
    ends_open older some other =
        ends (λ all left stands few_. open_next state live rec all left at stands older some other)

    pub ends_all : most ≡ 0 → DoesPart m start now state live rec (without_unneeded state live) gone
    ends_all zero = ends (λ all left stands few_. all_passed state live rec all left at stands
        (subst (λ (n : ℕ). length stands.rest ≤ n) zero few_))

    -- ---- it is refused

    least : (i k : Image) → Tells m start.disk i → Tells m now.disk k → (es : List Entry)
        → HasInOrder (cells_of (shown start.dirty i)) rec es
        → LeavesAtLeast (shown start.dirty i) (shown now.dirty k) rec es (without_unneeded state live es)
    least i k first second es has =
        let passed_ = it.passed i k first second es has in record {
          left = passed_.left;
          gone = gone;
          leaves = passed_.leaves;
          least_left = least_there state live rec es passed_.left at passed_.stands;
        }

    pub pass_fails : (after : Pool D FireLinks) (older : Link) (fault : SpaceFault) → at.next ≡ Some older
        → FailsPass m now after at older fault
        → FailsPart m start after state live rec (without_unneeded state live) fault
    pass_fails after older fault some (unread fails) =
        fails_behind m state live rec (without_unneeded state live) holds start now after gone fault it.steps
        (not_read (record {
          keeps = fails.keeps;
          own = fails.own;
          told = fails.told;
          why = λ image tells.
              let known = knows image tells in
              version_unread m after [] (shown now.dirty image) rec at.kept.rec.page.0 older
              (next_followed state live rec (shown now.dirty image) known.versions known.passed.left at
              known.passed.stands older known.passed.leaves.leaves.its some) fault (fails.why image tells);
        })) least
    pass_fails after older fault some (undropped ready keeps online fails) =
        fails_behind m state live rec (without_unneeded state live) holds start ready after gone fault
        (reads_on gone now ready it.steps keeps online)
        (not_dropped at.holder at.kept (λ image tells.
        let back = tells_back m now ready image keeps tells in
        let known = knows image back in
        subst (λ (pages : Pages). IsFollowed pages rec at.holder.0 at.kept)
        (sym (kept_shown m now ready image image keeps back tells))
        (kept_followed state live rec (shown now.dirty image) known.versions known.passed.left at known.passed.stands
        known.passed.leaves.leaves.its)) fails)
        (λ i k first second es has.
        let back = tells_back m now ready k keeps second in
        subst (λ (pages : Pages). LeavesAtLeast (shown start.dirty i) pages rec es (without_unneeded state live es))
        (sym (kept_shown m now ready k k keeps back second)) (least i k first back es has))

    -- ---- one version on

    module _ (older : Link) (some : at.next ≡ Some older) (committed : is_committed (state older.tx.0) ≡ true)
        (met : Version) (meets : (image : Image) → Tells m now.disk image
        → Meets (cells_of (shown now.dirty image)) older met) (left : ℕ) (more : most ≤ left + 1) where
      -- where the version that was passed leads
      next_is : (k : Image) → Tells m now.disk k → (es ds : List Entry) (stands : StandsAt state live rec es ds at)
          → HasInOrder (cells_of (shown now.dirty k)) rec ds
          → met.back ≡ first_link (behind state live rec es ds at stands older some committed)
      next_is k tells es ds stands has =
          leads_on (cells_of (shown now.dirty k)) (passed state live rec es ds at stands older some committed)
          (behind state live rec es ds at stands older some committed) older met
          (linked_behind (cells_of (shown now.dirty k)) stands.front (stands.kept
          ∷ passed state live rec es ds at stands older some committed
          ∷ behind state live rec es ds at stands older some committed)
          (subst (AreLinked (cells_of (shown now.dirty k))) (now_with state live rec es ds at stands older some committed)
          has.linked)).1
          (passed_is state live rec es ds at stands older some committed) (meets k tells)

      fewer : (es ds : List Entry) (stands : StandsAt state live rec es ds at) → length stands.rest ≤ most
          → length (behind state live rec es ds at stands older some committed) ≤ left
      fewer es ds stands less =
          let one = one_less state live rec es ds at stands older some committed in omega (arith, less, more, one)

      pub passes_kept : (after : Pool D FireLinks) → KeepsStore m now after → StaysOnline m now after
          → needed live at.newer.0 older.tx.0 ≡ true
          → HasPassed m start after state live rec (gone || false)
          (record { holder = at.kept.rec.page; kept = older; newer = older.tx; next = met.back }) left
      passes_kept after keeps online need = subst (λ (b : Bool). HasPassed m start after state live rec b
          (record { holder = at.kept.rec.page; kept = older; newer = older.tx; next = met.back }) left)
          (same gone) (record {
            pool = keeps.pool;
            geometry = keeps.geometry ∙ it.geometry;
            steps = reads_on gone now after it.steps keeps online;
            passed = λ i j first second es has.
                let back = tells_back m now after j keeps second in
                let was = it.passed i j first back es has in
                let on = kept_on state live rec es was.left at was.stands older some committed met.back left
                (fewer es was.left was.stands was.few) need
                (next_is j back es was.left was.stands was.leaves.leaves.its) in
                subst (λ (pages : Pages). IsPassed state live rec (shown start.dirty i) pages es gone
                (record { holder = at.kept.rec.page; kept = older; newer = older.tx; next = met.back }) left)
                (sym (kept_shown m now after j j keeps back second))
                (record { left = was.left; leaves = was.leaves; stands = on.stands; few = on.few });
          })
        where
          same : (b : Bool) → b ≡ (b || false)
          same true = refl
          same false = refl

      module _ (ready : Pool D FireLinks) (keeps : KeepsStore m now ready) (online : StaysOnline m now ready)
          (none : needed live at.newer.0 older.tx.0 ≡ false) where
        -- nothing stands behind the one that was kept: that cannot be where the disk tells what it holds
        pub passes_past : (after : Pool D FireLinks) → DropsOwn m ready after at.kept false
            → HasPassed m start after state live rec (gone || false)
            (record { holder = at.holder; kept = at.kept; newer = older.tx; next = met.back }) left
        passes_past after (still, stays, nowhere) = subst (λ (b : Bool). HasPassed m start after state live rec b
            (record { holder = at.holder; kept = at.kept; newer = older.tx; next = met.back }) left)
            (same gone) (record {
              pool = still.pool;
              geometry = still.geometry ∙ (keeps.geometry ∙ it.geometry);
              steps = reads_on gone ready after (reads_on gone now ready it.steps keeps online) still stays;
              passed = λ i j first second es has. absurd (impossible i j first second es has);
            })
          where
            same : (b : Bool) → b ≡ (b || false)
            same true = refl
            same false = refl

            impossible : (i j : Image) → Tells m start.disk i → Tells m after.disk j → (es : List Entry)
                → HasInOrder (cells_of (shown start.dirty i)) rec es → ⊥
            impossible i j first second es has =
                let at_ready = tells_back m ready after j still second in
                let back = tells_back m now ready j keeps at_ready in
                let was = it.passed i j first back es has in
                let its : HasInOrder (cells_of (shown ready.dirty j)) rec was.left =
                subst (λ (pages : Pages). HasInOrder (cells_of pages) rec was.left)
                (sym (kept_shown m now ready j j keeps back at_ready)) was.leaves.leaves.its in
                let lone = nowhere j at_ready in
                let leads = leads_on (cells_of (shown ready.dirty j)) was.stands.kept was.stands.rest at.kept lone.version
                (linked_behind (cells_of (shown ready.dirty j)) was.stands.front (was.stands.kept ∷ was.stands.rest)
                (subst (AreLinked (cells_of (shown ready.dirty j))) was.stands.now_is its.linked))
                was.stands.link lone.meets in
                let both : Some older ≡ None = sym some ∙ (was.stands.next ∙ (sym leads ∙ lone.ends)) in
                absurd cc

        module _ (after : Pool D FireLinks) (pool : IsPool m after) (geometry : after.geometry ≡ ready.geometry)
            (dropped : Link)
            (own : ChangesOwn m ready after (λ image batch. DropsBehind ready image nothing_yet batch at.kept dropped))
          where
            -- what is known of the record before the batch
            its_at : (k : Image) → Tells m ready.disk k → (es ds : List Entry) → HasInOrder (cells_of (shown now.dirty k)) rec ds
                → (stands : StandsAt state live rec es ds at)
                → HasInOrder (cells_of (shown ready.dirty k)) rec (stands.front ++ stands.kept
                ∷ passed state live rec es ds at stands older some committed
                ∷ behind state live rec es ds at stands older some committed)
            its_at k tells es ds has stands =
                let back = tells_back m now ready k keeps tells in
                subst (λ (xs : List Entry). HasInOrder (cells_of (shown ready.dirty k)) rec xs)
                (now_with state live rec es ds at stands older some committed)
                (subst (λ (pages : Pages). HasInOrder (cells_of pages) rec ds)
                (sym (kept_shown m now ready k k keeps back tells)) has)

            fills : (image : Image) (batch : Changed) → Tells m ready.disk image
                → DropsBehind ready image nothing_yet batch at.kept dropped
                → DropsUnneeded ready image state live rec at.kept dropped batch
            fills image batch tells drops =
                let back = tells_back m now ready image keeps tells in
                let known = knows image back in
                let stands = known.passed.stands in
                let y = passed state live rec known.versions known.passed.left at stands older some committed in
                let rest = behind state live rec known.versions known.passed.left at stands older some committed in
                let has = its_at image tells known.versions known.passed.left known.passed.leaves.leaves.its stands in
                let is_passed : dropped ≡ link_to y.at y.version.tx =
                gone_is puts frees ready image (viewed ready image batch) batch refl rec stands.front stands.kept y rest
                at.kept dropped has stands.link drops in
                let is_older : dropped ≡ older = is_passed
                ∙ sym (passed_is state live rec known.versions known.passed.left at stands older some committed) in record {
                  drops = drops;
                  its = λ es other. stand_alike (cells_of (shown ready.dirty image))
                      (stands.front ++ stands.kept ∷ y ∷ rest) es (sym has.slot ∙ other.slot) has.linked other.linked
                      at.kept.rec (subst (λ (l : Link). Stands (stands.front ++ stands.kept ∷ y ∷ rest) l.rec)
                      (sym stands.link) (stands_at stands.front stands.kept (y ∷ rest)));
                  kept = subst (λ (l : Link). is_committed (state l.tx.0) ≡ true) (sym stands.link) stands.committed;
                  dropped = subst (λ (l : Link). is_committed (state l.tx.0) ≡ true) (sym is_older) committed;
                  unneeded = subst (λ (l : Link). needed live l.tx.0 dropped.tx.0 ≡ false) (sym stands.link)
                      (subst (λ (l : Link). needed live stands.kept.version.tx.0 l.tx.0 ≡ false) (sym is_passed)
                      (covered_on state live rec known.versions known.passed.left at stands older some committed none));
                }
              where
                stands_at : (front : List Entry) (a : Entry) (es : List Entry) → Stands (front ++ a ∷ es) a.at
                stands_at [] a es = inl refl
                stands_at (e ∷ front) a es = inr (stands_at front a es)

            pub passes_dropped : HasPassed m start after state live rec (gone || true)
                (record { holder = at.holder; kept = at.kept; newer = older.tx; next = met.back }) left
            passes_dropped = record {
              pool = pool;
              geometry = geometry ∙ (keeps.geometry ∙ it.geometry);
              steps = subst (λ (b : Bool). Steps m state live rec start b after) (same gone)
                  (one_more gone ready after (reads_on gone now ready it.steps keeps online)
                  (drops_unneeded at.kept dropped (own_more m ready after
                  (λ image batch. DropsBehind ready image nothing_yet batch at.kept dropped)
                  (λ image batch. DropsUnneeded ready image state live rec at.kept dropped batch) own fills)));
              passed = goes;
            }
              where
                same : (b : Bool) → true ≡ (b || true)
                same true = refl
                same false = refl

                goes : (i j : Image) → Tells m start.disk i → Tells m after.disk j → (es : List Entry)
                    → HasInOrder (cells_of (shown start.dirty i)) rec es
                    → IsPassed state live rec (shown start.dirty i) (shown after.dirty j) es (gone || true)
                    (record { holder = at.holder; kept = at.kept; newer = older.tx; next = met.back }) left
                goes i j first second es has =
                    let mid = held_now m holds ready.disk (keeps.disk.tells
                    ∙ (steps_told m state live rec start now gone it.steps ∙ first.told)) in
                    let k = mid.image in
                    let back = tells_back m now ready k keeps mid.tells in
                    let was = it.passed i k first back es has in
                    let stands = was.stands in
                    let y = passed state live rec es was.left at stands older some committed in
                    let rest = behind state live rec es was.left at stands older some committed in
                    let its = its_at k mid.tells es was.left was.leaves.leaves.its stands in
                    let shown_ = kept_shown m now ready k k keeps back mid.tells in
                    let one : LeavesTold (shown start.dirty i) (shown ready.dirty k) rec es
                    (stands.front ++ stands.kept ∷ y ∷ rest) gone =
                    subst (λ (xs : List Entry). LeavesTold (shown start.dirty i) (shown ready.dirty k) rec es xs gone)
                    (now_with state live rec es was.left at stands older some committed)
                    (subst (λ (pages : Pages). LeavesTold (shown start.dirty i) pages rec es was.left gone) (sym shown_)
                    was.leaves) in
                    let two = drop_shown puts frees ready k (shown after.dirty j) own.batch
                    (own_shown m ready own.ready after own.batch k j own.keeps own.changed mid.tells second) rec stands.front
                    stands.kept y rest at.kept dropped its stands.link (own.filled k mid.tells) in
                    let on = dropped_on state live rec es was.left at stands older some committed met.back left
                    (fewer es was.left stands was.few) none
                    (next_is k back es was.left stands was.leaves.leaves.its) in record {
                      left = stands.front ++ stands.kept ∷ rest;
                      leaves = leaves_on (shown start.dirty i) (shown ready.dirty k) (shown after.dirty j) rec es
                          (stands.front ++ stands.kept ∷ y ∷ rest) (stands.front ++ stands.kept ∷ rest) gone true one two;
                      stands = on.stands;
                      few = on.few;
                    }

    -- the next version is passed
    pub passes_on : (older : Link) → at.next ≡ Some older → is_committed (state older.tx.0) ≡ true
        → (after : Pool D FireLinks) → IsPool m after → after.geometry ≡ now.geometry → (p : Passed)
        → Passes m now after live at older p → (left : ℕ) → most ≤ left + 1
        → HasPassed m start after state live rec (gone || p.gone) p.stand left
    passes_on older some committed after pool geometry p (keeps_it met need keeps online meets is) left more =
        subst (λ (q : Passed). HasPassed m start after state live rec (gone || q.gone) q.stand left) (sym is)
        (passes_kept older some committed met meets left more after keeps online need)
    passes_on older some committed after pool geometry p (drops_it met ready true none keeps online meets (dropped, own) is)
        left more = subst (λ (q : Passed). HasPassed m start after state live rec (gone || q.gone) q.stand left) (sym is)
        (passes_dropped older some committed met meets left more ready keeps online none after pool
        (geometry ∙ sym keeps.geometry) dropped own)
    passes_on older some committed after pool geometry p (drops_it met ready false none keeps online meets drops is)
        left more = subst (λ (q : Passed). HasPassed m start after state live rec (gone || q.gone) q.stand left) (sym is)
        (passes_past older some committed met meets left more ready keeps online none after drops)
