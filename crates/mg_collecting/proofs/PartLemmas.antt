-- Parts of a collection: none, one step, one part after another; and where it goes no further.
use Rattle.std.proofs.Common.{◌≡◌, ◌∙◌, refl, sym, ap, subst, ℕ, ◌||◌, Bool, true, false, List, Some, Result, Ok, Err}
use Rattle.std.proofs.Math.Path.{fun_ext}
use Rattle.std.specs.Prelude.{IsErr, IsErrAnd, MatchResult, unwrap_or}
use Rattle.mg_base.specs.Disk.{MayLeave, Meaning}
use Rattle.mg_base.specs.Image.{Image}
use Rattle.mg_base.specs.declared.numbers.RecId.{RecId}
use Rattle.mg_base.specs.declared.transaction.TxState.{TxState}
use Rattle.mg_image.specs.Form.{Pages}
use Rattle.mg_image.specs.Records.{cells_of}
use Rattle.mg_image.specs.declared.entry.Entry.{Entry}
use Rattle.mg_pool.specs.Batch.{Changed, content_in}
use Rattle.mg_pool.specs.Change.{ChangesPages}
use Rattle.mg_pool.specs.Dirty.{DirtyPages}
use Rattle.mg_pool.specs.Fault.{StaysOnline}
use Rattle.mg_pool.specs.Pool.{shown}
use Rattle.mg_pool.specs.declared.pool.Pool.{Pool}
use Rattle.mg_batches.specs.Batches.{ChangesBatch, ChangesOwn, FailsBatch, FailsOwn, not_changed, not_filled}
use Rattle.mg_snap.specs.Live.{State}
use Rattle.mg_space.specs.View.{KeepsStore, Tells, viewed}
use Rattle.mg_space.specs.declared.fault.SpaceFault.{SpaceFault}
use Rattle.mg_space.specs.declared.fault.SpaceFault.TheVariants as faults
use Rattle.mg_space.specs.declared.links.FireLinks.{FireLinks}
use Rattle.mg_collecting.specs.Leaving.{HasInOrder, LeavesAtLeast, LeavesTold}
use Rattle.mg_collecting.specs.LeavingLaws.{fewer_least, least_on, leaves_on, same_leaves}
use Rattle.mg_collecting.specs.Remaining.{AreSomeOf}
use Rattle.mg_collecting.specs.Steps.{CollectStep, DoesPart, FailsPart, FailsStep, Steps, not_dropped, not_read, not_taken_out, one_more, reads_on, starts, takes_dead, takes_erased, drops_unneeded}

-- a fault that a call met is handed on
pub handed_on : {T : Type 0} (result : Result T SpaceFault) (fault : SpaceFault) (P : T → Type 0)
    (Q : SpaceFault → Type 0) → IsErr result → IsErrAnd result (λ given. given ≡ fault) → Q fault
    → MatchResult result P Q
handed_on (Ok x) fault P Q err is holds = absurd cc
handed_on (Err e) fault P Q err is holds = subst Q (sym is) holds

-- two calls meet no fault where each meets none
pub online_on : {D L : Type 0} (m : Meaning D) (a b c : Pool D L) → StaysOnline m a b → StaysOnline m b c
    → StaysOnline m a c
online_on m a b c first second = (first.0, second.1, second.2 ∙ first.2)

-- ---- what is shown

one_image : (i j : Image) → Some i ≡ Some j → i ≡ j
one_image i j same = cc

-- where pages were only read, they are shown as before
pub kept_shown : {D L : Type 0} (m : Meaning D) (a b : Pool D L) (i j : Image) → KeepsStore m a b → Tells m a.disk i
    → Tells m b.disk j → shown b.dirty j ≡ shown a.dirty i
kept_shown m a b i j kept first second =
    let same : j ≡ i = one_image j i (sym second.held ∙ (kept.disk.held ∙ first.held)) in
    ap (λ (d : DirtyPages). shown d j) kept.dirty ∙ ap (shown a.dirty) same

-- a disk told before what it tells now
pub tells_back : {D L : Type 0} (m : Meaning D) (a b : Pool D L) (image : Image) → KeepsStore m a b
    → Tells m b.disk image → Tells m a.disk image
tells_back m a b image kept tells = record {
  told = sym kept.disk.tells ∙ tells.told;
  held = sym kept.disk.held ∙ tells.held;
}

-- after a batch of its own the pages are shown as who filled it saw them
pub own_shown : {D : Type 0} (m : Meaning D) (before ready after : Pool D FireLinks) (batch : Changed) (i j : Image)
    → KeepsStore m before ready → ChangesBatch m ready after batch → Tells m before.disk i → Tells m after.disk j
    → shown after.dirty j ≡ viewed before i batch
own_shown m before ready after batch i j keeps changed first second =
    by (changed.frame (keeps.disk.tells ∙ first.told) i j (keeps.disk.held ∙ first.held) second.held)
  where
    by : (gone : ℕ → Bool) × ChangesPages ready.dirty after.dirty ready.graph after.graph i j gone
        (content_in batch.pages) batch.orders → shown after.dirty j ≡ viewed before i batch
    by (gone, changes) = fun_ext (λ p. changes.shown_new p
        ∙ ap (λ (d : DirtyPages). unwrap_or (content_in batch.pages p) (shown d i p)) keeps.dirty)

-- a batch of its own, with more said of what it has
pub own_more : {D : Type 0} (m : Meaning D) (before after : Pool D FireLinks) (fills more : Image → Changed → Type 0)
    → ChangesOwn m before after fills
    → ((image : Image) (batch : Changed) → Tells m before.disk image → fills image batch → more image batch)
    → ChangesOwn m before after more
own_more m before after fills more own says = record {
  batch = own.batch;
  ready = own.ready;
  keeps = own.keeps;
  online = own.online;
  filled = λ image tells. says image own.batch tells (own.filled image tells);
  changed = own.changed;
}

-- a batch of its own, and what its disk tells
pub own_told : {D : Type 0} (m : Meaning D) (before after : Pool D FireLinks) (fills : Image → Changed → Type 0)
    → ChangesOwn m before after fills → m.tells after.disk ≡ m.tells before.disk
own_told {D} m before after fills own =
    ap m.tells (own.changed.changes.enters.disk ∙ own.changed.changes.puts.disk)
    ∙ (own.changed.changes.written.tells ∙ own.keeps.disk.tells)

pub step_told : {D : Type 0} (m : Meaning D) (state : ℕ → TxState) (live : State) (rec : RecId)
    (before after : Pool D FireLinks) → CollectStep m state live rec before after
    → m.tells after.disk ≡ m.tells before.disk
step_told m state live rec before after (takes_dead own) = own_told m before after _ own
step_told m state live rec before after (drops_unneeded newer gone own) = own_told m before after _ own
step_told m state live rec before after (takes_erased own) = own_told m before after _ own

pub steps_told : {D : Type 0} (m : Meaning D) (state : ℕ → TxState) (live : State) (rec : RecId)
    (start now : Pool D FireLinks) (some : Bool) → Steps m state live rec start some now
    → m.tells now.disk ≡ m.tells start.disk
steps_told m state live rec start now some starts = refl
steps_told m state live rec start now some (reads_on any mid now_ steps keeps online) =
    keeps.disk.tells ∙ steps_told m state live rec start mid any steps
steps_told m state live rec start now some (one_more any mid now_ steps step) =
    step_told m state live rec mid now_ step ∙ steps_told m state live rec start mid any steps

-- ---- steps after steps

or_false : (a : Bool) → a ≡ (a || false)
or_false true = refl
or_false false = refl

or_true : (a : Bool) → true ≡ (a || true)
or_true true = refl
or_true false = refl

pub steps_then : {D : Type 0} (m : Meaning D) (state : ℕ → TxState) (live : State) (rec : RecId)
    (a b c : Pool D FireLinks) (some more : Bool) → Steps m state live rec a some b → Steps m state live rec b more c
    → Steps m state live rec a (some || more) c
steps_then m state live rec a b c some more first starts =
    subst (λ (x : Bool). Steps m state live rec a x b) (or_false some) first
steps_then m state live rec a b c some more first (reads_on any mid c_ steps keeps online) =
    reads_on (some || any) mid c_ (steps_then m state live rec a b mid some any first steps) keeps online
steps_then m state live rec a b c some more first (one_more any mid c_ steps step) =
    subst (λ (x : Bool). Steps m state live rec a x c_) (or_true some)
    (one_more (some || any) mid c_ (steps_then m state live rec a b mid some any first steps) step)

-- ---- where it goes no further nothing has changed

fails_batch_shown : {D : Type 0} (m : Meaning D) (ready after : Pool D FireLinks) (batch : Changed)
    (fault : SpaceFault) (i j : Image) → FailsBatch m ready after batch fault → Tells m ready.disk i
    → Tells m after.disk j → shown after.dirty j ≡ shown ready.dirty i
fails_batch_shown m ready after batch (faults.Full limit) i j fails first second = absurd fails
fails_batch_shown {D} m ready after batch (faults.Damaged it) i j fails first second =
    let held : Some j ≡ Some i =
    sym second.held ∙ (ap (λ (p : Pool D FireLinks). m.held p.disk) fails.same ∙ first.held) in
    ap (λ (p : Pool D FireLinks). shown p.dirty j) fails.same ∙ ap (shown ready.dirty) (one_image j i held)
fails_batch_shown m ready after batch (faults.Pool fault) i j fails first second =
    fun_ext (fails.same.same_shown first.told i j first.held second.held)

pub fails_own_shown : {D : Type 0} (m : Meaning D) (before after : Pool D FireLinks) (fills : Image → Changed → Type 0)
    (refuses : Image → SpaceFault → Type 0) (fault : SpaceFault) (i j : Image)
    → FailsOwn m before after fills refuses fault → Tells m before.disk i → Tells m after.disk j
    → shown after.dirty j ≡ shown before.dirty i
fails_own_shown m before after fills refuses fault i j (not_filled keeps own told why) first second =
    kept_shown m before after i j keeps first second
fails_own_shown m before after fills refuses fault i j (not_changed batch ready keeps online filled fails) first second =
    let ready_tells : Tells m ready.disk i = record {
      told = keeps.disk.tells ∙ first.told;
      held = keeps.disk.held ∙ first.held;
    } in
    fails_batch_shown m ready after batch fault i j fails ready_tells second
    ∙ ap (λ (d : DirtyPages). shown d i) keeps.dirty

failed_shown : {D : Type 0} (m : Meaning D) (rec : RecId) (now after : Pool D FireLinks) (fault : SpaceFault)
    (i j : Image) → FailsStep m rec now after fault → Tells m now.disk i → Tells m after.disk j
    → shown after.dirty j ≡ shown now.dirty i
failed_shown m rec now after fault i j (not_read fails) first second =
    kept_shown m now after i j fails.keeps first second
failed_shown m rec now after fault i j (not_dropped holder newer followed fails) first second =
    fails_own_shown m now after _ _ fault i j fails first second
failed_shown m rec now after fault i j (not_taken_out link leads fails) first second =
    fails_own_shown m now after _ _ fault i j fails first second

-- ---- parts

-- a disk that tells holds an image
abbrev pub Holds : {D : Type 0} → Meaning D → Type 0
Holds {D} m = (disk : D) → m.tells disk ≡ true
    → (image : Image) × (m.held disk ≡ Some image) × MayLeave m disk image

-- the image that it holds
pub record IsHeld {D : Type 0} (m : Meaning D) (disk : D) : Type 0 where
  pub image : Image
  pub tells : Tells m disk image

pub held_now : {D : Type 0} (m : Meaning D) → Holds m → (disk : D) → m.tells disk ≡ true → IsHeld m disk
held_now m holds disk told = by (holds disk told)
  where
    by : (image : Image) × (m.held disk ≡ Some image) × MayLeave m disk image → IsHeld m disk
    by (image, held, may) = record { image = image; tells = record { told = told; held = held } }

module _ {D : Type 0} (m : Meaning D) (state : ℕ → TxState) (live : State) (rec : RecId)
    (f : List Entry → List Entry) where
  -- nothing is done
  pub does_nothing : (before after : Pool D FireLinks) → KeepsStore m before after → StaysOnline m before after
      → ((i : Image) → Tells m before.disk i → (es : List Entry) → HasInOrder (cells_of (shown before.dirty i)) rec es → f es ≡ es) → DoesPart m before after state live rec f false
  does_nothing before after keeps online same = record {
    steps = reads_on false before after starts keeps online;
    left = λ i j first second es has.
        subst (λ (xs : List Entry). LeavesTold (shown before.dirty i) (shown after.dirty j) rec es xs false)
        (sym (same i first es has))
        (same_leaves (shown before.dirty i) (shown after.dirty j) rec es (kept_shown m before after i j keeps first second)
        has);
  }

  -- one step is made
  pub does_step : (before ready after : Pool D FireLinks) → KeepsStore m before ready → StaysOnline m before ready
      → CollectStep m state live rec ready after
      → ((i j : Image) → Tells m before.disk i → Tells m after.disk j → (es : List Entry)
      → HasInOrder (cells_of (shown before.dirty i)) rec es
      → LeavesTold (shown before.dirty i) (shown after.dirty j) rec es (f es) true)
      → DoesPart m before after state live rec f true
  does_step before ready after keeps online step left = record {
    steps = one_more false ready after (reads_on false before ready starts keeps online) step;
    left = left;
  }

  -- it goes no further behind some steps
  pub fails_behind : Holds m → (start now after : Pool D FireLinks) (some : Bool) (fault : SpaceFault)
      → Steps m state live rec start some now → FailsStep m rec now after fault
      → ((i k : Image) → Tells m start.disk i → Tells m now.disk k → (es : List Entry)
      → HasInOrder (cells_of (shown start.dirty i)) rec es
      → LeavesAtLeast (shown start.dirty i) (shown now.dirty k) rec es (f es))
      → FailsPart m start after state live rec f fault
  fails_behind holds start now after some fault steps fails least = record {
    some = some;
    now = now;
    steps = steps;
    fails = fails;
    left = λ i j first second es has.
        let mid = held_now m holds now.disk (steps_told m state live rec start now some steps ∙ first.told) in
        subst (λ (pages : Pages). LeavesAtLeast (shown start.dirty i) pages rec es (f es))
        (sym (failed_shown m rec now after fault mid.image j fails mid.tells second))
        (least i mid.image first mid.tells es has);
  }

  -- it goes no further at all
  pub fails_first : Holds m → (start now after : Pool D FireLinks) (fault : SpaceFault)
      → Steps m state live rec start false now
      → ((i k : Image) → Tells m start.disk i → Tells m now.disk k → shown now.dirty k ≡ shown start.dirty i)
      → FailsStep m rec now after fault → ((es : List Entry) → AreSomeOf (f es) es)
      → FailsPart m start after state live rec f fault
  fails_first holds start now after fault steps same fails some =
      fails_behind holds start now after false fault steps fails (λ i k first second es has. record {
        left = es;
        gone = false;
        leaves = same_leaves (shown start.dirty i) (shown now.dirty k) rec es (same i k first second) has;
        least_left = some es;
      })

-- nothing was read before, or pages were
pub fails_at_once : {D : Type 0} (m : Meaning D) (state : ℕ → TxState) (live : State) (rec : RecId)
    (f : List Entry → List Entry) → Holds m → (start after : Pool D FireLinks)
    (fault : SpaceFault) → FailsStep m rec start after fault → ((es : List Entry) → AreSomeOf (f es) es)
    → FailsPart m start after state live rec f fault
fails_at_once m state live rec f holds start after fault fails some =
    fails_first m state live rec f holds start start after fault starts
    (λ i k first second. ap (shown start.dirty) (one_image k i (sym second.held ∙ first.held))) fails some

pub fails_after : {D : Type 0} (m : Meaning D) (state : ℕ → TxState) (live : State) (rec : RecId)
    (f : List Entry → List Entry) → Holds m → (start now after : Pool D FireLinks)
    (fault : SpaceFault) → KeepsStore m start now → StaysOnline m start now → FailsStep m rec now after fault
    → ((es : List Entry) → AreSomeOf (f es) es) → FailsPart m start after state live rec f fault
fails_after m state live rec f holds start now after fault keeps online fails some =
    fails_first m state live rec f holds start now after fault (reads_on false start now starts keeps online)
    (λ i k first second. kept_shown m start now i k keeps first second) fails some

-- ---- one part after another

module _ {D : Type 0} (m : Meaning D) (holds : Holds m) (state : ℕ → TxState) (live : State) (rec : RecId)
    (f g : List Entry → List Entry) (before mid after : Pool D FireLinks) (a : Bool)
    (first : DoesPart m before mid state live rec f a) where
  between : (i : Image) → Tells m before.disk i → IsHeld m mid.disk
  between i tells = held_now m holds mid.disk (steps_told m state live rec before mid a first.steps ∙ tells.told)

  pub part_on : (b : Bool) → DoesPart m mid after state live rec g b
      → DoesPart m before after state live rec (λ es. g (f es)) (a || b)
  part_on b second = record {
    steps = steps_then m state live rec before mid after a b first.steps second.steps;
    left = λ i j tells later es has.
        let it = between i tells in
        let one = first.left i it.image tells it.tells es has in
        let two = second.left it.image j it.tells later (f es) one.leaves.its in
        leaves_on (shown before.dirty i) (shown mid.dirty it.image) (shown after.dirty j) rec es (f es) (g (f es)) a b
        one two;
  }

  pub part_fails : (fault : SpaceFault) → FailsPart m mid after state live rec g fault
      → FailsPart m before after state live rec (λ es. g (f es)) fault
  part_fails fault second = record {
    some = a || second.some;
    now = second.now;
    steps = steps_then m state live rec before mid second.now a second.some first.steps second.steps;
    fails = second.fails;
    left = λ i j tells later es has.
        let it = between i tells in
        let one = first.left i it.image tells it.tells es has in
        let two = second.left it.image j it.tells later (f es) one.leaves.its in
        least_on (shown before.dirty i) (shown mid.dirty it.image) (shown after.dirty j) rec es (f es) (g (f es)) a
        one two;
  }

-- what is left of more is left of less
pub fails_fewer : {D : Type 0} (m : Meaning D) (state : ℕ → TxState) (live : State) (rec : RecId)
    (f g : List Entry → List Entry) (before after : Pool D FireLinks) (fault : SpaceFault)
    → ((es : List Entry) → AreSomeOf (g es) (f es)) → FailsPart m before after state live rec f fault
    → FailsPart m before after state live rec g fault
fails_fewer m state live rec f g before after fault some it = record {
  some = it.some;
  now = it.now;
  steps = it.steps;
  fails = it.fails;
  left = λ i j tells later es has. fewer_least (shown before.dirty i) (shown after.dirty j) rec es (f es) (g es)
      (some es) (it.left i j tells later es has);
}
