-- What an opening gives of a run's promise.
use Rattle.std.proofs.Common.{◌≡◌, ◌⊎◌, inl, inr, ◌≤◌, ◌+◌, ◌*◌, ℕ, true, List, [], Some, refl, sym, ◌∙◌, subst, arith}
use Rattle.mg_base.specs.Disk.{Meaning}
use Rattle.mg_base.specs.Geometry.{is_page_size}
use Rattle.mg_base.specs.Image.{Image, blank, page_at}
use Rattle.mg_base.specs.Moments.{LeavesOnly}
use Rattle.mg_base.specs.Streams.{SinkMeaning}
use Rattle.mg_core.specs.declared.parts.Core.{Core}
use Rattle.mg_engine_meaning_laws.specs.BlankLaws.{header_is_made}
use Rattle.mg_engine_meaning_laws.specs.NewBegins.{NewBegin}
use Rattle.mg_engine_meaning_laws.specs.OpenedLaws.{content_leaves}
use Rattle.mg_engine_meaning_laws.specs.Openings.{BeginsWith, IsNoJudgement, IsOpenedOver, IsSettledOn, IsSoundImage, RefusesOpening, new_history}
use Rattle.mg_format.specs.Format.{IsUnmadeImage, LeavesNew}
use Rattle.mg_header.specs.declared.header.TheConstants.{GREATEST_NEXT}
use Rattle.mg_image.specs.Form.{packed_coding, packed_form}
use Rattle.mg_image.specs.HistoryLaws.{opened_holds, unmade_holds}
use Rattle.mg_image.specs.Opening.{sound_image}
use Rattle.mg_grown_catalog_laws.specs.Grown.{OwnRowsAreNew}
use Rattle.mg_lasting_laws.specs.Crashes.{HoldsFrom}
use Rattle.mg_model.specs.Laws.{OpeningsBegin}
use Rattle.mg_model.specs.History.{Entries}
use Rattle.mg_model.specs.declared.opening.Opening.{Opening}
use Rattle.mg_model.specs.declared.refusal.Refusal.{Refusal}
use Rattle.mg_model.specs.declared.refusal.Refusal.TheVariants as refusals
use Rattle.mg_pool.specs.Pool.{KeepsContent}
use Rattle.mg_space.specs.View.{Tells}
use Rattle.mg_space.specs.ViewLaws.{CountsNow}
use Rattle.mg_run_ends.specs.declared.ending.RunEnd.{RunEnd}
use Rattle.mg_run_ends.specs.Ends.{IsOutside, last_line}
use Rattle.mg_runs.specs.Entry.{IsOpeningOf, TellsWholePages, limit_on, of_new, of_sound}
use Rattle.mg_runs.specs.FaultLaws.{opening_fault}
use Rattle.mg_runs.specs.GoingOnLaws.{goes_on_at, opening_is}
use Rattle.mg_runs.specs.Headline.{AreUnserved, IsOpeningFault, IsSettledAt}
use Rattle.mg_runs.specs.UnjudgedLaws.{outside_unjudged}
use Rattle.mg_runs.specs.Laws.{OpeningsAreJudged}
use Rattle.mg_runs.specs.WithinLaws.{LeavesHeld}
use Rattle.mg_run_ends.specs.Printing.{IsPrinted}

-- ---- images

-- a sound image holds what begins with it
begins_hold : (size : ℕ) (image : Image) (o : Opening) → BeginsWith size image o
    → HoldsFrom packed_form size o [] 0 image
begins_hold size image o it = record {
  k = 0;
  at_least = omega arith;
  at_most = omega arith;
  holds = opened_holds packed_form size (page_at size image) it.opened o 0 (sound_image it.sound) it.begins
      it.whole.first;
  legal = tt;
}

pub is_sound : (size : ℕ) (image : Image) (o : Opening) → BeginsWith size image o → IsSoundImage size image
is_sound size image o it = record {
  layout = it.sound.layout;
  records = it.sound.reading;
  sound = it.sound.sound;
}

-- no database is made on it
not_unmade : (size : ℕ) (image : Image) (o : Opening) → BeginsWith size image o → IsUnmadeImage size image → ⊥
not_unmade size image o it = header_is_made size size image it.sound.sound.header refl

-- an image where a database may be made holds a new one, however many free pages that is promised
unmade_holds_from : (size free : ℕ) (image : Image) → IsUnmadeImage size image
    → HoldsFrom packed_form size (new_history free) [] 0 image
unmade_holds_from size free image unmade = record {
  k = 0;
  at_least = omega arith;
  at_most = omega arith;
  holds = unmade_holds packed_form size (page_at size image) GREATEST_NEXT free 0 unmade;
  legal = tt;
}

-- ---- what a crash leaves since an opening

-- what is known of every image of a run, put in other words, by the disk that tells it
leaves_with : {D : Type 0} (m : Meaning D) (old new : D) (P Q : Image → Type 0)
    → ((t : ℕ) (c : Image) → m.left new t c → P c → Q c) → LeavesOnly m old new P → LeavesOnly m old new Q
leaves_with m old new P Q turn run = record {
  later = run.later;
  each = λ c left. turn (m.moment old) c left (run.each c left);
  before = λ t c early left. other t c left (run.before t c early left);
}
  where
    other : (t : ℕ) (c : Image) → m.left new t c → m.left old t c ⊎ P c → m.left old t c ⊎ Q c
    other t c left (inl was) = inl was
    other t c left (inr is) = inr (turn t c left is)

module _ (new_begin : NewBegin) {D : Type 0} (m : Meaning D) (counts : CountsNow m) (disk new : D) (size : ℕ)
    (image : Image) (entry_whole : TellsWholePages m size) (lawful : is_page_size size ≡ true)
    (sized : m.size new ≡ Some size) (on : IsSettledOn m disk image)
    (unwritten : (IsUnmadeImage size image → ⊥) → KeepsContent m disk new)
    (crash : LeavesOnly m disk new (LeavesNew m disk size)) where
  sound_leaves : (o : Opening) → BeginsWith size image o → LeavesOnly m disk new (HoldsFrom packed_form size o [] 0)
  sound_leaves o it = content_leaves m counts (HoldsFrom packed_form size o [] 0) disk new on.tells.told
      (unwritten (not_unmade size image o it)) (λ c may. subst (HoldsFrom packed_form size o [] 0)
      (sym (on.only c may)) (begins_hold size image o it))

  new_leaves : (free : ℕ) → IsUnmadeImage size image
      → LeavesOnly m disk new (HoldsFrom packed_form size (new_history free) [] 0)
  new_leaves free unmade = leaves_with m disk new (LeavesNew m disk size)
      (HoldsFrom packed_form size (new_history free) [] 0) turn crash
    where
      turn : (t : ℕ) (c : Image) → m.left new t c → LeavesNew m disk size c
          → HoldsFrom packed_form size (new_history free) [] 0 c
      turn t c left (inl may) = subst (HoldsFrom packed_form size (new_history free) [] 0) (sym (on.only c may))
          (unmade_holds_from size free image unmade)
      turn t c left (inr (inl is)) = unmade_holds_from size free c is
      turn t c left (inr (inr made)) = begins_hold size c (new_history free)
          (new_begin free size c lawful made (entry_whole.left new t c sized left))

  pub opening_leaves : (limit : ℕ) (o : Opening) → IsOpeningOf size limit image o
      → LeavesOnly m disk new (HoldsFrom packed_form size o [] 0)
  opening_leaves limit _ (of_new free unmade room) = new_leaves free unmade
  opening_leaves limit _ (of_sound o it has) = sound_leaves o it

-- ---- a disk that was not opened

module _ {D : Type 0} (m : Meaning D) (disk new : D) (limit : ℕ) (refusal : Refusal) (size : ℕ) (image : Image)
    (refused : RefusesOpening m disk new limit refusal) (sized : m.size disk ≡ Some size)
    (on : IsSettledOn m disk image) where
  its_size : m.size new ≡ Some size
  its_size = refused.same.size size sized

  -- by the disk's page size
  pub kept_by_size : (IsUnmadeImage size image → ⊥) → KeepsContent m disk new
  kept_by_size not_ = refused.unwritten image on.tells.held (λ other told is.
      let both : Some other ≡ Some size = sym told ∙ its_size in
      let same : other ≡ size = cc in
      not_ (subst (λ (n : ℕ). IsUnmadeImage n image) same is))

  still_told : KeepsContent m disk new → Tells m new image
  still_told keeps = record {
    told = keeps.tells ∙ on.tells.told;
    held = keeps.held ∙ on.tells.held;
  }

  pub not_judged : (o : Opening) → IsOpeningOf size limit image o → IsNoJudgement refusal
  not_judged _ (of_new free unmade room) = refused.lawful_new size image its_size on.tells unmade
  not_judged _ (of_sound o it has) = refused.lawful size image its_size
      (still_told (kept_by_size (not_unmade size image o it))) (inl (is_sound size image o it))

-- the refusal by which the run has ended then
unserved : {K : Type 0} (n : SinkMeaning K) (before after : K) (refusal : Refusal) (end : RunEnd)
    → IsOpeningFault refusal → IsOutside refusal end → IsPrinted n before after (last_line end)
    → AreUnserved n before after end []
unserved n before after refusal end cause (inl is) last = record {
  refusal = refusal;
  cause = cause;
  ends = is;
  none = refl;
  last = last;
}
unserved n before after refusal end cause (inr (other, is)) last = record {
  refusal = refusals.Memory;
  cause = tt;
  ends = is;
  none = refl;
  last = last;
}

-- it does not end whole, so nothing is said of what is settled
pub nothing_settled : {D : Type 0} (m : Meaning D) (new : D) (size : ℕ) (o : Opening) (entries : Entries)
    (refusal : Refusal) (end : RunEnd) → IsOutside refusal end → IsSettledAt m new size o entries end
nothing_settled m new size o entries refusal end (inl is) = subst (IsSettledAt m new size o entries) (sym is) tt
nothing_settled m new size o entries refusal end (inr (other, is)) =
    subst (IsSettledAt m new size o entries) (sym is) tt

pub openings_are_judged : {D K : Type 0} (m : Meaning D) (n : SinkMeaning K) → CountsNow m → NewBegin
    → OpeningsBegin → OwnRowsAreNew → LeavesHeld m → OpeningsAreJudged m n
openings_are_judged m n counts new_begin begin own_new few disk new limit refusal size image o lines end before after entry refused ends last =
    record {
      entries = [];
      served = inr (unserved n before after refusal end (opening_fault m disk new limit refusal image
          entry.settled.tells refused.cause
          (not_judged m disk new limit refusal size image refused entry.sized entry.settled o entry.opening)) ends last);
      legal = tt;
      room = tt;
      crash = leaves;
      exit = λ c may. leaves.each c (counts new (m.moment disk) c
          (refused.same.tells ∙ entry.settled.tells.told) leaves.later may);
      goes_on = λ least c from. goes_on_at begin own_new size o [] least c
          (begin o (opening_is size limit image o entry.opening).0) (opening_is size limit image o entry.opening).1 from;
      settled = nothing_settled m new size o [] refusal end ends;
      unjudged = outside_unjudged refusal end
          (not_judged m disk new limit refusal size image refused entry.sized entry.settled o entry.opening) ends;
      tells = refused.same.tells;
      sized = refused.same.size size entry.sized;
      within = few new (limit_on limit image) (refused.same.tells ∙ entry.settled.tells.told)
          (λ now held. refused.within image now entry.settled.tells.held held);
    }
  where
    leaves : LeavesOnly m disk new (HoldsFrom packed_form size o [] 0)
    leaves = opening_leaves new_begin m counts disk new size image entry.whole entry.lawful
        (refused.same.size size entry.sized) entry.settled
        (kept_by_size m disk new limit refusal size image refused entry.sized entry.settled)
        (refused.crash size (refused.same.size size entry.sized) image entry.settled.tells) limit o entry.opening

-- ---- an engine that was opened

module _ {D : Type 0} (m : Meaning D) (disk : D) (limit : ℕ) (core : Core D) (size : ℕ) (image : Image)
    (opened : IsOpenedOver m disk limit core) (sized : m.size disk ≡ Some size) where
  pub sized_over : m.size core.store.disk ≡ Some size
  sized_over = opened.same.size size sized

  pub size_over : core.store.geometry.size ≡ size
  size_over = let both : Some core.store.geometry.size ≡ Some size = sym opened.size_is ∙ sized_over in cc

  pub kept_over : IsSettledOn m disk image → (IsUnmadeImage size image → ⊥) → KeepsContent m disk core.store.disk
  kept_over on not_ = opened.unwritten image on.tells.held (λ is. not_
      (subst (λ (n : ℕ). IsUnmadeImage n image) size_over is))

  pub crash_over : IsSettledOn m disk image → LeavesOnly m disk core.store.disk (LeavesNew m disk size)
  crash_over on = subst (λ (n : ℕ). LeavesOnly m disk core.store.disk (LeavesNew m disk n)) size_over
      (opened.crash image on.tells)
