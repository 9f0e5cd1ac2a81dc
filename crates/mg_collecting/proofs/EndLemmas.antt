-- The newest version of a record is taken out, or stays.
use Rattle.std.proofs.Common.{◌≡◌, ◌∙◌, refl, sym, ap, subst, ℕ, ◌+◌, Bool, true, false, List, [], ◌∷◌, Option, None, Some}
use Rattle.std.specs.Prelude.{is_some, unwrap_or}
use Rattle.mg_base.specs.Disk.{Meaning}
use Rattle.mg_base.specs.Image.{Image}
use Rattle.mg_base.specs.declared.numbers.RecId.{RecId}
use Rattle.mg_base.specs.declared.numbers.TxNo.{TxNo}
use Rattle.mg_base.specs.declared.transaction.TxState.{TxState}
use Rattle.mg_chain.specs.Chains.{Meets, goes_on, newest_link, starts as leads_starts}
use Rattle.mg_chain.specs.Lists.{FreesSlot, PutsSpelled}
use Rattle.mg_chain.specs.Views.{is_dead}
use Rattle.mg_chain.specs.Writing.{TakesOut, leading_to}
use Rattle.mg_image.specs.Form.{Pages}
use Rattle.mg_image.specs.Records.{cells_of, newest_of, writer}
use Rattle.mg_image.specs.declared.entry.Entry.{Entry}
use Rattle.mg_pool.specs.Batch.{Changed, content_in}
use Rattle.mg_pool.specs.Fault.{StaysOnline}
use Rattle.mg_pool.specs.Pool.{shown}
use Rattle.mg_pool.specs.declared.batch.BatchPage.{BatchPage}
use Rattle.mg_pool.specs.declared.pool.Pool.{Pool}
use Rattle.mg_batches.specs.Batches.{nothing_yet}
use Rattle.mg_row_writes.specs.Changing.{TakesNewestOut}
use Rattle.mg_seek.specs.Speaking.{is_erased_for_all}
use Rattle.mg_snap.specs.Live.{State}
use Rattle.mg_space.specs.View.{KeepsStore, Tells, viewed}
use Rattle.mg_space.specs.ViewLaws.{tells_on}
use Rattle.mg_space.specs.declared.links.FireLinks.{FireLinks}
use Rattle.mg_version.specs.declared.cell.Link.{Link}
use Rattle.mg_version.specs.declared.cell.Version.{Version}
use Rattle.mg_collecting.specs.Leaving.{AreLinked, HasInOrder, LeavesTold, first_link}
use Rattle.mg_collecting.specs.Remaining.{without_dead, without_erased}
use Rattle.mg_collecting.specs.Steps.{DoesPart, IsFollowed, TakesDead, TakesErased, takes_dead, takes_erased}
use Rattle.mg_collecting.proofs.PartLemmas.{does_nothing, does_step, kept_shown, own_more, own_shown, tells_back}
use Rattle.mg_collecting.proofs.ShownLemmas.{one_link, one_version, out_shown}
use Rattle.mg_collecting.proofs.StandLemmas.{Begins, begins, leads_on}

-- what is seen by a batch without pages is what is shown
pub at_empty : {D L : Type 0} (store : Pool D L) (image : Image) (batch : Changed) → batch.pages ≡ []
    → (P : List BatchPage → Pages → Type 0) → P batch.pages (viewed store image batch) → P [] (shown store.dirty image)
at_empty store image batch empty P given =
    subst (λ (pages : List BatchPage). P pages (λ n. unwrap_or (content_in pages n) (shown store.dirty image n))) empty
    given

no_versions : (es : List Entry) → first_link es ≡ None → es ≡ []
no_versions [] is = refl
no_versions (e ∷ es) is = absurd cc

module _ {D : Type 0} (m : Meaning D) (state : ℕ → TxState) (live : State) (rec : RecId) (before : Pool D FireLinks)
    (found : Option Link) (gives : (image : Image) → Tells m before.disk image
    → found ≡ newest_link (shown before.dirty image) rec) where
  its_first : (i : Image) → Tells m before.disk i → (es : List Entry)
      → HasInOrder (cells_of (shown before.dirty i)) rec es → first_link es ≡ found
  its_first i tells es has = sym has.slot ∙ sym (gives i tells)

  module _ (after : Pool D FireLinks) (keeps : KeepsStore m before after) (online : StaysOnline m before after) where
    -- a slot has no versions
    pub none_dead : found ≡ None → DoesPart m before after state live rec (without_dead state) false
    none_dead none = does_nothing m state live rec (without_dead state) before after keeps online
        (λ i tells es has. subst (λ (xs : List Entry). without_dead state xs ≡ xs)
        (sym (no_versions es (its_first i tells es has ∙ none))) refl)

    pub none_erased : found ≡ None → DoesPart m before after state live rec (without_erased state live) false
    none_erased none = does_nothing m state live rec (without_erased state live) before after keeps online
        (λ i tells es has. subst (λ (xs : List Entry). without_erased state live xs ≡ xs)
        (sym (no_versions es (its_first i tells es has ∙ none))) refl)

    stays_there : (e : Entry) (fs : List Entry) → is_dead (state (writer e)) ≡ false
        → without_dead state (e ∷ fs) ≡ e ∷ fs
    stays_there e fs lives = rw lives refl

    -- the newest version is no dead transaction's
    pub not_dead : (first : Link) → found ≡ Some first → is_dead (state first.tx.0) ≡ false
        → DoesPart m before after state live rec (without_dead state) false
    not_dead first some lives = does_nothing m state live rec (without_dead state) before after keeps online
        (λ i tells es has. by es (begins es first (its_first i tells es has ∙ some)))
      where
        by : (es : List Entry) → Begins es first → without_dead state es ≡ es
        by es it = subst (λ (xs : List Entry). without_dead state xs ≡ xs) (sym it.is)
            (stays_there it.first it.rest (subst (λ (l : Link). is_dead (state l.tx.0) ≡ false) it.link lives))

    more_stay : (e : Entry) (fs : List Entry) → is_some (first_link fs) ≡ true
        → without_erased state live (e ∷ fs) ≡ e ∷ fs
    more_stay e [] some = absurd cc
    more_stay e (d ∷ ds) some = refl

    shown_stay : (e : Entry) (fs : List Entry) → is_erased_for_all state live e.version ≡ false
        → without_erased state live (e ∷ fs) ≡ e ∷ fs
    shown_stay e [] stays = rw stays refl
    shown_stay e (d ∷ ds) stays = refl

    module _ (first : Link) (some : found ≡ Some first) (met : Version) (meets : (image : Image)
        → Tells m before.disk image → Meets (cells_of (shown before.dirty image)) first met) where
      -- a version is behind the newest one
      pub not_alone : is_some met.back ≡ true → DoesPart m before after state live rec (without_erased state live) false
      not_alone behind = does_nothing m state live rec (without_erased state live) before after keeps online
          (λ i tells es has. by i tells es has (begins es first (its_first i tells es has ∙ some)))
        where
          by : (i : Image) → Tells m before.disk i → (es : List Entry)
              → HasInOrder (cells_of (shown before.dirty i)) rec es → Begins es first → without_erased state live es ≡ es
          by i tells es has it = subst (λ (xs : List Entry). without_erased state live xs ≡ xs) (sym it.is)
              (more_stay it.first it.rest (ap (λ (l : Option Link). is_some l)
              (sym (leads_on (cells_of (shown before.dirty i)) it.first it.rest first met
              (subst (AreLinked (cells_of (shown before.dirty i))) it.is has.linked) it.link (meets i tells))) ∙ behind))

      -- the newest version is no deletion that every base sees
      pub not_erased : is_erased_for_all state live met ≡ false
          → DoesPart m before after state live rec (without_erased state live) false
      not_erased stays = does_nothing m state live rec (without_erased state live) before after keeps online
          (λ i tells es has. by i tells es has (begins es first (its_first i tells es has ∙ some)))
        where
          by : (i : Image) → Tells m before.disk i → (es : List Entry)
              → HasInOrder (cells_of (shown before.dirty i)) rec es → Begins es first → without_erased state live es ≡ es
          by i tells es has it = subst (λ (xs : List Entry). without_erased state live xs ≡ xs) (sym it.is)
              (shown_stay it.first it.rest (sym (ap (λ (v : Version). is_erased_for_all state live v) same) ∙ stays))
            where
              linked : AreLinked (cells_of (shown before.dirty i)) (it.first ∷ it.rest)
              linked = subst (AreLinked (cells_of (shown before.dirty i))) it.is has.linked

              same : met ≡ leading_to it.first.version (first_link it.rest)
              same = one_version met (leading_to it.first.version (first_link it.rest))
                  (sym (meets i tells).cell ∙ (ap (λ (l : Link). cells_of (shown before.dirty i) l.rec) it.link
                  ∙ linked.0))

  -- ---- it is taken out

  module _ (puts : PutsSpelled) (frees : FreesSlot) (ready after : Pool D FireLinks) (keeps : KeepsStore m before ready)
      (online : StaysOnline m before ready) (own : TakesNewestOut m ready after rec) where
    taken_left : (i j : Image) → Tells m before.disk i → Tells m after.disk j → (e : Entry) (fs : List Entry)
        → HasInOrder (cells_of (shown before.dirty i)) rec (e ∷ fs)
        → LeavesTold (shown before.dirty i) (shown after.dirty j) rec (e ∷ fs) fs true
    taken_left i j tells later e fs has =
        let at_ready = tells_on m before ready i keeps tells in
        let same = kept_shown m before ready i i keeps tells at_ready in
        subst (λ (pages : Pages). LeavesTold pages (shown after.dirty j) rec (e ∷ fs) fs true) same
        (out_shown puts frees ready i (shown after.dirty j) own.batch
        (own_shown m ready own.ready after own.batch i j own.keeps own.changed at_ready later) rec e fs
        (subst (λ (pages : Pages). HasInOrder (cells_of pages) rec (e ∷ fs)) (sym same) has) (own.filled i at_ready))

    -- the link that is taken out is the one that was found
    is_found : (image : Image) (batch : Changed) (first : Link) → found ≡ Some first → Tells m ready.disk image
        → (takes : TakesOut ready image nothing_yet batch rec) → takes.newest ≡ first
    is_found image batch first some tells takes =
        let back = tells_back m before ready image keeps tells in
        one_link takes.newest first (sym (ap (newest_of rec) takes.its.head.slot)
        ∙ (ap (λ (pages : Pages). newest_link pages rec) (kept_shown m before ready image image keeps back tells)
        ∙ (sym (gives image back) ∙ some)))

    dead_gone : (e : Entry) (fs : List Entry) → is_dead (state (writer e)) ≡ true → without_dead state (e ∷ fs) ≡ fs
    dead_gone e fs dead = rw dead refl

    pub dead_taken : (first : Link) → found ≡ Some first → is_dead (state first.tx.0) ≡ true
        → DoesPart m before after state live rec (without_dead state) true
    dead_taken first some dead = does_step m state live rec (without_dead state) before ready after keeps online
        (takes_dead (own_more m ready after (λ image batch. TakesOut ready image nothing_yet batch rec)
        (λ image batch. TakesDead ready image state rec batch) own (λ image batch tells takes. record {
          takes = takes;
          dead = ap (λ (t : ℕ). is_dead (state t)) (ap (λ (t : TxNo). t.0) takes.its.meets.by)
              ∙ (ap (λ (l : Link). is_dead (state l.tx.0)) (is_found image batch first some tells takes) ∙ dead);
        })))
        (λ i j tells later es has. by i j tells later es has (begins es first (its_first i tells es has ∙ some)))
      where
        by : (i j : Image) → Tells m before.disk i → Tells m after.disk j → (es : List Entry)
            → HasInOrder (cells_of (shown before.dirty i)) rec es → Begins es first
            → LeavesTold (shown before.dirty i) (shown after.dirty j) rec es (without_dead state es) true
        by i j tells later es has it =
            subst (λ (xs : List Entry). LeavesTold (shown before.dirty i) (shown after.dirty j) rec xs
            (without_dead state xs) true) (sym it.is)
            (subst (λ (xs : List Entry). LeavesTold (shown before.dirty i) (shown after.dirty j) rec (it.first ∷ it.rest)
            xs true)
            (sym (dead_gone it.first it.rest (subst (λ (l : Link). is_dead (state l.tx.0) ≡ true) it.link dead)))
            (taken_left i j tells later it.first it.rest
            (subst (HasInOrder (cells_of (shown before.dirty i)) rec) it.is has)))

    erased_gone : (e : Entry) (fs : List Entry) → first_link fs ≡ None → is_erased_for_all state live e.version ≡ true
        → without_erased state live (e ∷ fs) ≡ fs
    erased_gone e [] none erased = rw erased refl
    erased_gone e (d ∷ ds) none erased = absurd cc

    module _ (first : Link) (some : found ≡ Some first) (met : Version) (meets : (image : Image)
        → Tells m before.disk image → Meets (cells_of (shown before.dirty image)) first met)
        (alone : met.back ≡ None) (erased : is_erased_for_all state live met ≡ true) where
      was_met : (image : Image) (batch : Changed) → Tells m ready.disk image
          → (takes : TakesOut ready image nothing_yet batch rec) → takes.was ≡ met
      was_met image batch tells takes =
          let back = tells_back m before ready image keeps tells in
          one_version takes.was met (sym takes.its.meets.cell
          ∙ (ap (λ (l : Link). cells_of (shown ready.dirty image) l.rec) (is_found image batch first some tells takes)
          ∙ (ap (λ (pages : Pages). cells_of pages first.rec) (kept_shown m before ready image image keeps back tells)
          ∙ (meets image back).cell)))

      pub erased_taken : DoesPart m before after state live rec (without_erased state live) true
      erased_taken = does_step m state live rec (without_erased state live) before ready after keeps online
          (takes_erased (own_more m ready after (λ image batch. TakesOut ready image nothing_yet batch rec)
          (λ image batch. TakesErased ready image state live rec batch) own (λ image batch tells takes. record {
            takes = takes;
            erased = ap (λ (v : Version). is_erased_for_all state live v) (was_met image batch tells takes) ∙ erased;
            alone = ap (λ (v : Version). v.back) (was_met image batch tells takes) ∙ alone;
          })))
          (λ i j tells later es has. by i j tells later es has (begins es first (its_first i tells es has ∙ some)))
        where
          by : (i j : Image) → Tells m before.disk i → Tells m after.disk j → (es : List Entry)
              → HasInOrder (cells_of (shown before.dirty i)) rec es → Begins es first
              → LeavesTold (shown before.dirty i) (shown after.dirty j) rec es (without_erased state live es) true
          by i j tells later es has it =
              subst (λ (xs : List Entry). LeavesTold (shown before.dirty i) (shown after.dirty j) rec xs
              (without_erased state live xs) true) (sym it.is)
              (subst (λ (xs : List Entry). LeavesTold (shown before.dirty i) (shown after.dirty j) rec
              (it.first ∷ it.rest) xs true)
              (sym (erased_gone it.first it.rest
              (sym (leads_on (cells_of (shown before.dirty i)) it.first it.rest first met linked it.link (meets i tells))
              ∙ alone)
              (sym (ap (λ (v : Version). is_erased_for_all state live v) same) ∙ erased)))
              (taken_left i j tells later it.first it.rest
              (subst (HasInOrder (cells_of (shown before.dirty i)) rec) it.is has)))
            where
              linked : AreLinked (cells_of (shown before.dirty i)) (it.first ∷ it.rest)
              linked = subst (AreLinked (cells_of (shown before.dirty i))) it.is has.linked

              same : met ≡ leading_to it.first.version (first_link it.rest)
              same = one_version met (leading_to it.first.version (first_link it.rest))
                  (sym (meets i tells).cell ∙ (ap (λ (l : Link). cells_of (shown before.dirty i) l.rec) it.link
                  ∙ linked.0))

-- ---- what is read between

none_of : {A : Type 0} (o : Option A) → is_some o ≡ false → o ≡ None
none_of None is = refl
none_of (Some x) is = absurd cc

-- a version that leads nowhere
pub leads_nowhere : (back : Option Link) (test : Bool) → test ≡ is_some back → test ≡ false → back ≡ None
leads_nowhere back test is no_ = none_of back (sym is ∙ no_)

-- the link that was found leads to the newest version, also after calls that have only read
pub first_leads : {D : Type 0} (m : Meaning D) (rec : RecId) (before ready : Pool D FireLinks) (found : Option Link)
    (first : Link) → ((image : Image) → Tells m before.disk image → found ≡ newest_link (shown before.dirty image) rec)
    → KeepsStore m before ready → found ≡ Some first → (image : Image) → Tells m ready.disk image
    → newest_link (shown ready.dirty image) rec ≡ Some first
first_leads m rec before ready found first gives keeps some image tells =
    let back = tells_back m before ready image keeps tells in
    ap (λ (pages : Pages). newest_link pages rec) (kept_shown m before ready image image keeps back tells)
    ∙ (sym (gives image back) ∙ some)

-- so it is the first that is followed
pub first_followed : {D : Type 0} (m : Meaning D) (rec : RecId) (before ready : Pool D FireLinks) (found : Option Link)
    (first : Link) → ((image : Image) → Tells m before.disk image → found ≡ newest_link (shown before.dirty image) rec)
    → KeepsStore m before ready → found ≡ Some first → (image : Image) → Tells m ready.disk image
    → IsFollowed (shown ready.dirty image) rec rec.page.0 first
first_followed m rec before ready found first gives keeps some image tells = record {
  count = 0;
  follows = leads_starts first (first_leads m rec before ready found first gives keeps some image tells);
}

-- the link by which the newest version leads on is the second
pub second_followed : (view : Pages) (rec : RecId) (first second : Link) (met : Version)
    → newest_link view rec ≡ Some first → Meets (cells_of view) first met → met.back ≡ Some second
    → IsFollowed view rec first.rec.page.0 second
second_followed view rec first second met some meets back = record {
  count = 0 + 1;
  follows = goes_on 0 rec.page.0 first second met (leads_starts first some) meets back;
}

-- the link that was found is the first
pub start_followed : (view : Pages) (rec : RecId) (found : Option Link) (first : Link) → found ≡ newest_link view rec
    → found ≡ Some first → IsFollowed view rec rec.page.0 first
start_followed view rec found first is some = record { count = 0; follows = leads_starts first (sym is ∙ some) }
