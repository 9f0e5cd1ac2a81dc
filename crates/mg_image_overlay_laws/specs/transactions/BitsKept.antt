-- The bits of a transaction change in the pool and in an overlay that has their page.
use Rattle.std.proofs.Common.{◌≡◌, ◌≢◌, ◌⊎◌, inl, inr, ap, sym, subst, ◌∙◌, arith, ◌≤◌, ◌-◌, ◌/◌, ℕ, List, [], ◌∷◌}
use Rattle.std.proofs.lemmas.Bool.{cases_eq}
use Rattle.mg_base.specs.Fields.{byte}
use Rattle.mg_base.specs.declared.transaction.TxState.{TxState}
use Rattle.mg_header.specs.HeaderPage.{header_in}
use Rattle.mg_header.specs.declared.header.Header.{Header}
use Rattle.mg_model.specs.declared.opening.Opening.{Opening}
use Rattle.mg_model.specs.History.{Entries}
use Rattle.mg_pointer.specs.PointerPage.{next_in}
use Rattle.mg_tip.specs.TipPage.{places, tip_checks}
use Rattle.mg_image.specs.Form.{Form, Pages}
use Rattle.mg_image.specs.Held.{AreChanges, IsHeld}
use Rattle.mg_image.specs.Indexes.{EachPage}
use Rattle.mg_image.specs.Inventory.{header_of, last_sequence, next_of, tip_page}
use Rattle.mg_image.specs.RecordRules.{Facts, committed_in}
use Rattle.mg_image.specs.Records.{Reading}
use Rattle.mg_image.specs.Sound.{IsSoundBy, facts_by}
use Rattle.mg_image.specs.Tables.{Has, Layout, stands_of}
use Rattle.mg_image_overlay_laws.specs.pages.BehindTrees.{behind_stays}
use Rattle.mg_image_overlay_laws.specs.transactions.Bits.{ChangesTip, bits_sound, facts_same, header_same, last_same, tip_same, used_same}
use Rattle.mg_image_overlay_laws.specs.pages.DataSound.{KeepsTrees}
use Rattle.mg_image_overlay_laws.specs.records.Fronts.{HasFronts}
use Rattle.mg_image_overlay_laws.specs.pages.Kinds.{HasNoSequences, pointers_four, pointers_of}
use Rattle.mg_image_overlay_laws.specs.pages.Trees.{trees_stay}
use Rattle.mg_image_overlay_laws.specs.kept.KeptImages.{IsKept}
use Rattle.mg_overlay_laws.specs.Views.{LaysPage}
use Rattle.mg_image_overlay_laws.specs.transactions.Midway.{IsDrawnPlace}

no_sequences : (form : Form) → HasNoSequences form → (old new : Pages) (ns : List ℕ)
    → EachPage (λ n. form.sequence_page (old n) n) ns → EachPage (λ n. form.sequence_page (new n) n) ns
no_sequences form none old new [] each = tt
no_sequences form none old new (n ∷ ns) each = absurd (none (old n) n each.0)

-- trees and sequences do not lie on an inventory page
trees_kept : (form : Form) (size : ℕ) (state : ℕ → TxState) (old new : Pages) (b k : ℕ)
    (layout : Layout) (r : Reading) (sound : IsSoundBy form size state old layout r)
    → ChangesTip old new b k → IsDrawnPlace size old b k → KeepsTrees old new size layout
trees_kept form size state old new b k layout r sound tip drawn =
    trees_stay form size state old new layout r sound
    (λ m used. used_same form size state old new b k layout r sound tip drawn m ∙ used)
    (λ m linked seven. tip.others m (λ e.
    let three : byte (old m) 0 ≡ 3 = ap (λ (n : ℕ). byte (old n) 0) e ∙ tip.kind in
    omega (arith, seven, three)))

module _ (form : Form) (none : HasNoSequences form) (size : ℕ) (o : Opening) (h : Entries)
    (state : ℕ → TxState) (pool changed image laid_ : Pages) (b k : ℕ)
    (kept : IsKept form size o h state pool image) (tip : ChangesTip pool changed b k)
    (drawn : IsDrawnPlace size pool b k) (lays : LaysPage pool changed image laid_ b)
    (header : image 0 ≡ pool 0) where
  tip_laid : ChangesTip image laid_ b k
  tip_laid = record {
    others = lays.others;
    below = tip.below;
    kind = ap (λ (page : List ℕ). byte page 0) lays.was ∙ tip.kind;
    checks = λ page sequence. ap (λ (bytes : List ℕ). tip_checks bytes page sequence) lays.is
        ∙ (tip.checks page sequence
        ∙ sym (ap (λ (bytes : List ℕ). tip_checks bytes page sequence) lays.was));
    prev = rw (lays.is, lays.was) tip.prev;
    len = rw (lays.is, lays.was) tip.len;
    states = λ i ne. rw (lays.is, lays.was) (tip.states i ne);
  }

  header_is : header_of image ≡ header_of pool
  header_is = ap header_in header

  last_is : last_sequence size image ≡ last_sequence size pool
  last_is = ap (λ (x : Header). (x.next.0 - 1) / places size) header_is

  drawn_laid : IsDrawnPlace size image b k
  drawn_laid t past on at_ =
      let last_tip : tip_page size image (last_sequence size image)
      ≡ tip_page size pool (last_sequence size image) =
      (kept.behind.tips (last_sequence size image) (omega arith)).0 in
      drawn t (subst (λ (x : Header). x.next.0 ≤ t) header_is past) (on ∙ last_is)
      (ap (tip_page size pool) (sym last_is) ∙ (sym last_tip ∙ at_))

  pool_after : IsSoundBy form size state changed kept.of_pool kept.in_pool
  pool_after = bits_sound form size state pool changed b k kept.of_pool kept.in_pool kept.pool_sound tip
      drawn (trees_kept form size state pool changed b k kept.of_pool kept.in_pool kept.pool_sound tip drawn)
      (no_sequences form none pool changed kept.of_pool.sequences kept.pool_sound.sequences)

  image_after : IsSoundBy form size state laid_ kept.layout kept.reading
  image_after = bits_sound form size state image laid_ b k kept.layout kept.reading kept.sound tip_laid
      drawn_laid
      (trees_kept form size state image laid_ b k kept.layout kept.reading kept.sound tip_laid drawn_laid)
      (no_sequences form none image laid_ kept.layout.sequences kept.sound.sequences)

  pool_facts : facts_by state changed kept.of_pool ≡ facts_by state pool kept.of_pool
  pool_facts = facts_same form size state pool changed b k kept.of_pool kept.in_pool kept.pool_sound tip
      drawn

  image_facts : facts_by state laid_ kept.layout ≡ facts_by state image kept.layout
  image_facts = facts_same form size state image laid_ b k kept.layout kept.reading kept.sound tip_laid
      drawn_laid

  pool_tip : (sequence : ℕ) → tip_page size changed sequence ≡ tip_page size pool sequence
  pool_tip = tip_same form size state pool changed b k kept.of_pool kept.in_pool kept.pool_sound tip drawn

  image_tip : (sequence : ℕ) → tip_page size laid_ sequence ≡ tip_page size image sequence
  image_tip = tip_same form size state image laid_ b k kept.layout kept.reading kept.sound tip_laid
      drawn_laid

  -- where they were the same they are
  alike : (n : ℕ) → image n ≡ pool n → laid_ n ≡ changed n
  alike n same = at (cases_eq n b)
    where
      at : (n ≡ b) ⊎ (n ≢ b) → laid_ n ≡ changed n
      at (inl e) = ap laid_ e ∙ (lays.is ∙ ap changed (sym e))
      at (inr ne) = lays.others n ne ∙ (same ∙ sym (tip.others n ne))

  pub bits_kept : IsKept form size o h state changed laid_
  bits_kept = record {
    of_pool = kept.of_pool;
    in_pool = kept.in_pool;
    layout = kept.layout;
    reading = kept.reading;
    sound = image_after;
    pool_sound = pool_after;
    behind = record {
      next = subst (λ (x : Header). x.next.0 ≤ next_of changed) (sym image_header)
          (subst (λ (x : Header). next_of image ≤ x.next.0) (sym pool_header) kept.behind.next);
      used = λ n used. used_same form size state pool changed b k kept.of_pool kept.in_pool
          kept.pool_sound tip drawn n ∙ kept.behind.used n (sym (used_same form size state image laid_ b k
          kept.layout kept.reading kept.sound tip_laid drawn_laid n) ∙ used);
      stands = kept.behind.stands;
      chained = chained;
      tips = λ sequence within. tips sequence (subst (λ (m : ℕ). sequence ≤ m)
          (last_same form size state image laid_ b k kept.layout kept.reading kept.sound tip_laid drawn_laid)
          within);
      trees = behind_stays pool changed image laid_ form.in_primary size (stands_of kept.of_pool)
          (stands_of kept.layout) kept.pool_sound.tables
          (λ m is seven. tip.others m (λ e.
          let three : byte (pool m) 0 ≡ 3 = ap (λ (n : ℕ). byte (pool n) 0) e ∙ tip.kind in
          omega (arith, seven, three))) kept.behind.trees;
    };
    fronts = subst (λ (f : Facts). HasFronts f (facts_by state laid_ kept.layout) kept.in_pool kept.reading)
        (sym pool_facts) (subst (λ (g : Facts). HasFronts (facts_by state pool kept.of_pool) g
        kept.in_pool kept.reading) (sym image_facts) kept.fronts);
    rows = kept.rows;
    held = subst (λ (g : Facts). IsHeld g (committed_in g) kept.reading kept.rows) (sym image_facts) kept.held;
    rows_are = kept.rows_are;
    changes = kept.changes;
    changed = subst (λ (g : Facts). AreChanges g kept.reading kept.changes) (sym image_facts) kept.changed;
    changes_are = kept.changes_are;
  }
    where
      image_header : header_of laid_ ≡ header_of image
      image_header = header_same form size state image laid_ b k kept.layout kept.reading kept.sound
          tip_laid drawn_laid

      pool_header : header_of changed ≡ header_of pool
      pool_header = header_same form size state pool changed b k kept.of_pool kept.in_pool kept.pool_sound
          tip drawn

      chained : (m : ℕ) → Has (pointers_of (stands_of kept.layout)) m → next_in (laid_ m) ≢ 0
          → laid_ m ≡ changed m
      chained m is some_ = alike m (kept.behind.chained m is
          (subst (λ (page : List ℕ). next_in page ≢ 0) stays some_))
        where
          stays : laid_ m ≡ image m
          stays = lays.others m (λ e.
              let four : byte (image m) 0 ≡ 4 = pointers_four form.in_primary size image
              (stands_of kept.layout) kept.sound.tables m is in
              let three : byte (image m) 0 ≡ 3 = ap (λ (n : ℕ). byte (image n) 0) e ∙ tip_laid.kind in
              omega (arith, four, three))

      tips : (sequence : ℕ) → sequence ≤ last_sequence size image
          → (tip_page size laid_ sequence ≡ tip_page size changed sequence)
          × (laid_ (tip_page size laid_ sequence) ≡ changed (tip_page size changed sequence))
      tips sequence within =
          let was = kept.behind.tips sequence within in
          let same : tip_page size laid_ sequence ≡ tip_page size changed sequence =
          image_tip sequence ∙ (was.0 ∙ sym (pool_tip sequence)) in
          let content : image (tip_page size image sequence) ≡ pool (tip_page size image sequence) =
          was.1 ∙ ap pool (sym was.0) in (
            same,
            ap laid_ (image_tip sequence) ∙ (alike (tip_page size image sequence) content
                ∙ ap changed (was.0 ∙ sym (pool_tip sequence))),
          )
