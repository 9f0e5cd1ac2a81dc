-- Pages that nothing links change in the pool, and in an overlay some of them or none.
use Rattle.mg_pointer.specs.PointerPage.{next_in}
use Rattle.mg_image_overlay_laws.specs.pages.Reach.{pointers_front}
use Rattle.mg_image_overlay_laws.specs.pages.Kinds.{pointer_linked, pointers_of, stands_linked}
use Rattle.mg_base.specs.declared.transaction.TxState.{TxState}
use Rattle.mg_header.specs.declared.header.Header.{Header}
use Rattle.mg_image.specs.Form.{Form, Pages}
use Rattle.mg_image.specs.Held.{AreChanges, IsHeld}
use Rattle.mg_image.specs.Inventory.{header_of, is_used, last_sequence, next_of, tip_page}
use Rattle.mg_image.specs.RecordRules.{Facts, committed_in}
use Rattle.mg_image.specs.Records.{Reading}
use Rattle.mg_image.specs.Sound.{IsSoundBy, facts_by}
use Rattle.mg_image.specs.Tables.{Has, Layout, stands_of}
use Rattle.mg_image_overlay_laws.specs.pages.BehindTrees.{behind_stays}
use Rattle.mg_image_overlay_laws.specs.pages.Frame.{KeepsLinked, facts_same, frame_sound, header_as, tip_kept}
use Rattle.mg_image_overlay_laws.specs.records.Fronts.{HasFronts}
use Rattle.mg_image_overlay_laws.specs.pages.Grow.{last_is, tip_is}
use Rattle.mg_image_overlay_laws.specs.kept.Rest.{div_grows}
use Rattle.mg_image_overlay_laws.specs.kept.KeptImages.{IsKept}
use Rattle.mg_model.specs.History.{Entries}
use Rattle.mg_model.specs.declared.opening.Opening.{Opening}
use Rattle.mg_tip.specs.TipPage.{places}
use Rattle.std.proofs.Common.{List, ap, arith, refl, subst, sym, true, ℕ, ◌-◌, ◌∙◌, ◌≡◌, ◌≢◌, ◌≤◌}

module _ (form : Form) (size : ℕ) (state : ℕ → TxState) (old new : Pages) (layout : Layout)
    (r : Reading) (sound : IsSoundBy form size state old layout r)
    (keeps : KeepsLinked form size old new layout) where
  pub tip_page_is : (sequence : ℕ) → sequence ≤ last_sequence size old
      → tip_page size new sequence ≡ tip_page size old sequence
  tip_page_is = tip_is size old new keeps.header_page keeps.used keeps.lengths sound.header
      sound.transactions (tip_kept form size state old new layout r sound keeps)

  pub tip_content_is : (sequence : ℕ) → sequence ≤ last_sequence size old
      → new (tip_page size new sequence) ≡ old (tip_page size old sequence)
  tip_content_is sequence below = ap new (tip_page_is sequence below)
      ∙ tip_kept form size state old new layout r sound keeps sequence below

  pub last_sequence_is : last_sequence size new ≡ last_sequence size old
  last_sequence_is = last_is size old new keeps.header_page keeps.used keeps.lengths sound.header
      sound.transactions (tip_kept form size state old new layout r sound keeps)

unfoldable pub frame_kept : (form : Form) (size : ℕ) (o : Opening) (h : Entries) (state : ℕ → TxState)
    (pool changed image laid : Pages) (kept : IsKept form size o h state pool image)
    → KeepsLinked form size pool changed kept.of_pool → KeepsLinked form size image laid kept.layout
    -- what is used in the overlay is used in the pool
    → ((n : ℕ) → is_used size laid n ≡ true → is_used size changed n ≡ true)
    → IsKept form size o h state changed laid
frame_kept form size o h state pool changed image laid kept of_pool of_image used = record {
  of_pool = kept.of_pool;
  in_pool = kept.in_pool;
  layout = kept.layout;
  reading = kept.reading;
  sound = frame_sound form size state image laid kept.layout kept.reading kept.sound of_image;
  pool_sound = frame_sound form size state pool changed kept.of_pool kept.in_pool kept.pool_sound of_pool;
  behind = record {
    next = subst (λ (h : Header). h.next.0 ≤ next_of changed) (sym image_header)
        (subst (λ (h : Header). next_of image ≤ h.next.0) (sym pool_header) kept.behind.next);
    used = used;
    stands = kept.behind.stands;
    chained = chained;
    tips = λ sequence below. tips sequence (subst (λ (m : ℕ). sequence ≤ m)
        (last_sequence_is form size state image laid kept.layout kept.reading kept.sound of_image) below);
    trees = behind_stays pool changed image laid form.in_primary size (stands_of kept.of_pool)
        (stands_of kept.layout) kept.pool_sound.tables
        (λ m is seven. of_pool.linked m (stands_linked size pool kept.of_pool m is)) kept.behind.trees;
  };
  fronts = subst (λ (f : Facts). HasFronts f (facts_by state laid kept.layout) kept.in_pool kept.reading)
      (sym pool_facts) (subst (λ (g : Facts). HasFronts (facts_by state pool kept.of_pool) g
      kept.in_pool kept.reading) (sym image_facts) kept.fronts);
  rows = kept.rows;
  held = subst (λ (g : Facts). IsHeld g (committed_in g) kept.reading kept.rows) (sym image_facts) kept.held;
  rows_are = kept.rows_are;
  changes = kept.changes;
  changed = subst (λ (g : Facts). AreChanges g kept.reading kept.changes) (sym image_facts) kept.changed;
  changes_are = kept.changes_are;
}
  where
    chained : (m : ℕ) → Has (pointers_of (stands_of kept.layout)) m → next_in (laid m) ≢ 0
        → laid m ≡ changed m
    chained m is some_ = stays ∙ (kept.behind.chained m is
        (subst (λ (page : List ℕ). next_in page ≢ 0) stays some_)
        ∙ sym (of_pool.linked m (stands_linked size pool kept.of_pool m
        (pointers_front (stands_of kept.layout) (stands_of kept.of_pool) kept.behind.stands m is))))
      where
        stays : laid m ≡ image m
        stays = of_image.linked m (pointer_linked size image kept.layout m is)

    image_header : header_of laid ≡ header_of image
    image_header = header_as form size state image laid kept.layout kept.reading kept.sound of_image

    pool_header : header_of changed ≡ header_of pool
    pool_header = header_as form size state pool changed kept.of_pool kept.in_pool kept.pool_sound of_pool

    image_facts : facts_by state laid kept.layout ≡ facts_by state image kept.layout
    image_facts = facts_same form size state image laid kept.layout kept.reading kept.sound of_image

    pool_facts : facts_by state changed kept.of_pool ≡ facts_by state pool kept.of_pool
    pool_facts = facts_same form size state pool changed kept.of_pool kept.in_pool kept.pool_sound of_pool

    last_within : last_sequence size image ≤ last_sequence size pool
    last_within = div_grows (next_of image - 1) (next_of pool - 1) (places size)
        (let next = kept.behind.next in omega arith)

    tips : (sequence : ℕ) → sequence ≤ last_sequence size image
        → (tip_page size laid sequence ≡ tip_page size changed sequence)
        × (laid (tip_page size laid sequence) ≡ changed (tip_page size changed sequence))
    tips sequence below =
        let within : sequence ≤ last_sequence size pool = omega (arith, below, last_within) in (
          tip_page_is form size state image laid kept.layout kept.reading kept.sound of_image sequence below
              ∙ ((kept.behind.tips sequence below).0 ∙ sym (tip_page_is form size state pool changed
              kept.of_pool kept.in_pool kept.pool_sound of_pool sequence within)),
          tip_content_is form size state image laid kept.layout kept.reading kept.sound of_image sequence below
              ∙ ((kept.behind.tips sequence below).1 ∙ sym (tip_content_is form size state pool changed
              kept.of_pool kept.in_pool kept.pool_sound of_pool sequence within)),
        )

-- both stand as they did
pub frame_layout : (form : Form) (size : ℕ) (o : Opening) (h : Entries) (state : ℕ → TxState)
    (pool changed image laid : Pages) (kept : IsKept form size o h state pool image)
    (of_pool : KeepsLinked form size pool changed kept.of_pool)
    (of_image : KeepsLinked form size image laid kept.layout)
    (used : (n : ℕ) → is_used size laid n ≡ true → is_used size changed n ≡ true)
    → ((frame_kept form size o h state pool changed image laid kept of_pool of_image used).of_pool
    ≡ kept.of_pool)
    × ((frame_kept form size o h state pool changed image laid kept of_pool of_image used).layout
    ≡ kept.layout)
unfolding frame_kept
frame_layout form size o h state pool changed image laid kept of_pool of_image used = (refl, refl)
