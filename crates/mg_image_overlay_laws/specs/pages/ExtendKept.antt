-- A table of the pool gets a page more, and in an overlay it does so, or nothing that is reached changes.
use Rattle.mg_base.specs.declared.transaction.TxState.{TxState}
use Rattle.mg_header.specs.declared.header.Header.{Header}
use Rattle.mg_image.specs.Form.{Form, Pages}
use Rattle.mg_image.specs.Held.{AreChanges, IsHeld}
use Rattle.mg_image.specs.Inventory.{header_of, is_used, last_sequence, next_of, tip_page}
use Rattle.mg_image.specs.RecordRules.{Facts, committed_in}
use Rattle.mg_image.specs.Sound.{facts_by}
use Rattle.mg_image.specs.Tables.{Has, Layout, stands_of}
use Rattle.mg_image_overlay_laws.specs.pages.Frame.{KeepsLinked, facts_same, frame_sound, header_as as frame_header, tip_kept}
use Rattle.mg_image_overlay_laws.specs.pages.Grow.{last_is, tip_is}
use Rattle.mg_image_overlay_laws.specs.pages.Kinds.{pointers_of}
use Rattle.mg_image_overlay_laws.specs.kept.Rest.{div_grows}
use Rattle.mg_image_overlay_laws.specs.kept.KeptImages.{AreFrontStands, IsBehind, IsKept, StandsBehind}
use Rattle.mg_model.specs.History.{Entries}
use Rattle.mg_model.specs.declared.opening.Opening.{Opening}
use Rattle.mg_pointer.specs.PointerPage.{next_in}
use Rattle.mg_image_overlay_laws.specs.pages.ExtendSound.{Extends, extend_changes, extend_held, extend_sound, header_as}
use Rattle.mg_tip.specs.TipPage.{places}
use Rattle.std.proofs.Common.{ap, arith, refl, subst, sym, true, ℕ, ◌-◌, ◌∙◌, ◌≡◌, ◌≢◌, ◌≤◌}

module _ (form : Form) (size : ℕ) (o : Opening) (h : Entries) (state : ℕ → TxState)
    (pool changed image laid : Pages) (n : ℕ) (kept : IsKept form size o h state pool image)
    (pool_after : Layout) (pool_extends : Extends form size pool changed kept.of_pool pool_after n) where
  pool_header : header_of changed ≡ header_of pool
  pool_header = header_as form size state pool changed kept.of_pool pool_after kept.in_pool n
      kept.pool_sound pool_extends

  -- an image is behind the pool still, where its header and its pages of transactions stay
  module _ (layout_after : Layout)
      (used : (m : ℕ) → is_used size laid m ≡ true → is_used size changed m ≡ true)
      (stands : AreFrontStands (stands_of layout_after) (stands_of pool_after))
      (chained : (m : ℕ) → Has (pointers_of (stands_of layout_after)) m → next_in (laid m) ≢ 0
      → laid m ≡ changed m)
      (trees : StandsBehind changed laid (stands_of pool_after) (stands_of layout_after)) where
    behind_still : header_of laid ≡ header_of image
        → ((sequence : ℕ) → sequence ≤ last_sequence size image
        → (tip_page size laid sequence ≡ tip_page size image sequence)
        × (laid (tip_page size laid sequence) ≡ image (tip_page size image sequence)))
        → last_sequence size laid ≡ last_sequence size image
        → IsBehind size changed laid pool_after layout_after
    behind_still header tip_same last_same = record {
      next = subst (λ (x : Header). x.next.0 ≤ next_of changed) (sym header)
          (subst (λ (x : Header). next_of image ≤ x.next.0) (sym pool_header) kept.behind.next);
      used = used;
      stands = stands;
      chained = chained;
      tips = λ sequence below. tips sequence (subst (λ (m : ℕ). sequence ≤ m) last_same below);
      trees = trees;
    }
      where
        last_within : last_sequence size image ≤ last_sequence size pool
        last_within = div_grows (next_of image - 1) (next_of pool - 1) (places size)
            (let next = kept.behind.next in omega arith)

        tips : (sequence : ℕ) → sequence ≤ last_sequence size image
            → (tip_page size laid sequence ≡ tip_page size changed sequence)
            × (laid (tip_page size laid sequence) ≡ changed (tip_page size changed sequence))
        tips sequence below =
            let within : sequence ≤ last_sequence size pool = omega (arith, below, last_within) in
            let page : tip_page size changed sequence ≡ tip_page size pool sequence =
            tip_is size pool changed pool_extends.header_page pool_extends.used pool_extends.lengths
            kept.pool_sound.header kept.pool_sound.transactions pool_extends.tips sequence within in
            let content : changed (tip_page size changed sequence) ≡ pool (tip_page size pool sequence) =
            ap changed page ∙ pool_extends.tips sequence within in (
              (tip_same sequence below).0 ∙ ((kept.behind.tips sequence below).0 ∙ sym page),
              (tip_same sequence below).1 ∙ ((kept.behind.tips sequence below).1 ∙ sym content),
            )

  -- an overlay that does not reach the page
  pub extend_out : KeepsLinked form size image laid kept.layout
      → ((m : ℕ) → is_used size laid m ≡ true → is_used size changed m ≡ true)
      → AreFrontStands (stands_of kept.layout) (stands_of pool_after)
      → ((m : ℕ) → Has (pointers_of (stands_of kept.layout)) m → next_in (laid m) ≢ 0 → laid m ≡ changed m)
      → StandsBehind changed laid (stands_of pool_after) (stands_of kept.layout)
      → IsKept form size o h state changed laid
  extend_out keeps used stands chained trees = record {
    of_pool = pool_after;
    in_pool = kept.in_pool;
    layout = kept.layout;
    reading = kept.reading;
    sound = frame_sound form size state image laid kept.layout kept.reading kept.sound keeps;
    pool_sound = extend_sound form size state pool changed kept.of_pool pool_after kept.in_pool n
        kept.pool_sound pool_extends;
    behind = behind_still kept.layout used stands chained trees
        (frame_header form size state image laid kept.layout kept.reading kept.sound keeps) tips
        (last_is size image laid keeps.header_page keeps.used keeps.lengths kept.sound.header
        kept.sound.transactions (tip_kept form size state image laid kept.layout kept.reading kept.sound
        keeps));
    fronts = record { state = λ t. refl; fronts = kept.fronts.fronts };
    rows = kept.rows;
    held = subst (λ (e : Facts). IsHeld e (committed_in e) kept.reading kept.rows) (sym facts) kept.held;
    rows_are = kept.rows_are;
    changes = kept.changes;
    changed = subst (λ (e : Facts). AreChanges e kept.reading kept.changes) (sym facts) kept.changed;
    changes_are = kept.changes_are;
  }
    where
      facts : facts_by state laid kept.layout ≡ facts_by state image kept.layout
      facts = facts_same form size state image laid kept.layout kept.reading kept.sound keeps

      tips : (sequence : ℕ) → sequence ≤ last_sequence size image
          → (tip_page size laid sequence ≡ tip_page size image sequence)
          × (laid (tip_page size laid sequence) ≡ image (tip_page size image sequence))
      tips sequence below =
          let content = tip_kept form size state image laid kept.layout kept.reading kept.sound keeps in
          let page : tip_page size laid sequence ≡ tip_page size image sequence =
          tip_is size image laid keeps.header_page keeps.used keeps.lengths kept.sound.header
          kept.sound.transactions content sequence below in
          (page, ap laid page ∙ content sequence below)

  -- one that does
  pub extend_in : (layout_after : Layout) → Extends form size image laid kept.layout layout_after n
      → ((m : ℕ) → is_used size laid m ≡ true → is_used size changed m ≡ true)
      → AreFrontStands (stands_of layout_after) (stands_of pool_after)
      → ((m : ℕ) → Has (pointers_of (stands_of layout_after)) m → next_in (laid m) ≢ 0
      → laid m ≡ changed m)
      → StandsBehind changed laid (stands_of pool_after) (stands_of layout_after)
      → IsKept form size o h state changed laid
  extend_in layout_after extends used stands chained trees = record {
    of_pool = pool_after;
    in_pool = kept.in_pool;
    layout = layout_after;
    reading = kept.reading;
    sound = extend_sound form size state image laid kept.layout layout_after kept.reading n kept.sound
        extends;
    pool_sound = extend_sound form size state pool changed kept.of_pool pool_after kept.in_pool n
        kept.pool_sound pool_extends;
    behind = behind_still layout_after used stands chained trees
        (header_as form size state image laid kept.layout layout_after kept.reading n kept.sound extends)
        tips (last_is size image laid extends.header_page extends.used extends.lengths kept.sound.header
        kept.sound.transactions extends.tips);
    fronts = record { state = λ t. refl; fronts = kept.fronts.fronts };
    rows = kept.rows;
    held = extend_held form size state image laid kept.layout layout_after kept.reading n kept.sound extends
        kept.rows kept.held;
    rows_are = kept.rows_are;
    changes = kept.changes;
    changed = extend_changes form size state image laid kept.layout layout_after kept.reading n kept.sound
        extends kept.changes kept.changed;
    changes_are = kept.changes_are;
  }
    where
      tips : (sequence : ℕ) → sequence ≤ last_sequence size image
          → (tip_page size laid sequence ≡ tip_page size image sequence)
          × (laid (tip_page size laid sequence) ≡ image (tip_page size image sequence))
      tips sequence below =
          let page : tip_page size laid sequence ≡ tip_page size image sequence =
          tip_is size image laid extends.header_page extends.used extends.lengths kept.sound.header
          kept.sound.transactions extends.tips sequence below in
          (page, ap laid page ∙ extends.tips sequence below)
