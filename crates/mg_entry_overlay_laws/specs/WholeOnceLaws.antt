-- With other trees, too, no page of an image is linked twice.
use Rattle.std.proofs.Common.{◌≡◌, ◌≢◌, ◌⊎◌, inl, inr, refl, sym, ap, ◌∙◌, subst, arith, ◌<◌, ◌≤◌, ◌+◌, ℕ, zero, suc, List, [], ◌∷◌, ◌++◌}
use Rattle.std.specs.List.{flat_map}
use Rattle.mg_base.specs.Fields.{byte}
use Rattle.mg_base.specs.declared.transaction.TxState.{TxState}
use Rattle.mg_tip.specs.TipPage.{tip_checks}
use Rattle.mg_image.specs.Form.{Form, Pages}
use Rattle.mg_image.specs.Indexes.{AreTrees, EachPage}
use Rattle.mg_image.specs.Inventory.{last_sequence, tip_page}
use Rattle.mg_image.specs.Reached.{tips_below, tips_of}
use Rattle.mg_image.specs.Records.{Reading}
use Rattle.mg_image.specs.Sound.{HasTransactions, IsSoundBy}
use Rattle.mg_image.specs.Tables.{EachStand, Has, IsOnce, Layout, pages_of, stands_of}
use Rattle.mg_image_overlay_laws.specs.pages.DataPages.{kind_of}
use Rattle.mg_image_overlay_laws.specs.pages.Kinds.{HasNoSequences}
use Rattle.mg_image_overlay_laws.specs.pages.Reach.{once_apart, once_back, once_front}
use Rattle.mg_tree_overlay_laws.specs.TreeOnceLaws.{once_both}
use Rattle.mg_entry_overlay_laws.specs.Retreed.{LeavesTables, Trees, held_pages, retreed, trees_pages}
use Rattle.mg_entry_overlay_laws.specs.RetreedLaws.{held_same}
use Rattle.mg_entry_overlay_laws.specs.StandsOnceLaws.{both_once, held_in, held_kind, held_once, pages_either, trees_kind}

-- ---- the pages of transactions

pub tips_three : (size : ℕ) (pages : Pages) → HasTransactions size pages → (n : ℕ) → n ≤ last_sequence size pages + 1
    → (m : ℕ) → Has (tips_below size pages n) m → byte (pages m) 0 ≡ 3
unfolding tip_checks
tips_three size pages transactions zero below m is = absurd is
tips_three size pages transactions (suc n) below m (inl e) = ap (λ (j : ℕ). byte (pages j) 0) e
    ∙ kind_of (pages (tip_page size pages n)) (tip_page size pages n) 3 0 n _
    (transactions.each n (omega (arith, below))).fields
tips_three size pages transactions (suc n) below m (inr more) =
    tips_three size pages transactions n (omega (arith, below)) m more

-- ---- no page stands twice

module _ (form : Form) (none : HasNoSequences form) (size : ℕ) (state : ℕ → TxState) (old new : Pages) (layout : Layout)
    (r : Reading) (sound : IsSoundBy form size state old layout r) (keeps : LeavesTables size old new layout)
    (first : Trees) (more : List Trees)
    (trees : EachStand (λ s. AreTrees size new s.table.pointer.0 s.table.indexes s.trees)
    (stands_of (retreed layout first more)))
    (trees_once : IsOnce (trees_pages (stands_of (retreed layout first more)))) where
  no_sequence : (ns : List ℕ) → EachPage (λ n. form.sequence_page (old n) n) ns → (m : ℕ) → Has ns m → ⊥
  no_sequence [] each m is = is
  no_sequence (n ∷ ns) each m is = none (old n) n each.0

  pub sequences_still : (ns : List ℕ) → EachPage (λ n. form.sequence_page (old n) n) ns
      → EachPage (λ n. form.sequence_page (new n) n) ns
  sequences_still [] each = tt
  sequences_still (n ∷ ns) each = absurd (none (old n) n each.0)

  stands_once : IsOnce (flat_map pages_of (stands_of layout))
  stands_once = once_back (tips_of size old) (flat_map pages_of (stands_of layout))
      (once_front (tips_of size old ++ flat_map pages_of (stands_of layout)) layout.sequences sound.once)

  held_is : held_pages (stands_of (retreed layout first more)) ≡ held_pages (stands_of layout)
  held_is = held_same (stands_of layout) (first ∷ more)

  to_held : (m : ℕ) → Has (held_pages (stands_of (retreed layout first more))) m → Has (held_pages (stands_of layout)) m
  to_held m is = subst (λ (ns : List ℕ). Has ns m) held_is is

  tree_new : (m : ℕ) → Has (trees_pages (stands_of (retreed layout first more))) m → byte (new m) 0 ≡ 7
  tree_new m is = trees_kind form.in_primary size new (stands_of (retreed layout first more)) trees m is

  kinds_apart : (m : ℕ) → Has (held_pages (stands_of (retreed layout first more))) m
      → Has (trees_pages (stands_of (retreed layout first more))) m → ⊥
  kinds_apart m here there = at (held_kind form.in_primary size old (stands_of layout) sound.tables m (to_held m here))
    where
      stays : byte (new m) 0 ≡ byte (old m) 0
      stays = ap (λ (page : List ℕ). byte page 0) (keeps.tables m (to_held m here))

      at : (byte (old m) 0 ≡ 4) ⊎ (byte (old m) 0 ≡ 5) → ⊥
      at (inl four) = let seven = tree_new m there in let same = stays in omega (arith, four, seven, same)
      at (inr five) = let seven = tree_new m there in let same = stays in omega (arith, five, seven, same)

  pages_once : IsOnce (flat_map pages_of (stands_of (retreed layout first more)))
  pages_once = both_once (stands_of (retreed layout first more))
      (subst (λ (ns : List ℕ). IsOnce ns) (sym held_is) (held_once (stands_of layout) stands_once)) trees_once kinds_apart

  tips_apart : (m : ℕ) → Has (tips_of size old) m → Has (flat_map pages_of (stands_of (retreed layout first more))) m → ⊥
  tips_apart m tip is = at (pages_either (stands_of (retreed layout first more)) m is)
    where
      at : Has (held_pages (stands_of (retreed layout first more))) m
          ⊎ Has (trees_pages (stands_of (retreed layout first more))) m → ⊥
      at (inl held) = once_apart (tips_of size old) (flat_map pages_of (stands_of layout)) m
          (once_front (tips_of size old ++ flat_map pages_of (stands_of layout)) layout.sequences sound.once) tip
          (held_in (stands_of layout) m (to_held m held))
      at (inr tree) =
          let three = tips_three size old sound.transactions (last_sequence size old + 1) (omega arith) m tip in
          let same : byte (new m) 0 ≡ byte (old m) 0 = ap (λ (page : List ℕ). byte page 0) (keeps.tips m tip) in
          let seven = tree_new m tree in omega (arith, three, same, seven)

  pub whole_once : IsOnce (tips_of size old ++ flat_map pages_of (stands_of (retreed layout first more))
      ++ layout.sequences)
  whole_once = once_both (tips_of size old ++ flat_map pages_of (stands_of (retreed layout first more))) layout.sequences
      (once_both (tips_of size old) (flat_map pages_of (stands_of (retreed layout first more)))
      (once_front (tips_of size old) (flat_map pages_of (stands_of layout))
      (once_front (tips_of size old ++ flat_map pages_of (stands_of layout)) layout.sequences sound.once)) pages_once tips_apart)
      (once_back (tips_of size old ++ flat_map pages_of (stands_of layout)) layout.sequences sound.once)
      (λ m here there. no_sequence layout.sequences sound.sequences m there)
