-- The list that was loaded.
use Rattle.std.proofs.Common.{◌≡◌, ◌<◌, ◌≤◌, ◌+◌, ◌-◌, ◌/◌, ℕ, true, List, [], Ok, length, sym, ap, subst, ◌∙◌, arith}
use Rattle.std.specs.Prelude.{slice_index_or}
use Rattle.mg_base.specs.Disk.{Meaning}
use Rattle.mg_base.specs.Geometry.{is_page_size}
use Rattle.mg_base.specs.Image.{Image}
use Rattle.mg_base.specs.declared.geometry.Geometry.{Geometry}
use Rattle.mg_base.specs.declared.transaction.TxState.{TxState}
use Rattle.mg_header.specs.HeaderPage.{header_in, reading}
use Rattle.mg_header.specs.HeaderPageLaws.{reading_ok}
use Rattle.mg_header.specs.declared.header.Header.{Header}
use Rattle.mg_header.specs.declared.header.TheConstants.{GREATEST_NEXT}
use Rattle.mg_pool.specs.Pool.{shown}
use Rattle.mg_pool.specs.declared.pool.Pool.{Pool}
use Rattle.mg_space.specs.Taking.{IsGeometry}
use Rattle.mg_space.specs.View.{KeepsStore, Tells}
use Rattle.mg_space.specs.ViewLaws.{tells_on}
use Rattle.mg_tip.specs.TipPage.{places}
use Rattle.mg_txlist.specs.declared.list.TipPage.{TipPage}
use Rattle.mg_txlist.specs.declared.list.TxList.{TxList}
use Rattle.mg_txlist.specs.Chain.{AreTested, AreWholePages, HasHead, tips_below}
use Rattle.mg_txlist.specs.TxList.{EachBelow, IsTxList, next_said, no_page, tip_in}
use Rattle.mg_txlist.proofs.ChainLemmas.{apart_at, below_at, whole_at}

pub list_made : (list : TxList) (g mid made : Geometry) (next k : ℕ) → IsGeometry g → mid ≡ g
    → made ≡ mid → list.size ≡ made.size → list.first ≡ next → k ≡ places made.size
    → 1 ≤ next → next ≤ GREATEST_NEXT → list.own.items ≡ []
    → length list.pages.items ≡ (next - 1) / k + 1 → AreWholePages mid list.pages.items
    → AreTested 0 list.pages.items → IsTxList list
list_made list g mid made next k lawful mid_is made_is size first k_is some most own count whole
    tested =
    record {
      lawful = subst (λ (n : ℕ). is_page_size n ≡ true) (sym size)
          (subst (λ (x : Geometry). is_page_size x.size ≡ true) (sym (made_is ∙ mid_is)) lawful.size);
      some = subst (λ (n : ℕ). 1 ≤ n) (sym first) some;
      most = subst (λ (n : ℕ). n ≤ GREATEST_NEXT) (sym next_is) most;
      count = count ∙ (ap (λ (n : ℕ). (next - 1) / n + 1) (k_is ∙ ap places (sym size))
          ∙ ap (λ (n : ℕ). (n - 1) / places list.size + 1) (sym next_is));
      whole = λ s inside. whole_at mid list.pages.items no_page whole s inside
          ∙ (ap (λ (x : Geometry). x.size) (sym made_is) ∙ sym size);
      apart = λ s inside. apart_at 0 list.pages.items no_page tested s inside;
    }
  where
    none : length list.own.items ≡ 0
    none = ap (λ (xs : List TxState). length xs) own

    next_is : next_said list ≡ next
    next_is = omega (arith, none, first)

-- each page of the list lies below the limit
pub list_below : (pages : List TipPage) (g mid : Geometry) → mid ≡ g → AreWholePages mid pages
    → EachBelow g.limit pages
list_below pages g mid same whole s inside =
    subst (λ (x : Geometry). (slice_index_or pages s no_page).page < x.limit) same
    (below_at mid pages no_page whole s inside)

pub head_read : {D L : Type 0} (m : Meaning D) (start mid : Pool D L) (image : Image) (h : Header)
    (made : Geometry) (k : ℕ) (items : List TipPage) → KeepsStore m start mid
    → Tells m start.disk image → made ≡ mid.geometry → k ≡ places made.size
    → reading (shown start.dirty image 0) start.geometry.size ≡ Ok h → AreTested 0 items
    → (Tells m mid.disk image
    → items ≡ tips_below (shown mid.dirty image) h.last_tip.0 ((h.next.0 - 1) / k + 1))
    → HasHead start.geometry.size (shown start.dirty image) h.next.0 items
head_read m start mid image h made k items kept tells made_is k_is reads tested says = record {
  header = h;
  reads = reads;
  next_is = ap (λ (x : Header). x.next.0) (sym header_is);
  tips_are = says (tells_on m start mid image kept tells)
      ∙ (ap (λ d. tips_below (shown d image) h.last_tip.0 ((h.next.0 - 1) / k + 1)) kept.dirty
      ∙ (ap (λ (n : ℕ). tips_below (shown start.dirty image) h.last_tip.0 ((h.next.0 - 1) / n + 1))
      (k_is ∙ ap (λ (x : Geometry). places x.size) (made_is ∙ kept.geometry))
      ∙ ap (λ (x : Header). tips_below (shown start.dirty image) x.last_tip.0
      ((x.next.0 - 1) / places start.geometry.size + 1)) header_is));
  tested = tested;
}
  where
    header_is : h ≡ header_in (shown start.dirty image 0)
    header_is = (reading_ok (shown start.dirty image 0) start.geometry.size h reads).2
