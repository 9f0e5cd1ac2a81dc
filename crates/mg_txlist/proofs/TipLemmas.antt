-- The page of a number that was drawn, as the program comes to it.
use Rattle.std.proofs.Common.{◌≡◌, ◌≢◌, ◌<◌, ◌+◌, ◌-◌, ◌/◌, ◌%◌, ◌∙◌, ℕ, List, length, get_or, sym, ap, subst, arith}
use Rattle.std.proofs.Math.Nat.{mod-lt}
use Rattle.std.proofs.lemmas.List.{get_or_read}
use Rattle.mg_base.specs.declared.transaction.TxState.{TxState}
use Rattle.mg_base.specs.declared.transaction.TxState.TheVariants.{Committed}
use Rattle.mg_space.specs.TakingLaws.{page_sizes}
use Rattle.mg_tip.specs.TipPage.{SetsState, places, state_in}
use Rattle.mg_txlist.specs.TxList.{IsTxList, TipsAreBelow, bits_said, next_said, no_page, tip_in}
use Rattle.mg_txlist.specs.declared.list.TipPage.{TipPage}
use Rattle.mg_txlist.specs.declared.list.TxList.{TxList}
use Rattle.mg_txlist.proofs.ListLemmas.{page_there}

module _ (list : TxList) (t k : ℕ) (is : IsTxList list) (below : t < next_said list)
    (k_is : k ≡ places list.size) where
  pub some_places : 0 < k
  some_places = let sizes = page_sizes list.size is.lawful in
      let least = sizes.0 in omega (arith, least, k_is)

  there : t / k < length list.pages.items
  there = subst (λ (n : ℕ). t / k < n)
      (sym (is.count ∙ ap (λ (n : ℕ). (next_said list - 1) / n + 1) (sym k_is)))
      (page_there t (next_said list) k some_places below)

  -- the page is there
  pub page_below : (n : ℕ) → n ≡ length list.pages.items → t / k < n
  page_below n same = subst (λ (m : ℕ). t / k < m) (sym same) there

  -- and lies below the limit, where each page of the list does
  pub tip_below : (limit n : ℕ) → TipsAreBelow limit list
      → n ≡ (tip_in list (t / places list.size)).page → n < limit
  tip_below limit n each is_ = subst (λ (p : ℕ). p < limit)
      (ap (λ (m : ℕ). (tip_in list (t / m)).page) k_is ∙ sym is_) (each (t / k) there)

  -- the page that was read is that of the number
  read_at : (x : TipPage) → x ≡ get_or list.pages.items (t / k) x → x ≡ tip_in list (t / k)
  read_at x read = get_or_read list.pages.items (t / k) x there read no_page

  pub page_read : (x : TipPage) → x ≡ get_or list.pages.items (t / k) x
      → x ≡ tip_in list (t / places list.size)
  page_read x read = read_at x read ∙ ap (λ (n : ℕ). tip_in list (t / n)) k_is

  pub page_number : (x : TipPage) → x ≡ get_or list.pages.items (t / k) x
      → x.page ≡ (tip_in list (t / places list.size)).page
  page_number x read = ap (λ (p : TipPage). p.page) (page_read x read)

  pub page_apart : (x : TipPage) → x ≡ get_or list.pages.items (t / k) x → x.page ≢ 0
  page_apart x read = λ zero. is.apart (t / k) there
      (sym (ap (λ (p : TipPage). p.page) (read_at x read)) ∙ zero)

  seen_long : (x : TipPage) (seen : List ℕ) → x ≡ get_or list.pages.items (t / k) x → seen ≡ x.bytes
      → length seen ≡ list.size
  seen_long x seen read same = ap (λ (b : List ℕ). length b) same
      ∙ (ap (λ (p : TipPage). length p.bytes) (read_at x read) ∙ is.whole (t / k) there)

  -- it is as long as what is one page long
  pub as_long : (x : TipPage) (seen : List ℕ) (n : ℕ) → x ≡ get_or list.pages.items (t / k) x
      → seen ≡ x.bytes → n ≡ list.size → n ≡ length seen
  as_long x seen n read same long = long ∙ sym (seen_long x seen read same)

  -- the number has a place on it
  pub place_below : (x : TipPage) (seen : List ℕ) → x ≡ get_or list.pages.items (t / k) x
      → seen ≡ x.bytes → t % k < places (length seen)
  place_below x seen read same = subst (λ (n : ℕ). t % k < n)
      (k_is ∙ ap places (sym (seen_long x seen read same))) (mod-lt t some_places)

  pub bits_read : (x : TipPage) (seen : List ℕ) (state : TxState) → x ≡ get_or list.pages.items (t / k) x
      → seen ≡ x.bytes → state ≡ state_in seen (t % k) → state ≡ bits_said list t
  bits_read x seen state read same state_is = state_is
      ∙ (ap (λ (b : List ℕ). state_in b (t % k)) (same ∙ ap (λ (p : TipPage). p.bytes) (page_read x read))
      ∙ ap (λ (n : ℕ). state_in (tip_in list (t / places list.size)).bytes (t % n)) k_is)

  pub bits_set : (x : TipPage) (seen copied made : List ℕ) → x ≡ get_or list.pages.items (t / k) x
      → seen ≡ x.bytes → copied ≡ seen → SetsState copied made (t % k) Committed
      → SetsState (tip_in list (t / places list.size)).bytes made (t % places list.size) Committed
  bits_set x seen copied made read same copied_is sets =
      subst (λ (n : ℕ). SetsState (tip_in list (t / places list.size)).bytes made (t % n) Committed) k_is
      (subst (λ (b : List ℕ). SetsState b made (t % k) Committed)
      (copied_is ∙ (same ∙ ap (λ (p : TipPage). p.bytes) (page_read x read))) sets)

  -- the page with the bits set is as long as it was
  pub made_long : (made : List ℕ) → SetsState (tip_in list (t / k)).bytes made (t % k) Committed
      → length made ≡ list.size
  made_long made sets = sets.len ∙ is.whole (t / k) there
