-- The bits of a transaction are set, and the list says so.
use Rattle.std.proofs.Common.{◌≡◌, ◌≢◌, ◌<◌, ◌≤◌, ◌⊎◌, ◌+◌, ◌-◌, ◌*◌, ◌/◌, ◌%◌, ℕ, true, List, length, get_or, sym, ap, subst, ◌∙◌, arith, inl, inr, slice_index_or, slice_set}
use Rattle.std.proofs.Math.ListN.{set}
use Rattle.std.proofs.Math.Nat.{mod-add-div'}
use Rattle.std.proofs.lemmas.Bool.{cases_eq, cases_lt}
use Rattle.std.proofs.lemmas.List.{get_or-set_other, get_or-set_same, length-set}
use Rattle.mg_base.specs.declared.transaction.TxState.{TxState}
use Rattle.mg_base.specs.declared.transaction.TxState.TheVariants.{Committed, Dead}
use Rattle.mg_base.specs.Geometry.{is_page_size}
use Rattle.mg_header.specs.declared.header.TheConstants.{GREATEST_NEXT}
use Rattle.mg_image.specs.Inventory.{settled}
use Rattle.mg_tip.specs.TipPage.{SetsState, places, state_in}
use Rattle.mg_txlist.specs.declared.list.TipPage.{TipPage}
use Rattle.mg_txlist.specs.declared.list.TxList.{TxList}
use Rattle.mg_txlist.specs.TxList.{EndsIn, IsTxList, KeepsBits, TipsAreBelow, bits_said, next_said, no_page, own_said, said, tip_in}
use Rattle.mg_space.specs.TakingLaws.{page_sizes}
use Rattle.mg_txlist.proofs.ListLemmas.{page_there, said_old, said_own, said_zero}

-- the page of a sequence in a list in which one page has new bytes
pub keeps_bits : (old new : TxList) (s : ℕ) (bytes : List ℕ) → s < length old.pages.items
    → new.pages.items ≡ slice_set old.pages.items s
    (record { page = (tip_in old s).page; bytes = bytes })
    → new.size ≡ old.size → new.first ≡ old.first → KeepsBits old new s bytes
keeps_bits old new s bytes inside pages size first = record {
  here = ap (λ (xs : List TipPage). get_or xs s no_page) pages
      ∙ get_or-set_same old.pages.items s _ no_page inside;
  others = λ other ne. ap (λ (xs : List TipPage). get_or xs other no_page) pages
      ∙ get_or-set_other old.pages.items s other _ no_page ne;
  count = ap (λ (xs : List TipPage). length xs) pages ∙ length-set old.pages.items s _;
  same_size = size;
  same_first = first;
}

-- two numbers on one page have two places
apart_places : (u t k : ℕ) → u ≢ t → u / k ≡ t / k → u % k ≢ t % k
apart_places u t k ne page place =
    ne (sym (mod-add-div' u k) ∙ (ap (λ (x : ℕ). x + u / k * k) place
    ∙ (ap (λ (x : ℕ). t % k + x * k) page ∙ mod-add-div' t k)))

module _ (old new : TxList) (t : ℕ) (bytes : List ℕ) (some : 1 ≤ t)
    (keeps : KeepsBits old new (t / places old.size) bytes)
    (sets : SetsState (tip_in old (t / places old.size)).bytes bytes (t % places old.size)
    Committed) where
  -- the bits of this number say that it is committed
  bits_here : bits_said new t ≡ Committed
  bits_here = ap (λ (n : ℕ). state_in (tip_in new (t / places n)).bytes (t % places n)) keeps.same_size
      ∙ (ap (λ (page : TipPage). state_in page.bytes (t % places old.size)) keeps.here ∙ sets.set)

  -- and those of every other number say what they said
  bits_else : (u : ℕ) → u ≢ t → bits_said new u ≡ bits_said old u
  bits_else u ne =
      ap (λ (n : ℕ). state_in (tip_in new (u / places n)).bytes (u % places n)) keeps.same_size
      ∙ at (cases_eq (u / places old.size) (t / places old.size))
    where
      at : (u / places old.size ≡ t / places old.size) ⊎ (u / places old.size ≢ t / places old.size)
          → state_in (tip_in new (u / places old.size)).bytes (u % places old.size)
          ≡ bits_said old u
      at (inl same) =
          ap (λ (s : ℕ). state_in (tip_in new s).bytes (u % places old.size)) same
          ∙ (ap (λ (page : TipPage). state_in page.bytes (u % places old.size)) keeps.here
          ∙ (sets.others (u % places old.size) (apart_places u t (places old.size) ne same)
          ∙ ap (λ (s : ℕ). state_in (tip_in old s).bytes (u % places old.size)) (sym same)))
      at (inr other) = ap (λ (page : TipPage). state_in page.bytes (u % places old.size))
          (keeps.others (u / places old.size) other)

  old_same : (u : ℕ) → u ≢ t → u ≢ 0 → u < old.first → said new u ≡ said old u
  old_same u ne off before =
      said_old new u off (subst (λ (n : ℕ). u < n) (sym keeps.same_first) before)
      ∙ (ap settled (bits_else u ne) ∙ sym (said_old old u off before))

  zero_same : (u : ℕ) → u ≡ 0 → said new u ≡ said old u
  zero_same u none = ap (said new) none ∙ (said_zero new
      ∙ (sym (said_zero old) ∙ ap (said old) (sym none)))

  later_said : (u : ℕ) → u ≢ 0 → old.first ≤ u → said new u ≡ own_said new (u - old.first)
  later_said u off later = said_own new u off (subst (λ (n : ℕ). n ≤ u) (sym keeps.same_first) later)
      ∙ ap (λ (n : ℕ). own_said new (u - n)) keeps.same_first

  -- a number that was drawn before this run
  pub old_commits : t < old.first → new.own.items ≡ old.own.items → EndsIn old new t Committed
  old_commits before own = record {
    here = said_old new t (λ e. absurd (omega arith))
        (subst (λ (n : ℕ). t < n) (sym keeps.same_first) before) ∙ ap settled bits_here;
    others = λ u ne. at u ne (cases_eq u 0) (cases_lt u old.first);
    next = ap (λ (n : ℕ). n + length new.own.items) keeps.same_first
        ∙ ap (λ (xs : List TxState). old.first + length xs) own;
    first = keeps.same_first;
    size = keeps.same_size;
  }
    where
      at : (u : ℕ) → u ≢ t → (u ≡ 0) ⊎ (u ≢ 0) → (u < old.first) ⊎ (old.first ≤ u)
          → said new u ≡ said old u
      at u ne (inl none) by = zero_same u none
      at u ne (inr off) (inl less) = old_same u ne off less
      at u ne (inr off) (inr later) = later_said u off later
          ∙ (ap (λ (xs : List TxState). get_or xs (u - old.first) Dead) own
          ∙ sym (said_own old u off later))

  -- a number of this run
  pub own_commits : old.first ≤ t → t < next_said old
      → new.own.items ≡ slice_set old.own.items (t - old.first) Committed
      → EndsIn old new t Committed
  own_commits from below own = record {
    here = later_said t (λ e. absurd (omega arith)) from
        ∙ (ap (λ (xs : List TxState). get_or xs (t - old.first) Dead) own
        ∙ get_or-set_same old.own.items (t - old.first) Committed Dead (omega arith));
    others = λ u ne. at u ne (cases_eq u 0) (cases_lt u old.first);
    next = ap (λ (n : ℕ). n + length new.own.items) keeps.same_first
        ∙ ap (λ (n : ℕ). old.first + n) (ap (λ (xs : List TxState). length xs) own
        ∙ length-set old.own.items (t - old.first) Committed);
    first = keeps.same_first;
    size = keeps.same_size;
  }
    where
      at : (u : ℕ) → u ≢ t → (u ≡ 0) ⊎ (u ≢ 0) → (u < old.first) ⊎ (old.first ≤ u)
          → said new u ≡ said old u
      at u ne (inl none) by = zero_same u none
      at u ne (inr off) (inl less) = old_same u ne off less
      at u ne (inr off) (inr later) = later_said u off later
          ∙ (ap (λ (xs : List TxState). get_or xs (u - old.first) Dead) own
          ∙ (get_or-set_other old.own.items (t - old.first) (u - old.first) Committed Dead
          (λ e. ne (omega (arith, e))) ∙ sym (said_own old u off later)))

-- each page is as long as it was
pub lengths_stay : (old new : TxList) (s : ℕ) (bytes : List ℕ) → KeepsBits old new s bytes
    → length bytes ≡ length (tip_in old s).bytes
    → (k : ℕ) → length (tip_in new k).bytes ≡ length (tip_in old k).bytes
lengths_stay old new s bytes keeps len k = at (cases_eq k s)
  where
    at : (k ≡ s) ⊎ (k ≢ s) → length (tip_in new k).bytes ≡ length (tip_in old k).bytes
    at (inl same) = ap (λ (n : ℕ). length (tip_in new n).bytes) same
        ∙ (ap (λ (page : TipPage). length page.bytes) keeps.here
        ∙ (len ∙ ap (λ (n : ℕ). length (tip_in old n).bytes) (sym same)))
    at (inr ne) = ap (λ (page : TipPage). length page.bytes) (keeps.others k ne)

-- no page has another number
pages_stay : (old new : TxList) (s : ℕ) (bytes : List ℕ) → KeepsBits old new s bytes
    → (k : ℕ) → (tip_in new k).page ≡ (tip_in old k).page
pages_stay old new s bytes keeps k = at (cases_eq k s)
  where
    at : (k ≡ s) ⊎ (k ≢ s) → (tip_in new k).page ≡ (tip_in old k).page
    at (inl same) = ap (λ (n : ℕ). (tip_in new n).page) same
        ∙ (ap (λ (page : TipPage). page.page) keeps.here
        ∙ ap (λ (n : ℕ). (tip_in old n).page) (sym same))
    at (inr ne) = ap (λ (page : TipPage). page.page) (keeps.others k ne)

-- each lies below the limit still
pub kept_below : (old new : TxList) (s : ℕ) (bytes : List ℕ) (limit : ℕ) → KeepsBits old new s bytes
    → TipsAreBelow limit old → TipsAreBelow limit new
kept_below old new s bytes limit keeps each k inside =
    subst (λ (n : ℕ). n < limit) (sym (pages_stay old new s bytes keeps k))
    (each k (subst (λ (n : ℕ). k < n) keeps.count inside))

-- the list is one still
kept_list : (old new : TxList) (s : ℕ) (bytes : List ℕ) → IsTxList old → KeepsBits old new s bytes
    → length bytes ≡ length (tip_in old s).bytes → next_said new ≡ next_said old → IsTxList new
kept_list old new s bytes is keeps len next = record {
  lawful = subst (λ (n : ℕ). is_page_size n ≡ true) (sym keeps.same_size) is.lawful;
  some = subst (λ (n : ℕ). 1 ≤ n) (sym keeps.same_first) is.some;
  most = subst (λ (n : ℕ). n ≤ GREATEST_NEXT) (sym next) is.most;
  count = keeps.count ∙ (is.count ∙ (ap (λ (n : ℕ). (n - 1) / places old.size + 1) (sym next)
      ∙ ap (λ (n : ℕ). (next_said new - 1) / places n + 1) (sym keeps.same_size)));
  whole = λ k inside. lengths_stay old new s bytes keeps len k
      ∙ (is.whole k (subst (λ (n : ℕ). k < n) keeps.count inside) ∙ sym keeps.same_size);
  apart = λ k inside zero. is.apart k (subst (λ (n : ℕ). k < n) keeps.count inside)
      (sym (pages_stay old new s bytes keeps k) ∙ zero);
}

-- ---- by the numbers that the program has

module _ (old new : TxList) (t at : ℕ) (bytes : List ℕ) (at_is : at ≡ t / places old.size)
    (kept : IsTxList old) (some : 1 ≤ t) (below : t < next_said old)
    (sets : SetsState (tip_in old (t / places old.size)).bytes bytes (t % places old.size) Committed)
    (pages : new.pages.items ≡ slice_set old.pages.items at
    (record { page = (slice_index_or old.pages.items at no_page).page; bytes = bytes }))
    (size : new.size ≡ old.size) (first : new.first ≡ old.first) where
  inside : t / places old.size < length old.pages.items
  inside =
      let sizes = page_sizes old.size kept.lawful in
      let least = sizes.0 in
      let there = page_there t (next_said old) (places old.size) (omega arith) below in
      let count = kept.count in omega (arith, there, count)

  pub keeps_at : KeepsBits old new (t / places old.size) bytes
  keeps_at = keeps_bits old new (t / places old.size) bytes inside
      (subst (λ (s : ℕ). new.pages.items ≡ slice_set old.pages.items s
      (record { page = (slice_index_or old.pages.items s no_page).page; bytes = bytes })) at_is pages)
      size first

  pub then_commits : old.first ≤ t
      → new.own.items ≡ slice_set old.own.items (t - old.first) Committed
      → EndsIn old new t Committed
  then_commits from own = own_commits old new t bytes some keeps_at sets from below own

  pub else_commits : t < old.first → new.own.items ≡ old.own.items → EndsIn old new t Committed
  else_commits before own = old_commits old new t bytes some keeps_at sets before own

  pub then_list : old.first ≤ t → new.own.items ≡ slice_set old.own.items (t - old.first) Committed
      → IsTxList new
  then_list from own = let ends = then_commits from own in
      kept_list old new (t / places old.size) bytes kept keeps_at sets.len ends.next

  pub else_list : t < old.first → new.own.items ≡ old.own.items → IsTxList new
  else_list before own = let ends = else_commits before own in
      kept_list old new (t / places old.size) bytes kept keeps_at sets.len ends.next
