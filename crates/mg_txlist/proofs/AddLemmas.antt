-- The list with one number more.
use Rattle.std.proofs.Common.{◌≡◌, ◌≢◌, ◌<◌, ◌≤◌, ◌⊎◌, ◌+◌, ◌-◌, ◌/◌, ◌%◌, ◌++◌, ℕ, true, List, [], ◌∷◌, length, take, refl, sym, ap, subst, ◌∙◌, arith, inl, inr, get_or}
use Rattle.std.proofs.Common.{Option, Some, None, ◌*◌, suc, zero}
use Rattle.std.specs.Prelude.{IfSome}
use Rattle.std.proofs.Math.Nat.{mod-add-div', mod-lt, suc-mul, zero-mul}
use Rattle.std.proofs.Math.Seq.{take-append_seam}
use Rattle.std.proofs.lemmas.Nat.{div-mul-add}
use Rattle.std.proofs.lemmas.Bool.{cases_eq, cases_lt}
use Rattle.std.proofs.lemmas.List.{get_or_append_left, get_or_past, get_or_push, length_push, take_all}
use Rattle.mg_base.specs.Geometry.{is_page_size}
use Rattle.mg_base.specs.declared.transaction.TxState.{TxState}
use Rattle.mg_base.specs.declared.transaction.TxState.TheVariants.{Active, Dead}
use Rattle.mg_header.specs.declared.header.TheConstants.{GREATEST_NEXT}
use Rattle.mg_image.specs.Inventory.{settled}
use Rattle.mg_space.specs.TakingLaws.{page_sizes}
use Rattle.mg_tip.specs.TipPage.{places, state_in}
use Rattle.mg_txlist.specs.Drawing.{AddsNumber, AddsPage, IsTipFor, SaysSame}
use Rattle.mg_txlist.specs.TxList.{IsTxList, TipsAreBelow, bits_said, next_said, no_page, own_said, said, tip_in}
use Rattle.mg_txlist.specs.declared.list.TipPage.{TipPage}
use Rattle.mg_txlist.specs.declared.list.TxList.{TxList}
use Rattle.mg_txlist.proofs.ListLemmas.{page_there, said_old, said_own, said_zero}

-- a number that is another's is below what that one is
pub same_number : (a b : ℕ) {k : ℕ} → a ≡ b → b < k → a < k
same_number a b same less = omega (arith, same, less)

-- the pages that were there are there still
pub tips_stay : (old new : TxList) (page : Option TipPage) → AddsPage old new page
    → (s : ℕ) → s < length old.pages.items → tip_in new s ≡ tip_in old s
tips_stay old new None adds s inside = ap (λ (xs : List TipPage). get_or xs s no_page) adds
tips_stay old new (Some page) adds s inside =
    ap (λ (xs : List TipPage). get_or xs s no_page) adds
    ∙ get_or_append_left old.pages.items (page ∷ []) no_page s inside

pub adds_number : (old new : TxList) (page : Option TipPage) → IsTxList old → AddsPage old new page
    → new.own.items ≡ old.own.items ++ Active ∷ [] → new.first ≡ old.first → new.size ≡ old.size
    → AddsNumber old new
adds_number old new page is adds own first size = record {
  here = said_own new (next_said old) (let some = is.some in λ e. absurd (omega (arith, some, e)))
      (omega (arith, first))
      ∙ (ap (λ (n : ℕ). own_said new (next_said old - n)) first
      ∙ (ap (λ (xs : List TxState). get_or xs (next_said old - old.first) Dead) own
      ∙ get_or_push old.own.items Active Dead (next_said old - old.first) (omega arith)));
  others = λ u ne. other u ne (cases_eq u 0) (cases_lt u old.first);
  next = ap (λ (n : ℕ). n + length new.own.items) first
      ∙ (ap (λ (n : ℕ). old.first + n) (ap (λ (xs : List TxState). length xs) own
      ∙ length_push old.own.items Active) ∙ omega arith);
  first = first;
  size = size;
}
  where
    some_places : 0 < places old.size
    some_places = let sizes = page_sizes old.size is.lawful in let least = sizes.0 in omega arith

    bits_same : (u : ℕ) → u < old.first → bits_said new u ≡ bits_said old u
    bits_same u before =
        let inside : u / places old.size < length old.pages.items =
        subst (λ (n : ℕ). u / places old.size < n) (sym is.count)
        (page_there u (next_said old) (places old.size) some_places (omega (arith, before))) in
        ap (λ (n : ℕ). state_in (tip_in new (u / places n)).bytes (u % places n)) size
        ∙ ap (λ (p : TipPage). state_in p.bytes (u % places old.size))
        (tips_stay old new page adds (u / places old.size) inside)

    own_same : (u : ℕ) → u ≢ next_said old → old.first ≤ u
        → (u - old.first < length old.own.items) ⊎ (length old.own.items ≤ u - old.first)
        → get_or (old.own.items ++ Active ∷ []) (u - old.first) Dead
        ≡ get_or old.own.items (u - old.first) Dead
    own_same u ne from (inl less) =
        get_or_append_left old.own.items (Active ∷ []) Dead (u - old.first) less
    own_same u ne from (inr past) =
        let long = length_push old.own.items Active in
        get_or_past (old.own.items ++ Active ∷ []) (u - old.first) Dead
        (omega (arith, long, past, from, ne))
        ∙ sym (get_or_past old.own.items (u - old.first) Dead past)

    other : (u : ℕ) → u ≢ next_said old → (u ≡ 0) ⊎ (u ≢ 0) → (u < old.first) ⊎ (old.first ≤ u)
        → said new u ≡ said old u
    other u ne (inl none) by = ap (said new) none ∙ (said_zero new
        ∙ (sym (said_zero old) ∙ ap (said old) (sym none)))
    other u ne (inr off) (inl before) =
        said_old new u off (subst (λ (n : ℕ). u < n) (sym first) before)
        ∙ (ap settled (bits_same u before) ∙ sym (said_old old u off before))
    other u ne (inr off) (inr later) =
        said_own new u off (subst (λ (n : ℕ). n ≤ u) (sym first) later)
        ∙ (ap (λ (n : ℕ). own_said new (u - n)) first
        ∙ (ap (λ (xs : List TxState). get_or xs (u - old.first) Dead) own
        ∙ (own_same u ne later (cases_lt (u - old.first) (length old.own.items))
        ∙ sym (said_own old u off later))))

-- a list that says what another said is one, too
pub same_list : (old new : TxList) → SaysSame old new → IsTxList old → IsTxList new
same_list old new same is = record {
  lawful = subst (λ (n : ℕ). is_page_size n ≡ true) (sym same.size) is.lawful;
  some = subst (λ (n : ℕ). 1 ≤ n) (sym same.first) is.some;
  most = let most = is.most in omega (arith, next, most);
  count = ap (λ (xs : List TipPage). length xs) same.pages ∙ (is.count
      ∙ (ap (λ (n : ℕ). (n - 1) / places old.size + 1) (sym next)
      ∙ ap (λ (n : ℕ). (next_said new - 1) / places n + 1) (sym same.size)));
  whole = λ s inside. ap (λ (xs : List TipPage). length (get_or xs s no_page).bytes) same.pages
      ∙ (is.whole s (subst (λ (xs : List TipPage). s < length xs) same.pages inside) ∙ sym same.size);
  apart = λ s inside zero. is.apart s (subst (λ (xs : List TipPage). s < length xs) same.pages inside)
      (sym (ap (λ (xs : List TipPage). (get_or xs s no_page).page) same.pages) ∙ zero);
}
  where
    next : next_said new ≡ next_said old
    next = ap (λ (n : ℕ). n + length new.own.items) same.first
        ∙ ap (λ (xs : List TxState). old.first + length xs) same.own

-- what was added is taken back
pub pages_back : (old new : TxList) (page : Option TipPage) (n : ℕ) (now : List TipPage)
    → AddsPage old new page → n ≡ length old.pages.items → now ≡ take n new.pages.items
    → now ≡ old.pages.items
pages_back old new None n now adds long is = is
    ∙ (ap (λ (xs : List TipPage). take n xs) adds
    ∙ take_all n old.pages.items (omega (arith, long)))
pages_back old new (Some page) n now adds long is = is
    ∙ (ap (λ (xs : List TipPage). take n xs) adds
    ∙ (ap (λ (k : ℕ). take k (old.pages.items ++ page ∷ [])) long
    ∙ take-append_seam old.pages.items (page ∷ [])))

pub own_back : (old new : List TxState) (n : ℕ) (now : List TxState)
    → new ≡ old ++ Active ∷ [] → n ≡ length old → now ≡ take n new → now ≡ old
own_back old new n now adds long is = is
    ∙ (ap (λ (xs : List TxState). take n xs) adds
    ∙ (ap (λ (k : ℕ). take k (old ++ Active ∷ [])) long ∙ take-append_seam old (Active ∷ [])))

-- ---- the list with the number is a list

-- the page of the number before, where the number is not the first of one, and where it is
div_stays : (t k q r : ℕ) → 0 < r → r < k → r + q * k ≡ t → (t - 1) / k ≡ q
div_stays t k q r some less is = ap (λ (n : ℕ). n / k) back ∙ div-mul-add q k (r - 1) low
  where
    back : t - 1 ≡ q * k + (r - 1)
    back = omega (arith, some, is)

    low : r - 1 < k
    low = omega (arith, some, less)

div_grows : (t k q : ℕ) → 0 < k → 0 < t → 0 + q * k ≡ t → (t - 1) / k + 1 ≡ q
div_grows t k zero some drawn is =
    let none : 0 * k ≡ 0 = zero-mul k in absurd (omega (arith, drawn, is, none))
div_grows t k (suc p) some drawn is =
    ap (λ (n : ℕ). n / k + 1) back ∙ (ap (λ (n : ℕ). n + 1) (div-mul-add p k (k - 1) low) ∙ omega arith)
  where
    more : suc p * k ≡ p * k + k
    more = suc-mul p k

    back : t - 1 ≡ p * k + (k - 1)
    back = omega (arith, some, is, more)

    low : k - 1 < k
    low = omega (arith, some)

some_of : (n : ℕ) → n ≢ 0 → 0 < n
some_of n off = omega (arith, off)

same_page : (t k : ℕ) → 0 < k → t % k ≢ 0 → (t - 1) / k + 1 ≡ t / k + 1
same_page t k some off = ap (λ (n : ℕ). n + 1)
    (div_stays t k (t / k) (t % k) (some_of (t % k) off) (mod-lt t some) (mod-add-div' t k))

next_page : (t k : ℕ) → 0 < k → 0 < t → t % k ≡ 0 → (t - 1) / k + 1 ≡ t / k
next_page t k some drawn first =
    div_grows t k (t / k) some drawn (ap (λ (r : ℕ). r + t / k * k) (sym first) ∙ mod-add-div' t k)

-- so many pages there are, with the one that the number got
count_with : (old new : TxList) (k : ℕ) (page : Option TipPage) → 0 < k → 0 < next_said old
    → k ≡ places old.size → length old.pages.items ≡ (next_said old - 1) / k + 1
    → IsTipFor old.size (next_said old) page → AddsPage old new page
    → length new.pages.items ≡ next_said old / k + 1
count_with old new k None some drawn k_is count tip adds =
    let off : next_said old % k ≢ 0 =
    subst (λ (n : ℕ). next_said old % n ≢ 0) (sym k_is) tip in
    ap (λ (xs : List TipPage). length xs) adds ∙ (count ∙ same_page (next_said old) k some off)
count_with old new k (Some page) some drawn k_is count tip adds =
    let first : next_said old % k ≡ 0 = ap (λ (n : ℕ). next_said old % n) k_is ∙ tip.0 in
    ap (λ (xs : List TipPage). length xs) adds ∙ (length_push old.pages.items page
    ∙ ap (λ (n : ℕ). n + 1) (count ∙ next_page (next_said old) k some drawn first))

-- what holds of each page that was there and of the one that the number got holds of each page
each_tip : (old new : TxList) (page : Option TipPage) (P : TipPage → Type 0) → AddsPage old new page
    → ((s : ℕ) → s < length old.pages.items → P (tip_in old s))
    → ((x : TipPage) → page ≡ Some x → P x)
    → (s : ℕ) → s < length new.pages.items → P (tip_in new s)
each_tip old new None P adds each last s inside =
    let less : s < length old.pages.items =
    subst (λ (xs : List TipPage). s < length xs) adds inside in
    subst P (sym (tips_stay old new None adds s less)) (each s less)
each_tip old new (Some page) P adds each last s inside = at (cases_lt s (length old.pages.items))
  where
    long : length new.pages.items ≡ length old.pages.items + 1
    long = ap (λ (xs : List TipPage). length xs) adds ∙ length_push old.pages.items page

    here : length old.pages.items ≤ s → tip_in new s ≡ page
    here past = ap (λ (xs : List TipPage). get_or xs s no_page) adds
        ∙ get_or_push old.pages.items page no_page s (omega (arith, past, inside, long))

    at : (s < length old.pages.items) ⊎ (length old.pages.items ≤ s) → P (tip_in new s)
    at (inl less) = subst P (sym (tips_stay old new (Some page) adds s less)) (each s less)
    at (inr past) = subst P (sym (here past)) (last page refl)

-- its pages lie below the limit
pub adds_below : (old new : TxList) (page : Option TipPage) (limit : ℕ) → AddsPage old new page
    → IfSome page (λ tip. tip.page < limit) → TipsAreBelow limit old → TipsAreBelow limit new
adds_below old new page limit adds tip each = each_tip old new page (λ (x : TipPage). x.page < limit) adds each
    (λ x here. subst (λ (p : Option TipPage). IfSome p (λ tip. tip.page < limit)) here tip)

tip_given : (size t : ℕ) (page : Option TipPage) (x : TipPage) → IsTipFor size t page → page ≡ Some x
    → IsTipFor size t (Some x)
tip_given size t page x tip is = subst (λ (p : Option TipPage). IsTipFor size t p) is tip

-- the list with the number is one, too
pub adds_list : (old new : TxList) (page : Option TipPage) (size t : ℕ) → IsTxList old
    → next_said old < GREATEST_NEXT → old.size ≡ size → t ≡ next_said old → IsTipFor size t page
    → AddsPage old new page → new.own.items ≡ old.own.items ++ Active ∷ []
    → new.first ≡ old.first → new.size ≡ old.size → IsTxList new
adds_list old new page size t is below size_is t_is given adds own first same = record {
  lawful = subst (λ (n : ℕ). is_page_size n ≡ true) (sym same) is.lawful;
  some = subst (λ (n : ℕ). 1 ≤ n) (sym first) is.some;
  most = omega (arith, next, below);
  count = count_with old new (places old.size) page some_places drawn refl is.count tip adds
      ∙ (ap (λ (n : ℕ). n / places old.size + 1) last
      ∙ ap (λ (n : ℕ). (next_said new - 1) / places n + 1) (sym same));
  whole = λ s inside. each_tip old new page (λ (x : TipPage). length x.bytes ≡ old.size) adds is.whole
      (λ x here. let its = tip_given old.size (next_said old) page x tip here in its.2) s inside ∙ sym same;
  apart = λ s inside. each_tip old new page (λ (x : TipPage). x.page ≢ 0) adds is.apart
      (λ x here. let its = tip_given old.size (next_said old) page x tip here in its.1) s inside;
}
  where
    tip : IsTipFor old.size (next_said old) page
    tip = subst (λ (n : ℕ). IsTipFor n (next_said old) page) (sym size_is)
        (subst (λ (n : ℕ). IsTipFor size n page) t_is given)

    next : next_said new ≡ next_said old + 1
    next = let number = adds_number old new page is adds own first same in number.next

    last : next_said old ≡ next_said new - 1
    last = omega (arith, next)

    drawn : 0 < next_said old
    drawn = let some = is.some in omega (arith, some)

    some_places : 0 < places old.size
    some_places = let sizes = page_sizes old.size is.lawful in let least = sizes.0 in omega arith
