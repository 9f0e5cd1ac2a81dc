-- A table gets a pointer page: a page that was taken is made an empty one, and then the last of its
-- pointer pages names it as the next.
use Rattle.std.proofs.Common.{◌≡◌, ◌≢◌, ◌⊎◌, inl, inr, ap, sym, subst, ◌∙◌, refl, arith, suc, ◌<◌, ◌+◌, ℕ, Bool, true, List, [], ◌∷◌, ◌++◌, length}
use Rattle.mg_base.specs.Checks.{PassesAll, common_checks}
use Rattle.mg_base.specs.declared.geometry.TheConstants.{GREATEST_LIMIT}
use Rattle.mg_pointer.specs.PointerPage.{entries_of, next_in, pointer_checks}
use Rattle.mg_slots.specs.declared.page.TheConstants.{DATA_KIND}
use Rattle.mg_image.specs.Form.{Pages}
use Rattle.mg_image.specs.Indexes.{AreTrees}
use Rattle.mg_image.specs.Inventory.{is_used}
use Rattle.mg_image.specs.Sound.{HasTablePages, IsTableData, IsTablePointer}
use Rattle.mg_image.specs.Tables.{EachFrom, Has, IsOnce, LinkChain, Stand, ended, entries_in, goes, pages_of, tree_pages}
use Rattle.mg_image_overlay_laws.specs.pages.Grow.{with_back, with_last}
use Rattle.mg_image.specs.KeptPageLaws.{each_from_has}
use Rattle.mg_image_overlay_laws.specs.pages.Growth.{has_back, has_either, wanted_still}
use Rattle.mg_image_overlay_laws.specs.pages.Reach.{once_apart, once_front}
use Rattle.mg_image_overlay_laws.specs.pages.GrowKept.{front_both, front_last}
use Rattle.mg_image_overlay_laws.specs.pages.Extended.{HasMore}
use Rattle.mg_image_overlay_laws.specs.pages.ExtendStep.{HasTaken, MakesMore}
use Rattle.mg_image_overlay_laws.specs.pages.PointerPage.{ChangesPointer}

-- The pointer page q, which was the last of an owner, names the page n as the next one; and that is an
-- empty pointer page of the owner, so many behind the first.
pub record LinksPage (size : ℕ) (old new : Pages) (owner pointers q n : ℕ) : Type 0 where
  pub change : ChangesPointer old new q
  pub next_set : next_in (new q) ≡ n
  pub entries : entries_of (new q) ≡ entries_of (old q)
  pub pointer : (seq : ℕ) → PassesAll (pointer_checks (old q) q owner seq)
      → PassesAll (pointer_checks (new q) q owner seq)
  pub some : n ≢ 0
  pub apart : n ≢ q
  pub below : n < GREATEST_LIMIT
  pub bit : is_used size old n ≡ true
  pub made : PassesAll (pointer_checks (old n) n owner (pointers + 1))
  pub none : entries_of (old n) ≡ []
  pub ends : next_in (old n) ≡ 0

-- the stand with the page at the end of its pointer pages
abbrev pub longer : ℕ → Stand → Stand
longer n stand = record stand { pointers = stand.pointers ++ (n ∷ []) }

pub longer_has : (n : ℕ) (s : Stand) → HasMore n s (longer n s)
longer_has n s = record {
  table = refl;
  trees = refl;
  pages = with_back n (s.pointers ++ s.data_pages) ((s.pointers ++ (n ∷ [])) ++ s.data_pages)
      (tree_pages s.trees)
      (with_back n s.pointers (s.pointers ++ (n ∷ [])) s.data_pages (with_last n s.pointers));
  owners = λ m ne. refl;
  pointers = λ m is. at m (has_either s.pointers (n ∷ []) m is);
}
  where
    at : (m : ℕ) → Has s.pointers m ⊎ Has (n ∷ []) m → (m ≡ n) ⊎ Has s.pointers m
    at m (inl here) = inr here
    at m (inr (inl e)) = inl e
    at m (inr (inr none)) = absurd none

-- the chain goes on
chain_longer : (old new : ℕ → ℕ) (first : ℕ) (front : List ℕ) (q n : ℕ)
    → ((m : ℕ) → Has front m → new m ≡ old m) → new q ≡ n → n ≢ 0 → new n ≡ 0
    → LinkChain old first (front ++ (q ∷ [])) → LinkChain new first ((front ++ (q ∷ [])) ++ (n ∷ []))
chain_longer old new first [] q n same next some ends (goes m ms ne rest) =
    goes q (n ∷ []) ne (subst (λ (k : ℕ). LinkChain new k (n ∷ [])) (sym next)
    (goes n [] some (subst (λ (k : ℕ). LinkChain new k []) (sym ends) ended)))
chain_longer old new first (f ∷ front) q n same next some ends (goes m ms ne rest) =
    goes f ((front ++ (q ∷ [])) ++ (n ∷ [])) ne
    (subst (λ (k : ℕ). LinkChain new k ((front ++ (q ∷ [])) ++ (n ∷ []))) (sym (same f (inl refl)))
    (chain_longer old new (old f) front q n (λ k is. same k (inr is)) next some ends rest))

-- the entries are the same
entries_longer : (old new : Pages) (front : List ℕ) (q n : ℕ)
    → ((m : ℕ) → Has front m → new m ≡ old m) → entries_of (new q) ≡ entries_of (old q)
    → entries_of (new n) ≡ []
    → entries_in new ((front ++ (q ∷ [])) ++ (n ∷ [])) ≡ entries_in old (front ++ (q ∷ []))
entries_longer old new [] q n same at_q at_n =
    ap (λ (es : List ℕ). es ++ (entries_of (new n) ++ [])) at_q
    ∙ ap (λ (es : List ℕ). entries_of (old q) ++ (es ++ [])) at_n
entries_longer old new (f ∷ front) q n same at_q at_n =
    ap (λ (es : List ℕ). es ++ entries_in new ((front ++ (q ∷ [])) ++ (n ∷ [])))
    (ap entries_of (same f (inl refl)))
    ∙ ap (λ (es : List ℕ). entries_of (old f) ++ es)
    (entries_longer old new front q n (λ k is. same k (inr is)) at_q at_n)

last_of : (P : ℕ → ℕ → Type 0) (k : ℕ) (ms : List ℕ) (q : ℕ) → EachFrom P k (ms ++ (q ∷ []))
    → EachFrom P k ms × P (k + length ms) q
last_of P k [] q each = let same : k ≡ k + 0 = omega arith in (tt, subst (λ (j : ℕ). P j q) same each.0)
last_of P k (m ∷ ms) q each =
    let same : suc k + length ms ≡ k + suc (length ms) = omega arith in
    let rest = last_of P (suc k) ms q each.1 in
    ((each.0, rest.0), subst (λ (j : ℕ). P j q) same rest.1)

-- one at the end has its property, too
each_too : (P : ℕ → ℕ → Type 0) (k : ℕ) (ms : List ℕ) (q : ℕ) → EachFrom P k ms → P (k + length ms) q
    → EachFrom P k (ms ++ (q ∷ []))
each_too P k [] q each here = let same : k + 0 ≡ k = omega arith in (subst (λ (j : ℕ). P j q) same here, tt)
each_too P k (m ∷ ms) q each here =
    let same : k + suc (length ms) ≡ suc k + length ms = omega arith in
    (each.0, each_too P (suc k) ms q each.1 (subst (λ (j : ℕ). P j q) same here))

pub length_last : (ms : List ℕ) (q : ℕ) → length (ms ++ (q ∷ [])) ≡ length ms + 1
length_last [] q = refl
length_last (m ∷ ms) q = let rest : length (ms ++ (q ∷ [])) ≡ length ms + 1 = length_last ms q in
    omega (arith, rest)

module _ (in_primary : Bool) (size : ℕ) (pool changed : Pages) (owner place pointers q n : ℕ)
    (links : LinksPage size pool changed owner pointers q n) where
  pub longer_its : (image laid : Pages) → HasTaken size pool changed image laid q n
      → ((m : ℕ) → is_used size image m ≡ true → is_used size laid m ≡ true) → (s : Stand)
      → (front : List ℕ) → s.pointers ≡ front ++ (q ∷ []) → length front ≡ pointers
      → length s.data_pages ≡ place → s.table.pointer.0 ≡ owner
      → IsOnce (pages_of s) → AreTrees size laid s.table.pointer.0 s.table.indexes s.trees
      → HasTablePages in_primary size image s → HasTablePages in_primary size laid (longer n s)
  longer_its image laid there used s front are count place_is owner_is once trees has = record {
    first = has.first;
    chain = subst (λ (ns : List ℕ). LinkChain (λ m. next_in (laid m)) s.table.pointer.0 (ns ++ (n ∷ [])))
        (sym are) (chain_longer (λ m. next_in (image m)) (λ m. next_in (laid m)) s.table.pointer.0 front q n
        (λ m is. ap next_in (front_same m is))
        (ap next_in there.lays.is ∙ links.next_set) links.some (ap next_in new_page ∙ links.ends)
        (subst (LinkChain (λ m. next_in (image m)) s.table.pointer.0) are has.chain));
    entries = has.entries ∙ (ap (entries_in image) are
        ∙ (sym (entries_longer image laid front q n front_same
        (ap entries_of there.lays.is ∙ (links.entries ∙ ap entries_of (sym there.lays.was)))
        (ap entries_of new_page ∙ links.none))
        ∙ ap (λ (ns : List ℕ). entries_in laid (ns ++ (n ∷ []))) (sym are)));
    pointers = subst (λ (ns : List ℕ). EachFrom (IsTablePointer size laid s.table.pointer.0) 0 (ns ++ (n ∷ [])))
        (sym are) (each_too (IsTablePointer size laid s.table.pointer.0) 0 (front ++ (q ∷ [])) n
        (each_too (IsTablePointer size laid s.table.pointer.0) 0 front q
        (each_from_has (IsTablePointer size image s.table.pointer.0)
        (IsTablePointer size laid s.table.pointer.0) 0 front pointer_kept before_.0) last_now) new_now);
    data_pages = each_from_has (IsTableData in_primary size image s.table.pointer.0)
        (IsTableData in_primary size laid s.table.pointer.0) 0 s.data_pages data_kept has.data_pages;
    trees = trees;
  }
    where
      new_page : laid n ≡ pool n
      new_page = there.lays.others n links.apart ∙ there.page

      pointers_once : IsOnce (front ++ (q ∷ []))
      pointers_once = subst IsOnce are (once_front s.pointers s.data_pages
          (once_front (s.pointers ++ s.data_pages) (tree_pages s.trees) once))

      front_same : (m : ℕ) → Has front m → laid m ≡ image m
      front_same m is = there.lays.others m
          (λ e. once_apart front (q ∷ []) m pointers_once is (inl e))

      q_there : Has s.pointers q
      q_there = subst (λ (ns : List ℕ). Has ns q) (sym are) (has_back front (q ∷ []) q (inl refl))

      data_same : (m : ℕ) → Has s.data_pages m → laid m ≡ image m
      data_same m is = there.lays.others m (λ e. once_apart s.pointers s.data_pages q
          (once_front (s.pointers ++ s.data_pages) (tree_pages s.trees) once) q_there
          (subst (Has s.data_pages) e is))

      before_ : EachFrom (IsTablePointer size image s.table.pointer.0) 0 front
          × IsTablePointer size image s.table.pointer.0 (0 + length front) q
      before_ = last_of (IsTablePointer size image s.table.pointer.0) 0 front q
          (subst (EachFrom (IsTablePointer size image s.table.pointer.0) 0) are has.pointers)

      pointer_kept : (k m : ℕ) → Has front m → IsTablePointer size image s.table.pointer.0 k m
          → IsTablePointer size laid s.table.pointer.0 k m
      pointer_kept k m is = wanted_still size image laid m
          (pointer_checks (image m) m s.table.pointer.0 k)
          (pointer_checks (laid m) m s.table.pointer.0 k) (used m)
          (ap (λ (b : List ℕ). pointer_checks b m s.table.pointer.0 k) (front_same m is))

      last_now : IsTablePointer size laid s.table.pointer.0 (0 + length front) q
      last_now = record {
        below = before_.1.below;
        used = used q before_.1.used;
        fields = subst (λ (k : ℕ). PassesAll (pointer_checks (laid q) q k (0 + length front)))
            (sym owner_is)
            (subst (λ (page : List ℕ). PassesAll (pointer_checks page q owner (0 + length front)))
            (sym there.lays.is) (links.pointer (0 + length front)
            (subst (λ (page : List ℕ). PassesAll (pointer_checks page q owner (0 + length front)))
            there.lays.was
            (subst (λ (k : ℕ). PassesAll (pointer_checks (image q) q k (0 + length front))) owner_is
            before_.1.fields))));
      }

      new_now : IsTablePointer size laid s.table.pointer.0 (0 + length (front ++ (q ∷ []))) n
      new_now = record {
        below = links.below;
        used = used n there.used;
        fields = subst (λ (page : List ℕ). PassesAll (pointer_checks page n s.table.pointer.0
            (0 + length (front ++ (q ∷ []))))) (sym new_page)
            (subst (λ (k : ℕ). PassesAll (pointer_checks (pool n) n k (0 + length (front ++ (q ∷ [])))))
            (sym owner_is)
            (subst (λ (seq : ℕ). PassesAll (pointer_checks (pool n) n owner seq)) at_seq links.made));
      }
        where
          at_seq : pointers + 1 ≡ 0 + length (front ++ (q ∷ []))
          at_seq = let long : length (front ++ (q ∷ [])) ≡ length front + 1 = length_last front q in
              omega (arith, long, count)

      data_kept : (k m : ℕ) → Has s.data_pages m → IsTableData in_primary size image s.table.pointer.0 k m
          → IsTableData in_primary size laid s.table.pointer.0 k m
      data_kept k m is was = record {
        wanted = wanted_still size image laid m
            (common_checks (image m) m DATA_KIND s.table.pointer.0 k)
            (common_checks (laid m) m DATA_KIND s.table.pointer.0 k) (used m)
            (ap (λ (b : List ℕ). common_checks b m DATA_KIND s.table.pointer.0 k) (data_same m is))
            was.wanted;
        lawful = rw (data_same m is) was.lawful;
        cells = rw (data_same m is) was.cells;
      }

  unfoldable pub link_makes : MakesMore in_primary size pool changed owner place pointers q n
  link_makes = record {
    more = longer n;
    has_more = longer_has n;
    front_out = λ a b front. record {
      table = front.table;
      pointers = front_last a.pointers b.pointers n front.pointers;
      data_pages = front.data_pages;
    };
    front_in = λ a b front same data_. record {
      table = front.table;
      pointers = front_both a.pointers b.pointers n same;
      data_pages = front.data_pages;
    };
    its = longer_its;
    empty = λ s here off slot. absurd (off here);
  }
