-- A table, or the catalog, gets a data page: a page that was taken is made an empty one, and then the
-- last of its pointer pages has an entry for it.
use Rattle.std.proofs.Common.{◌≡◌, ◌≢◌, inl, inr, ap, sym, subst, ◌∙◌, refl, arith, ◌<◌, ◌+◌, ◌==◌, ◌||◌, ℕ, Bool, true, false, List, [], ◌∷◌, ◌++◌, length, None}
use Rattle.std.proofs.lemmas.Bool.{ne_eqb}
use Rattle.mg_base.specs.Checks.{PassesAll, common_checks}
use Rattle.mg_base.specs.declared.geometry.TheConstants.{GREATEST_LIMIT}
use Rattle.mg_pointer.specs.PointerPage.{AddsEntry, pointer_checks}
use Rattle.mg_slots.specs.DataPage.{IsDataPage, cell_of}
use Rattle.mg_slots.specs.declared.page.TheConstants.{DATA_KIND}
use Rattle.mg_image.specs.Form.{Pages}
use Rattle.mg_image.specs.Indexes.{AreTrees}
use Rattle.mg_image.specs.Inventory.{is_used}
use Rattle.mg_image.specs.Sound.{HasTablePages, IsTablePointer}
use Rattle.mg_image.specs.Tables.{EachFrom, Has, IsOnce, Stand, has, pages_of, tree_pages}
use Rattle.mg_image_overlay_laws.specs.pages.Grow.{with_back, with_front, with_last}
use Rattle.mg_image_overlay_laws.specs.pages.Growth.{grown, has_back, table_grows}
use Rattle.mg_image_overlay_laws.specs.pages.Reach.{once_apart, once_front}
use Rattle.mg_image_overlay_laws.specs.pages.GrowKept.{front_both, front_last}
use Rattle.mg_image_overlay_laws.specs.pages.GrowPages.{each_last}
use Rattle.mg_image_overlay_laws.specs.pages.Extended.{HasMore}
use Rattle.mg_image_overlay_laws.specs.pages.ExtendStep.{HasTaken, MakesMore}
use Rattle.mg_image_overlay_laws.specs.pages.PointerPage.{ChangesPointer}

-- The pointer page q of an owner has an entry for the page n, and that is an empty data page of the
-- owner, the place-th.
pub record EntersPage (in_primary : Bool) (size : ℕ) (old new : Pages) (owner place q n : ℕ)
    : Type 0 where
  pub change : ChangesPointer old new q
  pub entry : AddsEntry (old q) (new q) n
  pub pointer : (seq : ℕ) → PassesAll (pointer_checks (old q) q owner seq)
      → PassesAll (pointer_checks (new q) q owner seq)
  pub apart : n ≢ q
  pub below : n < GREATEST_LIMIT
  pub bit : is_used size old n ≡ true
  pub made : PassesAll (common_checks (old n) n DATA_KIND owner place)
  pub lawful : IsDataPage (old n)
  pub empty : (slot : ℕ) → cell_of (old n) slot ≡ None

has_last : (ms : List ℕ) (n k : ℕ) → has (ms ++ (n ∷ [])) k ≡ (has ms k || (k == n || false))
has_last [] n k = refl
has_last (m ∷ ms) n k = at (k == m) (has_last ms n k)
  where
    at : (b : Bool) → has (ms ++ (n ∷ [])) k ≡ (has ms k || (k == n || false))
        → (b || has (ms ++ (n ∷ [])) k) ≡ ((b || has ms k) || (k == n || false))
    at true more = refl
    at false more = more

pub grown_has : (n : ℕ) (s : Stand) → HasMore n s (grown s n)
grown_has n s = record {
  table = refl;
  trees = refl;
  pages = with_back n (s.pointers ++ s.data_pages) (s.pointers ++ (s.data_pages ++ (n ∷ [])))
      (tree_pages s.trees)
      (with_front n s.pointers s.data_pages (s.data_pages ++ (n ∷ [])) (with_last n s.data_pages));
  owners = λ m ne. has_last s.data_pages n m ∙ at (has s.data_pages m) (ne_eqb m n ne);
  pointers = λ m is. inr is;
}
  where
    at : {e : Bool} → (b : Bool) → e ≡ false → (b || (e || false)) ≡ b
    at true off = refl
    at false off = rw off refl

module _ (in_primary : Bool) (size : ℕ) (pool changed : Pages) (owner place pointers q n : ℕ)
    (enters : EntersPage in_primary size pool changed owner place q n) where
  pub grown_its : (image laid : Pages) → HasTaken size pool changed image laid q n
      → ((m : ℕ) → is_used size image m ≡ true → is_used size laid m ≡ true) → (s : Stand)
      → (front : List ℕ) → s.pointers ≡ front ++ (q ∷ []) → length front ≡ pointers
      → length s.data_pages ≡ place → s.table.pointer.0 ≡ owner
      → IsOnce (pages_of s) → AreTrees size laid s.table.pointer.0 s.table.indexes s.trees
      → HasTablePages in_primary size image s → HasTablePages in_primary size laid (grown s n)
  grown_its image laid there used s front are count place_is owner_is once trees has =
      table_grows in_primary size image laid s front q n (record {
        pointers = are;
        entry = subst (λ (page : List ℕ). AddsEntry page (laid q) n) (sym there.lays.was)
            (subst (λ (page : List ℕ). AddsEntry (pool q) page n) (sym there.lays.is) enters.entry);
        is_pointer = record {
          below = last_was.below;
          used = used q last_was.used;
          fields = subst (λ (k : ℕ). PassesAll (pointer_checks (laid q) q k (0 + length front)))
              (sym owner_is)
              (subst (λ (page : List ℕ). PassesAll (pointer_checks page q owner (0 + length front)))
              (sym there.lays.is) (enters.pointer (0 + length front)
              (subst (λ (page : List ℕ). PassesAll (pointer_checks page q owner (0 + length front)))
              there.lays.was
              (subst (λ (k : ℕ). PassesAll (pointer_checks (image q) q k (0 + length front))) owner_is
              last_was.fields))));
        };
        made = record {
          wanted = record {
            below = enters.below;
            used = used n there.used;
            fields = subst (λ (page : List ℕ). PassesAll (common_checks page n DATA_KIND
                s.table.pointer.0 (0 + length s.data_pages))) (sym new_page)
                (subst (λ (k : ℕ). PassesAll (common_checks (pool n) n DATA_KIND k
                (0 + length s.data_pages))) (sym owner_is)
                (subst (λ (k : ℕ). PassesAll (common_checks (pool n) n DATA_KIND owner k))
                at_place enters.made));
          };
          lawful = subst IsDataPage (sym new_page) enters.lawful;
          cells = λ slot bytes is.
              let none : cell_of (laid n) slot ≡ None =
              ap (λ (page : List ℕ). cell_of page slot) new_page ∙ enters.empty slot in
              let both = sym none ∙ is in absurd cc;
        };
        front_kept = λ m is. there.lays.others m
            (λ e. once_apart front (q ∷ []) m pointers_once is (inl e));
        data_kept = λ m is. there.lays.others m (λ e. once_apart s.pointers s.data_pages q
            (once_front (s.pointers ++ s.data_pages) (tree_pages s.trees) once) q_there
            (subst (Has s.data_pages) e is));
        used = used;
        trees = trees;
      }) has
    where
      new_page : laid n ≡ pool n
      new_page = there.lays.others n enters.apart ∙ there.page

      at_place : place ≡ 0 + length s.data_pages
      at_place = let is = place_is in omega (arith, is)

      pointers_once : IsOnce (front ++ (q ∷ []))
      pointers_once = subst IsOnce are (once_front s.pointers s.data_pages
          (once_front (s.pointers ++ s.data_pages) (tree_pages s.trees) once))

      q_there : Has s.pointers q
      q_there = subst (λ (ns : List ℕ). Has ns q) (sym are) (has_back front (q ∷ []) q (inl refl))

      last_was : IsTablePointer size image s.table.pointer.0 (0 + length front) q
      last_was = each_last (IsTablePointer size image s.table.pointer.0) 0 front q
          (subst (EachFrom (IsTablePointer size image s.table.pointer.0) 0) are has.pointers)

  unfoldable pub entry_makes : MakesMore in_primary size pool changed owner place pointers q n
  entry_makes = record {
    more = λ s. grown s n;
    has_more = grown_has n;
    front_out = λ a b front. record {
      table = front.table;
      pointers = front.pointers;
      data_pages = front_last a.data_pages b.data_pages n front.data_pages;
    };
    front_in = λ a b front same data_. record {
      table = front.table;
      pointers = front.pointers;
      data_pages = front_both a.data_pages b.data_pages n data_;
    };
    its = grown_its;
    empty = λ s here off slot. ap (λ (page : List ℕ). cell_of page slot)
        (enters.change.others n enters.apart) ∙ enters.empty slot;
  }
