-- What an insertion leaves of all pages: it changes pages of its tree and of the page inventory alone.
use Rattle.std.proofs.Common.{◌≡◌, ◌≢◌, ◌⊎◌, inl, inr, ◌∙◌, ap, refl, sym, subst, arith, ◌<◌, ◌/◌, ℕ, List, length}
use Rattle.std.proofs.lemmas.Bool.{cases_eq}
use Rattle.mg_base.specs.declared.geometry.Geometry.{Geometry}
use Rattle.mg_base.specs.declared.geometry.TheConstants.{GREATEST_LIMIT}
use Rattle.mg_image.specs.Form.{Pages}
use Rattle.mg_image.specs.Inventory.{inventory_page}
use Rattle.mg_image.specs.Sound.{HasInventory, HasRegion}
use Rattle.mg_image_overlay_laws.specs.pages.Growth.{wanted_still}
use Rattle.mg_pip.specs.PipPage.{bits, pip_checks}
use Rattle.mg_space.specs.Taking.{IsGeometry}
use Rattle.mg_space.specs.TakingLaws.{own_region, takes_keeps, takes_region}
use Rattle.mg_tree_overlay_laws.specs.TreeBatches.{inventory_of}
use Rattle.mg_tree_overlay_laws.specs.TreeSteps.{InTree, StaysUsed}
use Rattle.mg_entry_overlay_laws.specs.EntryBatches.{IsRegionPage}
use Rattle.mg_entry_tie_laws.specs.RowLaws.{ChangesPage, TakesOne}

-- Each page stays, or is one of a tree or of the page inventory; what was used is used, contents stay one page long, and
-- the page inventory lawful.
pub record LeavesPages (size : ℕ) (at_end : List (List ℕ)) (old new : Pages) : Type 0 where
  pub only : (n : ℕ) → (new n ≡ old n) ⊎ (InTree at_end n ⊎ IsRegionPage size n)
  pub used : StaysUsed size old new
  pub whole : ((m : ℕ) → length (old m) ≡ size) → (m : ℕ) → length (new m) ≡ size
  pub inventory : HasInventory size old → HasInventory size new

module _ (g : Geometry) (lawful : IsGeometry g) (at_end : List (List ℕ)) where
  pub leaves_all : (pages : Pages) → LeavesPages g.size at_end pages pages
  leaves_all pages = record {
    only = λ n. inl refl;
    used = λ n is. is;
    whole = λ whole. whole;
    inventory = λ inventory. inventory;
  }

  pub leaves_both : (a b c : Pages) → LeavesPages g.size at_end a b → LeavesPages g.size at_end b c
      → LeavesPages g.size at_end a c
  leaves_both a b c first second = record {
    only = λ n. at n (first.only n) (second.only n);
    used = λ n is. second.used n (first.used n is);
    whole = λ whole. second.whole (first.whole whole);
    inventory = λ inventory. second.inventory (first.inventory inventory);
  }
    where
      at : (n : ℕ) → (b n ≡ a n) ⊎ (InTree at_end n ⊎ IsRegionPage g.size n)
          → (c n ≡ b n) ⊎ (InTree at_end n ⊎ IsRegionPage g.size n)
          → (c n ≡ a n) ⊎ (InTree at_end n ⊎ IsRegionPage g.size n)
      at n (inr place) other = inr place
      at n (inl same) (inr place) = inr place
      at n (inl same) (inl still) = inl (still ∙ same)

  -- ---- a page of the tree changes

  inventory_still : (old new : Pages) → StaysUsed g.size old new
      → ((region : ℕ) → new (inventory_page g.size region) ≡ old (inventory_page g.size region))
      → HasInventory g.size old → HasInventory g.size new
  inventory_still old new used same inventory region below = at (inventory region below)
    where
      at : HasRegion g.size old (inventory_page g.size region) region
          → HasRegion g.size new (inventory_page g.size region) region
      at (inl empty) = inl (same region ∙ empty)
      at (inr wanted) = inr (wanted_still g.size old new (inventory_page g.size region)
          (pip_checks (old (inventory_page g.size region)) (inventory_page g.size region) region)
          (pip_checks (new (inventory_page g.size region)) (inventory_page g.size region) region)
          (used (inventory_page g.size region))
          (ap (λ (page : List ℕ). pip_checks page (inventory_page g.size region) region) (same region)) wanted)

  pub change_leaves : (old new : Pages) → ChangesPage g.size old new at_end → LeavesPages g.size at_end old new
  change_leaves old new is = record {
    only = λ m. at m (cases_eq m is.page);
    used = is.used;
    whole = λ whole m. long whole m (cases_eq m is.page);
    inventory = inventory_still old new is.used (λ region. is.others (inventory_page g.size region)
        (λ same. is.no_inventory (inventory_page g.size region)
        (ap (inventory_page g.size) (own_region g.size region lawful.size) ∙ same)));
  }
    where
      at : (m : ℕ) → (m ≡ is.page) ⊎ (m ≢ is.page) → (new m ≡ old m) ⊎ (InTree at_end m ⊎ IsRegionPage g.size m)
      at m (inl same) = inr (inl (subst (InTree at_end) (sym same) is.placed))
      at m (inr other) = inl (is.others m other)

      long : ((m : ℕ) → length (old m) ≡ g.size) → (m : ℕ) → (m ≡ is.page) ⊎ (m ≢ is.page) → length (new m) ≡ g.size
      long whole m (inl same) = ap (λ (k : ℕ). length (new k)) same ∙ is.len
      long whole m (inr other) = ap (λ (page : List ℕ). length page) (is.others m other) ∙ whole m

  -- ---- a page is taken

  module _ (old new : Pages) (is : TakesOne g old new at_end) where
    abbrev page : ℕ
    page = is.takes.page

    used_still : StaysUsed g.size old new
    used_still = takes_keeps g old new is.takes.page lawful is.takes.takes

    region_page : (m : ℕ) → m ≡ is.inventory → IsRegionPage g.size m
    region_page m same = (is.takes.page / bits g.size, same ∙ sym is.takes.marks, below)
      where
        below : inventory_page g.size (is.takes.page / bits g.size) < GREATEST_LIMIT
        below =
            let within = is.takes.takes.free.region in
            omega (arith, within)

    taking_inventory : HasInventory g.size old → HasInventory g.size new
    taking_inventory inventory region below = at (cases_eq (inventory_page g.size region) is.inventory)
      where
        here : inventory_page g.size region ≡ inventory_of g.size is.takes.page
            → HasRegion g.size new (inventory_page g.size region) region
        here same = subst (λ (n : ℕ). HasRegion g.size new n region) (sym same)
            (takes_region g old new is.takes.page lawful is.takes.takes region same)

        elsewhere : new (inventory_page g.size region) ≡ old (inventory_page g.size region)
            → HasRegion g.size old (inventory_page g.size region) region
            → HasRegion g.size new (inventory_page g.size region) region
        elsewhere same (inl empty) = inl (same ∙ empty)
        elsewhere same (inr wanted) = inr (wanted_still g.size old new (inventory_page g.size region)
            (pip_checks (old (inventory_page g.size region)) (inventory_page g.size region) region)
            (pip_checks (new (inventory_page g.size region)) (inventory_page g.size region) region)
            (used_still (inventory_page g.size region))
            (ap (λ (page : List ℕ). pip_checks page (inventory_page g.size region) region) same) wanted)

        at : (inventory_page g.size region ≡ is.inventory) ⊎ (inventory_page g.size region ≢ is.inventory)
            → HasRegion g.size new (inventory_page g.size region) region
        at (inl same) = here (same ∙ sym is.takes.marks)
        at (inr other) = elsewhere (is.others (inventory_page g.size region) other) (inventory region below)

    pub taking_leaves : LeavesPages g.size at_end old new
    taking_leaves = record {
      only = λ m. at m (cases_eq m is.inventory);
      used = used_still;
      whole = λ whole m. long whole m (cases_eq m is.inventory);
      inventory = taking_inventory;
    }
      where
        at : (m : ℕ) → (m ≡ is.inventory) ⊎ (m ≢ is.inventory)
            → (new m ≡ old m) ⊎ (InTree at_end m ⊎ IsRegionPage g.size m)
        at m (inl same) = inr (inr (region_page m same))
        at m (inr other) = inl (is.others m other)

        long : ((m : ℕ) → length (old m) ≡ g.size) → (m : ℕ) → (m ≡ is.inventory) ⊎ (m ≢ is.inventory)
            → length (new m) ≡ g.size
        long whole m (inl same) = ap (λ (k : ℕ). length (new k)) (same ∙ sym is.takes.marks) ∙ is.takes.takes.len
        long whole m (inr other) = ap (λ (page : List ℕ). length page) (is.others m other) ∙ whole m
