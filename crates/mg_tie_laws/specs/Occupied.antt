-- A page that was taken, and then made, is occupied.
use Rattle.std.proofs.Common.{◌≡◌, ◌≢◌, inl, inr, refl, ap, sym, subst, ◌∙◌, arith, ℕ, ◌<◌, ◌/◌, ◌%◌, List, [], length}
use Rattle.mg_base.specs.Checks.{PassesAll}
use Rattle.mg_base.specs.Fields.{byte}
use Rattle.mg_base.specs.declared.geometry.Geometry.{Geometry}
use Rattle.mg_image.specs.Form.{Pages}
use Rattle.mg_image.specs.Inventory.{inventory_page, is_used}
use Rattle.mg_image.specs.Sound.{HasRegion}
use Rattle.mg_image_overlay_laws.specs.pages.DataPages.{all_passes, byte_blank, kind_of}
use Rattle.mg_pip.specs.PipPage.{bits, pip_checks, used_in}
use Rattle.mg_space.specs.Taking.{IsGeometry, IsLawfulRegion, TakesPage, region_of}
use Rattle.mg_space.specs.TakingLaws.{own_region, takes_bit, takes_keeps, takes_region}
use Rattle.mg_image_overlay_laws.specs.pages.TakePart.{OccupiesPage}

-- Two views follow one another as those between which a page was taken: they have the same inventory
-- pages as these, and but for the page itself and its inventory page nothing changes.
pub record FollowsTaking (size : ℕ) (old taken view next : Pages) (n : ℕ) : Type 0 where
  pub before : (k : ℕ) → view (inventory_page size k) ≡ old (inventory_page size k)
  pub after : (k : ℕ) → next (inventory_page size k) ≡ taken (inventory_page size k)
  pub others : (m : ℕ) → m ≢ inventory_page size (region_of size n) → m ≢ n → next m ≡ view m
  pub whole : (m : ℕ) → length (next m) ≡ size

-- the page is occupied then, whatever is made of it
abbrev pub TakenAreOccupied : Type 0
TakenAreOccupied = (g : Geometry) (old taken view next : Pages) (n : ℕ) → IsGeometry g
    → TakesPage g old taken n → FollowsTaking g.size old taken view next n
    → OccupiesPage g.size view next (inventory_page g.size (region_of g.size n)) n

same_bits : (size : ℕ) (one other : Pages)
    → ((k : ℕ) → one (inventory_page size k) ≡ other (inventory_page size k)) → (m : ℕ)
    → is_used size one m ≡ is_used size other m
unfolding is_used
same_bits size one other same m =
    ap (λ (page : List ℕ). used_in page (m % bits size)) (same (m / bits size))

region_low : (at region : ℕ) (page : List ℕ) → IsLawfulRegion at region page → byte page 0 < 3
region_low at region page (inl empty) =
    let zero_ : byte page 0 ≡ 0 = ap (λ (p : List ℕ). byte p 0) empty ∙ byte_blank (length page) in
    omega (arith, zero_)
region_low at region page (inr passes) =
    let two : byte page 0 ≡ 2 = kind_of page at 2 0 region [] (all_passes (pip_checks page at region) passes)
    in omega (arith, two)

pub taken_are_occupied : TakenAreOccupied
taken_are_occupied g old taken view next n lawful takes follows = record {
  others = follows.others;
  off_header = (header_off, λ e. takes.free.no_header (sym e));
  whole = follows.whole;
  of_bit = refl;
  own_bit = ap (inventory_page g.size) (own_region g.size (region_of g.size n) lawful.size);
  region = region_now;
  was_region = subst (λ (page : List ℕ). byte page 0 < 3) (sym (follows.before (region_of g.size n)))
      (region_low (inventory_page g.size (region_of g.size n)) (region_of g.size n)
      (old (inventory_page g.size (region_of g.size n))) takes.was);
  used = λ m is. same_bits g.size next taken follows.after m
      ∙ takes_keeps g old taken n lawful takes m (sym (same_bits g.size view old follows.before m) ∙ is);
  fresh = same_bits g.size view old follows.before n ∙ takes.free.unused;
  bit = same_bits g.size next taken follows.after n ∙ takes_bit g old taken n lawful takes;
  below = let below = takes.free.below in omega (arith, below);
  no_region = takes.free.no_inventory;
}
  where
    header_off : 0 ≢ inventory_page g.size (region_of g.size n)
    header_off e = omega (arith, e)

    region_now : (k : ℕ) → inventory_page g.size k ≡ inventory_page g.size (region_of g.size n)
        → HasRegion g.size next (inventory_page g.size (region_of g.size n)) k
    region_now k same = moved (takes_region g old taken n lawful takes k same)
      where
        moved : HasRegion g.size taken (inventory_page g.size (region_of g.size n)) k
            → HasRegion g.size next (inventory_page g.size (region_of g.size n)) k
        moved (inl empty) = inl (follows.after (region_of g.size n) ∙ empty)
        moved (inr wanted) = inr (record {
          below = wanted.below;
          used = same_bits g.size next taken follows.after (inventory_page g.size (region_of g.size n))
              ∙ wanted.used;
          fields = subst (λ (page : List ℕ). PassesAll (pip_checks page
              (inventory_page g.size (region_of g.size n)) k)) (sym (follows.after (region_of g.size n)))
              wanted.fields;
        })
