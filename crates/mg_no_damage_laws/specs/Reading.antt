-- What is read of a table that stands, by one who fills a batch.
use Rattle.std.proofs.Common.{◌≡◌, ◌∙◌, inl, inr, ◌≤◌, ◌+◌, ℕ, true, false, List, Option, None, Some, length, refl, sym, ap, subst, arith, cond, is_some, unwrap_or}
use Rattle.mg_base.specs.Disk.{Meaning}
use Rattle.mg_base.specs.Image.{Image}
use Rattle.mg_base.specs.declared.damage.Damaged.{Damaged}
use Rattle.mg_base.specs.declared.numbers.PageNo.{PageNo}
use Rattle.mg_base.specs.declared.numbers.RecId.{RecId}
use Rattle.mg_chain.specs.WritingRefusals.{RefusesTurn}
use Rattle.mg_heap.specs.Changing.{MayHave}
use Rattle.mg_heap.specs.Reach.{RefusesReach}
use Rattle.mg_heap.specs.Reading.{RefusesData}
use Rattle.mg_heap.specs.Walk.{RefusesWalk}
use Rattle.mg_image.specs.Form.{Pages, packed_coding}
use Rattle.mg_image.specs.ReadingLaws.{RowsAreOne}
use Rattle.mg_image.specs.Sound.{HasTablePages}
use Rattle.mg_image.specs.Tables.{Has, Stand}
use Rattle.mg_space.specs.FreePages.{TakingKeepsRegions}
use Rattle.mg_no_damage_laws.specs.Inventory.{PagesAreTaken}
use Rattle.mg_no_damage_laws.specs.Standing.{LastsAreThere, SeesStand, StandsAreReached, StandsAreThere, StandsAreWalked}
use Rattle.mg_pool.specs.Batch.{Changed, content_in}
use Rattle.mg_pool.specs.Dirty.{DirtyPages}
use Rattle.mg_pool.specs.Pool.{shown}
use Rattle.mg_pool.specs.declared.pool.Pool.{Pool}
use Rattle.mg_slots.specs.DataPage.{cell_of, taken_by}
use Rattle.mg_slots.specs.Room.{need_of, rest_of, room_of}
use Rattle.mg_space.specs.View.{Tells, viewed}
use Rattle.mg_space.specs.declared.fault.SpaceFault.TheVariants as faults
use Rattle.mg_space.specs.declared.links.FireLinks.{FireLinks}
use Rattle.mg_version.specs.declared.cell.TheConstants.{ANCHOR_LEN}
use Rattle.mg_no_damage_laws.specs.WriteStanding.{IsStanding, bare}

-- The laws on reading and taking.
pub record Reads {D : Type 0} (m : Meaning D) : Type 0 where
  pub there : StandsAreThere m
  pub walked : StandsAreWalked m
  pub reached : StandsAreReached m
  pub lasts : LastsAreThere m
  pub taken : PagesAreTaken
  pub kept : TakingKeepsRegions
  pub one : RowsAreOne packed_coding

-- an anchor may stand where a cell stands
may_have : (b : List ℕ) (slot : ℕ) (bytes : List ℕ) → length bytes ≡ ANCHOR_LEN
    → is_some (cell_of b slot) ≡ true → MayHave b slot bytes
may_have b slot bytes len some = by (cell_of b slot) refl
  where
    by : (cell : Option (List ℕ)) → cell_of b slot ≡ cell → MayHave b slot bytes
    by None none = let no : is_some (cell_of b slot) ≡ false = ap is_some none in absurd cc
    by (Some held) is = record {
      slot_is = λ none. absurd (nothing none);
      fits = subst (λ (c : Option (List ℕ)). need_of bytes ≤ cond (is_some c) (rest_of b + taken_by c) (room_of b))
          (sym is) (omega (arith, len));
    }
      where
        nothing : cell_of b slot ≡ None → ⊥
        nothing none = let no : Some held ≡ None = sym is ∙ none in absurd cc

module _ {D : Type 0} (m : Meaning D) (laws : Reads m) (a n : Pool D FireLinks) (image : Image)
    (like : n.dirty ≡ a.dirty) (tells : Tells m n.disk image) (size : ℕ) where
  pub views : (b : Changed) → viewed n image b ≡ viewed a image b
  views b = ap (λ (d : DirtyPages). λ (k : ℕ). unwrap_or (content_in b.pages k) (shown d image k)) like

  module _ (b : Changed) (stand : Stand) (is : IsStanding size (viewed a image b) stand) where
    pub sees : SeesStand m n image b size (bare stand)
    sees = record {
      tells = tells;
      has = subst (λ (ps : Pages). HasTablePages false size ps (bare stand)) (sym (views b)) is.has;
    }

    pub page_there : (p : PageNo) → Has stand.data_pages p.0 → (it : Damaged)
        → RefusesData m n b.pages p (viewed a image b p.0) (faults.Damaged it) → ⊥
    page_there p listed it refused = laws.there n image b size (bare stand) sees p listed it
        (subst (λ (ps : Pages). RefusesData m n b.pages p (ps p.0) (faults.Damaged it)) (sym (views b)) refused)

    pub walk_whole : (owner : ℕ) → stand.table.pointer.0 ≡ owner → (it : Damaged)
        → RefusesWalk m n b.pages (viewed a image b) owner (faults.Damaged it) → ⊥
    walk_whole owner begins it refused = laws.walked n image b size (bare stand) sees it
        (subst (λ (ps : Pages). RefusesWalk m n b.pages ps stand.table.pointer.0 (faults.Damaged it))
        (sym (views b)) (subst (λ (k : ℕ). RefusesWalk m n b.pages (viewed a image b) k (faults.Damaged it))
        (sym begins) refused))

    pub place_known : (owner : ℕ) → stand.table.pointer.0 ≡ owner → (p : PageNo) → Has stand.data_pages p.0
        → (it : Damaged) → RefusesReach m n b.pages (viewed a image b) owner p (faults.Damaged it) → ⊥
    place_known owner begins p listed it refused = laws.reached n image b size (bare stand) sees p listed it
        (subst (λ (ps : Pages). RefusesReach m n b.pages ps stand.table.pointer.0 p (faults.Damaged it))
        (sym (views b)) (subst (λ (k : ℕ). RefusesReach m n b.pages (viewed a image b) k p (faults.Damaged it))
        (sym begins) refused))

    -- a slot that has a cell is turned
    pub slot_turned : (rec : RecId) → Has stand.data_pages rec.page.0
        → is_some (cell_of (viewed a image b rec.page.0) rec.slot) ≡ true → (it : Damaged)
        → RefusesTurn m n b.pages (viewed a image b) rec (faults.Damaged it) → ⊥
    slot_turned rec listed some it (inl refused) = page_there rec.page listed it refused
    slot_turned rec listed some it (inr none) =
        none.none (may_have (viewed a image b rec.page.0) rec.slot none.bytes none.len some)
