-- A number is drawn.
use Rattle.std.proofs.Common.{◌≡◌, ◌∙◌, inl, inr, ℕ, false, List, [], Option, None, Some, Ok, Err, Result, length, refl, sym, ap, arith, is_some, unwrap_or}
use Rattle.std.proofs.lemmas.List.{get_or_past}
use Rattle.mg_base.specs.Disk.{Meaning}
use Rattle.mg_base.specs.Fields.{byte}
use Rattle.mg_base.specs.Image.{Image, blank, page_at}
use Rattle.mg_base.specs.declared.damage.Damaged.{Damaged}
use Rattle.mg_header.specs.HeaderPageLaws.{reads}
use Rattle.mg_header.specs.declared.header.HeadFault.{HeadFault}
use Rattle.mg_header.specs.declared.header.Header.{Header}
use Rattle.mg_image.specs.Inventory.{header_of}
use Rattle.mg_image.specs.Sound.{HasHeader}
use Rattle.mg_image_overlay_laws.specs.pages.DataPages.{byte_blank, kind_of}
use Rattle.mg_no_damage_laws.specs.Inventory.{PagesAreTaken}
use Rattle.mg_pool.specs.Dirty.{DirtyPages, content_of}
use Rattle.mg_pool.specs.Pool.{shown}
use Rattle.mg_pool.specs.declared.pool.Pool.{Pool}
use Rattle.mg_space.specs.RegionLaws.{sound_regions}
use Rattle.mg_space.specs.View.{IsMissing}
use Rattle.mg_space.specs.ViewLaws.{tells_on}
use Rattle.mg_space.specs.declared.fault.SpaceFault.TheVariants as faults
use Rattle.mg_space.specs.declared.links.FireLinks.{FireLinks}
use Rattle.mg_txlist.specs.Refusals.{RefusesHead}
use Rattle.mg_no_damage_laws.specs.Draws.{NumbersAreDrawn}

else_of : (o : Option (List ℕ)) (x : List ℕ) → is_some o ≡ false → unwrap_or o x ≡ x
else_of None x none = refl
else_of (Some y) x none = absurd cc

-- a missing page reads as zero
missing_blank : {D : Type 0} (m : Meaning D) (counted : (disk : D) (image : Image) (n : ℕ)
    → m.held disk ≡ Some image → m.count disk ≡ Some n → length image ≡ n) (store : Pool D FireLinks)
    (image : Image) → m.held store.disk ≡ Some image → (n count : ℕ) → IsMissing m store [] n count
    → shown store.dirty image n ≡ blank store.dirty.size
missing_blank m counted store image held n count missing =
    let long : length image ≡ count = counted store.disk image count held missing.count_is in
    let beyond = missing.past in
    else_of (content_of store.dirty n) (page_at store.dirty.size image n) missing.clean
    ∙ get_or_past image n (blank store.dirty.size) (omega (arith, long, beyond))

-- the header of a sound image is there, and is read
head_read : {D : Type 0} (m : Meaning D) (store : Pool D FireLinks) (size : ℕ) (pages : ℕ → List ℕ)
    → HasHeader size pages → ((count : ℕ) → IsMissing m store [] 0 count → pages 0 ≡ blank store.dirty.size)
    → (it : Damaged) → RefusesHead m store size (pages 0) (faults.Damaged it) → ⊥
head_read m store size pages header there it (inl (count, is, missing)) =
    let none : byte (pages 0) 0 ≡ 0 =
    ap (λ (b : List ℕ). byte b 0) (there count missing) ∙ byte_blank store.dirty.size in
    let one : byte (pages 0) 0 ≡ 1 = kind_of (pages 0) 0 1 0 0 _ header.fields in omega (arith, none, one)
head_read m store size pages header there it (inr (fault, wrong, is)) =
    let both : ◌≡◌ {A = Result Header HeadFault} (Ok (header_of pages)) (Err fault) =
    sym (reads (pages 0) size header.database header.fields) ∙ wrong in absurd cc

pub numbers_are_drawn : {D : Type 0} (m : Meaning D) → ((disk : D) (image : Image) (n : ℕ)
    → m.held disk ≡ Some image → m.count disk ≡ Some n → length image ≡ n) → PagesAreTaken → NumbersAreDrawn m
numbers_are_drawn m counted taken old new image state layout r sees t next it (inl head) =
    head_read m new old.geometry.size (shown old.dirty image) sees.sound.header there it head
  where
    there : (count : ℕ) → IsMissing m new [] 0 count → shown old.dirty image 0 ≡ blank new.dirty.size
    there count missing = ap (λ (d : DirtyPages). shown d image 0) (sym sees.keeps.dirty)
        ∙ missing_blank m counted new image (tells_on m old new image sees.keeps sees.tells).held 0 count missing
numbers_are_drawn m counted taken old new image state layout r sees t next it (inr (inl other)) =
    let both : ◌≡◌ {A = Result Header HeadFault} (Ok (header_of (shown old.dirty image))) (Ok other.header) =
    sym (reads (shown old.dirty image 0) old.geometry.size sees.sound.header.database sees.sound.header.fields)
    ∙ other.reads in
    let same : header_of (shown old.dirty image) ≡ other.header = cc in
    other.other (ap (λ (h : Header). h.next.0) (sym same) ∙ next)
numbers_are_drawn m counted taken old new image state layout r sees t next it (inr (inr (first, take))) =
    taken old.geometry (shown old.dirty image) (sound_regions old.geometry (shown old.dirty image) sees.geometry
    sees.sound.header.whole sees.sound.inventory) it take
