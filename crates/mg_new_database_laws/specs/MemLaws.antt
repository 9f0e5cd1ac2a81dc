-- The pages of a disk in memory are whole.
use Rattle.std.proofs.Common.{◌≡◌, ◌⊎◌, inl, inr, ◌<◌, ◌≤◌, ◌+◌, ◌-◌, ◌++◌, sym, ap, ◌∙◌, subst, arith, get_or, ℕ, length}
use Rattle.std.specs.Prelude.{replicate}
use Rattle.std.proofs.lemmas.Bool.{cases_lt}
use Rattle.std.proofs.lemmas.List.{get_or_append_left, get_or_past, length-append, length-replicate}
use Rattle.mg_base.specs.Image.{Image, blank, page_at}
use Rattle.mg_base.specs.MemDisk.{acts_in}
use Rattle.mg_base.specs.Acts.{image_of}
use Rattle.mg_new_database_laws.specs.Soundness.{HasWholePages, MemDisksAreWhole}

-- a front of pages that are whole is whole
front_whole : (size : ℕ) (image pages : Image) (k : ℕ) → pages ≡ image ++ replicate k (blank size)
    → ((n : ℕ) → n < length pages → length (get_or pages n (blank size)) ≡ size) → HasWholePages size image
front_whole size image pages k all whole n = at (cases_lt n (length image))
  where
    long : length pages ≡ length image + length (replicate k (blank size))
    long = ap length all ∙ length-append image (replicate k (blank size))

    at : (n < length image) ⊎ (length image ≤ n) → length (page_at size image n) ≡ size
    at (inl less) = ap length (sym (ap (λ (xs : Image). get_or xs n (blank size)) all
        ∙ get_or_append_left image (replicate k (blank size)) (blank size) n less))
        ∙ whole n (omega (arith, long, less))
    at (inr past) = ap length (get_or_past image n (blank size) past) ∙ length-replicate {A = ℕ} size 0

pub disks_are_whole : MemDisksAreWhole
disks_are_whole disk image is =
    let same : image_of disk.size (acts_in disk) ≡ image = cc in
    subst (HasWholePages disk.size) same
    (front_whole disk.size (image_of disk.size (acts_in disk)) disk.pages.items (length disk.pages.items - disk.used)
    disk.kept.held disk.kept.whole_pages)
