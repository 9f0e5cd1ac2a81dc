-- An image is a list of pages, each a list of bytes. A page past the end reads as zero.
use Rattle.std.specs.Prelude.{◌≡◌, ◌≢◌, ℕ, zero, suc, ◌+◌, ◌-◌, ◌<◌, List, [], ◌∷◌, ◌++◌, length, replicate, max}
use Rattle.std.proofs.Common.{get_or, refl, arith, ◌∙◌, length-append}
use Rattle.std.proofs.Math.ListN.{set}
use Rattle.std.proofs.lemmas.List.{get_or-set_same, get_or-set_other, length-set, length-replicate}

abbrev pub Image : Type 0
Image = List (List ℕ)

-- a page of zeros
abbrev pub blank : ℕ → List ℕ
blank size = replicate size 0

-- a page of an image
abbrev pub page_at : ℕ → Image → ℕ → List ℕ
page_at size image n = get_or image n (blank size)

-- the image with one page written; pages between its end and that page are zero
unfoldable pub written : ℕ → Image → ℕ → List ℕ → Image
written size image n bytes = set (image ++ replicate (n + 1 - length image) (blank size)) n bytes

pub length-written : (size : ℕ) (image : Image) (n : ℕ) (bytes : List ℕ) → length (written size image n bytes) ≡ max (length image) (n + 1)
unfolding written
length-written size image n bytes = grind (arith, length-set, length-append, length-replicate)

pub page_at-written_same : (size : ℕ) (image : Image) (n : ℕ) (bytes : List ℕ) → page_at size (written size image n bytes) n ≡ bytes
unfolding written
page_at-written_same size image n bytes =
    let long : n < length (image ++ replicate (n + 1 - length image) (blank size)) = grind (arith, length-append, length-replicate) in
    get_or-set_same _ n bytes (blank size) long

pub page_at-written_other : (size : ℕ) (image : Image) (n : ℕ) (bytes : List ℕ) (m : ℕ) → m ≢ n → page_at size (written size image n bytes) m ≡ page_at size image m
unfolding written
page_at-written_other size image n bytes m ne =
    get_or-set_other _ n m bytes (blank size) ne ∙ padded image (n + 1 - length image) m
  where
    zeros : (k m : ℕ) → get_or (replicate k (blank size)) m (blank size) ≡ blank size
    zeros zero m = refl
    zeros (suc k) zero = refl
    zeros (suc k) (suc m) = zeros k m

    padded : (image : Image) (k m : ℕ) → get_or (image ++ replicate k (blank size)) m (blank size) ≡ get_or image m (blank size)
    padded [] k m = zeros k m
    padded (x ∷ image) k zero = refl
    padded (x ∷ image) k (suc m) = padded image k m
