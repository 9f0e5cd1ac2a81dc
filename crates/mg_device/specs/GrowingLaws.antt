-- A disk in memory loses no page: what a crash leaves, and what one at an earlier moment might have left, has no more
-- pages than it holds.
use Rattle.std.specs.Prelude.{◌≡◌, ◌≤◌, ℕ, List, [], ◌∷◌, length}
use Rattle.std.proofs.Common.{inl, inr, arith, sym}
use Rattle.mg_base.specs.Acts.{Act, Leaves, Left, Settle, Write, image_of}
use Rattle.mg_base.specs.Image.{Image, length-written, written}
use Rattle.mg_base.specs.MemDisk.{acts_in, mem_meaning}
use Rattle.mg_device.specs.Growing.{NeverShrinks}

written_more : (size : ℕ) (image : Image) (n : ℕ) (bytes : List ℕ) → length image ≤ length (written size image n bytes)
written_more size image n bytes = omega (arith, length-written size image n bytes)

leaves_few : (size : ℕ) (acts : List Act) (c : Image) → Leaves size acts c → length c ≤ length (image_of size acts)
leaves_few size [] c is = rw is (omega arith)
leaves_few size (Write n bytes ∷ acts) c (inl before) =
    omega (arith, leaves_few size acts c before, written_more size (image_of size acts) n bytes)
leaves_few size (Write n bytes ∷ acts) c (inr is) = rw is (omega arith)
leaves_few size (Settle ∷ acts) c is = rw is (omega arith)

left_few : (size : ℕ) (acts : List Act) (t : ℕ) (c : Image) → Left size acts t c → length c ≤ length (image_of size acts)
left_few size [] t c left = leaves_few size [] c left
left_few size (act ∷ acts) t c (inl now) = leaves_few size (act ∷ acts) c now
left_few size (Write n bytes ∷ acts) t c (inr (le, past)) =
    omega (arith, left_few size acts t c past, written_more size (image_of size acts) n bytes)
left_few size (Settle ∷ acts) t c (inr (le, past)) = left_few size acts t c past

pub mem_never_shrinks : NeverShrinks mem_meaning
mem_never_shrinks d t c image told left held =
    let same : image_of d.size (acts_in d) ≡ image = let h = held in cc in
    rw (sym same) (left_few d.size (acts_in d) t c left)
