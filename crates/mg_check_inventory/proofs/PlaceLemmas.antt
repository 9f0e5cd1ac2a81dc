-- A page of a lawful size has bits and places.
use Rattle.std.specs.Prelude.{◌≡◌, ◌<◌, ◌≤◌, ◌⊎◌, ◌==◌, ◌||◌, ℕ, true}
use Rattle.std.proofs.Common.{inl, inr, arith}
use Rattle.std.proofs.lemmas.Bool.{eqb-true, or_cases}
use Rattle.mg_base.specs.Geometry.{is_page_size}
use Rattle.mg_base.specs.Image.{Image}
use Rattle.mg_pip.specs.PipPage.{bits}
use Rattle.mg_tip.specs.TipPage.{places}
use Rattle.mg_check_inventory.specs.ImagePages.{IsWholeImage}

pub least_size : (size : ℕ) → is_page_size size ≡ true → 1024 ≤ size
least_size size is = five (or_cases _ _ is)
  where
    one : ((size == 1024) ≡ true) ⊎ ((size == 2048) ≡ true) → 1024 ≤ size
    one (inl is) = omega (arith, eqb-true size 1024 is)
    one (inr is) = omega (arith, eqb-true size 2048 is)

    two : ((size == 1024 || size == 2048) ≡ true) ⊎ ((size == 4096) ≡ true) → 1024 ≤ size
    two (inl is) = one (or_cases _ _ is)
    two (inr is) = omega (arith, eqb-true size 4096 is)

    three : ((size == 1024 || size == 2048 || size == 4096) ≡ true) ⊎ ((size == 8192) ≡ true)
        → 1024 ≤ size
    three (inl is) = two (or_cases _ _ is)
    three (inr is) = omega (arith, eqb-true size 8192 is)

    five : ((size == 1024 || size == 2048 || size == 4096 || size == 8192) ≡ true)
        ⊎ ((size == 16384) ≡ true) → 1024 ≤ size
    five (inl is) = three (or_cases _ _ is)
    five (inr is) = omega (arith, eqb-true size 16384 is)

pub some_places : (size : ℕ) (image : Image) → IsWholeImage size image → 0 < places size
some_places size image whole = omega (arith, least_size size whole.lawful)

pub some_bits : (size : ℕ) (image : Image) → IsWholeImage size image → 0 < bits size
some_bits size image whole = omega (arith, least_size size whole.lawful)
