-- How an image is kept: its pages, all of one lawful size, and a page of zeros.
use Rattle.std.specs.Prelude.{◌≡◌, ◌<◌, ℕ, true, List, EachIndex, length, replicate}
use Rattle.std.proofs.Common.{get_or}
use Rattle.mg_base.specs.Geometry.{is_page_size}

pub record IsKept (size : ℕ) (pages : List (List ℕ)) (blank : List ℕ) : Type 0 where
  pub lawful : is_page_size size ≡ true
  pub whole : (n : ℕ) (past : List ℕ) → n < length pages → length (get_or pages n past) ≡ size
  pub zeros : blank ≡ replicate size 0

-- the page size is a lawful one, and each of these pages has it
abbrev pub AreWhole : ℕ → List (List ℕ) → Type 0
AreWhole size pages = (is_page_size size ≡ true)
    × EachIndex pages (λ n. (past : List ℕ) → length (get_or pages n past) ≡ size)
