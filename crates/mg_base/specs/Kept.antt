-- How a disk in memory keeps its pages and its record.
use Rattle.std.specs.Prelude.{◌≡◌, ℕ, ◌-◌, ◌<◌, ◌≤◌, ◌^◌, Bool, true, List, ◌++◌, length, replicate, take}
use Rattle.std.proofs.Common.{get_or}
use Rattle.mg_base.specs.Geometry.{is_page_size}
use Rattle.mg_base.specs.Image.{blank}
use Rattle.mg_base.specs.Acts.{acts_of, image_of}
use Rattle.mg_base.specs.declared.obeyed.Obeyed.{Obeyed}

pub record IsKept (size : ℕ) (pages : List (List ℕ)) (used : ℕ) (obeyed : List Obeyed) (writes : ℕ) (settled : Bool) : Type 0 where
  pub lawful : is_page_size size ≡ true
  pub bounded : length pages < 2 ^ 32
  pub entries : writes ≤ length obeyed
  pub room : used ≤ length pages
  -- the pages that are held, and then blank ones
  pub held : pages ≡ image_of size (acts_of (take writes obeyed) settled) ++ replicate (length pages - used) (blank size)
  pub count : length (image_of size (acts_of (take writes obeyed) settled)) ≡ used
  pub whole_pages : (k : ℕ) → k < length pages → length (get_or pages k (blank size)) ≡ size
  pub whole_entries : (k : ℕ) (d : Obeyed) → k < length obeyed → length (get_or obeyed k d).bytes ≡ size
  -- no page of the record lies past the room
  pub within : (k : ℕ) (d : Obeyed) → k < writes → (get_or obeyed k d).page < length pages
