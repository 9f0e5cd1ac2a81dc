-- Which page sizes and page limits a database may have.
use Rattle.std.specs.Prelude.{ℕ, Bool, ◌||◌, ◌&&◌, ◌==◌, nat_le, Option, Some, None, if◌then◌else◌}
use Rattle.mg_base.specs.declared.geometry.Geometry.{Geometry}

-- the five sizes of a page
abbrev pub is_page_size : ℕ → Bool
is_page_size n = n == 1024 || n == 2048 || n == 4096 || n == 8192 || n == 16384

-- a geometry is there exactly where the size is one of the five and the limit is 16 to 131072
abbrev pub geometry_of : ℕ → ℕ → Option Geometry
geometry_of size limit = if is_page_size size && nat_le 16 limit && nat_le limit 131072 then Some (record { size = size; limit = limit }) else None
