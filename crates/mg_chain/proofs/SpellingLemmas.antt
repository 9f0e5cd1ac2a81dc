-- How long the bytes of cells are.
use Rattle.std.proofs.Common.{◌≡◌, ◌≤◌, ◌+◌, ◌++◌, [], ◌∙◌, ℕ, List, Option, None, Some, length, length-append, sym, ap, subst, arith}
use Rattle.mg_version.specs.Cells.{back_bytes, cell_bytes, head_bytes}
use Rattle.mg_version.specs.declared.cell.Cell.TheVariants as cells
use Rattle.mg_version.specs.declared.cell.Link.{Link}
use Rattle.mg_version.specs.declared.cell.Version.{Version}

written_alone : (out made bytes : List ℕ) → out ≡ [] → made ≡ out ++ bytes → made ≡ bytes
written_alone out made bytes empty is = is ∙ ap (λ (o : List ℕ). o ++ bytes) empty

pub anchor_len : (out made : List ℕ) (link : Link) → out ≡ []
    → made ≡ out ++ cell_bytes (cells.Anchor link) → length made ≡ 11
unfolding cell_bytes
anchor_len out made link empty is =
    ap (length {A = ℕ}) (written_alone out made (cell_bytes (cells.Anchor link)) empty is)

pub version_short : (out made body : List ℕ) (v : Version) → out ≡ [] → v.body ≡ body
    → made ≡ out ++ cell_bytes (cells.Version v) → length made ≤ length body + 18
unfolding cell_bytes
version_short out made body v empty same is =
    subst (λ (b : List ℕ). length made ≤ length b + 18) same
    (subst (λ (m : List ℕ). length m ≤ length v.body + 18)
    (sym (written_alone out made (cell_bytes (cells.Version v)) empty is)) (short v.back))
  where
    short : (back : Option Link) → length ((head_bytes v ++ back_bytes back) ++ v.body) ≤ length v.body + 18
    short None = omega (arith, length-append (head_bytes v ++ []) v.body)
    short (Some link) = omega (arith, length-append (head_bytes v ++ back_bytes (Some link)) v.body)
