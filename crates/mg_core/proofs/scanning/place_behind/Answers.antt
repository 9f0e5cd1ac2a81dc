use Rattle.std.proofs.Common.{◌≡◌, ap, arith}
use Rattle.mg_base.specs.declared.geometry.Geometry.{Geometry}
use Rattle.mg_space.specs.TakingLaws.{page_sizes}
use Rattle.mg_core.proofs.scanning.place_behind.Goals as goal

pub get_u32-sequence-requires : goal.get_u32-sequence-requires
get_u32-sequence-requires g c =
    let least = (page_sizes c.args.store.now.geometry.size c.requires.geometry.size).0 in
    let same : c.hold.new.store.geometry.size ≡ c.args.store.now.geometry.size =
    ap (λ (k : Geometry). k.size) c.in-Ok.ensures.keeps.geometry in
    omega (arith, c.lent.ensures.len, same, least)
