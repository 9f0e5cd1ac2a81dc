use Rattle.std.proofs.Common.{subst, sym, Option}
use Rattle.mg_image.specs.Records.{Chain}
use Rattle.mg_version.specs.declared.cell.Link.{Link}
use Rattle.mg_collecting.specs.LinkedLaws.{chain_linked, linked_chain, relinked}
use Rattle.mg_image.specs.Records.{newest_of}
use Rattle.mg_collecting.proofs.laws.versions_in_order_are_read.Goals as goal

pub returns : goal.returns
returns c = record {
  read = λ h p es reads. let it = chain_linked h (newest_of p (h p)) es reads in record { slot = it.0; linked = it.1 };
  ordered = λ h p es has. subst (λ (l : Option Link). Chain h l (relinked es)) (sym has.slot)
      (linked_chain h es has.linked);
}
