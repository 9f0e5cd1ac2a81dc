use Rattle.std.proofs.Common.{◌≤◌, length, arith}
use Rattle.mg_soundness.proofs.NewCatalogLemmas.{only_packed, packed_len, plain_bodies, stands_of}
use Rattle.mg_soundness.proofs.new_catalog.body_of.Goals as goal

pub plain_of-requires : goal.plain_of-requires
plain_of-requires c =
    let short : length c.encode_row.new.out.items ≤ 216 = packed_len c.args.row.now
    c.encode_row.new.out.items c.requires.len (stands_of c.args.shape.now c.args.row.now
    c.new-packed.result.items c.encode_row.new.out.items c.requires.shape c.new-packed.ensures.items
    c.in_ok-encode_row.ensures.ok) in
    rw c.deref.ensures.value (omega (arith, short))

pub returns-in-Packed : goal.returns-in-Packed
returns-in-Packed c = rw c.in-Packed.is (only_packed c.one_packed_text.ensures.one c.args.row.now
    c.encode_row.new.out.items c.requires.fits c.requires.len (stands_of c.args.shape.now
    c.args.row.now c.new-packed.result.items c.encode_row.new.out.items c.requires.shape
    c.new-packed.ensures.items c.in_ok-encode_row.ensures.ok))

pub returns-in-Plain : goal.returns-in-Plain
returns-in-Plain c = rw c.in-Plain.is (plain_bodies (λ v. v.items) c.one_plain_text.ensures
    c.args.row.now c.deref.result.now c.requires.fits c.requires.len
    (rw c.deref.ensures.value (stands_of c.args.shape.now c.args.row.now
    c.new-packed.result.items c.encode_row.new.out.items c.requires.shape c.new-packed.ensures.items
    c.in_ok-encode_row.ensures.ok)) c.plain_of.result c.plain_of.ensures)
