-- A change of rows is one at the place of its key.
use Rattle.std.proofs.Common.{◌≡◌, ◌∙◌, ap, subst, Bool}
use Rattle.std.specs.Result.{OnOk}
use Rattle.std.specs.Option.{option_copied}
use Rattle.mg_model.specs.Changes.{KeyedRows}
use Rattle.mg_plain.specs.Places.{IsPlace, with_row_at}
use Rattle.mg_plain.proofs.RowLemmas.{put_row-at, found_within, place_after}
use Rattle.mg_plain.proofs.rows.put_row.Goals as goal

pub take_out-requires : goal.take_out-requires
take_out-requires c =
    let n = c.place_of-place.result.0 in
    let place : IsPlace c.args.rows.now.items c.args.key.now n c.place_of-place.result.1 =
    subst (λ (x : KeyedRows). IsPlace x c.args.key.now n c.place_of-place.result.1) c.deref.ensures.value c.place_of-place.ensures in
    λ found. found_within c.args.rows.now.items c.args.key.now n (subst (λ (b : Bool). IsPlace c.args.rows.now.items c.args.key.now n b) found place)

pub put_in-requires : goal.put_in-requires
put_in-requires c =
    let n = c.place_of-place.result.0 in
    let place : IsPlace c.args.rows.now.items c.args.key.now n c.place_of-place.result.1 =
    subst (λ (x : KeyedRows). IsPlace x c.args.key.now n c.place_of-place.result.1) c.deref.ensures.value c.place_of-place.ensures in
    rw c.take_out.ensures (place_after c.args.rows.now.items c.args.key.now n c.place_of-place.result.1 place)

pub returns : goal.returns
returns c =
    let n = c.place_of-place.result.0 in
    let place : IsPlace c.args.rows.now.items c.args.key.now n c.place_of-place.result.1 =
    subst (λ (x : KeyedRows). IsPlace x c.args.key.now n c.place_of-place.result.1) c.deref.ensures.value c.place_of-place.ensures in
    let whole = ap (with_row_at n c.args.key.now (option_copied c.args.row)) c.take_out.ensures ∙ put_row-at c.args.rows.now.items c.args.key.now (option_copied c.args.row) n c.place_of-place.result.1 place in
    subst (λ (x : KeyedRows). OnOk c.put_in.result (c.put_in.new.rows.items ≡ x)) whole c.put_in.ensures
