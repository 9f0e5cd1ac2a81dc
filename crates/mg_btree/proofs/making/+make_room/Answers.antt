use Rattle.std.proofs.Common.{rules, ◌≡◌, ap, ◌≤◌, ◌<◌, ◌+◌, ◌/◌, ◌∙◌, refl, sym, subst, Ok, Err, ℕ, List, length, arith, None}
use Rattle.mg_base.specs.declared.geometry.Geometry.{Geometry}
use Rattle.mg_base.specs.declared.numbers.PageNo.{PageNo}
use Rattle.mg_space.specs.Taking.{IsGeometry}
use Rattle.mg_space.specs.View.{AreWhole, viewed}
use Rattle.mg_btree.specs.declared.halves.PageBytes.{PageBytes}
use Rattle.mg_btree.specs.ExitLaws.{reads_itself, reads_split}
use Rattle.mg_btree.specs.Halves.{HasRoom, IsPlaceFor, IsRoomy}
use Rattle.mg_btree.specs.Making.{SplitsIn}
use Rattle.mg_btree.specs.MakingLaws.{above_made, rec_refused, split_put, take_refused}
use Rattle.mg_btree.specs.OrderLaws.{widens_on, widens_same}
use Rattle.mg_btree.specs.Ordering.{Widens}
use Rattle.mg_btree.specs.PutAtLaws.{reached_place}
use Rattle.mg_btree.specs.ReadingLaws.{ok_of_err, reads_on}
use Rattle.mg_btree.specs.RoomLaws.{makes_nothing}
use Rattle.mg_btree.specs.Rooms.{MakesRoomIn}
use Rattle.std.specs.Prelude.{IfOk, OnOk}
use Rattle.mg_btree.specs.BelowLaws.{split_half, split_whole}
use Rattle.mg_btree.specs.declared.making.Split.{Split}
use Rattle.mg_btree.specs.RowOrderLaws.{not_there}
use Rattle.mg_btree.specs.RoomyLaws.{no_room_full, split_roomy}
use Rattle.mg_btree.specs.ScanLaws.{reads_err}
use Rattle.mg_btree.specs.Searching.{IsReached}
use Rattle.mg_node.specs.NodePage.{IsNodePage}
use Rattle.mg_btree.specs.AboveLaws.{sized_by}
use Rattle.mg_btree.proofs.ExitLemmas.{below_other}
use Rattle.mg_btree.proofs.GrowingLemmas.{inner_next}
use Rattle.mg_btree.proofs.making.+make_room.Goals as goal

pub returns-then-has_room-clause-reads : goal.returns-then-has_room-clause-reads
returns-then-has_room-clause-reads g t c = reads_itself g.D.Disk.meaning c.args.store.now c.args.full
    c.requires.pool c.requires.online

pub returns-then-has_room-clause-widens : goal.returns-then-has_room-clause-widens
returns-then-has_room-clause-widens g t c = widens_same c.args.store.now.geometry.size c.args.batch.now
    c.args.batch.now refl

pub returns-then-has_room-clause-roomy : goal.returns-then-has_room-clause-roomy
returns-then-has_room-clause-roomy g t c = record {
  place = c.requires.place;
  room = subst (λ (b : List ℕ). HasRoom b c.args.e.now) c.as_slice.ensures
      (c.has_room.ensures.0 c.if-has_room.true);
}

pub returns-then-has_room-clause-in_place : goal.returns-then-has_room-clause-in_place
returns-then-has_room-clause-in_place g t c = λ room. (refl, refl)

pub returns-then-has_room-clause-makes : goal.returns-then-has_room-clause-makes
returns-then-has_room-clause-makes g t c = λ image levels tells top stands. makes_nothing
    c.args.store.now.geometry (viewed c.args.store.now image c.args.batch.now) c.args.batch.now
    c.args.top.owner c.args.top.page.0 levels c.args.level c.args.e.now c.args.full stands

pub grow_root-requires-clause-place : goal.grow_root-requires-clause-place
grow_root-requires-clause-place g t c = subst (λ (k : ℕ). IsPlaceFor c.args.store.now.geometry.size
    c.args.top.owner k c.args.e.now c.args.full) c.if-level-top.true c.requires.place

pub grow_root-requires-clause-full : goal.grow_root-requires-clause-full
grow_root-requires-clause-full g t c = no_room_full c.args.full.bytes c.args.store.now.geometry.size
    c.args.e.now c.requires.place.len c.requires.short (λ room. not_there c.has_room.result c.has_room.ensures.1 c.if-has_room.false
    (subst (λ (b : List ℕ). HasRoom b c.args.e.now) (sym c.as_slice.ensures) room))

pub returns-then-level-top-clause-reads : goal.returns-then-level-top-clause-reads
returns-then-level-top-clause-reads g t c = c.grow_root.ensures.reads

pub returns-then-level-top-clause-widens : goal.returns-then-level-top-clause-widens
returns-then-level-top-clause-widens g t c = c.grow_root.ensures.widens

pub returns-then-level-top-clause-roomy : goal.returns-then-level-top-clause-roomy
returns-then-level-top-clause-roomy g t c = subst (λ (k : ℕ). IfOk c.grow_root.result
    (IsRoomy c.args.store.now.geometry.size c.args.top.owner k c.args.e.now)) (sym c.if-level-top.true)
    c.grow_root.ensures.roomy

pub returns-then-level-top-clause-in_place : goal.returns-then-level-top-clause-in_place
returns-then-level-top-clause-in_place g t c = λ room. absurd (not_there c.has_room.result c.has_room.ensures.1 c.if-has_room.false
    (subst (λ (b : List ℕ). HasRoom b c.args.e.now) (sym c.as_slice.ensures) room))

pub returns-then-level-top-clause-makes : goal.returns-then-level-top-clause-makes
returns-then-level-top-clause-makes g t c = λ image levels tells top stands.
    subst (λ (k : ℕ). MakesRoomIn c.args.store.now.geometry
    (viewed c.args.store.now image c.args.batch.now) (viewed c.args.store.now image c.grow_root.new.batch)
    c.args.batch.now c.grow_root.new.batch c.args.top.owner c.args.top.page.0 levels k c.args.e.now
    c.grow_root.result) (sym c.if-level-top.true) (c.grow_root.ensures.makes image levels tells top stands)

pub take_above-requires-clause-full : goal.take_above-requires-clause-full
take_above-requires-clause-full g t c = no_room_full c.args.full.bytes c.args.store.now.geometry.size
    c.args.e.now c.requires.place.len c.requires.short (λ room. not_there c.has_room.result c.has_room.ensures.1 c.if-has_room.false
    (subst (λ (b : List ℕ). HasRoom b c.args.e.now) (sym c.as_slice.ensures) room))

pub returns-in_err-split-clause-reads : goal.returns-in_err-split-clause-reads
returns-in_err-split-clause-reads g t c = reads_err Split g.D.Disk.meaning c.args.store.now
    c.take_above.new.store c.in_err-split.field-0.0 c.from_residual.result c.from_residual.ensures.1
    c.in_err-split.ensures.reads

pub returns-in_err-split-clause-roomy : goal.returns-in_err-split-clause-roomy
returns-in_err-split-clause-roomy g t c = ok_of_err (IsRoomy c.args.store.now.geometry.size
    c.args.top.owner c.args.level c.args.e.now) _ c.from_residual.result c.from_residual.ensures.1

pub returns-in_err-split-clause-in_place : goal.returns-in_err-split-clause-in_place
returns-in_err-split-clause-in_place g t c = λ room. absurd (not_there c.has_room.result c.has_room.ensures.1 c.if-has_room.false
    (subst (λ (b : List ℕ). HasRoom b c.args.e.now) (sym c.as_slice.ensures) room))

pub returns-in_err-split-clause-makes : goal.returns-in_err-split-clause-makes
returns-in_err-split-clause-makes g t c = λ image levels tells top stands. take_refused
    c.args.store.now.geometry (viewed c.args.store.now image c.args.batch.now)
    (viewed c.args.store.now image c.take_above.new.batch) c.args.batch.now c.take_above.new.batch
    c.args.top.owner c.args.top.page.0 c.args.level levels c.args.e.now c.in_err-split.field-0.0
    c.from_residual.result
    (c.in_err-split.ensures.takes image levels tells top stands) c.from_residual.ensures.1

pub make_room-requires : goal.make_room-requires
make_room-requires g t c =
    let keeps = c.in_ok-split.ensures.reads.keeps in
    let is = c.in_ok-split.ensures.split in
    let lower : c.args.level < c.args.top.level =
    below_other c.args.level c.args.top.level c.requires.lower c.if-level-top.false in
    let geometry : IsGeometry c.take_above.new.store.geometry =
    subst IsGeometry (sym keeps.geometry) c.requires.geometry in
    let whole : AreWhole c.take_above.new.store.geometry c.take_above.new.batch.pages =
    subst (λ (k : Geometry). AreWhole k c.take_above.new.batch.pages) (sym keeps.geometry)
    c.in_ok-split.ensures.whole in
    let below : c.as_place.result.page.0 < c.take_above.new.store.geometry.limit =
    subst (λ (k : Geometry). c.as_place.result.page.0 < k.limit) (sym keeps.geometry)
    (subst (λ (p : PageNo). p.0 < c.args.store.now.geometry.limit) (sym c.as_place.ensures.page)
    c.in_ok-split.ensures.above) in
    let online : c.take_above.new.store.offline ≡ None = keeps.offline ∙ c.requires.online in
    let low : c.args.level + 1 ≤ c.args.top.level = omega (arith, lower) in
    let place : IsPlaceFor c.take_above.new.store.geometry.size c.args.top.owner (c.args.level + 1)
    c.in_ok-split.split.halves.fence c.as_place.result =
    subst (λ (k : Geometry). IsPlaceFor k.size c.args.top.owner (c.args.level + 1)
    c.in_ok-split.split.halves.fence c.as_place.result) (sym keeps.geometry)
    (reached_place c.args.store.now.geometry.size c.args.top.owner (c.args.level + 1)
    c.in_ok-split.split.halves.fence c.in_ok-split.split.above c.as_place.result
    c.as_place.ensures.page c.as_place.ensures.bytes
    (subst (λ (k : ℕ). IsReached c.args.store.now.geometry.size c.args.top.owner k
    c.in_ok-split.split.halves.fence c.in_ok-split.split.above) (omega arith) is.above)) in
    let short : length c.in_ok-split.split.halves.fence.key ≤ c.take_above.new.store.geometry.size / 8 =
    subst (λ (k : Geometry). length c.in_ok-split.split.halves.fence.key ≤ k.size / 8)
    (sym keeps.geometry) is.short in
    (search rules)

pub returns-in_err-roomy-clause-reads : goal.returns-in_err-roomy-clause-reads
returns-in_err-roomy-clause-reads g t c = reads_on g.D.Disk.meaning g.met.D.Disk.counts_now
    c.args.store.now c.take_above.new.store c.make_room.new.store (Ok c.in_ok-split.split)
    c.in_ok-split.split c.from_residual-in_err-roomy.result refl c.in_ok-split.ensures.reads
    (reads_err PageBytes g.D.Disk.meaning c.take_above.new.store c.make_room.new.store
    c.in_err-roomy.field-0.0 c.from_residual-in_err-roomy.result c.from_residual-in_err-roomy.ensures.1
    c.in_err-roomy.ensures.reads)

pub returns-in_err-roomy-clause-widens : goal.returns-in_err-roomy-clause-widens
returns-in_err-roomy-clause-widens g t c = widens_on c.args.store.now.geometry.size c.args.batch.now
    c.take_above.new.batch c.make_room.new.batch c.in_ok-split.ensures.widens
    (subst (λ (k : Geometry). Widens k.size c.take_above.new.batch c.make_room.new.batch)
    c.in_ok-split.ensures.reads.keeps.geometry c.in_err-roomy.ensures.widens)

pub returns-in_err-roomy-clause-roomy : goal.returns-in_err-roomy-clause-roomy
returns-in_err-roomy-clause-roomy g t c = ok_of_err (IsRoomy c.args.store.now.geometry.size
    c.args.top.owner c.args.level c.args.e.now) _ c.from_residual-in_err-roomy.result
    c.from_residual-in_err-roomy.ensures.1

pub returns-in_err-roomy-clause-in_place : goal.returns-in_err-roomy-clause-in_place
returns-in_err-roomy-clause-in_place g t c = λ room. absurd (not_there c.has_room.result c.has_room.ensures.1 c.if-has_room.false
    (subst (λ (b : List ℕ). HasRoom b c.args.e.now) (sym c.as_slice.ensures) room))

pub returns-in_err-roomy-clause-makes : goal.returns-in_err-roomy-clause-makes
returns-in_err-roomy-clause-makes g t c = λ image levels tells top stands.
    let lower : c.args.level < c.args.top.level =
    below_other c.args.level c.args.top.level c.requires.lower c.if-level-top.false in
    rec_refused g.D.Disk.meaning c.args.store.now c.take_above.new.store image
    c.in_ok-split.ensures.reads.keeps c.requires.geometry c.args.batch.now c.take_above.new.batch
    c.make_room.new.batch c.args.top.owner c.args.top.page.0 c.args.level c.args.top.level levels
    c.args.full c.args.e.now c.in_ok-split.split c.as_place.result (Err c.in_err-roomy.field-0.0)
    c.as_place.ensures.page c.as_place.ensures.bytes tells lower top stands
    (c.in_ok-split.ensures.takes image levels tells top stands) c.in_err-roomy.ensures.makes
    c.make_room.new.batch (viewed c.args.store.now image c.make_room.new.batch) c.in_err-roomy.field-0.0
    c.from_residual-in_err-roomy.result refl c.from_residual-in_err-roomy.ensures.1

pub returns-clause-reads : goal.returns-clause-reads
returns-clause-reads g t c = reads_split g.D.Disk.meaning c.args.store.now c.make_room.new.store
    (Ok c.in_ok-roomy.roomy) c.in_ok-roomy.roomy c.make_room.new.store.geometry.size
    c.make_room.new.batch c.put_split.new.batch c.in_ok-split.split.halves c.in_ok-roomy.roomy
    c.args.e.now c.put_split.result refl
    (reads_on g.D.Disk.meaning g.met.D.Disk.counts_now c.args.store.now c.take_above.new.store
    c.make_room.new.store (Ok c.in_ok-split.split) c.in_ok-split.split (Ok c.in_ok-roomy.roomy) refl
    c.in_ok-split.ensures.reads c.in_ok-roomy.ensures.reads) c.put_split.ensures.splits

pub returns-clause-widens : goal.returns-clause-widens
returns-clause-widens g t c =
    let first = c.in_ok-split.ensures.reads.keeps.geometry in
    let second = c.in_ok-roomy.ensures.reads.keeps.geometry ∙ first in
    widens_on c.args.store.now.geometry.size c.args.batch.now c.make_room.new.batch
    c.put_split.new.batch (widens_on c.args.store.now.geometry.size c.args.batch.now
    c.take_above.new.batch c.make_room.new.batch c.in_ok-split.ensures.widens
    (subst (λ (k : Geometry). Widens k.size c.take_above.new.batch c.make_room.new.batch) first
    c.in_ok-roomy.ensures.widens))
    (subst (λ (k : Geometry). Widens k.size c.make_room.new.batch c.put_split.new.batch) second
    c.put_split.ensures.widens)

pub returns-clause-roomy : goal.returns-clause-roomy
returns-clause-roomy g t c =
    let second = c.in_ok-roomy.ensures.reads.keeps.geometry ∙ c.in_ok-split.ensures.reads.keeps.geometry in
    split_roomy c.args.store.now.geometry.size c.args.top.owner c.args.level c.make_room.new.batch
    c.put_split.new.batch c.args.full c.in_ok-roomy.roomy c.in_ok-split.ensures.split.at
    c.in_ok-split.split.halves c.args.e.now c.put_split.result c.requires.place c.requires.short
    c.in_ok-split.ensures.split.halves
    (subst (λ (k : Geometry). SplitsIn k.size c.make_room.new.batch c.put_split.new.batch
    c.in_ok-split.split.halves c.in_ok-roomy.roomy c.args.e.now c.put_split.result) second
    c.put_split.ensures.splits)

pub returns-clause-in_place : goal.returns-clause-in_place
returns-clause-in_place g t c = λ room. absurd (not_there c.has_room.result c.has_room.ensures.1 c.if-has_room.false
    (subst (λ (b : List ℕ). HasRoom b c.args.e.now) (sym c.as_slice.ensures) room))

pub returns-clause-makes : goal.returns-clause-makes
returns-clause-makes g t c = λ image levels tells top stands.
    let lower : c.args.level < c.args.top.level =
    below_other c.args.level c.args.top.level c.requires.lower c.if-level-top.false in
    let first = c.in_ok-split.ensures.reads.keeps.geometry in
    let second = c.in_ok-roomy.ensures.reads.keeps.geometry ∙ first in
    let takes = c.in_ok-split.ensures.takes image levels tells top stands in
    split_put c.args.store.now image c.requires.geometry c.args.batch.now c.take_above.new.batch
    c.make_room.new.batch c.put_split.new.batch c.args.top.owner c.args.top.page.0 c.args.level
    c.args.top.level levels c.args.full c.in_ok-roomy.roomy c.in_ok-split.split c.args.e.now
    c.requires.place lower top stands c.in_ok-split.ensures.split takes
    (subst (λ (k : ℕ). IsRoomy c.args.store.now.geometry.size c.args.top.owner k
    c.in_ok-split.split.halves.fence c.in_ok-roomy.roomy) (omega arith)
    (subst (λ (k : Geometry). IsRoomy k.size c.args.top.owner (c.args.level + 1)
    c.in_ok-split.split.halves.fence c.in_ok-roomy.roomy) first c.in_ok-roomy.ensures.roomy))
    (above_made g.D.Disk.meaning c.args.store.now c.take_above.new.store image
    c.in_ok-split.ensures.reads.keeps c.requires.geometry c.args.batch.now c.take_above.new.batch
    c.make_room.new.batch c.args.top.owner c.args.top.page.0 c.args.level c.args.top.level levels
    c.args.full c.args.e.now c.in_ok-split.split c.as_place.result (Ok c.in_ok-roomy.roomy)
    c.as_place.ensures.page c.as_place.ensures.bytes tells lower top stands takes c.in_ok-roomy.ensures.makes)
    c.in_ok-split.ensures.alone
    (λ room. not_there c.has_room.result c.has_room.ensures.1 c.if-has_room.false
    (subst (λ (b : List ℕ). HasRoom b c.args.e.now) (sym c.as_slice.ensures) room))
    (subst (λ (k : Geometry). Widens k.size c.take_above.new.batch c.make_room.new.batch) first
    c.in_ok-roomy.ensures.widens)
    (subst (λ (k : Geometry). Widens k.size c.make_room.new.batch c.put_split.new.batch) second
    c.put_split.ensures.widens) c.put_split.result
    (subst (λ (k : Geometry). SplitsIn k.size c.make_room.new.batch c.put_split.new.batch
    c.in_ok-split.split.halves c.in_ok-roomy.roomy c.args.e.now c.put_split.result) second
    c.put_split.ensures.splits)

pub grow_root-requires-clause-no_room : goal.grow_root-requires-clause-no_room
grow_root-requires-clause-no_room g t c =
    λ room. not_there c.has_room.result c.has_room.ensures.1 c.if-has_room.false
    (subst (λ (b : List ℕ). HasRoom b c.args.e.now) (sym c.as_slice.ensures) room)

pub has_room-requires-clause-sized : goal.has_room-requires-clause-sized
has_room-requires-clause-sized g t c = sized_by c.args.store.now.geometry c.as_slice.result.now
    c.requires.geometry (ap (length {A = ℕ}) c.as_slice.ensures ∙ c.requires.place.len)

pub has_room-requires-clause-lawful : goal.has_room-requires-clause-lawful
has_room-requires-clause-lawful g t c = subst IsNodePage (sym c.as_slice.ensures) c.requires.place.lawful

pub has_room-requires-clause-short : goal.has_room-requires-clause-short
has_room-requires-clause-short g t c = subst (λ (n : ℕ). length c.args.e.now.key ≤ n / 8)
    (sym (ap (length {A = ℕ}) c.as_slice.ensures ∙ c.requires.place.len)) c.requires.short

pub take_above-requires-clause-lower : goal.take_above-requires-clause-lower
take_above-requires-clause-lower g t c = below_other c.args.level c.args.top.level c.requires.lower
    c.if-level-top.false

pub returns-in_err-split-clause-widens : goal.returns-in_err-split-clause-widens
returns-in_err-split-clause-widens g t c = c.in_err-split.ensures.widens

pub put_split-requires-clause-geometry : goal.put_split-requires-clause-geometry
put_split-requires-clause-geometry g t c = subst IsGeometry
    (sym (c.in_ok-roomy.ensures.reads.keeps.geometry ∙ c.in_ok-split.ensures.reads.keeps.geometry))
    c.requires.geometry

pub put_split-requires-clause-len : goal.put_split-requires-clause-len
put_split-requires-clause-len g t c = c.in_ok-roomy.ensures.roomy.place.len
    ∙ sym (ap (λ (k : Geometry). k.size) c.in_ok-roomy.ensures.reads.keeps.geometry)

pub put_split-requires-clause-left : goal.put_split-requires-clause-left
put_split-requires-clause-left g t c = c.in_ok-split.ensures.split.halves.pair.splits.left_size
    ∙ (c.requires.place.len ∙ sym (ap (λ (k : Geometry). k.size)
    (c.in_ok-roomy.ensures.reads.keeps.geometry ∙ c.in_ok-split.ensures.reads.keeps.geometry)))

pub put_split-requires-clause-right : goal.put_split-requires-clause-right
put_split-requires-clause-right g t c = c.in_ok-split.ensures.split.halves.pair.splits.right_size
    ∙ (c.requires.place.len ∙ sym (ap (λ (k : Geometry). k.size)
    (c.in_ok-roomy.ensures.reads.keeps.geometry ∙ c.in_ok-split.ensures.reads.keeps.geometry)))

pub put_split-requires-clause-lawful : goal.put_split-requires-clause-lawful
put_split-requires-clause-lawful g t c = c.in_ok-roomy.ensures.roomy.place.lawful

pub put_split-requires-clause-inner : goal.put_split-requires-clause-inner
put_split-requires-clause-inner g t c = inner_next c.in_ok-roomy.roomy.bytes c.args.level
    c.in_ok-roomy.ensures.roomy.place.on_level

pub put_split-requires-clause-enough : goal.put_split-requires-clause-enough
put_split-requires-clause-enough g t c = c.in_ok-roomy.ensures.roomy.place.enough

pub put_split-requires-clause-short : goal.put_split-requires-clause-short
put_split-requires-clause-short g t c = subst (λ (k : Geometry). length c.in_ok-split.split.halves.fence.key
    ≤ k.size / 8) (sym (c.in_ok-roomy.ensures.reads.keeps.geometry
    ∙ c.in_ok-split.ensures.reads.keeps.geometry)) c.in_ok-split.ensures.split.short

pub put_split-requires-clause-covers : goal.put_split-requires-clause-covers
put_split-requires-clause-covers g t c = c.in_ok-roomy.ensures.roomy.place.covers

pub put_split-requires-clause-room : goal.put_split-requires-clause-room
put_split-requires-clause-room g t c = c.in_ok-roomy.ensures.roomy.room

pub returns-then-has_room-clause-whole : goal.returns-then-has_room-clause-whole
returns-then-has_room-clause-whole g t c = c.requires.whole

pub returns-then-has_room-clause-half : goal.returns-then-has_room-clause-half
returns-then-has_room-clause-half g t c = c.requires.below

pub returns-then-level-top-clause-whole : goal.returns-then-level-top-clause-whole
returns-then-level-top-clause-whole g t c = c.grow_root.ensures.whole

pub returns-then-level-top-clause-half : goal.returns-then-level-top-clause-half
returns-then-level-top-clause-half g t c = c.grow_root.ensures.half

pub returns-in_err-split-clause-half : goal.returns-in_err-split-clause-half
returns-in_err-split-clause-half g t c = ok_of_err (λ (half : PageBytes). half.page.0
    < c.args.store.now.geometry.limit) _ c.from_residual.result c.from_residual.ensures.1

pub returns-in_err-roomy-clause-half : goal.returns-in_err-roomy-clause-half
returns-in_err-roomy-clause-half g t c = ok_of_err (λ (half : PageBytes). half.page.0
    < c.args.store.now.geometry.limit) _ c.from_residual-in_err-roomy.result
    c.from_residual-in_err-roomy.ensures.1

pub returns-clause-whole : goal.returns-clause-whole
returns-clause-whole g t c =
    let first = c.in_ok-split.ensures.reads.keeps.geometry in
    let second = c.in_ok-roomy.ensures.reads.keeps.geometry ∙ first in
    subst (λ (k : Geometry). OnOk c.put_split.result (AreWhole k c.put_split.new.batch.pages)) second
    (split_whole c.make_room.new.store.geometry c.make_room.new.batch c.put_split.new.batch
    c.in_ok-split.split.halves c.in_ok-roomy.roomy c.args.e.now
    (subst (λ (k : Geometry). c.in_ok-split.split.halves.left.page.0 < k.limit) (sym second)
    (subst (λ (n : ℕ). n < c.args.store.now.geometry.limit)
    (sym c.in_ok-split.ensures.split.halves.left_own) c.requires.below))
    (subst (λ (k : Geometry). c.in_ok-split.split.halves.right.page.0 < k.limit) (sym second)
    c.in_ok-split.ensures.right)
    (subst (λ (k : Geometry). c.in_ok-roomy.roomy.page.0 < k.limit)
    (sym c.in_ok-roomy.ensures.reads.keeps.geometry) c.in_ok-roomy.ensures.half)
    c.put_split.result
    (subst (λ (k : Geometry). AreWhole k c.make_room.new.batch.pages)
    (sym c.in_ok-roomy.ensures.reads.keeps.geometry) c.in_ok-roomy.ensures.whole)
    c.put_split.ensures.widens c.put_split.ensures.splits)

pub returns-clause-half : goal.returns-clause-half
returns-clause-half g t c =
    let first = c.in_ok-split.ensures.reads.keeps.geometry in
    let second = c.in_ok-roomy.ensures.reads.keeps.geometry ∙ first in
    subst (λ (k : Geometry). IfOk c.put_split.result (λ half. half.page.0 < k.limit)) second
    (split_half c.make_room.new.store.geometry c.make_room.new.batch c.put_split.new.batch
    c.in_ok-split.split.halves c.in_ok-roomy.roomy c.args.e.now
    (subst (λ (k : Geometry). c.in_ok-split.split.halves.left.page.0 < k.limit) (sym second)
    (subst (λ (n : ℕ). n < c.args.store.now.geometry.limit)
    (sym c.in_ok-split.ensures.split.halves.left_own) c.requires.below))
    (subst (λ (k : Geometry). c.in_ok-split.split.halves.right.page.0 < k.limit) (sym second)
    c.in_ok-split.ensures.right)
    (subst (λ (k : Geometry). c.in_ok-roomy.roomy.page.0 < k.limit)
    (sym c.in_ok-roomy.ensures.reads.keeps.geometry) c.in_ok-roomy.ensures.half)
    c.put_split.result c.put_split.ensures.splits)
