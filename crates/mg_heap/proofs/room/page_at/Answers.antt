use Rattle.std.proofs.Common.{◌≡◌, ◌<◌, ◌≤◌, ◌∙◌, get_or, refl, List, subst, ℕ}
use Rattle.mg_image.specs.Form.{Pages}
use Rattle.mg_space.specs.HandedLaws.{fault_same, no_answer}
use Rattle.mg_space.specs.View.{viewed}
use Rattle.mg_space.specs.ViewLaws.{keeps_itself, keeps_on}
use Rattle.mg_heap.specs.HandedLaws.{reads_same}
use Rattle.mg_heap.specs.Walk.{RefusesWalkOf}
use Rattle.mg_heap.proofs.HoldingLemmas.{data_lawful}
use Rattle.mg_heap.proofs.TableLemmas.{as_started, handed_on, whole_later}
use Rattle.mg_heap.proofs.WalkLemmas.{page_broken}
use Rattle.mg_heap.proofs.LastRoomLemmas.{told_true}
use Rattle.mg_slots.specs.Room.{room_of}
use Rattle.mg_heap.proofs.room.page_at.Goals as goal

pub returns-in_err-hold_table_data-clause-looks : goal.returns-in_err-hold_table_data-clause-looks
returns-in_err-hold_table_data-clause-looks g c = λ image tells. handed_on c.from_residual.result
    c.in_err-hold_table_data.field-0.0 _
    (RefusesWalkOf g.D.Disk.meaning c.hold_table_data.new.store c.args.batch.now.pages
    (viewed c.args.store.now image c.args.batch.now) c.args.owner.0 c.args.data_pages.now)
    c.from_residual.ensures.0 c.from_residual.ensures.1
    (page_broken g.D.Disk.meaning c.hold_table_data.new.store c.args.batch.now.pages
    (viewed c.args.store.now image c.args.batch.now) c.args.owner.0 c.args.place
    c.args.place c.args.data_pages.now (record { 0 = get_or c.args.data_pages.now c.args.place 0 })
    c.in_err-hold_table_data.field-0.0 c.requires.inside refl refl (c.in_err-hold_table_data.ensures.seen image tells))

pub returns-in_err-hold_table_data-clause-keeps : goal.returns-in_err-hold_table_data-clause-keeps
returns-in_err-hold_table_data-clause-keeps g c = c.in_err-hold_table_data.ensures.keeps

pub returns-in_err-hold_table_data-clause-fault : goal.returns-in_err-hold_table_data-clause-fault
returns-in_err-hold_table_data-clause-fault g c = fault_same (Unit {0}) g.D.Disk.meaning c.args.store.now
    c.hold_table_data.new.store c.from_residual.result c.in_err-hold_table_data.field-0.0 c.from_residual.ensures.0
    c.from_residual.ensures.1 c.in_err-hold_table_data.ensures.fault

pub returns-in_err-hold_table_data-clause-own : goal.returns-in_err-hold_table_data-clause-own
returns-in_err-hold_table_data-clause-own g c = reads_same (Unit {0}) c.from_residual.result c.in_err-hold_table_data.field-0.0
    c.from_residual.ensures.0 c.from_residual.ensures.1 c.in_err-hold_table_data.ensures.own

pub returns-in_err-hold_table_data-clause-room : goal.returns-in_err-hold_table_data-clause-room
returns-in_err-hold_table_data-clause-room g c = no_answer _ c.from_residual.result c.from_residual.ensures.0

pub returns-clause-keeps : goal.returns-clause-keeps
returns-clause-keeps g c = c.in_ok-hold_table_data.ensures.keeps

pub returns-clause-fault : goal.returns-clause-fault
returns-clause-fault g c = c.in_ok-hold_table_data.ensures.fault

pub lent-page-requires-clause-whole : goal.lent-page-requires-clause-whole
lent-page-requires-clause-whole g c = whole_later g.D.Disk.meaning c.args.store.now
    c.hold_table_data.new.store c.in_ok-hold_table_data.ensures.keeps c.args.batch.now.pages
    c.requires.whole

pub room-requires : goal.room-requires
room-requires g c = data_lawful c.hold_table_data.new.store c.args.batch.now.pages c.args.owner.0 c.args.place
    (record { 0 = get_or c.args.data_pages.now c.args.place 0 }) c.lent-page.result.now
    c.lent-page.ensures.read c.in_ok-hold_table_data.ensures.held

pub returns-then-room-need-clause-looks : goal.returns-then-room-need-clause-looks
returns-then-room-need-clause-looks g c = λ image tells. subst
    (λ (b : List ℕ). room_of b < c.args.need)
    (as_started g.D.Disk.meaning c.args.store.now c.hold_table_data.new.store image c.args.batch.now
    c.in_ok-hold_table_data.ensures.keeps tells
    (λ (pages : Pages). c.lent-page.result.now ≡ pages (get_or c.args.data_pages.now c.args.place 0))
    (c.lent-page.ensures.seen image))
    (subst (λ (k : ℕ). k < c.args.need) c.room.ensures c.if-room-need.true)

pub returns-clause-looks : goal.returns-clause-looks
returns-clause-looks g c = λ image tells. (
  refl,
  subst (λ (b : List ℕ). c.args.need ≤ room_of b)
      (as_started g.D.Disk.meaning c.args.store.now c.hold_table_data.new.store image c.args.batch.now
      c.in_ok-hold_table_data.ensures.keeps tells
      (λ (pages : Pages). c.lent-page.result.now ≡ pages (get_or c.args.data_pages.now c.args.place 0))
      (c.lent-page.ensures.seen image))
      (subst (λ (k : ℕ). c.args.need ≤ k) c.room.ensures c.if-room-need.false),
)

pub returns-clause-room : goal.returns-clause-room
returns-clause-room g c = record {
  bytes = c.lent-page.result.now;
  read = c.lent-page.ensures.read;
  lawful = data_lawful c.hold_table_data.new.store c.args.batch.now.pages c.args.owner.0 c.args.place
      (record { 0 = get_or c.args.data_pages.now c.args.place 0 }) c.lent-page.result.now
      c.lent-page.ensures.read c.in_ok-hold_table_data.ensures.held;
  room = subst (λ (k : ℕ). c.args.need ≤ k) c.room.ensures c.if-room-need.false;
}

pub returns-then-is_known_full-clause-keeps : goal.returns-then-is_known_full-clause-keeps
returns-then-is_known_full-clause-keeps g c = keeps_itself g.D.Disk.meaning c.args.store.now c.requires.pool

pub returns-then-is_known_full-clause-fault : goal.returns-then-is_known_full-clause-fault
returns-then-is_known_full-clause-fault g c = (c.requires.online, c.requires.online, refl)

pub returns-then-is_known_full-clause-looks : goal.returns-then-is_known_full-clause-looks
returns-then-is_known_full-clause-looks g c = λ image tells. told_true c.is_known_full.result _
    c.if-is_known_full.true (c.is_known_full.ensures image tells)

pub note_room-requires : goal.note_room-requires
note_room-requires g c = c.in_ok-hold_table_data.ensures.keeps.pool

pub returns-then-room-need-clause-keeps : goal.returns-then-room-need-clause-keeps
returns-then-room-need-clause-keeps g c = keeps_on g.D.Disk.meaning g.met.D.Disk.counts_now
    c.args.store.now c.hold_table_data.new.store c.note_room.new.store c.in_ok-hold_table_data.ensures.keeps
    c.note_room.ensures.keeps

pub returns-then-room-need-clause-fault : goal.returns-then-room-need-clause-fault
returns-then-room-need-clause-fault g c = (
  c.requires.online,
  c.note_room.ensures.keeps.offline ∙ c.in_ok-hold_table_data.ensures.fault.1,
  c.note_room.ensures.faults ∙ c.in_ok-hold_table_data.ensures.fault.2,
)
