use Rattle.std.proofs.Common.{◌<◌, ◌∙◌, ◌%◌, ap, subst, sym, ℕ}
use Rattle.mg_base.specs.declared.geometry.Geometry.{Geometry}
use Rattle.mg_header.specs.declared.header.TheConstants.{GREATEST_NEXT}
use Rattle.mg_pool.specs.Batch.{AreBelow, IsLawful}
use Rattle.mg_space.specs.BelowLaws.{all_below, taken_below}
use Rattle.mg_space.specs.HandedLaws.{no_answer, own_as, told_as}
use Rattle.mg_space.specs.View.{AreWhole}
use Rattle.mg_space.specs.ViewLaws.{keeps_on}
use Rattle.mg_tip.specs.TipPage.{places}
use Rattle.mg_txlist.specs.Drawing.{PutsHead}
use Rattle.mg_txlist.proofs.AddLemmas.{same_number}
use Rattle.mg_txlist.proofs.DrawLemmas.{draws_last, draws_new, lawful_last, lawful_new, tip_len, tip_whole, whole_last, whole_new}
use Rattle.mg_pool.specs.Pool.{shown}
use Rattle.mg_txlist.specs.Refusals.{RefusesDraw}
use Rattle.std.specs.Prelude.{Ok}
use Rattle.mg_header.specs.declared.header.Header.{Header}
use Rattle.mg_space.specs.ViewLaws.{fault_on}
use Rattle.mg_txlist.specs.declared.list.TipPage.{TipPage}
use Rattle.mg_txlist.proofs.HandedLemmas.{told_then}
use Rattle.mg_txlist.proofs.RefusalLemmas.{err_as, head_draw, lacks_draw, tip_draw}
use Rattle.mg_txlist.proofs.drawing.fill.Goals as goal

pub returns-then-t-places_of-ne0-clause-lawful : goal.returns-then-t-places_of-ne0-clause-lawful
returns-then-t-places_of-ne0-clause-lawful g c =
    subst (λ (x : Geometry). IsLawful x.size c.put_head.new.batch.pages c.put_head.new.batch.orders)
    c.read_head.ensures.keeps.geometry
    (lawful_last c.read_head.new.store.geometry c.args.batch.now c.put_head.new.batch
    c.requires.empty c.in_ok-put_head.ensures.below c.in_ok-put_head.ensures.puts c.requires.unordered)

pub returns-then-t-places_of-ne0-clause-draws : goal.returns-then-t-places_of-ne0-clause-draws
returns-then-t-places_of-ne0-clause-draws g c = λ image tells.
    let below : c.in_ok-header.header.next.0 < GREATEST_NEXT =
    same_number c.in_ok-header.header.next.0 c.args.t.0 c.if-header-t.false c.requires.below in
    draws_last g.D.Disk.meaning c.args.store.now c.args.t.0 image tells c.args.batch.now
    c.requires.empty c.requires.unordered c.in_ok-header.header c.raised.result
    (c.in_ok-header.ensures.says image tells) below c.read_head.new.store c.put_head.new.batch
    c.read_head.ensures.keeps c.in_ok-put_head.ensures.puts c.raised.ensures
    c.in_ok-put_head.ensures.head

pub put_head-requires-2-clause-whole : goal.put_head-requires-2-clause-whole
put_head-requires-2-clause-whole g c =
    subst (λ (x : Geometry). AreWhole x c.put_tip.new.batch.pages)
    (sym c.put_tip.ensures.keeps.geometry)
    (tip_whole g.D.Disk.meaning c.read_head.new.store c.args.batch.now c.put_tip.new.batch c.args.t.0
    c.in_ok-header.header.last_tip.0 c.in_ok-page.page c.in_ok-page.ensures.puts c.requires.empty)

pub returns-in_err-put_head-2-clause-keeps : goal.returns-in_err-put_head-2-clause-keeps
returns-in_err-put_head-2-clause-keeps g c =
    keeps_on g.D.Disk.meaning g.met.D.Disk.counts_now c.args.store.now c.read_head.new.store
    c.put_head-2.new.store c.read_head.ensures.keeps
    (keeps_on g.D.Disk.meaning g.met.D.Disk.counts_now c.read_head.new.store c.put_tip.new.store
    c.put_head-2.new.store c.put_tip.ensures.keeps c.put_head-2.ensures.keeps)

pub returns-clause-keeps : goal.returns-clause-keeps
returns-clause-keeps g c =
    keeps_on g.D.Disk.meaning g.met.D.Disk.counts_now c.args.store.now c.read_head.new.store
    c.put_head-2.new.store c.read_head.ensures.keeps
    (keeps_on g.D.Disk.meaning g.met.D.Disk.counts_now c.read_head.new.store c.put_tip.new.store
    c.put_head-2.new.store c.put_tip.ensures.keeps c.put_head-2.ensures.keeps)

pub returns-clause-lawful : goal.returns-clause-lawful
returns-clause-lawful g c =
    let same = c.put_tip.ensures.keeps.geometry in
    subst (λ (x : Geometry). IsLawful x.size c.put_head-2.new.batch.pages c.put_head-2.new.batch.orders)
    c.read_head.ensures.keeps.geometry
    (lawful_new g.D.Disk.meaning c.read_head.new.store c.args.batch.now c.put_tip.new.batch c.args.t.0
    c.in_ok-header.header.last_tip.0 c.in_ok-page.page c.in_ok-page.ensures.puts
    c.put_head-2.new.batch c.requires.empty c.requires.unordered
    (subst (λ (x : Geometry). 0 < x.limit) same c.in_ok-put_head-2.ensures.below)
    (subst (λ (x : Geometry). PutsHead x.size c.put_tip.new.batch c.put_head-2.new.batch) same
    c.in_ok-put_head-2.ensures.puts))

pub returns-clause-page : goal.returns-clause-page
returns-clause-page g c =
    let size = ap (λ (x : Geometry). x.size) c.geometry-size.ensures
    ∙ ap (λ (x : Geometry). x.size) c.read_head.ensures.keeps.geometry in (
      ap (λ (k : ℕ). c.args.t.0 % k) (sym (c.places_of.ensures ∙ ap places size))
          ∙ c.if-t-places_of-ne0.false,
      c.in_ok-page.ensures.puts.inventory.no_header,
      tip_len g.D.Disk.meaning c.read_head.new.store c.args.batch.now c.put_tip.new.batch c.args.t.0
          c.in_ok-header.header.last_tip.0 c.in_ok-page.page c.in_ok-page.ensures.puts
          ∙ ap (λ (x : Geometry). x.size) c.read_head.ensures.keeps.geometry,
    )

pub returns-clause-draws : goal.returns-clause-draws
returns-clause-draws g c = λ image tells.
    let below : c.in_ok-header.header.next.0 < GREATEST_NEXT =
    same_number c.in_ok-header.header.next.0 c.args.t.0 c.if-header-t.false c.requires.below in
    draws_new g.D.Disk.meaning c.args.store.now c.args.t.0 image tells c.args.batch.now
    c.requires.empty c.requires.unordered c.in_ok-header.header c.raised-2.result
    (c.in_ok-header.ensures.says image tells) below c.read_head.new.store c.put_tip.new.store
    c.put_tip.new.batch c.put_head-2.new.batch c.in_ok-page.page c.read_head.ensures.keeps
    (keeps_on g.D.Disk.meaning g.met.D.Disk.counts_now c.args.store.now c.read_head.new.store
    c.put_tip.new.store c.read_head.ensures.keeps c.put_tip.ensures.keeps)
    c.in_ok-page.ensures.puts c.in_ok-put_head-2.ensures.puts c.raised-2.ensures
    c.in_ok-put_head-2.ensures.head

pub returns-in_err-header-clause-refused : goal.returns-in_err-header-clause-refused
returns-in_err-header-clause-refused g c = λ image tells. err_as c.from_residual.result
    c.in_err-header.field-0.0
    (RefusesDraw g.D.Disk.meaning c.read_head.new.store c.args.store.now.geometry c.args.t.0
    (shown c.args.store.now.dirty image)) c.from_residual.ensures.1
    (head_draw g.D.Disk.meaning c.read_head.new.store c.args.store.now.geometry c.args.t.0
    (shown c.args.store.now.dirty image) c.in_err-header.field-0.0
    (c.in_err-header.ensures.refused image tells))

pub returns-in_err-page-clause-refused : goal.returns-in_err-page-clause-refused
returns-in_err-page-clause-refused g c = λ image tells. err_as c.from_residual-in_err-page.result
    c.in_err-page.field-0.0
    (RefusesDraw g.D.Disk.meaning c.put_tip.new.store c.args.store.now.geometry c.args.t.0
    (shown c.args.store.now.dirty image)) c.from_residual-in_err-page.ensures.1
    (tip_draw g.D.Disk.meaning c.args.store.now c.read_head.new.store c.put_tip.new.store image
    c.args.batch.now c.args.t.0 c.places_of.result c.geometry-size.result c.in_err-page.field-0.0
    c.in_ok-header.ensures.keeps tells c.requires.empty c.geometry-size.ensures c.places_of.ensures
    c.if-t-places_of-ne0.false (c.in_err-page.ensures.refused image))

pub returns-in_err-header-clause-keeps : goal.returns-in_err-header-clause-keeps
returns-in_err-header-clause-keeps g c = c.read_head.ensures.keeps

pub returns-in_err-header-clause-fault : goal.returns-in_err-header-clause-fault
returns-in_err-header-clause-fault g c = told_as Header g.D.Disk.meaning c.args.store.now c.read_head.new.store c.from_residual.result c.in_err-header.field-0.0 c.from_residual.ensures.1 c.in_err-header.ensures.fault

pub returns-in_err-header-clause-own : goal.returns-in_err-header-clause-own
returns-in_err-header-clause-own g c = own_as Header c.from_residual.result c.in_err-header.field-0.0 c.from_residual.ensures.1 c.in_err-header.ensures.own

pub returns-then-header-t-clause-keeps : goal.returns-then-header-t-clause-keeps
returns-then-header-t-clause-keeps g c = c.read_head.ensures.keeps

pub returns-then-header-t-clause-fault : goal.returns-then-header-t-clause-fault
returns-then-header-t-clause-fault g c = c.in_ok-header.ensures.fault

pub returns-then-header-t-clause-own : goal.returns-then-header-t-clause-own
returns-then-header-t-clause-own g c = tt

pub returns-in_err-put_head-clause-keeps : goal.returns-in_err-put_head-clause-keeps
returns-in_err-put_head-clause-keeps g c = keeps_on g.D.Disk.meaning g.met.D.Disk.counts_now c.args.store.now c.read_head.new.store c.put_head.new.store c.read_head.ensures.keeps c.put_head.ensures.keeps

pub returns-in_err-put_head-clause-fault : goal.returns-in_err-put_head-clause-fault
returns-in_err-put_head-clause-fault g c = told_then (Unit {0}) g.D.Disk.meaning c.args.store.now c.read_head.new.store c.put_head.new.store c.from_residual-in_err-put_head.result c.in_err-put_head.field-0.0 c.from_residual-in_err-put_head.ensures.1 c.read_head.ensures.keeps c.in_ok-header.ensures.fault.2 c.in_err-put_head.ensures.fault

pub returns-in_err-put_head-clause-own : goal.returns-in_err-put_head-clause-own
returns-in_err-put_head-clause-own g c = own_as (Unit {0}) c.from_residual-in_err-put_head.result c.in_err-put_head.field-0.0 c.from_residual-in_err-put_head.ensures.1 c.in_err-put_head.ensures.own

pub returns-in_err-put_head-clause-refused : goal.returns-in_err-put_head-clause-refused
returns-in_err-put_head-clause-refused g c = λ image tells. err_as c.from_residual-in_err-put_head.result c.in_err-put_head.field-0.0 (RefusesDraw g.D.Disk.meaning c.put_head.new.store c.args.store.now.geometry c.args.t.0 (shown c.args.store.now.dirty image)) c.from_residual-in_err-put_head.ensures.1
    (lacks_draw g.D.Disk.meaning c.put_head.new.store c.args.store.now.geometry c.args.t.0 (shown c.args.store.now.dirty image) c.in_err-put_head.field-0.0 c.in_err-put_head.ensures.lacks)

pub returns-then-t-places_of-ne0-clause-keeps : goal.returns-then-t-places_of-ne0-clause-keeps
returns-then-t-places_of-ne0-clause-keeps g c = keeps_on g.D.Disk.meaning g.met.D.Disk.counts_now c.args.store.now c.read_head.new.store c.put_head.new.store c.read_head.ensures.keeps c.put_head.ensures.keeps

pub returns-then-t-places_of-ne0-clause-fault : goal.returns-then-t-places_of-ne0-clause-fault
returns-then-t-places_of-ne0-clause-fault g c = fault_on {T = Unit {0}} g.D.Disk.meaning c.args.store.now c.read_head.new.store c.put_head.new.store (Ok tt) c.read_head.ensures.keeps c.in_ok-header.ensures.fault.2 c.in_ok-put_head.ensures.fault

pub returns-then-t-places_of-ne0-clause-own : goal.returns-then-t-places_of-ne0-clause-own
returns-then-t-places_of-ne0-clause-own g c = tt

pub returns-then-t-places_of-ne0-clause-refused : goal.returns-then-t-places_of-ne0-clause-refused
returns-then-t-places_of-ne0-clause-refused g c = λ image tells. tt

pub returns-in_err-page-clause-keeps : goal.returns-in_err-page-clause-keeps
returns-in_err-page-clause-keeps g c = keeps_on g.D.Disk.meaning g.met.D.Disk.counts_now c.args.store.now c.read_head.new.store c.put_tip.new.store c.read_head.ensures.keeps c.put_tip.ensures.keeps

pub returns-in_err-page-clause-fault : goal.returns-in_err-page-clause-fault
returns-in_err-page-clause-fault g c = told_then TipPage g.D.Disk.meaning c.args.store.now c.read_head.new.store c.put_tip.new.store c.from_residual-in_err-page.result c.in_err-page.field-0.0 c.from_residual-in_err-page.ensures.1 c.read_head.ensures.keeps c.in_ok-header.ensures.fault.2 c.in_err-page.ensures.fault

pub returns-in_err-page-clause-own : goal.returns-in_err-page-clause-own
returns-in_err-page-clause-own g c = own_as TipPage c.from_residual-in_err-page.result c.in_err-page.field-0.0 c.from_residual-in_err-page.ensures.1 c.in_err-page.ensures.own

pub returns-in_err-put_head-2-clause-fault : goal.returns-in_err-put_head-2-clause-fault
returns-in_err-put_head-2-clause-fault g c = told_then (Unit {0}) g.D.Disk.meaning c.args.store.now c.put_tip.new.store c.put_head-2.new.store c.from_residual-in_err-put_head-2.result c.in_err-put_head-2.field-0.0 c.from_residual-in_err-put_head-2.ensures.1 (keeps_on g.D.Disk.meaning g.met.D.Disk.counts_now c.args.store.now c.read_head.new.store c.put_tip.new.store c.read_head.ensures.keeps c.put_tip.ensures.keeps) (c.in_ok-page.ensures.fault.2 ∙ c.in_ok-header.ensures.fault.2) c.in_err-put_head-2.ensures.fault

pub returns-in_err-put_head-2-clause-own : goal.returns-in_err-put_head-2-clause-own
returns-in_err-put_head-2-clause-own g c = own_as (Unit {0}) c.from_residual-in_err-put_head-2.result c.in_err-put_head-2.field-0.0 c.from_residual-in_err-put_head-2.ensures.1 c.in_err-put_head-2.ensures.own

pub returns-in_err-put_head-2-clause-refused : goal.returns-in_err-put_head-2-clause-refused
returns-in_err-put_head-2-clause-refused g c = λ image tells. err_as c.from_residual-in_err-put_head-2.result c.in_err-put_head-2.field-0.0 (RefusesDraw g.D.Disk.meaning c.put_head-2.new.store c.args.store.now.geometry c.args.t.0 (shown c.args.store.now.dirty image)) c.from_residual-in_err-put_head-2.ensures.1
    (lacks_draw g.D.Disk.meaning c.put_head-2.new.store c.args.store.now.geometry c.args.t.0 (shown c.args.store.now.dirty image) c.in_err-put_head-2.field-0.0 c.in_err-put_head-2.ensures.lacks)

pub returns-clause-fault : goal.returns-clause-fault
returns-clause-fault g c = fault_on {T = Unit {0}} g.D.Disk.meaning c.args.store.now c.put_tip.new.store c.put_head-2.new.store (Ok tt) (keeps_on g.D.Disk.meaning g.met.D.Disk.counts_now c.args.store.now c.read_head.new.store c.put_tip.new.store c.read_head.ensures.keeps c.put_tip.ensures.keeps) (c.in_ok-page.ensures.fault.2 ∙ c.in_ok-header.ensures.fault.2) c.in_ok-put_head-2.ensures.fault

pub returns-clause-own : goal.returns-clause-own
returns-clause-own g c = tt

pub returns-clause-refused : goal.returns-clause-refused
returns-clause-refused g c = λ image tells. tt

pub returns-in_err-header-clause-lawful : goal.returns-in_err-header-clause-lawful
returns-in_err-header-clause-lawful g c = no_answer _ c.from_residual.result c.from_residual.ensures.0

pub returns-in_err-header-clause-page : goal.returns-in_err-header-clause-page
returns-in_err-header-clause-page g c = no_answer _ c.from_residual.result c.from_residual.ensures.0

pub returns-in_err-header-clause-draws : goal.returns-in_err-header-clause-draws
returns-in_err-header-clause-draws g c = λ image tells. no_answer _ c.from_residual.result
    c.from_residual.ensures.0

pub returns-in_err-put_head-clause-lawful : goal.returns-in_err-put_head-clause-lawful
returns-in_err-put_head-clause-lawful g c = no_answer _ c.from_residual-in_err-put_head.result c.from_residual-in_err-put_head.ensures.0

pub returns-in_err-put_head-clause-page : goal.returns-in_err-put_head-clause-page
returns-in_err-put_head-clause-page g c = no_answer _ c.from_residual-in_err-put_head.result c.from_residual-in_err-put_head.ensures.0

pub returns-in_err-put_head-clause-draws : goal.returns-in_err-put_head-clause-draws
returns-in_err-put_head-clause-draws g c = λ image tells. no_answer _ c.from_residual-in_err-put_head.result
    c.from_residual-in_err-put_head.ensures.0

pub returns-in_err-page-clause-lawful : goal.returns-in_err-page-clause-lawful
returns-in_err-page-clause-lawful g c = no_answer _ c.from_residual-in_err-page.result c.from_residual-in_err-page.ensures.0

pub returns-in_err-page-clause-page : goal.returns-in_err-page-clause-page
returns-in_err-page-clause-page g c = no_answer _ c.from_residual-in_err-page.result c.from_residual-in_err-page.ensures.0

pub returns-in_err-page-clause-draws : goal.returns-in_err-page-clause-draws
returns-in_err-page-clause-draws g c = λ image tells. no_answer _ c.from_residual-in_err-page.result
    c.from_residual-in_err-page.ensures.0

pub returns-in_err-put_head-2-clause-lawful : goal.returns-in_err-put_head-2-clause-lawful
returns-in_err-put_head-2-clause-lawful g c = no_answer _ c.from_residual-in_err-put_head-2.result c.from_residual-in_err-put_head-2.ensures.0

pub returns-in_err-put_head-2-clause-page : goal.returns-in_err-put_head-2-clause-page
returns-in_err-put_head-2-clause-page g c = no_answer _ c.from_residual-in_err-put_head-2.result c.from_residual-in_err-put_head-2.ensures.0

pub returns-in_err-put_head-2-clause-draws : goal.returns-in_err-put_head-2-clause-draws
returns-in_err-put_head-2-clause-draws g c = λ image tells. no_answer _ c.from_residual-in_err-put_head-2.result
    c.from_residual-in_err-put_head-2.ensures.0

pub returns-then-header-t-clause-lawful : goal.returns-then-header-t-clause-lawful
returns-then-header-t-clause-lawful g c = tt

pub returns-then-header-t-clause-page : goal.returns-then-header-t-clause-page
returns-then-header-t-clause-page g c = tt

pub returns-then-header-t-clause-draws : goal.returns-then-header-t-clause-draws
returns-then-header-t-clause-draws g c = λ image tells. tt

pub returns-then-t-places_of-ne0-clause-page : goal.returns-then-t-places_of-ne0-clause-page
returns-then-t-places_of-ne0-clause-page g c =
    let size = ap (λ (x : Geometry). x.size) c.geometry-size.ensures
    ∙ ap (λ (x : Geometry). x.size) c.read_head.ensures.keeps.geometry in
    let same = ap (λ (k : ℕ). c.args.t.0 % k) (c.places_of.ensures ∙ ap places size) in
    λ zero. c.if-t-places_of-ne0.true (same ∙ zero)

pub returns-in_err-header-clause-below : goal.returns-in_err-header-clause-below
returns-in_err-header-clause-below g c = no_answer _ c.from_residual.result c.from_residual.ensures.0

pub returns-in_err-header-clause-page_below : goal.returns-in_err-header-clause-page_below
returns-in_err-header-clause-page_below g c = no_answer _ c.from_residual.result c.from_residual.ensures.0

pub returns-in_err-put_head-clause-below : goal.returns-in_err-put_head-clause-below
returns-in_err-put_head-clause-below g c = no_answer _ c.from_residual-in_err-put_head.result c.from_residual-in_err-put_head.ensures.0

pub returns-in_err-put_head-clause-page_below : goal.returns-in_err-put_head-clause-page_below
returns-in_err-put_head-clause-page_below g c = no_answer _ c.from_residual-in_err-put_head.result c.from_residual-in_err-put_head.ensures.0

pub returns-in_err-page-clause-below : goal.returns-in_err-page-clause-below
returns-in_err-page-clause-below g c = no_answer _ c.from_residual-in_err-page.result c.from_residual-in_err-page.ensures.0

pub returns-in_err-page-clause-page_below : goal.returns-in_err-page-clause-page_below
returns-in_err-page-clause-page_below g c = no_answer _ c.from_residual-in_err-page.result c.from_residual-in_err-page.ensures.0

pub returns-in_err-put_head-2-clause-below : goal.returns-in_err-put_head-2-clause-below
returns-in_err-put_head-2-clause-below g c = no_answer _ c.from_residual-in_err-put_head-2.result c.from_residual-in_err-put_head-2.ensures.0

pub returns-in_err-put_head-2-clause-page_below : goal.returns-in_err-put_head-2-clause-page_below
returns-in_err-put_head-2-clause-page_below g c = no_answer _ c.from_residual-in_err-put_head-2.result c.from_residual-in_err-put_head-2.ensures.0

pub returns-then-header-t-clause-below : goal.returns-then-header-t-clause-below
returns-then-header-t-clause-below g c = tt

pub returns-then-header-t-clause-page_below : goal.returns-then-header-t-clause-page_below
returns-then-header-t-clause-page_below g c = tt

pub returns-then-t-places_of-ne0-clause-page_below : goal.returns-then-t-places_of-ne0-clause-page_below
returns-then-t-places_of-ne0-clause-page_below g c = tt

pub returns-then-t-places_of-ne0-clause-below : goal.returns-then-t-places_of-ne0-clause-below
returns-then-t-places_of-ne0-clause-below g c =
    subst (λ (x : Geometry). AreBelow x.limit c.put_head.new.batch.pages) c.read_head.ensures.keeps.geometry
    (all_below c.read_head.new.store.geometry c.put_head.new.batch.pages
    (whole_last c.read_head.new.store.geometry c.args.batch.now c.put_head.new.batch c.requires.empty
    c.in_ok-put_head.ensures.below c.in_ok-put_head.ensures.puts))

pub returns-clause-page_below : goal.returns-clause-page_below
returns-clause-page_below g c = subst (λ (x : Geometry). c.in_ok-page.page.page < x.limit)
    c.read_head.ensures.keeps.geometry
    (taken_below c.read_head.new.store.geometry c.in_ok-page.page.page c.in_ok-page.ensures.puts.inventory.below)

pub returns-clause-below : goal.returns-clause-below
returns-clause-below g c =
    let same = c.put_tip.ensures.keeps.geometry in
    subst (λ (x : Geometry). AreBelow x.limit c.put_head-2.new.batch.pages)
    c.read_head.ensures.keeps.geometry
    (all_below c.read_head.new.store.geometry c.put_head-2.new.batch.pages
    (whole_new g.D.Disk.meaning c.read_head.new.store c.args.batch.now c.put_tip.new.batch c.args.t.0
    c.in_ok-header.header.last_tip.0 c.in_ok-page.page c.in_ok-page.ensures.puts
    c.put_head-2.new.batch c.requires.empty
    (subst (λ (x : Geometry). 0 < x.limit) same c.in_ok-put_head-2.ensures.below)
    (subst (λ (x : Geometry). PutsHead x.size c.put_tip.new.batch c.put_head-2.new.batch) same
    c.in_ok-put_head-2.ensures.puts)))
