use Rattle.std.proofs.Common.{◌≡◌, List, arith, drop, length, subst, sym, ℕ, Ok}
use Rattle.mg_header.specs.HeaderPage.{reading, the_page}
use Rattle.mg_space.specs.HandedLaws.{no_answer, out_of_memory, own_as, told_as}
use Rattle.mg_space.specs.ViewLaws.{viewed_here}
use Rattle.mg_txlist.specs.Drawing.{MayBeHeader}
use Rattle.mg_txlist.specs.Refusals.{LacksHead}
use Rattle.mg_txlist.proofs.DrawLemmas.{head_again, written_back}
use Rattle.mg_txlist.proofs.HandedLemmas.{own_memory, refused_reads, told_memory}
use Rattle.mg_txlist.proofs.RefusalLemmas.{err_as, lacks_read}
use Rattle.mg_txlist.proofs.drawing.put_head.Goals as goal

pub returns-clause-head : goal.returns-clause-head
returns-clause-head g c = λ image tells may.
    let len : c.into_vec-bytes.result.len ≡ length c.write_header.new.b =
    omega (arith, c.write_header.ensures.written.len, c.deref_mut.ensures.len) in
    subst (λ (b : List ℕ). reading b c.args.store.now.geometry.size ≡ Ok c.args.header.now)
    (sym (viewed_here c.args.store.now image c.args.batch.now c.put.new.self 0 c.deref.result.now
    c.in_ok-put.ensures.puts))
    (head_again c.args.store.now.geometry.size c.args.header.now c.in_ok-page.page
    c.into_vec-bytes.result.items c.deref_mut.result.now c.write_header.new.b c.deref.result.now
    c.in_ok-page.ensures.len c.into_vec-bytes.ensures c.deref_mut.ensures.value
    (written_back c.into_vec-bytes.result.len c.write_header.new.b
    (drop (length c.write_header.new.b) c.into_vec-bytes.result.items) c.deref.result.now len
    c.deref.ensures.value)
    c.write_header.ensures.read_again
    (subst (λ (b : List ℕ). MayBeHeader c.args.header.now b)
    (sym (c.in_ok-page.ensures.seen image tells)) may))

pub returns-in_err-page-clause-keeps : goal.returns-in_err-page-clause-keeps
returns-in_err-page-clause-keeps g c = c.page_of.ensures.keeps

pub returns-in_err-page-clause-fault : goal.returns-in_err-page-clause-fault
returns-in_err-page-clause-fault g c = told_as (List ℕ) g.D.Disk.meaning c.args.store.now c.page_of.new.store c.from_residual.result
    c.in_err-page.field-0.0 c.from_residual.ensures.1 c.in_err-page.ensures.fault

pub returns-in_err-page-clause-own : goal.returns-in_err-page-clause-own
returns-in_err-page-clause-own g c = own_as (Unit {0}) c.from_residual.result c.in_err-page.field-0.0 c.from_residual.ensures.1
    (refused_reads (List ℕ) g.D.Disk.meaning c.page_of.new.store c.args.batch.now.pages the_page
    c.in_err-page.field-0.0 c.in_err-page.ensures.refusal)

pub returns-in_err-page-clause-puts : goal.returns-in_err-page-clause-puts
returns-in_err-page-clause-puts g c = no_answer _ c.from_residual.result c.from_residual.ensures.0

pub returns-in_err-page-clause-head : goal.returns-in_err-page-clause-head
returns-in_err-page-clause-head g c = λ image tells. no_answer _ c.from_residual.result c.from_residual.ensures.0

pub returns-in_err-page-clause-lacks : goal.returns-in_err-page-clause-lacks
returns-in_err-page-clause-lacks g c = err_as c.from_residual.result c.in_err-page.field-0.0 (LacksHead g.D.Disk.meaning c.page_of.new.store) c.from_residual.ensures.1
    (lacks_read (List ℕ) g.D.Disk.meaning c.page_of.new.store c.args.batch.now.pages c.in_err-page.field-0.0
    c.in_err-page.ensures.refusal)

pub returns-in_err-put-clause-keeps : goal.returns-in_err-put-clause-keeps
returns-in_err-put-clause-keeps g c = c.page_of.ensures.keeps

pub returns-in_err-put-clause-fault : goal.returns-in_err-put-clause-fault
returns-in_err-put-clause-fault g c = told_memory g.D.Disk.meaning c.args.store.now c.page_of.new.store
    c.from_residual-in_err-put.result c.from_residual-in_err-put.ensures.1 c.in_ok-page.ensures.fault

pub returns-in_err-put-clause-own : goal.returns-in_err-put-clause-own
returns-in_err-put-clause-own g c = own_memory c.from_residual-in_err-put.result c.from_residual-in_err-put.ensures.1

pub returns-in_err-put-clause-puts : goal.returns-in_err-put-clause-puts
returns-in_err-put-clause-puts g c = no_answer _ c.from_residual-in_err-put.result c.from_residual-in_err-put.ensures.0

pub returns-in_err-put-clause-head : goal.returns-in_err-put-clause-head
returns-in_err-put-clause-head g c = λ image tells. no_answer _ c.from_residual-in_err-put.result c.from_residual-in_err-put.ensures.0

pub returns-in_err-put-clause-lacks : goal.returns-in_err-put-clause-lacks
returns-in_err-put-clause-lacks g c = err_as c.from_residual-in_err-put.result out_of_memory (LacksHead g.D.Disk.meaning c.page_of.new.store)
    c.from_residual-in_err-put.ensures.1 tt

pub returns-clause-keeps : goal.returns-clause-keeps
returns-clause-keeps g c = c.page_of.ensures.keeps

pub returns-clause-fault : goal.returns-clause-fault
returns-clause-fault g c = c.in_ok-page.ensures.fault

pub returns-clause-own : goal.returns-clause-own
returns-clause-own g c = tt

pub returns-clause-lacks : goal.returns-clause-lacks
returns-clause-lacks g c = tt

pub returns-in_err-page-clause-below : goal.returns-in_err-page-clause-below
returns-in_err-page-clause-below g c = no_answer _ c.from_residual.result c.from_residual.ensures.0

pub returns-in_err-put-clause-below : goal.returns-in_err-put-clause-below
returns-in_err-put-clause-below g c = no_answer _ c.from_residual-in_err-put.result c.from_residual-in_err-put.ensures.0

pub returns-clause-below : goal.returns-clause-below
returns-clause-below g c = c.in_ok-page.ensures.below
