use Rattle.std.proofs.Common.{◌∙◌, ◌/◌, refl}
use Rattle.mg_tip.specs.TipPage.{places}
use Rattle.mg_space.specs.declared.fault.SpaceFault.TheVariants as faults
use Rattle.mg_txlist.proofs.EndLemmas.{kept_below}
use Rattle.mg_txlist.proofs.TipLemmas.{made_long, tip_below}
use Rattle.mg_txlist.proofs.WritingLemmas.{commits_bits, fails_commit, no_fault}
use Rattle.mg_txlist.proofs.list.TxList.mark_committed.Goals as goal

pub returns-in-Err-clause-fails : goal.returns-in-Err-clause-fails
returns-in-Err-clause-fails g c = λ fault is. fails_commit g.D.Disk.meaning c.args.self.now
    c.args.store.now c.settle_page.new.store c.args.t.0 c.in-Err.fault fault
    c.page_of_bits-page.result c.put_bits.new.bytes is c.page_of_bits-page.ensures.page
    c.put_bits.ensures c.in-Err.ensures.fails

pub returns-in-Err-clause-list : goal.returns-in-Err-clause-list
returns-in-Err-clause-list g c = c.requires.list

pub returns-in-Err-clause-pool : goal.returns-in-Err-clause-pool
returns-in-Err-clause-pool g c = c.settle_page.ensures.pool

pub returns-in-Err-clause-geometry : goal.returns-in-Err-clause-geometry
returns-in-Err-clause-geometry g c = c.settle_page.ensures.geometry

pub returns-in-Err-clause-fault : goal.returns-in-Err-clause-fault
returns-in-Err-clause-fault g c = c.in-Err.ensures.fault

pub returns-in-Err-clause-own : goal.returns-in-Err-clause-own
returns-in-Err-clause-own g c = c.in-Err.ensures.own

pub returns-in-Err-clause-same : goal.returns-in-Err-clause-same
returns-in-Err-clause-same g c = refl

pub returns-in-Err-clause-ends : goal.returns-in-Err-clause-ends
returns-in-Err-clause-ends g c = tt

pub returns-in-Err-clause-commits : goal.returns-in-Err-clause-commits
returns-in-Err-clause-commits g c = tt

pub returns-clause-list : goal.returns-clause-list
returns-clause-list g c = c.keep_committed.ensures.list

pub returns-clause-pool : goal.returns-clause-pool
returns-clause-pool g c = c.settle_page.ensures.pool

pub returns-clause-geometry : goal.returns-clause-geometry
returns-clause-geometry g c = c.settle_page.ensures.geometry

pub returns-clause-fault : goal.returns-clause-fault
returns-clause-fault g c = c.in-Ok.ensures.fault

pub returns-clause-own : goal.returns-clause-own
returns-clause-own g c = tt

pub returns-clause-same : goal.returns-clause-same
returns-clause-same g c = tt

pub returns-clause-ends : goal.returns-clause-ends
returns-clause-ends g c = c.keep_committed.ensures.ends

pub returns-clause-commits : goal.returns-clause-commits
returns-clause-commits g c = commits_bits g.D.Disk.meaning c.args.self.now c.keep_committed.new.self c.args.store.now
    c.settle_page.new.store c.args.t.0 c.page_of_bits-page.result c.put_bits.new.bytes
    c.page_of_bits-page.ensures.page c.put_bits.ensures c.in-Ok.ensures.settles
    c.keep_committed.ensures.keeps

pub returns-clause-fails : goal.returns-clause-fails
returns-clause-fails g c = λ fault is. no_fault (faults.Pool fault) _ is

pub put_bits-requires-clause-list : goal.put_bits-requires-clause-list
put_bits-requires-clause-list g c = c.requires.list

pub put_bits-requires-clause-drawn : goal.put_bits-requires-clause-drawn
put_bits-requires-clause-drawn g c = c.requires.drawn

pub page_of_bits-page-requires-clause-list : goal.page_of_bits-page-requires-clause-list
page_of_bits-page-requires-clause-list g c = c.requires.list

pub page_of_bits-page-requires-clause-drawn : goal.page_of_bits-page-requires-clause-drawn
page_of_bits-page-requires-clause-drawn g c = c.requires.drawn

pub settle_page-requires-clause-pool : goal.settle_page-requires-clause-pool
settle_page-requires-clause-pool g c = c.requires.pool

pub settle_page-requires-clause-apart : goal.settle_page-requires-clause-apart
settle_page-requires-clause-apart g c = c.page_of_bits-page.ensures.apart

pub keep_committed-requires-clause-list : goal.keep_committed-requires-clause-list
keep_committed-requires-clause-list g c = c.requires.list

pub keep_committed-requires-clause-some : goal.keep_committed-requires-clause-some
keep_committed-requires-clause-some g c = c.requires.some

pub keep_committed-requires-clause-drawn : goal.keep_committed-requires-clause-drawn
keep_committed-requires-clause-drawn g c = c.requires.drawn

pub keep_committed-requires-clause-sets : goal.keep_committed-requires-clause-sets
keep_committed-requires-clause-sets g c = c.put_bits.ensures

pub settle_page-requires-clause-whole : goal.settle_page-requires-clause-whole
settle_page-requires-clause-whole g c = made_long c.args.self.now c.args.t.0 (places c.args.self.now.size)
    c.requires.list c.requires.drawn refl c.put_bits.new.bytes c.put_bits.ensures ∙ c.requires.size

pub settle_page-requires-clause-below : goal.settle_page-requires-clause-below
settle_page-requires-clause-below g c = tip_below c.args.self.now c.args.t.0 (places c.args.self.now.size)
    c.requires.list c.requires.drawn refl c.args.store.now.geometry.limit c.page_of_bits-page.result.0
    c.requires.tips c.page_of_bits-page.ensures.page

pub returns-in-Err-clause-tips : goal.returns-in-Err-clause-tips
returns-in-Err-clause-tips g c = c.requires.tips

pub returns-clause-tips : goal.returns-clause-tips
returns-clause-tips g c = kept_below c.args.self.now c.keep_committed.new.self
    (c.args.t.0 / places c.args.self.now.size) c.put_bits.new.bytes c.args.store.now.geometry.limit
    c.keep_committed.ensures.keeps c.requires.tips
