use Rattle.std.proofs.Common.{refl, ap, arith, ◌∙◌, List, ℕ}
use Rattle.mg_base.specs.Fields.{u32_at}
use Rattle.mg_base.specs.declared.fields.TheConstants.{OWNER_AT}
use Rattle.mg_node.specs.NodePage.{level_in}
use Rattle.mg_space.specs.View.{viewed}
use Rattle.mg_space.specs.WholeLaws.{whole_kept}
use Rattle.mg_btree.specs.AboveLaws.{sized_by}
use Rattle.mg_btree.specs.ExitLaws.{reads_ok}
use Rattle.mg_btree.specs.RootLaws.{root_owner, root_refused}
use Rattle.mg_btree.specs.ScanLaws.{reads_err}
use Rattle.mg_btree.proofs.HoldingLemmas.{lent_long, lent_seen}
use Rattle.mg_btree.proofs.root.root_of.Goals as goal

pub returns-in_err-hold_page-clause-reads : goal.returns-in_err-hold_page-clause-reads
returns-in_err-hold_page-clause-reads g c = reads_err (Unit {0}) g.D.Disk.meaning c.args.store.now
    c.hold_page.new.store c.in_err-hold_page.field-0.0 c.from_residual.result c.from_residual.ensures.1
    c.in_err-hold_page.ensures.reads

pub returns-in_err-hold_page-clause-root : goal.returns-in_err-hold_page-clause-root
returns-in_err-hold_page-clause-root g c = λ image owner levels tells tree.
    root_refused c.args.store.now.geometry.size (viewed c.args.store.now image c.args.batch.now) owner
    c.args.page.0 levels c.in_err-hold_page.field-0.0 c.from_residual.result tree c.from_residual.ensures.1
    (c.in_err-hold_page.ensures.seen image tells)

pub lent-bytes-requires-clause-pool : goal.lent-bytes-requires-clause-pool
lent-bytes-requires-clause-pool g c = c.in_ok-hold_page.ensures.reads.keeps.pool

pub lent-bytes-requires-clause-whole : goal.lent-bytes-requires-clause-whole
lent-bytes-requires-clause-whole g c = whole_kept g.D.Disk.meaning c.args.store.now
    c.hold_page.new.store c.args.batch.now.pages c.in_ok-hold_page.ensures.reads.keeps c.requires.whole

pub level_of-requires : goal.level_of-requires
level_of-requires g c = (sized_by c.args.store.now.geometry c.lent-bytes.result.now c.requires.geometry
    (lent_long g.D.Disk.meaning c.args.store.now c.hold_page.new.store c.lent-bytes.result.now
    c.in_ok-hold_page.ensures.reads.keeps c.lent-bytes.ensures.len)).least

pub get_u32-requires : goal.get_u32-requires
get_u32-requires g c =
    let least = (sized_by c.args.store.now.geometry c.lent-bytes.result.now c.requires.geometry
    (lent_long g.D.Disk.meaning c.args.store.now c.hold_page.new.store c.lent-bytes.result.now
    c.in_ok-hold_page.ensures.reads.keeps c.lent-bytes.ensures.len)).least in
    omega (arith, least)

pub returns-clause-reads : goal.returns-clause-reads
returns-clause-reads g c = reads_ok g.D.Disk.meaning c.args.store.now c.hold_page.new.store _ _ _ refl
    c.in_ok-hold_page.ensures.reads

pub returns-clause-root : goal.returns-clause-root
returns-clause-root g c = λ image owner levels tells tree.
    let same = lent_seen g.D.Disk.meaning c.args.store.now c.hold_page.new.store c.args.batch.now
    c.args.page.0 c.lent-bytes.result.now c.in_ok-hold_page.ensures.reads.keeps c.lent-bytes.ensures.seen
    image tells in (
      refl,
      c.get_u32.ensures ∙ (ap (λ (b : List ℕ). u32_at b OWNER_AT) same
          ∙ root_owner c.args.store.now.geometry.size (viewed c.args.store.now image c.args.batch.now) owner
          c.args.page.0 levels tree),
      c.level_of.ensures ∙ ap level_in same,
    )
