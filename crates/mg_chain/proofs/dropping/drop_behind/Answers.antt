use Rattle.mg_space.specs.WholeLaws.{whole_kept, whole_as}
use Rattle.std.proofs.Common.{refl, subst}
use Rattle.mg_image.specs.Form.{Pages}
use Rattle.mg_space.specs.View.{viewed}
use Rattle.mg_space.specs.ViewLaws.{keeps_on, tells_on, viewed_on}
use Rattle.mg_chain.specs.Dropping.{RefusesDrop, drop_leads, drop_older}
use Rattle.mg_chain.specs.Refusals.{RefusesVersion}
use Rattle.mg_chain.proofs.DropLemmas.{leads_on, meets_on}
use Rattle.mg_chain.proofs.Steps.{handed_on}
use Rattle.mg_chain.proofs.dropping.drop_behind.Goals as goal

pub returns-in_default-clause-drops : goal.returns-in_default-clause-drops
returns-in_default-clause-drops g c = λ image tells. record {
  version = c.in_ok-version.version;
  meets = c.in_ok-version.ensures.gives image tells;
  ends = c.in_default.is;
  same = refl;
}

pub returns-in_err-older-clause-keeps : goal.returns-in_err-older-clause-keeps
returns-in_err-older-clause-keeps g c = keeps_on g.D.Disk.meaning g.met.D.Disk.counts_now
    c.args.store.now c.version_at.new.store c.version_at-2.new.store c.in_ok-version.ensures.keeps
    c.in_err-older.ensures.keeps

pub returns-in_err-older-clause-drops : goal.returns-in_err-older-clause-drops
returns-in_err-older-clause-drops g c = λ image tells.
    handed_on c.from_residual-in_err-older.result c.in_err-older.field-0.0 _
    (RefusesDrop g.D.Disk.meaning c.args.store.now c.version_at-2.new.store image c.args.batch.now
    c.args.holder.0 c.args.newer) c.from_residual-in_err-older.ensures.0 c.from_residual-in_err-older.ensures.1
    (drop_older c.in_ok-version.version c.in-Some.gone (c.in_ok-version.ensures.gives image tells) c.in-Some.is
    (subst (λ (pages : Pages). RefusesVersion g.D.Disk.meaning c.version_at-2.new.store c.args.batch.now.pages
    pages c.args.newer.rec.page.0 c.in-Some.gone c.in_err-older.field-0.0)
    (viewed_on g.D.Disk.meaning c.args.store.now c.version_at.new.store image c.args.batch.now
    c.in_ok-version.ensures.keeps)
    (c.in_err-older.ensures.gives image (tells_on g.D.Disk.meaning c.args.store.now c.version_at.new.store image
    c.in_ok-version.ensures.keeps tells))))

pub returns-in_err-lead_past-clause-drops : goal.returns-in_err-lead_past-clause-drops
returns-in_err-lead_past-clause-drops g c = λ image tells.
    let kept = keeps_on g.D.Disk.meaning g.met.D.Disk.counts_now c.args.store.now c.version_at.new.store
    c.version_at-2.new.store c.in_ok-version.ensures.keeps c.in_ok-older.ensures.keeps in
    handed_on c.from_residual-in_err-lead_past.result c.in_err-lead_past.field-0.0 _
    (RefusesDrop g.D.Disk.meaning c.args.store.now c.lead_past.new.store image c.args.batch.now c.args.holder.0
    c.args.newer) c.from_residual-in_err-lead_past.ensures.0 c.from_residual-in_err-lead_past.ensures.1
    (drop_leads c.in_ok-version.version c.in_ok-older.older c.in-Some.gone c.version_at-2.new.store
    (c.in_ok-version.ensures.gives image tells) c.in-Some.is
    (meets_on g.D.Disk.meaning c.args.store.now c.version_at.new.store c.in_ok-version.ensures.keeps image
    c.args.batch.now c.in-Some.gone c.in_ok-older.older
    (c.in_ok-older.ensures.gives image (tells_on g.D.Disk.meaning c.args.store.now c.version_at.new.store image
    c.in_ok-version.ensures.keeps tells))) kept
    (c.in_err-lead_past.ensures.leads image (tells_on g.D.Disk.meaning c.args.store.now c.version_at-2.new.store
    image kept tells)))

pub returns-clause-drops : goal.returns-clause-drops
returns-clause-drops g c = λ image tells.
    let kept = keeps_on g.D.Disk.meaning g.met.D.Disk.counts_now c.args.store.now c.version_at.new.store
    c.version_at-2.new.store c.in_ok-version.ensures.keeps c.in_ok-older.ensures.keeps in
    record {
      version = c.in_ok-version.version;
      meets = c.in_ok-version.ensures.gives image tells;
      back = c.in-Some.is;
      older = c.in_ok-older.older;
      behind = meets_on g.D.Disk.meaning c.args.store.now c.version_at.new.store c.in_ok-version.ensures.keeps image
          c.args.batch.now c.in-Some.gone c.in_ok-older.older
          (c.in_ok-older.ensures.gives image (tells_on g.D.Disk.meaning c.args.store.now c.version_at.new.store
          image c.in_ok-version.ensures.keeps tells));
      leads = leads_on g.D.Disk.meaning c.args.store.now c.version_at-2.new.store kept image c.args.batch.now
          c.lead_past.new.batch c.args.newer.rec c.in-Some.gone.rec c.in_ok-version.version c.in_ok-older.older.back
          (c.in_ok-lead_past.ensures.leads image (tells_on g.D.Disk.meaning c.args.store.now
          c.version_at-2.new.store image kept tells));
    }

pub version_at-requires-2-clause-whole : goal.version_at-requires-2-clause-whole
version_at-requires-2-clause-whole g c = whole_kept g.D.Disk.meaning c.args.store.now
    c.version_at.new.store c.args.batch.now.pages
    c.in_ok-version.ensures.keeps
    c.requires.whole

pub lead_past-requires-clause-whole : goal.lead_past-requires-clause-whole
lead_past-requires-clause-whole g c =
    let kept = keeps_on g.D.Disk.meaning g.met.D.Disk.counts_now c.args.store.now c.version_at.new.store
    c.version_at-2.new.store c.in_ok-version.ensures.keeps c.in_ok-older.ensures.keeps in
    whole_kept g.D.Disk.meaning c.args.store.now c.version_at-2.new.store c.args.batch.now.pages kept c.requires.whole

pub returns-in_err-lead_past-clause-keeps : goal.returns-in_err-lead_past-clause-keeps
returns-in_err-lead_past-clause-keeps g c =
    let kept = keeps_on g.D.Disk.meaning g.met.D.Disk.counts_now c.args.store.now c.version_at.new.store
    c.version_at-2.new.store c.in_ok-version.ensures.keeps c.in_ok-older.ensures.keeps in
    keeps_on g.D.Disk.meaning g.met.D.Disk.counts_now c.args.store.now c.version_at-2.new.store
    c.lead_past.new.store kept c.in_err-lead_past.ensures.keeps

pub returns-in_err-lead_past-clause-whole : goal.returns-in_err-lead_past-clause-whole
returns-in_err-lead_past-clause-whole g c =
    let kept = keeps_on g.D.Disk.meaning g.met.D.Disk.counts_now c.args.store.now c.version_at.new.store
    c.version_at-2.new.store c.in_ok-version.ensures.keeps c.in_ok-older.ensures.keeps in
    whole_as c.version_at-2.new.store.geometry c.args.store.now.geometry c.lead_past.new.batch.pages
    kept.geometry c.in_err-lead_past.ensures.whole

pub returns-clause-keeps : goal.returns-clause-keeps
returns-clause-keeps g c =
    let kept = keeps_on g.D.Disk.meaning g.met.D.Disk.counts_now c.args.store.now c.version_at.new.store
    c.version_at-2.new.store c.in_ok-version.ensures.keeps c.in_ok-older.ensures.keeps in
    keeps_on g.D.Disk.meaning g.met.D.Disk.counts_now c.args.store.now c.version_at-2.new.store
    c.lead_past.new.store kept c.in_ok-lead_past.ensures.keeps

pub returns-clause-whole : goal.returns-clause-whole
returns-clause-whole g c =
    let kept = keeps_on g.D.Disk.meaning g.met.D.Disk.counts_now c.args.store.now c.version_at.new.store
    c.version_at-2.new.store c.in_ok-version.ensures.keeps c.in_ok-older.ensures.keeps in
    whole_as c.version_at-2.new.store.geometry c.args.store.now.geometry c.lead_past.new.batch.pages
    kept.geometry c.in_ok-lead_past.ensures.whole
