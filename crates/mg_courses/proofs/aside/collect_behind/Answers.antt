use Rattle.std.proofs.Common.{refl, subst, sym}
use Rattle.mg_courses.specs.declared.work.Work.{Work}
use Rattle.mg_courses.specs.Aside.{IsBehind, let_be}
use Rattle.mg_courses.proofs.AsideLemmas.{run_ready}
use Rattle.mg_courses.proofs.aside.collect_behind.Goals as goal

pub collect_if_more-requires : goal.collect_if_more-requires
collect_if_more-requires g c = record {
  ready = run_ready g.R.Records.meaning g.R.Statements.runs c.args.r.now c.args.t c.args.work.now c.in-Statement.run'
      c.args.stepped c.in-Statement.is c.requires.ready;
}

pub returns-in-Statement : goal.returns-in-Statement
returns-in-Statement g c = subst (λ (w : Work g.row.R-Run.Denot). IsBehind g.R.Records.meaning g.R.Statements.runs
    g.R.Tends.collected c.args.r.now c.collect_if_more.new.r c.args.t w c.args.stepped c.collect_if_more.result)
    (sym c.in-Statement.is) c.collect_if_more.ensures

pub returns-in-Commit : goal.returns-in-Commit
returns-in-Commit g c = let_be c.args.stepped (rw c.in-Commit.is refl) refl
