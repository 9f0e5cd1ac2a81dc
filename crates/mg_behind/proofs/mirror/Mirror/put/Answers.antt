use Rattle.mg_behind.proofs.Mirrors.{kept_put, front_put}
use Rattle.mg_behind.proofs.mirror.Mirror.put.Goals as goal

pub invariant_of-self : goal.invariant_of-self
invariant_of-self c =
    let m = c.args.self.now in
    record { kept = rw (c.put_page.ensures, c.max-self.ensures) (kept_put m.size m.pages.items m.used c.args.page c.args.bytes.now m.kept c.requires.room c.requires.whole) }

pub returns-clause-written : goal.returns-clause-written
returns-clause-written c =
    let m = c.args.self.now in
    rw (c.put_page.ensures, c.max-self.ensures, c.requires.whole) (front_put m.size m.pages.items m.used c.args.page c.args.bytes.now m.kept c.requires.room)
