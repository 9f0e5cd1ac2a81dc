use Rattle.std.proofs.Common.{◌∙◌, List, ap, ℕ, sym}
use Rattle.mg_directory.specs.Candidates.{Kept, is_marked, may_be_made}
use Rattle.mg_directory.proofs.TableLemmas.{kept_of, marked_not, nowhere_may, somewhere_not}
use Rattle.mg_directory.proofs.directories.Directories.may_start.Goals as goal

pub returns-then-contains : goal.returns-then-contains
returns-then-contains c = marked_not (kept_of c.self.inside.most c.self.inside.tables.items c.self.inside.too_large.items) c.args.first.0
    (ap (λ (ns : List ℕ). is_marked ns c.args.first.0) (sym c.deref.ensures.value)
    ∙ (sym c.contains.ensures.value ∙ c.if-contains.true))
    ∙ ap (λ (k : Kept). may_be_made k c.args.first.0) c.self.view_is

pub returns-in-None : goal.returns-in-None
returns-in-None c = nowhere_may (kept_of c.self.inside.most c.self.inside.tables.items c.self.inside.too_large.items) c.args.first.0
    (ap (λ (ns : List ℕ). is_marked ns c.args.first.0) (sym c.deref.ensures.value)
    ∙ (sym c.contains.ensures.value ∙ c.if-contains.false)) c.in-None.ensures.none
    ∙ ap (λ (k : Kept). may_be_made k c.args.first.0) c.self.view_is

pub returns-in-Some : goal.returns-in-Some
returns-in-Some c = somewhere_not (kept_of c.self.inside.most c.self.inside.tables.items c.self.inside.too_large.items) c.args.first.0 _ c.in-Some.ensures.some
    ∙ ap (λ (k : Kept). may_be_made k c.args.first.0) c.self.view_is
