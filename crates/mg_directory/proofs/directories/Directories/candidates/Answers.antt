use Rattle.std.proofs.Common.{◌∙◌, List, Option, Some, ap, sym}
use Rattle.mg_base.specs.declared.numbers.RecId.{RecId}
use Rattle.mg_directory.specs.Candidates.{ByKey, Kept, Noted, at_key, by_table, under}
use Rattle.mg_directory.proofs.TableLemmas.{nowhere_none, place_some}
use Rattle.mg_directory.proofs.directories.Directories.candidates.Goals as goal

pub returns-in_default : goal.returns-in_default
returns-in_default c = ap (λ (k : Kept). by_table k.dirs c.args.first.0) (sym c.self.view_is)
    ∙ nowhere_none c.self.inside.tables.items c.args.first.0 c.in_default.ensures.none

pub returns : goal.returns
returns c = ap (λ (o : Option ByKey). at_key o c.args.bytes.now)
    (ap (λ (k : Kept). by_table k.dirs c.args.first.0) (sym c.self.view_is)
    ∙ place_some c.self.inside.tables.items c.args.first.0 c.in-Some.place c.index.result.now
    c.in-Some.ensures.some)
    ∙ (ap (λ (dir : Noted). Some (under dir c.args.bytes.now)) (sym c.index.ensures)
    ∙ ap (λ (recs : List RecId). Some recs) (sym c.in_ok-found.ensures))
