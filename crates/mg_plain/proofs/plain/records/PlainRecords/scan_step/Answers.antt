use Rattle.std.specs.Option.{option_copied}
use Rattle.mg_plain.specs.Records.{FoundAt, rows_seen}
use Rattle.mg_plain.specs.Kept.{kept}
use Rattle.std.proofs.Common.{Ok, subst, ℕ}
use Rattle.mg_plain.proofs.CallLemmas.{visits_found}
use Rattle.mg_plain.proofs.plain.records.PlainRecords.scan_step.Goals as goal

pub returns-in-Ok-seen_at-clause-visits : goal.returns-in-Ok-seen_at-clause-visits
returns-in-Ok-seen_at-clause-visits c =
    λ rows come. visits_found c.args.self.now c.args.t.0 c.args.table.now (option_copied c.args.after) c.in-Ok-seen_at.found rows
    (subst (λ (n : ℕ). FoundAt (rows_seen (kept c.args.self.now) c.args.t.0 c.args.table.now.name) n (Ok c.in-Ok-seen_at.found)) c.number_behind-place.ensures c.in-Ok-seen_at.ensures.found) come
