-- The steps that are left make the same of the least one so far.
use Rattle.std.proofs.Common.{◌≡◌, length}
use Rattle.mg_model.specs.Answers.{least_from, least_by, is_open_other, changes_table}
use Rattle.mg_plain.specs.Keeping.{told_in}
use Rattle.mg_plain.specs.Kept.{kept}
use Rattle.mg_plain.proofs.plain.Plain.least_claimant.Given as goal

abbrev pub invariant-loop-last : goal.invariant-loop-last
invariant-loop-last l =
    least_from (is_open_other (told_in (kept l.self)) l.t) (changes_table l.table) l.least l.rest
    ≡ least_by (is_open_other (told_in (kept l.self)) l.t) (changes_table l.table) (kept l.self).steps

abbrev pub decreases-loop-last : goal.decreases-loop-last
decreases-loop-last l = length l.rest
