use Rattle.std.specs.Prelude.{codes}
use Rattle.std.specs.List.{flat_map}
use Rattle.mg_storm_report.specs.Report.{answers_from, answers_in, bad_text}
use Rattle.mg_storm_report.proofs.ReportLemmas.{last_put}
use Rattle.mg_storm_report.proofs.replies.put_replies.Goals as goal

pub returns : goal.returns
returns c =
    last_put c.put_answers.result c.args.out.now.items c.put_word.new.out.items c.put_bad_lines.new.out.items
    c.put_answers.new.out.items (codes "REPLIES\n") (flat_map bad_text c.args.lines.now)
    (answers_from 0 (answers_in c.args.answers.now)) c.in_ok-put_word.ensures.ok c.in_ok-put_bad_lines.ensures
    c.put_answers.ensures
