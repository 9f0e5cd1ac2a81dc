use Rattle.std.proofs.Common.{◌∷◌, [], ◌++◌, append_assoc}
use Rattle.std.specs.Prelude.{codes}
use Rattle.std.specs.List.{flat_map}
use Rattle.mg_script.specs.Lines.{letter}
use Rattle.mg_script.specs.Transcript.{reply_text, row_line, rows_in}
use Rattle.std.proofs.lemmas.Result.{IfOk-from_err}
use Rattle.mg_script.proofs.FrontLemmas.{both_put, front_twice, last_put}
use Rattle.mg_script.proofs.answer.put_said.Goals as goal

pub returns-in_err-put_rows-clause-ok : goal.returns-in_err-put_rows-clause-ok
returns-in_err-put_rows-clause-ok c = IfOk-from_err c.from_residual.result _ c.from_residual.ensures.0

pub returns-in_err-put_rows-clause-front : goal.returns-in_err-put_rows-clause-front
returns-in_err-put_rows-clause-front c = c.in_err-put_rows.ensures.front

pub returns-in_err-put_letter-clause-ok : goal.returns-in_err-put_letter-clause-ok
returns-in_err-put_letter-clause-ok c =
    IfOk-from_err c.from_residual-in_err-put_letter.result _ c.from_residual-in_err-put_letter.ensures.0

pub returns-in_err-put_letter-clause-front : goal.returns-in_err-put_letter-clause-front
returns-in_err-put_letter-clause-front c =
    front_twice _ _ _ c.in_ok-put_rows.ensures.front c.in_err-put_letter.ensures.front

pub returns-clause-front : goal.returns-clause-front
returns-clause-front c =
    front_twice _ _ _ (front_twice _ _ _ c.in_ok-put_rows.ensures.front c.in_ok-put_letter.ensures.front)
    c.put_text.ensures.front

pub returns-clause-ok : goal.returns-clause-ok
returns-clause-ok c =
    last_put c.put_text.result c.args.out.now.items c.put_letter.new.out.items c.put_text.new.out.items
    (flat_map (row_line c.args.session) (rows_in c.args.reply.now) ++ (letter c.args.session ∷ []))
    (codes ": " ++ (reply_text c.args.reply.now ++ (10 ∷ []))) _
    (append_assoc (flat_map (row_line c.args.session) (rows_in c.args.reply.now)) (letter c.args.session ∷ [])
    (codes ": " ++ (reply_text c.args.reply.now ++ (10 ∷ []))))
    (both_put _ _ _ _ _ c.in_ok-put_rows.ensures.ok c.in_ok-put_letter.ensures.ok) c.put_text.ensures.ok
