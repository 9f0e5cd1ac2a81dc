use Rattle.mg_words.specs.Words.{texts}
use Rattle.mg_commands.proofs.DecidingLemmas.{fix_asked, load_asked, run_asked, storm_asked}
use Rattle.mg_commands.proofs.deciding.are_asked.Goals as goal

pub returns-in-Run : goal.returns-in-Run
returns-in-Run c = run_asked c.args.word (texts c.args.words.now) c.are_options.result c.in-Run.is
    (rw c.every.ensures at c.are_options.ensures)

pub returns-in-Storm : goal.returns-in-Storm
returns-in-Storm c = storm_asked c.args.word (texts c.args.words.now) c.are_options-in-Storm.result c.in-Storm.is
    (rw c.of_storm.ensures at c.are_options-in-Storm.ensures)

pub returns-in-Load : goal.returns-in-Load
returns-in-Load c = load_asked c.args.word (texts c.args.words.now) c.is_load.result c.in-Load.is c.is_load.ensures

pub returns-in-Fix : goal.returns-in-Fix
returns-in-Fix c = fix_asked c.args.word (texts c.args.words.now) c.is_fix.result c.in-Fix.is c.is_fix.ensures
