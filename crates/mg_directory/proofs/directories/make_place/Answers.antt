use Rattle.std.proofs.Common.{◌≤◌, arith, length}
use Rattle.mg_directory.specs.declared.TheConstants.{MOST_TABLES}
use Rattle.mg_directory.proofs.TableLemmas.{oldest_goes, place_there}
use Rattle.mg_directory.proofs.directories.make_place.Goals as goal

pub returns-then-len-lt-MOST_TABLES : goal.returns-then-len-lt-MOST_TABLES
returns-then-len-lt-MOST_TABLES c = place_there c.args.tables.now.items
    (omega (arith, c.if-len-lt-MOST_TABLES.true, c.len.ensures))

pub returns : goal.returns
returns c =
    let many : MOST_TABLES ≤ length c.args.tables.now.items =
    omega (arith, c.if-len-lt-MOST_TABLES.false, c.len.ensures) in
    oldest_goes c.args.tables.now.items c.drop_from.new.tables.items c.first-oldest.result.0
    c.index.result.now c.drop_from.ensures c.first-oldest.ensures c.index.ensures many
