use Rattle.std.proofs.Common.{◌<◌, arith, length, refl}
use Rattle.mg_floor.proofs.BoardLemmas.{same_read}
use Rattle.mg_floor.proofs.board.Board.reserve.Goals as goal

pub returns-in_err-reserve-clause-stays : goal.returns-in_err-reserve-clause-stays
returns-in_err-reserve-clause-stays c =
    let few = c.requires.inside in
    let long = c.requires.board.answers in
    let inside : c.args.session.0 < length c.args.self.now.answers.items = omega (arith, few, long) in
    record {
      scripts = refl;
      places = refl;
      answers = same_read c.args.self.now.answers.items c.args.session.0 c.index_mut.result.now c.reserve.new.self inside
          c.index_mut.ensures.value c.reserve.ensures.items;
      stopped = refl;
    }

pub returns-clause-stays : goal.returns-clause-stays
returns-clause-stays c =
    let few = c.requires.inside in
    let long = c.requires.board.answers in
    let inside : c.args.session.0 < length c.args.self.now.answers.items = omega (arith, few, long) in
    record {
      scripts = refl;
      places = refl;
      answers = same_read c.args.self.now.answers.items c.args.session.0 c.index_mut.result.now c.reserve.new.self inside
          c.index_mut.ensures.value c.reserve.ensures.items;
      stopped = refl;
    }
