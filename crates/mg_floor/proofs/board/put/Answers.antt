use Rattle.mg_floor.proofs.BoardLemmas.{put_read}
use Rattle.mg_floor.proofs.board.put.Goals as goal

pub returns-clause-put : goal.returns-clause-put
returns-clause-put c =
    put_read c.args.answers.now.items c.args.session c.index_mut.result.now c.push_reserved.new.self c.args.answered
    c.requires.inside c.index_mut.ensures.value c.push_reserved.ensures.items
