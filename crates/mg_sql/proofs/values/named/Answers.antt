use Rattle.std.proofs.Common.{subst, sym}
use Rattle.mg_value.specs.Names.{IsName}
use Rattle.mg_sql.proofs.Names.{is_name, named}
use Rattle.mg_sql.proofs.values.named.Goals as goal

pub returns : goal.returns
returns c = named c.new.result c.args.folded.now _ c.new.ensures.named c.new.ensures.bytes
    (subst (λ xs. IsName xs) (sym c.requires.folded) (is_name c.args.word.now c.requires.word c.requires.short)) c.requires.folded
