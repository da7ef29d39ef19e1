use Rattle.std.proofs.Common.{arith, refl, rules}
use Rattle.std.proofs.lemmas.List.{places, with_items_is}
use Rattle.pf_stream.proofs.DialogueLemmas.Pieces.{heard_more}
use Rattle.pf_stream.proofs.dialogue.ahead.Ahead.hear.Goals as goal

pub returns-clause-ok : goal.returns-clause-ok
returns-clause-ok g c =
    heard_more g.D.Dialogue.hears c.args.dialogue.now c.args.self.now _ c.hear.new.buf c.in-Ok.came c.hear.new.self c.requires.is c.if-self.false refl refl refl
    (with_items_is c.args.self.now.piece c.hear.new.buf (search (rules, places))) (omega (arith, c.deref_mut.ensures.len, c.hear.auto.buf))
    c.in-Ok.ensures.bound c.in-Ok.ensures.ok
