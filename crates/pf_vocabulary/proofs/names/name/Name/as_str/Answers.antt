use Rattle.std.proofs.Common.{rules}
use Rattle.pf_vocabulary.proofs.NamesLemmas.Texts.{is_utf8}
use Rattle.pf_vocabulary.proofs.names.name.Name.as_str.Goals as goal

pub returns : goal.returns
returns c = search (rules, is_utf8 c.as_bytes.result.now c.as_bytes.ensures.text)
