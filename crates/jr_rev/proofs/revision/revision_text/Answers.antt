use Rattle.std.proofs.Common.{rules}
use Rattle.jr_rev.proofs.Hexadecimal.{revision_text_is}
use Rattle.jr_rev.proofs.revision.revision_text.Goals as goal

pub returns-clause-read : goal.returns-clause-read
returns-clause-read c = revision_text_is c.args.revision.now (search rules)
