use Rattle.std.proofs.Common.{sym}
use Rattle.jcr_trans.proofs.Plain.{revision_answer}
use Rattle.jcr_trans.proofs.texts.revision_reply.Goals as goal

pub returns : goal.returns
returns c =
    rw (c.push_str-3.ensures.bytes, c.push_str-2.ensures.bytes, c.as_str.ensures.value, c.revision_text-shown.ensures.bytes, c.push_str.ensures.bytes, c.new-text.ensures) (sym (revision_answer c.args.revision.now c.revision_text-shown.ensures.fields))
