-- The text of a vector is ASCII, so it is UTF-8.
use Rattle.std.proofs.Common.{List, ◌++◌, ap, ◌∙◌}
use Rattle.jr_rev.specs.Texts.{vector_text}
use Rattle.jcr_trans.proofs.Ascii.{vector_utf8}
use Rattle.jr_docs.proofs.forms.vector_text.Goals as goal

pub unwrap-requires : goal.unwrap-requires
unwrap-requires c = c.from_utf8.ensures.succeeds (vector_utf8 _ _ (c.in_ok-put_text.ensures.ok ∙ ap (λ (old : List _). old ++ vector_text c.args.vector.now) c.new-bytes.ensures.items) c.in_ok-put_text.ensures.text)
