use Rattle.std.proofs.Common.{ap, sym, ◌∙◌}
use Rattle.jr_docs.specs.Documents.{document_data}
use Rattle.jr_docs_read.proofs.Printed.{same_data_printed}
use Rattle.jr_docs_read.proofs.Stored.{plain_told}
use Rattle.jr_docs_read.proofs.reading.read_document.Goals as goal

-- what is read has the JSON that was read, so it isn't refused
pub returns-else-branch-clause-complete : goal.returns-else-branch-clause-complete
returns-else-branch-clause-complete c d h json =
    let found = c.in_ok-document.ensures.complete d h json in
    let is = c.in_ok-is_json_of.ensures.1 (ap document_data found ∙ (same_data_printed d ∙ json)) in
    let other = c.if-branch.false in
    cc

-- what is read is read again as itself, since its own JSON was read
pub returns-then-branch-clause-storable : goal.returns-then-branch-clause-storable
returns-then-branch-clause-storable c = c.in_ok-document.ensures.storable

pub returns-then-branch-clause-told : goal.returns-then-branch-clause-told
returns-then-branch-clause-told c = sym (c.in_ok-document.ensures.complete _ c.in_ok-document.ensures.storable (c.in_ok-is_json_of.ensures.0 c.if-branch.true))

pub returns-then-branch-clause-plain : goal.returns-then-branch-clause-plain
returns-then-branch-clause-plain c = plain_told _ (sym (c.in_ok-document.ensures.complete _ c.in_ok-document.ensures.storable (c.in_ok-is_json_of.ensures.0 c.if-branch.true)))
