use Rattle.jr_docs_read.proofs.Same.{told}
use Rattle.jr_docs_read.proofs.reading.is_json_of.Goals as goal

pub returns : goal.returns
returns c = told _ _ _ c.args.document.now _ _ c.is_same_text.ensures c.in_ok-printed.ensures c.in_ok-line.ensures.text c.in_ok-line.ensures.order c.in_ok-line.ensures.reads_back
    c.in_ok-text.ensures.text c.in_ok-text.ensures.order c.in_ok-text.ensures.reads_back
