-- By the answers, one after the other.
use Rattle.std.proofs.Common.{refl}
use Rattle.core_calls.proofs.Accepting.{answer_accepts, shown_accepts}
use Rattle.core_calls.proofs.replies.replies_begin_with_ok.Goals as goal

pub returns-clause-answer : goal.returns-clause-answer
returns-clause-answer c = answer_accepts

pub returns-clause-shown : goal.returns-clause-shown
returns-clause-shown c = shown_accepts

pub returns-clause-refused : goal.returns-clause-refused
returns-clause-refused c = λ r. refl

pub returns-clause-memory : goal.returns-clause-memory
returns-clause-memory c = refl
