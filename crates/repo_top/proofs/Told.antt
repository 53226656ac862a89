-- The reply lines of a journal are those of the history that it tells.
use Rattle.std.proofs.Common.{◌≡◌, ◌∙◌, List, length, reverse, sym, ap, subst}
use Rattle.std.specs.List.{flat_map, range_with_len}
use Rattle.std.proofs.lemmas.List.{reverse-reverse}
use Rattle.oak_machine.specs.declared.event.Event.{Event}
use Rattle.oak_machine.specs.declared.event.Journal.{Journal}
use Rattle.oak_machine.specs.History.{History, history_of}
use Rattle.jr_print.specs.Replies.{lines_of, reply_text}
use Rattle.repo_top.specs.Headline.{replies_of}

pub replies_told : (j : Journal) (h : History) → history_of j ≡ h → reply_text j ≡ replies_of h
replies_told j h is = subst (λ (x : History). reply_text j ≡ replies_of x) is (ap (λ (l : List Event). flat_map (lines_of l) (range_with_len 0 (length j.sessions))) (sym (reverse-reverse j.events.list)))

-- the events that a history tells are those of its journal
pub events_told : (j : Journal) (h : History) → history_of j ≡ h → j.events.list ≡ reverse h.past
events_told j h is = sym (reverse-reverse j.events.list) ∙ ap (λ (x : History). reverse x.past) is
