-- Whether how a split or a collection has ended may be told, by the events so far.
use Rattle.std.specs.Prelude.{ℕ, Bool, true, false, ◌&&◌, ◌==◌}
use Rattle.std.specs.List.{list_all, list_any}
use Rattle.oak_machine.specs.declared.event.Event.{Event}
use Rattle.oak_machine.specs.declared.event.Event.TheVariants as event
use Rattle.oak_machine.specs.History.{Past}
use Rattle.oak_machine.specs.Runs.{is_bound, is_skip, is_split_end}
use Rattle.oak_machine.specs.Sessions.{has_login, since}
use Rattle.oak_step.specs.declared.work.Work.{Work}
use Rattle.oak_step.specs.declared.work.Work.TheVariants as work

-- the event is how a split or a collection of session s ended, and it may follow these
abbrev pub may_end : Past → ℕ → Event → Bool
may_end past s (event.Split t path e) = (t == s) && (has_login past t && is_split_end e)
may_end past s (event.Collected t c) =
    (t == s) && (has_login past t && (list_any is_bound (since past t)
    && list_all (λ skip. is_skip skip.1 skip.2) c.skipped))
may_end past s _ = false

-- how a task of session s has ended, where that is to be told, may follow these
abbrev pub may_tell : Past → ℕ → Work → Bool
may_tell past s (work.Told e) = may_end past s e
may_tell past s _ = true
