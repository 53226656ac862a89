-- The machine, and what the law owes.
use Rattle.std.proofs.Common.{◌↔◌}
use Rattle.oak_machine.specs.declared.event.Event.{Event}
use Rattle.oak_machine.specs.declared.event.Event.TheVariants as event
use Rattle.oak_machine.specs.History.{History}
use Rattle.oak_machine.specs.Laws.{Starts, Says}
use Rattle.oak_machine.specs.Runs.{IsLawful, MayFollow, any_said, any_start}

pub law_apart : (starts : Starts) (says : Says) (h : History) (e : Event) → MayFollow starts says h e ↔ (MayFollow any_start any_said h e × IsLawful starts says h e)
law_apart starts says h (event.Draw d) = (
  λ m. (record { running = m.running; login = m.login; detached = m.detached; idle = m.idle; base = m.base; cluster = m.cluster; next = m.next; lawful = tt }, m.lawful),
  λ p. record { running = p.0.running; login = p.0.login; detached = p.0.detached; idle = p.0.idle; base = p.0.base; cluster = p.0.cluster; next = p.0.next; lawful = p.1 },
)
law_apart starts says h (event.Said s i text) = (λ m. ((m.0, tt), m.1), λ p. (p.0.0, p.1))
law_apart starts says h e = (λ m. (m, tt), λ p. p.0)
