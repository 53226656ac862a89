-- A history that is cut by a schedule.
use Rattle.std.specs.Prelude.{◌≡◌, List, [], ◌++◌, length, map, reverse}
use Rattle.std.specs.List.{range_with_len}
use Rattle.oak_machine.specs.History.{History}
use Rattle.jr_script.specs.declared.script.Script.{Script}
use Rattle.jr_stage.specs.Places.{flying_sessions}
use Rattle.jr_stage.specs.Parts.{Rule, by_entry, to_reply, to_end, Part, events_of, IsCut}

-- what parts are for, in the order of the history
abbrev pub rules_of : List Part → List Rule
rules_of parts = map (λ p. p.rule) (reverse parts)

-- the history is cut into a part for each entry of the schedule, then one for each commit then in
-- flight, then one for each session; the parts newest first
pub record Scheduled (script : Script) (h : History) : Type 0 where
  pub scheduled : List Part
  pub replied : List Part
  pub closed : List Part
  pub whole : events_of (closed ++ replied ++ scheduled) ≡ h.past
  pub cut : IsCut script (closed ++ replied ++ scheduled) []
  pub entries : rules_of scheduled ≡ map by_entry script.schedule
  pub commits : rules_of replied ≡ map to_reply (flying_sessions (events_of scheduled))
  pub sessions : rules_of closed ≡ map to_end (range_with_len 0 (length script.sessions))
