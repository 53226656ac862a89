-- What a script means, and what an input that is none is answered with.
use Rattle.std.specs.Prelude.{◌≡◌, ◌⊎◌, ℕ, Bool, true, ◌&&◌, List, [], ◌∷◌, Option, Some, None, Result, Ok, Err, codes, is_some, length, nat_le, IsUtf8}
use Rattle.std.specs.Str.{bytes_eq}
use Rattle.std.specs.List.{list_any}
use Rattle.serde_json.specs.Data.{Data, Items, Members, array, object, no_members, member}
use Rattle.serde_json.specs.Find.{get}
use Rattle.serde_json.specs.Events.{items_len}
use Rattle.serde_json.specs.Read.{read}
use Rattle.jcr_trans.specs.declared.command.Command.{Command}
use Rattle.jr_args.specs.declared.fault.Step.TheVariants.{Key}
use Rattle.jr_args.specs.Commands.{command_of}
use Rattle.jr_args.specs.Outcomes.{Means, Breaks, Reading, guard, is, judged, Then, under}
use Rattle.jr_args.specs.Pointers.{pointer_text}
use Rattle.jr_args.specs.Trees.{list_of, optional_of}
use Rattle.jr_builtin.specs.Builtin.{builtin}
use Rattle.jr_types.specs.declared.TypeDef.{TypeDef}
use Rattle.jr_script.specs.Numbers.{IsNumberJson}
use Rattle.jr_script.specs.Schedules.{entry_of}
use Rattle.jr_script.specs.Types.{Types, types_read}
use Rattle.jr_script.specs.declared.reading.Turns.{Turns}
use Rattle.jr_script.specs.declared.script.Entry.{Entry}
use Rattle.jr_script.specs.declared.script.TextFault.{TextFault}
use Rattle.jr_script.specs.declared.script.Script.{Script}
use Rattle.jcr_trans.specs.declared.command.SessionScript.{SessionScript}
use Rattle.jr_script.specs.declared.script.ScriptFault.{ScriptFault}
use Rattle.jr_script.specs.declared.script.ScriptFault.TheVariants as fault

-- the bytes are this JSON
abbrev pub IsJson : List ℕ → Data → Type 0
IsJson bytes d = IsUtf8 bytes × (read bytes ≡ Some d)

-- each key is one of these
abbrev pub are_keys : List (List ℕ) → Members → Bool
are_keys keys no_members = true
are_keys keys (member key d ms) = list_any (λ k. bytes_eq key k) keys && are_keys keys ms

-- a member that must be there, else this rule is broken
abbrev pub member_of : {X : Type 0} → List ℕ → ℕ → (Data → Reading X) → Option Data → Reading X
member_of key rule M None = is (Breaks rule [])
member_of key rule M (Some d) = under (Key key) (M d)

-- a list of at most so many items, each of them read, else this rule is broken
abbrev pub counted_of : {X : Type 0} → ℕ → ℕ → (Data → Reading X) → Items → Reading (List X)
counted_of most rule M ds = Then (guard (nat_le (items_len ds) most) rule) (λ _. list_of M 0 ds)

-- a list of at most so many items, each of them read; a longer one, or no list, breaks the rule
abbrev pub few_of : {X : Type 0} → ℕ → ℕ → (Data → Reading X) → Data → Reading (List X)
few_of most rule M (array ds) = counted_of most rule M ds
few_of most rule M _ = is (Breaks rule [])

-- ---- cluster nodes: rule 3

-- one to eight
abbrev pub clusters_of : Data → Reading ℕ
clusters_of d = judged (IsNumberJson 1 8 d) 3

-- ---- sessions: rule 4

-- one of the cluster nodes
abbrev pub cluster_of : ℕ → Data → Reading ℕ
cluster_of clusters d = judged (IsNumberJson 1 clusters d) 4

-- the commands of a session, at most 10000; more of them, or no list, breaks rule 4
abbrev pub read_commands : Data → Reading (List Command)
read_commands d = few_of 10000 4 command_of d

-- the cluster node, which is the first where none is named, and the commands
abbrev pub session_in : ℕ → Data → Reading SessionScript
session_in clusters d =
    Then (optional_of (codes "cluster") 1 (cluster_of clusters) (get (codes "cluster") d)) (λ cluster.
    Then (member_of (codes "commands") 4 read_commands (get (codes "commands") d)) (λ commands.
    is (Means (record { cluster = cluster; commands = commands }))))

-- an object with no other keys than `cluster` and `commands`
abbrev pub session_of : ℕ → Data → Reading SessionScript
session_of clusters (object ms) = Then (guard (are_keys (codes "cluster" ∷ codes "commands" ∷ []) ms) 4) (λ _. session_in clusters (object ms))
session_of clusters _ = is (Breaks 4 [])

-- the sessions on so many cluster nodes, at most 64; more of them, or no list, breaks rule 4
abbrev pub sessions_of : ℕ → Data → Reading (List SessionScript)
sessions_of clusters d = few_of 64 4 (session_of clusters) d

-- ---- the schedule: rule 8

-- a schedule of so many sessions, at most 1000000 entries; more of them, or no list, breaks rule 8
abbrev pub schedule_of : ℕ → Data → Reading (List Entry)
schedule_of sessions d = few_of 1000000 8 (entry_of sessions) d

-- ---- the whole: rule 2

-- sessions, and a schedule, which may be left out
abbrev pub turns_in : ℕ → Data → Reading Turns
turns_in clusters d =
    Then (member_of (codes "sessions") 2 (sessions_of clusters) (get (codes "sessions") d)) (λ sessions.
    Then (optional_of (codes "schedule") [] (schedule_of (length sessions)) (get (codes "schedule") d)) (λ schedule.
    is (Means (record { sessions = sessions; schedule = schedule }))))

-- a script on so many cluster nodes, of these types
abbrev pub script_over : Data → ℕ → List TypeDef → Reading (Result Script TextFault)
script_over d clusters types =
    Then (turns_in clusters d) (λ turns.
    is (Means (Ok (record {
      clusters = clusters;
      types = types;
      sessions = turns.sessions;
      schedule = turns.schedule;
    }))))

-- what follows types; where their text has none, nothing does
abbrev pub where_read : (List TypeDef → Reading (Result Script TextFault)) → Types
    → Reading (Result Script TextFault)
where_read M (Ok types) = M types
where_read M (Err fault) = is (Means (Err fault))

-- cluster nodes, of which there is one where none are named, types, which are the built-in ones
-- where none are given, sessions, and a schedule
abbrev pub script_in : Data → Reading (Result Script TextFault)
script_in d =
    Then (optional_of (codes "clusters") 1 clusters_of (get (codes "clusters") d)) (λ clusters.
    Then (optional_of (codes "types") (Ok builtin) types_read (get (codes "types") d)) (λ types.
    where_read (script_over d clusters) types))

-- an object with no other keys than these, of which `sessions` is there
abbrev pub script_of : Data → Reading (Result Script TextFault)
script_of (object ms) =
    Then (guard (are_keys (codes "clusters" ∷ codes "types" ∷ codes "sessions" ∷ codes "schedule" ∷ []) ms) 2) (λ _.
    Then (guard (is_some (get (codes "sessions") (object ms))) 2) (λ _. script_in (object ms)))
script_of _ = is (Breaks 2 [])

-- the JSON means this script
abbrev pub IsScript : Data → Script → Type 0
IsScript d s = script_of d (Means (Ok s))

-- there is no JSON: rule 1, and the empty pointer
abbrev pub IsNoJson : List ℕ → ℕ → List ℕ → Type 0
IsNoJson bytes rule pointer = (rule ≡ 1) × (pointer ≡ []) × ((d : Data) → IsJson bytes d → ⊥)

-- the JSON breaks the rule at the place to which the pointer leads
abbrev pub IsBroken : List ℕ → ℕ → List ℕ → Type 0
IsBroken bytes rule pointer = (d : Data) × (steps : _) × IsJson bytes d × script_of d (Breaks rule steps) × (pointer ≡ pointer_text steps)

-- the text of types in the JSON fails at the offset: rule 10
abbrev pub IsBadText : List ℕ → ℕ → List ℕ → ℕ → Type 0
IsBadText bytes rule pointer offset = (rule ≡ 10) × (pointer ≡ codes "/types")
    × ((d : Data) × IsJson bytes d × script_of d (Means (Err (record { offset = offset }))))

-- why the bytes are no script, with an offset where a text in it fails; or memory was refused
abbrev pub IsFault : List ℕ → ScriptFault → Type 0
IsFault bytes (fault.Bad rule pointer None) =
    IsNoJson bytes rule pointer ⊎ IsBroken bytes rule pointer
IsFault bytes (fault.Bad rule pointer (Some offset)) = IsBadText bytes rule pointer offset
IsFault bytes fault.Memory = Unit {0}
