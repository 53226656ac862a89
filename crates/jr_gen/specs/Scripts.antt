-- The script that is made from a seed, for m sessions: its JSON and its text.
use Rattle.std.specs.Prelude.{◌≡◌, ◌<◌, ℕ, zero, suc, ◌+◌, ◌*◌, ◌%◌, min, false, List, [], ◌∷◌, ◌++◌, codes, decimal}
use Rattle.serde_json.specs.Data.{Data, boolean, number, string, array, object, unsigned, no_members, member}
use Rattle.serde_json.specs.View.{items_of}
use Rattle.serde_json.specs.Written.{compact_text}
use Rattle.jr_gen.specs.declared.rounds.Round.{Round}
use Rattle.jr_gen.specs.declared.rounds.Round.TheVariants as round
use Rattle.jr_gen.specs.Draws.{draw, next}
use Rattle.jr_gen.specs.Rounds.{round_at, after_round, after_rounds}

-- the node of session s
abbrev pub session_node : ℕ → List ℕ
session_node s = codes "/g" ++ decimal s

-- the name of property i of a session's node
abbrev pub property_name : ℕ → List ℕ
property_name i = codes "p" ++ decimal i

-- the path of property i of the node of session s
abbrev pub property_path : ℕ → ℕ → List ℕ
property_path s i = session_node s ++ (codes "/" ++ property_name i)

-- a list of JSON values
abbrev pub json_list : List Data → Data
json_list ds = array (items_of ds)

-- a command: its name, and its arguments
abbrev pub command : List ℕ → List Data → Data
command name arguments = json_list (string name ∷ arguments)

-- the command of a round of session s
abbrev pub round_command : ℕ → Round → Data
round_command s (round.Set i w) =
    command (codes "set") (string (session_node s) ∷ string (property_name i) ∷ number (unsigned w) ∷ [])
round_command s round.Save = command (codes "save") []
round_command s (round.Get j i) = command (codes "get") (string (property_path j i) ∷ [])
round_command s round.Refresh = command (codes "refresh") (boolean false ∷ [])

-- the commands of k rounds of session s, from state x on
unfoldable pub rounds_data : (k : ℕ) → (s : ℕ) → (m : ℕ) → ℕ → List Data
rounds_data zero s m x = []
rounds_data (suc k) s m x = round_command s (round_at m x) ∷ rounds_data k s m (after_round x)

-- a session begins: it adds its node and saves it
abbrev pub session_beginning : ℕ → List Data
session_beginning s = command (codes "add") (string (session_node s) ∷ []) ∷ command (codes "save") [] ∷ []

-- a session ends: the background work of its cluster node
abbrev pub ending : List Data
ending = command (codes "backWrite") [] ∷ command (codes "backRead") [] ∷ []

-- the commands of session s: a hundred rounds in between
abbrev pub commands_data : (s : ℕ) → (m : ℕ) → ℕ → List Data
commands_data s m x = session_beginning s ++ rounds_data 100 s m x ++ ending

-- session s; the two clusters take turns
abbrev pub session_data : (s : ℕ) → (m : ℕ) → ℕ → Data
session_data s m x = object
    (member (codes "cluster") (number (unsigned (1 + s % 2)))
    (member (codes "commands") (json_list (commands_data s m x)) no_members))

-- k sessions from session s on, which begin at state x
unfoldable pub sessions_data : (k : ℕ) → (s : ℕ) → (m : ℕ) → ℕ → List Data
sessions_data zero s m x = []
sessions_data (suc k) s m x = session_data s m x ∷ sessions_data k (s + 1) m (after_rounds 100 x)

-- a schedule of k turns: each is that of a session that is drawn
unfoldable pub turns_data : (k : ℕ) → (m : ℕ) → ℕ → List Data
turns_data zero m x = []
turns_data (suc k) m x = number (unsigned (draw 1 m x)) ∷ turns_data k m (next x)

-- a turn of one of m sessions
abbrev pub IsTurn : (m : ℕ) → Data → Type 0
IsTurn m d = (s : ℕ) × (s < m) × (d ≡ number (unsigned s))

-- the script: all draws of the sessions come before those of the schedule
abbrev pub script_data : (seed : ℕ) → (m : ℕ) → Data
script_data seed m = object
    (member (codes "clusters") (number (unsigned (min m 2)))
    (member (codes "schedule") (json_list (turns_data (100 * m) m (after_rounds (100 * m) seed)))
    (member (codes "sessions") (json_list (sessions_data m 0 m seed)) no_members)))

-- compact JSON and a line end
abbrev pub script_text : (seed : ℕ) → (m : ℕ) → List ℕ
script_text seed m = compact_text (script_data seed m) ++ 10 ∷ []
