-- The entries of a schedule.
use Rattle.std.specs.Prelude.{◌≡◌, ℕ, ◌<◌, ◌≤◌, List, codes}
use Rattle.serde_json.specs.Data.{Data, Items, array, string, no_items, item}
use Rattle.jr_args.specs.Outcomes.{Reading, judged}
use Rattle.jr_script.specs.Numbers.{whole}
use Rattle.jr_script.specs.declared.script.Entry.{Entry}
use Rattle.jr_script.specs.declared.script.Entry.TheVariants as entry

-- the session whose turns an entry names
abbrev pub session_named : Entry → ℕ
session_named (entry.Turn s) = s
session_named (entry.Say s n) = s
session_named (entry.Draw s) = s
session_named (entry.Write s n) = s
session_named (entry.Last s) = s
session_named (entry.Read s) = s

-- the count that an entry has; one where it has none
abbrev pub count_of : Entry → ℕ
count_of (entry.Say s n) = n
count_of (entry.Write s n) = n
count_of e = 1

-- a list of a session's number, a word, and what stands behind
abbrev pub entry_list : ℕ → List ℕ → Items → Data
entry_list s word more = array (item (whole s) (item (string word) more))

-- the JSON of an entry
abbrev pub json_of : Entry → Data
json_of (entry.Turn s) = whole s
json_of (entry.Say s n) = entry_list s (codes "say") (item (whole n) no_items)
json_of (entry.Draw s) = entry_list s (codes "draw") no_items
json_of (entry.Write s n) = entry_list s (codes "write") (item (whole n) no_items)
json_of (entry.Last s) = entry_list s (codes "last") no_items
json_of (entry.Read s) = entry_list s (codes "read") no_items

-- an entry for one of so many sessions, with a count from 1 to 1,000,000
pub record IsEntryWithin (sessions : ℕ) (e : Entry) : Type 0 where
  pub named : session_named e < sessions
  pub some : 1 ≤ count_of e
  pub few : count_of e ≤ 1000000

-- the JSON is this entry
abbrev pub IsEntry : ℕ → Data → Entry → Type 0
IsEntry sessions d e = (d ≡ json_of e) × IsEntryWithin sessions e

-- an entry, else rule 8
abbrev pub entry_of : ℕ → Data → Reading Entry
entry_of sessions d = judged (IsEntry sessions d) 8
