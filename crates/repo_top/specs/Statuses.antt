-- The statuses: their numbers, their lines, and what each is the answer to.
use Rattle.std.specs.Prelude.{ℕ, List, [], ◌++◌, Option, Some, None, codes}
use Rattle.std.specs.Fmt.{decimal}
use Rattle.serde_json.specs.Data.{string}
use Rattle.serde_json.specs.Written.{compact_text}
use Rattle.jr_io.specs.declared.whole.ReadAll.{ReadAll}
use Rattle.jr_io.specs.declared.whole.ReadAll.TheVariants as read
use Rattle.jr_script.specs.declared.script.ScriptFault.{ScriptFault}
use Rattle.jr_script.specs.declared.script.ScriptFault.TheVariants as fault
use Rattle.repo_top.specs.declared.status.Status.{Status}
use Rattle.repo_top.specs.declared.status.Status.TheVariants as status
use Rattle.repo_top.specs.declared.status.Unrun.{Unrun}
use Rattle.repo_top.specs.declared.status.Unrun.TheVariants as unrun

-- the exit status
abbrev pub code_of : Status → ℕ
code_of status.Done = 0
code_of status.Words = 1
code_of status.Script = 2
code_of status.ReadFault = 3
code_of status.WriteFault = 4
code_of status.Memory = 5
code_of status.TooLong = 6

-- a space and the offset, where there is one
abbrev pub offset_text : Option ℕ → List ℕ
offset_text None = []
offset_text (Some offset) = codes " " ++ decimal offset

-- the line of a broken script: the rule, the pointer as JSON text, and the offset where there is
-- one
abbrev pub script_line : ℕ → List ℕ → Option ℕ → List ℕ
script_line rule pointer offset =
    codes "bad script " ++ decimal rule ++ codes " " ++ compact_text (string pointer)
    ++ offset_text offset ++ codes "\n"

-- the line of a text of node types that has a fault at the offset
abbrev pub types_line : ℕ → List ℕ
types_line offset = codes "bad types " ++ decimal offset ++ codes "\n"

-- the line that is written where no script is run, and no node types are printed; none where memory
-- was refused
abbrev pub fault_line : Unrun → List ℕ
fault_line unrun.Words = codes "bad words\n"
fault_line (unrun.Script rule pointer offset) = script_line rule pointer offset
fault_line (unrun.Types offset) = types_line offset
fault_line unrun.ReadFault = codes "read fault\n"
fault_line unrun.TooLong = codes "too long\n"
fault_line unrun.Memory = []

-- the status where no script is run, and no node types are printed
abbrev pub status_of : Unrun → Status
status_of unrun.Words = status.Words
status_of (unrun.Script rule pointer offset) = status.Script
status_of (unrun.Types offset) = status.Script
status_of unrun.ReadFault = status.ReadFault
status_of unrun.TooLong = status.TooLong
status_of unrun.Memory = status.Memory

-- why no script is run where not all of the source was read
abbrev pub unread_source : ReadAll → Unrun
unread_source read.ReadFault = unrun.ReadFault
unread_source read.TooLong = unrun.TooLong
unread_source read.Memory = unrun.Memory

-- why no script is run where the bytes aren't read as one
abbrev pub unscripted : ScriptFault → Unrun
unscripted (fault.Bad rule pointer offset) = unrun.Script rule pointer offset
unscripted fault.Memory = unrun.Memory
