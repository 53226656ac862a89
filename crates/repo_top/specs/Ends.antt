-- How a call ends: what was read, what was written, and why.
use Rattle.std.specs.Prelude.{◌≡◌, ◌⊎◌, ℕ, ◌≤◌, ◌<◌, ◌+◌, Bool, true, false, List, Option, None, Some, length, IfSome, ⊤}
use Rattle.serde_json.specs.Data.{Data}
use Rattle.jr_io.specs.Causes.{Rose, RoseBy, RoseExactly}
use Rattle.jr_io.specs.Told.{TakesFirst, IsDrained, IsPassedOn}
use Rattle.jr_io.specs.declared.ends.Sink.{Ghosts as SinkMembers}
use Rattle.jr_io.specs.declared.ends.Source.{Ghosts as SourceMembers}
use Rattle.jr_cnd.specs.declared.cnd.Cnd.{Cnd}
use Rattle.jr_script.specs.declared.script.Script.{Script}
use Rattle.jr_script.specs.Scripts.{IsFault as IsBadScript, IsJson, IsScript}
use Rattle.jr_script.specs.declared.script.ScriptFault.TheVariants as bad
use Rattle.repo_top.specs.declared.status.Status.{Status}
use Rattle.repo_top.specs.declared.status.Status.TheVariants as status
use Rattle.jcr_law.specs.declared.law.JcrLaw.{JcrLaw}
use Rattle.oak_world.specs.Worlds.{WorldOf, live}
use Rattle.jr_gen.specs.Scripts.{script_text}
use Rattle.jr_work.specs.Runs.{HasRun}
use Rattle.jr_work.specs.Workers.{HasRunByWorkers}
use Rattle.repo_top.specs.Headline.{printed_of}
use Rattle.repo_top.specs.Statuses.{fault_line, script_line, status_of, types_line}
use Rattle.repo_top.specs.Summary.{summary_text}
use Rattle.repo_top.specs.Typed.{Defines, FaultsAt, IsCanonical}
use Rattle.repo_top.specs.declared.status.Unrun.{Unrun}
use Rattle.repo_top.specs.declared.status.Unrun.TheVariants as unrun
use Rattle.repo_top.specs.Words.{WordsMean}
use Rattle.repo_top.specs.declared.words.Words.{Words}
use Rattle.repo_top.specs.declared.words.Words.TheVariants.{Gen, Run, Steps, Types}

-- the greatest number of bytes of an input: 16 MiB
abbrev pub longest : ℕ
longest = 16777216

-- the bytes are the JSON of this script
abbrev pub SpellsScript : List ℕ → Script → Type 0
SpellsScript bytes script = (d : Data) × IsJson bytes d × IsScript d script

-- the bytes break a rule of scripts, at the place of a pointer, and at an offset of a text there
abbrev pub BreaksRule : List ℕ → ℕ → List ℕ → Option ℕ → Type 0
BreaksRule bytes rule pointer offset = IsBadScript bytes (bad.Bad rule pointer offset)

-- ---- a call

-- what a source tells: the bytes that are left, how many it gave, and how often it failed
pub record Input : Type 0 where
  pub left : Option (List ℕ)
  pub given : ℕ
  pub faults : ℕ

-- what a source of this type tells, by the members of its trait
abbrev pub input_of : {S : Type 0} → SourceMembers S → S → Input
input_of S source = record {
  left = S.left source;
  given = S.given source;
  faults = S.fault_count source;
}

-- what a sink tells: the bytes that were written, how many of them were passed on, and how often it
-- failed
pub record Output : Type 0 where
  pub written : Option (List ℕ)
  pub passed : Option ℕ
  pub faults : ℕ

-- what a sink of this type tells, by the members of its trait
abbrev pub output_of : {K : Type 0} → SinkMembers K → K → Output
output_of K sink = record {
  written = K.written sink;
  passed = K.passed sink;
  faults = K.fault_count sink;
}

-- what a call does: the source and the sink before it and after it, and the world that it leaves
pub record Effect : Type 0 where
  pub source : Input
  pub source_now : Input
  pub sink : Output
  pub sink_now : Output
  pub left : Option (WorldOf JcrLaw)

-- what a call does: what it reads and writes, and the world that it leaves, if it leaves one
abbrev pub effect : Input → Input → Output → Output → Option (WorldOf JcrLaw) → Effect
effect source source_now sink sink_now left = record {
  source = source;
  source_now = source_now;
  sink = sink;
  sink_now = sink_now;
  left = left;
}

-- a call: whether it may run worker threads, its words, and what it does
pub record Invocation : Type 0 where
  pub threads : Bool
  pub words : List (List ℕ)
  pub does : Effect

-- a call of the program: with threads or without, its words, and what it does
abbrev pub call : Bool → List (List ℕ) → Effect → Invocation
call threads words does = record { threads = threads; words = words; does = does }

-- a call that may run no threads takes all that words may mean but `run`
abbrev pub IsTaken : Bool → Words → Type 0
IsTaken false (Run workers documents) = ⊥
IsTaken threads meaning = ⊤

-- the words of a call ask for what they mean, which the call takes
pub record AsksFor (c : Invocation) (meaning : Words) : Type 0 where
  pub meant : WordsMean c.words meaning
  pub taken : IsTaken c.threads meaning

-- ---- reading

-- what is read from a source
pub data SourceKind : Type 0 where
  a_script : SourceKind
  a_type_text : SourceKind

-- what is read from the source; nothing where a script is made
abbrev pub source_kind : Words → Option SourceKind
source_kind (Steps documents) = Some a_script
source_kind Types = Some a_type_text
source_kind (Run workers documents) = Some a_script
source_kind (Gen seed sessions runs) = None

-- a source didn't fail: its count of faults stands
abbrev pub HasNotFailed : Input → Input → Type 0
HasNotFailed before now = now.faults ≡ before.faults

-- a source that didn't fail was read to its end, and these are all of its bytes
pub record IsReadWhole (before now : Input) (bytes : List ℕ) : Type 0 where
  pub all : IfSome before.left (λ left. bytes ≡ left)
  pub end : IsDrained before.left now.left
  pub count : RoseExactly (length bytes) before.given now.given
  pub short : length bytes ≤ longest
  pub sound : HasNotFailed before now

-- a source was read to its end, and its bytes are this script
abbrev pub IsInputRead : Input → Input → Script → Type 0
IsInputRead before now script =
    (bytes : List ℕ) × IsReadWhole before now bytes × SpellsScript bytes script

-- the bytes have the fault: they break a rule of scripts, or are no text of node types
abbrev pub HasFault : SourceKind → List ℕ → Unrun → Type 0
HasFault a_script bytes (unrun.Script rule pointer offset) = BreaksRule bytes rule pointer offset
HasFault a_type_text bytes (unrun.Types offset) = FaultsAt bytes offset
HasFault kind bytes why = ⊥

-- why bytes have no canonical text of node types: their fault; or memory was refused
abbrev pub IsUntyped : List ℕ → Unrun → Type 0
IsUntyped bytes unrun.Memory = ⊤
IsUntyped bytes why = HasFault a_type_text bytes why

-- why what is read didn't come of the source: its count of faults rose, it gave too many bytes,
-- these have a fault, or memory was refused and it didn't fail
abbrev pub IsUnread : SourceKind → Input → Input → Unrun → Type 0
IsUnread kind before now unrun.ReadFault = Rose before.faults now.faults
IsUnread kind before now unrun.TooLong =
    RoseBy (longest + 1) before.given now.given
    × IfSome before.left (λ left. longest < length left)
IsUnread kind before now unrun.Memory = HasNotFailed before now
IsUnread kind before now why =
    (bytes : List ℕ) × IsReadWhole before now bytes × HasFault kind bytes why

-- why what is meant didn't come to be; where the source isn't read it is as it was, and memory was
-- refused
abbrev pub IsMissing : Option SourceKind → Input → Input → Unrun → Type 0
IsMissing (Some kind) before now why = IsUnread kind before now why
IsMissing None before now unrun.Memory = now ≡ before
IsMissing None before now why = ⊥

-- the script that is run: the source was read whole, and its bytes are the script; or the script is
-- made, and the source is as it was
abbrev pub IsScriptFor : Words → Effect → Script → Type 0
IsScriptFor (Gen seed sessions runs) e script =
    (e.source_now ≡ e.source) × SpellsScript (script_text seed sessions) script
IsScriptFor meaning e script = IsInputRead e.source e.source_now script

-- the text that is printed without a run: the canonical text of node types, of which the source was
-- read whole; or the text of a script that is made, and the source is as it was
abbrev pub IsTextFor : Words → Effect → List ℕ → Type 0
IsTextFor Types e text =
    (bytes : List ℕ) × IsReadWhole e.source e.source_now bytes × IsCanonical bytes text
IsTextFor (Gen seed sessions false) e text =
    (e.source_now ≡ e.source) × (text ≡ script_text seed sessions)
IsTextFor _ e text = ⊥

-- ---- running

-- the script was run to its end as is meant: by its schedule, or by workers
abbrev pub HasRunFor : Words → Script → WorldOf JcrLaw → Type 0
HasRunFor (Steps documents) script world = HasRun script world
HasRunFor (Run workers documents) script world = HasRunByWorkers script world
HasRunFor (Gen seed sessions true) script world = HasRun script world
HasRunFor _ script world = ⊥

-- the documents are asked for
abbrev pub has_documents : Words → Bool
has_documents (Steps documents) = documents
has_documents (Run workers documents) = documents
has_documents _ = false

-- what is written of a run: the replies of its history, and behind them the documents that it left
-- where these are asked for; or the one line that counts the replies
abbrev pub told_of : Words → Script → WorldOf JcrLaw → List ℕ
told_of (Gen seed sessions runs) script world = summary_text sessions script (live world.history)
told_of meaning script world = printed_of (has_documents meaning) world

-- ---- writing

-- some first bytes of a text were written, or all, and none of them was passed on by a flush that
-- succeeded
pub record GrowsUpTo (before now : Output) (text : List ℕ) : Type 0 where
  pub size : ℕ
  pub within : size ≤ length text
  pub part : TakesFirst before.written now.written text size
  pub held : now.passed ≡ before.passed

-- a text was written whole, and all that was written, before or now, was passed on
pub record IsDelivered (before now : Output) (text : List ℕ) : Type 0 where
  pub whole : TakesFirst before.written now.written text (length text)
  pub passed : IsPassedOn now.written now.passed

-- the whole text was written, all was passed on, and this status is answered; or else the sink
-- failed behind some first bytes
abbrev pub Delivers : Output → Output → List ℕ → Status → Status → Type 0
Delivers before now text answer result =
    ((result ≡ answer) × IsDelivered before now text)
    ⊎ ((result ≡ status.WriteFault) × Rose before.faults now.faults × GrowsUpTo before now text)

-- memory was refused, and the sink is as it was: nothing was written or passed on, and it didn't
-- fail
abbrev pub IsRefused : Output → Output → Status → Type 0
IsRefused before now result = (result ≡ status.Memory) × (now ≡ before)

-- the text is written; or memory was refused, and the sink is as it was
abbrev pub WritesText : Output → Output → List ℕ → Status → Type 0
WritesText before now text result =
    Delivers before now text status.Done result ⊎ IsRefused before now result

-- the line is written that says why no script is run and no text is printed; none where memory was
-- refused, which the line of a broken input takes too
abbrev pub Faults : Output → Output → Unrun → Status → Type 0
Faults before now unrun.Memory result = IsRefused before now result
Faults before now (unrun.Script rule pointer offset) result =
    Delivers before now (script_line rule pointer offset) status.Script result
    ⊎ IsRefused before now result
Faults before now (unrun.Types offset) result =
    Delivers before now (types_line offset) status.Script result ⊎ IsRefused before now result
Faults before now why result = Delivers before now (fault_line why) (status_of why) result

-- what is told of the world with which a run ended is written; or memory was refused, and the sink
-- is as it was
abbrev pub Prints : {L : Type 0} → (WorldOf L → List ℕ) → Option (WorldOf L) → Output → Output
    → Status → Type 0
Prints told None before now result = IsRefused before now result
Prints told (Some world) before now result = WritesText before now (told world) result

-- ---- what is done for each meaning

-- no script and no text came to be, and none is the world that is left; the line says why
pub record IsUnrun (meaning : Words) (e : Effect) (result : Status) : Type 0 where
  pub why : Unrun
  pub missing : IsMissing (source_kind meaning) e.source e.source_now why
  pub none : e.left ≡ None
  pub faults : Faults e.sink e.sink_now why result

-- there is a script; with a world that is left it was run to its end, and what is told of the run
-- is written
pub record RunsScript (meaning : Words) (e : Effect) (result : Status) : Type 0 where
  pub script : Script
  pub given : IsScriptFor meaning e script
  pub ran : IfSome e.left (HasRunFor meaning script)
  pub prints : Prints (told_of meaning script) e.left e.sink e.sink_now result

-- there is a text, and it is written; none is the world that is left
pub record IsPrinting (meaning : Words) (e : Effect) (result : Status) : Type 0 where
  pub text : List ℕ
  pub made : IsTextFor meaning e text
  pub none : e.left ≡ None
  pub tells : Delivers e.sink e.sink_now text status.Done result

-- what is done for a meaning
abbrev pub Does : Words → Effect → Status → Type 0
Does meaning e result =
    IsUnrun meaning e result ⊎ (RunsScript meaning e result ⊎ IsPrinting meaning e result)

-- ---- how a call ends

-- a script was run to its end: the words ask for it, it is the script that was read or made, and
-- this is the world that it left
pub record HasRunAll (c : Invocation) (world : WorldOf JcrLaw) : Type 0 where
  pub meaning : Words
  pub asked : AsksFor c meaning
  pub script : Script
  pub given : IsScriptFor meaning c.does script
  pub ran : HasRunFor meaning script world

-- what is written of a script that was run to its end
abbrev pub due_text : {c : Invocation} {world : WorldOf JcrLaw} → HasRunAll c world → List ℕ
due_text {c} {world} run = told_of run.meaning run.script world

-- a text is printed without a run: the words ask for it
pub record HasPrinted (c : Invocation) (text : List ℕ) : Type 0 where
  pub meaning : Words
  pub asked : AsksFor c meaning
  pub made : IsTextFor meaning c.does text

-- a line says so
abbrev pub HasLine : Unrun → Type 0
HasLine unrun.Memory = ⊥
HasLine _ = ⊤

-- why no script is run and no text is printed: the words ask for nothing; or they ask for something
-- that didn't come to be
abbrev pub IsCause : Invocation → Unrun → Type 0
IsCause c unrun.Words = (meaning : Words) → ¬ AsksFor c meaning
IsCause c why = (meaning : Words) × AsksFor c meaning
    × IsMissing (source_kind meaning) c.does.source c.does.source_now why

-- a script was run to its end, its world is left, and what is told of the run is written and passed
-- on
pub record IsScriptRun (c : Invocation) : Type 0 where
  pub world : WorldOf JcrLaw
  pub left : c.does.left ≡ Some world
  pub ran : HasRunAll c world
  pub told : IsDelivered c.does.sink c.does.sink_now (due_text ran)

-- no world is left, and a text is written and passed on
pub record IsPrinted (c : Invocation) : Type 0 where
  pub text : List ℕ
  pub unrun : c.does.left ≡ None
  pub printed : HasPrinted c text
  pub whole : IsDelivered c.does.sink c.does.sink_now text

-- what the words ask for is done
abbrev pub IsTaskDone : Invocation → Type 0
IsTaskDone c = IsScriptRun c ⊎ IsPrinted c

-- no script was run and no text was printed, for a cause that has this status, and its line is
-- written and passed on
pub record IsUnrunFault (c : Invocation) (s : Status) : Type 0 where
  pub why : Unrun
  pub status : s ≡ status_of why
  pub unrun : c.does.left ≡ None
  pub cause : IsCause c why
  pub line : IsDelivered c.does.sink c.does.sink_now (fault_line why)

-- what was written where no world is left before a sink failed: of the text that the words ask for,
-- or of the line that says why there is none and no script was run, which is so
abbrev pub IsCutText : Invocation → List ℕ → Type 0
IsCutText c text = HasPrinted c text
    ⊎ ((why : Unrun) × HasLine why × IsCause c why × (text ≡ fault_line why))

-- what was written before a sink failed: of what is told of the run whose world is left, or, where
-- none is left, of another text
abbrev pub IsPart : Invocation → Option (WorldOf JcrLaw) → Type 0
IsPart c (Some world) =
    (run : HasRunAll c world) × GrowsUpTo c.does.sink c.does.sink_now (due_text run)
IsPart c None =
    (text : List ℕ) × IsCutText c text × GrowsUpTo c.does.sink c.does.sink_now text

-- the sink failed
pub record IsWrittenInPart (c : Invocation) : Type 0 where
  pub fault : Rose c.does.sink.faults c.does.sink_now.faults
  pub part : IsPart c c.does.left

-- memory was refused, the sink is as it was, and the source didn't fail; a world that is left is
-- one with which a script was run to its end
pub record IsStopped (c : Invocation) : Type 0 where
  pub asked : (meaning : Words) × AsksFor c meaning
  pub ran : IfSome c.does.left (HasRunAll c)
  pub nothing : c.does.sink_now ≡ c.does.sink
  pub sound : HasNotFailed c.does.source c.does.source_now

-- what each status says of a call
abbrev pub EndsWith : Invocation → Status → Type 0
EndsWith c status.Done = IsTaskDone c
EndsWith c status.WriteFault = IsWrittenInPart c
EndsWith c status.Memory = IsStopped c
EndsWith c s = IsUnrunFault c s

-- ---- where nothing fails

-- the bytes are what is read: a script, or a text of node types
abbrev pub IsSourceText : SourceKind → List ℕ → Type 0
IsSourceText a_script bytes = (script : Script) × SpellsScript bytes script
IsSourceText a_type_text bytes = (cnd : Cnd) × Defines bytes cnd

-- the source tells its bytes, which aren't too many, and it doesn't fail
pub record TellsAll (before now : Input) (bytes : List ℕ) : Type 0 where
  pub tells : before.left ≡ Some bytes
  pub short : length bytes ≤ longest
  pub reads : Rose before.faults now.faults → ⊥

-- the status where bytes are read: done where they are what is asked for, and bad script where they
-- have a fault; or memory was refused
abbrev pub IsExpected : SourceKind → List ℕ → Status → Type 0
IsExpected kind bytes status.Done = IsSourceText kind bytes
IsExpected kind bytes status.Script = (why : Unrun) × HasFault kind bytes why
IsExpected kind bytes status.Memory = ⊤
IsExpected kind bytes _ = ⊥

-- the status where neither end fails; where nothing is read it is done, or memory was refused
abbrev pub IsCalm : Option SourceKind → Effect → Status → Type 0
IsCalm (Some kind) e result =
    (bytes : List ℕ) → TellsAll e.source e.source_now bytes → IsExpected kind bytes result
IsCalm None e result = (result ≡ status.Done) ⊎ (result ≡ status.Memory)

-- how a call ends: what its status says of it, which status comes where nothing fails, and that the
-- source is as it was where nothing is read
pub record Ends (c : Invocation) (result : Status) : Type 0 where
  pub says : EndsWith c result
  pub calm : (meaning : Words) → AsksFor c meaning
      → (Rose c.does.sink.faults c.does.sink_now.faults → ⊥)
      → IsCalm (source_kind meaning) c.does result
  pub apart : (meaning : Words) → AsksFor c meaning → source_kind meaning ≡ None
      → c.does.source_now ≡ c.does.source
