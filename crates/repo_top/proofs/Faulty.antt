-- How a call ends, from what was done for its meaning.
use Rattle.std.proofs.Common.{◌≡◌, ◌⊎◌, ℕ, ◌<◌, ◌≤◌, Bool, true, false, Option, Some, None, Result, Ok, Err, IfSome, IfOk, IfErr, IsNone, List, length, inl, inr, refl, sym, ◌∙◌, ap, subst, arith}
use Rattle.repo_top.specs.declared.status.Status.{Status}
use Rattle.repo_top.specs.declared.status.Status.TheVariants as status
use Rattle.jr_io.specs.Causes.{Rose}
use Rattle.jr_script.specs.declared.script.Script.{Script}
use Rattle.oak_world.specs.Worlds.{WorldOf}
use Rattle.jcr_law.specs.declared.law.JcrLaw.{JcrLaw}
use Rattle.repo_top.specs.Ends.{AsksFor, Invocation, IsTaken, Does, Effect, Ends, EndsWith, Faults, HasFault, HasLine, HasNotFailed, HasPrinted, HasRunAll, HasRunFor, Input, IsSourceText, IsCalm, IsCause, IsDelivered, IsExpected, IsUnrunFault, IsScriptFor, IsMissing, IsPart, IsCutText, IsInputRead, IsReadWhole, TellsAll, IsRefused, IsTextFor, IsUnread, SourceKind, Output, Prints, SpellsScript, Delivers, WritesText, call, effect, source_kind, longest, told_of}
use Rattle.repo_top.specs.Ends.SourceKind.{a_script, a_type_text}
use Rattle.jr_gen.specs.Scripts.{script_text}
use Rattle.jr_work.specs.Runs.{HasRun}
use Rattle.jr_work.specs.Workers.{HasRunByWorkers}
use Rattle.repo_top.specs.Headline.{printed_of}
use Rattle.repo_top.specs.Statuses.{fault_line, status_of}
use Rattle.repo_top.specs.Typed.{IsCanonical}
use Rattle.repo_top.specs.declared.status.Unrun.{Unrun}
use Rattle.repo_top.specs.declared.status.Unrun.TheVariants as unrun
use Rattle.repo_top.specs.Words.{WordsMean}
use Rattle.repo_top.specs.declared.words.Words.{Words}
use Rattle.repo_top.specs.declared.words.Words.TheVariants.{Gen, Run, Steps, Types}
use Rattle.repo_top.proofs.Options.{one_meaning}
use mathlib.Core.Bool.{false≢true}

pub none_left : {X : Type 0} (o : Option X) → IsNone o → o ≡ None
none_left None h = refl
none_left (Some x) h = absurd (false≢true (sym h))

-- what is told of a text is told of the same text
pub told_text : (before now : Output) (text same : List ℕ) (answer result : Status) → text ≡ same → Delivers before now text answer result → Delivers before now same answer result
told_text before now text same answer result e told = subst (λ (t : List ℕ). Delivers before now t answer result) e told

-- the words of a call ask for one thing
one_asked : (c : Invocation) (a b : Words) → AsksFor c a → AsksFor c b → a ≡ b
one_asked c a b p q = one_meaning c.words a b p.meant q.meant

-- ---- what words ask for

-- words have one meaning, and a call that may run no threads takes all but `run`
pub taken_alone : (meaning : Words) → ((workers : ℕ) (documents : Bool) → meaning ≡ Run workers documents → ⊥) → IsTaken false meaning
taken_alone (Steps documents) other = tt
taken_alone Types other = tt
taken_alone (Run workers documents) other = other workers documents refl
taken_alone (Gen seed sessions runs) other = tt

pub asks_all : (words : List (List ℕ)) (e : Effect) (meaning : Words) → WordsMean words meaning → AsksFor (call true words e) meaning
asks_all words e meaning meant = record { meant = meant; taken = tt }

pub asks_alone : (words : List (List ℕ)) (e : Effect) (meaning : Words) → WordsMean words meaning → IsTaken false meaning → AsksFor (call false words e) meaning
asks_alone words e meaning meant taken = record { meant = meant; taken = taken }

pub no_threads : (words : List (List ℕ)) (e : Effect) (meaning : Words) (workers : ℕ) (documents : Bool) → WordsMean words meaning → meaning ≡ Run workers documents → (other : Words) → ¬ AsksFor (call false words e) other
no_threads words e meaning workers documents meant is other asked =
    subst (λ (m : Words). IsTaken false m) (one_meaning words other meaning asked.meant meant ∙ is) asked.taken

pub meaningless : (words : List (List ℕ)) (threads : Bool) (e : Effect) → ((meaning : Words) → ¬ WordsMean words meaning) → (meaning : Words) → ¬ AsksFor (call threads words e) meaning
meaningless words threads e none meaning asked = none meaning asked.meant

-- ---- the text of a script that is made

-- memory was refused
refused_made : (source : Input) (sink sink_now : Output) (left : Option (WorldOf JcrLaw)) (seed sessions : ℕ) (runs : Bool) (result : Status) → left ≡ None → IsRefused sink sink_now result → Does (Gen seed sessions runs) (effect source source sink sink_now left) result
refused_made source sink sink_now left seed sessions runs result none refused = inl (record { why = unrun.Memory; missing = refl; none = none; faults = refused })

pub printed_made : (source : Input) (sink sink_now : Output) (left : Option (WorldOf JcrLaw)) (seed sessions : ℕ) (runs : Bool) (result : Status) → runs ≡ false → left ≡ None → WritesText sink sink_now (script_text seed sessions) result → Does (Gen seed sessions runs) (effect source source sink sink_now left) result
printed_made source sink sink_now left seed sessions true result off none writes = absurd (false≢true (sym off))
printed_made source sink sink_now left seed sessions false result off none (inl told) =
    inr (inr (record { text = script_text seed sessions; made = (refl, refl); none = none; tells = told }))
printed_made source sink sink_now left seed sessions false result off none (inr refused) = refused_made source sink sink_now left seed sessions false result none refused

-- ---- a script that is read is run

module _ (documents : Bool) (e : Effect) (result : Status) where
  -- a run that has ended is told of
  told_ok : (meaning : Words) (world : WorldOf JcrLaw) (script : Script) → IsScriptFor meaning e script → HasRunFor meaning script world → told_of meaning script world ≡ printed_of documents world → e.left ≡ Some world → WritesText e.sink e.sink_now (printed_of documents world) result → Does meaning e result
  told_ok meaning world script given ran is left writes =
      inr (inl (record {
        script = script;
        given = given;
        ran = subst (λ (o : Option (WorldOf JcrLaw)). IfSome o (HasRunFor meaning script)) (sym left) ran;
        prints = subst (λ (o : Option (WorldOf JcrLaw)). Prints (told_of meaning script) o e.sink e.sink_now result) (sym left) (subst (λ (t : List ℕ). WritesText e.sink e.sink_now t result) (sym is) writes);
      }))

  -- the line says why no script is run
  told_err : (meaning : Words) (why : Unrun) → source_kind meaning ≡ Some a_script → IsUnread a_script e.source e.source_now why → IsNone e.left → Faults e.sink e.sink_now why result → Does meaning e result
  told_err meaning why kind unread none faults =
      inl (record {
        why = why;
        missing = subst (λ (k : Option SourceKind). IsMissing k e.source e.source_now why) (sym kind) unread;
        none = none_left e.left none;
        faults = faults;
      })

  -- what is told of a run, or of a source that isn't run
  abbrev IsTold : Result (WorldOf JcrLaw) Unrun → Type 0
  IsTold ran =
      IfOk ran (λ world. (e.left ≡ Some world) × WritesText e.sink e.sink_now (printed_of documents world) result)
      × IfErr ran (λ why. IsNone e.left × Faults e.sink e.sink_now why result)

  pub steps_does : (ran : Result (WorldOf JcrLaw) Unrun) → IfOk ran (λ world. (script : Script) × IsInputRead e.source e.source_now script × HasRun script world) → IfErr ran (IsUnread a_script e.source e.source_now) → IsTold ran → Does (Steps documents) e result
  steps_does (Ok world) ran unread told = told_ok (Steps documents) world ran.0 ran.1 ran.2 refl told.0.0 told.0.1
  steps_does (Err why) ran unread told = told_err (Steps documents) why refl unread told.1.0 told.1.1

  pub run_does : (workers : ℕ) (ran : Result (WorldOf JcrLaw) Unrun) → IfOk ran (λ world. (script : Script) × IsInputRead e.source e.source_now script × HasRunByWorkers script world) → IfErr ran (IsUnread a_script e.source e.source_now) → IsTold ran → Does (Run workers documents) e result
  run_does workers (Ok world) ran unread told = told_ok (Run workers documents) world ran.0 ran.1 ran.2 refl told.0.0 told.0.1
  run_does workers (Err why) ran unread told = told_err (Run workers documents) why refl unread told.1.0 told.1.1

-- ---- where memory was refused the source didn't fail

broken_unfailed : (kind : Option SourceKind) (before now : Input) (rule : ℕ) (pointer : List ℕ) (offset : Option ℕ) → IsMissing kind before now (unrun.Script rule pointer offset) → HasNotFailed before now
broken_unfailed None before now rule pointer offset missing = absurd missing
broken_unfailed (Some kind) before now rule pointer offset missing = missing.1.sound

untyped_unfailed : (kind : Option SourceKind) (before now : Input) (offset : ℕ) → IsMissing kind before now (unrun.Types offset) → HasNotFailed before now
untyped_unfailed None before now offset missing = absurd missing
untyped_unfailed (Some kind) before now offset missing = missing.1.sound

refused_unfailed : (kind : Option SourceKind) (before now : Input) → IsMissing kind before now unrun.Memory → HasNotFailed before now
refused_unfailed None before now missing = ap (λ (i : Input). i.faults) missing
refused_unfailed (Some kind) before now missing = missing

given_unfailed : (meaning : Words) (e : Effect) (script : Script) → IsScriptFor meaning e script → HasNotFailed e.source e.source_now
given_unfailed (Steps documents) e script given = given.1.sound
given_unfailed Types e script given = given.1.sound
given_unfailed (Run workers documents) e script given = given.1.sound
given_unfailed (Gen seed sessions runs) e script given = ap (λ (i : Input). i.faults) given.0

-- ---- no world is left

module _ (c : Invocation) (none : c.does.left ≡ None) where
  -- a text was written, or a part of it
  told : (text : List ℕ) (answer result : Status) → IsCutText c text → (IsDelivered c.does.sink c.does.sink_now text → EndsWith c answer) → Delivers c.does.sink c.does.sink_now text answer result → EndsWith c result
  told text answer result part make (inl t) = subst (λ (r : Status). EndsWith c r) (sym t.0) (make t.1)
  told text answer result part make (inr t) =
      subst (λ (r : Status). EndsWith c r) (sym t.0)
      (record { fault = t.1; part = subst (λ (o : Option (WorldOf JcrLaw)). IsPart c o) (sym none) (text, part, t.2) })

  -- the line that says why was written, or a part of it
  lined : (why : Unrun) (result : Status) → HasLine why → IsCause c why → (IsUnrunFault c (status_of why) → EndsWith c (status_of why)) → Delivers c.does.sink c.does.sink_now (fault_line why) (status_of why) result → EndsWith c result
  lined why result line cause make tells =
      told (fault_line why) (status_of why) result (inr (why, line, cause, refl)) (λ whole. make (record { why = why; status = refl; unrun = none; cause = cause; line = whole })) tells

  -- memory was refused
  refused : (result : Status) → (meaning : Words) → AsksFor c meaning → HasNotFailed c.does.source c.does.source_now → IsRefused c.does.sink c.does.sink_now result → EndsWith c result
  refused result meaning asked sound tells =
      subst (λ (r : Status). EndsWith c r) (sym tells.0) (record { asked = (meaning, asked); ran = subst (λ (o : Option (WorldOf JcrLaw)). IfSome o (HasRunAll c)) (sym none) tt; nothing = tells.1; sound = sound })

  unrun_ends : (why : Unrun) (result : Status) → IsCause c why → Faults c.does.sink c.does.sink_now why result → EndsWith c result
  unrun_ends unrun.Words result cause tells = lined unrun.Words result tt cause (λ f. f) tells
  unrun_ends (unrun.Script rule pointer offset) result cause (inl tells) = lined (unrun.Script rule pointer offset) result tt cause (λ f. f) tells
  unrun_ends (unrun.Script rule pointer offset) result cause (inr tells) = refused result cause.0 cause.1 (broken_unfailed (source_kind cause.0) c.does.source c.does.source_now rule pointer offset cause.2) tells
  unrun_ends (unrun.Types offset) result cause (inl tells) = lined (unrun.Types offset) result tt cause (λ f. f) tells
  unrun_ends (unrun.Types offset) result cause (inr tells) = refused result cause.0 cause.1 (untyped_unfailed (source_kind cause.0) c.does.source c.does.source_now offset cause.2) tells
  unrun_ends unrun.ReadFault result cause tells = lined unrun.ReadFault result tt cause (λ f. f) tells
  unrun_ends unrun.TooLong result cause tells = lined unrun.TooLong result tt cause (λ f. f) tells
  unrun_ends unrun.Memory result cause tells = refused result cause.0 cause.1 (refused_unfailed (source_kind cause.0) c.does.source c.does.source_now cause.2) tells

-- what is meant didn't come to be
no_words : (kind : Option SourceKind) (before now : Input) → IsMissing kind before now unrun.Words → ⊥
no_words None before now missing = missing
no_words (Some a_script) before now missing = missing.2
no_words (Some a_type_text) before now missing = missing.2

missing_cause : (c : Invocation) (meaning : Words) (why : Unrun) → AsksFor c meaning → IsMissing (source_kind meaning) c.does.source c.does.source_now why → IsCause c why
missing_cause c meaning unrun.Words asked missing = absurd (no_words (source_kind meaning) c.does.source c.does.source_now missing)
missing_cause c meaning (unrun.Script rule pointer offset) asked missing = (meaning, asked, missing)
missing_cause c meaning (unrun.Types offset) asked missing = (meaning, asked, missing)
missing_cause c meaning unrun.ReadFault asked missing = (meaning, asked, missing)
missing_cause c meaning unrun.TooLong asked missing = (meaning, asked, missing)
missing_cause c meaning unrun.Memory asked missing = (meaning, asked, missing)

-- ---- a script is run

module _ (c : Invocation) (meaning : Words) (asked : AsksFor c meaning) (script : Script) (given : IsScriptFor meaning c.does script) where
  abbrev run_all : (world : WorldOf JcrLaw) → HasRunFor meaning script world → HasRunAll c world
  run_all world ran = record { meaning = meaning; asked = asked; script = script; given = given; ran = ran }

  run_ends : (o : Option (WorldOf JcrLaw)) (result : Status) → c.does.left ≡ o → IfSome o (HasRunFor meaning script) → Prints (told_of meaning script) o c.does.sink c.does.sink_now result → EndsWith c result
  run_ends None result is ran prints =
      subst (λ (r : Status). EndsWith c r) (sym prints.0) (record { asked = (meaning, asked); ran = subst (λ (o : Option (WorldOf JcrLaw)). IfSome o (HasRunAll c)) (sym is) tt; nothing = prints.1; sound = given_unfailed meaning c.does script given })
  run_ends (Some world) result is ran (inl (inl t)) =
      subst (λ (r : Status). EndsWith c r) (sym t.0) (inl (record { world = world; left = is; ran = run_all world ran; told = t.1 }))
  run_ends (Some world) result is ran (inl (inr t)) =
      subst (λ (r : Status). EndsWith c r) (sym t.0)
      (record { fault = t.1; part = subst (λ (o : Option (WorldOf JcrLaw)). IsPart c o) (sym is) (run_all world ran, t.2) })
  run_ends (Some world) result is ran (inr m) =
      subst (λ (r : Status). EndsWith c r) (sym m.0)
      (record { asked = (meaning, asked); ran = subst (λ (o : Option (WorldOf JcrLaw)). IfSome o (HasRunAll c)) (sym is) (run_all world ran); nothing = m.1; sound = given_unfailed meaning c.does script given })

done_ends : (c : Invocation) (meaning : Words) (result : Status) → AsksFor c meaning → Does meaning c.does result → EndsWith c result
done_ends c meaning result asked (inl u) = unrun_ends c u.none u.why result (missing_cause c meaning u.why asked u.missing) u.faults
done_ends c meaning result asked (inr (inl r)) = run_ends c meaning asked r.script r.given c.does.left result refl r.ran r.prints
done_ends c meaning result asked (inr (inr p)) =
    let printed : HasPrinted c p.text = record { meaning = meaning; asked = asked; made = p.made } in
    told c p.none p.text status.Done result (inl printed) (λ whole. inr (record { text = p.text; unrun = p.none; printed = printed; whole = whole })) p.tells

-- ---- the source, where nothing is read

missing_apart : (kind : Option SourceKind) (before now : Input) (why : Unrun) → kind ≡ None → IsMissing kind before now why → now ≡ before
missing_apart (Some kind) before now why none missing = absurd (cc none)
missing_apart None before now unrun.Memory none missing = missing
missing_apart None before now unrun.Words none missing = absurd missing
missing_apart None before now (unrun.Script rule pointer offset) none missing = absurd missing
missing_apart None before now (unrun.Types offset) none missing = absurd missing
missing_apart None before now unrun.ReadFault none missing = absurd missing
missing_apart None before now unrun.TooLong none missing = absurd missing

given_apart : (meaning : Words) (e : Effect) (script : Script) → source_kind meaning ≡ None → IsScriptFor meaning e script → e.source_now ≡ e.source
given_apart (Steps documents) e script none given = absurd (cc none)
given_apart Types e script none given = absurd (cc none)
given_apart (Run workers documents) e script none given = absurd (cc none)
given_apart (Gen seed sessions runs) e script none given = given.0

text_apart : (meaning : Words) (e : Effect) (text : List ℕ) → source_kind meaning ≡ None → IsTextFor meaning e text → e.source_now ≡ e.source
text_apart (Steps documents) e text none made = absurd (cc none)
text_apart Types e text none made = absurd (cc none)
text_apart (Run workers documents) e text none made = absurd (cc none)
text_apart (Gen seed sessions true) e text none made = absurd made
text_apart (Gen seed sessions false) e text none made = made.0

done_apart : (meaning : Words) (e : Effect) (result : Status) → source_kind meaning ≡ None → Does meaning e result → e.source_now ≡ e.source
done_apart meaning e result none (inl u) = missing_apart (source_kind meaning) e.source e.source_now u.why none u.missing
done_apart meaning e result none (inr (inl r)) = given_apart meaning e r.script none r.given
done_apart meaning e result none (inr (inr p)) = text_apart meaning e p.text none p.made

-- ---- where nothing fails

all_bytes : (before now : Input) (bytes all : List ℕ) → TellsAll before now bytes → IsReadWhole before now all → all ≡ bytes
all_bytes before now bytes all calm read = subst (λ (o : Option (List ℕ)). IfSome o (λ left. all ≡ left)) calm.tells read.all

module _ (e : Effect) (kind : SourceKind) (bytes : List ℕ) (calm : TellsAll e.source e.source_now bytes) where
  -- the source gave bytes with a fault
  told_fault : (all : List ℕ) (why : Unrun) → IsReadWhole e.source e.source_now all → HasFault kind all why → (why : Unrun) × HasFault kind bytes why
  told_fault all why read fault = (why, subst (λ (b : List ℕ). HasFault kind b why) (all_bytes e.source e.source_now bytes all calm read) fault)

  -- a fault with a line comes of the bytes, or of a source that failed or gave too many
  calm_missing : (why : Unrun) (s : Status) → s ≡ status_of why → IsUnread kind e.source e.source_now why → IsExpected kind bytes s
  calm_missing unrun.Words s is missing = absurd (no_words (Some kind) e.source e.source_now missing)
  calm_missing (unrun.Script rule pointer offset) s is missing =
      subst (λ (r : Status). IsExpected kind bytes r) (sym is) (told_fault missing.0 (unrun.Script rule pointer offset) missing.1 missing.2)
  calm_missing (unrun.Types offset) s is missing =
      subst (λ (r : Status). IsExpected kind bytes r) (sym is) (told_fault missing.0 (unrun.Types offset) missing.1 missing.2)
  calm_missing unrun.ReadFault s is missing = absurd (calm.reads missing)
  calm_missing unrun.TooLong s is missing = absurd (never (length bytes) calm.short (subst (λ (o : Option (List ℕ)). IfSome o (λ left. longest < length left)) calm.tells missing.1))
    where
      never : (n : ℕ) → n ≤ longest → longest < n → ⊥
      never n short long = omega (arith, short, long)
  calm_missing unrun.Memory s is missing = subst (λ (r : Status). IsExpected kind bytes r) (sym is) tt

-- the bytes of a script that was run are what is asked for
run_asked : (meaning : Words) (kind : SourceKind) (e : Effect) (script : Script) (world : WorldOf JcrLaw) (bytes : List ℕ) → source_kind meaning ≡ Some kind → TellsAll e.source e.source_now bytes → IsScriptFor meaning e script → HasRunFor meaning script world → IsSourceText kind bytes
run_asked (Steps documents) kind e script world bytes is calm given ran =
    let k : a_script ≡ kind = cc in
    subst (λ (k : SourceKind). IsSourceText k bytes) k (script, subst (λ (b : List ℕ). SpellsScript b script) (all_bytes e.source e.source_now bytes given.0 calm given.1) given.2)
run_asked (Run workers documents) kind e script world bytes is calm given ran =
    let k : a_script ≡ kind = cc in
    subst (λ (k : SourceKind). IsSourceText k bytes) k (script, subst (λ (b : List ℕ). SpellsScript b script) (all_bytes e.source e.source_now bytes given.0 calm given.1) given.2)
run_asked Types kind e script world bytes is calm given ran = absurd ran
run_asked (Gen seed sessions runs) kind e script world bytes is calm given ran = absurd (cc is)

-- the bytes of a text that is printed are what is asked for
text_asked : (meaning : Words) (kind : SourceKind) (e : Effect) (text : List ℕ) (bytes : List ℕ) → source_kind meaning ≡ Some kind → TellsAll e.source e.source_now bytes → IsTextFor meaning e text → IsSourceText kind bytes
text_asked Types kind e text bytes is calm made =
    let k : a_type_text ≡ kind = cc in
    let whole = subst (λ (b : List ℕ). IsCanonical b text) (all_bytes e.source e.source_now bytes made.0 calm made.1) made.2 in
    subst (λ (k : SourceKind). IsSourceText k bytes) k (whole.0, whole.1)
text_asked (Steps documents) kind e text bytes is calm made = absurd made
text_asked (Run workers documents) kind e text bytes is calm made = absurd made
text_asked (Gen seed sessions runs) kind e text bytes is calm made = absurd (cc is)

-- a cause with a line, where bytes are read
calm_cause : (c : Invocation) (meaning : Words) (kind : SourceKind) (bytes : List ℕ) (s : Status) (why : Unrun) → AsksFor c meaning → source_kind meaning ≡ Some kind → TellsAll c.does.source c.does.source_now bytes → s ≡ status_of why → IsCause c why → IsExpected kind bytes s
calm_cause c meaning kind bytes s unrun.Words asked is calm status cause = absurd (cause meaning asked)
calm_cause c meaning kind bytes s (unrun.Script rule pointer offset) asked is calm status cause =
    calm_missing c.does kind bytes calm (unrun.Script rule pointer offset) s status
    (subst (λ (k : Option SourceKind). IsMissing k c.does.source c.does.source_now (unrun.Script rule pointer offset)) (ap source_kind (one_asked c cause.0 meaning cause.1 asked) ∙ is) cause.2)
calm_cause c meaning kind bytes s (unrun.Types offset) asked is calm status cause =
    calm_missing c.does kind bytes calm (unrun.Types offset) s status
    (subst (λ (k : Option SourceKind). IsMissing k c.does.source c.does.source_now (unrun.Types offset)) (ap source_kind (one_asked c cause.0 meaning cause.1 asked) ∙ is) cause.2)
calm_cause c meaning kind bytes s unrun.ReadFault asked is calm status cause =
    calm_missing c.does kind bytes calm unrun.ReadFault s status
    (subst (λ (k : Option SourceKind). IsMissing k c.does.source c.does.source_now unrun.ReadFault) (ap source_kind (one_asked c cause.0 meaning cause.1 asked) ∙ is) cause.2)
calm_cause c meaning kind bytes s unrun.TooLong asked is calm status cause =
    calm_missing c.does kind bytes calm unrun.TooLong s status
    (subst (λ (k : Option SourceKind). IsMissing k c.does.source c.does.source_now unrun.TooLong) (ap source_kind (one_asked c cause.0 meaning cause.1 asked) ∙ is) cause.2)
calm_cause c meaning kind bytes s unrun.Memory asked is calm status cause =
    subst (λ (r : Status). IsExpected kind bytes r) (sym status) tt

module _ (c : Invocation) (meaning : Words) (asked : AsksFor c meaning) (writes : Rose c.does.sink.faults c.does.sink_now.faults → ⊥) where
  -- where bytes are read
  calm_read : (kind : SourceKind) → source_kind meaning ≡ Some kind → (bytes : List ℕ) → TellsAll c.does.source c.does.source_now bytes → (result : Status) → EndsWith c result → IsExpected kind bytes result
  calm_read kind is bytes calm status.Done (inl end) =
      run_asked end.ran.meaning kind c.does end.ran.script end.world bytes (ap source_kind (one_asked c end.ran.meaning meaning end.ran.asked asked) ∙ is) calm end.ran.given end.ran.ran
  calm_read kind is bytes calm status.Done (inr end) =
      text_asked end.printed.meaning kind c.does end.text bytes (ap source_kind (one_asked c end.printed.meaning meaning end.printed.asked asked) ∙ is) calm end.printed.made
  calm_read kind is bytes calm status.Words end = calm_cause c meaning kind bytes status.Words end.why asked is calm end.status end.cause
  calm_read kind is bytes calm status.Script end = calm_cause c meaning kind bytes status.Script end.why asked is calm end.status end.cause
  calm_read kind is bytes calm status.ReadFault end = calm_cause c meaning kind bytes status.ReadFault end.why asked is calm end.status end.cause
  calm_read kind is bytes calm status.WriteFault end = absurd (writes end.fault)
  calm_read kind is bytes calm status.Memory end = tt
  calm_read kind is bytes calm status.TooLong end = calm_cause c meaning kind bytes status.TooLong end.why asked is calm end.status end.cause

  -- no fault has a line where nothing is read
  no_line : source_kind meaning ≡ None → (s : Status) (why : Unrun) → s ≡ status_of why → (s ≡ status.Memory → ⊥) → IsCause c why → ⊥
  no_line none s unrun.Words is fault cause = cause meaning asked
  no_line none s (unrun.Script rule pointer offset) is fault cause = subst (λ (k : Option SourceKind). IsMissing k c.does.source c.does.source_now (unrun.Script rule pointer offset)) (ap source_kind (one_asked c cause.0 meaning cause.1 asked) ∙ none) cause.2
  no_line none s (unrun.Types offset) is fault cause = subst (λ (k : Option SourceKind). IsMissing k c.does.source c.does.source_now (unrun.Types offset)) (ap source_kind (one_asked c cause.0 meaning cause.1 asked) ∙ none) cause.2
  no_line none s unrun.ReadFault is fault cause = subst (λ (k : Option SourceKind). IsMissing k c.does.source c.does.source_now unrun.ReadFault) (ap source_kind (one_asked c cause.0 meaning cause.1 asked) ∙ none) cause.2
  no_line none s unrun.TooLong is fault cause = subst (λ (k : Option SourceKind). IsMissing k c.does.source c.does.source_now unrun.TooLong) (ap source_kind (one_asked c cause.0 meaning cause.1 asked) ∙ none) cause.2
  no_line none s unrun.Memory is fault cause = fault is

  -- where nothing is read
  calm_made : source_kind meaning ≡ None → (result : Status) → EndsWith c result → (result ≡ status.Done) ⊎ (result ≡ status.Memory)
  calm_made none status.Done end = inl refl
  calm_made none status.Memory end = inr refl
  calm_made none status.WriteFault end = absurd (writes end.fault)
  calm_made none status.Words end = absurd (no_line none status.Words end.why end.status (λ e. absurd (cc e)) end.cause)
  calm_made none status.Script end = absurd (no_line none status.Script end.why end.status (λ e. absurd (cc e)) end.cause)
  calm_made none status.ReadFault end = absurd (no_line none status.ReadFault end.why end.status (λ e. absurd (cc e)) end.cause)
  calm_made none status.TooLong end = absurd (no_line none status.TooLong end.why end.status (λ e. absurd (cc e)) end.cause)

  calm_ends : (kind : Option SourceKind) → source_kind meaning ≡ kind → (result : Status) → EndsWith c result → IsCalm kind c.does result
  calm_ends (Some kind) is result says = λ bytes calm. calm_read kind is bytes calm result says
  calm_ends None is result says = calm_made is result says

-- ---- a call

-- the words ask for nothing
pub wordless : (c : Invocation) (result : Status) → c.does.left ≡ None → ((meaning : Words) → ¬ AsksFor c meaning) → Faults c.does.sink c.does.sink_now unrun.Words result → Ends c result
wordless c result none words faults = record {
  says = unrun_ends c none unrun.Words result words faults;
  calm = λ meaning asked writes. absurd (words meaning asked);
  apart = λ meaning asked is. absurd (words meaning asked);
}

-- what the words ask for is done
pub does_ends : (c : Invocation) (result : Status) (meaning : Words) → AsksFor c meaning → Does meaning c.does result → Ends c result
does_ends c result meaning asked did =
    let says = done_ends c meaning result asked did in
    record {
      says = says;
      calm = λ m asks writes. calm_ends c m asks writes (source_kind m) refl result says;
      apart = λ m asks none. done_apart meaning c.does result (ap source_kind (one_asked c meaning m asked asks) ∙ none) did;
    }

pub does_run : (c : Invocation) (result : Status) (meaning : Words) (workers : ℕ) (documents : Bool) → meaning ≡ Run workers documents → AsksFor c meaning → Does (Run workers documents) c.does result → Ends c result
does_run c result meaning workers documents is asked did =
    does_ends c result (Run workers documents) (subst (λ (m : Words). AsksFor c m) is asked) did
