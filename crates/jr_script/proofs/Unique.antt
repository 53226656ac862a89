-- JSON has one outcome at most as a script.
use Rattle.std.proofs.Common.{◌≡◌, ◌∙◌, ℕ, ◌+◌, ◌++◌, Bool, true, false, List, [], ◌∷◌, Option, Some, None, Result, Ok, Err, ap, codes, inl, inr, length, sym}
use Rattle.serde_json.specs.Data.{Data, Items, null, boolean, number, string, array, object, no_items, item}
use Rattle.serde_json.specs.Find.{get}
use Rattle.jr_args.specs.declared.fault.Step.TheVariants.{Index, Key}
use Rattle.jr_args.specs.Commands.{command_of}
use Rattle.jr_args.specs.Outcomes.{Outcome, Means, Breaks, HasOneOutcome, Reading, judged}
use Rattle.jr_args.proofs.Unique.{one_command, one_guard, one_is, one_judged, one_list, one_optional, one_then, one_under}
use Rattle.jr_script.specs.Numbers.{IsNumberJson}
use Rattle.jr_script.specs.Schedules.{IsEntry, entry_of}
use Rattle.jr_script.specs.Scripts.{cluster_of, clusters_of, read_commands, few_of, member_of, schedule_of, script_in, script_of, session_in, session_of, sessions_of, turns_in, script_over, where_read}
use Rattle.jr_script.specs.declared.script.Script.{Script}
use Rattle.jr_script.specs.declared.script.TextFault.{TextFault}
use Rattle.jr_script.specs.Types.{FailsAt, IsWith, Types, added, listed_of, types_read, with_type, written_of}
use Rattle.jr_builtin.specs.Builtin.{builtin}
use Rattle.jr_types.specs.declared.TypeDef.{TypeDef}
use Rattle.jr_cnd.specs.Meaning.{IsMeaning}
use Rattle.jr_cnd.specs.declared.cnd.Cnd.{Cnd}
use Rattle.jr_cnd.specs.declared.fault.NoCnd.{NoCnd}
use Rattle.jr_cnd.specs.declared.fault.NoCnd.TheVariants as no
use Rattle.jr_script.proofs.Definitions.{one_type}
use mathlib.Core.Bool.{false≢true}
use Rattle.jr_script.proofs.Entries.{number_in, one_entry}

one_member : {X : Type 0} (key : List ℕ) (rule : ℕ) (M : Data → Reading X) → ((d : Data) → HasOneOutcome (M d)) → (d : Option Data) → HasOneOutcome (member_of key rule M d)
one_member key rule M each None = one_is (Breaks rule [])
one_member key rule M each (Some d) = one_under (Key key) (M d) (each d)

one_few : {X : Type 0} (most rule : ℕ) (M : Data → Reading X) → ((d : Data) → HasOneOutcome (M d)) → (d : Data) → HasOneOutcome (few_of most rule M d)
one_few most rule M each null = one_is (Breaks rule [])
one_few most rule M each (boolean b) = one_is (Breaks rule [])
one_few most rule M each (number n) = one_is (Breaks rule [])
one_few most rule M each (string t) = one_is (Breaks rule [])
one_few most rule M each (array ds) = one_then _ _ (one_guard _ rule) (λ u. one_list M each 0 ds)
one_few most rule M each (object ms) = one_is (Breaks rule [])

one_whole : (low most rule : ℕ) (d : Data) → HasOneOutcome (judged (IsNumberJson low most d) rule)
one_whole low most rule d = one_judged (IsNumberJson low most d) rule (λ n m h g. ap number_in (sym h.0 ∙ g.0))

one_entry_of : (sessions : ℕ) (d : Data) → HasOneOutcome (entry_of sessions d)
one_entry_of sessions d = one_judged (IsEntry sessions d) 8 (one_entry sessions d)

one_session_in : (clusters : ℕ) (d : Data) → HasOneOutcome (session_in clusters d)
one_session_in clusters d =
    one_then _ _ (one_optional (codes "cluster") 1 (cluster_of clusters) (one_whole 1 clusters 4) (get (codes "cluster") d)) (λ cluster.
    one_then _ _ (one_member (codes "commands") 4 read_commands (one_few 10000 4 command_of one_command) (get (codes "commands") d)) (λ commands. one_is _))

one_session_of : (clusters : ℕ) (d : Data) → HasOneOutcome (session_of clusters d)
one_session_of clusters null = one_is (Breaks 4 [])
one_session_of clusters (boolean b) = one_is (Breaks 4 [])
one_session_of clusters (number n) = one_is (Breaks 4 [])
one_session_of clusters (string t) = one_is (Breaks 4 [])
one_session_of clusters (array ds) = one_is (Breaks 4 [])
one_session_of clusters (object ms) = one_then _ _ (one_guard _ 4) (λ u. one_session_in clusters (object ms))

-- ---- types

one_with : (types : List TypeDef) (d : Data) → HasOneOutcome (with_type types d)
one_with types d = one_judged (IsWith types d) 9 (λ x y h g. h.3 ∙ (ap (λ (t : TypeDef). types ++ t ∷ []) (one_type d h.0 g.0 h.1 g.1) ∙ sym g.3))

one_added : (types : List TypeDef) (i : ℕ) (ds : Items) → HasOneOutcome (added types i ds)
one_added types i no_items = one_is (Means types)
one_added types i (item d ds) = one_then _ _ (one_under (Index i) (with_type types d) (one_with types d)) (λ more. one_added more (i + 1) ds)

one_listed : (ds : Items) → HasOneOutcome (listed_of ds)
one_listed ds = one_then _ _ (one_added builtin 0 ds) (λ types. one_is (Means (Ok types)))

abbrev definitions_in : Result Cnd NoCnd → List TypeDef
definitions_in (Ok cnd) = cnd.definitions
definitions_in (Err fault) = []

abbrev offset_in : Result Cnd NoCnd → ℕ
offset_in (Err (no.Syntax at)) = at
offset_in (Err (no.BadDef at)) = at
offset_in _ = 0

abbrev is_fine : Result Cnd NoCnd → Bool
is_fine (Ok cnd) = true
is_fine (Err fault) = false

-- a text has one meaning
abbrev pub IsOneMeaning : Type 0
IsOneMeaning = (text : List ℕ) (a b : Result Cnd NoCnd) → IsMeaning text a → IsMeaning text b → a ≡ b

module _ (one : IsOneMeaning) where
  one_offset : (text : List ℕ) (a b : ℕ) → FailsAt text a → FailsAt text b → a ≡ b
  one_offset text a b (inl h) (inl g) = ap offset_in (one text (Err (no.Syntax a)) (Err (no.Syntax b)) h g)
  one_offset text a b (inl h) (inr g) = ap offset_in (one text (Err (no.Syntax a)) (Err (no.BadDef b)) h g)
  one_offset text a b (inr h) (inl g) = ap offset_in (one text (Err (no.BadDef a)) (Err (no.Syntax b)) h g)
  one_offset text a b (inr h) (inr g) = ap offset_in (one text (Err (no.BadDef a)) (Err (no.BadDef b)) h g)

  never_both : {A : Type 0} (text : List ℕ) (cnd : Cnd) (at : ℕ) → IsMeaning text (Ok cnd) → FailsAt text at → A
  never_both text cnd at h (inl g) = absurd (false≢true (sym (ap is_fine (one text (Ok cnd) (Err (no.Syntax at)) h g))))
  never_both text cnd at h (inr g) = absurd (false≢true (sym (ap is_fine (one text (Ok cnd) (Err (no.BadDef at)) h g))))

  one_written : (text : List ℕ) → HasOneOutcome (written_of text)
  one_written text (Means (Ok x)) (Means (Ok y)) h g =
      ap (λ (ts : List TypeDef). Means (Ok ts)) (h.2 ∙ (ap (λ r. builtin ++ definitions_in r) (one text (Ok h.0) (Ok g.0) h.1 g.1) ∙ sym g.2))
  one_written text (Means (Ok x)) (Means (Err f)) h g = never_both text h.0 f.offset h.1 g
  one_written text (Means (Err e)) (Means (Ok y)) h g = never_both text g.0 e.offset g.1 h
  one_written text (Means (Err e)) (Means (Err f)) h g = ap (λ (at : ℕ). Means (Err (record { offset = at }))) (one_offset text e.offset f.offset h g)
  one_written text (Means x) (Breaks rule steps) h g = absurd g
  one_written text (Breaks rule steps) p h g = absurd h

  one_types : (d : Data) → HasOneOutcome (types_read d)
  one_types null = one_is (Breaks 9 [])
  one_types (boolean b) = one_is (Breaks 9 [])
  one_types (number n) = one_is (Breaks 9 [])
  one_types (string t) = one_written t
  one_types (array ds) = one_listed ds
  one_types (object ms) = one_is (Breaks 9 [])

  -- ---- the whole

  one_turns : (clusters : ℕ) (d : Data) → HasOneOutcome (turns_in clusters d)
  one_turns clusters d =
      one_then _ _ (one_member (codes "sessions") 2 (sessions_of clusters) (one_few 64 4 (session_of clusters) (one_session_of clusters)) (get (codes "sessions") d)) (λ sessions.
      one_then _ _ (one_optional (codes "schedule") [] (schedule_of (length sessions)) (one_few 1000000 8 (entry_of (length sessions)) (one_entry_of (length sessions))) (get (codes "schedule") d)) (λ schedule. one_is _))

  one_over : (d : Data) (clusters : ℕ) (types : Types) → HasOneOutcome (where_read (script_over d clusters) types)
  one_over d clusters (Ok types) = one_then _ _ (one_turns clusters d) (λ turns. one_is _)
  one_over d clusters (Err fault) = one_is _

  one_script_in : (d : Data) → HasOneOutcome (script_in d)
  one_script_in d =
      one_then _ _ (one_optional (codes "clusters") 1 clusters_of (one_whole 1 8 3) (get (codes "clusters") d)) (λ clusters.
      one_then _ _ (one_optional (codes "types") (Ok builtin) types_read one_types (get (codes "types") d)) (λ types. one_over d clusters types))

  pub one_outcome : (d : Data) (o p : Outcome (Result Script TextFault)) → script_of d o → script_of d p → o ≡ p
  one_outcome null = one_is (Breaks 2 [])
  one_outcome (boolean b) = one_is (Breaks 2 [])
  one_outcome (number n) = one_is (Breaks 2 [])
  one_outcome (string t) = one_is (Breaks 2 [])
  one_outcome (array ds) = one_is (Breaks 2 [])
  one_outcome (object ms) = one_then _ _ (one_guard _ 2) (λ u. one_then _ _ (one_guard _ 2) (λ v. one_script_in (object ms)))
