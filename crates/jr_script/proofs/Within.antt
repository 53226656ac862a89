-- What is read as a script keeps its bounds.
use Rattle.std.proofs.Common.{◌≡◌, ◌∙◌, ℕ, ◌+◌, ◌≤◌, suc, Bool, true, false, Some, None, Option, Result, Ok, Err, List, [], ◌∷◌, ◌++◌, append-nil, append_assoc, arith, cond, is_some, length, codes, refl, sym, ap, subst, inl, inr}
use Rattle.std.specs.Prelude.{⊤, All, nat_le}
use Rattle.std.proofs.lemmas.Bool.Decides.{leb_tells}
use Rattle.std.proofs.lemmas.List.Elements.{All-cons}
use Rattle.serde_json.specs.Data.{Data, Items, null, boolean, number, string, array, object, no_items, item}
use Rattle.serde_json.specs.Events.{items_len}
use Rattle.serde_json.specs.Find.{get}
use Rattle.jr_args.specs.declared.fault.Step.TheVariants.{Index}
use Rattle.jr_args.specs.Commands.{command_of}
use Rattle.jr_args.specs.Outcomes.{Outcome, Means, Breaks, Reading, Then, guard, is, onward, under}
use Rattle.jr_args.specs.Trees.{list_of, optional_of}
use Rattle.jr_script.specs.Bounds.{IsSessionWithin, IsWithin}
use Rattle.jr_script.specs.Schedules.{IsEntryWithin, entry_of}
use Rattle.jr_script.specs.Scripts.{IsScript, are_keys, cluster_of, clusters_of, read_commands, counted_of, few_of, member_of, schedule_of, script_in, session_in, session_of, sessions_of, turns_in, script_over, where_read}
use Rattle.jr_script.specs.Types.{AreTypes, Types, added, listed_of, types_read, with_type, written_of}
use Rattle.jr_script.specs.declared.reading.Turns.{Turns}
use Rattle.jr_script.specs.declared.script.Script.{Script}
use Rattle.jr_script.specs.declared.script.TextFault.{TextFault}
use Rattle.jr_tree.specs.Trees.{Nodes, initial_tree}
use Rattle.jr_builtin.specs.Builtin.{builtin}
use Rattle.jr_types.specs.Rules.{TypesOk, type_fault}
use Rattle.jr_types.specs.Types.{type_named}
use Rattle.jr_types.specs.declared.TypeDef.{TypeDef}
use Rattle.jr_cnd.specs.Meaning.{IsMeaning}
use Rattle.cnd_print.specs.Printable.{IsPrintable, KeepRules}
use Rattle.jr_cnd.specs.declared.cnd.Cnd.{Cnd}
use Rattle.std.proofs.lemmas.Option.{none-some}
use Rattle.jcr_trans.specs.declared.command.SessionScript.{SessionScript}
use mathlib.Core.Bool.{false≢true}

small : (a b : ℕ) → nat_le a b ≡ true → a ≤ b
small a b h = elim (leb_tells a b) [ inl p ↦ p.1 | inr p ↦ absurd (false≢true (sym p.0 ∙ h)) ]

-- ---- outcomes

abbrev means : {X : Type 0} → Outcome X → Bool
means (Means x) = true
means (Breaks rule steps) = false

never : {X A : Type 0} (x : X) (rule : ℕ) (steps : List _) → Means x ≡ Breaks rule steps → A
never x rule steps h = absurd (false≢true (sym (ap means h)))

abbrev meant : {X : Type 0} → X → Outcome X → X
meant z (Means x) = x
meant z (Breaks rule steps) = z

same : {X : Type 0} (x y : X) → Means x ≡ Means y → x ≡ y
same x y h = ap (meant x) h

-- what both readings mean
first_means : {X Y : Type 0} (M : Reading X) (f : X → Reading Y) (y : Y) → Then M f (Means y) → (x : X) × M (Means x) × f x (Means y)
first_means {X} {Y} M f y h = by h.first h.is_first h.rest
  where
    by : (o : Outcome X) → M o → onward f o (Means y) → (x : X) × M (Means x) × f x (Means y)
    by (Means x) first rest = (x, first, rest)
    by (Breaks rule steps) first rest = never y rule steps rest

guarded : (b : Bool) (rule : ℕ) (u : ⊤) → guard b rule (Means u) → b ≡ true
guarded true rule u h = refl
guarded false rule u h = never u rule [] h

-- ---- lists

many_read : {X : Type 0} (M : Data → Reading X) (i : ℕ) (ds : Items) (xs : List X) → list_of M i ds (Means xs) → length xs ≡ items_len ds
many_read M i no_items xs h = ap length (same _ _ h)
many_read M i (item d ds) xs h =
    let a = first_means (under (Index i) (M d)) _ xs h in
    let b = first_means (list_of M (i + 1) ds) _ xs a.2 in
    ap length (same _ _ b.2) ∙ ap suc (many_read M (i + 1) ds b.0 b.1)

none_read : {X : Type 0} (P : X → Type 0) → All P []
none_read P k d h = absurd (omega (arith, h))

each_read : {X : Type 0} (P : X → Type 0) (M : Data → Reading X) → ((d : Data) (x : X) → M d (Means x) → P x) → (i : ℕ) (ds : Items) (xs : List X) → list_of M i ds (Means xs) → All P xs
each_read P M good i no_items xs h = subst (All P) (sym (same _ _ h)) (none_read P)
each_read P M good i (item d ds) xs h =
    let a = first_means (under (Index i) (M d)) _ xs h in
    let b = first_means (list_of M (i + 1) ds) _ xs a.2 in
    subst (All P) (sym (same _ _ b.2)) (All-cons P a.0 b.0 (good d a.0 a.1) (each_read P M good (i + 1) ds b.0 b.1))

-- a list that is read is short, and what holds of what is read holds of each
abbrev IsShort : {X : Type 0} → ℕ → (X → Type 0) → List X → Type 0
IsShort most P xs = (length xs ≤ most) × All P xs

counted_short : {X : Type 0} (P : X → Type 0) (most rule : ℕ) (M : Data → Reading X) → ((d : Data) (x : X) → M d (Means x) → P x) → (ds : Items) (xs : List X) → counted_of most rule M ds (Means xs) → IsShort most P xs
counted_short P most rule M good ds xs h =
    let a = first_means (guard (nat_le (items_len ds) most) rule) _ xs h in
    let few : items_len ds ≤ most = small _ _ (guarded _ rule a.0 a.1) in
    (subst (λ (n : ℕ). n ≤ most) (sym (many_read M 0 ds xs a.2)) few, each_read P M good 0 ds xs a.2)

few_short : {X : Type 0} (P : X → Type 0) (most rule : ℕ) (M : Data → Reading X) → ((d : Data) (x : X) → M d (Means x) → P x) → (d : Data) (xs : List X) → few_of most rule M d (Means xs) → IsShort most P xs
few_short P most rule M good null xs h = never xs rule [] h
few_short P most rule M good (boolean b) xs h = never xs rule [] h
few_short P most rule M good (number n) xs h = never xs rule [] h
few_short P most rule M good (string t) xs h = never xs rule [] h
few_short P most rule M good (object ms) xs h = never xs rule [] h
few_short P most rule M good (array ds) xs h = counted_short P most rule M good ds xs h

-- ---- members

member_holds : {X : Type 0} (P : X → Type 0) (key : List ℕ) (rule : ℕ) (M : Data → Reading X) → ((d : Data) (x : X) → M d (Means x) → P x) → (o : Option Data) (x : X) → member_of key rule M o (Means x) → P x
member_holds P key rule M good None x h = never x rule [] h
member_holds P key rule M good (Some d) x h = good d x h

optional_holds : {X : Type 0} (P : X → Type 0) (key : List ℕ) (none : X) (M : Data → Reading X) → P none → ((d : Data) (x : X) → M d (Means x) → P x) → (o : Option Data) (x : X) → optional_of key none M o (Means x) → P x
optional_holds P key none M empty good None x h = subst P (sym (same _ _ h)) empty
optional_holds P key none M empty good (Some d) x h = good d x h

-- ---- sessions

-- a number from 1 to another
abbrev IsUpTo : ℕ → ℕ → Type 0
IsUpTo most n = (1 ≤ n) × (n ≤ most)

abbrev IsAny : {X : Type 0} → X → Type 0
IsAny x = Unit {0}

session_inside : (clusters : ℕ) (d : Data) (s : SessionScript) → 1 ≤ clusters → session_in clusters d (Means s) → IsSessionWithin clusters s
session_inside clusters d s some h =
    let a = first_means (optional_of (codes "cluster") 1 (cluster_of clusters) (get (codes "cluster") d)) _ s h in
    let b = first_means (member_of (codes "commands") 4 read_commands (get (codes "commands") d)) _ s a.2 in
    let at = optional_holds (IsUpTo clusters) (codes "cluster") 1 (cluster_of clusters) (omega arith, some) (λ e n g. (g.1, g.2)) (get (codes "cluster") d) a.0 a.1 in
    let short = member_holds (IsShort 10000 IsAny) (codes "commands") 4 read_commands (few_short IsAny 10000 4 command_of (λ e x g. tt)) (get (codes "commands") d) b.0 b.1 in
    subst (IsSessionWithin clusters) (sym (same _ _ b.2)) (record { placed = at.0; near = at.1; few = short.0 })

session_within : (clusters : ℕ) → 1 ≤ clusters → (d : Data) (s : SessionScript) → session_of clusters d (Means s) → IsSessionWithin clusters s
session_within clusters some null s h = never s 4 [] h
session_within clusters some (boolean b) s h = never s 4 [] h
session_within clusters some (number n) s h = never s 4 [] h
session_within clusters some (string t) s h = never s 4 [] h
session_within clusters some (array ds) s h = never s 4 [] h
session_within clusters some (object ms) s h =
    let a = first_means (guard (are_keys (codes "cluster" ∷ codes "commands" ∷ []) ms) 4) (λ _. session_in clusters (object ms)) s h in
    session_inside clusters (object ms) s some a.2

-- there are at most 64 sessions
pub few_sessions : (clusters : ℕ) (o : Option Data) (ss : List SessionScript) → member_of (codes "sessions") 2 (sessions_of clusters) o (Means ss) → length ss ≤ 64
few_sessions clusters o ss h = (member_holds (IsShort 64 IsAny) (codes "sessions") 2 (sessions_of clusters) (few_short IsAny 64 4 (session_of clusters) (λ e x g. tt)) o ss h).0

-- the script that an outcome is
abbrev read_in : Outcome (Result Script TextFault) → Bool
read_in (Means (Ok s)) = true
read_in _ = false

abbrev script_in_it : Script → Outcome (Result Script TextFault) → Script
script_in_it z (Means (Ok s)) = s
script_in_it z _ = z

-- ---- types

-- a name that isn't registered
is_new : (types : List TypeDef) (d : TypeDef) → type_fault types d ≡ None → type_named types d.name ≡ None
is_new types d h = by (type_named types d.name) _ h
  where
    by : (o : Option TypeDef) (p : Option ℕ) → cond (is_some o) (Some 1) p ≡ None → o ≡ None
    by None p k = refl
    by (Some x) p k = absurd (none-some 1 (sym k))

-- what is asked of the laws of types
abbrev pub AddedKeepTheRules : Type 0
AddedKeepTheRules = (types : List TypeDef) (d : TypeDef) (t : Nodes) → type_named types d.name ≡ None → TypesOk types t → TypesOk (types ++ d ∷ []) t

abbrev pub CanBePrinted : Type 0
CanBePrinted = (text : List ℕ) (cnd : Cnd) → IsMeaning text (Ok cnd) → IsPrintable cnd

-- types, and more that keep the rules
record Begins (types all : List TypeDef) : Type 0 where
  more : List TypeDef
  begin : all ≡ types ++ more
  rules : KeepRules types more

listed_begins : (types all : List TypeDef) (i : ℕ) (ds : Items) → added types i ds (Means all) → Begins types all
listed_begins types all i no_items h = record { more = []; begin = same _ _ h ∙ sym (append-nil types); rules = tt }
listed_begins types all i (item d ds) h =
    let a = first_means (under (Index i) (with_type types d)) (λ more. added more (i + 1) ds) all h in
    let b = listed_begins a.0 all (i + 1) ds a.2 in
    record {
      more = a.1.0 ∷ b.more;
      begin = b.begin ∙ (ap (λ ts. ts ++ b.more) a.1.3 ∙ append_assoc types (a.1.0 ∷ []) b.more);
      rules = (a.1.2, subst (λ ts. KeepRules ts b.more) a.1.3 b.rules);
    }

abbrev AreTypesIf : Types → Type 0
AreTypesIf (Ok types) = AreTypes types
AreTypesIf (Err fault) = Unit {0}

module _ (keep : AddedKeepTheRules) (first : TypesOk builtin initial_tree) (printed : CanBePrinted) where
  still_ok : (types more : List TypeDef) → KeepRules types more → TypesOk types initial_tree → TypesOk (types ++ more) initial_tree
  still_ok types [] k ok = subst (λ ts. TypesOk ts initial_tree) (sym (append-nil types)) ok
  still_ok types (d ∷ ds) k ok =
      subst (λ ts. TypesOk ts initial_tree) (append_assoc types (d ∷ []) ds) (still_ok (types ++ d ∷ []) ds k.1 (keep types d initial_tree (is_new types d k.0) ok))

  are_types : (more all : List TypeDef) → all ≡ builtin ++ more → KeepRules builtin more → AreTypes all
  are_types more all begin rules = record {
    more = more;
    begin = begin;
    rules = rules;
    typed = subst (λ ts. TypesOk ts initial_tree) (sym begin) (still_ok builtin more rules first);
  }

  written_types : (text : List ℕ) (types : Types) → written_of text (Means types) → AreTypesIf types
  written_types text (Ok types) h = are_types h.0.definitions types h.2 (printed text h.0 h.1).rules
  written_types text (Err fault) h = tt

  listed_types : (ds : Items) (types : Types) → listed_of ds (Means types) → AreTypesIf types
  listed_types ds types h =
      let a = first_means (added builtin 0 ds) (λ all. is (Means (Ok all))) types h in
      let b = listed_begins builtin a.0 0 ds a.1 in
      subst AreTypesIf (sym (same _ _ a.2)) (are_types b.more a.0 b.begin b.rules)

  types_within : (d : Data) (types : Types) → types_read d (Means types) → AreTypesIf types
  types_within null types h = never types 9 [] h
  types_within (boolean b) types h = never types 9 [] h
  types_within (number n) types h = never types 9 [] h
  types_within (string t) types h = written_types t types h
  types_within (array ds) types h = listed_types ds types h
  types_within (object ms) types h = never types 9 [] h

  no_more_types : AreTypes builtin
  no_more_types = are_types [] builtin (sym (append-nil builtin)) tt

  -- ---- the whole

  -- the sessions are at the cluster nodes, and the entries are for the sessions
  record AreTurns (clusters : ℕ) (turns : Turns) : Type 0 where
    few : length turns.sessions ≤ 64
    sessions : All (IsSessionWithin clusters) turns.sessions
    short : length turns.schedule ≤ 1000000
    entries : All (IsEntryWithin (length turns.sessions)) turns.schedule

  turns_inside : (clusters : ℕ) (d : Data) (turns : Turns) → 1 ≤ clusters → turns_in clusters d (Means turns) → AreTurns clusters turns
  turns_inside clusters d turns some h =
      let b = first_means (member_of (codes "sessions") 2 (sessions_of clusters) (get (codes "sessions") d)) _ turns h in
      let c = first_means (optional_of (codes "schedule") [] (schedule_of (length b.0)) (get (codes "schedule") d)) _ turns b.2 in
      let sessions = member_holds (IsShort 64 (IsSessionWithin clusters)) (codes "sessions") 2 (sessions_of clusters) (few_short (IsSessionWithin clusters) 64 4 (session_of clusters) (session_within clusters some)) (get (codes "sessions") d) b.0 b.1 in
      let entries =
      optional_holds (IsShort 1000000 (IsEntryWithin (length b.0))) (codes "schedule") [] (schedule_of (length b.0)) (omega arith, none_read (IsEntryWithin (length b.0))) (few_short (IsEntryWithin (length b.0)) 1000000 8 (entry_of (length b.0)) (λ e x g. g.1))
      (get (codes "schedule") d) c.0 c.1 in
      subst (AreTurns clusters) (sym (same _ _ c.2)) (record { few = sessions.0; sessions = sessions.1; short = entries.0; entries = entries.1 })

  over_inside : (d : Data) (clusters : ℕ) (types : Types) (s : Script) → IsUpTo 8 clusters → AreTypesIf types → where_read (script_over d clusters) types (Means (Ok s)) → IsWithin s
  over_inside d clusters (Err fault) s nodes are h = absurd (false≢true (sym (ap read_in h)))
  over_inside d clusters (Ok types) s nodes are h =
      let a = first_means (turns_in clusters d) _ (Ok s) h in
      let turns = turns_inside clusters d a.0 nodes.0 a.1 in
      subst IsWithin (sym (ap (script_in_it s) a.2))
      (record { some = nodes.0; nodes = nodes.1; types = are; few = turns.few; sessions = turns.sessions; short = turns.short; entries = turns.entries })

  script_inside : (d : Data) (s : Script) → script_in d (Means (Ok s)) → IsWithin s
  script_inside d s h =
      let a = first_means (optional_of (codes "clusters") 1 clusters_of (get (codes "clusters") d)) _ (Ok s) h in
      let b = first_means (optional_of (codes "types") (Ok builtin) types_read (get (codes "types") d)) (where_read (script_over d a.0)) (Ok s) a.2 in
      let nodes = optional_holds (IsUpTo 8) (codes "clusters") 1 clusters_of (omega arith, omega arith) (λ e n g. (g.1, g.2)) (get (codes "clusters") d) a.0 a.1 in
      let types = optional_holds AreTypesIf (codes "types") (Ok builtin) types_read no_more_types types_within (get (codes "types") d) b.0 b.1 in
      over_inside d a.0 b.0 s nodes types b.2

  pub script_within : (d : Data) (s : Script) → IsScript d s → IsWithin s
  script_within null s h = never (Ok s) 2 [] h
  script_within (boolean b) s h = never (Ok s) 2 [] h
  script_within (number n) s h = never (Ok s) 2 [] h
  script_within (string t) s h = never (Ok s) 2 [] h
  script_within (array ds) s h = never (Ok s) 2 [] h
  script_within (object ms) s h =
      let a = first_means (guard (are_keys (codes "clusters" ∷ codes "types" ∷ codes "sessions" ∷ codes "schedule" ∷ []) ms) 2) _ (Ok s) h in
      let b = first_means (guard _ 2) (λ _. script_in (object ms)) (Ok s) a.2 in
      script_inside (object ms) s b.2
