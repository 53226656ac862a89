-- The text of a script that is made is that of a script.
use Rattle.std.proofs.Common.{◌≡◌, ◌∙◌, ℕ, zero, suc, ◌+◌, ◌*◌, ◌%◌, ◌<◌, ◌≤◌, Bool, true, false, List, [], ◌∷◌, Option, Some, None, Result, Ok, Err, All, codes, inl, inr, length, refl, sym, subst, ap, arith, le-leb, min}
use Rattle.std.specs.Prelude.{nat_le, unwrap_or}
use Rattle.std.proofs.Math.Nat.{mod-lt}
use Rattle.std.proofs.lemmas.Bool.{cases_lt}
use Rattle.std.proofs.lemmas.List.Elements.{All-cons, All-head, All-nil, All-tail, All-weaker}
use Rattle.std.proofs.lemmas.List.Sums.{sum_by-cons}
use Rattle.json.proofs.Printed.Utf8.{IsUtf8-are_ascii}
use Rattle.serde_json.specs.Data.{Data, Members, member, no_members, null, number, object, unsigned}
use Rattle.serde_json.specs.Events.{items_len}
use Rattle.serde_json.specs.View.{items_of}
use Rattle.jcr_trans.specs.declared.command.Command.{Command}
use Rattle.jcr_trans.specs.declared.command.SessionScript.{SessionScript}
use Rattle.jr_args.specs.Commands as args
use Rattle.jr_args.specs.Outcomes.{Breaks, Means, Outcome, Reading, guard}
use Rattle.jr_args.proofs.Readings.{means}
use Rattle.jr_builtin.specs.Builtin.{builtin}
use Rattle.jr_script.specs.Numbers.{whole}
use Rattle.jr_script.specs.Schedules.{entry_of}
use Rattle.jr_script.specs.Scripts.{IsFault, IsJson, IsScript, clusters_of, few_of, schedule_of, script_of, session_of, sessions_of}
use Rattle.jr_script.specs.declared.script.Entry.{Entry}
use Rattle.jr_script.specs.declared.script.Entry.TheVariants as entry
use Rattle.jr_script.specs.declared.script.Script.{Script}
use Rattle.jr_script.specs.declared.script.ScriptFault.TheVariants.{Bad}
use Rattle.jr_script.specs.declared.script.TextFault.{TextFault}
use Rattle.jr_gen.specs.Rounds.{after_rounds}
use Rattle.jr_gen.specs.Scripts.{IsTurn, commands_data, json_list, script_data, script_text, session_data, sessions_data, turns_data}
use Rattle.jr_gen.specs.Sizes.{HasAllCommands, IsOfSize, commands_in}
use Rattle.jr_gen.proofs.Meanings.{IsAny, commands_good}
use Rattle.jr_gen.proofs.Lists.{IsGood, are_back, are_meant}
use Rattle.jr_gen.proofs.Sizes.{all_turns, commands_size, sessions_size, turns_size}
use Rattle.jr_gen.proofs.Spelled.{IsReadBack, array_back, line_read, line_utf8, member_back, no_members_back, number_back, object_back, put_all}
use mathlib.Core.Bool.{false≢true}

-- ---- lists

-- a guard whose test holds is passed
passed : (b : Bool) (rule : ℕ) → b ≡ true → guard b rule (Means tt)
passed b rule h = subst (λ (c : Bool). guard c rule (Means tt)) (sym h) refl

as_many : (ds : List Data) → items_len (items_of ds) ≡ length ds
as_many [] = refl
as_many (d ∷ ds) = ap suc (as_many ds)

-- as many things as there are in a list, of each of which the fact holds
abbrev AreAll : {X : Type 0} → (X → Type 0) → List Data → List X → Type 0
AreAll P ds xs = (length xs ≡ length ds) × All P xs

-- a list that isn't too long
few_good : {X : Type 0} (n most rule : ℕ) (M : Data → Reading X) (P : X → Type 0) (ds : List Data)
    → length ds ≤ most → All (IsGood n M P) ds
    → IsGood (suc n) (few_of most rule M) (AreAll P ds) (json_list ds)
few_good n most rule M P ds few h =
    let meant = are_meant n M P 0 ds h in
    record {
      back = array_back n (items_of ds) (are_back n M P ds h);
      thing = meant.things;
      means =
          means _ _ tt _
          (passed (nat_le (items_len (items_of ds)) most) rule
          (ap (λ k. nat_le k most) (as_many ds) ∙ le-leb (length ds) most few))
          meant.means;
      holds = (meant.size, meant.hold);
    }

-- ---- sessions

-- the two members of a session are in order
session_ordered : (a b : Data) → put_all (member (codes "cluster") a (member (codes "commands") b no_members)) no_members
    ≡ member (codes "cluster") a (member (codes "commands") b no_members)
session_ordered a b = refl

-- what the two members of a session mean
session_means : (clusters cluster : ℕ) (a b : Data) (commands : List Command)
    → a ≡ whole cluster → 1 ≤ cluster → cluster ≤ clusters → few_of 10000 4 args.command_of b (Means commands)
    → session_of clusters (object (member (codes "cluster") a (member (codes "commands") b no_members)))
    (Means (record { cluster = cluster; commands = commands }))
session_means clusters cluster a b commands is some near h =
    means _ _ tt _ refl
    (means _ _ cluster _ (is, some, near) (means _ _ commands _ h refl))

half : (s : ℕ) → s % 2 < 2
half s = mod-lt s (omega arith)

-- one of two clusters, or of one for a single session
cluster_near : (s m : ℕ) → s < m → 1 + s % 2 ≤ min m 2
cluster_near s m less = elim (cases_lt m 2) [
  | inl one ↦
      let none : s ≡ 0 = omega (arith, less, one) in
      subst (λ (t : ℕ). 1 + t % 2 ≤ min m 2) (sym none) (omega (arith, less))
  | inr two ↦ omega (arith, two, half s)
]

session_good : (s m x : ℕ) → s < m → m ≤ 64
    → IsGood 3 (session_of (min m 2)) HasAllCommands (session_data s m x)
session_good s m x less few =
    let all = commands_good s m x (omega (arith, less, few)) (omega (arith, less)) few in
    let commands = few_good 1 10000 4 args.command_of IsAny (commands_data s m x) (omega (arith, commands_size s m x)) all in
    let cluster : ℕ = 1 + s % 2 in
    let a : Data = number (unsigned cluster) in
    let b : Data = json_list (commands_data s m x) in
    let near = cluster_near s m less in
    record {
      back =
          object_back 2 (member (codes "cluster") a (member (codes "commands") b no_members)) (session_ordered a b)
          (member_back 2 (codes "cluster") a _ (IsUtf8-are_ascii (codes "cluster") refl) (number_back 2 cluster (omega (arith, half s)))
          (member_back 2 (codes "commands") b _ (IsUtf8-are_ascii (codes "commands") refl) commands.back (no_members_back 2)));
      thing = record { cluster = cluster; commands = commands.thing };
      means = session_means (min m 2) cluster a b commands.thing refl (omega arith) near commands.means;
      holds = commands.holds.0 ∙ commands_size s m x;
    }

sessions_good : (k s m x : ℕ) → s + k ≤ m → m ≤ 64
    → All (IsGood 3 (session_of (min m 2)) HasAllCommands) (sessions_data k s m x)
unfolding sessions_data
sessions_good zero s m x within few = All-nil (IsGood 3 (session_of (min m 2)) HasAllCommands)
sessions_good (suc k) s m x within few =
    All-cons (IsGood 3 (session_of (min m 2)) HasAllCommands) (session_data s m x) (sessions_data k (s + 1) m (after_rounds 100 x))
    (session_good s m x (omega (arith, within)) few)
    (sessions_good k (s + 1) m (after_rounds 100 x) (omega (arith, within)) few)

-- ---- the schedule

turn_good : (m : ℕ) → m ≤ 64 → (d : Data) → IsTurn m d → IsGood 3 (entry_of m) IsAny d
turn_good m few d turn =
    subst (IsGood 3 (entry_of m) IsAny) (sym turn.2) (record {
      back = number_back 3 turn.0 (omega (arith, turn.1, few));
      thing = entry.Turn turn.0;
      means = (refl, record { named = turn.1; some = omega arith; few = omega arith });
      holds = tt;
    })

turns_good : (k m x : ℕ) → 0 < m → m ≤ 64 → All (IsGood 3 (entry_of m) IsAny) (turns_data k m x)
turns_good k m x some few =
    All-weaker (IsTurn m) (IsGood 3 (entry_of m) IsAny) (turn_good m few) (turns_data k m x) (all_turns k m x some)

-- ---- the whole

-- an object of the three members of a script
abbrev three : Data → Data → Data → Members
three a b c =
    member (codes "clusters") a (member (codes "schedule") b (member (codes "sessions") c no_members))

three_ordered : (a b c : Data) → put_all (three a b c) no_members ≡ three a b c
three_ordered a b c = refl

script_means : (a b c : Data) (clusters : ℕ) (sessions : List SessionScript) (schedule : List Entry)
    → clusters_of a (Means clusters) → sessions_of clusters c (Means sessions)
    → schedule_of (length sessions) b (Means schedule)
    → IsScript (object (three a b c)) (record { clusters = clusters; types = builtin; sessions = sessions; schedule = schedule })
script_means a b c clusters sessions schedule h g k =
    means _ _ tt _ refl
    (means _ _ tt _ refl
    (means _ _ clusters _ h
    (means _ _ (Ok builtin) _ refl
    (means _ _ (record { sessions = sessions; schedule = schedule }) _
    (means _ _ sessions _ g (means _ _ schedule _ k refl)) refl))))

-- how many commands there are where each session has 104
all_commands : (sessions : List SessionScript) → All HasAllCommands sessions → commands_in sessions ≡ 104 * length sessions
all_commands [] h = refl
all_commands (s ∷ ss) h =
    let first : length s.commands ≡ 104 = All-head HasAllCommands s ss h in
    omega (arith, sum_by-cons (λ (s : SessionScript). length s.commands) s ss, first, all_commands ss (All-tail HasAllCommands s ss h))

-- JSON that is read back, and is a script for m sessions
record IsWhole (m : ℕ) (d : Data) : Type 0 where
  back : IsReadBack 5 d
  script : Script
  is : IsScript d script
  sized : IsOfSize m script

whole_good : (seed m : ℕ) → 0 < m → m ≤ 64 → IsWhole m (script_data seed m)
whole_good seed m some few =
    let clusters : ℕ = min m 2 in
    let turns = turns_data (100 * m) m (after_rounds (100 * m) seed) in
    let a : Data = number (unsigned clusters) in
    let b : Data = json_list turns in
    let c : Data = json_list (sessions_data m 0 m seed) in
    let sessions =
    few_good 3 64 4 (session_of clusters) HasAllCommands (sessions_data m 0 m seed)
    (omega (arith, sessions_size m 0 m seed, few)) (sessions_good m 0 m seed (omega arith) few) in
    let schedule =
    few_good 3 1000000 8 (entry_of m) IsAny turns
    (omega (arith, turns_size (100 * m) m (after_rounds (100 * m) seed), few))
    (turns_good (100 * m) m (after_rounds (100 * m) seed) some few) in
    let size : length sessions.thing ≡ m = sessions.holds.0 ∙ sessions_size m 0 m seed in
    record {
      back =
          object_back 4 (three a b c) (three_ordered a b c)
          (member_back 4 (codes "clusters") a _ (IsUtf8-are_ascii (codes "clusters") refl) (number_back 4 clusters (omega arith))
          (member_back 4 (codes "schedule") b _ (IsUtf8-are_ascii (codes "schedule") refl) schedule.back
          (member_back 4 (codes "sessions") c _ (IsUtf8-are_ascii (codes "sessions") refl) sessions.back (no_members_back 4))));
      script = record { clusters = clusters; types = builtin; sessions = sessions.thing; schedule = schedule.thing };
      is =
          script_means a b c clusters sessions.thing schedule.thing (refl, omega (arith, some), omega arith) sessions.means
          (subst (λ (n : ℕ). schedule_of n b (Means schedule.thing)) (sym size) schedule.means);
      sized = record {
        sessions = size;
        commands = sessions.holds.1;
        all = all_commands sessions.thing sessions.holds.1 ∙ ap (λ (n : ℕ). 104 * n) size;
      };
    }

-- ---- what is told of the text

-- JSON has one outcome at most
abbrev pub IsOneOutcome : Type 0
IsOneOutcome = (d : Data) (o p : Outcome (Result Script TextFault)) → script_of d o → script_of d p → o ≡ p

-- a script that the text spells
abbrev pub IsSpelled : List ℕ → Type 0
IsSpelled text = (script : Script) × (d : Data) × IsJson text d × IsScript d script

-- the text is that of the JSON
is_json : (seed m : ℕ) → 0 < m → m ≤ 64 → IsJson (script_text seed m) (script_data seed m)
is_json seed m some few =
    let back = (whole_good seed m some few).back in
    (line_utf8 5 (script_data seed m) back, line_read 5 (script_data seed m) (omega arith) back)

pub are_spelled : (seed m : ℕ) → 0 < m → m ≤ 64 → IsSpelled (script_text seed m)
are_spelled seed m some few =
    let whole = whole_good seed m some few in
    (whole.script, script_data seed m, is_json seed m some few, whole.is)

-- two JSON values of one text are one
one_json : (text : List ℕ) (d e : Data) → IsJson text d → IsJson text e → d ≡ e
one_json text d e h g = ap (λ (o : Option Data). unwrap_or o null) (sym h.1 ∙ g.1)

abbrev is_meant : Outcome (Result Script TextFault) → Bool
is_meant (Means (Ok script)) = true
is_meant _ = false

abbrev script_meant : Script → Outcome (Result Script TextFault) → Script
script_meant other (Means (Ok script)) = script
script_meant other _ = other

module _ (one : IsOneOutcome) where
  -- no other outcome than a script
  no_other : (text : List ℕ) → IsSpelled text → (d : Data) (o : Outcome (Result Script TextFault)) → IsJson text d
      → script_of d o → is_meant o ≡ true
  no_other text h d o json meant =
      let same : h.1 ≡ d = one_json text h.1 d h.2 json in
      sym (ap is_meant (one d (Means (Ok h.0)) o (subst (λ (e : Data). IsScript e h.0) same h.3) meant))

  pub unbroken : (text : List ℕ) → IsSpelled text → (rule : ℕ) (pointer : List ℕ) (offset : Option ℕ)
      → IsFault text (Bad rule pointer offset) → ⊥
  unbroken text h rule pointer None (inl none) = none.2 h.1 h.2
  unbroken text h rule pointer None (inr broken) =
      false≢true (no_other text h broken.0 (Breaks rule broken.1) broken.2 broken.3)
  unbroken text h rule pointer (Some offset) bad =
      false≢true (no_other text h bad.2.0 (Means (Err (record { offset = offset }))) bad.2.1 bad.2.2)

  pub sized : (seed m : ℕ) → 0 < m → m ≤ 64 → (d : Data) (script : Script) → IsJson (script_text seed m) d
      → IsScript d script → IsOfSize m script
  sized seed m some few d script json is =
      let whole = whole_good seed m some few in
      let same : script_data seed m ≡ d =
      one_json (script_text seed m) (script_data seed m) d (is_json seed m some few) json in
      let outcome = one d (Means (Ok whole.script)) (Means (Ok script)) (subst (λ (e : Data). IsScript e whole.script) same whole.is) is in
      subst (IsOfSize m) (ap (script_meant whole.script) outcome) whole.sized
