-- The commands of a script mean commands.
use Rattle.std.proofs.Common.{◌≡◌, ℕ, zero, suc, ◌<◌, ◌≤◌, Bool, true, false, ◌==◌, ◌^◌, if◌then◌else◌, pos, List, [], ◌∷◌, ◌++◌, None, All, IsUtf8, codes, refl, arith}
use Rattle.std.proofs.lemmas.List.Elements.{All-append, All-cons, All-nil}
use Rattle.serde_json.specs.Data.{Data, boolean, number, string, unsigned}
use Rattle.serde_json.specs.View.{items_of}
use Rattle.json.proofs.Printed.Utf8.{IsUtf8-are_ascii, are_ascii}
use Rattle.jr_path.specs.declared.name.Name.{Name}
use Rattle.jr_path.specs.declared.path.Path.{Path}
use Rattle.jr_value.specs.declared.value.Property.{Property}
use Rattle.jr_value.specs.declared.value.Property.TheVariants.{Single}
use Rattle.jr_value.specs.declared.value.Value.TheVariants as value
use Rattle.jcr_trans.specs.declared.command.Command.{Command}
use Rattle.jcr_trans.specs.declared.command.Command.TheVariants as made
use Rattle.jr_args.specs.Commands as args
use Rattle.jr_args.specs.Outcomes.{Means}
use Rattle.jr_args.proofs.Readings.{means}
use Rattle.jr_gen.specs.declared.rounds.Round.TheVariants as round
use Rattle.jr_gen.specs.Draws.{draw}
use Rattle.jr_gen.specs.Rounds.{after_round, round_kind, round_at, round_of}
use Rattle.jr_gen.specs.Scripts.{session_beginning, command, round_command, commands_data, ending, session_node, property_name, property_path, rounds_data}
use Rattle.jr_gen.proofs.Lists.{IsGood}
use Rattle.jr_gen.proofs.Paths.{name_utf8, node_is_path, node_name, node_utf8, number_is_long, property_is_path, property_named, property_utf8}
use Rattle.jr_gen.proofs.Sizes.{draw_below}
use Rattle.jr_gen.proofs.Spelled.{AreReadBack, array_back, boolean_back, item_back, no_items_back, number_back, string_back}

abbrev pub IsAny : {X : Type 0} → X → Type 0
IsAny x = Unit {0}

-- JSON that is a command
abbrev pub IsCommand : Data → Type 0
IsCommand d = IsGood 1 args.command_of IsAny d

-- a command: its JSON is that of a word and of arguments that are read back
said : (name : List ℕ) (ds : List Data) (c : Command) → are_ascii name ≡ true → AreReadBack 0 (items_of ds)
    → args.command_of (command name ds) (Means c) → IsCommand (command name ds)
said name ds c text back h = record {
  back =
      array_back 0 (items_of (string name ∷ ds))
      (item_back 0 (string name) (items_of ds) (string_back 0 name (IsUtf8-are_ascii name text)) back);
  thing = c;
  means = h;
  holds = tt;
}

nothing : AreReadBack 0 (items_of [])
nothing = no_items_back 0

text_then : (text : List ℕ) (ds : List Data) → IsUtf8 text → AreReadBack 0 (items_of ds)
    → AreReadBack 0 (items_of (string text ∷ ds))
text_then text ds h rest = item_back 0 (string text) (items_of ds) (string_back 0 text h) rest

saves : IsCommand (command (codes "save") [])
saves = said (codes "save") [] made.Save refl nothing (means _ _ tt _ refl refl)

writes_back : IsCommand (command (codes "backWrite") [])
writes_back = said (codes "backWrite") [] made.BackWrite refl nothing (means _ _ tt _ refl refl)

reads_back : IsCommand (command (codes "backRead") [])
reads_back = said (codes "backRead") [] made.BackRead refl nothing (means _ _ tt _ refl refl)

refreshes : IsCommand (command (codes "refresh") (boolean false ∷ []))
refreshes =
    said (codes "refresh") (boolean false ∷ []) (made.Refresh false) refl
    (item_back 0 (boolean false) (items_of []) (boolean_back 0 false) nothing) (means _ _ tt _ refl refl)

adds : (s : ℕ) → s < 64 → IsCommand (command (codes "add") (string (session_node s) ∷ []))
adds s less =
    let path : Path = node_name s ∷ [] in
    said (codes "add") (string (session_node s) ∷ []) (made.Add path None) refl
    (text_then (session_node s) [] (node_utf8 s less) nothing)
    (means _ _ tt _ refl (means _ _ path _ (node_is_path s less) (means _ _ None _ refl refl)))

gets : (s i : ℕ) → s < 64 → i < 8 → IsCommand (command (codes "get") (string (property_path s i) ∷ []))
gets s i less few =
    let path : Path = node_name s ∷ property_name i ∷ [] in
    said (codes "get") (string (property_path s i) ∷ []) (made.Get path) refl
    (text_then (property_path s i) [] (property_utf8 s i less few) nothing)
    (means _ _ tt _ refl (means _ _ path _ (property_is_path s i less few) refl))

sets : (s i w : ℕ) → s < 64 → i < 8 → w < 2 ^ 63 → IsCommand (round_command s (round.Set i w))
sets s i w less few small =
    let path : Path = node_name s ∷ [] in
    let name : Name = property_name i in
    let named = property_named i few in
    let property : Property = Single (value.Long (pos w)) in
    said (codes "set") (string (session_node s) ∷ string (property_name i) ∷ number (unsigned w) ∷ [])
    (made.Set path name property) refl
    (text_then (session_node s) (string (property_name i) ∷ number (unsigned w) ∷ []) (node_utf8 s less)
    (text_then (property_name i) (number (unsigned w) ∷ []) (name_utf8 (property_name i) named)
    (item_back 0 (number (unsigned w)) (items_of []) (number_back 0 w (omega (arith, small))) nothing)))
    (means _ _ tt _ refl
    (means _ _ path _ (node_is_path s less)
    (means _ _ name _ (named, refl) (means _ _ property _ (number_is_long w small) refl))))

-- ---- rounds

-- a round's command, by its kind
round_good : (s m x kind : ℕ) → s < 64 → 0 < m → m ≤ 64 → IsCommand (round_command s (round_of kind m x))
round_good s m x kind less some few = by (kind == 0) (kind == 1) (kind == 2)
  where
    set : IsCommand (round_command s (round.Set (draw 2 8 x) (draw 3 1000 x)))
    set =
        sets s (draw 2 8 x) (draw 3 1000 x) less (draw_below 2 8 x (omega arith))
        (omega (arith, draw_below 3 1000 x (omega arith)))

    got : IsCommand (round_command s (round.Get (draw 2 m x) (draw 3 8 x)))
    got =
        gets (draw 2 m x) (draw 3 8 x) (omega (arith, few, draw_below 2 m x some))
        (draw_below 3 8 x (omega arith))

    by : (a b c : Bool)
        → IsCommand (round_command s
        (if a then round.Set (draw 2 8 x) (draw 3 1000 x)
        else if b then round.Save
        else if c then round.Get (draw 2 m x) (draw 3 8 x)
        else round.Refresh))
    by true b c = set
    by false true c = saves
    by false false true = got
    by false false false = refreshes

rounds_good : (k s m x : ℕ) → s < 64 → 0 < m → m ≤ 64 → All IsCommand (rounds_data k s m x)
unfolding rounds_data
rounds_good zero s m x less some few = All-nil IsCommand
rounds_good (suc k) s m x less some few =
    All-cons IsCommand (round_command s (round_at m x)) (rounds_data k s m (after_round x))
    (round_good s m x (round_kind x) less some few) (rounds_good k s m (after_round x) less some few)

two_good : (a b : Data) → IsCommand a → IsCommand b → All IsCommand (a ∷ b ∷ [])
two_good a b first second =
    All-cons IsCommand a (b ∷ []) first (All-cons IsCommand b [] second (All-nil IsCommand))

-- the commands of a session
pub commands_good : (s m x : ℕ) → s < 64 → 0 < m → m ≤ 64 → All IsCommand (commands_data s m x)
commands_good s m x less some few =
    let rounds = rounds_good 100 s m x less some few in
    let add : Data = command (codes "add") (string (session_node s) ∷ []) in
    let save : Data = command (codes "save") [] in
    All-append IsCommand (session_beginning s) (rounds_data 100 s m x ++ ending) (two_good add save (adds s less) saves)
    (All-append IsCommand (rounds_data 100 s m x) ending rounds (two_good _ _ writes_back reads_back))
