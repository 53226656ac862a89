-- The names of commands, and the arguments that stand behind each.
use Rattle.std.specs.Prelude.{ℕ, Bool, true, false, ◌&&◌, ◌||◌, List, [], ◌∷◌, Option, Some, None, find, codes, is_some, nat_le, option_and_then, if◌then◌else◌}
use Rattle.std.specs.Str.{bytes_eq}
use Rattle.serde_json.specs.Data.{Data, Items, no_items, item}
use Rattle.serde_json.specs.Find.{as_bool, as_null, as_number, as_u64}
use Rattle.jr_args.specs.Trees.{is_object, is_json_text, is_tree}
use Rattle.jr_args.specs.declared.word.Word.{Word}
use Rattle.jr_args.specs.declared.word.Word.TheVariants as word
use Rattle.jr_args.specs.declared.word.Bare.TheVariants as bare
use Rattle.jr_args.specs.declared.word.OnPath.TheVariants as on_path
use Rattle.jr_args.specs.declared.word.OnText.TheVariants as on_text
use Rattle.jr_args.specs.declared.word.OnName.TheVariants as on_name
use Rattle.jr_args.specs.declared.word.OnNode.TheVariants as on_node
use Rattle.jr_args.specs.declared.word.Kind.{Kind}
use Rattle.jr_args.specs.declared.word.Kind.TheVariants as kind

-- the name of a command
abbrev pub word_text : Word → List ℕ
word_text (word.Bare bare.Save) = codes "save"
word_text (word.Bare bare.Head) = codes "head"
word_text (word.Bare bare.Events) = codes "events"
word_text (word.Bare bare.BackWrite) = codes "backWrite"
word_text (word.Bare bare.BackRead) = codes "backRead"
word_text (word.Bare bare.Sweep) = codes "sweep"
word_text (word.Bare bare.Collect) = codes "collect"
word_text (word.Bare bare.Checkpoint) = codes "checkpoint"
word_text (word.Bare bare.Detach) = codes "detach"
word_text (word.OnPath on_path.Remove) = codes "remove"
word_text (word.OnPath on_path.Get) = codes "get"
word_text (word.OnPath on_path.List) = codes "list"
word_text (word.OnPath on_path.Props) = codes "props"
word_text (word.OnPath on_path.Id) = codes "id"
word_text (word.OnPath on_path.Refs) = codes "refs"
word_text (word.OnPath on_path.Unlock) = codes "unlock"
word_text (word.OnPath on_path.Checkin) = codes "checkin"
word_text (word.OnPath on_path.Checkout) = codes "checkout"
word_text (word.OnPath on_path.Versions) = codes "versions"
word_text (word.OnPath on_path.Split) = codes "split"
word_text (word.OnText on_text.ById) = codes "byId"
word_text (word.OnText on_text.Token) = codes "token"
word_text (word.OnText on_text.DropToken) = codes "dropToken"
word_text (word.OnText on_text.Attach) = codes "attach"
word_text (word.OnText on_text.Release) = codes "release"
word_text (word.OnName on_name.Unset) = codes "unset"
word_text (word.OnName on_name.Mixin) = codes "mixin"
word_text (word.OnName on_name.Unmixin) = codes "unmixin"
word_text (word.OnName on_name.SetType) = codes "type"
word_text (word.OnName on_name.Unlabel) = codes "unlabel"
word_text (word.OnNode on_node.Stop) = codes "stop"
word_text (word.OnNode on_node.Recover) = codes "recover"
word_text word.Add = codes "add"
word_text word.Tree = codes "tree"
word_text word.Set = codes "set"
word_text word.Move = codes "move"
word_text word.Refresh = codes "refresh"
word_text word.Lock = codes "lock"
word_text word.Restore = codes "restore"
word_text word.Label = codes "label"
word_text word.Observe = codes "observe"
word_text word.Query = codes "query"
word_text word.OrderBefore = codes "orderBefore"

-- the word of each command
abbrev pub all_words : List Word
all_words = word.Bare bare.Save ∷ word.Bare bare.Head ∷ word.Bare bare.Events ∷ word.Bare bare.BackWrite ∷ word.Bare bare.BackRead
    ∷ word.Bare bare.Sweep ∷ word.Bare bare.Collect ∷ word.Bare bare.Checkpoint ∷ word.Bare bare.Detach
    ∷ word.OnPath on_path.Remove ∷ word.OnPath on_path.Get ∷ word.OnPath on_path.List ∷ word.OnPath on_path.Props ∷ word.OnPath on_path.Id
    ∷ word.OnPath on_path.Refs ∷ word.OnPath on_path.Unlock ∷ word.OnPath on_path.Checkin ∷ word.OnPath on_path.Checkout
    ∷ word.OnPath on_path.Versions ∷ word.OnPath on_path.Split
    ∷ word.OnText on_text.ById ∷ word.OnText on_text.Token ∷ word.OnText on_text.DropToken ∷ word.OnText on_text.Attach ∷ word.OnText on_text.Release
    ∷ word.OnName on_name.Unset ∷ word.OnName on_name.Mixin ∷ word.OnName on_name.Unmixin ∷ word.OnName on_name.SetType ∷ word.OnName on_name.Unlabel
    ∷ word.OnNode on_node.Stop ∷ word.OnNode on_node.Recover
    ∷ word.Add ∷ word.Tree ∷ word.Set ∷ word.Move ∷ word.Refresh ∷ word.Lock ∷ word.Restore ∷ word.Label ∷ word.Observe ∷ word.Query
    ∷ word.OrderBefore ∷ []

-- the word that is written so
abbrev pub word_named : List ℕ → Option Word
word_named text = find (λ w. bytes_eq (word_text w) text) all_words

-- the arguments of a command, in order
abbrev pub kinds_of : Word → List Kind
kinds_of (word.Bare w) = []
kinds_of (word.OnPath w) = kind.Path ∷ []
kinds_of (word.OnText w) = kind.Text ∷ []
kinds_of (word.OnName w) = kind.Path ∷ kind.Name ∷ []
kinds_of (word.OnNode w) = kind.Number ∷ []
kinds_of word.Add = kind.Path ∷ kind.OptionalName ∷ []
kinds_of word.Tree = kind.Path ∷ kind.Tree ∷ []
kinds_of word.Set = kind.Path ∷ kind.Name ∷ kind.Value ∷ []
kinds_of word.Move = kind.Path ∷ kind.Path ∷ []
kinds_of word.Refresh = kind.Truth ∷ []
kinds_of word.Lock = kind.Path ∷ kind.Truth ∷ []
kinds_of word.Restore = kind.Path ∷ kind.Text ∷ []
kinds_of word.Label = kind.Path ∷ kind.Text ∷ kind.Name ∷ kind.Truth ∷ []
kinds_of word.Observe = kind.Path ∷ kind.Truth ∷ kind.Mask ∷ []
kinds_of word.Query = kind.Text ∷ kind.OptionalVariables ∷ []
kinds_of word.OrderBefore = kind.Path ∷ kind.NameOrNull ∷ []

-- the JSON value is a number
abbrev pub is_number : Data → Bool
is_number d = is_some (as_number d)

-- a whole number from 0 to 127
abbrev pub mask_of : Data → Option ℕ
mask_of d = option_and_then (λ n. if nat_le n 127 then Some n else None) (option_and_then as_u64 (as_number d))

-- the JSON kind that an argument needs
abbrev pub has_kind : Kind → Data → Bool
has_kind kind.Path d = is_json_text d
has_kind kind.Name d = is_json_text d
has_kind kind.OptionalName d = is_json_text d
has_kind kind.NameOrNull d = is_json_text d || is_some (as_null d)
has_kind kind.Text d = is_json_text d
has_kind kind.Truth d = is_some (as_bool d)
has_kind kind.Number d = is_number d
has_kind kind.Mask d = is_some (mask_of d)
has_kind kind.Value d = true
has_kind kind.Tree d = is_tree d
has_kind kind.OptionalVariables d = is_object d

-- an argument of that kind may be left out: a type's name, or the variables of a query
abbrev pub is_optional : Kind → Bool
is_optional kind.OptionalName = true
is_optional kind.OptionalVariables = true
is_optional k = false

-- as many arguments as there are kinds, each of its kind; optional ones may be left out at the end
abbrev pub fit_kinds : List Kind → Items → Bool
fit_kinds [] no_items = true
fit_kinds [] (item d ds) = false
fit_kinds (k ∷ ks) no_items = is_optional k && fit_kinds ks no_items
fit_kinds (k ∷ ks) (item d ds) = has_kind k d && fit_kinds ks ds
