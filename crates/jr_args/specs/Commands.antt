-- What a command of a script means.
use Rattle.std.specs.Prelude.{ℕ, Bool, false, List, [], Option, Some, None, ◌+◌, option_and_then, unwrap_or}
use Rattle.serde_json.specs.Data.{Data, Items, null, array, no_items, item}
use Rattle.serde_json.specs.Find.{as_bool, as_number, as_str, as_u64, get_item}
use Rattle.jr_path.specs.declared.name.Name.{Name}
use Rattle.jr_path.specs.declared.path.Path.{Path}
use Rattle.jr_value.specs.declared.value.Property.{Property}
use Rattle.jr_value.specs.declared.value.Value.{Value}
use Rattle.jcr_trans.specs.declared.command.Command.{Command}
use Rattle.jcr_trans.specs.declared.command.Command.TheVariants as command
use Rattle.jcr_trans.specs.declared.command.TreeNode.{TreeNode}
use Rattle.jr_args.specs.Outcomes.{Means, Breaks, Reading, guard, is, Then, under}
use Rattle.jr_args.specs.Trees.{some_name_of, json_text_in, tree_of, variables_of}
use Rattle.jr_args.specs.Values.{name_of, path_of, property_read}
use Rattle.jr_args.specs.Words.{fit_kinds, kinds_of, mask_of, word_named}
use Rattle.jr_args.specs.declared.fault.Step.TheVariants.{Index}
use Rattle.jr_args.specs.declared.word.Word.{Word}
use Rattle.jr_args.specs.declared.word.Word.TheVariants as word
use Rattle.jr_args.specs.declared.word.Bare.{Bare}
use Rattle.jr_args.specs.declared.word.Bare.TheVariants as bare
use Rattle.jr_args.specs.declared.word.OnPath.{OnPath}
use Rattle.jr_args.specs.declared.word.OnPath.TheVariants as on_path
use Rattle.jr_args.specs.declared.word.OnText.{OnText}
use Rattle.jr_args.specs.declared.word.OnText.TheVariants as on_text
use Rattle.jr_args.specs.declared.word.OnName.{OnName}
use Rattle.jr_args.specs.declared.word.OnName.TheVariants as on_name
use Rattle.jr_args.specs.declared.word.OnNode.{OnNode}
use Rattle.jr_args.specs.declared.word.OnNode.TheVariants as on_node

-- ---- arguments, numbered from 0 on; the command's name stands before them in its list

-- one that is left out is as null
abbrev pub argument : ℕ → Items → Data
argument i ds = unwrap_or (get_item i ds) null

-- the text of the argument at an index, empty where that is no text
abbrev pub text_argument : ℕ → Items → List ℕ
text_argument i ds = json_text_in (argument i ds)

-- the boolean of the argument at an index, false where that is none
abbrev pub truth_at : ℕ → Items → Bool
truth_at i ds = unwrap_or (as_bool (argument i ds)) false

-- a whole number from 0 to 2^64 - 1, if it is one
abbrev pub number_argument : ℕ → Items → Option ℕ
number_argument i ds = option_and_then as_u64 (as_number (argument i ds))

-- the event mask of the argument at an index, 0 where that is none
abbrev pub mask_at : ℕ → Items → ℕ
mask_at i ds = unwrap_or (mask_of (argument i ds)) 0

-- the path that the argument at an index means; a broken rule is found at that argument
abbrev pub path_at : ℕ → Items → Reading Path
path_at i ds = under (Index (i + 1)) (path_of (text_argument i ds))

-- the name that the argument at an index means; a broken rule is found at that argument
abbrev pub name_argument : ℕ → Items → Reading Name
name_argument i ds = under (Index (i + 1)) (name_of (text_argument i ds))

-- the property that the argument at an index means; a broken rule is found at that argument
abbrev pub property_argument : ℕ → Items → Reading Property
property_argument i ds = under (Index (i + 1)) (property_read (argument i ds))

-- of a text, if there is one
abbrev pub name_if_any : Option (List ℕ) → Reading (Option Name)
name_if_any None = is (Means None)
name_if_any (Some text) = some_name_of text

-- the name that the argument at an index means, none where that is no text; a broken rule is found
-- at that argument
abbrev pub name_if_any_at : ℕ → Items → Reading (Option Name)
name_if_any_at i ds = under (Index (i + 1)) (name_if_any (as_str (argument i ds)))

-- the nodes of the tree that the argument at an index describes, from its topmost node on
abbrev pub tree_argument : ℕ → Items → Reading (List TreeNode)
tree_argument i ds = under (Index (i + 1)) (tree_of [] (argument i ds))

-- the query's variables, with their values, that the argument at an index gives
abbrev pub variables_at : ℕ → Items → Reading (List (Name × Value))
variables_at i ds = under (Index (i + 1)) (variables_of (argument i ds))

-- ---- commands

-- the command of a word that takes no argument
abbrev pub bare_command : Bare → Command
bare_command bare.Save = command.Save
bare_command bare.Head = command.Head
bare_command bare.Events = command.Events
bare_command bare.BackWrite = command.BackWrite
bare_command bare.BackRead = command.BackRead
bare_command bare.Sweep = command.Sweep
bare_command bare.Collect = command.Collect
bare_command bare.Checkpoint = command.Checkpoint
bare_command bare.Detach = command.Detach

-- the command of a word that takes a path, on that path
abbrev pub path_command : OnPath → Path → Command
path_command on_path.Remove path = command.Remove path
path_command on_path.Get path = command.Get path
path_command on_path.List path = command.List path
path_command on_path.Props path = command.Props path
path_command on_path.Id path = command.Id path
path_command on_path.Refs path = command.Refs path
path_command on_path.Unlock path = command.Unlock path
path_command on_path.Checkin path = command.Checkin path
path_command on_path.Checkout path = command.Checkout path
path_command on_path.Versions path = command.Versions path
path_command on_path.Split path = command.Split path

-- the command of a word that takes a text, with that text
abbrev pub text_command : OnText → List ℕ → Command
text_command on_text.ById text = command.ById text
text_command on_text.Token text = command.Token text
text_command on_text.DropToken text = command.DropToken text
text_command on_text.Attach text = command.Attach text
text_command on_text.Release text = command.Release text

-- the command of a word that takes a path and a name, with both
abbrev pub name_command : OnName → Path → Name → Command
name_command on_name.Unset path name = command.Unset path name
name_command on_name.Mixin path name = command.Mixin path name
name_command on_name.Unmixin path name = command.Unmixin path name
name_command on_name.SetType path name = command.SetType path name
name_command on_name.Unlabel path name = command.Unlabel path name

-- the command of a word that takes a cluster node's number, with that number if it is a whole one
abbrev pub node_command : OnNode → Option ℕ → Command
node_command on_node.Stop number = command.Stop number
node_command on_node.Recover number = command.Recover number

-- the command of this name with arguments that fit; they are read in order
abbrev pub command_named : Word → Items → Reading Command
command_named (word.Bare w) ds = is (Means (bare_command w))
command_named (word.OnPath w) ds = Then (path_at 0 ds) (λ path. is (Means (path_command w path)))
command_named (word.OnText w) ds = is (Means (text_command w (text_argument 0 ds)))
command_named (word.OnName w) ds = Then (path_at 0 ds) (λ path. Then (name_argument 1 ds) (λ name. is (Means (name_command w path name))))
command_named (word.OnNode w) ds = is (Means (node_command w (number_argument 0 ds)))
command_named word.Add ds = Then (path_at 0 ds) (λ path. Then (name_if_any_at 1 ds) (λ type. is (Means (command.Add path type))))
command_named word.Tree ds = Then (path_at 0 ds) (λ path. Then (tree_argument 1 ds) (λ nodes. is (Means (command.Tree path nodes))))
command_named word.Set ds = Then (path_at 0 ds) (λ path. Then (name_argument 1 ds) (λ name. Then (property_argument 2 ds) (λ x. is (Means (command.Set path name x)))))
command_named word.Move ds = Then (path_at 0 ds) (λ path. Then (path_at 1 ds) (λ target. is (Means (command.Move path target))))
command_named word.Refresh ds = is (Means (command.Refresh (truth_at 0 ds)))
command_named word.Lock ds = Then (path_at 0 ds) (λ path. is (Means (command.Lock path (truth_at 1 ds))))
command_named word.Restore ds = Then (path_at 0 ds) (λ path. is (Means (command.Restore path (text_argument 1 ds))))
command_named word.Label ds = Then (path_at 0 ds) (λ path. Then (name_argument 2 ds) (λ label. is (Means (command.Label path (text_argument 1 ds) label (truth_at 3 ds)))))
command_named word.Observe ds = Then (path_at 0 ds) (λ path. is (Means (command.Observe path (truth_at 1 ds) (mask_at 2 ds))))
command_named word.Query ds = Then (variables_at 1 ds) (λ variables. is (Means (command.Query (text_argument 0 ds) variables)))
command_named word.OrderBefore ds = Then (path_at 0 ds) (λ path. Then (name_if_any_at 1 ds) (λ name. is (Means (command.OrderBefore path name))))

-- A command is a list that begins with the name of one, with as many arguments as it has, each of its JSON kind; else
-- rule 5 is broken.
abbrev pub named_of : Option Word → Items → Reading Command
named_of None ds = is (Breaks 5 [])
named_of (Some w) ds = Then (guard (fit_kinds (kinds_of w) ds) 5) (λ _. command_named w ds)

-- a command by what its list begins with; where that is no text, rule 5 is broken
abbrev pub called_of : Option (List ℕ) → Items → Reading Command
called_of None ds = is (Breaks 5 [])
called_of (Some text) ds = named_of (word_named text) ds

-- a command as a list of its name and its arguments; an empty list breaks rule 5
abbrev pub command_listed : Items → Reading Command
command_listed no_items = is (Breaks 5 [])
command_listed (item d ds) = called_of (as_str d) ds

-- a command as a JSON value; one that is no list breaks rule 5
abbrev pub command_of : Data → Reading Command
command_of (array ds) = command_listed ds
command_of _ = is (Breaks 5 [])
