-- What a reader asks, and what it keeps after a reply.
use Rattle.std.specs.Prelude.{◌≡◌, ℕ, zero, suc, Bool, true, false, cond, ◌&&◌, List, [], ◌∷◌, ◌++◌, All, map, Option, None, Some, is_some, is_none, slice_get, option_to_list, codes}
use Rattle.std.specs.Option.{option_map, option_map_or}
use Rattle.std.specs.List.Sorted.{IsStrictlySortedBy}
use Rattle.std.specs.Map.{keys_of, lookup}
use Rattle.std.specs.BTreeMap.{insert_entry, is_at}
use Rattle.std.specs.BTreeMap.Range.{entries_between}
use Rattle.std.specs.declared.ops.Bound.TheVariants.{Excluded, Unbounded}
use Rattle.std.specs.declared.alloc.Global.{Global}
use Rattle.jr_path.specs.Grammar.{IsName}
use Rattle.jr_path.specs.Ids.{id_cmp}
use Rattle.jr_path.specs.declared.name.Name.{Name}
use Rattle.jr_path.specs.declared.path.Path.{Path}
use Rattle.jr_path.specs.declared.path.DocId.{DocId}
use Rattle.jr_path.specs.declared.path.DocId.TheVariants as id
use Rattle.jr_tree.specs.Trees.{is_child_of}
use Rattle.jr_rev.specs.declared.vector.Pin.{Pin}
use Rattle.oak_doc.specs.declared.document.Document.{Document}
use Rattle.oak_doc.specs.declared.asks.Ask.{Ask}
use Rattle.oak_doc.specs.declared.asks.Ask.TheVariants as ask
use Rattle.oak_doc.specs.declared.asks.Reply.{Reply}
use Rattle.oak_doc.specs.declared.asks.Reply.TheVariants as reply
use Rattle.oak_read.specs.Meaning.{documents_in, path_of, child_found, found_node, found_children}
use Rattle.oak_read.specs.Wanted.{Known, left_of, previous_wanted, roots_wanted}
use Rattle.oak_read.specs.declared.reader.Reader.{Reader}
use Rattle.oak_read.specs.declared.reader.ReadOut.{ReadOut}
use Rattle.oak_read.specs.declared.reader.ReadOut.TheVariants as out
use Rattle.oak_read.specs.declared.reader.Step.{Step}
use Rattle.oak_read.specs.declared.reader.Step.TheVariants as step

-- a reader of the node at a path
abbrev pub node_reader : Global → Pin → Path → Reader
node_reader a pin p = record { alloc = a; pin = pin; parent = None; at = p; known = []; names = []; step = step.Main }

-- a reader of the children of a path; it begins with the least name that a child can have
abbrev pub children_reader : Global → Pin → Path → Reader
children_reader a pin p = record { alloc = a; pin = pin; parent = Some p; at = p ++ codes "!" ∷ []; known = []; names = []; step = step.Main }

-- what is due
abbrev pub due : Reader → Ask
due r = due_at r.step
  where
    due_at : Step → Ask
    due_at step.Main = ask.Find (id.Node r.at)
    due_at step.Next = ask.NextAfter (Some (id.Node r.at))
    due_at (step.Previous left) = ask.Find left.first
    due_at (step.Roots left) = ask.Find left.first
    due_at (step.Done o) = ask.Done

-- with a document under an id, if one is found; what is known stays
abbrev pub with_known : Known → DocId → Option Document → Known
with_known known x None = known
with_known known x (Some d) = cond (is_some (lookup (is_at (id_cmp x)) known)) known (insert_entry id_cmp known x d)

-- a reader that keeps a document that was found, where it knew none of that id
abbrev pub noted : Reader → DocId → Option Document → Reader
noted r x found = record r { known = with_known r.known x found }

-- there is no document of the node
abbrev pub passed_by : Reader → Reader
passed_by r = record r { step = option_map_or (λ p. step.Next) r.parent (step.Done (out.Node None)) }

-- there is no further child
abbrev pub ended : Reader → Reader
ended r = record r { names = []; step = step.Done (out.Children r.names) }

-- All that the node takes is known: the node, or whether there is this child, is what the documents that were found mean.
abbrev pub on_roots : Reader → Reader
on_roots r = by r.parent
  where
    by : Option Path → Reader
    by None = record r { step = step.Done (out.Node (found_node (documents_in r.known) r.pin.sweep r.pin.base r.at)) }
    by (Some p) = record r { names = r.names ++ option_to_list (child_found (documents_in r.known) r.pin.sweep r.pin.base p (id.Node r.at)); step = step.Next }

-- the node's document and its previous documents are known: next the commit roots
abbrev pub on_previous : Reader → Reader
on_previous r = option_map_or (λ left. record r { step = step.Roots left }) (left_of (roots_wanted r.pin.sweep r.pin.base r.known (is_none r.parent) r.at)) (on_roots r)

-- the node's document is known: next the previous documents
abbrev pub on_main : Reader → Reader
on_main r = option_map_or (λ left. record r { step = step.Previous left }) (left_of (previous_wanted r.known r.at)) (on_previous r)

-- what is due has come: next the second of the documents that are left, or what comes behind them
abbrev pub settled : Reader → Reader
settled r = by r.step
  where
    by : Step → Reader
    by step.Main = on_main r
    by step.Next = on_main r
    by (step.Previous left) = option_map_or (λ more. record r { step = step.Previous more }) (left_of left.rest) (on_previous r)
    by (step.Roots left) = option_map_or (λ more. record r { step = step.Roots more }) (left_of left.rest) (on_roots r)
    by (step.Done o) = r

-- the path of the node whose document it is, where that is a child
abbrev pub child_path_in : Option Path → DocId → Option Path
child_path_in (Some p) (id.Node q) = cond (is_child_of p q) (Some q) None
child_path_in (Some p) _ = None
child_path_in None x = None

-- a reader behind the answer to its question for the node's document
abbrev pub fed_main : Reader → Option Document → Reader
fed_main r None = passed_by r
fed_main r (Some d) = settled (noted r (id.Node r.at) (Some d))

-- a reader behind the answer to its question for the next child's document
abbrev pub fed_next : Reader → Option Document → Reader
fed_next r None = ended r
fed_next r (Some d) = option_map_or (λ q. settled (noted (record r { at = q }) d.id (Some d))) (child_path_in r.parent d.id) (ended r)

-- what a reader keeps after a reply
abbrev pub fed : Reader → Reply → Reader
fed r (reply.Found found) = by r.step
  where
    by : Step → Reader
    by step.Main = fed_main r found
    by step.Next = fed_next r found
    by (step.Previous left) = settled (noted r left.first found)
    by (step.Roots left) = settled (noted r left.first found)
    by (step.Done o) = r
fed r _ = r

-- Documents in store order, each under its id, with names by the grammar.
pub record IsTable (table : List (DocId × Document)) : Type 0 where
  pub ordered : IsStrictlySortedBy id_cmp (keys_of table)
  pub named : All (λ e. e.1.id ≡ e.0) table
  pub lawful : All (λ e. All IsName (path_of e.0)) table

-- what documents at rest answer
abbrev pub answer : List (DocId × Document) → Ask → Reply
answer table (ask.Find x) = reply.Found (documents_in table x)
answer table (ask.NextAfter None) = reply.Found (option_map (λ e. e.1) (slice_get table 0))
answer table (ask.NextAfter (Some x)) = reply.Found (option_map (λ e. e.1) (slice_get (entries_between id_cmp (Excluded x) Unbounded table) 0))
answer table _ = reply.Found None

-- a reader after n replies of documents at rest, each to what is due
abbrev pub after_replies : List (DocId × Document) → ℕ → Reader → Reader
after_replies table zero r = r
after_replies table (suc n) r = after_replies table n (fed r (answer table (due r)))

-- after some replies of documents at rest the reader gives this
abbrev pub EndsIn : List (DocId × Document) → Reader → ReadOut → Type 0
EndsIn table r o = (n : ℕ) × ((after_replies table n r).step ≡ step.Done o)

-- a reader of a node ends in the node that the documents show at its pin
abbrev pub ReadsNode : Type 0
ReadsNode = (table : List (DocId × Document)) (a : Global) (pin : Pin) (p : Path) → IsTable table
    → EndsIn table (node_reader a pin p) (out.Node (found_node (documents_in table) pin.sweep pin.base p))

-- a reader of children ends in the children that they show
abbrev pub ReadsChildren : Type 0
ReadsChildren = (table : List (DocId × Document)) (a : Global) (pin : Pin) (p : Path) → IsTable table
    → EndsIn table (children_reader a pin p) (out.Children (found_children (documents_in table) pin.sweep pin.base (keys_of table) p))
