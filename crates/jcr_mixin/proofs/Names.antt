-- Which texts are names, and which identifiers name a history.
use Rattle.std.proofs.Common.{◌≡◌, ℕ, Bool, true, false, cond, Option, None, Some, List, [], ◌∷◌, ◌++◌, is_some, refl}
use Rattle.std.specs.Option.{option_and_then, unwrap_or}
use Rattle.std.proofs.lemmas.Bool.{false_from_ne_true, false≢true}
use Rattle.jr_path.specs.Grammar.{IsFirstFault, IsName}
use Rattle.jr_path.specs.Ids.{path_text}
use Rattle.jr_path.specs.Named.{is_name}
use Rattle.jr_path.specs.declared.path.Path.{Path}
use Rattle.jr_path.proofs.Named.{passes_name}
use Rattle.jr_value.proofs.Texts.{fault_refuses}
use Rattle.jr_tree.specs.Trees.{Nodes, property_at}
use Rattle.jr_items.specs.Items.{one_text}
use Rattle.jr_items.specs.Names.{uuid, version_storage}
use Rattle.jcr_ref.specs.References.{identifier_of}
use Rattle.jcr_mixin.specs.Histories.{history_by, named_history}

-- a text with a first fault is no name
pub fault_named : (text : List ℕ) (offset : ℕ) → IsFirstFault IsName text offset → is_name text ≡ false
fault_named text offset h = false_from_ne_true (is_name text) (λ e. fault_refuses IsName text offset h (passes_name text e))

-- a node with a place for its history has an identifier that is a name
pub identifier_named : (nodes : Nodes) (p : Path) → is_some (named_history nodes p) ≡ true → IsName (identifier_of nodes p)
identifier_named nodes p h = by (one_text (property_at nodes p uuid)) h
  where
    at : (s : List ℕ) (b : Bool) → is_name s ≡ b → is_some (cond b (Some (version_storage ++ s ∷ [])) None) ≡ true → IsName s
    at s true e k = passes_name s e
    at s false e k = absurd (false≢true k)

    by : (o : Option (List ℕ)) → is_some (option_and_then history_by o) ≡ true → IsName (unwrap_or o (path_text p))
    by None k = absurd (false≢true k)
    by (Some s) k = at s (is_name s) refl k
