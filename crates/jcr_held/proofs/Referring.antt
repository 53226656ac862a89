-- References name nodes by identifiers, whoever added the nodes.
use Rattle.std.proofs.Common.{◌≡◌, false, List, [], ◌∷◌, None, Some, is_some, refl, sym, ap, ◌∙◌}
use Rattle.std.specs.List.{filter_map, find, list_all}
use Rattle.std.specs.Map.{keys_of}
use Rattle.std.specs.Option.{option_map_or}
use Rattle.jr_path.specs.declared.name.Name.{Name}
use Rattle.jr_path.specs.declared.path.Path.{Path}
use Rattle.jr_rev.specs.declared.revision.Revision.{Revision}
use Rattle.jr_value.specs.Values.{same_bytes}
use Rattle.jr_tree.specs.declared.edit.Write.{Write}
use Rattle.jr_tree.specs.Edits.{applied}
use Rattle.jr_tree.specs.Trees.{Nodes, property_at, undated}
use Rattle.jr_tree.proofs.Undated.{property-undated, undated-applied}
use Rattle.jr_items.specs.Names.{frozen_type, primary_type, uuid}
use Rattle.jr_items.specs.Items.{is_of_type, one_name, one_text, reference_in, same_name, values_in}
use Rattle.jcr_ref.specs.References.{ReferencesOk, references_at, target_of, uuid_text}

keys-undated : (t : Nodes) → keys_of (undated t) ≡ keys_of t
keys-undated [] = refl
keys-undated (e ∷ t) = ap (λ (ps : List Path). e.0 ∷ ps) (keys-undated t)

module _ (t u : Nodes) (same : undated t ≡ undated u) where
  keys_same : keys_of t ≡ keys_of u
  keys_same = sym (keys-undated t) ∙ (ap keys_of same ∙ keys-undated u)

  property_same : (p : Path) (n : Name) → property_at t p n ≡ property_at u p n
  property_same p n = sym (property-undated t p n) ∙ (ap (λ (x : Nodes). property_at x p n) same ∙ property-undated u p n)

  -- trees that differ in who added their nodes have the same references, which name the same nodes
  pub references_alike : ReferencesOk t → ReferencesOk u
  references_alike ok p n thawed = sym (named_same p n) ∙ ok p n (type_same p ∙ thawed)
    where
      type_same : (p : Path) → is_of_type t frozen_type p ≡ is_of_type u frozen_type p
      type_same p = λ i. option_map_or (same_name frozen_type) (one_name (property_same p primary_type i)) false

      named_same : (p : Path) (n : Name) → list_all (λ id. is_some (target_of t id)) (references_at t p n)
          ≡ list_all (λ id. is_some (target_of u id)) (references_at u p n)
      named_same p n = λ i. list_all (λ id. is_some (find (λ q. option_map_or (same_bytes (uuid_text id)) (one_text (property_same q uuid i)) false) (keys_same i)))
          (option_map_or (λ x. filter_map reference_in (values_in x)) (property_same p n i) [])

-- the references of a tree with an edit name nodes, whichever revision adds the nodes
pub references_dated : (by : Revision) (t : Nodes) (ws : List Write) → ReferencesOk (applied None t ws) → ReferencesOk (applied (Some by) t ws)
references_dated by t ws = references_alike (applied None t ws) (applied (Some by) t ws)
    (undated-applied None t ws ∙ sym (undated-applied (Some by) t ws))
