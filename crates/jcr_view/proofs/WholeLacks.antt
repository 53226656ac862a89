-- Of a tree that is known whole a command lacks a node at most that isn't there.
use Rattle.std.proofs.Common.{◌≡◌, ◌∙◌, ◌++◌, Bool, true, false, cond, List, [], ◌∷◌, Option, None, Some, is_some, refl, sym, ap, subst, append_assoc}
use Rattle.std.specs.Bool.{⊤}
use Rattle.std.specs.List.{All}
use Rattle.std.specs.Option.{option_map_or}
use Rattle.std.proofs.lemmas.List.Elements.{All-cons, All-nil}
use mathlib.Core.Bool.{false≢true}
use Rattle.jr_path.specs.Names.{parent_of}
use Rattle.jr_path.specs.declared.name.Name.{Name}
use Rattle.jr_path.specs.declared.path.Path.{Path}
use Rattle.jr_tree.specs.declared.shared.Who.{Who}
use Rattle.jr_tree.specs.declared.tree.Node.{Node}
use Rattle.jr_tree.specs.Trees.{IsTree, Nodes, node_at}
use Rattle.jr_tree.proofs.Entries.{both}
use Rattle.jr_items.specs.Items.{same_name}
use Rattle.jr_items.specs.Names.{version_storage, versionable}
use Rattle.jr_part.specs.Parts.{AgreesWith, AsksOf, ChildNames, IsFirstLacking, IsReached, Knowledge, LacksNothing, has_name, known_at, knows, leads_down, list_at}
use Rattle.jr_part.specs.declared.need.Need.{Need}
use Rattle.jr_part.specs.declared.need.Need.TheVariants as need
use Rattle.jr_part.proofs.Above.{above as node_above}
use Rattle.jr_part.proofs.Children.{has_child}
use Rattle.jr_part.proofs.Ways.{Lists, There, lists_from, nothing_child, reached_itself, there_is, there_known}
use Rattle.jr_overlay.specs.Overlays.{Changed, seen}
use Rattle.jcr_trans.specs.declared.command.Command.{Command}
use Rattle.jcr_trans.specs.declared.command.Command.TheVariants as command
use Rattle.jcr_write.specs.Places.{above}
use Rattle.jcr_mixin.specs.Histories.{due_history}
use Rattle.jcr_make.specs.Subtrees.{makes_histories}
use Rattle.jcr_view.specs.Needs.{children_needs, history_needs, listing_needs, needs_of, parent_needs, storage_needs, versionable_needs}
use Rattle.jcr_view.specs.Rounds.{IsOfNone}

-- ---- names lead down to each node of a tree that is known whole

module _ (t : Nodes) (tree : IsTree t) (k : Knowledge) (agrees : AgreesWith t k) where
  there_in : (p : Path) → knows k (need.Node p) ≡ true → is_some (node_at t p) ≡ true → There k p
  there_in p known is = by (known_at k p) refl known
    where
      by : (o : Option (Option Node)) → known_at k p ≡ o → is_some o ≡ true → There k p
      by None h some = absurd (false≢true some)
      by (Some None) h some = absurd (false≢true (ap is_some (agrees.nodes p None h) ∙ is))
      by (Some (Some node)) h some = there_is k p node h

  listed_in : (p : Path) (n : Name) → knows k (need.Children p) ≡ true → is_some (node_at t (p ++ n ∷ [])) ≡ true → Lists k p n
  listed_in p n known is = by (list_at k p) refl known
    where
      by : (o : Option ChildNames) → list_at k p ≡ o → is_some o ≡ true → Lists k p n
      by None h some = absurd (false≢true some)
      by (Some names) h some = lists_from k p names n h ∙ (ap (λ ns. has_name ns n) (agrees.lists p names h) ∙ has_child p n t is)

  leads : (ns : List Name) (p : Path) → LacksNothing k (need.Subtree p) → is_some (node_at t (p ++ ns)) ≡ true
      → leads_down k p ns ≡ true
  leads [] p nothing is = refl
  leads (n ∷ ns) p nothing is =
      let below : is_some (node_at t ((p ++ n ∷ []) ++ ns)) ≡ true =
      ap (λ (q : Path). is_some (node_at t q)) (append_assoc p (n ∷ []) ns) ∙ is in
      let there : There k p =
      there_in p (nothing (need.Node p) (reached_itself k p)) (node_above t tree p (n ∷ ns) is) in
      let lists : Lists k p n =
      listed_in p n (nothing (need.Children p) (reached_itself k p, there)) (node_above t tree (p ++ n ∷ []) ns below) in
      both _ _ (both _ _ there lists) (leads ns (p ++ n ∷ []) (nothing_child k p n there lists nothing) below)

  -- the need is of children only where a node is
  abbrev IsHad : Need → Type 0
  IsHad (need.Node p) = ⊤
  IsHad (need.Children p) = There k p
  IsHad (need.Subtree p) = ⊤
  IsHad need.All = ⊤

  children_there : (wanted : Need) (p : Path) → IsHad wanted → AsksOf k wanted (need.Children p) → There k p
  children_there (need.Node q) p had a = cc
  children_there (need.Children q) p had a = subst IsHad (sym a) had
  children_there (need.Subtree q) p had a = a.1
  children_there need.All p had a = a.1

  module _ (nothing : LacksNothing k need.All) where
    reached : (p : Path) → is_some (node_at t p) ≡ true → IsReached k [] p
    reached p is = record { names = p; path = refl; down = leads p [] nothing is }

    of_none : (wanted lacking : Need) → IsHad wanted → AsksOf k wanted lacking → knows k lacking ≡ false → IsOfNone t lacking
    of_none wanted (need.Node p) had a unknown = by (node_at t p) refl
      where
        by : (o : Option Node) → node_at t p ≡ o → node_at t p ≡ None
        by None is = is
        by (Some node) is = absurd (false≢true (sym unknown ∙ nothing (need.Node p) (reached p (ap is_some is))))
    of_none wanted (need.Children p) had a unknown =
        let there : There k p = children_there wanted p had a in
        let is : is_some (node_at t p) ≡ true =
        sym (ap is_some (agrees.nodes p (node_at k.nodes p) (there_known k p there))) ∙ there in
        false≢true (sym unknown ∙ nothing (need.Children p) (reached p is, there))
    of_none wanted (need.Subtree p) had a unknown = absurd (false≢true (sym unknown))
    of_none wanted need.All had a unknown = absurd (false≢true (sym unknown))

    -- what lacks of the need is a node that isn't there
    abbrev LacksNone : Need → Type 0
    LacksNone wanted = (lacking : Need) → IsFirstLacking k wanted lacking → IsOfNone t lacking

    none : (wanted : Need) → IsHad wanted → LacksNone wanted
    none wanted had lacking first = of_none wanted lacking had first.asked first.unknown

    none_else : All LacksNone []
    none_else = All-nil LacksNone

    and_none : (wanted : Need) (wanteds : List Need) → IsHad wanted → All LacksNone wanteds → All LacksNone (wanted ∷ wanteds)
    and_none wanted wanteds had all = All-cons LacksNone wanted wanteds (none wanted had) all

    children_lack : (p : Path) → All LacksNone (children_needs (known_at k p) p)
    children_lack p = by (known_at k p) refl
      where
        by : (o : Option (Option Node)) → known_at k p ≡ o → All LacksNone (children_needs o p)
        by None h = none_else
        by (Some None) h = none_else
        by (Some (Some node)) h = and_none (need.Children p) [] (there_is k p node h) none_else

    listing_lacks : (p : Path) → All LacksNone (listing_needs k p)
    listing_lacks p = and_none (need.Node p) (children_needs (known_at k p) p) tt (children_lack p)

    history_lacks : (history : Option Path) → All LacksNone (history_needs history)
    history_lacks None = none_else
    history_lacks (Some h) = and_none (need.Subtree h) [] tt none_else

    versionable_lacks : (known : Option (Option Node)) (p : Path) (history : Option Path)
        → All LacksNone (versionable_needs known p history)
    versionable_lacks None p history = and_none (need.Node p) [] tt none_else
    versionable_lacks (Some known) p history = and_none (need.Subtree p) (history_needs history) tt (history_lacks history)

    mixin_lacks : (b : Bool) (known : Option (Option Node)) (p : Path) (history : Option Path)
        → All LacksNone (cond b (versionable_needs known p history) (need.Subtree p ∷ []))
    mixin_lacks true known p history = versionable_lacks known p history
    mixin_lacks false known p history = and_none (need.Subtree p) [] tt none_else

    storage_lacks : (b : Bool) → All LacksNone (cond b (need.Subtree version_storage ∷ []) [])
    storage_lacks true = and_none (need.Subtree version_storage) [] tt none_else
    storage_lacks false = none_else

    parent_lacks : (p : Path) → All LacksNone (parent_needs p)
    parent_lacks p = by (parent_of p)
      where
        by : (o : Option Path) → All LacksNone (option_map_or (λ q. need.Node q ∷ []) o [])
        by None = none_else
        by (Some q) = and_none (need.Node q) [] tt none_else

    module _ (who : Who) (c : Changed) where
      pub whole_lacks : (command : Command) → All LacksNone (needs_of who k c command)
      whole_lacks (command.Add p type) = and_none (need.Subtree p) (need.Node (above p) ∷ []) tt (and_none (need.Node (above p)) [] tt none_else)
      whole_lacks (command.Tree p parts) =
          and_none (need.Subtree p) (need.Node (above p) ∷ storage_needs parts) tt
          (and_none (need.Node (above p)) (storage_needs parts) tt (storage_lacks (makes_histories parts)))
      whole_lacks (command.Set p n x) = and_none (need.Node p) [] tt none_else
      whole_lacks (command.Unset p n) = and_none (need.Node p) [] tt none_else
      whole_lacks (command.Remove p) = and_none (need.Subtree p) (need.Node (above p) ∷ []) tt (and_none (need.Node (above p)) [] tt none_else)
      whole_lacks (command.Move p q) =
          and_none (need.Subtree p) (need.Subtree q ∷ need.Node (above q) ∷ []) tt
          (and_none (need.Subtree q) (need.Node (above q) ∷ []) tt (and_none (need.Node (above q)) [] tt none_else))
      whole_lacks (command.Mixin p n) =
          mixin_lacks (same_name versionable n) (known_at k p) p (due_history who who.ids (seen k.nodes c p))
      whole_lacks (command.Unmixin p n) = and_none (need.Node p) [] tt none_else
      whole_lacks (command.SetType p n) = and_none (need.Subtree p) [] tt none_else
      whole_lacks (command.OrderBefore p n) = and_none (need.Node p) (listing_needs k (above p)) tt (listing_lacks (above p))
      whole_lacks (command.Get p) = parent_lacks p
      whole_lacks (command.List p) = listing_lacks p
      whole_lacks (command.Props p) = and_none (need.Node p) [] tt none_else
      whole_lacks (command.Id p) = and_none (need.Node p) [] tt none_else
      whole_lacks (command.ById id) = and_none need.All [] tt none_else
      whole_lacks (command.Refs p) = and_none need.All [] tt none_else
      whole_lacks (command.Versions p) = and_none need.All [] tt none_else
      whole_lacks _ = none_else
