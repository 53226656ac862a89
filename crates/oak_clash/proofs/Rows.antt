-- Two saves that both write /a/p and /b/p.
use Rattle.std.proofs.Common.{◌≡◌, ℕ, true, false, Some, None, List, [], ◌∷◌, refl}
use Rattle.oak_clash.specs.declared.mark.MarkAt.{MarkAt}
use Rattle.oak_clash.specs.declared.mark.Mark.TheVariants.{Exists, Touch, Prop}
use Rattle.oak_clash.specs.Clashes.{Meets, met_at, clashing, commit_root, marked_paths}

abbrev a : List (List ℕ)
a = (97 ∷ []) ∷ []

abbrev b : List (List ℕ)
b = (98 ∷ []) ∷ []

abbrev p : List ℕ
p = 112 ∷ []

abbrev both : List MarkAt
both = record { path = a; mark = Prop p } ∷ record { path = b; mark = Prop p } ∷ []

clash_in_both : clashing both both ≡ true
clash_in_both = refl

at_b : Meets both both (record { path = b; name = Some p })
at_b = refl

-- /a/x and /a/y are added: Touch and Touch of /a do not clash
abbrev add_x : List MarkAt
add_x = record { path = a; mark = Touch } ∷ record { path = (97 ∷ []) ∷ (120 ∷ []) ∷ []; mark = Exists } ∷ []

abbrev add_y : List MarkAt
add_y = record { path = a; mark = Touch } ∷ record { path = (97 ∷ []) ∷ (121 ∷ []) ∷ []; mark = Exists } ∷ []

no_clash : clashing add_x add_y ≡ false
no_clash = refl

-- /a is removed while a property of it is written: the item is the node
node_first : met_at a (record { path = a; mark = Prop p } ∷ record { path = a; mark = Exists } ∷ []) (record { path = a; mark = Prop p } ∷ []) ≡ Some (record { path = a; name = None })
node_first = refl

-- the marked nodes of a commit below /a and one below /b have the root as their deepest common ancestor
apart : commit_root (record { path = a; mark = Touch } ∷ record { path = b; mark = Touch } ∷ []) ≡ []
apart = refl

below_a : commit_root add_x ≡ a
below_a = refl

-- where no node is marked, the commit root is the root
unmarked : commit_root [] ≡ []
unmarked = refl

each_once : marked_paths (record { path = b; mark = Touch } ∷ record { path = a; mark = Prop p } ∷ record { path = b; mark = Exists } ∷ []) ≡ a ∷ b ∷ []
each_once = refl
