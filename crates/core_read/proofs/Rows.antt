-- Without a premise the tree and the last writes differ: three journals, by computing.
use Rattle.std.proofs.Common.{◌≡◌, ℕ, true, Some, None, [], ◌∷◌, refl}
use Rattle.std.specs.Prelude.{codes, ◌==◌, ◌||◌}
use Rattle.jr_path.specs.declared.name.Name.{Name}
use Rattle.jr_path.specs.declared.path.Path.{Path}
use Rattle.jr_value.specs.declared.value.Property.{Property}
use Rattle.jr_value.specs.declared.value.Property.TheVariants.{Single}
use Rattle.jr_value.specs.declared.value.Value.TheVariants as value
use Rattle.jr_rev.specs.declared.revision.Revision.{Revision}
use Rattle.jr_tree.specs.declared.edit.Write.TheVariants.{Here, Gone, Put, Unset}
use Rattle.jr_tree.specs.Trees.{property_at}
use Rattle.jr_tree.specs.Items.{put_of}
use Rattle.core_read.specs.Commits.{Commits, Sight, tree_seen, last}

abbrev a : Path
a = codes "a" ∷ []

abbrev n : Name
n = codes "n"

abbrev x : Property
x = Single (value.Name (codes "x"))

abbrev rev : ℕ → Revision
rev time = record { time = time; counter = 0; cluster = 1 }

abbrev all : Sight
all r = true

-- each edit is proper on the tree of all before it; the reader sees the second and the fourth alone, so it isn't closed
abbrev unclosed : Commits
unclosed = (rev 4, Here a ∷ []) ∷ (rev 3, Gone a ∷ Unset a n ∷ []) ∷ (rev 2, Put a n x ∷ []) ∷ (rev 1, Here a ∷ []) ∷ []

abbrev even : Sight
even r = r.time == 2 || r.time == 4

unclosed_tree : property_at (tree_seen even unclosed) a n ≡ None
unclosed_tree = refl

unclosed_last : last (put_of a n) even unclosed ≡ Some (Some x)
unclosed_last = refl

-- the third edit puts a property of a node that the second, unseen by the base of the third, takes away; the fourth sees all
abbrev put_unseen : Commits
put_unseen = (rev 4, Here a ∷ []) ∷ (rev 3, Put a n x ∷ []) ∷ (rev 2, Gone a ∷ []) ∷ (rev 1, Here a ∷ []) ∷ []

put_unseen_tree : property_at (tree_seen all put_unseen) a n ≡ None
put_unseen_tree = refl

put_unseen_last : last (put_of a n) all put_unseen ≡ Some (Some x)
put_unseen_last = refl

-- the third edit takes away a node whose property the second, unseen by the base of the third, puts
abbrev gone_unseen : Commits
gone_unseen = (rev 4, Here a ∷ []) ∷ (rev 3, Gone a ∷ []) ∷ (rev 2, Put a n x ∷ []) ∷ (rev 1, Here a ∷ []) ∷ []

gone_unseen_tree : property_at (tree_seen all gone_unseen) a n ≡ None
gone_unseen_tree = refl

gone_unseen_last : last (put_of a n) all gone_unseen ≡ Some (Some x)
gone_unseen_last = refl
