-- The refusal of a view that has too many nodes.
use Rattle.std.specs.Prelude.{◌≡◌, ℕ, List, [], ◌∷◌, codes}
use Rattle.jr_tree.specs.declared.shared.Datum.TheVariants as datum
use Rattle.jr_tree.specs.declared.shared.Refusal.{Refusal}
use Rattle.jcr_trans.specs.Answers.{Answer, Refused}

-- a limit is passed
abbrev pub limit_passed : List ℕ → ℕ → Answer
limit_passed what most = Refused 15 (datum.Text what ∷ datum.Number most ∷ [])

-- a tree has at most 100,000 nodes
abbrev pub too_many_nodes : Answer
too_many_nodes = limit_passed (codes "nodes") 100000

-- the answer tells of this refusal
abbrev pub IsRefusal : Answer → Refusal → Type 0
IsRefusal answer r = answer ≡ Refused r.number r.parts
