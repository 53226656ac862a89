-- What the small types end as, once a `&mut` to the collection inside has ended.
use Rattle.std.specs.Borrow.{Lends, MutBor, Fml, RattleType}
use Rattle.std.specs.Prelude.{List as Seq, ℕ}
use Rattle.std.specs.contracts.alloc.Global as global
use Rattle.std.specs.contracts.vec.Vec as vec
use Rattle.std.specs.contracts.string.String as string
use Rattle.std.specs.declared.string.String.{String}
use Rattle.std.specs.String.{string_bytes}
use Rattle.jr_list.specs.contracts.text.Text as text
use Rattle.jr_list.specs.contracts.keyed.Keyed as keyed
use Rattle.std.specs.BTreeMap.{BTreeMap}
use Rattle.std.specs.BTreeMap.Lent.{OrdMembers, map_row}
use Rattle.std.specs.contracts.impls.GlobalAllocator.TheImpl.{ghosts}
use Rattle.std.specs.declared.vec.Vec.{Vec}
use Rattle.std.specs.declared.alloc.Global.{Global}
use Rattle.jr_list.specs.contracts.list.List.{the_row}

-- the list ends as the items last left in the vector
abbrev pub lends_items : (R : RattleType) → MutBor (Seq R.Denot) → MutBor (Vec R.Denot Global) → Fml
lends_items R l r = Lends (the_row R) (vec.the_row R global.the_row ghosts) l r (λ v. v.items)

-- the text ends as the bytes last left in the string
abbrev pub lends_text : MutBor (Seq ℕ) → MutBor (String Global) → Fml
lends_text t r = Lends text.the_row (string.the_row global.the_row ghosts) t r (λ s. string_bytes s)

-- the entries end as those last left in the map
abbrev pub lends_entries : (K V : RattleType) (g : OrdMembers K.Denot) → MutBor (Seq (K.Denot × V.Denot)) → MutBor (BTreeMap K.Denot V.Denot) → Fml
lends_entries K V g m r =
    Lends (keyed.the_row K V (record { cmp = g.cmp }) (record { eq = g.eq }) (record { partial_cmp = g.partial_cmp })) (map_row K V global.the_row g ghosts) m r (λ n. n.entries)
