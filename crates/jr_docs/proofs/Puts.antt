-- Members put one after the other.
use Rattle.std.proofs.Common.{◌≡◌, List, [], ◌∷◌, ◌++◌, Option, None, Some, refl, ap, sym, ◌∙◌}
use Rattle.std.specs.Prelude.{ℕ, fold, String, string_bytes}
use Rattle.std.specs.String.{string_cmp}
use Rattle.std.specs.declared.alloc.Global.{Global}
use Rattle.std.specs.BTreeMap.{insert_entry}
use Rattle.serde_json.specs.Data.{Data, Members, put}
use Rattle.serde_json.specs.View.{view, members_view}
use Rattle.serde_json.specs.declared.value.Value.{Value}
use Rattle.serde_json.proofs.Views.{Entry, members_view-insert_entry}

-- what is put at a text is put at its bytes
pub put_at_bytes : (old new : List Entry) (k : String Global) (v : Value) (n : List ℕ) (d : Data) → new ≡ insert_entry string_cmp old k v → string_bytes k ≡ n → view v ≡ d
    → members_view new ≡ put n d (members_view old)
put_at_bytes old new k v n d inserted same_name same_data =
    ap members_view inserted ∙ (members_view-insert_entry old k v ∙ (ap (λ (m : List ℕ). put m (view v) (members_view old)) same_name ∙ ap (λ (e : Data). put n e (members_view old)) same_data))
