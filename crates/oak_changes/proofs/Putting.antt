-- A change that is put to those of its commit.
use Rattle.std.proofs.Common.{◌≡◌, List, [], None, Some, sym, ap, ◌∙◌}
use Rattle.std.specs.Prelude.{unwrap_or}
use Rattle.std.specs.List.Sorted.{IsStrictlySortedBy}
use Rattle.std.specs.Map.{keys_of, lookup, set_value}
use Rattle.std.specs.BTreeMap.{insert_entry, is_at}
use Rattle.jr_path.specs.declared.path.Item.{Item}
use Rattle.jr_rev.specs.declared.revision.Revision.{Revision}
use Rattle.jr_rev.specs.Revisions.{revision_cmp}
use Rattle.jr_rev.proofs.Order.{revision_total}
use Rattle.jr_tree.specs.declared.shared.ItemChange.{ItemChange}
use Rattle.jr_tree.specs.Edits.{item_cmp}
use Rattle.oak_changes.specs.Saying.{changes_at, Grouped}
use Rattle.oak_doc.proofs.Entries.{set_is_insert}

-- where its commit has changes
pub put_at_revision : (groups : Grouped) (r : Revision) (item : Item) (change : ItemChange) (changes new : List (Item × ItemChange)) (after : Grouped) → IsStrictlySortedBy revision_cmp (keys_of groups) → lookup (is_at (revision_cmp r)) groups ≡ Some changes → new ≡ insert_entry item_cmp changes item change → after ≡ set_value (is_at (revision_cmp r)) groups new
    → after ≡ insert_entry revision_cmp groups r (insert_entry item_cmp (changes_at groups r) item change)
put_at_revision groups r item change changes new after sorted there put set =
    set ∙ (set_is_insert revision_cmp revision_total groups r changes new sorted there
    ∙ ap (insert_entry revision_cmp groups r) (put ∙ ap (λ o. insert_entry item_cmp (unwrap_or o []) item change) (sym there)))

-- where its commit has none yet
pub put_new_revision : (groups : Grouped) (r : Revision) (item : Item) (change : ItemChange) (before after : Grouped) (changes : List (Item × ItemChange)) → lookup (is_at (revision_cmp r)) groups ≡ None → before ≡ groups → changes ≡ insert_entry item_cmp [] item change → after ≡ insert_entry revision_cmp before r changes
    → after ≡ insert_entry revision_cmp groups r (insert_entry item_cmp (changes_at groups r) item change)
put_new_revision groups r item change before after changes none same one put =
    put
    ∙ ap (λ (g : Grouped). insert_entry revision_cmp g r changes) same
    ∙ ap (insert_entry revision_cmp groups r) (one ∙ ap (λ o. insert_entry item_cmp (unwrap_or o []) item change) (sym none))
