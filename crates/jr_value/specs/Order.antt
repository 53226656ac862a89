-- The order of the values of one kind.
use Rattle.std.specs.Prelude.{Option, Some, None}
use Rattle.std.specs.declared.cmp.Ordering.{Ordering}
use Rattle.std.specs.Ordering.{nat_cmp, int_cmp, bool_cmp}
use Rattle.jr_path.specs.Names.{name_cmp}
use Rattle.jr_path.specs.Ids.{path_text}
use Rattle.jr_value.specs.declared.value.Value.{Value}
use Rattle.jr_value.specs.declared.value.Value.TheVariants as value

-- LONG and DATE by number, false below true, an identifier by its number, all others by their bytes, a path by
-- those of its text; values of two kinds have no order
abbrev pub value_cmp : Value → Value → Option Ordering
value_cmp (value.Str a) (value.Str b) = Some (name_cmp a b)
value_cmp (value.Binary a) (value.Binary b) = Some (name_cmp a b)
value_cmp (value.Long a) (value.Long b) = Some (int_cmp a b)
value_cmp (value.Date a) (value.Date b) = Some (int_cmp a b)
value_cmp (value.Boolean a) (value.Boolean b) = Some (bool_cmp a b)
value_cmp (value.Name a) (value.Name b) = Some (name_cmp a b)
value_cmp (value.Path a) (value.Path b) = Some (name_cmp (path_text a) (path_text b))
value_cmp (value.Reference a) (value.Reference b) = Some (nat_cmp a b)
value_cmp (value.WeakReference a) (value.WeakReference b) = Some (nat_cmp a b)
value_cmp (value.Uri a) (value.Uri b) = Some (name_cmp a b)
value_cmp _ _ = None
