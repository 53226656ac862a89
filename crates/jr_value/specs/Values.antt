-- When two values or properties are the same.
use Rattle.std.specs.Prelude.{ℕ, Bool, true, false, cond, ◌&&◌, ◌==◌, List}
use Rattle.std.specs.Ordering.{int_eq, eq_by_cmp}
use Rattle.jr_path.specs.Names.{name_cmp, path_cmp}
use lib.Pointwise.{pointwise}
use Rattle.jr_value.specs.declared.value.Kind.{Kind}
use Rattle.jr_value.specs.declared.value.Kind.TheVariants as kind
use Rattle.jr_value.specs.declared.value.Value.{Value}
use Rattle.jr_value.specs.declared.value.Value.TheVariants as value
use Rattle.jr_value.specs.declared.value.Property.{Property}
use Rattle.jr_value.specs.declared.value.Property.TheVariants.{Single, Many}

-- the bytes are the same
abbrev pub same_bytes : List ℕ → List ℕ → Bool
same_bytes = eq_by_cmp name_cmp

-- of one kind and the same
abbrev pub same_value : Value → Value → Bool
same_value (value.Str a) (value.Str b) = same_bytes a b
same_value (value.Binary a) (value.Binary b) = same_bytes a b
same_value (value.Long a) (value.Long b) = int_eq a b
same_value (value.Date a) (value.Date b) = int_eq a b
same_value (value.Boolean true) (value.Boolean b) = b
same_value (value.Boolean false) (value.Boolean b) = cond b false true
same_value (value.Name a) (value.Name b) = same_bytes a b
same_value (value.Path a) (value.Path b) = eq_by_cmp path_cmp a b
same_value (value.Reference a) (value.Reference b) = a == b
same_value (value.WeakReference a) (value.WeakReference b) = a == b
same_value (value.Uri a) (value.Uri b) = same_bytes a b
same_value _ _ = false

-- the number of a kind in the order of kinds
abbrev pub kind_number : Kind → ℕ
kind_number kind.Str = 1
kind_number kind.Binary = 2
kind_number kind.Long = 3
kind_number kind.Date = 5
kind_number kind.Boolean = 6
kind_number kind.Name = 7
kind_number kind.Path = 8
kind_number kind.Reference = 9
kind_number kind.WeakReference = 10
kind_number kind.Uri = 11

-- both single or both lists of one kind, and the same values
abbrev pub same_property : Property → Property → Bool
same_property (Single a) (Single b) = same_value a b
same_property (Many k xs) (Many l ys) = kind_number k == kind_number l && pointwise same_value xs ys
same_property _ _ = false

-- the kind of a value, and of a property
abbrev pub kind_of : Value → Kind
kind_of (value.Str t) = kind.Str
kind_of (value.Binary bytes) = kind.Binary
kind_of (value.Long n) = kind.Long
kind_of (value.Date n) = kind.Date
kind_of (value.Boolean b) = kind.Boolean
kind_of (value.Name n) = kind.Name
kind_of (value.Path p) = kind.Path
kind_of (value.Reference id) = kind.Reference
kind_of (value.WeakReference id) = kind.WeakReference
kind_of (value.Uri t) = kind.Uri

-- a property's kind: its value's, or the one that its list names
abbrev pub kind_of_property : Property → Kind
kind_of_property (Single x) = kind_of x
kind_of_property (Many k xs) = k
