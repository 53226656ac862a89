-- The names of a lock's two properties.
use Rattle.jr_items.specs.Names.{lock_owner, lock_is_deep}
use Rattle.jcr_lock.specs.declared.covers.LockNames.{LockNames}

-- the names of the two properties of a lock: its owner, and whether it is deep
abbrev pub lock_names : LockNames
lock_names = record { owner = lock_owner; is_deep = lock_is_deep }
