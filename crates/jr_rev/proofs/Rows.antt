-- Small values, computed.
use Rattle.std.proofs.Common.{◌≡◌, true, false, refl}
use Rattle.std.specs.Prelude.{codes}
use Rattle.std.specs.Fmt.{digits}
use Rattle.jr_rev.specs.declared.revision.Revision.{Revision}
use Rattle.jr_rev.specs.Revisions.{is_before}
use Rattle.jr_rev.specs.Texts.{revision_text, vector_text}
use Rattle.jr_rev.specs.Vectors.{Entries, sees, start, with_entry, is_below, least, greatest, no_entries}

-- time comes before the cluster node
earlier : is_before (record { time = 1; counter = 9; cluster = 2 }) (record { time = 2; counter = 0; cluster = 1 }) ≡ true
earlier = refl

-- ---- what is seen

one : sees (start 1) (record { time = 0; counter = 0; cluster = 1 }) ≡ true
one = refl

two : sees (start 1) (record { time = 1; counter = 0; cluster = 1 }) ≡ false
two = refl

three : sees (with_entry (start 2) (record { time = 1; counter = 0; cluster = 1 })) (record { time = 1; counter = 0; cluster = 1 }) ≡ true
three = refl

four : is_below (start 2) (with_entry (start 2) (record { time = 1; counter = 0; cluster = 1 })) ≡ true
four = refl

five : is_below (start 2) (start 1) ≡ false
five = refl

-- a vector after the other cluster node was heard of
abbrev later : Revision
later = record { time = 2; counter = 0; cluster = 2 }

six : sees (with_entry (with_entry (start 2) (record { time = 1; counter = 0; cluster = 1 })) later) later ≡ true
six = refl

-- an entry of one cluster node says nothing of another
seven : sees (with_entry no_entries later) (record { time = 0; counter = 0; cluster = 1 }) ≡ false
seven = refl

-- ---- the least and the greatest

-- each of two vectors was heard of by one node
abbrev left : Entries
left = with_entry (start 2) (record { time = 1; counter = 0; cluster = 1 })

abbrev right : Entries
right = with_entry (start 2) later

eight : least left right ≡ start 2
eight = refl

nine : greatest left right ≡ with_entry left later
nine = refl

ten : least right (start 1) ≡ start 1
ten = refl

eleven : greatest (start 1) right ≡ right
eleven = refl

-- ---- texts

text : revision_text (record { time = 201; counter = 0; cluster = 1 }) ≡ codes "rc9-0-1"
unfolding digits
text = refl

texts : vector_text (with_entry (start 2) later) ≡ codes "r0-0-1,r2-0-2"
unfolding digits
texts = refl

-- a node without an entry is passed over
passed : vector_text (with_entry (with_entry no_entries later) (record { time = 10; counter = 16; cluster = 8 })) ≡ codes "r2-0-2,ra-10-8"
unfolding digits
passed = refl

empty : vector_text no_entries ≡ codes ""
unfolding digits
empty = refl
