use Rattle.core_world.proofs.Late.{splitting_begins, splitting_beside, splitting_copies, splitting_knows, splitting_lists, splitting_on}
use Rattle.core_world.proofs.late_splits_write_copies.Goals as goal

pub returns-clause-begins : goal.returns-clause-begins
returns-clause-begins c = λ start past t done formers known pin p old world numbered held is order inside. splitting_begins start past t done world formers known pin p old numbered held is order inside

pub returns-clause-knows : goal.returns-clause-knows
returns-clause-knows c = λ start past t done formers known more pin p old world splits inside. splitting_knows start past t done world formers known more pin p old splits inside

pub returns-clause-lasts : goal.returns-clause-lasts
returns-clause-lasts c = splitting_on

pub returns-clause-beside : goal.returns-clause-beside
returns-clause-beside c = λ start t u past formers known pin p q old its told step is early splits. splitting_beside start t u past formers known pin p q old its step is early splits told

pub returns-clause-copies : goal.returns-clause-copies
returns-clause-copies c = λ start past t formers known pin p old number f splits h. splitting_copies start past t formers known pin p old splits number f h

pub returns-clause-lists : goal.returns-clause-lists
returns-clause-lists c = splitting_lists
