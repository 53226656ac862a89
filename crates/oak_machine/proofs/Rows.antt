-- One session adds /a with p = 5 and saves; and two saves of which each meets the other.
use Rattle.std.proofs.Common.{◌≡◌, ℕ, zero, suc, ◌+◌, Bool, true, false, Some, None, List, [], ◌∷◌, refl, pos}
use Rattle.std.specs.Prelude.{codes}
use mathlib.Core.Bool.{false≢true}
use Rattle.jr_value.specs.declared.value.Property.{Property}
use Rattle.jr_value.specs.declared.value.Property.TheVariants.{Single}
use Rattle.jr_value.specs.declared.value.Value.TheVariants.{Long}
use Rattle.jr_rev.specs.declared.revision.Revision.{Revision}
use Rattle.jr_rev.specs.Vectors.{Entries, start, with_entry}
use Rattle.jr_tree.specs.declared.edit.Edit.{Edit}
use Rattle.jr_tree.specs.declared.edit.Write.TheVariants.{Here, Put}
use Rattle.jr_tree.specs.Trees.{node_at, property_at}
use Rattle.oak_clash.specs.Clashes.{commit_root}
use Rattle.oak_clash.specs.declared.mark.MarkAt.{MarkAt}
use Rattle.oak_clash.specs.declared.mark.Mark.TheVariants as mark
use Rattle.oak_machine.specs.declared.event.Event.{Event}
use Rattle.oak_machine.specs.declared.event.Event.TheVariants.{Login, Refresh, Draw, Commit, Refuse, End, Head, Said}
use Rattle.oak_machine.specs.declared.event.Journal.{Journal}
use Rattle.oak_machine.specs.History.{Past, History, history_of}
use Rattle.oak_machine.specs.Commits.{tree_at}
use Rattle.oak_machine.specs.Heads.{head_of, drawn_next}
use Rattle.oak_machine.specs.Sessions.{base_of}
use Rattle.oak_machine.specs.Laws.{Starts, Says}
use Rattle.oak_machine.specs.Marks.{marks_for}
use Rattle.jr_tree.specs.Edits.{IsProper}
use Rattle.oak_machine.specs.Runs.{IsRun}

abbrev a : List (List ℕ)
a = codes "a" ∷ []

abbrev b : List (List ℕ)
b = codes "b" ∷ []

abbrev p : List ℕ
p = codes "p"

-- revisions of cluster node 1, and the vector at each
abbrev at : ℕ → Revision
at t = record { time = t; counter = 0; cluster = 1 }

abbrev vector : ℕ → Entries
vector t = with_entry (start 1) (at t)

abbrev five : Property
five = Single (Long (pos 5))

abbrev add_a : Edit
add_a = record { writes = Here a ∷ Put a p five ∷ [] }

abbrev marks_a : List MarkAt
marks_a = record { path = []; mark = mark.Touch } ∷ record { path = a; mark = mark.Exists } ∷ record { path = a; mark = mark.Prop p } ∷ []

abbrev draw_a : Event
draw_a = Draw (record { revision = at 1; session = 0; base = vector 0; edit = add_a; marks = marks_a })

abbrev first_save : Journal
first_save = record { clusters = 1; sessions = 1 ∷ []; events = record { list = Login 0 (vector 0) ∷ draw_a ∷ Commit (at 1) ∷ End (at 1) ∷ Head 1 (vector 1) ∷ []; places = 0 }; start = None }

abbrev h : History
h = history_of first_save

value_is_there : property_at (tree_at h.begin h.past (vector 1)) a p ≡ Some five
value_is_there = refl

not_seen_at_start : node_at (tree_at h.begin h.past (vector 0)) a ≡ None
not_seen_at_start = refl

head_moved : head_of 1 None h.past 1 ≡ vector 1
head_moved = refl

base_stays : base_of h.past 0 ≡ Some (vector 0)
base_stays = refl

next : drawn_next 1 None h.past 1 ≡ at 2
next = refl

-- a law that lets everything start and be said
abbrev starts : Starts
starts h s edit marks = Unit {0}

abbrev says : Says
says h s i text = Unit {0}

-- and that journal is a run
is_run : IsRun starts says h
is_run = (
  (refl, refl),
  (
    refl,
    (
      record {
        open_ = record { running = refl; in_flight = refl; not_committed = refl; not_refused = refl };
        apart = λ o committed outside. absurd (false≢true committed);
      },
      (
        record { running = refl; login = refl; detached = refl; idle = refl; base = refl; cluster = refl; next = refl; lawful = tt },
        (record { running = refl; first = refl; head = (1, refl, refl) }, tt),
      ),
    ),
  ),
)

-- two sessions write /a/p and /b/p; each save meets the other, and both are refused
abbrev edit_two : Edit
edit_two = record { writes = Here a ∷ Here b ∷ [] }

abbrev marks_two : List MarkAt
marks_two = record { path = []; mark = mark.Touch } ∷ record { path = a; mark = mark.Exists } ∷ record { path = b; mark = mark.Exists } ∷ []

abbrev set_both : ℕ → Edit
set_both x = record { writes = Put a p (Single (Long (pos x))) ∷ Put b p (Single (Long (pos x))) ∷ [] }

abbrev marks_both : List MarkAt
marks_both = record { path = a; mark = mark.Prop p } ∷ record { path = b; mark = mark.Prop p } ∷ []

abbrev each_meets : Journal
each_meets = record {
  clusters = 1;
  sessions = 1 ∷ 1 ∷ [];
  events = record {
    list =
        Login 0 (vector 0)
        ∷ Draw (record { revision = at 1; session = 0; base = vector 0; edit = edit_two; marks = marks_two })
        ∷ Commit (at 1)
        ∷ End (at 1)
        ∷ Head 1 (vector 1)
        ∷ Refresh 0 (vector 1)
        ∷ Said 0 0 (codes "\"r1-0-1\"")
        ∷ Login 1 (vector 1)
        ∷ Draw (record { revision = at 2; session = 0; base = vector 1; edit = set_both 1; marks = marks_both })
        ∷ Draw (record { revision = at 3; session = 1; base = vector 1; edit = set_both 2; marks = marks_both })
        ∷ Refuse (at 3) (record { path = b; name = Some p }) (at 2)
        ∷ Refuse (at 2) (record { path = a; name = Some p }) (at 3)
        ∷ End (at 2)
        ∷ End (at 3)
        ∷ Head 1 (vector 3)
        ∷ Refresh 0 (vector 3)
        ∷ [];
    places = 0;
  };
  start = None;
}

-- the run but for its commit
each_run : IsRun starts says (history_of each_meets)
each_run =
    let apart : (b : Bool) → false ≡ true → b ≡ false = λ b h. absurd (false≢true h) in (
      record { running = refl; login = refl; idle = refl; head = (1, refl, refl) },
      (
        (refl, refl),
        (
          refl,
          (
            refl,
            (
              record { open_ = record { running = refl; in_flight = refl; not_committed = refl; not_refused = refl }; met = refl; outside = refl; live = refl },
              (
                record { open_ = record { running = refl; in_flight = refl; not_committed = refl; not_refused = refl }; met = refl; outside = refl; live = refl },
                (
                  record { running = refl; login = refl; detached = refl; idle = refl; base = refl; cluster = refl; next = refl; lawful = tt },
                  (
                    record { running = refl; login = refl; detached = refl; idle = refl; base = refl; cluster = refl; next = refl; lawful = tt },
                    (
                      record { running = refl; first = refl; head = (1, refl, refl) },
                      (
                        (refl, tt),
                        (
                          record { running = refl; login = refl; idle = refl; head = (1, refl, refl) },
                          (
                            (refl, refl),
                            (
                              refl,
                              (
                                record { open_ = record { running = refl; in_flight = refl; not_committed = refl; not_refused = refl }; apart = λ o committed outside. apart _ committed },
                                (
                                  record { running = refl; login = refl; detached = refl; idle = refl; base = refl; cluster = refl; next = refl; lawful = tt },
                                  (record { running = refl; first = refl; head = (1, refl, refl) }, tt),
                                ),
                              ),
                            ),
                          ),
                        ),
                      ),
                    ),
                  ),
                ),
              ),
            ),
          ),
        ),
      ),
    )

refused_leave_nothing : property_at (tree_at None (history_of each_meets).past (vector 3)) a p ≡ None
refused_leave_nothing = refl

-- many saves in a row
abbrev saves : ℕ → Past
saves zero = Commit (at 1) ∷ Draw (record { revision = at 1; session = 0; base = vector 0; edit = add_a; marks = marks_a }) ∷ Login 0 (vector 0) ∷ []
saves (suc k) = Commit (at (k + 2)) ∷ Draw (record { revision = at (k + 2); session = 0; base = vector (k + 1); edit = record { writes = Put a p (Single (Long (pos (k + 2)))) ∷ [] }; marks = marks_both }) ∷ saves k

many : property_at (tree_at None (saves 20) (vector 11)) a p ≡ Some (Single (Long (pos 11)))
many = refl

-- the marks of the first edit, and that it is proper
marks_are : marks_for (tree_at h.begin h.past (vector 0)) add_a.writes ≡ marks_a
marks_are = refl

proper : IsProper (tree_at h.begin h.past (vector 0)) add_a.writes
proper = record { tree = record { paths = refl; names = refl; root = refl; parents = refl }; once = refl; changing = refl; emptied = refl }

-- a node and a node below it are added: both parents are touched, and the commit root is the root
abbrev ab : List (List ℕ)
ab = codes "a" ∷ codes "b" ∷ []

touched : marks_for (tree_at h.begin h.past (vector 0)) (Here a ∷ Here ab ∷ [])
    ≡ record { path = []; mark = mark.Touch } ∷ record { path = a; mark = mark.Exists } ∷ record { path = a; mark = mark.Touch } ∷ record { path = ab; mark = mark.Exists } ∷ []
touched = refl

root_of_both : commit_root (marks_for (tree_at h.begin h.past (vector 0)) (Here a ∷ Here ab ∷ [])) ≡ []
root_of_both = refl
