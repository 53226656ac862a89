-- What events of others leave of a session's checkpoint, and of its cursor.
use Rattle.std.proofs.Common.{◌≡◌, ℕ, false, [], ◌∷◌, ◌++◌, refl}
use Rattle.std.specs.Prelude.{◌==◌}
use Rattle.std.specs.List.{list_any}
use Rattle.oak_machine.specs.declared.event.Event.TheVariants as event
use Rattle.oak_machine.specs.declared.event.StepKind.TheVariants as kind
use Rattle.oak_machine.specs.History.{Past}
use Rattle.oak_machine.specs.Laws.{AreOthers, is_event_of}
use Rattle.oak_machine.specs.Sessions.{cursor_at, has_reader, is_attached}
use Rattle.oak_machine.proofs.Induction.{neither, other}

attached_by : (whole own before : Past) (q : ℕ) → list_any (is_event_of whole q) own ≡ false → is_attached (own ++ before) q ≡ is_attached before q
attached_by whole [] before q h = refl
attached_by whole (event.Login t v ∷ own) before q h = let n = neither (t == q) _ h in other (t == q) _ _ _ n.0 (attached_by whole own before q n.1)
attached_by whole (event.Refresh t v ∷ own) before q h = let n = neither (t == q) _ h in other (t == q) _ _ _ n.0 (attached_by whole own before q n.1)
attached_by whole (event.Attach t id ∷ own) before q h = let n = neither (t == q) _ h in other (t == q) _ _ _ n.0 (attached_by whole own before q n.1)
attached_by whole (e ∷ own) before q h = attached_by whole own before q (neither (is_event_of whole q e) _ h).1

-- a session is attached as before
pub attached_left : (q : ℕ) (own before : Past) → AreOthers q own before → is_attached (own ++ before) q ≡ is_attached before q
attached_left q own before others = attached_by (own ++ before) own before q others

reader_by : (whole own before : Past) (q : ℕ) → list_any (is_event_of whole q) own ≡ false → has_reader (own ++ before) q ≡ has_reader before q
reader_by whole [] before q h = refl
reader_by whole (event.Attach t id ∷ own) before q h = let n = neither (t == q) _ h in other (t == q) _ _ _ n.0 (reader_by whole own before q n.1)
reader_by whole (event.Detach t ∷ own) before q h = let n = neither (t == q) _ h in other (t == q) _ _ _ n.0 (reader_by whole own before q n.1)
reader_by whole (e ∷ own) before q h = reader_by whole own before q (neither (is_event_of whole q e) _ h).1

-- a session is a reader as before
pub reader_left : (q : ℕ) (own before : Past) → AreOthers q own before → has_reader (own ++ before) q ≡ has_reader before q
reader_left q own before others = reader_by (own ++ before) own before q others

cursor_by : (whole own before : Past) (q : ℕ) → list_any (is_event_of whole q) own ≡ false → cursor_at (own ++ before) q ≡ cursor_at before q
cursor_by whole [] before q h = refl
cursor_by whole (event.Went t kind.Pin ∷ own) before q h = let n = neither (t == q) _ h in other (t == q) _ _ _ n.0 (cursor_by whole own before q n.1)
cursor_by whole (event.Went t kind.End ∷ own) before q h = let n = neither (t == q) _ h in other (t == q) _ _ _ n.0 (cursor_by whole own before q n.1)
cursor_by whole (e ∷ own) before q h = cursor_by whole own before q (neither (is_event_of whole q e) _ h).1

-- its cursor stands where it stood
pub cursor_stays : (q : ℕ) (own before : Past) → AreOthers q own before → cursor_at (own ++ before) q ≡ cursor_at before q
cursor_stays q own before others = cursor_by (own ++ before) own before q others
