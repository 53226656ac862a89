use Rattle.jr_path.proofs.Pieces.{names_from_all, one_path}
use Rattle.jr_path.proofs.laws.texts_of_paths.Goals as goal

pub returns : goal.returns
returns c = λ a b h k e. one_path a b (names_from_all a h) (names_from_all b k) e
