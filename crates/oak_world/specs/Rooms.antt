-- Room for the text of a reply.
use Rattle.std.specs.Prelude.{◌≡◌, ◌≤◌, ℕ, List, []}

-- a text that is empty, with room for so many bytes
pub record IsRoom (text : List ℕ) (len capacity bytes : ℕ) : Type 0 where
  pub empty : text ≡ []
  pub none : len ≡ 0
  pub fits : bytes ≤ capacity
