use Rattle.jr_rev.proofs.OneVector.{vector_text_of, vector_text_is, one_vector}
use Rattle.jr_rev.proofs.vector.texts_of_vectors.Goals as goal

pub returns-clause-text : goal.returns-clause-text
returns-clause-text c = vector_text_of

pub returns-clause-printed : goal.returns-clause-printed
returns-clause-printed c = vector_text_is

pub returns-clause-vector : goal.returns-clause-vector
returns-clause-vector c = one_vector
