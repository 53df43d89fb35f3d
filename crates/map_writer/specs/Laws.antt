-- The laws between reading and writing property maps that the writer's contract states.
use Rattle.maps.specs.Laws.{ReadsBack, OneForm, Largest}

-- a written map reads back, has one form, and for a topic at most 574 bytes
pub record Laws : Type 0 where
  pub reads_back : ReadsBack
  pub one_form : OneForm
  pub largest : Largest
