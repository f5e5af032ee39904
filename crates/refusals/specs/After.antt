-- What a call leaves.
use Rattle.refusals.specs.declared.Answer.{Answer}

-- its answer, and the content of what it was lent after it
pub record After (Lent : Type 0) : Type 0 where
  pub answer : Answer
  pub lent : Lent
