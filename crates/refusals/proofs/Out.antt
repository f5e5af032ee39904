-- A refusal that `?` hands on is the one that it was handed, or the one that an answer tells: nothing else converts it.
use mathlib.Core.Path.{◌≡◌}
use Rattle.std.specs.Prelude.{Result, Err}
use Rattle.std.specs.Result.{IsErrAnd}
use Rattle.std.proofs.lemmas.Result.{err_from_is_err_and}

pub goes-out : {T E : Type 0} (r : Result T E) (x : E) → IsErrAnd r (λ y. y ≡ x) → r ≡ Err x
goes-out r x e = let p = err_from_is_err_and r e in rw (p.1, p.2)
