-- Rules that are tried in turn all pass only where each does, since the first refusal goes straight out.
use mathlib.Core.Path.{◌≡◌, refl}
use Prim.Native.Nat.{ℕ}
use native.Mathlib.Omega.{arith}
use Rattle.std.specs.Prelude.{Result, Ok, Err, ⊤}
use Rattle.refusals.specs.declared.Refusal.{Refusal}
use Rattle.refusals.specs.InOrder.{in_order}

pub all-accepted : (a b c : Result ⊤ Refusal) → in_order a b c ≡ Ok tt → (a ≡ Ok tt) × (b ≡ Ok tt) × (c ≡ Ok tt)
all-accepted (Ok x) (Ok y) c e = (refl, refl, e)
all-accepted (Ok x) (Err r) c e = absurd (let z : ◌≡◌ {A = ℕ} 0 1 = cc in omega arith)
all-accepted (Err r) b c e = absurd (let z : ◌≡◌ {A = ℕ} 0 1 = cc in omega arith)
