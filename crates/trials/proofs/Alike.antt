-- A plan breaks the same rule of two things that are equal where it is looked at: each test is then the same.
use mathlib.Core.Path.{◌≡◌, ap, ap₂, ◌∙◌}
use mathlib.Core.Bool.{Bool}
use mathlib.Core.List.{List}
use Prim.Native.Nat.{ℕ, ◌<◌}
use lib.Dec.{eqb}
use Rattle.plain.specs.At.{at}
use Rattle.plain.specs.Tests.{both, all_to}
use Rattle.plain.proofs.Tests.{all_to-same}
use Rattle.shares.specs.Words.{numerator_at}
use Rattle.rules.specs.Rules.{Held, same_cut, shared_out, summed, followed, halved, thinned, rounded, first_broken}
use Rattle.trials.specs.Inner.Numbered.{SameHeld}

all_alike : {n m : ℕ} (f g : ℕ → Bool) → n ≡ m → ((i : ℕ) → i < n → f i ≡ g i) → all_to n f ≡ all_to m g
all_alike {n} f g e same = all_to-same n f g same ∙ ap (λ (x : ℕ). all_to x g) e

module _ {h k : Held} (s : SameHeld h k) (w : List ℕ) where
  cut-alike : same_cut h w ≡ same_cut k w
  cut-alike = ap₂ both (ap (eqb (at w 1)) s.segments) (all_alike _ _ s.segments (λ j l. rw (s.threads j l, s.lengths j l)))

  shared_alike : shared_out h w ≡ shared_out k w
  shared_alike = rw s.period

  summed-alike : summed h w ≡ summed k w
  summed-alike = all_alike _ _ s.count (λ v l. rw (s.share (numerator_at w) v l))

  followed-alike : followed h w ≡ followed k w
  followed-alike = rw (s.count, s.parents)

  halved-alike : halved h w ≡ halved k w
  halved-alike = all_alike _ _ s.count (λ v l. rw (s.execution v l))

  thinned-alike : thinned h w ≡ thinned k w
  thinned-alike = rw (s.period, s.work)

  rounded-alike : rounded h w ≡ rounded k w
  rounded-alike = all_alike _ _ s.count (λ v l. rw (s.execution v l))

  pub held_same : first_broken h w ≡ first_broken k w
  unfolding first_broken
  held_same = rw (cut-alike, shared_alike, summed-alike, followed-alike, halved-alike, thinned-alike, rounded-alike)
