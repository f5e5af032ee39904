-- A set with one member more.
use Rattle.std.specs.Prelude.{ℕ, ◌+◌, ◌^◌}
use Rattle.plain.specs.Pick.{pick}
use Rattle.sets.specs.Member.{is_member}

-- the set s with k put in
unfoldable pub with_member : ℕ → ℕ → ℕ
with_member k s = pick (is_member k s) s (s + 2 ^ k)
