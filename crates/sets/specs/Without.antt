-- A set with one member fewer.
use Rattle.std.specs.Prelude.{ℕ, ◌-◌, ◌*◌, ◌^◌}
use Rattle.sets.specs.Member.{bit}

-- the set s without k
unfoldable pub without_member : (k s : ℕ) → ℕ
without_member k s = s - bit k s * 2 ^ k
