-- What decimal digits stand for.
use Rattle.std.specs.Prelude.{ℕ, ◌+◌, ◌-◌, ◌*◌, List, fold}

-- with one more digit behind: 48 is the byte '0'
abbrev pub with_digit : ℕ → ℕ → ℕ
with_digit n d = n * 10 + (d - 48)

-- the number that digits stand for
abbrev pub value_of : List ℕ → ℕ
value_of ds = fold with_digit 0 ds
