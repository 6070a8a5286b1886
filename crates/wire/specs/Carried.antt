-- What is carried as numbers: which of its values a row can hold, and which numbers it is.
use Rattle.std.specs.Prelude.{◌≡◌, ℕ, Bool, true, ◌&&◌, List, [], ◌∷◌, ◌++◌, Some, None, Option, ◌≢◌, nat_lt}
use Rattle.parcels.specs.Numbers.{four_bytes}

-- nothing at all always fits
abbrev pub none_fit : Unit {0} → Bool
none_fit _ = true

-- it has no values
abbrev pub none_values : Unit {0} → List ℕ
none_values _ = []

-- a number that four bytes can carry
abbrev pub field_fits : ℕ → Bool
field_fits n = nat_lt n four_bytes

-- the values of what is one number
abbrev pub one_values : ℕ → List ℕ
one_values n = n ∷ []

-- a pair whose two things fit
abbrev pub pair_fits : {A B : Type 0} → (A → Bool) → (B → Bool) → A × B → Bool
pair_fits f g p = f p.0 && g p.1

-- the values of a pair
abbrev pub pair_values : {A B : Type 0} → (A → List ℕ) → (B → List ℕ) → A × B → List ℕ
pair_values v w p = v p.0 ++ w p.1

-- what numbers are, by the values of each such thing and which of them fit
abbrev pub FromNumbers : {X : Type 0} → (X → Bool) → (X → List ℕ) → List ℕ → Option X → Type 0
FromNumbers can values ns (Some x) = (can x ≡ true) × (values x ≡ ns)
FromNumbers {X} can values ns None = (x : X) → can x ≡ true → values x ≢ ns

-- some such thing that fits has these values
abbrev pub AreCarried : {X : Type 0} → (X → Bool) → (X → List ℕ) → List ℕ → Type 0
AreCarried {X} can values ns = (x : X) × (can x ≡ true) × (values x ≡ ns)
