-- What each check hands on, where it passes.
use Rattle.std.specs.Prelude.{ℕ, Bool, not, ◌&&◌, Some, None, Option, ◌==◌, nat_le, nat_lt}
use Rattle.parcels.specs.Numbers.{most_amount}
use Rattle.parcels.specs.Book.{pick, Book, has, own, is_here, was_sent_on}
use Rattle.parcels.specs.Calls.{slip_works}
use Rattle.parcels.specs.declared.Slip.{Slip}
use Rattle.parcels.specs.declared.Entry.{Entry}

-- the value, where the test is true
abbrev pub where_true : {X : Type 0} → Bool → X → Option X
where_true t x = pick t (Some x) None

-- an office that is there
abbrev pub known_office : ℕ → ℕ → Option ℕ
known_office offices n = where_true (nat_lt n offices) n

-- the office whose book it is
abbrev pub this_office : ℕ → ℕ → Option ℕ
this_office o n = where_true (n == o) n

-- another office that is there
abbrev pub other_office : ℕ → ℕ → ℕ → Option ℕ
other_office offices o n = where_true (nat_lt n offices && not (n == o)) n

-- an amount that is small enough
abbrev pub small_amount : ℕ → Option ℕ
small_amount amount = where_true (nat_le amount most_amount) amount

-- a slip whose offices are there, and whose amount is small enough
abbrev pub slip_in_range : ℕ → Slip → Option Slip
slip_in_range offices s = where_true (nat_lt s.from offices && (nat_lt s.to offices && (nat_lt s.dest offices && nat_le s.amount most_amount))) s

-- what the book has of a parcel that is here
abbrev pub parcel_here : Book → ℕ → Option Entry
parcel_here b key = where_true (is_here b key) (own b key)

-- of one that was last sent on from here
abbrev pub parcel_sent : Book → ℕ → Option Entry
parcel_sent b key = where_true (has b key && was_sent_on (own b key).kind) (own b key)

-- of one that is for this office
abbrev pub for_here : ℕ → Entry → Option Entry
for_here o e = where_true (e.dest == o) e

-- whether the parcel of a slip that works here was paid out here
abbrev pub works_here : ℕ → Book → Slip → Option Bool
works_here o b s = where_true (slip_works o b s) (has b s.key && (own b s.key).paid)
