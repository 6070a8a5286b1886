-- What an office has of parcels by its own calls: a book, a list of entries in the order in which they came.
use Rattle.std.specs.Prelude.{ℕ, suc, ◌+◌, ◌-◌, ◌/◌, Bool, true, false, not, ◌&&◌, ◌||◌, List, [], ◌∷◌, length, ◌==◌, nat_le, nat_lt}
use Rattle.parcels.specs.Numbers.{keys_of_an_office}
use Rattle.parcels.specs.declared.Kind.{Kind}
use Rattle.parcels.specs.declared.Kind.TheVariants.{Accepted, SentOn, ComeIn, HandedOut}
use Rattle.parcels.specs.declared.Entry.{Entry}

-- the first where the test is true, else the second
abbrev pub pick : {X : Type 0} → Bool → X → X → X
pick true x y = x
pick false x y = y

-- a parcel's key tells the office at which it was accepted
abbrev pub origin : ℕ → ℕ
origin key = key / keys_of_an_office

-- a book: its entries in the order in which they came
abbrev pub Book : Type 0
Book = List Entry

-- whether the office ever had to do with a parcel
unfoldable pub has : Book → ℕ → Bool
has [] key = false
has (e ∷ es) key = e.key == key || has es key

-- what stands for a parcel that a book doesn't have
abbrev pub no_entry : Entry
no_entry = record { key = 0; step = 0; kind = HandedOut; to = 0; dest = 0; amount = 0; paid = false }

-- what the office has of a parcel
unfoldable pub own : Book → ℕ → Entry
own [] key = no_entry
own (e ∷ es) key = pick (e.key == key) e (own es key)

-- the book with this entry in place of the one with its key, or at the end where there is none
unfoldable pub with_own : Book → Entry → Book
with_own [] e = e ∷ []
with_own (x ∷ xs) e = pick (x.key == e.key) (e ∷ xs) (x ∷ with_own xs e)

-- after an accepted parcel or one that came in, the parcel is at the office; after the other kinds it is not
abbrev pub leaves_it_here : Kind → Bool
leaves_it_here Accepted = true
leaves_it_here SentOn = false
leaves_it_here ComeIn = true
leaves_it_here HandedOut = false

-- the parcel was sent on from the office
abbrev pub was_sent_on : Kind → Bool
was_sent_on Accepted = false
was_sent_on SentOn = true
was_sent_on ComeIn = false
was_sent_on HandedOut = false

-- the parcel was handed out at the office
abbrev pub was_handed_out : Kind → Bool
was_handed_out Accepted = false
was_handed_out SentOn = false
was_handed_out ComeIn = false
was_handed_out HandedOut = true

-- whether a parcel is at the office
abbrev pub is_here : Book → ℕ → Bool
is_here b key = has b key && leaves_it_here (own b key).kind

-- whether each parcel of a book has one entry
unfoldable pub each_once : Book → Bool
each_once [] = true
each_once (e ∷ es) = not (has es e.key) && each_once es

-- whether one more parcel is within the limit
abbrev pub has_room : ℕ → Book → Bool
has_room parcels b = nat_lt (length b) parcels

-- how many parcels of a book were accepted at an office
unfoldable pub accepted : ℕ → Book → ℕ
accepted o [] = 0
accepted o (e ∷ es) = pick (origin e.key == o) 1 0 + accepted o es

-- a parcel counts as one where it is at the office
abbrev pub counted_here : Entry → ℕ
counted_here e = pick (leaves_it_here e.kind) 1 0

-- how many parcels are at the office
unfoldable pub how_many_here : Book → ℕ
how_many_here [] = 0
how_many_here (e ∷ es) = counted_here e + how_many_here es

-- whether a parcel is at the office, with a key from some key on, and before the one that was found, where one was (`found` is
-- one more than that one's key, or 0)
abbrev pub comes_first : ℕ → Entry → ℕ → Bool
comes_first from e found = leaves_it_here e.kind && (nat_le from e.key && (found == 0 || nat_lt e.key (found - 1)))

-- the first parcel here from a key on, of one more entry and of those among which `found` was the first: one more than its
-- key, or 0 for none
abbrev pub first_with : ℕ → Entry → ℕ → ℕ
first_with from e found = pick (comes_first from e found) (suc e.key) found

-- the same of all parcels of a book
unfoldable pub first_here : Book → ℕ → ℕ
first_here [] from = 0
first_here (e ∷ es) from = first_with from e (first_here es from)

-- what was collected for a parcel: its amount, where it was handed out at the office
abbrev pub collected_for : Entry → ℕ
collected_for e = pick (was_handed_out e.kind) e.amount 0

-- what was collected at the office
unfoldable pub collected : Book → ℕ
collected [] = 0
collected (e ∷ es) = collected_for e + collected es

-- what was paid out for a parcel: its amount, where the office paid it
abbrev pub paid_for : Entry → ℕ
paid_for e = pick e.paid e.amount 0

-- what was paid out at the office
unfoldable pub paid_out : Book → ℕ
paid_out [] = 0
paid_out (e ∷ es) = paid_for e + paid_out es
