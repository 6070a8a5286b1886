-- The key that is given out next is one of this office's, and no parcel has it.
use Rattle.std.proofs.Common.{◌≡◌, ℕ, ◌<◌, ◌≤◌, true, arith}
use Rattle.std.proofs.lemmas.Bool.Decides.{nat_tests}
use Rattle.parcels.specs.Numbers.{most_parcels}
use Rattle.parcels.specs.Book.{Book, has_room, accepted}
use Rattle.parcels.specs.Calls.{new_key}
use Rattle.laws.proofs.Keys.{accepted_small, new_parts, new_unused}
use Rattle.book.specs.Opening.{in_range}
use Rattle.book.specs.Keys.{NewKey}

-- an opening's limit is within what any office has
limit_small : (offices own parcels : ℕ) → in_range offices own parcels ≡ true → parcels ≤ most_parcels
limit_small offices own parcels good = grind (arith, nat_tests)

pub small : (offices own parcels : ℕ) (b : Book) → in_range offices own parcels ≡ true → has_room parcels b ≡ true → accepted own b < most_parcels
small offices own parcels b good room = accepted_small own parcels b room (limit_small offices own parcels good)

pub new : (own key : ℕ) (b : Book) → accepted own b < most_parcels → key ≡ new_key own b → NewKey own b key
new own key b few is = record { ours = (new_parts own key b is few).0; unused = new_unused own key b is few }
