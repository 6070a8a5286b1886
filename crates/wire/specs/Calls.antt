-- Which call a row of bytes is, or where it ceases to be one; and how a call is written.
use Rattle.std.specs.Prelude.{◌≡◌, ℕ, suc, ◌*◌, ◌<◌, ◌≤◌, min, true, false, ◌&&◌, List, ◌++◌, length, take, Some, None, Ok, Err, Option, Result, ◌≢◌, nat_le}
use Rattle.parcels.specs.Numbers.{four_bytes, all_below, call_number, call_values}
use Rattle.parcels.specs.declared.Call.{Call}
use Rattle.parcels.specs.declared.Reason.TheVariants.{Unreadable}
use Rattle.parcels.specs.declared.Refusal.{Refusal}
use Rattle.wire.specs.declared.call.UnreadableCall.{UnreadableCall}
use Rattle.wire.specs.Layout.{most_call_bytes, readable, in_row, call_bytes, Written}

-- what a row of bytes is: a call, or none, with the place of the first byte that doesn't fit
abbrev pub Reading : Type 0
Reading = Result Call UnreadableCall

-- the row is this call
abbrev pub IsCall : List ℕ → Call → Type 0
IsCall row c = (readable c ≡ true) × (row ≡ call_bytes c)

-- some call begins with these bytes
abbrev pub Begins : List ℕ → Type 0
Begins front = (c : Call) × (readable c ≡ true) × ((rest : List ℕ) × (call_bytes c ≡ front ++ rest))

-- the longest front of a row that some call begins with ends here
pub record FitsUntil (row : List ℕ) (k : ℕ) : Type 0 where
  pub within : k ≤ length row
  pub begins : Begins (take k row)
  pub no_longer : (j : ℕ) → k < j → j ≤ length row → Begins (take j row) → ⊥

-- the bytes are this call; or they are none, and fit until there
abbrev pub Reads : List ℕ → Reading → Type 0
Reads row (Ok c) = IsCall row c
Reads row (Err e) = ((c : Call) → IsCall row c → ⊥) × FitsUntil row e.place

-- how a row that is no call is turned away
abbrev pub refused_row : UnreadableCall → Refusal
refused_row e = record { reason = Unreadable; place = e.place }

-- a call that was written is read as that call, and no other bytes are read as it
abbrev pub ReadsWritten : List ℕ → Reading → Type 0
ReadsWritten row r = (c : Call) → readable c ≡ true → (row ≡ call_bytes c → r ≡ Ok c) × (r ≡ Ok c → row ≡ call_bytes c)

-- no other reading of the row is right
abbrev pub OnlyReading : List ℕ → Reading → Type 0
OnlyReading row r = (s : Reading) → Reads row s → r ≡ s

-- a call whose values its fields can carry is written into lent bytes, where these are as many as the longest
-- call has; else they stay as they were
abbrev pub Writes : Call → List ℕ → List ℕ → Option ℕ → Type 0
Writes c before after (Some n) = (readable c ≡ true) × (most_call_bytes ≤ length before) × Written (call_bytes c) before after n
Writes c before after None = ((readable c && nat_le most_call_bytes (length before)) ≡ false) × (after ≡ before)

-- FOR THE READER'S OWN FUNCTIONS

-- what the bytes behind a call's first one carry, in so many fields; or the place where the row ceases to be so
abbrev pub ReadsFields : {X : Type 0} → (X → List ℕ) → ℕ → List ℕ → Result X UnreadableCall → Type 0
ReadsFields values n body (Ok x) = (all_below four_bytes (values x) ≡ true) × (body ≡ in_row 4 (values x))
ReadsFields values n body (Err e) = (length body ≢ 4 * n) × (e.place ≡ suc (min (length body) (4 * n)))

-- how many calls there are, whose numbers go from 0 on
abbrev pub call_count : ℕ
call_count = 9

-- the call with this first byte, by the bytes behind it; or the place where the row ceases to be one
abbrev pub Tagged : ℕ → List ℕ → Reading → Type 0
Tagged first body (Ok c) = (call_number c ≡ first) × (readable c ≡ true) × (body ≡ in_row 4 (call_values c))
Tagged first body (Err e) =
    ((c : Call) → call_number c ≡ first → (length body ≢ 4 * length (call_values c)) × (e.place ≡ suc (min (length body) (4 * length (call_values c)))))
    × (call_count ≤ first → e.place ≡ 0)
