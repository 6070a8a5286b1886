-- What an office does with a call by what it has in its book: why it turns it away, and else what it changes and answers.
use Rattle.std.specs.Prelude.{ℕ, suc, ◌+◌, ◌*◌, Bool, true, false, not, ◌&&◌, ◌||◌, Some, None, Option, ◌==◌, nat_le, nat_lt}
use Rattle.parcels.specs.Numbers.{call_number, keys_of_an_office, most_amount}
use Rattle.parcels.specs.Book.{pick, origin, Book, has, own, with_own, is_here, was_sent_on, has_room, accepted, how_many_here, first_here, collected, paid_out}
use Rattle.parcels.specs.declared.Kind.{Kind}
use Rattle.parcels.specs.declared.Kind.TheVariants.{Accepted, SentOn, ComeIn, HandedOut}
use Rattle.parcels.specs.declared.Slip.{Slip}
use Rattle.parcels.specs.declared.Entry.{Entry}
use Rattle.parcels.specs.declared.Call.{Call}
use Rattle.parcels.specs.declared.Call.TheVariants.{Accept, Send, SlipAgain, TakeIn, HandOut, Pay, WhereIs, Here, Sums}
use Rattle.parcels.specs.declared.Reason.{Reason}
use Rattle.parcels.specs.declared.Reason.TheVariants.{Unreadable, OutOfRange, BadOpening, NotHere, WrongSlip, OtherOffice, NothingToPay, PaidAlready, OverLimit}
use Rattle.parcels.specs.declared.Refusal.{Refusal}
use Rattle.parcels.specs.declared.Answer.{Answer}
use Rattle.parcels.specs.declared.Answer.TheVariants.{Refused, Number, Given, At, NothingHeard, Two}

-- a stage of the post: the numbers of the calls that can be done in it
abbrev pub Stage : Type 0
Stage = ℕ → Bool

-- the first stage: all but paying and where a parcel is
abbrev pub thin : Stage
thin k = nat_lt k 5 || (k == 7 || k == 8)

-- all nine calls
abbrev pub whole : Stage
whole k = true

-- the stage, how many offices there are, and the limit of parcels that an office is opened with
pub record Limits : Type 0 where
  pub can : Stage
  pub offices : ℕ
  pub parcels : ℕ

-- whether each office that a call names is there, and for sending is another one, and each amount is small enough
unfoldable pub good_fields : Limits → ℕ → Call → Bool
good_fields l o (Accept dest amount) = nat_lt dest l.offices && nat_le amount most_amount
good_fields l o (Send key to) = nat_lt to l.offices && not (to == o)
good_fields l o (SlipAgain key) = true
good_fields l o (TakeIn s) = nat_lt s.from l.offices && (nat_lt s.to l.offices && (nat_lt s.dest l.offices && nat_le s.amount most_amount))
good_fields l o (HandOut key) = true
good_fields l o (Pay key) = true
good_fields l o (WhereIs key) = true
good_fields l o (Here from) = true
good_fields l o Sums = true

-- a slip is for this office and newer than what is known here of its parcel by own calls
abbrev pub slip_works : ℕ → Book → Slip → Bool
slip_works o b s = s.to == o && (not (has b s.key) || nat_lt (own b s.key).step s.step)

-- the checks that ask the book, in their order: the first reason to turn a call away. Whether a parcel was
-- handed out elsewhere is known by news, and isn't asked here
unfoldable pub checked : Limits → ℕ → Book → Call → Option Reason
checked l o b (Accept dest amount) = pick (has_room l.parcels b) None (Some OverLimit)
checked l o b (Send key to) = pick (is_here b key) None (Some NotHere)
checked l o b (SlipAgain key) = pick (has b key && was_sent_on (own b key).kind) None (Some NotHere)
checked l o b (TakeIn s) = pick (slip_works o b s) (pick (has b s.key || has_room l.parcels b) None (Some OverLimit)) (Some WrongSlip)
checked l o b (HandOut key) = pick (is_here b key) (pick ((own b key).dest == o) None (Some OtherOffice)) (Some NotHere)
checked l o b (Pay key) =
    pick (has b key && origin key == o) (pick ((own b key).amount == 0) (Some NothingToPay) (pick (own b key).paid (Some PaidAlready) None)) (Some NotHere)
checked l o b (WhereIs key) = None
checked l o b (Here from) = None
checked l o b Sums = None

-- the first reason to turn a call away: the stage and the fields first, then the book
abbrev pub turned : Limits → ℕ → Book → Call → Option Reason
turned l o b c = pick (l.can (call_number c) && good_fields l o c) (checked l o b c) (Some OutOfRange)

-- the place in send that goes with a reason: 1 where send is out of range or can't be done, else 0
abbrev pub place_of_range : Reason → ℕ
place_of_range Unreadable = 0
place_of_range OutOfRange = 1
place_of_range BadOpening = 0
place_of_range NotHere = 0
place_of_range WrongSlip = 0
place_of_range OtherOffice = 0
place_of_range NothingToPay = 0
place_of_range PaidAlready = 0
place_of_range OverLimit = 0

-- the place in a call that goes with a reason
abbrev pub place : Call → Reason → ℕ
place (Accept dest amount) r = 0
place (Send key to) r = place_of_range r
place (SlipAgain key) r = 0
place (TakeIn slip) r = 0
place (HandOut key) r = 0
place (Pay key) r = 0
place (WhereIs key) r = 0
place (Here from) r = 0
place Sums r = 0

-- a reason with its place
abbrev pub refusal : Call → Reason → Refusal
refusal c r = record { reason = r; place = place c r }

-- the key of the next parcel that an office accepts
abbrev pub new_key : ℕ → Book → ℕ
new_key o b = keys_of_an_office * o + accepted o b

-- the slip of a parcel that was sent on
abbrev pub slip_from : ℕ → Entry → Slip
slip_from o e = record { key = e.key; step = e.step; from = o; to = e.to; dest = e.dest; amount = e.amount }

-- step 0: a parcel is accepted
abbrev pub accepted_entry : ℕ → ℕ → ℕ → ℕ → Entry
accepted_entry o key dest amount = record { key = key; step = 0; kind = Accepted; to = o; dest = dest; amount = amount; paid = false }

-- the next step of a parcel that is here: it leaves
abbrev pub left_entry : Kind → ℕ → Entry → Entry
left_entry kind to e = record e { step = suc e.step; kind = kind; to = to }

-- it is sent on, to an office
abbrev pub sent_entry : Entry → ℕ → Entry
sent_entry e to = left_entry SentOn to e

-- it is handed out, at this office
abbrev pub handed_entry : ℕ → Entry → Entry
handed_entry o e = left_entry HandedOut o e

-- the step after the slip's: it comes in
abbrev pub came_entry : ℕ → Slip → Bool → Entry
came_entry o s paid = record { key = s.key; step = suc s.step; kind = ComeIn; to = o; dest = s.dest; amount = s.amount; paid = paid }

-- paying makes no step
abbrev pub paid_entry : Entry → Entry
paid_entry e = record e { paid = true }

-- the book after a call that was taken
unfoldable pub changed : ℕ → Book → Call → Book
changed o b (Accept dest amount) = with_own b (accepted_entry o (new_key o b) dest amount)
changed o b (Send key to) = with_own b (sent_entry (own b key) to)
changed o b (SlipAgain key) = b
changed o b (TakeIn s) = with_own b (came_entry o s (has b s.key && (own b s.key).paid))
changed o b (HandOut key) = with_own b (handed_entry o (own b key))
changed o b (Pay key) = with_own b (paid_entry (own b key))
changed o b (WhereIs key) = b
changed o b (Here from) = b
changed o b Sums = b

-- the first where there is no reason to turn the call away, else what the second makes of the reason
abbrev pub unless : {X : Type 0} → Option Reason → X → (Reason → X) → X
unless None x f = x
unless (Some r) x f = f r

-- the book after any call: changed where it was taken, and the same where it was turned away
abbrev pub after : Limits → ℕ → Book → Call → Book
after l o b c = unless (turned l o b c) (changed o b c) (λ r. b)

-- what is answered to a call that was taken, where the book has all that it takes
unfoldable pub told : ℕ → Book → Call → Answer
told o b (Accept dest amount) = Number (new_key o b)
told o b (Send key to) = Given (slip_from o (sent_entry (own b key) to))
told o b (SlipAgain key) = Given (slip_from o (own b key))
told o b (TakeIn s) = Number s.dest
told o b (HandOut key) = Number (own b key).amount
told o b (Pay key) = Number (own b key).amount
told o b (WhereIs key) = NothingHeard
told o b (Here from) = Two (how_many_here b) (first_here b from)
told o b Sums = Two (collected b) (paid_out b)

-- what is answered to any call by the book alone
abbrev pub answered : Limits → ℕ → Book → Call → Answer
answered l o b c = unless (turned l o b c) (told o b c) (λ r. Refused (refusal c r))

-- what is answered to bytes that are no call: the place is that of the first byte that doesn't fit
abbrev pub unreadable : ℕ → Answer
unreadable place = Refused (record { reason = Unreadable; place = place })

-- an answer other than a refusal
abbrev pub not_refused : Answer → Bool
not_refused (Refused refusal) = false
not_refused (Number n) = true
not_refused (Given slip) = true
not_refused (At step) = true
not_refused NothingHeard = true
not_refused (Two m n) = true

-- the calls that only tell: they change no book
abbrev pub only_tells : Call → Bool
only_tells (Accept dest amount) = false
only_tells (Send key to) = false
only_tells (SlipAgain key) = true
only_tells (TakeIn s) = false
only_tells (HandOut key) = false
only_tells (Pay key) = false
only_tells (WhereIs key) = true
only_tells (Here from) = true
only_tells Sums = true

-- the calls whose answer also takes news from other offices
abbrev pub needs_news : Call → Bool
needs_news (Accept dest amount) = false
needs_news (Send key to) = false
needs_news (SlipAgain key) = false
needs_news (TakeIn s) = false
needs_news (HandOut key) = false
needs_news (Pay key) = true
needs_news (WhereIs key) = true
needs_news (Here from) = false
needs_news Sums = false
