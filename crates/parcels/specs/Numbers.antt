-- The numbers by which calls, kinds of step, reasons and answers are known outside, the values that calls and
-- answers carry, and the limits.
use Rattle.std.specs.Prelude.{◌≡◌, ℕ, ◌*◌, Bool, true, ◌&&◌, List, [], ◌∷◌, Ok, Err, Result, ◌≢◌, nat_lt}
use Rattle.parcels.specs.declared.Kind.{Kind}
use Rattle.parcels.specs.declared.Kind.TheVariants.{Accepted, SentOn, ComeIn, HandedOut}
use Rattle.parcels.specs.declared.Step.{Step}
use Rattle.parcels.specs.declared.Slip.{Slip}
use Rattle.parcels.specs.declared.Call.{Call}
use Rattle.parcels.specs.declared.Call.TheVariants.{Accept, Send, SlipAgain, TakeIn, HandOut, Pay, WhereIs, Here, Sums}
use Rattle.parcels.specs.declared.Reason.{Reason}
use Rattle.parcels.specs.declared.Reason.TheVariants.{Unreadable, OutOfRange, BadOpening, NotHere, WrongSlip, OtherOffice, NothingToPay, PaidAlready, OverLimit}
use Rattle.parcels.specs.declared.Refusal.{Refusal}
use Rattle.parcels.specs.declared.UnknownNumber.{UnknownNumber}
use Rattle.parcels.specs.declared.Answer.{Answer}
use Rattle.parcels.specs.declared.Answer.TheVariants.{Refused, Number, Given, At, NothingHeard, Two}

-- how many offices a post has at least
abbrev pub fewest_offices : ℕ
fewest_offices = 2

-- how many it has at most
abbrev pub most_offices : ℕ
most_offices = 16

-- how many parcels an office ever has to do with at most
abbrev pub most_parcels : ℕ
most_parcels = 65536

-- the largest amount to be collected for a parcel
abbrev pub most_amount : ℕ
most_amount = 1000000

-- the largest sum of amounts: the largest one for each of as many parcels
abbrev pub most_sum : ℕ
most_sum = most_amount * most_parcels

-- a key is this many times the number of the office that accepted the parcel, plus how many it accepted before
abbrev pub keys_of_an_office : ℕ
keys_of_an_office = 65536

-- a field of a call, and a word of an office's memory, is a number of four bytes, below this
abbrev pub four_bytes : ℕ
four_bytes = 4294967296

-- a number in an answer has eight bytes, and is below this
abbrev pub eight_bytes : ℕ
eight_bytes = 18446744073709551616

-- whether all numbers of a list are below a bound
abbrev pub all_below : ℕ → List ℕ → Bool
all_below n [] = true
all_below n (x ∷ xs) = nat_lt x n && all_below n xs

-- the most bytes of a letter
abbrev pub letter_bytes : ℕ
letter_bytes = 64

-- the most words of memory that an office asks for, for each parcel of its limit
abbrev pub words_a_parcel : ℕ
words_a_parcel = 24

-- and how many more it asks for
abbrev pub words_more : ℕ
words_more = 1024

-- what a step did with its parcel
abbrev pub kind_number : Kind → ℕ
kind_number Accepted = 0
kind_number SentOn = 1
kind_number ComeIn = 2
kind_number HandedOut = 3

-- a call's first byte
abbrev pub call_number : Call → ℕ
call_number (Accept dest amount) = 0
call_number (Send key to) = 1
call_number (SlipAgain key) = 2
call_number (TakeIn slip) = 3
call_number (HandOut key) = 4
call_number (Pay key) = 5
call_number (WhereIs key) = 6
call_number (Here from) = 7
call_number Sums = 8

-- the numbers of a slip, in their order
abbrev pub slip_values : Slip → List ℕ
slip_values s = s.key ∷ (s.step ∷ (s.from ∷ (s.to ∷ (s.dest ∷ (s.amount ∷ [])))))

-- the values that a call carries behind its first byte
abbrev pub call_values : Call → List ℕ
call_values (Accept dest amount) = dest ∷ (amount ∷ [])
call_values (Send key to) = key ∷ (to ∷ [])
call_values (SlipAgain key) = key ∷ []
call_values (TakeIn slip) = slip_values slip
call_values (HandOut key) = key ∷ []
call_values (Pay key) = key ∷ []
call_values (WhereIs key) = key ∷ []
call_values (Here from) = from ∷ []
call_values Sums = []

-- why a call is turned away
abbrev pub reason_number : Reason → ℕ
reason_number Unreadable = 1
reason_number OutOfRange = 2
reason_number BadOpening = 3
reason_number NotHere = 4
reason_number WrongSlip = 5
reason_number OtherOffice = 6
reason_number NothingToPay = 7
reason_number PaidAlready = 8
reason_number OverLimit = 9

-- an answer's first byte
abbrev pub answer_number : Answer → ℕ
answer_number (Refused refusal) = 0
answer_number (Number n) = 1
answer_number (Given slip) = 2
answer_number (At step) = 3
answer_number NothingHeard = 4
answer_number (Two m n) = 5

-- the numbers of a refusal, in their order
abbrev pub refusal_values : Refusal → List ℕ
refusal_values r = reason_number r.reason ∷ (r.place ∷ [])

-- the numbers of a step, in their order
abbrev pub step_values : Step → List ℕ
step_values s = s.number ∷ (kind_number s.kind ∷ (s.office ∷ []))

-- the values that an answer carries behind its first byte
abbrev pub answer_values : Answer → List ℕ
answer_values (Refused r) = refusal_values r
answer_values (Number n) = n ∷ []
answer_values (Given s) = slip_values s
answer_values (At s) = step_values s
answer_values NothingHeard = []
answer_values (Two m n) = m ∷ (n ∷ [])

-- which one has this number; an error that names the number, where none has it
abbrev pub ByNumber : {X : Type 0} → (X → ℕ) → ℕ → Result X UnknownNumber → Type 0
ByNumber number n (Ok x) = number x ≡ n
ByNumber {X} number n (Err e) = (e.0 ≡ n) × ((x : X) → number x ≢ n)
