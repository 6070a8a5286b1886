-- Laws of books and of calls on them: BookLaws, SlipOnce, TurnedAway, StepsStayFit, SumsStayFit and KeysOnce, each the contract
-- of a function of the crate laws. Some of the other definitions also serve a book's invariant and what is true of all offices.
-- The laws of what is at an office stand in Shelf.
use Rattle.std.specs.Prelude.{◌≡◌, ℕ, ◌+◌, ◌*◌, ◌%◌, ◌<◌, ◌≤◌, Bool, true, false, not, ◌||◌, List, [], ◌∷◌, ◌++◌, length, slice_index, is_some, Some, None, ◌==◌}
use Rattle.parcels.specs.Numbers.{four_bytes, eight_bytes, all_below, call_values, most_amount, most_parcels, most_sum, keys_of_an_office}
use Rattle.parcels.specs.Book.{pick, origin, Book, has, own, with_own, each_once, accepted, collected, paid_out}
use Rattle.parcels.specs.Calls.{Limits, turned, after, answered}
use Rattle.parcels.specs.declared.Kind.{Kind}
use Rattle.parcels.specs.declared.Kind.TheVariants.{Accepted, SentOn, ComeIn, HandedOut}
use Rattle.parcels.specs.declared.Slip.{Slip}
use Rattle.parcels.specs.declared.Entry.{Entry}
use Rattle.parcels.specs.declared.Call.{Call}
use Rattle.parcels.specs.declared.Call.TheVariants.{Accept, Send, SlipAgain, TakeIn, HandOut, Pay, WhereIs, Here, Sums}
use Rattle.parcels.specs.declared.Reason.TheVariants.{WrongSlip}
use Rattle.parcels.specs.declared.Answer.{Answer}
use Rattle.parcels.specs.declared.Answer.TheVariants.{Refused, Number, Given, At, NothingHeard, Two}

-- what was put in for a parcel is found, and what was there for others stays; a book has a parcel's entry under
-- its key, grows by one for a new parcel only, and of two entries put in for one parcel keeps the second
pub record BookLaws : Type 0 where
  pub own_put : (b : Book) (e : Entry) → own (with_own b e) e.key ≡ e
  pub own_other : (b : Book) (e : Entry) (key : ℕ) → (e.key == key) ≡ false → own (with_own b e) key ≡ own b key
  pub has_put : (b : Book) (e : Entry) (key : ℕ) → has (with_own b e) key ≡ (e.key == key || has b key)
  pub own_key : (b : Book) (key : ℕ) → has b key ≡ true → (own b key).key ≡ key
  pub put_length : (b : Book) (e : Entry) → length (with_own b e) ≡ pick (has b e.key) (length b) (length b + 1)
  pub put_twice : (b : Book) (d e : Entry) → d.key ≡ e.key → with_own (with_own b d) e ≡ with_own b e

-- a slip works once: by the book that taking a parcel in leaves, the same slip is turned away as one that doesn't work
abbrev pub SlipOnce : Type 0
SlipOnce = (l : Limits) (o : ℕ) (b : Book) (s : Slip) → turned l o b (TakeIn s) ≡ None → turned l o (after l o b (TakeIn s)) (TakeIn s) ≡ Some WrongSlip

-- a call that is turned away changes no book
abbrev pub TurnedAway : Type 0
TurnedAway = (l : Limits) (o : ℕ) (b : Book) (c : Call) → is_some (turned l o b c) ≡ true → after l o b c ≡ b

-- How far the step of an entry goes, by its kind. A slip that a call carries has a step of four bytes; taking in makes
-- the step after it, and sending on or handing out one more. So two words hold each step, and no call has to be turned
-- away for a step that is too large.
abbrev pub most_step : Kind → ℕ
most_step Accepted = 0
most_step SentOn = four_bytes + 1
most_step ComeIn = four_bytes
most_step HandedOut = four_bytes + 1

-- what is so of each parcel that a book has
abbrev pub Each : (Entry → Type 0) → Book → Type 0
Each P b = (key : ℕ) → has b key ≡ true → P (own b key)

-- an entry's step goes no further than steps of its kind
abbrev pub StepFits : Entry → Type 0
StepFits e = e.step ≤ most_step e.kind

-- no step in a book goes further
abbrev pub StepsFit : Book → Type 0
StepsFit = Each StepFits

-- none ever does: an empty book has no step, and a call whose values four bytes hold leaves none that goes further
pub record StepsStayFit : Type 0 where
  pub empty : StepsFit []
  pub call : (l : Limits) (o : ℕ) (b : Book) (c : Call) → all_below four_bytes (call_values c) ≡ true → StepsFit b → StepsFit (after l o b c)

-- an entry's amount is at most the largest
abbrev pub AmountFits : Entry → Type 0
AmountFits e = e.amount ≤ most_amount

-- no amount in a book is above the largest
abbrev pub AmountsFit : Book → Type 0
AmountsFit = Each AmountFits

-- No call leaves an amount above the largest, nor a parcel with two entries. So a sum, of what was collected at an office or of
-- what was paid out, is at most the largest amount for each parcel. There is a book of this kind in which both are the largest
-- sum (whether calls lead to it isn't said): four bytes are too few for it, and eight are enough for all.
pub record SumsStayFit : Type 0 where
  pub empty : (AmountsFit []) × (each_once [] ≡ true)
  pub call : (l : Limits) (o : ℕ) (b : Book) (c : Call) → AmountsFit b → each_once b ≡ true → (AmountsFit (after l o b c)) × (each_once (after l o b c) ≡ true)
  pub sums : (b : Book) → AmountsFit b → each_once b ≡ true → (collected b ≤ most_amount * length b) × (paid_out b ≤ most_amount * length b)
  pub most : (b : Book) → AmountsFit b → each_once b ≡ true → length b ≤ most_parcels → (collected b ≤ most_sum) × (paid_out b ≤ most_sum)
  pub largest : (b : Book) × AmountsFit b × (each_once b ≡ true) × (length b ≡ most_parcels) × (collected b ≡ most_sum) × (paid_out b ≡ most_sum)
  pub bytes : (four_bytes ≤ most_sum) × (most_sum < eight_bytes)

-- each of the office's own keys in its book is among its first ones, as many as the book has of them: those are the keys
-- that it gave out
abbrev pub GivenInOrder : ℕ → Book → Type 0
GivenInOrder o b = (key : ℕ) → has b key ≡ true → origin key ≡ o → key % keys_of_an_office < accepted o b

-- the number that an answer is, if it is one
abbrev pub number_in : Answer → List ℕ
number_in (Refused refusal) = []
number_in (Number n) = n ∷ []
number_in (Given slip) = []
number_in (At step) = []
number_in NothingHeard = []
number_in (Two m n) = []

-- the key that is given out by an answer to a call: the number that is answered where a parcel is accepted
abbrev pub key_told : Call → Answer → List ℕ
key_told (Accept dest amount) a = number_in a
key_told (Send key to) a = []
key_told (SlipAgain key) a = []
key_told (TakeIn s) a = []
key_told (HandOut key) a = []
key_told (Pay key) a = []
key_told (WhereIs key) a = []
key_told (Here from) a = []
key_told Sums a = []

-- the keys that an office gives out by a call
abbrev pub keys_given : Limits → ℕ → Book → Call → List ℕ
keys_given l o b c = key_told c (answered l o b c)

-- where a call brings a slip, the office has its parcel, or another office accepted it: the key is none that this office
-- has yet to give out
abbrev pub brings_known_key : ℕ → Book → Call → Bool
brings_known_key o b (Accept dest amount) = true
brings_known_key o b (Send key to) = true
brings_known_key o b (SlipAgain key) = true
brings_known_key o b (TakeIn s) = has b s.key || not (origin s.key == o)
brings_known_key o b (HandOut key) = true
brings_known_key o b (Pay key) = true
brings_known_key o b (WhereIs key) = true
brings_known_key o b (Here from) = true
brings_known_key o b Sums = true

-- calls at one office, from an empty book on: the keys that it gave out by them, the last first, and its book
pub data ByCalls (l : Limits) (o : ℕ) : List ℕ → Book → Type 0 where
  opened : ByCalls l o [] []
  called : {keys : List ℕ} {b : Book} (c : Call) → ByCalls l o keys b → brings_known_key o b c ≡ true → ByCalls l o (keys_given l o b c ++ keys) (after l o b c)

-- each key that an office gave out is its own, and it gave out none twice; its book has the parcels of these keys, and no
-- other parcel under a key of its own; and it has no more parcels than the limit
pub record GivenOnce (l : Limits) (o : ℕ) (keys : List ℕ) (b : Book) : Type 0 where
  pub ours : (i : ℕ) → i < length keys → origin (slice_index keys i) ≡ o
  pub once : (i j : ℕ) → i < length keys → j < length keys → slice_index keys i ≡ slice_index keys j → i ≡ j
  pub kept : (i : ℕ) → i < length keys → has b (slice_index keys i) ≡ true
  pub all : (key : ℕ) → has b key ≡ true → origin key ≡ o → (i : ℕ) × (i < length keys) × (slice_index keys i ≡ key)
  pub in_order : GivenInOrder o b
  pub few : length b ≤ l.parcels

-- no two parcels that were accepted get one key, where no slip brings a key that its office has yet to give out: no office
-- gives a key out twice, and no two offices give out one
pub record KeysOnce : Type 0 where
  pub at_one : (l : Limits) (o : ℕ) (keys : List ℕ) (b : Book) → ByCalls l o keys b → l.parcels ≤ most_parcels → GivenOnce l o keys b
  pub at_two : (l l' : Limits) (o p : ℕ) (keys keys' : List ℕ) (b b' : Book) → ByCalls l o keys b → l.parcels ≤ most_parcels →
      ByCalls l' p keys' b' → l'.parcels ≤ most_parcels → (i j : ℕ) → i < length keys → j < length keys' → slice_index keys i ≡ slice_index keys' j → o ≡ p
