-- What an office does as others use it: what a call, a letter and a tick come to, and what is written into the bytes that
-- are lent. The promises on all offices speak of an office that has Begun so, and then is Called, has Heard letters and Ticked.
use Rattle.std.specs.Prelude.{◌≡◌, ℕ, ◌+◌, ◌*◌, ◌<◌, ◌≤◌, ◌⊎◌, true, List, [], length, Some, None, Option, Result, IfOk, slice_index}
use Rattle.parcels.specs.Numbers.{four_bytes, words_a_parcel, words_more}
use Rattle.parcels.specs.Calls.{Limits}
use Rattle.parcels.specs.declared.Refusal.{Refusal}
use Rattle.parcels.specs.declared.Answer.{Answer}
use Rattle.wire.specs.Layout.{lent_for_answer, answer_bytes, Written}
use Rattle.wire.specs.Calls.{Reading, Reads}
use Rattle.wire.specs.Answers.{fits}
use Rattle.moves.specs.Stage.{stage_limits}
use Rattle.book.specs.declared.opening.Opening.{Opening}
use Rattle.letters.specs.Envelope.{Letter, lent_for_letter, Posted}
use Rattle.session.specs.Opening.{Opened}
use Rattle.session.specs.Answering.{Done}
use Rattle.session.specs.declared.Replied.{Replied}

-- each word is a number of four bytes
abbrev pub WordsFit : List ℕ → Type 0
WordsFit m = (i : ℕ) → slice_index m i < four_bytes

-- no more words than may be lent to an office with this limit of parcels
abbrev pub FewWords : ℕ → List ℕ → Type 0
FewWords parcels m = length m ≤ words_a_parcel * parcels + words_more

-- the memory with which an office begins: opened with these limits and this number
pub record Begun (l : Limits) (o : ℕ) (m : List ℕ) : Type 0 where
  pub before : List ℕ
  pub opening : Opening
  pub opened : Opened l.offices o l.parcels before m opening
  pub size : FewWords l.parcels m
  pub words : WordsFit m

-- memory that was opened, where not too much was lent, is one with which an office begins
abbrev pub Begins : ℕ → ℕ → ℕ → List ℕ → List ℕ → Result Opening Refusal → Type 0
Begins offices own parcels m m' r = IfOk r (λ _. FewWords parcels m → Begun (stage_limits offices parcels) own m')

-- a call, or bytes that are none: done by the rules, and no letter is sent
abbrev pub Called : Limits → ℕ → List ℕ → Reading → List ℕ → Answer → List Letter → Type 0
Called l o m r m' a xs = Done l o m r a m' × WordsFit m' × (xs ≡ [])

-- a letter that is heard: it changes nothing, and none is sent for it
abbrev pub Heard : Limits → ℕ → List ℕ → List ℕ → List ℕ → List Letter → Type 0
Heard l o m letter m' xs = (m' ≡ m) × (xs ≡ [])

-- a tick of the clock: it changes nothing, and no letter is sent
abbrev pub Ticked : Limits → ℕ → List ℕ → List ℕ → List Letter → Type 0
Ticked l o m m' xs = (m' ≡ m) × (xs ≡ [])

-- how many bytes are lent for the letters that a call or a letter sends: as many envelopes as there are offices
abbrev pub lent_for_news : Limits → ℕ
lent_for_news l = lent_for_letter * l.offices

-- for those that a tick sends: as many as there may be parcels
abbrev pub lent_for_tick : Limits → ℕ
lent_for_tick l = lent_for_letter * l.parcels

-- so many letters were sent by what was done, and written into the bytes lent for them
abbrev pub Sent : (List ℕ → List Letter → Type 0) → List ℕ → List ℕ → ℕ → List ℕ → Type 0
Sent Did lent lent' n m' = (xs : List Letter) × Did m' xs × Posted xs n lent lent'

-- bytes that come as a call are done by some reading of them that is right
pub record RowCalled (l : Limits) (o : ℕ) (m bytes : List ℕ) (a : Answer) (m' : List ℕ) (xs : List Letter) : Type 0 where
  pub reading : Reading
  pub reads : Reads bytes reading
  pub called : Called l o m reading m' a xs

-- a call was done: its answer was written into the bytes lent for it, and the letters that it sent into theirs
pub record Answered (l : Limits) (o : ℕ) (m bytes out out' lent lent' : List ℕ) (n : Replied) (m' : List ℕ) : Type 0 where
  pub answer : Answer
  pub sent : Sent (RowCalled l o m bytes answer) lent lent' n.letters m'
  pub fit : fits answer ≡ true
  pub written : Written (answer_bytes answer) out out' n.answer

-- a row of bytes comes as a call: it is done where enough is lent for the answer and for letters; else nothing changes
abbrev pub Replies : Limits → ℕ → List ℕ → List ℕ → List ℕ → List ℕ → List ℕ → List ℕ → Option Replied → List ℕ → Type 0
Replies l o m bytes out out' lent lent' (Some n) m' = (lent_for_answer ≤ length out) × (lent_for_news l ≤ length lent) × Answered l o m bytes out out' lent lent' n m'
Replies l o m bytes out out' lent lent' None m' = ((length out < lent_for_answer) ⊎ (length lent < lent_for_news l)) × (m' ≡ m) × (out' ≡ out) × (lent' ≡ lent)

-- a letter or a tick comes: it is heard where enough is lent for letters; else nothing changes
abbrev pub Hears : ℕ → (List ℕ → List Letter → Type 0) → List ℕ → List ℕ → List ℕ → Option ℕ → List ℕ → Type 0
Hears room Did m lent lent' (Some n) m' = (room ≤ length lent) × Sent Did lent lent' n m'
Hears room Did m lent lent' None m' = (length lent < room) × (m' ≡ m) × (lent' ≡ lent)
