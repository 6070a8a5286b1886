-- What an office does by a right answer, whatever was asked: nothing of any parcel; or one parcel makes a step; or one is paid
-- for. So what is so of each of these three is so of every answer.
use Rattle.std.proofs.Common.{◌≡◌, ℕ, true, false, ◌&&◌, eqb, eqb-true, eq-eqb, List, [], Some, None, Option, Ok, Err, refl, sym, ap, ◌∙◌, subst, arith}
use Rattle.std.proofs.lemmas.Bool.{and_parts}
use Rattle.parcels.specs.Numbers.{call_number}
use Rattle.parcels.specs.Book.{pick, Book, origin, has, own, with_own, leaves_it_here, was_sent_on, was_handed_out, has_room, collected_for}
use Rattle.parcels.specs.Calls.{Limits, good_fields, checked, turned, after, changed, told, answered, not_refused, unless, refusal, new_key, slip_from, accepted_entry, left_entry, came_entry, paid_entry, slip_works}
use Rattle.parcels.specs.declared.Kind.{Kind}
use Rattle.parcels.specs.declared.Kind.TheVariants.{Accepted, SentOn, ComeIn, HandedOut}
use Rattle.parcels.specs.declared.Slip.{Slip}
use Rattle.parcels.specs.declared.Entry.{Entry}
use Rattle.parcels.specs.declared.Call.{Call}
use Rattle.parcels.specs.declared.Call.TheVariants.{Accept, Send, SlipAgain, TakeIn, HandOut, Pay, WhereIs, Here, Sums}
use Rattle.parcels.specs.declared.Reason.{Reason}
use Rattle.parcels.specs.declared.Reason.TheVariants.{OutOfRange, NotHere, WrongSlip, OverLimit}
use Rattle.parcels.specs.declared.Refusal.{Refusal}
use Rattle.parcels.specs.declared.Answer.{Answer}
use Rattle.parcels.specs.declared.Answer.TheVariants.{Refused, Number, Given}
use Rattle.wire.specs.Calls.{Reading}
use Rattle.promises.specs.World.{Said, IsGiven, IsRowKnown}
use Rattle.promises.specs.Truth.{book_then, truth, in_truth, one_move, move_of, move_then}
use Rattle.promises.specs.Promise.{some_handed_out, RightPay, RightWhere, RightRow}
use Rattle.promises.specs.Way.{WaysTrue}
use Rattle.promises.specs.Told.{collected_by, paid_by, pays_for}
use Rattle.laws.proofs.Books.{own_key}
use Rattle.laws.proofs.Calls.{passed, both_passed, can_hand_out}
use Rattle.truths.proofs.Books.{pick_same}
use Rattle.ways.proofs.Turns.{follows}
use Rattle.ways.proofs.Makes.{IsNext}
use Rattle.ways.proofs.Nexts.{accepts_next, leaves_next, comes_next}

-- nothing was paid out by an answer
pub record NonePaid (r : Reading) (a : Answer) : Type 0 where
  pub amount : paid_by r a ≡ 0
  pub of_none : (p : ℕ) → pays_for r a p ≡ false

-- what is said where a parcel is accepted, or handed out, as an entry has it
abbrev pub SaidBy : Kind → Entry → Reading → Answer → Type 0
SaidBy Accepted e r a = (r ≡ Ok (Accept e.dest e.amount)) × (a ≡ Number e.key)
SaidBy SentOn e r a = Unit {0}
SaidBy ComeIn e r a = Unit {0}
SaidBy HandedOut e r a = (r ≡ Ok (HandOut e.key)) × (a ≡ Number e.amount)

module _ (l : Limits) (xs : List Said) (o : ℕ) where
  abbrev b : Book
  b = truth l xs o

  -- The book stays, no parcel makes a step, no slip is given out that wasn't before, and no money goes in or out.
  pub record NoStep (r : Reading) (a : Answer) : Type 0 where
    pub book : book_then l o b r a ≡ b
    pub step : (p : ℕ) → move_then o b r a p ≡ []
    pub slip : (s : Slip) → a ≡ Given s → IsGiven s xs
    pub got : collected_by r a ≡ 0
    pub spent : NonePaid r a

  -- One parcel makes the step that an entry shows, which is put into the book, and no other makes one. Where it is
  -- accepted or handed out, the call and its answer say so. Its slip is given out where it is sent on, and its amount goes in where
  -- it is handed out; whether it was paid for stays.
  pub record OneStep (r : Reading) (a : Answer) (e : Entry) : Type 0 where
    pub book : book_then l o b r a ≡ with_own b e
    pub step : (p : ℕ) → move_then o b r a p ≡ one_move (eqb e.key p) e.kind o
    pub said : SaidBy e.kind e r a
    pub slip_out : was_sent_on e.kind ≡ true → a ≡ Given (slip_from o e)
    pub slip : (s : Slip) → a ≡ Given s → (s ≡ slip_from o e) × (was_sent_on e.kind ≡ true)
    pub got : collected_by r a ≡ collected_for e
    pub spent : NonePaid r a
    pub paid : e.paid ≡ (has b e.key && (own b e.key).paid)

  -- A parcel of this office that was handed out, and not paid for yet, is paid for.
  pub record Payment (key n : ℕ) : Type 0 where
    pub book : book_then l o b (Ok (Pay key)) (Number n) ≡ with_own b (paid_entry (own b key))
    pub there : has b key ≡ true
    pub ours : origin key ≡ o
    pub new : (own b key).paid ≡ false
    pub amount : n ≡ (own b key).amount
    pub out : some_handed_out (in_truth l xs key) ≡ true

  pub data Does : Reading → Answer → Type 0 where
    nothing : {r : Reading} {a : Answer} → NoStep r a → Does r a
    makes : {r : Reading} {a : Answer} (e : Entry) → OneStep r a e → IsNext (truth l xs) (λ s. IsGiven s xs) e.key (in_truth l xs e.key) o e → Does r a
    pays : (key n : ℕ) → Payment key n → Does (Ok (Pay key)) (Number n)

-- a parcel that is here can be sent on, or handed out
here_goes : (home : ℕ) (k : Kind) (o : ℕ) → leaves_it_here k ≡ true → (follows home k o SentOn o ≡ true) × (follows home k o HandedOut o ≡ true)
here_goes home Accepted o here = (rw (eq-eqb o o refl), rw (eq-eqb o o refl))
here_goes home SentOn o here = absurd (cc)
here_goes home ComeIn o here = (rw (eq-eqb o o refl), rw (eq-eqb o o refl))
here_goes home HandedOut o here = absurd (cc)

-- a refusal is of no money
refused_free : (c : Call) (f : Refusal) → (collected_by (Ok c) (Refused f) ≡ 0) × NonePaid (Ok c) (Refused f)
refused_free (HandOut key) f = (refl, record { amount = refl; of_none = λ _. refl })
refused_free (Pay key) f = (refl, record { amount = refl; of_none = λ _. refl })
refused_free c f = (refl, record { amount = refl; of_none = λ _. refl })

module _ (l : Limits) (xs : List Said) (o : ℕ) where
  abbrev book : Book
  book = truth l xs o

  abbrev By : Call → Answer → Type 0
  By c a = Does l xs o (Ok c) a

  refused : (c : Call) (f : Refusal) → By c (Refused f)
  refused c f = let (got, spent) = refused_free c f in nothing record { book = refl; step = λ _. refl; slip = λ s is. absurd (cc); got = got; spent = spent }

  -- a call that changes no book and makes no step, where it is of no money and gives out no new slip
  asks : (c : Call) (a : Answer) → changed o book c ≡ book → ((p : ℕ) → move_of o book c p ≡ []) → ((s : Slip) → a ≡ Given s → IsGiven s xs) → collected_by (Ok c) a ≡ 0 → NonePaid (Ok c) a → By c a
  asks c a same none old got spent =
      nothing record {
        book = ap (λ x. pick (not_refused a) (unless (turned l o book c) x (λ r. book)) book) same ∙ ap (λ x. pick (not_refused a) x book) (unless_same (turned l o book c)) ∙ pick_same (not_refused a) book;
        step = λ p. ap (λ m. pick (not_refused a) m []) (none p) ∙ pick_same (not_refused a) [];
        slip = old;
        got = got;
        spent = spent;
      }
    where
      unless_same : (t : Option Reason) → unless t book (λ r. book) ≡ book
      unless_same None = refl
      unless_same (Some r) = refl

  module _ (was : WaysTrue l xs) where
    -- where a call was not turned away, its checks let it through, and the book goes on by it
    taken : (c : Call) → turned l o book c ≡ None → (checked l o book c ≡ None) × (after l o book c ≡ changed o book c)
    taken c free = ((passed (l.can (call_number c) && good_fields l o c) (checked l o book c) OutOfRange free).1, ap (λ t. unless t (changed o book c) (λ r. book)) free)

    -- so of what the book tells by itself only what is told to a call that was not turned away is left to be looked at
    by_book : (c : Call) (a : Answer) → a ≡ answered l o book c → (turned l o book c ≡ None → By c (told o book c)) → By c a
    by_book c a right new = subst (By c) (sym right) (go (turned l o book c) refl)
      where
        go : (t : Option Reason) → turned l o book c ≡ t → By c (unless t (told o book c) (λ r. Refused (refusal c r)))
        go None free = new free
        go (Some r) _ = refused c (refusal c r)

    -- it is accepted, under a new key
    accept : (dest amount : ℕ) → (has_room l.parcels book ≡ true → (origin (new_key o book) ≡ o) × (has book (new_key o book) ≡ false)) → turned l o book (Accept dest amount) ≡ None → By (Accept dest amount) (told o book (Accept dest amount))
    unfolding checked told changed
    accept dest amount new free =
        let (let_through, goes) = taken (Accept dest amount) free in
        let (ours, unused) = new (passed (has_room l.parcels book) None OverLimit let_through).0 in
        makes (accepted_entry o (new_key o book) dest amount)
        record { book = goes; step = λ p. refl; said = (refl, refl); slip_out = λ is. absurd (cc); slip = λ s is. absurd (cc); got = refl; spent = record { amount = refl; of_none = λ _. refl }; paid = rw unused refl }
        (accepts_next (truth l xs) (λ s. IsGiven s xs) o (new_key o book) dest amount (in_truth l xs (new_key o book)) ours unused (was (new_key o book)))

    -- a parcel that is here leaves
    leave : (c : Call) (a : Answer) (key : ℕ) (kind : Kind) (to : ℕ) → let e : Entry = left_entry kind to (own book key) in
        has book key ≡ true → leaves_it_here (own book key).kind ≡ true → follows (origin key) (own book key).kind o kind o ≡ true → (was_handed_out kind ≡ true → (own book key).dest ≡ o) → OneStep l xs o (Ok c) a e → By c a
    leave c a key kind to there here goes out step =
        let e : Entry = left_entry kind to (own book key) in
        makes e step (subst (λ k. IsNext (truth l xs) (λ s. IsGiven s xs) k (in_truth l xs k) o e) (sym (own_key book key there)) (leaves_next (truth l xs) (λ s. IsGiven s xs) o key (in_truth l xs key) kind to there here goes out (was key)))

    send : (key to : ℕ) → turned l o book (Send key to) ≡ None → By (Send key to) (told o book (Send key to))
    unfolding checked told changed
    send key to free =
        let (let_through, goes) = taken (Send key to) free in
        let (there, here) = both_passed (has book key) (leaves_it_here (own book key).kind) None NotHere let_through in
        let is : (own book key).key ≡ key = own_key book key there in
        leave (Send key to) (told o book (Send key to)) key SentOn to there here (here_goes (origin key) (own book key).kind o here).0 (λ is. absurd (cc))
        record { book = goes; step = λ p. ap (λ k. one_move (eqb k p) SentOn o) (sym is); said = tt; slip_out = λ _. refl; slip = λ s given. (cc, refl); got = refl; spent = record { amount = refl; of_none = λ _. refl }; paid = rw (is, there) refl }

    hand_out : (key : ℕ) → turned l o book (HandOut key) ≡ None → By (HandOut key) (told o book (HandOut key))
    unfolding told changed
    hand_out key free =
        let (let_through, goes) = taken (HandOut key) free in
        let (there, here, for) = can_hand_out l o book key let_through in
        let is : (own book key).key ≡ key = own_key book key there in
        leave (HandOut key) (told o book (HandOut key)) key HandedOut o there here (here_goes (origin key) (own book key).kind o here).1 (λ _. for)
        record { book = goes; step = λ p. ap (λ k. one_move (eqb k p) HandedOut o) (sym is); said = (ap (λ k. Ok (HandOut k)) (sym is), refl); slip_out = λ is. absurd (cc); slip = λ s is. absurd (cc); got = refl; spent = record { amount = refl; of_none = λ _. refl }; paid = rw (is, there) refl }

    -- it comes in, with a slip that was given out
    take_in : (s : Slip) → IsGiven s xs → turned l o book (TakeIn s) ≡ None → By (TakeIn s) (told o book (TakeIn s))
    unfolding checked told changed
    take_in s given free =
        let (let_through, goes) = taken (TakeIn s) free in
        let works : slip_works o book s ≡ true = (passed (slip_works o book s) _ WrongSlip let_through).0 in
        makes (came_entry o s (has book s.key && (own book s.key).paid))
        record { book = goes; step = λ p. refl; said = tt; slip_out = λ is. absurd (cc); slip = λ t is. absurd (cc); got = refl; spent = record { amount = refl; of_none = λ _. refl }; paid = refl }
        (comes_next (truth l xs) (λ t. IsGiven t xs) o (in_truth l xs s.key) s given works (was s.key))

    -- a slip once more is the one that was given out where the parcel was sent on
    slip_again : (key : ℕ) → turned l o book (SlipAgain key) ≡ None → By (SlipAgain key) (told o book (SlipAgain key))
    unfolding checked told changed
    slip_again key free =
        let (there, sent) = both_passed (has book key) (was_sent_on (own book key).kind) None NotHere (taken (SlipAgain key) free).0 in
        let out : IsGiven (slip_from o (own book key)) xs = ((was key).entries o there).slip_out sent in
        asks (SlipAgain key) (told o book (SlipAgain key)) refl (λ _. refl) (λ s is. subst (λ t. IsGiven t xs) (cc) out) refl record { amount = refl; of_none = λ _. refl }

    where_is : (key : ℕ) (a : Answer) → RightWhere l xs o key a → By (WhereIs key) a
    unfolding changed RightWhere
    where_is key a right = asks (WhereIs key) a refl (λ _. refl) (λ s is. absurd (subst (λ x. RightWhere l xs o key x) is right)) refl record { amount = refl; of_none = λ _. refl }

    here : (from : ℕ) → By (Here from) (told o book (Here from))
    unfolding told changed
    here from = asks (Here from) (told o book (Here from)) refl (λ _. refl) (λ s is. absurd (cc)) refl record { amount = refl; of_none = λ _. refl }

    sums : By Sums (told o book Sums)
    unfolding told changed
    sums = asks Sums (told o book Sums) refl (λ _. refl) (λ s is. absurd (cc)) refl record { amount = refl; of_none = λ _. refl }

    pay : (key : ℕ) (a : Answer) → RightPay l xs o key a → By (Pay key) a
    unfolding checked changed RightPay
    pay key (Refused f) right = refused (Pay key) f
    pay key (Number n) right =
        let (free, amount, out) = right in
        let (let_through, goes) = taken (Pay key) free in
        let (at, rest) = passed (has book key && eqb (origin key) o) _ NotHere let_through in
        let (there, ours) = and_parts (has book key) (eqb (origin key) o) at in
        let new : (own book key).paid ≡ false = grind (arith, rest) in
        pays key n record { book = goes; there = there; ours = eqb-true (origin key) o ours; new = new; amount = amount; out = out }
    pay key a right = absurd right

    pub does : (r : Reading) (a : Answer) → (has_room l.parcels book ≡ true → (origin (new_key o book) ≡ o) × (has book (new_key o book) ≡ false)) → IsRowKnown r xs → RightRow l xs o r a → Does l xs o r a
    does (Ok (Accept dest amount)) a new known right = by_book (Accept dest amount) a right (accept dest amount new)
    does (Ok (Send key to)) a new known right = by_book (Send key to) a right (send key to)
    does (Ok (SlipAgain key)) a new known right = by_book (SlipAgain key) a right (slip_again key)
    does (Ok (TakeIn s)) a new known right = by_book (TakeIn s) a right (take_in s known)
    does (Ok (HandOut key)) a new known right = by_book (HandOut key) a right (hand_out key)
    does (Ok (Pay key)) a new known right = pay key a right
    does (Ok (WhereIs key)) a new known right = where_is key a right
    does (Ok (Here from)) a new known right = by_book (Here from) a right (λ _. here from)
    does (Ok Sums) a new known right = by_book Sums a right (λ _. sums)
    does (Err e) a new known right = nothing record { book = refl; step = λ _. refl; slip = λ s is. absurd (cc); got = refl; spent = record { amount = refl; of_none = λ _. refl } }
