-- Goods and money are as was said: what an office's book has of a parcel is as the parcel was accepted at its origin, and, where it
-- was handed out, as that was answered. So is what is said by the book when the parcel is handed out or paid for, and so are slips.
use Rattle.std.proofs.Common.{◌≡◌, ℕ, ◌<◌, ◌≤◌, true, eqb, inl, inr, List, ◌∷◌, length, Ok, refl, sym, ap, ◌∙◌, subst, eqb-true, arith}
use Rattle.std.proofs.lemmas.Bool.{cases_Bool}
use Rattle.std.proofs.lemmas.Bool.Decides.{nat_tests}
use Rattle.parcels.specs.Numbers.{most_parcels}
use Rattle.parcels.specs.Book.{Book, origin, has, own, with_own, was_handed_out}
use Rattle.parcels.specs.Calls.{Limits, checked, told, paid_entry}
use Rattle.parcels.specs.declared.Entry.{Entry}
use Rattle.parcels.specs.declared.Call.{Call}
use Rattle.parcels.specs.declared.Call.TheVariants.{Accept, HandOut, Pay}
use Rattle.parcels.specs.declared.Reason.TheVariants.{OutOfRange, NotHere}
use Rattle.parcels.specs.declared.Answer.{Answer}
use Rattle.parcels.specs.declared.Answer.TheVariants.{Number}
use Rattle.wire.specs.Calls.{Reading}
use Rattle.promises.specs.Truth.{book_then, truth, in_truth}
use Rattle.promises.specs.World.{Said, IsGiven}
use Rattle.promises.specs.Promise.{RightAnswer, RightPay, RightRow, Happened, nothing_yet, and_then}
use Rattle.promises.specs.Way.{SameGoal, WaysTrue}
use Rattle.promises.specs.Told.{WasSaid, GoodsTold}
use Rattle.laws.proofs.Books.{own_key, has_put, put_is}
use Rattle.laws.proofs.Calls.{passed, both_passed, can_hand_out, if_taken}
use Rattle.truths.proofs.Books.{and_said, each_truth}
use Rattle.ways.proofs.Turns.{first_made, handed_out}
use Rattle.ways.proofs.Makes.{shown, IsNext}
use Rattle.ways.proofs.Nexts.{begun_at_home}
use Rattle.ways.proofs.Does.{SaidBy, Does, nothing, makes, pays, OneStep}
use Rattle.ways.proofs.Each.{ways_true, does_one}
use Rattle.ways.proofs.Paid.{out_where}

-- a parcel was accepted at its origin, for this office and with this amount
abbrev WasAccepted : List Said → ℕ → ℕ → ℕ → Type 0
WasAccepted xs p dest amount = WasSaid (origin p) (Accept dest amount) (Number p) xs

-- so it was, where its origin's entry has that office and that amount, and it was accepted as the entry has it
as_home : (xs : List Said) (p dest amount : ℕ) (home : Entry) → SameGoal home dest amount → WasAccepted xs p home.dest home.amount → WasAccepted xs p dest amount
as_home xs p dest amount home (to, for) accepted = rw (to, for) accepted

-- An office's entry of a parcel is as was said: the parcel was accepted so; and where it was handed out, its amount was answered
abbrev EntrySaid : List Said → ℕ → ℕ → Entry → Type 0
EntrySaid xs o p e = WasAccepted xs p e.dest e.amount × (was_handed_out e.kind ≡ true → WasSaid o (HandOut p) (Number e.amount) xs)

-- so are all entries of an office's book
abbrev BookSaid : List Said → ℕ → Book → Type 0
BookSaid xs o b = (p : ℕ) → has b p ≡ true → EntrySaid xs o p (own b p)

-- One thing more is said, where that was so of each book.
module _ (l : Limits) (xs : List Said) (o : ℕ) (r : Reading) (a : Answer) (was : (q : ℕ) → BookSaid xs q (truth l xs q)) where
  abbrev said : List Said
  said = and_said o r a xs

  -- what was said before still was
  still : (q : ℕ) → BookSaid said q (truth l xs q)
  unfolding WasSaid
  still q p there = let (accepted, out) = was q p there in (inr accepted, λ is. inr (out is))

  -- an entry that is so is put in
  put : (e : Entry) → EntrySaid said o e.key e → BookSaid said o (with_own (truth l xs o) e)
  put e new p there =
      put_is (truth l xs o) e p (EntrySaid said o p) (λ mine. subst (λ k. EntrySaid said o k e) mine new)
      (λ other. let had : has (truth l xs o) p ≡ true = grind (arith, has_put (truth l xs o) e p) in still o p had)

  -- so is an entry by which a parcel makes a step: by the first one it is accepted, and by later ones it stays as its origin has it
  module _ (ways : WaysTrue l xs) (e : Entry) (x : OneStep l xs o r a e) (next : IsNext (truth l xs) (λ s. IsGiven s xs) e.key (in_truth l xs e.key) o e) where
    accepted : WasAccepted said e.key e.dest e.amount
    unfolding WasSaid
    accepted =
        let p : ℕ = e.key in
        let steps : ℕ = length (in_truth l xs p) in
        elim (cases_Bool (eqb steps 0)) [
          | inl none ↦
              let (kind, at) = first_made (origin p) (in_truth l xs p) (shown e o) next.turn (eqb-true steps 0 none) in
              let (call, answer) = subst (λ k. SaidBy k e r a) kind x.said in
              inl (at, call, answer)
          | inr some ↦
              let begun : 0 < steps = grind (arith, nat_tests) in
              inr (as_home xs p e.dest e.amount (own (truth l xs (origin p)) p) (next.goal begun) (was (origin p) p (begun_at_home (ways p) begun)).0)
        ]

    shows : EntrySaid said o e.key e
    unfolding WasSaid
    shows = (accepted, λ out. let (call, answer) = subst (λ k. SaidBy k e r a) (handed_out e.kind out) x.said in inl (refl, call, answer))

-- so the office's book goes on, by each of the three things that an answer does
goes_on : (l : Limits) (xs : List Said) (o : ℕ) (r : Reading) (a : Answer) → ((q : ℕ) → BookSaid xs q (truth l xs q)) → WaysTrue l xs → Does l xs o r a → BookSaid (and_said o r a xs) o (book_then l o (truth l xs o) r a)
goes_on l xs o r a was ways (nothing x) = subst (BookSaid (and_said o r a xs) o) (sym x.book) (still l xs o r a was o)
goes_on l xs o r a was ways (makes e x next) = subst (BookSaid (and_said o r a xs) o) (sym x.book) (put l xs o r a was e (shows l xs o r a was ways e x next))
goes_on l xs o r a was ways (pays key n x) =
    let e : Entry = own (truth l xs o) key in
    let same : EntrySaid (and_said o r a xs) o e.key e = subst (λ k. EntrySaid (and_said o r a xs) o k e) (sym (own_key (truth l xs o) key x.there)) (still l xs o r a was o key x.there) in
    subst (BookSaid (and_said o r a xs) o) (sym x.book) (put l xs o r a was (paid_entry e) same)

-- so it is whatever happened
books_said : {l : Limits} {xs : List Said} → l.parcels ≤ most_parcels → Happened l xs → (o : ℕ) → BookSaid xs o (truth l xs o)
unfolding truth has
books_said limit nothing_yet = λ o p there. absurd (cc)
books_said {l} limit (and_then {xs} o r a before there fits known right) =
    let was : (q : ℕ) → BookSaid xs q (truth l xs q) = books_said limit before in
    each_truth l xs o r a (BookSaid (and_said o r a xs)) (goes_on l xs o r a was (ways_true limit before) (does_one limit before o r a known right)) (λ q _. still l xs o r a was q)

-- what is so before each right answer to a call, and stays so whatever is said more, is so once that was answered
was_right : {l : Limits} {xs : List Said} (P : List Said → Type 0) (o : ℕ) (c : Call) (a : Answer) → ((ys : List Said) → Happened l ys → RightAnswer l ys o c a → P ys) → ((x : Said) (ys : List Said) → P ys → P (x ∷ ys)) →
    Happened l xs → WasSaid o c a xs → P xs
unfolding WasSaid
was_right P o c a new more nothing_yet said = absurd said
was_right {l} P o c a new more (and_then {xs} q r b before there fits known right) (inl (at, reading, answer)) =
    let x : Said = record { at = q; reading = r; answer = b } in
    let is : x ≡ record { at = o; reading = Ok c; answer = a } = λ i. record { at = at i; reading = reading i; answer = answer i } in
    more x xs (new xs before (subst (λ (y : Said). RightRow l xs y.at y.reading y.answer) is right))
was_right P o c a new more (and_then {xs} q r b before there fits known right) (inr said) = more (record { at = q; reading = r; answer = b }) xs (was_right P o c a new more before said)

-- an office hands out a parcel that is for it, and answers the amount, both as its book has them
handed_as_accepted : {l : Limits} {xs : List Said} → l.parcels ≤ most_parcels → Happened l xs → (o key n : ℕ) → WasSaid o (HandOut key) (Number n) xs → WasAccepted xs key o n
unfolding told WasSaid
handed_as_accepted {l} limit h o key n said =
    was_right (λ ys. WasAccepted ys key o n) o (HandOut key) (Number n)
    (λ ys before right.
    let b : Book = truth l ys o in
    if_taken l o b (HandOut key) (λ _ a. Number n ≡ a → WasAccepted ys key o n) (λ _ is. absurd (cc))
    (λ _ free is.
    let (there, _, for) = can_hand_out l o b key free in
    as_home ys key o n (own b key) (sym for, cc) (books_said limit before o key there).0)
    right)
    (λ x ys was. inr was) h said

-- an office pays for a parcel at its origin, once it was handed out, with the amount that its book has
paid_as_handed : {l : Limits} {xs : List Said} → l.parcels ≤ most_parcels → Happened l xs → (o key n : ℕ) → WasSaid o (Pay key) (Number n) xs → (o ≡ origin key) × ((q : ℕ) × WasSaid q (HandOut key) (Number n) xs)
unfolding checked RightPay WasSaid
paid_as_handed {l} limit h o key n said =
    was_right (λ ys. (o ≡ origin key) × ((q : ℕ) × WasSaid q (HandOut key) (Number n) ys)) o (Pay key) (Number n)
    (λ ys before (free, amount, out).
    let b : Book = truth l ys o in
    let (there, ours) = both_passed (has b key) (eqb (origin key) o) _ NotHere (passed _ _ OutOfRange free).1 in
    let home : origin key ≡ o = eqb-true (origin key) o ours in
    let (q, held, kind, same) = out_where (ways_true limit before key) out in
    let is : (own (truth l ys q) key).amount ≡ n = same ∙ ap (λ r. (own (truth l ys r) key).amount) home ∙ sym amount in
    (sym home, (q, subst (λ m. WasSaid q (HandOut key) (Number m) ys) is ((books_said limit before q key held).1 (ap was_handed_out kind)))))
    (λ x ys (ours, (q, was)). (ours, (q, inr was))) h said

-- and a slip has it as its origin has it, where it was accepted
pub goods_told : GoodsTold
goods_told can l xs g h =
    let ways : WaysTrue l xs = ways_true g.2 h in
    record {
      handed_out = handed_as_accepted g.2 h;
      paid = paid_as_handed g.2 h;
      slips = λ s out.
          let x = (ways s.key).slips s out refl in
          as_home xs s.key s.dest s.amount (own (truth l xs (origin s.key)) s.key) x.goal (books_said g.2 h (origin s.key) s.key (begun_at_home (ways s.key) (omega (arith, x.sent.0)))).0;
    }
