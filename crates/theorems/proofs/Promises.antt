-- The promises, by what is so of every office.
use Rattle.std.proofs.Common.{◌≡◌, ℕ, suc, ◌<◌, ◌≤◌, true, false, List, [], ◌∷◌, length, Some, Ok, Err, slice_index, refl, sym, ap, ◌∙◌, subst, inr, arith, zero-le, lt-ltb}
use Rattle.parcels.specs.Numbers.{all_below}
use Rattle.parcels.specs.Book.{Book, origin}
use Rattle.parcels.specs.Calls.{Limits, thin, turned, answered}
use Rattle.parcels.specs.declared.Reason.TheVariants.{OutOfRange}
use Rattle.parcels.specs.declared.Call.{Call}
use Rattle.parcels.specs.declared.Call.TheVariants.{Accept, Send, SlipAgain, TakeIn, HandOut, Pay, WhereIs, Here, Sums}
use Rattle.parcels.specs.declared.Answer.{Answer}
use Rattle.wire.specs.Calls.{Reading}
use Rattle.rows.specs.Layout.{book_at}
use Rattle.letters.specs.Envelope.{Letter}
use Rattle.session.specs.Answering.{reply, Done}
use Rattle.promises.specs.World.{Memory, Said, World, Lived}
use Rattle.promises.specs.Truth.{truth}
use Rattle.promises.specs.Promise.{GoodLimits, RightWhere, RightPay, RightAnswer, RightRow, Right, RefusalKeeps, NewsComes, StaysSmall, LivedHappened, short}
use Rattle.ways.proofs.Programs.{lived_happened as happened_if_right}
use Rattle.theorems.specs.Ours.{ours}
use Rattle.theorems.proofs.Stage.{turned_away, refused}
use Rattle.theorems.proofs.Happened.{memory_kept, no_letter}
use Rattle.theorems.proofs.Truth.{book_true_now}

-- what is answered by a book that is the true one is right
right_answer : (l : Limits) (xs : List Said) (o : ℕ) (c : Call) (a : Answer) → GoodLimits thin l → a ≡ answered l o (truth l xs o) c → RightAnswer l xs o c a
unfolding RightPay RightWhere
right_answer l xs o (Accept dest amount) a g h = h
right_answer l xs o (Send key to) a g h = h
right_answer l xs o (SlipAgain key) a g h = h
right_answer l xs o (TakeIn s) a g h = h
right_answer l xs o (HandOut key) a g h = h
right_answer l xs o (Pay key) a g h =
    subst (λ (z : Answer). RightPay l xs o key z) (sym (refused l o _ (Pay key) a (g.3 5) h)) (inr (turned_away l o _ (Pay key) (g.3 5), refl))
right_answer l xs o (WhereIs key) a g h =
    subst (λ (z : Answer). RightWhere l xs o key z) (sym (refused l o _ (WhereIs key) a (g.3 6) h)) (turned_away l o _ (WhereIs key) (g.3 6), refl)
right_answer l xs o (Here from) a g h = h
right_answer l xs o Sums a g h = h

right_row : (l : Limits) (xs : List Said) (o : ℕ) (r : Reading) (a : Answer) (b : Book) → GoodLimits thin l → b ≡ truth l xs o → a ≡ reply l o b r → RightRow l xs o r a
right_row l xs o (Ok c) a b g is h = right_answer l xs o c a g (h ∙ ap (λ x. answered l o x c) is)
right_row l xs o (Err e) a b g is h = h

-- an answer that an office gives is right, where it is known that something happened, and not what
pub right_now : (l : Limits) (w : World) (o : ℕ) (r : Reading) (a : Answer) (m : Memory) → GoodLimits thin l → ∥ Lived ours l w ∥₁ → o < l.offices → Done l o (w.memory o) r a m → RightRow l w.said o r a
right_now l w o r a m g v there done = right_row l w.said o r a (book_at (w.memory o)) g ((book_true_now l w v).each o there) done.answer

pub answers_right : Right thin ours
answers_right l w o r m a ls g v there fits known (done, _, _) = right_now l w o r a m g ∣ v ∣₁ there done

pub refusal_keeps : RefusalKeeps thin ours
refusal_keeps l w o r m a ls g v there fits known (done, _, none) turned = (done.same turned, none)

-- where a parcel is can't be asked, and nothing is paid
pub news_comes : NewsComes thin ours
news_comes l w v p m a ls g x rounds some =
    let asked : l.can 6 ≡ false = g.3 6 in
    let paid : turned l (origin p) (truth l w.said (origin p)) (Pay p) ≡ Some OutOfRange = turned_away l (origin p) (truth l w.said (origin p)) (Pay p) (g.3 5) in
    (λ can _. absurd (cc), λ free _ _. absurd (cc))

-- words that fit one by one fit
words_fit : (k : ℕ) (m : List ℕ) → ((i : ℕ) → slice_index m i < k) → all_below k m ≡ true
words_fit k [] h = refl
words_fit k (x ∷ xs) h = rw (lt-ltb x k (h 0)) (words_fit k xs (λ i. h (suc i)))

none_at_most : (ls : List Letter) (n : ℕ) → ls ≡ [] → length ls ≤ n
none_at_most ls n e = rw e zero-le

pub stays_small : StaysSmall thin ours
unfolding short
stays_small l w o g v there =
    let (size, words) = memory_kept v o there in (
      omega (arith, size),
      words_fit _ (w.memory o) words,
      rw (no_letter v),
      λ n ls k. none_at_most ls l.parcels k.1,
      λ x n ls k. none_at_most ls l.offices k.1,
      λ r n a ls k. none_at_most ls l.offices k.2,
    )

pub lived_happened : LivedHappened thin ours
lived_happened = happened_if_right thin ours answers_right
